-- Commands: what a case of the grammar spells its line spells, and what a line spells is spelt by a case.
use Rattle.std.proofs.Common.{inl, inr, refl, ap, subst, ◌∙◌}
use Rattle.sql_tree.specs.declared.command.Command.{Command}
use Rattle.sql_tree.specs.declared.command.Command.TheVariants as command
use Rattle.sql_tree.specs.declared.statement.Statement.TheVariants as statement
use Rattle.sql_expr.specs.Lines.{Tokens, key}
use Rattle.sql_reader.specs.Grammar.{Rule, Spells}
use Rattle.sql_reader.proofs.CatalogCases.{line-table, case-table, line-temp_table, case-temp_table, line-index, case-index, line-view, case-view, line-action, case-action}
use Rattle.sql_reader.proofs.CommandLines as line
use Rattle.sql_reader.proofs.QueryCases.{closes, line-relation, case-relation, line-condition, case-condition, line-select, case-select, line-returning, case-returning, line-insert, case-insert, line-change, case-change, line-statement, case-statement}
use Rattle.sql_reader.proofs.SessionCases.{line-prepare_tree, case-prepare_tree, line-execute_tree, case-execute_tree, line-fetch_tree, case-fetch_tree, line-set_value, case-set_value}

-- ---- commands

pub line-command : {ts us : Tokens} {x : Command} → Spells Rule.command ts x us → line.command ts x us
unfolding line.command line.statement_command line.searched line.positioned line.explain line.deallocate line.discard line.declare line.close line.begin line.start line.commit line.rollback line.abort line.set line.create line.drop_object line.truncate line.analyze line.renaming line.alter line.bind_tree line.run_tree line.backslash_line
line-command (Spells.select_command select same) = inl (inl (_, _, inl (_, _, line-select select, (refl, refl)), (same, refl)))
line-command (Spells.insert_command insert same) = inl (inl (_, _, inr (_, _, line-insert insert, (refl, refl)), (same, refl)))
line-command (Spells.searched_command change none filter given same) =
    inl (inr (_, _, line-change change, inr (_, _, none, (_, _, (_, _, line-condition filter, (_, _, line-returning given, (refl, refl))), (same, refl)))))
line-command (Spells.positioned_command b change current cursor given same) =
    inl (inr (_, _, line-change change, inl (_, _, (_, _, current, (_, _, cursor, (_, _, line-returning given, (refl, refl)))), (same, refl))))
line-command (Spells.prepared word tree same) = inr (inl (inl (_, _, word, (_, _, line-prepare_tree tree, (same, refl)))))
line-command (Spells.executed word tree same) = inr (inl (inr (inl (_, _, word, (_, _, line-execute_tree tree, (same, refl))))))
line-command (Spells.explained word statement same) = inr (inl (inr (inr (inl (_, _, word, inl (_, _, line-statement statement, (same, refl)))))))
line-command (Spells.execute_explained word execute tree same) = inr (inl (inr (inr (inl (_, _, word, inr (_, _, execute, (_, _, line-execute_tree tree, (same, refl))))))))
line-command (Spells.deallocating b word prepare target) = inr (inl (inr (inr (inr (inl (_, _, word, (_, _, prepare, target)))))))
line-command (Spells.plans_discarded word plans same) = inr (inl (inr (inr (inr (inr (_, _, word, inl (_, _, plans, (same, refl))))))))
line-command (Spells.temp_discarded word temp same) = inr (inl (inr (inr (inr (inr (_, _, word, inr (_, _, temp, (same, refl))))))))
line-command (Spells.declared written b word one options cursor held for_word select same) =
    inr (inr (inl (inl (_, _, word, (_, _, one, (_, _, (_, _, options, (refl, refl)), (_, _, cursor, (_, _, held, (_, _, for_word, (_, _, line-select select, (same, refl)))))))))))
line-command (Spells.fetched word tree same) = inr (inr (inl (inr (inl (_, _, word, (_, _, line-fetch_tree tree, (same, refl)))))))
line-command (Spells.moved word tree same) = inr (inr (inl (inr (inr (inl (_, _, word, (_, _, line-fetch_tree tree, (same, refl))))))))
line-command (Spells.all_closed word all same) = inr (inr (inl (inr (inr (inr (_, _, word, inl (_, _, all, (same, refl))))))))
line-command (Spells.closed word one same) = inr (inr (inl (inr (inr (inr (_, _, word, inr (_, _, one, (same, refl))))))))
line-command (Spells.begun o word work same) = inr (inr (inr (inl (inl (_, _, word, (_, _, work, (same, refl)))))))
line-command (Spells.started word transaction same) = inr (inr (inr (inl (inr (inl (_, _, word, (_, _, transaction, (same, refl))))))))
line-command (Spells.committed o word work same) = inr (inr (inr (inl (inr (inr (inl (_, _, word, (_, _, work, (same, refl)))))))))
line-command (Spells.ended o word work same) = inr (inr (inr (inl (inr (inr (inr (inl (_, _, word, (_, _, work, (same, refl))))))))))
line-command (Spells.rolled_back o word work same) = inr (inr (inr (inl (inr (inr (inr (inr (inl (_, _, word, inl (_, _, work, (same, refl)))))))))))
line-command (Spells.rolled_back_to o word work to one same) =
    inr (inr (inr (inl (inr (inr (inr (inr (inl (_, _, word, inr (_, _, work, (_, _, to, (_, _, one, (same, refl)))))))))))))
line-command (Spells.aborted o word work same) = inr (inr (inr (inl (inr (inr (inr (inr (inr (inl (_, _, word, (_, _, work, (same, refl))))))))))))
line-command (Spells.savepoint_set word one same) = inr (inr (inr (inl (inr (inr (inr (inr (inr (inr (inl (_, _, word, (_, _, one, (same, refl)))))))))))))
line-command (Spells.released word one same) = inr (inr (inr (inl (inr (inr (inr (inr (inr (inr (inr (_, _, word, (_, _, one, (same, refl)))))))))))))
line-command (Spells.setting_set b c word scope one to value same) =
    inr (inr (inr (inr (inl (inl (_, _, word, (_, _, scope, (_, _, one, (_, _, to, (_, _, line-set_value value, (same, refl)))))))))))
line-command (Spells.setting_reset word one same) = inr (inr (inr (inr (inl (inr (inl (_, _, word, (_, _, one, (same, refl)))))))))
line-command (Spells.setting_shown word one same) = inr (inr (inr (inr (inl (inr (inr (_, _, word, (_, _, one, (same, refl)))))))))
line-command (Spells.schema_created word schema one same) = inr (inr (inr (inr (inr (inl (inl (_, _, word, inl (_, _, schema, (_, _, one, (same, refl))))))))))
line-command (Spells.table_created word table made same) = inr (inr (inr (inr (inr (inl (inl (_, _, word, inr (inl (_, _, table, (_, _, line-table made, (same, refl)))))))))))
line-command (Spells.temp_table_created word temp table made same) =
    inr (inr (inr (inr (inr (inl (inl (_, _, word, inr (inr (inl (_, _, temp, (_, _, table, (_, _, line-temp_table made, (same, refl)))))))))))))
line-command (Spells.index_created word indexed same) = let (u, a, unique, (v, b, index, made)) = line-index indexed in
    inr (inr (inr (inr (inr (inl (inl (_, _, word, inr (inr (inr (inl (u, a, unique, (v, b, index, (_, _, made, (same, refl))))))))))))))
line-command (Spells.view_created word made same) = inr (inr (inr (inr (inr (inl (inl (_, _, word, inr (inr (inr (inr (_, _, line-view made, (same, refl))))))))))))
line-command (Spells.schema_dropped word schema one same) = inr (inr (inr (inr (inr (inl (inr (inl (_, _, word, inl (_, _, schema, (_, _, one, (same, refl)))))))))))
line-command (Spells.object_dropped word kind table cascade same) =
    inr (inr (inr (inr (inr (inl (inr (inl (_, _, word, inr (_, _, kind, (_, _, line-relation table, (_, _, cascade, (same, refl))))))))))))
line-command (Spells.truncated is_said word table relation same) = inr (inr (inr (inr (inr (inl (inr (inr (inl (_, _, word, (_, _, table, (_, _, line-relation relation, (same, refl))))))))))))
line-command (Spells.table_analyzed word table same) = inr (inr (inr (inr (inr (inl (inr (inr (inr (inl (_, _, word, inl (_, _, line-relation table, (same, refl))))))))))))
line-command (Spells.all_analyzed word same) = inr (inr (inr (inr (inr (inl (inr (inr (inr (inl (_, _, word, inr (same, refl)))))))))))
line-command (Spells.schema_renamed word schema old rename to new same) =
    inr (inr (inr (inr (inr (inl (inr (inr (inr (inr (_, _, word, inl (_, _, schema, (_, _, (_, _, old, (_, _, rename, (_, _, (_, _, to, new), (refl, refl)))), (same, refl)))))))))))))
line-command (Spells.table_altered word table altered action same) =
    inr (inr (inr (inr (inr (inl (inr (inr (inr (inr (_, _, word, inr (_, _, table, (_, _, line-relation altered, (_, _, line-action action, (same, refl))))))))))))))
line-command (Spells.prepared_shown word same) = inr (inr (inr (inr (inr (inr (inl (_, _, word, (same, refl))))))))
line-command (Spells.cursors_shown word same) = inr (inr (inr (inr (inr (inr (inr (inl (_, _, word, (same, refl)))))))))
line-command (Spells.synchronized word same) = inr (inr (inr (inr (inr (inr (inr (inr (inl (_, _, word, (same, refl))))))))))
line-command (Spells.parsed word tree same) = inr (inr (inr (inr (inr (inr (inr (inr (inr (inl (_, _, word, (_, _, line-prepare_tree tree, (same, refl))))))))))))
line-command (Spells.bound word (Spells.to_bind portal tree) same) =
    inr (inr (inr (inr (inr (inr (inr (inr (inr (inr (inl (_, _, word, (_, _, (_, _, portal, (_, _, line-execute_tree tree, (refl, refl))), (same, refl)))))))))))))
line-command (Spells.portal_run word (Spells.to_run a portal rows) same) =
    inr (inr (inr (inr (inr (inr (inr (inr (inr (inr (inr (inl (_, _, word, (_, _, (_, _, portal, (_, _, rows, (refl, refl))), (same, refl))))))))))))))
line-command (Spells.portal_ended word one same) = inr (inr (inr (inr (inr (inr (inr (inr (inr (inr (inr (inr (_, _, word, (_, _, one, (same, refl))))))))))))))

case-statement_command : (ts : Tokens) (x : Command) (us : Tokens) → line.statement_command ts x us → Spells Rule.command ts x us
unfolding line.statement_command line.searched line.positioned
case-statement_command ts x us (inl (s, a, inl (q, b, select, (is, here)), (same, end))) = closes (same ∙ ap command.Statement is) (end ∙ here) (Spells.select_command (case-select ts q b select) refl)
case-statement_command ts x us (inl (s, a, inr (i, b, insert, (is, here)), (same, end))) = closes (same ∙ ap command.Statement is) (end ∙ here) (Spells.insert_command (case-insert ts i b insert) refl)
case-statement_command ts x us (inr (made, a, change, inl (p, b, (u, c, current, (n, d, cursor, (os, e, given, (is, here)))), (same, end)))) =
    closes (same ∙ ap command.Positioned is) (end ∙ here) (Spells.positioned_command c (case-change ts made a change) current cursor (case-returning d os e given) refl)
case-statement_command ts x us (inr (made, a, change, inr (u, b, none, (s, c, (co, d, filter, (os, e, given, (is, here))), (same, end))))) =
    closes (same ∙ ap command.Statement is) (end ∙ here) (Spells.searched_command (case-change ts made a change) none (case-condition b co d filter) (case-returning d os e given) refl)

case-prepared_command : (ts : Tokens) (x : Command) (us : Tokens) → line.prepared_command ts x us → Spells Rule.command ts x us
unfolding line.explain line.deallocate line.discard
case-prepared_command ts x us (inl (u, a, word, (t, b, tree, (same, end)))) = closes same end (Spells.prepared word (case-prepare_tree a t b tree) refl)
case-prepared_command ts x us (inr (inl (u, a, word, (t, b, tree, (same, end))))) = closes same end (Spells.executed word (case-execute_tree a t b tree) refl)
case-prepared_command ts x us (inr (inr (inl (u, a, word, inl (s, b, statement, (same, end)))))) = closes same end (Spells.explained word (case-statement a s b statement) refl)
case-prepared_command ts x us (inr (inr (inl (u, a, word, inr (v, b, execute, (t, c, tree, (same, end))))))) = closes same end (Spells.execute_explained word execute (case-execute_tree b t c tree) refl)
case-prepared_command ts x us (inr (inr (inr (inl (u, a, word, (v, b, prepare, target)))))) = Spells.deallocating b word prepare target
case-prepared_command ts x us (inr (inr (inr (inr (u, a, word, inl (v, b, plans, (same, end))))))) = closes same end (Spells.plans_discarded word plans refl)
case-prepared_command ts x us (inr (inr (inr (inr (u, a, word, inr (v, b, temp, (same, end))))))) = closes same end (Spells.temp_discarded word temp refl)

case-cursor_command : (ts : Tokens) (x : Command) (us : Tokens) → line.cursor_command ts x us → Spells Rule.command ts x us
unfolding line.declare line.close
case-cursor_command ts x us (inl (u, a, word, (n, b, one, (os, c, (written, d, options, (is, here)), (v, e, cursor, (h, f, held, (w, g, for_word, (q, i, select, (same, end))))))))) =
    closes (same ∙ ap (λ o. command.Declare (record { name = n; options = o; hold = h; query = statement.Select q })) is) end (
    Spells.declared written b word one options (subst (λ vs. key "cursor" vs tt e) here cursor) held for_word (case-select g q i select) refl
    )
case-cursor_command ts x us (inr (inl (u, a, word, (t, b, tree, (same, end))))) = closes same end (Spells.fetched word (case-fetch_tree a t b tree) refl)
case-cursor_command ts x us (inr (inr (inl (u, a, word, (t, b, tree, (same, end)))))) = closes same end (Spells.moved word (case-fetch_tree a t b tree) refl)
case-cursor_command ts x us (inr (inr (inr (u, a, word, inl (v, b, all, (same, end)))))) = closes same end (Spells.all_closed word all refl)
case-cursor_command ts x us (inr (inr (inr (u, a, word, inr (n, b, one, (same, end)))))) = closes same end (Spells.closed word one refl)

case-block_command : (ts : Tokens) (x : Command) (us : Tokens) → line.block_command ts x us → Spells Rule.command ts x us
unfolding line.begin line.start line.commit line.rollback line.abort
case-block_command ts x us (inl (u, a, word, (o, b, work, (same, end)))) = closes same end (Spells.begun o word work refl)
case-block_command ts x us (inr (inl (u, a, word, (v, b, transaction, (same, end))))) = closes same end (Spells.started word transaction refl)
case-block_command ts x us (inr (inr (inl (u, a, word, (o, b, work, (same, end)))))) = closes same end (Spells.committed o word work refl)
case-block_command ts x us (inr (inr (inr (inl (u, a, word, (o, b, work, (same, end))))))) = closes same end (Spells.ended o word work refl)
case-block_command ts x us (inr (inr (inr (inr (inl (u, a, word, inl (o, b, work, (same, end)))))))) = closes same end (Spells.rolled_back o word work refl)
case-block_command ts x us (inr (inr (inr (inr (inl (u, a, word, inr (o, b, work, (v, c, to, (n, d, one, (same, end)))))))))) = closes same end (Spells.rolled_back_to o word work to one refl)
case-block_command ts x us (inr (inr (inr (inr (inr (inl (u, a, word, (o, b, work, (same, end))))))))) = closes same end (Spells.aborted o word work refl)
case-block_command ts x us (inr (inr (inr (inr (inr (inr (inl (u, a, word, (n, b, one, (same, end)))))))))) = closes same end (Spells.savepoint_set word one refl)
case-block_command ts x us (inr (inr (inr (inr (inr (inr (inr (u, a, word, (n, b, one, (same, end)))))))))) = closes same end (Spells.released word one refl)

case-setting_command : (ts : Tokens) (x : Command) (us : Tokens) → line.setting_command ts x us → Spells Rule.command ts x us
unfolding line.set
case-setting_command ts x us (inl (u, a, word, (l, b, scope, (n, c, one, (v, d, to, (w, e, value, (same, end))))))) = closes same end (Spells.setting_set b c word scope one to (case-set_value d w e value) refl)
case-setting_command ts x us (inr (inl (u, a, word, (n, b, one, (same, end))))) = closes same end (Spells.setting_reset word one refl)
case-setting_command ts x us (inr (inr (u, a, word, (n, b, one, (same, end))))) = closes same end (Spells.setting_shown word one refl)

case-catalog_command : (ts : Tokens) (x : Command) (us : Tokens) → line.catalog_command ts x us → Spells Rule.command ts x us
unfolding line.create line.drop_object line.truncate line.analyze line.renaming line.alter
case-catalog_command ts x us (inl (u, a, word, inl (v, b, schema, (n, c, one, (same, end))))) = closes same end (Spells.schema_created word schema one refl)
case-catalog_command ts x us (inl (u, a, word, inr (inl (v, b, table, (t, c, made, (same, end)))))) = closes same end (Spells.table_created word table (case-table b t c made) refl)
case-catalog_command ts x us (inl (u, a, word, inr (inr (inl (v, b, temp, (w, c, table, (t, d, made, (same, end)))))))) =
    closes same end (Spells.temp_table_created word temp table (case-temp_table c t d made) refl)
case-catalog_command ts x us (inl (u, a, word, inr (inr (inr (inl (k, b, unique, (v, c, index, (t, d, made, (same, end))))))))) =
    closes same end (Spells.index_created word (case-index a t d (k, b, unique, (v, c, index, made))) refl)
case-catalog_command ts x us (inl (u, a, word, inr (inr (inr (inr (t, b, made, (same, end))))))) = closes same end (Spells.view_created word (case-view a t b made) refl)
case-catalog_command ts x us (inr (inl (u, a, word, inl (v, b, schema, (n, c, one, (same, end)))))) = closes same end (Spells.schema_dropped word schema one refl)
case-catalog_command ts x us (inr (inl (u, a, word, inr (k, b, kind, (q, c, table, (all, d, cascade, (same, end))))))) =
    closes same end (Spells.object_dropped word kind (case-relation b q c table) cascade refl)
case-catalog_command ts x us (inr (inr (inl (u, a, word, (k, b, table, (q, c, relation, (same, end))))))) = closes same end (Spells.truncated k word table (case-relation b q c relation) refl)
case-catalog_command ts x us (inr (inr (inr (inl (u, a, word, inl (q, b, table, (same, end))))))) = closes same end (Spells.table_analyzed word (case-relation a q b table) refl)
case-catalog_command ts x us (inr (inr (inr (inl (u, a, word, inr (same, end)))))) = closes same end (Spells.all_analyzed word refl)
case-catalog_command ts x us (inr (inr (inr (inr (u, a, word, inl (v, b, schema, (s, c, (o, d, old, (w, e, rename, (n, f, (k, g, to, new), (is, here)))), (same, end)))))))) =
    closes (same ∙ ap command.Schema is) (end ∙ here) (Spells.schema_renamed word schema old rename to new refl)
case-catalog_command ts x us (inr (inr (inr (inr (u, a, word, inr (v, b, table, (q, c, altered, (t, d, action, (same, end))))))))) =
    closes same end (Spells.table_altered word table (case-relation b q c altered) (case-action c t d action) refl)

case-backslash_line : (ts : Tokens) (x : Command) (us : Tokens) → line.backslash_line ts x us → Spells Rule.command ts x us
unfolding line.backslash_line line.bind_tree line.run_tree
case-backslash_line ts x us (inl (u, a, word, (same, end))) = closes same end (Spells.prepared_shown word refl)
case-backslash_line ts x us (inr (inl (u, a, word, (same, end)))) = closes same end (Spells.cursors_shown word refl)
case-backslash_line ts x us (inr (inr (inl (u, a, word, (same, end))))) = closes same end (Spells.synchronized word refl)
case-backslash_line ts x us (inr (inr (inr (inl (u, a, word, (t, b, tree, (same, end))))))) = closes same end (Spells.parsed word (case-prepare_tree a t b tree) refl)
case-backslash_line ts x us (inr (inr (inr (inr (inl (u, a, word, (t, b, (n, c, portal, (r, d, tree, (is, here))), (same, end)))))))) =
    closes (same ∙ ap command.Bind is) (end ∙ here) (Spells.bound word (Spells.to_bind portal (case-execute_tree c r d tree)) refl)
case-backslash_line ts x us (inr (inr (inr (inr (inr (inl (u, a, word, (t, b, (n, c, portal, (r, d, rows, (is, here))), (same, end))))))))) =
    closes (same ∙ ap command.Run is) (end ∙ here) (Spells.portal_run word (Spells.to_run c portal rows) refl)
case-backslash_line ts x us (inr (inr (inr (inr (inr (inr (u, a, word, (n, b, one, (same, end))))))))) = closes same end (Spells.portal_ended word one refl)

pub case-command : (ts : Tokens) (x : Command) (us : Tokens) → line.command ts x us → Spells Rule.command ts x us
unfolding line.command
case-command ts x us (inl spelt) = case-statement_command ts x us spelt
case-command ts x us (inr (inl spelt)) = case-prepared_command ts x us spelt
case-command ts x us (inr (inr (inl spelt))) = case-cursor_command ts x us spelt
case-command ts x us (inr (inr (inr (inl spelt)))) = case-block_command ts x us spelt
case-command ts x us (inr (inr (inr (inr (inl spelt))))) = case-setting_command ts x us spelt
case-command ts x us (inr (inr (inr (inr (inr (inl spelt)))))) = case-catalog_command ts x us spelt
case-command ts x us (inr (inr (inr (inr (inr (inr spelt)))))) = case-backslash_line ts x us spelt
