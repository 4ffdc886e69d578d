-- The catalog: what a case of the grammar spells its line spells, and what a line spells is spelt by a case.
use Rattle.std.proofs.Common.{inl, inr, Bool, true, false, refl, ap, ◌∙◌}
use Rattle.sql_tree.specs.declared.catalog.{AlterAction.AlterAction, ColumnDef.ColumnDef, IndexTree.IndexTree, TableElement.TableElement, TableTree.TableTree, TempTableTree.TempTableTree, ViewTree.ViewTree}
use Rattle.sql_tree.specs.declared.expr.{Literal.Literal}
use Rattle.sql_tree.specs.declared.expr.Literal.TheVariants as literal
use Rattle.sql_expr.specs.Lines.{Tokens, Line, ◌>>=◌, ◌>>◌, key, said}
use Rattle.sql_expr.specs.Grammar.{column}
use Rattle.sql_reader.specs.Grammar.{Part, Rule, Spells, nullability_of, default_of}
use Rattle.sql_reader.proofs.CommandLines as line
use Rattle.sql_reader.proofs.QueryCases.{closes, line-list, case-list, line-repeated, case-repeated, line-relation, case-relation, line-parenthesized_names, case-parenthesized_names, line-optional_names, case-optional_names, line-select, case-select}

-- ---- the catalog

line-constant : {ts us : Tokens} {x : Literal} → Spells Rule.constant ts x us → line.constant ts x us
unfolding line.constant
line-constant (Spells.constant_literal literal) = inl literal
line-constant (Spells.negative_constant minus digits same) = inr (_, _, (_, _, minus, (_, _, digits, (refl, refl))), (same, refl))

case-constant : (ts : Tokens) (x : Literal) (us : Tokens) → line.constant ts x us → Spells Rule.constant ts x us
unfolding line.constant
case-constant ts x us (inl literal) = Spells.constant_literal literal
case-constant ts x us (inr (n, b, (u, a, minus, (d, c, digits, (is, here))), (same, end))) = closes (same ∙ ap literal.Number is) (end ∙ here) (Spells.negative_constant minus digits refl)

line-part : {with_keys : Bool} {ts us : Tokens} {x : Part} → Spells (Rule.part with_keys) ts x us → line.part with_keys ts x us
unfolding line.part line.key_part
line-part (Spells.not_null_part not null same) = inl (_, _, not, (_, _, null, (same, refl)))
line-part (Spells.null_part null same) = inr (inl (_, _, null, (same, refl)))
line-part (Spells.default_part word constant same) = inr (inr (inl (_, _, word, (_, _, line-constant constant, (same, refl)))))
line-part (Spells.primary_part primary word same) = inr (inr (inr (inl (_, _, primary, (_, _, word, (same, refl))))))
line-part (Spells.unique_part unique same) = inr (inr (inr (inr (_, _, unique, (same, refl)))))

case-part : (with_keys : Bool) (ts : Tokens) (x : Part) (us : Tokens) → line.part with_keys ts x us → Spells (Rule.part with_keys) ts x us
unfolding line.part line.key_part
case-part with_keys ts x us (inl (u, a, not, (v, b, null, (same, end)))) = closes same end (Spells.not_null_part not null refl)
case-part with_keys ts x us (inr (inl (u, a, null, (same, end)))) = closes same end (Spells.null_part null refl)
case-part with_keys ts x us (inr (inr (inl (u, a, word, (l, b, constant, (same, end)))))) = closes same end (Spells.default_part word (case-constant a l b constant) refl)
case-part with_keys ts x us (inr (inr (inr keyed))) = by with_keys keyed
  where
    by : (with_keys : Bool) → line.key_part with_keys ts x us → Spells (Rule.part with_keys) ts x us
    by true (inl (u, a, primary, (v, b, word, (same, end)))) = closes same end (Spells.primary_part primary word refl)
    by true (inr (u, a, unique, (same, end))) = closes same end (Spells.unique_part unique refl)
    by false none = absurd none

line-column_def : {with_keys : Bool} {ts us : Tokens} {x : ColumnDef} → Spells (Rule.column_def with_keys) ts x us → line.column_def with_keys ts x us
unfolding line.column_def
line-column_def {with_keys = with_keys} {x = x} (Spells.column_defined {parts = ps} a b one type parts none nullability default keys) = (
  _,
  _,
  one,
  (
    _,
    _,
    type,
    (
      ps,
      _,
      line-repeated (line.part with_keys) (λ ts x us. line-part) parts,
      (
        tt,
        _,
        (refl, none),
        (
          ap (λ v. record { name = x.name; type_name = x.type_name; nullability = v; default = x.default; keys = x.keys }) nullability
              ∙ ap (λ v. record { name = x.name; type_name = x.type_name; nullability = nullability_of ps; default = v; keys = x.keys }) default
              ∙ ap (λ v. record { name = x.name; type_name = x.type_name; nullability = nullability_of ps; default = default_of ps; keys = v }) keys,
          refl,
        ),
      ),
    ),
  ),
)

case-column_def : (with_keys : Bool) (ts : Tokens) (x : ColumnDef) (us : Tokens) → line.column_def with_keys ts x us → Spells (Rule.column_def with_keys) ts x us
unfolding line.column_def
case-column_def with_keys ts x us (n, a, one, (t, b, type, (ps, c, parts, (u, d, (here, none), (same, end))))) =
    closes same (end ∙ here) (Spells.column_defined a b one type (case-repeated (line.part with_keys) (case-part with_keys) b ps c parts) none refl refl refl)

line-element : {ts us : Tokens} {x : TableElement} → Spells Rule.element ts x us → line.element ts x us
unfolding line.element
line-element (Spells.primary_element primary word columns same) = inl (_, _, primary, (_, _, word, (_, _, line-parenthesized_names columns, (same, refl))))
line-element (Spells.unique_element unique columns same) = inr (inl (_, _, unique, (_, _, line-parenthesized_names columns, (same, refl))))
line-element (Spells.column_element defined same) = inr (inr (_, _, line-column_def defined, (same, refl)))

case-element : (ts : Tokens) (x : TableElement) (us : Tokens) → line.element ts x us → Spells Rule.element ts x us
unfolding line.element
case-element ts x us (inl (u, a, primary, (v, b, word, (ns, c, columns, (same, end))))) = closes same end (Spells.primary_element primary word (case-parenthesized_names b ns c columns) refl)
case-element ts x us (inr (inl (u, a, unique, (ns, b, columns, (same, end))))) = closes same end (Spells.unique_element unique (case-parenthesized_names a ns b columns) refl)
case-element ts x us (inr (inr (d, a, defined, (same, end)))) = closes same end (Spells.column_element (case-column_def true ts d a defined) refl)

pub line-table : {ts us : Tokens} {x : TableTree} → Spells Rule.table ts x us → line.table ts x us
unfolding line.table
line-table (Spells.made_of_elements made opened elements closed) =
    (_, _, line-relation made, (_, _, opened, (_, _, line-list line.element (λ ts x us. line-element) elements, (_, _, closed, (refl, refl)))))

pub case-table : (ts : Tokens) (x : TableTree) (us : Tokens) → line.table ts x us → Spells Rule.table ts x us
unfolding line.table
case-table ts x us (q, a, made, (u, b, opened, (es, c, (first, d, front, (others, e, more, (all, last))), (v, f, closed, (same, end))))) =
    closes same end (Spells.made_of_elements (case-relation ts q a made) opened (case-list line.element case-element b d e c first others es front more all last) closed)

pub line-temp_table : {ts us : Tokens} {x : TempTableTree} → Spells Rule.temp_table ts x us → line.temp_table ts x us
unfolding line.temp_table
line-temp_table (Spells.temporary made ends) = (_, _, line-table made, (_, _, ends, (refl, refl)))

pub case-temp_table : (ts : Tokens) (x : TempTableTree) (us : Tokens) → line.temp_table ts x us → Spells Rule.temp_table ts x us
unfolding line.temp_table
case-temp_table ts x us (t, a, made, (o, b, ends, (same, end))) = closes same end (Spells.temporary (case-table ts t a made) ends)

-- with what stands before it
abbrev index_line : Line IndexTree
index_line = said "unique" >>= (λ unique. key "index" >> line.index unique)

pub line-index : {ts us : Tokens} {x : IndexTree} → Spells Rule.index ts x us → index_line ts x us
unfolding line.index
line-index (Spells.index_defined unique word one on table columns) =
    (_, _, unique, (_, _, word, (_, _, one, (_, _, on, (_, _, line-relation table, (_, _, line-parenthesized_names columns, (refl, refl)))))))

pub case-index : (ts : Tokens) (x : IndexTree) (us : Tokens) → index_line ts x us → Spells Rule.index ts x us
unfolding line.index
case-index ts x us (un, a, unique, (u, b, word, (n, c, one, (v, d, on, (q, e, table, (ns, f, columns, (same, end))))))) =
    closes same end (Spells.index_defined unique word one on (case-relation d q e table) (case-parenthesized_names e ns f columns))

pub line-view : {ts us : Tokens} {x : ViewTree} → Spells Rule.view ts x us → line.view ts x us
unfolding line.view
line-view {x = x} (Spells.view_defined replaced word made columns as_word select same) = (
  _,
  _,
  replaced,
  (
    _,
    _,
    word,
    (_, _, line-relation made, (_, _, line-optional_names columns, (_, _, as_word, (_, _, line-select select, (ap (λ q. record { name = x.name; replace = x.replace; columns = x.columns; query = q }) same, refl))))),
  ),
)

pub case-view : (ts : Tokens) (x : ViewTree) (us : Tokens) → line.view ts x us → Spells Rule.view ts x us
unfolding line.view
case-view ts x us (r, a, replaced, (u, b, word, (q, c, made, (ns, d, columns, (v, e, as_word, (s, f, select, (same, end))))))) =
    closes same end (Spells.view_defined replaced word (case-relation b q c made) (case-optional_names c ns d columns) as_word (case-select e s f select) refl)

pub line-action : {ts us : Tokens} {x : AlterAction} → Spells Rule.action ts x us → line.action ts x us
unfolding line.action line.change
line-action (Spells.column_added word column defined same) = inl (_, _, word, (_, _, column, (_, _, line-column_def defined, (same, refl))))
line-action (Spells.column_dropped b word column one same) = inr (inl (_, _, word, (_, _, column, (_, _, one, (same, refl)))))
line-action (Spells.column_renamed b word column old to new same) = inr (inr (inl (_, _, word, (_, _, column, (_, _, old, (_, _, (_, _, to, new), (same, refl)))))))
line-action (Spells.table_renamed word to new same) = inr (inr (inr (inl (_, _, word, (_, _, (_, _, to, new), (same, refl))))))
line-action (Spells.schema_set word schema one same) = inr (inr (inr (inr (inl (_, _, word, (_, _, schema, (_, _, one, (same, refl))))))))
line-action (Spells.type_set o c (u, a, alter, (v, b, column, one)) set_data word type same) =
    inr (inr (inr (inr (inr (_, _, alter, (_, _, column, (_, _, one, inl (_, _, set_data, (_, _, word, (_, _, type, (same, refl)))))))))))
line-action (Spells.default_set (u, a, alter, (v, b, column, one)) set word constant same) =
    inr (inr (inr (inr (inr (_, _, alter, (_, _, column, (_, _, one, inr (inl (_, _, set, (_, _, word, (_, _, line-constant constant, (same, refl))))))))))))
line-action (Spells.default_dropped (u, a, alter, (v, b, column, one)) drop word same) =
    inr (inr (inr (inr (inr (_, _, alter, (_, _, column, (_, _, one, inr (inr (inl (_, _, drop, (_, _, word, (same, refl))))))))))))
line-action (Spells.not_null_set (u, a, alter, (v, b, column, one)) set not null same) =
    inr (inr (inr (inr (inr (_, _, alter, (_, _, column, (_, _, one, inr (inr (inr (inl (_, _, set, (_, _, (_, _, not, null), (same, refl)))))))))))))
line-action (Spells.not_null_dropped (u, a, alter, (v, b, column, one)) drop not null same) =
    inr (inr (inr (inr (inr (_, _, alter, (_, _, column, (_, _, one, inr (inr (inr (inr (_, _, drop, (_, _, (_, _, not, null), (same, refl)))))))))))))

pub case-action : (ts : Tokens) (x : AlterAction) (us : Tokens) → line.action ts x us → Spells Rule.action ts x us
unfolding line.action line.change
case-action ts x us (inl (u, a, word, (v, b, column, (d, c, defined, (same, end))))) = closes same end (Spells.column_added word column (case-column_def false b d c defined) refl)
case-action ts x us (inr (inl (u, a, word, (v, b, column, (n, c, one, (same, end)))))) = closes same end (Spells.column_dropped b word column one refl)
case-action ts x us (inr (inr (inl (u, a, word, (v, b, column, (o, c, old, (n, d, (w, e, to, new), (same, end)))))))) = closes same end (Spells.column_renamed b word column old to new refl)
case-action ts x us (inr (inr (inr (inl (u, a, word, (n, b, (v, c, to, new), (same, end))))))) = closes same end (Spells.table_renamed word to new refl)
case-action ts x us (inr (inr (inr (inr (inl (u, a, word, (v, b, schema, (n, c, one, (same, end))))))))) = closes same end (Spells.schema_set word schema one refl)
case-action ts x us (inr (inr (inr (inr (inr (u, a, alter, (v, b, column, (n, c, one, inl (o, d, set_data, (w, e, word, (t, f, type, (same, end)))))))))))) =
    closes same end (Spells.type_set o c (u, a, alter, (v, b, column, one)) set_data word type refl)
case-action ts x us (inr (inr (inr (inr (inr (u, a, alter, (v, b, column, (n, c, one, inr (inl (w, d, set, (k, e, word, (l, f, constant, (same, end))))))))))))) =
    closes same end (Spells.default_set (u, a, alter, (v, b, column, one)) set word (case-constant e l f constant) refl)
case-action ts x us (inr (inr (inr (inr (inr (u, a, alter, (v, b, column, (n, c, one, inr (inr (inl (w, d, drop, (k, e, word, (same, end))))))))))))) =
    closes same end (Spells.default_dropped (u, a, alter, (v, b, column, one)) drop word refl)
case-action ts x us (inr (inr (inr (inr (inr (u, a, alter, (v, b, column, (n, c, one, inr (inr (inr (inl (w, d, set, (k, e, (l, f, not, null), (same, end)))))))))))))) =
    closes same end (Spells.not_null_set (u, a, alter, (v, b, column, one)) set not null refl)
case-action ts x us (inr (inr (inr (inr (inr (u, a, alter, (v, b, column, (n, c, one, inr (inr (inr (inr (w, d, drop, (k, e, (l, f, not, null), (same, end)))))))))))))) =
    closes same end (Spells.not_null_dropped (u, a, alter, (v, b, column, one)) drop not null refl)
