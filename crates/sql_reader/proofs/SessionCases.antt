-- Prepared statements, cursors and settings: what a case of the grammar spells its line spells, and what a line spells is spelt by a case.
use Rattle.std.proofs.Common.{inl, inr, ℤ, List, refl, ap, ◌∙◌}
use Rattle.sql_tree.specs.declared.cursors.{FetchTree.FetchTree, Motion.Motion}
use Rattle.sql_tree.specs.declared.cursors.Motion.TheVariants as moves
use Rattle.sql_tree.specs.declared.expr.{Expr.Expr}
use Rattle.sql_tree.specs.declared.prepared.{ExecuteTree.ExecuteTree, PrepareTree.PrepareTree}
use Rattle.q_base.specs.declared.settings.{Setting.Setting, SetValue.SetValue}
use Rattle.sql_expr.specs.Lines.{Tokens}
use Rattle.sql_expr.specs.Grammar.{expression}
use Rattle.sql_reader.specs.Grammar.{Rule, Spells}
use Rattle.sql_expr.proofs.LineWords.{any}
use Rattle.sql_reader.proofs.CommandLines as line
use Rattle.sql_reader.proofs.QueryCases.{closes, line-list, case-list, line-optional_names, case-optional_names, line-numeral, case-numeral, line-statement, case-statement}

-- ---- prepared statements

line-argument : {ts us : Tokens} {x : Expr} → Spells Rule.argument ts x us → expression ts x us
line-argument (Spells.given_argument expr) = expr

line-arguments : {ts us : Tokens} {x : List Expr} → Spells Rule.arguments ts x us → any line.arguments ts x us
unfolding line.arguments
line-arguments (Spells.no_arguments same end) = inr (same, end)
line-arguments (Spells.some_arguments opened arguments closed) = inl (_, _, opened, (_, _, line-list expression (λ ts x us. line-argument) arguments, (_, _, closed, (refl, refl))))

case-arguments : (ts : Tokens) (x : List Expr) (us : Tokens) → any line.arguments ts x us → Spells Rule.arguments ts x us
unfolding line.arguments
case-arguments ts x us (inl (u, a, opened, (ys, b, (first, c, front, (others, d, more, (all, last))), (v, e, closed, (same, end))))) =
    closes same end (Spells.some_arguments opened (case-list expression (λ vs y ws expr. Spells.given_argument expr) a c d b first others ys front more all last) closed)
case-arguments ts x us (inr (same, end)) = Spells.no_arguments same end

pub line-prepare_tree : {ts us : Tokens} {x : PrepareTree} → Spells Rule.prepare_tree ts x us → line.prepare_tree ts x us
unfolding line.prepare_tree
line-prepare_tree (Spells.to_prepare one types as_word statement) = (_, _, one, (_, _, line-optional_names types, (_, _, as_word, (_, _, line-statement statement, (refl, refl)))))

pub case-prepare_tree : (ts : Tokens) (x : PrepareTree) (us : Tokens) → line.prepare_tree ts x us → Spells Rule.prepare_tree ts x us
unfolding line.prepare_tree
case-prepare_tree ts x us (n, a, one, (ns, b, types, (u, c, as_word, (s, d, statement, (same, end))))) = closes same end (Spells.to_prepare one (case-optional_names a ns b types) as_word (case-statement c s d statement))

pub line-execute_tree : {ts us : Tokens} {x : ExecuteTree} → Spells Rule.execute_tree ts x us → line.execute_tree ts x us
unfolding line.execute_tree
line-execute_tree (Spells.to_execute one arguments) = (_, _, one, (_, _, line-arguments arguments, (refl, refl)))

pub case-execute_tree : (ts : Tokens) (x : ExecuteTree) (us : Tokens) → line.execute_tree ts x us → Spells Rule.execute_tree ts x us
unfolding line.execute_tree
case-execute_tree ts x us (n, a, one, (ys, b, arguments, (same, end))) = closes same end (Spells.to_execute one (case-arguments a ys b arguments))

-- ---- cursors

line-integer : {ts us : Tokens} {x : ℤ} → Spells Rule.integer ts x us → line.integer ts x us
unfolding line.integer
line-integer (Spells.plain_integer digits same) = inl (_, _, digits, (same, refl))
line-integer (Spells.negative_integer minus digits same) = inr (_, _, minus, (_, _, digits, (same, refl)))

case-integer : (ts : Tokens) (x : ℤ) (us : Tokens) → line.integer ts x us → Spells Rule.integer ts x us
unfolding line.integer
case-integer ts x us (inl (n, a, digits, (same, end))) = closes same end (Spells.plain_integer digits refl)
case-integer ts x us (inr (u, a, minus, (n, b, digits, (same, end)))) = closes same end (Spells.negative_integer minus digits refl)

line-motion : {ts us : Tokens} {x : Motion} → Spells Rule.motion ts x us → line.motion ts x us
unfolding line.motion
line-motion (Spells.next_row word same) = inl (_, _, word, (same, refl))
line-motion (Spells.prior_row word same) = inr (inl (_, _, word, (same, refl)))
line-motion (Spells.first_row word same) = inr (inr (inl (_, _, word, (same, refl))))
line-motion (Spells.last_row word same) = inr (inr (inr (inl (_, _, word, (same, refl)))))
line-motion (Spells.absolute word n same) = inr (inr (inr (inr (inl (_, _, word, (_, _, line-integer n, (same, refl)))))))
line-motion (Spells.relative word n same) = inr (inr (inr (inr (inr (inl (_, _, word, (_, _, line-integer n, (same, refl))))))))
line-motion (Spells.counted n same) = inr (inr (inr (inr (inr (inr (inl (_, _, line-integer n, (same, refl))))))))
line-motion (Spells.all_rows word same) = inr (inr (inr (inr (inr (inr (inr (inl (_, _, word, (same, refl)))))))))
line-motion (Spells.forward_all word all same) = inr (inr (inr (inr (inr (inr (inr (inr (inl (_, _, word, inl (_, _, all, (same, refl)))))))))))
line-motion (Spells.forward_count word n same) = inr (inr (inr (inr (inr (inr (inr (inr (inl (_, _, word, inr (_, _, inl (_, _, line-integer n, (refl, refl)), (same, refl)))))))))))
line-motion (Spells.forward word same) = inr (inr (inr (inr (inr (inr (inr (inr (inl (_, _, word, inr (_, _, inr (refl, refl), (same, refl)))))))))))
line-motion (Spells.backward_all word all same) = inr (inr (inr (inr (inr (inr (inr (inr (inr (_, _, word, inl (_, _, all, (same, refl)))))))))))
line-motion (Spells.backward_count word n same) = inr (inr (inr (inr (inr (inr (inr (inr (inr (_, _, word, inr (_, _, inl (_, _, line-integer n, (refl, refl)), (same, refl)))))))))))
line-motion (Spells.backward word same) = inr (inr (inr (inr (inr (inr (inr (inr (inr (_, _, word, inr (_, _, inr (refl, refl), (same, refl)))))))))))

case-motion : (ts : Tokens) (x : Motion) (us : Tokens) → line.motion ts x us → Spells Rule.motion ts x us
unfolding line.motion
case-motion ts x us (inl (u, a, word, (same, end))) = closes same end (Spells.next_row word refl)
case-motion ts x us (inr (inl (u, a, word, (same, end)))) = closes same end (Spells.prior_row word refl)
case-motion ts x us (inr (inr (inl (u, a, word, (same, end))))) = closes same end (Spells.first_row word refl)
case-motion ts x us (inr (inr (inr (inl (u, a, word, (same, end)))))) = closes same end (Spells.last_row word refl)
case-motion ts x us (inr (inr (inr (inr (inl (u, a, word, (n, b, i, (same, end)))))))) = closes same end (Spells.absolute word (case-integer a n b i) refl)
case-motion ts x us (inr (inr (inr (inr (inr (inl (u, a, word, (n, b, i, (same, end))))))))) = closes same end (Spells.relative word (case-integer a n b i) refl)
case-motion ts x us (inr (inr (inr (inr (inr (inr (inl (n, a, i, (same, end))))))))) = closes same end (Spells.counted (case-integer ts n a i) refl)
case-motion ts x us (inr (inr (inr (inr (inr (inr (inr (inl (u, a, word, (same, end)))))))))) = closes same end (Spells.all_rows word refl)
case-motion ts x us (inr (inr (inr (inr (inr (inr (inr (inr (inl (u, a, word, inl (v, b, all, (same, end)))))))))))) = closes same end (Spells.forward_all word all refl)
case-motion ts x us (inr (inr (inr (inr (inr (inr (inr (inr (inl (u, a, word, inr (o, b, inl (n, c, i, (is, here)), (same, end)))))))))))) =
    closes (same ∙ ap moves.Forward is) (end ∙ here) (Spells.forward_count word (case-integer a n c i) refl)
case-motion ts x us (inr (inr (inr (inr (inr (inr (inr (inr (inl (u, a, word, inr (o, b, inr (is, here), (same, end)))))))))))) =
    closes (same ∙ ap moves.Forward is) (end ∙ here) (Spells.forward word refl)
case-motion ts x us (inr (inr (inr (inr (inr (inr (inr (inr (inr (u, a, word, inl (v, b, all, (same, end)))))))))))) = closes same end (Spells.backward_all word all refl)
case-motion ts x us (inr (inr (inr (inr (inr (inr (inr (inr (inr (u, a, word, inr (o, b, inl (n, c, i, (is, here)), (same, end)))))))))))) =
    closes (same ∙ ap moves.Backward is) (end ∙ here) (Spells.backward_count word (case-integer a n c i) refl)
case-motion ts x us (inr (inr (inr (inr (inr (inr (inr (inr (inr (u, a, word, inr (o, b, inr (is, here), (same, end)))))))))))) =
    closes (same ∙ ap moves.Backward is) (end ∙ here) (Spells.backward word refl)

pub line-fetch_tree : {ts us : Tokens} {x : FetchTree} → Spells Rule.fetch_tree ts x us → line.fetch_tree ts x us
unfolding line.fetch_tree
line-fetch_tree (Spells.of_cursor o b motion from cursor) = (_, _, line-optional_motion motion, (_, _, from, (_, _, cursor, (refl, refl))))
  where
    line-optional_motion : {ts us : Tokens} {x : Motion} → Spells Rule.optional_motion ts x us → line.optional_motion ts x us
    line-optional_motion (Spells.some_motion motion) = inl (line-motion motion)
    line-optional_motion (Spells.no_motion none same) = inr (_, _, none, (same, refl))

pub case-fetch_tree : (ts : Tokens) (x : FetchTree) (us : Tokens) → line.fetch_tree ts x us → Spells Rule.fetch_tree ts x us
unfolding line.fetch_tree
case-fetch_tree ts x us (m, a, motion, (o, b, from, (n, c, cursor, (same, end)))) = closes same end (Spells.of_cursor o b (case-optional_motion ts m a motion) from cursor)
  where
    case-optional_motion : (ts : Tokens) (x : Motion) (us : Tokens) → line.optional_motion ts x us → Spells Rule.optional_motion ts x us
    case-optional_motion ts x us (inl motion) = Spells.some_motion (case-motion ts x us motion)
    case-optional_motion ts x us (inr (u, a, none, (same, end))) = closes same end (Spells.no_motion none refl)

-- ---- settings

line-setting : {ts us : Tokens} {x : Setting} → Spells Rule.setting ts x us → line.setting ts x us
unfolding line.setting
line-setting (Spells.text_setting text same) = inl (_, _, text, (same, refl))
line-setting (Spells.number_setting n same) = inr (_, _, line-numeral n, (same, refl))

case-setting : (ts : Tokens) (x : Setting) (us : Tokens) → line.setting ts x us → Spells Rule.setting ts x us
unfolding line.setting
case-setting ts x us (inl (t, a, text, (same, end))) = closes same end (Spells.text_setting text refl)
case-setting ts x us (inr (m, a, n, (same, end))) = closes same end (Spells.number_setting (case-numeral ts m a n) refl)

pub line-set_value : {ts us : Tokens} {x : SetValue} → Spells Rule.set_value ts x us → line.set_value ts x us
line-set_value (Spells.set_to_default word same) = inl (_, _, word, (same, refl))
line-set_value (Spells.set_to_list settings same) = inr (_, _, line-list line.setting (λ ts x us. line-setting) settings, (same, refl))

pub case-set_value : (ts : Tokens) (x : SetValue) (us : Tokens) → line.set_value ts x us → Spells Rule.set_value ts x us
case-set_value ts x us (inl (u, a, word, (same, end))) = closes same end (Spells.set_to_default word refl)
case-set_value ts x us (inr (ss, a, (first, b, front, (others, c, more, (all, last))), (same, end))) =
    closes same end (Spells.set_to_list (case-list line.setting case-setting ts b c a first others ss front more all last) refl)
