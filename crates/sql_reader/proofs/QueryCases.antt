-- Queries and row changes: what a case of the grammar spells its line spells, and what a line spells is spelt by a case.
use Rattle.std.proofs.Common.{◌≡◌, inl, inr, true, false, List, [], ◌∷◌, Option, Some, refl, sym, ap, subst, ◌∙◌}
use Rattle.sql_tokens.specs.declared.token.Sign.TheVariants as sign
use Rattle.sql_tree.specs.declared.expr.{Expr.Expr, Numeral.Numeral}
use Rattle.sql_tree.specs.declared.names.{ColumnRef.ColumnRef, QName.QName}
use Rattle.sql_tree.specs.declared.rows.{Assignment.Assignment, InsertTree.InsertTree, NewValue.NewValue}
use Rattle.sql_tree.specs.declared.select.{FromChain.FromChain, FromItem.FromItem, Join.Join, Limits.Limits, OrderItem.OrderItem, OutputItem.OutputItem, RowCount.RowCount, Select.Select}
use Rattle.sql_tree.specs.declared.statement.Statement.{Statement}
use Rattle.sql_expr.specs.Lines.{Text, Tokens, Line, ◌>>◌, name, number, key, mark, maybe, many}
use Rattle.sql_expr.specs.Grammar.{column, expression}
use Rattle.sql_reader.specs.Grammar.{Rule, Meaning, Spells, Changed}
use Rattle.sql_expr.proofs.LineWords.{any, list, last-separated, next-separated, list-of}
use Rattle.sql_reader.proofs.CommandLines as line

-- ---- ends, lists and repetitions

-- a derivation of what equals these
pub closes : {rule : Rule} {ts us vs : Tokens} {x y : Meaning rule} → x ≡ y → us ≡ vs → Spells rule ts y vs → Spells rule ts x us
closes {rule = rule} {ts = ts} {us = us} {y = y} same end spelt = subst (λ z. Spells rule ts z us) (sym same) (subst (λ ws. Spells rule ts y ws) (sym end) spelt)

pub line-list : {rule : Rule} (P : Line (Meaning rule)) → ((ts : Tokens) (x : Meaning rule) (us : Tokens) → Spells rule ts x us → P ts x us)
    → {ts us : Tokens} {xs : List (Meaning rule)} → Spells (Rule.list_of rule) ts xs us → list P ts xs us
line-list P of {xs = xs} (Spells.last_one {ts = ts} {us = us} {y = y} one same) = last-separated (mark sign.Comma) P ts us y xs (of ts y us one) same
line-list P of {xs = xs} (Spells.next_one {ts = ts} {a = a} {b = b} {us = us} {y = y} {ys = ys} one comma more same) =
    next-separated (mark sign.Comma) P ts a b us y ys xs (of ts y a one) comma (line-list P of more) same

pub case-list : {rule : Rule} (P : Line (Meaning rule)) → ((ts : Tokens) (x : Meaning rule) (us : Tokens) → P ts x us → Spells rule ts x us)
    → (ts a b us : Tokens) (first : Meaning rule) (others xs : List (Meaning rule)) → P ts first a → many (mark sign.Comma >> P) a others b → xs ≡ first ∷ others → us ≡ b
    → Spells (Rule.list_of rule) ts xs us
case-list {rule = rule} P of ts a b us first others xs front more same end =
    list-of (mark sign.Comma) P (λ vs ys ws. Spells (Rule.list_of rule) vs ys ws) (λ vs ws y ys one all. Spells.last_one (of vs y ws one) all)
    (λ vs c d ws y ys zs one comma rest all. Spells.next_one (of vs y c one) comma rest all) ts a b us first others xs front more same end

pub line-repeated : {rule : Rule} (P : Line (Meaning rule)) → ((ts : Tokens) (x : Meaning rule) (us : Tokens) → Spells rule ts x us → P ts x us)
    → {ts us : Tokens} {xs : List (Meaning rule)} → Spells (Rule.repeated rule) ts xs us → many P ts xs us
line-repeated P of (Spells.no_more {ts = ts} {us = us} same end) = subst (λ l. many P ts l us) (sym same) end
line-repeated P of (Spells.one_more {ts = ts} {a = a} {us = us} {y = y} one more same) = subst (λ l. many P ts l us) (sym same) (a, of ts y a one, line-repeated P of more)

pub case-repeated : {rule : Rule} (P : Line (Meaning rule)) → ((ts : Tokens) (x : Meaning rule) (us : Tokens) → P ts x us → Spells rule ts x us)
    → (ts : Tokens) (xs : List (Meaning rule)) (us : Tokens) → many P ts xs us → Spells (Rule.repeated rule) ts xs us
case-repeated P of ts [] us end = Spells.no_more refl end
case-repeated P of ts (x ∷ xs) us (a, one, more) = Spells.one_more (of ts x a one) (case-repeated P of a xs us more) refl

-- ---- queries

pub line-relation : {ts us : Tokens} {x : QName} → Spells Rule.relation ts x us → line.relation ts x us
unfolding line.relation
line-relation (Spells.named_relation q) = (_, _, q, (refl, refl))

pub case-relation : (ts : Tokens) (x : QName) (us : Tokens) → line.relation ts x us → Spells Rule.relation ts x us
unfolding line.relation
case-relation ts x us (q, a, spelt, (same, end)) = closes same end (Spells.named_relation spelt)

line-names : {ts us : Tokens} {x : List Text} → Spells Rule.names ts x us → list name ts x us
line-names {x = x} (Spells.last_name {ts = ts} {us = us} {n = n} one same) = last-separated (mark sign.Comma) name ts us n x one same
line-names {x = x} (Spells.next_name {ts = ts} {a = a} {b = b} {us = us} {n = n} {ns = ns} one comma more same) =
    next-separated (mark sign.Comma) name ts a b us n ns x one comma (line-names more) same

case-names : (ts a b us : Tokens) (first : Text) (others x : List Text) → name ts first a → many (mark sign.Comma >> name) a others b → x ≡ first ∷ others → us ≡ b → Spells Rule.names ts x us
case-names = list-of (mark sign.Comma) name (λ vs ns ws. Spells Rule.names vs ns ws) (λ vs ws n ns one all. Spells.last_name one all)
    (λ vs c d ws n ms ns one comma rest all. Spells.next_name one comma rest all)

pub line-parenthesized_names : {ts us : Tokens} {x : List Text} → Spells Rule.parenthesized_names ts x us → line.parenthesized_names ts x us
unfolding line.parenthesized_names
line-parenthesized_names (Spells.between_parentheses opened names closed) = (_, _, opened, (_, _, line-names names, (_, _, closed, (refl, refl))))

pub case-parenthesized_names : (ts : Tokens) (x : List Text) (us : Tokens) → line.parenthesized_names ts x us → Spells Rule.parenthesized_names ts x us
unfolding line.parenthesized_names
case-parenthesized_names ts x us (u, a, opened, (names, b, (first, c, front, (others, d, more, (all, last))), (v, e, closed, (same, end)))) =
    closes same end (Spells.between_parentheses opened (case-names a c d b first others names front more all last) closed)

pub line-optional_names : {ts us : Tokens} {x : List Text} → Spells Rule.optional_names ts x us → any line.parenthesized_names ts x us
line-optional_names (Spells.no_names same end) = inr (same, end)
line-optional_names (Spells.some_names names) = inl (line-parenthesized_names names)

pub case-optional_names : (ts : Tokens) (x : List Text) (us : Tokens) → any line.parenthesized_names ts x us → Spells Rule.optional_names ts x us
case-optional_names ts x us (inl names) = Spells.some_names (case-parenthesized_names ts x us names)
case-optional_names ts x us (inr (same, end)) = Spells.no_names same end

line-alias : {ts us : Tokens} {x : Option Text} → Spells Rule.alias ts x us → line.alias ts x us
unfolding line.alias
line-alias (Spells.no_alias same end) = inr (same, end)
line-alias (Spells.aliased is_said a as_word one same) = inl (_, _, (_, _, as_word, one), (same, refl))

case-alias : (ts : Tokens) (x : Option Text) (us : Tokens) → line.alias ts x us → Spells Rule.alias ts x us
unfolding line.alias
case-alias ts x us (inl (n, b, (is_said, a, as_word, one), (same, end))) = closes same end (Spells.aliased is_said a as_word one refl)
case-alias ts x us (inr (same, end)) = Spells.no_alias same end

line-output : {ts us : Tokens} {x : OutputItem} → Spells Rule.output ts x us → line.output ts x us
unfolding line.output
line-output (Spells.every_column star same) = inl (_, _, star, (same, refl))
line-output (Spells.every_column_of one dot star same) = inr (inl (_, _, one, (_, _, dot, (_, _, star, (same, refl)))))
line-output (Spells.expression_output expr named same) = inr (inr (_, _, expr, (_, _, line-alias named, (same, refl))))

case-output : (ts : Tokens) (x : OutputItem) (us : Tokens) → line.output ts x us → Spells Rule.output ts x us
unfolding line.output
case-output ts x us (inl (u, a, star, (same, end))) = closes same end (Spells.every_column star refl)
case-output ts x us (inr (inl (n, a, one, (u, b, dot, (v, c, star, (same, end)))))) = closes same end (Spells.every_column_of one dot star refl)
case-output ts x us (inr (inr (y, a, expr, (n, b, named, (same, end))))) = closes same end (Spells.expression_output expr (case-alias a n b named) refl)

line-item : {ts us : Tokens} {x : FromItem} → Spells Rule.item ts x us → line.item ts x us
unfolding line.item
line-item (Spells.relation_item table named) = (_, _, line-relation table, (_, _, line-alias named, (refl, refl)))

case-item : (ts : Tokens) (x : FromItem) (us : Tokens) → line.item ts x us → Spells Rule.item ts x us
unfolding line.item
case-item ts x us (q, a, table, (n, b, named, (same, end))) = closes same end (Spells.relation_item (case-relation ts q a table) (case-alias a n b named))

line-join : {ts us : Tokens} {x : Join} → Spells Rule.join ts x us → line.join ts x us
unfolding line.join
line-join (Spells.inner_joined is_said inner join item on expr same) = inl (_, _, inner, (_, _, join, (_, _, line-item item, (_, _, on, (_, _, expr, (same, refl))))))
line-join (Spells.cross_joined cross join item same) = inr (_, _, cross, (_, _, join, (_, _, line-item item, (same, refl))))

case-join : (ts : Tokens) (x : Join) (us : Tokens) → line.join ts x us → Spells Rule.join ts x us
unfolding line.join
case-join ts x us (inl (is_said, a, inner, (u, b, join, (i, c, item, (v, d, on, (y, e, expr, (same, end))))))) = closes same end (Spells.inner_joined is_said inner join (case-item b i c item) on expr refl)
case-join ts x us (inr (u, a, cross, (v, b, join, (i, c, item, (same, end))))) = closes same end (Spells.cross_joined cross join (case-item b i c item) refl)

line-chain : {ts us : Tokens} {x : FromChain} → Spells Rule.chain ts x us → line.chain ts x us
unfolding line.chain
line-chain (Spells.chained first joins) = (_, _, line-item first, (_, _, line-repeated line.join (λ ts x us. line-join) joins, (refl, refl)))

case-chain : (ts : Tokens) (x : FromChain) (us : Tokens) → line.chain ts x us → Spells Rule.chain ts x us
unfolding line.chain
case-chain ts x us (i, a, first, (js, b, joins, (same, end))) = closes same end (Spells.chained (case-item ts i a first) (case-repeated line.join case-join a js b joins))

line-from : {ts us : Tokens} {x : List FromChain} → Spells Rule.from ts x us → any (key "from" >> list line.chain) ts x us
line-from (Spells.no_from same end) = inr (same, end)
line-from (Spells.from_chains word chains) = inl (_, _, word, line-list line.chain (λ ts x us. line-chain) chains)

case-from : (ts : Tokens) (x : List FromChain) (us : Tokens) → any (key "from" >> list line.chain) ts x us → Spells Rule.from ts x us
case-from ts x us (inl (u, a, word, (first, b, front, (others, c, more, (all, end))))) = Spells.from_chains word (case-list line.chain case-chain a b c us first others x front more all end)
case-from ts x us (inr (same, end)) = Spells.no_from same end

pub line-condition : {ts us : Tokens} {x : Option Expr} → Spells Rule.condition ts x us → line.condition ts x us
line-condition (Spells.no_condition same end) = inr (same, end)
line-condition (Spells.conditioned word expr same) = inl (_, _, (_, _, word, expr), (same, refl))

pub case-condition : (ts : Tokens) (x : Option Expr) (us : Tokens) → line.condition ts x us → Spells Rule.condition ts x us
case-condition ts x us (inl (y, b, (u, a, word, expr), (same, end))) = closes same end (Spells.conditioned word expr refl)
case-condition ts x us (inr (same, end)) = Spells.no_condition same end

line-group_key : {ts us : Tokens} {x : ColumnRef} → Spells Rule.group_key ts x us → column ts x us
line-group_key (Spells.grouped_column spelt) = spelt

line-group_by : {ts us : Tokens} {x : List ColumnRef} → Spells Rule.group_by ts x us → any (key "group" >> (key "by" >> list column)) ts x us
line-group_by (Spells.ungrouped same end) = inr (same, end)
line-group_by (Spells.grouped word by columns) = inl (_, _, word, (_, _, by, line-list column (λ ts x us. line-group_key) columns))

case-group_by : (ts : Tokens) (x : List ColumnRef) (us : Tokens) → any (key "group" >> (key "by" >> list column)) ts x us → Spells Rule.group_by ts x us
case-group_by ts x us (inl (u, a, word, (v, b, by, (first, c, front, (others, d, more, (all, end)))))) =
    Spells.grouped word by (case-list column (λ vs y ws spelt. Spells.grouped_column spelt) b c d us first others x front more all end)
case-group_by ts x us (inr (same, end)) = Spells.ungrouped same end

line-having : {ts us : Tokens} {x : Option Expr} → Spells Rule.having ts x us → maybe (key "having" >> expression) ts x us
line-having (Spells.no_having same end) = inr (same, end)
line-having (Spells.having_condition word expr same) = inl (_, _, (_, _, word, expr), (same, refl))

case-having : (ts : Tokens) (x : Option Expr) (us : Tokens) → maybe (key "having" >> expression) ts x us → Spells Rule.having ts x us
case-having ts x us (inl (y, b, (u, a, word, expr), (same, end))) = closes same end (Spells.having_condition word expr refl)
case-having ts x us (inr (same, end)) = Spells.no_having same end

line-sort_key : {ts us : Tokens} {x : OrderItem} → Spells Rule.sort_key ts x us → line.sort_key ts x us
unfolding line.sort_key
line-sort_key (Spells.sorted a b expr falls nulls) = (_, _, expr, (_, _, falls, (_, _, nulls, (refl, refl))))

case-sort_key : (ts : Tokens) (x : OrderItem) (us : Tokens) → line.sort_key ts x us → Spells Rule.sort_key ts x us
unfolding line.sort_key
case-sort_key ts x us (y, a, expr, (d, b, falls, (n, c, nulls, (same, end)))) = closes same end (Spells.sorted a b expr falls nulls)

line-order_by : {ts us : Tokens} {x : List OrderItem} → Spells Rule.order_by ts x us → any (key "order" >> (key "by" >> list line.sort_key)) ts x us
line-order_by (Spells.unordered same end) = inr (same, end)
line-order_by (Spells.ordered word by keys) = inl (_, _, word, (_, _, by, line-list line.sort_key (λ ts x us. line-sort_key) keys))

case-order_by : (ts : Tokens) (x : List OrderItem) (us : Tokens) → any (key "order" >> (key "by" >> list line.sort_key)) ts x us → Spells Rule.order_by ts x us
case-order_by ts x us (inl (u, a, word, (v, b, by, (first, c, front, (others, d, more, (all, end)))))) =
    Spells.ordered word by (case-list line.sort_key case-sort_key b c d us first others x front more all end)
case-order_by ts x us (inr (same, end)) = Spells.unordered same end

pub line-numeral : {ts us : Tokens} {x : Numeral} → Spells Rule.numeral ts x us → line.numeral ts x us
unfolding line.numeral
line-numeral (Spells.plain_numeral digits same) = (false, _, inr (refl, refl), (_, _, digits, (same, refl)))
line-numeral (Spells.negative_numeral minus digits same) = (true, _, inl (tt, _, minus, (refl, refl)), (_, _, digits, (same, refl)))

pub case-numeral : (ts : Tokens) (x : Numeral) (us : Tokens) → line.numeral ts x us → Spells Rule.numeral ts x us
unfolding line.numeral
case-numeral ts x us (k, a, inl (u, b, minus, (is, here)), (d, c, digits, (same, end))) =
    closes (same ∙ ap (λ negative. record { negative = negative; digits = d }) is) end (Spells.negative_numeral minus (subst (λ vs. number vs d c) here digits) refl)
case-numeral ts x us (k, a, inr (is, here), (d, c, digits, (same, end))) =
    closes (same ∙ ap (λ negative. record { negative = negative; digits = d }) is) end (Spells.plain_numeral (subst (λ vs. number vs d c) here digits) refl)

line-count : {ts us : Tokens} {x : RowCount} → Spells Rule.count ts x us → line.count ts x us
unfolding line.count
line-count (Spells.null_count word same) = inl (_, _, word, (same, refl))
line-count (Spells.parameter_count digits same) = inr (inl (_, _, digits, (same, refl)))
line-count (Spells.number_count spelt same) = inr (inr (_, _, line-numeral spelt, (same, refl)))

case-count : (ts : Tokens) (x : RowCount) (us : Tokens) → line.count ts x us → Spells Rule.count ts x us
unfolding line.count
case-count ts x us (inl (u, a, word, (same, end))) = closes same end (Spells.null_count word refl)
case-count ts x us (inr (inl (d, a, digits, (same, end)))) = closes same end (Spells.parameter_count digits refl)
case-count ts x us (inr (inr (n, a, spelt, (same, end)))) = closes same end (Spells.number_count (case-numeral ts n a spelt) refl)

line-limit : {ts us : Tokens} {x : Option RowCount} → Spells Rule.limit ts x us → line.limit ts x us
unfolding line.limit
line-limit (Spells.no_limit same end) = inr (same, end)
line-limit (Spells.limit_all word all same) = inl (_, _, (_, _, word, inl (_, _, all, (refl, refl))), (same, refl))
line-limit (Spells.limited word count same) = inl (_, _, (_, _, word, inr (line-count count)), (same, refl))

case-limit : (ts : Tokens) (x : Option RowCount) (us : Tokens) → line.limit ts x us → Spells Rule.limit ts x us
unfolding line.limit
case-limit ts x us (inl (n, b, (u, a, word, inl (v, c, all, (is, here))), (same, end))) = closes (same ∙ ap Some is) (end ∙ here) (Spells.limit_all word all refl)
case-limit ts x us (inl (n, b, (u, a, word, inr count), (same, end))) = closes same end (Spells.limited word (case-count a n b count) refl)
case-limit ts x us (inr (same, end)) = Spells.no_limit same end

line-offset : {ts us : Tokens} {x : Option RowCount} → Spells Rule.offset ts x us → line.offset ts x us
unfolding line.offset
line-offset (Spells.no_offset same end) = inr (same, end)
line-offset (Spells.skipped word count same) = inl (_, _, (_, _, word, line-count count), (same, refl))

case-offset : (ts : Tokens) (x : Option RowCount) (us : Tokens) → line.offset ts x us → Spells Rule.offset ts x us
unfolding line.offset
case-offset ts x us (inl (n, b, (u, a, word, count), (same, end))) = closes same end (Spells.skipped word (case-count a n b count) refl)
case-offset ts x us (inr (same, end)) = Spells.no_offset same end

line-limits : {ts us : Tokens} {x : Limits} → Spells Rule.limits ts x us → line.limits ts x us
unfolding line.limits
line-limits (Spells.limit_first most skipped) = inl (_, _, line-limit most, (_, _, line-offset skipped, (refl, refl)))
line-limits (Spells.offset_first skipped most) = inr (_, _, line-offset skipped, (_, _, line-limit most, (refl, refl)))

case-limits : (ts : Tokens) (x : Limits) (us : Tokens) → line.limits ts x us → Spells Rule.limits ts x us
unfolding line.limits
case-limits ts x us (inl (m, a, most, (n, b, skipped, (same, end)))) = closes same end (Spells.limit_first (case-limit ts m a most) (case-offset a n b skipped))
case-limits ts x us (inr (n, a, skipped, (m, b, most, (same, end)))) = closes same end (Spells.offset_first (case-offset ts n a skipped) (case-limit a m b most))

pub line-select : {ts us : Tokens} {x : Select} → Spells Rule.select ts x us → line.select ts x us
unfolding line.select line.selection line.core line.grouping
line-select {x = x} (Spells.selected word unique outputs from filter keys having order limits) = (
  _,
  _,
  word,
  (
    x.core,
    _,
    (_, _, unique, (_, _, line-list line.output (λ ts x us. line-output) outputs, (_, _, line-from from, (_, _, line-condition filter, (refl, refl))))),
    (
      x.grouping,
      _,
      (_, _, line-group_by keys, (_, _, line-having having, (refl, refl))),
      (_, _, line-order_by order, (_, _, line-limits limits, (refl, refl))),
    ),
  ),
)

pub case-select : (ts : Tokens) (x : Select) (us : Tokens) → line.select ts x us → Spells Rule.select ts x us
unfolding line.select line.selection line.core line.grouping
case-select ts x us (u, a, word, (core, b, (dis, c, unique, (os, d, (first, e, front, (others, f, more, (all, last))), (fs, g, from, (co, h, filter, (cores, cored))))), (gr, i, (ks, j, keys, (ha, k, having, (groups, grouped))), (ord, l, order, (li, m, limits, (same, end)))))) =
    closes (
    same
    ∙ ap (λ c. record { core = c; grouping = gr; order = ord; limits = li }) cores
    ∙ ap (λ g. record { core = record { distinct = dis; outputs = os; from = fs; condition = co }; grouping = g; order = ord; limits = li }) groups
    ) end (
    Spells.selected word unique (case-list line.output case-output c e f d first others os front more all last) (case-from d fs g from) (case-condition g co h filter)
    (subst (λ vs. Spells Rule.group_by vs ks j) cored (case-group_by b ks j keys)) (case-having j ha k having)
    (subst (λ vs. Spells Rule.order_by vs ord l) grouped (case-order_by i ord l order)) (case-limits l li m limits)
    )

-- ---- row changes

pub line-returning : {ts us : Tokens} {x : List OutputItem} → Spells Rule.returning ts x us → line.returning ts x us
unfolding line.returning
line-returning (Spells.returning_nothing same end) = inr (same, end)
line-returning (Spells.returning_outputs word outputs) = inl (_, _, word, line-list line.output (λ ts x us. line-output) outputs)

pub case-returning : (ts : Tokens) (x : List OutputItem) (us : Tokens) → line.returning ts x us → Spells Rule.returning ts x us
unfolding line.returning
case-returning ts x us (inl (u, a, word, (first, b, front, (others, c, more, (all, end))))) =
    Spells.returning_outputs word (case-list line.output case-output a b c us first others x front more all end)
case-returning ts x us (inr (same, end)) = Spells.returning_nothing same end

line-value : {ts us : Tokens} {x : NewValue} → Spells Rule.value ts x us → line.value ts x us
unfolding line.value
line-value (Spells.default_value word same) = inl (_, _, word, (same, refl))
line-value (Spells.expression_value expr same) = inr (_, _, expr, (same, refl))

case-value : (ts : Tokens) (x : NewValue) (us : Tokens) → line.value ts x us → Spells Rule.value ts x us
unfolding line.value
case-value ts x us (inl (u, a, word, (same, end))) = closes same end (Spells.default_value word refl)
case-value ts x us (inr (y, a, expr, (same, end))) = closes same end (Spells.expression_value expr refl)

line-row : {ts us : Tokens} {x : List NewValue} → Spells Rule.row ts x us → line.row ts x us
unfolding line.row
line-row (Spells.row_of_values opened values closed) = (_, _, opened, (_, _, line-list line.value (λ ts x us. line-value) values, (_, _, closed, (refl, refl))))

case-row : (ts : Tokens) (x : List NewValue) (us : Tokens) → line.row ts x us → Spells Rule.row ts x us
unfolding line.row
case-row ts x us (u, a, opened, (vs, b, (first, c, front, (others, d, more, (all, last))), (v, e, closed, (same, end)))) =
    closes same end (Spells.row_of_values opened (case-list line.value case-value a c d b first others vs front more all last) closed)

pub line-insert : {ts us : Tokens} {x : InsertTree} → Spells Rule.insert ts x us → (key "insert" >> line.insertion) ts x us
unfolding line.insertion
line-insert (Spells.inserted word into table columns values rows given) =
    (_, _, word, (_, _, into, (_, _, line-relation table, (_, _, line-optional_names columns, (_, _, values, (_, _, line-list line.row (λ ts x us. line-row) rows, (_, _, line-returning given, (refl, refl))))))))

pub case-insert : (ts : Tokens) (x : InsertTree) (us : Tokens) → (key "insert" >> line.insertion) ts x us → Spells Rule.insert ts x us
unfolding line.insertion
case-insert ts x us (u, a, word, (v, b, into, (q, c, table, (ns, d, columns, (w, e, values, (rs, f, (first, g, front, (others, h, more, (all, last))), (os, i, given, (same, end)))))))) =
    closes same end (
    Spells.inserted word into (case-relation b q c table) (case-optional_names c ns d columns) values (case-list line.row case-row e g h f first others rs front more all last)
    (case-returning f os i given)
    )

line-assignment : {ts us : Tokens} {x : Assignment} → Spells Rule.assignment ts x us → line.assignment ts x us
unfolding line.assignment
line-assignment (Spells.assigned one equal value) = (_, _, one, (_, _, equal, (_, _, line-value value, (refl, refl))))

case-assignment : (ts : Tokens) (x : Assignment) (us : Tokens) → line.assignment ts x us → Spells Rule.assignment ts x us
unfolding line.assignment
case-assignment ts x us (n, a, one, (u, b, equal, (y, c, value, (same, end)))) = closes same end (Spells.assigned one equal (case-value b y c value))

pub line-change : {ts us : Tokens} {x : Changed} → Spells Rule.change ts x us → line.changed ts x us
unfolding line.changed line.updated line.deleted
line-change (Spells.updated word table set assignments same) = inl (_, _, word, (_, _, line-relation table, (_, _, set, (_, _, line-list line.assignment (λ ts x us. line-assignment) assignments, (same, refl)))))
line-change (Spells.deleted word from table same) = inr (_, _, word, (_, _, from, (_, _, line-relation table, (same, refl))))

pub case-change : (ts : Tokens) (x : Changed) (us : Tokens) → line.changed ts x us → Spells Rule.change ts x us
unfolding line.changed line.updated line.deleted
case-change ts x us (inl (u, a, word, (q, b, table, (v, c, set, (all, d, (first, e, front, (others, f, more, (every, last))), (same, end)))))) =
    closes same end (Spells.updated word (case-relation a q b table) set (case-list line.assignment case-assignment c e f d first others all front more every last) refl)
case-change ts x us (inr (u, a, word, (v, b, from, (q, c, table, (same, end))))) = closes same end (Spells.deleted word from (case-relation b q c table) refl)

pub line-statement : {ts us : Tokens} {x : Statement} → Spells Rule.statement ts x us → line.statement ts x us
unfolding line.statement line.searched
line-statement (Spells.select_statement select same) = inl (inl (_, _, line-select select, (same, refl)))
line-statement (Spells.insert_statement insert same) = inl (inr (_, _, line-insert insert, (same, refl)))
line-statement (Spells.searched_statement change filter given same) = inr (_, _, line-change change, (_, _, line-condition filter, (_, _, line-returning given, (same, refl))))

pub case-statement : (ts : Tokens) (x : Statement) (us : Tokens) → line.statement ts x us → Spells Rule.statement ts x us
unfolding line.statement line.searched
case-statement ts x us (inl (inl (s, a, select, (same, end)))) = closes same end (Spells.select_statement (case-select ts s a select) refl)
case-statement ts x us (inl (inr (i, a, insert, (same, end)))) = closes same end (Spells.insert_statement (case-insert ts i a insert) refl)
case-statement ts x us (inr (made, a, change, (co, b, filter, (os, c, given, (same, end))))) =
    closes same end (Spells.searched_statement (case-change ts made a change) (case-condition a co b filter) (case-returning b os c given) refl)
