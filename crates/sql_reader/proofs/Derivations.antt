-- Ten texts, each with its derivation: the cases of the grammar by which its tokens spell the command.
use Rattle.std.proofs.Common.{◌≡◌, inl, inr, true, false, List, [], ◌∷◌, length, drop, Some, None, codes, refl, sym, ap, subst, arith}
use Prim.Native.String.{String}
use Rattle.q_base.specs.declared.settings.SetValue.TheVariants as value
use Rattle.sql_tokens.specs.declared.token.Token.{Token}
use Rattle.sql_tokens.specs.declared.token.Token.TheVariants as token
use Rattle.sql_tokens.specs.declared.token.Sign.TheVariants as sign
use Rattle.sql_tree.specs.declared.catalog.Nullability.TheVariants as nullability
use Rattle.sql_tree.specs.declared.command.Command.TheVariants as command
use Rattle.sql_tree.specs.declared.expr.Comparison.TheVariants as comparison
use Rattle.sql_tree.specs.declared.expr.Expr.{Expr}
use Rattle.sql_tree.specs.declared.expr.Expr.TheVariants as e
use Rattle.sql_tree.specs.declared.select.FromChain.{FromChain}
use Rattle.sql_tree.specs.declared.select.Join.TheVariants as join
use Rattle.sql_tree.specs.declared.select.OutputItem.{OutputItem}
use Rattle.sql_tree.specs.declared.select.OutputItem.TheVariants as output
use Rattle.sql_tree.specs.declared.statement.Statement.TheVariants as statement
use Rattle.sql_expr.specs.Names.{is_reserved, name_of}
use Rattle.sql_expr.specs.Lines.{Text, Tokens, TakesToken, name, key, before}
use Rattle.sql_expr.specs.Lines as lines
use Rattle.sql_expr.specs.Grammar.{Rule, Spells, expression, qualified, column}
use Rattle.sql_expr.proofs.TokenKinds.{stands-name}
use Rattle.sql_expr.proofs.ExpressionCases.{name-takes}
use Rattle.sql_reader.specs.Examples.{number, column as column_named, relation, item, selected, computed, altered, plain}
use Rattle.sql_reader.specs.Grammar.{SpellsAll, Spells as spelt_by}
use Rattle.sql_reader.specs.Grammar as grammar

-- ---- tokens, names, numbers

abbrev w : String → Token
w letters = token.Word (codes letters)

next : {t : Token} {us : Tokens} → TakesToken t (t ∷ us) us
next = record { tokens = refl }

named : (n : String) (us : Tokens) → name_of (w n) ≡ Some (codes n) → name (w n ∷ us) (codes n) us
named n us free = stands-name.there (w n ∷ us) (codes n) us (w n, next, free)

-- a name alone, of a relation and of a column
a-relation : (n : String) (us : Tokens) → name_of (w n) ≡ Some (codes n) → grammar.Spells grammar.Rule.relation (w n ∷ us) (relation (codes n)) us
unfolding qualified
a-relation n us free = spelt_by.named_relation (inr (codes n, us, named n us free, (refl, refl)))

a-column : (n : String) (us : Tokens) → name_of (w n) ≡ Some (codes n) → Spells Rule.primary (w n ∷ us) (column_named (codes n)) us
unfolding qualified column
a-column n us free = Spells.column_reference ((None, codes n), us, inr (codes n, us, named n us free, (refl, refl)), (refl, refl)) refl

a-number : (digits : Text) (us : Tokens) → Spells Rule.primary (token.Number digits ∷ us) (number false digits) us
a-number digits us = Spells.plain_literal (inl (digits, us, next, (refl, refl))) refl

-- ---- an operand in a looser place

sum-of : {ts us : Tokens} {x : Expr} → Spells Rule.primary ts x us → Spells Rule.sum ts x us
sum-of spelt = Spells.only_product (Spells.only_signed (Spells.only_primary spelt))

membership-of : {ts us : Tokens} {x : Expr} → Spells Rule.primary ts x us → Spells Rule.membership ts x us
membership-of spelt = Spells.only_sum (sum-of spelt)

negation-of : {ts us : Tokens} {x : Expr} → Spells Rule.comparison ts x us → Spells Rule.negation ts x us
negation-of spelt = Spells.only_null_test (Spells.only_comparison spelt)

conjunction-of : {ts us : Tokens} {x : Expr} → Spells Rule.conjunction ts x us → expression ts x us
unfolding expression
conjunction-of spelt = Spells.disjoined (Spells.last_conjunction spelt refl) refl

expression-of : {ts us : Tokens} {x : Expr} → Spells Rule.negation ts x us → expression ts x us
expression-of spelt = conjunction-of (Spells.conjoined (Spells.last_negation spelt refl) refl)

-- ---- a SELECT of one output that ends with its FROM

a-select : (ts us : Tokens) (given : OutputItem) (from : List FromChain) → grammar.Spells grammar.Rule.output ts given us → grammar.Spells grammar.Rule.from us from []
    → SpellsAll (w "select" ∷ ts) (selected given from)
unfolding grammar.distinct
a-select ts us given from front chains = spelt_by.select_command (spelt_by.selected next (inr (inr (refl, refl))) (spelt_by.last_one front refl) chains
    (spelt_by.no_condition refl refl) (spelt_by.ungrouped refl refl) (spelt_by.no_having refl refl) (spelt_by.unordered refl refl)
    (spelt_by.limit_first (spelt_by.no_limit refl refl) (spelt_by.no_offset refl refl))) refl

a-computed : (ts : Tokens) (x : Expr) → expression ts x [] → SpellsAll (w "select" ∷ ts) (computed x)
a-computed ts x spelt = a-select ts [] (output.Expr x None) [] (spelt_by.expression_output spelt (spelt_by.no_alias refl refl) refl) (spelt_by.no_from refl refl)

-- ---- the tokens of each text (`in_..`), and the derivation

-- SELECT - 5
abbrev pub in_negative_literal : Tokens
in_negative_literal = w "select" ∷ token.Sign sign.Minus ∷ token.Number (codes "5") ∷ []

pub negative_literal : SpellsAll in_negative_literal (computed (number true (codes "5")))
negative_literal = a-computed _ _ (expression-of (negation-of (Spells.only_membership (Spells.only_sum (Spells.only_product (Spells.only_signed (Spells.negative_literal next next refl)))))))

-- SELECT a BETWEEN 1 AND 2 AND b
abbrev pub in_between_with_and : Tokens
in_between_with_and = w "select" ∷ w "a" ∷ w "between" ∷ token.Number (codes "1") ∷ w "and" ∷ token.Number (codes "2") ∷ w "and" ∷ w "b" ∷ []

pub between_with_and : SpellsAll in_between_with_and
    (computed (e.And (e.Between (column_named (codes "a")) (number false (codes "1")) (number false (codes "2")) false ∷ column_named (codes "b") ∷ [])))
unfolding is_reserved
between_with_and = a-computed _ _ (conjunction-of (Spells.conjoined
    (Spells.next_negation (negation-of (Spells.only_membership (Spells.between (sum-of (a-column "a" _ refl)) (inr (refl, refl)) next (sum-of (a-number _ _)) next (sum-of (a-number _ _)) refl)))
    next (Spells.last_negation (negation-of (Spells.only_membership (membership-of (a-column "b" _ refl)))) refl) refl) refl))

-- SELECT NOT a = b
abbrev pub in_not_of_a_comparison : Tokens
in_not_of_a_comparison = w "select" ∷ w "not" ∷ w "a" ∷ token.Sign sign.Equal ∷ w "b" ∷ []

pub not_of_a_comparison : SpellsAll in_not_of_a_comparison (computed (e.Not (e.Comparison comparison.Equal (column_named (codes "a")) (column_named (codes "b")))))
unfolding is_reserved
not_of_a_comparison = a-computed _ _ (expression-of (Spells.negated next (negation-of
    (Spells.compared (membership-of (a-column "a" _ refl)) (inl (tt, _, next, (refl, refl))) (membership-of (a-column "b" _ refl)) refl)) refl))

-- SELECT * FROM a JOIN b ON c CROSS JOIN d
an-item : (n : String) (us : Tokens) → name_of (w n) ≡ Some (codes n) → grammar.Spells grammar.Rule.item (w n ∷ us) (item (codes n)) us
an-item n us free = spelt_by.relation_item (a-relation n us free) (spelt_by.no_alias refl refl)

abbrev pub in_chain_of_joins : Tokens
in_chain_of_joins = w "select" ∷ token.Sign sign.Star ∷ w "from" ∷ w "a" ∷ w "join" ∷ w "b" ∷ w "on" ∷ w "c" ∷ w "cross" ∷ w "join" ∷ w "d" ∷ []

pub chain_of_joins : SpellsAll in_chain_of_joins
    (selected output.All (record { first = item (codes "a"); joins = join.Inner (item (codes "b")) (column_named (codes "c")) ∷ join.Cross (item (codes "d")) ∷ [] } ∷ []))
unfolding is_reserved
chain_of_joins = a-select _ _ output.All _ (spelt_by.every_column next refl) (spelt_by.from_chains next (spelt_by.last_one (spelt_by.chained (an-item "a" _ refl)
    (spelt_by.one_more (spelt_by.inner_joined false (inr (refl, refl)) next (an-item "b" _ refl) next (expression-of (negation-of (Spells.only_membership (membership-of (a-column "c" _ refl))))) refl)
    (spelt_by.one_more (spelt_by.cross_joined next next (an-item "d" _ refl) refl) (spelt_by.no_more refl refl) refl) refl)) refl))

-- ---- a word that may be keyword and name: what follows tells which it is

a-column_def : (n t : String) → name_of (w n) ≡ Some (codes n) → name_of (w t) ≡ Some (codes t)
    → grammar.Spells (grammar.Rule.column_def false) (w n ∷ w t ∷ []) (record { name = codes n; type_name = codes t; nullability = nullability.Unsaid; default = None; keys = [] }) []
a-column_def n t free typed = spelt_by.column_defined _ _ (named n (w t ∷ []) free) (named t [] typed) (spelt_by.no_more refl refl) refl refl refl refl

an-addition : (ts us : Tokens) (n : String) → before "column" (lines.◌>>◌ name name) ts tt us
    → grammar.Spells (grammar.Rule.column_def false) us (record { name = codes n; type_name = codes "int"; nullability = nullability.Unsaid; default = None; keys = [] }) []
    → SpellsAll (w "alter" ∷ w "table" ∷ w "t" ∷ w "add" ∷ ts) (altered (codes "t") (plain (codes n)))
unfolding is_reserved
an-addition ts us n word defined = spelt_by.table_altered next next (a-relation "t" _ refl) (spelt_by.column_added next word defined refl) refl

-- ALTER TABLE t ADD column int
abbrev pub in_column_as_name : Tokens
in_column_as_name = w "alter" ∷ w "table" ∷ w "t" ∷ w "add" ∷ w "column" ∷ w "int" ∷ []

pub column_as_name : SpellsAll in_column_as_name (altered (codes "t") (plain (codes "column")))
unfolding is_reserved
column_as_name = an-addition _ _ "column" (inr (refl, λ n us spelt. no-two-names n us spelt)) (a-column_def "column" "int" refl refl)
  where
    no-two-names : (n : Text) (us : Tokens) → ¬ (lines.◌>>◌ (key "column") (lines.◌>>◌ name name)) (w "column" ∷ w "int" ∷ []) n us
    no-two-names n us (u, a, word, (m, b, first, second)) =
        let one_less = ap length word.tokens in
        let two_less = name-takes first in
        let three_less = name-takes second in
        omega (arith, one_less, two_less, three_less)

-- ALTER TABLE t ADD column a int
abbrev pub in_column_as_keyword : Tokens
in_column_as_keyword = w "alter" ∷ w "table" ∷ w "t" ∷ w "add" ∷ w "column" ∷ w "a" ∷ w "int" ∷ []

pub column_as_keyword : SpellsAll in_column_as_keyword (altered (codes "t") (plain (codes "a")))
unfolding is_reserved
column_as_keyword = an-addition _ _ "a" (inl (tt, _, next, (refl, (codes "int", [], (codes "a", _, named "a" _ refl, named "int" [] refl))))) (a-column_def "a" "int" refl refl)

-- RELEASE savepoint
abbrev pub in_savepoint_as_name : Tokens
in_savepoint_as_name = w "release" ∷ w "savepoint" ∷ []

pub savepoint_as_name : SpellsAll in_savepoint_as_name (command.Release (codes "savepoint"))
unfolding is_reserved
savepoint_as_name = spelt_by.released next (tt, _, inr (refl, λ n us spelt. no-name n us spelt), named "savepoint" [] refl) refl
  where
    no-name : (n : Text) (us : Tokens) → ¬ (lines.◌>>◌ (key "savepoint") name) (w "savepoint" ∷ []) n us
    no-name n us (u, a, word, spelt) =
        let one_less = ap length word.tokens in
        let two_less = name-takes spelt in
        omega (arith, one_less, two_less)

-- SET local = 1
abbrev pub in_local_as_name : Tokens
in_local_as_name = w "set" ∷ w "local" ∷ token.Sign sign.Equal ∷ token.Number (codes "1") ∷ []

pub local_as_name : SpellsAll in_local_as_name (command.Set (record { name = codes "local"; local = false; value = value.List (record { text = codes "1"; number = true } ∷ []) }))
unfolding is_reserved
local_as_name = spelt_by.setting_set _ _ next (inr (inr (tt, _, (refl, λ n us spelt. no-scope n us spelt), (refl, refl)))) (named "local" _ refl) (inr next)
    (spelt_by.set_to_list (spelt_by.last_one (spelt_by.number_setting (spelt_by.plain_numeral next refl) refl) refl) refl) refl
  where
    no-name-of-sign : (n : Text) (us : Tokens) → ¬ name (token.Sign sign.Equal ∷ token.Number (codes "1") ∷ []) n us
    no-name-of-sign n us (inl (bare, free)) = let same = bare.tokens in cc
    no-name-of-sign n us (inr quoted) = let same = quoted.tokens in cc

    no-scope : (n : Text) (us : Tokens) → ¬ (lines.◌>>◌ (lines.◌or◌ (key "session") (key "local")) name) (w "local" ∷ token.Sign sign.Equal ∷ token.Number (codes "1") ∷ []) n us
    no-scope n us (u, a, inl word, spelt) = let same = word.tokens in cc
    no-scope n us (u, a, inr word, spelt) =
        let rest = ap (drop 1) word.tokens in
        no-name-of-sign n us (subst (λ vs. name vs n us) (sym rest) spelt)

-- DEALLOCATE prepare
abbrev pub in_prepare_as_name : Tokens
in_prepare_as_name = w "deallocate" ∷ w "prepare" ∷ []

pub prepare_as_name : SpellsAll in_prepare_as_name (command.Deallocate (codes "prepare"))
unfolding is_reserved
prepare_as_name = spelt_by.deallocating _ next (inr (refl, λ c us spelt. no-target c us spelt)) (inr (codes "prepare", [], named "prepare" [] refl, (refl, refl)))
  where
    no-target : (c : _) (us : Tokens) → ¬ (lines.◌>>◌ (key "prepare") grammar.deallocated) (w "prepare" ∷ []) c us
    no-target c us (u, a, word, inl (v, b, all, end)) =
        let one_less = ap length word.tokens in
        let two_less = ap length all.tokens in
        omega (arith, one_less, two_less)
    no-target c us (u, a, word, inr (n, b, spelt, end)) =
        let one_less = ap length word.tokens in
        let two_less = name-takes spelt in
        omega (arith, one_less, two_less)

-- DELETE FROM t WHERE current = 1
abbrev pub in_current_as_column : Tokens
in_current_as_column = w "delete" ∷ w "from" ∷ w "t" ∷ w "where" ∷ w "current" ∷ token.Sign sign.Equal ∷ token.Number (codes "1") ∷ []

pub current_as_column : SpellsAll in_current_as_column
    (command.Statement (statement.Delete (record { table = relation (codes "t"); condition = Some (e.Comparison comparison.Equal (column_named (codes "current")) (number false (codes "1"))); returning = [] })))
unfolding is_reserved
current_as_column = spelt_by.searched_command (spelt_by.deleted next next (a-relation "t" _ refl) refl) (refl, λ u us spelt. no-cursor u us spelt)
    (spelt_by.conditioned next compared refl) (spelt_by.returning_nothing refl refl) refl
  where
    compared : expression (w "current" ∷ token.Sign sign.Equal ∷ token.Number (codes "1") ∷ []) (e.Comparison comparison.Equal (column_named (codes "current")) (number false (codes "1"))) []
    compared = expression-of (negation-of (Spells.compared (membership-of (a-column "current" _ refl)) (inl (tt, _, next, (refl, refl))) (membership-of (a-number _ _)) refl))

    no-cursor : (u : Unit {0}) (us : Tokens) → ¬ grammar.current_of (w "where" ∷ w "current" ∷ token.Sign sign.Equal ∷ token.Number (codes "1") ∷ []) u us
    no-cursor u us (v, a, (x, b, where_, current), of_) =
        let first = ap (drop 1) where_.tokens in
        let second = ap (drop 1) current.tokens in
        let third = of_.tokens in cc
