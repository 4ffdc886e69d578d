-- Queries are read exactly where they are spelt.
use Rattle.std.proofs.Common.{inl, inr, ℕ, Bool, true, false, [], ◌∷◌, codes, refl, arith}
use Rattle.sql_expr.specs.Reading.{Tokens, pure}
use Rattle.sql_expr.specs.Names.{is_reserved}
use Rattle.sql_expr.specs.Lines.{Line, gives, word as a_word}
use Rattle.sql_expr.specs.Lines as lines
use Rattle.sql_reader_query.specs.Lists as spec_lists
use Rattle.sql_reader_query.specs.Query as spec
use Rattle.sql_reader.specs.Grammar as grammar
use Rattle.sql_expr.proofs.LineWords.{list}
use Rattle.sql_expr.proofs.LineWords as words
use Rattle.sql_expr.proofs.Heads.{Barred, Head}
use Rattle.sql_expr.proofs.Agreement.{Agrees, nothing, tests-word, agrees-pure, agrees-bind, agrees-same, agrees-word, agrees-expect_word, agrees-test}
use Rattle.sql_expr.proofs.ListAgreement.{agrees-list}
use Rattle.sql_expr.proofs.ExpressionAgreement.{agrees-expression, expression_heads, operators}
use Rattle.sql_reader.proofs.CommandLines as line
use Rattle.sql_reader.proofs.NameAgreement.{agrees-column}
use Rattle.sql_reader.proofs.OptionalAgreement.{also, agrees-any, agrees-maybe}
use Rattle.sql_reader.proofs.OutputAgreement.{agrees-outputs}
use Rattle.sql_reader.proofs.FromAgreement.{from_tail, agrees-from}
use Rattle.sql_reader.proofs.LimitsAgreement.{agrees-limits}

-- ---- what could go on behind the parts of a query

abbrev distinct_tail : Barred
distinct_tail = also (codes "distinct" ∷ codes "all" ∷ []) [] nothing

abbrev core_tail : Barred
core_tail = also (codes "where" ∷ []) [] from_tail

abbrev keys_tail : Barred
keys_tail = also (codes "group" ∷ []) [] core_tail

abbrev grouping_tail : Barred
grouping_tail = also (codes "having" ∷ []) [] keys_tail

-- behind an expression that is a key, and behind its direction
abbrev direction_tail : Barred
direction_tail = also (codes "asc" ∷ codes "desc" ∷ []) [] operators

abbrev key_tail : Barred
key_tail = also (codes "nulls" ∷ []) [] direction_tail

abbrev order_tail : Barred
order_tail = also (codes "order" ∷ codes "nulls" ∷ codes "asc" ∷ codes "desc" ∷ []) [] grouping_tail

abbrev pub select_tail : Barred
select_tail = also (codes "limit" ∷ codes "offset" ∷ []) [] order_tail

-- ---- directions

abbrev factored : Line Bool
factored = lines.◌or◌ (lines.◌>>◌ (a_word (codes "desc")) (gives true)) (lines.◌or◌ (lines.◌>>◌ (a_word (codes "asc")) (gives false)) (gives false))

there : (ts : Tokens) (b : Bool) (us : Tokens) → factored ts b us → grammar.descending ts b us
unfolding grammar.descending
there ts b us (inl falls) = inr (inl falls)
there ts b us (inr (inl rises)) = inl rises
there ts b us (inr (inr none)) = inr (inr none)

back : (ts : Tokens) (b : Bool) (us : Tokens) → grammar.descending ts b us → factored ts b us
unfolding grammar.descending
back ts b us (inl rises) = inr (inl rises)
back ts b us (inr (inl falls)) = inl falls
back ts b us (inr (inr none)) = inr (inr none)

module _ {n : ℕ} where
  agrees-distinct : Agrees (Unit {0}) n spec.distinct grammar.distinct 0 (Head.word (codes "distinct") ∷ Head.word (codes "all") ∷ Head.others distinct_tail ∷ []) distinct_tail
  unfolding spec.distinct grammar.distinct
  agrees-distinct = agrees-word (codes "distinct") (agrees-pure true distinct_tail)
      (agrees-test {n = n} (λ found. pure false) (omega arith) (tests-word (codes "all")) (agrees-pure false distinct_tail) (agrees-pure false distinct_tail) refl) refl

  agrees-descending : Agrees (Unit {0}) n spec.descending grammar.descending 0 (Head.word (codes "desc") ∷ Head.word (codes "asc") ∷ Head.others direction_tail ∷ []) direction_tail
  unfolding spec.descending
  agrees-descending = agrees-same there back (agrees-word (codes "desc") (agrees-pure true direction_tail)
      (agrees-test {n = n} (λ found. pure false) (omega arith) (tests-word (codes "asc")) (agrees-pure false direction_tail) (agrees-pure false direction_tail) refl) refl)

  agrees-nulls_first : (falls : Bool) → Agrees (Unit {0}) n (spec.nulls_first falls) (grammar.nulls_first falls) 0 (Head.word (codes "nulls") ∷ Head.others key_tail ∷ []) key_tail
  unfolding spec.nulls_first grammar.nulls_first
  agrees-nulls_first falls = agrees-word (codes "nulls")
      (agrees-word (codes "first") (agrees-pure true key_tail) (agrees-bind (agrees-expect_word (codes "last")) (λ u. agrees-pure false key_tail) refl) refl)
      (agrees-pure falls key_tail) refl

module _ {n : ℕ} where
  pub agrees-core : Agrees (Unit {0}) n spec.core line.core 1 (Head.word (codes "distinct") ∷ Head.word (codes "all") ∷ Head.others distinct_tail ∷ []) core_tail
  unfolding spec.core line.core spec.condition is_reserved
  agrees-core = agrees-bind agrees-distinct (λ unique. agrees-bind agrees-outputs (λ outputs. agrees-bind agrees-from (λ chains.
      agrees-bind (agrees-maybe (codes "where") core_tail agrees-expression refl refl)
      (λ filter. agrees-pure (record { distinct = unique; outputs = outputs; from = chains; condition = filter }) core_tail) refl) refl) refl) refl

  pub agrees-grouping : Agrees (Unit {0}) n spec.grouping line.grouping 0 (Head.word (codes "group") ∷ Head.others keys_tail ∷ []) grouping_tail
  unfolding spec.grouping line.grouping spec.group_keys spec.condition spec_lists.listed is_reserved
  agrees-grouping = agrees-bind (agrees-any (codes "group") keys_tail (agrees-bind (agrees-expect_word (codes "by")) (λ u. agrees-list keys_tail agrees-column refl refl) refl) refl refl) (λ keys.
      agrees-bind (agrees-maybe (codes "having") grouping_tail agrees-expression refl refl) (λ having. agrees-pure (record { keys = keys; having = having }) grouping_tail) refl) refl

  pub agrees-key : Agrees (Unit {0}) n spec.key line.sort_key 1 expression_heads key_tail
  unfolding spec.key line.sort_key is_reserved
  agrees-key = agrees-bind agrees-expression (λ expr. agrees-bind agrees-descending (λ falls. agrees-bind (agrees-nulls_first falls)
      (λ first. agrees-pure (record { expr = expr; descending = falls; nulls_first = first }) key_tail) refl) refl) refl

  agrees-order : Agrees (Unit {0}) n spec.order (words.any (lines.◌>>◌ (a_word (codes "order")) (lines.◌>>◌ (a_word (codes "by")) (list line.sort_key)))) 0 (Head.word (codes "order") ∷ Head.others order_tail ∷ []) order_tail
  unfolding spec.order spec_lists.listed is_reserved
  agrees-order = agrees-any (codes "order") order_tail (agrees-bind (agrees-expect_word (codes "by")) (λ u. agrees-list order_tail agrees-key refl refl) refl) refl refl

  pub agrees-selection : Agrees (Unit {0}) n spec.selection line.selection 1 (Head.word (codes "distinct") ∷ Head.word (codes "all") ∷ Head.others distinct_tail ∷ []) select_tail
  unfolding spec.selection line.selection is_reserved
  agrees-selection = agrees-bind agrees-core (λ c. agrees-bind agrees-grouping (λ g. agrees-bind agrees-order (λ keys. agrees-bind (agrees-limits select_tail refl refl refl)
      (λ cut. agrees-pure (record { core = c; grouping = g; order = keys; limits = cut }) select_tail) refl) refl) refl) refl

  pub agrees-select : Agrees (Unit {0}) n spec.select line.select 2 (Head.word (codes "select") ∷ []) select_tail
  unfolding spec.select line.select
  agrees-select = agrees-bind (agrees-expect_word (codes "select")) (λ u. agrees-selection) refl
