-- How many rows of a query are given is read exactly where it is spelt.
use Rattle.std.proofs.Common.{◌≡◌, inl, inr, ℕ, Bool, true, false, cond, List, [], ◌∷◌, Some, None, codes, refl, sym, ap, subst, ◌∙◌, arith}
use Rattle.std.specs.List.{list_any}
use Rattle.sql_tokens.specs.declared.token.Token.{Token}
use Rattle.sql_tokens.specs.declared.token.Token.TheVariants as token
use Rattle.sql_tokens.specs.declared.token.Sign.TheVariants as sign
use Rattle.sql_tree.specs.declared.expr.Numeral.{Numeral}
use Rattle.sql_tree.specs.declared.select.Limits.{Limits}
use Rattle.sql_tree.specs.declared.select.RowCount.{RowCount}
use Rattle.sql_tree.specs.declared.select.RowCount.TheVariants.{Number, Param, Null}
use Rattle.sql_expr.specs.Reading.{Text, Tokens, Parser, ◌>>=◌, ◌<$>◌, pure, taken, required, behind, eat_word, sees_word}
use Rattle.sql_expr.specs.Literals as spec_literals
use Rattle.sql_expr.specs.Literals.{digits_of, param_of}
use Rattle.sql_expr.specs.Lines.{Line, gives, word as a_word, mark, number, parameter, TakesToken}
use Rattle.sql_expr.specs.Lines as lines
use Rattle.sql_reader_query.specs.Limits as spec
use Rattle.sql_expr.proofs.Heads.{Barred, Head, bars, is, all_avoid}
use Rattle.sql_expr.proofs.Agreement.{Agrees, Stands, nothing, tests-sign, bar_word, agrees-pure, agrees-bind, agrees-same, agrees-fewer, agrees-word, agrees-taken, agrees-one, agrees-test, taking, beginning}
use Rattle.sql_expr.proofs.TokenKinds.{stands-number}
use Rattle.sql_reader.proofs.CommandLines as line
use Rattle.sql_reader.proofs.OptionalAgreement.{agrees-read, agrees-maybe}

-- ---- tokens that are parameters

abbrev pub bar_params : Barred
bar_params = record { words = []; signs = []; names = false; numbers = false; strings = false; params = true }

pub stands-param : Stands param_of parameter (Head.param ∷ []) bar_params
stands-param = record { shows = shows; none = none; there = λ ts a us spelt. there ts a us spelt.0 spelt.1 spelt.2; back = λ ts a us here. (token.Param a, here, refl) }
  where
    shows : (t : Token) (a : Text) → param_of t ≡ Some a → list_any (λ head. is head t) (Head.param ∷ []) ≡ true
    shows (token.Param d) a v = refl
    shows t a v = cc

    none : (t : Token) → bars bar_params t ≡ false → param_of t ≡ None
    none (token.Param d) b = cc
    none t b = refl

    there : (ts : Tokens) (a : Text) (us : Tokens) (t : Token) → TakesToken t ts us → param_of t ≡ Some a → parameter ts a us
    there ts a us (token.Param d) here v = let is : d ≡ a = cc in taking here (ap token.Param is)
    there ts a us t here v = cc

-- ---- NULL | parameter | ["-"] number

-- the digits, behind the sign if there is one
abbrev signed : Bool → Parser Numeral
signed negative = do
  digits ← taken digits_of >>= required
  pure (record { negative = negative; digits = digits })

abbrev signed_line : Bool → Line Numeral
signed_line negative = lines.◌>>=◌ number (λ digits. gives (record { negative = negative; digits = digits }))

agrees-signed : {n : ℕ} (negative : Bool) → Agrees (Unit {0}) n (signed negative) (signed_line negative) 1 (Head.number ∷ []) nothing
agrees-signed negative = agrees-bind (agrees-one stands-number) (λ digits. agrees-pure (record { negative = negative; digits = digits }) nothing) refl

abbrev factored_numeral : Line Numeral
factored_numeral = lines.◌or◌ (lines.◌>>◌ (mark sign.Minus) (signed_line true)) (signed_line false)

numeral-there : (ts : Tokens) (x : Numeral) (us : Tokens) → factored_numeral ts x us → line.numeral ts x us
unfolding line.numeral
numeral-there ts x us (inl (u, middle, minus, spelt)) = (true, middle, inl (u, middle, minus, (refl, refl)), spelt)
numeral-there ts x us (inr spelt) = (false, ts, inr (refl, refl), spelt)

numeral-back : (ts : Tokens) (x : Numeral) (us : Tokens) → line.numeral ts x us → factored_numeral ts x us
unfolding line.numeral
numeral-back ts x us (b, middle, inl (u, behind_minus, minus, same), spelt) =
    inl (u, behind_minus, minus, subst (λ c. signed_line c behind_minus x us) same.0 (subst (λ vs. signed_line b vs x us) same.1 spelt))
numeral-back ts x us (b, middle, inr same, spelt) = inr (subst (λ c. signed_line c ts x us) same.0 (subst (λ vs. signed_line b vs x us) same.1 spelt))

abbrev pub count_heads : List Head
count_heads = Head.word (codes "null") ∷ Head.param ∷ Head.sign sign.Minus ∷ Head.number ∷ []

-- ALL | count
abbrev limit_count : Line RowCount
limit_count = lines.◌or◌ (lines.◌>>◌ (a_word (codes "all")) (gives Null)) line.count

module _ {n : ℕ} where
  pub agrees-numeral : Agrees (Unit {0}) n spec_literals.numeral line.numeral 1 (Head.sign sign.Minus ∷ Head.number ∷ []) nothing
  unfolding spec_literals.numeral
  agrees-numeral = agrees-same numeral-there numeral-back (agrees-test {n = n} signed (omega arith) (tests-sign sign.Minus) (agrees-signed true) (agrees-signed false) refl)

  pub agrees-count : Agrees (Unit {0}) n spec.count line.count 1 count_heads nothing
  unfolding spec.count line.count
  agrees-count = agrees-word (codes "null") (agrees-pure Null nothing)
      (agrees-taken {n = n} spec.param_or_number (omega arith) stands-param (λ digits. agrees-pure (Param digits) nothing) (agrees-bind agrees-numeral (λ x. agrees-pure (Number x) nothing) refl) refl) refl

  agrees-limit_count : Agrees (Unit {0}) n spec.limit_count limit_count 1 (Head.word (codes "all") ∷ count_heads) nothing
  unfolding spec.limit_count
  agrees-limit_count = agrees-word (codes "all") (agrees-pure Null nothing) agrees-count refl

  agrees-limit : (tail : Barred) → all_avoid (bar_word (codes "limit")) (Head.others tail ∷ []) ≡ true → Agrees (Unit {0}) n spec.limit line.limit 0 (Head.word (codes "limit") ∷ Head.others tail ∷ []) tail
  unfolding spec.limit line.limit
  agrees-limit tail apart = agrees-maybe (codes "limit") tail agrees-limit_count refl apart

  agrees-offset : (tail : Barred) → all_avoid (bar_word (codes "offset")) (Head.others tail ∷ []) ≡ true → Agrees (Unit {0}) n spec.offset line.offset 0 (Head.word (codes "offset") ∷ Head.others tail ∷ []) tail
  unfolding spec.offset line.offset
  agrees-offset tail apart = agrees-maybe (codes "offset") tail agrees-count refl apart

-- ---- LIMIT and OFFSET in either order

-- with LIMIT before OFFSET, or OFFSET before LIMIT, or without either
abbrev reordered : Parser Limits
reordered = do
  first ← eat_word (codes "limit")
  cond first (do
    most ← spec.limit_count
    skipped ← spec.offset
    pure (record { limit = Some most; offset = skipped })) (do
      found ← eat_word (codes "offset")
      cond found (do
        skipped ← Some <$> spec.count
        most ← spec.limit
        pure (record { limit = most; offset = skipped })) (pure (record { limit = None; offset = None })))

abbrev offset_first : Parser Limits
offset_first = do
  skipped ← spec.offset
  most ← spec.limit
  pure (record { limit = most; offset = skipped })

-- no LIMIT comes next
no-limit : (ts : Tokens) → sees_word (codes "limit") ts ≡ false → (found : Bool) → sees_word (codes "offset") ts ≡ found
    → cond found (do
      skipped ← Some <$> spec.count
      most ← spec.limit
      pure (record { limit = most; offset = skipped })) (pure (record { limit = None; offset = None })) (behind found ts) ≡ offset_first ts
unfolding spec.offset spec.limit
no-limit ts none true e = rw e refl
no-limit ts none false e = rw e (rw none refl)

same-reading : (ts : Tokens) → reordered ts ≡ spec.limits ts
unfolding spec.limits
same-reading ts = by (sees_word (codes "limit") ts) refl
  where
    by : (found : Bool) → sees_word (codes "limit") ts ≡ found → reordered ts ≡ (eat_word (codes "limit") >>= (λ b. cond b (do
      most ← spec.limit_count
      skipped ← spec.offset
      pure (record { limit = Some most; offset = skipped })) offset_first)) ts
    by true e = rw e refl
    by false e = rw e (no-limit ts e (sees_word (codes "offset") ts) refl)

abbrev factored : Line Limits
factored =
    lines.◌or◌ (lines.◌>>◌ (a_word (codes "limit")) (lines.◌>>=◌ limit_count (λ most. lines.◌>>=◌ line.offset (λ skipped. gives (record { limit = Some most; offset = skipped })))))
    (lines.◌or◌ (lines.◌>>◌ (a_word (codes "offset")) (lines.◌>>=◌ (lines.◌<$>◌ Some line.count) (λ skipped. lines.◌>>=◌ line.limit (λ most. gives (record { limit = most; offset = skipped })))))
    (gives (record { limit = None; offset = None })))

there : (ts : Tokens) (l : Limits) (us : Tokens) → factored ts l us → line.limits ts l us
unfolding line.limits line.limit line.offset
there ts l us (inl (u, middle, limit, (most, rest, spelt, more))) = inl (Some most, rest, inl (most, rest, (u, middle, limit, spelt), (refl, refl)), more)
there ts l us (inr (inl (u, middle, offset, (skipped, rest, (x, behind_count, spelt, given), more)))) = inr (skipped, rest, inl (x, behind_count, (u, middle, offset, spelt), given), more)
there ts l us (inr (inr none)) = inl (None, ts, inr (refl, refl), (None, ts, inr (refl, refl), none))

back : (ts : Tokens) (l : Limits) (us : Tokens) → line.limits ts l us → factored ts l us
unfolding line.limits line.limit line.offset
back ts l us (inl (most, rest, inl (x, behind_count, (u, middle, limit, spelt), given), more)) =
    inl (
      u,
      middle,
      limit,
      (
        x,
        rest,
        subst (λ vs. limit_count middle x vs) (sym given.1) spelt,
        subst (λ m. (lines.◌>>=◌ line.offset (λ skipped. gives (record { limit = m; offset = skipped }))) rest l us) given.0 more,
      ),
    )
back ts l us (inl (most, rest, inr none, (skipped, end, inl (x, behind_count, (u, middle, offset, spelt), given), final))) =
    inr (inl (u, middle, beginning none.1 offset, (skipped, end, (x, behind_count, spelt, given), (None, end, inr (refl, refl), ((let e = none.0 in let f = final.0 in cc), final.1)))))
back ts l us (inl (most, rest, inr none, (skipped, end, inr none_too, final))) =
    inr (inr ((let e = none.0 in let f = none_too.0 in let g = final.0 in cc), final.1 ∙ (none_too.1 ∙ none.1)))
back ts l us (inr (skipped, rest, inl (x, behind_count, (u, middle, offset, spelt), given), more)) = inr (inl (u, middle, offset, (skipped, rest, (x, behind_count, spelt, given), more)))
back ts l us (inr (skipped, rest, inr none, (most, end, inl (x, behind_count, (u, middle, limit, spelt), given), final))) =
    inl (u, middle, beginning none.1 limit, (x, behind_count, spelt, (None, behind_count, inr (refl, refl), ((let e = none.0 in let f = given.0 in let g = final.0 in cc), final.1 ∙ given.1))))
back ts l us (inr (skipped, rest, inr none, (most, end, inr none_too, final))) =
    inr (inr ((let e = none.0 in let f = none_too.0 in let g = final.0 in cc), final.1 ∙ (none_too.1 ∙ none.1)))

pub agrees-limits : {n : ℕ} (tail : Barred) → all_avoid tail (Head.others tail ∷ []) ≡ true
    → all_avoid (bar_word (codes "limit")) (Head.others tail ∷ []) ≡ true → all_avoid (bar_word (codes "offset")) (Head.others tail ∷ []) ≡ true
    → Agrees (Unit {0}) n spec.limits line.limits 0 (Head.word (codes "limit") ∷ Head.word (codes "offset") ∷ Head.others tail ∷ []) tail
agrees-limits {n = n} tail self limit offset = agrees-fewer 0 (omega arith) (agrees-read same-reading (agrees-same there back
    (agrees-word (codes "limit") (agrees-bind agrees-limit_count (λ most. agrees-bind (agrees-offset tail offset) (λ skipped. agrees-pure (record { limit = Some most; offset = skipped }) tail) self) refl)
    (agrees-word (codes "offset")
    (agrees-bind (agrees-bind agrees-count (λ x. agrees-pure (Some x) nothing) refl) (λ skipped. agrees-bind (agrees-limit tail limit) (λ most. agrees-pure (record { limit = most; offset = skipped }) tail) self) refl)
    (agrees-pure (record { limit = None; offset = None }) tail) offset) limit)))
