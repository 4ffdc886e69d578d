-- FETCH, MOVE and CLOSE are read exactly where they are spelt.
use Rattle.std.proofs.Common.{◌≡◌, ◌⊎◌, inl, inr, ⊎_elim, ℕ, ◌+◌, ◌≤◌, Bool, true, false, cond, ◌||◌, List, [], ◌∷◌, ◌++◌, length, Option, Some, None, codes, refl, sym, ap, subst, ◌∙◌, arith}
use Rattle.std.specs.Prelude.{ℤ, ◌*◌, ◌^◌, ◌-◌, nat_le}
use Rattle.std.proofs.Math.Nat.{add-mul, mul_assoc, pow-succ'}
use Rattle.std.proofs.lemmas.Bool.{leb-true, le-leb}
use Rattle.std.specs.List.{list_any}
use Rattle.std.specs.Str.{bytes_eq}
use Rattle.std.proofs.lemmas.Slice.Eq.{bytes_eq-Decides}
use Rattle.sql_tokens.specs.declared.token.Token.{Token}
use Rattle.sql_tokens.specs.declared.token.Token.TheVariants as token
use Rattle.sql_tokens.specs.declared.token.Sign.TheVariants as sign
use Rattle.sql_tree.specs.declared.command.Command.TheVariants as command
use Rattle.sql_tree.specs.declared.cursors.Motion.{Motion}
use Rattle.sql_tree.specs.declared.cursors.Motion.TheVariants as moves
use Rattle.sql_expr.specs.Reading.{Text, Tokens, Outcome, Parser, and_then, ◌>>=◌, ◌<$>◌, pure, taken}
use Rattle.sql_expr.specs.Lines.{Line, gives, unless, number, word as a_word, mark, maybe, TakesToken}
use Rattle.sql_expr.specs.Lines as lines
use Rattle.sql_expr.specs.Names.{is_reserved}
use Rattle.sql_reader_session.specs.declared.motions.Direction.{Direction}
use Rattle.sql_reader_session.specs.declared.motions.Direction.TheVariants as direction
use Rattle.sql_reader_session.specs.Cursors as cursors
use Rattle.sql_reader_session.specs.Motions.{direction_of}
use Rattle.sql_reader_session.specs.Motions as spec
use Rattle.sql_reader_session.specs.Numbers.{decimal_after, number_of, begins_integer, signed}
use Rattle.sql_reader_session.specs.Numbers as numbers
use Rattle.sql_reader.specs.Grammar as grammar
use Rattle.sql_expr.proofs.Heads.{Barred, Head, bars, is, clear, begins, begins-clear, clear-begins}
use Rattle.sql_expr.proofs.Agreement.{Agrees, Stands, one, agrees-unless, nothing, agrees-pure, agrees-bind, agrees-same, agrees-wider, agrees-word, agrees-one, agrees-test, tests-sign, taking}
use Rattle.sql_expr.proofs.ExpressionAgreement.{agrees-name}
use Rattle.sql_expr.proofs.TokenKinds.{stands-number}
use Rattle.sql_reader.proofs.CommandLines as line
use Rattle.sql_reader.proofs.OptionalAgreement.{agrees-read, agrees-looking}
use Rattle.sql_reader.proofs.KeywordAgreement.{agrees-map, agrees-required, exactly, agrees-anything, clear-nothing, agrees-either}
use Rattle.sql_reader.proofs.SettingAgreement.{numeral_heads}

-- ---- numbers

-- digits write what is gathered from the front
decimal-after : (n : ℕ) (digits : Text) → decimal_after n digits ≡ n * 10 ^ length digits + grammar.decimal digits
decimal-after n [] = omega arith
decimal-after n (d ∷ digits) =
    let rest = decimal-after (n * 10 + (d - 48)) digits in
    let parts = add-mul (n * 10) (d - 48) (10 ^ length digits) in
    let front = mul_assoc n 10 (10 ^ length digits) ∙ sym (ap (λ x. n * x) (pow-succ' 10 (length digits))) in
    omega (arith, rest, parts, front)

number-known : (digits : Text) (a : ℕ) → number_of digits ≡ Some a → (a ≡ grammar.decimal digits) × (a ≤ 2147483647)
unfolding number_of
number-known digits a found = by (nat_le (decimal_after 0 digits) 2147483647) refl found
  where
    by : (b : Bool) → nat_le (decimal_after 0 digits) 2147483647 ≡ b → cond b (Some (decimal_after 0 digits)) None ≡ Some a → (a ≡ grammar.decimal digits) × (a ≤ 2147483647)
    by true q e =
        let same : a ≡ decimal_after 0 digits = cc in
        let value = decimal-after 0 digits in
        let small = leb-true (decimal_after 0 digits) 2147483647 q in
        (omega (arith, same, value), omega (arith, same, small))
    by false q e = cc

known-number : (digits : Text) (a : ℕ) → a ≡ grammar.decimal digits → a ≤ 2147483647 → number_of digits ≡ Some a
unfolding number_of
known-number digits a value small =
    let same : decimal_after 0 digits ≡ a = let all = decimal-after 0 digits in omega (arith, value, all) in
    let within = le-leb (decimal_after 0 digits) 2147483647 (omega (arith, same, small)) in
    ap (λ b. cond b (Some (decimal_after 0 digits)) None) within ∙ ap Some same

module _ {n : ℕ} where
  pub agrees-count : Agrees (Unit {0}) n numbers.count grammar.unsigned_integer 1 (Head.number ∷ []) nothing
  unfolding numbers.count
  agrees-count = agrees-same there back (agrees-bind (agrees-one stands-number) (λ digits. agrees-required (number_of digits) nothing) refl)
    where
      there : (ts : Tokens) (a : ℕ) (us : Tokens) → lines.◌>>=◌ number (λ digits. exactly (number_of digits)) ts a us → grammar.unsigned_integer ts a us
      there ts a us (digits, middle, spelt, (found, same)) = let known = number-known digits a found in (digits, subst (λ vs. number ts digits vs) (sym same) spelt, known.0, known.1)

      back : (ts : Tokens) (a : ℕ) (us : Tokens) → grammar.unsigned_integer ts a us → lines.◌>>=◌ number (λ digits. exactly (number_of digits)) ts a us
      back ts a us (digits, spelt, value, small) = (digits, us, spelt, (known-number digits a value small, refl))

  pub agrees-integer : Agrees (Unit {0}) n numbers.integer line.integer 1 numeral_heads nothing
  unfolding numbers.integer line.integer
  agrees-integer = agrees-same there back (agrees-test signed_count (omega arith) (tests-sign sign.Minus) (behind_sign true) (behind_sign false) refl)
    where
      signed_count : Bool → Parser ℤ
      signed_count negative = numbers.count >>= (λ k. pure (signed negative k))

      behind_sign : (negative : Bool) → Agrees (Unit {0}) n (signed_count negative) (lines.◌>>=◌ grammar.unsigned_integer (λ k. gives (signed negative k))) 1 (Head.number ∷ []) nothing
      behind_sign negative = agrees-bind agrees-count (λ k. agrees-pure (signed negative k) nothing) refl

      ordered : Line ℤ
      ordered = lines.◌or◌ (lines.◌>>◌ (mark sign.Minus) (lines.◌>>=◌ grammar.unsigned_integer (λ k. gives (signed true k)))) (lines.◌>>=◌ grammar.unsigned_integer (λ k. gives (signed false k)))

      there : (ts : Tokens) (a : ℤ) (us : Tokens) → ordered ts a us → line.integer ts a us
      there ts a us (inl negative) = inr negative
      there ts a us (inr positive) = inl positive

      back : (ts : Tokens) (a : ℤ) (us : Tokens) → line.integer ts a us → ordered ts a us
      back ts a us (inl positive) = inr positive
      back ts a us (inr negative) = inl negative

abbrev bar_integer : Barred
bar_integer = record { words = []; signs = sign.Minus ∷ []; names = false; numbers = true; strings = false; params = false }

-- the tokens that could go on with a motion
abbrev pub bar_motion : Barred
bar_motion = record { words = codes "all" ∷ []; signs = sign.Minus ∷ []; names = false; numbers = true; strings = false; params = false }

integer-seen : (ts : Tokens) → begins numeral_heads ts ≡ true → begins_integer ts ≡ true
unfolding begins_integer
integer-seen [] e = cc
integer-seen (token.Word w ∷ ts) e = cc
integer-seen (token.Quoted q ∷ ts) e = cc
integer-seen (token.Sign sign.Minus ∷ ts) e = refl
integer-seen (token.Sign s ∷ ts) e = cc
integer-seen (token.Number d ∷ ts) e = refl
integer-seen (token.Text x ∷ ts) e = cc
integer-seen (token.Param d ∷ ts) e = cc
integer-seen (token.Backslash l ∷ ts) e = cc

no-integer : (ts : Tokens) → clear bar_integer ts ≡ true → begins_integer ts ≡ false
unfolding begins_integer
no-integer [] c = refl
no-integer (token.Word w ∷ ts) c = refl
no-integer (token.Quoted q ∷ ts) c = refl
no-integer (token.Sign sign.Minus ∷ ts) c = cc
no-integer (token.Sign s ∷ ts) c = refl
no-integer (token.Number d ∷ ts) c = cc
no-integer (token.Text x ∷ ts) c = refl
no-integer (token.Param d ∷ ts) c = refl
no-integer (token.Backslash l ∷ ts) c = refl

-- an integer comes next
seen : {B : Type 0} (f : ℤ → B) (ts : Tokens) (b : B) (us : Tokens) → (lines.◌<$>◌ f line.integer) ts b us → begins_integer ts ≡ true
seen f ts b us (a, middle, front, same) = integer-seen ts ((agrees-integer {n = 0}).starts ts a middle front (clear-nothing middle))

-- ---- directions

-- what stands behind a direction
abbrev directed : Direction → Line Motion
directed direction.Next = gives moves.Next
directed direction.Prior = gives moves.Prior
directed direction.First = gives moves.First
directed direction.Last = gives moves.Last
directed direction.Absolute = lines.◌<$>◌ moves.Absolute line.integer
directed direction.Relative = lines.◌<$>◌ moves.Relative line.integer
directed direction.All = gives moves.All
directed direction.Forward = lines.◌or◌ (lines.◌>>◌ (a_word (codes "all")) (gives moves.ForwardAll)) (lines.◌<$>◌ moves.Forward (maybe line.integer))
directed direction.Backward = lines.◌or◌ (lines.◌>>◌ (a_word (codes "all")) (gives moves.BackwardAll)) (lines.◌<$>◌ moves.Backward (maybe line.integer))

abbrev pub direction_heads : List Head
direction_heads =
    Head.word (codes "next") ∷ Head.word (codes "prior") ∷ Head.word (codes "first") ∷ Head.word (codes "last") ∷ Head.word (codes "absolute")
    ∷ Head.word (codes "relative") ∷ Head.word (codes "all") ∷ Head.word (codes "forward") ∷ Head.word (codes "backward") ∷ []

abbrev bar_directions : Barred
bar_directions = record {
  words = codes "next" ∷ codes "prior" ∷ codes "first" ∷ codes "last" ∷ codes "absolute" ∷ codes "relative" ∷ codes "all" ∷ codes "forward" ∷ codes "backward" ∷ [];
  signs = [];
  names = false;
  numbers = false;
  strings = false;
  params = false;
}

-- the word is this one, and stands for what is found; or it stands for what the others do
pick : (w v : Text) (found d : Direction) (rest : Option Direction) → cond (bytes_eq w v) (Some found) rest ≡ Some d → ((w ≡ v) × (d ≡ found)) ⊎ (rest ≡ Some d)
pick w v found d rest e = by (bytes_eq w v) refl e
  where
    by : (b : Bool) → bytes_eq w v ≡ b → cond b (Some found) rest ≡ Some d → ((w ≡ v) × (d ≡ found)) ⊎ (rest ≡ Some d)
    by true q e = let same : d ≡ found = cc in inl ((bytes_eq-Decides w v).0 q, same)
    by false q e = inr e

stands-direction : Stands direction_of (one direction_of) direction_heads bar_directions
stands-direction = record { shows = shows; none = none; there = λ ts a us spelt. spelt; back = λ ts a us spelt. spelt }
  where
    shows-word : (a b c d e f g h i : Bool) (found : Direction)
        → cond a (Some direction.Next) (cond b (Some direction.Prior) (cond c (Some direction.First) (cond d (Some direction.Last) (cond e (Some direction.Absolute) (cond f (Some direction.Relative)
        (cond g (Some direction.All) (cond h (Some direction.Forward) (cond i (Some direction.Backward) None)))))))) ≡ Some found
        → (a || (b || (c || (d || (e || (f || (g || (h || (i || false))))))))) ≡ true
    shows-word true b c d e f g h i found v = refl
    shows-word false true c d e f g h i found v = refl
    shows-word false false true d e f g h i found v = refl
    shows-word false false false true e f g h i found v = refl
    shows-word false false false false true f g h i found v = refl
    shows-word false false false false false true g h i found v = refl
    shows-word false false false false false false true h i found v = refl
    shows-word false false false false false false false true i found v = refl
    shows-word false false false false false false false false true found v = refl
    shows-word false false false false false false false false false found v = cc

    shows : (t : Token) (found : Direction) → direction_of t ≡ Some found → list_any (λ head. is head t) direction_heads ≡ true
    shows (token.Word w) found v = shows-word (bytes_eq w (codes "next")) (bytes_eq w (codes "prior")) (bytes_eq w (codes "first")) (bytes_eq w (codes "last")) (bytes_eq w (codes "absolute"))
        (bytes_eq w (codes "relative")) (bytes_eq w (codes "all")) (bytes_eq w (codes "forward")) (bytes_eq w (codes "backward")) found v
    shows (token.Quoted q) found v = cc
    shows (token.Sign s) found v = cc
    shows (token.Number d) found v = cc
    shows (token.Text x) found v = cc
    shows (token.Param d) found v = cc
    shows (token.Backslash l) found v = cc

    none-word : (a b c d e f g h i : Bool) → ((a || (b || (c || (d || (e || (f || (g || (h || (i || false))))))))) || false) ≡ false
        → cond {A = Option Direction} a (Some direction.Next) (cond b (Some direction.Prior) (cond c (Some direction.First) (cond d (Some direction.Last) (cond e (Some direction.Absolute) (cond f (Some direction.Relative)
        (cond g (Some direction.All) (cond h (Some direction.Forward) (cond i (Some direction.Backward) None)))))))) ≡ None
    none-word true b c d e f g h i v = cc
    none-word false true c d e f g h i v = cc
    none-word false false true d e f g h i v = cc
    none-word false false false true e f g h i v = cc
    none-word false false false false true f g h i v = cc
    none-word false false false false false true g h i v = cc
    none-word false false false false false false true h i v = cc
    none-word false false false false false false false true i v = cc
    none-word false false false false false false false false true v = cc
    none-word false false false false false false false false false v = refl

    none : (t : Token) → bars bar_directions t ≡ false → direction_of t ≡ None
    none (token.Word w) b = none-word (bytes_eq w (codes "next")) (bytes_eq w (codes "prior")) (bytes_eq w (codes "first")) (bytes_eq w (codes "last")) (bytes_eq w (codes "absolute"))
        (bytes_eq w (codes "relative")) (bytes_eq w (codes "all")) (bytes_eq w (codes "forward")) (bytes_eq w (codes "backward")) b
    none (token.Quoted q) b = refl
    none (token.Sign s) b = refl
    none (token.Number d) b = refl
    none (token.Text x) b = refl
    none (token.Param d) b = refl
    none (token.Backslash l) b = refl

-- the tokens with which a motion begins, or what follows where it is left out
abbrev pub motion_heads : List Head
motion_heads = numeral_heads ++ direction_heads ++ Head.others bar_motion ∷ []

abbrev direction_or_next : Line Motion
direction_or_next = lines.◌or◌ (lines.◌>>=◌ (one direction_of) directed) (lines.◌>>◌ (unless (one direction_of)) (gives moves.Next))

-- a direction comes next
seen-direction : (ts : Tokens) (us : Tokens) → grammar.direction ts tt us → (d : Direction) × one direction_of ts d us
seen-direction ts us (inl e) = (direction.Next, (token.Word (codes "next"), e, refl))
seen-direction ts us (inr (inl e)) = (direction.Prior, (token.Word (codes "prior"), e, refl))
seen-direction ts us (inr (inr (inl e))) = (direction.First, (token.Word (codes "first"), e, refl))
seen-direction ts us (inr (inr (inr (inl e)))) = (direction.Last, (token.Word (codes "last"), e, refl))
seen-direction ts us (inr (inr (inr (inr (inl e))))) = (direction.Absolute, (token.Word (codes "absolute"), e, refl))
seen-direction ts us (inr (inr (inr (inr (inr (inl e)))))) = (direction.Relative, (token.Word (codes "relative"), e, refl))
seen-direction ts us (inr (inr (inr (inr (inr (inr (inl e))))))) = (direction.All, (token.Word (codes "all"), e, refl))
seen-direction ts us (inr (inr (inr (inr (inr (inr (inr (inl e)))))))) = (direction.Forward, (token.Word (codes "forward"), e, refl))
seen-direction ts us (inr (inr (inr (inr (inr (inr (inr (inr e)))))))) = (direction.Backward, (token.Word (codes "backward"), e, refl))

spelt-direction : (ts : Tokens) (d : Direction) (us : Tokens) → one direction_of ts d us → grammar.direction ts tt us
spelt-direction ts d us (t, e, v) = by t e v
  where
    is : (w v : Text) (found : Direction) → TakesToken (token.Word w) ts us → (w ≡ v) × (d ≡ found) → TakesToken (token.Word v) ts us
    is w v found e same = taking e (ap token.Word same.0)

    by : (t : Token) → TakesToken t ts us → direction_of t ≡ Some d → grammar.direction ts tt us
    by (token.Word w) e v = ⊎_elim (λ x. inl (is w (codes "next") direction.Next e x)) (λ v.
        ⊎_elim (λ x. inr (inl (is w (codes "prior") direction.Prior e x))) (λ v.
        ⊎_elim (λ x. inr (inr (inl (is w (codes "first") direction.First e x)))) (λ v.
        ⊎_elim (λ x. inr (inr (inr (inl (is w (codes "last") direction.Last e x))))) (λ v.
        ⊎_elim (λ x. inr (inr (inr (inr (inl (is w (codes "absolute") direction.Absolute e x)))))) (λ v.
        ⊎_elim (λ x. inr (inr (inr (inr (inr (inl (is w (codes "relative") direction.Relative e x))))))) (λ v.
        ⊎_elim (λ x. inr (inr (inr (inr (inr (inr (inl (is w (codes "all") direction.All e x)))))))) (λ v.
        ⊎_elim (λ x. inr (inr (inr (inr (inr (inr (inr (inl (is w (codes "forward") direction.Forward e x))))))))) (λ v.
        ⊎_elim (λ x. inr (inr (inr (inr (inr (inr (inr (inr (is w (codes "backward") direction.Backward e x))))))))) (λ v. cc)
        (pick w (codes "backward") direction.Backward d _ v)) (pick w (codes "forward") direction.Forward d _ v)) (pick w (codes "all") direction.All d _ v)) (pick w (codes "relative") direction.Relative d _ v))
        (pick w (codes "absolute") direction.Absolute d _ v)) (pick w (codes "last") direction.Last d _ v)) (pick w (codes "first") direction.First d _ v)) (pick w (codes "prior") direction.Prior d _ v))
        (pick w (codes "next") direction.Next d _ v)
    by t e v = cc

-- the line in the order in which it is read
abbrev ordered : Line Motion
ordered = lines.◌or◌ (lines.◌<$>◌ moves.Count line.integer) direction_or_next

there : (ts : Tokens) (a : Motion) (us : Tokens) → ordered ts a us → line.optional_motion ts a us
unfolding line.motion
there ts a us (inl count) = inl (inr (inr (inr (inr (inr (inr (inl count)))))))
there ts a us (inr (inr (x, middle, none, given))) = inr (tt, middle, (none.0, λ u vs spelt. let found = seen-direction ts vs spelt in none.1 found.0 vs found.1), given)
there ts a us (inr (inl (d, middle, (t, e, v), rest))) = by t e v
  where
    at : (w v : Text) (found : Direction) → TakesToken (token.Word w) ts middle → (w ≡ v) × (d ≡ found) → (lines.◌>>◌ (a_word v) (directed found)) ts a us
    at w v found e same = (tt, middle, taking e (ap token.Word same.0), subst (λ x. directed x middle a us) same.1 rest)

    by : (t : Token) → TakesToken t ts middle → direction_of t ≡ Some d → line.optional_motion ts a us
    by (token.Word w) e v = inl (⊎_elim (λ x. inl (at w (codes "next") direction.Next e x)) (λ v.
        ⊎_elim (λ x. inr (inl (at w (codes "prior") direction.Prior e x))) (λ v.
        ⊎_elim (λ x. inr (inr (inl (at w (codes "first") direction.First e x)))) (λ v.
        ⊎_elim (λ x. inr (inr (inr (inl (at w (codes "last") direction.Last e x))))) (λ v.
        ⊎_elim (λ x. inr (inr (inr (inr (inl (at w (codes "absolute") direction.Absolute e x)))))) (λ v.
        ⊎_elim (λ x. inr (inr (inr (inr (inr (inl (at w (codes "relative") direction.Relative e x))))))) (λ v.
        ⊎_elim (λ x. inr (inr (inr (inr (inr (inr (inr (inl (at w (codes "all") direction.All e x))))))))) (λ v.
        ⊎_elim (λ x. inr (inr (inr (inr (inr (inr (inr (inr (inl (at w (codes "forward") direction.Forward e x)))))))))) (λ v.
        ⊎_elim (λ x. inr (inr (inr (inr (inr (inr (inr (inr (inr (at w (codes "backward") direction.Backward e x)))))))))) (λ v. cc)
        (pick w (codes "backward") direction.Backward d _ v)) (pick w (codes "forward") direction.Forward d _ v)) (pick w (codes "all") direction.All d _ v)) (pick w (codes "relative") direction.Relative d _ v))
        (pick w (codes "absolute") direction.Absolute d _ v)) (pick w (codes "last") direction.Last d _ v)) (pick w (codes "first") direction.First d _ v)) (pick w (codes "prior") direction.Prior d _ v))
        (pick w (codes "next") direction.Next d _ v))
    by (token.Quoted q) e v = cc
    by (token.Sign s) e v = cc
    by (token.Number x) e v = cc
    by (token.Text x) e v = cc
    by (token.Param x) e v = cc
    by (token.Backslash l) e v = cc

back : (ts : Tokens) (a : Motion) (us : Tokens) → line.optional_motion ts a us → ordered ts a us
unfolding line.motion
back ts a us (inr (x, middle, none, given)) = inr (inr (tt, middle, (none.0, λ d vs spelt. none.1 tt vs (spelt-direction ts d vs spelt)), given))
back ts a us (inl (inl (u, middle, e, rest))) = inr (inl (direction.Next, middle, (token.Word (codes "next"), e, refl), rest))
back ts a us (inl (inr (inl (u, middle, e, rest)))) = inr (inl (direction.Prior, middle, (token.Word (codes "prior"), e, refl), rest))
back ts a us (inl (inr (inr (inl (u, middle, e, rest))))) = inr (inl (direction.First, middle, (token.Word (codes "first"), e, refl), rest))
back ts a us (inl (inr (inr (inr (inl (u, middle, e, rest)))))) = inr (inl (direction.Last, middle, (token.Word (codes "last"), e, refl), rest))
back ts a us (inl (inr (inr (inr (inr (inl (u, middle, e, rest))))))) = inr (inl (direction.Absolute, middle, (token.Word (codes "absolute"), e, refl), rest))
back ts a us (inl (inr (inr (inr (inr (inr (inl (u, middle, e, rest)))))))) = inr (inl (direction.Relative, middle, (token.Word (codes "relative"), e, refl), rest))
back ts a us (inl (inr (inr (inr (inr (inr (inr (inl count)))))))) = inl count
back ts a us (inl (inr (inr (inr (inr (inr (inr (inr (inl (u, middle, e, rest)))))))))) = inr (inl (direction.All, middle, (token.Word (codes "all"), e, refl), rest))
back ts a us (inl (inr (inr (inr (inr (inr (inr (inr (inr (inl (u, middle, e, rest))))))))))) = inr (inl (direction.Forward, middle, (token.Word (codes "forward"), e, refl), rest))
back ts a us (inl (inr (inr (inr (inr (inr (inr (inr (inr (inr (u, middle, e, rest))))))))))) = inr (inl (direction.Backward, middle, (token.Word (codes "backward"), e, refl), rest))

-- a value that is looked at again
then-same : {A B C : Type 0} (o : Outcome A) (g : A → B) (h : B → Parser C) → and_then o (λ a. h (g a)) ≡ and_then (and_then o (λ a. pure (g a))) h
then-same (Some p) g h = refl
then-same None g h = refl

module _ {n : ℕ} where
  pub agrees-optional_integer : Agrees (Unit {0}) n numbers.optional_integer (maybe line.integer) 0 (numeral_heads ++ Head.others bar_motion ∷ []) bar_motion
  unfolding numbers.optional_integer
  agrees-optional_integer = agrees-looking {n = n} (seen Some) unseen (agrees-map Some (agrees-wider bar_motion refl agrees-integer)) (agrees-pure None bar_motion)
    where
      unseen : (ts : Tokens) (o : Option ℤ) (us : Tokens) → gives None ts o us → clear bar_motion us ≡ true → begins_integer ts ≡ false
      unseen ts o us same ends = no-integer ts (begins-clear bar_integer (Head.others bar_motion ∷ []) ts refl (clear-begins bar_motion ts (subst (λ vs. clear bar_motion vs ≡ true) same.1 ends)))

  agrees-directed : (d : Direction) → Agrees (Unit {0}) n (spec.directed d) (directed d) 0 (Head.others nothing ∷ []) bar_motion
  unfolding spec.forward spec.backward
  agrees-directed direction.Next = agrees-anything (agrees-pure moves.Next bar_motion)
  agrees-directed direction.Prior = agrees-anything (agrees-pure moves.Prior bar_motion)
  agrees-directed direction.First = agrees-anything (agrees-pure moves.First bar_motion)
  agrees-directed direction.Last = agrees-anything (agrees-pure moves.Last bar_motion)
  agrees-directed direction.Absolute = agrees-anything (agrees-map moves.Absolute (agrees-wider bar_motion refl agrees-integer))
  agrees-directed direction.Relative = agrees-anything (agrees-map moves.Relative (agrees-wider bar_motion refl agrees-integer))
  agrees-directed direction.All = agrees-anything (agrees-pure moves.All bar_motion)
  agrees-directed direction.Forward = agrees-anything (agrees-word (codes "all") (agrees-pure moves.ForwardAll bar_motion) (agrees-map moves.Forward agrees-optional_integer) refl)
  agrees-directed direction.Backward = agrees-anything (agrees-word (codes "all") (agrees-pure moves.BackwardAll bar_motion) (agrees-map moves.Backward agrees-optional_integer) refl)

  agrees-direction_or_next : Agrees (Unit {0}) n (taken direction_of >>= spec.directed_or_next) direction_or_next 0 (direction_heads ++ Head.others bar_motion ∷ []) bar_motion
  agrees-direction_or_next = agrees-unless spec.directed_or_next (omega arith) stands-direction agrees-directed (agrees-pure moves.Next bar_motion)

  agrees-optional_motion : Agrees (Unit {0}) n spec.optional_motion line.optional_motion 0 motion_heads bar_motion
  unfolding spec.optional_motion numbers.optional_integer
  agrees-optional_motion = agrees-same there back (agrees-read same_so (agrees-looking {n = n} (seen moves.Count) unseen (agrees-map moves.Count (agrees-wider bar_motion refl agrees-integer)) agrees-direction_or_next))
    where
      unseen : (ts : Tokens) (a : Motion) (us : Tokens) → direction_or_next ts a us → clear bar_motion us ≡ true → begins_integer ts ≡ false
      unseen ts a us spelt ends = no-integer ts (begins-clear bar_integer (direction_heads ++ Head.others bar_motion ∷ []) ts refl (agrees-direction_or_next.starts ts a us spelt ends))

      by : (found : Bool) (ts : Tokens) → cond {A = Parser Motion} found (moves.Count <$> numbers.integer) (taken direction_of >>= spec.directed_or_next) ts
          ≡ and_then (cond {A = Parser (Option ℤ)} found (Some <$> numbers.integer) (pure None) ts) spec.counted_or_directed
      by true ts = then-same (numbers.integer ts) Some spec.counted_or_directed
      by false ts = refl

      same_so : (ts : Tokens) → cond {A = Parser Motion} (begins_integer ts) (moves.Count <$> numbers.integer) (taken direction_of >>= spec.directed_or_next) ts ≡ spec.optional_motion ts
      same_so ts = by (begins_integer ts) ts

  agrees-fetch_tree : Agrees (Unit {0}) n cursors.fetch_tree line.fetch_tree 1 motion_heads nothing
  unfolding cursors.fetch_tree line.fetch_tree is_reserved
  agrees-fetch_tree = agrees-bind agrees-optional_motion (λ motion. agrees-either (codes "from") (codes "in") refl refl (agrees-bind agrees-name (λ cursor. agrees-pure (record { motion = motion; cursor = cursor }) nothing) refl)) refl

  pub agrees-fetch : Agrees (Unit {0}) n cursors.fetch (lines.◌<$>◌ command.Fetch line.fetch_tree) 1 motion_heads nothing
  unfolding cursors.fetch
  agrees-fetch = agrees-map command.Fetch agrees-fetch_tree

  pub agrees-move_cursor : Agrees (Unit {0}) n cursors.move_cursor (lines.◌<$>◌ command.Move line.fetch_tree) 1 motion_heads nothing
  unfolding cursors.move_cursor
  agrees-move_cursor = agrees-map command.Move agrees-fetch_tree

  pub agrees-close : Agrees (Unit {0}) n cursors.close line.close 1 (Head.word (codes "all") ∷ Head.name ∷ []) nothing
  unfolding cursors.close line.close is_reserved
  agrees-close = agrees-word (codes "all") (agrees-pure command.CloseAll nothing) (agrees-map command.Close agrees-name) refl
