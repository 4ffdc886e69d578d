-- The longest expression that begins the tokens, from what is read of fronts of them.
use Rattle.std.proofs.Common.{◌≡◌, ◌⊎◌, inl, inr, ⊎_elim, ℕ, ◌+◌, ◌-◌, ◌≤◌, ◌<◌, Bool, true, false, cond, [], ◌∷◌, ◌++◌, length, take, drop, Option, Some, None, refl, sym, ap, subst, ◌∙◌, arith}
use Rattle.std.specs.Bool.{then_some}
use Rattle.std.proofs.lemmas.Bool.{cases_lt}
use Rattle.std.proofs.lemmas.List.{append-nil, append_assoc, length-append, length-drop, length-take-le, take_all, take-append-drop, drop-append-le}
use Rattle.std.proofs.Math.Seq.{drop-append_seam}
use Rattle.sql_tree.specs.declared.expr.Expr.{Expr}
use Rattle.sql_expr.specs.Reading.{Tokens}
use Rattle.sql_expr.specs.Expressions as spec
use Rattle.sql_expr.specs.Grammar as grammar
use Rattle.sql_expr.specs.Ended.{is_ended}
use Rattle.sql_expr.specs.Ended.{where_ended, IsToldOf, IsLongest}
use Rattle.sql_expr.proofs.Agreement.{same_value, same_rest}
use Rattle.sql_expr.proofs.ExpressionAgreement.{expression-spelt, expression-read}
use Rattle.sql_expr.proofs.Framing.{frames-expression}
use Rattle.sql_expr.proofs.Leaving.{read-place}

-- ---- two cuts of one list

-- what stands between two cuts
record Between (a b c d : Tokens) : Type 0 where
  middle : Tokens
  back : b ≡ middle ++ d
  front : c ≡ a ++ middle

between : (a b c d : Tokens) → a ++ b ≡ c ++ d → length d ≤ length b → Between a b c d
between [] b c d e few = record { middle = c; back = e; front = refl }
between (t ∷ a) b [] d e few = let same = ap length e in let sizes = length-append a b in absurd (omega (arith, same, sizes, few))
between (t ∷ a) b (r ∷ c) d e few =
    let rest = between a b c d (ap (drop 1) e) few in
    let first : t ≡ r = cc in
    record { middle = rest.middle; back = rest.back; front = ap (λ x. x ∷ c) (sym first) ∙ ap (λ xs. t ∷ xs) rest.front }

front-ended : (xs ys : Tokens) → is_ended (xs ++ ys) ≡ true → is_ended xs ≡ true
front-ended [] ys e = refl
front-ended (t ∷ xs) ys e = e

-- ---- one derivation beside another

-- behind which nothing could go on, none is longer
ended-longest : (ts : Tokens) (x : Expr) (us : Tokens) (y : Expr) (vs : Tokens) → grammar.expression ts x us → is_ended us ≡ true → grammar.expression ts y vs
    → (length us < length vs) ⊎ ((y ≡ x) × (vs ≡ us))
ended-longest ts x us y vs spelt ended other = ⊎_elim
    (λ shorter. inl shorter)
    (λ longer.
    let f = frames-expression.at ts x us spelt in
    let g = frames-expression.at ts y vs other in
    let b = between f.front us g.front vs (sym f.joined ∙ g.joined) (omega (arith, longer)) in
    let whole : grammar.expression g.front y [] = subst (λ xs. grammar.expression xs y []) (append-nil g.front) (g.anywhere []) in
    let short : grammar.expression g.front x b.middle = subst (λ xs. grammar.expression xs x b.middle) (sym b.front) (f.anywhere b.middle) in
    let free = front-ended b.middle vs (subst (λ xs. is_ended xs ≡ true) b.back ended) in
    let same = sym (expression-read g.front x b.middle short free) ∙ expression-read g.front y [] whole refl in
    let empty = same_rest x y b.middle [] same in
    inr (same_value x y b.middle [] same, sym (b.back ∙ ap (λ xs. xs ++ vs) (sym empty))))
    (cases_lt (length us) (length vs))

-- what is spelt by a front of the tokens is spelt by them
spelt-of-front : (ts : Tokens) (cut : ℕ) (x : Expr) (us : Tokens) → grammar.expression (take cut ts) x us → grammar.expression ts x (us ++ drop cut ts)
spelt-of-front ts cut x us spelt =
    let f = frames-expression.at (take cut ts) x us spelt in
    let rest = drop cut ts in
    let whole : f.front ++ (us ++ rest) ≡ ts = sym (append_assoc f.front us rest) ∙ (ap (λ xs. xs ++ rest) (sym f.joined) ∙ take-append-drop cut ts) in
    subst (λ xs. grammar.expression xs x (us ++ rest)) whole (f.anywhere (us ++ rest))

-- what is spelt by tokens, of which it takes none behind the cut
record Front (ts : Tokens) (cut : ℕ) (y : Expr) (vs : Tokens) : Type 0 where
  behind : Tokens
  spelt : grammar.expression (take cut ts) y behind
  back : vs ≡ behind ++ drop cut ts

spelt-by-front : (ts : Tokens) (cut : ℕ) (y : Expr) (vs : Tokens) → grammar.expression ts y vs → cut ≤ length ts → length ts ≤ cut + length vs → Front ts cut y vs
spelt-by-front ts cut y vs spelt within few =
    let g = frames-expression.at ts y vs spelt in
    let size = length-drop cut ts in
    let b = between g.front vs (take cut ts) (drop cut ts) (sym g.joined ∙ sym (take-append-drop cut ts)) (omega (arith, size, few, within)) in
    record { behind = b.middle; spelt = subst (λ xs. grammar.expression xs y b.middle) (sym b.front) (g.anywhere b.middle); back = b.back }

-- ---- fronts, one shorter than the other

-- no expression takes that many tokens or more
abbrev pub AllBelow : Tokens → ℕ → Type 0
AllBelow ts cut = (y : Expr) (vs : Tokens) → grammar.expression ts y vs → length ts < cut + length vs

pub all-below : (ts : Tokens) → AllBelow ts (length ts + 1)
all-below ts y vs spelt = omega arith

-- what is read of a front, where all are so short
pub front-longest : (ts : Tokens) (cut : ℕ) (x : Expr) (us : Tokens) → AllBelow ts (cut + 1) → cut ≤ length ts → where_ended (spec.expression (take cut ts)) ≡ Some (x, us) → grammar.longest ts x (us ++ drop cut ts)
front-longest ts cut x us below within e = by (spec.expression (take cut ts)) refl e
  where
    rest : (read : Expr × Tokens) → spec.expression (take cut ts) ≡ Some read → (ended : Bool) → is_ended read.1 ≡ ended → cond ended (Some read) None ≡ Some (x, us) → grammar.longest ts x (us ++ drop cut ts)
    rest read from true free same =
        let value = same_value read.0 x read.1 us same in
        let end = same_rest read.0 x read.1 us same in
        let spelt = expression-spelt (take cut ts) x us (from ∙ same) in (
          spelt-of-front ts cut x us spelt,
          λ y vs other.
              let short = below y vs other in
              let front = spelt-by-front ts cut y vs other within (omega (arith, short)) in
              let sizes = length-append us (drop cut ts) in
              let more = length-append front.behind (drop cut ts) in
              let same_size = ap length front.back in
              ⊎_elim
              (λ less. inl (omega (arith, less, sizes, more, same_size)))
              (λ one. inr (one.0, front.back ∙ ap (λ xs. xs ++ drop cut ts) one.1))
              (ended-longest (take cut ts) x us y front.behind spelt (subst (λ xs. is_ended xs ≡ true) (sym end) free) front.spelt),
        )
    rest read from false free same = cc

    by : (outcome : _) → spec.expression (take cut ts) ≡ outcome → where_ended outcome ≡ Some (x, us) → grammar.longest ts x (us ++ drop cut ts)
    by (Some read) from same = rest read from (is_ended read.1) refl same
    by None from same = cc

-- ---- a front of which nothing is read to its end, and a token that goes on with no expression

ended-kept : (ts : Tokens) (y : Expr) (vs : Tokens) → grammar.expression ts y vs → is_ended vs ≡ true → where_ended (spec.expression ts) ≡ None → ⊥
ended-kept ts y vs spelt ended none =
    let kept = ap where_ended (expression-read ts y vs spelt ended) ∙ ap (λ b. cond b (Some (y, vs)) None) ended in
    let both = sym kept ∙ none in cc

pub below-front : (ts : Tokens) (cut : ℕ) → AllBelow ts (cut + 1) → cut ≤ length ts → where_ended (spec.expression (take cut ts)) ≡ None → AllBelow ts cut
below-front ts cut below within none y vs spelt = ⊎_elim
    (λ less. less)
    (λ more.
    let short = below y vs spelt in
    let front = spelt-by-front ts cut y vs spelt within (omega (arith, short)) in
    let same = ap length front.back ∙ length-append front.behind (drop cut ts) in
    let size = length-drop cut ts in
    absurd (ended-kept (take cut ts) y front.behind front.spelt (empty-ended front.behind (omega (arith, same, size, more, short, within))) none))
    (cases_lt (length ts) (cut + length vs))
  where
    empty-ended : (xs : Tokens) → length xs ≤ 0 → is_ended xs ≡ true
    empty-ended [] few = refl
    empty-ended (t ∷ xs) few = absurd (omega (arith, few))

pub below-token : (ts : Tokens) (cut : ℕ) → AllBelow ts (cut + 1) → cut ≤ length ts → is_ended (drop cut ts) ≡ true → where_ended (spec.expression ts) ≡ None → AllBelow ts cut
below-token ts cut below within free none y vs spelt = ⊎_elim
    (λ less. less)
    (λ more.
    let short = below y vs spelt in
    let g = frames-expression.at ts y vs spelt in
    let sizes = ap length g.joined ∙ length-append g.front vs in
    let count : length g.front ≡ cut = omega (arith, sizes, more, short) in
    let here : drop cut ts ≡ vs = ap (λ n. drop n ts) (sym count) ∙ (ap (drop (length g.front)) g.joined ∙ drop-append_seam g.front vs) in
    absurd (ended-kept ts y vs spelt (subst (λ xs. is_ended xs ≡ true) here free) none))
    (cases_lt (length ts) (cut + length vs))

pub none-below : (ts : Tokens) → AllBelow ts 0 → (y : Expr) (vs : Tokens) → grammar.expression ts y vs → ⊥
none-below ts below y vs spelt =
    let short = below y vs spelt in
    let g = frames-expression.at ts y vs spelt in
    let sizes = ap length g.joined ∙ length-append g.front vs in
    omega (arith, sizes, short)

-- ---- what is read, told by its length

pub told : (ts : Tokens) (expr : Expr) (us : Tokens) (length_read : ℕ) (free : Bool) (result : Option (Expr × ℕ)) → spec.expression ts ≡ Some (expr, us) → length_read ≡ length ts - length us
    → free ≡ is_ended (drop length_read ts) → result ≡ then_some free (expr, length_read) → IsToldOf ts (where_ended (spec.expression ts)) result
told ts expr us length_read free result e size ended told_so =
    let place = read-place ts 0 expr us e in
    let here : us ≡ drop length_read ts = place.1 ∙ ap (λ n. drop n ts) (sym size) in
    subst (λ o. IsToldOf ts (where_ended o) result) (sym e)
    (subst (λ r. IsToldOf ts (where_ended (Some (expr, us))) r) (sym told_so) (by free (ap is_ended here ∙ sym ended) here (omega (arith, size))))
  where
    by : (b : Bool) → is_ended us ≡ b → us ≡ drop length_read ts → length_read ≤ length ts → IsToldOf ts (where_ended (Some (expr, us))) (then_some b (expr, length_read))
    by true q here few = (few, ap (λ b. cond b (Some (expr, us)) None) q ∙ ap (λ vs. Some (expr, vs)) here)
    by false q here few = ap (λ b. cond b (Some (expr, us)) None) q

-- what is told of a front
pub told-longest : (ts : Tokens) (cut : ℕ) (read : Expr × ℕ) → AllBelow ts (cut + 1) → cut ≤ length ts → IsToldOf (take cut ts) (where_ended (spec.expression (take cut ts))) (Some read) → IsLongest ts (Some read)
told-longest ts cut read below within is =
    let size = length-take-le cut ts within in
    let seam = drop-append-le read.1 (take cut ts) (drop cut ts) is.0 in
    let here : drop read.1 (take cut ts) ++ drop cut ts ≡ drop read.1 ts = sym seam ∙ ap (drop read.1) (take-append-drop cut ts) in
    (omega (arith, size, is.0), subst (λ us. grammar.longest ts read.0 us) here (front-longest ts cut read.0 (drop read.1 (take cut ts)) below within is.1))

-- what is told of all tokens
pub whole-longest : (ts : Tokens) (read : Expr × ℕ) → IsToldOf ts (where_ended (spec.expression ts)) (Some read) → IsLongest ts (Some read)
whole-longest ts read is =
    let all = take_all (length ts) ts (omega arith) in
    told-longest ts (length ts) read (all-below ts) (omega arith) (subst (λ xs. IsToldOf xs (where_ended (spec.expression xs)) (Some read)) (sym all) is)

-- nothing is told of a front
pub told-none : (ts : Tokens) (cut : ℕ) → AllBelow ts (cut + 1) → cut ≤ length ts → IsToldOf (take cut ts) (where_ended (spec.expression (take cut ts))) None → AllBelow ts cut
told-none ts cut below within is = below-front ts cut below within is

-- nor of all tokens
pub whole-none : (ts : Tokens) → IsToldOf ts (where_ended (spec.expression ts)) None → AllBelow ts (length ts)
whole-none ts is =
    let all = take_all (length ts) ts (omega arith) in
    told-none ts (length ts) (all-below ts) (omega arith) (subst (λ xs. IsToldOf xs (where_ended (spec.expression xs)) None) (sym all) is)

-- the bound before a cut is that behind the token after it
pub below-again : (ts : Tokens) (bound cut : ℕ) → AllBelow ts bound → bound ≡ cut → AllBelow ts cut
below-again ts bound cut below same = subst (AllBelow ts) same below
