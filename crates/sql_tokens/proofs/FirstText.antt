use Rattle.std.proofs.Common.{◌≡◌, ℕ, ◌+◌, ◌-◌, ◌<◌, ◌≤◌, Bool, true, false, Option, None, Some, List, [], ◌∷◌, ◌++◌, length, take, drop, get_or, refl, ap, sym, ◌∙◌, arith, append_assoc, length-append}
use Rattle.std.specs.Prelude.{nat_lt, option_and_then}
use Rattle.std.proofs.lemmas.Bool.{ltb-true, ltb-false}
use Rattle.std.proofs.lemmas.List.{append-nil, take-append-drop, drop_more, get_or-drop, length-drop}
use Rattle.std.proofs.Math.Seq.{take-add, take-length}
use Rattle.sql_tokens.specs.declared.splitter.place.Place.{Place}
use Rattle.sql_tokens.specs.declared.splitter.place.Place.TheVariants.{Between}
use Rattle.sql_tokens.specs.Script.{Text, texts, with_byte}
use Rattle.sql_tokens.specs.Places.{after, depth_of, content_at, place_after}
use Rattle.sql_tokens.specs.FirstText.{IsScanned, IsLonger, IsFirst}
use Rattle.sql_tokens.proofs.Agreement.{one_more, texts_at, texts_at_start}

-- The first text, from the place after its bytes.

abbrev with_bytes : List ℕ → List Text → List Text
with_bytes [] ts = ts
with_bytes (b ∷ bytes) ts = with_byte b (with_bytes bytes ts)

with_bytes-cons : (bytes : List ℕ) (t : Text) (ts : List Text) → with_bytes bytes (t ∷ ts) ≡ record t { bytes = bytes ++ t.bytes } ∷ ts
with_bytes-cons [] t ts = refl
with_bytes-cons (b ∷ bytes) t ts = ap (with_byte b) (with_bytes-cons bytes t ts)

-- the place after more bytes
pub place_after-append : (p q : Place) (xs ys : List ℕ) → place_after p xs ≡ Some q → place_after p (xs ++ ys) ≡ place_after q ys
place_after-append p q [] ys h = let e : p ≡ q = cc in ap (λ (z : Place). place_after z ys) e
place_after-append p q (x ∷ xs) ys h =
    let along : (o : Option Place) → option_and_then (λ n. place_after n xs) o ≡ Some q → option_and_then (λ n. place_after n (xs ++ ys)) o ≡ place_after q ys
    = λ o. elim o as (λ o. option_and_then (λ n. place_after n xs) o ≡ Some q → option_and_then (λ n. place_after n (xs ++ ys)) o ≡ place_after q ys)
    [ None ↦ λ e. cc | Some n ↦ λ e. place_after-append n q xs ys e ] in
    along (after p x) h

texts_at-append : (p q : Place) (xs ys : List ℕ) → place_after p xs ≡ Some q → texts_at p (xs ++ ys) ≡ with_bytes xs (texts_at q ys)
texts_at-append p q [] ys h = let e : p ≡ q = cc in ap (λ (z : Place). texts_at z ys) e
texts_at-append p q (x ∷ xs) ys h =
    let along : (o : Option Place) → option_and_then (λ n. place_after n xs) o ≡ Some q → one_more p x o (λ n. texts_at n (xs ++ ys)) ≡ with_byte x (with_bytes xs (texts_at q ys))
    = λ o. elim o as (λ o. option_and_then (λ n. place_after n xs) o ≡ Some q → one_more p x o (λ n. texts_at n (xs ++ ys)) ≡ with_byte x (with_bytes xs (texts_at q ys)))
    [ None ↦ λ e. cc | Some n ↦ λ e. ap (with_byte x) (texts_at-append n q xs ys e) ] in
    along (after p x) h

-- there is a text, whatever comes
texts_at_some : (p : Place) (bytes : List ℕ) → (t : Text) × (ts : List Text) × (texts_at p bytes ≡ t ∷ ts)
texts_at_some p [] = (_, _, refl)
texts_at_some p (b ∷ bytes) =
    let along : (o : Option Place) → (t : Text) × (ts : List Text) × (one_more p b o (λ n. texts_at n bytes) ≡ t ∷ ts)
    = λ o. elim o as (λ o. (t : Text) × (ts : List Text) × (one_more p b o (λ n. texts_at n bytes) ≡ t ∷ ts))
    [ None ↦ (_, _, refl) | Some n ↦ (let w = texts_at_some n bytes in (_, _, ap (with_byte b) w.2)) ] in
    along (after p b)

texts_from_place : (q : Place) (xs ys : List ℕ) → place_after (Between true) xs ≡ Some q → texts (xs ++ ys) ≡ with_bytes xs (texts_at q ys)
texts_from_place q xs ys h = sym (texts_at_start (xs ++ ys)) ∙ texts_at-append (Between true) q xs ys h

-- a text and its cut
first_cut : (q : Place) (xs : List ℕ) (b : ℕ) (ys : List ℕ) → place_after (Between true) xs ≡ Some q → after q b ≡ None → texts (xs ++ (b ∷ ys)) ≡ record { bytes = xs; content = content_at q; cut = true } ∷ texts ys
first_cut q xs b ys h n =
    let found : texts_at q (b ∷ ys) ≡ record { bytes = []; content = content_at q; cut = true } ∷ texts_at (Between true) ys = rw n refl in
    texts_from_place q xs (b ∷ ys) h ∙ ap (with_bytes xs) found ∙ with_bytes-cons xs _ _
    ∙ rw (append-nil xs) (ap (λ (ts : List Text). record { bytes = xs; content = content_at q; cut = true } ∷ ts) (texts_at_start ys))

-- a text up to the end
first_open : (q : Place) (xs : List ℕ) → place_after (Between true) xs ≡ Some q → texts xs ≡ record { bytes = xs; content = content_at q; cut = false } ∷ []
first_open q xs h =
    ap texts (sym (append-nil xs)) ∙ texts_from_place q xs [] h ∙ with_bytes-cons xs _ _ ∙ rw (append-nil xs) refl

first_longer : (q : Place) (xs ys : List ℕ) → place_after (Between true) xs ≡ Some q → IsLonger xs ys
first_longer q xs ys h =
    let w = texts_at_some q ys in
    record {
      text = record w.0 { bytes = xs ++ w.0.bytes };
      others = w.1;
      are = texts_from_place q xs ys h ∙ ap (with_bytes xs) w.2 ∙ with_bytes-cons xs w.0 w.1;
      longer = omega (arith, length-append xs w.0.bytes);
    }

module _ (fed : List ℕ) (scanned count : ℕ) (p q : Place) (before : IsScanned fed scanned p) (behind : place_after p (take count (drop scanned fed)) ≡ Some q) where
  whole_place : place_after (Between true) (take (scanned + count) fed) ≡ Some q
  whole_place = rw (take-add scanned count fed) (place_after-append (Between true) p (take scanned fed) (take count (drop scanned fed)) before.leads ∙ behind)

  pub scanned_more : count ≤ length (drop scanned fed) → depth_of q ≤ depth_of p + count → IsScanned fed (scanned + count) q
  scanned_more within depth = record {
    within = let w = before.within in omega (arith, length-drop scanned fed);
    leads = whole_place;
    depth = let d = before.depth in omega arith;
  }

  pub first_here : (v : Bool) → nat_lt count (length (drop scanned fed)) ≡ v → count ≤ length (drop scanned fed)
      → (count < length (drop scanned fed) → after q (get_or (drop scanned fed) count 0) ≡ None)
      → IsFirst fed (scanned + count) (content_at q) v
  first_here true e within cut =
      let n = scanned + count in
      let w = before.within in
      let below : count < length (drop scanned fed) = ltb-true count (length (drop scanned fed)) e in
      let inside : n < length fed = omega (arith, length-drop scanned fed) in
      let none : after q (get_or fed n 0) ≡ None = rw (get_or-drop scanned fed count 0) at (cut below) in (
        omega arith,
        λ more.
            let parts : fed ++ more ≡ take n fed ++ (get_or fed n 0 ∷ (drop (n + 1) fed ++ more))
            = ap (λ (xs : List ℕ). xs ++ more) (sym (take-append-drop n fed)) ∙ append_assoc (take n fed) (drop n fed) more
            ∙ ap (λ (xs : List ℕ). take n fed ++ (xs ++ more)) (drop_more fed n 0 inside) in
            ap texts parts ∙ first_cut q (take n fed) (get_or fed n 0) (drop (n + 1) fed ++ more) whole_place none,
      )
  first_here false e within cut =
      let w = before.within in
      let above : length (drop scanned fed) ≤ count = ltb-false count (length (drop scanned fed)) e in
      let all : scanned + count ≡ length fed = omega (arith, length-drop scanned fed) in
      let place : place_after (Between true) fed ≡ Some q = rw (all, take-length fed) at whole_place in
      (all, first_open q fed place, λ more. first_longer q fed more place)

-- the bytes from a place on, as a slice's range has them
pub whole_rest : (fed : List ℕ) (scanned : ℕ) → take (length fed - scanned) (drop scanned fed) ≡ drop scanned fed
whole_rest fed scanned = rw (← length-drop scanned fed) (take-length (drop scanned fed))
