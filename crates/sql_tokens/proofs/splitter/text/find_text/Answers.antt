use Rattle.std.proofs.Common.{◌≡◌, ℕ, ◌+◌, ◌<◌, ◌≤◌, Some, None, List, length, take, drop, get_or, refl}
use Rattle.std.specs.Prelude.{nat_lt}
use Rattle.sql_tokens.specs.declared.splitter.place.Place.{Place}
use Rattle.sql_tokens.specs.Places.{after, depth_of, content_at, place_after}
use Rattle.sql_tokens.specs.FirstText.{IsScanned, IsFirst}
use Rattle.sql_tokens.proofs.FirstText.{scanned_more, first_here, whole_rest}
use Rattle.sql_tokens.proofs.splitter.text.find_text.Goals as goal

scanned_in : (fed rest : List ℕ) (scanned count : ℕ) (p q : Place) → rest ≡ drop scanned fed → IsScanned fed scanned p
    → place_after p (take count rest) ≡ Some q → count ≤ length rest → depth_of q ≤ depth_of p + count → IsScanned fed (scanned + count) q
scanned_in fed rest scanned count p q e before behind within depth =
    scanned_more fed scanned count p q before (rw e at behind) (rw e at within) depth

first_in : (fed rest : List ℕ) (scanned count : ℕ) (p q : Place) → rest ≡ drop scanned fed → IsScanned fed scanned p
    → place_after p (take count rest) ≡ Some q → count ≤ length rest → (count < length rest → after q (get_or rest count 0) ≡ None)
    → IsFirst fed (scanned + count) (content_at q) (nat_lt count (length rest))
first_in fed rest scanned count p q e before behind within cut =
    rw e (first_here fed scanned count p q before (rw e at behind) (nat_lt count (length (drop scanned fed))) refl (rw e at within) (rw e at cut))

pub returns-clause-scanned : goal.returns-clause-scanned
returns-clause-scanned c =
    let e = c.advance-count.ensures in
    scanned_in c.args.fed.now _ c.args.scanned c.advance-count.result.0 c.args.place c.advance-count.result.1 (whole_rest c.args.fed.now c.args.scanned) c.requires e.place e.within e.depth

pub returns-clause-first : goal.returns-clause-first
returns-clause-first c =
    let e = c.advance-count.ensures in
    first_in c.args.fed.now _ c.args.scanned c.advance-count.result.0 c.args.place c.advance-count.result.1 (whole_rest c.args.fed.now c.args.scanned) c.requires e.place e.within e.cut
