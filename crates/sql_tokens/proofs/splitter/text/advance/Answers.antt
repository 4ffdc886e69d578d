use Rattle.std.proofs.Common.{◌≡◌, ◌<◌, Some, [], ◌∷◌, length, take, get_or, refl, sym, ◌∙◌, arith}
use Rattle.std.proofs.lemmas.List.{take_more}
use Rattle.sql_tokens.specs.Places.{after, place_after}
use Rattle.sql_tokens.proofs.FirstText.{place_after-append}
use Rattle.sql_tokens.proofs.splitter.text.advance.Goals as goal

pub loop-count-preserved : goal.loop-count-preserved
loop-count-preserved c =
    let bytes = c.args.bytes.now in
    let n = c.loop-count.count in
    let next : after c.loop-count.place (get_or bytes n 0) ≡ Some c.in-Some.next = sym c.after.ensures.after ∙ c.in-Some.is in
    let last : place_after c.loop-count.place (get_or bytes n 0 ∷ []) ≡ Some c.in-Some.next = rw next refl in
    let here : n < length bytes = c.loop-count-test.true in
    record {
      reached = rw (take_more bytes n 0 here) (place_after-append c.args.start c.loop-count.place (take n bytes) (get_or bytes n 0 ∷ []) c.loop-count.invariant.reached ∙ last);
      depth = let d = c.in-Some.ensures.depth in omega arith;
    }
