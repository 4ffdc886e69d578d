use Rattle.std.proofs.Common.{◌≡◌, ◌≢◌, ℕ, zero, suc, ◌+◌, ◌-◌, ◌==◌, ◌&&◌, ◌||◌, cond, Bool, true, false, List, [], ◌∷◌, Option, Some, None, Ok, Err, refl, sym, ap, ap₂, ◌∙◌, subst, add-one, ne_eqb, eqb-true, arith}
use Rattle.std.proofs.lemmas.Bool.{cond_both, and_parts, or_parts}
use Rattle.sql_tokens.specs.declared.lexer.Place.{Place}
use Rattle.sql_tokens.specs.declared.lexer.Place.TheVariants.{Start, Later, BackslashLine}
use Rattle.sql_tokens.specs.declared.lexer.characters.Class.TheVariants.{InLine}
use Rattle.sql_tokens.specs.Tokens.{Outcome, syntax_error, is_blank, after_run, after_block, after_ended, has_comments, after_comment, after_gap}
use Rattle.sql_tokens.specs.Spelling.{starts, IsComment, IsGap, begins_comment, IsRefused}
use Rattle.sql_tokens.proofs.SpellingRuns.{run_of-sound, after_run-complete}

-- ---- two characters

and-true : (b : Bool) → (b && true) ≡ b
and-true true = refl
and-true false = refl

and-false : (b : Bool) → (b && false) ≡ false
and-false true = refl
and-false false = refl

starts_two : (a b c d : ℕ) (cs : List ℕ) → starts (a ∷ b ∷ []) (c ∷ d ∷ cs) ≡ (c == a && d == b)
starts_two a b c d cs = ap (λ (x : Bool). c == a && x) (and-true (d == b))

starts_one : (a b c : ℕ) → starts (a ∷ b ∷ []) (c ∷ []) ≡ false
starts_one a b c = and-false (c == a)

-- where both tests hold, these are the characters
pub two_are : (a b c d : ℕ) (P : ℕ → ℕ → Type 0) → (c == a && d == b) ≡ true → P a b → P c d
two_are a b c d P e p =
    let both = and_parts (c == a) (d == b) e in
    subst (λ (x : ℕ). P x d) (sym (eqb-true c a both.0)) (subst (λ (y : ℕ). P a y) (sym (eqb-true d b both.1)) p)

-- ---- block comments

-- the ends of the comments that are open, and of so many others
abbrev AllEnd : ℕ → List ℕ → List ℕ → Type 0
AllEnd zero cs rest = IsComment cs rest
AllEnd (suc n) cs rest = (inner : List ℕ) × IsComment cs inner × AllEnd n inner rest

AllEnd-before : (n : ℕ) (cs longer rest : List ℕ) → ((inner : List ℕ) → IsComment cs inner → IsComment longer inner) → AllEnd n cs rest → AllEnd n longer rest
AllEnd-before zero cs longer rest before ends = before rest ends
AllEnd-before (suc n) cs longer rest before ends = (ends.0, before ends.0 ends.1, ends.2)

AllEnd-nested : (n : ℕ) (cs rest : List ℕ) → AllEnd (suc n) cs rest → AllEnd n (47 ∷ 42 ∷ cs) rest
AllEnd-nested n cs rest ends = AllEnd-before n ends.0 (47 ∷ 42 ∷ cs) rest (λ inner more. IsComment.nested cs ends.0 inner ends.1 more) ends.2

abbrev BlockMeans : ℕ → List ℕ → Option (List ℕ) → Type 0
BlockMeans n cs (Some rest) = AllEnd n cs rest
BlockMeans n cs None = Unit {0}

BlockMeans-from : (n m : ℕ) (cs longer : List ℕ) (r : Option (List ℕ)) → ((rest : List ℕ) → AllEnd n cs rest → AllEnd m longer rest) → BlockMeans n cs r → BlockMeans m longer r
BlockMeans-from n m cs longer (Some rest) from h = from rest h
BlockMeans-from n m cs longer None from h = tt

ended_at : (n : ℕ) (cs : List ℕ) → BlockMeans (n - 1) cs (after_block (n - 1) cs) → BlockMeans n (42 ∷ 47 ∷ cs) (cond (n == 0) (Some cs) (after_block (n - 1) cs))
ended_at zero cs h = IsComment.ended cs
ended_at (suc n) cs h =
    let less : suc n - 1 ≡ n = omega arith in
    let more : (suc n == 0) ≡ false = ne_eqb (suc n) 0 (λ e. omega arith) in
    rw more (BlockMeans-from (suc n - 1) (suc n) cs (42 ∷ 47 ∷ cs) (after_block (suc n - 1) cs) (λ rest ends. (cs, IsComment.ended cs, subst (λ (m : ℕ). AllEnd m cs rest) less ends)) h)

nested_at : (n : ℕ) (cs : List ℕ) → BlockMeans (n + 1) cs (after_block (n + 1) cs) → BlockMeans n (47 ∷ 42 ∷ cs) (after_block (n + 1) cs)
nested_at n cs h = BlockMeans-from (n + 1) n cs (47 ∷ 42 ∷ cs) (after_block (n + 1) cs) (λ rest ends. AllEnd-nested n cs rest (subst (λ (m : ℕ). AllEnd m cs rest) (add-one n) ends)) h

after_block-means : (n : ℕ) (cs : List ℕ) → BlockMeans n cs (after_block n cs)
unfolding after_block
after_block-means n [] = tt
after_block-means n (c ∷ []) = tt
after_block-means n (c ∷ d ∷ cs) =
    cond_both (c == 42 && d == 47) _ _ (BlockMeans n (c ∷ d ∷ cs))
    (λ e. two_are 42 47 c d (λ x y. BlockMeans n (x ∷ y ∷ cs) (cond (n == 0) (Some cs) (after_block (n - 1) cs))) e (ended_at n cs (after_block-means (n - 1) cs)))
    (λ no_end. cond_both (c == 47 && d == 42) _ _ (BlockMeans n (c ∷ d ∷ cs))
    (λ e. two_are 47 42 c d (λ x y. BlockMeans n (x ∷ y ∷ cs) (after_block (n + 1) cs)) e (nested_at n cs (after_block-means (n + 1) cs)))
    (λ no_begin. BlockMeans-from n n (d ∷ cs) (c ∷ d ∷ cs) (after_block n (d ∷ cs)) (λ rest ends. AllEnd-before n (d ∷ cs) (c ∷ d ∷ cs) rest (λ inner is. IsComment.goes_on c (d ∷ cs) inner (starts_two 42 47 c d cs ∙ no_end) (starts_two 47 42 c d cs ∙ no_begin) is) ends) (after_block-means n (d ∷ cs))))

goes_on_at : (n c : ℕ) (cs : List ℕ) → starts (42 ∷ 47 ∷ []) (c ∷ cs) ≡ false → starts (47 ∷ 42 ∷ []) (c ∷ cs) ≡ false → after_block n (c ∷ cs) ≡ after_block n cs
unfolding after_block
goes_on_at n c [] no_end no_begin = refl
goes_on_at n c (d ∷ cs) no_end no_begin =
    ap₂ (λ (x y : Bool). cond x (cond (n == 0) (Some cs) (after_block (n - 1) cs)) (cond y (after_block (n + 1) cs) (after_block n (d ∷ cs)))) (sym (starts_two 42 47 c d cs) ∙ no_end) (sym (starts_two 47 42 c d cs) ∙ no_begin)

ended_here : (n : ℕ) (rest : List ℕ) → after_block n (42 ∷ 47 ∷ rest) ≡ cond (n == 0) (Some rest) (after_block (n - 1) rest)
unfolding after_block
ended_here n rest = refl

nested_here : (n : ℕ) (cs : List ℕ) → after_block n (47 ∷ 42 ∷ cs) ≡ after_block (n + 1) cs
unfolding after_block
nested_here n cs = refl

deeper : (n : ℕ) (rest : List ℕ) → cond (n + 1 == 0) (Some rest) (after_block (n + 1 - 1) rest) ≡ after_block n rest
deeper n rest =
    let some : (n + 1 == 0) ≡ false = ne_eqb (n + 1) 0 (λ e. omega arith) in
    let less : n + 1 - 1 ≡ n = omega arith in
    ap₂ (λ (b : Bool) (m : ℕ). cond b (Some rest) (after_block m rest)) some less

after_block-of : (cs rest : List ℕ) → IsComment cs rest → (n : ℕ) → after_block n cs ≡ cond (n == 0) (Some rest) (after_block (n - 1) rest)
after_block-of _ _ (IsComment.ended rest) n = ended_here n rest
after_block-of _ _ (IsComment.nested cs inner rest first second) n =
    nested_here n cs ∙ after_block-of cs inner first (n + 1) ∙ deeper n inner ∙ after_block-of inner rest second n
after_block-of _ _ (IsComment.goes_on c cs rest no_end no_begin is) n = goes_on_at n c cs no_end no_begin ∙ after_block-of cs rest is n

block-complete : {cs rest : List ℕ} → IsComment cs rest → after_block 0 cs ≡ Some rest
block-complete {cs} {rest} is = after_block-of cs rest is 0

block-unended : (cs : List ℕ) → after_block 0 cs ≡ None → (rest : List ℕ) → ¬ IsComment cs rest
block-unended cs none rest is = let some = block-complete is in cc

unended_by : (cs : List ℕ) (r : Option (List ℕ)) → BlockMeans 0 cs r → ((rest : List ℕ) → ¬ IsComment cs rest) → r ≡ None
unended_by cs None h none = refl
unended_by cs (Some rest) h none = absurd (none rest h)

-- ---- places

Start_has : Start ≢ BackslashLine
Start_has e = cc

Later_has : Later ≢ BackslashLine
Later_has e = cc

place_has : (place : Place) → place ≢ BackslashLine → has_comments place ≡ true
place_has Start h = refl
place_has Later h = refl
place_has BackslashLine h = absurd (h refl)

-- ---- what a gap means

abbrev pub GapMeans : Place → List ℕ → Outcome (Option (List ℕ)) → Type 0
GapMeans place cs (Ok (Some rest)) = IsGap place cs rest
GapMeans place cs (Ok None) = begins_comment place cs ≡ false
GapMeans place cs (Err e) = IsRefused place cs e

block_means : (place : Place) (cs : List ℕ) (r : Option (List ℕ)) → place ≢ BackslashLine → after_block 0 cs ≡ r → BlockMeans 0 cs r → GapMeans place (47 ∷ 42 ∷ cs) (after_ended r)
block_means place cs (Some rest) has same is = IsGap.block cs rest has is
block_means place cs None has same is = IsRefused.comment cs has (block-unended cs same)

comment_means : (place : Place) (c : ℕ) (cs : List ℕ) → place ≢ BackslashLine → begins_comment place (c ∷ cs) ≡ (starts (45 ∷ 45 ∷ []) (c ∷ cs) || starts (47 ∷ 42 ∷ []) (c ∷ cs)) → GapMeans place (c ∷ cs) (after_comment (c ∷ cs))
unfolding after_comment
comment_means place c [] has begins_is = begins_is ∙ ap₂ (λ (a b : Bool). a || b) (starts_one 45 45 c) (starts_one 47 42 c)
comment_means place c (d ∷ cs) has begins_is =
    cond_both (c == 45 && d == 45) _ _ (GapMeans place (c ∷ d ∷ cs))
    (λ e. two_are 45 45 c d (λ x y. IsGap place (x ∷ y ∷ cs) (after_run InLine cs)) e (IsGap.line cs _ _ has (run_of-sound InLine cs)))
    (λ no_line. cond_both (c == 47 && d == 42) _ _ (GapMeans place (c ∷ d ∷ cs))
    (λ e. two_are 47 42 c d (λ x y. GapMeans place (x ∷ y ∷ cs) (after_ended (after_block 0 cs))) e (block_means place cs (after_block 0 cs) has refl (after_block-means 0 cs)))
    (λ no_block. begins_is ∙ ap₂ (λ (a b : Bool). a || b) (starts_two 45 45 c d cs ∙ no_line) (starts_two 47 42 c d cs ∙ no_block)))

-- a gap, or nothing that begins one, or a block comment without its end
pub after_gap-sound : (place : Place) (c : ℕ) (cs : List ℕ) → is_blank c ≡ false → GapMeans place (c ∷ cs) (after_gap place (c ∷ cs))
unfolding after_gap
after_gap-sound Start c cs no_blank = rw no_blank (comment_means Start c cs Start_has refl)
after_gap-sound Later c cs no_blank = rw no_blank (comment_means Later c cs Later_has refl)
after_gap-sound BackslashLine c cs no_blank = rw no_blank refl

pub after_gap-blank : (place : Place) (c : ℕ) (cs : List ℕ) → is_blank c ≡ true → after_gap place (c ∷ cs) ≡ Ok (Some cs)
unfolding after_gap
after_gap-blank place c cs blank = ap (λ (b : Bool). cond b (Ok (Some cs)) (cond (has_comments place) (after_comment (c ∷ cs)) (Ok None))) blank

gap_with : (place : Place) (c : ℕ) (cs : List ℕ) → is_blank c ≡ false → place ≢ BackslashLine → after_gap place (c ∷ cs) ≡ after_comment (c ∷ cs)
unfolding after_gap
gap_with place c cs no_blank has = ap₂ (λ (a b : Bool). cond a (Ok (Some cs)) (cond b (after_comment (c ∷ cs)) (Ok None))) no_blank (place_has place has)

line_at : (cs : List ℕ) → after_comment (45 ∷ 45 ∷ cs) ≡ Ok (Some (after_run InLine cs))
unfolding after_comment
line_at cs = refl

block_at : (cs : List ℕ) → after_comment (47 ∷ 42 ∷ cs) ≡ after_ended (after_block 0 cs)
unfolding after_comment
block_at cs = refl

pub after_gap-complete : (place : Place) (cs rest : List ℕ) → IsGap place cs rest → after_gap place cs ≡ Ok (Some rest)
after_gap-complete place _ _ (IsGap.blank c rest blank) = after_gap-blank place c rest blank
after_gap-complete place _ _ (IsGap.line cs line rest has run) = gap_with place 45 (45 ∷ cs) refl has ∙ line_at cs ∙ ap (λ (xs : List ℕ). Ok (Some xs)) (after_run-complete InLine run)
after_gap-complete place _ _ (IsGap.block cs rest has is) = gap_with place 47 (42 ∷ cs) refl has ∙ block_at cs ∙ ap after_ended (block-complete is)

pub after_gap-unended : (place : Place) (cs : List ℕ) → place ≢ BackslashLine → ((rest : List ℕ) → ¬ IsComment cs rest) → after_gap place (47 ∷ 42 ∷ cs) ≡ Err syntax_error
after_gap-unended place cs has none = gap_with place 47 (42 ∷ cs) refl has ∙ block_at cs ∙ ap after_ended (unended_by cs (after_block 0 cs) (after_block-means 0 cs) none)

no_comment : (c : ℕ) (cs : List ℕ) → (starts (45 ∷ 45 ∷ []) (c ∷ cs) || starts (47 ∷ 42 ∷ []) (c ∷ cs)) ≡ false → after_comment (c ∷ cs) ≡ Ok None
unfolding after_comment
no_comment c [] none = refl
no_comment c (d ∷ cs) none =
    let both = or_parts (starts (45 ∷ 45 ∷ []) (c ∷ d ∷ cs)) (starts (47 ∷ 42 ∷ []) (c ∷ d ∷ cs)) none in
    ap₂ (λ (a b : Bool). cond a (Ok (Some (after_run InLine cs))) (cond b (after_ended (after_block 0 cs)) (Ok None))) (sym (starts_two 45 45 c d cs) ∙ both.0) (sym (starts_two 47 42 c d cs) ∙ both.1)

pub after_gap-none : (place : Place) (c : ℕ) (cs : List ℕ) → is_blank c ≡ false → begins_comment place (c ∷ cs) ≡ false → after_gap place (c ∷ cs) ≡ Ok None
unfolding after_gap
after_gap-none Start c cs no_blank none = gap_with Start c cs no_blank Start_has ∙ no_comment c cs none
after_gap-none Later c cs no_blank none = gap_with Later c cs no_blank Later_has ∙ no_comment c cs none
after_gap-none BackslashLine c cs no_blank none = ap (λ (b : Bool). cond b (Ok (Some cs)) (Ok None)) no_blank

starts_not : (a b c : ℕ) (cs : List ℕ) → (c == a) ≡ false → starts (a ∷ b ∷ []) (c ∷ cs) ≡ false
starts_not a b c cs other = ap (λ (x : Bool). x && starts (b ∷ []) cs) other

pub begins_comment-not : (place : Place) (c : ℕ) (cs : List ℕ) → (c == 45) ≡ false → (c == 47) ≡ false → begins_comment place (c ∷ cs) ≡ false
begins_comment-not Start c cs no_line no_block = ap₂ (λ (a b : Bool). a || b) (starts_not 45 45 c cs no_line) (starts_not 47 42 c cs no_block)
begins_comment-not Later c cs no_line no_block = ap₂ (λ (a b : Bool). a || b) (starts_not 45 45 c cs no_line) (starts_not 47 42 c cs no_block)
begins_comment-not BackslashLine c cs no_line no_block = refl
