-- Lemmas on the slots of sources.
use Rattle.std.proofs.Common.{◌≡◌, ℕ, ◌<◌, ◌≤◌, ◌==◌, Bool, true, false, ◌||◌, ◌&&◌, List, [], ◌∷◌, length, set, map, filter, cond, Option, Some, None, refl, sym, ◌∙◌, if◌then◌else◌, arith}
use Rattle.std.specs.Option.{option_map}
use Rattle.std.specs.List.{list_any}
use Rattle.std.proofs.lemmas.Bool.Decides.{nat_tests}
use Rattle.std.proofs.lemmas.List.{ext_get_or, get_or-map, get_or-set_same, get_or-set_other, get_or_past, length-set, length-map}
use Rattle.plan_invalid.specs.declared.source.Source.{Source}
use Rattle.std.specs.declared.ops.Bound.TheVariants.{Included, Excluded}
use Rattle.std.specs.BTreeMap.{is_at}
use Rattle.std.specs.BTreeMap.Range.{range_contains}
use Rattle.std.specs.BTreeSet.{BTreeSet, keys_between}
use Rattle.q_base.specs.declared.ids.ObjId.{ObjId}
use Rattle.plan_invalid.proofs.Pairs.{is_between}
use Rattle.plan_invalid.specs.Index.{IsIndex, pair_cmp, is_watched_by}
use Rattle.plan_invalid.specs.Sources.{at_key, marked, told, is_among}

-- a write under a key changes what that key finds, and no other
pub at_key-set : (f : Source → Source) (slots : List (Option Source)) (key other : ℕ) → at_key (set slots key (option_map f (at_key slots key))) other ≡ (if key == other then option_map f (at_key slots other) else at_key slots other)
at_key-set f slots key other = grind (arith, nat_tests, get_or-set_same, get_or-set_other, get_or_past, length-set)

-- slots that find f of what the others find are the others under f
pub same_as_map : (f : Source → Source) (old new : List (Option Source)) → length new ≡ length old → ((key : ℕ) → key < length old → at_key new key ≡ option_map f (at_key old key)) → new ≡ map (option_map f) old
same_as_map f old new long each =
    ext_get_or None new (map (option_map f) old) (long ∙ sym (length-map old (option_map f))) (λ key within.
    let inside : key < length old = omega arith in
    each key inside ∙ sym (get_or-map (option_map f) old key None None inside))

-- the slots once the sources of these pairs are marked in turn
abbrev pub marked_under : {A : Type 0} → List (Option Source) → List (A × ℕ) → List (Option Source)
marked_under slots [] = slots
marked_under slots (pair ∷ pairs) = marked_under (set slots pair.1 (option_map marked (at_key slots pair.1))) pairs

pub length-marked_under : {A : Type 0} (slots : List (Option Source)) (pairs : List (A × ℕ)) → length (marked_under slots pairs) ≡ length slots
length-marked_under slots [] = refl
length-marked_under slots (pair ∷ pairs) = length-marked_under (set slots pair.1 (option_map marked (at_key slots pair.1))) pairs ∙ length-set slots pair.1 _

-- a source that is marked once or twice is marked
marked_again : (here later : Bool) (source : Option Source) → (if later then option_map marked (if here then option_map marked source else source) else (if here then option_map marked source else source)) ≡ (if here || later then option_map marked source else source)
marked_again true true None = refl
marked_again true true (Some source) = refl
marked_again true false source = refl
marked_again false true source = refl
marked_again false false source = refl

pub at_key-marked_under : {A : Type 0} (slots : List (Option Source)) (pairs : List (A × ℕ)) (key : ℕ) → at_key (marked_under slots pairs) key ≡ (if list_any (λ pair. pair.1 == key) pairs then option_map marked (at_key slots key) else at_key slots key)
at_key-marked_under slots [] key = refl
at_key-marked_under slots (pair ∷ pairs) key =
    let next = set slots pair.1 (option_map marked (at_key slots pair.1)) in
    at_key-marked_under next pairs key ∙ rw (at_key-set marked slots pair.1 key) (marked_again (pair.1 == key) (list_any (λ pair. pair.1 == key) pairs) (at_key slots key))

any_in_filter-step : {A : Type 0} (q : A → Bool) (x : A) (rest : List A) (b c d : Bool) → (b && q x) ≡ c → list_any q rest ≡ d → list_any q (cond b (x ∷ rest) rest) ≡ (c || d)
any_in_filter-step q x rest true c d here later = rw (here, later) refl
any_in_filter-step q x rest false true d here later = absurd (cc)
any_in_filter-step q x rest false false d here later = later

-- a test of what another test keeps
any_in_filter : {A : Type 0} (p q r : A → Bool) → ((x : A) → (p x && q x) ≡ r x) → (xs : List A) → list_any q (filter p xs) ≡ list_any r xs
any_in_filter p q r both [] = refl
any_in_filter p q r both (x ∷ xs) = any_in_filter-step q x (filter p xs) (p x) (r x) (list_any r xs) (both x) (any_in_filter p q r both xs)

told_where : (id : ObjId) (source : Option Source) → (if is_watched_by source id then option_map marked source else source) ≡ option_map (told id) source
told_where id None = refl
told_where id (Some source) = go (is_among source.uses id) where
  go : (b : Bool) → (if b then Some (marked source) else Some source) ≡ Some (record source { marked = b || source.marked })
  go true = refl
  go false = refl

-- where the set lists the keys of the sources that watch an object, marking those is telling all of it
pub marked_under-watchers : (slots : List (Option Source)) (watchers : BTreeSet (ObjId × ℕ)) (id : ObjId) (end : ℕ) → length slots ≤ end → IsIndex slots watchers → marked_under slots (keys_between pair_cmp (Included (id, 0)) (Excluded (id, end)) watchers) ≡ map (option_map (told id)) slots
marked_under-watchers slots watchers id end fits index =
    let pairs = keys_between pair_cmp (Included (id, 0)) (Excluded (id, end)) watchers in
    same_as_map (told id) slots (marked_under slots pairs) (length-marked_under slots pairs) (λ key within.
    let listed : list_any (λ pair. pair.1 == key) pairs ≡ is_watched_by (at_key slots key) id =
    any_in_filter (range_contains pair_cmp (Included (id, 0)) (Excluded (id, end))) (λ pair. pair.1 == key) (is_at (pair_cmp (id, key))) (λ pair. is_between id end key pair (omega arith)) watchers.keys ∙ index id key in
    at_key-marked_under slots pairs key ∙ rw listed (told_where id (at_key slots key)))
