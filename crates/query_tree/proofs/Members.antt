-- A set of ids beside the items that were passed.
use Rattle.std.proofs.Common.{◌≡◌, ◌↔◌, ◌<◌, ◌≤◌, ◌+◌, ℕ, List, [], ◌∷◌, ◌++◌, length, map, take, get_or, Contains, subst, sym, ap, ◌∙◌, ⊎_elim, inl, inr, arith}
use Rattle.std.proofs.lemmas.List.{map_more, take_all}
use Rattle.std.proofs.lemmas.List.Elements.{Contains-append_left, Contains-append_cases, Contains-push}
use Rattle.q_base.specs.declared.ids.ObjId.{ObjId}
use Rattle.q_base.specs.IdLists.{HasOneMore}
use Rattle.query_tree.specs.declared.query.Item.{Item}
use Rattle.query_tree.specs.declared.query.Relation.{Relation}
use Rattle.query_tree.specs.Items.{relation_of}

abbrev pub SameMembers : List ObjId → List ObjId → Type 0
SameMembers ids listed = (id : ObjId) → Contains ids id ↔ Contains listed id

abbrev pub id_of : Item → ObjId
id_of item = (relation_of item).id

only : (x y : ObjId) → Contains (x ∷ []) y → y ≡ x
only x y found = let at : found.0 ≡ 0 = omega (arith, found.1) in sym found.2 ∙ ap (λ n. get_or (x ∷ []) n y) at

-- one more on both sides
same_more : (id : ObjId) (old new listed : List ObjId) → HasOneMore id old new → SameMembers old listed → SameMembers new (listed ++ id ∷ [])
same_more id old new listed more same other = (
  λ found. ⊎_elim (λ e. subst (Contains (listed ++ id ∷ [])) (sym e) (Contains-push listed id)) (λ there. Contains-append_left listed (id ∷ []) other ((same other).0 there)) ((more other).0 found),
  λ found. (more other).1 (⊎_elim (λ there. inr ((same other).1 there)) (λ last. inl (only id other last)) (Contains-append_cases listed (id ∷ []) other found)),
)

-- one item more was passed
pub passed_more : (items : List Item) (at : ℕ) (item : Item) (relation : Relation) (old new : List ObjId) → at < length items →
    item ≡ get_or items at item → relation ≡ relation_of item → HasOneMore relation.id old new →
    SameMembers old (map id_of (take at items)) → SameMembers new (map id_of (take (at + 1) items))
passed_more items at item relation old new within is named more same =
    let last : get_or items at item ≡ item = sym is in
    let listed = map_more id_of items at item within in
    let id : id_of (get_or items at item) ≡ relation.id = ap id_of last ∙ sym (ap (λ (r : Relation). r.id) named) in
    subst (SameMembers new) (sym (listed ∙ ap (λ (i : ObjId). map id_of (take at items) ++ i ∷ []) id)) (same_more relation.id old new _ more same)

-- all items were passed
pub passed_all : (items : List Item) (at : ℕ) (ids : List ObjId) → length items ≤ at → SameMembers ids (map id_of (take at items)) → SameMembers ids (map id_of items)
passed_all items at ids whole same = subst (λ (xs : List Item). SameMembers ids (map id_of xs)) (take_all at items whole) same
