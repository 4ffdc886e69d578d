-- The views that reach an object, found in rounds.
use Rattle.std.proofs.Common.{◌≡◌, ◌≢◌, ◌↔◌, ℕ, ◌+◌, ◌<◌, ◌≤◌, List, [], ◌∷◌, ◌++◌, length, map, take, get_or, Contains, ◌⊎◌, inl, inr, ⊎_elim, refl, sym, ap, ◌∙◌, subst, arith}
use Rattle.std.proofs.lemmas.List.{take_more, take_all, map_more, get_or-map, length-map}
use Rattle.query_tree.specs.declared.query.Item.{Item}
use Rattle.query_tree.specs.Items.{relation_of}
use Rattle.std.proofs.lemmas.List.Elements.{Contains-push_cases}
use Rattle.q_base.specs.declared.ids.ObjId.{ObjId}
use Rattle.cat_core.specs.declared.entry.Entry.{Entry}
use Rattle.cat_deps.specs.Reached.{Hits, Dependent, AreDependent, IsClosed, AddsView, Grows, def_names}
use Rattle.cat_deps.specs.Reached.Dependent.{naming, beyond}
use Rattle.cat_deps.proofs.Sought.{with_id_longer, with_id_same}

only : (x y : ObjId) → Contains (x ∷ []) y → y ≡ x
only x y found = let at : found.0 ≡ 0 = omega (arith, found.1) in sym found.2 ∙ ap (λ n. get_or (x ∷ []) n y) at

-- nothing names by no names
pub no_hits : (id : ObjId) (found : List ObjId) → Hits id found [] → ⊥
no_hits id found = ⊎_elim (λ one. absurd (omega (arith, one.1))) (λ other. absurd (omega (arith, other.1.1)))

-- a name more
pub hits_more : (id name : ObjId) (found names : List ObjId) → Hits id found (names ++ name ∷ []) → Hits id found names ⊎ ((name ≡ id) ⊎ Contains found name)
hits_more id name found names = ⊎_elim
    (λ one. ⊎_elim (λ there. inl (inl there)) (λ last. inr (inl last)) (Contains-push_cases names name id one))
    (λ other. ⊎_elim (λ there. inl (inr (other.0, there, other.2))) (λ last. inr (inr (subst (Contains found) (sym last) other.2))) (Contains-push_cases names name other.0 other.1))

-- and fewer names
pub hits_at : (id name : ObjId) (found names : List ObjId) → Contains names name → (name ≡ id) ⊎ Contains found name → Hits id found names
hits_at id name found names there = ⊎_elim (λ same. inl (subst (Contains names) same there)) (λ one. inr (name, there, one))

abbrev name_of : Item → ObjId
name_of item = (relation_of item).id

-- an item that names one
pub hit_found : (id : ObjId) (found : List ObjId) (items : List Item) (n : ℕ) (item : Item) (name : ObjId) → n < length items → item ≡ get_or items n item → name ≡ name_of item → (name ≡ id) ⊎ Contains found name → Hits id found (map name_of items)
hit_found id found items n item name within is named hit = hits_at id name found (map name_of items) there hit
  where
    there : Contains (map name_of items) name
    there = (n, omega (arith, within, length-map items name_of), get_or-map name_of items n item name within ∙ ap name_of (sym is) ∙ sym named)

-- an item that names none
pub hit_passed : (id : ObjId) (found : List ObjId) (items : List Item) (n : ℕ) (item : Item) (name : ObjId) → n < length items → item ≡ get_or items n item → name ≡ name_of item → (Hits id found (map name_of (take n items)) → ⊥) → ((name ≡ id) ⊎ Contains found name → ⊥) → Hits id found (map name_of (take (n + 1) items)) → ⊥
hit_passed id found items n item name within is named before none hits =
    ⊎_elim before none (hits_more id name found (map name_of (take n items)) (subst (Hits id found) (map_more name_of items n item within ∙ ap (λ (x : ObjId). map name_of (take n items) ++ x ∷ []) (ap name_of (sym is) ∙ sym named)) hits))

-- the first so many views were looked at
pub record Looked (views : List Entry) (id : ObjId) (n : ℕ) (old now : List ObjId) : Type 0 where
  pub sound : AreDependent views id old → AreDependent views id now
  pub longer : length old ≤ length now
  pub closed : length now ≡ length old → (now ≡ old) × IsClosed (take n views) id old

pub looked_none : (views : List Entry) (id : ObjId) (old : List ObjId) → Looked views id 0 old old
looked_none views id old = record {
  sound = λ before. before;
  longer = omega arith;
  closed = λ same. (refl, λ view there. absurd (omega (arith, there.1)));
}

adds_sound : (views : List Entry) (id : ObjId) (view : Entry) (old new : List ObjId) → Contains views view → AddsView view id old new → AreDependent views id old → AreDependent views id new
adds_sound views id view old new there (inl (other, hits, is, more)) before = λ x found. ⊎_elim (λ e. subst (Dependent views id) (sym e) (of_view hits)) (before x) ((more x).0 found)
  where
    of_view : Hits id old (def_names view.def) → Dependent views id view.id
    of_view (inl names) = naming there other names
    of_view (inr (next, names, found)) = beyond there other (before next found) names
adds_sound views id view old new there (inr (none, same)) before = λ x found. before x (subst (λ (xs : List ObjId). Contains xs x) same found)

adds_longer : (id : ObjId) (view : Entry) (old new : List ObjId) → AddsView view id old new → length old ≤ length new
adds_longer id view old new (inl (other, hits, is, more)) = subst (λ (xs : List ObjId). length old ≤ length xs) (sym is) (with_id_longer view.id old)
adds_longer id view old new (inr (none, same)) = subst (λ (xs : List ObjId). length old ≤ length xs) (sym same) (omega arith)

adds_same : (id : ObjId) (view : Entry) (old new : List ObjId) → AddsView view id old new → length new ≡ length old → new ≡ old
adds_same id view old new (inl (other, hits, is, more)) same = is ∙ with_id_same view.id old (ap (λ (xs : List ObjId). length xs) (sym is) ∙ same)
adds_same id view old new (inr (none, is)) same = is

adds_found : (id : ObjId) (view : Entry) (old new : List ObjId) → AddsView view id old new → new ≡ old → view.id ≢ id → Hits id old (def_names view.def) → Contains old view.id
adds_found id view old new (inl (other, hits, is, more)) same ne hit = subst (λ (xs : List ObjId). Contains xs view.id) same ((more view.id).1 (inl refl))
adds_found id view old new (inr (none, is)) same ne hit = absurd (none ne hit)

pub looked_more : (views : List Entry) (id : ObjId) (n : ℕ) (view : Entry) (old now new : List ObjId) → n < length views → get_or views n view ≡ view → AddsView view id now new → Looked views id n old now → Looked views id (n + 1) old new
looked_more views id n view old now new within is adds before = record {
  sound = λ first. adds_sound views id view now new (n, within, is) adds (before.sound first);
  longer = omega (arith, before.longer, adds_longer id view now new adds);
  closed = λ same.
      let as_long : length now ≡ length old = omega (arith, same, before.longer, adds_longer id view now new adds) in
      let kept = before.closed as_long in
      let stays : new ≡ now = adds_same id view now new adds (omega (arith, same, as_long)) in (
        stays ∙ kept.0,
        λ other there ne hits. ⊎_elim
            (λ early. kept.1 other early ne hits)
            (λ last. subst (λ (v : Entry). Contains old v.id) last (of_view (subst (λ (v : Entry). v.id ≢ id) (sym last) ne) (subst (λ (v : Entry). Hits id old (def_names v.def)) (sym last) hits) kept.0 stays))
            (Contains-push_cases (take n views) view other (subst (λ (vs : List Entry). Contains vs other) (take_more views n view within ∙ ap (λ (v : Entry). take n views ++ v ∷ []) is) there)),
      );
}
  where
    of_view : view.id ≢ id → Hits id old (def_names view.def) → now ≡ old → new ≡ now → Contains old view.id
    of_view ne hits kept stays = subst (λ (xs : List ObjId). Contains xs view.id) kept (adds_found id view now new adds stays ne (subst (λ (xs : List ObjId). Hits id xs (def_names view.def)) (sym kept) hits))

-- all of them were
pub looked_all : (views : List Entry) (id : ObjId) (n : ℕ) (old new : List ObjId) → length views ≤ n → Looked views id n old new → Grows views id old new
looked_all views id n old new whole looked = record {
  sound = looked.sound;
  longer = looked.longer;
  closed = λ same. let kept = looked.closed same in
      subst (IsClosed views id) (sym kept.0) (subst (λ (vs : List Entry). IsClosed vs id old) (take_all n views whole) kept.1);
}

-- dependent ids that are closed are all that there are
pub all_dependents : (views : List Entry) (id : ObjId) (found : List ObjId) → AreDependent views id found → IsClosed views id found → (other : ObjId) → Contains found other ↔ Dependent views id other
all_dependents views id found sound closed other = (sound other, complete other)
  where
    complete : (other : ObjId) → Dependent views id other → Contains found other
    complete other (naming {view} there ne names) = closed view there ne (inl names)
    complete other (beyond {view} {other = next} there ne reaches names) = closed view there ne (inr (next, names, complete next reaches))
