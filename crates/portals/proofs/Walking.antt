-- A course of a cursor, once enough was pulled.
use Rattle.std.proofs.Common.{◌≡◌, ℕ, ◌+◌, ◌-◌, ◌≤◌, ◌^◌, ◌&&◌, not, min, max, Bool, true, false, List, [], ◌∷◌, length, Option, Some, None, if◌then◌else◌, leb, refl, sym, ap, subst, ◌∙◌, arith}
use Rattle.std.proofs.lemmas.Bool.{le-leb, leb-true}
use Rattle.q_base.specs.declared.code.Code.{Code}
use Rattle.q_base.specs.declared.code.Code.TheVariants.{ForwardOnly, PortalCannotRun}
use Rattle.q_base.specs.declared.errors.Stop.{Stop}
use Rattle.q_base.specs.declared.errors.Stop.TheVariants.{Sql}
use Rattle.q_base.specs.Stops.{StopsBy}
use Rattle.q_value.specs.declared.value.Outcome.{Outcome}
use Rattle.portals.specs.declared.course.Course.{Course}
use Rattle.portals.specs.declared.course.Course.TheVariants as course
use Rattle.portals.specs.declared.cursor.Stretch.{Stretch}
use Rattle.portals.specs.Courses.{is_row, goes_back, needs, arrival, stretch}
use Rattle.portals.specs.Cursors.{Standing, IsSound, left, list_of, next_place, failed}
use Rattle.portals.specs.Walks.{rows_of, fault_of, end_of, PullsTo, last_known, goal_of, passes, walked, fault_met, refusal_of, Arrives}
use Rattle.portals.proofs.Pulling.{pulling-begin, end-from, next-near}

-- what is known of the last row is enough for a place up to which was pulled
last-same : {F : Type 0} (rest : F → List Outcome) (feed : Option F) (place reach end : ℕ) → place ≤ reach → end ≡ next_place feed reach + length (rows_of (left rest feed))
    → is_row place (last_known feed reach) ≡ is_row place (end - 1)
last-same rest None place reach end le is = let same : reach - 1 ≡ end - 1 = omega arith in ap (is_row place) same
last-same rest (Some feed) place reach end le is =
    let some : place ≤ end - 1 = omega arith in
    ap (λ b. leb 1 place && b) (le-leb place reach le ∙ sym (le-leb place (end - 1) some))

back-same : {F : Type 0} (rest : F → List Outcome) (feed : Option F) (course : Course) (fetching : Bool) (position reach end : ℕ) → position ≤ reach
    → end ≡ next_place feed reach + length (rows_of (left rest feed)) → goes_back course fetching position (last_known feed reach) ≡ goes_back course fetching position (end - 1)
back-same rest feed course.Stay fetching position reach end le is = ap (λ b. fetching && b) (last-same rest feed position reach end le is)
back-same rest feed (course.Forward n) fetching position reach end le is = refl
back-same rest feed (course.Backward n) fetching position reach end le is = refl
back-same rest feed (course.To n) fetching position reach end le is = refl
back-same rest feed (course.FromEnd n) fetching position reach end le is = refl
back-same rest feed (course.Ahead n) fetching position reach end le is = refl
back-same rest feed (course.Behind n) fetching position reach end le is = refl

min-same : {F : Type 0} (rest : F → List Outcome) (feed : Option F) (place reach end : ℕ) → place ≤ reach → end ≡ next_place feed reach + length (rows_of (left rest feed))
    → min place (last_known feed reach) ≡ min place (end - 1)
min-same rest None place reach end le is = omega arith
min-same rest (Some feed) place reach end le is = omega arith

stretch-same : {F : Type 0} (rest : F → List Outcome) (feed : Option F) (course : Course) (position arrived reach end : ℕ) → arrived ≤ reach
    → end ≡ next_place feed reach + length (rows_of (left rest feed)) → stretch course position arrived (last_known feed reach) ≡ stretch course position arrived (end - 1)
stretch-same rest feed course.Stay position arrived reach end le is = ap (λ b. record { start = arrived; count = if b then 1 else 0; downwards = false }) (last-same rest feed arrived reach end le is)
stretch-same rest feed (course.Forward n) position arrived reach end le is = ap (λ m. record { start = position + 1; count = m - position; downwards = false }) (min-same rest feed arrived reach end le is)
stretch-same rest feed (course.Backward n) position arrived reach end le is = refl
stretch-same rest feed (course.To n) position arrived reach end le is = ap (λ b. record { start = arrived; count = if b then 1 else 0; downwards = false }) (last-same rest feed arrived reach end le is)
stretch-same rest feed (course.FromEnd n) position arrived reach end le is = ap (λ b. record { start = arrived; count = if b then 1 else 0; downwards = false }) (last-same rest feed arrived reach end le is)
stretch-same rest feed (course.Ahead n) position arrived reach end le is = ap (λ b. record { start = arrived; count = if b then 1 else 0; downwards = false }) (last-same rest feed arrived reach end le is)
stretch-same rest feed (course.Behind n) position arrived reach end le is = ap (λ b. record { start = arrived; count = if b then 1 else 0; downwards = false }) (last-same rest feed arrived reach end le is)

-- the reach after enough was pulled stands for the end
module _ (position first-reach reach end : ℕ) (bound : reach ≤ 2 ^ 62 + 1) (early : first-reach ≤ end) where
  arrival-same : (course : Course) → reach ≡ max first-reach (min (goal_of (needs course position)) end) → arrival course position reach ≡ arrival course position end
  arrival-same course.Stay is = refl
  arrival-same (course.Forward None) is = omega arith
  arrival-same (course.Forward (Some n)) is = omega arith
  arrival-same (course.Backward None) is = refl
  arrival-same (course.Backward (Some n)) is = refl
  arrival-same (course.To n) is = omega arith
  arrival-same (course.FromEnd n) is = let same : reach ≡ end = omega arith in ap (λ e. e - n) same
  arrival-same (course.Ahead n) is = omega arith
  arrival-same (course.Behind n) is = refl

  walked-same : (needed : Option ℕ) → reach ≡ max first-reach (min (goal_of needed) end) → reach ≡ max first-reach (walked needed end)
  walked-same None is = omega arith
  walked-same (Some place) is = omega arith

  passed : (needed : Option ℕ) → reach ≡ max first-reach (min (goal_of needed) end) → passes needed end ≡ true → end ≤ goal_of needed
  passed None is through = omega arith
  passed (Some place) is through = let le : end ≤ place = leb-true end place through in omega arith

arrived-within : (course : Course) (position reach : ℕ) → position ≤ reach → arrival course position reach ≤ reach
arrived-within course.Stay position reach le = le
arrived-within (course.Forward None) position reach le = omega arith
arrived-within (course.Forward (Some n)) position reach le = omega arith
arrived-within (course.Backward None) position reach le = omega arith
arrived-within (course.Backward (Some n)) position reach le = omega arith
arrived-within (course.To n) position reach le = omega arith
arrived-within (course.FromEnd n) position reach le = omega arith
arrived-within (course.Ahead n) position reach le = omega arith
arrived-within (course.Behind n) position reach le = omega arith

not-met : {F P : Type 0} (through : Bool) (end : ℕ) (fault : Option Code) (c : Standing F P) → (through ≡ true → fault ≡ None) → fault_met through end fault c ≡ None
not-met true end fault c none = ap (λ f. fault_met true end f c) (none refl)
not-met false end fault c none = refl

module _ {F P : Type 0} (rest : F → List Outcome) (name : List ℕ) (course : Course) (fetching : Bool) (old : Standing F P) (sound : IsSound old) (alive : old.failed ≡ false) where
  end-known : end_of rest old ≡ next_place old.feed old.reach + length (rows_of (left rest old.feed))
  end-known = end-from rest 0 old old old.reach (pulling-begin rest 0 old sound alive)

  back-refused : (not old.scroll && goes_back course fetching old.position (last_known old.feed old.reach)) ≡ true
      → refusal_of name course fetching (end_of rest old) (fault_of (list_of rest old)) old ≡ Some (record { code = ForwardOnly; args = [] }, failed old)
  back-refused back =
      let same : (not old.scroll && goes_back course fetching old.position (end_of rest old - 1)) ≡ true = sym (ap (λ b. not old.scroll && b) (back-same rest old.feed course fetching old.position old.reach (end_of rest old) sound.behind end-known)) ∙ back in
      λ i. if alive i then Some (record { code = PortalCannotRun; args = name ∷ [] }, old) else if same i then Some (record { code = ForwardOnly; args = [] }, failed old) else fault_met (passes (needs course old.position) (end_of rest old)) (end_of rest old) (fault_of (list_of rest old)) old

  pub back-stops : (stop : Stop) (new : Standing F P) → (not old.scroll && goes_back course fetching old.position (last_known old.feed old.reach)) ≡ true
      → stop ≡ Sql (record { code = ForwardOnly; args = [] }) → new ≡ failed old
      → StopsBy (λ e. refusal_of name course fetching (end_of rest old) (fault_of (list_of rest old)) old ≡ Some (e, new)) stop
  back-stops stop new back is same =
      subst (λ s. StopsBy (λ e. refusal_of name course fetching (end_of rest old) (fault_of (list_of rest old)) old ≡ Some (e, new)) s) (sym is)
      (back-refused back ∙ (λ i. Some (record { code = ForwardOnly; args = [] }, sym same i)))

  pub walks-on : (mid new : Standing F P) (places : Stretch) → (not old.scroll && goes_back course fetching old.position (last_known old.feed old.reach)) ≡ false
      → IsSound mid → PullsTo rest (goal_of (needs course old.position)) old None mid
      → places ≡ stretch course mid.position (arrival course mid.position mid.reach) (last_known mid.feed mid.reach)
      → new ≡ record mid { position = arrival course mid.position mid.reach }
      → (refusal_of name course fetching (end_of rest old) (fault_of (list_of rest old)) old ≡ None)
      × (places ≡ stretch course old.position (arrival course old.position (end_of rest old)) (end_of rest old - 1))
      × Arrives rest course old new
  walks-on mid new places back safe pulls at is =
      let lives : mid.failed ≡ false = ap (λ s. s.failed) pulls.2 ∙ alive in
      let reach : mid.reach ≡ max old.reach (min (goal_of (needs course old.position)) (end_of rest old)) = ap (λ s. s.reach) pulls.2 in
      let position : mid.position ≡ old.position = ap (λ s. s.position) pulls.2 in
      let ends : end_of rest old ≡ end_of rest mid = λ i. sym pulls.1 i + length (rows_of (sym pulls.0 i)) in
      let known : end_of rest old ≡ next_place mid.feed mid.reach + length (rows_of (left rest mid.feed)) = ends ∙ end-from rest 0 mid mid mid.reach (pulling-begin rest 0 mid safe lives) in
      let least : mid.reach ≤ next_place mid.feed mid.reach = (next-near mid.feed mid.reach).0 in
      let most : next_place mid.feed mid.reach ≤ 2 ^ 62 + 1 = safe.within in
      let behind : old.position ≤ old.reach = sound.behind in
      let first : old.reach ≤ end_of rest old = let near : old.reach ≤ next_place old.feed old.reach = (next-near old.feed old.reach).0 in let end : end_of rest old ≡ next_place old.feed old.reach + length (rows_of (left rest old.feed)) = end-known in omega arith in
      let bound : mid.reach ≤ 2 ^ 62 + 1 = omega arith in
      let reached : mid.reach ≡ max old.reach (walked (needs course old.position) (end_of rest old)) = walked-same old.position old.reach mid.reach (end_of rest old) bound first (needs course old.position) reach in
      let arrived : arrival course mid.position mid.reach ≡ arrival course old.position (end_of rest old) = ap (λ p. arrival course p mid.reach) position ∙ arrival-same old.position old.reach mid.reach (end_of rest old) bound first course reach in
      let still : (not old.scroll && goes_back course fetching old.position (end_of rest old - 1)) ≡ false = sym (ap (λ b. not old.scroll && b) (back-same rest old.feed course fetching old.position old.reach (end_of rest old) behind end-known)) ∙ back in
      let none : fault_met (passes (needs course old.position) (end_of rest old)) (end_of rest old) (fault_of (list_of rest old)) old ≡ None =
      not-met _ _ _ _ (λ through. pulls.3 (passed old.position old.reach mid.reach (end_of rest old) bound first (needs course old.position) reach through)) in (
        (λ i. if alive i then Some (record { code = PortalCannotRun; args = name ∷ [] }, old) else if still i then Some (record { code = ForwardOnly; args = [] }, failed old) else none i),
        at ∙ ((λ i. stretch course (position i) (arrived i) (last_known mid.feed mid.reach)) ∙ stretch-same rest mid.feed course old.position (arrival course old.position (end_of rest old)) mid.reach (end_of rest old)
            (subst (λ a. a ≤ mid.reach) arrived (arrived-within course mid.position mid.reach safe.behind)) known),
        record {
          standing = λ i. record new {
            pin = (ap (λ s. s.pin) is ∙ ap (λ s. s.pin) pulls.2) i;
            position = (ap (λ s. s.position) is ∙ arrived) i;
            reach = (ap (λ s. s.reach) is ∙ reached) i;
            scroll = (ap (λ s. s.scroll) is ∙ ap (λ s. s.scroll) pulls.2) i;
            hold = (ap (λ s. s.hold) is ∙ ap (λ s. s.hold) pulls.2) i;
            failed = (ap (λ s. s.failed) is ∙ ap (λ s. s.failed) pulls.2) i;
            level = (ap (λ s. s.level) is ∙ ap (λ s. s.level) pulls.2) i;
            uses = (ap (λ s. s.uses) is ∙ ap (λ s. s.uses) pulls.2) i;
          };
          list = ap (λ s. list_of rest s) is ∙ pulls.0;
          first = ap (λ s. s.kept.first) is ∙ pulls.1;
        },
      )
