use Rattle.std.proofs.Common.{◌≡◌, ℕ, ◌<◌, ◌≤◌, List, [], ◌∷◌, ◌++◌, length, set, get_or, suc, zero, refl, ap, ◌∙◌, arith}
use Rattle.row_versions.specs.Stored.{Stored, changed, in_slot}
use Rattle.row_versions.specs.declared.slot.Version.{Version}

-- a write is a change of the element there
pub set_changed : {A : Type 0} (f : A → A) (xs : List A) (n : ℕ) (x y : A) → n < length xs → x ≡ get_or xs n x → y ≡ f x → set xs n y ≡ changed n f xs
set_changed f [] n x y h at e = absurd (omega arith)
set_changed f (z ∷ xs) zero x y h at e = ap (λ w. w ∷ xs) (e ∙ ap f at)
set_changed f (z ∷ xs) (suc n) x y h at e = ap (λ ys. z ∷ ys) (set_changed f xs n x y (omega arith) at e)

pub changed_past : {A : Type 0} (f : A → A) (xs : List A) (n : ℕ) → length xs ≤ n → changed n f xs ≡ xs
changed_past f [] n h = refl
changed_past f (x ∷ xs) zero h = absurd (omega arith)
changed_past f (x ∷ xs) (suc n) h = ap (λ ys. x ∷ ys) (changed_past f xs n (omega arith))

pub changed_twice : {A : Type 0} (f g : A → A) (xs : List A) (n : ℕ) → changed n g (changed n f xs) ≡ changed n (λ x. g (f x)) xs
changed_twice f g [] n = refl
changed_twice f g (x ∷ xs) zero = refl
changed_twice f g (x ∷ xs) (suc n) = ap (λ ys. x ∷ ys) (changed_twice f g xs n)

pub changed_alike : {A : Type 0} (f g : A → A) (xs : List A) (n : ℕ) → ((x : A) → f x ≡ g x) → changed n f xs ≡ changed n g xs
changed_alike f g [] n h = refl
changed_alike f g (x ∷ xs) zero h = ap (λ y. y ∷ xs) (h x)
changed_alike f g (x ∷ xs) (suc n) h = ap (λ ys. x ∷ ys) (changed_alike f g xs n h)

-- only the element there counts
pub changed_by : {A : Type 0} (f g : A → A) (xs : List A) (n : ℕ) (d : A) → f (get_or xs n d) ≡ g (get_or xs n d) → changed n f xs ≡ changed n g xs
changed_by f g [] n d h = refl
changed_by f g (x ∷ xs) zero d h = ap (λ y. y ∷ xs) h
changed_by f g (x ∷ xs) (suc n) d h = ap (λ ys. x ∷ ys) (changed_by f g xs n d h)

pub changed_id : {A : Type 0} (xs : List A) (n : ℕ) → changed n (λ x. x) xs ≡ xs
changed_id [] n = refl
changed_id (x ∷ xs) zero = refl
changed_id (x ∷ xs) (suc n) = ap (λ ys. x ∷ ys) (changed_id xs n)

pub length-changed : {A : Type 0} (f : A → A) (xs : List A) (n : ℕ) → length (changed n f xs) ≡ length xs
length-changed f [] n = refl
length-changed f (x ∷ xs) zero = refl
length-changed f (x ∷ xs) (suc n) = ap suc (length-changed f xs n)

pub get_or-changed_other : {A : Type 0} (f : A → A) (xs : List A) (n k : ℕ) (d : A) → (k ≡ n → ⊥) → get_or (changed n f xs) k d ≡ get_or xs k d
get_or-changed_other f [] n k d h = refl
get_or-changed_other f (x ∷ xs) zero zero d h = absurd (h refl)
get_or-changed_other f (x ∷ xs) zero (suc k) d h = refl
get_or-changed_other f (x ∷ xs) (suc n) zero d h = refl
get_or-changed_other f (x ∷ xs) (suc n) (suc k) d h = get_or-changed_other f xs n k d (λ e. h (ap suc e))

pub get_or-changed : {A : Type 0} (f : A → A) (xs : List A) (n : ℕ) (d : A) → n < length xs → get_or (changed n f xs) n d ≡ f (get_or xs n d)
get_or-changed f [] n d h = absurd (omega arith)
get_or-changed f (x ∷ xs) zero d h = refl
get_or-changed f (x ∷ xs) (suc n) d h = get_or-changed f xs n d (omega arith)

-- what holds of each element goes on holding where it holds of the changed one
pub changed_keeps : {A : Type 0} (P : ℕ → A → Type 0) (f : A → A) (xs : List A) (n : ℕ) (d : A) → P n (f (get_or xs n d)) → ((k : ℕ) → P k (get_or xs k d)) → (k : ℕ) → P k (get_or (changed n f xs) k d)
changed_keeps P f [] n d here all k = all k
changed_keeps P f (x ∷ xs) zero d here all zero = here
changed_keeps P f (x ∷ xs) zero d here all (suc k) = all (suc k)
changed_keeps P f (x ∷ xs) (suc n) d here all zero = all zero
changed_keeps P f (x ∷ xs) (suc n) d here all (suc k) = changed_keeps (λ i. P (suc i)) f xs n d here (λ i. all (suc i)) k

-- an element at the end that the change leaves as it is
pub changed-push : {A : Type 0} (f : A → A) (xs : List A) (n : ℕ) (x : A) → f x ≡ x → changed n f (xs ++ x ∷ []) ≡ changed n f xs ++ x ∷ []
changed-push f [] zero x h = ap (λ y. y ∷ []) h
changed-push f [] (suc n) x h = refl
changed-push f (y ∷ xs) zero x h = refl
changed-push f (y ∷ xs) (suc n) x h = ap (λ ys. y ∷ ys) (changed-push f xs n x h)

-- the element at the end changed
pub changed_last : {A : Type 0} (f : A → A) (xs : List A) (n : ℕ) (x : A) → n ≡ length xs → changed n f (xs ++ x ∷ []) ≡ xs ++ f x ∷ []
changed_last f [] zero x h = refl
changed_last f [] (suc n) x h = absurd (omega arith)
changed_last f (y ∷ xs) zero x h = absurd (omega arith)
changed_last f (y ∷ xs) (suc n) x h = ap (λ ys. y ∷ ys) (changed_last f xs n x (omega arith))

-- a slot without versions at the end is like one that was not given
pub get_or_padded : {A : Type 0} (xs : List A) (k : ℕ) (d : A) → get_or (xs ++ d ∷ []) k d ≡ get_or xs k d
get_or_padded [] zero d = refl
get_or_padded [] (suc k) d = refl
get_or_padded (x ∷ xs) zero d = refl
get_or_padded (x ∷ xs) (suc k) d = get_or_padded xs k d

pub pushed_keeps : {A : Type 0} (P : ℕ → A → Type 0) (xs : List A) (x d : A) → P (length xs) x → ((k : ℕ) → P k (get_or xs k d)) → (k : ℕ) → P k (get_or (xs ++ x ∷ []) k d)
pushed_keeps P [] x d here all zero = here
pushed_keeps P [] x d here all (suc k) = all (suc k)
pushed_keeps P (y ∷ xs) x d here all zero = all zero
pushed_keeps P (y ∷ xs) x d here all (suc k) = pushed_keeps (λ i. P (suc i)) xs x d here (λ i. all (suc i)) k

-- a slot written is a slot changed
pub set_in_slot : (f : List Version → List Version) (table : Stored) (n : ℕ) (x y : List Version) → n < length table.slots → x ≡ get_or table.slots n x → y ≡ f x → record table { slots = set table.slots n y } ≡ in_slot n f table
set_in_slot f table n x y h at e = ap (λ slots. record table { slots = slots }) (set_changed f table.slots n x y h at e)

pub in_slot_past : (f : List Version → List Version) (table : Stored) (n : ℕ) → length table.slots ≤ n → in_slot n f table ≡ table
in_slot_past f table n h = ap (λ slots. record table { slots = slots }) (changed_past f table.slots n h)
