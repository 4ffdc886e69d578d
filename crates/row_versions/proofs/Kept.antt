use Rattle.std.proofs.Common.{◌≡◌, Bool, true, false, cond, Option, None, Some, List, [], ◌∷◌, ◌++◌, reverse, refl, sym, ap, ◌∙◌}
use Rattle.std.specs.List.{filter}
use Rattle.std.specs.Option.{option_to_list}
use Rattle.std.proofs.lemmas.List.{reverse-append}
use Rattle.std.proofs.lemmas.List.Elements.{filter-append}

filter-one : {A : Type 0} (p : A → Bool) (x : A) → filter p (x ∷ []) ≡ reverse (filter p (x ∷ []))
filter-one p x = elim (p x) as (λ b. cond b (x ∷ []) [] ≡ reverse (cond b (x ∷ []) [])) [ true ↦ refl | false ↦ refl ]

pub filter-reverse : {A : Type 0} (p : A → Bool) (xs : List A) → filter p (reverse xs) ≡ reverse (filter p xs)
filter-reverse p [] = refl
filter-reverse p (x ∷ xs) =
    ap (filter p) (reverse-append (x ∷ []) xs) ∙ filter-append p (reverse xs) (x ∷ []) ∙ ap (λ ys. ys ++ filter p (x ∷ [])) (filter-reverse p xs) ∙ ap (λ ys. reverse (filter p xs) ++ ys) (filter-one p x) ∙ sym (reverse-append (filter p (x ∷ [])) (filter p xs)) ∙ ap reverse (sym (filter-append p (x ∷ []) xs))

-- where there is no newest version, or it stays
pub filter-stays : {A : Type 0} (p : A → Bool) (newest : Option A) (older rest : List A) → filter p (option_to_list newest) ≡ option_to_list newest → rest ≡ filter p older → filter p (option_to_list newest ++ reverse older) ≡ option_to_list newest ++ reverse rest
filter-stays p newest older rest stays retained =
    filter-append p (option_to_list newest) (reverse older) ∙ ap (λ ys. ys ++ filter p (reverse older)) stays ∙ ap (λ ys. option_to_list newest ++ ys) (filter-reverse p older ∙ ap reverse (sym retained))

reverse-one : {A : Type 0} (next : Option A) → reverse (option_to_list next) ≡ option_to_list next
reverse-one None = refl
reverse-one (Some x) = refl

-- where it goes, the last of the older ones takes its place
pub filter-goes : {A : Type 0} (p : A → Bool) (newest : Option A) (gone : A) (next : Option A) (older rest : List A) → newest ≡ Some gone → p gone ≡ false → filter p older ≡ rest ++ option_to_list next → filter p (option_to_list newest ++ reverse older) ≡ option_to_list next ++ reverse rest
filter-goes p newest gone next older rest is goes popped =
    ap (λ o. filter p (option_to_list o ++ reverse older)) is ∙ ap (λ b. cond b (gone ∷ filter p (reverse older)) (filter p (reverse older))) goes ∙ filter-reverse p older ∙ ap reverse popped ∙ reverse-append rest (option_to_list next) ∙ ap (λ ys. ys ++ reverse rest) (reverse-one next)
