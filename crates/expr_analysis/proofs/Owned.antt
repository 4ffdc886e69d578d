-- A loop that takes the elements of a list one by one, and what it gives for each.
use Rattle.std.proofs.Common.{◌≡◌, ℕ, List, [], ◌∷◌, ◌++◌, ◌+◌, length, Result, Ok, Err, refl, sym, ap, subst, ◌∙◌, arith}
use Rattle.q_base.specs.declared.errors.SqlError.{SqlError}
use Rattle.q_base.specs.declared.errors.Stop.{Stop}
use Rattle.q_base.specs.declared.errors.Stop.TheVariants.{Sql, NoMemory}
use Rattle.q_value.specs.Answers.{Answers}
use Rattle.expr_analysis.specs.Expressions.{each_of}
use Rattle.expr_analysis.specs.Nodes.{go_on}

pub nothing_left : {X : Type 0} (l : List X) → length l ≡ 0 → l ≡ []
nothing_left [] h = refl
nothing_left (x ∷ xs) h = absurd (omega arith)

pub one_taken : {X : Type 0} (before after : ℕ) (items rest : List X) (x : X) → items ≡ x ∷ rest → before ≡ length items → after + 1 ≡ before → after ≡ length rest
one_taken before after items rest x steps was gone = let short = ap length steps in omega arith

pub each_more : {A B : Type 0} (f : A → Result B SqlError) (found all : List B) (items rest : List A) (x : A) (y : B) (whole : Result (List B) SqlError)
    → items ≡ x ∷ rest → f x ≡ Ok y → all ≡ found ++ y ∷ [] → each_of f found items ≡ whole → each_of f all rest ≡ whole
each_more f found all items rest x y whole steps ok pushed so_far =
    subst (λ ys. each_of f ys rest ≡ whole) (sym pushed)
    (sym (ap (λ r. go_on r (λ z. each_of f (found ++ z ∷ []) rest)) ok) ∙ subst (λ xs. each_of f found xs ≡ whole) steps so_far)

pub each_refused : {A B : Type 0} (f : A → Result B SqlError) (found : List B) (items rest : List A) (x : A) (whole : Result (List B) SqlError) (stop : Stop)
    → items ≡ x ∷ rest → Answers (f x) (Err stop) → each_of f found items ≡ whole → Answers whole (Err stop)
each_refused f found items rest x whole (Sql error) steps refused so_far =
    sym (subst (λ xs. each_of f found xs ≡ whole) steps so_far) ∙ ap (λ r. go_on r (λ z. each_of f (found ++ z ∷ []) rest)) refused
each_refused f found items rest x whole NoMemory steps refused so_far = tt

pub each_done : {A B : Type 0} (f : A → Result B SqlError) (found : List B) (items : List A) (whole : Result (List B) SqlError)
    → length items ≡ 0 → each_of f found items ≡ whole → whole ≡ Ok found
each_done f found items whole none so_far = sym (subst (λ xs. each_of f found xs ≡ whole) (nothing_left items none) so_far)
