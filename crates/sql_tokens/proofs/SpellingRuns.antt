use Rattle.std.proofs.Common.{◌≡◌, ℕ, suc, ◌+◌, cond, Bool, true, false, List, [], ◌∷◌, ◌++◌, length, take, drop, take_at, drop_at, refl, ap, ◌∙◌, one-add}
use Rattle.std.proofs.lemmas.Bool.{and_parts, and_from}
use Rattle.std.specs.List.{list_all, prefix_len, take_while}
use Rattle.sql_tokens.specs.declared.lexer.characters.Class.{Class}
use Rattle.sql_tokens.specs.Tokens.{is_in, run_of, after_run}
use Rattle.sql_tokens.specs.Spelling.{next_is, IsRun}

-- the longest run of a class is what the reading functions take, and no other

run_by_test : (class : ℕ → Bool) (c n : ℕ) (cs : List ℕ) (b : Bool) → class c ≡ b → IsRun class cs (take n cs) (drop n cs) → IsRun class (c ∷ cs) (take (cond b (1 + n) 0) (c ∷ cs)) (drop (cond b (1 + n) 0) (c ∷ cs))
run_by_test class c n cs true e run = rw one-add (record { parts = ap (λ (xs : List ℕ). c ∷ xs) run.parts; alike = and_from (class c) (list_all class (take n cs)) e run.alike; longest = run.longest })
run_by_test class c n cs false e run = record { parts = refl; alike = refl; longest = e }

run_at : (class : ℕ → Bool) (cs : List ℕ) → IsRun class cs (take_while class cs) (drop (prefix_len class cs) cs)
run_at class [] = record { parts = refl; alike = refl; longest = refl }
run_at class (c ∷ cs) = run_by_test class c (prefix_len class cs) cs (class c) refl (run_at class cs)

pub run_of-sound : (class : Class) (cs : List ℕ) → IsRun (is_in class) cs (run_of class cs) (after_run class cs)
run_of-sound class cs = run_at (is_in class) cs

prefix_len_of : (class : ℕ → Bool) (run rest : List ℕ) → list_all class run ≡ true → next_is class rest ≡ false → prefix_len class (run ++ rest) ≡ length run
prefix_len_of class [] [] alike longest = refl
prefix_len_of class [] (c ∷ rest) alike longest = ap (λ (b : Bool). cond b (1 + prefix_len class rest) 0) longest
prefix_len_of class (c ∷ run) rest alike longest =
    let both = and_parts (class c) (list_all class run) alike in
    ap (λ (b : Bool). cond b (1 + prefix_len class (run ++ rest)) 0) both.0 ∙ one-add _ ∙ ap (λ (n : ℕ). suc n) (prefix_len_of class run rest both.1 longest)

pub run_of-complete : (class : Class) {cs run rest : List ℕ} → IsRun (is_in class) cs run rest → run_of class cs ≡ run
run_of-complete class {cs} {run} {rest} is =
    ap (λ (xs : List ℕ). take_while (is_in class) xs) is.parts
    ∙ ap (λ (n : ℕ). take n (run ++ rest)) (prefix_len_of (is_in class) run rest is.alike is.longest)
    ∙ take_at run rest (length run) refl

pub after_run-complete : (class : Class) {cs run rest : List ℕ} → IsRun (is_in class) cs run rest → after_run class cs ≡ rest
after_run-complete class {cs} {run} {rest} is =
    ap (λ (xs : List ℕ). drop (prefix_len (is_in class) xs) xs) is.parts
    ∙ ap (λ (n : ℕ). drop n (run ++ rest)) (prefix_len_of (is_in class) run rest is.alike is.longest)
    ∙ drop_at run rest (length run) refl
