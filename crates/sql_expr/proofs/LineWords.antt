-- Words that the lines in the order of reading are made of, besides those that the grammar is made of, and lists by them.
use Rattle.std.proofs.Common.{◌≡◌, Bool, true, List, [], ◌∷◌, refl, sym, ap, subst, ◌∙◌}
use Rattle.sql_tokens.specs.declared.token.Sign.TheVariants as sign
use Rattle.sql_expr.specs.Lines.{Tokens, Line, ◌>>=◌, ◌>>◌, ◌or◌, mark, gives, many}

-- nothing is spelt so
abbrev pub nowhere : {A : Type 0} → Line A
nowhere ts a us = ⊥

-- where the test holds
abbrev pub provided : Bool → Line (Unit {0})
provided holds ts u us = (us ≡ ts) × (holds ≡ true)

-- `[P]` of a list, which is empty where it is left out
abbrev pub any : {A : Type 0} → Line (List A) → Line (List A)
any P = P or gives []

-- `P {separator P}`
abbrev pub separated : {A : Type 0} → Line (Unit {0}) → Line A → Line (List A)
separated separator P = do first ← P; others ← many (separator >> P); gives (first ∷ others)

-- `list(P)`, and `"(" P ")"`
abbrev pub list : {A : Type 0} → Line A → Line (List A)
list P = separated (mark sign.Comma) P

abbrev pub parenthesized : {A : Type 0} → Line A → Line A
parenthesized P = do mark sign.LeftParen; inner ← P; mark sign.RightParen; gives inner

-- ---- lists: one item, one more in front of others, and the list that has them all

pub last-separated : {A : Type 0} (L : Line (Unit {0})) (P : Line A) (ts us : Tokens) (x : A) (xs : List A) → P ts x us → xs ≡ x ∷ [] → separated L P ts xs us
last-separated L P ts us x xs spelt same = (x, us, spelt, ([], us, refl, (same, refl)))

pub next-separated : {A : Type 0} (L : Line (Unit {0})) (P : Line A) (ts a b us : Tokens) (x : A) (xs ys : List A) → P ts x a → L a tt b → separated L P b xs us → ys ≡ x ∷ xs → separated L P ts ys us
next-separated L P ts a b us x xs ys spelt sep (first, c, front, (others, d, more, (same, end))) value =
    (x, a, spelt, (first ∷ others, d, (c, (tt, b, sep, front), more), (value ∙ ap (λ l. x ∷ l) same, end)))

pub list-of : {A : Type 0} (L : Line (Unit {0})) (P : Line A) (S : Line (List A))
    → ((ts us : Tokens) (x : A) (xs : List A) → P ts x us → xs ≡ x ∷ [] → S ts xs us)
    → ((ts a b us : Tokens) (x : A) (xs ys : List A) → P ts x a → L a tt b → S b xs us → ys ≡ x ∷ xs → S ts ys us)
    → (ts a b us : Tokens) (x : A) (others xs : List A) → P ts x a → many (L >> P) a others b → xs ≡ x ∷ others → us ≡ b → S ts xs us
list-of L P S last next ts a b us x [] xs front more same end = last ts us x xs (subst (λ vs. P ts x vs) (sym (end ∙ more)) front) same
list-of L P S last next ts a b us x (y ∷ others) xs front (c, (u, k, sep, item), rest) same end =
    next ts a k us x (y ∷ others) xs front sep (list-of L P S last next k c b us y others (y ∷ others) item rest refl end) same
