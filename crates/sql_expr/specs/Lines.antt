-- The words in which the grammar says what tokens alone spell. A line says of tokens what they spell, and which tokens stand behind that.
use Rattle.std.specs.Prelude.{◌≡◌, ◌≢◌, ◌⊎◌, ℕ, Bool, true, false, List, [], ◌∷◌, All, Option, Some, None, codes}
use Prim.Native.String.{String}
use Rattle.sql_tokens.specs.declared.token.Token.{Token}
use Rattle.sql_tokens.specs.declared.token.Token.TheVariants as token
use Rattle.sql_tokens.specs.declared.token.Sign.{Sign}

abbrev pub Text : Type 0
Text = List ℕ

abbrev pub Tokens : Type 0
Tokens = List Token

abbrev pub Line : Type 0 → Type 1
Line A = Tokens → A → Tokens → Type 0

-- ---- one token, and what it gives

-- the token comes next, and these stand behind it
pub record TakesToken (t : Token) (ts us : Tokens) : Type 0 where
  pub tokens : ts ≡ t ∷ us

abbrev pub word : Text → Line (Unit {0})
word w ts u us = TakesToken (token.Word w) ts us

-- a keyword
abbrev pub key : String → Line (Unit {0})
key w = word (codes w)

abbrev pub mark : Sign → Line (Unit {0})
mark s ts u us = TakesToken (token.Sign s) ts us

abbrev pub reserved_words : List Text
reserved_words =
    codes "all" ∷ codes "and" ∷ codes "as" ∷ codes "asc" ∷ codes "between" ∷ codes "by" ∷ codes "create" ∷ codes "cross" ∷
    codes "default" ∷ codes "desc" ∷ codes "distinct" ∷ codes "false" ∷ codes "for" ∷ codes "from" ∷ codes "group" ∷ codes "having" ∷
    codes "in" ∷ codes "inner" ∷ codes "into" ∷ codes "is" ∷ codes "join" ∷ codes "limit" ∷ codes "not" ∷ codes "null" ∷
    codes "offset" ∷ codes "on" ∷ codes "or" ∷ codes "order" ∷ codes "primary" ∷ codes "returning" ∷ codes "select" ∷ codes "set" ∷
    codes "table" ∷ codes "to" ∷ codes "true" ∷ codes "union" ∷ codes "unique" ∷ codes "values" ∷ codes "where" ∷ codes "with" ∷ []

-- a word that isn't reserved, or a quoted identifier
abbrev pub name : Line Text
name ts n us = (TakesToken (token.Word n) ts us × All (λ reserved. reserved ≢ n) reserved_words) ⊎ TakesToken (token.Quoted n) ts us

abbrev pub number : Line Text
number ts digits us = TakesToken (token.Number digits) ts us

abbrev pub string : Line Text
string ts text us = TakesToken (token.Text text) ts us

abbrev pub parameter : Line Text
parameter ts digits us = TakesToken (token.Param digits) ts us

-- ---- no token

-- the value alone
abbrev pub gives : {A : Type 0} → A → Line A
gives value ts a us = (a ≡ value) × (us ≡ ts)

-- `(before P)`: where P comes next
abbrev pub ahead : {A : Type 0} → Line A → Line (Unit {0})
ahead {A = A} P ts u us = (us ≡ ts) × ((a : A) × (vs : Tokens) × P ts a vs)

-- `(not before P)`: where it doesn't
abbrev pub unless : {A : Type 0} → Line A → Line (Unit {0})
unless {A = A} P ts u us = (us ≡ ts) × ((a : A) (vs : Tokens) → ¬ P ts a vs)

-- ---- lines one behind another, one or another, and repetitions

infixl 10 ◌>>=◌
abbrev pub ◌>>=◌ : {A B : Type 0} → Line A → (A → Line B) → Line B
◌>>=◌ {A = A} P Q ts b us = (a : A) × (middle : Tokens) × P ts a middle × Q a middle b us

infixl 10 ◌>>◌
abbrev pub ◌>>◌ : {A B : Type 0} → Line A → Line B → Line B
P >> Q = P >>= (λ _. Q)

infixr 11 ◌<$>◌
abbrev pub ◌<$>◌ : {A B : Type 0} → (A → B) → Line A → Line B
f <$> P = P >>= (λ a. gives (f a))

-- `P | Q`
infixr 9 ◌or◌
abbrev pub ◌or◌ : {A : Type 0} → Line A → Line A → Line A
(P or Q) ts a us = P ts a us ⊎ Q ts a us

-- `[P]`
abbrev pub maybe : {A : Type 0} → Line A → Line (Option A)
maybe P = Some <$> P or gives None

-- `[KEYWORD]`, and whether it is written
abbrev pub said : String → Line Bool
said w = key w >> gives true or gives false

-- `[KEYWORD before P]`: the keyword exactly where P follows it, for a word that may be a name too
abbrev pub before : {A : Type 0} → String → Line A → Line (Unit {0})
before w P = key w >> ahead P or unless (key w >> P)

-- `{P}`
abbrev pub many : {A : Type 0} → Line A → Line (List A)
many P ts [] us = us ≡ ts
many P ts (a ∷ more) us = (middle : Tokens) × P ts a middle × many P middle more us
