-- Parts of a column's definition: that each one is new to the definition so far, and that none comes twice.
use Rattle.std.proofs.Common.{◌≡◌, Bool, true, false, cond, not, ◌&&◌, ◌||◌, List, [], ◌∷◌, ◌++◌, Option, Some, None, refl, sym, ap, ◌∙◌}
use Rattle.std.specs.Prelude.{is_some}
use Rattle.std.specs.List.{list_any, list_all}
use Rattle.std.proofs.lemmas.List.{append_assoc, append-nil}
use denote.Enum.Bare.{sameb}
use Rattle.sql_tree.specs.declared.catalog.ColumnDef.{ColumnDef}
use Rattle.sql_tree.specs.declared.catalog.KeyKind.{KeyKind}
use Rattle.sql_tree.specs.contracts.catalog.KeyKind.{the_type}
use Rattle.sql_tree.specs.declared.catalog.Nullability.{Nullability}
use Rattle.sql_tree.specs.declared.catalog.Nullability.TheVariants as nullability
use Rattle.sql_tree.specs.declared.expr.Literal.{Literal}
use Rattle.sql_expr.specs.Reading.{Text}
use Rattle.sql_reader_catalog.specs.declared.columns.Part.{Part}
use Rattle.sql_reader_catalog.specs.declared.columns.Part.TheVariants as variant
use Rattle.sql_reader_catalog.specs.Columns.{repeats, with_part, bare, is_said}
use Rattle.sql_reader.specs.Grammar.{same_kind, none_twice, nullability_of, default_of, keys_of}
use Rattle.sql_reader.specs.Grammar as grammar

-- the part that the reading function makes of it
abbrev pub meant : grammar.Part → Part
meant (grammar.Part.nulls allowed) = variant.Nulls (cond allowed nullability.Null nullability.NotNull)
meant (grammar.Part.default value) = variant.Default value
meant (grammar.Part.keyed kind) = variant.Key kind

-- each part is new to the definition that those before it make
abbrev pub fitting : ColumnDef → List grammar.Part → Bool
fitting def [] = true
fitting def (p ∷ parts) = not (repeats (meant p) def) && fitting (with_part (meant p) def) parts

abbrev pub with_parts : ColumnDef → List grammar.Part → ColumnDef
with_parts def [] = def
with_parts def (p ∷ parts) = with_parts (with_part (meant p) def) parts

-- ---- none twice

abbrev none_repeats : ColumnDef → List grammar.Part → Bool
none_repeats def parts = list_all (λ q. not (repeats (meant q) def)) parts

or-swap : (a b c : Bool) → (a || (b || c)) ≡ (b || (a || c))
or-swap true true c = refl
or-swap true false c = refl
or-swap false true c = refl
or-swap false false c = refl

any-last : {X : Type 0} (f : X → Bool) (xs : List X) (x : X) → list_any f (xs ++ x ∷ []) ≡ (f x || list_any f xs)
any-last f [] x = refl
any-last f (y ∷ xs) x = ap (λ b. f y || b) (any-last f xs x) ∙ or-swap (f y) (f x) (list_any f xs)

said-nulls : (allowed : Bool) → is_said (cond allowed nullability.Null nullability.NotNull) ≡ true
said-nulls true = refl
said-nulls false = refl

repeats-with : (p q : grammar.Part) (def : ColumnDef) → repeats (meant q) (with_part (meant p) def) ≡ (same_kind p q || repeats (meant q) def)
repeats-with (grammar.Part.nulls a) (grammar.Part.nulls b) def = said-nulls a
repeats-with (grammar.Part.nulls a) (grammar.Part.default w) def = refl
repeats-with (grammar.Part.nulls a) (grammar.Part.keyed j) def = refl
repeats-with (grammar.Part.default v) (grammar.Part.nulls b) def = refl
repeats-with (grammar.Part.default v) (grammar.Part.default w) def = refl
repeats-with (grammar.Part.default v) (grammar.Part.keyed j) def = refl
repeats-with (grammar.Part.keyed k) (grammar.Part.nulls b) def = refl
repeats-with (grammar.Part.keyed k) (grammar.Part.default w) def = refl
repeats-with (grammar.Part.keyed k) (grammar.Part.keyed j) def = any-last (λ x. sameb the_type x j) def.keys k

neither-first : (s r a n : Bool) → (not (s || r) && (not a && n)) ≡ (not (s || a) && (not r && n))
neither-first true r a n = refl
neither-first false true true n = refl
neither-first false true false n = refl
neither-first false false true n = refl
neither-first false false false n = refl

none-with : (p : grammar.Part) (parts : List grammar.Part) (def : ColumnDef) → none_repeats (with_part (meant p) def) parts ≡ (not (list_any (same_kind p) parts) && none_repeats def parts)
none-with p [] def = refl
none-with p (q ∷ parts) def =
    ap (λ r. not r && none_repeats (with_part (meant p) def) parts) (repeats-with p q def)
    ∙ (ap (λ b. not (same_kind p q || repeats (meant q) def) && b) (none-with p parts def)
    ∙ neither-first (same_kind p q) (repeats (meant q) def) (list_any (same_kind p) parts) (none_repeats def parts))

first-new : (r a n t : Bool) → (not r && ((not a && n) && t)) ≡ ((not r && n) && (not a && t))
first-new true a n t = refl
first-new false true true t = refl
first-new false true false t = refl
first-new false false true t = refl
first-new false false false t = refl

fitting-none : (def : ColumnDef) (parts : List grammar.Part) → fitting def parts ≡ (none_repeats def parts && none_twice parts)
fitting-none def [] = refl
fitting-none def (p ∷ parts) =
    ap (λ b. not (repeats (meant p) def) && b) (fitting-none (with_part (meant p) def) parts ∙ ap (λ b. b && none_twice parts) (none-with p parts def))
    ∙ first-new (repeats (meant p) def) (list_any (same_kind p) parts) (none_repeats def parts) (none_twice parts)

none-bare : (name type_name : Text) (parts : List grammar.Part) → none_repeats (bare name type_name) parts ≡ true
none-bare name type_name [] = refl
none-bare name type_name (grammar.Part.nulls a ∷ parts) = none-bare name type_name parts
none-bare name type_name (grammar.Part.default v ∷ parts) = none-bare name type_name parts
none-bare name type_name (grammar.Part.keyed k ∷ parts) = none-bare name type_name parts

pub fitting-bare : (name type_name : Text) (parts : List grammar.Part) → fitting (bare name type_name) parts ≡ none_twice parts
fitting-bare name type_name parts = fitting-none (bare name type_name) parts ∙ ap (λ b. b && none_twice parts) (none-bare name type_name parts)

-- ---- what they define

abbrev pub defined : Text → Text → List grammar.Part → ColumnDef
defined name type_name parts = record { name = name; type_name = type_name; nullability = nullability_of parts; default = default_of parts; keys = keys_of parts }

abbrev or_said : Nullability → Nullability → Nullability
or_said nullability.Unsaid later = later
or_said nullability.Null later = nullability.Null
or_said nullability.NotNull later = nullability.NotNull

abbrev or_given : Option Literal → Option Literal → Option Literal
or_given (Some value) later = Some value
or_given None later = later

abbrev merged : ColumnDef → List grammar.Part → ColumnDef
merged def parts = record def { nullability = or_said def.nullability (nullability_of parts); default = or_given def.default (default_of parts); keys = def.keys ++ keys_of parts }

same-def : (def : ColumnDef) {n m : Nullability} {v w : Option Literal} {j k : List KeyKind} → n ≡ m → v ≡ w → j ≡ k
    → ◌≡◌ {A = ColumnDef} (record def { nullability = n; default = v; keys = j }) (record def { nullability = m; default = w; keys = k })
same-def def {n = n} {m = m} {v = v} {w = w} {j = j} {k = k} same_nulls same_default same_keys =
    ap (λ x. record def { nullability = x; default = v; keys = j }) same_nulls
    ∙ (ap (λ x. record def { nullability = m; default = x; keys = j }) same_default
    ∙ ap (λ x. record def { nullability = m; default = w; keys = x }) same_keys)

said-last : (n : Nullability) → n ≡ or_said n nullability.Unsaid
said-last nullability.Unsaid = refl
said-last nullability.Null = refl
said-last nullability.NotNull = refl

given-last : (v : Option Literal) → v ≡ or_given v None
given-last (Some value) = refl
given-last None = refl

pub not-repeated : (r b : Bool) → (not r && b) ≡ true → r ≡ false
not-repeated true b e = cc
not-repeated false b e = refl

pub later-fit : (r b : Bool) → (not r && b) ≡ true → b ≡ true
later-fit true b e = cc
later-fit false b e = e

first-said : (allowed : Bool) (n : Nullability) (parts : List grammar.Part) → is_said n ≡ false
    → or_said (cond allowed nullability.Null nullability.NotNull) (nullability_of parts) ≡ or_said n (nullability_of (grammar.Part.nulls allowed ∷ parts))
first-said true nullability.Unsaid parts e = refl
first-said false nullability.Unsaid parts e = refl
first-said allowed nullability.Null parts e = cc
first-said allowed nullability.NotNull parts e = cc

first-given : (value : Literal) (v : Option Literal) → is_some v ≡ false → Some value ≡ or_given v (Some value)
first-given value (Some w) e = cc
first-given value None e = refl

with-merged : (def : ColumnDef) (parts : List grammar.Part) → fitting def parts ≡ true → with_parts def parts ≡ merged def parts
with-merged def [] fit = same-def def (said-last def.nullability) (given-last def.default) (sym (append-nil def.keys))
with-merged def (grammar.Part.nulls a ∷ parts) fit =
    with-merged (with_part (meant (grammar.Part.nulls a)) def) parts (later-fit _ _ fit)
    ∙ same-def def (first-said a def.nullability parts (not-repeated _ _ fit)) refl refl
with-merged def (grammar.Part.default value ∷ parts) fit =
    with-merged (with_part (meant (grammar.Part.default value)) def) parts (later-fit _ _ fit)
    ∙ same-def def refl (first-given value def.default (not-repeated _ _ fit)) refl
with-merged def (grammar.Part.keyed kind ∷ parts) fit =
    with-merged (with_part (meant (grammar.Part.keyed kind)) def) parts (later-fit _ _ fit)
    ∙ same-def def refl refl (append_assoc def.keys (kind ∷ []) (keys_of parts))

pub with-bare : (name type_name : Text) (parts : List grammar.Part) → fitting (bare name type_name) parts ≡ true → with_parts (bare name type_name) parts ≡ defined name type_name parts
with-bare name type_name parts fit = with-merged (bare name type_name) parts fit
