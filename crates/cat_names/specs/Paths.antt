-- Search paths.
use Rattle.std.specs.Prelude.{◌≡◌, ◌==◌, ◌||◌, ◌++◌, ◌∷◌, ℕ, Bool, true, false, Option, None, Some, List, [], if◌then◌else◌, drop}
use Rattle.std.specs.Str.{bytes_eq}
use Rattle.q_base.specs.declared.ids.SchemaId.{SchemaId}
use Rattle.cat_names.specs.declared.rows.SchemaRow.{SchemaRow}

abbrev pub Text : Type 0
Text = List ℕ

-- the schema of a name
abbrev pub schema_named : List SchemaRow → Text → Option SchemaId
schema_named [] name = None
schema_named (schema ∷ schemas) name = if bytes_eq schema.name name then Some schema.id else schema_named schemas name

abbrev pub is_listed : SchemaId → List SchemaId → Bool
is_listed id [] = false
is_listed id (other ∷ others) = if other.0 == id.0 then true else is_listed id others

-- the schemas with one more, where there is one that isn't among them
unfoldable pub with_schema : Option SchemaId → List SchemaId → List SchemaId
with_schema None found = found
with_schema (Some id) found = if is_listed id found then found else found ++ id ∷ []

-- the schemas found so far, and then those of a path that exist and aren't among them
abbrev pub with_path : List SchemaRow → List SchemaId → List Text → List SchemaId
with_path schemas found [] = found
with_path schemas found (name ∷ path) = with_path schemas (with_schema (schema_named schemas name) found) path

-- the schemas of a path that exist, each once
abbrev pub effective : List Text → List SchemaRow → List SchemaId
effective path schemas = with_path schemas [] path

-- another schema than the next of the kept ones, where count of them were met
abbrev pub IsOther : List SchemaId → SchemaId → Type 0
IsOther [] id = Unit {0}
IsOther (next ∷ more) id = (next ≡ id) → ⊥

abbrev pub Differs : List SchemaId → ℕ → Option SchemaId → Type 0
Differs kept count None = ⊥
Differs kept count (Some id) = (is_listed id (Rattle.std.specs.Prelude.take count kept) ≡ false) × IsOther (drop count kept) id
