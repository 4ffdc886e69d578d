-- Changes by what they mean: an entry is put by its value.
use Rattle.std.specs.Prelude.{◌≡◌, Result, Ok, Err, List, [], ◌∷◌, ◌++◌, map}
use Rattle.q_base.specs.declared.errors.SqlError.{SqlError}
use Rattle.q_base.specs.declared.errors.Stop.{Stop}
use Rattle.q_base.specs.declared.errors.Stop.TheVariants.{Sql, NoMemory}
use Rattle.q_base.specs.declared.ids.ObjId.{ObjId}
use Rattle.q_base.specs.declared.ids.SchemaId.{SchemaId}
use Rattle.cat_names.specs.declared.rows.SchemaRow.{SchemaRow}
use Rattle.cat_core.specs.declared.entry.Def.{Def}
use Rattle.cat_core.specs.declared.entry.Entry.{Entry}
use Rattle.cat_core.specs.declared.changes.Change.{Change}
use Rattle.cat_core.specs.declared.changes.Change.TheVariants as change
use Rattle.cat_commands.specs.Names.{Text}

pub data Step : Type 0 where
  Puts : Entry → Step
  Drops : ObjId → Step
  PutsSchema : SchemaRow → Step
  DropsSchema : SchemaId → Step
  Touches : ObjId → Step
  TouchesAll : Step

abbrev pub step : Change → Step
step (change.PutEntry entry) = Puts entry.value
step (change.DropEntry id) = Drops id
step (change.PutSchema row) = PutsSchema row
step (change.DropSchema id) = DropsSchema id
step (change.Touch id) = Touches id
step change.TouchAll = TouchesAll

abbrev pub steps : List Change → List Step
steps changes = map step changes

abbrev pub one : Change → List Step
one first = step first ∷ []

abbrev pub then : List Change → Change → List Step
then changes last = steps changes ++ step last ∷ []

abbrev pub entry : ObjId → SchemaId → Text → Def → Entry
entry id schema name def = record { id = id; schema = schema; name = name; def = def }

abbrev pub put : ObjId → SchemaId → Text → Def → Step
put id schema name def = Puts (entry id schema name def)

abbrev pub put_touched : ObjId → SchemaId → Text → Def → List Step
put_touched id schema name def = put id schema name def ∷ Touches id ∷ []

abbrev pub Outcome : Type 0
Outcome = Result (List Step) SqlError

-- a call gives these changes or this refusal, or stops for want of memory
abbrev pub Gives : Outcome → Result (List Change) Stop → Type 0
Gives expected (Ok changes) = expected ≡ Ok (steps changes)
Gives expected (Err (Sql error)) = expected ≡ Err error
Gives expected (Err NoMemory) = Unit {0}
