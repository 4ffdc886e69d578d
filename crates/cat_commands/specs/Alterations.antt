-- Changes of a table, with the work on its rows before them.
use Rattle.std.specs.Prelude.{◌≡◌, Result, Ok, Err, List}
use Rattle.q_base.specs.declared.errors.SqlError.{SqlError}
use Rattle.q_base.specs.declared.errors.Stop.{Stop}
use Rattle.q_base.specs.declared.errors.Stop.TheVariants.{Sql, NoMemory}
use Rattle.cat_core.specs.declared.entry.Def.TheVariants as def
use Rattle.cat_core.specs.declared.entry.Entry.{Entry}
use Rattle.cat_core.specs.declared.entry.TableDef.{TableDef}
use Rattle.cat_commands.specs.declared.alter.Altered.{Altered}
use Rattle.cat_commands.specs.declared.alter.RowWork.{RowWork}
use Rattle.cat_commands.specs.Steps.{Step, steps, put_touched}

pub record Alteration : Type 0 where
  pub rows : RowWork
  pub made : List Step

abbrev pub Altering : Type 0
Altering = Result Alteration SqlError

abbrev pub seen : Altered → Alteration
seen altered = record { rows = altered.rows; made = steps altered.changes }

-- a call gives this alteration or this refusal, or stops for want of memory
abbrev pub Alters : Altering → Result Altered Stop → Type 0
Alters expected (Ok altered) = expected ≡ Ok (seen altered)
Alters expected (Err (Sql error)) = expected ≡ Err error
Alters expected (Err NoMemory) = Unit {0}

-- a table's new definition stands in place of its old one, and the table is touched
abbrev pub put_table : Entry → TableDef → RowWork → Alteration
put_table entry table rows = record { rows = rows; made = put_touched entry.id entry.schema entry.name (def.Table table) }
