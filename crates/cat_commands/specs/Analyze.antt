-- What ANALYZE changes.
use Rattle.std.specs.Prelude.{List, []}
use Rattle.q_value.specs.declared.statistics.TableStats.{TableStats}
use Rattle.cat_core.specs.declared.entry.Def.{Def}
use Rattle.cat_core.specs.declared.entry.Def.TheVariants as def
use Rattle.cat_core.specs.declared.entry.Entry.{Entry}
use Rattle.cat_core.specs.declared.entry.TableDef.{TableDef}
use Rattle.cat_commands.specs.Steps.{Step, put_touched}

abbrev pub put_analyzed : Entry → TableDef → TableStats → List Step
put_analyzed entry table stats = put_touched entry.id entry.schema entry.name (def.Table (record table { stats = stats }))

abbrev pub def_analyzed : Entry → TableStats → Def → List Step
def_analyzed entry stats (def.Table table) = put_analyzed entry table stats
def_analyzed entry stats (def.View view) = []
def_analyzed entry stats (def.Index index) = []

-- a table has the new statistics and is touched
abbrev pub analyzed : Entry → TableStats → List Step
analyzed entry stats = def_analyzed entry stats entry.def
