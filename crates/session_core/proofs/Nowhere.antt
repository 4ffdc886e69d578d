-- Where names mean nothing: for what is refused before any name is looked up.
use Rattle.std.proofs.Common.{◌≡◌, List, [], Result, Ok, Err, refl, ap}
use Rattle.q_base.specs.declared.code.Code.TheVariants.{UnknownRelation}
use Rattle.q_base.specs.declared.errors.SqlError.{SqlError}
use Rattle.q_base.specs.declared.errors.Stop.{Stop}
use Rattle.q_base.specs.declared.errors.Stop.TheVariants.{Sql, NoMemory}
use Rattle.q_value.specs.declared.value.SqlType.{SqlType}
use Rattle.q_value.specs.Answers.{Answers}
use Rattle.sql_tree.specs.declared.prepared.PrepareTree.{PrepareTree}
use Rattle.expr_analysis.specs.Types.{declared_types}
use Rattle.analyzer.specs.Statements.{AnalysedAs, Surroundings}
use Rattle.session_core.specs.Prepared.{prepared}
use Rattle.session_core.specs.State.{Statement}

pub nowhere : Surroundings
nowhere = record { items = λ chains. Ok []; changed = λ name. Err (record { code = UnknownRelation; args = [] }) }

-- the types are refused before the statement is analysed
pub types_refused : (statements : List Statement) (tree : PrepareTree) (stop : Stop) → Answers {A = List SqlType} (declared_types tree.types) (Err stop) → AnalysedAs (prepared nowhere statements tree) (Err stop)
unfolding prepared
types_refused statements tree (Sql error) refused = rw refused refl
types_refused statements tree NoMemory refused = tt
