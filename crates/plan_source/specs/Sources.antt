-- What a prepared statement keeps, and what a use of it takes.
use Rattle.std.specs.Prelude.{◌≡◌, ◌+◌, ◌^◌, ℕ, nat_lt, Bool, true, false, ◌&&◌, not, is_some, IsTrue, MatchOption, if◌then◌else◌, Option, None, Some, Result, Ok, Err, List, [], ◌∷◌}
use Rattle.std.specs.Option.{option_map}
use Rattle.std.specs.declared.rc.Rc.{Rc}
use Rattle.std.specs.declared.alloc.Global.{Global}
use Rattle.q_base.specs.declared.ids.ObjId.{ObjId}
use Rattle.q_base.specs.declared.settings.Mode.{Mode}
use Rattle.q_base.specs.declared.errors.Stop.{Stop}
use Rattle.q_base.specs.declared.errors.Stop.TheVariants.{Sql, NoMemory}
use Rattle.q_base.specs.Counts.{Counts}
use Rattle.q_value.specs.declared.value.SqlType.{SqlType}
use Rattle.query_tree.specs.declared.result.ResultType.{ResultType}
use Rattle.cat_names.specs.Paths.{effective}
use Rattle.plan_tree.specs.declared.Plan.{Plan}
use Rattle.plan_tree.specs.Costs.{cost_of}
use Rattle.plan_choice.specs.declared.Choice.{Choice}
use Rattle.plan_choice.specs.declared.Choice.TheVariants as plan
use Rattle.plan_choice.specs.declared.Tally.{Tally}
use Rattle.plan_choice.specs.Choice.{choice, no_uses, with_custom, with_generic}
use Rattle.plan_invalid.specs.Sources.{Sources, source_of, is_marked, is_among, Changes}
use Rattle.plan_invalid.specs.declared.source.Source.{Source}
use Rattle.plan_invalid.specs.declared.source.SourceId.{SourceId}
use Rattle.sql_tree.specs.declared.statement.Statement.{Statement}
use Rattle.plan_source.specs.declared.binding.Binding.{Binding}
use Rattle.plan_source.specs.declared.source.CachedSource.{CachedSource}
use Rattle.plan_source.specs.declared.source.SourceStop.{SourceStop}
use Rattle.plan_source.specs.declared.source.SourceStop.TheVariants as stop
use Rattle.plan_source.specs.declared.source.Env.{Env}
use Rattle.plan_source.specs.declared.source.Ready.{Ready}
use Rattle.plan_source.specs.Same.{is_same_result}

-- the search path still leads to the schemas of the analysis
abbrev pub IsAlong : Binding → Env → Type 0
IsAlong binding env = effective env.path.now env.catalog.now.schemas ≡ binding.path

-- a binding is kept that wasn't made invalid, along the search path of now
abbrev pub Stands : CachedSource → Env → Sources → Type 0
Stands source env marks = MatchOption source.binding ⊥ (λ (binding : Binding). IsTrue (not (is_marked (source_of marks source.id))) × IsAlong binding env)

abbrev pub uses_of : Option Binding → Option (List ObjId)
uses_of None = None
uses_of (Some binding) = Some binding.uses

-- the plan that is kept for all values
abbrev pub generic_of : Option Binding → Option (Rc Plan Global)
generic_of None = None
generic_of (Some binding) = binding.generic

abbrev pub has_params : List SqlType → Bool
has_params [] = false
has_params (kind ∷ kinds) = true

-- what PREPARE fixed is as it was
pub record KeepsFixed (old new : CachedSource) : Type 0 where
  pub id : new.id ≡ old.id
  pub tree : new.tree ≡ old.tree
  pub params : new.params ≡ old.params
  pub columns : new.columns ≡ old.columns

-- the binding is the same, but for the plan that it keeps
abbrev pub KeepsBinding : Option Binding → Option Binding → Type 0
KeepsBinding None new = new ≡ None
KeepsBinding (Some binding) new = new ≡ Some (record binding { generic = generic_of new })

-- of a new analysis along the search path of now, without a plan
abbrev pub IsNew : Binding → Env → Type 0
IsNew binding env = IsAlong binding env × (binding.generic ≡ None)

abbrev pub one_more : Counts → Counts
one_more work = record work { analyses = work.analyses + 1 }

-- one analysis was counted, unless memory was refused
abbrev pub CountsOne : {A : Type 0} → Counts → Result A Stop → Counts → Type 0
CountsOne old (Ok a) new = new ≡ one_more old
CountsOne old (Err (Sql error)) new = new ≡ one_more old
CountsOne old (Err NoMemory) new = Unit {0}

-- what the marks have of a source that watches these objects
abbrev pub watcher : SourceId → List ObjId → Source
watcher id uses = record { generation = id.generation; uses = uses; marked = false }

-- a statement that was just prepared: no id but its own changed, which is new; its binding stands, and watches what it uses
pub record IsPrepared (source : CachedSource) (written : Rc Statement Global) (env : Env) (old new : Sources) : Type 0 where
  pub binding : Binding
  pub bound : source.binding ≡ Some binding
  pub fresh : source_of old source.id ≡ None
  pub watches : Changes old new source.id (Some (watcher source.id binding.uses))
  pub found : IsNew binding env
  pub tree : source.tree ≡ written
  pub tally : source.tally ≡ no_uses

-- the columns of PREPARE and those of now
abbrev pub Tells : Rc ResultType Global → ResultType → SourceStop → Type 0
Tells columns now (stop.Sql error) = ⊥
Tells columns now (stop.Changed kept other) = (kept.value ≡ columns.value) × (other ≡ now)
Tells columns now stop.NoMemory = Unit {0}

-- a use that was stopped for another reason than memory leaves no binding; one as changed tells the columns of PREPARE and
-- of now, which aren't the same
abbrev pub Loses : CachedSource → CachedSource → SourceStop → Type 0
Loses old new (stop.Sql error) = new.binding ≡ None
Loses old new (stop.Changed columns now) = (new.binding ≡ None) × (columns.value ≡ old.columns.value) × (is_same_result columns.value now ≡ false)
Loses old new stop.NoMemory = Unit {0}

-- the tally after one more use, while it counts
abbrev pub with_generic_use : Tally → Tally
with_generic_use tally = if nat_lt tally.generic_count (2 ^ 62) then with_generic tally else tally

abbrev pub with_custom_use : Tally → ℕ → ℕ → Tally
with_custom_use tally cost width = if nat_lt tally.custom_count (2 ^ 62) && nat_lt tally.custom_sum (2 ^ 126) then with_custom tally cost width else tally

-- a use takes the generic plan and counts it, or a custom one, and counts its cost and its charge
abbrev pub CountsUse : Choice → Tally → ℕ → Tally → Type 0
CountsUse plan.Generic tally cost new = new ≡ with_generic_use tally
CountsUse plan.Custom tally cost new = (width : ℕ) × (new ≡ with_custom_use tally cost width)

-- a use chooses by the tally; where that asks for a generic plan, whose cost may then be known anew, it chooses once more
pub record Takes (mode : Mode) (params : List SqlType) (old new : Tally) (chosen : Choice) (cost : ℕ) : Type 0 where
  pub judged : Tally
  pub known : judged ≡ record old { generic_cost = judged.generic_cost }
  pub custom : choice mode (has_params params) old ≡ plan.Custom → judged ≡ old
  pub chooses : chosen ≡ choice mode (has_params params) judged
  pub counts : CountsUse chosen judged cost new
