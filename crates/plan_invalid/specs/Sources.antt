use Rattle.std.specs.Prelude.{◌≡◌, ◌≢◌, ℕ, ◌==◌, Bool, true, false, ◌||◌, List, map, slice_index_or, Option, Some, None, if◌then◌else◌}
use Rattle.std.specs.Option.{option_map}
use Rattle.std.specs.List.{list_any}
use Rattle.q_base.specs.declared.ids.ObjId.{ObjId}
use Rattle.plan_invalid.specs.declared.source.SourceId.{SourceId}
use Rattle.plan_invalid.specs.declared.source.Source.{Source}

-- the source under each key, and how many ids were given
pub record Sources : Type 0 where
  pub slots : List (Option Source)
  pub given : ℕ

-- the source under a key
abbrev pub at_key : List (Option Source) → ℕ → Option Source
at_key slots key = slice_index_or slots key None

-- the source, where it has that generation
abbrev pub of_generation : ℕ → Option Source → Option Source
of_generation generation None = None
of_generation generation (Some source) = if source.generation == generation then Some source else None

-- the source that an id names; none before it is added and once it is removed
abbrev pub source_of : Sources → SourceId → Option Source
source_of sources id = of_generation id.generation (at_key sources.slots id.key)

-- a removed source counts as marked
abbrev pub is_marked : Option Source → Bool
is_marked None = true
is_marked (Some source) = source.marked

-- the object is one of these
abbrev pub is_among : List ObjId → ObjId → Bool
is_among ids id = list_any (λ other. other.0 == id.0) ids

-- the source, marked
abbrev pub marked : Source → Source
marked source = record source { marked = true }

-- the source after a change of an object: marked where it watches it
abbrev pub told : ObjId → Source → Source
told id source = record source { marked = is_among source.uses id || source.marked }

-- the source after an analysis that found these uses
abbrev pub watching : List ObjId → Source → Source
watching uses source = record source { uses = uses; marked = false }

-- all sources after a change of an object
abbrev pub told_all : Sources → ObjId → Sources
told_all sources id = record sources { slots = map (option_map (told id)) sources.slots }

-- all sources, marked
abbrev pub all_marked : Sources → Sources
all_marked sources = record sources { slots = map (option_map marked) sources.slots }

-- an id names another source, or none any more, and every other id names what it named
pub record Changes (old new : Sources) (id : SourceId) (source : Option Source) : Type 0 where
  pub changed : source_of new id ≡ source
  pub others : (other : SourceId) → other ≢ id → source_of new other ≡ source_of old other
