-- The statistics of tables that change.
use Rattle.std.specs.Prelude.{ℕ, zero, suc, ◌+◌, ◌==◌, Bool, List, [], ◌∷◌, ◌++◌, if◌then◌else◌}
use Rattle.q_base.specs.declared.ids.ColId.{ColId}
use Rattle.q_value.specs.declared.statistics.ColumnStats.{ColumnStats}
use Rattle.q_value.specs.declared.statistics.TableStats.{TableStats}

-- of a column that was never analysed
abbrev pub unknown : ColumnStats
unknown = record { distinct = 200; common = [] }

abbrev pub unknown_columns : ℕ → List ColumnStats
unknown_columns zero = []
unknown_columns (suc n) = unknown ∷ unknown_columns n

-- of a table that was never analysed
abbrev pub first_stats : ℕ → TableStats
first_stats count = record { rows = 1000; columns = unknown_columns count }

abbrev pub stats_with_new : TableStats → TableStats
stats_with_new stats = record stats { columns = stats.columns ++ unknown ∷ [] }

abbrev pub kept_or_unknown : ColumnStats → Bool → ColumnStats
kept_or_unknown column lost = if lost then unknown else column

abbrev pub each_but : ℕ → ℕ → List ColumnStats → List ColumnStats
each_but other place [] = []
each_but other place (column ∷ columns) = kept_or_unknown column (place == other) ∷ each_but other (place + 1) columns

-- nothing is known of one column any more
abbrev pub stats_without : TableStats → ColId → TableStats
stats_without stats id = record stats { columns = each_but id.0 0 stats.columns }
