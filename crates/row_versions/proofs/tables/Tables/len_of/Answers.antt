use Rattle.std.proofs.Common.{[], length, sym, ap, ◌∙◌}
use Rattle.std.specs.Option.{option_map_or}
use Rattle.row_versions.specs.Stored.{Stored}
use Rattle.row_versions.proofs.Positions.{slots_at_get}
use Rattle.row_versions.proofs.tables.Tables.len_of.Goals as goal

pub returns-in-Some : goal.returns-in-Some
returns-in-Some c =
    c.len.ensures ∙ ap (λ o. length (option_map_or (λ (table : Stored). table.slots) o [])) c.in-Some.ensures ∙ ap length (sym (slots_at_get c.args.self.now c.args.table))

pub returns-in-None : goal.returns-in-None
returns-in-None c =
    ap (λ o. length (option_map_or (λ (table : Stored). table.slots) o [])) c.in-None.ensures ∙ ap length (sym (slots_at_get c.args.self.now c.args.table))
