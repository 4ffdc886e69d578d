use Rattle.std.proofs.Common.{◌≡◌, [], ◌∷◌, ◌++◌, None, sym, ap, ◌∙◌}
use Rattle.std.specs.String.{string_bytes, string_eq}
use Rattle.indexmap.specs.IndexMap.{get}
use Rattle.indexmap.proofs.CallerLemmas.{insert_entry-new}
use Rattle.session_core.specs.Prepared.{kept}
use Rattle.session_core.specs.Seen.{found_in, statements_of}
use Rattle.session_core.proofs.Entries.{kept-lookup, none-found, statements_of-push}
use Rattle.session_core.proofs.statements.Statements.insert.Goals as goal

pub returns : goal.returns
returns c =
    let map = c.self.inside.by_name in
    let key = c.into_string.result in
    let none : get string_eq map key ≡ None =
    none-found (get string_eq map key)
    (sym (kept-lookup map.entries (string_bytes key)) ∙ (ap (kept (statements_of map.entries)) c.into_string.ensures ∙ (ap (λ s. kept s c.args.name) c.self.view_is ∙ c.requires))) in
    ap statements_of (c.in_ok-insert.ensures.entries ∙ insert_entry-new string_eq map key c.args.statement none)
    ∙ (statements_of-push map.entries (key, c.args.statement) ∙ (λ i. c.self.view_is i ++ record { name = c.into_string.ensures i; found = found_in c.args.statement } ∷ []))
