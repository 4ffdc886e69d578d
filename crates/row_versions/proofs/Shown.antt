use Rattle.std.proofs.Common.{◌≡◌, ℕ, ◌+◌, ◌-◌, ◌<◌, if◌then◌else◌, Some, List, ◌∷◌, drop, reverse, length, get_or, sym, ap, ◌∙◌, arith}
use Rattle.std.proofs.lemmas.List.{at_drop_more, get_or-reverse, length-reverse}
use Rattle.row_versions.specs.declared.slot.Version.{Version}
use Rattle.row_versions.specs.Versions.{is_shown, shown_in}

-- the version at the place counted from the end decides before those that are older
pub shown_in-back : (older : List Version) (moment n k : ℕ) (version : Version) → n ≡ length older → k < n → version ≡ get_or older (n - 1 - k) version → shown_in (drop k (reverse older)) moment ≡ (if is_shown version moment then Some version.row else shown_in (drop (k + 1) (reverse older)) moment)
shown_in-back older moment n k version len lt at =
    let within : k < length older = omega arith in
    let here : get_or (reverse older) k version ≡ version = get_or-reverse older k version within ∙ ap (λ i. get_or older (i - 1 - k) version) (sym len) ∙ sym at in
    at_drop_more (λ versions. shown_in versions moment) (reverse older) k version (omega (arith, length-reverse older)) ∙ ap (λ v. shown_in (v ∷ drop (k + 1) (reverse older)) moment) here
