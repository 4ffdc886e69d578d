use Rattle.std.proofs.Common.{refl, ap, ◌∙◌}
use Rattle.std.specs.Str.{bytes_eq}
use Rattle.std.proofs.lemmas.Str.Ascii.{trim_ascii_is}
use Rattle.savepoints.proofs.given.is_bare.Goals as goal

pub returns : goal.returns
returns c = c.eq.ensures ∙ ap (λ bare. bytes_eq bare c.args.text.now) (trim_ascii_is _ _ _ refl c.trim_ascii.ensures.value)
