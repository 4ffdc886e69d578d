use Rattle.std.proofs.Common.{◌≡◌, inl, inr, [], ◌∷◌, true, false, map, refl, ap, subst, ◌∙◌}
use Rattle.std.specs.String.{string_bytes}
use Rattle.clap.specs.Words.{App, Kinds, HasKind, IsAmong, fault_of, is_simple_and_free}
use Rattle.clap.specs.declared.error.kind.ErrorKind.{ErrorKind}
use Rattle.clap.proofs.OnLiterals.{clap_on_literals}
use Rattle.session_cli.specs.declared.options.WordsError.TheVariants as words_error
use Rattle.session_cli.specs.Words.{app, is_none_of}
use Rattle.session_cli.proofs.options.parsed.Goals as goal

app-simple : is_simple_and_free app ≡ true
unfolding clap_on_literals
app-simple = refl

among-some : (kind : ErrorKind) (kinds : Kinds) → IsAmong kind kinds → is_none_of kinds ≡ false
among-some kind [] h = absurd h
among-some kind (k ∷ kinds) h = refl

pub returns-in-Err-clause-refused : goal.returns-in-Err-clause-refused
returns-in-Err-clause-refused c = λ e.
    let usage : c.cause_of.result ≡ words_error.Usage = cc in
    let words = map string_bytes c.args.words.now in
    let has : HasKind (fault_of app words) c.in-Err.error = subst (λ (a : App). HasKind (fault_of a words) c.in-Err.error) c.in-Ok.ensures (c.in-Err.ensures.kinds (ap is_simple_and_free c.in-Ok.ensures ∙ app-simple)) in
    elim has [ inl memory ↦ absurd (c.cause_of.ensures usage memory) | inr among ↦ among-some _ (fault_of app words) among ]
