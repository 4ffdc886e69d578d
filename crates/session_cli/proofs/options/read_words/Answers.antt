use Rattle.std.proofs.Common.{◌≡◌, None, cond, map, Err, sym, ap, ◌∙◌}
use Rattle.std.specs.String.{string_bytes}
use Rattle.clap.specs.Words.{matches_of}
use Rattle.session_cli.specs.declared.options.WordsError.TheVariants as words_error
use Rattle.session_cli.specs.Words.{app, is_none_of, options_in, options_of}
use Rattle.session_cli.proofs.options.read_words.Goals as goal

pub returns-in-Err-clause-refused : goal.returns-in-Err-clause-refused
unfolding options_of
returns-in-Err-clause-refused c = λ e.
    let usage : c.in-Err.error ≡ words_error.Usage = cc in
    let some = c.in-Err.ensures.refused (ap Err usage) in
    λ i. cond (some i) (options_in (matches_of app (map string_bytes c.args.words.now))) None

pub returns-in-Some-clause-read : goal.returns-in-Some-clause-read
unfolding options_of
returns-in-Some-clause-read c =
    let words = map string_bytes c.args.words.now in
    let taken = c.in-Ok.ensures.taken in
    (λ i. cond (is_none_of (taken.0 i)) (options_in (matches_of app words)) None) ∙ (ap options_in (sym taken.1) ∙ (sym c.options_in.ensures ∙ c.in-Some.is))

pub returns-clause-refused : goal.returns-clause-refused
unfolding options_of
returns-clause-refused c = λ e.
    let words = map string_bytes c.args.words.now in
    let taken = c.in-Ok.ensures.taken in
    (λ i. cond (is_none_of (taken.0 i)) (options_in (matches_of app words)) None) ∙ (ap options_in (sym taken.1) ∙ (sym c.options_in.ensures ∙ c.in-None.is))
