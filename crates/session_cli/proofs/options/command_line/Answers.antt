use Rattle.std.proofs.Common.{rules, ap, ap₂, codes, true, ◌≡◌, ◌∙◌}
use Rattle.std.proofs.lemmas.Result.{IfOk-weaker}
use Rattle.clap.specs.Simple.{app_of_fields, on_top}
use Rattle.clap.specs.declared.builder.command.Command.{Command}
use Rattle.clap.specs.declared.builder.command.Command.TheOpen.{Command-F}
use Rattle.clap.specs.Words.{App, Shape, app_of, new_app, rule_of, with_rule}
use Rattle.session_cli.specs.Words.{stop_rule, mode_rule, make_rule}
use Rattle.session_cli.proofs.options.command_line.Goals as goal

abbrev bare : App
bare = on_top (λ s. record s { no_binary_name = true; disable_help_flag = true }) (new_app (codes "toasterglen"))

pub returns : goal.returns
returns c =
    let stop_is : rule_of c.action-stop.result ≡ stop_rule = search rules in
    let mode_is : rule_of c.action-mode.result ≡ mode_rule = search rules in
    let make_is : rule_of c.action-make.result ≡ make_rule = search rules in
    let bare_is : app_of c.disable_help_flag-command.result ≡ bare =
    ap app_of_fields (c.disable_help_flag-command.ensures ∙ ap (λ (f : Command-F Command). record f { disable_help_flag = true }) c.no_binary_name.ensures)
    ∙ ap (on_top (λ (s : Shape). record s { no_binary_name = true; disable_help_flag = true })) c.new-4.ensures.app in
    let one_is : app_of c.in_ok-arg.field-0 ≡ with_rule bare stop_rule = c.in_ok-arg.ensures.shape (search rules) ∙ ap₂ with_rule bare_is stop_is in
    let two_is : app_of c.in_ok-arg-2.field-0 ≡ with_rule (with_rule bare stop_rule) mode_rule =
    c.in_ok-arg-2.ensures.shape (search rules) ∙ ap₂ with_rule one_is mode_is in
    IfOk-weaker c.arg-3.result _ _ (λ r h. h.shape (search rules) ∙ ap₂ with_rule two_is make_is) c.arg-3.ensures
