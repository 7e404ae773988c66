use Rattle.std.proofs.Common.{◌≡◌, ◌∙◌, ap₂}
use Rattle.std.proofs.lemmas.Result.{IfOk-weaker}
use Rattle.clap.specs.Words.{app_of, with_rule}
use Rattle.fdb_split.specs.Program.{command as command_read}
use Rattle.fdb_split.proofs.arguments.command.Goals as goal

pub returns : goal.returns
returns c =
    let one = c.in_ok-arg.ensures.shape c.file_argument.ensures.own ∙ ap₂ with_rule c.new_command.ensures c.file_argument.ensures.rule in
    let two = c.in_ok-arg-2.ensures.shape c.number_argument.ensures.own ∙ ap₂ with_rule one c.number_argument.ensures.rule in
    let three = c.in_ok-arg-3.ensures.shape c.text_argument.ensures.own ∙ ap₂ with_rule two c.text_argument.ensures.rule in
    let four = c.in_ok-arg-4.ensures.shape c.text_argument-2.ensures.own ∙ ap₂ with_rule three c.text_argument-2.ensures.rule in
    let five = c.in_ok-arg-5.ensures.shape c.text_argument-3.ensures.own ∙ ap₂ with_rule four c.text_argument-3.ensures.rule in
    IfOk-weaker c.arg-6.result _ (λ made. app_of made ≡ command_read)
    (λ made added. added.shape c.flag_argument.ensures.own ∙ ap₂ with_rule five c.flag_argument.ensures.rule) c.arg-6.ensures
