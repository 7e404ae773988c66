use Rattle.std.proofs.Common.{◌≡◌, ◌∙◌, ap₂}
use Rattle.std.proofs.lemmas.Result.{IfOk-weaker}
use Rattle.clap.specs.Words.{app_of, with_rule}
use Rattle.fdb_audit.specs.Program.{command as command_read}
use Rattle.fdb_audit.proofs.arguments.command.Goals as goal

pub returns : goal.returns
returns c =
    let one = c.in_ok-arg.ensures.shape c.file_argument.ensures.own ∙ ap₂ with_rule c.new_versioned_command.ensures c.file_argument.ensures.rule in
    let two = c.in_ok-arg-2.ensures.shape c.number_argument.ensures.own ∙ ap₂ with_rule one c.number_argument.ensures.rule in
    let three = c.in_ok-arg-3.ensures.shape c.number_argument-2.ensures.own ∙ ap₂ with_rule two c.number_argument-2.ensures.rule in
    let four = c.in_ok-arg-4.ensures.shape c.number_argument-3.ensures.own ∙ ap₂ with_rule three c.number_argument-3.ensures.rule in
    let five = c.in_ok-arg-5.ensures.shape c.number_argument-4.ensures.own ∙ ap₂ with_rule four c.number_argument-4.ensures.rule in
    let six = c.in_ok-arg-6.ensures.shape c.text_argument.ensures.own ∙ ap₂ with_rule five c.text_argument.ensures.rule in
    let seven = c.in_ok-arg-7.ensures.shape c.text_argument-2.ensures.own ∙ ap₂ with_rule six c.text_argument-2.ensures.rule in
    let eight = c.in_ok-arg-8.ensures.shape c.text_argument-3.ensures.own ∙ ap₂ with_rule seven c.text_argument-3.ensures.rule in
    let nine = c.in_ok-arg-9.ensures.shape c.text_argument-4.ensures.own ∙ ap₂ with_rule eight c.text_argument-4.ensures.rule in
    let ten = c.in_ok-arg-10.ensures.shape c.text_argument-5.ensures.own ∙ ap₂ with_rule nine c.text_argument-5.ensures.rule in
    let eleven = c.in_ok-arg-11.ensures.shape c.flag_argument.ensures.own ∙ ap₂ with_rule ten c.flag_argument.ensures.rule in
    let twelve = c.in_ok-arg-12.ensures.shape c.flag_argument-2.ensures.own ∙ ap₂ with_rule eleven c.flag_argument-2.ensures.rule in
    let thirteen = c.in_ok-arg-13.ensures.shape c.flag_argument-3.ensures.own ∙ ap₂ with_rule twelve c.flag_argument-3.ensures.rule in
    let fourteen = c.in_ok-arg-14.ensures.shape c.flag_argument-4.ensures.own ∙ ap₂ with_rule thirteen c.flag_argument-4.ensures.rule in
    IfOk-weaker c.arg-15.result _ (λ made. app_of made ≡ command_read)
    (λ made added. added.shape c.flag_argument-5.ensures.own ∙ ap₂ with_rule fourteen c.flag_argument-5.ensures.rule) c.arg-15.ensures
