use Rattle.std.proofs.Common.{◌≡◌, ◌∙◌, ap₂}
use Rattle.std.proofs.lemmas.Result.{IfOk-weaker}
use Rattle.clap.specs.Words.{app_of, with_rule}
use Rattle.fdb_replay.specs.Program.{command as command_read}
use Rattle.fdb_replay.proofs.replay_program.command.Goals as goal

pub returns : goal.returns
returns c =
    let one_is = c.in_ok-arg.ensures.shape c.file_argument.ensures.own ∙ ap₂ with_rule c.new_command.ensures c.file_argument.ensures.rule in
    let two_is = c.in_ok-arg-2.ensures.shape c.number_argument.ensures.own ∙ ap₂ with_rule one_is c.number_argument.ensures.rule in
    IfOk-weaker c.arg-3.result _ (λ made. app_of made ≡ command_read)
    (λ made added. added.shape c.flag_argument.ensures.own ∙ ap₂ with_rule two_is c.flag_argument.ensures.rule) c.arg-3.ensures
