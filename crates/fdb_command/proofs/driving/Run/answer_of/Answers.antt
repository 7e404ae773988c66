use Rattle.std.proofs.Common.{◌≡◌, ◌≢◌, ◌⊎◌, Option, subst}
use Rattle.clap.specs.Words.{Text}
use Rattle.fdb_command.specs.Driving.{MayFind, MayRefuse}
use Rattle.fdb_command.specs.Input.{MayBeRead}
use Rattle.fdb_command.specs.private.Taking.{IsFailure, MayStop}
use Rattle.fdb_command.specs.Driving.{MayAnswer, TellsOf}
use Rattle.fdb_command.specs.declared.failure.Failure.TheVariants.{Arguments, Refused, Found, OwnFile}
use Rattle.fdb_command.proofs.Answered.{file_early, file_of, found_early, found_of, named_file, own_early, own_of, printed_of, refused_early, refused_of, told_after, told_early, unsaid_of, untold, unwarned}
use Rattle.fdb_command.proofs.Pieces.{on_error, passed_on}
use Rattle.fdb_command.proofs.driving.Run.answer_of.Goals as goal

pub returns-in_err-intake-clause-refused : goal.returns-in_err-intake-clause-refused
returns-in_err-intake-clause-refused g c = λ arguments asked.
    let promise = g.P.Program.promise in
    let remaining = g.I.Read.remaining c.args.input.now in
    let fault = c.in_err-intake.field-0.0 in
    let stops = subst (λ (file : Option Text). IsFailure fault ⊎ MayStop promise c.args.options file remaining fault) (c.file_of.ensures promise.app arguments asked.are) c.in_err-intake.ensures.stops in
    passed_on c.from_residual.result fault (λ fault. (error : _) → fault ≡ Refused error → MayRefuse promise arguments remaining error) c.from_residual.ensures.1
    (refused_early promise arguments c.args.options asked.asks remaining asked.are.taken fault stops)

pub returns-in_err-intake-clause-faulty : goal.returns-in_err-intake-clause-faulty
returns-in_err-intake-clause-faulty g c = λ arguments asked.
    let promise = g.P.Program.promise in
    let remaining = g.I.Read.remaining c.args.input.now in
    let fault = c.in_err-intake.field-0.0 in
    let stops = subst (λ (file : Option Text). IsFailure fault ⊎ MayStop promise c.args.options file remaining fault) (c.file_of.ensures promise.app arguments asked.are) c.in_err-intake.ensures.stops in
    passed_on c.from_residual.result fault (λ fault. (found : _) → fault ≡ Found found → MayFind promise arguments remaining found) c.from_residual.ensures.1
    (found_early promise arguments c.args.options asked.asks remaining asked.are.taken fault stops)

pub returns-in_err-intake-clause-own_file : goal.returns-in_err-intake-clause-own_file
returns-in_err-intake-clause-own_file g c = λ arguments asked.
    let promise = g.P.Program.promise in
    let remaining = g.I.Read.remaining c.args.input.now in
    let fault = c.in_err-intake.field-0.0 in
    let stops = subst (λ (file : Option Text). IsFailure fault ⊎ MayStop promise c.args.options file remaining fault) (c.file_of.ensures promise.app arguments asked.are) c.in_err-intake.ensures.stops in
    passed_on c.from_residual.result fault (λ fault. (file : _) → fault ≡ OwnFile file → promise.fails arguments fault) c.from_residual.ensures.1
    (file_early promise arguments c.args.options asked.asks remaining asked.are.taken fault stops)

pub returns-in_err-intake-clause-own : goal.returns-in_err-intake-clause-own
returns-in_err-intake-clause-own g c =
    let (arguments, asked) = c.requires.matches in
    let fault = c.in_err-intake.field-0.0 in
    passed_on c.from_residual.result fault (λ fault. fault ≢ Arguments) c.from_residual.ensures.1
    (own_early g.P.Program.promise arguments c.args.options _ (g.I.Read.remaining c.args.input.now) fault asked.asks c.in_err-intake.ensures.stops)

pub returns-in_err-intake-clause-left : goal.returns-in_err-intake-clause-left
returns-in_err-intake-clause-left g c = λ arguments asked unread.
    let app = g.P.Program.promise.app in
    c.take_input.ensures.left (named_file app arguments c.args.matches.now asked.are c.file_of.result (c.file_of.ensures app arguments asked.are) unread)

pub returns-in_err-intake-clause-quiet : goal.returns-in_err-intake-clause-quiet
returns-in_err-intake-clause-quiet g c = λ arguments asked silent unsaid.
    c.take_input.ensures.quiet arguments asked.asks (untold g.P.Program.promise arguments asked.are.taken silent) (unwarned g.P.Program.promise arguments asked.are.taken unsaid)

pub returns-clause-printed : goal.returns-clause-printed
returns-clause-printed g c = λ arguments asked.
    let promise = g.P.Program.promise in
    let remaining = g.I.Read.remaining c.args.input.now in
    let all = c.in_ok-intake.ensures.all in
    let read = subst (λ (file : Option Text). MayBeRead file remaining all.bytes) (c.file_of.ensures promise.app arguments asked.are) all.read in
    printed_of promise arguments c.args.options asked.asks remaining asked.are.taken all.bytes all.told all.few read g.O.Write.contents c.args.out.now c.take_input.new.out all.put c.body.result
    (c.requires.promised arguments c.args.options c.in_ok-intake.intake all.bytes all.told c.body.result asked.asks all.taken c.body.ensures)

pub returns-clause-refused : goal.returns-clause-refused
returns-clause-refused g c = λ arguments asked.
    let promise = g.P.Program.promise in
    let remaining = g.I.Read.remaining c.args.input.now in
    let all = c.in_ok-intake.ensures.all in
    let read = subst (λ (file : Option Text). MayBeRead file remaining all.bytes) (c.file_of.ensures promise.app arguments asked.are) all.read in
    refused_of promise arguments c.args.options asked.asks remaining asked.are.taken all.bytes all.told all.few read c.body.result
    (c.requires.promised arguments c.args.options c.in_ok-intake.intake all.bytes all.told c.body.result asked.asks all.taken c.body.ensures)

pub returns-clause-faulty : goal.returns-clause-faulty
returns-clause-faulty g c = λ arguments asked.
    let promise = g.P.Program.promise in
    let remaining = g.I.Read.remaining c.args.input.now in
    let all = c.in_ok-intake.ensures.all in
    let read = subst (λ (file : Option Text). MayBeRead file remaining all.bytes) (c.file_of.ensures promise.app arguments asked.are) all.read in
    found_of promise arguments c.args.options asked.asks remaining asked.are.taken all.bytes all.told all.few read c.body.result
    (c.requires.promised arguments c.args.options c.in_ok-intake.intake all.bytes all.told c.body.result asked.asks all.taken c.body.ensures)

pub returns-clause-own_file : goal.returns-clause-own_file
returns-clause-own_file g c = λ arguments asked.
    let promise = g.P.Program.promise in
    let remaining = g.I.Read.remaining c.args.input.now in
    let all = c.in_ok-intake.ensures.all in
    let read = subst (λ (file : Option Text). MayBeRead file remaining all.bytes) (c.file_of.ensures promise.app arguments asked.are) all.read in
    file_of promise arguments c.args.options asked.asks remaining asked.are.taken all.bytes all.told all.few read c.body.result
    (c.requires.promised arguments c.args.options c.in_ok-intake.intake all.bytes all.told c.body.result asked.asks all.taken c.body.ensures)

pub returns-clause-own : goal.returns-clause-own
returns-clause-own g c =
    let (arguments, asked) = c.requires.matches in
    let all = c.in_ok-intake.ensures.all in
    own_of g.P.Program.promise arguments all.bytes (MayAnswer g.P.Program.promise arguments all.bytes all.told) c.body.result
    (c.requires.promised arguments c.args.options c.in_ok-intake.intake all.bytes all.told c.body.result asked.asks all.taken c.body.ensures)

pub returns-clause-unsaid : goal.returns-clause-unsaid
returns-clause-unsaid g c = λ arguments asked silent.
    let promise = g.P.Program.promise in
    let remaining = g.I.Read.remaining c.args.input.now in
    let all = c.in_ok-intake.ensures.all in
    let read = subst (λ (file : Option Text). MayBeRead file remaining all.bytes) (c.file_of.ensures promise.app arguments asked.are) all.read in
    unsaid_of promise arguments c.args.options asked.asks remaining asked.are.taken all.bytes all.told all.few read c.body.result
    (c.requires.promised arguments c.args.options c.in_ok-intake.intake all.bytes all.told c.body.result asked.asks all.taken c.body.ensures)
    (unwarned promise arguments asked.are.taken silent)

pub returns-clause-left : goal.returns-clause-left
returns-clause-left g c = λ arguments asked unread.
    let app = g.P.Program.promise.app in
    c.take_input.ensures.left (named_file app arguments c.args.matches.now asked.are c.file_of.result (c.file_of.ensures app arguments asked.are) unread)

pub returns-clause-quiet : goal.returns-clause-quiet
returns-clause-quiet g c = λ arguments asked silent unsaid.
    c.take_input.ensures.quiet arguments asked.asks (untold g.P.Program.promise arguments asked.are.taken silent) (unwarned g.P.Program.promise arguments asked.are.taken unsaid)

pub body-requires : goal.body-requires
body-requires g c =
    let (arguments, asked) = c.requires.matches in
    let all = c.in_ok-intake.ensures.all in
    c.requires.callable arguments c.args.options c.in_ok-intake.intake all.bytes all.told asked.asks all.taken

pub returns-in_err-intake-clause-begun : goal.returns-in_err-intake-clause-begun
returns-in_err-intake-clause-begun g c = λ arguments asked.
    let promise = g.P.Program.promise in
    let remaining = g.I.Read.remaining c.args.input.now in
    let contents = g.O.Write.contents in
    let before = c.args.out.now in
    let after = c.take_input.new.out in
    let told = subst (λ (file : Option Text). (after ≡ before) ⊎ TellsOf promise c.args.options file remaining (contents before) (contents after)) (c.file_of.ensures promise.app arguments asked.are) c.in_err-intake.ensures.begun in
    on_error c.from_residual.result (told_early promise arguments c.args.options asked.asks remaining asked.are.taken contents before after told)

pub returns-clause-begun : goal.returns-clause-begun
returns-clause-begun g c = λ arguments asked.
    let promise = g.P.Program.promise in
    let remaining = g.I.Read.remaining c.args.input.now in
    let all = c.in_ok-intake.ensures.all in
    let read = subst (λ (file : Option Text). MayBeRead file remaining all.bytes) (c.file_of.ensures promise.app arguments asked.are) all.read in
    on_error c.body.result
    (told_after promise arguments c.args.options asked.asks remaining asked.are.taken all.bytes all.told all.few read c.in_ok-intake.intake all.taken g.O.Write.contents c.args.out.now c.take_input.new.out all.put)
