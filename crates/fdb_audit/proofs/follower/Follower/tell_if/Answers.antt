use Rattle.std.proofs.Common.{◌++◌, ◌∙◌, ap, string_bytes, sym}
use Rattle.fdb_log_reader.specs.LineReader.{lines_on, names_on}
use Rattle.fdb_audit.proofs.SaidOn.{said_next}
use Rattle.fdb_audit.proofs.follower.Follower.tell_if.Goals as goal

pub returns-clause-told : goal.returns-clause-told
returns-clause-told c = λ asked start bytes told has.
    let reader = c.say.ensures.reader ∙ c.settle_if.ensures.reader in
    record {
      read = has.read;
      goes = λ text. has.goes text ∙ ap (λ reader. has.read ++ lines_on reader text) (sym reader);
      behind = λ text. has.behind text ∙ ap (λ reader. names_on reader text) (sym reader);
      telling = c.say.ensures.told asked start has.read told (c.in_ok-settle_if.ensures.told asked start has.read told has.telling);
    }

pub returns-clause-said : goal.returns-clause-said
returns-clause-said c = λ asked start bytes warned has.
    said_next start asked c.args.self.now c.say.new.self c.settle_if.new.self.taking bytes warned _ has c.in_ok-settle_if.ensures.taken c.say.ensures.taking
    (ap string_bytes c.say.ensures.warnings) (c.say.ensures.reader ∙ c.settle_if.ensures.reader) (c.say.ensures.behind ∙ c.settle_if.ensures.behind) (c.say.ensures.before ∙ c.settle_if.ensures.before)
