use Rattle.std.proofs.Common.{map, refl}
use Rattle.fdb_log_reader.specs.LineReader.{line_names}
use Rattle.fdb_log_reader.specs.ReadLine.{said_in}
use Rattle.fdb_audit.proofs.InTurn.{named_in}
use Rattle.fdb_audit.proofs.SaidOn.{said_on}
use Rattle.fdb_audit.proofs.TellingOn.{fed}
use Rattle.fdb_audit.proofs.follower.Follower.feed.Goals as goal

pub returns-clause-followed : goal.returns-clause-followed
returns-clause-followed c = λ asked start before told has.
    fed start asked c.args.self.now _ before c.args.bytes.now told (map said_in c.in_ok-lines.lines.items) has
    c.in_ok-lines.ensures.read c.in_ok-lines.ensures.behind c.in_ok-lines.ensures.names
    (named_in c.in_ok-lines.lines.items (line_names c.feed.new.self) c.in_ok-lines.ensures.numbers) (c.in_ok-take_all.ensures.takes.taken start) (c.in_ok-take_all.ensures.takes.times asked.forget start) c.in_ok-take_all.ensures.takes.stays c.take_all.ensures.beside.margin c.take_all.ensures.beside.settlings refl refl refl

pub returns-clause-said : goal.returns-clause-said
returns-clause-said c = λ asked start before warned has.
    said_on start asked c.args.self.now _ before c.args.bytes.now warned (map said_in c.in_ok-lines.lines.items) has
    c.in_ok-lines.ensures.read (c.in_ok-take_all.ensures.takes.taken start) (c.in_ok-take_all.ensures.takes.warned start) refl refl
