use Rattle.std.proofs.Common.{◌∙◌, ap, string_bytes, sym, true}
use Rattle.fdb_log_reader.specs.LineReader.{line_names}
use Rattle.fdb_audit.specs.Watched.{lines_asked}
use Rattle.fdb_audit.specs.declared.taken_lines.Settlings.{Settlings}
use Rattle.fdb_audit.proofs.SaidOn.{said_all}
use Rattle.fdb_audit.proofs.follower.Follower.finish.Goals as goal

pub returns-clause-told : goal.returns-clause-told
returns-clause-told c = λ asked start bytes told has.
    (c.in_ok-followed.ensures.told asked start bytes told true
    (c.in_ok-settle_for_good.ensures.told asked start (lines_asked asked bytes) told (c.in_ok-take_last.ensures.told asked start bytes told has))
    (c.in_ok-take_last.ensures.names asked start bytes told has ∙ ap line_names (sym c.settle_for_good.ensures.reader))).0

pub returns-clause-refused : goal.returns-clause-refused
returns-clause-refused c = λ asked start bytes told has.
    c.in_ok-followed.ensures.refused
    ∙ c.left_out-refused.ensures start (lines_asked asked bytes) _ (c.in_ok-take_last.ensures.told asked start bytes told has).taken
    (c.in_ok-take_last.ensures.told asked start bytes told has).carried

pub returns-clause-said : goal.returns-clause-said
returns-clause-said c = λ asked start bytes told warned has says.
    let read = lines_asked asked bytes in
    let (all, windows, counts, settled) =
    c.in_ok-followed.ensures.told asked start bytes told true
    (c.in_ok-settle_for_good.ensures.told asked start read told (c.in_ok-take_last.ensures.told asked start bytes told has))
    (c.in_ok-take_last.ensures.names asked start bytes told has ∙ ap line_names (sym c.settle_for_good.ensures.reader)) in
    let (found, taken, was) = c.in_ok-take_last.ensures.said asked start bytes warned says in (
      all,
      said_all start asked c.take_last.new.self.taking all.settled bytes warned _ was
          (ap string_bytes (c.in_ok-followed.ensures.warnings ∙ c.settle_for_good.ensures.warnings.0))
          (settled ∙ ap (λ (settlings : Settlings). settlings.at) c.settle_for_good.ensures.warnings.1),
    )
