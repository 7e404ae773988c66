use Rattle.std.proofs.Common.{◌∙◌, ℕ, List, ap, map, subst}
use Rattle.fdb_log_reader.specs.LineReader.{line_names}
use Rattle.fdb_log_reader.specs.Names.{names_of}
use Rattle.fdb_log_reader.specs.Printed.{printed}
use Rattle.fdb_audit.specs.private.{beside_of}
use Rattle.fdb_audit.specs.Following.{KeptBefore}
use Rattle.fdb_audit.specs.private.Numbering.{AreTakenLines, kept_by}
use Rattle.fdb_audit.proofs.Windows.{kept_within, tells_for}
use Rattle.fdb_audit.proofs.teller.Teller.tell.Goals as goal

pub returns : goal.returns
returns c = λ kept read to part far margin behind numbered watched so_far told.
    let entry = c.args.entry.now in
    let own = λ (kept : KeptBefore) (places : List ℕ). AreTakenLines kept c.args.taking.now.numbering.above.items places c.in_ok-own.own.items in
    let names = (line_names c.args.reader.now).clients in
    tells_for kept c.args.self.now c.add.new.self margin behind far to read names entry part (map printed (names_of c.names.result.now)) c.deref-2.result.now
    (map beside_of c.deref-3.result.now) c.deref-4.result.now
    (ap (map printed) c.names.ensures)
    (c.deref-2.ensures.value ∙ subst (λ kept. own kept entry.settled.numbers.items) numbered.front (subst (own (kept_by c.args.taking.now.numbering)) c.deref.ensures.value c.in_ok-own.ensures) read numbered.above numbered.few (kept_within to read entry part told))
    c.deref-4.ensures.value watched so_far told c.in_ok-add.ensures.text c.in_ok-add.ensures.first c.in_ok-add.ensures.counts c.add.ensures.same
