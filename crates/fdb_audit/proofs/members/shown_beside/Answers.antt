use Rattle.std.proofs.Common.{◌∙◌, ap, subst, sym}
use Rattle.fdb_log_reader.specs.Columns.{ArePrinted, shown_of}
use Rattle.fdb_log_reader.specs.Printed.{printed}
use Rattle.fdb_audit.proofs.members.shown_beside.Goals as goal

pub returns : goal.returns
returns c = record {
  member = c.in_ok-printed_name.ensures ∙ ap printed c.member.ensures;
  texts = subst (ArePrinted (shown_of c.args.column.now).values _) (sym (c.in_ok-from_slice.ensures.items ∙ c.numbers.ensures)) c.in_ok-printed.ensures;
}
