use Rattle.std.proofs.Common.{◌∙◌, ◌++◌, ap, codes, string_bytes}
use Rattle.std.proofs.lemmas.Result.{on_ok_weaker}
use Rattle.fdb_audit.specs.Text.{fault_text}
use Rattle.fdb_audit.proofs.Texts.{written}
use Rattle.fdb_audit.proofs.printer.Printer.push_finding.Goals as goal

pub returns : goal.returns
returns c =
    on_ok_weaker c.writeln.result
    (written _ _ _ _ _ _ _
    (c.in_ok-write.ensures.bytes
    ∙ ap (λ it. string_bytes c.args.out.now ++ (codes "audit fault: " ++ fault_text it ++ codes ": ")) c.fault-fault.ensures)
    c.in_ok-push_sentence.ensures)
    c.writeln.ensures.bytes
