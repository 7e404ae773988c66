use Rattle.std.proofs.Common.{◌≡◌, ◌++◌, OnOk, string_bytes, subst, sym}
use Rattle.fdb_audit.specs.declared.refusal.Warning.{Warning}
use Rattle.fdb_audit.specs.Warned.{warning_line}
use Rattle.fdb_audit.proofs.refusal.push_warning.Goals as goal

pub returns-in-Refused : goal.returns-in-Refused
returns-in-Refused c =
    subst (λ (warning : Warning). OnOk c.writeln.result (string_bytes c.writeln.new.self ≡ string_bytes c.args.out.now ++ warning_line warning)) (sym c.in-Refused.is) c.writeln.ensures.bytes

pub returns-in-Early : goal.returns-in-Early
returns-in-Early c =
    subst (λ (warning : Warning). OnOk c.push_early.result (string_bytes c.push_early.new.out ≡ string_bytes c.args.out.now ++ warning_line warning)) (sym c.in-Early.is) c.push_early.ensures
