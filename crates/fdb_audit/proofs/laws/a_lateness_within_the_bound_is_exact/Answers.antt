use Rattle.std.proofs.Common.{◌≡◌, ◌-◌, ◌≤◌, ℕ, None, Option, Some, arith, inl, inr, slice_index_or}
use Rattle.std.specs.Prelude.{IfSome}
use Rattle.fdb_lines.specs.declared.fault.Fault.{Fault}
use Rattle.fdb_lines.specs.declared.fault.Late.{Late}
use Rattle.fdb_lines.specs.declared.log.AuditOpts.{AuditOpts}
use Rattle.fdb_lines.specs.Before.{began}
use Rattle.fdb_lines.specs.Carried.{with_times}
use Rattle.fdb_lines.specs.Keys.{placed_finding}
use Rattle.fdb_lines.specs.Late.{IsLateAtLeast}
use Rattle.fdb_lines.specs.Lines.{Lines, line_at}
use Rattle.fdb_lines.specs.Watching.{opts_of}
use Rattle.fdb_audit.proofs.laws.a_lateness_within_the_bound_is_exact.Goals as goal

-- one that is no more is not told by a line that had ended so long before
not_at_least : (at behind from : ℕ) (fault : Fault) (log : Lines) (opts : AuditOpts) (k : ℕ) (late : Option Late) → at ≡ from - behind → from ≤ began (line_at log.lines k)
    → IfSome late (λ late. late.by ≤ behind) → IsLateAtLeast at fault log opts k late → ⊥
not_at_least at behind from fault log opts k None is in_time low least = least
not_at_least at behind from fault log opts k (Some late) is in_time low (end, there, out, ended, before, by, under) = absurd (omega (arith, is, in_time, low, before, by))

pub returns : goal.returns
returns c = λ behind margin far all lines window goes tells k d lt in_time low.
    let its = placed_finding window.kept (slice_index_or window.found k d) in
    elim (tells.late k d lt) [
      | inl exact ↦ exact
      | inr least ↦ absurd (not_at_least window.early behind window.from its.found.fault (with_times lines) (opts_of margin) its.found.place its.late goes.early in_time low least)
    ]
