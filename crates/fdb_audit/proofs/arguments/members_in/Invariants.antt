use Rattle.std.proofs.Common.{◌≡◌, ◌++◌, length, map, string_bytes}
use Rattle.std.specs.List.{slice_split}
use Rattle.fdb_audit.specs.Program.{is_comma}
use Rattle.fdb_audit.proofs.arguments.members_in.Given as goal
use denote.Shadow.{shadow}
use denote.Text.{Utf8}

-- the members so far, and those of the rest, which is text
abbrev pub invariant-loop-member : goal.invariant-loop-member
invariant-loop-member l =
    (map string_bytes l.members.items ++ slice_split is_comma l.rest ≡ slice_split is_comma l.fn.text) × shadow (Utf8 l.rest)

abbrev pub decreases-loop-member : goal.decreases-loop-member
decreases-loop-member l = length l.rest
