use Rattle.std.proofs.Common.{◌≡◌, map, take}
use Rattle.fdb_audit.specs.private.KeptTexts.{number_of}
use Rattle.fdb_audit.proofs.read_back.places_of.Given as goal

-- the places so far
abbrev pub invariant-loop-line : goal.invariant-loop-line
invariant-loop-line l = l.places.items ≡ map number_of (take l.line-index l.kept)
