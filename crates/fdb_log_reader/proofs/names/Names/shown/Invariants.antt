use Rattle.std.proofs.Common.{◌≡◌, map, string_bytes, take}
use Rattle.fdb_log_reader.specs.Printed.{shown_text}
use Rattle.fdb_log_reader.proofs.names.Names.shown.Given as goal

-- the names so far, as they are printed
abbrev pub invariant-loop-name : goal.invariant-loop-name
invariant-loop-name l = map string_bytes l.texts.items ≡ map (λ name. shown_text (string_bytes name)) (take l.name-index l.self.texts.items)
