use Rattle.std.proofs.Common.{◌≡◌, ◌≤◌, ℕ, List, false, length}
use Rattle.std.specs.Io.KnownBytes.{Consumes}
use Rattle.clap.specs.Words.{Text}
use Rattle.fdb_command.specs.declared.intake.TheConstants.{PIECE}
use Rattle.fdb_command.specs.private.Taking.{IsPut}
use Rattle.fdb_command.proofs.intake.Taker.take_all.Given as goal

-- what is gone from the input is what the program has taken, what was told of it was written, and
-- nothing is told unasked
abbrev pub invariant-loop : goal.invariant-loop
invariant-loop g l = record {
  in_range : l.read ≤ l.most;
  room : length l.room ≡ PIECE;
  taken : (bytes : List ℕ) × (told : List ℕ) × (length bytes ≡ l.read) × Consumes (g.I.Read.remaining l.initial.input) (g.I.Read.remaining l.input) bytes
      × g.P.Program.promise.taken l.self.options.now l.intake bytes told × IsPut g.O.Write.contents told l.initial.out l.out;
  quiet : (arguments : List Text) → g.P.Program.promise.asks arguments l.self.options.now → g.P.Program.promise.tells arguments ≡ false → g.P.Program.promise.warns arguments ≡ false → l.err ≡ l.initial.err;
}
