use Rattle.std.proofs.Common.{arith, codes, refl}
use Rattle.clap.specs.Words.{matches_of, one_of}
use Rattle.fdb_split.specs.Program.{command}
use Rattle.fdb_split.proofs.Named.{at_least, at_most, number_of}
use Rattle.fdb_split.proofs.arguments.parts_of.Goals as goal

pub returns : goal.returns
returns c = record {
  named = λ arguments matches.
      number_of 1 1024 (one_of (codes "split") (matches_of command arguments)) c.number.result (c.number.ensures command arguments matches 1 1024 (omega arith) (refl, refl, refl));
  some = λ arguments matches.
      at_least 1 1024 (one_of (codes "split") (matches_of command arguments)) c.number.result (c.number.ensures command arguments matches 1 1024 (omega arith) (refl, refl, refl));
  few = λ arguments matches.
      at_most 1 1024 (one_of (codes "split") (matches_of command arguments)) c.number.result (c.number.ensures command arguments matches 1 1024 (omega arith) (refl, refl, refl));
}
