-- The number of proxies, which is 1 unless it is said.
use Rattle.std.proofs.Common.{◌≡◌, ◌≤◌, ◌∙◌, ℕ, List, Option, None, Some, refl, arith, codes}
use Rattle.std.specs.Prelude.{unwrap_or}
use Rattle.std.specs.Option.{option_map_or}
use Rattle.std.specs.Str.Parse.{digits_value, without_leading_plus}
use Rattle.clap.specs.Words.{Text, matches_of, one_of}
use Rattle.fdb_command.specs.Arguments.{AreMatches, IsNumber}
use Rattle.fdb_replay.specs.Program.{command}
use Rattle.fdb_replay.proofs.replay_program.proxies_of.Goals as goal

-- a number from 1 to 16, or 1
count_of : (o : Option Text) (r : Option ℕ) → IsNumber 1 16 o r
    → (unwrap_or r 1 ≡ option_map_or (λ digits. digits_value 10 (without_leading_plus digits)) o 1) × (1 ≤ unwrap_or r 1) × (unwrap_or r 1 ≤ 16)
count_of None r is = rw is (refl, omega arith, omega arith)
count_of (Some digits) r is = rw is.1 (is.4, is.2, is.3)

pub overflow_cast-result : goal.overflow_cast-result
overflow_cast-result c =
    let (arguments, matches) = c.requires in
    let counted = count_of (one_of (codes "proxies") (matches_of command arguments)) c.number.result (c.number.ensures command arguments matches 1 16 (omega arith) (refl, refl, refl)) in
    rw c.unwrap_or.ensures (omega (arith, counted.2))

pub returns : goal.returns
returns c =
    let counted = λ (arguments : List Text). λ (matches : AreMatches command arguments c.args.matches.now). count_of (one_of (codes "proxies") (matches_of command arguments)) c.number.result (c.number.ensures command arguments matches 1 16 (omega arith) (refl, refl, refl)) in
    let own = counted c.requires.0 c.requires.1 in
    record {
      named = λ arguments matches. c.unwrap_or.ensures ∙ (counted arguments matches).0;
      some_proxy = rw c.unwrap_or.ensures own.1;
      few_proxies = rw c.unwrap_or.ensures own.2;
    }
