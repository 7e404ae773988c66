-- What follows of the rule of the register, a report at a time.
use Rattle.std.proofs.Common.{◌≡◌, ◌≤◌, true, false, ap, arith}
use Rattle.std.proofs.lemmas.Grind.{common_steps}
use Rattle.std.proofs.lemmas.Bool.Decides.{nat_tests}
use Rattle.std.proofs.lemmas.Bool.{cond-true}
use Rattle.fdb_history.specs.Register.{raises, changes, after_report}
use Rattle.fdb_history.specs.declared.register.Record.{Record}

-- a report that does not change the register leaves it as it was
pub unchanged : (current rec : Record) → changes current rec ≡ false → after_report current rec ≡ current
unchanged current rec stays = grind (arith, common_steps, nat_tests)

-- A report leaves at least the version that it found, and at least its own.
pub version-at_least : (current rec : Record) → (current.version ≤ (after_report current rec).version) × (rec.version ≤ (after_report current rec).version)
version-at_least current rec = grind (arith, common_steps, nat_tests)

-- The same of the minimum known committed version.
pub min_known-at_least : (current rec : Record) → (current.min_known ≤ (after_report current rec).min_known) × (rec.min_known ≤ (after_report current rec).min_known)
min_known-at_least current rec = grind (arith, common_steps, nat_tests)

-- where a report raises the register, its version stands there
pub raised-version : (current rec : Record) → raises current rec ≡ true → (after_report current rec).version ≡ rec.version
raised-version current rec up = ap (λ (r : Record). r.version) (cond-true (raises current rec) rec current up)

-- a report whose minimum known committed version is not above its version leaves the register's so
pub known-within : (current rec : Record) → current.min_known ≤ current.version → rec.min_known ≤ rec.version → (after_report current rec).min_known ≤ (after_report current rec).version
known-within current rec here there = grind (arith, common_steps, nat_tests)
