-- What follows of the register's rule. No other proof looks into the rule.
use Rattle.std.proofs.Common.{◌≡◌, ℕ, ◌+◌, ◌<◌, ◌≤◌, true, false, cond, ap, arith, ltb, ltb-true}
use Rattle.std.proofs.lemmas.Grind.{common_steps}
use Rattle.std.proofs.lemmas.Bool.Decides.{nat_tests}
use Rattle.std.proofs.lemmas.Bool.{cond-true}
use Rattle.fdb_history.specs.declared.register.Record.{Record}
use Rattle.fdb_history.specs.Register.{after_report, raises, changes}
use Rattle.fdb_live.specs.Seen.{IsRecord}

-- the minimum known committed version after a report
abbrev least : Record → Record → ℕ
least a b = cond (ltb a.min_known b.min_known) b.min_known a.min_known

pub raises_higher : (a b : Record) → raises a b ≡ true → a.version < b.version
raises_higher a b e = ltb-true a.version b.version e

pub raised_stands : (a b : Record) → raises a b ≡ true → after_report a b ≡ record b { min_known = (after_report a b).min_known }
raised_stands a b e = ap (λ (r : Record). record r { min_known = least a b }) (cond-true (raises a b) b a e)

-- a change that raises nothing is one of the minimum known committed version alone
pub not_raised_stands : (a b : Record) → changes a b ≡ true → raises a b ≡ false → after_report a b ≡ record a { min_known = b.min_known }
not_raised_stands a b up e = grind (arith, common_steps, nat_tests)

pub version_at_least : (a b : Record) → (a.version ≤ (after_report a b).version) × (b.version ≤ (after_report a b).version)
version_at_least a b = grind (arith, common_steps, nat_tests)

pub min_known_at_least : (a b : Record) → (a.min_known ≤ (after_report a b).min_known) × (b.min_known ≤ (after_report a b).min_known)
min_known_at_least a b = grind (arith, common_steps, nat_tests)

-- how far a record has come: its version and its minimum known committed version, added up
abbrev pub reach : Record → ℕ
reach rec = rec.version + rec.min_known

pub changed_reaches : (a b : Record) → changes a b ≡ true → 1 + reach a ≤ reach (after_report a b)
changed_reaches a b up = grind (arith, common_steps, nat_tests)

-- of two records that a live record takes it makes one
pub after_taken : (a b : Record) → IsRecord a → IsRecord b → IsRecord (after_report a b)
after_taken a b here there = grind (arith, common_steps, nat_tests)
