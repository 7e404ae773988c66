-- Two answers that are one, member by member.
use Rattle.std.proofs.Common.{◌≡◌, true, arith, rules}
use Rattle.std.proofs.lemmas.Grind.{common_steps}
use Rattle.fdb_history.specs.Strays.{is_same}
use Rattle.fdb_history.specs.declared.chain.Issued.{Issued}

pub is_same-equal : (a b : Issued) → is_same a b ≡ true → a ≡ b
is_same-equal a b h = first_of (search rules, grind (arith, common_steps))
