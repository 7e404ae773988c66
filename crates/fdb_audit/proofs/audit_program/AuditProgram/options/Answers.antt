use Rattle.std.proofs.Common.{◌∙◌, ap, arith, refl, sym}
use Rattle.std.specs.Prelude.{unwrap_or}
use Rattle.fdb_audit.specs.Program.{command, members_named}
use Rattle.fdb_audit.proofs.Numbers.{number_of}
use Rattle.fdb_audit.proofs.audit_program.AuditProgram.options.Goals as goal

pub returns-then-not-suits-clause-refused : goal.returns-then-not-suits-clause-refused
returns-then-not-suits-clause-refused c = λ arguments matches refused. sym (c.suits.ensures arguments matches) ∙ c.if-not-suits.true

pub returns-clause-said : goal.returns-clause-said
returns-clause-said c = λ arguments matches. record {
  complete = number_of 0 9223372036854775807 _ _ (c.number.ensures command arguments matches 0 9223372036854775807 (omega arith) (refl, refl, refl));
  margin = c.unwrap_or.ensures ∙ ap (λ found. unwrap_or found 0) (number_of 0 9223372036854775807 _ _ (c.number-2.ensures command arguments matches 0 9223372036854775807 (omega arith) (refl, refl, refl)));
  follow = number_of 0 9223372036854775807 _ _ (c.number-3.ensures command arguments matches 0 9223372036854775807 (omega arith) (refl, refl, refl));
  forget = number_of 0 9223372036854775807 _ _ (c.number-4.ensures command arguments matches 0 9223372036854775807 (omega arith) (refl, refl, refl));
  wanted = c.wanted_of.ensures arguments matches;
  keep = c.in_ok-owned.ensures ∙ c.text.ensures command arguments matches;
  position = c.in_ok-owned-2.ensures ∙ c.text-2.ensures command arguments matches;
  key = c.in_ok-owned-3.ensures ∙ c.text-3.ensures command arguments matches;
  shown = c.in_ok-member_names.ensures ∙ ap members_named (c.text-4.ensures command arguments matches);
  numbers = c.in_ok-owned-4.ensures ∙ c.text-5.ensures command arguments matches;
  progress = c.is_given.ensures command arguments matches (refl, refl, refl);
}

pub returns-clause-suited : goal.returns-clause-suited
returns-clause-suited c = λ arguments matches. sym (c.suits.ensures arguments matches) ∙ c.if-not-suits.false
