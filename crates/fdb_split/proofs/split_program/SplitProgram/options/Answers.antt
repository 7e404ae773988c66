use Rattle.std.proofs.Common.{◌∙◌, Some, ap, codes, refl, sym}
use Rattle.clap.specs.Words.{Text}
use Rattle.fdb_split.specs.Program.{command}
use Rattle.fdb_split.proofs.Stopping.{suited, without_first, without_into, without_key}
use Rattle.fdb_split.proofs.split_program.SplitProgram.options.Goals as goal

pub returns-in_default-text-clause-refused : goal.returns-in_default-text-clause-refused
returns-in_default-text-clause-refused c = λ arguments matches refused. without_into arguments (sym (c.in_default-text.ensures arguments matches))

pub returns-in_default-text-2-clause-refused : goal.returns-in_default-text-2-clause-refused
returns-in_default-text-2-clause-refused c = λ arguments matches refused. without_key arguments (sym (c.in_default-text-2.ensures arguments matches))

pub returns-in_default-first_of-clause-refused : goal.returns-in_default-first_of-clause-refused
returns-in_default-first_of-clause-refused c = λ arguments matches refused. without_first arguments (c.in_default-first_of.ensures arguments matches)

pub invariant_of-result : goal.invariant_of-result
invariant_of-result c =
    let (arguments, matches) = c.requires in
    record { some = c.in-Some.ensures.some arguments matches; few = c.in-Some.ensures.few arguments matches }

pub returns-clause-said : goal.returns-clause-said
returns-clause-said c = λ arguments matches. record {
  parts = c.in-Some.ensures.named arguments matches;
  into = sym (c.in-Some-text.ensures arguments matches) ∙ ap (λ (text : Text). Some text) (sym c.in_ok-from_str.ensures.ok);
  key = sym (c.in-Some-text-2.ensures arguments matches) ∙ ap (λ (text : Text). Some text) (sym c.in_ok-from_str-2.ensures.ok);
  first = c.in-Some-first_of.ensures arguments matches;
  progress = c.is_given.ensures command arguments matches (refl, refl, refl);
}

pub returns-clause-suited : goal.returns-clause-suited
returns-clause-suited c = λ arguments matches. suited arguments _ (returns-clause-said c arguments matches)
