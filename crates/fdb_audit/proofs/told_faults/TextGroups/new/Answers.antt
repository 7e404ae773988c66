use Rattle.std.proofs.Common.{◌≡◌, ◌∙◌, ℕ, List, None, ap, map, refl, rules, string_bytes, sym}
use Rattle.std.specs.BTreeMap.{get_by_text}
use Rattle.fdb_log_reader.specs.Numbers.{number_in}
use Rattle.fdb_audit.proofs.told_faults.TextGroups.new.Goals as goal

pub returns-clause-counted : goal.returns-clause-counted
returns-clause-counted c =
    let none : (text : List ℕ) → get_by_text c.new-2.result text ≡ None = λ text. search rules in
    λ its. record {
      texts = ap (map string_bytes) c.new.ensures.items;
      numbers = λ text. none text ∙ sym (ap (λ items. number_in (map string_bytes items) text) c.new.ensures.items);
      tally = c.new-3.ensures;
      more = refl;
    }
