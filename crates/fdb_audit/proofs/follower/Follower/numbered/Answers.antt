use Rattle.std.proofs.Common.{◌≡◌, ◌∙◌, ◌++◌, List, [], Option, ap, map, option_map, option_to_list, refl, string_bytes, subst, sym, ℕ}
use Rattle.fdb_log_reader.specs.ReadLine.{lines_read, names_behind, no_names}
use Rattle.fdb_log_reader.specs.Reading.{lines_in}
use Rattle.fdb_log_reader.specs.Printed.{printed}
use Rattle.fdb_audit.specs.declared.clocks.KeyTimes.{KeyTimes}
use Rattle.fdb_audit.specs.Taken.{HasTotals}
use Rattle.fdb_audit.proofs.follower.Follower.numbered.Goals as goal

pub returns-clause-unread : goal.returns-clause-unread
returns-clause-unread c =
    let asked = c.args.asked.now in
    let teller = c.in_ok-teller.ensures in
    let key : option_map (λ key. key.now) c.as_deref.result ≡ option_map string_bytes asked.key = c.as_deref.ensures.value in
    let shown : map string_bytes c.deref.result.now ≡ map string_bytes asked.shown.items = ap (map string_bytes) c.deref.ensures.value in
    record {
      goes = λ text. sym (c.in_ok-reader.ensures.read text
          ∙ (ap (λ (names : List (List ℕ)). lines_read names (no_names (option_map (λ key. key.now) c.as_deref.result)) (lines_in text)) shown
          ∙ ap (λ (key : Option (List ℕ)). lines_read (map string_bytes asked.shown.items) (no_names key) (lines_in text)) key));
      names = λ text. sym (c.in_ok-reader.ensures.behind text
          ∙ (ap (λ (names : List (List ℕ)). names_behind names (no_names (option_map (λ key. key.now) c.as_deref.result)) (lines_in text)) shown
          ∙ ap (λ (key : Option (List ℕ)). names_behind (map string_bytes asked.shown.items) (no_names key) (lines_in text)) key));
      at = refl;
      carried = c.new-before.ensures;
      taken = c.in_ok-taking.ensures.taken;
      warned = c.in_ok-taking.ensures.warned;
      margin = c.in_ok-taking.ensures.margin;
      horizon = c.in_ok-taking.ensures.horizon;
      far = c.in_ok-taking.ensures.far;
      text = teller.text;
      times = ap (λ (times : KeyTimes). times.are_wanted) c.in_ok-taking.ensures.times ∙ (c.new-times.ensures.wanted ∙ c.is_some.ensures);
      are = record {
        wanted = teller.wanted;
        margin = teller.margin;
        by_key = teller.key;
        first = teller.first;
        totals = subst (λ (members : List (List ℕ)). HasTotals (option_to_list (option_map (λ name. printed (string_bytes name)) asked.key) ++ members) c.in_ok-teller.teller [])
            (ap (map string_bytes) c.deref-3.ensures.value ∙ (c.in_ok-taking.ensures.members ∙ ap (map (λ name. printed (string_bytes name))) c.deref-2.ensures.value)) teller.totals;
      };
    }
