use Rattle.std.proofs.Common.{◌≡◌, ◌<◌, ◌≤◌, get_or, List, Option, Some, ℕ, length, max, refl, ap, sym, subst, ◌∙◌, arith}
use Rattle.std.specs.BTreeMap.{get}
use Rattle.std.specs.List.{All, filter}
use Rattle.std.specs.Ordering.{nat_cmp}
use Rattle.fdb_lines.specs.declared.key_part.KeyPart.{KeyPart}
use Rattle.fdb_lines.specs.declared.line.Line.{Line}
use Rattle.fdb_lines.specs.KeyParts.{lines_of_one}
use Rattle.fdb_lines.specs.KeyWatch.{AreTold, GoesTo, HasSeenByKey, SettlesOrStays, settled_in}
use Rattle.fdb_lines.specs.private.Keys.{AreNumbered}
use Rattle.fdb_lines.specs.private.KeyParts.{flag_at, flags_of, AreNext, AreOpen, ArePut}
use Rattle.fdb_lines.proofs.EntriesTell.{settled_on, told_came}
use Rattle.fdb_lines.proofs.OnceTold.{told_of_each}
use Rattle.fdb_lines.proofs.Opened.{open_within, opened_kept}
use Rattle.fdb_lines.proofs.HowFar.{far_on}
use Rattle.fdb_lines.proofs.SettledByKey.{alike_on, entries_on, flags_on, goes_on, keeps_on, names_on, no_entry, nothing, rest_by_key, seen_on, told_by_key}
use Rattle.fdb_lines.proofs.key_watch.KeyWatch.settle.Goals as goal

pub next_parts-requires : goal.next_parts-requires
next_parts-requires c =
    let watch = c.args.self.now in
    subst (λ (xs : List ℕ). All (λ i. i < length c.deref.result.now) xs) (sym c.deref-2.ensures.value)
    (subst (λ (ps : List KeyPart). All (λ i. i < length ps) watch.open_parts.items) (sym c.deref.ensures.value) (open_within watch.parts.items watch.open_parts.items watch.opened))

pub put_parts-requires-clause-within : goal.put_parts-requires-clause-within
put_parts-requires-clause-within c =
    let watch = c.args.self.now in
    subst (λ (xs : List ℕ). All (λ i. i < length watch.parts.items) xs) (sym c.deref-3.ensures.value) (open_within watch.parts.items watch.open_parts.items watch.opened)

pub invariant_of-self-2 : goal.invariant_of-self-2
invariant_of-self-2 c =
    let watch = c.args.self.now in
    let at = c.max-at.result in
    let old = watch.parts.items in
    let places = watch.open_parts.items in
    let nexts = c.in_ok-next.next.parts.items in
    let entries = c.in_ok-next.next.told.items in
    let new = c.put_parts.new.parts.items in
    let given = c.put_parts.new.told.items in
    let next : AreNext at old places nexts entries =
    subst (λ (ps : List KeyPart). AreNext at ps places nexts entries) c.deref.ensures.value
    (subst (λ (xs : List ℕ). AreNext at c.deref.result.now xs nexts entries) c.deref-2.ensures.value c.in_ok-next.ensures) in
    let put : ArePut old places nexts entries new given = subst (λ (xs : List ℕ). ArePut old xs nexts entries new given) c.deref-3.ensures.value c.put_parts.ensures in
    let most : at ≡ max watch.from c.args.at = (let is = c.max-at.ensures in omega arith) in
    let late : watch.from ≤ at = omega arith in
    let kept : c.keep_open.new.places.items ≡ filter (flag_at (flags_of new)) places =
    c.keep_open.ensures ∙ ap (λ (ps : List KeyPart). filter (flag_at (flags_of ps)) places) c.deref-4.ensures.value in
    record {
      numbered = subst (AreNumbered (λ q. get nat_cmp watch.numbers q)) (sym (names_on at old places nexts entries new given watch.opened next put)) watch.numbered;
      alike = alike_on at old places nexts entries new given watch.opened next put watch.margin watch.horizon watch.from late watch.alike;
      opened = subst (AreOpen (flags_of new)) (sym kept)
          (opened_kept (flags_of old) (flags_of new) places watch.opened (flags_on at old places nexts entries new given watch.opened next put));
    }

pub returns : goal.returns
returns c =
    let watch = c.args.self.now in
    let at = c.max-at.result in
    let old = watch.parts.items in
    let places = watch.open_parts.items in
    let nexts = c.in_ok-next.next.parts.items in
    let entries = c.in_ok-next.next.told.items in
    let new = c.put_parts.new.parts.items in
    let given = c.put_parts.new.told.items in
    let next : AreNext at old places nexts entries =
    subst (λ (ps : List KeyPart). AreNext at ps places nexts entries) c.deref.ensures.value
    (subst (λ (xs : List ℕ). AreNext at c.deref.result.now xs nexts entries) c.deref-2.ensures.value c.in_ok-next.ensures) in
    let put : ArePut old places nexts entries new given = subst (λ (xs : List ℕ). ArePut old xs nexts entries new given) c.deref-3.ensures.value c.put_parts.ensures in
    let most : at ≡ max watch.from c.args.at = (let is = c.max-at.ensures in omega arith) in
    let late : watch.from ≤ at = omega arith in
    let are = entries_on at old places nexts entries new given watch.opened next put watch.margin watch.horizon watch.from late watch.alike in
    let goes = λ (lines : List Line) (keys : List (Option ℕ)) (seen : HasSeenByKey watch lines keys).
    goes_on at old places nexts entries new given watch.opened next put watch.margin watch.horizon watch.from late watch.alike lines keys
    (nothing (Some at) old places given watch.opened are lines keys seen.names seen.each)
    (no_entry (Some at) old places given watch.opened are lines keys seen.names seen.each) in
    record {
      told = λ lines keys seen.
          subst (λ m. AreTold (Some m) lines keys old given) most (told_by_key (Some at) old places given watch.opened are lines keys seen.names seen.each);
      rest = λ lines keys seen i d lt.
          subst (λ m. SettlesOrStays m lines keys given (get_or old i d) (get_or new i d)) most
          (goes lines keys seen i d lt);
      far = λ lines keys seen key.
          subst (λ m. GoesTo m (length (lines_of_one lines keys key)) given key (settled_in old key) (settled_in new key)) most
          (far_on at lines keys given old new key put.as_many seen.names seen.each (goes lines keys seen)
          (told_by_key (Some at) old places given watch.opened are lines keys seen.names seen.each));
      once = λ lines keys told seen has.
          let tell = told_by_key (Some at) old places given watch.opened are lines keys seen.names seen.each in
          record {
            each = settled_on lines keys seen.as_many old new seen.names seen.each at watch.margin given told tell put.as_many
                (goes lines keys seen)
                (λ i d lt. let is = watch.alike i d lt in let low = is.its_from in (is.its_margin, omega arith))
                (λ i d lt. (alike_on at old places nexts entries new given watch.opened next put watch.margin watch.horizon watch.from late watch.alike i d lt).its_margin)
                has.each;
            came = told_came lines keys seen.as_many old seen.names seen.each (Some at) given tell told has.came;
            all = told_of_each lines keys seen.as_many old seen.names seen.each watch.margin (Some at) given told tell
                (rest_by_key (Some at) old places given watch.opened are lines keys seen.names seen.each)
                (λ i d lt. (watch.alike i d lt).its_margin) (λ i d lt. let low = (watch.alike i d lt).its_from in omega (arith, low, late)) has.each has.came;
          };
      kept = keeps_on at old places nexts entries new given watch.opened next put;
      seen = λ lines keys seen. record {
        count = seen.count;
        as_many = seen.as_many;
        names = names_on at old places nexts entries new given watch.opened next put ∙ seen.names;
        each = seen_on at old places nexts entries new given watch.opened next put lines keys seen.each;
      };
      settled = most;
      err = tt;
      margin = (refl, refl);
    }
