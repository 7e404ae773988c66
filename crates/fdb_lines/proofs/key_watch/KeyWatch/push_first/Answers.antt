use Rattle.std.proofs.Common.{◌≡◌, ◌++◌, ◌∷◌, [], Bool, true, List, Option, Some, ℕ, length, ap, sym, subst, ◌∙◌, arith, length-append}
use Rattle.std.proofs.lemmas.List.{length-map, map_push}
use Rattle.std.specs.BTreeMap.{get}
use Rattle.std.specs.List.{All}
use Rattle.std.specs.Ordering.{nat_cmp}
use Rattle.fdb_lines.specs.declared.key_part.KeyPart.{KeyPart}
use Rattle.fdb_lines.specs.declared.line.Line.{Line}
use Rattle.fdb_lines.specs.KeyParts.{names_of}
use Rattle.fdb_lines.specs.KeyWatch.{SettledTo, not_settled, settled_in, settled_of}
use Rattle.fdb_lines.specs.Watch.{HasSeen}
use Rattle.fdb_lines.specs.private.Keys.{AreNumbered}
use Rattle.fdb_lines.specs.private.KeyParts.{flags_of, AreOpen, HasOneMore, IsAlike, BeginsWith}
use Rattle.fdb_lines.proofs.HowFar.{far_first, far_is}
use Rattle.fdb_lines.proofs.Opened.{opened_first}
use Rattle.fdb_lines.proofs.Parted.{numbered_more}
use Rattle.fdb_lines.proofs.SeenByKey.{alike_first, numbered_same, seen_first, stay_first}
use Rattle.fdb_lines.proofs.key_watch.KeyWatch.push_first.Goals as goal

-- the part of a key with its first line
first_part : (empty part : KeyPart) (name : Option ℕ) (margin horizon number : ℕ) (line : Line) → empty.key ≡ name → HasSeen empty.watch [] → empty.numbers.items ≡ []
    → IsAlike margin horizon 0 empty → HasOneMore line number empty part → IsAlike empty.watch.margin empty.watch.horizon empty.watch.from part → part.is_open ≡ true
    → BeginsWith name margin horizon line number part
first_part empty part name margin horizon number line named seen numbers was more now opened =
    let low = was.its_from in
    let up = now.its_from in
    record {
      empty = empty;
      key = named;
      seen = seen;
      numbers = numbers;
      more = more;
      alike = record { its_margin = now.its_margin ∙ was.its_margin; its_horizon = now.its_horizon ∙ was.its_horizon; its_from = omega arith };
      opened = opened;
    }

pub invariant_of-self-2 : goal.invariant_of-self-2
invariant_of-self-2 c =
    let watch = c.args.self.now in
    let parts = watch.parts.items in
    let part = c.push.new.self in
    let first = (let its = c.new-part.ensures in
    first_part c.new-part.result c.push.new.self c.args.key watch.margin watch.horizon watch.count c.args.line its.key its.seen its.numbers its.alike c.in_default.ensures.ok c.push.ensures.alike c.push.ensures.opened) in
    let key_is = λ (part : KeyPart). part.key in
    let open_flag = λ (part : KeyPart). part.is_open in
    let place_is : c.len-place.result ≡ length (flags_of parts) = (let sizes = length-map parts open_flag in let is = c.len-place.ensures in omega (arith, watch.parts.ok.0)) in
    let pushed : c.push_reserved-2.new.self.items ≡ parts ++ part ∷ [] = c.push_reserved-2.ensures.items ∙ ap (λ (ps : List KeyPart). ps ++ part ∷ []) c.reserve-2.ensures.items in
    let listed : c.push_reserved.new.self.items ≡ watch.open_parts.items ++ length (flags_of parts) ∷ [] =
    c.push_reserved.ensures.items ∙ (ap (λ (ps : List ℕ). ps ++ c.len-place.result ∷ []) c.reserve.ensures.items ∙ ap (λ n. watch.open_parts.items ++ n ∷ []) place_is) in
    let named : names_of (parts ++ part ∷ []) ≡ names_of parts ++ c.args.key ∷ [] = map_push key_is parts part ∙ ap (λ q. names_of parts ++ q ∷ []) (first.more.key ∙ first.key) in
    let flagged : flags_of (parts ++ part ∷ []) ≡ flags_of parts ++ true ∷ [] = map_push open_flag parts part ∙ ap (λ b. flags_of parts ++ b ∷ []) first.opened in
    let size : c.len-place.result ≡ length (names_of parts) = (let sizes = length-map parts key_is in let is = c.len-place.ensures in omega (arith, watch.parts.ok.0)) in
    let more : AreNumbered (λ q. get nat_cmp c.give_number.new.numbers q) (names_of parts ++ c.args.key ∷ []) =
    numbered_more (λ q. get nat_cmp watch.numbers q) (λ q. get nat_cmp c.give_number.new.numbers q) (names_of parts) c.args.key watch.numbered c.requires.absent
    (λ q. rw (← size, ← c.number_of.ensures) (c.in_default-give_number.ensures.ok q)) in
    record {
      numbered = subst (AreNumbered (λ q. get nat_cmp c.give_number.new.numbers q)) (sym (ap names_of pushed ∙ named)) more;
      alike = subst (All (IsAlike watch.margin watch.horizon watch.from)) (sym pushed)
          (alike_first c.args.key watch.margin watch.horizon watch.from c.args.line watch.count parts part watch.alike first);
      opened = subst (λ (fs : List Bool). AreOpen fs c.push_reserved.new.self.items) (sym (ap flags_of pushed ∙ flagged))
          (subst (AreOpen (flags_of parts ++ true ∷ [])) (sym listed) (opened_first (flags_of parts) watch.open_parts.items watch.opened));
    }

pub returns-clause-ok : goal.returns-clause-ok
returns-clause-ok c = λ lines keys seen.
    let watch = c.args.self.now in
    let parts = watch.parts.items in
    let part = c.push.new.self in
    let line = c.args.line in
    let new = c.push_reserved-2.new.self.items in
    let pushed : new ≡ parts ++ part ∷ [] = c.push_reserved-2.ensures.items ∙ ap (λ (ps : List KeyPart). ps ++ part ∷ []) c.reserve-2.ensures.items in
    let first : BeginsWith c.args.key watch.margin watch.horizon line (length lines) part =
    subst (λ n. BeginsWith c.args.key watch.margin watch.horizon line n part) seen.count (let its = c.new-part.ensures in
    first_part c.new-part.result c.push.new.self c.args.key watch.margin watch.horizon watch.count c.args.line its.key its.seen its.numbers its.alike c.in_default.ensures.ok c.push.ensures.alike c.push.ensures.opened) in
    let it = seen_first lines keys seen.as_many line c.args.key parts seen.names seen.each watch.margin watch.horizon part new
    (λ i lt. watch.numbered.absent c.args.key c.requires.absent i lt) first pushed in
    let count = seen.count in
    let many = seen.as_many in
    record {
      count = omega (arith, length-append lines (line ∷ []));
      as_many = omega (arith, length-append lines (line ∷ []), length-append keys (c.args.key ∷ []));
      names = it.0;
      each = it.1;
    }

pub invariant_of-self-in-Err-give_number : goal.invariant_of-self-in-Err-give_number
invariant_of-self-in-Err-give_number c =
    let watch = c.args.self.now in
    let back = c.reserve-2.ensures.items in
    record {
      numbered = subst (AreNumbered (λ q. get nat_cmp c.give_number.new.numbers q)) (sym (ap names_of back))
          (numbered_same (λ q. get nat_cmp watch.numbers q) (λ q. get nat_cmp c.give_number.new.numbers q) (names_of watch.parts.items) watch.numbered c.in-Err-give_number.ensures.err);
      alike = subst (All (IsAlike watch.margin watch.horizon watch.from)) (sym back) watch.alike;
      opened = subst (λ (ps : List KeyPart). AreOpen (flags_of ps) c.reserve.new.self.items) (sym back)
          (subst (AreOpen (flags_of watch.parts.items)) (sym c.reserve.ensures.items) watch.opened);
    }

pub returns-clause-stays : goal.returns-clause-stays
returns-clause-stays c =
    let watch = c.args.self.now in
    stay_first c.args.key watch.margin watch.horizon c.args.line watch.count watch.parts.items c.push_reserved-2.new.self.items c.push.new.self (let its = c.new-part.ensures in
    first_part c.new-part.result c.push.new.self c.args.key watch.margin watch.horizon watch.count c.args.line its.key its.seen its.numbers its.alike c.in_default.ensures.ok c.push.ensures.alike c.push.ensures.opened)
    (c.push_reserved-2.ensures.items ∙ ap (λ (ps : List KeyPart). ps ++ c.push.new.self ∷ []) c.reserve-2.ensures.items)

pub returns-clause-far : goal.returns-clause-far
returns-clause-far c = λ key.
    let parts = c.args.self.now.parts.items in
    let part = c.push.new.self in
    let empty = c.new-part.result in
    let its = c.new-part.ensures in
    let low = its.alike.its_from in
    let at = λ (from come : ℕ). let far : SettledTo = record { to = Some from; come = come } in far in
    let from : empty.watch.from ≡ 0 = omega arith in
    let none : settled_of part ≡ not_settled = far_is empty part c.push.ensures.stays ∙ (ap (λ n. at n empty.watch.settled) from ∙ ap (at 0) its.settled) in
    ap (λ ps. settled_in ps key) (c.push_reserved-2.ensures.items ∙ ap (λ (ps : List KeyPart). ps ++ part ∷ []) c.reserve-2.ensures.items)
    ∙ far_first parts part none key
