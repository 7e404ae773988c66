use Rattle.std.proofs.Common.{◌≡◌, ◌∙◌, ◌++◌, ◌≤◌, [], ℕ, Bool, List, Result, ap, arith, drop, length, map, max, min, refl, string_bytes, subst, sym, take}
use Rattle.std.proofs.lemmas.List.{drop_all, length-map, map-append, take-append-drop, take-append-le, take_all}
use Rattle.fdb_lines.specs.ToldByKey.{audited_to}
use Rattle.fdb_log_reader.specs.declared.error.Why.{Why}
use Rattle.fdb_log_reader.specs.declared.read_line.ReadLine.{ReadLine}
use Rattle.fdb_log_reader.specs.ReadLine.{SaidLine, said_in}
use Rattle.fdb_audit.specs.Clocks.{ahead_end, ahead_with, believed_from, floor_of, fold_lines, newer, newest_end, no_clocks, others_end}
use Rattle.fdb_audit.specs.Following.{early_at, keys_taken, lines_before, lines_since, lines_taken, start_with, taken}
use Rattle.fdb_audit.specs.Kept.{far_with, start_from}
use Rattle.fdb_audit.specs.Taken.{AreCounted}
use Rattle.fdb_audit.specs.private.Followed.{AreTaken, settled_at}
use Rattle.fdb_audit.proofs.Believed.{fold_on}
use Rattle.fdb_audit.proofs.ReadLines.{counted, lines_parted}
use Rattle.fdb_audit.proofs.Settled.{far_in_all}
use Rattle.fdb_audit.proofs.SettledOn.{in_reach_anew, settled_anew}
use Rattle.fdb_audit.proofs.KeptTexts.{drop_least, drop_mapped, none_at, take_least, take_mapped}
use Rattle.fdb_audit.proofs.Warned.{none_ahead, none_early, none_said}
use Rattle.fdb_audit.proofs.taken_lines.Taking.take_kept.Goals as goal

-- lines in two parts are all lines
in_parts : (lines : List (Result ReadLine Why)) (n : ℕ) → map said_in (take n lines) ++ map said_in (drop n lines) ≡ map said_in lines
in_parts lines n = sym (map-append said_in (take n lines) (drop n lines)) ∙ ap (map said_in) (take-append-drop n lines)

pub returns-clause-taken : goal.returns-clause-taken
returns-clause-taken c = λ behind kept told_is settled_is many_is are.
    let old = c.args.self.now in
    let lines = c.args.lines.items in
    let n = c.min.result in
    let all = map said_in lines in
    let from = start_with behind kept.front in
    let margin = old.watch.margin in
    let start = start_from behind margin kept all in
    let told = map said_in (take n lines) in
    let one = c.take_all.new.self in
    let two = c.settle_untold.new.self in
    let three = c.take_all-2.new.self in
    let reach = are.reach in
    let low : old.watch.from ≡ 0 = (let f = far_in_all from old [] [] reach.from in omega (arith, f)) in
    let least : n ≡ min kept.told (length lines) = (let is = c.min.ensures in let size = c.len.ensures in omega (arith, is, size, told_is)) in
    let first_same : told ≡ take kept.told all = ap (λ m. map said_in (take m lines)) least ∙ (ap (map said_in) (take_least kept.told lines) ∙ sym (take_mapped said_in kept.told lines)) in
    let last_same : map said_in (drop n lines) ≡ drop kept.told all = ap (λ m. map said_in (drop m lines)) least ∙ (ap (map said_in) (drop_least kept.told lines) ∙ sym (drop_mapped said_in kept.told lines)) in
    let first : AreTaken from one told [] =
    subst (λ (part : List (Result ReadLine Why)). AreTaken from one (map said_in part) []) c.in_ok-since.ensures.items (c.in_ok-take_all.ensures.takes.taken from [] [] are) in
    let none_first : one.counts.early ≡ 0 =
    (let most = c.in_ok-take_all.ensures.takes.early in
    let none = ap (λ at. early_at at (lines_taken (map said_in c.split_off.new.self.items))) low ∙ none_at (lines_taken (map said_in c.split_off.new.self.items)) in
    let was = reach.early in omega (arith, most, none, was)) in
    let at : max one.watch.from c.args.settled ≡ kept.settled = (let still = c.take_all.ensures.beside.from in omega (arith, still, low, settled_is)) in
    let Settled = λ (margin moment : ℕ) (part : List (Result SaidLine Why)).
    let found = audited_to margin moment (lines_taken part) (keys_taken part) in AreTaken (settled_at from one.clocks moment told found) two told found in
    let on = settled_at from one.clocks kept.settled told start.told in
    let settled : AreTaken on two told start.told =
    subst (Settled margin kept.settled) first_same
    (subst (λ moment. Settled margin moment told) at
    (subst (λ m. Settled m (max one.watch.from c.args.settled) told) c.take_all.ensures.beside.margin
    (c.in_ok-settle_untold.ensures.taken from told [] refl none_first first))) in
    let last : AreTaken on three all start.told = subst (λ read. AreTaken on three read start.told) (ap (λ (part : List (Result ReadLine Why)). told ++ map said_in part) c.in_ok-since.ensures.tail ∙ in_parts lines n)
    (c.in_ok-take_all-2.ensures.takes.taken on told start.told settled) in
    let most_last : three.counts.early ≤ start.early =
    (let most = c.in_ok-take_all-2.ensures.takes.early in
    let still = c.in_ok-settle_untold.ensures.counts in
    let moment : two.watch.from ≡ kept.settled = c.in_ok-settle_untold.ensures.from ∙ at in
    let same = ap (λ m. early_at m (lines_taken (map said_in c.in_ok-since.since.items))) moment
    ∙ ap (λ (part : List (Result SaidLine Why)). early_at kept.settled (lines_taken part)) (ap (λ (part : List (Result ReadLine Why)). map said_in part) c.in_ok-since.ensures.tail ∙ last_same) in
    omega (arith, most, still, same)) in
    let none : drop (length all) all ≡ [] = drop_all (length all) all (omega arith) in
    let moved : three.watch.from ≡ kept.settled = (let still = c.take_all-2.ensures.beside.from in let moment = c.in_ok-settle_untold.ensures.from in omega (arith, still, moment, at)) in
    let goes = c.go_on.ensures in
    let step = ahead_with no_clocks behind in
    let told_first : take (length told) all ≡ told =
    ap (take (length told)) (sym (in_parts lines n)) ∙ (take-append-le (length told) told (map said_in (drop n lines)) (omega arith) ∙ take_all (length told) told (omega arith)) in
    let ahead_so : ahead_end on.clocks behind (lines_before on all) (lines_since on all) ≡ ahead_end no_clocks behind [] (lines_taken all) =
    ap (λ ahead. fold_lines step ahead (lines_before on all) (lines_since on all)) (first.reach.ahead_to ∙ ap (fold_lines step 0 []) (ap lines_taken (sym told_first)))
    ∙ (sym (fold_on step 0 [] (lines_before on all) (lines_since on all)) ∙ ap (fold_lines step 0 []) (lines_parted on all)) in (
      record {
        seen = last.seen;
        numbered = record { above = last.numbered.above; front = last.numbered.front; few = last.numbered.few };
        count = last.count;
        refused = last.refused;
        counted = subst (λ since. AreCounted c.new-self.result (lines_taken since)) (sym none) c.new-self.ensures.counted;
        few = omega arith;
        from = (let still = c.take_all-2.ensures.beside.from in let moment = c.in_ok-settle_untold.ensures.from in omega (arith, still, moment, at));
        late = (let is : early_at kept.settled (lines_taken (drop (length all) all)) ≡ 0 = ap (λ (since : List (Result SaidLine Why)). early_at kept.settled (lines_taken since)) none in omega (arith, is));
        settled = record {
          come = last.settled.come;
          since = (let since = last.settled.since in omega (arith, since, most_last));
        };
        before = λ none_before k d lt.
            let came = (last.once refl (omega (arith, most_last, none_before))).came k d lt in
            let size = length-map (taken all) (λ (said : SaidLine). said.line) in
            let most = counted 0 all in
            omega (arith, came, size, most);
        reach = in_reach_anew start _ all
            (goes.behind ∙ last.reach.behind_is)
            (record {
              newest = goes.newest ∙ (last.reach.heard.newest ∙ ap (newest_end 0) (lines_parted on all));
              others = λ client. goes.others client
                  ∙ (ap (newer (floor_of c.args.are_many)) (last.reach.heard.others client ∙ ap (others_end client) (lines_parted on all))
                  ∙ ap (λ (many : Bool). newer (floor_of many) (others_end client (lines_taken all))) (sym many_is));
            })
            (goes.believed ∙ (ap (λ n. believed_from n three.clocks.behind) (sym settled_is) ∙ ap (believed_from kept.settled) last.reach.behind_is))
            (goes.ahead ∙ (last.reach.ahead_to ∙ ahead_so))
            moved c.new-self.ensures.early refl;
        settled_at = settled_anew start _ (lines_before start all) (lines_since start all) c.none-self.ensures moved;
        came = none_early start all c.none-self.result.at c.new-self.result none c.new-self.ensures.early c.new-self.ensures.none.0 c.new-self.ensures.none.1;
        ahead = none_ahead start all c.new-self.result.ahead none c.new-self.ensures.none.2;
        once = λ none_before none_since. last.once refl (omega (arith, most_last, none_before));
      },
      none_said start all c.none-self.result.at (string_bytes c.new.result) none c.new.ensures.bytes,
    )

pub returns-clause-far : goal.returns-clause-far
returns-clause-far c = λ behind front are none key.
    let old = c.args.self.now in
    let lines = c.args.lines.items in
    let n = c.min.result in
    let from = start_with behind front in
    let told = map said_in (take n lines) in
    let one = c.take_all.new.self in
    let low : old.watch.from ≡ 0 = (let f = far_in_all from old [] [] are.reach.from in omega (arith, f)) in
    let least : n ≡ min c.args.told (length lines) = (let is = c.min.ensures in let size = c.len.ensures in omega (arith, is, size)) in
    let same : told ≡ take c.args.told (map said_in lines) = ap (λ m. map said_in (take m lines)) least ∙ (ap (map said_in) (take_least c.args.told lines) ∙ sym (take_mapped said_in c.args.told lines)) in
    let first : AreTaken from one told [] =
    subst (λ (part : List (Result ReadLine Why)). AreTaken from one (map said_in part) []) c.in_ok-since.ensures.items (c.in_ok-take_all.ensures.takes.taken from [] [] are) in
    let at : max one.watch.from c.args.settled ≡ c.args.settled = (let still = c.take_all.ensures.beside.from in omega (arith, still, low)) in
    c.in_ok-take_all-2.ensures.takes.stays.far key
    ∙ (c.in_ok-settle_untold.ensures.far told first.seen (λ key. c.in_ok-take_all.ensures.takes.stays.far key ∙ none key) key
    ∙ (ap (λ m. far_with m told key) at ∙ ap (λ (read : List (Result SaidLine Why)). far_with c.args.settled read key) same))

pub returns-clause-horizon : goal.returns-clause-horizon
returns-clause-horizon c = c.in_ok-take_all-2.ensures.takes.stays.horizon ∙ (c.settle_untold.ensures.horizon ∙ c.in_ok-take_all.ensures.takes.stays.horizon)

pub returns-clause-from : goal.returns-clause-from
returns-clause-from c =
    let last = c.take_all-2.ensures.beside.from in
    let moment = c.in_ok-settle_untold.ensures.from in
    let first = c.take_all.ensures.beside.from in
    omega (arith, last, moment, first)
