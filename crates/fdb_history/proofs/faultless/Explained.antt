-- Logs without a fault of the history are explained by their events in the fixed order.
use Rattle.std.proofs.Common.{◌≡◌, ℕ, zero, suc, ◌+◌, ◌≤◌, ◌==◌, Bool, true, false, List, [], ◌∷◌, ◌++◌, map, length, filter, count_by, refl, ap, sym, subst, ◌∙◌, append_assoc, inl, inr, arith, add-one, le_refl}
use Rattle.std.specs.List.{AllByRecursion}
use Rattle.std.proofs.lemmas.Bool.{eqb-true, cases_lt}
use Rattle.std.proofs.lemmas.List.{map-append, nil_from_length, same_from_push}
use Rattle.std.proofs.lemmas.List.Elements.{All-weaker, All-from_recursion, recursion_from_All, filter_passes}
use Rattle.fdb_history.specs.Event.{stamped, is_change, position_after, change_count}
use Rattle.fdb_history.specs.Explained.{placed_in, events_up_to, explained}
use Rattle.fdb_history.specs.Faults.{changes_at, register_at, IsWrongAnswer, IsFaultless}
use Rattle.fdb_history.specs.Linear.{IsLinear, NeverGoesBack, client_of}
use Rattle.fdb_history.specs.Log.{placed_from, calls_of}
use Rattle.fdb_history.specs.private.Auditing.{IsWithin, farthest}
use Rattle.fdb_history.specs.private.Explaining.{changes_of}
use Rattle.fdb_history.specs.declared.register.Event.{Event}
use Rattle.fdb_history.specs.declared.register.Event.TheVariants.{Read}
use Rattle.fdb_history.specs.declared.register.Placed.{Placed}
use Rattle.fdb_history.specs.declared.log.ClientLog.{ClientLog}
use Rattle.fdb_history.specs.declared.register.Record.{Record}
use Rattle.fdb_history.proofs.Lists.{of_client}
use Rattle.fdb_history.proofs.explained.Stamps.{put_at, come_to, come_to-is, stamped-append}
use Rattle.fdb_history.proofs.faultless.Counted.{far-most, far-reached, none-at-zero, changes-counted}
use Rattle.fdb_history.proofs.faultless.Grouped.{of, groups, groups-filter, groups-All, groups_all, of-groups}
use Rattle.fdb_history.proofs.faultless.Legal.{IsRight, passes_right, legal_right}
use Rattle.fdb_history.proofs.faultless.Logs.{filter-events, is_of, every_log, every_call, every_from, every_placed, passes_bound, own_in, client_in_order, climbing, changes-at, length-changes}
use Rattle.fdb_history.proofs.faultless.Ranks.{rank, rank_of, rank-most, events_of, changes_to, changes-rank, ranks_up_to, ranks-more, events-ranks, climbing_rises}

-- ---- stamps

-- events that change nothing keep their position
quiet : (n : ℕ) (xs : List Placed) (more : List Event) → AllByRecursion (λ p. (p.position ≡ n) × (is_change p.event ≡ false)) xs → stamped n (events_of xs ++ more) ≡ xs ++ stamped n more
quiet n [] more all = refl
quiet n (p ∷ xs) more all =
    rw all.0.1 (ap (λ k. put_at k p.event ∷ stamped n (events_of xs ++ more)) (sym all.0.0) ∙ ap (λ l. p ∷ l) (quiet n xs more all.1))

-- such are the others at a position
others_here : (n : ℕ) (all : List Placed) → AllByRecursion (λ p. (p.position ≡ n) × (is_change p.event ≡ false)) (of rank_of (n + n + 1) all)
others_here n all =
    recursion_from_All _ (of rank_of (n + n + 1) all)
    (All-weaker (λ p. (rank_of p == n + n + 1) ≡ true) (λ p. (p.position ≡ n) × (is_change p.event ≡ false))
    (λ p e. by p.position (is_change p.event) (eqb-true (rank_of p) (n + n + 1) e)) (of rank_of (n + n + 1) all) (filter_passes (λ p. rank_of p == n + n + 1) all))
  where
    by : (m : ℕ) (up : Bool) → rank m up ≡ n + n + 1 → (m ≡ n) × (up ≡ false)
    by m true e = absurd (omega arith)
    by m false e = (omega arith, refl)

-- the only change at a position
change_here : (n : ℕ) (all : List Placed) → length (of rank_of (n + n) all) ≡ 1 → (event : Event) × (of rank_of (n + n) all ≡ put_at n event ∷ []) × (is_change event ≡ true)
change_here n all size = one (of rank_of (n + n) all) (recursion_from_All _ (of rank_of (n + n) all) (filter_passes (λ p. rank_of p == n + n) all)) size
  where
    by : (m : ℕ) (up : Bool) → rank m up ≡ n + n → (m ≡ n) × (up ≡ true)
    by m true e = (omega arith, refl)
    by m false e = absurd (omega arith)

    one : (found : List Placed) → AllByRecursion (λ p. (rank_of p == n + n) ≡ true) found → length found ≡ 1 → (event : Event) × (found ≡ put_at n event ∷ []) × (is_change event ≡ true)
    one [] all size = absurd (omega arith)
    one (p ∷ []) all size = let is = by p.position (is_change p.event) (eqb-true (rank_of p) (n + n) all.0) in (p.event, ap (λ k. put_at k p.event ∷ []) is.0, is.1)
    one (p ∷ q ∷ found) all size = absurd (omega arith)

-- the events in the fixed order have the positions of their ranks, where each position up to one has one change
stamped-ranks : (n : ℕ) (all : List Placed) (more : List Event) → changes_to 0 all ≡ [] → ((position : ℕ) → 1 ≤ position → position ≤ n → length (changes_to position all) ≡ 1)
    → stamped 0 (events_of (ranks_up_to n all) ++ more) ≡ ranks_up_to n all ++ stamped n more
stamped-ranks zero all more none each = rw (sym (changes-rank 0 all) ∙ none) (quiet 0 (of rank_of 1 all) more (others_here 0 all))
stamped-ranks (suc n) all more none each =
    let before = ranks_up_to n all in
    let change = change_here (suc n) all (sym (ap length (changes-rank (suc n) all)) ∙ each (suc n) (omega arith) (le_refl (suc n))) in
    let others = of rank_of (suc n + suc n + 1) all in
    let here = put_at (suc n) change.0 ∷ others in
    let next : position_after n change.0 ≡ suc n = rw change.2 (add-one n) in
    let block : stamped n (events_of here ++ more) ≡ here ++ stamped (suc n) more =
    ap (λ k. put_at k change.0 ∷ stamped k (events_of others ++ more)) next ∙ ap (λ l. put_at (suc n) change.0 ∷ l) (quiet (suc n) others more (others_here (suc n) all)) in
    rw (ranks-more n all, change.1)
    (ap (stamped 0) (ap (λ l. l ++ more) (map-append (λ p. p.event) before here) ∙ append_assoc (events_of before) (events_of here) more)
    ∙ stamped-ranks n all (events_of here ++ more) none (λ position least most. each position least (omega arith))
    ∙ ap (λ l. before ++ l) block ∙ sym (append_assoc before here (stamped (suc n) more)))

-- ---- logs without a fault

module _ (start : Record) (logs : List ClientLog) (fine : IsFaultless start logs) where
  -- all events, how far the calls have come, and the events up to there
  abbrev all : List Placed
  all = placed_in 0 logs

  abbrev far : ℕ
  far = farthest 0 logs

  abbrev history : List Event
  history = events_up_to far all

  -- as many changes at a position in the logs as among their events
  as_many : (position : ℕ) → length (changes_at logs position) ≡ length (changes_to position all)
  as_many position = ap length (changes-at logs position) ∙ length-changes position all

  none : changes_to 0 all ≡ []
  none = nil_from_length (changes_to 0 all) (sym (as_many 0) ∙ ap length (none-at-zero logs fine.order))

  -- each position so far has one change
  one_each : (position : ℕ) → 1 ≤ position → position ≤ far → length (changes_to position all) ≡ 1
  one_each position least most =
      let same = as_many position in
      let (client, place, call, at, reached) = far-reached 0 logs (omega arith) in
      elim (cases_lt 1 (length (changes_at logs position))) [
        | inl two ↦ absurd (fine.clash position two)
        | inr once ↦ elim (cases_lt 0 (length (changes_at logs position))) [
          | inl some ↦ omega arith
          | inr no_change ↦ absurd (fine.gap position (least, nil_from_length (changes_at logs position) (omega arith), (client, place, call, at, omega arith)))
        ]
      ]

  -- the history's stamps, and how many changes it has
  both : (stamped 0 history ≡ ranks_up_to far all) × (come_to 0 history ≡ far)
  both =
      let last : Event = Read 0 0 start in
      let pushed = sym (stamped-append 0 history (last ∷ [])) ∙ ap (λ l. stamped 0 (l ++ last ∷ [])) (events-ranks far all) ∙ stamped-ranks far all (last ∷ []) none one_each in
      let parts = same_from_push (stamped 0 history) (ranks_up_to far all) (put_at (come_to 0 history) last) (put_at far last) pushed in
      (parts.0, ap (λ (p : Placed). p.position) parts.1)

  -- no event is beyond
  placed_within : AllByRecursion (λ p. p.position ≤ far) all
  placed_within =
      every_placed (λ position answer. position ≤ far) (λ p. p.position ≤ far) (λ client. passes_bound (λ p. p.position ≤ far) far client (λ p most. most)) 0 logs
      (far-most 0 far logs (le_refl far))

  rank_within : (p : Placed) → p.position ≤ far → rank_of p ≤ far + far + 1
  rank_within p most = let rank = rank-most p.position (is_change p.event) in omega arith

  -- a client's own events are in its order
  own_ranks : (client : ℕ) → filter (is_of client) (ranks_up_to far all) ≡ placed_from client 0 (calls_of logs client)
  own_ranks client =
      let calls = calls_of logs client in
      groups-filter rank_of (is_of client) (far + far + 1) all ∙ ap (groups rank_of (far + far + 1)) (own_in client 0 client logs (omega arith))
      ∙ groups_all rank_of 0 (far + far + 1) (placed_from client 0 calls) (climbing_rises 0 0 (placed_from client 0 calls) (omega arith) (climbing client 0 0 calls (client_in_order logs fine.order client)))
      (every_from (λ position answer. position ≤ far) (λ p. rank_of p ≤ far + far + 1) client 0 calls (passes_bound (λ p. rank_of p ≤ far + far + 1) far client rank_within)
      (of_client (AllByRecursion (λ call. call.position ≤ far)) tt logs client (far-most 0 far logs (le_refl far))))

  -- the changes to a position are those of all
  changes_there : (position : ℕ) → changes_at logs position ≡ changes_of (changes_to position (stamped 0 history))
  changes_there position =
      changes-at logs position
      ∙ ap changes_of (sym (ap (changes_to position) both.0 ∙ changes-rank position (ranks_up_to far all)
      ∙ of-groups rank_of (position + position) (far + far + 1) all (All-weaker (λ p. p.position ≤ far) (λ p. rank_of p ≤ far + far + 1) rank_within all (All-from_recursion (λ p. p.position ≤ far) all placed_within))
      ∙ sym (changes-rank position all)))

  -- the events so far explain the logs
  linear_so_far : IsLinear start logs history
  linear_so_far =
      let reg = register_at start logs in
      let R = IsRight reg in
      let right = every_placed (λ position answer. IsWrongAnswer start logs position answer → ⊥) R (passes_right start logs) 0 logs
      (every_call (λ call. IsWrongAnswer start logs call.position call.answer → ⊥) logs (λ client place call at bad. fine.wrong client place (call, at, bad))) in
      record {
        legal = (legal_right reg (changes_at logs) (λ p. rw add-one refl) 0 history (λ p above. changes_there p)).1
            (subst (AllByRecursion R) (sym both.0) (recursion_from_All R (ranks_up_to far all) (groups-All rank_of R (far + far + 1) all (All-from_recursion R all right))));
        complete = λ client. ap (filter (λ event. client_of event == client)) (events-ranks far all) ∙ filter-events client (ranks_up_to far all) ∙ ap events_of (own_ranks client);
        placed = λ client. ap (λ l. map (λ p. p.position) (filter (is_of client) l)) both.0 ∙ ap (map (λ p. p.position)) (own_ranks client);
        ordered = every_log (NeverGoesBack 0) logs (client_in_order logs fine.order);
        bounded = far-most 0 (change_count history) logs (let come = come_to-is 0 history in let is = both.1 in omega arith);
      }

  -- so far goes their number
  counted : far ≡ count_by (λ p. is_change p.event) all
  counted = changes-counted far all none one_each placed_within

  -- and so does the history of the logs
  pub linear : IsLinear start logs (explained logs)
  linear = let P : ℕ → Type 0 = λ n. IsLinear start logs (events_up_to n all) in subst P counted linear_so_far

  -- no event stands above the number of changes
  pub all_events_within : IsWithin logs
  all_events_within = let P : ℕ → Type 0 = λ n. AllByRecursion (λ p. p.position ≤ n) all in subst P counted placed_within
