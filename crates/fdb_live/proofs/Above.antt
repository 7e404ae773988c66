-- A fresh version is above all that its asker had seen of the chain, and above what it had read.
use Rattle.std.proofs.Common.{◌≡◌, ℕ, zero, suc, ◌+◌, ◌-◌, ◌<◌, ◌≤◌, true, List, [], ◌∷◌, ◌++◌, length, Some, Result, Ok, Err, get_or, slice_get, inl, inr, ◌⊎◌, refl, sym, ap, ◌∙◌, subst, arith, length-append}
use Rattle.std.specs.Prelude.{All, Contains, IfOk}
use Rattle.std.specs.List.{AllPairs}
use Rattle.std.proofs.lemmas.Bool.{cases_lt, cond_both}
use Rattle.std.proofs.Math.Seq.{get_or-append_seam}
use Rattle.std.proofs.lemmas.List.{get_or_append_left, get_or_default}
use Rattle.std.proofs.lemmas.List.Elements.{All-contains, Contains-append_left, All-head, All-map, All-tail, All-weaker}
use Rattle.std.proofs.lemmas.Option.{get_or_from_slice_get, slice_get-get_or, slice_get_within}
use mathlib.Core.List.{IsPrefix}
use Rattle.fdb_history.specs.Chain.{IsChain, last_answer, version_after}
use Rattle.fdb_history.specs.Register.{after_report, raises}
use Rattle.fdb_history.specs.declared.chain.Issued.{Issued}
use Rattle.fdb_history.specs.declared.register.Record.{Record}
use Rattle.fdb_chain.specs.declared.error.ChainError.{ChainError}
use Rattle.fdb_live.specs.Holding.{AreDrawn, IsAboveRead, above_last, least_above, versions}
use Rattle.fdb_live.specs.Seen.{Sight, last_record}
use Rattle.fdb_live.specs.declared.view.Change.{Change}
use Rattle.fdb_live.proofs.Drawn.{IsDrawn, all_begins, chain_begins}
use Rattle.fdb_live.proofs.Prefixes.{prefix_length}

abbrev pub Rise : List Issued → Type 0
Rise answers = AllPairs (λ earlier later. earlier.version < later.version) answers

-- that the versions of each chain rise
abbrev pub Law : Type 0
Law = (epoch_end recovery : ℕ) (answers : List Issued) → IsChain epoch_end recovery answers → Rise answers

-- the last one is above all before it
last_above : (before : List Issued) (issued : Issued) → Rise (before ++ issued ∷ []) → All (λ earlier. earlier.version < issued.version) before
last_above before issued rise k d lt =
    let long = length-append before (issued ∷ []) in
    let up = rise k (length before) d (omega arith) (omega arith) in
    subst (λ (p : Issued × Issued). p.0.version < p.1.version) (λ i. (get_or_append_left before (issued ∷ []) d k lt i, get_or-append_seam before issued [] d i)) up

module _ (law : Law) (epoch_end recovery : ℕ) (old new : Sight) (chain : IsChain epoch_end recovery new.answers) where
  above_before : (issued : Issued) (d : IsDrawn epoch_end recovery issued old new) → All (λ earlier. earlier.version < issued.version) d.before
  above_before issued d = last_above d.before issued (subst Rise d.last (law epoch_end recovery new.answers chain))

  above_seen : (issued : Issued) → IsDrawn epoch_end recovery issued old new → All (λ earlier. earlier.version < issued.version) old.answers
  above_seen issued d = all_begins (λ (earlier : Issued). earlier.version < issued.version) old.answers d.before d.seen (above_before issued d)

  pub above_each : (result : Result Issued ChainError) → IfOk result (λ issued. issued.fresh ≡ true → IsDrawn epoch_end recovery issued old new)
      → IfOk result (λ issued. issued.fresh ≡ true → (earlier : Issued) → Contains old.answers earlier → earlier.version < issued.version)
  above_each (Ok issued) drawn = λ fresh earlier has. All-contains (λ (e : Issued). e.version < issued.version) old.answers earlier (above_seen issued (drawn fresh)) has
  above_each (Err cause) drawn = tt

  -- each version that was drawn before is below
  drawn_below : (answers : List Issued) (version n : ℕ) → All (λ earlier. earlier.version < n) answers → Contains (versions answers) version → version < n
  drawn_below answers version n all has =
      All-contains (λ (v : ℕ). v < n) (versions answers) version (All-map (λ (v : ℕ). v < n) (λ (answer : Issued). answer.version) answers all) has

  last_below : (start : Record) (changes : List Change) (n : ℕ) → start.version < n → All (λ change. change.rec.version < n) changes → (last_record start changes).version < n
  last_below start [] n begun all = begun
  last_below start (c ∷ changes) n begun all =
      let here = All-head (λ (change : Change). change.rec.version < n) c changes all in
      last_below (after_report start c.rec) changes n
      (cond_both (raises start c.rec) c.rec start (λ (r : Record). r.version < n) (λ _. here) (λ _. begun))
      (All-tail (λ (change : Change). change.rec.version < n) c changes all)

  begins_from : (before : List Issued) (n : ℕ) → 0 < length before → IsChain epoch_end recovery before → All (λ earlier. earlier.version < n) before → recovery < n
  begins_from [] n some before_chain all = absurd (omega arith)
  begins_from (x ∷ xs) n some before_chain all =
      let first = before_chain.0.version in
      let below = All-head (λ (earlier : Issued). earlier.version < n) x xs all in
      omega arith

  above_read : (start : Record) (result : Result Issued ChainError) → start.version ≤ recovery → IfOk result (λ issued. issued.fresh ≡ true → IsDrawn epoch_end recovery issued old new)
      → IfOk result (λ issued. issued.fresh ≡ true → 0 < issued.ordinal → (last_record start old.changes).version < issued.version)
  above_read start (Ok issued) begun drawn = λ fresh later. (
      let d = drawn fresh in
      let all = above_before issued d in
      let ordinal = d.next.ordinal in
      let n : ℕ = issued.version in
      let first = begins_from d.before n (omega arith) (chain_begins epoch_end recovery d.before new.answers (issued ∷ [], sym d.last) chain) all in
      last_below start old.changes n (omega arith) (All-weaker (λ (c : Change). Contains (versions d.before) c.rec.version) (λ (c : Change). c.rec.version < n) (λ c has. drawn_below d.before c.rec.version n all has) old.changes d.read)
      )
  above_read start (Err cause) begun drawn = tt

  none_read : (changes : List Change) → All (λ change. Contains [] change.rec.version) changes → changes ≡ []
  none_read [] all = refl
  none_read (c ∷ changes) all = (let has = All-head (λ (change : Change). Contains [] change.rec.version) c changes all in let no = has.1 in absurd (omega arith))

  -- the first version of all is not below the start record, which is all that anybody has read by then
  at_least_read : (start : Record) (result : Result Issued ChainError) → start.version ≤ recovery → IfOk result (λ issued. issued.fresh ≡ true → IsDrawn epoch_end recovery issued old new)
      → IfOk result (λ issued. issued.fresh ≡ true → (last_record start old.changes).version ≤ issued.version)
  at_least_read start (Ok issued) begun drawn = λ fresh. go fresh (drawn fresh).before refl
    where
      go : (fresh : issued.fresh ≡ true) (before : List Issued) → (drawn fresh).before ≡ before → (last_record start old.changes).version ≤ issued.version
      go fresh [] none =
          let d = drawn fresh in
          let nothing = none_read old.changes (subst (λ (l : List Issued). AreDrawn l old.changes) none d.read) in
          let is : issued.version ≡ recovery = d.next.version ∙ ap (λ (l : List Issued). version_after recovery (last_answer l) issued.at) none in
          let read : (last_record start old.changes).version ≡ start.version = ap (λ (l : List Change). (last_record start l).version) nothing in
          omega arith
      go fresh (x ∷ xs) some =
          let d = drawn fresh in
          let ordinal = d.next.ordinal in
          let long = ap length some in
          let up = above_read start (Ok issued) begun drawn fresh (omega arith) in
          omega arith
  at_least_read start (Err cause) begun drawn = tt

  pub is_above_read : (start : Record) (result : Result Issued ChainError) → start.version ≤ recovery → IfOk result (λ issued. issued.fresh ≡ true → IsDrawn epoch_end recovery issued old new)
      → IfOk result (λ issued. issued.fresh ≡ true → IsAboveRead (last_record start old.changes).version issued)
  is_above_read start (Ok issued) begun drawn = λ fresh. record { at_least = at_least_read start (Ok issued) begun drawn fresh; above = above_read start (Ok issued) begun drawn fresh }
  is_above_read start (Err cause) begun drawn = tt

-- of a list with an element
least_is : (xs : List Issued) (d : Issued) → 0 < length xs → least_above xs ≡ (get_or xs (length xs - 1) d).version + 1
least_is xs d some = ap above_last (slice_get-get_or xs (length xs - 1) d (omega arith))

least_within : (xs : List Issued) (v : ℕ) → All (λ earlier. earlier.version < v) xs → least_above xs ≤ v
least_within [] v all = omega arith
least_within (x ∷ xs) v all =
    let last = least_is (x ∷ xs) x (omega arith) in
    let below = all (length (x ∷ xs) - 1) x (omega arith) in
    omega arith

pub least_before : (law : Law) (epoch_end recovery : ℕ) (result : Result Issued ChainError) (old new : Sight) → IsChain epoch_end recovery new.answers → IfOk result (λ issued. issued.fresh ≡ true → IsDrawn epoch_end recovery issued old new)
    → IfOk result (λ issued. issued.fresh ≡ true → least_above old.answers ≤ issued.version)
least_before law epoch_end recovery (Ok issued) old new chain drawn = λ fresh. least_within old.answers issued.version (above_seen law epoch_end recovery old new chain issued (drawn fresh))
least_before law epoch_end recovery (Err cause) old new chain drawn = tt

pub least_after : (epoch_end recovery : ℕ) (result : Result Issued ChainError) (old new : Sight) → IfOk result (λ issued. issued.fresh ≡ true → IsDrawn epoch_end recovery issued old new)
    → IfOk result (λ issued. issued.fresh ≡ true → least_above new.answers ≡ issued.version + 1)
least_after epoch_end recovery (Ok issued) old new drawn = λ fresh. (
    let d = drawn fresh in
    let long : length new.answers ≡ suc (length d.before) = omega (arith, ap length d.last, length-append d.before (issued ∷ [])) in
    let last = least_is new.answers issued (omega arith) in
    let at : length new.answers - 1 ≡ length d.before = omega arith in
    let is : get_or new.answers (length new.answers - 1) issued ≡ issued = ap (λ k. get_or new.answers k issued) at ∙ (ap (λ l. get_or l (length d.before) issued) d.last ∙ get_or-append_seam d.before issued [] issued) in
    last ∙ ap (λ (a : Issued). a.version + 1) is
    )
least_after epoch_end recovery (Err cause) old new drawn = tt

-- who has seen more has seen no lower version last
pub least_grows : (law : Law) (epoch_end recovery : ℕ) (xs ys : List Issued) → IsChain epoch_end recovery ys → IsPrefix xs ys → least_above xs ≤ least_above ys
least_grows law epoch_end recovery [] ys chain p = omega arith
least_grows law epoch_end recovery (x ∷ xs) ys chain p =
    let short = prefix_length (x ∷ xs) ys p in
    let at : length (x ∷ xs) - 1 ≡ length xs = omega arith in
    let mine : least_above (x ∷ xs) ≡ (get_or (x ∷ xs) (length xs) x).version + 1 = least_is (x ∷ xs) x (omega arith) ∙ ap (λ k. (get_or (x ∷ xs) k x).version + 1) at in
    let theirs = least_is ys x (omega arith) in
    let same : get_or (x ∷ xs) (length xs) x ≡ get_or ys (length xs) x = sym (get_or_append_left (x ∷ xs) p.0 x (length xs) (omega arith)) ∙ ap (λ l. get_or l (length xs) x) p.1 in
    let version = ap (λ (a : Issued). a.version) same in
    go short mine theirs version (law epoch_end recovery ys chain) (cases_lt (length xs) (length ys - 1))
  where
    go : suc (length xs) ≤ length ys → least_above (x ∷ xs) ≡ (get_or (x ∷ xs) (length xs) x).version + 1 → least_above ys ≡ (get_or ys (length ys - 1) x).version + 1 → (get_or (x ∷ xs) (length xs) x).version ≡ (get_or ys (length xs) x).version
        → Rise ys → (length xs < length ys - 1) ⊎ (length ys - 1 ≤ length xs) → least_above (x ∷ xs) ≤ least_above ys
    go short mine theirs version rise (inl less) = let up = rise (length xs) (length ys - 1) x less (omega arith) in omega arith
    go short mine theirs version rise (inr not_less) =
        let at : length ys - 1 ≡ length xs = omega arith in
        let same = ap (λ k. (get_or ys k x).version) at in omega arith

-- a version of a chain belongs to one answer
same_version : (xs : List Issued) (one other : Issued) → Rise xs → Contains xs one → Contains xs other → one.version ≡ other.version → one ≡ other
same_version xs one other rise a b same = go (cases_lt a.0 b.0) (cases_lt b.0 a.0)
  where
    version_at : (x d : Issued) (h : Contains xs x) → (get_or xs h.0 d).version ≡ x.version
    version_at x d h = ap (λ (y : Issued). y.version) (get_or_default xs h.0 d x h.1 ∙ h.2)

    go : (a.0 < b.0) ⊎ (b.0 ≤ a.0) → (b.0 < a.0) ⊎ (a.0 ≤ b.0) → one ≡ other
    go (inl less) _ = (let up = rise a.0 b.0 one less b.1 in let here = version_at one one a in let there = version_at other one b in absurd (omega arith))
    go (inr _) (inl less) = (let up = rise b.0 a.0 one less a.1 in let here = version_at one one a in let there = version_at other one b in absurd (omega arith))
    go (inr most) (inr least) =
        let at : a.0 ≡ b.0 = omega arith in
        sym a.2 ∙ (get_or_default xs a.0 one other a.1 ∙ (ap (λ k. get_or xs k other) at ∙ b.2))

contains_more : (xs ys : List Issued) (x : Issued) → IsPrefix xs ys → Contains xs x → Contains ys x
contains_more xs ys x p has = subst (λ l. Contains l x) p.1 (Contains-append_left xs p.0 x has)

pub unique : (law : Law) (epoch_end recovery : ℕ) (xs ys : List Issued) → IsChain epoch_end recovery xs → IsChain epoch_end recovery ys → IsPrefix xs ys ⊎ IsPrefix ys xs
    → (one other : Issued) → Contains xs one → Contains ys other → one.version ≡ other.version → one ≡ other
unique law epoch_end recovery xs ys these those (inl p) one other a b same = same_version ys one other (law epoch_end recovery ys those) (contains_more xs ys one p a) b same
unique law epoch_end recovery xs ys these those (inr p) one other a b same = same_version xs one other (law epoch_end recovery xs these) a (contains_more ys xs other p b) same

at_seam : (before : List Issued) (issued : Issued) (k : ℕ) → k ≡ length before → slice_get (before ++ issued ∷ []) k ≡ Some issued
at_seam [] issued zero e = refl
at_seam [] issued (suc k) e = absurd (omega arith)
at_seam (x ∷ before) issued zero e = absurd (omega arith)
at_seam (x ∷ before) issued (suc k) e = at_seam before issued k (omega arith)

-- a fresh answer stands at its ordinal
pub stands_drawn : (epoch_end recovery : ℕ) (result : Result Issued ChainError) (old new : Sight) → IfOk result (λ issued. issued.fresh ≡ true → IsDrawn epoch_end recovery issued old new)
    → IfOk result (λ issued. issued.fresh ≡ true → slice_get new.answers issued.ordinal ≡ Some issued)
stands_drawn epoch_end recovery (Ok issued) old new drawn = λ fresh. (let d = drawn fresh in ap (λ (l : List Issued). slice_get l issued.ordinal) d.last ∙ at_seam d.before issued issued.ordinal d.next.ordinal)
stands_drawn epoch_end recovery (Err cause) old new drawn = tt

-- what stands somewhere is among all
pub contains_at : (xs : List Issued) (k : ℕ) (x : Issued) → slice_get xs k ≡ Some x → Contains xs x
contains_at xs k x at = (k, slice_get_within xs k x at, get_or_from_slice_get xs k x x at)
