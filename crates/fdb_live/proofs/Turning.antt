-- The moves that load or replace the words.
use Rattle.std.proofs.Common.{◌≡◌, ◌≢◌, ℕ, ◌+◌, ◌<◌, true, true≢false, Option, None, Some, List, [], ◌∷◌, ◌++◌, length, set, refl, sym, ap, ◌∙◌, subst, arith, length-append}
use Rattle.std.specs.Prelude.{All, Contains, IsSome, is_some}
use Rattle.std.proofs.lemmas.List.Elements.{All-nil, All-cons, All-append}
use mathlib.Core.List.{IsPrefix}
use mathlib.Core.Option.{some}
use lib.ListN.{get_elem?}
use Rattle.crossbeam_utils.specs.Register.{Turns}
use Rattle.fdb_history.specs.Chain.{IsChain}
use Rattle.fdb_history.specs.declared.chain.Issued.{Issued}
use Rattle.fdb_history.specs.declared.register.Record.{Record}
use Rattle.fdb_history.specs.Register.{after_report, changes}
use Rattle.fdb_live.specs.declared.held.Fetched.{Fetched}
use Rattle.fdb_live.specs.declared.view.Change.{Change}
use Rattle.fdb_live.specs.declared.view.Epoch.{Epoch}
use Rattle.fdb_live.specs.declared.view.View.{View}
use Rattle.fdb_live.specs.Holding.{AreDrawn, answers_to, versions}
use Rattle.fdb_live.specs.Seen.{last_record, all_change, IsLog, IsRecord, changed_by}
use Rattle.fdb_live.specs.private.Rule.{IsDrawnFrom, IsRegister, Fits, Kept, Whole, first, opened, having_seen, Tells, TellsChain, Looks, Settles, Adds, Draws, Opens}
use Rattle.fdb_live.proofs.ChainParts.{chain_drew, chain_grown, chain_sees}
use Rattle.fdb_live.proofs.Drawn.{answers_to-between, chain_begins, drawn_fewer, drawn_more, drawn_push, version_stays}
use Rattle.fdb_live.proofs.Prefixes.{prefix_nil, prefix_of_none, prefix_same, prefix_trans}
use Rattle.fdb_live.proofs.Logs.{all_change-push, last_record-push, changed_by-push_other, changed_by-between}
use Rattle.fdb_live.proofs.Fitting.{fits_set}

-- the service is opened
pub opens : (epoch : Option Epoch) (reporters pass : ℕ) (v : View) (y : Fetched) → v ≡ first → y.position ≡ 0 → IsRecord y.rec → Turns Kept pass v (λ _. y) (Opens epoch reporters)
opens epoch reporters pass v y is at_first allowed x views k at =
    let f = subst (Fits k.whole pass) is (k.each pass v at) in
    let right = f.right refl in
    let none = (f.chain.right refl).1 in
    let whole : Whole = record k.whole { start = y.rec; reporters = reporters; epoch = epoch; log = []; holder = λ n. pass } in
    let closed : (u : View) (j : ℕ) → get_elem? views j ≡ some u → 0 < u.reporters → ⊥ = λ u j e o. (let same = ((k.each j u e).opened o).1 in let none = right.1 in omega arith) in
    let others : (j : ℕ) (u : View) → j ≢ pass → get_elem? views j ≡ some u → Fits whole j u =
    λ j u apart e. (let g = k.each j u e in let no = closed u j e in record {
      opened = λ o. absurd (no o);
      right = λ r. absurd (apart ((g.right r).0 ∙ sym right.0));
      seen = subst (λ l. IsPrefix u.seen l) (sym right.2) g.seen;
      mine = g.mine;
      theirs = g.theirs;
      own = λ n low high. (let h = g.numbers in absurd (no (omega arith)));
      numbers = g.numbers;
      held = λ n low high. (let h = g.numbers in absurd (no (omega arith)));
      chain = g.chain;
    }) in
    let mine : Fits whole pass (opened y.rec epoch reporters) = record {
      opened = λ o. (refl, refl, refl);
      right = λ e. (right.0, refl, refl);
      seen = prefix_nil [];
      mine = prefix_nil [];
      theirs = prefix_nil [];
      own = λ n low high. refl;
      numbers = omega arith;
      held = λ n low high. refl;
      chain = record { right = f.chain.right; seen = prefix_nil k.whole.answers; mine = prefix_nil []; theirs = prefix_nil []; own = λ n low high. ap (answers_to n) none };
    } in (
      opened y.rec epoch reporters,
      record {
        whole = whole;
        register = λ o. record { position = at_first; rec = refl };
        legal = record { all_change = refl; numbered = All-nil _; taken = All-nil _; start_taken = allowed };
        drawn = λ some_epoch e. record { legal = subst (IsChain some_epoch.before some_epoch.recovery) none tt; drawn = All-nil _ };
        bare = λ _. sym none;
        each = fits_set whole views pass (opened y.rec epoch reporters) others mine;
      },
      refl,
    )

-- a pass sees lists that go on what it has seen, and begin the log and the answers
pub record Sees (x : Fetched) (views : List View) (pass : ℕ) (v : View) (list : List Change) (answers : List Issued) : Type 0 where
  pub kept : Kept x (set views pass (having_seen v list answers))
  pub tells : Tells v list
  pub chain : TellsChain v answers

module _ (pass : ℕ) (v : View) (x : Fetched) (views : List View) (k : Kept x views) (at : get_elem? views pass ≡ some v) where
  tells_list : (list : List Change) → IsPrefix v.seen list → IsPrefix list k.whole.log → Tells v list
  tells_list list p q =
      let f = k.each pass v at in
      let before = prefix_trans v.mine v.seen list f.mine p in
      record { seen = p; mine = before; theirs = prefix_trans v.theirs v.seen list f.theirs p; own = λ n low high. changed_by-between n v.mine list k.whole.log before q (f.own n low high) }

  tells_answers : (answers : List Issued) → IsPrefix v.chain.seen answers → IsPrefix answers k.whole.answers → TellsChain v answers
  tells_answers answers p q =
      let f = k.each pass v at in
      let before = prefix_trans v.chain.mine v.chain.seen answers f.chain.mine p in
      record { seen = p; mine = before; theirs = prefix_trans v.chain.theirs v.chain.seen answers f.chain.theirs p; own = λ n low high. answers_to-between n v.chain.mine answers k.whole.answers before q (f.chain.own n low high) }

  sees : (list : List Change) (answers : List Issued) → IsPrefix v.seen list → IsPrefix list k.whole.log → (v.replaces ≡ true → list ≡ k.whole.log)
      → IsPrefix v.chain.seen answers → IsPrefix answers k.whole.answers → (v.chain.draws ≡ true → answers ≡ k.whole.answers) → Sees x views pass v list answers
  sees list answers p q all r s each =
      let f = k.each pass v at in
      let whole : Whole = k.whole in
      let t = tells_list list p q in
      let mine : Fits whole pass (having_seen v list answers) = record { opened = f.opened; right = λ e. ((f.right e).0, (f.right e).1, all e); seen = q; mine = prefix_same list; theirs = prefix_nil list; own = λ n low high. sym (t.own n low high) ∙ f.own n low high; numbers = f.numbers; held = f.held; chain = chain_sees whole.answers whole.drawer pass v.low v.high v.chain f.chain answers r s each } in
      record {
        kept = record {
          whole = whole;
          register = k.register;
          legal = k.legal;
          drawn = k.drawn;
          bare = k.bare;
          each = fits_set whole views pass (having_seen v list answers) (λ j u _ e. k.each j u e) mine;
        };
        tells = t;
        chain = tells_answers answers r s;
      }

  -- of an opened service with a chain, the changes were all drawn
  are_drawn : 0 < v.reporters → (epoch : Epoch) → v.epoch ≡ Some epoch → IsDrawnFrom epoch k.whole.answers k.whole.log
  are_drawn o epoch e = k.drawn epoch (sym ((k.each pass v at).opened o).2 ∙ e)

  -- of an opened service with no chain there are no answers
  no_answers : 0 < v.reporters → v.epoch ≡ None → k.whole.answers ≡ []
  no_answers o e = k.bare (sym ((k.each pass v at).opened o).2 ∙ e)

pub looks : (pass : ℕ) (v : View) → Turns Kept pass v (λ x. x) Looks
looks pass v x views k at =
    let f = k.each pass v at in
    let s = sees pass v x views k at k.whole.log k.whole.answers f.seen (prefix_same k.whole.log) (λ _. refl) f.chain.seen (prefix_same k.whole.answers) (λ _. refl) in (
      having_seen v k.whole.log k.whole.answers,
      s.kept,
      record {
        is = refl;
        tells = s.tells;
        chain = s.chain;
        numbers = f.numbers;
        legal = λ o. subst (λ (p : Record × ℕ). IsLog p.0 p.1 k.whole.log) (λ i. (sym (f.opened o).0 i, sym (f.opened o).1 i)) k.legal;
        register = λ o. subst (λ (start : Record). IsRegister start x k.whole.log) (sym (f.opened o).0) (k.register (subst (λ n. 0 < n) (f.opened o).1 o));
        drawn = are_drawn pass v x views k at;
        bare = no_answers pass v x views k at;
      },
    )

pub settles : (pass : ℕ) (v : View) → Turns Kept pass v (λ x. x) Settles
settles pass v x views k at =
    let f = k.each pass v at in
    let s = sees pass v x views k at v.seen v.chain.seen (prefix_same v.seen) f.seen (λ e. (f.right e).2) (prefix_same v.chain.seen) f.chain.seen (λ e. (f.chain.right e).1) in
    (having_seen v v.seen v.chain.seen, s.kept, record { is = refl; tells = s.tells; chain = s.chain; legal = λ o epoch e. chain_begins epoch.before epoch.recovery v.chain.seen k.whole.answers f.chain.seen (are_drawn pass v x views k at o epoch e).legal; bare = λ o e. prefix_of_none v.chain.seen k.whole.answers f.chain.seen (no_answers pass v x views k at o e) })

-- the pass with the right changes
pub adds : (rec : Record) (pass : ℕ) (v : View) (y : Fetched) → v.replaces ≡ true → v.low < v.high → y.position ≡ length v.seen + 1 → changes (last_record v.start v.seen) rec ≡ true → y.rec ≡ after_report (last_record v.start v.seen) rec → IsRecord rec → (IsSome v.epoch → Contains (versions v.chain.seen) rec.version) → Turns Kept pass v (λ _. y) (Adds rec)
adds rec pass v y replaces some_number position up becomes allowed issued x views k at =
    let f = k.each pass v at in
    let right = f.right replaces in
    let numbers = f.numbers in
    let here = f.held v.low (omega arith) some_number in
    let opened = f.opened (omega arith) in
    let same = opened.0 in
    let new : Change = record { reporter = v.low; rec = rec } in
    let log : List Change = v.seen ++ new ∷ [] in
    let whole : Whole = record k.whole { log = log } in
    let longer : IsPrefix k.whole.log log = subst (λ l. IsPrefix l log) right.2 (new ∷ [], refl) in
    let legal = subst (λ (l : List Change). IsLog k.whole.start k.whole.reporters l) (sym right.2) k.legal in
    let all_change' : all_change k.whole.start log ≡ true = all_change-push k.whole.start v.seen new legal.all_change (subst (λ (start : Record). changes (last_record start v.seen) rec ≡ true) same up) in
    let numbered : All (λ r. r.reporter < k.whole.reporters) log = All-append (λ r. r.reporter < k.whole.reporters) v.seen (new ∷ []) legal.numbered (All-cons (λ r. r.reporter < k.whole.reporters) new [] (let c = right.1 in omega arith) (All-nil _)) in
    let drawn : (epoch : Epoch) → k.whole.epoch ≡ Some epoch → IsDrawnFrom epoch k.whole.answers log = λ epoch e. record {
      legal = (k.drawn epoch e).legal;
      drawn = drawn_push k.whole.answers v.seen new (subst (AreDrawn k.whole.answers) (sym right.2) (k.drawn epoch e).drawn) (version_stays v.chain.seen k.whole.answers rec.version f.chain.seen (issued (subst IsSome (sym (opened.2 ∙ e)) refl)));
    } in
    let others : (j : ℕ) (u : View) → j ≢ pass → get_elem? views j ≡ some u → Fits whole j u =
    λ j u apart e. (let g = k.each j u e in record {
      opened = g.opened;
      right = λ r. absurd (apart ((g.right r).0 ∙ sym right.0));
      seen = prefix_trans u.seen k.whole.log log g.seen longer;
      mine = g.mine;
      theirs = g.theirs;
      own = λ n low high. g.own n low high ∙ (ap (changed_by n 1) (sym right.2) ∙ sym (changed_by-push_other n 1 v.seen new (λ is. apart (g.held n low high ∙ (ap k.whole.holder (sym is) ∙ sym here)))));
      numbers = g.numbers;
      held = g.held;
      chain = g.chain;
    }) in
    let mine : Fits whole pass (having_seen v log v.chain.seen) = record {
      opened = f.opened;
      right = λ e. (right.0, right.1, refl);
      seen = prefix_same log;
      mine = prefix_same log;
      theirs = prefix_nil log;
      own = λ n low high. refl;
      numbers = f.numbers;
      held = f.held;
      chain = chain_sees k.whole.answers k.whole.drawer pass v.low v.high v.chain f.chain v.chain.seen (prefix_same v.chain.seen) f.chain.seen (λ e. (f.chain.right e).1);
    } in (
      having_seen v log v.chain.seen,
      record {
        whole = whole;
        register = λ o. record { position = position ∙ (sym (length-append v.seen (new ∷ []))); rec = becomes ∙ (ap (λ (start : Record). after_report (last_record start v.seen) rec) same ∙ sym (last_record-push k.whole.start v.seen new)) };
        legal = record { all_change = all_change'; numbered = numbered; taken = All-append (λ r. IsRecord r.rec) v.seen (new ∷ []) legal.taken (All-cons (λ r. IsRecord r.rec) new [] allowed (All-nil _)); start_taken = legal.start_taken };
        drawn = drawn;
        bare = k.bare;
        each = fits_set whole views pass (having_seen v log v.chain.seen) others mine;
      },
      refl,
    )

-- the same of a report that a name stands for
pub adds_named : {rec named : Record} (pass : ℕ) (v : View) (y : Fetched) → rec ≡ named → v.replaces ≡ true → v.low < v.high → y.position ≡ length v.seen + 1 → changes (last_record v.start v.seen) rec ≡ true → y.rec ≡ after_report (last_record v.start v.seen) rec → IsRecord rec → (IsSome v.epoch → Contains (versions v.chain.seen) rec.version) → Turns Kept pass v (λ _. y) (Adds named)
adds_named {rec} pass v y is replaces some_number position up becomes allowed issued =
    subst (λ (z : Record). Turns Kept pass v (λ _. y) (Adds z)) is (adds rec pass v y replaces some_number position up becomes allowed issued)

with_some : {answers : List Issued} {log : List Change} (epoch : Option Epoch) → ((e : Epoch) → epoch ≡ Some e → IsDrawnFrom e answers log) → IsSome epoch → AreDrawn answers log
with_some None all has = absurd (true≢false (sym has))
with_some (Some e) all has = (all e refl).drawn

-- the pass with the right to draw draws
pub draws : (answer : Issued) (pass : ℕ) (v : View) → v.chain.draws ≡ true → v.low ≡ answer.proxy → v.low < v.high → IsSome v.epoch → ((epoch : Epoch) → v.epoch ≡ Some epoch → IsChain epoch.before epoch.recovery (v.chain.seen ++ answer ∷ [])) → Turns Kept pass v (λ x. x) (Draws answer)
draws answer pass v may low some_number some_epoch legal x views k at =
    let f = k.each pass v at in
    let right = f.chain.right may in
    let here = f.held v.low (omega arith) some_number in
    let numbers = f.numbers in
    let opened = f.opened (omega arith) in
    let answers : List Issued = k.whole.answers ++ answer ∷ [] in
    let whole : Whole = record k.whole { answers = answers } in
    let list : List Issued = v.chain.seen ++ answer ∷ [] in
    let t = tells_list pass v x views k at v.seen (prefix_same v.seen) f.seen in
    let others : (j : ℕ) (u : View) → j ≢ pass → get_elem? views j ≡ some u → Fits whole j u =
    λ j u apart e. (let g = k.each j u e in record {
      opened = g.opened;
      right = g.right;
      seen = g.seen;
      mine = g.mine;
      theirs = g.theirs;
      own = g.own;
      numbers = g.numbers;
      held = g.held;
      chain = chain_grown k.whole.answers k.whole.drawer j u.low u.high u.chain g.chain answer (λ is. apart (is ∙ sym right.0)) (λ n lo hi is. apart (g.held n lo hi ∙ (ap k.whole.holder (sym is ∙ sym low) ∙ sym here)));
    }) in
    let mine : Fits whole pass (having_seen v v.seen list) = record {
      opened = f.opened;
      right = f.right;
      seen = f.seen;
      mine = prefix_same v.seen;
      theirs = prefix_nil v.seen;
      own = λ n lo hi. sym (t.own n lo hi) ∙ f.own n lo hi;
      numbers = f.numbers;
      held = f.held;
      chain = chain_drew k.whole.answers k.whole.drawer pass v.low v.high v.chain f.chain answer may;
    } in (
      having_seen v v.seen list,
      record {
        whole = whole;
        register = k.register;
        legal = k.legal;
        drawn = λ epoch e. record {
          legal = subst (λ (l : List Issued). IsChain epoch.before epoch.recovery (l ++ answer ∷ [])) right.1 (legal epoch (opened.2 ∙ e));
          drawn = drawn_more k.whole.answers answers k.whole.log (answer ∷ [], refl) (k.drawn epoch e).drawn;
        };
        bare = λ e. absurd (true≢false (sym some_epoch ∙ ap (λ (o : Option Epoch). is_some o) (opened.2 ∙ e)));
        each = fits_set whole views pass (having_seen v v.seen list) others mine;
      },
      record {
        is = refl;
        tells = t;
        chain = tells_answers pass v x views k at v.chain.seen (prefix_same v.chain.seen) f.chain.seen;
        drawn = λ o has. drawn_fewer v.chain.seen v.seen k.whole.log f.seen (subst (λ (l : List Issued). AreDrawn l k.whole.log) (sym right.1) (with_some v.epoch (are_drawn pass v x views k at o) has));
      },
    )

-- the same of an answer that a name stands for
pub draws_named : {answer named : Issued} (pass : ℕ) (v : View) → answer ≡ named → v.chain.draws ≡ true → v.low ≡ answer.proxy → v.low < v.high → IsSome v.epoch → ((epoch : Epoch) → v.epoch ≡ Some epoch → IsChain epoch.before epoch.recovery (v.chain.seen ++ answer ∷ [])) → Turns Kept pass v (λ x. x) (Draws named)
draws_named {answer} pass v is may low some_number some_epoch legal =
    subst (λ (z : Issued). Turns Kept pass v (λ x. x) (Draws z)) is (draws answer pass v may low some_number some_epoch legal)
