-- What a report makes of the right to replace and of its token.
use Rattle.std.proofs.Common.{◌≡◌, ℕ, ◌+◌, ◌*◌, ◌<◌, ◌≤◌, Bool, true, false, true≢false, List, [], ◌∷◌, ◌++◌, length, Option, None, Some, refl, sym, ap, ◌∙◌, subst, arith, length-append}
use Rattle.std.specs.Prelude.{All, Contains, IsSome, MatchBool}
use Rattle.std.proofs.lemmas.Option.{same_Some}
use Rattle.std.proofs.lemmas.List.Elements.{All-append, All-cons, All-contains, All-map, All-nil}
use mathlib.Core.List.{IsPrefix}
use Rattle.fdb_history.specs.Chain.{GoesOn, IsChain}
use Rattle.fdb_history.specs.declared.chain.Issued.{Issued}
use Rattle.fdb_history.specs.declared.register.Record.{Record}
use Rattle.fdb_history.specs.declared.register.TheConstants.{MAX_VERSION}
use Rattle.fdb_history.specs.Register.{after_report, changes, raises}
use Rattle.fdb_live.specs.declared.held.Fetched.{Fetched}
use Rattle.fdb_live.specs.declared.view.Change.{Change}
use Rattle.fdb_live.specs.declared.view.Epoch.{Epoch}
use Rattle.fdb_live.specs.declared.view.View.{View}
use Rattle.fdb_live.specs.Holding.{answers_among, answers_to, versions}
use Rattle.fdb_live.specs.Seen.{Sight, last_record, IsLog, IsRecord, changed_by, IsChangedBy}
use Rattle.fdb_live.specs.private.Rule.{taken, lowest_of, without_lowest, Looks}
use Rattle.fdb_live.specs.private.Token.{IsHolder, IsMember, IsReported, IsRight}
use Rattle.fdb_live.proofs.Logs.{last_record-push, all_change-push, position_below, taken_last, above_start, above_all, changed_by-push_own}
use Rattle.fdb_live.proofs.Prefixes.{prefix_trans}
use Rattle.fdb_live.proofs.Tokens.{chain_or_none}
use Rattle.fdb_live.proofs.Register.{raises_higher, raised_stands, not_raised_stands}

-- there is room for one more position
pub room : (v u : View) (x : Fetched) → Looks v x x u → 0 < v.reporters → x.position ≤ 2 * MAX_VERSION
room v u x l some =
    let legal = l.legal some in
    let r = l.register some in
    let below = position_below legal in
    let in_range = (taken_last legal).in_range in
    let at = r.position in
    omega arith

-- what the right and the token are after a report
pub record HasReported (start : Record) (reporters : ℕ) (number : Option ℕ) (was : View) (old : Sight) (rec : Record) (raised changed : Bool) (position : ℕ) (right token : View) : Type 0 where
  pub holder : IsHolder start reporters number token
  pub epoch : token.epoch ≡ was.epoch
  pub settled : token.chain.mine ≡ token.chain.seen
  pub answers : IsPrefix was.chain.seen token.chain.seen
  pub own : (n : ℕ) → number ≡ Some n → answers_to n token.chain.seen ≡ answers_to n was.chain.mine
  pub legal : (epoch : Epoch) → was.epoch ≡ Some epoch → IsChain epoch.before epoch.recovery token.chain.seen
  pub no_chain : was.epoch ≡ None → token.chain.seen ≡ []
  pub position_is : position ≡ length token.seen
  pub extends : IsPrefix old.changes token.seen
  pub changed_is : changed ≡ true → IsChangedBy start rec raised old (record { reporter = number; changes = token.seen; answers = token.chain.seen })

module _ (start : Record) (n : ℕ) where
  abbrev sight : List Issued → List Change → Sight
  sight answers list = record { reporter = Some n; changes = list; answers = answers }

  changed_so : (xs ys : List Issued) (old found new : List Change) (rec : Record) (raised : Bool) → IsPrefix old found → changed_by n 1 found ≡ changed_by n 1 old → raised ≡ raises (last_record start found) rec → changes (last_record start found) rec ≡ true → new ≡ found ++ record { reporter = n; rec = rec } ∷ [] → IsChangedBy start rec raised (sight xs old) (sight ys new)
  changed_so xs ys old found new rec raised seen own tests up is =
      let it : Change = record { reporter = n; rec = rec } in
      let last : Record = last_record start found in
      let long : length new ≡ 1 + length found = omega (arith, ap length is, length-append found (it ∷ [])) in
      let becomes : last_record start new ≡ after_report last rec = ap (last_record start) is ∙ last_record-push start found it in
      let min : (after_report last rec).min_known ≡ (last_record start new).min_known = ap (λ (r : Record). r.min_known) (sym becomes) in
      let higher : raised ≡ true → last.version < rec.version = λ e. raises_higher last rec (sym tests ∙ e) in record {
        number = n;
        before = found;
        reporter = refl;
        seen = seen;
        last = is;
        changes = up;
        raised_is = tests;
        becomes = becomes;
        stands = λ e. becomes ∙ (raised_stands last rec (sym tests ∙ e) ∙ ap (λ (k : ℕ). record rec { min_known = k }) min);
        stays = λ e. becomes ∙ not_raised_stands last rec up (sym tests ∙ e);
        above_start = λ e. (let above = higher e in let least = above_start start found in omega arith);
        above_all = λ e. above_all start found rec.version (higher e);
        own = ap (changed_by n 1) is ∙ (changed_by-push_own n 1 found it refl ∙ (ap (λ l. l ++ (1 + length found) ∷ []) own ∙ ap (λ (k : ℕ). changed_by n 1 old ++ k ∷ []) (sym long)));
      }

  -- what was seen after a report is a log
  log_after : (reporters : ℕ) (found new : List Change) (rec : Record) (changed : Bool) → n < reporters → IsRecord rec → IsLog start reporters found → changed ≡ changes (last_record start found) rec → MatchBool changed (new ≡ found ++ record { reporter = n; rec = rec } ∷ []) (new ≡ found) → IsLog start reporters new
  log_after reporters found new rec true below allowed legal up is =
      let it : Change = record { reporter = n; rec = rec } in
      subst (IsLog start reporters) (sym is) (record {
        all_change = all_change-push start found it legal.all_change (sym up);
        numbered = All-append (λ r. r.reporter < reporters) found (it ∷ []) legal.numbered (All-cons (λ r. r.reporter < reporters) it [] below (All-nil _));
        taken = All-append (λ r. IsRecord r.rec) found (it ∷ []) legal.taken (All-cons (λ r. IsRecord r.rec) it [] allowed (All-nil _));
        start_taken = legal.start_taken;
      })
  log_after reporters found new rec false below allowed legal up is = subst (IsLog start reporters) (sym is) legal

  so : (xs ys : List Issued) (old found new : List Change) (rec : Record) (raised changed : Bool) → IsPrefix old found → changed_by n 1 found ≡ changed_by n 1 old → raised ≡ raises (last_record start found) rec → changed ≡ changes (last_record start found) rec → MatchBool changed (new ≡ found ++ record { reporter = n; rec = rec } ∷ []) (new ≡ found)
      → IsPrefix old new × (changed ≡ true → IsChangedBy start rec raised (sight xs old) (sight ys new))
  so xs ys old found new rec raised true seen own tests up is =
      let it : Change = record { reporter = n; rec = rec } in
      let longer : IsPrefix found new = (it ∷ [], sym is) in
      (prefix_trans old found new seen longer, λ _. changed_so xs ys old found new rec raised seen own tests (sym up) is)
  so xs ys old found new rec raised false seen own tests up is =
      (subst (IsPrefix old) (sym is) seen, λ e. absurd (true≢false (sym e)))

reported_as : (start : Record) (reporters n : ℕ) (rv v u right token : View) (rec : Record) (raised changed : Bool) (position : ℕ) → IsRecord rec → IsRight start reporters rv → IsHolder start reporters (Some n) v → IsReported (taken rv v) rec raised changed position u → right ≡ without_lowest u → token ≡ lowest_of u → HasReported start reporters (Some n) v (record { reporter = Some n; changes = v.seen; answers = v.chain.seen }) rec raised changed position right token
reported_as start reporters n rv v u right token rec raised changed position allowed r h d e f =
    let low : v.low ≡ n = h.numbers.0 in
    let seen : token.seen ≡ u.seen = ap (λ w. w.seen) f in
    let log : IsLog start reporters d.found = subst (λ (p : Record × ℕ). IsLog p.0 p.1 d.found) (λ i. (r.start_is i, r.reporters_is i)) d.legal in
    let tests : raised ≡ raises (last_record start d.found) rec = subst (λ (s : Record). raised ≡ raises (last_record s d.found) rec) r.start_is d.raised_is in
    let up : changed ≡ changes (last_record start d.found) rec = subst (λ (s : Record). changed ≡ changes (last_record s d.found) rec) r.start_is d.changed_is in
    let is : MatchBool changed (token.seen ≡ d.found ++ record { reporter = n; rec = rec } ∷ []) (token.seen ≡ d.found) =
    subst (λ (p : List Change × ℕ). MatchBool changed (p.0 ≡ d.found ++ record { reporter = p.1; rec = rec } ∷ []) (p.0 ≡ d.found)) (λ i. (sym seen i, low i)) d.seen in
    let own : changed_by n 1 d.found ≡ changed_by n 1 v.seen = sym (d.tells.own n (omega arith) (let high = h.numbers.1 in omega arith)) ∙ ap (changed_by n 1) h.settled in
    let all = so start n v.chain.seen token.chain.seen v.seen d.found token.seen rec raised changed d.tells.theirs own tests up is in
    let below : n < reporters = (let high = h.numbers.1 in let count = r.reporters_is in let some = d.numbers in omega arith) in
    record {
      holder = record {
        start_is = ap (λ w. w.start) f ∙ (ap (λ w. w.start) d.is ∙ r.start_is);
        reporters_is = ap (λ w. w.reporters) f ∙ (ap (λ w. w.reporters) d.is ∙ r.reporters_is);
        opened = h.opened;
        settled = ap (λ w. w.mine) f ∙ (ap (λ w. w.mine) d.is ∙ sym seen);
        numbers = (ap (λ w. w.low) f ∙ (ap (λ w. w.low) d.is ∙ low), ap (λ w. w.high) f ∙ ap (λ (k : ℕ). k + 1) (ap (λ w. w.low) d.is ∙ low));
        legal = log_after start n reporters d.found token.seen rec changed below allowed log up is;
      };
      epoch = ap (λ w. w.epoch) f ∙ ap (λ w. w.epoch) d.is;
      settled = ap (λ w. w.chain.mine) f ∙ (ap (λ w. w.chain.mine) d.is ∙ sym (ap (λ w. w.chain.seen) f));
      answers = subst (IsPrefix v.chain.seen) (sym (ap (λ w. w.chain.seen) f)) d.chain.seen;
      own = λ m same. (let its : n ≡ m = same_Some n m same in ap (λ w. answers_to m w.chain.seen) f ∙ sym (d.chain.own m (omega arith) (let high = h.numbers.1 in omega arith)));
      legal = λ epoch its. subst (IsChain epoch.before epoch.recovery) (sym (ap (λ w. w.chain.seen) f)) (d.legal_chain epoch its);
      no_chain = λ its. ap (λ w. w.chain.seen) f ∙ d.no_chain its;
      position_is = d.position_is ∙ ap length (sym seen);
      extends = all.0;
      changed_is = all.1;
    }

reported : (start : Record) (reporters : ℕ) (number : Option ℕ) (rv v u right token : View) (rec : Record) (raised changed : Bool) (position : ℕ) → IsSome number → IsRecord rec → IsRight start reporters rv → IsHolder start reporters number v → IsReported (taken rv v) rec raised changed position u → right ≡ without_lowest u → token ≡ lowest_of u → HasReported start reporters number v (record { reporter = number; changes = v.seen; answers = v.chain.seen }) rec raised changed position right token
reported start reporters None rv v u right token rec raised changed position some allowed r h d e f = absurd (true≢false (sym some))
reported start reporters (Some n) rv v u right token rec raised changed position some allowed r h d e f = reported_as start reporters n rv v u right token rec raised changed position allowed r h d e f

pub has_reported : {start : Record} {reporters : ℕ} {number : Option ℕ} {old : Sight} {rv v given t u right token : View} {rec : Record} {raised changed : Bool} {position : ℕ} → record { reporter = number; changes = v.seen; answers = v.chain.seen } ≡ old → IsSome old.reporter → IsRecord rec → IsRight start reporters rv → IsHolder start reporters number v → given ≡ v → t ≡ taken rv given → IsReported t rec raised changed position u → right ≡ without_lowest u → token ≡ lowest_of u → HasReported start reporters number v old rec raised changed position right token
has_reported {start} {reporters} {number} {old} {rv} {v} {given} {t} {u} {right} {token} {rec} {raised} {changed} {position} is some allowed r h gives takes d e f =
    let done = subst (λ (w : View). IsReported w rec raised changed position u) (takes ∙ ap (taken rv) gives) d in
    let numbered : IsSome number = subst (λ (s : Sight). IsSome s.reporter) (sym is) some in
    subst (λ (s : Sight). HasReported start reporters number v s rec raised changed position right token) is (reported start reporters number rv v u right token rec raised changed position numbered allowed r h done e f)

-- what a report makes of what a token knows of the chain
pub member_reported : {start : Record} {chained : Bool} {epoch_end recovery reporters : ℕ} {number : Option ℕ} {v right token : View} {old : Sight} {rec : Record} {raised changed : Bool} {position : ℕ} → IsMember chained epoch_end recovery reporters number v → HasReported start reporters number v old rec raised changed position right token → IsMember chained epoch_end recovery reporters number token
member_reported {chained = chained} {epoch_end = epoch_end} {recovery = recovery} {v = v} {token = token} m all =
    let chain = chain_or_none chained epoch_end recovery v.epoch token.chain.seen m.epoch all.legal all.no_chain in
    record {
      epoch = all.epoch ∙ m.epoch;
      settled = all.settled;
      legal = chain.0;
      none = chain.1;
      below = m.below;
    }

-- each version of a chain is a version
goes_on_in_range : (epoch_end recovery : ℕ) (before later : List Issued) → GoesOn epoch_end recovery before later → All (λ answer. answer.version ≤ MAX_VERSION) later
goes_on_in_range epoch_end recovery before [] on = All-nil _
goes_on_in_range epoch_end recovery before (next ∷ later) on = All-cons (λ (answer : Issued). answer.version ≤ MAX_VERSION) next later on.0.in_range (goes_on_in_range epoch_end recovery (before ++ next ∷ []) later on.1)

pub version_in_range : (epoch_end recovery : ℕ) (answers : List Issued) (version : ℕ) → IsChain epoch_end recovery answers → Contains (versions answers) version → version ≤ MAX_VERSION
version_in_range epoch_end recovery answers version chain has =
    All-contains (λ (v : ℕ). v ≤ MAX_VERSION) (versions answers) version (All-map (λ (v : ℕ). v ≤ MAX_VERSION) (λ (answer : Issued). answer.version) answers (goes_on_in_range epoch_end recovery [] answers chain)) has

pub own_reported : {start : Record} {chained : Bool} {epoch_end recovery reporters : ℕ} {v right token : View} {old : Sight} {rec : Record} {raised changed : Bool} {position : ℕ} (number : Option ℕ) → IsMember chained epoch_end recovery reporters number v → HasReported start reporters number v old rec raised changed position right token → answers_among number token.chain.seen ≡ answers_among number v.chain.seen
own_reported None m all = refl
own_reported (Some n) m all = all.own n refl ∙ ap (answers_to n) m.settled
