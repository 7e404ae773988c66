-- What follows for the holder of a token that was asked with.
use Rattle.std.proofs.Common.{◌≡◌, ◌≢◌, ℕ, zero, suc, ◌+◌, ◌<◌, ◌≤◌, Bool, true, false, List, [], ◌∷◌, ◌++◌, slice_get, take, cond, inl, inr, Option, None, Some, Result, Ok, Err, refl, sym, ap, ◌∙◌, subst, arith, append_assoc}
use Rattle.std.specs.Prelude.{Contains, IfOk, nat_lt, nat_le, not}
use Rattle.std.proofs.lemmas.Bool.{cond-false}
use Rattle.std.proofs.lemmas.Bool.Decides.{nat_tests}
use Rattle.std.proofs.lemmas.List.{append-nil}
use Rattle.std.proofs.lemmas.List.Elements.{Contains-append_right}
use Rattle.std.proofs.lemmas.Option.{same_Some}
use mathlib.Core.List.{IsPrefix}
use Rattle.fdb_history.specs.Chain.{GoesOn, IsChain, IsNext, latest}
use Rattle.fdb_history.specs.Issuing.{Chain, answer_to, by_number, fresh_answer, kept, kept_answer, next_answer, with_answer}
use Rattle.fdb_history.specs.declared.chain.Ask.{Ask}
use Rattle.fdb_history.specs.declared.chain.Issued.{Issued}
use Rattle.fdb_history.specs.declared.log.Refusal.{Refusal}
use Rattle.fdb_history.specs.declared.log.Refusal.TheVariants.{Early, Exhausted, UnknownProxy}
use Rattle.fdb_history.specs.declared.register.Record.{Record}
use Rattle.fdb_history.specs.declared.register.TheConstants.{MAX_VERSION}
use Rattle.fdb_chain.specs.declared.error.ChainError.{ChainError}
use Rattle.fdb_chain.specs.declared.error.ChainError.TheVariants as chain_error
use Rattle.fdb_chain.specs.ChainCore.{IsAnswer, IsFor}
use Rattle.fdb_live.specs.Holding.{DrewNone, IsAboveRead, IsAsked, IsFreshUnlessOut, IsIssued, answers_among, answers_to, least_above, own_answers, versions}
use Rattle.fdb_live.specs.Seen.{Sight, last_record}
use Rattle.fdb_live.proofs.Drawn.{IsDrawn, answers_to-push_own}
use Rattle.fdb_live.proofs.Prefixes.{prefix_trans}

-- the last answer of a chain is the next one after those before it
goes_on_last : (epoch_end recovery : ℕ) (before xs : List Issued) (x : Issued) → GoesOn epoch_end recovery before (xs ++ x ∷ []) → IsNext epoch_end recovery (before ++ xs) x
goes_on_last epoch_end recovery before [] x g = subst (λ (l : List Issued). IsNext epoch_end recovery l x) (sym (append-nil before)) g.0
goes_on_last epoch_end recovery before (y ∷ ys) x g =
    subst (λ (l : List Issued). IsNext epoch_end recovery l x) (append_assoc before (y ∷ []) ys) (goes_on_last epoch_end recovery (before ++ y ∷ []) ys x g.1)

module _ (begun : Chain) (ask : Ask) (old new : Sight) where
  abbrev at : List Issued → Chain
  at answers = record begun { answers = answers }

  after : (issued : Issued) (before : List Issued) (b : Bool) → issued.fresh ≡ b → at new.answers ≡ with_answer (at before) issued → new.answers ≡ cond b (before ++ issued ∷ []) before
  after issued before b e ok = ap (λ (c : Chain). c.answers) (ok ∙ ap (λ x. cond x (at (before ++ issued ∷ [])) (at before)) e) ∙ both b
    where
      both : (b : Bool) → (cond b (at (before ++ issued ∷ [])) (at before)).answers ≡ cond b (before ++ issued ∷ []) before
      both true = refl
      both false = refl

  pub extends : (result : Result Issued ChainError) → IsAsked begun ask old result new → IsPrefix old.answers new.answers
  extends (Ok issued) a = go issued.fresh refl
    where
      go : (b : Bool) → issued.fresh ≡ b → IsPrefix old.answers new.answers
      go true e = prefix_trans old.answers a.before new.answers a.seen (issued ∷ [], sym (after issued a.before true e a.ok))
      go false e = subst (IsPrefix old.answers) (sym (after issued a.before false e a.ok)) a.seen
  extends (Err cause) a = subst (IsPrefix old.answers) (sym a.err) a.seen

  pub drawn_if : (result : Result Issued ChainError) → IsAsked begun ask old result new → old.reporter ≡ Some ask.proxy → new.reporter ≡ old.reporter → IfOk result (IsFor ask) → IsChain begun.epoch_end begun.recovery new.answers
      → IfOk result (λ issued. issued.fresh ≡ true → IsDrawn begun.epoch_end begun.recovery issued old new)
  drawn_if (Ok issued) a whose same for chain = λ fresh. (
      let last = after issued a.before true fresh a.ok in
      record {
        before = a.before;
        seen = a.seen;
        next = goes_on_last begun.epoch_end begun.recovery [] a.before issued (subst (IsChain begun.epoch_end begun.recovery) last chain);
        last = last;
        own = ap (λ p. answers_among p new.answers) (same ∙ whose) ∙ (ap (answers_to ask.proxy) last ∙ (answers_to-push_own ask.proxy a.before issued for.proxy ∙ (ap (λ l. l ++ issued ∷ []) a.own ∙ ap (λ p. answers_among p old.answers ++ issued ∷ []) (sym whose))));
        read = a.read fresh;
      }
      )
  drawn_if (Err cause) a whose same for chain = tt

  -- what is not drawn leaves the own answers as they are
  own_stays : (before : List Issued) → old.reporter ≡ Some ask.proxy → new.reporter ≡ old.reporter → answers_to ask.proxy before ≡ answers_to ask.proxy old.answers → new.answers ≡ before → own_answers new ≡ own_answers old
  own_stays before whose same own is =
      ap (λ p. answers_among p new.answers) (same ∙ whose) ∙ (ap (answers_to ask.proxy) is ∙ (own ∙ ap (λ p. answers_among p old.answers) (sym whose)))

  pub none_drawn : (result : Result Issued ChainError) → IsAsked begun ask old result new → old.reporter ≡ Some ask.proxy → new.reporter ≡ old.reporter
      → DrewNone result → own_answers new ≡ own_answers old
  none_drawn (Ok issued) a whose same e = own_stays a.before whose same a.own (after issued a.before false e a.ok)
  none_drawn (Err cause) a whose same e = own_stays a.before whose same a.own a.err

-- what a proxy's number stands to is decided by its own answers
abbrev pub LatestOwn : Type 0
LatestOwn = (proxy : ℕ) (answers : List Issued) → latest proxy (answers_to proxy answers) ≡ latest proxy answers

abbrev pub KeptOwn : Type 0
KeptOwn = (proxy num : ℕ) (answers : List Issued) → kept proxy num (answers_to proxy answers) ≡ kept proxy num answers

latest_by_own : LatestOwn → (n : ℕ) (xs ys : List Issued) → answers_to n xs ≡ answers_to n ys → latest n xs ≡ latest n ys
latest_by_own law n xs ys e = sym (law n xs) ∙ (ap (latest n) e ∙ law n ys)

kept_by_own : KeptOwn → (n num : ℕ) (xs ys : List Issued) → answers_to n xs ≡ answers_to n ys → kept n num xs ≡ kept n num ys
kept_by_own law n num xs ys e = sym (law n num xs) ∙ (ap (kept n num) e ∙ law n num ys)

module _ (latest_own : LatestOwn) (kept_own : KeptOwn) (begun : Chain) (ask : Ask) (old new : Sight) where
  -- unless its number is the next one, the proxy's own answers decide
  by_own : (known : Bool) (num : ℕ) (xs ys : List Issued) (x y : Result Issued Refusal) → answers_to ask.proxy xs ≡ answers_to ask.proxy ys → num ≢ latest ask.proxy ys + 1
      → cond known (Err UnknownProxy) (by_number (latest ask.proxy xs) num (Err (Early (latest ask.proxy xs + 1))) (kept_answer (kept ask.proxy num xs)) x)
      ≡ cond known (Err UnknownProxy) (by_number (latest ask.proxy ys) num (Err (Early (latest ask.proxy ys + 1))) (kept_answer (kept ask.proxy num ys)) y)
  by_own known num xs ys x y e other =
      rw (latest_by_own latest_own ask.proxy xs ys e, kept_by_own kept_own ask.proxy num xs ys e) (ap (cond known (Err UnknownProxy)) (go (nat_lt (latest ask.proxy ys + 1) num) (nat_le num (latest ask.proxy ys)) refl refl))
    where
      go : (a b : Bool) → nat_lt (latest ask.proxy ys + 1) num ≡ a → nat_le num (latest ask.proxy ys) ≡ b
          → cond a (Err (Early (latest ask.proxy ys + 1))) (cond b (kept_answer (kept ask.proxy num ys)) x) ≡ cond a (Err (Early (latest ask.proxy ys + 1))) (cond b (kept_answer (kept ask.proxy num ys)) y)
      go true b h k = refl
      go false true h k = refl
      go false false h k = absurd (other (grind (arith, nat_tests)))

  pub decided : (result : Result Issued ChainError) → IsAsked begun ask old result new → ask.num ≢ latest ask.proxy old.answers + 1 → IsAnswer (answer_to (record begun { answers = old.answers }) ask) result
  decided result a other =
      subst (λ answer. IsAnswer answer result) (by_own (not (nat_lt ask.proxy begun.proxies)) ask.num a.before old.answers (fresh_answer (record begun { answers = a.before }) ask) (fresh_answer (record begun { answers = old.answers }) ask) a.own other) a.answer

-- what the definition answers is one of these
pub record IsKept (chain : Chain) (ask : Ask) (issued : Issued) : Type 0 where
  pub found : Issued
  pub is : kept ask.proxy ask.num chain.answers ≡ Some found
  pub again : issued ≡ record found { fresh = false }

module _ (chain : Chain) (ask : Ask) (known : ask.proxy < chain.proxies) where
  whole : answer_to chain ask ≡ by_number (latest ask.proxy chain.answers) ask.num (Err (Early (latest ask.proxy chain.answers + 1))) (kept_answer (kept ask.proxy ask.num chain.answers)) (fresh_answer chain ask)
  whole = go (nat_lt ask.proxy chain.proxies) refl
    where
      go : (b : Bool) → nat_lt ask.proxy chain.proxies ≡ b → cond (not b) (Err UnknownProxy) (by_number (latest ask.proxy chain.answers) ask.num (Err (Early (latest ask.proxy chain.answers + 1))) (kept_answer (kept ask.proxy ask.num chain.answers)) (fresh_answer chain ask)) ≡ by_number (latest ask.proxy chain.answers) ask.num (Err (Early (latest ask.proxy chain.answers + 1))) (kept_answer (kept ask.proxy ask.num chain.answers)) (fresh_answer chain ask)
      go true e = refl
      go false e = absurd (grind (arith, nat_tests))

  is_kept : (a b c : Bool) (o : Option Issued) (n : ℕ) (x issued : Issued) → x.fresh ≡ true → issued.fresh ≡ false → cond a (Err (Early n)) (cond b (kept_answer o) (cond c (Ok x) (Err Exhausted))) ≡ Ok issued → (found : Issued) × (o ≡ Some found) × (issued ≡ record found { fresh = false })
  is_kept true b c o n x issued new old e = absurd (cc e)
  is_kept false true c None n x issued new old e = absurd (cc e)
  is_kept false true c (Some found) n x issued new old e = (found, refl, cc e)
  is_kept false false true o n x issued new old e = absurd (cc (e, new, old))
  is_kept false false false o n x issued new old e = absurd (cc e)

  pub kept_again : (issued : Issued) → issued.fresh ≡ false → answer_to chain ask ≡ Ok issued → IsKept chain ask issued
  kept_again issued old e =
      let k = is_kept (nat_lt (latest ask.proxy chain.answers + 1) ask.num) (nat_le ask.num (latest ask.proxy chain.answers)) (nat_le (next_answer chain ask).version MAX_VERSION) (kept ask.proxy ask.num chain.answers) (latest ask.proxy chain.answers + 1) (next_answer chain ask) issued refl old (sym whole ∙ e) in
      record { found = k.0; is = k.1; again = k.2 }

-- the answer under the next number is a fresh one, if there is a next version
by_next : {A : Type 0} (n num : ℕ) (ahead again next : A) → num ≡ n + 1 → by_number n num ahead again next ≡ next
by_next n num ahead again next e =
    cond-false (nat_lt (n + 1) num) ahead (cond (nat_le num n) again next) (grind (arith, nat_tests)) ∙ cond-false (nat_le num n) again next (grind (arith, nat_tests))

is_next : (fits : Bool) (next : Issued) (result : Result Issued ChainError) → next.fresh ≡ true → IsAnswer (cond fits (Ok next) (Err Exhausted)) result → IsFreshUnlessOut result
is_next true next (Ok issued) fresh is = cc (is, fresh)
is_next false next (Ok issued) fresh is = absurd (cc is)
is_next fits next (Err chain_error.Exhausted) fresh is = inl refl
is_next fits next (Err chain_error.Memory) fresh is = inr refl
is_next fits next (Err chain_error.BadEpoch) fresh is = absurd is
is_next fits next (Err chain_error.NoProxy) fresh is = absurd is
is_next true next (Err chain_error.UnknownProxy) fresh is = absurd (cc is)
is_next false next (Err chain_error.UnknownProxy) fresh is = absurd (cc is)
is_next true next (Err chain_error.Forgotten) fresh is = absurd (cc is)
is_next false next (Err chain_error.Forgotten) fresh is = absurd (cc is)
is_next true next (Err (chain_error.Early expected)) fresh is = absurd (cc is)
is_next false next (Err (chain_error.Early expected)) fresh is = absurd (cc is)

module _ (latest_own : LatestOwn) (begun : Chain) (ask : Ask) (old new : Sight) (member : ask.proxy < begun.proxies) where
  fresh_next : (result : Result Issued ChainError) → (a : IsAsked begun ask old result new) → ask.num ≡ latest ask.proxy old.answers + 1 → IsAnswer (fresh_answer (record begun { answers = a.before }) ask) result
  fresh_next result a next =
      let same : latest ask.proxy a.before ≡ latest ask.proxy old.answers = latest_by_own latest_own ask.proxy a.before old.answers a.own in
      let is = whole (record begun { answers = a.before }) ask member ∙ by_next (latest ask.proxy a.before) ask.num _ _ _ (next ∙ ap (λ n. n + 1) (sym same)) in
      subst (λ answer. IsAnswer answer result) is a.answer

  pub next_fresh : (result : Result Issued ChainError) → IsAsked begun ask old result new → ask.num ≡ latest ask.proxy old.answers + 1 → IsFreshUnlessOut result
  next_fresh result a next =
      is_next (nat_le (next_answer (record begun { answers = a.before }) ask).version MAX_VERSION) (next_answer (record begun { answers = a.before }) ask) result refl (fresh_next result a next)

-- the kept answer of a chain stands at its ordinal, and each of its answers is the next one
abbrev pub KeptStands : Type 0
KeptStands = (epoch_end recovery : ℕ) (answers : List Issued) (proxy num : ℕ) (answer : Issued) → IsChain epoch_end recovery answers → kept proxy num answers ≡ Some answer → slice_get answers answer.ordinal ≡ Some answer

abbrev pub EachIsNext : Type 0
EachIsNext = (epoch_end recovery : ℕ) (answers : List Issued) (place : ℕ) (answer : Issued) → IsChain epoch_end recovery answers → slice_get answers place ≡ Some answer → IsNext epoch_end recovery (take place answers) answer

-- what is fresh is one with itself, told to be fresh
as_fresh : (issued : Issued) → issued.fresh ≡ true → issued ≡ record issued { fresh = true }
as_fresh issued fresh = ap (λ b. record issued { fresh = b }) fresh

module _ (stands : KeptStands) (next : EachIsNext) (begun : Chain) (ask : Ask) (old new : Sight) (member : ask.proxy < begun.proxies) (chain : IsChain begun.epoch_end begun.recovery new.answers) where
  -- an answer, fresh or repeated, stands at its ordinal
  pub stands_any : (result : Result Issued ChainError) → IsAsked begun ask old result new → IfOk result (λ issued. issued.fresh ≡ true → slice_get new.answers issued.ordinal ≡ Some issued)
      → IfOk result (λ issued. slice_get new.answers issued.ordinal ≡ Some (record issued { fresh = true }))
  stands_any (Ok issued) a drawn = go issued.fresh refl
    where
      go : (b : Bool) → issued.fresh ≡ b → slice_get new.answers issued.ordinal ≡ Some (record issued { fresh = true })
      go true e = drawn e ∙ ap Some (as_fresh issued e)
      go false e =
          let k = kept_again (record begun { answers = a.before }) ask member issued e a.answer in
          let now = after begun ask old new issued a.before false e a.ok in
          let one = subst (IsChain begun.epoch_end begun.recovery) now chain in
          let at = stands begun.epoch_end begun.recovery a.before ask.proxy ask.num k.found one k.is in
          let fresh = as_fresh k.found (next begun.epoch_end begun.recovery a.before k.found.ordinal k.found one at).fresh in
          ap (λ (p : List Issued × ℕ). slice_get p.0 p.1) (λ i. (now i, (ap (λ (x : Issued). x.ordinal) k.again) i))
          ∙ (at ∙ (ap Some fresh ∙ ap (λ (x : Issued). Some (record x { fresh = true })) (sym k.again)))
  stands_any (Err cause) a drawn = tt

version_at : (xs : List Issued) (place : ℕ) (x : Issued) → slice_get xs place ≡ Some x → Contains (versions xs) x.version
version_at [] place x e = absurd (cc e)
version_at (y ∷ ys) zero x e = (0, omega arith, ap (λ (answer : Issued). answer.version) (same_Some y x e))
version_at (y ∷ ys) (suc place) x e = Contains-append_right (y.version ∷ []) (versions ys) x.version (version_at ys place x e)

-- so its version is one of those that were seen
pub has_any : (result : Result Issued ChainError) (answers : List Issued) → IfOk result (λ issued. slice_get answers issued.ordinal ≡ Some (record issued { fresh = true })) → IfOk result (λ issued. Contains (versions answers) issued.version)
has_any (Ok issued) answers at = version_at answers issued.ordinal (record issued { fresh = true }) at
has_any (Err cause) answers at = tt

-- what is said of a fresh answer, and of any
pub issued_so : (start : Record) (ask : Ask) (old new : Sight) (result : Result Issued ChainError)
    → IfOk result (IsFor ask) → IfOk result (λ issued. issued.version ≤ MAX_VERSION)
    → IfOk result (λ issued. slice_get new.answers issued.ordinal ≡ Some (record issued { fresh = true }))
    → IfOk result (λ issued. Contains (versions new.answers) issued.version)
    → IfOk result (λ issued. issued.fresh ≡ true → (earlier : Issued) → Contains old.answers earlier → earlier.version < issued.version)
    → IfOk result (λ issued. issued.fresh ≡ true → least_above old.answers ≤ issued.version)
    → IfOk result (λ issued. issued.fresh ≡ true → IsAboveRead (last_record start old.changes).version issued)
    → IfOk result (λ issued. issued.fresh ≡ true → least_above new.answers ≡ issued.version + 1)
    → IfOk result (IsIssued start ask old new)
issued_so start ask old new (Ok issued) request in_range stands has above above_old above_read least =
    record { request = request; in_range = in_range; stands = stands; has = has; above = above; above_old = above_old; above_read = above_read; least = least }
issued_so start ask old new (Err cause) request in_range stands has above above_old above_read least = tt
