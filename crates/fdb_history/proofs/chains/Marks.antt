-- Which entries of the chain were drawn, by a mark for each.
use Rattle.std.proofs.Common.{◌≡◌, ◌⊎◌, ℕ, ◌+◌, ◌<◌, ◌≤◌, ◌==◌, ◌&&◌, ◌||◌, Bool, true, false, nat_lt, min, List, [], ◌∷◌, ◌++◌, length, take, get_or, Option, Some, None, refl, ap, sym, ◌∙◌, inl, inr, arith}
use Rattle.std.specs.List.{list_any}
use Rattle.std.proofs.lemmas.Grind.{common_steps}
use Rattle.std.proofs.lemmas.Bool.Decides.{nat_tests}
use Rattle.std.proofs.lemmas.Bool.{cases_lt, lt-ltb, le-ltb, false≢true}
use Rattle.std.proofs.Math.Seq.{take-append_seam}
use Rattle.fdb_history.specs.private.Auditing.{AreMarks, HasUnmarked, IsLeastIfAny}
use Rattle.fdb_history.specs.Faults.{IsLeast}
use Rattle.fdb_history.specs.Log.{answer_in, calls_of}
use Rattle.fdb_history.specs.Strays.{is_drawn, is_same}
use Rattle.fdb_history.specs.declared.chain.Issued.{Issued}
use Rattle.fdb_history.specs.declared.log.Call.{Call}
use Rattle.fdb_history.specs.declared.log.CallAnswer.{CallAnswer}
use Rattle.fdb_history.specs.declared.log.CallAnswer.TheVariants.{Version, Answered, Acked}
use Rattle.fdb_history.specs.declared.log.ClientLog.{ClientLog}
use Rattle.fdb_history.proofs.faults.FirstCalls.{calls-past}
use Rattle.fdb_history.proofs.Lists.{at_left, at_push, slice_get-append_seam}

-- marks by a test are marks by each test that agrees with it
pub AreMarks-agree : (chain : List Issued) (marks : List Bool) (f g : ℕ → Issued → Bool) → ((place : ℕ) (entry : Issued) → f place entry ≡ g place entry) → AreMarks chain marks f → AreMarks chain marks g
AreMarks-agree chain marks f g same are = record { count = are.count; each = λ place entry at. are.each place entry at ∙ same place entry }

-- ---- one answer

-- whether a client's answer drew the entry at a place
abbrev hit : ℕ → Issued → ℕ → Issued → Bool
hit client issued place entry = is_same issued (record entry { ordinal = place; fresh = true }) && (entry.proxy == client)

-- ---- the calls of a log

is_drawn-more : (calls : List Call) (i : ℕ) (d : Call) (place : ℕ) (entry : Issued) → i < length calls
    → is_drawn (take (i + 1) calls) place entry ≡ (is_drawn (take i calls) place entry || list_any (λ issued. is_same issued (record entry { ordinal = place; fresh = true })) (answer_in (get_or calls i d).answer))
is_drawn-more calls i d place entry within = grind (arith, common_steps, nat_tests)

together : (w d h c : Bool) → ((w || (d && c)) || (h && c)) ≡ (w || ((d || (h || false)) && c))
together true d h c = refl
together false true true true = refl
together false true false true = refl
together false true true false = refl
together false true false false = refl
together false false true true = refl
together false false false true = refl
together false false true false = refl
together false false false false = refl

-- the test of the entries that a client's first calls drew, besides those that were drawn
abbrev pub drawn_too : (ℕ → Issued → Bool) → ℕ → List Call → ℕ → Issued → Bool
drawn_too was client calls place entry = was place entry || is_drawn calls place entry && (entry.proxy == client)

-- after a call that was answered with a commit version
pub drawn_too-answered : (chain : List Issued) (marks : List Bool) (was : ℕ → Issued → Bool) (client : ℕ) (calls : List Call) (i : ℕ) (d : Call) (issued : Issued) → i < length calls → answer_in (get_or calls i d).answer ≡ issued ∷ []
    → AreMarks chain marks (λ place entry. drawn_too was client (take i calls) place entry || hit client issued place entry) → AreMarks chain marks (drawn_too was client (take (i + 1) calls))
drawn_too-answered chain marks was client calls i d issued within is are =
    AreMarks-agree chain marks _ (drawn_too was client (take (i + 1) calls))
    (λ place entry.
    let test : Issued → Bool = λ one. is_same one (record entry { ordinal = place; fresh = true }) in
    together (was place entry) (is_drawn (take i calls) place entry) (test issued) (entry.proxy == client)
    ∙ ap (λ b. was place entry || b && (entry.proxy == client)) (sym (is_drawn-more calls i d place entry within ∙ ap (λ xs. is_drawn (take i calls) place entry || list_any test xs) is)))
    are

-- and after any other
pub drawn_too-other : (chain : List Issued) (marks : List Bool) (was : ℕ → Issued → Bool) (client : ℕ) (calls : List Call) (i : ℕ) (d : Call) → i < length calls → answer_in (get_or calls i d).answer ≡ []
    → AreMarks chain marks (drawn_too was client (take i calls)) → AreMarks chain marks (drawn_too was client (take (i + 1) calls))
drawn_too-other chain marks was client calls i d within is are = grind (arith, common_steps, nat_tests)

pub no_answer : (answer : CallAnswer) → ((issued : Issued) → answer ≡ Answered issued → ⊥) → answer_in answer ≡ []
no_answer (Version rec limits locked_out) other = refl
no_answer (Acked rec raised changed) other = refl
no_answer (Answered issued) other = absurd (other issued refl)
no_answer _ other = refl

-- ---- all logs

-- the test of the entries that the first clients drew
abbrev pub drawn_below : List ClientLog → ℕ → ℕ → Issued → Bool
drawn_below logs client place entry = nat_lt entry.proxy client && is_drawn (calls_of logs entry.proxy) place entry

pub marks-more : (chain : List Issued) (marks : List Bool) (logs : List ClientLog) (client : ℕ) (calls : List Call) → calls_of logs client ≡ calls → AreMarks chain marks (drawn_too (drawn_below logs client) client calls) → AreMarks chain marks (drawn_below logs (client + 1))
marks-more chain marks logs client calls of_log are = grind (arith, common_steps, nat_tests)

-- marks that were written back into their list
pub written_back : (n : ℕ) (marks rest : List Bool) → n ≡ length marks → take n (marks ++ rest) ≡ marks
written_back n marks rest is = rw is (take-append_seam marks rest)

pub marks-all : (chain : List Issued) (marks : List Bool) (logs : List ClientLog) (client : ℕ) → length logs ≤ client → AreMarks chain marks (drawn_below logs client) → AreMarks chain marks (λ place entry. is_drawn (calls_of logs entry.proxy) place entry)
marks-all chain marks logs client all are =
    AreMarks-agree chain marks _ (λ place entry. is_drawn (calls_of logs entry.proxy) place entry)
    (λ place entry. elim (cases_lt entry.proxy client) [
      | inl below ↦ ap (λ b. b && is_drawn (calls_of logs entry.proxy) place entry) (lt-ltb entry.proxy client below)
      | inr past ↦
          ap (λ b. b && is_drawn (calls_of logs entry.proxy) place entry) (le-ltb entry.proxy client past)
          ∙ sym (ap (λ cs. is_drawn cs place entry) (calls-past logs entry.proxy (omega arith)))
    ])
    are

-- ---- the least client with an entry that has no mark

-- what a look-up past the end of the chain gives in a proof
abbrev pub no_entry : Issued
no_entry = record { ordinal = 0; proxy = 0; num = 0; processed = 0; prev = 0; version = 0; at = 0; fresh = false }

unmarked-left : (before : List Issued) (entry : Issued) (marks : List Bool) (client : ℕ) → HasUnmarked before marks client → HasUnmarked (before ++ entry ∷ []) marks client
unmarked-left before entry marks client has = (has.0, has.1, at_left before entry has.0 has.1 has.2, has.3, has.4)

unmarked-push : (before : List Issued) (entry : Issued) (marks : List Bool) (client : ℕ) → HasUnmarked (before ++ entry ∷ []) marks client → HasUnmarked before marks client ⊎ ((entry.proxy ≡ client) × (get_or marks (length before) false ≡ false))
unmarked-push before entry marks client has =
    elim (at_push before entry has.0 has.1 has.2) [
      | inl earlier ↦ inl (has.0, has.1, earlier, has.3, has.4)
      | inr last ↦ inr (ap (λ (a : Issued). a.proxy) last.1 ∙ has.3, ap (λ k. get_or marks k false) (sym last.0) ∙ has.4)
    ]

-- after an entry that has a mark
pub least-marked : (before : List Issued) (entry : Issued) (marks : List Bool) (least : Option ℕ) → get_or marks (length before) false ≡ true → IsLeastIfAny (HasUnmarked before marks) least → IsLeastIfAny (HasUnmarked (before ++ entry ∷ []) marks) least
least-marked before entry marks None is nowhere =
    λ client has. elim (unmarked-push before entry marks client has) [ inl earlier ↦ nowhere client earlier | inr new ↦ false≢true (sym new.1 ∙ is) ]
least-marked before entry marks (Some least) is first =
    record {
      stands = unmarked-left before entry marks least first.stands;
      none_below = λ client below has. elim (unmarked-push before entry marks client has) [ inl earlier ↦ first.none_below client below earlier | inr new ↦ false≢true (sym new.1 ∙ is) ];
    }

-- after the first that has none
pub least-first : (before : List Issued) (entry : Issued) (marks : List Bool) → get_or marks (length before) false ≡ false → IsLeastIfAny (HasUnmarked before marks) None → IsLeast (HasUnmarked (before ++ entry ∷ []) marks) entry.proxy
least-first before entry marks none nowhere =
    record {
      stands = (length before, entry, slice_get-append_seam before entry, refl, none);
      none_below = λ client below has. elim (unmarked-push before entry marks client has) [ inl earlier ↦ nowhere client earlier | inr new ↦ absurd (omega (arith, new.0)) ];
    }

-- after one more of them
pub least-more : (before : List Issued) (entry : Issued) (marks : List Bool) (least : ℕ) → get_or marks (length before) false ≡ false → IsLeast (HasUnmarked before marks) least → IsLeast (HasUnmarked (before ++ entry ∷ []) marks) (min entry.proxy least)
least-more before entry marks least none first =
    elim (cases_lt entry.proxy least) [
      | inl less ↦
          let is : min entry.proxy least ≡ entry.proxy = omega arith in
          rw is
          (record {
            stands = (length before, entry, slice_get-append_seam before entry, refl, none);
            none_below = λ client below has. elim (unmarked-push before entry marks client has) [ inl earlier ↦ first.none_below client (omega arith) earlier | inr new ↦ absurd (omega (arith, new.0)) ];
          })
      | inr most ↦
          let is : min entry.proxy least ≡ least = omega arith in
          rw is
          (record {
            stands = unmarked-left before entry marks least first.stands;
            none_below = λ client below has. elim (unmarked-push before entry marks client has) [ inl earlier ↦ first.none_below client below earlier | inr new ↦ absurd (omega (arith, new.0)) ];
          })
    ]
