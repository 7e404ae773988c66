use Rattle.std.proofs.Common.{◌≡◌, ℕ, ◌<◌, ◌+◌, List, [], ◌∷◌, ◌++◌, length, get_or, take, arith, ap, sym, ◌∙◌, append-nil, Result, Ok, Err}
use Rattle.std.specs.Prelude.{OnErr}
use Rattle.std.specs.List.{flat_map}
use Rattle.std.proofs.lemmas.Grind.{flat_map-append}
use Rattle.std.proofs.lemmas.List.{take_more}
use Rattle.std.proofs.lemmas.List.Folds.{length-flat_map-take}
use Rattle.fdb_history.specs.declared.log.Priority.{Priority}
use Rattle.fdb_queue.specs.declared.throttles.Throttle.{Throttle}
use Rattle.fdb_queue.specs.Throttles.{last_set, limits_of, unexpired}
use Rattle.fdb_queue.proofs.throttles.Throttles.limits.Goals as goal

-- what holds in any case holds where a result is a refusal
whichever : {A E X : Type 0} (result : Result A E) → X → OnErr result X
whichever (Ok _) holds = tt
whichever (Err _) holds = holds

-- a limit of one of the tags is one of their limits
due : (throttles : List Throttle) (priority : Priority) (at : ℕ) (tags : List (List ℕ)) (place : ℕ) (tag : List ℕ) → place < length tags → tag ≡ get_or tags place tag
    → 0 < length (unexpired at (last_set throttles priority tag)) → 0 < length (limits_of throttles priority at tags)
due throttles priority at tags place tag less is some =
    let here : 0 < length (unexpired at (last_set throttles priority (get_or tags place tag))) = rw is at some in
    omega (arith, length-flat_map-take (λ it. unexpired at (last_set throttles priority it)) tags place tag less)

pub returns-in_err-limit-clause-err : goal.returns-in_err-limit-clause-err
returns-in_err-limit-clause-err c =
    whichever c.from_residual.result (due c.args.self.now c.args.priority c.args.at c.args.tags.now c.loop-tag.tag-index c.tag-item.result c.loop-tag-test.true c.tag-item.is c.in_err-limit.ensures.err)

pub returns-in_err-push-clause-err : goal.returns-in_err-push-clause-err
returns-in_err-push-clause-err c =
    let one = ap length (rw c.in-Some.is at c.in_ok-limit.ensures.ok) in
    whichever c.from_residual-in_err-push.result (due c.args.self.now c.args.priority c.args.at c.args.tags.now c.loop-tag.tag-index c.tag-item.result c.loop-tag-test.true c.tag-item.is (omega (arith, one)))

-- the limits of the tags so far, and that of the next
limits_more : (throttles : List Throttle) (priority : Priority) (at : ℕ) (tags : List (List ℕ)) (place : ℕ) (tag : List ℕ) → place < length tags → tag ≡ get_or tags place tag
    → limits_of throttles priority at (take (place + 1) tags) ≡ limits_of throttles priority at (take place tags) ++ unexpired at (last_set throttles priority tag)
limits_more throttles priority at tags place tag less is =
    let of_tag = λ (it : List ℕ). unexpired at (last_set throttles priority it) in
    ap (flat_map of_tag) (take_more tags place tag less ∙ ap (λ it. take place tags ++ it ∷ []) (sym is)) ∙ flat_map-append of_tag (take place tags) (tag ∷ []) ∙ ap (λ rest. flat_map of_tag (take place tags) ++ rest) (append-nil (of_tag tag))
