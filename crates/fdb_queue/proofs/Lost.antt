-- Nobody is lost when a request is let in.
use Rattle.std.proofs.Common.{◌≡◌, ◌==◌, Bool, true, false, List, [], ◌∷◌, ◌++◌, length, option_to_list, None, Some, refl, append_assoc}
use Rattle.std.specs.Prelude.{IsPermutation, if◌then◌else◌}
use Rattle.std.proofs.lemmas.List.Sorted.{IsPermutation-sym, IsPermutation-cons, IsPermutation-trans, IsPermutation-middle, IsPermutation-to_front}
use Rattle.fdb_history.specs.declared.log.Priority.{Priority}
use Rattle.fdb_history.specs.declared.log.Priority.TheVariants.{System, Default, Batch}
use Rattle.fdb_queue.specs.declared.waiting.Req.{Req}
use Rattle.fdb_queue.specs.Admission.{refusal_of, admitted, pushed_out, without_oldest, is_full, below}
use Rattle.fdb_queue.specs.Queue.{Queue}
use Rattle.fdb_queue.specs.Waiting.{Requests, row, first, with_last}
use Rattle.fdb_queue.proofs.Admitting.{let_in, IsLetIn, not_empty}

-- a request that comes is one more
with_more : {T : Type 0} (waiting : Requests T) (request : Req T) (priority : Priority) → IsPermutation (row (with_last waiting request priority)) (request ∷ row waiting)
with_more waiting request System = simp append_assoc (IsPermutation-middle waiting.system request (waiting.default_ ++ waiting.batch))
with_more waiting request Default =
    let same : waiting.system ++ (waiting.default_ ++ request ∷ []) ++ waiting.batch ≡ waiting.system ++ waiting.default_ ++ request ∷ waiting.batch = simp append_assoc in
    rw same (IsPermutation-middle (waiting.system ++ waiting.default_) request waiting.batch)
with_more waiting request Batch =
    let same : waiting.system ++ waiting.default_ ++ (waiting.batch ++ request ∷ []) ≡ row waiting ++ request ∷ [] = simp append_assoc in
    rw same (IsPermutation-to_front (row waiting) request)

-- the one that goes is one less
without_one : {T : Type 0} (system default_ batch : List (Req T)) (out : Req T) → first (batch ++ default_) ≡ Some out
    → IsPermutation (system ++ default_ ++ batch) (out ∷ row (without_oldest (record { system = system; default_ = default_; batch = batch })))
without_one system [] [] out h = cc
without_one system (x ∷ default_) [] out h =
    let same : x ≡ out = cc in
    rw (← same) (simp append_assoc (IsPermutation-middle system x (default_ ++ [])))
without_one system default_ (x ∷ batch) out h =
    let same : x ≡ out = cc in
    rw (← same, not_empty (length batch)) (IsPermutation-middle (system ++ default_) x batch)

lost_one : {T : Type 0} (waiting : Requests T) (request out : Req T) (priority : Priority) → first (waiting.batch ++ waiting.default_) ≡ Some out
    → IsPermutation (request ∷ row waiting) (out ∷ row (with_last (without_oldest waiting) request priority))
lost_one waiting request out priority h =
    let left = row (without_oldest waiting) in
    let gone = IsPermutation-cons request (row waiting) (out ∷ left) (without_one waiting.system waiting.default_ waiting.batch out h) in
    let swapped = IsPermutation-middle (request ∷ []) out left in
    let back = IsPermutation-cons out (request ∷ left) (row (with_last (without_oldest waiting) request priority))
    (IsPermutation-sym (row (with_last (without_oldest waiting) request priority)) (request ∷ left) (with_more (without_oldest waiting) request priority)) in
    IsPermutation-trans (request ∷ row waiting) (request ∷ out ∷ left) (out ∷ row (with_last (without_oldest waiting) request priority)) gone
    (IsPermutation-trans (request ∷ out ∷ left) (out ∷ request ∷ left) (out ∷ row (with_last (without_oldest waiting) request priority)) swapped back)

-- the first of those below is the first of all that may ever be pushed out
first_append : {X : Type 0} (xs ys : List X) (x : X) → first xs ≡ Some x → first (xs ++ ys) ≡ Some x
first_append [] ys x h = cc
first_append (y ∷ xs) ys x h = h

first_below : {T : Type 0} (priority : Priority) (waiting : Requests T) (out : Req T) → first (below priority waiting) ≡ Some out → first (waiting.batch ++ waiting.default_) ≡ Some out
first_below System waiting out h = h
first_below Default waiting out h = first_append waiting.batch waiting.default_ out h
first_below Batch waiting out h = cc

some_first : {X : Type 0} (xs : List X) → (length xs == 0) ≡ false → (x : X) × (first xs ≡ Some x)
some_first [] h = cc
some_first (x ∷ xs) h = (x, refl)

lost_by : {T : Type 0} (queue : Queue T) (request : Req T) (full : Bool) → is_full queue ≡ full → IsLetIn queue request
    → IsPermutation (request ∷ row queue.waiting) (option_to_list (if full then first (below request.priority queue.waiting) else None) ++ row (with_last (if full then without_oldest queue.waiting else queue.waiting) request request.priority))
lost_by queue request true full h =
    let out = some_first (below request.priority queue.waiting) (h.room full) in
    rw out.1 (lost_one queue.waiting request out.0 request.priority (first_below request.priority queue.waiting out.0 out.1))
lost_by queue request false full h = IsPermutation-sym (row (with_last queue.waiting request request.priority)) (request ∷ row queue.waiting) (with_more queue.waiting request request.priority)

pub nobody : {T : Type 0} (queue : Queue T) (request : Req T) → refusal_of queue request ≡ None
    → IsPermutation (request ∷ row queue.waiting) (option_to_list (pushed_out queue request) ++ row (admitted queue request).waiting)
nobody queue request none = lost_by queue request (is_full queue) refl (let_in queue request none)
