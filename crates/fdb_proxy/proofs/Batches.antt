-- What a batch's loops keep.
use Rattle.std.proofs.Common.{◌≡◌, ℕ, All, List, ◌∷◌, ◌++◌, length, take, drop, ◌∙◌, arith, sym, ap, append_assoc}
use Rattle.std.proofs.lemmas.List.{take_all, take-append-le}
use mathlib.Core.List.{IsPrefix}
use Rattle.fdb_history.specs.declared.service.Service.{Ghosts as ServiceGhosts}
use Rattle.fdb_live.specs.declared.seen.Live.{Ghosts as LiveGhosts}
use Rattle.fdb_live.specs.declared.view.Change.{Change}
use Rattle.fdb_proxy.specs.declared.request.Request.{Request}
use Rattle.fdb_queue.specs.declared.waiting.Req.{Req}

module _ {A : Type 0} where
  pub prefix_trans : (xs ys zs : List A) → IsPrefix xs ys → IsPrefix ys zs → IsPrefix xs zs
  prefix_trans xs ys zs p q = (p.0 ++ q.0, sym (append_assoc xs p.0 q.0) ∙ (ap (λ w. w ++ q.0) p.1 ∙ q.1))

  -- a list that was lent and came back as it was
  pub written_back : (n : ℕ) (xs ys : List A) → ys ≡ xs → n ≡ length xs → take n (ys ++ drop (length ys) xs) ≡ xs
  written_back n xs ys same len = rw same (take-append-le n xs (drop (length xs) xs) (omega arith) ∙ take_all n xs (omega arith))

  pub same_head : {x y : A} {xs ys : List A} → x ∷ xs ≡ y ∷ ys → x ≡ y
  same_head h = cc (h)

module _ {S : Type 0} {live : LiveGhosts S} {service : ServiceGhosts S} where
  -- what each of some askers had seen begins what was seen
  abbrev pub AreTold : List Change → List (Req (Request S live service)) → Type 0
  AreTold changes requests = All (λ request. IsPrefix request.payload.seen.changes changes) requests

  pub told_more : (changes more : List Change) (requests : List (Req (Request S live service))) → IsPrefix changes more → AreTold changes requests → AreTold more requests
  told_more changes more requests grown told = λ k d less. prefix_trans _ changes more (told k d less) grown
