-- What a handle owns, by whether it has something.
use Rattle.std.proofs.Common.{◌≡◌, ℕ, List, [], ◌∷◌, refl, lit<}
use seplogic.Ra.Ura.{Ura}
use mir.Syntax.{ty_ptr, ty_struct, tcons, tnil}
use mir.Raw.{raw as bare}
use mir.Val.{vstruct, vcons, vnil}
use base.Fraction.{full_share}
use base.Logic.{never, fst∗, snd∗, via, guard_i}
use types.Logic.{Logic, sem}
use types.Kit.{Goal, Item, Seq, ‵, given, ◌$◌, use1, learn, feq_l}
use contract.Monad.{fact_use}
use denote.RattleType.{RattleType}
use denote.Memory.{lone}
use denote.RawPtr.{Ptr, block_ptr, null_ptr, ptr_val, lies_at, in_a_block, Testable}
use Rattle.core.proofs.cell.Inside.{Good}
use Rattle.std.specs.Prelude.{Option, None, Some}
use Rattle.std_alloc.specs.Box.Ownership.{box_owns}
use Rattle.std_heap.specs.contracts.GlobalAllocator.TheImpl.{ghosts}
use Rattle.std_heap.proofs.GlobalToken.{dealloc_token-Testable}
use Rattle.fdb_c.specs.Held.{heap, held}

-- a struct of one pointer has its type
pub word_typed : (p : Ptr) → Good (ty_struct [] (tcons ty_ptr tnil)) (vstruct (vcons (ptr_val p) vnil))
word_typed (block_ptr b i) = (tt, (tt, tt))
word_typed null_ptr = (tt, (record { fits = lit< tt }, tt))

module _ (R : RattleType) {M : Type 1} {𝓤 : Ura M} {𝓛 : Logic 𝓤} {K : Type 0} {Γ : List (Item 𝓤)} {G : Goal 𝓤 𝓛.H} where
  -- A handle is none, and its pointer is null; or what it has lies in a block, and its pointer is not.
  pub either_held : K → (p : Ptr) (o : Option R.Denot) → (o ≡ None → p ≡ null_ptr → Seq K 𝓛 Γ G)
      → ((b i : ℕ) (x : R.Denot) → o ≡ Some x → p ≡ block_ptr b i → Testable (block_ptr b i) → Seq K 𝓛 (‵ (box_owns (ghosts.dealloc_token heap) R (block_ptr b i) x) ∷ Γ) G)
      → Seq K 𝓛 (‵ (held R p o) ∷ Γ) G
  either_held t p None none one = feq_l t (λ e. none refl e)
  either_held t p (Some x) none one =
      in_a_block t p (λ q. box_owns (ghosts.dealloc_token heap) R q x) (fst∗ 𝓤 (never 𝓤) (sem 𝓛 (ghosts.dealloc_token heap (bare (lone R.mir)) null_ptr))) (λ b i e. let q : Ptr = block_ptr b i in
      use1 𝓛 (given (Testable q) (‵ (box_owns (ghosts.dealloc_token heap) R q x)))
      (fact_use 𝓤 (Testable q) (via 𝓤 _ (snd∗ 𝓤 (sem 𝓛 (lies_at R full_share q x)) (sem 𝓛 (ghosts.dealloc_token heap (bare (lone R.mir)) q))) (dealloc_token-Testable 𝓛 heap (bare (lone R.mir)) q))
      (guard_i 𝓤 (Testable q) (sem 𝓛 (box_owns (ghosts.dealloc_token heap) R q x)))) $ learn t (λ ok. one b i x refl e ok))
