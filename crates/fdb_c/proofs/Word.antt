-- The parts of a box: their machine word, and what they own by it.
use Rattle.std.proofs.Common.{◌≡◌, ℕ, List, [], ◌∷◌, ◌++◌, refl, subst}
use seplogic.Ra.Ura.{Ura}
use mir.Raw.{raw as bare}
use mir.Val.{Val, vptr, vstruct, vcons, vnil, of_list}
use base.Logic.{never, fst∗}
use types.Logic.{Logic, sem}
use types.Kit.{Goal, Item, Seq, Step, step, ‵, ◌$◌, move, drop, fsplit, fjoin, fpick, fpack, feq_i, feq_l}
use denote.RattleType.{RattleType, Valss}
use denote.Builtin.{RawPtr}
use denote.Memory.{lone}
use denote.Param.{param}
use denote.RawPtr.{Ptr, block_ptr, null_ptr, ptr_val, in_a_block}
use denote.Steps.{nothing}
use denote.Struct.Struct.{within}
use denote.Struct.Owning.{shape}
use Rattle.core.proofs.alloc.Calls.{Al, Fits, handle_tells}
use Rattle.std_alloc.specs.Box.Ownership.{box_owns}
use Rattle.fdb_c.specs.contracts.handle.Parts as parts

-- a pointer's word, and then an allocator's
abbrev pub both : Val → Val → Val
both at heap = vstruct (vcons at (vcons heap vnil))

-- the parts' row, at a value's and an allocator's
abbrev pub Held : RattleType → Al → RattleType
Held R E = parts.the_row R (param 1 E.row) E.g

module _ (R : RattleType) (E : Al) {M : Type 1} {𝓤 : Ura M} {𝓛 : Logic 𝓤} {K : Type 0} {Γ : List (Item 𝓤)} {G : Goal 𝓤 𝓛.H} where
  -- the parts from [what the box owned; its allocator]
  pub shuts_parts : K → (b o : ℕ) (heap : Val) (a : E.row.Denot) (x : R.Denot)
      → Step K 𝓛 (‵ ((Held R E).own_val (record { ptr = block_ptr b o; alloc = a; value = x }) (both (vptr b o) heap ∷ [])) ∷ Γ) G
      (‵ (box_owns (E.g.dealloc_token a) R (block_ptr b o) x) ∷ ‵ (E.row.own_val a (heap ∷ [])) ∷ Γ) G
  shuts_parts t b o heap a x = step (λ rest. let word = both (vptr b o) heap in
      nothing t $ move t (2 ∷ 0 ∷ []) $ fjoin t $ feq_i t (List Val) (vptr b o ∷ []) (vptr b o ∷ []) refl $ fjoin t $
      feq_i t (List Val) (word ∷ []) (word ∷ []) refl $ fjoin t $
      fpack t (Valss (RawPtr ∷ param 1 E.row ∷ [])) (within (shape (parts.the_type R (param 1 E.row) E.g)) (block_ptr b o, (a, tt)) (word ∷ [])) (vptr b o ∷ [], (heap ∷ [], tt)) $ fjoin t $ rest)

  -- and these from the parts
  pub opens_parts : K → (it : (Held R E).Denot) (words : List Val)
      → ((b o : ℕ) (heap : Val) → it.ptr ≡ block_ptr b o → words ≡ both (vptr b o) heap ∷ [] → Fits E heap
      → Seq K 𝓛 (‵ (box_owns (E.g.dealloc_token it.alloc) R (block_ptr b o) it.value) ∷ ‵ (E.row.own_val it.alloc (heap ∷ [])) ∷ Γ) G)
      → Seq K 𝓛 (‵ ((Held R E).own_val it words) ∷ Γ) G
  opens_parts t it words rest =
      fsplit t $ fpick t (λ each. fsplit t $ feq_l t (λ whole. fsplit t $ feq_l t (λ first. fsplit t $
      handle_tells E t it.alloc each.1.0 (λ heap second fits. move t (1 ∷ []) $ drop t $ move t (1 ∷ []) $
      in_a_block t it.ptr (λ p. box_owns (E.g.dealloc_token it.alloc) R p it.value) (fst∗ 𝓤 (never 𝓤) (sem 𝓛 (E.g.dealloc_token it.alloc (bare (lone R.mir)) null_ptr))) (λ b o at.
      rest b o heap at
      (subst (λ (p : Ptr). words ≡ both (ptr_val p) heap ∷ []) at
      (subst (λ (us : List Val). words ≡ vstruct (of_list (ptr_val it.ptr ∷ (us ++ []))) ∷ []) second
      (subst (λ (us : List Val). words ≡ vstruct (of_list (us ++ (each.1.0 ++ []))) ∷ []) first whole)))
      fits)))))
