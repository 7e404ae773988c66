-- `of` hands on what is held.
use Rattle.std.proofs.Common.{◌≡◌, List, [], ◌∷◌, ◌++◌, refl, sym, subst}
use mir.Val.{Val, vstruct, vcons, vnil, of_list}
use base.Logic.{SProp, ent, emp, id⊢}
use prog.Wp.{WpFn}
use types.Kit.{‵, raw, ◌⊛◌, ◌$◌, ◌∵◌, !, qed, by, move, keep, split, fsplit, fjoin, fpick, fpack, feq_l, feq_i, suffices, use0}
use types.Run.{stop, fld, of_opd, no_more, and_then, returns, enter}
use types.ByLocal.{alloc_all, pass_all, free_all, look_at, get, get_in, sets}
use types.Part.{agg, sub, whole}
use contract.Monad.{fact, fact_i}
use contract.Running.{tables}
use denote.RattleType.{RattleType, Valss, owns}
use denote.Builtin.{RawPtr}
use denote.RawPtr.{ptr_val}
use denote.Signature.{types_at, plain}
use denote.Steps.{nothing}
use denote.Struct.Struct.{within}
use denote.Struct.Owning.{shape}
use denote.Triple.Entry.{alive}
use denote.Triple.Walked.{Stays, stay_dropped, Goes-dropped, walk_of}
use Rattle.core.proofs.atomic.Steps.{Ptr-Good}
use Rattle.std.proofs.raw_atomic.Walks.{proved_at, leaves}
use Rattle.fdb_c.proofs.Handles.{word_typed}
use denote.Builtin.{u64}
use Rattle.fdb_queue.specs.contracts.queue.GrvQueue as core
use Rattle.fdb_c.specs.contracts.handle.Held as held
use Rattle.fdb_c.specs.contracts.handle.FdbQueue as handle
use Rattle.fdb_c.specs.contracts.handle.FdbQueue.of.{ended, clauses}
use Rattle.fdb_c.specs.contracts.handle.FdbQueue.of.Key.{name as #self}
use Rattle.fdb_c.proofs.handle.FdbQueue.of.Statement.{statement}
use Rattle.fdb_c.proofs.handle.FdbQueue.of.Code as code

abbrev From : RattleType
From = held.the_row (core.the_row u64)

abbrev hs : Stays ended.signature.params ended.kept
hs = (stay_dropped (plain (λ _. From)) ended.kept.0, tt)

pub of_spec : {M : Type 1} → statement M
of_spec 𝓤 𝓛 𝓜 𝓡 wired =
    let H = 𝓛.H in let 𝓣 = tables 𝓤 H 𝓜 𝓡 𝓡.env in let fn = code.function in let c = clauses 𝓛 𝓜.mem 𝓡.returns in
    proved_at 𝓛 ended hs c 𝓜 𝓡 (Goes-dropped 𝓛 0 (plain (λ _. From)) ended.kept.0 (λ κs x f. refl), tt) #self fn (code.unfolded 𝓤 H 𝓜 𝓡 wired) (λ z are.
    let v = z.0.3.0 in let Post : Val → SProp 𝓤 = (walk_of 𝓛 ended hs c).post z in let Run : List Val → SProp 𝓤 = λ ws. WpFn 𝓤 H 𝓣.C 𝓣.Λ fn ws Post in
    let w : Val = vstruct (vcons (ptr_val v.at) vnil) in
    qed 𝓛 ((raw (alive 𝓛 ended.signature z.0.0 z.0.1) ⊛ ‵ (owns (types_at ended.signature.params z.0.0) z.0.3 z.0.4)) ∷ raw ((c z.0.0 z.0.3).requires z.1) ∷ []) ∵
    -- its word, and what it owns
    split ! $ move ! (1 ∷ []) $ fsplit ! $ fsplit ! $ fpick ! (λ vss. fsplit ! $ feq_l ! (λ ev. fsplit ! $ feq_l ! (λ ep. move ! (1 ∷ []) $
    let ws : z.0.4.0 ≡ w ∷ [] = subst (λ (ps : List Val). z.0.4.0 ≡ vstruct (of_list (ps ++ [])) ∷ []) ep ev in
    suffices ! (Run (w ∷ [])) (subst (λ (us : List Val). ent 𝓤 (Run (w ∷ [])) (Run us)) (sym (λ i. ws i ++ [])) (id⊢ 𝓤 (Run (w ∷ [])))) $
    enter ! 𝓣.C 𝓣.Λ fn (w ∷ []) Post $ alloc_all ! (λ l. pass_all ! refl (word_typed v.at, tt) $
    -- let Held { at } = held; FdbQueue { at }
    sets ! (of_opd ! (get_in ! (fld ! refl (stop !)) (sub ! 0 refl (whole !)))) refl (Ptr-Good v.at) $
    sets ! (of_opd ! (get ! refl)) refl (Ptr-Good v.at) $
    sets ! (agg ! (and_then ! (get ! refl) (no_more !))) refl (word_typed v.at) $
    nothing ! $ feq_i ! (List Val) (ptr_val v.at ∷ []) (ptr_val v.at ∷ []) refl $ fjoin ! $ feq_i ! (List Val) (w ∷ []) (w ∷ []) refl $ fjoin ! $
    fpack ! (Valss (RawPtr ∷ [])) (within (shape handle.the_type) (v.at, tt) (w ∷ [])) (ptr_val v.at ∷ [], tt) $ fjoin ! $
    use0 𝓛 (raw (fact 𝓤 (v.it ≡ v.it))) (fact_i 𝓤 (v.it ≡ v.it) (emp 𝓤) refl) $ nothing ! $ nothing ! $ fjoin ! $
    returns ! (look_at ! 0 refl) $ free_all ! refl $ keep ! (5 ∷ 0 ∷ 2 ∷ 1 ∷ []) $
    by ! (leaves 𝓛 ended hs c z w (record { at = v.at; queue = v.it }) (tt, tt) (tt, tt)))))))
