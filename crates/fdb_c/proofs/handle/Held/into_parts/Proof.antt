-- `into_parts` takes back what C held, if it held something.
use Rattle.std.proofs.Common.{◌≡◌, List, [], ◌∷◌, ◌++◌, refl, sym, subst, lit<, w64}
use mir.Syntax.{a_type}
use mir.MapTy.{inst_fn}
use mir.Val.{Val, vint, vptr, vstruct, vcons, vnil, of_list}
use base.Fml.{ftrue, flft}
use base.Logic.{SProp, ent, emp, id⊢}
use prog.Wp.{WpFn}
use types.Kit.{‵, raw, ◌⊛◌, at_ret, ◌$◌, ◌∵◌, !, qed, by, move, keep, split, fsplit, fjoin, fpick, fpack, feq_l, feq_i, rewrite, suffices, use0, use1}
use types.Run.{stop, fld, lit, of_opd, bin, no_more, and_then, first, branches, exec, returns, enter}
use types.ByLocal.{alloc_all, pass_all, free_all, look_at, get, get_in, sets, sets_last, env}
use types.Part.{agg, sub, whole}
use types.Match.{live}
use contract.Monad.{fact, fact_i}
use contract.Running.{tables}
use denote.RattleType.{RattleType, Valss, owns}
use denote.Builtin.{RawPtr}
use denote.RawPtr.{Ptr, block_ptr, null_ptr, ptr_val, tests_null}
use denote.Exit.{no, yes}
use denote.Param.{layouts, param}
use denote.Signature.{types_at, type_at, plain}
use denote.Laws.{Is, shows}
use denote.Steps.{nothing, peeks}
use denote.Struct.Struct.{within}
use denote.Struct.Owning.{shape}
use denote.Triple.Walked.{Stays, stay_dropped, Goes-dropped, walk_of}
use Rattle.core.proofs.alloc.Shapes.{after}
use Rattle.core.proofs.option.Made.{Some-of, none_of}
use Rattle.std_heap.proofs.Handle.{heap_val, heap_Tells}
use Rattle.std_heap.specs.contracts.Global as heap
use Rattle.std_heap.specs.contracts.GlobalAllocator.TheImpl.{ghosts}
use Rattle.std.specs.Prelude.{Option, None, Some}
use Rattle.std.proofs.raw_atomic.Walks.{proved_at, leaves}
use Rattle.fdb_c.proofs.Handles.{either_held}
use Rattle.fdb_c.specs.contracts.handle.Parts as parts
use Rattle.fdb_c.specs.contracts.handle.Held as held
use Rattle.fdb_c.specs.contracts.handle.Held.into_parts as f
use Rattle.fdb_c.proofs.handle.Held.into_parts.Statement.{statement}
use Rattle.fdb_c.proofs.handle.Held.into_parts.Code as code

pub into_parts_spec : {M : Type 1} → statement M
into_parts_spec 𝓤 𝓛 𝓜 𝓡 wired T L =
    let H = 𝓛.H in let 𝓣 = tables 𝓤 H 𝓜 𝓡 𝓡.env in let R : RattleType = param 0 T in let ended = f.ended T in let c = f.clauses T 𝓛 𝓜.mem 𝓡.returns in
    let inst = layouts (a_type ∷ []) (T, tt) in let fn = inst_fn inst code.function in let To : RattleType = parts.the_row R heap.the_row ghosts in let nobody : Option T.Denot = None in
    let hs : Stays ended.signature.params ended.kept = (stay_dropped (plain (λ _. held.the_row R)) no, (stay_dropped (plain (λ _. heap.the_row)) yes, tt)) in
    proved_at 𝓛 ended hs c 𝓜 𝓡 (Goes-dropped 𝓛 1 (plain (λ _. held.the_row R)) no (λ κs x f. refl), (Goes-dropped 𝓛 1 (plain (λ _. heap.the_row)) yes (λ κs x f. refl), tt)) (f.Key.name inst) fn (code.unfolded 𝓤 H 𝓜 𝓡 wired (T, tt)) (λ z are.
    let v = z.0.3.0 in let a = z.0.3.1.0 in let Post : Val → SProp 𝓤 = (walk_of 𝓛 ended hs c).post z in let Run : List Val → SProp 𝓤 = λ ws. WpFn 𝓤 H 𝓣.C 𝓣.Λ fn ws Post in
    let Out : RattleType = type_at ended.signature.result z.0.0 in
    qed 𝓛 (((‵ (flft z.0.0.0 z.0.1.0) ⊛ ‵ ftrue) ⊛ ‵ (owns (types_at ended.signature.params z.0.0) z.0.3 z.0.4)) ∷ raw ((c z.0.0 z.0.3).requires z.1) ∷ []) ∵
    split ! $ move ! (1 ∷ []) $ fsplit ! $ move ! (1 ∷ []) $ fsplit ! $
    -- the allocator's word
    peeks ! heap.the_row (Is heap.the_row) (shows 𝓛 heap.the_row) a z.0.4.1.0 (λ ia. let ea : z.0.4.1.0 ≡ heap_val ∷ [] = heap_Tells a z.0.4.1.0 ia in
    rewrite ! 0 (λ (us : List Val). ‵ ((heap.the_row).own_val a us)) ea refl $
    -- the handle's word, and what it has
    move ! (2 ∷ []) $ fsplit ! $ fpick ! (λ vss. fsplit ! $ feq_l ! (λ ev. fsplit ! $ feq_l ! (λ ep. move ! (1 ∷ []) $
    let word : (p : Ptr) → v.at ≡ p → z.0.4.0 ≡ vstruct (vcons (ptr_val p) vnil) ∷ [] = λ p e.
    subst (λ (q : Ptr). z.0.4.0 ≡ vstruct (of_list (ptr_val q ∷ [])) ∷ []) e
    (subst (λ (ps : List Val). z.0.4.0 ≡ vstruct (of_list (ps ++ [])) ∷ []) ep ev) in
    let runs : (w : Val) → z.0.4.0 ≡ w ∷ [] → ent 𝓤 (Run (w ∷ heap_val ∷ [])) (Run (z.0.4.0 ++ (z.0.4.1.0 ++ []))) = λ w ws.
    subst (λ (us : List Val). ent 𝓤 (Run (w ∷ heap_val ∷ [])) (Run us)) (sym (λ i. ws i ++ (ea i ++ []))) (id⊢ 𝓤 (Run (w ∷ heap_val ∷ []))) in
    either_held R ! v.at v.it
    (λ none null. let w : Val = vstruct (vcons (vint w64 0) vnil) in let out : Val = live 0 vnil in
    suffices ! (Run (w ∷ heap_val ∷ [])) (runs w (word null_ptr null)) $
    enter ! 𝓣.C 𝓣.Λ fn (w ∷ heap_val ∷ []) Post $ alloc_all ! (λ l. pass_all ! refl ((tt, (record { fits = lit< tt }, tt)), ((tt, ((tt, tt), tt)), tt)) $ let Ev = env fn.locals l in
    -- let Held { at } = self;
    sets ! (of_opd ! (get_in ! (fld ! refl (stop !)) (sub ! 0 refl (whole !)))) refl (tt, record { fits = lit< tt }) $
    -- at.is_null()
    sets ! (bin ! (get ! refl) (lit ! tt) tt) refl (tt, tt) $ first ! $ branches ! (get ! refl)
    (λ _. sets_last ! (agg ! (and_then ! (lit ! tt) (no_more !))) refl (tt, (record { fits = lit< tt }, tt)) $
    exec ! 𝓣.C 𝓣.Λ Ev (after 3 fn.body) (at_ret Ev Post) $ sets ! (of_opd ! (get ! refl)) refl (tt, (record { fits = lit< tt }, tt)) $
    use0 𝓛 (‵ (Out.own_val None (out ∷ []))) (none_of 𝓛 To) $
    use0 𝓛 (raw (fact 𝓤 (nobody ≡ v.it))) (fact_i 𝓤 (nobody ≡ v.it) (emp 𝓤) (sym none)) $ nothing ! $ nothing ! $ fjoin ! $ nothing ! $ fjoin ! $
    returns ! (look_at ! 0 refl) $ free_all ! refl $ keep ! (6 ∷ 0 ∷ 2 ∷ 1 ∷ []) $
    by ! (leaves 𝓛 ended hs c z out None (tt, (tt, tt)) (tt, (tt, tt))))
    (λ wrong. absurd wrong)))
    (λ b o x is e ok. let w : Val = vstruct (vcons (vptr b o) vnil) in let made : Val = vstruct (vcons (vptr b o) (vcons heap_val vnil)) in let out : Val = live 1 (vcons made vnil) in
    suffices ! (Run (w ∷ heap_val ∷ [])) (runs w (word (block_ptr b o) e)) $
    enter ! 𝓣.C 𝓣.Λ fn (w ∷ heap_val ∷ []) Post $ alloc_all ! (λ l. pass_all ! refl ((tt, (tt, tt)), ((tt, ((tt, tt), tt)), tt)) $ let Ev = env fn.locals l in
    -- let Held { at } = self;
    sets ! (of_opd ! (get_in ! (fld ! refl (stop !)) (sub ! 0 refl (whole !)))) refl (tt, tt) $
    -- at.is_null()
    sets ! (bin ! (get ! refl) (lit ! tt) (tests_null (block_ptr b o) ok)) refl (tt, tt) $ first ! $ branches ! (get ! refl)
    (λ wrong. absurd wrong)
    -- Some(Parts { ptr: at, alloc })
    (λ _. sets ! (agg ! (and_then ! (get ! refl) (and_then ! (get ! refl) (no_more !)))) refl (tt, (tt, (((tt, tt), tt), tt))) $
    sets_last ! (agg ! (and_then ! (lit ! tt) (and_then ! (get ! refl) (no_more !)))) refl (tt, (record { fits = lit< tt }, ((tt, (((tt, tt), tt), tt)), tt))) $
    exec ! 𝓣.C 𝓣.Λ Ev (after 3 fn.body) (at_ret Ev Post) $ sets ! (of_opd ! (get ! refl)) refl (tt, (record { fits = lit< tt }, ((tt, (((tt, tt), tt), tt)), tt))) $
    -- [the box; nothing; the allocator; nothing; the tokens; ..]
    nothing ! $ move ! (3 ∷ 0 ∷ []) $ fjoin ! $ feq_i ! (List Val) (vptr b o ∷ []) (vptr b o ∷ []) refl $ fjoin ! $ feq_i ! (List Val) (made ∷ []) (made ∷ []) refl $ fjoin ! $
    fpack ! (Valss (RawPtr ∷ heap.the_row ∷ [])) (within (shape (parts.the_type R heap.the_row ghosts)) (block_ptr b o, (a, tt)) (made ∷ [])) (vptr b o ∷ [], (heap_val ∷ [], tt)) $ fjoin ! $
    use1 𝓛 (‵ (Out.own_val (Some (record { ptr = block_ptr b o; alloc = a; value = x })) (out ∷ []))) (Some-of 𝓛 To (record { ptr = block_ptr b o; alloc = a; value = x }) made) $
    use0 𝓛 (raw (fact 𝓤 (Some x ≡ v.it))) (fact_i 𝓤 (Some x ≡ v.it) (emp 𝓤) (sym is)) $ nothing ! $ nothing ! $ fjoin ! $ nothing ! $ fjoin ! $
    returns ! (look_at ! 0 refl) $ free_all ! refl $ keep ! (5 ∷ 0 ∷ 2 ∷ 1 ∷ []) $
    by ! (leaves 𝓛 ended hs c z out (Some (record { ptr = block_ptr b o; alloc = a; value = x })) (tt, (tt, tt)) (tt, (tt, tt)))))))))))
