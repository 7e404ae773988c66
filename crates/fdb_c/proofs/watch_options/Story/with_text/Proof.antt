-- `with_text` makes a value of no bytes, by what the references show.
use Rattle.std.proofs.Common.{◌≡◌, List, [], ◌∷◌, ◌++◌, refl, sym, subst}
use mir.Val.{Val, vptr, vstruct, vnil}
use base.Logic.{SProp, ent, emp, id⊢}
use prog.Wp.{WpFn}
use types.Kit.{‵, raw, ◌⊛◌, ◌$◌, ◌∵◌, !, qed, by, keep, split, fjoin, suffices, use0}
use types.Run.{no_more, returns, enter}
use types.ByLocal.{alloc_all, pass_all, free_all, look_at, sets}
use types.Part.{agg}
use contract.Monad.{fact, fact_i}
use contract.Running.{tables}
use denote.Builtin.{RefOf}
use denote.RattleType.{owns}
use denote.Shadow.{pure_i}
use denote.Signature.{Slot, types_at, plain}
use denote.Steps.{nothing}
use denote.Triple.Entry.{alive}
use denote.Triple.Walked.{Stays, stay_dropped, Goes-dropped, walk_of}
use Rattle.std.specs.Prelude.{ℕ, Option, string_bytes}
use Rattle.std.proofs.raw_atomic.Walks.{proved_at, leaves}
use Rattle.std_alloc.specs.contracts.string.String as text
use Rattle.std_heap.specs.contracts.Global as heap
use Rattle.std_heap.specs.contracts.GlobalAllocator.TheImpl.{ghosts}
use Rattle.fdb_c.specs.contracts.watch_options.Story as story
use Rattle.fdb_c.specs.contracts.watch_options.Story.with_text.{ended, clauses}
use Rattle.fdb_c.specs.contracts.watch_options.Story.with_text.Key.{name as #self}
use Rattle.fdb_c.proofs.watch_options.Story.with_text.Statement.{statement}
use Rattle.fdb_c.proofs.watch_options.Story.with_text.Code as code

abbrev before-slot : Slot ended.signature.lifetimes
before-slot = RefOf (0 ∷ []) tt (plain (λ _. story.the_row)) (λ _. tt)

abbrev more-slot : Slot ended.signature.lifetimes
more-slot = RefOf (1 ∷ []) tt (plain (λ _. text.the_row heap.the_row ghosts)) (λ _. tt)

abbrev hs : Stays ended.signature.params ended.kept
hs = (stay_dropped before-slot ended.kept.0, (stay_dropped more-slot ended.kept.1.0, tt))

pub with_text_spec : {M : Type 1} → statement M
with_text_spec 𝓤 𝓛 𝓜 𝓡 wired =
    let H = 𝓛.H in let 𝓣 = tables 𝓤 H 𝓜 𝓡 𝓡.env in let fn = code.function in let c = clauses 𝓛 𝓜.mem 𝓡.returns in
    proved_at 𝓛 ended hs c 𝓜 𝓡 (Goes-dropped 𝓛 ended.signature.lifetimes before-slot ended.kept.0 (λ κs x f. refl), (Goes-dropped 𝓛 ended.signature.lifetimes more-slot ended.kept.1.0 (λ κs x f. refl), tt)) #self fn (code.unfolded 𝓤 H 𝓜 𝓡 wired) (λ z are.
    let Post : Val → SProp 𝓤 = (walk_of 𝓛 ended hs c).post z in let Run : List Val → SProp 𝓤 = λ ws. WpFn 𝓤 H 𝓣.C 𝓣.Λ fn ws Post in
    let before : Val = vptr z.0.3.0.ref_ptr.0 z.0.3.0.ref_ptr.1 in let more : Val = vptr z.0.3.1.0.ref_ptr.0 z.0.3.1.0.ref_ptr.1 in
    let bytes : List ℕ = z.0.3.0.now.bytes in let told : List ℕ = z.0.3.0.now.told ++ string_bytes z.0.3.1.0.now in
    let from : Option (List ℕ) = z.0.3.0.now.from in let warned : List ℕ = z.0.3.0.now.warned in let Told : Type 0 = (bytes ≡ bytes) × (told ≡ told) × (from ≡ from) × (warned ≡ warned) in
    qed 𝓛 ((raw (alive 𝓛 ended.signature z.0.0 z.0.1) ⊛ ‵ (owns (types_at ended.signature.params z.0.0) z.0.3 z.0.4)) ∷ raw ((c z.0.0 z.0.3).requires z.1) ∷ []) ∵
    split ! $
    suffices ! (Run (before ∷ more ∷ [])) (subst (λ (us : List Val). ent 𝓤 (Run (before ∷ more ∷ [])) (Run us)) (sym (λ i. are.0.0 i ++ (are.1.0.0 i ++ []))) (id⊢ 𝓤 (Run (before ∷ more ∷ [])))) $
    enter ! 𝓣.C 𝓣.Λ fn (before ∷ more ∷ []) Post $ alloc_all ! (λ l. pass_all ! refl ((tt, tt), ((tt, tt), tt)) $
    -- Story {}
    sets ! (agg ! (no_more !)) refl (tt, tt) $
    pure_i ! (story.the_row.own_val (record { bytes = bytes; told = told; from = from; warned = warned }) (vstruct vnil ∷ [])) ((λ vss. (tt, tt)), tt) ((tt, (refl, tt)), tt) $
    use0 𝓛 (raw (fact 𝓤 Told)) (fact_i 𝓤 Told (emp 𝓤) (refl, refl, refl, refl)) $ nothing ! $ nothing ! $ fjoin ! $ nothing ! $ fjoin ! $
    returns ! (look_at ! 0 refl) $ free_all ! refl $ keep ! (3 ∷ 0 ∷ 2 ∷ 1 ∷ []) $
    by ! (leaves 𝓛 ended hs c z (vstruct vnil) (record { bytes = bytes; told = told; from = from; warned = warned }) (tt, (tt, tt)) (tt, (tt, tt)))))
