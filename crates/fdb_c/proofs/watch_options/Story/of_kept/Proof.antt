-- `of_kept` makes a value of no bytes, by what the reference shows.
use Rattle.std.proofs.Common.{◌≡◌, List, [], ◌∷◌, ◌++◌, refl, sym, subst}
use mir.Val.{Val, vptr, vstruct, vnil}
use base.Logic.{SProp, ent, emp, id⊢}
use prog.Wp.{WpFn}
use types.Kit.{‵, raw, ◌⊛◌, ◌$◌, ◌∵◌, !, qed, by, keep, split, fjoin, suffices, use0}
use types.Run.{no_more, returns, enter}
use types.ByLocal.{alloc_all, pass_all, free_all, look_at, sets}
use types.Part.{agg}
use contract.Monad.{fact, fact_i}
use contract.Running.{tables}
use denote.Builtin.{RefOf, SliceRefOf, u8}
use denote.RattleType.{owns}
use denote.Shadow.{pure_i}
use denote.Signature.{Slot, types_at, plain}
use denote.Steps.{nothing}
use denote.Triple.Entry.{alive}
use denote.Triple.Walked.{Stays, stay_dropped, Goes-dropped, walk_of}
use Rattle.std.specs.Prelude.{ℕ, Option, Some}
use Rattle.std.proofs.raw_atomic.Walks.{proved_at, leaves}
use Rattle.fdb_c.specs.contracts.watch_options.Story as story
use Rattle.fdb_c.specs.contracts.watch_options.Story.of_kept.{ended, clauses}
use Rattle.fdb_c.specs.contracts.watch_options.Story.of_kept.Key.{name as #self}
use Rattle.fdb_c.proofs.watch_options.Story.of_kept.Statement.{statement}
use Rattle.fdb_c.proofs.watch_options.Story.of_kept.Code as code

abbrev text-slot : Slot ended.signature.lifetimes
text-slot = RefOf (0 ∷ []) tt (SliceRefOf (1 ∷ []) tt (plain (λ _. u8)) (λ _. tt)) (λ _. tt)

abbrev hs : Stays ended.signature.params ended.kept
hs = (stay_dropped text-slot ended.kept.0, tt)

pub of_kept_spec : {M : Type 1} → statement M
of_kept_spec 𝓤 𝓛 𝓜 𝓡 wired =
    let H = 𝓛.H in let 𝓣 = tables 𝓤 H 𝓜 𝓡 𝓡.env in let fn = code.function in let c = clauses 𝓛 𝓜.mem 𝓡.returns in
    proved_at 𝓛 ended hs c 𝓜 𝓡 (Goes-dropped 𝓛 ended.signature.lifetimes text-slot ended.kept.0 (λ κs x f. refl), tt) #self fn (code.unfolded 𝓤 H 𝓜 𝓡 wired) (λ z are.
    let Post : Val → SProp 𝓤 = (walk_of 𝓛 ended hs c).post z in let Run : List Val → SProp 𝓤 = λ ws. WpFn 𝓤 H 𝓣.C 𝓣.Λ fn ws Post in
    let text : Val = vptr z.0.3.0.ref_ptr.0 z.0.3.0.ref_ptr.1 in let bytes : List ℕ = z.0.3.0.now.now in let told : List ℕ = [] in
    let from : Option (List ℕ) = Some bytes in let warned : List ℕ = [] in let Told : Type 0 = (bytes ≡ bytes) × (told ≡ told) × (from ≡ from) × (warned ≡ warned) in
    qed 𝓛 ((raw (alive 𝓛 ended.signature z.0.0 z.0.1) ⊛ ‵ (owns (types_at ended.signature.params z.0.0) z.0.3 z.0.4)) ∷ raw ((c z.0.0 z.0.3).requires z.1) ∷ []) ∵
    split ! $
    suffices ! (Run (text ∷ [])) (subst (λ (us : List Val). ent 𝓤 (Run (text ∷ [])) (Run us)) (sym (λ i. are.0.0 i ++ [])) (id⊢ 𝓤 (Run (text ∷ [])))) $
    enter ! 𝓣.C 𝓣.Λ fn (text ∷ []) Post $ alloc_all ! (λ l. pass_all ! refl ((tt, tt), tt) $
    -- Story {}
    sets ! (agg ! (no_more !)) refl (tt, tt) $
    pure_i ! (story.the_row.own_val (record { bytes = bytes; told = told; from = from; warned = warned }) (vstruct vnil ∷ [])) ((λ vss. (tt, tt)), tt) ((tt, (refl, tt)), tt) $
    use0 𝓛 (raw (fact 𝓤 Told)) (fact_i 𝓤 Told (emp 𝓤) (refl, refl, refl, refl)) $ nothing ! $ nothing ! $ fjoin ! $
    returns ! (look_at ! 0 refl) $ free_all ! refl $ keep ! (3 ∷ 0 ∷ 2 ∷ 1 ∷ []) $
    by ! (leaves 𝓛 ended hs c z (vstruct vnil) (record { bytes = bytes; told = told; from = from; warned = warned }) (tt, tt) (tt, tt))))
