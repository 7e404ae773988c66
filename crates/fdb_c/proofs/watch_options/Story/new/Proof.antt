-- `new` makes a value of no bytes.
use Rattle.std.proofs.Common.{◌≡◌, List, [], ◌∷◌, refl}
use mir.Val.{Val, vstruct, vnil}
use base.Logic.{SProp, emp}
use types.Kit.{‵, raw, ◌⊛◌, ◌$◌, ◌∵◌, !, qed, by, keep, split, use0}
use types.Run.{no_more, returns, enter}
use types.ByLocal.{alloc_all, pass_all, free_all, look_at, sets}
use types.Part.{agg}
use contract.Monad.{fact, fact_i}
use contract.Running.{tables}
use denote.RattleType.{owns}
use denote.Shadow.{pure_i}
use denote.Signature.{types_at}
use denote.Steps.{nothing}
use denote.Triple.Entry.{alive}
use denote.Triple.Walked.{Stays, walk_of}
use Rattle.std.specs.Prelude.{ℕ, Option, None}
use Rattle.std.proofs.raw_atomic.Walks.{proved_at, leaves}
use Rattle.fdb_c.specs.contracts.watch_options.Story as story
use Rattle.fdb_c.specs.contracts.watch_options.Story.new.{ended, clauses}
use Rattle.fdb_c.specs.contracts.watch_options.Story.new.Key.{name as #self}
use Rattle.fdb_c.proofs.watch_options.Story.new.Statement.{statement}
use Rattle.fdb_c.proofs.watch_options.Story.new.Code as code

abbrev hs : Stays ended.signature.params ended.kept
hs = tt

abbrev nobody : List ℕ
nobody = []

abbrev nowhere : Option (List ℕ)
nowhere = None

abbrev Told : Type 0
Told = (nobody ≡ nobody) × (nobody ≡ nobody) × (nowhere ≡ nowhere) × (nobody ≡ nobody)

pub new_spec : {M : Type 1} → statement M
new_spec 𝓤 𝓛 𝓜 𝓡 wired =
    let H = 𝓛.H in let 𝓣 = tables 𝓤 H 𝓜 𝓡 𝓡.env in let fn = code.function in let c = clauses 𝓛 𝓜.mem 𝓡.returns in
    proved_at 𝓛 ended hs c 𝓜 𝓡 tt #self fn (code.unfolded 𝓤 H 𝓜 𝓡 wired) (λ z are.
    let Post : Val → SProp 𝓤 = (walk_of 𝓛 ended hs c).post z in
    qed 𝓛 ((raw (alive 𝓛 ended.signature z.0.0 z.0.1) ⊛ ‵ (owns (types_at ended.signature.params z.0.0) z.0.3 z.0.4)) ∷ raw ((c z.0.0 z.0.3).requires z.1) ∷ []) ∵
    split ! $
    enter ! 𝓣.C 𝓣.Λ fn [] Post $ alloc_all ! (λ l. pass_all ! refl tt $
    -- Story {}
    sets ! (agg ! (no_more !)) refl (tt, tt) $
    pure_i ! (story.the_row.own_val (record { bytes = []; told = []; from = None; warned = [] }) (vstruct vnil ∷ [])) ((λ vss. (tt, tt)), tt) ((tt, (refl, tt)), tt) $
    use0 𝓛 (raw (fact 𝓤 Told)) (fact_i 𝓤 Told (emp 𝓤) (refl, refl, refl, refl)) $ nothing ! $
    returns ! (look_at ! 0 refl) $ free_all ! refl $ keep ! (3 ∷ 0 ∷ 2 ∷ 1 ∷ []) $
    by ! (leaves 𝓛 ended hs c z (vstruct vnil) (record { bytes = []; told = []; from = None; warned = [] }) tt tt)))
