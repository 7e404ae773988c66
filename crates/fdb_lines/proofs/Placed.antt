-- Where each key has an order, its lines are explained.
use Rattle.std.proofs.Common.{◌≡◌, ℕ, ◌<◌, ◌+◌, List, [], ◌∷◌, ◌++◌, Option, None, length, map, take, slice_index, get_or, refl, ap, sym, subst, ◌∙◌, inl, inr, arith}
use Rattle.std.proofs.lemmas.Bool.{cases_lt}
use Rattle.std.proofs.lemmas.List.{get_or-map, length-map, map_push, take_more}
use Rattle.std.specs.List.{All}
use Rattle.std.proofs.lemmas.List.Elements.{All-append, All-cons, All-nil}
use Rattle.fdb_lines.specs.declared.order.KeyOrder.{KeyOrder}
use Rattle.fdb_lines.specs.declared.log.AuditOpts.{AuditOpts}
use Rattle.fdb_lines.specs.declared.slot.OrderStep.{OrderStep}
use Rattle.fdb_lines.specs.Audit.{case_of, AreExplained}
use Rattle.fdb_lines.specs.KeyOrders.{placed_step, IsOrderOfKey}
use Rattle.fdb_lines.specs.Keys.{case_of_key, key_at, keys_of, lines_of_key, places_of, AreExplainedByKey}
use Rattle.fdb_lines.specs.Lines.{line_at, part_of, Lines}
use Rattle.fdb_lines.specs.Listing.{faults_below}
use Rattle.fdb_lines.specs.OrderSteps.{effects_of, IsOrderOf}
use Rattle.fdb_lines.specs.private.KeyOrders.{AreOrdersOf}
use Rattle.fdb_lines.proofs.Keyed.{has_key, place_is, same_is}
use Rattle.fdb_lines.proofs.Listed.{explained_by_length}

-- one of the lines of each key
some_of : (orders : List KeyOrder) (i : ℕ) → i < length orders → KeyOrder
some_of [] i lt = absurd (omega (arith, lt))
some_of (order ∷ orders) i lt = order

no_lines : (log : Lines) (keys : List (Option ℕ)) (opts : AuditOpts) (key : Option ℕ) → length (places_of keys key) ≡ 0 → AreExplained (case_of_key log keys opts key)
no_lines log keys opts key none =
    let c = case_of_key log keys opts key in
    let size : length (lines_of_key log keys key).lines ≡ 0 = length-map (places_of keys key) (line_at log.lines) ∙ none in
    (explained_by_length (lines_of_key log keys key) opts _ refl).0 (subst (λ n. length (faults_below c n) ≡ 0) (sym size) refl)

pub all_explained : (log : Lines) (keys : List (Option ℕ)) (opts : AuditOpts) (orders : List KeyOrder) → AreOrdersOf log keys opts (keys_of keys) orders
    → AreExplainedByKey log keys opts
all_explained log keys opts orders (names, all) key = elim (cases_lt 0 (length (places_of keys key))) [
  | inl some ↦
      let of = λ (order : KeyOrder). order.key in
      let is = place_is keys key (length keys) 0 some in
      let has = has_key keys (length keys) (slice_index (places_of keys key) 0) is.0 in
      let i = has.0 in
      let within = has.1 in
      let lt : i < length orders = (let size = length-map orders of in let same = ap length names in omega arith) in
      let d = some_of orders i lt in
      let its : (get_or orders i d).key ≡ key =
      sym (get_or-map of orders i d None lt) ∙ (ap (λ ks. key_at ks i) names ∙ (has.2 ∙ same_is _ _ is.1)) in
      let order = all i d lt in
      subst (λ q. AreExplained (case_of_key log keys opts q)) its (effects_of order.0, order.1.explains)
  | inr ge ↦ no_lines log keys opts key (omega arith)
]

-- ---- one order more

module _ (log : Lines) (opts : AuditOpts) (keys : List (Option ℕ)) where
  pub order_of : (part : Lines) (key : Option ℕ) (places : List ℕ) (steps : List OrderStep) (order : KeyOrder) → places ≡ places_of keys key → part ≡ part_of log places
      → order.key ≡ key → IsOrderOf (case_of part opts) steps → order.steps.items ≡ map (placed_step places) steps → IsOrderOfKey log keys opts order
  order_of part key places steps order is of_part its explains placed =
      let mine : places ≡ places_of keys order.key = is ∙ ap (places_of keys) (sym its) in
      let lines : part ≡ lines_of_key log keys order.key = of_part ∙ ap (part_of log) mine in
      (steps, subst (λ (ls : Lines). IsOrderOf (case_of ls opts) steps) lines explains, placed ∙ ap (λ (ps : List ℕ). map (placed_step ps) steps) mine)

  pub orders_more : (n : ℕ) (before after : List KeyOrder) (order : KeyOrder) → n < length (keys_of keys) → after ≡ before ++ order ∷ []
      → order.key ≡ key_at (keys_of keys) n → IsOrderOfKey log keys opts order → AreOrdersOf log keys opts (take n (keys_of keys)) before
      → AreOrdersOf log keys opts (take (n + 1) (keys_of keys)) after
  orders_more n before after order next added its one are =
      let names = keys_of keys in
      let of = λ (order : KeyOrder). order.key in
      let P = IsOrderOfKey log keys opts in (
        ap (map of) added
            ∙ (map_push of before order
            ∙ (ap (λ (ks : List (Option ℕ)). ks ++ order.key ∷ []) are.0
            ∙ (ap (λ (key : Option ℕ). take n names ++ key ∷ []) its ∙ sym (take_more names n None next)))),
        subst (All P) (sym added) (All-append P before (order ∷ []) are.1 (All-cons P order [] one (All-nil P))),
      )
