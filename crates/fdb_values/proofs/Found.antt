-- The zones of lines, found one line after another.
use Rattle.std.proofs.Common.{◌≡◌, ℕ, suc, true, false, cond, max, List, Some, ap, sym, ◌∙◌, inl, inr, arith}
use Rattle.std.specs.BTreeMap.{BTreeMap, get}
use Rattle.std.specs.Option.{unwrap_or}
use Rattle.std.specs.Ordering.{is_eq, nat_cmp}
use Rattle.std.proofs.lemmas.Bool.{cases_eq}
use Rattle.std.proofs.lemmas.Bool.Decides.{nat_tests}
use Rattle.fdb_lines.specs.declared.line.Line.{Line}
use Rattle.fdb_lines.specs.Before.{began, ended}
use Rattle.fdb_lines.specs.Lines.{line_at}
use Rattle.fdb_values.specs.declared.zones.Zone.{Zone}
use Rattle.fdb_values.specs.ByValue.{value_at}
use Rattle.fdb_values.specs.Standings.{HasZones, no_zone, zone_in}
use Rattle.fdb_values.specs.Zones.{first_end, last_begin, sooner}

is_same : (a b : ℕ) → a ≡ b → is_eq (nat_cmp a b) ≡ true
is_same a b same = grind (arith, nat_tests)

is_other : (a b : ℕ) → (a ≡ b → ⊥) → is_eq (nat_cmp a b) ≡ false
is_other a b ne = grind (arith, nat_tests)

first_same : (lines : List Line) (k v : ℕ) → value_at lines k ≡ v → first_end lines v (suc k) ≡ sooner (ended (line_at lines k)) (first_end lines v k)
first_same lines k v is = grind (arith, nat_tests)

first_other : (lines : List Line) (k v : ℕ) → (value_at lines k ≡ v → ⊥) → first_end lines v (suc k) ≡ first_end lines v k
first_other lines k v ne = grind (arith, nat_tests)

last_same : (lines : List Line) (k v : ℕ) → value_at lines k ≡ v → last_begin lines v (suc k) ≡ max (began (line_at lines k)) (last_begin lines v k)
last_same lines k v is = grind (arith, nat_tests)

last_other : (lines : List Line) (k v : ℕ) → (value_at lines k ≡ v → ⊥) → last_begin lines v (suc k) ≡ last_begin lines v k
last_other lines k v ne = grind (arith, nat_tests)

pub zone_more : (lines : List Line) (k value : ℕ) (zones made : BTreeMap ℕ Zone) (zone : Zone) → value_at lines k ≡ value
    → ((q : ℕ) → get nat_cmp made q ≡ cond (is_eq (nat_cmp value q)) (Some zone) (get nat_cmp zones q))
    → zone.first ≡ sooner (ended (line_at lines k)) (zone_in zones value).first
    → zone.last ≡ max (began (line_at lines k)) (zone_in zones value).last
    → HasZones lines k zones → HasZones lines (suc k) made
zone_more lines k value zones made zone is puts first last has v = elim (cases_eq value v) [
  | inl same ↦
      let here : zone_in made v ≡ zone = ap (λ o. unwrap_or o no_zone) (puts v ∙ ap (λ b. cond b (Some zone) (get nat_cmp zones v)) (is_same value v same)) in
      let at : zone_in zones value ≡ zone_in zones v = ap (zone_in zones) same in (
        ap (λ (z : Zone). z.first) here ∙ (first ∙ (ap (λ (z : Zone). sooner (ended (line_at lines k)) z.first) at
            ∙ (ap (sooner (ended (line_at lines k))) (has v).0 ∙ sym (first_same lines k v (is ∙ same))))),
        ap (λ (z : Zone). z.last) here ∙ (last ∙ (ap (λ (z : Zone). max (began (line_at lines k)) z.last) at
            ∙ (ap (max (began (line_at lines k))) (has v).1 ∙ sym (last_same lines k v (is ∙ same))))),
      )
  | inr other ↦
      let here : zone_in made v ≡ zone_in zones v = ap (λ o. unwrap_or o no_zone) (puts v ∙ ap (λ b. cond b (Some zone) (get nat_cmp zones v)) (is_other value v other)) in (
        ap (λ (z : Zone). z.first) here ∙ ((has v).0 ∙ sym (first_other lines k v (λ same. other (sym is ∙ same)))),
        ap (λ (z : Zone). z.last) here ∙ ((has v).1 ∙ sym (last_other lines k v (λ same. other (sym is ∙ same)))),
      )
]
