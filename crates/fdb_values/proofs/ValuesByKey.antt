-- What holds of lines holds of those of a key, by the ranks of all.
use Rattle.std.proofs.Common.{◌≡◌, ◌≢◌, ◌↔◌, ℕ, ◌<◌, true, List, length, map, Option, None, Some, IfSome, slice_index, refl, ap, sym, ◌∙◌, inl, inr, arith}
use Rattle.std.proofs.lemmas.Bool.{cases_eq, cases_lt}
use Rattle.std.proofs.lemmas.List.{get_or-map, length-map, ext_get_or}
use Rattle.fdb_lines.specs.declared.line.Line.{Line}
use Rattle.fdb_lines.specs.Audit.{AreExplained, case_of}
use Rattle.fdb_lines.specs.declared.log.AuditOpts.{AuditOpts}
use Rattle.fdb_lines.specs.Before.{began}
use Rattle.fdb_lines.specs.Carried.{is_past, with_times}
use Rattle.fdb_lines.specs.Faults.{IsFaultless}
use Rattle.fdb_lines.specs.Judged.{AreExplainedIn}
use Rattle.fdb_lines.specs.KeyParts.{lines_of_one}
use Rattle.fdb_lines.specs.Keys.{key_at, places_of}
use Rattle.fdb_lines.specs.Lines.{Lines, kind_of, line_at, lines_in, nobody, version_of}
use Rattle.fdb_values.specs.ByValue.{AreByValue, AreExplainedByValue, IsOrderOfValues, SomeComesFirst, call_at, comes_first, ranked_line, start_value, value_at}
use Rattle.fdb_values.specs.ValuesByKey.{AreExplainedByValueIn, HaveOwnValues, IsRankedLog, opts_by_rank}
use Rattle.fdb_values.specs.Zones.{rank_by_zone}
use Rattle.fdb_values.proofs.ByZones.{zones_order}
use Rattle.fdb_values.proofs.Law.{law}
use Rattle.fdb_values.proofs.Facts.{at_part, apart as places_apart, has_place, of_key, same_self}

module _ (lines : List Line) (keys : List (Option ℕ)) (own : HaveOwnValues lines keys) (key : Option ℕ) where
  abbrev places : List ℕ
  places = places_of keys key

  abbrev part : List Line
  part = lines_of_one lines keys key

  abbrev place : ℕ → ℕ
  place i = slice_index places i

  many : length part ≡ length places
  many = length-map places (line_at lines)

  inside : (i : ℕ) → i < length part → i < length places
  inside i lt = omega (arith, many)

  within : (i : ℕ) → i < length part → place i < length lines
  within i lt = (let it = of_key keys key places refl i (inside i lt) in omega (arith, it.0, own.many))

  line_is : (i : ℕ) → i < length part → line_at part i ≡ line_at lines (place i)
  line_is i lt = at_part lines places i (inside i lt)

  value_is : (i : ℕ) → i < length part → value_at part i ≡ value_at lines (place i)
  value_is i lt = ap (λ (line : Line). version_of line.call) (line_is i lt)

  call_is : (i : ℕ) → i < length part → call_at part i ≡ call_at lines (place i)
  call_is i lt = ap (λ (line : Line). kind_of line.call) (line_is i lt)

  first_is : (margin i j : ℕ) → i < length part → j < length part → comes_first margin part i j ≡ comes_first margin lines (place i) (place j)
  first_is margin i j li lj = λ t. is_past margin (began (line_is j lj t)) (line_is i li t)

  -- the lines of a key are by value
  pub by_value : AreByValue lines → AreByValue part
  by_value by = record {
    calls = λ k lt. rw (call_is k lt) (by.calls (place k) (within k lt));
    once = λ j k lj lk one other same.
        places_apart keys key (length keys) j k (inside j lj) (inside k lk)
        (by.once (place j) (place k) (within j lj) (within k lk) (sym (call_is j lj) ∙ one) (sym (call_is k lk) ∙ other) (sym (value_is j lj) ∙ (same ∙ value_is k lk)));
    new = λ k lt commit is. by.new (place k) (within k lt) (sym (call_is k lt) ∙ commit) (sym (value_is k lt) ∙ is);
  }

  -- a line of a value that a line of the key has is of the key
  found : (k i : ℕ) → k < length lines → i < length part → value_at lines k ≡ value_at part i → value_at part i ≢ start_value
      → (p : ℕ) × (p < length part) × (place p ≡ k)
  found k i lk li same ne =
      let value : value_at lines k ≡ value_at lines (place i) = same ∙ value_is i li in
      let its : key_at keys k ≡ key = own.own k (place i) lk (within i li) value (λ is. ne (sym same ∙ is)) ∙ (of_key keys key places refl i (inside i li)).1 in
      let has = has_place keys key (length keys) k (rw its (same_self key)) (omega (arith, own.many)) in
      (_, omega (arith, has.0, many), has.1)

  -- values are in order by the ranks of all
  pub in_order : (margin : ℕ) (rank : ℕ → ℕ) → IsOrderOfValues margin lines rank → IsOrderOfValues margin part rank
  in_order margin rank o = record {
    first = o.first;
    others = λ k lt none. value_is k lt ∙ o.others (place k) (within k lt) (ap rank (sym (value_is k lt)) ∙ none);
    apart = λ j k lj lk same.
        value_is j lj ∙ (o.apart (place j) (place k) (within j lj) (within k lk) (ap rank (sym (value_is j lj)) ∙ (same ∙ ap rank (value_is k lk))) ∙ sym (value_is k lk));
    ordered = ordered;
  }
    where
      ordered : (j k : ℕ) → j < length part → k < length part → comes_first margin part j k ≡ true → value_at part j ≢ value_at part k
          → value_at part k ≢ start_value → (SomeComesFirst margin part (value_at part k) (value_at part j) → ⊥) → rank (value_at part j) < rank (value_at part k)
      ordered j k lj lk before ne other none = elim (cases_eq (value_at part j) start_value) [
        | inl is ↦
            let zero : rank (value_at part j) ≡ 0 = ap rank is ∙ o.first in
            elim (cases_eq (rank (value_at part k)) 0) [
              | inl low ↦ absurd (other (value_is k lk ∙ o.others (place k) (within k lk) (ap rank (sym (value_is k lk)) ∙ low)))
              | inr high ↦ omega (arith, zero, high)
            ]
        | inr not ↦
            let less = o.ordered (place j) (place k) (within j lj) (within k lk) (sym (first_is margin j k lj lk) ∙ before)
            (λ same. ne (value_is j lj ∙ (same ∙ sym (value_is k lk)))) (λ is. other (value_is k lk ∙ is))
            (λ some.
            let a = found some.0 k some.2 lk (some.4 ∙ sym (value_is k lk)) other in
            let b = found some.1 j some.3 lj (some.5 ∙ sym (value_is j lj)) not in
            none (
              a.0,
              b.0,
              a.1,
              b.1,
              value_is a.0 a.1 ∙ (ap (value_at lines) a.2 ∙ (some.4 ∙ sym (value_is k lk))),
              value_is b.0 b.1 ∙ (ap (value_at lines) b.2 ∙ (some.5 ∙ sym (value_is j lj))),
              first_is margin a.0 b.0 a.1 b.1 ∙ ((λ t. comes_first margin lines (a.2 t) (b.2 t)) ∙ some.6),
            )) in
            omega (arith, less, ap rank (value_is j lj), ap rank (value_is k lk))
      ]

  -- ranked, they are those of the ranked lines
  pub ranked_part : (rank : ℕ → ℕ) → lines_in (map (ranked_line rank) lines) places ≡ map (ranked_line rank) part
  ranked_part rank = ext_get_or nobody (lines_in (map (ranked_line rank) lines) places) (map (ranked_line rank) part)
      (length-map places (line_at (map (ranked_line rank) lines)) ∙ (sym many ∙ sym (length-map part (ranked_line rank))))
      (λ i lt.
      let li : i < length places = omega (arith, lt, length-map places (line_at (map (ranked_line rank) lines))) in
      let lp : i < length part = omega (arith, li, many) in
      at_part (map (ranked_line rank) lines) places i li
      ∙ (get_or-map (ranked_line rank) lines (place i) nobody nobody (within i lp)
      ∙ (ap (ranked_line rank) (sym (line_is i lp)) ∙ sym (get_or-map (ranked_line rank) part i nobody nobody lp))))

-- ---- logs of ranked lines

-- of the laws that this stands on: no fault stands exactly where lines are explained
abbrev pub ExplainedExactly : Type 0
ExplainedExactly = (log : Lines) (opts : AuditOpts) → IsFaultless (case_of log opts) ↔ AreExplained (case_of log opts)

module _ (exact : ExplainedExactly) (margin : ℕ) (lines : List Line) (rank : ℕ → ℕ) (by : AreByValue lines) (o : IsOrderOfValues margin lines rank)
    (log : Lines) (are : log.lines ≡ map (ranked_line rank) lines) (timed : 0 < length lines → log.timed ≡ true) where
  -- with a line or more they have times, and of none there is nothing to say
  pub judged : AreExplained (case_of log (opts_by_rank margin)) ↔ AreExplainedByValue margin lines
  judged = elim (cases_lt 0 (length lines)) [
    | inl some ↦
        let is : log ≡ with_times (map (ranked_line rank) lines) = λ t. record { timed = timed some t; lines = are t } in
        let same = law margin lines rank by o in
        let explained = exact (with_times (map (ranked_line rank) lines)) (opts_by_rank margin) in
        rw is ((λ e. same.0 (explained.1 e)), (λ e. explained.0 (same.1 e)))
    | inr none ↦
        let empty : length log.lines ≡ 0 = omega (arith, none, ap length are, length-map lines (ranked_line rank)) in (
          (λ e. (
            (λ k. k),
            record {
              apart = λ j k lj lk same. absurd (omega (arith, lj, none));
              ordered = λ j k lj lk first. absurd (omega (arith, lj, none));
              reads = λ k lk read. absurd (omega (arith, lk, none));
            },
          )),
          (λ e. (exact log (opts_by_rank margin)).0 (λ fault k lt. absurd (omega (arith, lt, empty)))),
        )
  ]

pub judged_in : ExplainedExactly → (margin : ℕ) (lines : List Line) (keys : Option (List (Option ℕ))) (log : Lines) → AreByValue lines → IfSome keys (HaveOwnValues lines)
    → IsRankedLog margin lines log → AreExplainedIn log keys (opts_by_rank margin) ↔ AreExplainedByValueIn margin lines keys
judged_in exact margin lines None log by own is = judged exact margin lines (rank_by_zone margin lines) by (zones_order margin lines) log is.ranks is.timed
judged_in exact margin lines (Some keys) log by own is = ((λ e key. (each key).0 (e key)), (λ e key. (each key).1 (e key)))
  where
    each : (key : Option ℕ) → AreExplained (case_of (record { timed = log.timed; lines = lines_in log.lines (places_of keys key) }) (opts_by_rank margin))
        ↔ AreExplainedByValue margin (lines_of_one lines keys key)
    each key =
        judged exact margin (lines_of_one lines keys key) (rank_by_zone margin lines) (by_value lines keys own key by)
        (in_order lines keys own key margin (rank_by_zone margin lines) (zones_order margin lines))
        (record { timed = log.timed; lines = lines_in log.lines (places_of keys key) })
        (ap (λ all. lines_in all (places_of keys key)) is.ranks ∙ ranked_part lines keys own key (rank_by_zone margin lines))
        (λ some. is.timed (omega (arith, within lines keys own key 0 some)))
