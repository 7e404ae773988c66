-- The order that explains lines without a fault: by version, and at a version first its ask, then the report of the
-- commits that share it (or of others), then the reports that raise, and then the reads, and the reports that came late.
use Rattle.std.specs.Prelude.{◌≡◌, ℕ, zero, suc, ◌+◌, ◌*◌, ◌<◌, ◌==◌, ◌&&◌, ◌||◌, not, nat_lt, Bool, true, false, cond, List, [], ◌∷◌, map, length, IsTrue}
use Rattle.fdb_lines.specs.declared.slot.Effect.{Effect}
use Rattle.fdb_lines.specs.declared.slot.Effect.TheVariants.{Asks, Reports, Reads}
use Rattle.fdb_lines.specs.declared.line.Line.{Line}
use Rattle.fdb_lines.specs.Lines.{Kind, Read, Commit, Ask, Report, Learn, Case, kind_at, version_at, line_at, shows, is_read, is_learn}
use Rattle.fdb_lines.specs.Before.{began}
use Rattle.fdb_lines.specs.Faults.{knows, is_reported}

pub record Item : Type 0 where
  pub stage : ℕ
  pub rank : ℕ
  pub effect : Effect

abbrev pub ask_item : ℕ → Item
ask_item v = record { stage = 4 * v; rank = 0; effect = Asks v }

abbrev pub shared_item : ℕ → Item
shared_item v = record { stage = 4 * v + 1; rank = 0; effect = Reports v }

-- a report that raises stands at its version, and a late one at what was known
abbrev pub report_item : Bool → ℕ → ℕ → ℕ → Item
report_item true rank known v = record { stage = 4 * v + 2; rank = rank; effect = Reports v }
report_item false rank known v = record { stage = 4 * known + 3; rank = rank; effect = Reports v }

abbrev pub take_by : Kind → ℕ → ℕ → ℕ → Item
take_by Read rank known v = record { stage = 4 * v + 3; rank = rank; effect = Reads v }
take_by Commit rank known v = shared_item v
take_by Ask rank known v = shared_item v
take_by Report rank known v = report_item (nat_lt known v) rank known v
take_by Learn rank known v = shared_item v

abbrev pub take_item : Case → (ℕ → ℕ) → ℕ → Item
take_item c rank k = take_by (kind_at c k) (rank k) (knows c k) (version_at c k)

-- each version is asked for, unless all begins with it; what nobody reports and is read was reported by others
abbrev pub needs_ask : Case → ℕ → Bool
needs_ask c k = not (is_learn (kind_at c k)) && not (is_read (kind_at c k) && (version_at c k == c.start))

abbrev pub needs_report : Case → ℕ → Bool
needs_report c k = is_read (kind_at c k) && (not (version_at c k == c.start) && not (is_reported c (version_at c k)))

abbrev pub key_lt : Item → Item → Bool
key_lt x y = nat_lt x.stage y.stage || (x.stage == y.stage && nat_lt x.rank y.rank)

-- an item in its place, unless it is there
abbrev pub put : Item → List Item → List Item
put x [] = x ∷ []
put x (y ∷ ys) = cond (key_lt x y) (x ∷ y ∷ ys) (cond (key_lt y x) (y ∷ put x ys) (y ∷ ys))

abbrev pub put_if : Bool → Item → List Item → List Item
put_if b x ys = cond b (put x ys) ys

abbrev pub sorted : Case → (ℕ → ℕ) → ℕ → List Item
sorted c rank zero = []
sorted c rank (suc k) =
    put_if (needs_ask c k) (ask_item (version_at c k))
    (put_if (shows (kind_at c k)) (take_item c rank k)
    (put_if (needs_report c k) (shared_item (version_at c k)) (sorted c rank k)))

abbrev pub history : Case → (ℕ → ℕ) → List Effect
history c rank = map (λ x. x.effect) (sorted c rank (length c.lines))

-- What the proof needs of the order: it is transitive, and no line comes before one with a lower rank.
pub record IsRanked (c : Case) (rank : ℕ → ℕ) : Type 0 where
  pub transitive : (i j k : ℕ) → i < length c.lines → j < length c.lines → k < length c.lines
      → IsTrue (c.before i j) → IsTrue (c.before j k) → IsTrue (c.before i k)
  pub climbs : (j k : ℕ) → j < length c.lines → k < length c.lines → IsTrue (c.before j k) → rank j < rank k
  pub apart : (j k : ℕ) → j < length c.lines → k < length c.lines → rank j ≡ rank k → j ≡ k

-- A rank of lines: by when the calls began, and then by place; without times by place.
abbrev pub began_rank : List Line → ℕ → ℕ
began_rank lines k = length lines * began (line_at lines k) + k

abbrev pub rank_of : Bool → List Line → ℕ → ℕ
rank_of true lines = began_rank lines
rank_of false lines = λ k. k
