-- What clients have heard of in a log without times.
use Rattle.std.specs.Prelude.{◌≡◌, ℕ, ◌<◌, ◌&&◌, true, cond, List, Option, None, Some}
use Rattle.fdb_lines.specs.declared.line.Operation.{Operation}
use Rattle.fdb_lines.specs.declared.line.Line.{Line}
use Rattle.fdb_lines.specs.declared.fault.Means.{Means}
use Rattle.fdb_lines.specs.declared.fault.Means.TheVariants.{Ended, Own, Learnt}
use Rattle.fdb_lines.specs.declared.fault.Witness.{Witness}
use Rattle.fdb_lines.specs.declared.known.Exposure.{Exposure}
use Rattle.fdb_lines.specs.Before.{has_heard, one_client}
use Rattle.fdb_lines.specs.Lines.{line_at, kind_of, is_learn, teller_of}
use Rattle.fdb_lines.specs.private.Known.{counts_at, IsKnownBy}
use Rattle.fdb_lines.specs.private.Exposure.{counts}

-- ---- what the code computes from one line to the next

abbrev pub heard_of : (ℕ → Option Witness) → Option ℕ → Option Witness
heard_of newest None = None
heard_of newest (Some a) = newest a

abbrev pub learnt_by : ℕ → Option Witness → Option Witness
learnt_by place None = None
learnt_by place (Some by) = Some (record { place = by.place; means = Learnt place })

-- what a line lets its client learn of
abbrev pub gained : Exposure → (ℕ → Option Witness) → ℕ → Operation → Option Witness
gained seen newest place call =
    cond (is_learn (kind_of call)) (learnt_by place (newest (teller_of call)))
    (cond (counts seen (kind_of call)) (Some (record { place = place; means = Own })) None)

-- ---- what it means: of all lines that were heard of, one whose version is newest

-- how a client heard of a line by the first n lines
abbrev pub IsHeardAs : List Line → ℕ → ℕ → ℕ → Means → Type 0
IsHeardAs lines n a j Ended = ⊥
IsHeardAs lines n a j Own = one_client (line_at lines j).client (Some a) ≡ true
IsHeardAs lines n a j (Learnt m) =
    (m < n) × (one_client (line_at lines m).client (Some a) ≡ true) × (is_learn (kind_of (line_at lines m).call) ≡ true)
    × (has_heard lines m (teller_of (line_at lines m).call) j ≡ true)

abbrev pub IsHeard : Exposure → List Line → ℕ → ℕ → Option Witness → Type 0
IsHeard seen lines n a =
    IsKnownBy (λ j. has_heard lines n a j && counts_at seen lines j) (λ (by : Witness). IsHeardAs lines n a by.place by.means) lines
