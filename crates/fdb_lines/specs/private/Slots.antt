-- Slots: effects, and where they stand in an order.
use Rattle.std.specs.Option.{option_eq}
use Rattle.std.specs.Prelude.{ℕ, zero, suc, ◌+◌, ◌*◌, ◌^◌, ◌==◌, ◌&&◌, Bool, not, cond, List, [], ◌∷◌, ◌++◌, Option, None, Some, option_to_list, is_some}
use Rattle.fdb_lines.specs.declared.slot.Effect.{Effect}
use Rattle.fdb_lines.specs.declared.line.Line.{Line}
use Rattle.fdb_lines.specs.declared.slot.Key.{Key}
use Rattle.fdb_lines.specs.declared.slot.Slot.{Slot}
use Rattle.fdb_lines.specs.declared.slot.Stage.{Stage}
use Rattle.fdb_lines.specs.declared.slot.Stage.TheVariants.{Asked, Shared, Raising, Shown}
use Rattle.fdb_lines.specs.declared.slot.OrderStep.{OrderStep}
use Rattle.fdb_lines.specs.contracts.slot.KeyPartialEq.TheImpl.{eq-value}
use Rattle.fdb_lines.specs.Before.{began}
use Rattle.fdb_lines.specs.Faults.{is_reported, knows}
use Rattle.fdb_lines.specs.Lines.{Case, version_at, line_at, shows, draws, is_learn, is_read, kind_of, version_of}
use Rattle.fdb_lines.specs.Order.{Item, ask_item, shared_item, take_by}

abbrev pub stage_number : Stage → ℕ
stage_number Asked = 0
stage_number Shared = 1
stage_number Raising = 2
stage_number Shown = 3

abbrev pub item_by : ℕ → Stage → ℕ → ℕ → Effect → Item
item_by level stage began place effect = record { stage = 4 * level + stage_number stage; rank = began * 2 ^ 33 + place; effect = effect }

abbrev pub item_of : Slot → Item
item_of slot = item_by slot.key.level slot.key.stage slot.key.began slot.key.place slot.effect

-- a rank of lines: by when calls began, and then by place
abbrev pub slot_rank : List Line → ℕ → ℕ
slot_rank lines k = began (line_at lines k) * 2 ^ 33 + k

-- an item of the order by version, and the line whose effect it is, where there is one
abbrev pub entry_of : Slot → Item × Option ℕ
entry_of slot = (item_of slot, slot.place)

-- ---- what a line needs: an ask, its read or report, and a report by others

abbrev pub ask_entry : Line → ℕ → ℕ → Option (Item × Option ℕ)
ask_entry line k start =
    cond (not (is_learn (kind_of line.call)) && not (is_read (kind_of line.call) && (version_of line.call == start)))
    (Some (ask_item (version_of line.call), cond (draws (kind_of line.call)) (Some k) None)) None

abbrev pub take_entry : Line → ℕ → ℕ → Option (Item × Option ℕ)
take_entry line k known =
    cond (shows (kind_of line.call))
    (Some (take_by (kind_of line.call) (began line * 2 ^ 33 + k) known (version_of line.call), Some k)) None

abbrev pub report_entry : Line → ℕ → Bool → Option (Item × Option ℕ)
report_entry line start reported =
    cond (is_read (kind_of line.call) && (not (version_of line.call == start) && not reported))
    (Some (shared_item (version_of line.call), None)) None

abbrev pub entries_below : Case → ℕ → List (Item × Option ℕ)
entries_below c zero = []
entries_below c (suc k) =
    entries_below c k
    ++ option_to_list (ask_entry (line_at c.lines k) k c.start)
    ++ option_to_list (take_entry (line_at c.lines k) k (knows c k))
    ++ option_to_list (report_entry (line_at c.lines k) c.start (is_reported c (version_at c k)))

-- ---- the steps of slots

-- a slot shares the effect of the one above, if both stand at one place
abbrev pub shares : Option Key → Slot → Bool
shares above slot = option_eq eq-value.it (Some slot.key) above

-- others have no step beside a line
abbrev pub steps_from : Option Key → List Slot → List OrderStep
steps_from above [] = []
steps_from above (slot ∷ slots) =
    cond (shares above slot && not (is_some slot.place)) (steps_from (Some slot.key) slots)
    (record { effect = slot.effect; place = slot.place; shared = shares above slot } ∷ steps_from (Some slot.key) slots)
