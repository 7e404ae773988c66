-- A client does its commands, call by call.
use Rattle.std.proofs.Common.{◌≡◌, ◌≢◌, ℕ, ◌+◌, ◌<◌, List, [], ◌∷◌, ◌++◌, length, drop, get_or, refl, ap, sym, ◌∙◌, append_assoc}
use Rattle.std.specs.List.{FoldsTo}
use Rattle.std.proofs.lemmas.Bool.{eq-eqb, ne_eqb}
use Rattle.std.proofs.lemmas.List.{append-nil, drop_at}
use Rattle.fdb_history.specs.Added.{AddsCall}
use Rattle.fdb_history.specs.declared.log.Call.{Call}
use Rattle.fdb_history.specs.declared.log.Input.{Input}
use Rattle.fdb_replay.proofs.Runs.{left_is}
use Rattle.fdb_replay.specs.private.Rounds.{Tell, tells_by, tells_in}
use Rattle.fdb_script.specs.Answering.{AnswersCommand, commands_of}
use Rattle.fdb_script.specs.declared.script.Command.{Command}

-- there may be calls behind those before
pub record Grows (before after : List Call) : Type 0 where
  pub more : List Call
  pub is : after ≡ before ++ more

pub not_grown : (calls : List Call) → Grows calls calls
not_grown calls = record { more = []; is = sym (append-nil calls) }

pub grown_more : (old before after : List Call) (wanted : Input) → Grows old before → AddsCall before wanted after → Grows old after
grown_more old before after wanted so_far added = record {
  more = so_far.more ++ added.call ∷ [];
  is = added.added ∙ ap (λ calls. calls ++ added.call ∷ []) so_far.is ∙ append_assoc old so_far.more (added.call ∷ []);
}

tells_both : (from : ℕ) (these those : List Call) → tells_in from (these ++ those) ≡ tells_in from these ++ tells_in from those
tells_both from [] those = refl
tells_both from (call ∷ these) those =
    ap (λ told. tells_by from call.position call.input ++ told) (tells_both from these those)
    ∙ sym (append_assoc (tells_by from call.position call.input) (tells_in from these) (tells_in from those))

-- what is told by one call more
pub tells_more : (from : ℕ) (old before after : List Call) (wanted : Input) (so_far now : List Tell) → Grows old before → AddsCall before wanted after → so_far ≡ tells_in from (drop (length old) before)
    → now ≡ so_far ++ tells_in from (drop (length before) after) → now ≡ tells_in from (drop (length old) after)
unfolding grown_more
tells_more from old before after wanted so_far now grown added told is =
    let until : drop (length old) before ≡ grown.more = ap (drop (length old)) grown.is ∙ drop_at old grown.more (length old) refl in
    let last : drop (length before) after ≡ added.call ∷ [] = ap (drop (length before)) added.added ∙ drop_at before (added.call ∷ []) (length before) refl in
    let more = grown_more old before after wanted grown added in
    let all : drop (length old) after ≡ grown.more ++ added.call ∷ [] = ap (drop (length old)) more.is ∙ drop_at old more.more (length old) refl in
    is ∙ rw (told, until, last, all) (sym (tells_both from grown.more (added.call ∷ [])))

-- a command of the client's own is done
pub one_command_more : (client place : ℕ) (commands : List Command) (command : Command) (before after last : List Call) → place < length commands → command ≡ get_or commands place command
    → command.client ≡ client → AnswersCommand before command after → FoldsTo AnswersCommand after (commands_of client (drop (place + 1) commands)) last
    → FoldsTo AnswersCommand before (commands_of client (drop place commands)) last
one_command_more client place commands command before after last within is own answered rest =
    rw (left_is commands place command within is, eq-eqb command.client client own) (after, answered, rest)

-- a command of another is passed over
pub other_command : (client place : ℕ) (commands : List Command) (command : Command) (before last : List Call) → place < length commands → command ≡ get_or commands place command
    → command.client ≢ client → FoldsTo AnswersCommand before (commands_of client (drop (place + 1) commands)) last
    → FoldsTo AnswersCommand before (commands_of client (drop place commands)) last
other_command client place commands command before last within is other rest =
    rw (left_is commands place command within is, ne_eqb command.client client other) rest
