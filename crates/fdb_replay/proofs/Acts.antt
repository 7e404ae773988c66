-- Which clients act in a round.
use Rattle.std.proofs.Common.{◌≡◌, ◌≢◌, ℕ, ◌+◌, ◌<◌, ◌≤◌, Bool, true, false, List, ◌∷◌, length, drop, get_or, set, slice_index_or, refl, ap, sym, ◌∙◌, subst, arith}
use Rattle.std.proofs.lemmas.Bool.{ne_eqb}
use Rattle.std.proofs.lemmas.List.{get_or-set_other, get_or-set_same, get_or_past}
use Rattle.fdb_replay.proofs.Runs.{left_is}
use Rattle.fdb_script.specs.Answering.{commands_of}
use Rattle.fdb_script.specs.declared.script.Command.{Command}

-- a client whose place is unset has none of these commands but those that are left
abbrev pub SoFar : List Bool → List Command → ℕ → Type 0
SoFar acts commands place = (client : ℕ) → slice_index_or acts client true ≡ false → commands_of client commands ≡ commands_of client (drop place commands)

not_its : (client : ℕ) (command : Command) (commands : List Command) → command.client ≢ client → commands_of client (command ∷ commands) ≡ commands_of client commands
not_its client command commands other = rw (ne_eqb command.client client other) refl

pub one_set : (acts : List Bool) (commands : List Command) (place : ℕ) (command : Command) → place < length commands → command ≡ get_or commands place command → command.client < length acts
    → SoFar acts commands place → SoFar (set acts command.client true) commands (place + 1)
one_set acts commands place command within is inside so_far client unset =
    let other : command.client ≢ client = λ same.
    absurd (let set_now : get_or (set acts command.client true) command.client true ≡ true = get_or-set_same acts command.client true true inside in
    let bad : true ≡ false = sym set_now ∙ subst (λ n. get_or (set acts command.client true) n true ≡ false) (sym same) unset in cc) in
    let as_before : get_or acts client true ≡ false = sym (get_or-set_other acts command.client client true true (λ same. other (sym same))) ∙ unset in
    so_far client as_before ∙ ap (commands_of client) (left_is commands place command within is) ∙ not_its client command (drop (place + 1) commands) other

pub none_set : (acts : List Bool) (commands : List Command) (place : ℕ) (command : Command) → place < length commands → command ≡ get_or commands place command → length acts ≤ command.client
    → SoFar acts commands place → SoFar acts commands (place + 1)
none_set acts commands place command within is outside so_far client unset =
    let other : command.client ≢ client = λ same.
    absurd (let past : get_or acts client true ≡ true = get_or_past acts client true (omega (arith, outside, same)) in
    let bad : true ≡ false = sym past ∙ unset in cc) in
    so_far client unset ∙ ap (commands_of client) (left_is commands place command within is) ∙ not_its client command (drop (place + 1) commands) other
