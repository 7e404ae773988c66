-- The printed lines of a list of commands, one command or one client at a time.
use Rattle.std.proofs.Common.{◌≡◌, ◌≢◌, ℕ, suc, ◌+◌, ◌<◌, ◌==◌, List, [], ◌∷◌, ◌++◌, Bor, cond, count_by, length, map, drop, take, set, get_or, refl, sym, ap, ◌∙◌, append_assoc, arith}
use Rattle.std.proofs.lemmas.Bool.{eq-eqb, ne_eqb}
use Rattle.std.proofs.lemmas.List.{drop_more, drop-set-lt, get_or-map, length-map, map-set, take_more_set}
use Rattle.std.proofs.lemmas.List.Sums.{sum_by-cons}
use Rattle.fdb_history.specs.declared.log.Call.{Call}
use Rattle.fdb_script.specs.Text.{calls_after, client_lines, line, replies_of, reply_text, round_lines}
use Rattle.fdb_script.specs.declared.script.Command.{Command}

-- a part is written of all that is to come
pub part_written : (old new part rest all whole : List ℕ) → new ≡ old ++ part → all ≡ part ++ rest → old ++ all ≡ whole → new ++ rest ≡ whole
part_written old new part rest all whole written parts so_far = rw written (append_assoc old part rest ∙ ap (λ text. old ++ text) (sym parts) ∙ so_far)

-- ---- command by command

-- how many commands of a client there are
abbrev pub own_count : ℕ → List Command → ℕ
own_count client commands = count_by (λ command. command.client == client) commands

own_count-cons : (client : ℕ) (command : Command) (commands : List Command) → own_count client (command ∷ commands) ≡ cond (command.client == client) 1 0 + own_count client commands
own_count-cons client command commands = sum_by-cons (λ c. cond (c.client == client) 1 0) command commands

other_count : (client : ℕ) (command : Command) (commands : List Command) → command.client ≢ client → own_count client (command ∷ commands) ≡ own_count client commands
other_count client command commands other =
    let none : cond {A = ℕ} (command.client == client) 1 0 ≡ 0 = rw (ne_eqb command.client client other) refl in
    omega (arith, own_count-cons client command commands, none)

own_count_more : (client : ℕ) (command : Command) (commands : List Command) → command.client ≡ client → own_count client (command ∷ commands) ≡ suc (own_count client commands)
own_count_more client command commands own =
    let one : cond {A = ℕ} (command.client == client) 1 0 ≡ 1 = rw (eq-eqb command.client client own) refl in
    omega (arith, own_count-cons client command commands, one)

client_lines_none : (round client number : ℕ) (commands : List Command) → client_lines round client number commands [] ≡ []
client_lines_none round client number [] = refl
client_lines_none round client number (command ∷ commands) = refl

other_command : (round client number : ℕ) (command : Command) (commands : List Command) (calls : List Call) → command.client ≢ client
    → client_lines round client number (command ∷ commands) calls ≡ client_lines round client (number + 1) commands calls
other_command round client number command commands [] other = sym (client_lines_none round client (number + 1) commands)
other_command round client number command commands (call ∷ calls) other = rw (ne_eqb command.client client other) refl

own_command : (round client number : ℕ) (command : Command) (commands : List Command) (call : Call) (calls : List Call) → command.client ≡ client
    → client_lines round client number (command ∷ commands) (call ∷ calls) ≡ line (reply_text round client number command.act call) ++ client_lines round client (number + 1) commands calls
own_command round client number command commands call calls own = rw (eq-eqb command.client client own) refl

-- another client's command is passed over
pub passed_over : (round client number : ℕ) (commands : List Command) (calls : List Call) (command : Command) → number < length commands → command ≡ get_or commands number command → command.client ≢ client
    → (client_lines round client number (drop number commands) calls ≡ client_lines round client (number + 1) (drop (number + 1) commands) calls)
    × (own_count client (drop number commands) ≡ own_count client (drop (number + 1) commands))
passed_over round client number commands calls command within here other =
    let rest = drop (number + 1) commands in
    let left : drop number commands ≡ command ∷ rest = drop_more commands number command within ∙ ap (λ c. c ∷ rest) (sym here) in
    rw left (
      other_command round client number command rest calls other,
      other_count client command rest other,
    )

-- a command of the client's own is answered by its next call
pub replied : (round client number : ℕ) (commands : List Command) (call : Call) (calls : List Call) (command : Command) → number < length commands → command ≡ get_or commands number command → command.client ≡ client
    → (client_lines round client number (drop number commands) (call ∷ calls) ≡ line (reply_text round client number command.act call) ++ client_lines round client (number + 1) (drop (number + 1) commands) calls)
    × (drop (own_count client (drop number commands)) (call ∷ calls) ≡ drop (own_count client (drop (number + 1) commands)) calls)
replied round client number commands call calls command within here own =
    let rest = drop (number + 1) commands in
    let left : drop number commands ≡ command ∷ rest = drop_more commands number command within ∙ ap (λ c. c ∷ rest) (sym here) in
    rw left (own_command round client number command rest call calls own, ap (λ n. drop n (call ∷ calls)) (own_count_more client command rest own))

-- ---- client by client

-- the calls that are left of each client
abbrev pub calls_in : List (Bor (List Call)) → List (List Call)
calls_in left = map (λ calls. replies_of calls.now) left

-- the replies to a client's commands come before those to the others', and so do the calls after them
pub client_replied : (round client : ℕ) (commands : List Command) (left : List (Bor (List Call))) (here after : Bor (List Call)) → client < length left → here ≡ get_or left client here
    → replies_of after.now ≡ drop (own_count client commands) (replies_of here.now)
    → (round_lines round client commands (drop client (calls_in left)) ≡ client_lines round client 0 commands (replies_of here.now) ++ round_lines round (client + 1) commands (drop (client + 1) (calls_in (set left client after))))
    × (take client (calls_in left) ++ calls_after client commands (drop client (calls_in left))
    ≡ take (client + 1) (calls_in (set left client after)) ++ calls_after (client + 1) commands (drop (client + 1) (calls_in (set left client after))))
client_replied round client commands left here after within is_here is_after =
    let logs = calls_in left in
    let within_logs : client < length logs = rw (length-map left (λ (calls : Bor (List Call)). replies_of calls.now)) within in
    let found : get_or logs client (replies_of here.now) ≡ replies_of here.now = get_or-map (λ (calls : Bor (List Call)). replies_of calls.now) left client here (replies_of here.now) within ∙ ap (λ (calls : Bor (List Call)). replies_of calls.now) (sym is_here) in
    let now : calls_in (set left client after) ≡ set logs client (replies_of after.now) = map-set (λ (calls : Bor (List Call)). replies_of calls.now) left client after in
    let others : drop (client + 1) (set logs client (replies_of after.now)) ≡ drop (client + 1) logs = drop-set-lt (client + 1) logs client (replies_of after.now) (omega arith) in
    rw (now, others, take_more_set logs client (replies_of after.now) within_logs, drop_more logs client (replies_of here.now) within_logs, found, is_after) (
      refl,
      sym (append_assoc (take client logs) (drop (own_count client commands) (replies_of here.now) ∷ []) (calls_after (client + 1) commands (drop (client + 1) logs))),
    )
