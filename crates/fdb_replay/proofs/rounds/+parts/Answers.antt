use Rattle.std.proofs.Common.{◌≡◌, ◌+◌, ◌/◌, ◌++◌, length, refl, rules}
use Rattle.std.proofs.lemmas.List.{take-append-drop}
use Rattle.std.proofs.lemmas.Result.{IfOk-weaker}
use Rattle.fdb_replay.specs.private.Rounds.{IsPlayed}
use Rattle.fdb_replay.proofs.Parts.{both_played, none_played}
use Rattle.fdb_replay.proofs.rounds.+parts.Goals as goal

pub play_part-returns-then-not-acts_among : goal.play_part-returns-then-not-acts_among
play_part-returns-then-not-acts_among g t c =
    rw c.new.ensures.items (none_played c.args.first c.args.playing.now.round.commands.now c.args.clients.items (λ k within. c.acts_among.ensures.idle (search rules) k (search rules)))

pub play_part-returns : goal.play_part-returns
play_part-returns g t c =
    let commands = c.args.playing.now.round.commands.now in
    let first = c.args.first in
    let these = c.split_off.new.self.items in
    let those = c.in_ok-others.others.items in
    let cut = c.in_ok-others.ensures in
    let whole : these ++ those ≡ c.args.clients.items = rw (cut.items, cut.tail) (take-append-drop (c.len-half.result / 2) c.args.clients.items) in
    let front = c.in_ok-front.front in
    let back = c.in_ok-front.back in
    let next = first + length these in
    let front_is : IsPlayed first commands these front.clients.items front.tells.items = search rules in
    let back_is : IsPlayed next commands those back.clients.items back.tells.items = search rules in
    IfOk-weaker c.joined.result _ (λ all. IsPlayed first commands c.args.clients.items all.clients.items all.tells.items)
    (λ all both. rw (both.0, both.1, ← whole) (both_played first next commands these front.clients.items those back.clients.items front.tells.items back.tells.items refl front_is back_is))
    c.joined.ensures
