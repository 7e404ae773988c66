use Rattle.fdb_audit.proofs.Pieces.{Known}
use Rattle.fdb_audit.proofs.TrueOfAll.{IsTrueOfAll, all_pieces_true}
use Rattle.fdb_audit.proofs.laws.what_a_watch_tells_is_true_of_all_lines.Goals as goal

pub returns : goal.returns
returns c =
    let known : Known = record {
      once = c.each_name_has_one_number.ensures;
      stays = c.keys_stay_in_one_member.ensures;
      differ = c.logs_that_say_the_same_differ_in_numbers_alone.ensures;
      more = c.names_keep_their_numbers.ensures;
      numbered = c.numbers_are_those_of_names.ensures;
      apart = c.what_follows_an_ended_line_is_apart.ensures;
      alike = c.what_lines_say_is_theirs_alone.ensures;
      rest = c.who_goes_on_from_what_a_watch_kept_tells_the_rest.ensures;
      stand = c.what_a_watch_keeps_stands_for_all.ensures;
    } in
    let some = c.what_some_lines_tell_is_true_of_all.ensures in
    let true : IsTrueOfAll = record { first = some.first; of_key = some.of_key; gone_on = some.gone_on } in
    all_pieces_true known true
