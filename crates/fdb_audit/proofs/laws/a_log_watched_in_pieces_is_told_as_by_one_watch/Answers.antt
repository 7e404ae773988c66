use Rattle.std.proofs.Common.{◌≡◌, ◌∙◌, ◌++◌, arith, sym}
use Rattle.std.proofs.lemmas.List.Sorted.{IsPermutation-refl}
use Rattle.fdb_audit.specs.Following.{early_at, lines_since, told_in_all}
use Rattle.fdb_audit.specs.Kept.{places_kept, start_of}
use Rattle.fdb_audit.specs.Watched.{lines_asked}
use Rattle.fdb_audit.proofs.Pieces.{Known, pieces_told, told_as_by_one}
use Rattle.fdb_audit.proofs.SaysWhen.{none_early}
use Rattle.fdb_audit.proofs.laws.a_log_watched_in_pieces_is_told_as_by_one_watch.Goals as goal

known : goal.After-who_goes_on_from_what_a_watch_kept_tells_the_rest → Known
known c = record {
  once = c.each_name_has_one_number.ensures;
  stays = c.keys_stay_in_one_member.ensures;
  differ = c.logs_that_say_the_same_differ_in_numbers_alone.ensures;
  more = c.names_keep_their_numbers.ensures;
  numbered = c.numbers_are_those_of_names.ensures;
  apart = c.what_follows_an_ended_line_is_apart.ensures;
  alike = c.what_lines_say_is_theirs_alone.ensures;
  rest = c.who_goes_on_from_what_a_watch_kept_tells_the_rest.ensures;
  stand = c.what_a_watch_keeps_stands_for_all.ensures;
}

pub returns-clause-pieces : goal.returns-clause-pieces
returns-clause-pieces c = λ asked start bytes pieces told start_early are.
    pieces_told (known c) asked start bytes pieces told start_early are

pub returns-clause-two_watches : goal.returns-clause-two_watches
returns-clause-two_watches c = λ asked start behind piece kept next text text_too found found_too last last_too one other goes from start_early early others_early.
    let on = start_of asked behind kept in
    let late : early_at on.from (lines_since on (lines_asked asked (kept ++ next))) ≡ 0 = (let le = other.late in omega (arith, le, others_early)) in
    told_as_by_one (known c) asked start behind piece kept next one.taking (start.told ++ told_in_all (lines_asked asked piece) one.followed.windows)
    (told_in_all (lines_asked asked (kept ++ next)) other.windows) one.taken (places_kept one.taking.watch) one.keeps goes (IsPermutation-refl (places_kept one.taking.watch)) one.margin from start_early (sym one.early ∙ early) late
    (other.whole (none_early (known c).stand asked start behind piece kept one.taking one.taken one.keeps start_early (sym one.early ∙ early)) others_early)

pub returns-clause-any_more : goal.returns-clause-any_more
returns-clause-any_more c = λ asked start behind piece kept next taking told now margin are keeps goes from start_early early late whole.
    told_as_by_one (known c) asked start behind piece kept next taking told now are (places_kept taking.watch) keeps goes (IsPermutation-refl (places_kept taking.watch)) margin from start_early early late whole
