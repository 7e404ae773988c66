use Rattle.std.proofs.Common.{◌≡◌, ◌∙◌, ◌++◌, [], ℕ, List, Option, Result, ap, append-nil, arith, length, map, option_map, refl, string_bytes, subst, sym, take}
use Rattle.std.proofs.lemmas.List.{drop_all}
use Rattle.fdb_log_reader.specs.declared.error.Why.{Why}
use Rattle.fdb_lines.specs.KeyWatch.{SettledTo, settled_in}
use Rattle.fdb_log_reader.specs.LineReader.{line_names, lines_on}
use Rattle.fdb_log_reader.specs.ReadLine.{SaidLine, no_names, said_in}
use Rattle.fdb_audit.specs.Following.{start_with}
use Rattle.fdb_audit.specs.Kept.{KeptSaid, far_with, start_from}
use Rattle.fdb_audit.specs.Watched.{lines_asked}
use Rattle.fdb_audit.specs.private.Followed.{AreTaken, HasWarned}
use Rattle.fdb_audit.proofs.InTurn.{named_in}
use Rattle.fdb_audit.proofs.KeptTexts.{nothing_pending}
use Rattle.fdb_audit.proofs.SettledOn.{taken_beside}
use Rattle.fdb_audit.proofs.TellingOn.{fed_first}
use Rattle.fdb_audit.proofs.follower.Follower.feed_kept.Goals as goal

-- each key has settled as far as it had
so_far : (told settled : ℕ) (lines read : List (Result SaidLine Why)) (kept : KeptSaid) (key : Option ℕ) (far : SettledTo) → kept.told ≡ told → kept.settled ≡ settled → lines ≡ read
    → far ≡ far_with settled (take told lines) key → far ≡ far_with kept.settled (take kept.told read) key
so_far told settled lines read kept key far told_is settled_is whole is =
    is
    ∙ (ap (λ settled. far_with settled (take told lines) key) (sym settled_is)
    ∙ (ap (λ told. far_with kept.settled (take told lines) key) (sym told_is)
    ∙ ap (λ (read : List (Result SaidLine Why)). far_with kept.settled (take kept.told read) key) whole))

pub returns-clause-read : goal.returns-clause-read
returns-clause-read c = λ asked behind kept told_is settled_is many_is ends is.
    let bytes = c.args.bytes.now in
    let lines = map said_in c.in_ok-lines.lines.items in
    let reader = c.feed.new.self in
    let goes = λ (text : List ℕ). is.goes (bytes ++ text) ∙ c.in_ok-lines.ensures.read text in
    let none : lines_on reader [] ≡ [] = nothing_pending (map string_bytes asked.shown.items) (no_names (option_map string_bytes asked.key)) reader bytes lines goes (c.a_space_more_is_of_one_line.ensures reader) ends in
    let whole : lines ≡ lines_asked asked bytes =
    sym (ap (lines_asked asked) (sym (append-nil bytes)) ∙ (goes [] ∙ (ap (λ (rest : List (Result SaidLine Why)). lines ++ rest) none ∙ append-nil lines))) in
    let start = start_from behind asked.opts.margin kept (lines_asked asked bytes) in
    let took = c.in_ok-take_kept.ensures.taken behind kept told_is settled_is many_is is.taken in
    let Took = λ (read : List (Result SaidLine Why)) (margin : ℕ).
    let start = start_from behind margin kept read in AreTaken start c.take_kept.new.self lines start.told × HasWarned start c.take_kept.new.self lines [] in
    let (took_so, said_so) : Took (lines_asked asked bytes) asked.opts.margin =
    subst (λ (read : List (Result SaidLine Why)). Took read asked.opts.margin) whole (subst (Took lines) is.margin took) in
    let (has, none_told) =
    fed_first (start_with behind kept.front) start asked c.args.self.now _ bytes lines is refl refl refl
    (drop_all (length (lines_asked asked bytes)) lines (omega (arith, ap length whole))) (c.refresh.ensures.wanted ∙ c.take_kept.ensures.wanted)
    c.in_ok-lines.ensures.read c.in_ok-lines.ensures.behind
    (named_in c.in_ok-lines.lines.items (line_names reader) c.in_ok-lines.ensures.numbers)
    (taken_beside start c.take_kept.new.self _ lines start.told took_so refl refl refl refl refl refl refl refl)
    (λ key. so_far c.args.told c.args.settled lines (lines_asked asked bytes) kept key (settled_in c.take_kept.new.self.watch.parts.items key) told_is settled_is whole
    (c.in_ok-take_kept.ensures.far behind kept.front is.taken is.far key)) c.in_ok-take_kept.ensures.horizon
    c.take_kept.ensures.margin refl refl refl in (
      has,
      none_told,
      c.in_ok-take_kept.ensures.settlings,
      record {
        read = lines;
        goes = goes;
        behind = is.at;
        carried = is.carried;
        told = start.told;
        taken = taken_beside start c.take_kept.new.self _ lines start.told took_so refl refl refl refl refl refl refl refl;
        said = said_so;
      },
    )
