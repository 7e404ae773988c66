use Rattle.std.proofs.Common.{◌≡◌, ◌<◌, ◌∙◌, arith, List, ap, is_some, length, map, string_bytes, subst, sym, ℕ}
use Rattle.std.proofs.lemmas.List.{length-map}
use Rattle.std.proofs.lemmas.List.Elements.{All-map}
use Rattle.std.proofs.lemmas.List.Sorted.{IsPermutation-refl}
use Rattle.fdb_log_reader.specs.LineReader.{line_names}
use Rattle.fdb_log_reader.specs.ReadLine.{SaidLine, member_in}
use Rattle.fdb_log_reader.specs.Reading.{EndsALine, lines_in}
use Rattle.fdb_audit.specs.Following.{taken_line, taken}
use Rattle.fdb_audit.specs.Kept.{KeptSaid, Rise, kept_at, kept_members, kept_said, lines_kept, named_in}
use Rattle.fdb_audit.specs.private.KeptTexts.{number_of}
use Rattle.fdb_audit.proofs.NamedLines.{named_places, places_apart, whatever_is_shown}
use Rattle.fdb_audit.proofs.follower.Follower.read_back_of.Goals as goal

pub returns : goal.returns
returns c = λ start read told are each.
    let kept = c.args.kept.now in
    let taking = c.args.self.now.taking in
    let names = line_names c.args.self.now.reader in
    let key = member_in names in
    let said : kept_said (lines_kept key (string_bytes c.in_ok-text.text)) ≡ kept_at start.kept read (map number_of kept) taking.settled taking.watch.from (is_some taking.clocks.second) =
    ap (λ (text : List ℕ). kept_said (lines_kept key text)) (sym c.as_bytes.ensures.value) ∙ c.in_ok-refused.ensures.said c.in-None.is start read told are each in
    let rises : Rise (kept_said (lines_kept key (string_bytes c.in_ok-text.text))).front.lines =
    subst (λ (text : List ℕ). Rise (kept_said (lines_kept key text)).front.lines) c.as_bytes.ensures.value (c.in_ok-refused.ensures.rise c.in-None.is) in
    record {
      places = map number_of kept;
      all = IsPermutation-refl (map number_of kept);
      within = All-map (λ place. place < length (taken read)) number_of kept (λ k d lt. let is = (each k d lt).came in let size = length-map (taken read) (λ (said : SaidLine). said.line) in omega (arith, is, size));
      rise = places_apart (taken_line start.kept read) (map number_of kept) c.requires.rise (subst Rise (ap (λ (kept : KeptSaid). kept.front.lines) said) rises);
      said = said;
      whole = subst (λ (text : List ℕ). length (lines_in text) ≡ length kept) c.as_bytes.ensures.value (c.in_ok-refused.ensures.many c.in-None.is) ∙ sym (length-map kept number_of);
      ends = subst EndsALine c.as_bytes.ensures.value (c.in_ok-refused.ensures.ends c.in-None.is);
      lines = λ shown.
          whatever_is_shown key shown kept_members (string_bytes c.in_ok-text.text)
          ∙ (ap (named_in key kept_members) (sym c.as_bytes.ensures.value) ∙ (c.in_ok-refused.ensures.lines c.in-None.is ∙ named_places names read kept each));
    }
