use Rattle.std.proofs.Common.{◌≡◌, ◌∙◌, ◌++◌, ◌∷◌, [], List, Result, ap, append_assoc, append-nil, arith, length, map, refl, subst, sym}
use Rattle.std.proofs.lemmas.List.{map_push}
use Rattle.fdb_log_reader.specs.declared.error.Why.{Why}
use Rattle.fdb_log_reader.specs.declared.read_line.ReadLine.{ReadLine}
use Rattle.fdb_log_reader.specs.ReadLine.{SaidLine, said_in}
use Rattle.fdb_audit.specs.declared.taken_lines.Taking.{Taking}
use Rattle.fdb_audit.specs.Following.{early_at, lines_taken}
use Rattle.fdb_audit.specs.Recent.{KnowsTimes}
use Rattle.fdb_audit.specs.private.Followed.{AreTaken, HasWarned, StaysBeside, TakesOn}
use Rattle.fdb_audit.proofs.KeptTexts.{early_on}
use Rattle.fdb_audit.proofs.taken_lines.Taking.take_all.Goals as goal

none_left : {X : Type 0} (items : List X) → length items ≡ 0 → items ≡ []
none_left [] none = refl
none_left (item ∷ items) none = absurd (omega (arith, none))

-- some lines, and then others
takes_then : (old mid new : Taking) (one two : List (Result SaidLine Why)) → TakesOn old mid one → StaysBeside old mid → TakesOn mid new two → TakesOn old new (one ++ two)
takes_then old mid new one two first beside next = record {
  taken = λ start read told are. subst (λ all. AreTaken start new all told) (append_assoc read one two) (next.taken start (read ++ one) told (first.taken start read told are));
  warned = λ start read told warned are was.
      subst (λ all. HasWarned start new all warned) (append_assoc read one two) (next.warned start (read ++ one) told warned (first.taken start read told are) (first.warned start read told warned are was));
  times = λ forget start read told are knows.
      subst (λ all. KnowsTimes forget start new.times all) (append_assoc read one two) (next.times forget start (read ++ one) told (first.taken start read told are) (first.times forget start read told are knows));
  early =
      let was = first.early in
      let now = next.early in
      let same = ap (λ at. early_at at (lines_taken two)) beside.from in
      let both = early_on old.watch.from one two in
      omega (arith, was, now, same, both);
  stays = record { horizon = next.stays.horizon ∙ first.stays.horizon; far = λ key. next.stays.far key ∙ first.stays.far key };
}

pub loop-line-preserved : goal.loop-line-preserved
loop-line-preserved c =
    let inv = c.loop-line.invariant in
    let yielded = c.loop-line.yielded in
    let line = c.in-Some.line in
    let still = c.take.ensures.beside in
    record {
      left = append_assoc yielded (line ∷ []) c.next.new.self.rest.items ∙ (ap (λ rest. yielded ++ rest) (sym c.in-Some.ensures.steps.0) ∙ inv.left);
      takes = subst (TakesOn c.args.self.now c.take.new.self) (sym (map_push said_in yielded line))
          (takes_then c.args.self.now _ c.take.new.self (map said_in yielded) (said_in line ∷ []) inv.takes inv.beside c.in_ok-take.ensures.takes);
      beside = record {
        from = still.from ∙ inv.beside.from;
        margin = still.margin ∙ inv.beside.margin;
        settlings = still.settlings ∙ inv.beside.settlings;
        wanted = still.wanted ∙ inv.beside.wanted;
      };
    }

pub returns-clause-takes : goal.returns-clause-takes
returns-clause-takes c =
    let inv = c.loop-line.invariant in
    let yielded = c.loop-line.yielded in
    let rest = c.loop-line.line-iterator.rest in
    let size : length rest.items ≡ 0 = omega (arith, rest.ok.0, c.in-None.ensures.steps.0) in
    let all : yielded ≡ c.args.lines.items = sym (append-nil yielded) ∙ (ap (λ (part : List (Result ReadLine Why)). yielded ++ part) (sym (none_left rest.items size)) ∙ inv.left) in
    subst (λ (items : List (Result ReadLine Why)). TakesOn c.args.self.now c.loop-line.self (map said_in items)) all inv.takes
