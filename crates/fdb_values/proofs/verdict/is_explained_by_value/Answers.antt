use Rattle.std.proofs.Common.{◌≡◌, true, Bool, not, Option, None, is_some, arith}
use Rattle.std.specs.Option.{option_copied}
use Rattle.fdb_lines.specs.Log.{lines_of}
use Rattle.fdb_values.proofs.verdict.is_explained_by_value.Goals as goal

none_from : {X : Type 0} (o : Option X) (none : Bool) → is_some o ≡ not none → none ≡ true → o ≡ None
none_from o none is so = grind arith

yes_from : {X : Type 0} (o : Option X) (none : Bool) → is_some o ≡ not none → o ≡ None → none ≡ true
yes_from o none is are = grind arith

pub returns-in-Ok-clause-answer : goal.returns-in-Ok-clause-answer
returns-in-Ok-clause-answer c =
    let lines = c.args.log.now.lines.items in
    let same = c.ranked_logs_are_explained_exactly_where_lines_are_by_value.ensures c.args.margin lines (option_copied c.args.keys) (lines_of c.in_ok-ranked.ranked) c.requires.by_value c.requires.own c.in_ok-ranked.ensures.ranked in
    let explained = c.in-Ok.ensures.explained in (
      (λ yes. same.0 (explained.0 (none_from c.in-Ok.first c.is_none.result c.is_none.ensures yes))),
      (λ e. yes_from c.in-Ok.first c.is_none.result c.is_none.ensures (explained.1 (same.1 e))),
    )
