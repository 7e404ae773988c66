use Rattle.std.proofs.Common.{◌≡◌, ◌∙◌, ◌++◌, ◌∷◌, ◌<◌, ℕ, [], ◌+◌, List, ap, arith, length, refl, slice_index_or, subst, sym, take, take_all, vec_len}
use Rattle.std.proofs.lemmas.Bool.{eqb-true}
use Rattle.std.proofs.lemmas.List.{take_more}
use Rattle.fdb_lines.specs.declared.key_part.SettledKey.{SettledKey}
use Rattle.fdb_lines.specs.KeyWatch.{settled_in}
use Rattle.fdb_log_reader.specs.LineReader.{line_names}
use Rattle.fdb_audit.specs.Following.{keys_taken, lines_taken}
use Rattle.fdb_audit.specs.private.Followed.{TellsOn}
use Rattle.fdb_audit.proofs.Windows.{part_told, tells_none, tells_nothing, tells_yet}
use Rattle.fdb_audit.proofs.teller.Teller.tell_all.Goals.{then-not-is_empty+in_ok-tell, else-not-is_empty}
use Rattle.fdb_audit.proofs.teller.Teller.tell_all.Goals as goal

pub loop-entry-init : goal.loop-entry-init
loop-entry-init c = λ kept read to parts margin behind numbered watched told.
    tells_nothing kept c.args.self.now margin behind read (line_names c.args.reader.now).clients (settled_in parts) to

none_left : {X : Type 0} (items : List X) → length items ≡ 0 → items ≡ []
none_left [] none = refl
none_left (item ∷ items) none = absurd (omega (arith, none))

one_more : (entries : List SettledKey) (i : ℕ) (entry : SettledKey) → i < length entries → slice_index_or entries i entry ≡ entry → take (i + 1) entries ≡ take i entries ++ entry ∷ []
one_more entries i entry lt is = take_more entries i entry lt ∙ ap (λ (one : SettledKey). take i entries ++ one ∷ []) is

pub loop-entry-preserved : goal.loop-entry-preserved
loop-entry-preserved c = λ kept read to parts margin behind numbered watched told.
    let old = c.args.self.now in
    let names = (line_names c.args.reader.now).clients in
    let far = settled_in parts in
    let entries = c.args.told.now in
    let entry = c.entry-item.result in
    let i = c.loop-entry.entry-index in
    let sofar = c.loop-entry.invariant kept read to parts margin behind numbered watched told in
    let (part, is_watched, so_far, is_told) = part_told margin behind to (lines_taken read) (keys_taken read) parts entries i entry watched told
    c.loop-entry-test.true (sym c.entry-item.is) in
    let more = one_more entries i entry c.loop-entry-test.true (sym c.entry-item.is) in
    elim c.if-not-is_empty.branch [
      | then-not-is_empty+in_ok-tell w ↦
          subst (λ self. TellsOn kept old self margin behind read names far to (take (i + 1) entries)) (sym w.self-is)
          (subst (TellsOn kept old w.tell.new.self margin behind read names far to) (sym more)
          (tells_yet kept old c.loop-entry.self w.tell.new.self margin behind read names far to (take i entries) (entry ∷ []) sofar
          (w.in_ok-tell.ensures kept read to part far margin behind numbered is_watched so_far is_told)))
      | else-not-is_empty w ↦
          let found = entry.settled.found in
          let many : vec_len found ≡ 0 = eqb-true (vec_len found) 0 (sym c.is_empty.ensures ∙ w.if-not-is_empty.false) in
          let size : length found.items ≡ 0 = omega (arith, many, found.ok.0) in
          subst (λ self. TellsOn kept old self margin behind read names far to (take (i + 1) entries)) (sym w.self-is)
          (subst (TellsOn kept old c.loop-entry.self margin behind read names far to) (sym more)
          (tells_yet kept old c.loop-entry.self c.loop-entry.self margin behind read names far to (take i entries) (entry ∷ []) sofar
          (tells_none kept c.loop-entry.self margin behind far to read names entry part is_watched so_far is_told (none_left found.items size))))
    ]

pub returns : goal.returns
returns c = λ kept read to parts margin behind numbered watched told.
    let old = c.args.self.now in
    let names = (line_names c.args.reader.now).clients in
    let entries = c.args.told.now in
    let i = c.loop-entry.entry-index in
    let all : take i entries ≡ entries = take_all i entries c.loop-entry-test.false in
    subst (TellsOn kept old c.loop-entry.self margin behind read names (settled_in parts) to) all (c.loop-entry.invariant kept read to parts margin behind numbered watched told)
