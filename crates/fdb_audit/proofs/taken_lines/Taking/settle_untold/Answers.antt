use Rattle.std.proofs.Common.{◌≡◌, ◌∙◌, ◌++◌, [], List, Result, ap, arith, drop, length, max, refl, subst, sym}
use Rattle.std.proofs.lemmas.List.{drop_all, length-map}
use Rattle.fdb_lines.specs.declared.key_watch.KeyWatch.{KeyWatch}
use Rattle.fdb_lines.specs.KeyParts.{lines_of_one}
use Rattle.fdb_lines.specs.KeyWatch.{HasSeenByKey, settled_in}
use Rattle.fdb_lines.specs.ToldByKey.{HasTold, audited_to, told_by_all}
use Rattle.fdb_log_reader.specs.ReadLine.{SaidLine}
use Rattle.fdb_log_reader.specs.declared.error.Why.{Why}
use Rattle.fdb_audit.specs.declared.clocks.Clocks.{Clocks}
use Rattle.fdb_audit.specs.declared.members.Numbering.{Numbering}
use Rattle.fdb_audit.specs.declared.progress.Counts.{Counts}
use Rattle.fdb_audit.specs.Following.{early_at, keys_taken, lines_before, lines_since, lines_taken, taken}
use Rattle.fdb_audit.specs.Taken.{AreCounted, HasHeard, kept_by}
use Rattle.fdb_audit.specs.private.Followed.{settled_at}
use Rattle.fdb_audit.proofs.ReadLines.{counted, lines_parted}
use Rattle.fdb_audit.proofs.InTurn.{with_these}
use Rattle.fdb_audit.proofs.Settled.{settled_now}
use Rattle.fdb_audit.proofs.SettledOn.{in_reach_anew, settled_anew}
use Rattle.fdb_audit.proofs.Warned.{none_ahead, none_early}
use Rattle.fdb_audit.proofs.taken_lines.Taking.settle_untold.Goals as goal

pub returns-clause-taken : goal.returns-clause-taken
returns-clause-taken c = λ start read told none_before none are.
    let old = c.args.self.now.watch in
    let new = c.settle.new.self in
    let lines = lines_taken read in
    let keys = keys_taken read in
    let seen = c.settle.ensures.seen lines keys are.seen in
    let size = length-map (taken read) (λ (said : SaidLine). said.line) in
    let at = max old.from c.args.at in
    let found = audited_to old.margin at lines keys in
    let on = settled_at start c.args.self.now.clocks at read found in
    let none_since : drop (length read) read ≡ [] = drop_all (length read) read (omega arith) in
    let has = c.in_ok-told.ensures.once lines keys told are.seen (are.once none_before none) in
    let all : HasTold new lines keys found =
    subst (λ margin. HasTold new lines keys (audited_to margin at lines keys)) c.settle.ensures.margin.0
    (subst (λ from. HasTold new lines keys (audited_to new.margin from lines keys)) c.in_ok-told.ensures.settled
    (c.all_is_told_up_to_where_it_settled.ensures.as_well new lines keys (told ++ told_by_all c.in_ok-told.told.items) seen has)) in
    let noted = c.note_settled.ensures in
    let counts = c.new-self.result in
    let from : c.note_settled.new.self.watch.from ≡ at = ap (λ (watch : KeyWatch). watch.from) noted.watch ∙ c.in_ok-told.ensures.settled in
    let no_early : c.note_settled.new.self.counts.early ≡ 0 = ap (λ (counts : Counts). counts.early) noted.counts ∙ c.new-self.ensures.early in
    record {
      seen = subst (λ (watch : KeyWatch). HasSeenByKey watch lines keys) (sym noted.watch) seen;
      numbered = record {
        above = ap (λ (numbering : Numbering). numbering.above.items) noted.numbering ∙ are.numbered.above;
        front = ap kept_by noted.numbering ∙ are.numbered.front;
        few = are.numbered.few;
      };
      count = noted.taken ∙ are.count;
      refused = noted.refused ∙ are.refused;
      counted = subst (λ (counts : Counts). AreCounted counts (lines_since on read)) (sym noted.counts)
          (subst (λ since. AreCounted counts (lines_taken since)) (sym none_since) c.new-self.ensures.counted);
      few = omega arith;
      before = λ _ k d lt. let came = all.came k d lt in let most = counted 0 read in omega (arith, came, size, most);
      settled_at = settled_anew on _ (lines_before on read) (lines_since on read) c.none-self.ensures from;
      came = none_early on read c.none-self.result.at c.note_settled.new.self.counts none_since no_early
          (ap (λ (counts : Counts). counts.judged) noted.counts ∙ c.new-self.ensures.none.0) (ap (λ (counts : Counts). counts.last_early) noted.counts ∙ c.new-self.ensures.none.1);
      ahead = none_ahead on read c.note_settled.new.self.counts.ahead none_since (ap (λ (counts : Counts). counts.ahead) noted.counts ∙ c.new-self.ensures.none.2);
      from = omega (arith, from);
      late = (let is : early_at at (lines_taken (drop (length read) read)) ≡ 0 = ap (λ (since : List (Result SaidLine Why)). early_at at (lines_taken since)) none_since in omega (arith, is));
      settled = settled_now on _ lines (noted.settled ∙ (are.count ∙ sym size));
      reach = in_reach_anew on _ read
          (ap (λ (clocks : Clocks). clocks.behind) noted.clocks ∙ are.reach.behind_is)
          (let heard = are.reach.heard in
          subst (λ (clocks : Clocks). HasHeard on.clocks clocks (lines_taken read)) (sym noted.clocks)
          (subst (HasHeard on.clocks c.args.self.now.clocks) (lines_parted start read) (record { newest = heard.newest; others = heard.others })))
          (ap (λ (clocks : Clocks). clocks.believed) noted.clocks) (ap (λ (clocks : Clocks). clocks.ahead) noted.clocks)
          from no_early refl;
      once = λ _ _. subst (λ (watch : KeyWatch). HasTold watch lines keys found) (sym noted.watch) all;
    }

pub returns-clause-far : goal.returns-clause-far
returns-clause-far c = λ read seen none key.
    let lines = lines_taken read in
    let keys = keys_taken read in
    let new = c.settle.new.self in
    ap (λ (watch : KeyWatch). settled_in watch.parts.items key) c.note_settled.ensures.watch
    ∙ with_these (max c.args.self.now.watch.from c.args.at) (length (lines_of_one lines keys key)) c.in_ok-told.told.items key (settled_in c.args.self.now.watch.parts.items key)
    (settled_in new.parts.items key) (none key)
    (c.a_key_without_lines_has_not_settled.ensures new lines keys (c.settle.ensures.seen lines keys seen) key) (c.in_ok-told.ensures.far lines keys seen key)
