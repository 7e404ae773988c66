use Rattle.std.proofs.Common.{◌≡◌, rules, subst, sym}
use mathlib.Core.List.{IsPrefix}
use Rattle.fdb_live.specs.Seen.{IsNotBehind, last_record}
use Rattle.fdb_live.proofs.Above.{least_grows}
use Rattle.fdb_live.proofs.Rising.{never_behind}
use Rattle.fdb_live.proofs.Tokens.{looked_below, looked_taken, member_drawn, member_looked}
use Rattle.fdb_live.proofs.live_record.LiveRecord.read.Goals as goal

pub invariant_of-seen : goal.invariant_of-seen
invariant_of-seen g c = (search rules, search rules, search rules, member_looked c.seen.invariant.2 c.seen.invariant.3 c.look-fetched.ensures.looks)

pub returns-clause-read : goal.returns-clause-read
returns-clause-read g c =
    let taken = looked_taken c.seen.invariant.2 c.look-fetched.ensures.looks in
    let start = g.S.Service.start in
    let extends : IsPrefix c.args.seen.now.changes c.look-fetched.new.pass.me.0.client.seen = search rules in
    let rec : c.look-fetched.result.rec ≡ last_record start c.look-fetched.new.pass.me.0.client.seen = search rules in
    record {
      rec = rec;
      position = search rules;
      never_falls = subst (IsNotBehind (last_record start c.args.seen.now.changes)) (sym rec) (never_behind start _ _ extends);
      bounded = record { below = looked_below c.seen.invariant.2 c.look-fetched.ensures.looks; within = taken.within; in_range = taken.in_range };
      log = search rules;
    }

pub returns-clause-seen : goal.returns-clause-seen
returns-clause-seen g c =
    let extends : IsPrefix c.args.seen.now.changes c.look-fetched.new.pass.me.0.client.seen = search rules in
    record {
      reporter = search rules;
      extends = extends;
      answers = search rules;
      own_answers = search rules;
      never_falls = never_behind g.S.Service.start _ _ extends;
      least = least_grows c.versions_rise.ensures g.S.Service.epoch_end g.S.Service.recovery c.args.seen.now.answers _ (member_looked c.seen.invariant.2 c.seen.invariant.3 c.look-fetched.ensures.looks).legal (search rules);
    }

pub returns-clause-drawn : goal.returns-clause-drawn
returns-clause-drawn g c = member_drawn c.seen.invariant.2 c.seen.invariant.3 c.look-fetched.ensures.looks

pub returns-clause-no_chain : goal.returns-clause-no_chain
returns-clause-no_chain g c = (member_looked c.seen.invariant.2 c.seen.invariant.3 c.look-fetched.ensures.looks).none
