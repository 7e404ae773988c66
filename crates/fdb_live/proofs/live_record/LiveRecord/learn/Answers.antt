use Rattle.std.proofs.Common.{rules}
use mathlib.Core.List.{IsPrefix}
use Rattle.crossbeam_utils.specs.Seq.{cell_view}
use Rattle.fdb_live.specs.Seen.{IsLog}
use Rattle.fdb_live.proofs.Above.{least_grows}
use Rattle.fdb_live.proofs.Rising.{bounded, never_behind}
use Rattle.fdb_live.proofs.Tokens.{member_told}
use Rattle.fdb_live.proofs.live_record.LiveRecord.learn.Goals as goal

pub invariant_of-seen : goal.invariant_of-seen
invariant_of-seen g c = (search rules, search rules, search rules, (member_told (cell_view c.seen.inside.pass) (cell_view c.give_all-told.result) (cell_view c.learn.new.pass) c.seen.invariant.2 c.seen.invariant.3 c.learn.ensures.learns))

pub invariant_of-seen-else-seen-position : goal.invariant_of-seen-else-seen-position
invariant_of-seen-else-seen-position g c = (search rules, search rules, search rules, (member_told (cell_view c.seen.inside.pass) (cell_view c.give_all-told.result) (cell_view c.learn.new.pass) c.seen.invariant.2 c.seen.invariant.3 c.learn.ensures.learns))

pub returns-then-seen-position-clause-bounded : goal.returns-then-seen-position-clause-bounded
returns-then-seen-position-clause-bounded g c =
    let log : IsLog g.S.Service.start g.S.Service.reporters c.learn.new.pass.me.0.client.seen = search rules in
    bounded _ _ _ log

pub returns-then-seen-position-clause-seen : goal.returns-then-seen-position-clause-seen
returns-then-seen-position-clause-seen g c =
    let legal = (member_told (cell_view c.seen.inside.pass) (cell_view c.give_all-told.result) (cell_view c.learn.new.pass) c.seen.invariant.2 c.seen.invariant.3 c.learn.ensures.learns).legal in
    let extends : IsPrefix c.args.seen.now.changes (cell_view c.learn.new.pass).seen = search rules in
    let answers : IsPrefix c.args.seen.now.answers (cell_view c.learn.new.pass).chain.seen = search rules in
    record {
      reporter = search rules;
      extends = extends;
      answers = answers;
      own_answers = search rules;
      never_falls = never_behind g.S.Service.start _ _ extends;
      least = least_grows c.versions_rise.ensures g.S.Service.epoch_end g.S.Service.recovery _ _ legal answers;
    }

pub returns-then-seen-position-clause-learnt : goal.returns-then-seen-position-clause-learnt
returns-then-seen-position-clause-learnt g c =
    let legal = (member_told (cell_view c.seen.inside.pass) (cell_view c.give_all-told.result) (cell_view c.learn.new.pass) c.seen.invariant.2 c.seen.invariant.3 c.learn.ensures.learns).legal in
    let told : IsPrefix c.args.told.changes (cell_view c.learn.new.pass).seen = search rules in
    let told_answers : IsPrefix c.args.told.answers (cell_view c.learn.new.pass).chain.seen = search rules in
    record {
      longer = search rules;
      told = told;
      covers = never_behind g.S.Service.start _ _ told;
      longer_answers = search rules;
      told_answers = told_answers;
      least_told = least_grows c.versions_rise.ensures g.S.Service.epoch_end g.S.Service.recovery _ _ legal told_answers;
    }

pub returns-clause-bounded : goal.returns-clause-bounded
returns-clause-bounded g c =
    let log : IsLog g.S.Service.start g.S.Service.reporters c.learn.new.pass.me.0.client.seen = search rules in
    bounded _ _ _ log

pub returns-clause-seen : goal.returns-clause-seen
returns-clause-seen g c =
    let legal = (member_told (cell_view c.seen.inside.pass) (cell_view c.give_all-told.result) (cell_view c.learn.new.pass) c.seen.invariant.2 c.seen.invariant.3 c.learn.ensures.learns).legal in
    let extends : IsPrefix c.args.seen.now.changes (cell_view c.learn.new.pass).seen = search rules in
    let answers : IsPrefix c.args.seen.now.answers (cell_view c.learn.new.pass).chain.seen = search rules in
    record {
      reporter = search rules;
      extends = extends;
      answers = answers;
      own_answers = search rules;
      never_falls = never_behind g.S.Service.start _ _ extends;
      least = least_grows c.versions_rise.ensures g.S.Service.epoch_end g.S.Service.recovery _ _ legal answers;
    }

pub returns-clause-learnt : goal.returns-clause-learnt
returns-clause-learnt g c =
    let legal = (member_told (cell_view c.seen.inside.pass) (cell_view c.give_all-told.result) (cell_view c.learn.new.pass) c.seen.invariant.2 c.seen.invariant.3 c.learn.ensures.learns).legal in
    let told : IsPrefix c.args.told.changes (cell_view c.learn.new.pass).seen = search rules in
    let told_answers : IsPrefix c.args.told.answers (cell_view c.learn.new.pass).chain.seen = search rules in
    record {
      longer = search rules;
      told = told;
      covers = never_behind g.S.Service.start _ _ told;
      longer_answers = search rules;
      told_answers = told_answers;
      least_told = least_grows c.versions_rise.ensures g.S.Service.epoch_end g.S.Service.recovery _ _ legal told_answers;
    }
