use Rattle.std.proofs.Common.{◌≡◌, ◌≤◌, vec_len, vec_capacity}
use Rattle.crossbeam_utils.specs.Seq.{cell_view}
use Rattle.fdb_live.specs.Seen.{epoch_of}
use Rattle.fdb_live.specs.private.Rule.{left_from}
use Rattle.fdb_live.proofs.Opening.{AreTokens}
use Rattle.fdb_live.proofs.opened.numbered.Given as goal

abbrev pub invariant-loop-number : goal.invariant-loop-number
invariant-loop-number g l = record {
  cell : l.pass.table_id ≡ g.S.Live.table;
  left : cell_view l.pass ≡ left_from l.number g.S.Service.start (epoch_of g.S.Live.chained g.S.Service.epoch_end g.S.Service.recovery) l.reporters;
  count : vec_len l.tokens ≡ l.number;
  all : l.number ≤ l.reporters;
  room : l.reporters ≤ vec_capacity l.tokens;
  tokens : AreTokens l.tokens.items l.number;
}
