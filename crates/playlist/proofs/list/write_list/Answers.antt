use Rattle.std.proofs.Common.{arith}
use Rattle.rmx_edge.proofs.FileRuns.{file_more}
use Rattle.playlist.specs.List.{head_calls, entry_calls, tail_calls}
use Rattle.playlist.proofs.Lists.{not_begun, stopped_at, ended, same_item}
use Rattle.playlist.proofs.list.write_list.Goals as goal

pub returns-in-Err : goal.returns-in-Err
returns-in-Err g c = not_begun c.args.kind c.args.name.now c.args.template.now c.args.entries.now c.in-Err.ensures.run

pub returns-in-Err-write_entry : goal.returns-in-Err-write_entry
returns-in-Err-write_entry g c =
    stopped_at c.args.kind c.args.name.now c.args.template.now c.args.entries.now c.loop-entry.entry-index _ c.loop-entry-test.true (same_item _ _ _ _ c.loop-entry-test.true) c.loop-entry.invariant.0 c.in-Err-write_entry.ensures.run

pub loop-entry-preserved : goal.loop-entry-preserved
loop-entry-preserved g c = (
  file_more (head_calls c.args.kind c.args.name.now c.args.entries.now) (tail_calls c.args.kind) (entry_calls c.args.kind c.args.template.now) c.args.entries.now c.loop-entry.entry-index _ c.loop-entry-test.true (same_item _ _ _ _ c.loop-entry-test.true) c.loop-entry.invariant.0 c.in-Ok-write_entry.ensures.run,
  c.in-Ok-write_entry.ensures.open,
)

pub returns : goal.returns
returns g c =
    ended c.args.kind c.args.name.now c.args.template.now c.args.entries.now c.loop-entry.entry-index (omega arith) c.loop-entry.invariant.0 c.end.ensures
