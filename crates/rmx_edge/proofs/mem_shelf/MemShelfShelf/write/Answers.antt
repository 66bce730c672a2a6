use Rattle.std.proofs.Common.{rules, ◌∙◌, sym}
use Rattle.rmx_edge.specs.MemTake.{takes_of}
use Rattle.rmx_edge.proofs.Takes.{refused_write, add_nothing}
use Rattle.rmx_edge.proofs.mem_shelf.MemShelfShelf.write.Goals as goal

pub returns-then-failing-clause-made : goal.returns-then-failing-clause-made
returns-then-failing-clause-made c = record {
  takes = refused_write c.append_last.result c.args.bytes.now _ _ _ c.append_last.ensures.ok c.append_last.ensures.err;
  calls = search rules;
  accepted = search rules;
  writing = search rules;
  faults = search rules;
  failed = search rules;
  wants = search rules;
  no_memory = search rules;
  counted = search rules;
  sound = search rules;
}

pub returns-in-Err-clause-made : goal.returns-in-Err-clause-made
returns-in-Err-clause-made c = record {
  takes = (0, c.in-Err.ensures.err ∙ sym (add_nothing (takes_of c.args.self.now.takes.items)));
  calls = search rules;
  accepted = search rules;
  writing = search rules;
  faults = search rules;
  failed = search rules;
  wants = search rules;
  no_memory = search rules;
  counted = search rules;
  sound = search rules;
}
