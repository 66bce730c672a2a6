use Rattle.std.proofs.Common.{None, ◌∷◌, []}
use Rattle.fifo_core.specs.State.{Shows}
use Rattle.fifo_core.specs.History.{Begun}
use Rattle.fifo_core.specs.declared.types.Answer.TheVariants as answer
use Rattle.slave.specs.Job.{view_of}
use Rattle.slave.proofs.Opening.{started_done, started_want, started_fault, started_refused}
use Rattle.slave.proofs.job.SlaveJob.start.Goals as goal

pub returns-in-Done : goal.returns-in-Done
returns-in-Done g c = λ out o k.
    let shows : Shows o [] None c.open.new.self.fifo = rw (c.in-Done.ensures out k.kit).fifo k.shows in
    started_done (view_of g.S.Shelf.state c.args.self.now) (view_of g.S.Shelf.state c.open.new.self) c.on_begin.new.self k (c.in-Done.ensures out k.kit) (c.on_begin.ensures.begun o shows) c.on_begin.ensures.next

pub returns-in-NoMemory : goal.returns-in-NoMemory
returns-in-NoMemory g c = λ out o k.
    let shows : Shows o [] None c.open.new.self.fifo = rw (c.in-NoMemory.ensures out k.kit).fifo k.shows in
    started_want (view_of g.S.Shelf.state c.args.self.now) (view_of g.S.Shelf.state c.open.new.self) c.on_begin-in-NoMemory.new.self k (c.in-NoMemory.ensures out k.kit) (c.on_begin-in-NoMemory.ensures.begun o shows) c.on_begin-in-NoMemory.ensures.next

pub returns-else-not-ask : goal.returns-else-not-ask
returns-else-not-ask g c = λ out o k.
    let shows : Shows o [] None c.open.new.self.fifo = rw (c.in-Fault.ensures out k.kit).fifo k.shows in
    started_fault (view_of g.S.Shelf.state c.args.self.now) (view_of g.S.Shelf.state c.open.new.self) (view_of g.S.Shelf.state c.ask.new.self) c.on_begin-in-Fault.new.self c.ask.result c.if-not-ask.false k (c.in-Fault.ensures out k.kit) (c.on_begin-in-Fault.ensures.begun o shows) c.on_begin-in-Fault.ensures.next c.ask.ensures

pub returns-then-not-ask : goal.returns-then-not-ask
returns-then-not-ask g c = λ out o k.
    let shows : Shows o [] None c.open.new.self.fifo = rw (c.in-Fault.ensures out k.kit).fifo k.shows in
    let begun = c.on_begin-in-Fault.ensures.begun o shows in
    let asked : Shows o (Begun answer.Fault ∷ []) None c.ask.new.self.fifo = rw c.ask.ensures.fifo begun in
    started_refused (view_of g.S.Shelf.state c.args.self.now) (view_of g.S.Shelf.state c.open.new.self) (view_of g.S.Shelf.state c.ask.new.self) c.on_begin-in-Fault.new.self c.on_want.new.self c.ask.result k (c.in-Fault.ensures out k.kit) begun c.on_begin-in-Fault.ensures.next c.ask.ensures
    (c.on_want.ensures.turn o _ None asked) c.on_want.ensures.next
