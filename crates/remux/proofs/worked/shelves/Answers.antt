use Rattle.std.proofs.Common.{◌≡◌, [], ◌∷◌, length, arith, ap, false, length-append}
use Rattle.rmx_edge.specs.MemShelf.{state_of}
use Rattle.rmx_edge.specs.Shelf.{ShelfState}
use Rattle.remux.proofs.Running.{all_more}
use Rattle.remux.proofs.worked.shelves.Goals as goal

pub loop-preserved : goal.loop-preserved
loop-preserved c =
    let more = c.in_ok-push.ensures.items in (
      omega (arith, ap length more, length-append c.loop.shelves.items (c.new.result ∷ []), c.loop.invariant.0),
      all_more (λ s. (state_of s).writing ≡ false) c.loop.shelves.items c.push.new.self.items c.new.result more c.loop.invariant.1 (ap (λ (s : ShelfState). s.writing) c.new.ensures.state),
    )
