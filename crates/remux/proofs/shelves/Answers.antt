use Rattle.std.proofs.Common.{◌≡◌, [], ◌∷◌, length, arith, ap, length-append}
use Rattle.std.specs.Prelude.{false}
use Rattle.std.specs.Option.{is_some}
use Rattle.remux.proofs.Running.{all_more}
use Rattle.remux.proofs.shelves.Goals as goal

pub loop-preserved : goal.loop-preserved
loop-preserved g c =
    let more = c.in_ok-push-in-Some.ensures.items in (
      omega (arith, ap length more, length-append c.loop.shelves.items (c.new.result ∷ []), c.loop.invariant.0),
      all_more (λ s. is_some s.file ≡ false) c.loop.shelves.items c.push.new.self.items c.new.result more c.loop.invariant.1 c.new.ensures.idle,
    )
