use Rattle.std.proofs.Common.{◌<◌, ◌≤◌, ◌++◌, List, ℕ, arith, take, drop, length-take, length, subst, ◌∙◌}
use Rattle.std.proofs.lemmas.Bool.{lt-ltb}
use Rattle.std.proofs.lemmas.List.{take-append-le}
use Rattle.remux.proofs.Taking.{took_read}
use Rattle.remux.proofs.take.take_piece.Goals as goal
use Rattle.remux.proofs.take.take_piece.Goals.{then-limit-lt65536, else-limit-lt65536}

pub returns-in-Ok-feed-clause-takes : goal.returns-in-Ok-feed-clause-takes
returns-in-Ok-feed-clause-takes g c =
    let bound : c.in-Ok.count ≤ length c.read.new.buf = c.in-Ok.ensures.taken.bound in
    let some : 0 < c.in-Ok.count = omega arith in (
      record {
        bytes = take c.in-Ok.count c.read.new.buf;
        long = omega (arith, length-take c.in-Ok.count c.read.new.buf);
        took = took_read c.in-Ok.ensures.taken;
        fed = λ b done h. subst (λ (x : List ℕ). g.D.Demux.has c.feed.new.self (b ++ x) done)
            (take-append-le c.in-Ok.count c.read.new.buf (drop c.if-limit-lt65536.room c.args.buf.now) bound) (c.in-Ok-feed.ensures.fed b done h);
      },
      elim c.if-limit-lt65536.branch [ then-limit-lt65536 w ↦ omega (arith, w.min-room.ensures, length-take c.if-limit-lt65536.room c.args.buf.now) | else-limit-lt65536 w ↦ omega (arith, length-take c.if-limit-lt65536.room c.args.buf.now) ],
      elim c.if-limit-lt65536.branch [ then-limit-lt65536 w ↦ omega (arith, w.min-room.ensures, length-take c.if-limit-lt65536.room c.args.buf.now) | else-limit-lt65536 w ↦ omega (arith, length-take c.if-limit-lt65536.room c.args.buf.now) ],
      c.in-Ok.ensures.taken.readable ∙ lt-ltb 0 c.in-Ok.count some,
      c.in-Ok-feed.ensures.unended,
    )

pub returns-in-Err-feed-clause-takes : goal.returns-in-Err-feed-clause-takes
returns-in-Err-feed-clause-takes g c =
    let bound : c.in-Ok.count ≤ length c.read.new.buf = c.in-Ok.ensures.taken.bound in
    record {
      bytes = take c.in-Ok.count c.read.new.buf;
      long = elim c.if-limit-lt65536.branch [ then-limit-lt65536 w ↦ omega (arith, w.min-room.ensures, length-take c.if-limit-lt65536.room c.args.buf.now, length-take c.in-Ok.count c.read.new.buf) | else-limit-lt65536 w ↦ omega (arith, length-take c.if-limit-lt65536.room c.args.buf.now, length-take c.in-Ok.count c.read.new.buf) ];
      took = took_read c.in-Ok.ensures.taken;
      same = c.in-Err-feed.ensures.err;
    }
