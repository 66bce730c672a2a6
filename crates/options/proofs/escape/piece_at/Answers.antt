use Rattle.std.proofs.Common.{rules, sym}
use Rattle.options.proofs.Pieces.{from_empty, bare_kept}
use Rattle.options.proofs.escape.piece_at.Goals as goal

pub loop-c-init : goal.loop-c-init
loop-c-init c = (c.utf8.text, from_empty _ _ c.new-out.ensures.bytes)

pub loop-c-preserved-in_ok-push_char-in-Bare : goal.loop-c-preserved-in_ok-push_char-in-Bare
loop-c-preserved-in_ok-push_char-in-Bare c =
    (search rules, bare_kept _ _ _ _ _ c.in-Some.c _ _ c.in-Bare.is (sym c.if-is_stop.ensures) c.if-c-eq92.false c.if-c-eq39.false c.in-Some.ensures c.in_ok-push_char-in-Bare.ensures c.loop-c.invariant.1)
