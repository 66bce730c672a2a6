use Rattle.std.proofs.Common.{◌≡◌, ◌∙◌, sym, ap, arith, false, ◌<◌}
use Rattle.flv_demux.specs.Probe.{is_decided}
use Rattle.flv_demux.specs.declared.deal.Probe.{Probe}
use Rattle.flv_demux.proofs.Probing.{undecided, noted_bytes}
use Rattle.flv_demux.proofs.probe.look.Goals as goal

pub overflow_add-probe-2 : goal.overflow_add-probe-2
overflow_add-probe-2 c =
    let e : is_decided c.args.probe.now ≡ false = sym c.is_decided.ensures ∙ c.if-is_decided.false in
    let b : c.args.probe.now.bytes < 8388608 = undecided c.args.probe.now e in
    let s : c.note.new.probe.bytes ≡ c.args.probe.now.bytes = ap (λ (p : Probe). p.bytes) c.in_ok-note.ensures.ok ∙ noted_bytes c.args.probe.now c.in_ok-meaning.meaning c.args.tag.now.body in
    omega (arith, c.len.ensures.bound)
