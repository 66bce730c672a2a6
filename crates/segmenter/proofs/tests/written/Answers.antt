use Rattle.std.proofs.Common.{refl}
use Rattle.segmenter.proofs.SampleLemmas.{sample_fits}
use Rattle.segmenter.proofs.tests.written.Goals as goal

pub put-requires-clause-fits : goal.put-requires-clause-fits
put-requires-clause-fits c = (
  record { options = c.args.options; streams = c.args.streams },
  c.loop-second.invariant.1,
  sample_fits c.args.options.inner c.args.streams c.args.kind _ c.requires.inner c.requires.kind c.in_ok-p.ensures,
)

pub loop-second-init : goal.loop-second-init
loop-second-init c = (c.in_ok-begin.ensures.open refl, c.begin.ensures.of (record { options = c.args.options; streams = c.args.streams }) c.new-mux.ensures.of)

pub loop-second-preserved : goal.loop-second-preserved
loop-second-preserved c = (c.in_ok-put.ensures.open refl, c.put.ensures.of (record { options = c.args.options; streams = c.args.streams }) c.loop-second.invariant.1)
