use Rattle.std.proofs.Common.{◌≡◌, ℕ, ◌≤◌, List, Some}
use Rattle.flv_tags.specs.declared.tag.Tag.{Tag}
use Rattle.flv_demux.specs.declared.deal.Kinds.{Kinds}
use Rattle.flv_demux.specs.State.{Demuxed, left_in}
use Rattle.flv_demux.specs.Steps.{PassesOn}
use Rattle.flv_demux.proofs.demuxer.Demuxer.advance.Given as goal

abbrev pub invariant-steps : goal.invariant-steps
invariant-steps l = record {
  fewer : left_in l.self.core ≤ left_in l.initial.self.core;
  keeps : (k : Kinds) → l.initial.self.core.known ≡ Some k → l.self.core.known ≡ Some k;
  ended : l.self.core.reader.ended ≡ l.initial.self.core.reader.ended;
  shown : l.self.shown ≡ l.initial.self.shown;
  passes : (fed : List ℕ) (done : List Tag) → Demuxed fed done l.initial.self.core → PassesOn fed done l.self.core;
}

abbrev pub decreases-steps : goal.decreases-steps
decreases-steps l = left_in l.self.core
