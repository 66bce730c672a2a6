use Rattle.std.proofs.Common.{w64, of_z, to_z}
use Rattle.playlist.specs.declared.list.ListEntry.{ListEntry}
use Rattle.segmenter.proofs.NearLemmas.{entry_in_range, bits_span}
use Rattle.segmenter.proofs.TimelineLemmas.{more_in_range}
use Rattle.segmenter.proofs.timeline.Timeline.finish.Goals as goal

pub invariant_of-self : goal.invariant_of-self
invariant_of-self c =
    let start = bits_span c.args.self.now.start c.args.self.now.start_span in
    let end = bits_span c.last_end-end.result c.last_end-end.ensures.span in
    let added : ListEntry = record { number = c.args.number; start_ms = to_z w64 (of_z w64 c.args.self.now.start); end_ms = to_z w64 (of_z w64 c.last_end-end.result) } in record {
      all_in = more_in_range c.args.self.now.entries.items c.push.new.self.items added c.args.self.now.all_in (entry_in_range added start end) c.push.ensures.items;
      zero_near = c.args.self.now.zero_near;
      top_near = c.args.self.now.top_near;
      start_span = c.args.self.now.start_span;
    }
