-- What clauses see of a muxer of segments.
use Rattle.std.specs.Prelude.{◌≡◌, ℕ, ◌+◌, ◌==◌, Bool, List, [], ◌∷◌, map, reverse, length, IsSome, Some, None}
use Rattle.playlist.specs.Template.{TemplateParts}
use Rattle.rmx_edge.specs.Count.{raised}
use Rattle.rmx_media.specs.declared.packet.Packet.{Packet}
use Rattle.ts_mux.specs.File.{video_of}
use Rattle.segmenter.specs.Cuts.{Mark, cuts}
use Rattle.segmenter.specs.Cutter.{Shows as CutterShows}
use Rattle.segmenter.specs.FileMux.{IsFileMuxOf, FileAfter}
use Rattle.segmenter.specs.Session.{Plan, Session, rule_of, mark_of, is_reference, cutting, last_stretch}
use Rattle.segmenter.specs.Times.{base_of, lowered}
use Rattle.segmenter.specs.Timeline.{Shows as TimelineShows}
use Rattle.segmenter.specs.declared.mux.SegMux.{SegMux}

-- the number that its next file gets
abbrev pub next_of : SegMux → ℕ
next_of m = m.next

-- it was made of these options and streams
pub record IsSegMuxOf (plan : Plan) (m : SegMux) : Type 0 where
  pub options : m.options ≡ plan.options
  pub file : IsFileMuxOf plan.options.inner plan.streams m.file
  pub video : m.video ≡ video_of plan.streams.streams.items
  pub reference : (number : ℕ) → is_reference plan.streams.streams.items number ≡ (number == m.reference)

-- what it keeps for a session's list: `cutters` are the packets before that cut
pub record Lists (m : SegMux) (s : Session) (cutters before : List Packet) : Type 0 where
  pub number : m.number ≡ raised s.first (length cutters)
  pub template : m.template ≡ Some s.template
  pub timeline : IsSome s.plan.options.list → TimelineShows m.timeline s cutters before
  -- the first packet doesn't cut
  pub first : before ≡ [] → cutters ≡ []

-- it writes the file that has the packets `stretch`
pub record Stands (m : SegMux) (s : Session) (stretch cutters before : List Packet) : Type 0 where
  pub file : FileAfter (lowered s.plan.options.reset stretch) m.file
  pub base : m.base ≡ base_of s.plan.options.reset stretch
  pub next : m.next ≡ raised s.first (length cutters + 1)
  pub lists : Lists m s cutters before

-- it stands behind these packets of a session
pub record Shows (m : SegMux) (s : Session) (before : List Packet) : Type 0 where
  pub cutter : CutterShows m.cutter (rule_of s.plan) (map (mark_of s.plan) (reverse before))
  pub stands : Stands m s (last_stretch s.plan before) (cutting s.plan before) before

-- a session was opened, and no file was begun yet
pub record IsOpen (m : SegMux) (template : TemplateParts) : Type 0 where
  pub cutter : CutterShows m.cutter (record { time_us = m.options.time_us; any_packet = m.options.any_packet }) []
  pub base : m.base ≡ None
  pub template_is : m.template ≡ Some template
  pub timeline : (s : Session) → TimelineShows m.timeline s [] []

-- all is as it was but the file, its number and the next one
pub record Keeps (old new : SegMux) : Type 0 where
  pub options : new.options ≡ old.options
  pub cutter : new.cutter ≡ old.cutter
  pub base : new.base ≡ old.base
  pub template : new.template ≡ old.template
  pub timeline : new.timeline ≡ old.timeline

-- the cutter was asked about a packet
pub record Asks (plan : Plan) (p : Packet) (old : SegMux) (result : Bool) (new : SegMux) : Type 0 where
  pub cuts_so : (earlier : List Mark) → CutterShows old.cutter (rule_of plan) earlier → result ≡ cuts (rule_of plan) earlier (mark_of plan p)
  pub shows : (earlier : List Mark) → CutterShows old.cutter (rule_of plan) earlier → CutterShows new.cutter (rule_of plan) (mark_of plan p ∷ earlier)

-- what it keeps of the session but the file, its number and its base
pub record KeepsList (old new : SegMux) : Type 0 where
  pub cutter : new.cutter ≡ old.cutter
  pub template : new.template ≡ old.template
  pub timeline : new.timeline ≡ old.timeline

-- all but the timeline
pub record KeepsFile (old new : SegMux) : Type 0 where
  pub cutter : new.cutter ≡ old.cutter
  pub template : new.template ≡ old.template
  pub file : new.file ≡ old.file
  pub base : new.base ≡ old.base
  pub number : new.number ≡ old.number
  pub next : new.next ≡ old.next
