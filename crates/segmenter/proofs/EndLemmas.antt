-- The calls of a packet end in a write, and those of a list leave the shelf idle.
use Rattle.std.proofs.Common.{◌≡◌, ℕ, Bool, true, false, ◌&&◌, List, [], ◌∷◌, refl, ◌∙◌, ℤ, Option, Some, None, Result}
use Rattle.std.specs.Prelude.{is_ok, map}
use Rattle.playlist.specs.declared.list.ListEntry.{ListEntry}
use Rattle.playlist.specs.declared.list.ListKind.{ListKind}
use Rattle.playlist.specs.List.{list_calls, list_text}
use Rattle.playlist.specs.Template.{TemplateParts}
use Rattle.rmx_edge.specs.declared.shelf.ShelfFault.{ShelfFault}
use Rattle.rmx_edge.specs.Shelf.{ShelfState, Create, Write, Close}
use Rattle.rmx_edge.specs.Pieces.{EndsInWrite}
use Rattle.rmx_edge.specs.Run.{Runs}
use Rattle.rmx_edge.proofs.Run.{writing_after-append}
use Rattle.rmx_media.specs.declared.packet.Format.{Format}
use Rattle.rmx_media.specs.declared.packet.Format.TheVariants.{Flv, Adts, Mpegts, Segment}
use Rattle.rmx_media.specs.declared.packet.Packet.{Packet}
use Rattle.rmx_media.specs.declared.streams.MuxStreams.{MuxStreams}
use Rattle.rmx_media.specs.Fits.{Fits}
use Rattle.aac_adts.proofs.Ends.{put_ends as adts_put_ends}
use Rattle.flv_mux.proofs.Ends.{put_ends as flv_put_ends}
use Rattle.ts_mux.proofs.EndLemmas.{put_ends as ts_put_ends}
use Rattle.segmenter.specs.FileMux.{put_of}
use Rattle.segmenter.specs.Times.{lowered_by}
use Rattle.segmenter.proofs.TimesLemmas.{fits_itself}

and_false : (b : Bool) → (b && false) ≡ false
and_false true = refl
and_false false = refl

-- a list that was written, or refused, is no longer being written
pub list_idle : (kind : ListKind) (name : List ℕ) (t : TemplateParts) (entries : List ListEntry) (r : Result (Unit {0}) ShelfFault) (a b : ShelfState)
    → Runs (list_calls kind name t entries) r a b → b.writing ≡ false
unfolding list_calls
list_idle kind name t entries r a b run =
    run.writing ∙ rw (writing_after-append (Create name ∷ map Write (list_text kind t entries)) (Close ∷ []) a.writing) (and_false (is_ok r))

-- a packet's calls end in a write, at whatever times it is written
pub put_ends : (f : Format) (streams all : MuxStreams) (before : List Packet) (base : Option ℤ) (p : Packet) → Fits f all p → EndsInWrite (put_of f streams before (lowered_by base p))
put_ends Flv streams all before base p h = flv_put_ends before (lowered_by base p)
put_ends Adts streams all before None p h = adts_put_ends all p (fits_itself Adts all p h)
put_ends Adts streams all before (Some by) p h = adts_put_ends all p (fits_itself Adts all p h)
put_ends Mpegts streams all before base p h = ts_put_ends streams before (lowered_by base p)
put_ends Segment streams all before base p h = absurd h.all.suits
