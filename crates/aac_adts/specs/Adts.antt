-- Files of ADTS frames: which calls of a shelf write one.
use Rattle.std.specs.Prelude.{ℕ, List, [], ◌∷◌, length}
use Rattle.rmx_media.specs.declared.config.Config.{Config}
use Rattle.rmx_media.specs.declared.config.Config.TheVariants.{Avc, Aac}
use Rattle.rmx_media.specs.declared.packet.Form.{Form}
use Rattle.rmx_media.specs.declared.packet.Form.TheVariants as form
use Rattle.rmx_media.specs.declared.packet.Packet.{Packet}
use Rattle.rmx_media.specs.Adts.{adts_head, adts_frame}
use Rattle.rmx_edge.specs.Shelf.{ShelfCall, Create, Close}
use Rattle.rmx_edge.specs.Pieces.{writes}
use Rattle.rmx_edge.specs.FileCalls.{file_calls}

-- the pieces of a packet: its own configuration's head and the payload, or a payload that is a frame already
abbrev pub pieces_by : Config → Form → List ℕ → List (List ℕ)
pieces_by (Aac config) form.Native payload = adts_head config (length payload) ∷ payload ∷ []
pieces_by (Aac config) form.AnnexB payload = payload ∷ []
pieces_by (Aac config) form.Adts payload = payload ∷ []
pieces_by (Avc config) form payload = payload ∷ []

abbrev pub pieces_of : Packet → List (List ℕ)
pieces_of p = pieces_by p.config p.form p.payload

-- the calls that begin a file, those of a packet, and those that end a file
abbrev pub begin_calls : List ℕ → List ShelfCall
begin_calls name = Create name ∷ []

abbrev pub put_calls : Packet → List ShelfCall
put_calls p = writes (pieces_of p)

abbrev pub end_calls : List ShelfCall
end_calls = Close ∷ []

-- the calls of a whole file of these packets
abbrev pub adts_calls : List ℕ → List Packet → List ShelfCall
adts_calls name packets = file_calls (begin_calls name) (λ (before : List Packet) (p : Packet). put_calls p) (λ (all : List Packet). end_calls) packets

-- the frame of a packet
abbrev pub frame_by : Config → Form → List ℕ → List ℕ
frame_by (Aac config) form.Native payload = adts_frame config payload
frame_by (Aac config) form.AnnexB payload = payload
frame_by (Aac config) form.Adts payload = payload
frame_by (Avc config) form payload = payload

abbrev pub frame_of : Packet → List ℕ
frame_of p = frame_by p.config p.form p.payload
