-- The bytes of a file of frames.
use Rattle.std.proofs.Common.{◌≡◌, ℕ, List, [], ◌∷◌, ◌++◌, length, ap, ◌∙◌, sym, refl, append_assoc, append-nil, true}
use Rattle.std.specs.Prelude.{flat_map}
use Rattle.rmx_media.specs.declared.config.Config.{Config}
use Rattle.rmx_media.specs.declared.config.Config.TheVariants.{Avc, Aac}
use Rattle.rmx_media.specs.declared.packet.Form.{Form}
use Rattle.rmx_media.specs.declared.packet.Form.TheVariants as form
use Rattle.rmx_media.specs.declared.packet.Packet.{Packet}
use Rattle.rmx_media.specs.Adts.{adts_head}
use Rattle.rmx_edge.specs.Shelf.{ShelfCall, Create, Close, after}
use Rattle.rmx_edge.specs.Pieces.{joined}
use Rattle.rmx_edge.proofs.FileTakes.{files_are_takes, pieces_over, writes-calls_over}
use Rattle.aac_adts.specs.Adts.{pieces_by, pieces_of, frame_by, frame_of}
use Rattle.aac_adts.specs.Laws.{FilesAreFrames}

joined_pieces : (config : Config) (f : Form) (payload : List ℕ) → joined (pieces_by config f payload) ≡ frame_by config f payload
joined_pieces (Aac config) form.Native payload = ap (λ (l : List ℕ). adts_head config (length payload) ++ l) (append-nil payload)
joined_pieces (Aac config) form.AnnexB payload = append-nil payload
joined_pieces (Aac config) form.Adts payload = append-nil payload
joined_pieces (Avc config) f payload = append-nil payload

joined-append : (xs ys : List (List ℕ)) → joined (xs ++ ys) ≡ joined xs ++ joined ys
joined-append [] ys = refl
joined-append (x ∷ xs) ys = ap (λ (l : List ℕ). x ++ l) (joined-append xs ys) ∙ sym (append_assoc x (joined xs) (joined ys))

-- the pieces of packets after others, one after another
abbrev pub pieces_after : List Packet → List Packet → List (List ℕ)
pieces_after before packets = pieces_over (λ (bs : List Packet) (p : Packet). pieces_of p) before packets

joined_frames : (before packets : List Packet) → joined (pieces_after before packets) ≡ flat_map frame_of packets
joined_frames before [] = refl
joined_frames before (p ∷ ps) =
    joined-append (pieces_of p) (pieces_after (before ++ p ∷ []) ps)
    ∙ ap (λ (l : List ℕ). l ++ joined (pieces_after (before ++ p ∷ []) ps)) (joined_pieces p.config p.form p.payload)
    ∙ ap (λ (l : List ℕ). frame_of p ++ l) (joined_frames (before ++ p ∷ []) ps)

pub files_are_frames : FilesAreFrames
files_are_frames name packets old =
    ap (λ (calls : List ShelfCall). after (Create name ∷ (calls ++ Close ∷ [])) old) (writes-calls_over (λ (bs : List Packet) (p : Packet). pieces_of p) [] packets)
    ∙ files_are_takes name (pieces_after [] packets) old
    ∙ ap (λ (bytes : List ℕ). old ++ record { name = name; bytes = bytes; closed = true } ∷ []) (joined_frames [] packets)
