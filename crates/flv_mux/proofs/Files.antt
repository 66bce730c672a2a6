-- The bytes of a file of FLV.
use Rattle.std.proofs.Common.{◌≡◌, ℕ, List, [], ◌∷◌, ◌++◌, ap, ◌∙◌, sym, refl, append_assoc}
use Rattle.rmx_media.specs.declared.packet.Packet.{Packet}
use Rattle.rmx_edge.specs.Shelf.{ShelfCall, Create, Close, after}
use Rattle.rmx_edge.specs.Pieces.{writes}
use Rattle.rmx_edge.specs.FileCalls.{calls_over}
use Rattle.rmx_edge.proofs.FileTakes.{files_are_takes, writes-append}
use Rattle.flv_mux.specs.Flv.{head_pieces, packet_pieces, tail_pieces, put_calls}
use Rattle.flv_mux.specs.Laws.{pieces_after, file_pieces, FilesAreTags}

writes_after : (before packets : List Packet) → calls_over put_calls before packets ≡ writes (pieces_after before packets)
unfolding writes
writes_after before [] = refl
writes_after before (p ∷ ps) =
    ap (λ (l : List ShelfCall). writes (packet_pieces before p) ++ l) (writes_after (before ++ p ∷ []) ps)
    ∙ sym (writes-append (packet_pieces before p) (pieces_after (before ++ p ∷ []) ps))

three : (head body tail : List (List ℕ)) → writes head ++ (writes body ++ (writes tail ++ Close ∷ [])) ≡ writes (head ++ (body ++ tail)) ++ Close ∷ []
three head body tail =
    ap (λ (l : List ShelfCall). writes head ++ l) (sym (append_assoc (writes body) (writes tail) (Close ∷ [])))
    ∙ sym (append_assoc (writes head) (writes body ++ writes tail) (Close ∷ []))
    ∙ ap (λ (l : List ShelfCall). (writes head ++ l) ++ Close ∷ []) (sym (writes-append body tail))
    ∙ ap (λ (l : List ShelfCall). l ++ Close ∷ []) (sym (writes-append head (body ++ tail)))

pub files_are_tags : FilesAreTags
files_are_tags m name packets old =
    ap (λ (l : List ShelfCall). after (Create name ∷ (writes (head_pieces m) ++ (l ++ (writes (tail_pieces m packets) ++ Close ∷ [])))) old) (writes_after [] packets)
    ∙ ap (λ (l : List ShelfCall). after (Create name ∷ l) old) (three (head_pieces m) (pieces_after [] packets) (tail_pieces m packets))
    ∙ files_are_takes name (file_pieces m packets) old
