-- The calls of a packet end in a write.
use Rattle.std.proofs.Common.{ℕ, ◌+◌, Bool, true, false, List, [], ◌∷◌, ◌++◌, length, refl, sym, subst}
use Rattle.std.specs.Prelude.{◌==◌, if◌then◌else◌, ℤ}
use Rattle.rmx_media.specs.declared.packet.Packet.{Packet}
use Rattle.std.specs.Int.{w32, int_wrap}
use Rattle.rmx_media.specs.Bits.{bytes_of}
use Rattle.flv_tags.specs.Written.{tag_head_bytes}
use Rattle.rmx_edge.specs.Pieces.{writes, EndsInWrite}
use Rattle.rmx_edge.proofs.PieceLemmas.{ends-append, writes-cons, writes_end_some}
use Rattle.rmx_edge.proofs.FileTakes.{writes-append}
use Rattle.flv_mux.specs.Flv.{tag_pieces, media_pieces, media_lead, tag_kind, config_pieces, version_in, put_calls}

tag_ends : (kind : ℕ) (time : ℤ) (lead content : List ℕ) → EndsInWrite (writes (tag_pieces kind time lead content))
tag_ends kind time lead content =
    let size : ℕ = length lead + length content in
    let front : List ℕ = tag_head_bytes kind size (int_wrap w32 time) ++ lead in
    let back : List ℕ = bytes_of 4 (11 + size) in
    let last : EndsInWrite (writes (back ∷ [])) = writes_end_some back [] refl in
    let two : EndsInWrite (writes (content ∷ back ∷ [])) = subst EndsInWrite (sym (writes-cons content (back ∷ []))) (ends-append (writes (content ∷ [])) (writes (back ∷ [])) last) in
    subst EndsInWrite (sym (writes-cons front (content ∷ back ∷ []))) (ends-append (writes (front ∷ [])) (writes (content ∷ back ∷ [])) two)

media_ends : (p : Packet) → EndsInWrite (writes (media_pieces p))
media_ends p = tag_ends (tag_kind p.config) p.dts (media_lead p p.config) p.payload

ends_by : (b : Bool) (front pieces : List (List ℕ)) → EndsInWrite (writes pieces) → EndsInWrite (writes (if b then pieces else front ++ pieces))
ends_by true front pieces e = e
ends_by false front pieces e = subst EndsInWrite (sym (writes-append front pieces)) (ends-append (writes front) (writes pieces) e)

pub put_ends : (before : List Packet) (p : Packet) → EndsInWrite (put_calls before p)
put_ends before p = ends_by (p.version == version_in p.stream before) (config_pieces p.dts p.config) (media_pieces p) (media_ends p)
