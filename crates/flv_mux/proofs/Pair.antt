-- The configurations of two streams.
use Rattle.std.proofs.Common.{◌≡◌, ℕ, ◌<◌, ◌≤◌, arith, List, [], ◌∷◌, ◌++◌, length, get_or, ap, ◌∙◌, sym, append-nil}
use Rattle.std.specs.Prelude.{flat_map}
use Rattle.rmx_media.specs.declared.streams.MuxStream.{MuxStream}
use Rattle.flv_mux.specs.Flv.{stream_pieces}

pub two_streams : (ss : List MuxStream) (v a : MuxStream) → 2 ≤ length ss → length ss < 3 → v ≡ get_or ss 0 v → a ≡ get_or ss 1 a → stream_pieces v ++ stream_pieces a ≡ flat_map stream_pieces ss
two_streams [] v a h k ev ea = absurd (omega arith)
two_streams (s ∷ []) v a h k ev ea = absurd (omega arith)
two_streams (s ∷ t ∷ []) v a h k ev ea =
    ap (λ (x : MuxStream). stream_pieces x ++ stream_pieces a) ev
    ∙ ap (λ (y : MuxStream). stream_pieces s ++ stream_pieces y) ea
    ∙ ap (λ (l : List (List ℕ)). stream_pieces s ++ l) (sym (append-nil (stream_pieces t)))
two_streams (s ∷ t ∷ u ∷ ss) v a h k ev ea = absurd (omega arith)
