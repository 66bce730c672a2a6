-- The calls of a packet end in a write.
use Rattle.std.proofs.Common.{◌≡◌, ℕ, false, List, [], ◌∷◌, ◌++◌, length, arith, refl, sym, subst}
use Rattle.std.specs.Prelude.{◌==◌}
use Rattle.std.proofs.lemmas.Grind.{common_steps}
use Rattle.rmx_media.specs.declared.aac.AacConfig.{AacConfig}
use Rattle.rmx_media.specs.declared.config.Config.{Config}
use Rattle.rmx_media.specs.declared.config.Config.TheVariants.{Avc, Aac}
use Rattle.rmx_media.specs.declared.packet.Form.{Form}
use Rattle.rmx_media.specs.declared.packet.Form.TheVariants as form
use Rattle.rmx_media.specs.declared.packet.Packet.{Packet}
use Rattle.rmx_media.specs.declared.packet.Format.TheVariants.{Adts}
use Rattle.rmx_media.specs.declared.streams.Kind.TheVariants.{Audio}
use Rattle.rmx_media.specs.declared.streams.MuxStreams.{MuxStreams}
use Rattle.rmx_media.specs.Adts.{adts_head}
use Rattle.rmx_media.specs.Config.{kind_of}
use Rattle.rmx_media.specs.Fits.{IsPayload, FitsLowered}
use Rattle.rmx_edge.specs.Pieces.{writes, EndsInWrite}
use Rattle.rmx_edge.proofs.PieceLemmas.{writes_end_some}
use Rattle.aac_adts.specs.Adts.{pieces_by, put_calls}

some_bytes : (x : ℕ) (xs : List ℕ) → (length (x ∷ xs) == 0) ≡ false
some_bytes x xs = grind (arith, common_steps)

head_some : (config : AacConfig) (size : ℕ) → (length (adts_head config size) == 0) ≡ false
unfolding adts_head
head_some config size = refl

some_more : (xs ys : List ℕ) → (length xs == 0) ≡ false → (length (xs ++ ys) == 0) ≡ false
some_more [] ys h = cc
some_more (x ∷ xs) ys h = some_bytes x (xs ++ ys)

frame_some : (config : AacConfig) (size : ℕ) (payload : List ℕ) → (length (adts_head config size ++ payload) == 0) ≡ false
frame_some config size payload = some_more (adts_head config size) payload (head_some config size)

ends_by : (config : Config) (f : Form) (payload : List ℕ) → kind_of config ≡ Audio → IsPayload config f payload → EndsInWrite (writes (pieces_by config f payload))
ends_by (Aac config) form.Native payload k h = writes_end_some (adts_head config (length payload)) (payload ∷ []) (head_some config (length payload))
ends_by (Aac config) form.AnnexB payload k h = absurd h
ends_by (Aac config) form.Adts payload k h =
    writes_end_some payload [] (subst (λ (bytes : List ℕ). (length bytes == 0) ≡ false) (sym h.spelled) (frame_some config (length h.payload) h.payload))
ends_by (Avc config) f payload k h = cc

-- a packet that fits ends in a write
pub put_ends : (m : MuxStreams) (p : Packet) → FitsLowered Adts m p → EndsInWrite (put_calls p)
put_ends m p fits = ends_by p.config p.form p.payload fits.all.suits fits.all.payload
