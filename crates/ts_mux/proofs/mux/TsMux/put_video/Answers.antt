use Rattle.std.proofs.Common.{◌≡◌, ◌≤◌, ℕ, List, [], ◌++◌, length, refl, ap, sym, ◌∙◌, append-nil, subst, true}
use Rattle.rmx_media.specs.declared.avc.AvcConfig.{AvcConfig}
use Rattle.rmx_media.specs.declared.config.Config.TheVariants.{Avc}
use Rattle.rmx_media.specs.declared.packet.Form.{Form}
use Rattle.rmx_media.specs.declared.packet.Packet.{Packet}
use Rattle.rmx_media.specs.Avc.{sets_of}
use Rattle.rmx_media.specs.Fits.{IsPayload}
use Rattle.rmx_media.specs.Units.{units_of, annexb, is_valid}
use Rattle.avc_units.specs.Pieces.{left_of}
use Rattle.avc_units.specs.UnitList.{with_sets}
use Rattle.std.specs.List.{concat}
use Rattle.ts_mux.specs.Pes.{started_form}
use Rattle.ts_mux.specs.Timed.{packet_of}
use Rattle.ts_mux.proofs.MuxLemmas.{video_pes_is}
use Rattle.ts_mux.proofs.UnitLemmas.{native_five, other_five, other_form}
use Rattle.ts_mux.proofs.mux.TsMux.put_video.Goals as goal

pub put_units-requires : goal.put_units-requires
put_units-requires g c κs =
    let p : Packet = packet_of c.args.timed.now in
    let config : AvcConfig = c.args.config.now in
    let units : List (List ℕ) = with_sets (sets_of config) (units_of config.length_size p.payload) in
    let form : started_form config p.form p.payload ≡ annexb units = ap (λ (f : Form). started_form config f p.payload) c.in-Native.is in
    let left : concat (left_of c.annexb_pieces.result) ≡ annexb units =
    c.annexb_pieces.ensures.whole ∙ ap (λ l. annexb (with_sets (sets_of config) (units_of config.length_size l))) c.as_slice-payload.ensures in
    let size : c.annexb_len-size.result ≡ length (annexb units) =
    c.annexb_len-size.ensures ∙ ap (λ l. length (annexb (with_sets (sets_of config) (units_of config.length_size l)))) c.as_slice-payload.ensures in
    let valid : is_valid config.length_size p.payload ≡ true = subst (λ (f : Form). IsPayload (Avc config) f p.payload) c.in-Native.is c.requires.payload in (
      (refl, tt),
      (
        c.requires.begun,
        (
          c.requires.pts,
          (
            c.requires.dts,
            (
              ap length left ∙ sym size,
              (subst (λ (n : ℕ). 5 ≤ n) (sym size) (native_five config p.payload valid), video_pes_is config p (concat (left_of c.annexb_pieces.result)) c.requires.config (form ∙ sym left)),
            ),
          ),
        ),
      ),
    )

pub put_units-requires-in_default : goal.put_units-requires-in_default
put_units-requires-in_default g c κs =
    let p : Packet = packet_of c.args.timed.now in
    let config : AvcConfig = c.args.config.now in
    let payload : List ℕ = c.as_slice-payload.result.now in
    let left : payload ++ [] ≡ p.payload = append-nil payload ∙ c.as_slice-payload.ensures in (
      (refl, tt),
      (
        c.requires.begun,
        (
          c.requires.pts,
          (
            c.requires.dts,
            (
              ap length (append-nil payload),
              (
                subst (λ (l : List ℕ). 5 ≤ length l) (sym c.as_slice-payload.ensures) (other_five config p.form p.payload c.in_default.not-Native c.requires.payload),
                video_pes_is config p (payload ++ []) c.requires.config (other_form config p.form p.payload c.in_default.not-Native ∙ sym left),
              ),
            ),
          ),
        ),
      ),
    )
