use Rattle.std.proofs.Common.{rules, ◌∷◌, [], List, ℕ, ℤ, ap, ◌∙◌, sym, subst}
use Rattle.std.specs.Prelude.{unsigned_abs, ◌-ℤ◌, if◌then◌else◌}
use Rattle.std.specs.Int.{w64}
use Rattle.std.proofs.lemmas.Int.{to_z-of_z}
use mir.Val.{SFits, of_z, to_z}
use Rattle.rmx_media.specs.declared.config.Config.{Config}
use Rattle.rmx_media.specs.Bits.{bytes_of}
use Rattle.rmx_edge.specs.Pieces.{writes}
use Rattle.rmx_edge.specs.Run.{Runs}
use Rattle.flv_mux.specs.Flv.{tag_pieces, tag_kind, media_lead}
use Rattle.flv_mux.specs.Timed.{packet_of}
use Rattle.flv_mux.proofs.packet.write_media.Goals as goal

pub returns-in-Avc-clause-run : goal.returns-in-Avc-clause-run
returns-in-Avc-clause-run g c =
    let p = packet_of c.args.p.now in
    let start = g.S.Shelf.state c.args.shelf.now in
    let end = g.S.Shelf.state c.write_tag.new.shelf in
    let fits_dts : SFits w64 p.dts = search rules in
    let fits_pts : SFits w64 p.pts = search rules in
    let dts = to_z-of_z w64 p.dts fits_dts in
    let pts = to_z-of_z w64 p.pts fits_pts in
    let lead_of : ℤ → ℤ → List ℕ = λ (d e : ℤ). (if p.key then 23 else 39) ∷ 1 ∷ bytes_of 3 (unsigned_abs (e -ℤ d)) in
    let lead = c.video_lead-lead.ensures ∙ ap (λ (d : ℤ). lead_of d (to_z w64 (of_z w64 p.pts))) dts ∙ ap (λ (e : ℤ). lead_of p.dts e) pts in
    let pieces =
    ap (λ (t : ℤ). tag_pieces 9 t c.video_lead-lead.result c.as_slice-payload.result.now) dts
    ∙ ap (λ (l : List ℕ). tag_pieces 9 p.dts l c.as_slice-payload.result.now) lead
    ∙ ap (λ (l : List ℕ). tag_pieces 9 p.dts (lead_of p.dts p.pts) l) c.as_slice-payload.ensures
    ∙ ap (λ (config : Config). tag_pieces (tag_kind config) p.dts (media_lead p config) p.payload) (sym c.in-Avc.is) in
    subst (λ (ps : List (List ℕ)). Runs (writes ps) c.write_tag.result start end) pieces c.write_tag.ensures.run

pub returns-in-Aac-clause-run : goal.returns-in-Aac-clause-run
returns-in-Aac-clause-run g c =
    let p = packet_of c.args.p.now in
    let start = g.S.Shelf.state c.args.shelf.now in
    let end = g.S.Shelf.state c.write_tag-in-Aac.new.shelf in
    let fits : SFits w64 p.dts = search rules in
    let lead : List ℕ = 175 ∷ 1 ∷ [] in
    let pieces =
    ap (λ (t : ℤ). tag_pieces 8 t lead c.as_slice-payload.result.now) (to_z-of_z w64 p.dts fits)
    ∙ ap (λ (l : List ℕ). tag_pieces 8 p.dts lead l) c.as_slice-payload.ensures
    ∙ ap (λ (config : Config). tag_pieces (tag_kind config) p.dts (media_lead p config) p.payload) (sym c.in-Aac.is) in
    subst (λ (ps : List (List ℕ)). Runs (writes ps) c.write_tag-in-Aac.result start end) pieces c.write_tag-in-Aac.ensures.run
