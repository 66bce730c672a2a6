-- There is a muxer for the output of each valid plan.
use Rattle.std.proofs.Common.{◌≡◌, ◌⊎◌, true, false, List, ℕ, Option, Some, None, inl, inr, refl}
use Rattle.std.specs.Prelude.{is_some}
use Rattle.options.specs.Slave.{Slave, is_segment}
use Rattle.options.specs.Valid.{AreFiles, IsValid}
use Rattle.playlist.specs.Template.{template}
use Rattle.playlist.specs.declared.seg_options.SegOptions.{SegOptions}
use Rattle.rmx_media.specs.declared.packet.Format.{Format}
use Rattle.rmx_media.specs.declared.packet.Format.TheVariants.{Flv, Adts, Mpegts, Segment}
use Rattle.slave.specs.Calls.{IsBuilt}

one_file : (format : Format) → is_segment format ≡ false → (format ≡ Adts) ⊎ ((format ≡ Flv) ⊎ (format ≡ Mpegts))
one_file Flv e = inr (inl refl)
one_file Adts e = inl refl
one_file Mpegts e = inr (inr refl)
one_file Segment e = absurd cc

not_there : {A : Type 0} (o : Option A) → is_some o ≡ false → o ≡ None
not_there None e = refl
not_there (Some x) e = absurd cc

built : (format : Format) (seg : Option SegOptions) (name : List ℕ) → is_some seg ≡ is_segment format → AreFiles seg → (is_segment format ≡ true → is_some (template name) ≡ true)
    → IsBuilt format seg name
built Flv seg name e files parts = not_there seg e
built Adts seg name e files parts = not_there seg e
built Mpegts seg name e files parts = not_there seg e
built Segment None name e files parts = absurd cc
built Segment (Some options) name e files parts = (one_file options.inner files, parts refl)

pub built_valid : (s : Slave) → IsValid s → IsBuilt s.format s.seg s.name
built_valid s v = built s.format s.seg s.name v.segments v.files v.template
