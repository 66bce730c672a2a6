-- The calls of a packet, by whether it cuts.
use Rattle.std.proofs.Common.{◌≡◌, ◌+◌, Bool, true, false, ◌&&◌, if◌then◌else◌, List, [], ◌∷◌, ◌++◌, length, refl, ap, ◌∙◌, sym, subst, append-nil}
use Rattle.rmx_edge.specs.Count.{raised}
use Rattle.rmx_edge.specs.Shelf.{ShelfCall}
use Rattle.rmx_edge.specs.Pieces.{EndsInWrite}
use Rattle.rmx_edge.proofs.PieceLemmas.{ends-append}
use Rattle.rmx_media.specs.declared.packet.Packet.{Packet}
use Rattle.rmx_media.specs.declared.streams.MuxStreams.{MuxStreams}
use Rattle.rmx_media.specs.Fits.{Fits}
use Rattle.segmenter.specs.Calls.{begin_file, put_in_file, end_file, put_calls}
use Rattle.segmenter.specs.Session.{Plan, Session, cuts_in, cutting, last_stretch}
use Rattle.segmenter.specs.Times.{base_of, lowered}
use Rattle.segmenter.proofs.EndLemmas.{put_ends}
use Rattle.segmenter.proofs.SessionLemmas.{first_stays, last_stretch_push, cutting_push}

-- the calls of a packet that cuts
abbrev pub cut_calls : Session → List Packet → Packet → List ShelfCall
cut_calls s before p =
    end_file s (last_stretch s.plan before) ++ (begin_file s (raised s.first (length (cutting s.plan before) + 1)) ++ put_in_file s [] p)

-- and of one that doesn't
abbrev pub stay_calls : Session → List Packet → Packet → List ShelfCall
stay_calls s before p = put_in_file s (last_stretch s.plan before) p

pub put_cut : (s : Session) (before : List Packet) (p : Packet) → cuts_in s.plan before p ≡ true → put_calls s before p ≡ cut_calls s before p
unfolding put_calls
put_cut s before p e = ap (λ (b : Bool). if b then cut_calls s before p else stay_calls s before p) e

pub put_stay : (s : Session) (before : List Packet) (p : Packet) → cuts_in s.plan before p ≡ false → put_calls s before p ≡ stay_calls s before p
unfolding put_calls
put_stay s before p e = ap (λ (b : Bool). if b then cut_calls s before p else stay_calls s before p) e

-- something stands before a packet that cuts
pub some_before : (plan : Plan) (before : List Packet) (p : Packet) → cuts_in plan before p ≡ true → before ≡ [] → ⊥
some_before plan before p e none =
    let cut : cuts_in plan [] p ≡ true = subst (λ (ps : List Packet). cuts_in plan ps p ≡ true) none e in
    let stay : cuts_in plan [] p ≡ false = first_stays plan p in
    cc

pub asked_cut : (asked cut : Bool) → cut ≡ true → asked ≡ (asked && cut)
asked_cut true cut e = sym e
asked_cut false cut e = refl

pub stretch_cut : (plan : Plan) (before : List Packet) (p : Packet) → cuts_in plan before p ≡ true → last_stretch plan (before ++ p ∷ []) ≡ p ∷ []
stretch_cut plan before p e = last_stretch_push plan before p ∙ ap (λ (b : Bool). (if b then [] else last_stretch plan before) ++ p ∷ []) e

pub stretch_stay : (plan : Plan) (before : List Packet) (p : Packet) → cuts_in plan before p ≡ false → last_stretch plan (before ++ p ∷ []) ≡ last_stretch plan before ++ p ∷ []
stretch_stay plan before p e = last_stretch_push plan before p ∙ ap (λ (b : Bool). (if b then [] else last_stretch plan before) ++ p ∷ []) e

pub cutting_cut : (plan : Plan) (before : List Packet) (p : Packet) → cuts_in plan before p ≡ true → cutting plan (before ++ p ∷ []) ≡ cutting plan before ++ p ∷ []
cutting_cut plan before p e = cutting_push plan before p ∙ ap (λ (b : Bool). cutting plan before ++ (if b then p ∷ [] else [])) e

pub cutting_stay : (plan : Plan) (before : List Packet) (p : Packet) → cuts_in plan before p ≡ false → cutting plan (before ++ p ∷ []) ≡ cutting plan before
cutting_stay plan before p e = cutting_push plan before p ∙ ap (λ (b : Bool). cutting plan before ++ (if b then p ∷ [] else [])) e ∙ append-nil (cutting plan before)

one_ends : (s : Session) (all : MuxStreams) (stretch : List Packet) (p : Packet) → Fits s.plan.options.inner all p → EndsInWrite (put_in_file s stretch p)
one_ends s all stretch p h = put_ends s.plan.options.inner s.plan.streams all (lowered s.plan.options.reset stretch) (base_of s.plan.options.reset (stretch ++ p ∷ [])) p h

ends_by : (b : Bool) (xs ys : List ShelfCall) → EndsInWrite xs → EndsInWrite ys → EndsInWrite (if b then xs else ys)
ends_by true xs ys h k = h
ends_by false xs ys h k = k

-- they end in a write
pub calls_end : (s : Session) (all : MuxStreams) (before : List Packet) (p : Packet) → Fits s.plan.options.inner all p → EndsInWrite (put_calls s before p)
unfolding put_calls
calls_end s all before p h =
    let begin : List ShelfCall = begin_file s (raised s.first (length (cutting s.plan before) + 1)) in
    let end : List ShelfCall = end_file s (last_stretch s.plan before) in
    ends_by (cuts_in s.plan before p) (cut_calls s before p) (stay_calls s before p)
    (ends-append end (begin ++ put_in_file s [] p) (ends-append begin (put_in_file s [] p) (one_ends s all [] p h)))
    (one_ends s all (last_stretch s.plan before) p h)
