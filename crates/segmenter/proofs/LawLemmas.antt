-- A session is whole files and the list.
use Rattle.std.proofs.Common.{◌≡◌, ◌+◌, ℕ, Bool, true, false, if◌then◌else◌, List, [], ◌∷◌, ◌++◌, length, refl, ap, ◌∙◌, sym, append-nil, append_assoc, length-append}
use Rattle.rmx_edge.specs.Count.{raised}
use Rattle.rmx_edge.specs.FileCalls.{calls_over}
use Rattle.rmx_edge.specs.Shelf.{ShelfCall}
use Rattle.rmx_edge.proofs.HistoryRuns.{calls_over-append}
use Rattle.rmx_edge.proofs.Run.{raised-raised}
use Rattle.rmx_media.specs.declared.packet.Packet.{Packet}
use Rattle.segmenter.specs.Calls.{begin_file, put_in_file, end_file, put_calls, end_calls, list_by, whole_file, whole_files}
use Rattle.segmenter.specs.FileMux.{put_of}
use Rattle.segmenter.specs.Laws.{SegmentsAreFiles}
use Rattle.segmenter.specs.Session.{Plan, Session, cuts_in, cutting, last_stretch, stretches_from}
use Rattle.segmenter.specs.Times.{lowered_by, base_of, lowered}
use Rattle.segmenter.proofs.PutLemmas.{put_cut, put_stay, stretch_cut, stretch_stay, cutting_cut, cutting_stay}
use Rattle.segmenter.proofs.SessionLemmas.{last_stretch_none, cutting_none}
use Rattle.segmenter.proofs.TimelineLemmas.{raised_none}
use Rattle.segmenter.proofs.TimesLemmas.{lowered_push}

-- the calls of a file's packets
abbrev over : Session → List Packet → List ShelfCall
over s stretch = calls_over (put_of s.plan.options.inner s.plan.streams) [] (lowered s.plan.options.reset stretch)

over_push : (s : Session) (stretch : List Packet) (p : Packet) → over s (stretch ++ p ∷ []) ≡ over s stretch ++ put_in_file s stretch p
over_push s stretch p =
    let put = put_of s.plan.options.inner s.plan.streams in
    let reset : Bool = s.plan.options.reset in
    let q : Packet = lowered_by (base_of reset (stretch ++ p ∷ [])) p in
    ap (calls_over put []) (lowered_push reset stretch p)
    ∙ calls_over-append put [] (lowered reset stretch) (q ∷ [])
    ∙ ap (λ (l : List ShelfCall). over s stretch ++ l) (append-nil (put (lowered reset stretch) q))

stay_assoc : (b c p d e : List ShelfCall) → b ++ (c ++ ((p ++ d) ++ e)) ≡ b ++ ((c ++ p) ++ (d ++ e))
stay_assoc b c p d e = simp append_assoc

turn_assoc : (b c e f p d g : List ShelfCall) → b ++ (c ++ (((e ++ (f ++ p)) ++ d) ++ g)) ≡ (b ++ (c ++ e)) ++ (f ++ (p ++ (d ++ g)))
turn_assoc b c e f p d g = simp append_assoc

-- what is left of a session, behind the packets before, of which those of the file that is being written are `opened`
abbrev left : Session → List Packet → List Packet → List ShelfCall
left s before rest = calls_over (put_calls s) before rest ++ end_file s (last_stretch s.plan (before ++ rest))

-- what the session with these packets left makes, by the files that are left
abbrev IsLeft : Session → List Packet → List Packet → Type 0
IsLeft s before rest =
    (opened : List Packet) (n : ℕ) → last_stretch s.plan before ≡ opened → n ≡ raised s.first (length (cutting s.plan before))
    → begin_file s n ++ (over s opened ++ left s before rest) ≡ whole_files s n (stretches_from s.plan before opened rest)

ends_same : (s : Session) (before : List Packet) (p : Packet) (rest : List Packet) → end_file s (last_stretch s.plan (before ++ p ∷ rest)) ≡ end_file s (last_stretch s.plan ((before ++ p ∷ []) ++ rest))
ends_same s before p rest = ap (λ (ps : List Packet). end_file s (last_stretch s.plan ps)) (sym (append_assoc before (p ∷ []) rest))

-- a packet that cuts
cut_left : (s : Session) (before : List Packet) (p : Packet) (rest : List Packet) → cuts_in s.plan before p ≡ true → IsLeft s (before ++ p ∷ []) rest → IsLeft s before (p ∷ rest)
cut_left s before p rest cut more = λ opened n is count.
    let plan : Plan = s.plan in
    let next : ℕ = raised s.first (length (cutting plan before) + 1) in
    let put : List ShelfCall = put_in_file s [] p in
    let d : List ShelfCall = calls_over (put_calls s) (before ++ p ∷ []) rest in
    let e : List ShelfCall = end_file s (last_stretch plan ((before ++ p ∷ []) ++ rest)) in
    let files : List (List Packet) = stretches_from plan (before ++ p ∷ []) (p ∷ []) rest in
    let calls : put_calls s before p ≡ end_file s opened ++ (begin_file s next ++ put) =
    put_cut s before p cut ∙ ap (λ (l : List Packet). end_file s l ++ (begin_file s next ++ put)) is in
    let longer : next ≡ raised s.first (length (cutting plan (before ++ p ∷ []))) =
    ap (raised s.first) (sym (length-append (cutting plan before) (p ∷ [])) ∙ ap (λ (l : List Packet). length l) (sym (cutting_cut plan before p cut))) in
    let number : next ≡ raised n 1 = sym (raised-raised s.first (length (cutting plan before)) 1) ∙ ap (λ (m : ℕ). raised m 1) (sym count) in
    ap (λ (l : List ShelfCall). begin_file s n ++ (over s opened ++ ((l ++ d) ++ end_file s (last_stretch plan (before ++ p ∷ rest))))) calls
    ∙ ap (λ (l : List ShelfCall). begin_file s n ++ (over s opened ++ (((end_file s opened ++ (begin_file s next ++ put)) ++ d) ++ l))) (ends_same s before p rest)
    ∙ turn_assoc (begin_file s n) (over s opened) (end_file s opened) (begin_file s next) put d e
    ∙ ap (λ (l : List ShelfCall). (begin_file s n ++ (over s opened ++ end_file s opened)) ++ (begin_file s next ++ (l ++ (d ++ e)))) (sym (over_push s [] p))
    ∙ ap (λ (l : List ShelfCall). (begin_file s n ++ (over s opened ++ end_file s opened)) ++ l) (more (p ∷ []) next (stretch_cut plan before p cut) longer)
    ∙ ap (λ (m : ℕ). (begin_file s n ++ (over s opened ++ end_file s opened)) ++ whole_files s m files) number
    ∙ ap (λ (b : Bool). whole_files s n (if b then opened ∷ files else stretches_from plan (before ++ p ∷ []) (opened ++ p ∷ []) rest)) (sym cut)

-- and one that doesn't
stay_left : (s : Session) (before : List Packet) (p : Packet) (rest : List Packet) → cuts_in s.plan before p ≡ false → IsLeft s (before ++ p ∷ []) rest → IsLeft s before (p ∷ rest)
stay_left s before p rest stay more = λ opened n is count.
    let plan : Plan = s.plan in
    let put : List ShelfCall = put_in_file s opened p in
    let d : List ShelfCall = calls_over (put_calls s) (before ++ p ∷ []) rest in
    let e : List ShelfCall = end_file s (last_stretch plan ((before ++ p ∷ []) ++ rest)) in
    let files : List (List Packet) = stretches_from plan (before ++ p ∷ []) (opened ++ p ∷ []) rest in
    let calls : put_calls s before p ≡ put = put_stay s before p stay ∙ ap (λ (l : List Packet). put_in_file s l p) is in
    let longer : n ≡ raised s.first (length (cutting plan (before ++ p ∷ []))) = count ∙ ap (λ (l : List Packet). raised s.first (length l)) (sym (cutting_stay plan before p stay)) in
    ap (λ (l : List ShelfCall). begin_file s n ++ (over s opened ++ ((l ++ d) ++ end_file s (last_stretch plan (before ++ p ∷ rest))))) calls
    ∙ ap (λ (l : List ShelfCall). begin_file s n ++ (over s opened ++ ((put ++ d) ++ l))) (ends_same s before p rest)
    ∙ stay_assoc (begin_file s n) (over s opened) put d e
    ∙ ap (λ (l : List ShelfCall). begin_file s n ++ (l ++ (d ++ e))) (sym (over_push s opened p))
    ∙ more (opened ++ p ∷ []) n (stretch_stay plan before p stay ∙ ap (λ (l : List Packet). l ++ p ∷ []) is) longer
    ∙ ap (λ (b : Bool). whole_files s n (if b then opened ∷ stretches_from plan (before ++ p ∷ []) (p ∷ []) rest else files)) (sym stay)

none_left : (s : Session) (before : List Packet) → IsLeft s before []
none_left s before = λ opened n is count.
    let end : end_file s (last_stretch s.plan (before ++ [])) ≡ end_file s opened =
    ap (λ (ps : List Packet). end_file s (last_stretch s.plan ps)) (append-nil before) ∙ ap (end_file s) is in
    ap (λ (l : List ShelfCall). begin_file s n ++ (over s opened ++ l)) end ∙ sym (append-nil (whole_file s n opened))

one_left : (s : Session) (before : List Packet) (p : Packet) (rest : List Packet) (b : Bool) → cuts_in s.plan before p ≡ b → IsLeft s (before ++ p ∷ []) rest → IsLeft s before (p ∷ rest)
one_left s before p rest true e more = cut_left s before p rest e more
one_left s before p rest false e more = stay_left s before p rest e more

files_left : (s : Session) (rest before : List Packet) → IsLeft s before rest
files_left s [] before = none_left s before
files_left s (p ∷ rest) before = one_left s before p rest (cuts_in s.plan before p) refl (files_left s rest (before ++ p ∷ []))

pub segments_are_files : SegmentsAreFiles
unfolding end_calls
segments_are_files s packets =
    let list : List ShelfCall = list_by s s.plan.options.list packets in
    let calls : List ShelfCall = calls_over (put_calls s) [] packets in
    let end : List ShelfCall = end_file s (last_stretch s.plan packets) in
    let first : s.first ≡ raised s.first (length (cutting s.plan [])) = sym (raised_none s.first) ∙ ap (λ (l : List Packet). raised s.first (length l)) (sym (cutting_none s.plan)) in
    ap (λ (l : List ShelfCall). begin_file s s.first ++ l) (sym (append_assoc calls end list))
    ∙ sym (append_assoc (begin_file s s.first) (calls ++ end) list)
    ∙ ap (λ (l : List ShelfCall). l ++ list) (files_left s packets [] [] s.first (last_stretch_none s.plan) first)
