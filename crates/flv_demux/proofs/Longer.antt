-- The packets of longer lists of tags.
use Rattle.std.proofs.Common.{◌≡◌, List, [], ◌∷◌, ◌++◌, append_assoc, ap, ◌∙◌, sym, refl}
use Rattle.std.specs.Prelude.{fold}
use Rattle.std.specs.Option.{option_to_list}
use Rattle.std.proofs.lemmas.List.Sums.{fold-append}
use Rattle.rmx_media.specs.declared.packet.Packet.{Packet}
use Rattle.flv_tags.specs.declared.tag.Tag.{Tag}
use Rattle.flv_demux.specs.declared.deal.Desk.{Desk}
use Rattle.flv_demux.specs.declared.deal.Kinds.{Kinds}
use Rattle.flv_demux.specs.Deal.{dealt, desk_of, new_desk, packets_from, packets_by, packet_in, outcome_of}

-- one more tag
pub desk_of-one : (s : Kinds) (tags : List Tag) (tag : Tag) → desk_of s (tags ++ tag ∷ []) ≡ dealt s (desk_of s tags) tag
unfolding desk_of
desk_of-one s tags tag = fold-append (dealt s) new_desk tags (tag ∷ [])

packets_from-append : (s : Kinds) (d : Desk) (a b : List Tag) → packets_from s d (a ++ b) ≡ packets_from s d a ++ packets_from s (fold (dealt s) d a) b
packets_from-append s d [] b = refl
packets_from-append s d (tag ∷ a) b =
    ap (λ (ps : List Packet). option_to_list (packet_in (outcome_of s d tag)) ++ ps) (packets_from-append s (dealt s d tag) a b)
    ∙ sym (append_assoc (option_to_list (packet_in (outcome_of s d tag))) (packets_from s (dealt s d tag) a) (packets_from s (fold (dealt s) (dealt s d tag) a) b))

append_nil : (xs : List Packet) → xs ++ [] ≡ xs
append_nil [] = refl
append_nil (x ∷ xs) = ap (λ (ys : List Packet). x ∷ ys) (append_nil xs)

pub packets_by-one : (s : Kinds) (tags : List Tag) (tag : Tag) → packets_by s (tags ++ tag ∷ []) ≡ packets_by s tags ++ option_to_list (packet_in (outcome_of s (desk_of s tags) tag))
unfolding packets_by desk_of
packets_by-one s tags tag =
    packets_from-append s new_desk tags (tag ∷ []) ∙ ap (λ (ps : List Packet). packets_from s new_desk tags ++ ps) (append_nil (option_to_list (packet_in (outcome_of s (fold (dealt s) new_desk tags) tag))))

-- the packets of a prefix come first
pub packets_by-append : (s : Kinds) (a b : List Tag) → packets_by s (a ++ b) ≡ packets_by s a ++ packets_from s (desk_of s a) b
unfolding packets_by desk_of
packets_by-append s a b = packets_from-append s new_desk a b

pub desk_of-none : (s : Kinds) → desk_of s [] ≡ new_desk
unfolding desk_of
desk_of-none s = refl
