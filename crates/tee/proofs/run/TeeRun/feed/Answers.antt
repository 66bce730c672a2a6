use Rattle.std.proofs.Common.{◌≡◌, ◌<◌, ◌+◌, List, [], ◌∷◌, ◌++◌, false, get_or, refl, sym, ◌∙◌, subst, length, arith}
use Rattle.rmx_media.specs.declared.streams.StreamInfo.{StreamInfo}
use Rattle.tee.specs.Attends.{Attends}
use Rattle.tee.specs.Fed.{is_stop}
use Rattle.tee.specs.Tracks.{TrackGoesOn}
use Rattle.tee.proofs.Places.{each_renewed}
use Rattle.tee.proofs.Routes.{info_of, number_of}
use Rattle.tee.proofs.RunFed.{both, fed_more, kept_still, threads_at, threads_stay}
use Rattle.tee.proofs.run.TeeRun.feed.Goals as goal

pub bounds-as_slice-p : goal.bounds-as_slice-p
bounds-as_slice-p g c =
    subst (λ (xs : List StreamInfo). c.args.p.now.stream < length xs) (sym c.as_slice.ensures) (number_of c.args.self.now.infos.items c.args.p.now c.requires.taken)

pub prepare_all-requires-clause-info : goal.prepare_all-requires-clause-info
prepare_all-requires-clause-info g c =
    let info = c.index-as_slice-p.result in
    (info_of c.args.self.now.infos.items c.args.p.now info c.requires.ready.2.stands.are_infos c.requires.taken
    (subst (λ (xs : List StreamInfo). info ≡ get_or xs c.args.p.now.stream info) c.as_slice.ensures c.index-as_slice-p.is)).sound

pub prepare_all-requires-clause-kind : goal.prepare_all-requires-clause-kind
prepare_all-requires-clause-kind g c =
    let info = c.index-as_slice-p.result in
    (info_of c.args.self.now.infos.items c.args.p.now info c.requires.ready.2.stands.are_infos c.requires.taken
    (subst (λ (xs : List StreamInfo). info ≡ get_or xs c.args.p.now.stream info) c.as_slice.ensures c.index-as_slice-p.is)).kind

pub give_all_out-requires : goal.give_all_out-requires
give_all_out-requires g c =
    let r = c.requires.ready in
    let st = r.2.stands in
    let infos = c.args.self.now.infos.items in
    record { few = rw c.prepare_all.ensures.len r.2.few; ready = (infos, r.1, length r.1, r.0, st.tracks, c.in-Ok.ensures.ready infos r.1 (length r.1) r.0 st.tracks st.are_infos c.requires.taken st.attend, r.3) }

pub ask_all-requires : goal.ask_all-requires
ask_all-requires g c =
    let r = c.requires.ready in
    let st = r.2.stands in
    let p = c.args.p.now in
    let infos = c.args.self.now.infos.items in
    let on = c.give_all_out.ensures.attend infos r.1 (length r.1) r.0 st.tracks (c.in-Ok.ensures.ready infos r.1 (length r.1) r.0 st.tracks st.are_infos c.requires.taken st.attend) in
    let new = each_renewed (Attends g.S.Shelf.state infos (r.1 ++ p ∷ []) (length r.1) false) (TrackGoesOn (length r.1 + 1)) r.0 st.tracks c.give_all_out.new.outlets.items on in
    record { ready = (infos, r.1 ++ p ∷ [], length r.1, r.0, new.list, new.each, omega (arith, r.3)) }

pub count-requires : goal.count-requires
count-requires g c = let r = c.requires.ready in record { few = omega (arith, r.2.stands.watches.count_is, r.3) }

pub returns-in-Err-clause-kept : goal.returns-in-Err-clause-kept
returns-in-Err-clause-kept g c = λ seats given k.
    kept_still g.S.Shelf.state c.args.self.now _ seats given k refl refl refl refl c.prepare_all.ensures.len
    (c.prepare_all.ensures.same c.args.self.now.infos.items given (length given) seats k.stands.tracks k.stands.attend)

pub returns-clause-fed : goal.returns-clause-fed
returns-clause-fed g c = λ seats given k.
    let st = k.stands in
    let p = c.args.p.now in
    let infos = c.args.self.now.infos.items in
    let n = length given in
    let on = c.give_all_out.ensures.attend infos given n seats st.tracks (c.in-Ok.ensures.ready infos given n seats st.tracks st.are_infos c.requires.taken st.attend) in
    let all = both g.S.Shelf.state infos seats (given ++ p ∷ []) n st.tracks c.give_all_out.new.outlets.items c.ask_all.new.outlets.items on
    (λ ts now. c.ask_all.ensures.attend infos (given ++ p ∷ []) n seats ts now) in
    fed_more g.S.Shelf.state c.args.self.now c.count.new.self c.give_all_out.new.outlets.items seats given p (is_stop c.count.result) k
    c.count.ensures.infos
    (rw c.count.ensures.outlets all)
    (rw c.count.ensures.outlets (c.ask_all.ensures.len ∙ c.give_all_out.ensures.len ∙ c.prepare_all.ensures.len))
    c.count.ensures.given
    (λ ts now. c.count.ensures.stopped infos (given ++ p ∷ []) (n + 1) seats ts (rw (← c.count.ensures.outlets) now))
    c.count.ensures.ends
    c.count.ensures.fed

pub returns-in-Err-clause-threads : goal.returns-in-Err-clause-threads
returns-in-Err-clause-threads g c =
    let r = c.requires.ready in
    let st = r.2.stands in
    let infos = c.args.self.now.infos.items in
    let n = length r.1 in
    threads_at g.S.Shelf.state infos r.1 n r.0 st.tracks c.prepare_all.new.outlets.items (c.prepare_all.ensures.same infos r.1 n r.0 st.tracks st.attend)
    ∙ sym (threads_at g.S.Shelf.state infos r.1 n r.0 st.tracks c.args.self.now.outlets.items st.attend)

pub returns-clause-threads : goal.returns-clause-threads
returns-clause-threads g c =
    let r = c.requires.ready in
    let st = r.2.stands in
    let p = c.args.p.now in
    let infos = c.args.self.now.infos.items in
    let n = length r.1 in
    let on = c.give_all_out.ensures.attend infos r.1 n r.0 st.tracks (c.in-Ok.ensures.ready infos r.1 n r.0 st.tracks st.are_infos c.requires.taken st.attend) in
    let all = both g.S.Shelf.state infos r.0 (r.1 ++ p ∷ []) n st.tracks c.give_all_out.new.outlets.items c.ask_all.new.outlets.items on
    (λ ts now. c.ask_all.ensures.attend infos (r.1 ++ p ∷ []) n r.0 ts now) in
    rw c.count.ensures.outlets (threads_at g.S.Shelf.state infos (r.1 ++ p ∷ []) (n + 1) r.0 all.asked_all.list c.ask_all.new.outlets.items all.asked_all.each)
    ∙ threads_stay (n + 1) r.0 st.tracks all.asked_all.list all.on
    ∙ sym (threads_at g.S.Shelf.state infos r.1 n r.0 st.tracks c.args.self.now.outlets.items st.attend)
