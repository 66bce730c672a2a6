use Rattle.std.proofs.Common.{◌≡◌, List, get_or, sym, ◌∙◌, subst, ◌<◌, length, false}
use Rattle.std.specs.List.{list_any}
use Rattle.rmx_media.specs.declared.streams.StreamInfo.{StreamInfo}
use Rattle.tee.specs.Route.{AllFiltered, filters_in}
use Rattle.tee.specs.Sits.{AllSit}
use Rattle.tee.specs.declared.filter.Filtered.{Filtered}
use Rattle.tee.specs.declared.output.TeeSlave.{TeeSlave}
use Rattle.tee.proofs.Routes.{info_of, number_of}
use Rattle.tee.proofs.tee.Tee.hand.Goals as goal

pub pass-requires-clause-plain : goal.pass-requires-clause-plain
pass-requires-clause-plain g c =
    subst (λ (ts : List (TeeSlave g.row.S.Denot g.S.Shelf)). list_any (λ t. filters_in t.choice c.args.p.now.stream) ts ≡ false) c.as_slice.ensures.value (sym c.filters_any.ensures ∙ c.if-not-filters_any.true)

pub bounds-as_slice-p : goal.bounds-as_slice-p
bounds-as_slice-p g c =
    subst (λ (xs : List StreamInfo). c.args.p.now.stream < length xs) (sym c.as_slice-3.ensures) (number_of c.args.self.now.infos.items c.args.p.now c.requires.taken)

pub filter_all-requires-clause-info : goal.filter_all-requires-clause-info
filter_all-requires-clause-info g c =
    let info = c.index-as_slice-p.result in
    (info_of c.args.self.now.infos.items c.args.p.now info c.requires.infos c.requires.taken
    (subst (λ (xs : List StreamInfo). info ≡ get_or xs c.args.p.now.stream info) c.as_slice-3.ensures c.index-as_slice-p.is)).sound

pub filter_all-requires-clause-kind : goal.filter_all-requires-clause-kind
filter_all-requires-clause-kind g c =
    let info = c.index-as_slice-p.result in
    (info_of c.args.self.now.infos.items c.args.p.now info c.requires.infos c.requires.taken
    (subst (λ (xs : List StreamInfo). info ≡ get_or xs c.args.p.now.stream info) c.as_slice-3.ensures c.index-as_slice-p.is)).kind

pub give-requires : goal.give-requires
give-requires g c =
    let r = c.requires.ready in
    let infos = c.args.self.now.infos.items in
    let sit = subst (λ (ts : List (TeeSlave g.row.S.Denot g.S.Shelf)). AllSit g.S.Shelf.state infos r.0 r.1 r.2 ts) (sym c.as_slice-2.ensures.value) r.3 in
    let filtered = subst (λ (fs : List Filtered). AllFiltered r.1 c.args.p.now fs) (sym c.as_slice-4.ensures.value) (c.in_ok-filter_all.ensures infos r.0 r.1 r.2 c.requires.infos sit c.requires.taken) in
    record { few = c.requires.few; ready = (infos, r.0, r.1, r.2, r.3, filtered, r.4) }

pub returns-clause-sit : goal.returns-clause-sit
returns-clause-sit g c = λ given seats histories a.
    let infos = c.args.self.now.infos.items in
    let sit = subst (λ (ts : List (TeeSlave g.row.S.Denot g.S.Shelf)). AllSit g.S.Shelf.state infos given seats histories ts) (sym c.as_slice-2.ensures.value) a in
    let filtered = subst (λ (fs : List Filtered). AllFiltered seats c.args.p.now fs) (sym c.as_slice-4.ensures.value) (c.in_ok-filter_all.ensures infos given seats histories c.requires.infos sit c.requires.taken) in
    c.give.ensures.sit infos given seats histories a filtered
