use Rattle.std.proofs.Common.{◌≡◌, ◌∙◌, ap, sym, subst, List, ℕ, Option, Some}
use Rattle.playlist.specs.declared.list.ListEntry.{ListEntry}
use Rattle.playlist.specs.declared.list.ListKind.{ListKind}
use Rattle.playlist.specs.declared.seg_options.SegOptions.{SegOptions}
use Rattle.playlist.specs.List.{list_calls}
use Rattle.playlist.specs.Template.{TemplateParts}
use Rattle.rmx_edge.specs.Run.{Runs}
use Rattle.segmenter.specs.Calls.{list_by}
use Rattle.segmenter.specs.Entries.{entries}
use Rattle.segmenter.specs.Session.{cutting}
use Rattle.segmenter.proofs.EndLemmas.{list_idle}
use Rattle.segmenter.proofs.TimelineLemmas.{finished}
use Rattle.segmenter.proofs.mux.SegMux.write_list.Goals as goal

pub returns-in-Some-list-clause-idle : goal.returns-in-Some-list-clause-idle
returns-in-Some-list-clause-idle g c = list_idle _ _ _ _ _ _ _ c.write_list.ensures

pub returns-in-Some-list-clause-run : goal.returns-in-Some-list-clause-run
unfolding entries
returns-in-Some-list-clause-run g c = λ s all h lists.
    let asked : c.args.self.now.options.list ≡ Some c.in-Some-list.name = c.in-Some-list.is in
    let list : s.plan.options.list ≡ Some c.in-Some-list.name = ap (λ (o : SegOptions). o.list) (sym h.options) ∙ asked in
    let template : c.in-Some.template ≡ s.template = (let t = lists.template in let i = c.in-Some.is in let v = c.take.ensures.value in cc) in
    let kind : c.args.self.now.options.list_kind ≡ s.plan.options.list_kind = ap (λ (o : SegOptions). o.list_kind) h.options in
    let items : c.entries.result.now ≡ entries s all =
    c.entries.ensures.entries ∙ finished c.args.self.now.timeline c.finish.new.self.entries.items s (cutting s.plan all) all c.args.self.now.number (lists.timeline (ap (λ (o : Option (List ℕ)). Rattle.std.specs.Prelude.is_some o) list)) lists.number c.finish.ensures.entries in
    let a = g.S.Shelf.state c.args.shelf.now in
    let b = g.S.Shelf.state c.write_list.new.shelf in
    subst (λ (o : Option (List ℕ)). Runs (list_by s o all) c.write_list.result a b) (sym list)
    (subst (λ (k : ListKind). Runs (list_calls k c.in-Some-list.name s.template (entries s all)) c.write_list.result a b) kind
    (subst (λ (n : List ℕ). Runs (list_calls c.args.self.now.options.list_kind n s.template (entries s all)) c.write_list.result a b) c.as_str.ensures
    (subst (λ (t : TemplateParts). Runs (list_calls c.args.self.now.options.list_kind c.as_str.result.now t (entries s all)) c.write_list.result a b) template
    (subst (λ (es : List ListEntry). Runs (list_calls c.args.self.now.options.list_kind c.as_str.result.now c.in-Some.template es) c.write_list.result a b) items c.write_list.ensures))))
