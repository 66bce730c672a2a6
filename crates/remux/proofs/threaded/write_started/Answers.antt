use Rattle.std.proofs.Common.{List, ap, ◌∙◌, sym, refl, subst, inr, length}
use Rattle.rmx_media.specs.declared.streams.StreamInfo.{StreamInfo}
use Rattle.options.specs.Words.{plan_view}
use Rattle.tee.specs.Seat.{first_without}
use Rattle.remux.specs.Asked.{asked_with, clamped}
use Rattle.remux.specs.Outcome.{IsNothing, unmade_by}
use Rattle.remux.specs.Starting.{new_line}
use Rattle.remux.specs.declared.status.Status.{Status}
use Rattle.remux.specs.declared.status.Status.TheVariants as status
use Rattle.remux.proofs.Inlining.{counted_within, nothing_within}
use Rattle.remux.proofs.Running.{aborts_by, infos_found, nothing_early, script_found, script_told, seats_found, some_infos, unmade_early, wants_found}
use Rattle.remux.proofs.threaded.write_started.Goals as goal

pub new-requires-clause-some : goal.new-requires-clause-some
new-requires-clause-some g c = let w = c.requires.found in some_infos (clamped c.args.plan.now.max_bytes) c.args.found w.0 _ c.args.demux.now c.in-Some.infos.now w.1 c.in-Some.ensures.known.1

pub write_run-requires-clause-made : goal.write_run-requires-clause-made
write_run-requires-clause-made g c =
    let w = c.requires.found in
    let made = c.in-Ok-new.ensures.made in
    let infos = c.in-Some.ensures.known.1 ∙ infos_found (clamped c.args.plan.now.max_bytes) c.args.found w.0 _ c.args.demux.now w.1 in (
      w.0,
      made.0,
      w.1,
      record {
        keeps = made.2;
        infos = c.in-Ok-new.ensures.infos ∙ infos;
        line_is = c.in-Ok.ensures.empty ∙ ap (λ (l : List StreamInfo). new_line (length l) c.args.plan.now.delta_us) infos;
        aborts_are = aborts_by g.S.Shelf.state _ _ _ _ _ _ made.1;
      },
    )

pub returns-in-Ok-new-clause-inline : goal.returns-in-Ok-new-clause-inline
returns-in-Ok-new-clause-inline g c =
    let w = c.requires.found in
    let made = c.in-Ok-new.ensures.made in
    let infos = c.in-Some.ensures.known.1 ∙ infos_found (clamped c.args.plan.now.max_bytes) c.args.found w.0 _ c.args.demux.now w.1 in
    counted_within _ _ _ c.write_run.result.ends.items (c.write_run.ensures.inline w.0 made.0 w.1 record {
      keeps = made.2;
      infos = c.in-Ok-new.ensures.infos ∙ infos;
      line_is = c.in-Ok.ensures.empty ∙ ap (λ (l : List StreamInfo). new_line (length l) c.args.plan.now.delta_us) infos;
      aborts_are = aborts_by g.S.Shelf.state _ _ _ _ _ _ made.1;
    }) made.3

pub returns-in-Ok-new-clause-comes : goal.returns-in-Ok-new-clause-comes
returns-in-Ok-new-clause-comes g c = λ name old start o le w.
    let made = c.in-Ok-new.ensures.made in
    let infos = c.in-Some.ensures.known.1 ∙ infos_found (clamped c.args.plan.now.max_bytes) c.args.found start _ c.args.demux.now w in
    inr (c.write_run.ensures.written name old start c.args.shelves.items made.0 o le w record {
      keeps = made.2;
      infos = c.in-Ok-new.ensures.infos ∙ infos;
      line_is = c.in-Ok.ensures.empty ∙ ap (λ (l : List StreamInfo). new_line (length l) c.args.plan.now.delta_us) infos;
      aborts_are = aborts_by g.S.Shelf.state _ _ _ _ _ _ made.1;
    }
    (seats_found g.S.Shelf.state _ _ _ _ _ _ _ _ infos (script_told (λ body. body.now) c.script.result c.args.demux.now.shown.known c.args.demux.now.core.probe.script c.in-Some.ensures.known.0 c.script.ensures.script ∙ script_found (clamped c.args.plan.now.max_bytes) c.args.found start _ c.args.demux.now w) made.1)
    (ap (λ (l : List StreamInfo). first_without l (plan_view c.args.plan.now).slaves) (sym infos) ∙ c.in-Ok-new.ensures.taken))

pub returns-in-Err-clause-inline : goal.returns-in-Err-clause-inline
returns-in-Err-clause-inline g c = nothing_within _ _ _ _ _ c.nothing.ensures

pub returns-in-Err-new-clause-inline : goal.returns-in-Err-new-clause-inline
returns-in-Err-new-clause-inline g c = nothing_within _ _ _ _ _ c.nothing-in-Err-new.ensures

pub returns-in-Err-new-clause-comes : goal.returns-in-Err-new-clause-comes
returns-in-Err-new-clause-comes g c = λ name old start o le w.
    nothing_early g.S.Shelf.state (unmade_by c.in-Err-new.refused.fault) (asked_with name (plan_view c.args.plan.now)) old _ c.args.shelves.items c.nothing-in-Err-new.result
    (subst (λ (l : List _). IsNothing (unmade_by c.in-Err-new.refused.fault) l c.nothing-in-Err-new.result) c.in-Err-new.ensures.back (subst (λ (s : Status). IsNothing s c.in-Err-new.refused.shelves.items c.nothing-in-Err-new.result) c.unmade.ensures c.nothing-in-Err-new.ensures))
    (unmade_early c.in-Err-new.refused.fault (clamped c.args.plan.now.max_bytes) c.args.found name (plan_view c.args.plan.now) old start _ c.args.demux.now c.in-Some.infos.now refl c.in-Err-new.ensures.none o w c.in-Some.ensures.known.1)

pub returns-in-Err-clause-comes : goal.returns-in-Err-clause-comes
returns-in-Err-clause-comes g c = λ name old start o le w.
    nothing_early g.S.Shelf.state status.NoMemory (asked_with name (plan_view c.args.plan.now)) old _ c.args.shelves.items c.nothing.result c.nothing.ensures
    (wants_found c.args.found name (plan_view c.args.plan.now) old start _ _ _ _ o w)
