use Rattle.std.proofs.Common.{refl, sym, ◌∙◌, Option, subst}
use Rattle.std.specs.Prelude.{IfSome}
use Rattle.rmx_media.specs.declared.packet.Packet.{Packet}
use Rattle.slave.specs.Table.{Takes}
use Rattle.tee.proofs.Riding.{rides_as, rides_same}
use Rattle.tee.proofs.sender.Sender.give.Goals as goal

pub send-requires-clause-ready : goal.send-requires-clause-ready
send-requires-clause-ready g c =
    let r = c.requires.ready in (
      r.0,
      r.1,
      r.2,
      r.3,
      r.4,
      rides_as r.0 r.1 r.2 r.3 r.4 c.args.self.now _ r.6 refl refl refl refl refl refl refl refl,
      subst (λ (left : Option Packet). IfSome left (Takes r.3.origin)) (sym c.take.ensures.value ∙ c.in-Some.is) r.7.fits,
      r.8,
    )

pub returns-in-Some-clause-rides : goal.returns-in-Some-clause-rides
returns-in-Some-clause-rides g c = λ infos given asked seat told p r f.
    c.send.ensures.rides infos given asked seat told p (rides_as infos given asked seat told c.args.self.now _ r refl refl refl refl refl refl refl refl)
    (sym c.in-Some.is ∙ c.take.ensures.value ∙ f.is_choice)

pub returns-in-None-clause-rides : goal.returns-in-None-clause-rides
returns-in-None-clause-rides g c = λ infos given asked seat told p r f.
    rides_as infos _ asked seat told c.args.self.now _ (rides_same infos given asked seat told p c.args.self.now r (sym c.in-None.is ∙ c.take.ensures.value ∙ f.is_choice)) refl refl refl refl refl refl refl refl
