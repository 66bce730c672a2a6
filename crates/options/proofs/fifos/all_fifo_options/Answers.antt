use Rattle.std.proofs.Common.{rules, sym, ◌∙◌, subst, Result, Ok, List, ℕ}
use Rattle.std.specs.Str.{chars}
use Rattle.options.specs.declared.fault.WordKind.{WordKind}
use Rattle.options.specs.declared.fault.WordKind.TheVariants.{UnknownOption}
use Rattle.options.specs.Read.{Fails}
use Rattle.options.specs.declared.fifo.FifoDraft.{FifoDraft}
use Rattle.options.specs.Repeat.{all_parts}
use Rattle.options.specs.Fifo.{no_fifo}
use Rattle.options.specs.Fifos.{fifo_part}
use Rattle.options.proofs.Binds.{bind_is, bind_fails}
use Rattle.options.proofs.Parts.{more_by, last_by, bad_part, shorter_by, fifo_shrinks}
use Rattle.options.proofs.fifos.all_fifo_options.Goals as goal

pub returns-in-Err : goal.returns-in-Err
returns-in-Err c =
    bind_fails c.in-Err.error (all_parts fifo_part UnknownOption no_fifo (chars c.args.text.now)) (λ x. Ok x.0)
    (subst (λ (r : Result (FifoDraft × List ℕ) WordKind). Fails c.in-Err.error r) c.parts.invariant.1
    (bad_part fifo_part UnknownOption fifo_shrinks c.parts.draft (chars c.parts.rest.now) c.in-Err.error c.in-Err.ensures))

pub returns-then-last : goal.returns-then-last
returns-then-last c =
    bind_is (all_parts fifo_part UnknownOption no_fifo (chars c.args.text.now)) (c.in-Ok.part.0, chars c.in-Ok.part.2.now) (λ x. Ok x.0)
    (sym c.parts.invariant.1 ∙ last_by fifo_part UnknownOption fifo_shrinks c.parts.draft c.in-Ok.part.0 (chars c.parts.rest.now) (chars c.in-Ok.part.2.now) c.in-Ok.part.1 c.in-Ok.ensures c.if-last.true)

pub parts-smaller : goal.parts-smaller
parts-smaller c =
    shorter_by fifo_part fifo_shrinks (c.parts.draft) (c.in-Ok.part.0) (chars c.parts.rest.now) (chars c.in-Ok.part.2.now) c.in-Ok.part.1 c.in-Ok.ensures c.if-last.false

pub parts-preserved : goal.parts-preserved
parts-preserved c =
    (search rules, more_by fifo_part UnknownOption fifo_shrinks (c.parts.draft) (c.in-Ok.part.0) (chars c.parts.rest.now) (chars c.in-Ok.part.2.now) c.in-Ok.part.1 c.in-Ok.ensures c.if-last.false ∙ c.parts.invariant.1)
