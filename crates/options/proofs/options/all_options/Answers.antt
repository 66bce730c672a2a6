use Rattle.std.proofs.Common.{rules, sym, ◌∙◌, subst, Result, List, ℕ}
use Rattle.std.specs.Str.{chars}
use Rattle.options.specs.declared.fault.WordKind.{WordKind}
use Rattle.options.specs.declared.fault.WordKind.TheVariants.{UnclosedBlock}
use Rattle.options.specs.Read.{Fails}
use Rattle.options.specs.Draft.{Kept, view}
use Rattle.options.specs.Options.{option_part}
use Rattle.options.proofs.Parts.{more_by, last_by, bad_part, shorter_by, option_shrinks}
use Rattle.options.proofs.options.all_options.Goals as goal

pub returns-in-Err : goal.returns-in-Err
returns-in-Err c =
    subst (λ (r : Result (Kept × List ℕ) WordKind). Fails c.in-Err.error r) c.parts.invariant.1
    (bad_part option_part UnclosedBlock option_shrinks (view c.parts.draft) (chars c.parts.rest.now) c.in-Err.error c.in-Err.ensures)

pub returns-then-last : goal.returns-then-last
returns-then-last c =
    sym c.parts.invariant.1 ∙ last_by option_part UnclosedBlock option_shrinks (view c.parts.draft) (view c.in-Ok.part.0) (chars c.parts.rest.now) (chars c.in-Ok.part.2.now) c.in-Ok.part.1 c.in-Ok.ensures c.if-last.true

pub parts-smaller : goal.parts-smaller
parts-smaller c =
    shorter_by option_part option_shrinks (view c.parts.draft) (view c.in-Ok.part.0) (chars c.parts.rest.now) (chars c.in-Ok.part.2.now) c.in-Ok.part.1 c.in-Ok.ensures c.if-last.false

pub parts-preserved : goal.parts-preserved
parts-preserved c =
    (search rules, more_by option_part UnclosedBlock option_shrinks (view c.parts.draft) (view c.in-Ok.part.0) (chars c.parts.rest.now) (chars c.in-Ok.part.2.now) c.in-Ok.part.1 c.in-Ok.ensures c.if-last.false ∙ c.parts.invariant.1)
