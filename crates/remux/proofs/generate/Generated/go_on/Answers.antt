use Rattle.std.proofs.Common.{ℕ, ◌+◌, List, ◌++◌, arith, ap, sym, ◌∙◌}
use Rattle.std.proofs.lemmas.List.{drop_all}
use Rattle.remux.specs.Making.{rest_from}
use Rattle.remux.proofs.Generating.{sound_next, picture_next, nothing_left}
use Rattle.remux.proofs.generate.Generated.go_on.Goals as goal

pub returns-then-self-clause-left : goal.returns-then-self-clause-left
returns-then-self-clause-left c =
    let old = c.args.self.now in
    ap (λ (l : List ℕ). l ++ rest_from old.frames old.frame (old.sound + 1)) c.sound-self.ensures.items
    ∙ sym (ap (λ (l : List ℕ). l ++ rest_from old.frames old.frame old.sound) (drop_all old.at old.piece.items (omega (arith, c.requires)))
    ∙ sound_next old.frames old.frame old.sound c.if-self.true)

pub returns-then-self-2-clause-left : goal.returns-then-self-2-clause-left
returns-then-self-2-clause-left c =
    let old = c.args.self.now in
    ap (λ (l : List ℕ). l ++ rest_from old.frames (old.frame + 1) old.sound) c.picture-self.ensures.items
    ∙ sym (ap (λ (l : List ℕ). l ++ rest_from old.frames old.frame old.sound) (drop_all old.at old.piece.items (omega (arith, c.requires)))
    ∙ picture_next old.frames old.frame old.sound c.if-self-2.true c.if-self.false old.sound_not_late)

pub returns-else-self-2-clause-none : goal.returns-else-self-2-clause-none
returns-else-self-2-clause-none c e =
    let old = c.args.self.now in
    ap (λ (l : List ℕ). l ++ rest_from old.frames old.frame old.sound) (drop_all old.at old.piece.items (omega (arith, c.requires)))
    ∙ nothing_left old.frames old.frame old.sound c.if-self-2.false c.if-self.false
