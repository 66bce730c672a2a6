use Rattle.std.proofs.Common.{◌≡◌, ℕ, ◌+◌, ◌*◌, ◌≤◌, List, length, ap, ◌∙◌, arith}
use Rattle.rmx_media.specs.Avc.{sets_of}
use Rattle.rmx_media.specs.Units.{units_of}
use Rattle.avc_units.specs.Placed.{left_of}
use Rattle.avc_units.specs.UnitList.{with_sets}
use Rattle.avc_units.proofs.SizeLemmas.{size, size_none, size_one, size_units, size_sets, size_with_sets}
use Rattle.avc_units.proofs.pieces.annexb_len.Goals as goal

pub overflow_add-len-in-Some : goal.overflow_add-len-in-Some
overflow_add-len-in-Some c =
    let sets : List (List ℕ) = sets_of c.args.config.now in
    let units : List (List ℕ) = units_of c.args.config.now.length_size c.args.payload.now in
    let one : size (left_of c.loop-unit.left) ≡ 4 + length c.in-Some.unit.now + size (left_of c.take_unit.new.self) =
    ap size c.in-Some.ensures.1 ∙ size_one c.in-Some.unit.now (left_of c.take_unit.new.self) in
    let whole : size (with_sets sets units) ≤ size sets + size units = size_with_sets sets units in
    let few : size sets ≤ 5 * length c.args.config.now.raw = size_sets c.args.config.now in
    let some : size units ≤ 5 * length c.args.payload.now = size_units c.args.config.now.length_size c.args.payload.now in
    omega (arith, c.loop-unit.invariant, c.requires.config.size, c.requires.small)

pub loop-unit-preserved : goal.loop-unit-preserved
loop-unit-preserved c =
    let one : size (left_of c.loop-unit.left) ≡ 4 + length c.in-Some.unit.now + size (left_of c.take_unit.new.self) =
    ap size c.in-Some.ensures.1 ∙ size_one c.in-Some.unit.now (left_of c.take_unit.new.self) in
    omega (arith, c.loop-unit.invariant)

pub returns : goal.returns
returns c =
    let none : size (left_of c.loop-unit.left) ≡ 0 = ap size c.in_default.ensures.0 ∙ size_none in
    omega (arith, c.loop-unit.invariant)
