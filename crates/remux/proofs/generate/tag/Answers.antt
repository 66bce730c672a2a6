use Rattle.std.proofs.Common.{ℕ, ◌+◌, List, length, arith, length-append}
use Rattle.std.specs.Prelude.{replicate}
use Rattle.std.proofs.lemmas.List.{length-replicate}
use Rattle.remux.proofs.MadeTags.{tag_is}
use Rattle.remux.proofs.generate.tag.Goals as goal

pub returns-clause-items : goal.returns-clause-items
returns-clause-items c =
    let alike : List ℕ = replicate c.args.count c.args.byte in
    let size : ℕ = length c.args.lead.now + c.args.count in
    tag_is c.args.kind c.args.stamp size c.head_of.result c.args.lead.now alike c.size_field.result
    c.new-piece.result.items c.append.new.piece.items c.append-2.new.piece.items c.append_alike.new.piece.items c.append-3.new.piece.items
    c.new-piece.ensures c.append.ensures.items c.append-2.ensures.items c.append_alike.ensures.items c.append-3.ensures.items
    c.head_of.ensures c.size_field.ensures (let e = length-append c.args.lead.now alike in let f = length-replicate c.args.count c.args.byte in omega (arith, e, f))
