use Rattle.std.proofs.Common.{◌≡◌, ◌∙◌, sym, false}
use Rattle.std.specs.Prelude.{is_some}
use Rattle.flv_tags.specs.TagReader.{state_of}
use Rattle.flv_tags.proofs.ReaderLemmas.{more_fed, fed_after, none_of}
use Rattle.flv_tags.proofs.reader.TagReader.feed.Goals as goal

pub returns-then-is_some-clause-fed : goal.returns-then-is_some-clause-fed
returns-then-is_some-clause-fed c = λ fed tags r. fed_after fed tags (state_of c.args.self.now) c.args.piece.now c.requires (sym c.is_some.ensures ∙ c.if-is_some.true) r

pub returns-in-Ok-clause-fed : goal.returns-in-Ok-clause-fed
returns-in-Ok-clause-fed c = λ fed tags r.
    let e : is_some c.args.self.now.fault ≡ false = sym c.is_some.ensures ∙ c.if-is_some.false in
    rw c.in-Ok.ensures.ok (more_fed fed tags (state_of c.args.self.now) c.args.piece.now c.requires (none_of c.args.self.now.fault e) r)
