use Rattle.flv_tags.specs.TagReader.{state_of}
use Rattle.flv_tags.proofs.ReaderLemmas.{answers}
use Rattle.flv_tags.proofs.reader.TagReader.next.Goals as goal

pub returns-clause-answers : goal.returns-clause-answers
returns-clause-answers c = λ fed tags r. answers c.step.result fed tags (state_of c.args.self.now) (state_of c.step.new.self) c.in_default.is c.step.ensures r
