-- What clauses see of a reader of tags.
use Rattle.flv_tags.specs.declared.reader.TagReader.{TagReader}
use Rattle.flv_tags.specs.Reader.{ReaderState}

abbrev pub state_of : TagReader → ReaderState
state_of r = record { text = r.text.items; past_head = r.past_head; skip = r.skip; ended = r.ended; fault = r.fault }
