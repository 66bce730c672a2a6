use Rattle.std.proofs.Common.{[]}
use Rattle.remux.proofs.Reading.{still}
use Rattle.remux.proofs.Probing.{seek_bytes, seek_end, seek_limit, broke_by, lost_by}
use Rattle.remux.proofs.probe.seek_on.Goals as goal

pub returns-in-Ok-Bytes-clause-seeks : goal.returns-in-Ok-Bytes-clause-seeks
returns-in-Ok-Bytes-clause-seeks g c = λ limit start b long took late q le.
    let t = rw c.in-Ok-Bytes.field-0-is at c.in-Ok-Bytes.ensures.takes in
    seek_bytes _ limit _ b start _ _ _ _ _ _ _ _ long took q (c.take_piece.ensures.known _ _ q.dealt) t.0 t.1 t.2 t.3 t.4

pub returns-in-Ok-End-clause-seeks : goal.returns-in-Ok-End-clause-seeks
returns-in-Ok-End-clause-seeks g c = λ limit start b long took late q le.
    let t = rw c.in-Ok-End.field-0-is at c.in-Ok-End.ensures.takes in
    seek_end limit _ b start _ _ _ _ _ _ _ _ long took late q (c.take_piece.ensures.known _ _ q.dealt) t.0 t.1 t.2 t.3 t.4

pub returns-in-Ok-Limit-clause-seeks : goal.returns-in-Ok-Limit-clause-seeks
returns-in-Ok-Limit-clause-seeks g c = λ limit start b long took late q le.
    let t = rw c.in-Ok-Limit.field-0-is at c.in-Ok-Limit.ensures.takes in
    seek_limit limit _ b start _ _ _ _ _ _ _ _ _ _ long took late q (c.take_piece.ensures.known _ _ q.dealt) t.0 t.1 c.finish.ensures.same (c.finish.ensures.known _ _ (still b _ _ _ _ [] t.0 q.dealt)) c.finish.ensures.ended

pub returns-in-Err-Failed-clause-seeks : goal.returns-in-Err-Failed-clause-seeks
returns-in-Err-Failed-clause-seeks g c = λ limit start b long took late q le.
    let t = rw c.in-Err-Failed.field-0-is at c.in-Err-Failed.ensures.takes in
    broke_by limit _ b start _ _ _ _ _ _ long took q t.0 le t.1 t.2

pub returns-in-Err-NoMemory-clause-seeks : goal.returns-in-Err-NoMemory-clause-seeks
returns-in-Err-NoMemory-clause-seeks g c = λ limit start b long took late q le.
    lost_by limit _ b start _ _ _ _ long took (rw c.in-Err-NoMemory.field-0-is at c.in-Err-NoMemory.ensures.takes)
