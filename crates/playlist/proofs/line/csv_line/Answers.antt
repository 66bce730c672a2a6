use Rattle.std.proofs.Common.{lit<, ap, ◌∙◌, ◌++◌, ℤ}
use Rattle.std.specs.Int.{w64}
use Rattle.std.proofs.lemmas.Int.{to_z-of_z}
use Rattle.playlist.specs.List.{time_text}
use Rattle.playlist.proofs.Quotes.{row, fits}
use Rattle.playlist.proofs.line.csv_line.Goals as goal

pub returns : goal.returns
returns c =
    let start = to_z-of_z w64 c.args.entry.now.start_ms (fits c.args.entry.now.start_ms c.requires.start_above c.requires.start_below) in
    let stop = to_z-of_z w64 c.args.entry.now.end_ms (fits c.args.entry.now.end_ms c.requires.end_above c.requires.end_below) in
    row _ _ _ _ _ _ _ _ _ c.push_name_field.ensures.bytes (c.push.ensures.ascii (lit< tt))
    (c.push_time.ensures.bytes ∙ ap (λ (z : ℤ). c.push.new.self.bytes ++ time_text z) start) (c.push-2.ensures.ascii (lit< tt))
    (c.push_time-2.ensures.bytes ∙ ap (λ (z : ℤ). c.push-2.new.self.bytes ++ time_text z) stop) (c.push-3.ensures.ascii (lit< tt))
