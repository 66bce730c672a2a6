use Rattle.std.proofs.Common.{◌≡◌, ◌+◌, length, map, string_bytes}
use Rattle.options.specs.Words.{words_from, said_view, nothing_said}
use Rattle.options.proofs.words.plan_words.Given as goal

abbrev pub invariant-loop-word : goal.invariant-loop-word
invariant-loop-word l = (l.at + length l.rest ≡ length l.fn.words) × (words_from l.at (said_view l.said) (map string_bytes l.rest) ≡ words_from 0 nothing_said (map string_bytes l.fn.words))

abbrev pub decreases-loop-word : goal.decreases-loop-word
decreases-loop-word l = length l.rest
