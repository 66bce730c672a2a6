-- What the words of a command ask for.
use Rattle.std.specs.Prelude.{ℕ, ◌^◌, min, max, List, []}
use Rattle.options.specs.declared.words.Source.{Source}
use Rattle.options.specs.declared.words.Source.TheVariants.{Named, Generated}
use Rattle.options.specs.Slave.{Slave}
use Rattle.options.specs.Words.{Planned}

-- an input and what is made of it
pub record Asked : Type 0 where
  pub source : List ℕ
  -- for how long in stream time, in µs, a stream may hold up the others; 0 is no bound
  pub delta_us : ℕ
  -- how many bytes are taken at most, from 9 to 2 ^ 40
  pub max_bytes : ℕ
  pub slaves : List Slave

-- a count of bytes within the limits
abbrev pub clamped : ℕ → ℕ
clamped n = max 9 (min n (2 ^ 40))

-- what a plan asks for of the input of that name
abbrev pub asked_with : List ℕ → Planned → Asked
asked_with name p = record { source = name; delta_us = p.delta_us; max_bytes = clamped p.max_bytes; slaves = p.slaves }

-- the name of the input; one that is made needs none
abbrev pub name_of : Source → List ℕ
name_of (Named name) = name
name_of (Generated count) = []

-- how many pictures are made; the words allow no more
abbrev pub pictures_of : ℕ → ℕ
pictures_of count = min count 20000

-- what a plan asks for
abbrev pub asked_of : Planned → Asked
asked_of p = asked_with (name_of p.source) p
