-- Known bytes that stayed as they were.
use Rattle.std.proofs.Common.{ℕ, List, ◌∙◌, Option, Some, None}
use Rattle.std.specs.Io.KnownBytes.{Keeps}

pub keeps_keeps : (a b c : Option (List ℕ)) → Keeps a b → Keeps b c → Keeps a c
keeps_keeps None b c h k = tt
keeps_keeps (Some xs) None c h k = absurd h
keeps_keeps (Some xs) (Some ys) None h k = k
keeps_keeps (Some xs) (Some ys) (Some zs) h k = k ∙ h
