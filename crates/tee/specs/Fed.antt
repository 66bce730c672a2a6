-- What outputs answer to a packet.
use Rattle.std.specs.Prelude.{Bool, true, false}
use Rattle.tee.specs.declared.fed.Fed.{Fed}
use Rattle.tee.specs.declared.fed.Fed.TheVariants.{More, Stop}

abbrev pub is_stop : Fed → Bool
is_stop Stop = true
is_stop More = false
