-- The options of an output's queue, and of its recovery.
use Rattle.std.specs.Prelude.{ℕ, ◌^◌, List, [], ◌∷◌, Bool, false, Option, Some, None, is_some, unwrap_or, Result, Ok, Err, if◌then◌else◌, codes}
use Rattle.std.specs.List.{find}
use Rattle.std.specs.Str.{bytes_eq}
use Rattle.fifo_core.specs.declared.types.FifoOptions.{FifoOptions}
use Rattle.options.specs.declared.fault.WordKind.{WordKind}
use Rattle.options.specs.declared.fault.WordKind.TheVariants.{UnknownOption, BadValue}
use Rattle.options.specs.declared.fifo.FifoKey.{FifoKey}
use Rattle.options.specs.declared.fifo.FifoKey.TheVariants.{QueueSize, QueueBytes, DropOnOverflow, AttemptRecovery, MaxRecoveryAttempts, RecoveryWaitTime, RestartWithKeyframe}
use Rattle.options.specs.declared.fifo.FifoDraft.{FifoDraft}
use Rattle.options.specs.Read.{◌>>=◌, or_bad}
use Rattle.options.specs.Number.{number}
use Rattle.options.specs.Keyword.{flag}

abbrev pub name_of : FifoKey → List ℕ
name_of QueueSize = codes "queue_size"
name_of QueueBytes = codes "queue_bytes"
name_of DropOnOverflow = codes "drop_pkts_on_overflow"
name_of AttemptRecovery = codes "attempt_recovery"
name_of MaxRecoveryAttempts = codes "max_recovery_attempts"
name_of RecoveryWaitTime = codes "recovery_wait_time"
name_of RestartWithKeyframe = codes "restart_with_keyframe"

abbrev pub all_keys : List FifoKey
all_keys = QueueSize ∷ QueueBytes ∷ DropOnOverflow ∷ AttemptRecovery ∷ MaxRecoveryAttempts ∷ RecoveryWaitTime ∷ RestartWithKeyframe ∷ []

-- the option of that name
unfoldable pub key_named : List ℕ → Option FifoKey
key_named text = find (λ key. bytes_eq text (name_of key)) all_keys

abbrev pub no_fifo : FifoDraft
no_fifo = record { queue_size = None; queue_bytes = None; dropping = None; attempt_recovery = None; max_attempts = None; wait_ms = None; restart = None }

abbrev pub is_set : FifoKey → FifoDraft → Bool
is_set QueueSize d = is_some d.queue_size
is_set QueueBytes d = is_some d.queue_bytes
is_set DropOnOverflow d = is_some d.dropping
is_set AttemptRecovery d = is_some d.attempt_recovery
is_set MaxRecoveryAttempts d = is_some d.max_attempts
is_set RecoveryWaitTime d = is_some d.wait_ms
is_set RestartWithKeyframe d = is_some d.restart

-- what the value sets
abbrev pub with_value : FifoKey → List ℕ → FifoDraft → Result FifoDraft WordKind
with_value QueueSize value d = or_bad (number 1 256 value) >>= λ v. Ok (record d { queue_size = Some v })
with_value QueueBytes value d = or_bad (number 0 (2 ^ 40) value) >>= λ v. Ok (record d { queue_bytes = Some v })
with_value DropOnOverflow value d = or_bad (flag value) >>= λ v. Ok (record d { dropping = Some v })
with_value AttemptRecovery value d = or_bad (flag value) >>= λ v. Ok (record d { attempt_recovery = Some v })
with_value MaxRecoveryAttempts value d = or_bad (number 0 4294967295 value) >>= λ v. Ok (record d { max_attempts = Some v })
with_value RecoveryWaitTime value d = or_bad (number 0 1000000000 value) >>= λ v. Ok (record d { wait_ms = Some v })
with_value RestartWithKeyframe value d = or_bad (flag value) >>= λ v. Ok (record d { restart = Some v })

-- the key is judged first, then whether it came before, then the value
abbrev pub with_known : Option FifoKey → List ℕ → FifoDraft → Result FifoDraft WordKind
with_known None value d = Err UnknownOption
with_known (Some key) value d = if is_set key d then Err BadValue else with_value key value d

unfoldable pub with_named : List ℕ → List ℕ → FifoDraft → Result FifoDraft WordKind
with_named key value d = with_known (key_named key) value d

abbrev pub options_of : Bool → FifoDraft → FifoOptions
options_of use_fifo d = record {
  use_fifo = use_fifo;
  queue_size = unwrap_or d.queue_size 60;
  queue_bytes = unwrap_or d.queue_bytes 0;
  dropping = unwrap_or d.dropping false;
  attempt_recovery = unwrap_or d.attempt_recovery false;
  max_attempts = unwrap_or d.max_attempts 0;
  wait_ms = unwrap_or d.wait_ms 0;
  restart = unwrap_or d.restart false;
}
