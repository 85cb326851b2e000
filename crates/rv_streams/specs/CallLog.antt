-- The log of a device after each kind of call. (This project's own streams.)
use Rattle.std.specs.Prelude.{◌≡◌, ◌<◌, ℕ, ◌+◌, true, ◌&&◌, ◌==◌, List, [], ◌++◌, length, drop}
use Rattle.rv_streams.specs.declared.log.CallLog.{CallLog}

-- `no_call` is the log before the first call, with the input that is assumed
abbrev pub no_call : List ℕ → CallLog
no_call input = record { marker = record {}; bytes = []; empty_calls = 0; failures = 0; flushes = 0; is_flushed = true; input = input }

-- the log after bytes were moved; a device with unflushed bytes is no longer flushed
abbrev pub after_move : CallLog → List ℕ → CallLog
after_move log bytes = record log { bytes = log.bytes ++ bytes; is_flushed = log.is_flushed && (length bytes == 0) }

-- `after_empty_call` is the log after a call that moved no byte
abbrev pub after_empty_call : CallLog → CallLog
after_empty_call log = record log { empty_calls = log.empty_calls + 1 }

-- `after_failure` is the log after a call that failed
abbrev pub after_failure : CallLog → CallLog
after_failure log = record log { failures = log.failures + 1 }

-- `after_flush` is the log after a flush
abbrev pub after_flush : CallLog → CallLog
after_flush log = record log { flushes = log.flushes + 1; is_flushed = true }

-- The log of a source whose calls gave a beginning of the input that is assumed. If a call returned the end, they gave all of it. The rest is
-- still to come.
pub record FollowsInput (log : CallLog) : Type 0 where
  -- the bytes of the input that are still to come
  pub rest : List ℕ
  -- the input is the bytes that were given, followed by the rest
  pub split : log.input ≡ log.bytes ++ rest
  -- after the source returned its end, nothing is still to come
  pub ended : 0 < log.empty_calls → rest ≡ []

-- `still_to_come` has the bytes of the assumed input that the source has not given yet
abbrev pub still_to_come : CallLog → List ℕ
still_to_come log = drop (length log.bytes) log.input
