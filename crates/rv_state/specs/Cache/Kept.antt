-- The representation of the counters and of the pending interrupts: both counters share one count of steps, and mip is one word. (Not
-- defined by the manual. No public contract names it.)
use Rattle.std.specs.Prelude.{ℕ, zero, suc, ◌+◌, ◌%◌, ◌^◌, Bool, if◌then◌else◌}
use Rattle.rv_word.specs.BitFields.{is_set, flag}
use Rattle.rv_state.specs.Counters.{incremented}
use Rattle.rv_state.specs.Interrupts.{software_pending_of}

-- `CountersState` has both counters, and mcountinhibit
pub record CountersState : Type 0 where
  -- the counter of steps
  pub mcycle : ℕ
  -- the counter of retired instructions
  pub minstret : ℕ
  -- the value of mcountinhibit
  pub inhibit : ℕ

-- the value of a counter: the stored value if the counter is inhibited (`is_held`), otherwise the stored value plus the count, modulo 2 ^ 64
abbrev pub running : Bool → ℕ → ℕ → ℕ
running is_held stored count = if is_held then stored else (stored + count) % 2 ^ 64

-- `later` is a counter, inhibited or not, after `steps` steps
abbrev pub later : Bool → ℕ → ℕ → ℕ
later is_held counter zero = counter
later is_held counter (suc steps) = incremented (later is_held counter steps) is_held

-- `counted_on` has both counters after `steps` steps that each retired and wrote no counter
abbrev pub counted_on : ℕ → CountersState → CountersState
counted_on steps counters = record counters {
  mcycle = later (is_set counters.inhibit 0) counters.mcycle steps;
  minstret = later (is_set counters.inhibit 2) counters.minstret steps;
}

-- the bits of mip that software writes, and the timer line
pub record RaisedState : Type 0 where
  -- the bits of mip that software writes
  pub software : ℕ
  -- the timer line
  pub timer : Bool

-- `raised_in` has the pending software interrupts and the timer line of one word
abbrev pub raised_in : ℕ → RaisedState
raised_in word = record { software = software_pending_of word; timer = is_set word 7 }

-- `mip_of` is the word that mip reads
abbrev pub mip_of : RaisedState → ℕ
mip_of raised = software_pending_of raised.software + flag 7 raised.timer
