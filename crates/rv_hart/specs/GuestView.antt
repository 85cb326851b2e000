-- Two steps of a hart that are equal in everything that software below mode M can read. RISC-V Privileged Architecture 20211203, sections 2.1
-- (the mode that a number requires) and 3.7 (PMP).
use Rattle.std.specs.Prelude.{◌≡◌, ℕ, Option, Some, None, Result, Ok, Err, false}
use Rattle.rv_state.specs.GuestCsrs.{below_m_csrs, guest_csrs}
use Rattle.rv_state.specs.Interrupts.{is_machine, pending}
use Rattle.rv_word.specs.declared.width.Width.{Width}
use Rattle.rv_memory.specs.Accesses.{fetched, loaded, stored}
use Rattle.rv_memory.specs.declared.access_fault.AccessFault.{AccessFault}
use Rattle.rv_hart.specs.HartRecord.{Hart}
use Rattle.rv_hart.specs.Machine.{Machine, Stepped}
use Rattle.rv_hart.specs.Step.{data_mode, step}

-- `guest_hart` is the hart with the counters, mepc, mcause, mtval, MPIE and MPP set to 0
abbrev pub guest_hart : Hart → Hart
guest_hart hart = record hart { csrs = guest_csrs hart.csrs }

-- `below_m_hart` is the hart with every register of mode M and the PMP entries set to 0
abbrev pub below_m_hart : Hart → Hart
below_m_hart hart = record hart { csrs = below_m_csrs hart.csrs }

-- `given` is the value of an access that is permitted
abbrev pub given : {A : Type 0} → Result A AccessFault → Option A
given (Ok value) = Some value
given (Err fault) = None

-- in both machines, the same interrupt is pending, and the PMP entries permit the same accesses with the same values
pub record SameAccess (first second : Machine) : Type 0 where
  -- the same interrupt is pending
  pub pending : pending first.hart.csrs first.hart.mode ≡ pending second.hart.csrs second.hart.mode
  -- the fetch at the pc is permitted in both machines with the same word, or in neither
  pub fetched : given (fetched first.memory first.hart.csrs.pmp first.hart.mode first.hart.pc)
      ≡ given (fetched second.memory second.hart.csrs.pmp second.hart.mode second.hart.pc)
  -- each load is permitted in both machines with the same number, or in neither
  pub loaded : (address : ℕ) (width : Width) → given (loaded first.memory first.hart.csrs.pmp (data_mode first.hart) address width)
      ≡ given (loaded second.memory second.hart.csrs.pmp (data_mode second.hart) address width)
  -- each store is permitted in both machines with the same memory, or in neither
  pub stored : (address : ℕ) (width : Width) (value : ℕ) → given (stored first.memory first.hart.csrs.pmp (data_mode first.hart) address width value)
      ≡ given (stored second.memory second.hart.csrs.pmp (data_mode second.hart) address width value)

-- the outcomes and the memories are equal; without a trap, so are the harts, except for the registers of mode M
pub record SameBelowM (first second : Stepped) : Type 0 where
  -- the outcomes are equal
  pub outcome : first.outcome ≡ second.outcome
  -- the memories are equal
  pub memory : first.state.memory ≡ second.state.memory
  -- without a trap, the harts are equal except for the registers of mode M
  pub hart : first.outcome.trap ≡ None → below_m_hart first.state.hart ≡ below_m_hart second.state.hart

-- Below mode M, with MPRV 0, a step depends on no register of mode M. It depends on the PMP entries only by what they permit.
abbrev pub DependsBelowM : Machine → Stepped → Type 0
DependsBelowM before after =
    (other : Machine) → is_machine before.hart.mode ≡ false → before.hart.csrs.mstatus.mprv ≡ false
    → below_m_hart before.hart ≡ below_m_hart other.hart
    → before.memory ≡ other.memory → SameAccess before other → SameBelowM after (step other)
