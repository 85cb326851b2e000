-- Saved contexts: the registers, pc and mode of a world that does not run, and its S-mode registers. (Keystone, EuroSys 2020, in this project's
-- profile.)
use Rattle.std.specs.Prelude.{◌≡◌, ℕ, ◌%◌, ◌==◌, Bool, false, not, ◌&&◌, List, replicate, Option, None, slice_index_or, slice_set}
use Rattle.rv_word.specs.Cases.{option_case}
use Rattle.rv_pmp.specs.declared.mode.Mode.TheVariants.{U, S}
use Rattle.rv_state.specs.Bits.{aligned_to_4}
use Rattle.rv_state.specs.CsrTable.{vector_of}
use Rattle.rv_state.specs.Interrupts.{is_machine}
use Rattle.rv_state.specs.Registers.{with_register}
use Rattle.rv_state.specs.declared.s_context.SContext.{SContext}
use Rattle.rv_enclaves.specs.SlotNumbers.{slot_count}
use Rattle.rv_enclaves.specs.declared.context.Context.{Context}
use Rattle.rv_enclaves.specs.declared.slot_info.SlotInfo.{SlotInfo}

-- S-mode registers that are all 0
abbrev pub no_supervisor : SContext
no_supervisor = record {
  stvec = 0;
  sscratch = 0;
  sepc = 0;
  scause = 0;
  stval = 0;
  sie = false;
  spie = false;
  spp = false;
  mxr = false;
}

-- the registers with new values of a0 and a1, which hold the return values of a call
abbrev pub with_return_values : List ℕ → ℕ → ℕ → List ℕ
with_return_values regs a0 a1 = with_register (with_register regs 10 a0) 11 a1

-- the context of the first entry of an enclave: a0 and a1 have the base and size of its region, and a2 and a3 those of its window
unfoldable pub first_context : SlotInfo → Context
first_context info = record {
  regs =
      with_register (with_register (with_return_values (replicate 32 0) info.region.base info.region.size) 12 info.window.base) 13 info.window.size;
  pc = info.entry;
  mode = S;
  supervisor = no_supervisor;
}

-- the saved context after exit: pc and every register are 0, and the mode is U
abbrev pub exited_context : Context
exited_context = record { regs = replicate 32 0; pc = 0; mode = U; supervisor = no_supervisor }

-- the S-mode registers stvec and sepc have values that a hart stores unchanged
pub record IsLegal (supervisor : SContext) : Type 0 where
  pub stvec : vector_of supervisor.stvec ≡ supervisor.stvec
  pub sepc : aligned_to_4 supervisor.sepc ≡ supervisor.sepc

-- whether a hart can continue with a context: its mode is S or U, and its pc is a multiple of 4
abbrev pub can_go_on : Context → Bool
can_go_on context = not (is_machine context.mode) && context.pc % 4 == 0

-- ---- the contexts of the enclaves, a list separate from the table

-- the saved contexts: for each slot a context, or none
abbrev pub Contexts : Type 0
Contexts = List (Option Context)

-- the contexts at reset: no slot has a saved context
abbrev pub no_contexts : Contexts
no_contexts = replicate slot_count None

-- the saved context of `slot`, if it has one
abbrev pub context_at : Contexts → ℕ → Option Context
context_at contexts slot = slice_index_or contexts slot None

-- the saved context of a slot, or the context after exit if the slot has none; each enclave that run or resume accepts has a saved context
abbrev pub saved_context : Contexts → ℕ → Context
saved_context contexts slot = option_case (context_at contexts slot) exited_context (λ context. context)

-- the saved contexts with a new context for `slot`, or with none for `slot`
abbrev pub with_context : Contexts → ℕ → Option Context → Contexts
with_context contexts slot context = slice_set contexts slot context
