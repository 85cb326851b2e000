-- One step of a machine. It depends on memory only through the fetched word and the loaded number, and changes it only by one store. RISC-V
-- Unprivileged ISA 20191213, sections 1.4 to 1.6. Privileged Architecture 20211203, sections 3.1.6.1 and 3.1.9 (interrupts), 3.1.6.3 (the mode
-- of loads and stores), 3.1.10 and 3.1.12 (counters), 3.1.15 (causes), 3.7.1 (PMP).
use Rattle.std.specs.Prelude.{ℕ, true, false, if◌then◌else◌, List, Option, Some, None, Result}
use Rattle.rv_word.specs.declared.width.Width.{Width}
use Rattle.rv_word.specs.declared.width.Width.TheVariants.{Word}
use Rattle.rv_encoding.specs.declared.instr.Instr.{Instr}
use Rattle.rv_encoding.specs.Decoding.{decoded}
use Rattle.rv_memory.specs.Accesses.{loaded, fetched, stored}
use Rattle.rv_memory.specs.declared.touched.Span.{Span}
use Rattle.rv_memory.specs.declared.touched.Touched.{Touched}
use Rattle.rv_word.specs.Cases.{option_case, result_case}
use Rattle.rv_pmp.specs.declared.mode.Mode.{Mode}
use Rattle.rv_state.specs.Interrupts.{pending}
use Rattle.rv_hart.specs.CsrInstructions.{written_csr}
use Rattle.rv_hart.specs.Exceptions.{access_fault, illegal, interrupted}
use Rattle.rv_hart.specs.Hart.{trapped, step_counted}
use Rattle.rv_hart.specs.HartRecord.{Hart}
use Rattle.rv_hart.specs.Instructions.{request, executed}
use Rattle.rv_hart.specs.Machine.{Machine, Ended, Stepped, over}
use Rattle.rv_state.specs.declared.cause.Exception.TheVariants.{InstructionAccessFault, LoadAccessFault, StoreAccessFault}
use Rattle.rv_hart.specs.declared.request.Request.{Request}
use Rattle.rv_hart.specs.declared.request.Request.TheVariants.{Nothing, Load, Store}
use Rattle.rv_hart.specs.declared.trap.Trap.{Trap}

-- ---- the accesses of a step

-- one access: its address and its width
abbrev pub span : ℕ → Width → Option Span
span address width = Some (record { addr = address; len = width })

-- `nothing` is a step without an access
abbrev pub nothing : Touched
nothing = record { fetched = None; loaded = None; stored = None }

-- the accesses of a step that only fetches
abbrev pub fetch_of : Hart → Touched
fetch_of hart = record { fetched = span hart.pc Word; loaded = None; stored = None }

-- the accesses of a step that fetches and loads
abbrev pub load_of : Hart → ℕ → Width → Touched
load_of hart address width = record { fetched = span hart.pc Word; loaded = span address width; stored = None }

-- the accesses of a step that fetches and stores
abbrev pub store_of : Hart → ℕ → Width → Touched
store_of hart address width = record { fetched = span hart.pc Word; loaded = None; stored = span address width }

-- ---- the end of a step, with its counters

-- `trap_end` is the end of a step in a trap
abbrev pub trap_end : Hart → Touched → Trap → Ended
trap_end hart touched trap = record {
  hart = step_counted (trapped hart trap) false hart.csrs.mcountinhibit None;
  outcome = record { trap = Some trap; touched = touched };
}

-- `retired_end` is the end of a step whose instruction retires, with the control and status register that it wrote
abbrev pub retired_end : Hart → Touched → Option ℕ → Hart → Ended
retired_end hart touched written after = record {
  hart = step_counted after true hart.csrs.mcountinhibit written;
  outcome = record { trap = None; touched = touched };
}

-- `retired_or_trapped` is the end of a step by the result of its instruction
unfoldable pub retired_or_trapped : Hart → Touched → Option ℕ → Result Hart Trap → Ended
retired_or_trapped hart touched written after = result_case after (retired_end hart touched written) (trap_end hart touched)

-- ---- the stages of a step: each ends the step in a trap, or passes its result to the next stage

-- Interrupt: a pending interrupt is taken instead of the instruction.
abbrev pub unless_interrupted : Hart → List ℕ → Stepped → Stepped
unless_interrupted hart memory instruction =
    option_case (pending hart.csrs hart.mode) instruction (λ interrupt. over memory (trap_end hart nothing (interrupted interrupt)))

-- Fetch: read the word at pc.
abbrev pub fetch_then : Hart → List ℕ → (ℕ → Stepped) → Stepped
fetch_then hart memory follows =
    result_case (fetched memory hart.csrs.pmp hart.mode hart.pc) follows
    (λ _. over memory (trap_end hart nothing (access_fault InstructionAccessFault hart.pc)))

-- Decode: find the instruction that the word encodes; the exception is an illegal instruction if there is none.
abbrev pub decode_then : Hart → List ℕ → ℕ → (Instr → Stepped) → Stepped
decode_then hart memory word follows =
    option_case (decoded word) (over memory (trap_end hart (fetch_of hart) (illegal word))) follows

-- `data_mode` is the mode in which loads and stores are checked: MPP if MPRV is set, otherwise the mode of the hart (section 3.1.6.3)
abbrev pub data_mode : Hart → Mode
data_mode hart = if hart.csrs.mstatus.mprv then hart.csrs.mstatus.mpp else hart.mode

-- Access: make the access that the instruction requests. The next stage gets the memory after it, the accesses so far, and the loaded number.
abbrev pub access_then : Hart → List ℕ → Request → (List ℕ → Touched → ℕ → Stepped) → Stepped
access_then hart memory Nothing follows = follows memory (fetch_of hart) 0
access_then hart memory (Load address width) follows =
    result_case (loaded memory hart.csrs.pmp (data_mode hart) address width) (λ number. follows memory (load_of hart address width) number)
    (λ _. over memory (trap_end hart (fetch_of hart) (access_fault LoadAccessFault address)))
access_then hart memory (Store address width value) follows =
    result_case (stored memory hart.csrs.pmp (data_mode hart) address width value) (λ after. follows after (store_of hart address width) 0)
    (λ _. over memory (trap_end hart (fetch_of hart) (access_fault StoreAccessFault address)))

-- Execute: the instruction, whose access was made, retires or ends in its exception.
abbrev pub from_execute : Hart → Touched → ℕ → Instr → ℕ → Ended
from_execute hart touched word instr loaded =
    retired_or_trapped hart touched (written_csr instr) (executed hart word loaded instr)

-- ---- the rest of a step: from the access on, from the decoding on, and from the fetch on

-- `from_access` is the step from the access of a decoded instruction on
unfoldable pub from_access : Hart → List ℕ → ℕ → Instr → Request → Stepped
from_access hart memory word instr requested =
    access_then hart memory requested (λ after touched loaded. over after (from_execute hart touched word instr loaded))

-- `from_decode` is the step from the decoding of the fetched word on
unfoldable pub from_decode : Hart → List ℕ → ℕ → Stepped
from_decode hart memory word = decode_then hart memory word (λ instr. from_access hart memory word instr (request instr hart))

-- `from_fetch` is the step from the fetch on
unfoldable pub from_fetch : Hart → List ℕ → Stepped
from_fetch hart memory = fetch_then hart memory (from_decode hart memory)

-- ---- the step

-- one step: a pending interrupt, or the instruction at pc
unfoldable pub step : Machine → Stepped
step state = unless_interrupted state.hart state.memory (from_fetch state.hart state.memory)
