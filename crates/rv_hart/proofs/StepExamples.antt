-- This file has examples: single steps with their results.
use Rattle.std.proofs.Common.{◌≡◌, ℕ, List, [], ◌∷◌, Some, None, refl}
use Rattle.std.specs.Prelude.{replicate}
use Rattle.rv_encoding.specs.Decoding.{decoded}
use Rattle.rv_word.specs.Logic.{by_bits}
use Rattle.rv_pmp.specs.Covers.{covers}
use Rattle.rv_pmp.specs.Verdicts.{matching_entry, verdict}
use Rattle.rv_memory.specs.Memory.{ram_base, read}
use Rattle.rv_hart.specs.Hart.{at_reset}
use Rattle.rv_hart.specs.HartRecord.{Hart}
use Rattle.rv_hart.specs.Instructions.{request, executed}
use Rattle.rv_hart.specs.Machine.{Machine}
use Rattle.rv_hart.specs.Step.{step, from_access, from_decode, from_fetch, retired_or_trapped, fetch_of}
use Rattle.rv_hart.specs.CsrInstructions.{csr_changed, written_csr}
use Rattle.rv_state.specs.CsrState.{at_reset as csrs_at_reset}
use Rattle.rv_state.specs.CsrTable.{csr_listing, csr_numbered, write_result, csr_of}
use Rattle.rv_state.specs.Mstatus.{mstatus_at_reset}
use Rattle.rv_pmp.specs.declared.mode.Mode.TheVariants.{M}
use Rattle.rv_hart.specs.Exceptions.{misaligned, illegal}

-- `over_bytes` is a machine with these bytes as its memory
abbrev over_bytes : List ℕ → Hart → Machine
over_bytes memory hart = record { hart = hart; memory = memory }

-- `reset` is the hart at reset in mode M, at the base of RAM
abbrev reset : Hart
reset = at_reset ram_base M

-- the hart after a first step that traps: the CSRs have the trap, and mcycle is 1
abbrev trapped_once : ℕ → ℕ → Hart
trapped_once cause tval = record {
  regs = replicate 32 0;
  csrs = record csrs_at_reset { mepc = ram_base; mcause = cause; mtval = tval; mcycle = 1; mstatus = record mstatus_at_reset { mpp = M } };
  pc = 0;
  mode = M;
}

-- a step executes addi x1, x0, -1
step-addi : step (over_bytes (0x93 ∷ 0x00 ∷ 0xf0 ∷ 0xff ∷ []) reset) ≡ record {
  state = over_bytes (0x93 ∷ 0x00 ∷ 0xf0 ∷ 0xff ∷ []) (record {
    regs = 0 ∷ 0xffffffff ∷ replicate 30 0;
    csrs = record csrs_at_reset { mcycle = 1; minstret = 1 };
    pc = 0x80000004;
    mode = M;
  });
  outcome = record { trap = None; touched = fetch_of reset };
}
unfolding step from_fetch from_decode from_access request executed retired_or_trapped written_csr decoded by_bits read verdict matching_entry covers
step-addi = refl

-- a step executes csrrw x0, mepc, x0, which does not read mepc
step-csrrw : step (over_bytes (0x73 ∷ 0x10 ∷ 0x10 ∷ 0x34 ∷ []) reset) ≡ record {
  state = over_bytes (0x73 ∷ 0x10 ∷ 0x10 ∷ 0x34 ∷ []) (record reset { csrs = record csrs_at_reset { mcycle = 1; minstret = 1 }; pc = 0x80000004 });
  outcome = record { trap = None; touched = fetch_of reset };
}
unfolding step from_fetch from_decode from_access request executed retired_or_trapped written_csr csr_changed write_result csr_numbered csr_listing
    csr_of decoded by_bits read verdict matching_entry covers
step-csrrw = refl

-- a step with jal x1, 2 traps, since the target is no multiple of 4, and does not write x1
step-jal_misaligned : step (over_bytes (0xef ∷ 0x00 ∷ 0x20 ∷ 0x00 ∷ []) reset) ≡ record {
  state = over_bytes (0xef ∷ 0x00 ∷ 0x20 ∷ 0x00 ∷ []) (trapped_once 0 0x80000002);
  outcome = record { trap = Some (misaligned 0x80000002); touched = fetch_of reset };
}
unfolding step from_fetch from_decode from_access request executed retired_or_trapped decoded by_bits read verdict matching_entry covers
step-jal_misaligned = refl

-- a step with the word 0, which encodes no instruction, traps
step-illegal : step (over_bytes (0 ∷ 0 ∷ 0 ∷ 0 ∷ []) reset) ≡ record {
  state = over_bytes (0 ∷ 0 ∷ 0 ∷ 0 ∷ []) (trapped_once 2 0);
  outcome = record { trap = Some (illegal 0); touched = fetch_of reset };
}
unfolding step from_fetch from_decode from_access request executed retired_or_trapped decoded by_bits read verdict matching_entry covers
step-illegal = refl
