-- stvec and sepc have legal values (`HasLegalVectors`) after each CSR write, and after the registers of mode S are restored.
use Rattle.std.proofs.Common.{◌≡◌, ℕ, Option, Some, None, Ok, subst, arith}
use Rattle.rv_pmp.specs.declared.mode.Mode.{Mode}
use Rattle.rv_state.specs.Bits.{aligned_to_4}
use Rattle.rv_state.specs.CsrState.{CsrState}
use Rattle.rv_state.specs.CsrTable.{csr_numbered, csr_of, on_register, vector_of, write_result, written}
use Rattle.rv_state.specs.SContexts.{HasLegalVectors, with_s_context}
use Rattle.rv_state.proofs.MachinePartsLemmas.{checked_write, passed-checks}
use Rattle.rv_state.specs.declared.csr_name.CsrName.{CsrName}
use Rattle.rv_state.specs.declared.csr_name.CsrName.TheVariants.{Sepc, Stvec}
use Rattle.rv_state.specs.declared.s_context.SContext.{SContext}

-- a value that stvec can hold does not change if it is written to stvec again
vector_twice : (word : ℕ) → vector_of (vector_of word) ≡ vector_of word
vector_twice word = omega arith

-- rounding an address down to a multiple of 4 twice is the same as rounding it once
aligned_twice : (address : ℕ) → aligned_to_4 (aligned_to_4 address) ≡ aligned_to_4 address
aligned_twice address = omega arith

-- stvec and sepc have legal values after the registers of mode S are restored from any saved context
pub with_s_context_stored : (csrs : CsrState) (context : SContext) → HasLegalVectors (with_s_context csrs context)
with_s_context_stored csrs context = record { stvec = vector_twice context.stvec; sepc = aligned_twice context.sepc }

-- after a write to any register stvec and sepc have legal values, if they had before; only a write to stvec or sepc changes them
written-leaves-legal : (name : CsrName) (csrs : CsrState) (word : ℕ) → HasLegalVectors csrs → HasLegalVectors (written name word csrs)
unfolding csr_of
written-leaves-legal Stvec csrs word legal_before = record { stvec = vector_twice word; sepc = legal_before.sepc }
written-leaves-legal Sepc csrs word legal_before = record { stvec = legal_before.stvec; sepc = aligned_twice word }
written-leaves-legal _ csrs word legal_before = record { stvec = legal_before.stvec; sepc = legal_before.sepc }

-- a checked write that is Ok leaves legal values; `register` is the register of the number, if there is one
register-leaves-legal : (register : Option CsrName) (csrs : CsrState) (number word : ℕ) (mode : Mode) (after : CsrState)
    → on_register register (checked_write csrs number word mode) ≡ Ok after → HasLegalVectors csrs → HasLegalVectors after
register-leaves-legal None csrs number word mode after write_is legal_before = cc
register-leaves-legal (Some name) csrs number word mode after write_is legal_before =
    let passed = passed-checks csrs number word mode name after write_is in
    subst HasLegalVectors passed.written_is (written-leaves-legal name csrs word legal_before)

-- after a CSR write that is Ok stvec and sepc have legal values, if they had before
pub write_stored : (csrs : CsrState) (number word : ℕ) (mode : Mode) (after : CsrState) → write_result csrs number word mode ≡ Ok after
    → HasLegalVectors csrs → HasLegalVectors after
unfolding write_result
write_stored csrs number word mode after write_is legal_before =
    register-leaves-legal (csr_numbered number) csrs number word mode after write_is legal_before
