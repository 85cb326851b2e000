-- Properties of the table and of traps. RISC-V Privileged Architecture 20211203, sections 2.3 (fields that ignore writes), 3.1.6.1, 3.3.2 and
-- 4.1.1.
use Rattle.std.specs.Prelude.{◌≡◌, ℕ, ◌+◌, ◌%◌, ◌==◌, if◌then◌else◌, Option, Some, None, Ok}
use Rattle.rv_word.specs.Logic.{and_by_bits}
use Rattle.rv_pmp.specs.declared.mode.Mode.{Mode}
use Rattle.rv_pmp.specs.Entries.{addr_of}
use Rattle.rv_pmp.specs.Locks.{cfg_word, with_cfg_word, with_addr}
use Rattle.rv_word.specs.BitFields.{bits, flag}
use Rattle.rv_state.specs.CsrState.{CsrState}
use Rattle.rv_state.specs.CsrTable.{csr_numbered, read_result}
use Rattle.rv_state.specs.Traps.{after_mret}
use Rattle.rv_state.specs.declared.csr_name.CsrName.{CsrName}
use Rattle.rv_state.specs.declared.csr_name.CsrName.TheVariants.{Sstatus, Stvec, Sscratch, Sepc, Scause, Stval, Satp}
use Rattle.rv_state.specs.declared.csr_name.CsrName.TheVariants.{Mstatus, Misa, Mie, Mtvec, Mscratch, Mepc, Mcause, Mtval, Mip}
use Rattle.rv_state.specs.declared.csr_name.CsrName.TheVariants.{Pmpcfg, Pmpaddr, Mcycle, Minstret, Mcycleh, Minstreth, Mcountinhibit, Zero}

-- ---- the value after a write: the word under the register's mask, which has a 1 for each bit that is stored

-- the mask of mstatus; MPP (bits 12:11) cannot be 2, which is no mode
abbrev pub mstatus_mask : ℕ → ℕ
mstatus_mask word = if bits word 12 11 == 2 then 0x007A01AA else 0x007A19AA

-- the word that each register reads after a write of `word`
abbrev pub kept : CsrName → ℕ → CsrState → ℕ
kept Sstatus word csrs = and_by_bits word 0x00080122
kept Stvec word csrs = and_by_bits word 0xFFFFFFFD
kept Sscratch word csrs = word
kept Sepc word csrs = and_by_bits word 0xFFFFFFFC
kept Scause word csrs = word
kept Stval word csrs = word
kept Satp word csrs = 0
kept Mstatus word csrs = and_by_bits word (mstatus_mask word)
kept Misa word csrs = 0x40141100
kept Mie word csrs = and_by_bits word 0x00000AAA
kept Mtvec word csrs = and_by_bits word 0xFFFFFFFD
kept Mscratch word csrs = word
kept Mepc word csrs = and_by_bits word 0xFFFFFFFC
kept Mcause word csrs = word
kept Mtval word csrs = word
kept Mip word csrs = and_by_bits word 0x00000222 + flag 7 csrs.timer
kept (Pmpcfg register) word csrs = cfg_word (with_cfg_word csrs.pmp register word) register
kept (Pmpaddr entry) word csrs = addr_of (with_addr csrs.pmp entry word) entry
kept Mcycle word csrs = word
kept Minstret word csrs = word
kept Mcycleh word csrs = word
kept Minstreth word csrs = word
kept Mcountinhibit word csrs = and_by_bits word 0x00000005
kept Zero word csrs = 0

-- the word that the register of a number reads after a write; 0 if there is none
abbrev pub kept_at : Option CsrName → ℕ → CsrState → ℕ
kept_at None word csrs = 0
kept_at (Some name) word csrs = kept name word csrs

-- the register reads this value after the write, in the same mode
unfoldable pub ReadsBack : CsrState → CsrState → ℕ → ℕ → Mode → Type 0
ReadsBack before after number word mode =
    read_result after number mode ≡ Ok (kept_at (csr_numbered number) word before)

-- ---- a trap and the mret after it

-- After a trap from this mode at pc, mret would continue in that mode at pc, with the value of MIE from before the trap.
abbrev pub ComesBack : CsrState → CsrState → Mode → ℕ → Type 0
ComesBack before after mode pc =
    (after.mstatus.mpp ≡ mode)
    × (pc % 4 ≡ 0 → after.mepc ≡ pc)
    × ((after_mret after).mstatus.mie ≡ before.mstatus.mie)
