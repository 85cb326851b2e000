-- The table of control and status registers: the register of each number, what it reads, the effect of a write, and when an access is refused.
-- RISC-V Privileged Architecture 20211203, chapter 2 and sections 3.1 and 4.1. The listing has the order of tables 2.3, 2.5 and 2.6. The profile
-- of this machine selects the numbers, including registers that are always zero. Any other number is missing.
use Rattle.std.specs.Prelude.{ℕ, ◌+◌, ◌-◌, ◌*◌, ◌^◌, Bool, false, nat_lt, ◌==◌, if◌then◌else◌}
use Rattle.std.specs.Prelude.{List, [], ◌∷◌, sum_by, codes, Option, Some, None, Result, Ok, Err}
use Rattle.std.specs.Option.{option_map}
use Rattle.rv_pmp.specs.declared.mode.Mode.{Mode}
use Rattle.rv_pmp.specs.declared.mode.Mode.TheVariants.{S}
use Rattle.rv_pmp.specs.Entries.{addr_of}
use Rattle.rv_pmp.specs.Locks.{cfg_word, with_cfg_word, with_addr}
use Rattle.rv_pmp.specs.Mode.{mode_number}
use Rattle.rv_word.specs.BitFields.{bits}
use Rattle.rv_state.specs.Bits.{kept_bits, aligned_to_4}
use Rattle.rv_state.specs.CsrRows.{CsrRow, csr, csr_range, zeros, row_of_number}
use Rattle.rv_state.specs.CsrState.{CsrState}
use Rattle.rv_state.specs.Counters.{with_low_half, with_high_half}
use Rattle.rv_state.specs.Interrupts.{mip_word, software_pending_of}
use Rattle.rv_state.specs.Mstatus.{mstatus_word, mstatus_of, sstatus_word, with_sstatus}
use Rattle.rv_state.specs.declared.csr_name.CsrName.{CsrName}
use Rattle.rv_state.specs.declared.csr_name.CsrName.TheVariants.{Sstatus, Stvec, Sscratch, Sepc, Scause, Stval, Satp}
use Rattle.rv_state.specs.declared.csr_name.CsrName.TheVariants.{Mstatus, Misa, Mie, Mtvec, Mscratch, Mepc, Mcause, Mtval, Mip}
use Rattle.rv_state.specs.declared.csr_name.CsrName.TheVariants.{Pmpcfg, Pmpaddr, Mcycle, Minstret, Mcycleh, Minstreth, Mcountinhibit, Zero}
use Rattle.rv_state.specs.declared.csr_fault.CsrFault.{CsrFault}
use Rattle.rv_state.specs.declared.csr_fault.CsrFault.TheVariants as faults

-- ---- information in a number (section 2.1)

-- the lowest mode that may access the register: bits 9:8
abbrev pub least_mode : ℕ → ℕ
least_mode number = bits number 9 8

-- whether the register is read-only: bits 11:10 are 11
abbrev pub is_read_only : ℕ → Bool
is_read_only number = bits number 11 10 == 0b11

-- ---- the listing (section 2.2): number, name and register; for each zero register, why the manual allows zero

-- all rows of the table; the first row that has a number decides
unfoldable pub csr_listing : List CsrRow
csr_listing =
    -- table 2.3, Supervisor Trap Setup; no interrupt is delegated, so every bit of sie and sip is 0 (section 3.1.9)
    csr 0x100 (codes "sstatus") Sstatus
    ∷ csr 0x104 (codes "sie") Zero
    ∷ csr 0x105 (codes "stvec") Stvec
    -- scounteren: mode U can read no counter, and any bit may be 0 (section 4.1.5)
    ∷ csr 0x106 (codes "scounteren") Zero
    -- Supervisor Configuration: satp is always Bare, so FIOM may be 0 (section 4.1.10)
    ∷ csr 0x10A (codes "senvcfg") Zero
    -- Supervisor Trap Handling
    ∷ csr 0x140 (codes "sscratch") Sscratch
    ∷ csr 0x141 (codes "sepc") Sepc
    ∷ csr 0x142 (codes "scause") Scause
    ∷ csr 0x143 (codes "stval") Stval
    ∷ csr 0x144 (codes "sip") Zero
    -- Supervisor Protection and Translation
    ∷ csr 0x180 (codes "satp") Satp
    -- table 2.5, Machine Information Registers: not implemented, or not commercial (sections 3.1.2 to 3.1.4)
    ∷ csr 0xF11 (codes "mvendorid") Zero
    ∷ csr 0xF12 (codes "marchid") Zero
    ∷ csr 0xF13 (codes "mimpid") Zero
    -- mhartid: one hart must have the number 0 (section 3.1.5); every hart reads 0 here
    ∷ csr 0xF14 (codes "mhartid") Zero
    -- there is no configuration data structure (section 3.1.17)
    ∷ csr 0xF15 (codes "mconfigptr") Zero
    -- Machine Trap Setup; no trap is delegated (section 3.1.8)
    ∷ csr 0x300 (codes "mstatus") Mstatus
    ∷ csr 0x301 (codes "misa") Misa
    ∷ csr 0x302 (codes "medeleg") Zero
    ∷ csr 0x303 (codes "mideleg") Zero
    ∷ csr 0x304 (codes "mie") Mie
    ∷ csr 0x305 (codes "mtvec") Mtvec
    -- mcounteren: the lower modes can read no counter, and any bit may be 0 (section 3.1.11)
    ∷ csr 0x306 (codes "mcounteren") Zero
    -- mstatush: memory is little-endian, so MBE and SBE may be 0 (section 3.1.6.4)
    ∷ csr 0x310 (codes "mstatush") Zero
    -- Machine Trap Handling
    ∷ csr 0x340 (codes "mscratch") Mscratch
    ∷ csr 0x341 (codes "mepc") Mepc
    ∷ csr 0x342 (codes "mcause") Mcause
    ∷ csr 0x343 (codes "mtval") Mtval
    ∷ csr 0x344 (codes "mip") Mip
    -- Machine Configuration: FIOM as in senvcfg (section 3.1.18)
    ∷ csr 0x30A (codes "menvcfg") Zero
    ∷ csr 0x31A (codes "menvcfgh") Zero
    -- Machine Memory Protection
    ∷ csr_range 0x3A0 0x3A3 (codes "pmpcfg") 0 [] Pmpcfg
    ∷ csr_range 0x3B0 0x3BF (codes "pmpaddr") 0 [] Pmpaddr
    -- table 2.6, Machine Counter/Timers; event counters and event selectors may be 0 (section 3.1.10)
    ∷ csr 0xB00 (codes "mcycle") Mcycle
    ∷ csr 0xB02 (codes "minstret") Minstret
    ∷ csr_range 0xB03 0xB1F (codes "mhpmcounter") 3 [] zeros
    ∷ csr 0xB80 (codes "mcycleh") Mcycleh
    ∷ csr 0xB82 (codes "minstreth") Minstreth
    ∷ csr_range 0xB83 0xB9F (codes "mhpmcounter") 3 (codes "h") zeros
    -- Machine Counter Setup
    ∷ csr 0x320 (codes "mcountinhibit") Mcountinhibit
    ∷ csr_range 0x323 0x33F (codes "mhpmevent") 3 [] zeros
    ∷ []

-- the register of a number, if there is one, and its name
unfoldable pub csr_numbered : ℕ → Option CsrName
csr_numbered number = option_map (λ (row : CsrRow). row.register number) (row_of_number csr_listing number)

-- the name in assembly of the register with this number, if there is one
abbrev pub name_of_number : ℕ → Option (List ℕ)
name_of_number number = option_map (λ (row : CsrRow). row.name number) (row_of_number csr_listing number)

-- ---- the content of each register

-- misa (section 3.1.1): MXL in bits 31:30 is 1, for 32-bit registers. Extensions has a bit for each letter; bit 0 is for A (65 is the code of
-- A).
abbrev pub misa_word : ℕ
misa_word = 1 * 2 ^ 30 + sum_by (λ letter. 2 ^ (letter - 65)) (codes "IMSU")

-- a trap vector (sections 3.1.7 and 4.1.2): BASE in bits 31:2, MODE in bits 1:0. Only 0 (Direct) and 1 (Vectored) are legal, so bit 1 reads 0.
abbrev pub vector_of : ℕ → ℕ
vector_of word = aligned_to_4 word + bits word 0 0

-- the interrupts that mie enables (sections 3.1.9 and 4.1.3): SSIE, MSIE, STIE, MTIE, SEIE and MEIE
abbrev pub enabled_of : ℕ → ℕ
enabled_of word = kept_bits (1 ∷ 3 ∷ 5 ∷ 7 ∷ 9 ∷ 11 ∷ []) word

-- the counters that mcountinhibit holds (section 3.1.12): CY for mcycle, and IR for minstret
abbrev pub inhibited_of : ℕ → ℕ
inhibited_of word = kept_bits (0 ∷ 2 ∷ []) word

-- the word that a register reads, and the state after a word is written to it
pub record Csr : Type 0 where
  -- the word that the register reads in a state
  pub reads : CsrState → ℕ
  -- the state after a word is written to the register
  pub leaves : ℕ → CsrState → CsrState

-- a register that always reads the same value and ignores writes
abbrev pub constant : ℕ → Csr
constant value = record { reads = λ _. value; leaves = λ _ csrs. csrs }

-- how each register is read, and what a write leaves in the state
unfoldable pub csr_of : CsrName → Csr
csr_of Sstatus = record { reads = λ csrs. sstatus_word csrs.mstatus; leaves = λ word csrs. record csrs { mstatus = with_sstatus csrs.mstatus word } }
csr_of Stvec = record { reads = λ csrs. csrs.stvec; leaves = λ word csrs. record csrs { stvec = vector_of word } }
csr_of Sscratch = record { reads = λ csrs. csrs.sscratch; leaves = λ word csrs. record csrs { sscratch = word } }
csr_of Sepc = record { reads = λ csrs. csrs.sepc; leaves = λ word csrs. record csrs { sepc = aligned_to_4 word } }
csr_of Scause = record { reads = λ csrs. csrs.scause; leaves = λ word csrs. record csrs { scause = word } }
csr_of Stval = record { reads = λ csrs. csrs.stval; leaves = λ word csrs. record csrs { stval = word } }
csr_of Satp = constant 0
csr_of Mstatus = record { reads = λ csrs. mstatus_word csrs.mstatus; leaves = λ word csrs. record csrs { mstatus = mstatus_of word } }
csr_of Misa = constant misa_word
csr_of Mie = record { reads = λ csrs. csrs.mie; leaves = λ word csrs. record csrs { mie = enabled_of word } }
csr_of Mtvec = record { reads = λ csrs. csrs.mtvec; leaves = λ word csrs. record csrs { mtvec = vector_of word } }
csr_of Mscratch = record { reads = λ csrs. csrs.mscratch; leaves = λ word csrs. record csrs { mscratch = word } }
csr_of Mepc = record { reads = λ csrs. csrs.mepc; leaves = λ word csrs. record csrs { mepc = aligned_to_4 word } }
csr_of Mcause = record { reads = λ csrs. csrs.mcause; leaves = λ word csrs. record csrs { mcause = word } }
csr_of Mtval = record { reads = λ csrs. csrs.mtval; leaves = λ word csrs. record csrs { mtval = word } }
csr_of Mip = record { reads = λ csrs. mip_word csrs; leaves = λ word csrs. record csrs { software_pending = software_pending_of word } }
csr_of (Pmpcfg register) = record {
  reads = λ csrs. cfg_word csrs.pmp register;
  leaves = λ word csrs. record csrs { pmp = with_cfg_word csrs.pmp register word };
}
csr_of (Pmpaddr entry) = record {
  reads = λ csrs. addr_of csrs.pmp entry;
  leaves = λ word csrs. record csrs { pmp = with_addr csrs.pmp entry word };
}
csr_of Mcycle = record { reads = λ csrs. bits csrs.mcycle 31 0; leaves = λ word csrs. record csrs { mcycle = with_low_half csrs.mcycle word } }
csr_of Minstret = record {
  reads = λ csrs. bits csrs.minstret 31 0;
  leaves = λ word csrs. record csrs { minstret = with_low_half csrs.minstret word };
}
csr_of Mcycleh = record { reads = λ csrs. bits csrs.mcycle 63 32; leaves = λ word csrs. record csrs { mcycle = with_high_half csrs.mcycle word } }
csr_of Minstreth = record {
  reads = λ csrs. bits csrs.minstret 63 32;
  leaves = λ word csrs. record csrs { minstret = with_high_half csrs.minstret word };
}
csr_of Mcountinhibit = record { reads = λ csrs. csrs.mcountinhibit; leaves = λ word csrs. record csrs { mcountinhibit = inhibited_of word } }
csr_of Zero = constant 0

-- the word that a read of the register returns
abbrev pub reading : CsrName → CsrState → ℕ
reading name csrs = (csr_of name).reads csrs

-- the state after a write of a word to the register
abbrev pub written : CsrName → ℕ → CsrState → CsrState
written name word csrs = (csr_of name).leaves word csrs

-- ---- accesses, with their checks in order

-- whether an access is refused because of TVM: satp in mode S while TVM is set (section 3.1.6.5)
abbrev pub is_trapped : CsrName → Mode → CsrState → Bool
is_trapped Satp S csrs = csrs.mstatus.tvm
is_trapped _ _ csrs = false

-- an access to the register of a number; a number without a register is a fault
abbrev pub on_register : {A : Type 0} → Option CsrName → (CsrName → Result A CsrFault) → Result A CsrFault
on_register None access = Err faults.Missing
on_register (Some name) access = access name

-- `read_result` is the result of a read of the register with this number in this mode
unfoldable pub read_result : CsrState → ℕ → Mode → Result ℕ CsrFault
read_result csrs number mode =
    on_register (csr_numbered number) (λ name.
    if nat_lt (mode_number mode) (least_mode number) then Err faults.Privilege
    else (if is_trapped name mode csrs then Err faults.Trapped else Ok (reading name csrs)))

-- `write_result` is the result of a write to the register with this number in this mode: the new registers, or a fault
unfoldable pub write_result : CsrState → ℕ → ℕ → Mode → Result CsrState CsrFault
write_result csrs number word mode =
    on_register (csr_numbered number) (λ name.
    if nat_lt (mode_number mode) (least_mode number) then Err faults.Privilege
    else (if is_read_only number then Err faults.ReadOnly
    else (if is_trapped name mode csrs then Err faults.Trapped else Ok (written name word csrs))))
