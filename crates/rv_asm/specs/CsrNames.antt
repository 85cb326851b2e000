-- The names of control and status registers in an assembler text (RISC-V Privileged Architecture 20211203, section 2.2, tables 2.3, 2.5 and
-- 2.6). The event counters, their upper halves and the event selectors have no name here; a text uses their numbers.
use Rattle.std.specs.Prelude.{ℕ, List, [], ◌∷◌, map, Option, unwrap_or}
use Rattle.rv_state.specs.CsrTable.{name_of_number}
use Rattle.rv_asm.specs.Tables.{looked_up}

-- `named_csrs` has the numbers of the registers that have a name here, in the order of the tables
abbrev pub named_csrs : List ℕ
named_csrs =
    -- table 2.3
    0x100 ∷ 0x104 ∷ 0x105 ∷ 0x106 ∷ 0x10A ∷ 0x140 ∷ 0x141 ∷ 0x142 ∷ 0x143 ∷ 0x144 ∷ 0x180
    -- table 2.5
    ∷ 0xF11 ∷ 0xF12 ∷ 0xF13 ∷ 0xF14 ∷ 0xF15
    ∷ 0x300 ∷ 0x301 ∷ 0x302 ∷ 0x303 ∷ 0x304 ∷ 0x305 ∷ 0x306 ∷ 0x310 ∷ 0x340 ∷ 0x341 ∷ 0x342 ∷ 0x343 ∷ 0x344 ∷ 0x30A ∷ 0x31A
    ∷ 0x3A0 ∷ 0x3A1 ∷ 0x3A2 ∷ 0x3A3
    ∷ 0x3B0 ∷ 0x3B1 ∷ 0x3B2 ∷ 0x3B3 ∷ 0x3B4 ∷ 0x3B5 ∷ 0x3B6 ∷ 0x3B7 ∷ 0x3B8 ∷ 0x3B9 ∷ 0x3BA ∷ 0x3BB ∷ 0x3BC ∷ 0x3BD ∷ 0x3BE ∷ 0x3BF
    -- table 2.6
    ∷ 0xB00 ∷ 0xB02 ∷ 0xB80 ∷ 0xB82 ∷ 0x320 ∷ []

-- each number with its name in the listing of the registers
unfoldable pub csrs : List (List ℕ × ℕ)
csrs = map (λ number. (unwrap_or (name_of_number number) [], number)) named_csrs

-- the number of a name, if there is one; names are case-sensitive
abbrev pub csr_named : List ℕ → Option ℕ
csr_named name = looked_up csrs name
