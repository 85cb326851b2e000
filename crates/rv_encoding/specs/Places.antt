-- The positions of instruction fields in a word (RISC-V Unprivileged ISA 20191213, sections 2.2 and 2.3).
use Rattle.std.specs.Prelude.{ℕ, ◌+◌, ◌-◌, ◌*◌, ◌^◌, List, [], ◌∷◌}
use Rattle.rv_word.specs.BitFields.{bits}

-- A range of bits of a field, and the range of the word's bits that holds them. Each range is given by its highest and its lowest bit.
pub record Run : Type 0 where
  -- the highest bit in the field
  pub field_hi : ℕ
  -- the lowest bit in the field
  pub field_lo : ℕ
  -- the highest bit in the word
  pub hi : ℕ
  -- the lowest bit in the word
  pub lo : ℕ

-- `bits_at` has bits hi to lo of a field, in the word from bit `from` upwards
abbrev pub bits_at : ℕ → ℕ → ℕ → Run
bits_at hi lo from = record { field_hi = hi; field_lo = lo; hi = from + (hi - lo); lo = from }

-- The bit ranges of a field, from the highest bit of the word down. Bits of the field outside these ranges are 0.
abbrev pub Places : Type 0
Places = List Run

-- ---- fields of every format

-- rd is in bits 11:7 of a word
abbrev pub rd_at : Places
rd_at = bits_at 4 0 7 ∷ []

-- rs1 is in bits 19:15 of a word
abbrev pub rs1_at : Places
rs1_at = bits_at 4 0 15 ∷ []

-- rs2 is in bits 24:20 of a word
abbrev pub rs2_at : Places
rs2_at = bits_at 4 0 20 ∷ []

-- ---- immediates

-- an immediate of format I is in the word as imm[11:0]
abbrev pub i_immediate_at : Places
i_immediate_at = bits_at 11 0 20 ∷ []

-- an immediate of format S is in the word as imm[11:5], imm[4:0]
abbrev pub s_immediate_at : Places
s_immediate_at = bits_at 11 5 25 ∷ bits_at 4 0 7 ∷ []

-- an immediate of format B is in the word as imm[12], imm[10:5], imm[4:1], imm[11]
abbrev pub b_immediate_at : Places
b_immediate_at = bits_at 12 12 31 ∷ bits_at 10 5 25 ∷ bits_at 4 1 8 ∷ bits_at 11 11 7 ∷ []

-- an immediate of format J is in the word as imm[20], imm[10:1], imm[11], imm[19:12]
abbrev pub j_immediate_at : Places
j_immediate_at = bits_at 20 20 31 ∷ bits_at 10 1 21 ∷ bits_at 11 11 20 ∷ bits_at 19 12 12 ∷ []

-- an immediate of format U is in the word as imm[31:12]
abbrev pub u_immediate_at : Places
u_immediate_at = bits_at 31 12 12 ∷ []

-- ---- fields of certain groups: sections 2.4 (shamt), 2.7 (fm, pred, succ) and 9.1 (csr, uimm)

-- shamt is in bits 24:20 of a word
abbrev pub shamt_at : Places
shamt_at = bits_at 4 0 20 ∷ []

-- fm of fence is in bits 31:28 of the word
abbrev pub fm_at : Places
fm_at = bits_at 3 0 28 ∷ []

-- pred of fence is in bits 27:24 of the word
abbrev pub pred_at : Places
pred_at = bits_at 3 0 24 ∷ []

-- succ of fence is in bits 23:20 of the word
abbrev pub succ_at : Places
succ_at = bits_at 3 0 20 ∷ []

-- csr is in bits 31:20 of the word
abbrev pub csr_at : Places
csr_at = bits_at 11 0 20 ∷ []

-- uimm of a CSR instruction is in bits 19:15 of the word
abbrev pub uimm_at : Places
uimm_at = bits_at 4 0 15 ∷ []

-- ---- a field at its positions

-- `placed` is the word with a field at its positions, and 0 elsewhere
abbrev pub placed : Places → ℕ → ℕ
placed [] field = 0
placed (run ∷ runs) field = bits field run.field_hi run.field_lo * 2 ^ run.lo + placed runs field

-- `taken` is the field at these positions of a word
abbrev pub taken : Places → ℕ → ℕ
taken [] word = 0
taken (run ∷ runs) word = bits word run.hi run.lo * 2 ^ run.field_lo + taken runs word
