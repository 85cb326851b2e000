-- Rows of the table of control and status registers: one register, or a range of registers (RISC-V Privileged Architecture 20211203, section
-- 2.2).
use Rattle.std.specs.Prelude.{ℕ, ◌+◌, ◌-◌, ◌/◌, ◌%◌, Bool, ◌&&◌, nat_lt, nat_le, ◌==◌, if◌then◌else◌}
use Rattle.std.specs.Prelude.{List, [], ◌∷◌, ◌++◌, Option, Some, None}
use Rattle.rv_state.specs.declared.csr_name.CsrName.{CsrName}
use Rattle.rv_state.specs.declared.csr_name.CsrName.TheVariants.{Zero}

-- a row: the numbers that it covers, and for each of them the name of the register and the register itself
pub record CsrRow : Type 0 where
  -- whether the row covers a number
  pub is_of : ℕ → Bool
  -- the name of the register with a number
  pub name : ℕ → List ℕ
  -- the register with a number
  pub register : ℕ → CsrName

-- the row of a single register: its number, its name in assembly, and its register
abbrev pub csr : ℕ → List ℕ → CsrName → CsrRow
csr own name register = record { is_of = λ number. number == own; name = λ _. name; register = λ _. register }

-- the decimal digits of a number below 100, in ASCII (48 is the code of 0)
abbrev pub digits_of : ℕ → List ℕ
digits_of n = if nat_lt n 10 then (48 + n) ∷ [] else (48 + n / 10) ∷ (48 + n % 10) ∷ []

-- a range of registers with numbered names: the text before the number, the number in the first name, and the text after it
abbrev pub csr_range : ℕ → ℕ → List ℕ → ℕ → List ℕ → (ℕ → CsrName) → CsrRow
csr_range first last before from after register = record {
  is_of = λ number. nat_le first number && nat_le number last;
  name = λ number. before ++ (digits_of (from + (number - first)) ++ after);
  register = λ number. register (number - first);
}

-- a range of registers that read 0
abbrev pub zeros : ℕ → CsrName
zeros _ = Zero

-- the first row that covers a number
abbrev pub row_of_number : List CsrRow → ℕ → Option CsrRow
row_of_number [] number = None
row_of_number (row ∷ rows) number = if row.is_of number then Some row else row_of_number rows number
