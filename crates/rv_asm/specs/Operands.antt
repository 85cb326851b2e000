-- The operands of a statement (RISC-V Unprivileged ISA 20191213, chapter 25 (the syntax of assembly programs), in this project's grammar). An
-- operand that has none of these forms is an error.
use Rattle.std.specs.Prelude.{ℕ, ◌-◌, ◌==◌, List, length, take, drop, codes, nat_eq, Option, Some, None, option_and_then, Result, Ok, if◌then◌else◌}
use Rattle.std.specs.Option.{ok_or, option_map}
use Rattle.std.specs.List.{starts_with, ends_with, position_or_len}
use Rattle.rv_word.specs.Cases.{option_case}
use Rattle.rv_text.specs.Characters.{left_parenthesis}
use Rattle.rv_asm.specs.Tables.{looked_up}
use Rattle.rv_asm.specs.Cuts.{is_name}
use Rattle.rv_asm.specs.CsrNames.{csr_named}
use Rattle.rv_asm.specs.FenceSets.{fence_sets}
use Rattle.rv_asm.specs.Numbers.{written_number, plus}
use Rattle.rv_asm.specs.RegisterNames.{register_named}
use Rattle.rv_asm.specs.declared.number.Number.{Number}
use Rattle.rv_asm.specs.declared.operand.Target.{Target}
use Rattle.rv_asm.specs.declared.operand.Target.TheVariants.{Label, Offset}
use Rattle.rv_asm.specs.declared.fault.AsmFaultKind.{AsmFaultKind}
use Rattle.rv_asm.specs.declared.fault.AsmFaultKind.TheVariants.{BadOperand}

-- `operand` is the operand that was read, or an error
abbrev pub operand : {A : Type 0} → Option A → Result A AsmFaultKind
operand read = ok_or read BadOperand

-- `register_at` is the number of the register that the text names
abbrev pub register_at : List ℕ → Result ℕ AsmFaultKind
register_at text = operand (register_named text)

-- `number_operand` is the number that the text writes
abbrev pub number_operand : List ℕ → Result Number AsmFaultKind
number_operand text = operand (written_number text)

-- `csr_operand` is the control and status register with this name or this number
abbrev pub csr_operand : List ℕ → Result Number AsmFaultKind
csr_operand text = operand (option_case (csr_named text) (written_number text) (λ number. Some (plus number)))

-- `base_of` is the register between `(` and `)`
unfoldable pub base_of : List ℕ → Option ℕ
base_of text =
    if starts_with nat_eq text (codes "(")
    then (if ends_with nat_eq (drop 1 text) (codes ")") then register_named (take (length (drop 1 text) - 1) (drop 1 text)) else None)
    else None

-- `opening` is the index of the first `(`, or the length of the text
abbrev pub opening : List ℕ → ℕ
opening text = position_or_len (λ byte. byte == left_parenthesis) text

-- an operand `n(rs1)` is an offset and a base register
unfoldable pub offset_and_base : List ℕ → Option (Number × ℕ)
offset_and_base text =
    option_and_then (λ offset. option_map (λ base. (offset, base)) (base_of (drop (opening text) text)))
    (written_number (take (opening text) text))

-- `address_operand` is the offset and the base register of an operand such as `8(x2)`
abbrev pub address_operand : List ℕ → Result (Number × ℕ) AsmFaultKind
address_operand text = operand (offset_and_base text)

-- the target of a jump or branch: an operand with the form of a name is a label, even if it names a register
unfoldable pub target_at : List ℕ → Result Target AsmFaultKind
target_at text = if is_name text then Ok (Label text) else operand (option_map Offset (written_number text))

-- the bits of the set of accesses that an operand of fence names
abbrev pub fence_set_at : List ℕ → Result ℕ AsmFaultKind
fence_set_at text = operand (looked_up fence_sets text)
