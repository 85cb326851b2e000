-- The input of the measurement determines the region, the window, the entry and every byte of the region. (A law about the definitions. It is
-- about the input of SHA-256, since a digest of 32 bytes does not determine its input.)
use Rattle.std.specs.Prelude.{◌≡◌, ℕ, true, not, List, length}
use Rattle.rv_memory.specs.Memory.{is_ram_size}
use Rattle.rv_memory.specs.Blocks.{has}
use Rattle.rv_enclaves.specs.Create.{measured_bytes}
use Rattle.rv_enclaves.specs.SharedEquivExcept.{EqualOutside}
use Rattle.rv_enclaves.specs.Table.{IsValidSlot}
use Rattle.rv_enclaves.specs.declared.create_args.CreateArgs.{CreateArgs}
use Rattle.rv_enclaves.specs.declared.slot_info.SlotInfo.{SlotInfo}

-- the arguments of create that the record of an enclave keeps
abbrev pub args_of : SlotInfo → CreateArgs
args_of info = record { region = info.region; window = info.window; entry = info.entry }

-- the create arguments of two records are equal, and so are the bytes of their regions
pub record SameMeasured (one_memory other_memory : List ℕ) (one other : SlotInfo) : Type 0 where
  pub args : args_of one ≡ args_of other
  pub bytes : EqualOutside (λ byte. not (has one.region byte)) one_memory other_memory

-- two valid enclaves with equal measured bytes have equal arguments and equal bytes of the region
abbrev pub MeasurementLaw : Type 0
MeasurementLaw =
    (one_memory other_memory : List ℕ) (one other : SlotInfo) → is_ram_size (length one_memory) ≡ true → length one_memory ≡ length other_memory
    → IsValidSlot one_memory one → IsValidSlot other_memory other
    → measured_bytes one_memory (args_of one) ≡ measured_bytes other_memory (args_of other) → SameMeasured one_memory other_memory one other
