-- The call destroy: the host passes a slot whose enclave does not run. The region is zeroed, and the record and the saved context are removed.
-- (Keystone, EuroSys 2020, in this project's profile.)
use Rattle.std.specs.Prelude.{ℕ, List, replicate, None}
use Rattle.rv_word.specs.Cases.{option_case}
use Rattle.rv_memory.specs.Memory.{write}
use Rattle.rv_enclaves.specs.Contexts.{with_context}
use Rattle.rv_enclaves.specs.Table.{region, with_slot}
use Rattle.rv_memory.specs.declared.block.Block.{Block}
use Rattle.rv_enclaves.specs.declared.shared.Shared.{Shared}

-- the memory with the bytes of a block set to 0, or the same memory if the block is not inside memory; every live region is inside memory
abbrev pub zeroed : List ℕ → Block → List ℕ
zeroed memory block = option_case (write memory block.base (replicate block.size 0)) memory (λ after. after)

-- the shared state without the enclave of `slot`, whose region is this block
abbrev pub without : Shared → ℕ → Block → Shared
without shared slot block = record {
  memory = zeroed shared.memory block;
  table = with_slot shared.table slot None;
  contexts = with_context shared.contexts slot None;
}

-- the shared state after a destroy that is not refused
unfoldable pub destroyed : Shared → ℕ → Shared
destroyed shared slot = without shared slot (region shared.table slot)
