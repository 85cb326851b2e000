-- Scrambling: the shared state with every byte and register that is private to an enclave complemented, and everything else as before. (Not a
-- rule of a standard; the second bench of a twin run is built with it.)
use Rattle.std.specs.Prelude.{ℕ, ◌-◌, ◌^◌, Bool, List, [], ◌∷◌, map}
use Rattle.std.specs.Option.{option_map}
use Rattle.rv_word.specs.Cases.{option_case}
use Rattle.rv_memory.specs.Complement.{complemented}
use Rattle.rv_enclaves.specs.Contexts.{context_at, with_context}
use Rattle.rv_enclaves.specs.SharedInvariant.{is_held}
use Rattle.rv_enclaves.specs.Table.{Slots, slot_at, region}
use Rattle.rv_memory.specs.declared.block.Block.{Block}
use Rattle.rv_enclaves.specs.declared.context.Context.{Context}
use Rattle.rv_enclaves.specs.declared.shared.Shared.{Shared}

-- the slots with a saved context: the enclave is live and does not run
abbrev pub can_scramble : Slots → ℕ → Bool
can_scramble slots slot = is_held (slot_at slots slot)

-- the registers x1 to x31 complemented; x0 stays 0
abbrev pub complemented_registers : List ℕ → List ℕ
complemented_registers [] = []
complemented_registers (x0 ∷ words) = x0 ∷ map (λ word. 2 ^ 32 - 1 - word) words

-- the context with each register complemented, except x0
abbrev pub complemented_context : Context → Context
complemented_context context = record context { regs = complemented_registers context.regs }

-- the memory with the bytes of a block complemented; a block outside memory changes nothing
abbrev pub complemented_block : List ℕ → Block → List ℕ
complemented_block memory block = option_case (complemented memory block.base block.size) memory (λ after. after)

-- the shared state with the region and the saved registers of `slot` complemented
unfoldable pub scrambled_shared : Shared → ℕ → Shared
scrambled_shared shared slot = record shared {
  memory = complemented_block shared.memory (region shared.table slot);
  contexts = with_context shared.contexts slot (option_map complemented_context (context_at shared.contexts slot));
}
