-- Valid blocks of memory: those in RAM that one NAPOT entry can cover (RISC-V Privileged Architecture 20211203, section 3.7.1). The minimum size
-- of 4096 bytes is this project's profile of Keystone, EuroSys 2020.
use Rattle.std.specs.Prelude.{ℕ, ◌%◌, ◌^◌, ◌==◌, Bool, ◌&&◌, List}
use Rattle.std.specs.List.{range_with_len, list_any}
use Rattle.rv_memory.specs.declared.block.Block.{Block}
use Rattle.rv_memory.specs.Memory.{is_inside}

-- the sizes of valid blocks: the powers of two from 4096 up
abbrev pub is_block_size : ℕ → Bool
is_block_size size = list_any (λ exponent. size == 2 ^ exponent) (range_with_len 12 20)

-- whether a block is valid: its size is a power of two from 4096 up, its base is a multiple of its size, and it is inside memory
unfoldable pub is_valid_block : List ℕ → Block → Bool
is_valid_block memory block =
    is_block_size block.size && (block.base % block.size == 0 && is_inside memory block.base block.size)
