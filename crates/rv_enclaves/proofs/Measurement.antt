-- Two valid enclaves with equal measured bytes have equal create arguments and equal bytes in their regions. The measured bytes are the input of the
-- digest.
use Rattle.std.proofs.Common.{◌≡◌, ◌<◌, ◌≤◌, ℕ, ◌+◌, ◌-◌, true, false, List, length, refl, sym, ◌∙◌, ap, ap₂, inl, inr, arith}
use Rattle.std.proofs.lemmas.Bool.{and_parts, cases_Bool, eqb-true, leb-true, ltb-true, or_cases}
use Rattle.std.proofs.lemmas.List.{get_or-drop, get_or-take}
use Rattle.std.specs.Prelude.{◌%◌, ◌^◌, ◌++◌, ◌==◌, drop, nat_le, not, slice_index}
use Rattle.rv_word.specs.ByteOrder.{byte_of}
use Rattle.rv_memory.specs.Memory.{bytes_of, is_inside, ram_base, read}
use Rattle.rv_memory.specs.Blocks.{has}
use Rattle.rv_memory.specs.declared.block.Block.{Block}
use Rattle.sha2.specs.Sha256.{sha256}
use Rattle.rv_enclaves.specs.Create.{bytes_of_block, heading, measured_bytes, measurement_of}
use Rattle.rv_enclaves.specs.Measurement.{MeasurementLaw, args_of}
use Rattle.rv_enclaves.specs.Table.{IsValidSlot, is_window}
use Rattle.rv_enclaves.specs.ValidBlocks.{is_valid_block}
use Rattle.rv_enclaves.specs.declared.create_args.CreateArgs.{CreateArgs}
use Rattle.rv_enclaves.specs.declared.slot_info.SlotInfo.{SlotInfo}
use Rattle.rv_enclaves.proofs.AccessLemmas.{small_ram}
use Rattle.rv_enclaves.proofs.EqualMemory.{inside-bounds}
use Rattle.rv_enclaves.proofs.Owners.{valid_block}

-- ---- the measurement depends on nothing but its input

-- equal measured bytes have equal digests
pub same_digest : (one_memory other_memory : List ℕ) (one other : CreateArgs) → measured_bytes one_memory one ≡ measured_bytes other_memory other
    → measurement_of one_memory one ≡ measurement_of other_memory other
unfolding measurement_of
same_digest one_memory other_memory one other same_input = ap sha256 same_input

-- two creates with the same arguments and equal bytes of the region have equal measurements
pub same_measurement : (one_memory other_memory : List ℕ) (new : CreateArgs)
    → bytes_of_block one_memory new.region ≡ bytes_of_block other_memory new.region
    → measurement_of one_memory new ≡ measurement_of other_memory new
unfolding measurement_of
same_measurement one_memory other_memory new same_bytes = ap (λ (bytes : List ℕ). sha256 (heading new ++ bytes)) same_bytes

-- ---- the words at the front of the input

-- two words with four equal bytes are equal
equal_words : (word other_word : ℕ) → word < 2 ^ 32 → other_word < 2 ^ 32 → byte_of word 0 ≡ byte_of other_word 0
    → byte_of word 1 ≡ byte_of other_word 1 → byte_of word 2 ≡ byte_of other_word 2
    → byte_of word 3 ≡ byte_of other_word 3 → word ≡ other_word
equal_words word other_word in_word other_in_word same_byte_0 same_byte_1 same_byte_2 same_byte_3 =
    omega (arith, in_word, other_in_word, same_byte_0, same_byte_1, same_byte_2, same_byte_3)

-- if two lists that begin with the four bytes of a word are equal, then the words are equal, and so are the rests of the lists
same_front : (word other_word : ℕ) (rest other_rest : List ℕ) → word < 2 ^ 32 → other_word < 2 ^ 32
    → bytes_of 4 word ++ rest ≡ bytes_of 4 other_word ++ other_rest → (word ≡ other_word) × (rest ≡ other_rest)
same_front word other_word rest other_rest in_word other_in_word same_bytes =
    let same_byte_0 : byte_of word 0 ≡ byte_of other_word 0 = cc in
    let same_byte_1 : byte_of word 1 ≡ byte_of other_word 1 = cc in
    let same_byte_2 : byte_of word 2 ≡ byte_of other_word 2 = cc in
    let same_byte_3 : byte_of word 3 ≡ byte_of other_word 3 = cc in
    let same_rest : rest ≡ other_rest = cc in
    (equal_words word other_word in_word other_in_word same_byte_0 same_byte_1 same_byte_2 same_byte_3, same_rest)

-- ---- the numbers of a valid slot are words

-- each argument of create is a 32-bit word
pub record AreWords (args : CreateArgs) : Type 0 where
  pub base : args.region.base < 2 ^ 32
  pub size : args.region.size < 2 ^ 32
  pub window_base : args.window.base < 2 ^ 32
  pub window_size : args.window.size < 2 ^ 32
  pub entry : args.entry < 2 ^ 32

-- a valid block ends below 2 ^ 32
block_words : (memory : List ℕ) (block : Block) → length memory ≤ 0x1000000 → is_valid_block memory block ≡ true → block.base + block.size < 2 ^ 32
block_words memory block ram_size is_valid =
    let block_properties = valid_block memory block is_valid in omega (arith, block_properties.to_ram_end, ram_size)

-- a valid window ends below 2 ^ 32
window_words : (memory : List ℕ) (block : Block) → length memory ≤ 0x1000000 → is_window memory block ≡ true → block.base + block.size < 2 ^ 32
unfolding is_window
window_words memory block ram_size is_window_valid = elim (or_cases _ _ is_window_valid) [
  | inl is_empty ↦
      let (base_test, size_test) = and_parts (block.base == 0) (block.size == 0) is_empty in
      let base_is_0 = eqb-true _ _ base_test in
      let size_is_0 = eqb-true _ _ size_test in
      omega (arith, base_is_0, size_is_0)
  | inr block_valid ↦ block_words memory block ram_size block_valid
]

-- the create arguments of a valid record are 32-bit words
are_words : (memory : List ℕ) (info : SlotInfo) → length memory ≤ 0x1000000 → IsValidSlot memory info → AreWords (args_of info)
are_words memory info ram_size slot_valid =
    let region_end = block_words memory info.region ram_size slot_valid.region in
    let window_end = window_words memory info.window ram_size slot_valid.window in
    let (entry_from_base, entry_before_end) = and_parts (nat_le info.region.base info.entry) _ slot_valid.entry in
    let entry_in_region = ltb-true info.entry (info.region.base + info.region.size) entry_before_end in
    record {
      base = omega (arith, region_end);
      size = omega (arith, region_end);
      window_base = omega (arith, window_end);
      window_size = omega (arith, window_end);
      entry = omega (arith, region_end, entry_in_region);
    }

-- ---- the bytes of the region

-- the byte of a block at an address is the byte of the memory at this address
block_byte : (memory : List ℕ) (block : Block) (memory_index : ℕ) → is_inside memory block.base block.size ≡ true
    → block.base ≤ ram_base + memory_index
    → ram_base + memory_index < block.base + block.size
    → slice_index (bytes_of_block memory block) (ram_base + memory_index - block.base) ≡ slice_index memory memory_index
unfolding read
block_byte memory block memory_index inside from_base before_end =
    let (from_ram_base, to_ram_end) = inside-bounds memory block.base block.size inside in
    let block_index = ram_base + memory_index - block.base in
    let in_block_length : block_index < block.size = omega (arith, from_base, before_end) in
    let memory_index_is : block.base - ram_base + block_index ≡ memory_index = omega (arith, from_ram_base, from_base) in
    rw inside
    (get_or-take block.size (drop (block.base - ram_base) memory) block_index 0 in_block_length
    ∙ get_or-drop (block.base - ram_base) memory block_index 0
    ∙ ap (λ (index : ℕ). slice_index memory index) memory_index_is)

-- a valid block is inside memory
pub valid_inside : (memory : List ℕ) (block : Block) → is_valid_block memory block ≡ true → is_inside memory block.base block.size ≡ true
unfolding is_valid_block
valid_inside memory block valid_block =
    let (size_is_permitted, aligned_and_inside) = and_parts _ _ valid_block in
    let (base_is_aligned, block_is_inside) = and_parts (block.base % block.size == 0) _ aligned_and_inside in
    block_is_inside

-- if a valid block has the same bytes in two memories, then the memories are equal at each address of the block
same_bytes : (one_memory other_memory : List ℕ) (block : Block) (memory_index : ℕ) → is_valid_block one_memory block ≡ true
    → is_valid_block other_memory block ≡ true
    → bytes_of_block one_memory block ≡ bytes_of_block other_memory block → not (has block (ram_base + memory_index)) ≡ false
    → slice_index one_memory memory_index ≡ slice_index other_memory memory_index
same_bytes one_memory other_memory block memory_index is_valid other_valid same_block_bytes not_outside =
    elim (cases_Bool (has block (ram_base + memory_index))) [
      | inr outside_block ↦
          let contradiction : true ≡ false = sym (ap not outside_block) ∙ not_outside in
          cc
      | inl in_block ↦
          let (not_below_base, below_end) = and_parts (nat_le block.base (ram_base + memory_index)) _ in_block in
          let from_base = leb-true _ _ not_below_base in
          let before_end = ltb-true (ram_base + memory_index) (block.base + block.size) below_end in
          sym (block_byte one_memory block memory_index (valid_inside one_memory block is_valid) from_base before_end)
          ∙ ap (λ (bytes : List ℕ). slice_index bytes (ram_base + memory_index - block.base)) same_block_bytes
          ∙ block_byte other_memory block memory_index (valid_inside other_memory block other_valid) from_base before_end
    ]

-- ---- the law

-- proves that the measured bytes determine the arguments and the bytes of the region
pub measurement_law : MeasurementLaw
measurement_law one_memory other_memory one other ram_size same_length valid_one valid_other same_input =
    let ram_limit = small_ram one_memory ram_size in
    let words_one = are_words one_memory one ram_limit valid_one in
    let words_other = are_words other_memory other (omega (arith, ram_limit, same_length)) valid_other in
    -- the input is the five words of the heading and then the bytes of the region, and each step takes off one word
    let (same_base, after_base) = same_front one.region.base other.region.base _ _ words_one.base words_other.base same_input in
    let (same_size, after_size) = same_front one.region.size other.region.size _ _ words_one.size words_other.size after_base in
    let (same_window_base, after_window_base) =
    same_front one.window.base other.window.base _ _ words_one.window_base words_other.window_base after_size in
    let (same_window_size, after_window_size) =
    same_front one.window.size other.window.size _ _ words_one.window_size words_other.window_size after_window_base in
    let (same_entry, after_entry) =
    same_front one.entry other.entry (bytes_of_block one_memory one.region) (bytes_of_block other_memory other.region)
    words_one.entry words_other.entry after_window_size in
    let block : ℕ → ℕ → Block = λ base size. record { base = base; size = size } in
    let same_region : one.region ≡ other.region = ap₂ block same_base same_size in
    let same_window : one.window ≡ other.window = ap₂ block same_window_base same_window_size in
    let same_region_bytes : bytes_of_block one_memory one.region ≡ bytes_of_block other_memory one.region =
    after_entry ∙ ap (bytes_of_block other_memory) (sym same_region) in
    let valid_block : is_valid_block other_memory one.region ≡ true = ap (is_valid_block other_memory) same_region ∙ valid_other.region in
    record {
      args = equal_args same_region same_window same_entry;
      bytes = record {
        size = same_length;
        bytes =
            λ byte_index not_hidden.
            same_bytes one_memory other_memory one.region byte_index valid_one.region valid_block same_region_bytes not_hidden;
      };
    } where
      -- two creates with equal region, window and entry have equal arguments
      equal_args : one.region ≡ other.region → one.window ≡ other.window → one.entry ≡ other.entry → args_of one ≡ args_of other
      equal_args same_region same_window same_entry = rw (same_region, same_window, same_entry) refl
