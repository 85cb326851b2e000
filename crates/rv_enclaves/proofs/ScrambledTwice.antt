-- Two scrambles of the same enclave restore the shared state.
use Rattle.std.proofs.Common.{◌≡◌, ℕ, zero, suc, ◌-◌, ◌^◌, ◌<◌, true, List, [], ◌∷◌, map, get_or, Option, Some, None, IfSome, refl, ap, ap₂, inl, inr, arith}
use Rattle.std.specs.Prelude.{slice_index, slice_index_or, slice_set}
use Rattle.std.specs.Option.{option_map}
use Rattle.std.proofs.lemmas.Bool.{cases_Bool}
use Rattle.rv_memory.proofs.Complements.{with_complements, length-with_complements, complemented_twice, inside-index, complemented-is}
use Rattle.rv_enclaves.specs.CallLaws.{ScrambledTwiceLaw}
use Rattle.rv_enclaves.specs.Scramble.{complemented_registers, complemented_context, complemented_block, scrambled_shared}
use Rattle.rv_enclaves.proofs.Prelude.{Block, Context, context_at, is_inside, ram_base, region}
use Rattle.rv_enclaves.proofs.EqualMemory.{read-none}

-- two complements of a list of 32-bit words give the list again
words_twice : (words : List ℕ) → ((index : ℕ) → get_or words index 0 < 2 ^ 32)
    → map (λ word. 2 ^ 32 - 1 - word) (map (λ word. 2 ^ 32 - 1 - word) words) ≡ words
words_twice [] are_words = refl
words_twice (word ∷ words) are_words =
    let in_word : word < 2 ^ 32 = are_words 0 in
    let complement_twice : 2 ^ 32 - 1 - (2 ^ 32 - 1 - word) ≡ word = omega (arith, in_word) in
    ap₂ (λ (first : ℕ) (rest : List ℕ). first ∷ rest) complement_twice (words_twice words (λ index. are_words (suc index)))

-- two complements of the registers give the registers again
registers_twice : (regs : List ℕ) → ((index : ℕ) → get_or regs index 0 < 2 ^ 32) → complemented_registers (complemented_registers regs) ≡ regs
registers_twice [] are_words = refl
registers_twice (x0 ∷ words) are_words = ap (λ rest. x0 ∷ rest) (words_twice words (λ index. are_words (suc index)))

-- two complements of a context give the context again
context_twice : (maybe_context : Option Context) → IfSome maybe_context (λ context. (index : ℕ) → slice_index context.regs index < 2 ^ 32)
    → option_map complemented_context (option_map complemented_context maybe_context) ≡ maybe_context
context_twice None are_words = refl
context_twice (Some context) are_words = ap (λ regs. Some (record context { regs = regs })) (registers_twice context.regs are_words)

-- If `complement` applied twice to the element at an index gives this element, then two writes of the complement at this index restore the list.
place_twice : {X : Type 0} (complement : Option X → Option X) (elements : List (Option X)) (index : ℕ)
    → complement (complement (slice_index_or elements index None)) ≡ slice_index_or elements index None
    → (let once = slice_set elements index (complement (slice_index_or elements index None)) in
    slice_set once index (complement (slice_index_or once index None))) ≡ elements
place_twice complement [] index restores = refl
place_twice complement (element ∷ elements) zero restores = ap (λ restored. restored ∷ elements) restores
place_twice complement (element ∷ elements) (suc index) restores =
    ap (λ restored_rest. element ∷ restored_rest) (place_twice complement elements index restores)

-- two complements of a block of bytes restore the memory
block_twice : (memory : List ℕ) (block : Block) → ((index : ℕ) → get_or memory index 0 < 2 ^ 8)
    → complemented_block (complemented_block memory block) block ≡ memory
block_twice memory block are_bytes = elim (cases_Bool (is_inside memory block.base block.size)) [
  | inl inside ↦
      let index = block.base - ram_base in
      let once = with_complements memory index block.size in
      let fits = inside-index memory block.base block.size inside in
      let same_length = length-with_complements memory index block.size fits in
      let inside_after : is_inside once block.base block.size ≡ true = rw same_length inside in
      let complement_is = complemented-is memory block.base block.size inside in
      let complement_again_is = complemented-is once block.base block.size inside_after in
      rw (complement_is, complement_again_is) (complemented_twice memory index block.size fits are_bytes)
  | inr outside ↦
      let reads_none = read-none memory block.base block.size outside in
      rw (reads_none, reads_none) refl
]

-- proves that two scrambles restore the shared state
pub shared_twice : ScrambledTwiceLaw
unfolding scrambled_shared
shared_twice shared slot are_bytes are_words =
    let memory_restored = block_twice shared.memory (region shared.table slot) are_bytes in
    let contexts_restored =
    place_twice (option_map complemented_context) shared.contexts slot (context_twice (context_at shared.contexts slot) are_words) in
    ap₂ (λ memory contexts. record shared { memory = memory; contexts = contexts }) memory_restored contexts_restored
