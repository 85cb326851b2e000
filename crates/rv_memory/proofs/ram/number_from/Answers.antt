-- This file proves obligations of `number_from`, which returns the little-endian number in `count` bytes from an index on.
use Rattle.std.proofs.Common.{◌≡◌, ℕ, ◌+◌, ◌-◌, List, [], ◌∷◌, length, ◌∙◌, ap, arith}
use Rattle.std.proofs.lemmas.List.{length-take-le}
use Rattle.rv_memory.specs.Memory.{number_of_bytes}
use Rattle.rv_memory.proofs.MemoryLaws.{padded}
use Rattle.rv_memory.proofs.ram.number_from.Goals as goal

-- The code copies the `count` bytes over the first of four zeros, and reads the four bytes as a word. Zeros above the bytes do not change the
-- little-endian number.
pub returns : goal.returns
returns c =
    let a = c.args in
    let bytes = c.copy_from_slice.new.self in
    let zeros : List ℕ = 0 ∷ 0 ∷ 0 ∷ 0 ∷ [] in
    let has_count : length bytes ≡ a.count = c.copy_from_slice.ensures.len ∙ length-take-le a.count zeros (omega arith) in
    let range_length : a.start + a.count - a.start ≡ a.count = omega arith in
    let copied_bytes_are = rw range_length at c.copy_from_slice.ensures.after in
    c.le_word.ensures.value ∙ padded bytes a.count has_count c.requires.short ∙ ap number_of_bytes copied_bytes_are
