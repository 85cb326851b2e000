-- Two blocks of addresses meet (`meets`, a test of their bounds) if and only if they share a byte. Blocks that meet share the higher of their first
-- bytes.
use Rattle.std.proofs.Common.{◌≡◌, ◌+◌, ◌<◌, ◌≤◌, ℕ, true, false, refl, inl, inr, arith}
use Rattle.std.specs.Prelude.{nat_le, nat_lt}
use Rattle.std.proofs.lemmas.Bool.{and_parts, and_from, both_ways, cases_lt, false_from_ne_true, leb-true, le-leb, ltb-true, lt-ltb}
use Rattle.std.proofs.lemmas.Grind.{common_steps}
use Rattle.rv_memory.specs.BlockLaws.{MeetsLaw, SharesByte}
use Rattle.rv_memory.specs.Blocks.{has, meets, no_block}
use Rattle.rv_memory.specs.declared.block.Block.{Block}

-- ---- shared bytes

-- blocks that share a byte meet: the bounds of the byte in both blocks give the four tests of `meets`
meets_from : (first second : Block) → SharesByte first second → meets first second ≡ true
meets_from first second shared =
    let byte = shared.byte in
    let bounds_in_first = and_parts (nat_le first.base byte) (nat_lt byte (first.base + first.size)) shared.in_a in
    let bounds_in_second = and_parts (nat_le second.base byte) (nat_lt byte (second.base + second.size)) shared.in_b in
    let from_first = leb-true _ _ bounds_in_first.0 in
    let below_end_of_first = ltb-true _ _ bounds_in_first.1 in
    let from_second = leb-true _ _ bounds_in_second.0 in
    let below_end_of_second = ltb-true _ _ bounds_in_second.1 in
    and_from _ _ (lt-ltb 0 first.size (omega arith))
    (and_from _ _ (lt-ltb 0 second.size (omega arith))
    (and_from _ _ (lt-ltb first.base (second.base + second.size) (omega arith)) (lt-ltb second.base (first.base + first.size) (omega arith))))

-- an address from the base to before the end of a block is in the block
has_byte : (block : Block) (byte : ℕ) → block.base ≤ byte → byte < block.base + block.size → has block byte ≡ true
has_byte block byte from_base below_end = and_from _ _ (le-leb block.base byte from_base) (lt-ltb byte (block.base + block.size) below_end)

-- blocks that meet share the higher of their first bytes; the first lines take the four tests of `meets` apart
shares_byte : (first second : Block) → meets first second ≡ true → SharesByte first second
shares_byte first second meet =
    let tests = and_parts (nat_lt 0 first.size) _ meet in
    let later_tests = and_parts (nat_lt 0 second.size) _ tests.1 in
    let last_tests = and_parts (nat_lt first.base (second.base + second.size)) _ later_tests.1 in
    let first_not_empty = ltb-true _ _ tests.0 in
    let second_not_empty = ltb-true _ _ later_tests.0 in
    let first_base_below_end_of_second = ltb-true _ _ last_tests.0 in
    let second_base_below_end_of_first = ltb-true _ _ last_tests.1 in
    elim (cases_lt first.base second.base) [
      | inl first_base_lower ↦
          let in_a = has_byte first second.base (omega arith) second_base_below_end_of_first in
          record { byte = second.base; in_a = in_a; in_b = has_byte second second.base (omega arith) (omega arith) }
      | inr second_base_not_higher ↦
          let in_b = has_byte second first.base second_base_not_higher first_base_below_end_of_second in
          record { byte = first.base; in_a = has_byte first first.base (omega arith) (omega arith); in_b = in_b }
    ]

-- two blocks meet if and only if they share a byte
pub meets_law : MeetsLaw
meets_law first second = (meets_from first second, shares_byte first second)

-- two blocks that both have a byte meet
pub meets_at : (first second : Block) (byte : ℕ) → has first byte ≡ true → has second byte ≡ true → meets first second ≡ true
meets_at first second byte in_a in_b = meets_from first second (record { byte = byte; in_a = in_a; in_b = in_b })

-- if two blocks do not meet, a byte of the first is not in the second
pub apart_at : (first second : Block) (byte : ℕ) → meets first second ≡ false → has first byte ≡ true → has second byte ≡ false
apart_at first second byte do_not_meet in_a = false_from_ne_true _ (λ in_b. both_ways _ do_not_meet (meets_at first second byte in_a in_b))

-- if two blocks do not meet, a byte of the second is not in the first
pub apart_from : (first second : Block) (byte : ℕ) → meets first second ≡ false → has second byte ≡ true → has first byte ≡ false
apart_from first second byte do_not_meet in_b = false_from_ne_true _ (λ in_a. both_ways _ do_not_meet (meets_at first second byte in_a in_b))

-- ---- the two blocks in the other order, and the empty block

-- the order of two blocks does not matter
pub meets_symmetric : (first second : Block) → meets first second ≡ meets second first
meets_symmetric first second = grind (arith, common_steps)

-- no block meets the empty block
pub meets_nothing : (first : Block) → meets first no_block ≡ false
meets_nothing first = grind (arith, common_steps)

-- the empty block meets no block
pub nothing_meets : (first : Block) → meets no_block first ≡ false
nothing_meets first = refl
