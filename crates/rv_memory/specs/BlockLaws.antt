-- Two blocks meet if and only if they share a byte. (A property of the definition, not a rule of a standard.)
use Rattle.std.specs.Prelude.{◌≡◌, ℕ, true}
use Rattle.rv_memory.specs.Blocks.{has, meets}
use Rattle.rv_memory.specs.declared.block.Block.{Block}

-- a byte address that is in both blocks
pub record SharesByte (first second : Block) : Type 0 where
  -- the address of the byte
  pub byte : ℕ
  -- the byte is in the first block
  pub in_a : has first byte ≡ true
  -- the byte is in the second block
  pub in_b : has second byte ≡ true

-- the test of overlap holds if and only if some byte is in both blocks
abbrev pub MeetsLaw : Type 0
MeetsLaw = (first second : Block) → (SharesByte first second → meets first second ≡ true) × (meets first second ≡ true → SharesByte first second)
