-- This file proves the theorem `blocks_meet`, which states that two blocks meet if and only if they share a byte.
use Rattle.rv_memory.proofs.BlockLaws.{meets_law}
use Rattle.rv_memory.proofs.laws.blocks_meet.Goals as goal

-- two blocks meet if and only if they share a byte (`MeetsLaw`)
pub returns : goal.returns
returns c = meets_law
