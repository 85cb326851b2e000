-- This file proves the theorem `poking`, which states that pokes into the region of an enclave preserve the equivalence of two benches except for it.
use Rattle.rv_debug.proofs.PokesAlike.{poke_law}
use Rattle.rv_debug.proofs.laws.poking.Goals as goal

-- proves the law (`PokeLaw`) that is the contract of `poking`
pub returns : goal.returns
returns c = poke_law
