-- This file proves obligations of `Ram::zero`, which writes `size` zeros at an address.
use Rattle.std.proofs.Common.{replicate}
use Rattle.std.proofs.lemmas.List.{length-replicate}
use Rattle.rv_memory.proofs.MemoryLaws.{changes_only}
use Rattle.rv_memory.proofs.ram.Ram.zero.Goals as goal

-- writing zeros changes no byte outside the `size` bytes from the address on (`ChangesOnly`)
pub returns-clause-only : goal.returns-clause-only
returns-clause-only c = changes_only _ _ _ (replicate c.args.size 0) _ c.requires (length-replicate c.args.size 0) c.put_zeros.ensures
