-- This file proves obligations of `Ram::write_part`, which writes bytes at an address.
use Rattle.std.proofs.Common.{refl}
use Rattle.rv_memory.proofs.MemoryLaws.{changes_only}
use Rattle.rv_memory.proofs.ram.Ram.write_part.Goals as goal

-- writing bytes at an address of RAM changes no byte outside them (`ChangesOnly`)
pub returns-clause-only : goal.returns-clause-only
returns-clause-only c = changes_only _ _ _ c.args.bytes.now _ c.requires refl c.put_bytes.ensures
