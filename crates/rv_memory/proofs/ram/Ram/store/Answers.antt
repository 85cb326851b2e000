-- This file proves obligations of `Ram::store`, which stores the lowest bytes of a word at an address, little-endian, and leaves every other byte
-- unchanged (Unprivileged ISA, section 2.6).
use Rattle.std.proofs.Common.{rules}
use Rattle.rv_memory.proofs.MemoryLaws.{store_changes_only, store_read_back}
use Rattle.rv_memory.proofs.ram.Ram.store.Goals as goal

-- a store changes no byte outside the bytes of its width (`ChangesOnly`)
pub returns-clause-only : goal.returns-clause-only
returns-clause-only c = store_changes_only _ _ c.args.value c.args.width _ (search rules) c.put_number.ensures

-- after a store, a read of the same width at the same address returns the bytes of the value
pub returns-clause-read_back : goal.returns-clause-read_back
returns-clause-read_back c = store_read_back c.args.self.now _ c.args.value c.args.width _ (search rules) c.put_number.ensures
