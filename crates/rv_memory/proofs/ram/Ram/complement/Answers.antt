-- This file proves obligations of `Ram::complement`, which complements `size` bytes from an address on: a byte b becomes 255 - b.
use Rattle.std.proofs.Common.{◌-◌}
use Rattle.rv_memory.specs.Memory.{ram_base}
use Rattle.rv_memory.proofs.Complements.{complements, length-complements, inside-index}
use Rattle.rv_memory.proofs.MemoryLaws.{changes_only}
use Rattle.rv_memory.proofs.ram.Ram.complement.Goals as goal

-- complementing changes no byte outside the `size` bytes from the address on (`ChangesOnly`)
pub returns-clause-only : goal.returns-clause-only
returns-clause-only c =
    let index = c.args.base - ram_base in
    let range_in_bounds = inside-index c.args.self.now c.args.base c.args.size c.requires in
    let has_count = length-complements c.args.self.now index c.args.size range_in_bounds in
    changes_only _ _ _ (complements c.args.self.now index c.args.size) _ c.requires has_count c.put_complements.ensures
