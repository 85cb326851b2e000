-- This file proves obligations of `plan_raw`, which plans a raw image of `len` bytes in a RAM of `ram_size` bytes, as one segment.
use Rattle.std.proofs.Common.{rules, Err, refl}
use Rattle.rv_elf.proofs.FirstFaults.{raw_plan_least}
use Rattle.rv_elf.proofs.PlanLemmas.{is_valid, raw_segments_have_no_fault, raw_outside}
use Rattle.rv_elf.specs.declared.elf_fault.ElfFault.TheVariants.{SegmentOutside}
use Rattle.rv_elf.proofs.planning.plan_raw.Goals as goal

-- the plan is valid (the invariant of its type): neither the segment of the raw image nor its position in memory has an error
pub invariant_of-result : goal.invariant_of-result
invariant_of-result c =
    is_valid (record {
      segments = c.occupying-segments.result.items;
      entry = c.first_address-address.result;
      image_size = c.args.len;
      ram_size = c.args.ram_size;
      monitored = c.args.monitored;
    })
    (rw (c.occupying-segments.ensures, c.first_address-address.ensures) (raw_segments_have_no_fault c.args.len c.args.monitored)) (search rules)

-- if the image is larger than the RAM, the error SegmentOutside has the smallest number of its errors (clause `least`)
pub returns-then-len-ram_size-clause-least : goal.returns-then-len-ram_size-clause-least
returns-then-len-ram_size-clause-least c =
    let is_outside = raw_outside c.args.len c.args.ram_size c.args.monitored (search rules) in
    raw_plan_least c.args.len c.args.ram_size c.args.monitored (Err SegmentOutside) (rw is_outside refl)

-- if `check_places` returns an error, it has the smallest number of the errors of the image (clause `least`)
pub returns-in_err-check_places-clause-least : goal.returns-in_err-check_places-clause-least
returns-in_err-check_places-clause-least c =
    raw_plan_least c.args.len c.args.ram_size c.args.monitored c.from_residual.result (search rules)
