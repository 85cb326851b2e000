-- This file proves obligations of `plan`, which plans an ELF file in a RAM of `ram_size` bytes: its segments of type PT_LOAD that occupy memory, and
-- its entry.
use Rattle.std.proofs.Common.{◌≡◌, rules, length, None, Some, arith}
use Rattle.rv_elf.specs.Faults.{first_fault, header_faults, segment_faults}
use Rattle.rv_elf.specs.Segments.{segments_of}
use Rattle.rv_elf.proofs.FirstFaults.{file_plan_least}
use Rattle.rv_elf.proofs.PlanLemmas.{is_valid, header_fault_first, occupying_have_no_fault, place_fault_first, segment_fault_first}
use Rattle.rv_elf.proofs.planning.plan.Goals as goal

-- the plan is valid (the invariant of its type): neither the segments that occupy memory nor their positions have an error
pub invariant_of-result : goal.invariant_of-result
invariant_of-result c =
    is_valid (record {
      segments = c.occupying-segments.result.items;
      entry = c.entry_of-entry.result;
      image_size = length c.args.bytes.now;
      ram_size = c.args.ram_size;
      monitored = c.args.monitored;
    })
    (rw c.occupying-segments.ensures (occupying_have_no_fault _ _ (search rules))) (search rules)

-- if `check_segments` returns an error, it is the error of the file (clause `value`), since the header has none
pub returns-in_err-check_segments-clause-value : goal.returns-in_err-check_segments-clause-value
returns-in_err-check_segments-clause-value c =
    let file = c.args.bytes.now in
    let error = c.in_err-check_segments.field-0.0 in
    let header_has_no_fault : first_fault (header_faults file) ≡ None = search rules in
    let fault_found : first_fault (segment_faults (length file) (segments_of file)) ≡ Some error = search rules in
    let file_fault = segment_fault_first file c.args.ram_size c.args.monitored error header_has_no_fault fault_found in
    grind (arith, file_fault)

-- if `check_header` returns an error, it has the smallest number of the errors of the file (clause `least`)
pub returns-in_err-check_header-clause-least : goal.returns-in_err-check_header-clause-least
returns-in_err-check_header-clause-least c =
    let file_fault = header_fault_first c.args.bytes.now c.args.ram_size c.args.monitored c.in_err-check_header.field-0.0 (search rules) in
    file_plan_least c.args.bytes.now c.args.ram_size c.args.monitored c.from_residual.result (grind (arith, file_fault))

-- if `check_segments` returns an error, it has the smallest number of the errors of the file (clause `least`)
pub returns-in_err-check_segments-clause-least : goal.returns-in_err-check_segments-clause-least
returns-in_err-check_segments-clause-least c =
    file_plan_least c.args.bytes.now c.args.ram_size c.args.monitored c.from_residual-in_err-check_segments.result
    (returns-in_err-check_segments-clause-value c)

-- if `check_places` returns an error, it has the smallest number of the errors of the file (clause `least`)
pub returns-in_err-check_places-clause-least : goal.returns-in_err-check_places-clause-least
returns-in_err-check_places-clause-least c =
    let file_fault =
    place_fault_first c.args.bytes.now c.args.ram_size c.args.monitored c.in_err-check_places.field-0.0
    (search rules) (search rules) (search rules) in
    file_plan_least c.args.bytes.now c.args.ram_size c.args.monitored c.from_residual-in_err-check_places.result (grind (arith, file_fault))
