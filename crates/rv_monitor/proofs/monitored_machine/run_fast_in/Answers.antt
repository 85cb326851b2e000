-- The proof obligations of `run_fast_in` (src/monitored_machine.rt).
use Rattle.std.proofs.Common.{◌≡◌, length, rules}
use Rattle.std.specs.Prelude.{slice_index_or}
use Rattle.rv_monitor.specs.declared.hart_state.TheConstants.{HARTS}
use Rattle.rv_monitor.specs.Prelude.{HartState, Machine}
use Rattle.rv_monitor.proofs.Held.{fast_steps_of_element, fast_steps_preserve_invariant, represented_hart_state}
use Rattle.rv_monitor.proofs.monitored_machine.run_fast_in.Goals as goal

-- `run_fast_in` meets clause `steps` of its contract (`FastSteps`)
pub returns-clause-steps : goal.returns-clause-steps
returns-clause-steps c =
    let state_array = c.args.by_hart.now in
    let hart_state : HartState = slice_index_or state_array c.args.hart c.index-by_hart-hart.result in
    let array_length : length state_array ≡ HARTS = search rules in
    -- the array element at the hart number is the state of the hart
    let element_is =
    represented_hart_state state_array c.args.harts c.args.hart c.index-by_hart-hart.result array_length c.requires.has c.requires.few in
    let after : Machine = record { hart = c.run_fast.new.hart; memory = c.run_fast.new.ram } in
    -- the fast steps of the bare machine (`steps`) are fast steps of the machine that the array represents
    fast_steps_of_element state_array c.args.harts c.args.hart c.args.shared.now hart_state array_length c.requires.has c.requires.few element_is
    after c.args.limits.now c.run_fast.result c.run_fast.ensures.steps

-- `run_fast_in` meets clause `kept` of its contract (`FullInvariant`)
pub returns-clause-kept : goal.returns-clause-kept
returns-clause-kept c =
    let state_array = c.args.by_hart.now in
    let hart_state : HartState = slice_index_or state_array c.args.hart c.index-by_hart-hart.result in
    let array_length : length state_array ≡ HARTS = search rules in
    -- the array element at the hart number is the state of the hart
    let element_is =
    represented_hart_state state_array c.args.harts c.args.hart c.index-by_hart-hart.result array_length c.requires.has c.requires.few in
    let after : Machine = record { hart = c.run_fast.new.hart; memory = c.run_fast.new.ram } in
    -- fast steps preserve the full invariant, which the machine has before them (premise `kept`)
    fast_steps_preserve_invariant state_array c.args.harts c.args.hart c.args.shared.now hart_state array_length c.requires.has c.requires.few
    element_is after c.args.limits.now c.run_fast.result c.run_fast.ensures.steps c.requires.kept
