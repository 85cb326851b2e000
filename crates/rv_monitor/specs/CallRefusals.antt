-- The reasons for which each call is refused, and the registers of its arguments. (Keystone, EuroSys 2020, in this project's profile.)
use Rattle.std.specs.Prelude.{ℕ, Bool, List, []}
use Rattle.rv_monitor.specs.Prelude.{Call, Create, Destroy, Exit, Measure, Refusal, Resume, Run, HartState, Shared, Stop, create_refusals}
use Rattle.rv_monitor.specs.Prelude.{measure_refusals, measured_slot, create_args_of, register, state_refusals}

-- the first argument of a call: register a0 (x10) of the hart
abbrev pub a0 : HartState → ℕ
a0 hart_state = register hart_state.hart.regs 10

-- the second argument of a call: register a1 (x11) of the hart
abbrev pub a1 : HartState → ℕ
a1 hart_state = register hart_state.hart.regs 11

-- the refusal table of each call; stop and exit are never refused
abbrev pub call_refusals : HartState → Shared → Call → List (Bool × Refusal)
call_refusals hart_state shared Create = create_refusals shared (create_args_of hart_state.hart.regs)
call_refusals hart_state shared Destroy = state_refusals shared.table Destroy (a0 hart_state)
call_refusals hart_state shared Run = state_refusals shared.table Run (a0 hart_state)
call_refusals hart_state shared Resume = state_refusals shared.table Resume (a0 hart_state)
call_refusals hart_state shared Measure = measure_refusals shared hart_state.hart.csrs.pmp
    (measured_slot hart_state.world (a0 hart_state)) (a1 hart_state)
call_refusals hart_state shared Stop = []
call_refusals hart_state shared Exit = []
