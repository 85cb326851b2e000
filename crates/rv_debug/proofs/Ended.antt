-- After an enclave has ended, two related benches are equal in the guest view, and so they are related for every slot. The number `slot_count` is the
-- number of no slot, so no enclave is ever live there, and every command is low for this number.
use Rattle.std.proofs.Common.{◌≡◌, ◌≢◌, ◌==◌, ℕ, true, false, List, [], ◌∷◌, Option, Some, None, refl, sym, ◌∙◌, ap, inl, inr, arith, subst}
use Rattle.std.proofs.lemmas.Nat.Bits.{bit_at_or, bit_at-pow_other}
use Rattle.std.specs.Int.{bit_at}
use Rattle.std.specs.Prelude.{◌^◌, is_some, slice_index, IfSome}
use Rattle.std.proofs.lemmas.List.{get_or_past}
use Rattle.rv_enclaves.specs.SlotNumbers.{slot_count}
use Rattle.rv_enclaves.specs.Contexts.{context_at}
use Rattle.rv_enclaves.specs.Table.{is_live, is_running, runs}
use Rattle.rv_enclaves.specs.declared.shared.Shared.{Shared}
use Rattle.rv_enclaves.specs.declared.slot_info.SlotInfo.{SlotInfo}
use Rattle.rv_monitor.specs.Declassification.{AreRelated, unswitched, SameWindow, AreMoves, Both, First, Second, Move}
use Rattle.rv_monitor.specs.GuestView.{guest_state}
use Rattle.rv_monitor.proofs.Beside.{running_is_live}
use Rattle.rv_monitor.proofs.HartCases.{outside, step_of_view}
use Rattle.rv_monitor.proofs.SchedNoninterference.{entered_by, is_entered as entered_runs}
use Rattle.rv_monitor.specs.Step.{MonitoredStepped, HartViewStepped}
use Rattle.rv_debug.specs.Prelude.{Bare, Command, HartState, Invariant, Monitored, MonitoredMachine, Scheduled, Target, count_of, enters}
use Rattle.rv_debug.specs.Prelude.{hart_state_of, Trap, hart_view, is_world_of, option_case, runs_on, slot_at, step_of, Machine, register}
use Rattle.rv_debug.specs.BothBenches.{RunsOnNoHart}
use Rattle.rv_debug.specs.Declassification.{EndedLaw, EnclaveHasEnded, TargetsAreRelated, AreRelatedForAll, BenchesAreRelated, IsSameCommand}
use Rattle.rv_debug.specs.Declassification.{StepsAreMoves, first_steps, second_steps}
use Rattle.rv_debug.specs.Noninterference.{harts_named}
use Rattle.rv_debug.specs.Steps.{slots_with}
use Rattle.rv_debug.proofs.Prelude.{BenchState, Effect, Nothing, OneByte, Register, Selected, Steps, TargetInvariant, TimerLine, both_ways}
use Rattle.rv_debug.proofs.Prelude.{cases_Bool, cases_lt, effect, entered_by as entered_by_effect, eq-eqb, execute, invariant_law, is_entered}
use Rattle.rv_debug.proofs.Prelude.{scheduled_steps, harts_stepped}
use Rattle.rv_debug.proofs.NotRunning.{on_none_in}
use Rattle.rv_debug.proofs.ScheduledSteps.{after_schedule}
use Rattle.rv_debug.specs.Targets.{machine_in}
use Rattle.rv_monitor.specs.Prelude.{Host}
use Rattle.rv_monitor.specs.EnclaveSteps.{Place, SameEnclave}
use Rattle.rv_monitor.specs.declared.outcome.Outcome.{Outcome}
use Rattle.rv_monitor.proofs.EnclaveSteps.{enclave_step}
use Rattle.rv_monitor.proofs.EnclaveMemory.{not_host, world_is_enclave}
use Rattle.rv_monitor.proofs.Exits.{exits_law}
use Rattle.rv_monitor.specs.Debugger.{with_timer}
use Rattle.rv_monitor.specs.Events.{LineOf, StepOf}
use Rattle.rv_monitor.proofs.Declassification.{declassification_law, hands_over}
use Rattle.rv_monitor.proofs.Events.{line_invariant}
use Rattle.rv_monitor.proofs.LowSteps.{window_read}
use Rattle.rv_debug.proofs.EffectsInvariant.{command_keeps_invariant}
use Rattle.rv_debug.proofs.Declassification.{declassification}
use Rattle.rv_debug.proofs.LowCommands.{low_command}

-- ---- no machine has an enclave in slot `slot_count`, which is past the last slot

-- the table has no record at index `slot_count`, which is past the last slot
no_slot_at_count : (machine : MonitoredMachine) → Invariant machine → slot_at machine.shared.table slot_count ≡ None
no_slot_at_count machine invariant =
    let table_size = invariant.shared.valid.count in
    get_or_past {X = Option SlotInfo} machine.shared.table slot_count None (omega (arith, table_size))

-- no hart runs an enclave of slot `slot_count`, which is past the last slot
runs_on_no_hart : (machine : MonitoredMachine) → Invariant machine → (hart : ℕ) → runs_on slot_count hart machine ≡ false
runs_on_no_hart machine invariant hart = elim (cases_Bool (runs_on slot_count hart machine)) [
  | inr not_on_hart ↦ not_on_hart
  | inl on_hart ↦
      let not_live : is_live machine.shared.table slot_count ≡ false =
      ap (λ (maybe_info : Option SlotInfo). is_some maybe_info) (no_slot_at_count machine invariant) in
      absurd (both_ways _ not_live (running_is_live slot_count hart machine invariant on_hart))
]

-- no step enters slot `slot_count`, which is past the last slot
step_never_enters : (hart : ℕ) (machine : MonitoredMachine) → Invariant machine → enters slot_count (step_of hart machine).outcome.entered ≡ false
step_never_enters hart machine invariant =
    entered_by slot_count (step_of hart machine).outcome.entered (λ entered_is. elim (cases_lt hart (count_of machine)) [
      -- the hart is not a hart of the machine: the step does nothing
      | inr out_of_range ↦
          let enters_nothing : None ≡ Some slot_count =
          sym (ap (λ (after : MonitoredStepped). after.outcome.entered) (outside hart machine out_of_range))
          ∙ entered_is in cc
      -- the hart exists: after a step that enters the slot, its enclave would run on the hart
      | inl in_range ↦
          let step_in_view = step_of_view hart machine in_range in
          let runs_in_view =
          entered_runs slot_count (hart_view hart machine) (sym (ap (λ (after : HartViewStepped). after.outcome.entered) step_in_view)
          ∙ entered_is) in
          let runs = ap (λ (after : HartViewStepped). is_world_of slot_count after.state.hart_state.world) step_in_view ∙ runs_in_view in
          both_ways _ (runs_on_no_hart (step_of hart machine).state (invariant_law hart machine invariant) hart) runs
    ])

-- ---- no command enters slot `slot_count`, which is past the last slot

-- if `slot_count` is not among the entered slots before a step that does not enter it, then it is not among them after the step
stays_unentered : (slots : ℕ) (maybe_entered : Option ℕ) → enters slot_count maybe_entered ≡ false
    → is_entered slot_count slots ≡ false → is_entered slot_count (slots_with slots maybe_entered) ≡ false
stays_unentered slots None does_not_enter not_entered = not_entered
stays_unentered slots (Some entered) does_not_enter not_entered =
    let other_slot : slot_count ≢ entered = λ same_slot. both_ways _ does_not_enter (eq-eqb entered slot_count (sym same_slot)) in
    let bit_is_clear = bit_at-pow_other entered slot_count other_slot in
    let same_bit : bit_at (slots_with slots (Some entered)) slot_count ≡ bit_at slots slot_count =
    bit_at_or slots (2 ^ entered) slot_count ∙ omega (arith, bit_is_clear) in
    ap (λ (bit : ℕ). bit == 1) same_bit ∙ not_entered

-- no step of a schedule enters slot `slot_count`, which is past the last slot
schedule_never_enters : (harts : List ℕ) (machine : Selected) (summary : Scheduled)
    → Invariant machine.state → is_entered slot_count summary.entered ≡ false
    → is_entered slot_count (scheduled_steps harts (after_schedule (Monitored machine) summary)).did.entered ≡ false
unfolding scheduled_steps
schedule_never_enters [] machine summary invariant not_entered = not_entered
schedule_never_enters (hart ∷ harts) machine summary invariant not_entered =
    let after = step_of hart machine.state in
    schedule_never_enters harts (record { hart = hart; state = after.state }) _ (invariant_law hart machine.state invariant)
    (stays_unentered summary.entered after.outcome.entered (step_never_enters hart machine.state invariant) not_entered)

-- no step of a bare machine enters slot `slot_count`, which is past the last slot
bare_schedule_never_enters : (harts : List ℕ) (machine : Machine) (summary : Scheduled) → is_entered slot_count summary.entered ≡ false
    → is_entered slot_count (scheduled_steps harts (after_schedule (Bare machine) summary)).did.entered ≡ false
unfolding scheduled_steps
bare_schedule_never_enters [] machine summary not_entered = not_entered
bare_schedule_never_enters (hart ∷ harts) machine summary not_entered = bare_schedule_never_enters harts _ _ not_entered

-- no effect of a command enters slot `slot_count`, which is past the last slot
effect_never_enters : (target : Target) (change : Effect) → TargetInvariant target → is_entered slot_count (entered_by_effect target change) ≡ false
effect_never_enters (Bare machine) (Steps harts selected) invariant = bare_schedule_never_enters harts machine _ refl
effect_never_enters (Monitored machine) (Steps harts selected) invariant = schedule_never_enters harts machine _ invariant refl
effect_never_enters target Nothing invariant = refl
effect_never_enters target (Register number value) invariant = refl
effect_never_enters target (TimerLine raised) invariant = refl
effect_never_enters target (OneByte address byte) invariant = refl

-- no hart of a target runs an enclave of slot `slot_count`, which is past the last slot
on_no_hart_of_target : (target : Target) → TargetInvariant target → RunsOnNoHart slot_count target
on_no_hart_of_target (Bare machine) invariant = tt
on_no_hart_of_target (Monitored machine) invariant = runs_on_no_hart machine.state invariant

-- no command enters slot `slot_count`, which is past the last slot
command_never_enters : (bench : BenchState) (command : Command) → TargetInvariant bench.target
    → is_entered slot_count (execute bench command).entered ≡ false
unfolding execute
command_never_enters bench command invariant = effect_never_enters bench.target (effect bench command) invariant

-- the windows of slot `slot_count` are equal in two targets while its enclave runs: it never runs, since the number is past the last slot
windows_equal : (target other_target : Target) → TargetInvariant target → IfSome (machine_in target)
    (λ one. IfSome (machine_in other_target) (λ other. runs one.shared.table slot_count ≡ true → SameWindow slot_count one other))
windows_equal (Bare machine) other_target invariant = tt
windows_equal (Monitored machine) (Bare other) invariant = tt
windows_equal (Monitored machine) (Monitored other) invariant =
    λ running.
    let not_running : runs machine.state.shared.table slot_count ≡ false =
    ap (λ (maybe_info : Option SlotInfo). option_case maybe_info false (λ info. is_running info.state))
    (no_slot_at_count machine.state invariant) in
    absurd (both_ways _ not_running running)

-- ---- two machines that are equal in the guest view are related for every slot

-- two related machines in which `enclave` has ended
module _ (enclave slot : ℕ) (one other : MonitoredMachine) (invariant : Invariant one) (related : AreRelated enclave one other)
    (has_ended : is_live one.shared.table enclave ≡ false) where
  -- after the enclave has ended, the shared states are equal
  same_shared : one.shared ≡ other.shared
  same_shared = related.gone has_ended

  -- after the enclave has ended, the guest states of the harts are equal
  same_guest_state : (hart : ℕ) → guest_state (hart_state_of hart one) ≡ guest_state (hart_state_of hart other)
  same_guest_state hart = elim (cases_Bool (runs_on enclave hart one)) [
    | inr not_on_hart ↦ (related.hart_states hart).same not_on_hart
    | inl on_hart ↦ absurd (both_ways _ has_ended (running_is_live enclave hart one invariant on_hart))
  ]

  -- after the enclave has ended, the machines are related for every slot
  machines_related : AreRelated slot one other
  machines_related = record {
    harts = related.harts;
    hart_states =
        λ hart. record {
          world = ap (λ (hart_state : HartState). hart_state.world) (same_guest_state hart);
          same = λ not_on_hart. same_guest_state hart;
        };
    hosts = λ hart on_hart. record {
      host = ap (λ (hart_state : HartState). hart_state.host_context) (same_guest_state hart);
      rest = ap (λ (hart_state : HartState). unswitched hart_state.hart.csrs) (same_guest_state hart);
    };
    table = related.table;
    memory = record { size = related.memory.size; bytes = λ index not_hidden. ap (λ (shared : Shared). slice_index shared.memory index) same_shared };
    contexts =
        record {
          size = related.contexts.size;
          others = λ saved_slot is_other. ap (λ (shared : Shared). context_at shared.contexts saved_slot) same_shared;
        };
    gone = λ not_live. same_shared;
  }

-- after the enclave has ended, the targets are related for every slot
targets_related : (enclave slot : ℕ) (one other : Target) → TargetInvariant one → TargetsAreRelated enclave one other
    → EnclaveHasEnded enclave one → TargetsAreRelated slot one other
targets_related enclave slot (Bare one) (Bare other) invariant related has_ended = related
targets_related enclave slot (Monitored one) (Monitored other) invariant related has_ended =
    record { hart = related.hart; state = machines_related enclave slot one.state other.state invariant related.state has_ended }
targets_related enclave slot _ _ invariant related has_ended = absurd related

-- the enclave of slot `slot_count` has ended in each target, since it is never live
ended_in_target : (target : Target) → TargetInvariant target → EnclaveHasEnded slot_count target
ended_in_target (Bare machine) invariant = tt
ended_in_target (Monitored machine) invariant = ap (λ (maybe_info : Option SlotInfo). is_some maybe_info) (no_slot_at_count machine.state invariant)

-- after the enclave has ended, the benches are related for every slot
ended_for_all : (enclave : ℕ) (bench other_bench : BenchState) → TargetInvariant bench.target → BenchesAreRelated enclave bench other_bench
    → EnclaveHasEnded enclave bench.target
    → AreRelatedForAll bench other_bench
ended_for_all enclave bench other_bench invariant related ended slot =
    record {
      target = targets_related enclave slot bench.target other_bench.target invariant related.target ended;
      breaks = related.breaks;
      watches = related.watches;
    }

-- ---- the same steps in both machines are moves

-- the next step of the hart traps, and the host runs on the hart after it
record ExitsNow (hart : ℕ) (machine : MonitoredMachine) : Type 0 where
  trap : Trap
  trap_is : (step_of hart machine).outcome.step.trap ≡ Some trap
  host_runs_after : (hart_state_of hart (step_of hart machine).state).world ≡ Host

-- `enclave` runs on the hart before a step of it, and not after the step
module _ (enclave hart : ℕ) (machine : MonitoredMachine) (invariant : Invariant machine) (on_hart : runs_on enclave hart machine ≡ true)
    (has_left : runs_on enclave hart (step_of hart machine).state ≡ false) where
  -- an exit leaves the host on the hart
  exits_to_host : (hart_state_of hart (step_of hart machine).state).world ≡ Host
  exits_to_host =
      let place : Place = record { slot = enclave; hart = hart } in
      let same_enclave : SameEnclave place place machine machine =
      record { first = on_hart; second = on_hart; hart = refl; slot = refl; memory = record { size = refl; bytes = λ index not_hidden. refl } } in
      ((enclave_step place place machine machine invariant invariant same_enclave).state.exits has_left).first.world

  -- a step of the enclave after which the host runs is an exit by a trap, where `maybe_trap` is the trap of the step
  exits_by_trap : (maybe_trap : Option Trap) → (step_of hart machine).outcome.step.trap ≡ maybe_trap → ExitsNow hart machine
  exits_by_trap (Some trap) step_traps = record { trap = trap; trap_is = step_traps; host_runs_after = exits_to_host }
  exits_by_trap None no_trap =
      let runs_enclave = world_is_enclave enclave (hart_state_of hart machine).world on_hart in
      not_host _ enclave _ ((exits_law hart machine invariant enclave runs_enclave).quiet no_trap) exits_to_host

  -- the enclave exits in its next step
  exits_now : ExitsNow hart machine
  exits_now = exits_by_trap (step_of hart machine).outcome.step.trap refl

-- Equal steps of two machines that are related for slot `slot_count` are moves, for each `enclave`. A step on a hart that does not run the enclave is
-- a low step of both machines. A step after which the enclave runs on is a move of each machine, and any other step is an exit from both.
guest_moves : (enclave : ℕ) (harts : List ℕ) (one other : MonitoredMachine) → Invariant one → Invariant other → AreRelated slot_count one other
    → StepsAreMoves enclave one other harts harts
guest_moves enclave [] one other invariant other_invariant related = record { moves = []; steps = refl; first = refl; second = refl; are = tt }
guest_moves enclave (hart ∷ harts) one other invariant other_invariant related =
    -- the shared states are equal, and so are the guest views of the hart
    let on_no_hart = runs_on_no_hart one invariant hart in
    let same_guest = (related.hart_states hart).same on_no_hart in
    let same_shared = related.gone (ap (λ (maybe_info : Option SlotInfo). is_some maybe_info) (no_slot_at_count one invariant)) in
    let window : (slot : ℕ) → SameWindow slot one other = λ slot.
    record { size = related.memory.size; bytes = λ index not_hidden. ap (λ (shared : Shared). slice_index shared.memory index) same_shared } in
    -- the step is low for slot `slot_count` in both machines, so they are related again after it
    let alike_after = declassification_law slot_count (Both (StepOf hart) ∷ []) one other invariant other_invariant related
    (inl (record { low = on_no_hart; window = λ running. window_read slot_count hart one other (window slot_count) }), tt) in
    let (same_outcomes_if_low, _) = alike_after.outcomes in
    let rest_moves = guest_moves enclave harts (step_of hart one).state (step_of hart other).state (invariant_law hart one invariant)
    (invariant_law hart other other_invariant) alike_after.state in
    let first_harts = ap (λ (later_harts : List ℕ). hart ∷ later_harts) rest_moves.first in
    let second_harts = ap (λ (later_harts : List ℕ). hart ∷ later_harts) rest_moves.second in
    let same_before = ap (is_world_of enclave) (sym (related.hart_states hart).world) in
    let same_after = ap (is_world_of enclave) (sym (alike_after.state.hart_states hart).world) in
    elim (cases_Bool (runs_on enclave hart one)) [
      -- `enclave` does not run on the hart: the step is a low step of both machines
      | inr not_on_hart ↦ record {
        moves = Both (StepOf hart) ∷ rest_moves.moves;
        steps = rest_moves.steps;
        first = first_harts;
        second = second_harts;
        are = (inl (record { low = not_on_hart; window = λ running. window_read enclave hart one other (window enclave) }), rest_moves.are);
      }
      | inl on_hart ↦ elim (cases_Bool (runs_on enclave hart (step_of hart one).state)) [
        -- `enclave` runs on: the step is a move of each machine
        | inl still_on_hart ↦ record {
          moves = First hart ∷ Second hart ∷ rest_moves.moves;
          steps = rest_moves.steps;
          first = first_harts;
          second = second_harts;
          are = (
            record { before = on_hart; after = still_on_hart },
            (record { before = same_before ∙ on_hart; after = same_after ∙ still_on_hart }, rest_moves.are),
          );
        }
        -- `enclave` has left the hart: the step is an exit from both machines, with equal a0 and a6
        | inr has_left ↦
            let exit = exits_now enclave hart one invariant on_hart has_left in
            record {
              moves = Both (StepOf hart) ∷ rest_moves.moves;
              steps = rest_moves.steps;
              first = first_harts;
              second = second_harts;
              are = (
                inr (record {
                  runs = on_hart;
                  window = window enclave;
                  handover = hands_over exit.trap.cause _ _ (record {
                    a0 = ap (λ (hart_state : HartState). register hart_state.hart.regs 10) same_guest;
                    a6 = ap (λ (hart_state : HartState). register hart_state.hart.regs 16) same_guest;
                  });
                  trap = exit.trap;
                  first = exit.trap_is;
                  second = sym (ap (λ (outcome : Outcome). outcome.step.trap) (same_outcomes_if_low on_no_hart)) ∙ exit.trap_is;
                  first_exits = exit.host_runs_after;
                  second_exits = sym (alike_after.state.hart_states hart).world ∙ exit.host_runs_after;
                }),
                rest_moves.are,
              );
            }
      ]
    ]

-- the moves of two machines for slot `slot_count` are steps of both, so both machines step the same harts
steps_of_both : (moves : List Move) (one other : MonitoredMachine) → Invariant one → Invariant other → AreMoves slot_count moves one other
    → first_steps moves ≡ second_steps moves
steps_of_both [] one other invariant other_invariant permitted = refl
steps_of_both (First hart ∷ moves) one other invariant other_invariant (permitted, rest_permitted) =
    absurd (both_ways _ (runs_on_no_hart one invariant hart) permitted.before)
steps_of_both (Second hart ∷ moves) one other invariant other_invariant (permitted, rest_permitted) =
    absurd (both_ways _ (runs_on_no_hart other other_invariant hart) permitted.before)
steps_of_both (Both (LineOf hart raised) ∷ moves) one other invariant other_invariant (permitted, rest_permitted) =
    steps_of_both moves (with_timer hart one raised) (with_timer hart other raised) (line_invariant hart raised one invariant)
    (line_invariant hart raised other other_invariant) rest_permitted
steps_of_both (Both (StepOf hart) ∷ moves) one other invariant other_invariant (permitted, rest_permitted) =
    ap (λ (later_harts : List ℕ). hart ∷ later_harts)
    (steps_of_both moves (step_of hart one).state (step_of hart other).state (invariant_law hart one invariant)
    (invariant_law hart other other_invariant) rest_permitted)

-- steps of two related targets that are moves for slot `slot_count` are moves for every `enclave`
moves_for_each_slot : (enclave : ℕ) (one other : Target) (harts other_harts : List ℕ)
    → TargetInvariant one → TargetInvariant other → TargetsAreRelated slot_count one other → IfSome (machine_in one)
    (λ one_machine. IfSome (machine_in other) (λ other_machine. StepsAreMoves slot_count one_machine other_machine harts other_harts))
    → IfSome (machine_in one) (λ one_machine. IfSome (machine_in other)
    (λ other_machine. StepsAreMoves enclave one_machine other_machine harts other_harts))
moves_for_each_slot enclave (Bare one) other harts other_harts invariant other_invariant related steps = tt
moves_for_each_slot enclave (Monitored one) (Bare other) harts other_harts invariant other_invariant related steps = tt
moves_for_each_slot enclave (Monitored one) (Monitored other) harts other_harts invariant other_invariant related steps =
    let same_harts = sym steps.first ∙ steps_of_both steps.moves one.state other.state invariant other_invariant steps.are ∙ steps.second in
    subst (StepsAreMoves enclave one.state other.state harts) same_harts
    (guest_moves enclave harts one.state other.state invariant other_invariant related.state)

-- A command that two benches execute satisfies the condition on its steps for every slot, if they are related for every slot. The command is low
-- for slot `slot_count`.
same_command : (slot : ℕ) (bench other_bench : BenchState) (command : Command) → TargetInvariant bench.target → TargetInvariant other_bench.target
    → AreRelatedForAll bench other_bench → IsSameCommand slot bench other_bench command command
same_command slot bench other_bench command invariant other_invariant related =
    let low = low_command slot_count bench other_bench command invariant other_invariant (related slot_count)
    (windows_equal bench.target other_bench.target invariant)
    (on_none_in slot_count (harts_named bench.target command) bench.target (on_no_hart_of_target bench.target invariant))
    (command_never_enters bench command invariant) in
    record {
      same = refl;
      steps = moves_for_each_slot slot bench.target other_bench.target (harts_stepped (effect bench command))
          (harts_stepped (effect other_bench command)) invariant other_invariant (related slot_count).target low.same.steps;
      stop = low.same.stop;
    }

-- proves what commands observe after the enclave of the slot was destroyed
pub ended_law : EndedLaw
ended_law = record {
  ended = ended_for_all;
  same = same_command;
  again = λ bench other_bench command invariant other_invariant related.
      let none_related = declassification slot_count bench other_bench command command invariant other_invariant (related slot_count)
      (inl (inl (same_command slot_count bench other_bench command invariant other_invariant related))) in
      ended_for_all slot_count (execute bench command).state (execute other_bench command).state
      (command_keeps_invariant bench command invariant) none_related.state
      (ended_in_target (execute bench command).state.target (command_keeps_invariant bench command invariant));
}
