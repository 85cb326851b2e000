-- The steps of an enclave are the same under two lists of commands, by the law of one event or step, and by the debugger's writes.
use Rattle.std.proofs.Common.{◌≡◌, ℕ, ◌+◌, ◌-◌, ◌≤◌, true, false, List, [], ◌∷◌, length, Option, Some, None, IfSome, refl, sym, ◌∙◌, ap, subst, inl}
use Rattle.std.proofs.Common.{inr, arith}
use Rattle.std.specs.Prelude.{IsSomeAnd, not, slice_index}
use Rattle.std.specs.Option.{option_map}
use Rattle.rv_enclaves.specs.Table.{region_of}
use Rattle.rv_enclaves.specs.declared.context.Context.{Context}
use Rattle.rv_enclaves.specs.declared.slot_info.SlotInfo.{SlotInfo}
use Rattle.rv_state.specs.Bits.{aligned_to_4}
use Rattle.rv_enclaves.specs.Contexts.{IsLegal}
use Rattle.rv_state.specs.SContexts.{s_context}
use Rattle.rv_monitor.specs.Events.{StepOf}
use Rattle.rv_monitor.specs.LegalMachine.{IsLegalMachine}
use Rattle.rv_monitor.specs.Life.{AreAtOnePoint, ContinuesWith, InFirst as LifeInFirst, InSecond as LifeInSecond, IsLifeMove, LifeMove, LiveAlike}
use Rattle.rv_monitor.specs.Life.{Own}
use Rattle.rv_monitor.specs.Records.{identity_at, identity_of}
use Rattle.rv_monitor.specs.SwitchLaws.{continuation}
use Rattle.rv_monitor.proofs.Events.{event_invariant}
use Rattle.rv_monitor.proofs.LegalMachine.{event_stored}
use Rattle.rv_monitor.proofs.Life.{life_law}
use Rattle.rv_debug.specs.Prelude.{Bare, Block, Command, HartState, Invariant, Monitored, MonitoredMachine, Slots, Target, has, hart_state_at_start}
use Rattle.rv_debug.specs.Prelude.{hart_state_of, is_live, is_world_of, option_case, ram_base, reg_set, region, runs_on, slot_at, step_of}
use Rattle.rv_debug.specs.Prelude.{with_memory, with_reg, with_register, write}
use Rattle.rv_debug.specs.CommandEvents.{Action, Occurs, SetsByte, SetsRegister, actions_by, actions_of, after_action, after_actions}
use Rattle.rv_debug.specs.HostInfluence.{AreBenchMoves, BenchMove, EnclaveStepsAreSame, HasSameLife, HostInfluenceLaw, InBoth, InFirst, InSecond}
use Rattle.rv_debug.specs.HostInfluence.{IsForeignAction, IsLegalTarget, IsSameLife, first_actions, second_actions}
use Rattle.rv_debug.proofs.Prelude.{BenchState, Effect, TargetInvariant, after_commands, both_ways, cases_eq, cases_lt, done, effect, execute}
use Rattle.rv_debug.proofs.Prelude.{get_or-set_other, change_preserves, index-above, index-below, invariant_by_size, length-write, machine_in, write-is}
use Rattle.rv_debug.proofs.Prelude.{written_invariant}
use Rattle.rv_debug.proofs.CommandEvents.{acts, effect_acts}
use Rattle.rv_debug.proofs.EffectsInvariant.{effect_stays_bare}
use Rattle.rv_debug.proofs.ScheduledSteps.{bare_target}

-- ---- a machine whose state is valid

-- the machine has the invariant, and is legal
record IsSound (machine : MonitoredMachine) : Type 0 where
  invariant : Invariant machine
  legal : IsLegalMachine machine

-- Case analysis of a write of a byte: a property holds after the action, if it holds of the unchanged machine and after each write that succeeds.
write_cases : (P : MonitoredMachine → Type 0) (machine : MonitoredMachine) (address byte : ℕ) → P machine
    → ((memory : List ℕ) → write machine.shared.memory address (byte ∷ []) ≡ Some memory → P (with_memory machine memory))
    → P (after_action (SetsByte address byte) machine)
write_cases P machine address byte holds_unchanged holds_after_write = result_cases (write machine.shared.memory address (byte ∷ [])) refl where
  -- the property holds whether the write succeeds with a new memory, or fails
  result_cases : (result : Option (List ℕ)) → write machine.shared.memory address (byte ∷ []) ≡ result
      → P (option_case result machine (with_memory machine))
  result_cases None write_is = holds_unchanged
  result_cases (Some memory) write_is = holds_after_write memory write_is

-- an action preserves the invariant and the legality of a machine
action_sound : (action : Action) (machine : MonitoredMachine) → IsSound machine → IsSound (after_action action machine)
action_sound (Occurs event) machine sound =
    record { invariant = event_invariant event machine sound.invariant; legal = event_stored event machine sound.invariant sound.legal }
-- a write of a register changes neither a pc nor an S-mode register
action_sound (SetsRegister hart number value) machine sound =
    let own_hart = (hart_state_of hart machine).hart in
    record {
      invariant = written_invariant hart (with_register own_hart.regs number value) own_hart.csrs.timer machine sound.invariant;
      legal = record {
        harts = λ any_hart.
            let pc =
            change_preserves (λ (hart_state : HartState). hart_state.hart.pc) (reg_set number value) (λ hart_state. refl) hart any_hart machine in
            let supervisor =
            change_preserves (λ (hart_state : HartState). s_context hart_state.hart.csrs) (reg_set number value)
            (λ hart_state. refl) hart any_hart machine in
            record {
              pc = ap aligned_to_4 pc ∙ (sound.legal.harts any_hart).pc ∙ sym pc;
              supervisor = subst IsLegal (sym supervisor) (sound.legal.harts any_hart).supervisor;
            };
        contexts = sound.legal.contexts;
      };
    }
-- a write of a byte keeps the size of the memory
action_sound (SetsByte address byte) machine sound =
    write_cases IsSound machine address byte sound (λ memory written. record {
      invariant = invariant_by_size machine memory sound.invariant (sym (length-write machine.shared.memory address (byte ∷ []) memory written));
      legal = record { harts = sound.legal.harts; contexts = sound.legal.contexts };
    })

-- a list of actions preserves the invariant and the legality of a machine
actions_sound : (actions : List Action) (machine : MonitoredMachine) → IsSound machine → IsSound (after_actions actions machine)
actions_sound [] machine sound = sound
actions_sound (action ∷ actions) machine sound = actions_sound actions (after_action action machine) (action_sound action machine sound)

-- ---- what the debugger's writes leave

-- the enclave in `slot` continues with the same context, and its table, the size of the memory and the bytes of its region are unchanged
record EnclaveStays (slot : ℕ) (context : Context) (before after : MonitoredMachine) : Type 0 where
  continues : ContinuesWith slot context after
  same_table : after.shared.table ≡ before.shared.table
  same_size : length after.shared.memory ≡ length before.shared.memory
  same_bytes : (index : ℕ) → not (has (region before.shared.table slot) (ram_base + index)) ≡ false
      → slice_index after.shared.memory index ≡ slice_index before.shared.memory index

-- a write of a register of a hart that does not run the enclave leaves the enclave as it is
register_stays : (slot hart number value : ℕ) (context : Context) (machine : MonitoredMachine) → ContinuesWith slot context machine
    → runs_on slot hart machine ≡ false → EnclaveStays slot context machine (with_reg hart machine number value)
register_stays slot hart number value context machine continues not_on_hart =
    let same_world : (any_hart : ℕ) → runs_on slot any_hart (with_reg hart machine number value) ≡ runs_on slot any_hart machine = λ any_hart.
    change_preserves (λ (hart_state : HartState). is_world_of slot hart_state.world) (reg_set number value)
    (λ hart_state. refl) hart any_hart machine in
    record {
      continues = record {
        running = λ any_hart runs. elim (cases_eq any_hart hart) [
          -- the enclave does not run on the written hart
          | inl is_written_hart ↦
              absurd (both_ways _ not_on_hart
              (ap (λ (hart_number : ℕ). runs_on slot hart_number machine) (sym is_written_hart) ∙ sym (same_world any_hart) ∙ runs))
          -- the state of any other hart is unchanged
          | inr is_other_hart ↦ ap (λ (hart_state : HartState). continuation hart_state.hart)
              (get_or-set_other machine.hart_states hart any_hart (reg_set number value (hart_state_of hart machine))
              (hart_state_at_start 0) is_other_hart)
              ∙ continues.running any_hart (sym (same_world any_hart) ∙ runs)
        ];
        resting = continues.resting;
      };
      same_table = refl;
      same_size = refl;
      same_bytes = λ index in_region. refl;
    }

-- a write of a byte outside the region leaves the enclave as it is
byte_stays : (slot address byte : ℕ) (context : Context) (machine : MonitoredMachine) → ContinuesWith slot context machine
    → has (region machine.shared.table slot) address ≡ false → EnclaveStays slot context machine (after_action (SetsByte address byte) machine)
byte_stays slot address byte context machine continues outside_region =
    write_cases (EnclaveStays slot context machine) machine address byte
    (record { continues = continues; same_table = refl; same_size = refl; same_bytes = λ byte_index in_region. refl }) (λ memory written.
    let old = machine.shared.memory in
    let (from_ram_base, before_ram_end, written_memory_is) = write-is old address (byte ∷ []) memory written in
    let index = address - ram_base in
    let within_memory : index + 1 ≤ length old = omega (arith, from_ram_base, before_ram_end) in
    record {
      continues = record { running = continues.running; resting = continues.resting };
      same_table = refl;
      same_size = length-write old address (byte ∷ []) memory written;
      same_bytes = λ byte_index in_region. rw written_memory_is (elim (cases_lt byte_index index) [
        -- a byte below the written byte is unchanged
        | inl below_byte ↦ index-below old index (byte ∷ []) byte_index within_memory below_byte
        | inr not_below_byte ↦ elim (cases_lt byte_index (index + 1)) [
          -- the written byte is outside the region
          | inl is_byte ↦
              let byte_address : ram_base + byte_index ≡ address = omega (arith, from_ram_base) in
              let contradiction : true ≡ false =
              sym (ap not (ap (has (region machine.shared.table slot)) byte_address ∙ outside_region)) ∙ in_region in
              cc
          -- a byte above the written byte is unchanged
          | inr above_byte ↦ index-above old index (byte ∷ []) byte_index within_memory above_byte
        ]
      ]);
    })

-- ---- two enclaves stay at one point

-- the region of an enclave is part of its identity
identity_has_region : (maybe_info : Option SlotInfo) → region_of (option_map identity_of maybe_info) ≡ region_of maybe_info
identity_has_region None = refl
identity_has_region (Some info) = refl

-- the slot `enclave` of the machine `one` and the slot `other_enclave` of `other` have enclaves that are at one point of their lives
module _ (enclave other_enclave : ℕ) (one other : MonitoredMachine) (point : AreAtOnePoint enclave other_enclave one other) where
  -- if the enclave stays as it is in the first machine, both enclaves are at one point again
  first_unchanged : (after : MonitoredMachine) → EnclaveStays enclave point.context one after → AreAtOnePoint enclave other_enclave after other
  first_unchanged after stays = record {
    context = point.context;
    first = stays.continues;
    second = point.second;
    live = ap (λ (table : Slots). is_live table enclave) stays.same_table ∙ point.live;
    identity = ap (λ (table : Slots). identity_at table enclave) stays.same_table ∙ point.identity;
    memory = record {
      size = stays.same_size ∙ point.memory.size;
      bytes = λ index not_hidden.
          let in_region = ap (λ (table : Slots). not (has (region table enclave) (ram_base + index))) (sym stays.same_table) ∙ not_hidden in
          stays.same_bytes index in_region ∙ point.memory.bytes index in_region;
    };
  }

  -- the two enclaves have equal regions
  same_region : region one.shared.table enclave ≡ region other.shared.table other_enclave
  same_region =
      sym (identity_has_region (slot_at one.shared.table enclave)) ∙ ap region_of point.identity
      ∙ identity_has_region (slot_at other.shared.table other_enclave)

  -- if the enclave stays as it is in the second machine, both enclaves are at one point again
  second_unchanged : (after : MonitoredMachine) → EnclaveStays other_enclave point.context other after → AreAtOnePoint enclave other_enclave one after
  second_unchanged after stays = record {
    context = point.context;
    first = point.first;
    second = stays.continues;
    live = point.live;
    identity = point.identity ∙ ap (λ (table : Slots). identity_at table other_enclave) (sym stays.same_table);
    memory = record {
      size = point.memory.size ∙ sym stays.same_size;
      bytes = λ index not_hidden.
          point.memory.bytes index not_hidden
          ∙ sym (stays.same_bytes index (ap (λ (block : Block). not (has block (ram_base + index))) (sym same_region) ∙ not_hidden));
    };
  }

  module _ (one_sound : IsSound one) (other_sound : IsSound other) where
    -- after one move of two lives, the enclaves make equal steps and are at one point again
    one_move : (move : LifeMove) → IsLifeMove enclave other_enclave move one other → LiveAlike enclave other_enclave (move ∷ []) one other
    one_move move permitted =
        life_law enclave other_enclave (move ∷ []) one other one_sound.invariant other_sound.invariant one_sound.legal other_sound.legal point
        (permitted, tt)

    -- a foreign action of the first machine leaves both enclaves at one point
    foreign_in_first : (action : Action) → IsForeignAction enclave action one → AreAtOnePoint enclave other_enclave (after_action action one) other
    foreign_in_first (Occurs event) foreign = (one_move (LifeInFirst event) foreign).point
    foreign_in_first (SetsRegister hart number value) not_on_hart =
        first_unchanged _ (register_stays enclave hart number value point.context one point.first not_on_hart)
    foreign_in_first (SetsByte address byte) outside_region =
        first_unchanged _ (byte_stays enclave address byte point.context one point.first outside_region)

    -- a foreign action of the second machine leaves both enclaves at one point
    foreign_in_second : (action : Action) → IsForeignAction other_enclave action other
        → AreAtOnePoint enclave other_enclave one (after_action action other)
    foreign_in_second (Occurs event) foreign = (one_move (LifeInSecond event) foreign).point
    foreign_in_second (SetsRegister hart number value) not_on_hart =
        second_unchanged _ (register_stays other_enclave hart number value point.context other point.second not_on_hart)
    foreign_in_second (SetsByte address byte) outside_region =
        second_unchanged _ (byte_stays other_enclave address byte point.context other point.second outside_region)

-- ---- moves

-- the steps of the two enclaves are equal, and the enclaves are at one point of their lives after the moves
record MovedAlike (enclave other_enclave : ℕ) (moves : List BenchMove) (one other : MonitoredMachine) : Type 0 where
  steps : EnclaveStepsAreSame enclave other_enclave moves one other
  point : AreAtOnePoint enclave other_enclave (after_actions (first_actions moves) one) (after_actions (second_actions moves) other)

-- Moves leave both enclaves at one point, with the same steps. The proof is by induction over the list of moves.
moves_keep_point : (enclave other_enclave : ℕ) (moves : List BenchMove) (one other : MonitoredMachine) → IsSound one → IsSound other
    → AreAtOnePoint enclave other_enclave one other
    → AreBenchMoves enclave other_enclave moves one other → MovedAlike enclave other_enclave moves one other
moves_keep_point enclave other_enclave [] one other one_sound other_sound point permitted = record { steps = tt; point = point }
moves_keep_point enclave other_enclave (InFirst action ∷ moves) one other one_sound other_sound point (permitted, rest_permitted) =
    let rest_alike = moves_keep_point enclave other_enclave moves (after_action action one) other (action_sound action one one_sound) other_sound
    (foreign_in_first enclave other_enclave one other point one_sound other_sound action permitted) rest_permitted in
    record { steps = rest_alike.steps; point = rest_alike.point }
moves_keep_point enclave other_enclave (InSecond action ∷ moves) one other one_sound other_sound point (permitted, rest_permitted) =
    let rest_alike = moves_keep_point enclave other_enclave moves one (after_action action other) one_sound (action_sound action other other_sound)
    (foreign_in_second enclave other_enclave one other point one_sound other_sound action permitted) rest_permitted in
    record { steps = rest_alike.steps; point = rest_alike.point }
moves_keep_point enclave other_enclave (InBoth hart other_hart ∷ moves) one other one_sound other_sound point (permitted, rest_permitted) =
    let own_step = one_move enclave other_enclave one other point one_sound other_sound (Own hart other_hart) permitted in
    let (same_step, _) = own_step.steps in
    let rest_alike =
    moves_keep_point enclave other_enclave moves (step_of hart one).state (step_of other_hart other).state
    (action_sound (Occurs (StepOf hart)) one one_sound) (action_sound (Occurs (StepOf other_hart)) other other_sound) own_step.point rest_permitted in
    record { steps = (same_step, rest_alike.steps); point = rest_alike.point }

-- ---- commands

-- two benches, each with its own list of commands
module _ (enclave other_enclave : ℕ) (bench other_bench : BenchState) (commands other_commands : List Command) where
  -- the machine after the commands of the list is the machine after their actions
  abbrev LeadsTo : BenchState → List Command → MonitoredMachine → Type 0
  LeadsTo any_bench list machine = machine_in (after_commands any_bench list).target ≡ Some (after_actions (actions_of any_bench list) machine)

  -- the law of influence holds for two monitored machines, if each list of commands leads to the machine after its actions
  influence_on_machines : (one other : MonitoredMachine) → IsSound one → IsSound other → LeadsTo bench commands one
      → LeadsTo other_bench other_commands other
      → (life : IsSameLife enclave other_enclave bench other_bench commands other_commands one other)
      → HasSameLife enclave other_enclave life.moves one other (after_commands bench commands).target
      (after_commands other_bench other_commands).target
  influence_on_machines one other one_sound other_sound first_leads second_leads life =
      let moved_alike = moves_keep_point enclave other_enclave life.moves one other one_sound other_sound life.point life.moves_permitted in
      let some : MonitoredMachine → Option MonitoredMachine = λ machine. Some machine in
      record {
        steps = moved_alike.steps;
        point =
            -- the machines after the commands are the machines after the actions of the moves
            let first_end = first_leads ∙ ap (λ (actions : List Action). some (after_actions actions one)) (sym life.first_commands) in
            let second_end = second_leads ∙ ap (λ (actions : List Action). some (after_actions actions other)) (sym life.second_commands) in
            subst (λ (machine_or_none : Option MonitoredMachine).
            IsSomeAnd machine_or_none
            (λ machine.
            IsSomeAnd (machine_in (after_commands other_bench other_commands).target) (AreAtOnePoint enclave other_enclave machine))) (sym first_end)
            (subst (λ (machine_or_none : Option MonitoredMachine). IsSomeAnd machine_or_none
            (AreAtOnePoint enclave other_enclave (after_actions (first_actions life.moves) one)))
            (sym second_end) moved_alike.point);
      }

  -- the law of influence holds for two targets, where each option is the machine of a target, or `None` if the target is bare
  influence_on_targets : (machine_or_none other_or_none : Option MonitoredMachine) → IfSome machine_or_none Invariant
      → IfSome other_or_none Invariant → IfSome machine_or_none IsLegalMachine → IfSome other_or_none IsLegalMachine
      → IfSome machine_or_none (LeadsTo bench commands) → IfSome other_or_none (LeadsTo other_bench other_commands)
      → IfSome machine_or_none (λ one. IfSome other_or_none (λ other.
      (life : IsSameLife enclave other_enclave bench other_bench commands other_commands one other)
      → HasSameLife enclave other_enclave life.moves one other (after_commands bench commands).target
      (after_commands other_bench other_commands).target))
  influence_on_targets None other_or_none invariant other_invariant first_legal second_legal first_leads second_leads = tt
  influence_on_targets (Some one) None invariant other_invariant first_legal second_legal first_leads second_leads = tt
  influence_on_targets (Some one) (Some other) invariant other_invariant first_legal second_legal first_leads second_leads =
      influence_on_machines one other (record { invariant = invariant; legal = first_legal })
      (record { invariant = other_invariant; legal = second_legal }) first_leads second_leads

-- ---- commands keep the registers legal

-- each effect leaves a target legal
legal_effect : (target : Target) (change : Effect) → TargetInvariant target → IsLegalTarget target → IsLegalTarget (done target change)
legal_effect (Bare machine) change invariant legal = bare_target IsLegalTarget (λ bare_machine. tt) _ (effect_stays_bare machine change)
legal_effect (Monitored selected) change invariant legal =
    subst (λ (machine_or_none : Option MonitoredMachine). IfSome machine_or_none IsLegalMachine) (sym (effect_acts selected change))
    (actions_sound (actions_by (Monitored selected) change) selected.state (record { invariant = invariant; legal = legal })).legal

-- a command leaves the pc and S-mode registers of a monitored machine legal
pub keeps_legal : (bench : BenchState) (command : Command) → TargetInvariant bench.target → IsLegalTarget bench.target
    → IsLegalTarget (execute bench command).state.target
unfolding execute
keeps_legal bench command = legal_effect bench.target (effect bench command)

-- proves the law of what a host influences, by induction on the moves
pub host_influence : HostInfluenceLaw
host_influence = record {
  same = λ enclave other_enclave bench other_bench commands other_commands invariant other_invariant first_legal second_legal.
      influence_on_targets enclave other_enclave bench other_bench commands other_commands (machine_in bench.target)
      (machine_in other_bench.target) invariant other_invariant first_legal second_legal (acts bench commands) (acts other_bench other_commands);
  legal = keeps_legal;
}
