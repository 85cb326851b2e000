-- Noninterference with declassification: each permitted move keeps two machines related, and each low step of both machines has equal outcomes.
use Rattle.std.proofs.Common.{◌≡◌, ℕ, ◌+◌, Bool, true, false, [], ◌∷◌, length, Some, refl, sym, ◌∙◌, ap, subst, inl, inr}
use Rattle.std.proofs.lemmas.Bool.{cases_Bool}
use Rattle.std.specs.Prelude.{◌&&◌, ◌||◌, ◌⊎◌, not}
use Rattle.rv_enclaves.specs.Table.{runs, window}
use Rattle.rv_monitor.specs.Declassification.{AreRelated, Both, DeclassificationLaw, EquivToGuests, ExitsAlike, First, IsInside, IsLowStep}
use Rattle.rv_monitor.specs.Declassification.{RelationLaw, SameHandoverBy, SameHost, Second, may_differ}
use Rattle.rv_monitor.specs.Debugger.{with_timer}
use Rattle.rv_monitor.specs.Events.{LineOf, StepOf}
use Rattle.rv_monitor.specs.GuestView.{guest_state, guest_view}
use Rattle.rv_state.specs.declared.cause.Cause.TheVariants as causes
use Rattle.rv_monitor.specs.Declassification.{SameHandover}
use Rattle.rv_monitor.specs.Prelude.{Cause, Hart, Contexts, Host, HartState, Outcome, Slots, Trap, World, context_at, has, is_live}
use Rattle.rv_monitor.specs.Prelude.{is_world_of, ram_base, region}
use Rattle.rv_monitor.proofs.Prelude.{Invariant, MonitoredMachine, both_ways, cases_eq, hart_state_of, runs_on, step_of}
use Rattle.rv_monitor.proofs.Beside.{running_is_live, runs_among}
use Rattle.rv_monitor.proofs.EnclaveMemory.{world_is_enclave}
use Rattle.rv_monitor.proofs.EnclaveStays.{equal_bytes_at_index, enclave_step_unchanged}
use Rattle.rv_monitor.proofs.EquivLemmas.{hart_states_equiv}
use Rattle.rv_monitor.proofs.Events.{line_invariant, line_related}
use Rattle.rv_monitor.proofs.GuestEquiv.{equiv_from_guests, other_harts_keep_host, same_host_chain, guest_equiv, guest_invariant, guest_step_equiv, same_hosts_after, rest_of, ran_before, guest_view_runs_same}
use Rattle.rv_monitor.proofs.GuestView.{guest_hart_state, guest_step_of}
use Rattle.rv_monitor.proofs.InvariantLemmas.{invariant_law}
use Rattle.rv_monitor.proofs.LowSteps.{low_while_running}
use Rattle.rv_monitor.proofs.RelatedEquiv.{equiv_related, related_equiv}
use Rattle.rv_monitor.proofs.Release.{release}

-- ---- what the enclave hands over, in the guest view

-- two harts that hand over the same also hand over the same in the guest view
same_handover_in_guest_view : (cause : Cause) (hart_state other_state : HartState)
    → SameHandoverBy cause hart_state.hart other_state.hart
    → SameHandoverBy cause (guest_state hart_state).hart (guest_state other_state).hart
same_handover_in_guest_view (causes.Interrupt interrupt) hart_state other_state same_handover = tt
same_handover_in_guest_view (causes.Exception exception) hart_state other_state same_handover =
    record { a0 = same_handover.a0; a6 = same_handover.a6 }

-- two harts with equal a0 and a6 hand over the same for every cause
pub hands_over : (cause : Cause) (hart other_hart : Hart) → SameHandover hart other_hart
    → SameHandoverBy cause hart other_hart
hands_over (causes.Interrupt interrupt) hart other_hart same_handover = tt
hands_over (causes.Exception exception) hart other_hart same_handover = same_handover

-- ---- related machines, and machines that are equivalent in the guest view

-- two machines, and the `enclave` that may differ in them
module _ (enclave : ℕ) (one other : MonitoredMachine) where
  -- the relation is symmetric
  swapped : AreRelated enclave one other → AreRelated enclave other one
  swapped related = record {
    harts = sym related.harts;
    hart_states = λ other_hart.
        let related_harts = related.hart_states other_hart in
        record {
          world = sym related_harts.world;
          same = λ not_running. sym (related_harts.same (ap (is_world_of enclave) related_harts.world ∙ not_running));
        };
    -- the machines may be exchanged, because the same harts run `enclave` in both
    hosts = λ other_hart runs_other.
        let same_hosts =
        related.hosts other_hart (ap (is_world_of enclave) (related.hart_states other_hart).world ∙ runs_other) in
        record { host = sym same_hosts.host; rest = sym same_hosts.rest };
    table = sym related.table;
    memory = record {
      size = sym related.memory.size;
      bytes =
          λ index not_hidden. sym (related.memory.bytes index
          (ap (λ (table : Slots). may_differ table enclave (ram_base + index)) related.table ∙ not_hidden));
    };
    contexts =
        record { size = sym related.contexts.size; others = λ slot distinct. sym (related.contexts.others slot distinct) };
    gone = λ not_live. sym (related.gone (ap (λ (table : Slots). is_live table enclave) related.table ∙ not_live));
  }

-- proves the relation law: when equivalent machines are related, and when related machines are equivalent
pub relation_law : RelationLaw
relation_law = record {
  guests = guest_equiv;
  begins =
      λ enclave one other equiv nowhere. equiv_related enclave one other equiv
      (λ hart hart_of_enclave_in_range. absurd (both_ways _ (nowhere hart) hart_of_enclave_in_range));
  ends =
      λ enclave one other related idle. related_equiv enclave one other related (λ running. absurd (both_ways _ idle running));
}

-- ---- a step of the enclave in one machine

-- while the enclave runs, a byte that passes the test `may_differ` with false is outside the region and the window
byte_is_beyond : (in_region runs_now in_window : Bool) → runs_now ≡ true → (in_region || (runs_now && in_window)) ≡ false
    → not (in_region || in_window) ≡ true
byte_is_beyond false true false running shown = refl
byte_is_beyond false true true running shown = cc
byte_is_beyond true runs_now in_window running shown = cc
byte_is_beyond in_region false in_window running shown = cc

-- two machines are related, and `enclave` makes a step in the first machine that does not exit
module _ (enclave hart : ℕ) (one other : MonitoredMachine) (invariant_one : Invariant one) (related : AreRelated enclave one other)
    (inside : IsInside enclave hart one) where
  -- the first machine after the step of the enclave
  abbrev after : MonitoredMachine
  after = (step_of hart one).state

  -- a step of the enclave that does not exit leaves the two machines related
  enclave_step_keeps_relation : AreRelated enclave after other
  enclave_step_keeps_relation =
      let unchanged_parts = enclave_step_unchanged enclave hart one invariant_one inside.before inside.after in
      record {
        harts = sym unchanged_parts.harts ∙ related.harts;
        -- the hart of the enclave runs `enclave` before and after the step, and the other harts keep their states
        hart_states = λ other_hart. elim (cases_eq other_hart hart) [
          | inl is_stepping_hart ↦ rw is_stepping_hart (record {
            -- the hart runs `enclave` before and after the step
            world =
                world_is_enclave enclave (hart_state_of hart after).world inside.after
                ∙ sym (world_is_enclave enclave (hart_state_of hart one).world inside.before)
                ∙ (related.hart_states hart).world;
            same = λ not_running. absurd (both_ways _ not_running inside.after);
          })
          -- another hart keeps its state
          | inr is_other_hart ↦
              hart_states_equiv enclave (guest_state (hart_state_of other_hart after)) (guest_state (hart_state_of other_hart one))
              (guest_state (hart_state_of other_hart other))
              (guest_state (hart_state_of other_hart other)) (ap guest_state (sym (unchanged_parts.others other_hart is_other_hart))) refl
              (related.hart_states other_hart)
        ];
        -- the saved hosts of all harts are unchanged
        hosts = λ other_hart runs_on_other. elim (cases_eq other_hart hart) [
          -- the stepping hart keeps the saved host
          | inl is_stepping_hart ↦
              let same_hosts = related.hosts hart inside.before in
              rw is_stepping_hart (record {
                host = sym unchanged_parts.behind.host ∙ same_hosts.host;
                rest = sym unchanged_parts.behind.rest ∙ same_hosts.rest;
              })
          -- every other hart keeps its state
          | inr is_other_hart ↦
              let same_hosts =
              related.hosts other_hart
              (ap (λ (hart_state : HartState). is_world_of enclave hart_state.world) (unchanged_parts.others other_hart is_other_hart)
              ∙ runs_on_other) in
              record {
                host =
                    ap (λ (hart_state : HartState). hart_state.host_context) (sym (unchanged_parts.others other_hart is_other_hart))
                    ∙ same_hosts.host;
                rest = ap rest_of (sym (unchanged_parts.others other_hart is_other_hart)) ∙ same_hosts.rest;
              }
        ];
        table = sym unchanged_parts.table ∙ related.table;
        memory = record {
          size = sym unchanged_parts.size ∙ related.memory.size;
          -- a byte in which the machines may not differ is beyond the enclave, so the step does not change this byte
          bytes = λ index not_hidden.
              let may_not_differ_before =
              ap (λ (table : Slots). may_differ table enclave (ram_base + index)) unchanged_parts.table ∙ not_hidden in
              let running = invariant_one.shared.running enclave ∙ runs_among enclave hart one inside.before in
              let is_beyond_enclave =
              byte_is_beyond (has (region one.shared.table enclave) (ram_base + index)) (runs one.shared.table enclave)
              (has (window one.shared.table enclave) (ram_base + index)) running may_not_differ_before in
              sym (equal_bytes_at_index one.shared.memory after.shared.memory index unchanged_parts.size
              (unchanged_parts.bytes (ram_base + index) is_beyond_enclave))
              ∙ related.memory.bytes index may_not_differ_before;
        };
        contexts = record {
          size = ap (λ (contexts : Contexts). length contexts) (sym unchanged_parts.contexts) ∙ related.contexts.size;
          others =
              λ slot distinct. ap (λ (contexts : Contexts). context_at contexts slot) (sym unchanged_parts.contexts)
              ∙ related.contexts.others slot distinct;
        };
        gone =
            λ not_live. absurd (both_ways _ not_live (running_is_live enclave hart after (invariant_law hart one invariant_one) inside.after));
      }

-- ---- a step of both

-- two machines are related, and the same hart makes a step in both
module _ (enclave hart : ℕ) (one other : MonitoredMachine) (invariant_one : Invariant one) (invariant_other : Invariant other)
    (related : AreRelated enclave one other) where
  -- if both steps are low steps, then their outcomes are equal
  abbrev Outcomes : Type 0
  Outcomes = runs_on enclave hart one ≡ false → (step_of hart one).outcome ≡ (step_of hart other).outcome

  -- the two machines after the steps are related
  abbrev Related : Type 0
  Related = AreRelated enclave (step_of hart one).state (step_of hart other).state

  -- a low step has equal outcomes in both machines, and leaves the machines related
  low_step : IsLowStep enclave hart one other → Outcomes × Related
  low_step low_both_steps = elim (cases_Bool (runs one.shared.table enclave)) [
    -- the enclave has the state Running
    | inl running ↦
        let (outcomes_equal, related_after) =
        low_while_running enclave hart one other invariant_one invariant_other related low_both_steps running in
        (λ not_running. outcomes_equal, related_after)
    -- the enclave is not Running, so the machines are equivalent except `enclave` in the guest view
    | inr idle ↦
        let equiv = related_equiv enclave one other related (λ running. absurd (both_ways _ idle running)) in
        let step = guest_step_equiv enclave hart one other invariant_one invariant_other equiv low_both_steps.low in (
          λ not_running. step.outcome,
          equiv_related enclave (step_of hart one).state (step_of hart other).state step.state
              (same_hosts_after enclave hart one other invariant_one invariant_other equiv related.hosts low_both_steps.low),
        )
  ]

  -- if the step of a machine exits to the host, then the step of its guest view exits to the host
  guest_step_exits : (machine : MonitoredMachine) → Invariant machine
      → (hart_state_of hart (step_of hart machine).state).world ≡ Host
      → (hart_state_of hart (step_of hart (guest_view machine)).state).world ≡ Host
  guest_step_exits machine invariant host_runs_after =
      let world_of_hart : MonitoredMachine → World = λ machine. (hart_state_of hart machine).world in
      let state_world : HartState → World = λ hart_state. hart_state.world in
      sym (ap state_world (guest_hart_state hart (step_of hart (guest_view machine)).state))
      ∙ sym (ap world_of_hart (guest_step_of hart machine invariant).state)
      ∙ ap state_world (guest_hart_state hart (step_of hart machine).state) ∙ host_runs_after

  -- if the step of a machine has a trap, then the step of its guest view has the same trap
  guest_step_traps : (machine : MonitoredMachine) (trap : Trap) → Invariant machine
      → (step_of hart machine).outcome.step.trap ≡ Some trap
      → (step_of hart (guest_view machine)).outcome.step.trap ≡ Some trap
  guest_step_traps machine trap invariant trapped =
      sym (ap (λ (outcome : Outcome). outcome.step.trap) (guest_step_of hart machine invariant).outcome) ∙ trapped

  -- after an exit from both machines that hands over the same, the machines are equivalent in the guest view
  exit_equiv : ExitsAlike enclave hart one other
      → EquivToGuests enclave (step_of hart one).state (step_of hart other).state
  exit_equiv exits_alike =
      let first_view = guest_view one in
      let second_view = guest_view other in
      -- both machines are equivalent in the guest view, because the windows are equal
      let equiv = related_equiv enclave one other related (λ running. exits_alike.window) in
      -- the guest views have the same saved host, and hand over the same
      let host : SameHost (hart_state_of hart first_view) (hart_state_of hart second_view) =
      subst (λ (hart_state : HartState). SameHost hart_state (hart_state_of hart second_view)) (sym (guest_hart_state hart one))
      (subst (SameHost (guest_state (hart_state_of hart one))) (sym (guest_hart_state hart other)) (related.hosts hart exits_alike.runs)) in
      let handover : SameHandoverBy exits_alike.trap.cause (hart_state_of hart first_view).hart (hart_state_of hart second_view).hart =
      subst (λ (hart_state : HartState). SameHandoverBy exits_alike.trap.cause hart_state.hart (hart_state_of hart second_view).hart)
      (sym (guest_hart_state hart one))
      (subst (λ (hart_state : HartState). SameHandoverBy exits_alike.trap.cause (guest_state (hart_state_of hart one)).hart hart_state.hart)
      (sym (guest_hart_state hart other))
      (same_handover_in_guest_view exits_alike.trap.cause (hart_state_of hart one) (hart_state_of hart other) exits_alike.handover)) in
      -- `release` gives equivalent machines after the exits of the guest views
      equiv_from_guests enclave hart one other invariant_one invariant_other
      (release enclave hart first_view second_view exits_alike.trap (guest_invariant one invariant_one) (guest_invariant other invariant_other) equiv
      (guest_view_runs_same enclave hart one ∙ exits_alike.runs) host handover
      (guest_step_traps one exits_alike.trap invariant_one exits_alike.first)
      (guest_step_traps other exits_alike.trap invariant_other exits_alike.second)
      (guest_step_exits one invariant_one exits_alike.first_exits)
      (guest_step_exits other invariant_other exits_alike.second_exits))

  -- after an exit from both machines that hands over the same, the machines are related
  exit_keeps_relation : ExitsAlike enclave hart one other → Outcomes × Related
  exit_keeps_relation exits_alike = (
    λ not_running. absurd (both_ways _ not_running exits_alike.runs),
    equiv_related enclave (step_of hart one).state (step_of hart other).state (exit_equiv exits_alike)
        (λ other_hart runs_after. elim (cases_eq other_hart hart) [
          -- the stepping hart runs the host after the step, so this hart does not run `enclave`
          | inl is_stepping_hart ↦
              let not_running : runs_on enclave hart (step_of hart one).state ≡ false =
              ap (is_world_of enclave) exits_alike.first_exits in
              let enclave_still_runs : runs_on enclave hart (step_of hart one).state ≡ true =
              ap (λ (some_hart : ℕ). runs_on enclave some_hart (step_of hart one).state) (sym is_stepping_hart) ∙ runs_after in
              absurd (both_ways _ not_running enclave_still_runs)
          -- another hart keeps its saved host in both machines
          | inr is_other_hart ↦
              same_host_chain other_hart (step_of hart one).state one other (step_of hart other).state
              (other_harts_keep_host hart other_hart one is_other_hart)
              (related.hosts other_hart (ran_before enclave hart other_hart one is_other_hart runs_after))
              (other_harts_keep_host hart other_hart other is_other_hart)
        ]),
  )

  -- a step of both machines leaves the machines related, because the step is a low step or an exit that hands over equal registers
  step_of_both_keeps_relation : IsLowStep enclave hart one other ⊎ ExitsAlike enclave hart one other → Outcomes × Related
  step_of_both_keeps_relation (inl is_low_step) = low_step is_low_step
  step_of_both_keeps_relation (inr exits_alike) = exit_keeps_relation exits_alike

-- ---- all moves

-- proves the declassification law, by induction on the list of moves
pub declassification_law : DeclassificationLaw
declassification_law enclave [] one other invariant_one invariant_other related are_moves =
    record { outcomes = tt; state = related }
-- the first machine alone makes a step of the enclave, which leaves the machines related
declassification_law enclave (First hart ∷ moves) one other invariant_one invariant_other related (is_inside, are_later_moves) =
    let remaining =
    declassification_law enclave moves (step_of hart one).state other (invariant_law hart one invariant_one) invariant_other
    (enclave_step_keeps_relation enclave hart one other invariant_one related is_inside) are_later_moves in
    record { outcomes = remaining.outcomes; state = remaining.state }
-- the second machine alone makes a step of the enclave; the relation is symmetric
declassification_law enclave (Second hart ∷ moves) one other invariant_one invariant_other related (is_inside, are_later_moves) =
    let after = (step_of hart other).state in
    let remaining = declassification_law enclave moves one after invariant_one (invariant_law hart other invariant_other)
    (swapped enclave after one (enclave_step_keeps_relation enclave hart other one invariant_other
    (swapped enclave one other related) is_inside)) are_later_moves in
    record { outcomes = remaining.outcomes; state = remaining.state }
-- both machines make a low step or an exit
declassification_law enclave (Both (StepOf hart) ∷ moves) one other invariant_one invariant_other related (low_or_exit, are_later_moves) =
    let (outcomes_equal, related_after) =
    step_of_both_keeps_relation enclave hart one other invariant_one invariant_other related low_or_exit in
    let remaining =
    declassification_law enclave moves (step_of hart one).state (step_of hart other).state (invariant_law hart one invariant_one)
    (invariant_law hart other invariant_other)
    related_after are_later_moves in
    record { outcomes = (outcomes_equal, remaining.outcomes); state = remaining.state }
-- the same timer line changes in both machines
declassification_law enclave (Both (LineOf hart raised) ∷ moves) one other invariant_one invariant_other related (_, are_later_moves) =
    let remaining = declassification_law enclave moves (with_timer hart one raised) (with_timer hart other raised)
    (line_invariant hart raised one invariant_one)
    (line_invariant hart raised other invariant_other) (line_related enclave hart raised one other related) are_later_moves in
    record { outcomes = remaining.outcomes; state = remaining.state }
