-- Noninterference of one step: a low step of two machines that are equivalent except `enclave` has equal outcomes, and leaves machines that are
-- equivalent except `enclave`.
use Rattle.std.proofs.Common.{◌≡◌, ◌<◌, ℕ, false, List, Option, Some, None, refl, sym, ◌∙◌, ap, ap₂, subst, inl, inr, arith}
use Rattle.rv_monitor.specs.Prelude.{Hart, SharedInvariant, Outcome, HartState, Shared, SharedEquivExcept, Slots, Machine, StepOutcome, Stepped, Trap, World}
use Rattle.rv_monitor.specs.Prelude.{is_live, is_world_of, option_case, step}
use Rattle.rv_monitor.specs.Noninterference.{StepNoninterference}
use Rattle.rv_monitor.proofs.Prelude.{EquivExcept, Invariant, HartViewInvariant, MonitoredMachine, HartView, HartViewStepped, step_of}
use Rattle.rv_monitor.proofs.Prelude.{HartStatesEquivExcept, both_ways, cases_Bool, cases_eq, cases_lt, confined, count_of, get_or-map}
use Rattle.rv_monitor.proofs.Prelude.{get_or_default, handled, length-map, monitored_step, returned, runs_on, same_lists, hart_state_at_start}
use Rattle.rv_monitor.proofs.Prelude.{hart_state_of, reprogrammed, hart_view, sound_by_size, stepped_by, unhandled, worlds}
use Rattle.rv_monitor.proofs.EquivLemmas.{same_hart_states, hart_states_equiv}
use Rattle.rv_monitor.proofs.Beside.{running_is_live}
use Rattle.rv_monitor.proofs.BareStepNoninterference.{bare_law}
use Rattle.rv_monitor.proofs.HandledAlike.{handler_law}
use Rattle.rv_monitor.proofs.InvariantLemmas.{hart_view_invariant}
use Rattle.rv_monitor.proofs.HartCases.{stepped_count, machine_step_is, other_hart_state, outside, stepping_hart_state, past_hart_state, hart_state_reprogrammed}
use Rattle.rv_monitor.proofs.StepInvariant.{step_size}

-- ---- a step of one hart over equivalent shared states

-- the view with this hart state and this shared state
abbrev view_of : HartState → Shared → HartView
view_of hart_state shared = record { hart_state = hart_state; shared = shared }

-- two steps of a view have equal outcomes, and leave views that are equivalent except `enclave`
record StepsEquiv (enclave : ℕ) (one other : HartViewStepped) : Type 0 where
  -- the outcomes are equal
  pub outcome : one.outcome ≡ other.outcome
  -- the hart states after the steps are equivalent except `enclave`
  pub hart_state : HartStatesEquivExcept enclave one.state.hart_state other.state.hart_state
  -- the shared states after the steps are equivalent except `enclave`
  pub shared : SharedEquivExcept enclave one.state.shared other.state.shared

-- the end of the step, with or without a trap, leaves views that are equivalent except `enclave`
step_ends_equiv : (enclave : ℕ) (outcome : StepOutcome) (maybe_trap : Option Trap) (worlds : List World) (hart_state : HartState) (one other : Shared)
    → SharedInvariant one worlds → SharedInvariant other worlds → is_world_of enclave hart_state.world ≡ false
    → SharedEquivExcept enclave one other
    → StepsEquiv enclave (option_case maybe_trap (unhandled outcome hart_state one) (λ trap. returned outcome (handled hart_state one trap)))
    (option_case maybe_trap (unhandled outcome hart_state other) (λ trap. returned outcome (handled hart_state other trap)))
-- without a trap, nothing follows the bare step
step_ends_equiv enclave outcome None worlds hart_state one other shared_invariant_one shared_invariant_other not_running shared_equiv =
    record { outcome = refl; hart_state = record { world = refl; same = λ not_running. refl }; shared = shared_equiv }
-- with a trap, the noninterference of the trap handler applies
step_ends_equiv enclave outcome (Some trap) worlds hart_state one other shared_invariant_one shared_invariant_other not_running shared_equiv =
    let handler_results =
    handler_law enclave worlds hart_state one other trap shared_invariant_one shared_invariant_other not_running shared_equiv in
    record {
      outcome =
          ap (λ (entered : Option ℕ). let shown : Outcome = record { step = outcome; entered = entered } in shown) handler_results.entered;
      hart_state = handler_results.hart_state;
      shared = handler_results.shared;
    }

-- the bare step of the view
abbrev stepped : HartState → Shared → Stepped
stepped hart_state shared = step (record { hart = hart_state.hart; memory = shared.memory })

-- the shared state with the memory after the bare step
abbrev shared_after_bare : HartState → Shared → Shared
shared_after_bare hart_state shared = record shared { memory = (stepped hart_state shared).state.memory }

-- the result of the step from the outcome of the bare step: the trap handler follows if the bare step traps
abbrev after_bare : StepOutcome → HartState → Shared → HartViewStepped
after_bare outcome hart_state shared =
    option_case outcome.trap (unhandled outcome hart_state shared) (λ trap. returned outcome (handled hart_state shared trap))

-- the bare step preserves the shared invariant
bare_step_keeps_shared_invariant : (worlds : List World) (hart_state : HartState) (shared : Shared) → SharedInvariant shared worlds
    → SharedInvariant (shared_after_bare hart_state shared) worlds
bare_step_keeps_shared_invariant worlds hart_state shared shared_invariant =
    let before : Machine = record { hart = hart_state.hart; memory = shared.memory } in
    sound_by_size shared worlds (stepped hart_state shared).state.memory shared_invariant (step_size before (step before) (confined before))

-- a step of a world other than `enclave` over two equivalent shared states has equal outcomes, and leaves equivalent views
step_equiv : (enclave : ℕ) (hart_state : HartState) (worlds : List World) (one other : Shared)
    → HartViewInvariant (view_of hart_state one)
    → SharedInvariant one worlds → SharedInvariant other worlds → is_world_of enclave hart_state.world ≡ false
    → SharedEquivExcept enclave one other
    → StepsEquiv enclave (monitored_step (view_of hart_state one)) (monitored_step (view_of hart_state other))
unfolding monitored_step
step_equiv enclave hart_state worlds one other view_invariant_one shared_invariant_one shared_invariant_other not_running shared_equiv =
    let first_bare = stepped hart_state one in
    let second_bare = stepped hart_state other in
    -- the bare steps are alike, because they access no byte in the region of `enclave`
    let bare_steps_alike =
    bare_law enclave (view_of hart_state one) other.memory view_invariant_one not_running shared_equiv.memory in
    let shared_equiv_after : SharedEquivExcept enclave (shared_after_bare hart_state one) (shared_after_bare hart_state other) = record {
      table = shared_equiv.table;
      memory = bare_steps_alike.memory;
      contexts = shared_equiv.contexts;
      gone = λ not_live. ap (shared_after_bare hart_state) (shared_equiv.gone not_live);
    } in
    -- the trap handler, if the bare steps trap, keeps the shared states equivalent
    let ends_equiv =
    step_ends_equiv enclave first_bare.outcome first_bare.outcome.trap worlds (record hart_state { hart = first_bare.state.hart })
    (shared_after_bare hart_state one)
    (shared_after_bare hart_state other)
    (bare_step_keeps_shared_invariant worlds hart_state one shared_invariant_one)
    (bare_step_keeps_shared_invariant worlds hart_state other shared_invariant_other)
    not_running shared_equiv_after in
    let StepsEquivFor : Hart → StepOutcome → Type 0 = λ hart outcome. StepsEquiv enclave
    (after_bare first_bare.outcome (record hart_state { hart = first_bare.state.hart }) (shared_after_bare hart_state one))
    (after_bare outcome (record hart_state { hart = hart }) (shared_after_bare hart_state other)) in
    subst (λ hart. StepsEquivFor hart second_bare.outcome) (sym bare_steps_alike.hart)
    (subst (λ outcome. StepsEquivFor first_bare.state.hart outcome) (sym bare_steps_alike.outcome) ends_equiv)

-- ---- a step of a hart of the machine

-- two machines that are equivalent except `enclave` have the same worlds
same_worlds : (enclave : ℕ) (one other : MonitoredMachine) → EquivExcept enclave one other → worlds one ≡ worlds other
same_worlds enclave one other equiv =
    let world_of : HartState → World = λ hart_state. hart_state.world in
    let same_harts = equiv.harts in
    let first_length = length-map one.hart_states world_of in
    let second_length = length-map other.hart_states world_of in
    same_lists (worlds one) (worlds other) (first_length ∙ same_harts ∙ sym second_length) (λ hart default in_list.
    let in_range : hart < count_of one = omega (arith, first_length, in_list) in
    get_or-map world_of one.hart_states hart (hart_state_at_start 0) default in_range ∙ (equiv.hart_states hart).world
    ∙ sym (get_or-map world_of other.hart_states hart (hart_state_at_start 0) default (omega (arith, same_harts, in_range))))

-- the low steps of the views of one hart of two equivalent machines leave equivalent views
views_equiv : (enclave hart : ℕ) (one other : MonitoredMachine) → Invariant one → Invariant other
    → EquivExcept enclave one other
    → hart < count_of one
    → runs_on enclave hart one ≡ false
    → StepsEquiv enclave (monitored_step (hart_view hart one)) (monitored_step (hart_view hart other))
views_equiv enclave hart one other invariant_one invariant_other equiv in_range not_running =
    let hart_states = equiv.hart_states hart in
    let shared_invariant_other =
    subst (SharedInvariant other.shared) (sym (same_worlds enclave one other equiv)) invariant_other.shared in
    subst (λ (hart_state : HartState). StepsEquiv enclave (monitored_step (hart_view hart one)) (monitored_step (view_of hart_state other.shared)))
    (hart_states.same not_running)
    (step_equiv enclave (hart_state_of hart one) (worlds one) one.shared other.shared
    (hart_view_invariant hart one invariant_one in_range) invariant_one.shared shared_invariant_other not_running equiv.shared)

-- reprogramming leaves equivalent hart states equivalent
reprogrammed_equiv : (enclave : ℕ) (maybe_trap : Option Trap) (table : Slots) (hart_state other_state : HartState)
    → HartStatesEquivExcept enclave hart_state other_state
    → HartStatesEquivExcept enclave (hart_state_reprogrammed maybe_trap table hart_state) (hart_state_reprogrammed maybe_trap table other_state)
reprogrammed_equiv enclave None table hart_state other_state equiv = equiv
reprogrammed_equiv enclave (Some trap) table hart_state other_state equiv =
    record { world = equiv.world; same = λ not_running. ap (reprogrammed table) (equiv.same not_running) }

-- after low steps of two equivalent machines, the states of each hart are equivalent
hart_states_equiv_after : (enclave hart : ℕ) (one other : MonitoredMachine) (stepped other_stepped : HartViewStepped)
    → EquivExcept enclave one other
    → hart < count_of one
    → StepsEquiv enclave stepped other_stepped
    → (other_hart : ℕ) → HartStatesEquivExcept enclave (hart_state_of other_hart (stepped_by hart one stepped).state)
    (hart_state_of other_hart (stepped_by hart other other_stepped).state)
hart_states_equiv_after enclave hart one other stepped other_stepped equiv in_range view_steps_equiv other_hart =
    let same_harts = equiv.harts in
    elim (cases_lt other_hart (count_of one)) [
      -- neither machine has this hart
      | inr past_last ↦
          let first_count = stepped_count hart one stepped in
          let second_count = stepped_count hart other other_stepped in
          same_hart_states enclave _ _ (past_hart_state (stepped_by hart one stepped).state.hart_states other_hart
          (omega (arith, first_count, past_last))
          ∙ sym (past_hart_state (stepped_by hart other other_stepped).state.hart_states other_hart
          (omega (arith, second_count, same_harts, past_last))))
      | inl other_in_range ↦ elim (cases_eq other_hart hart) [
        -- the stepping hart has the state of its view after the step, and the views agree
        | inl is_stepping_hart ↦ hart_states_equiv enclave _ _ _ _ (stepping_hart_state hart one stepped other_hart is_stepping_hart in_range)
            (stepping_hart_state hart other other_stepped other_hart is_stepping_hart (omega (arith, same_harts, in_range)))
            view_steps_equiv.hart_state
        -- every other hart is reprogrammed alike, because the traps and the tables are equal
        | inr distinct ↦
            let traps = ap (λ (outcome : Outcome). outcome.step.trap) view_steps_equiv.outcome in
            let ReprogrammedEquiv : Option Trap → Slots → Type 0 =
            λ maybe_trap table. HartStatesEquivExcept enclave (hart_state_reprogrammed stepped.outcome.step.trap stepped.state.shared.table
            (hart_state_of other_hart one))
            (hart_state_reprogrammed maybe_trap table (hart_state_of other_hart other)) in
            hart_states_equiv enclave _ _ _ _ (other_hart_state hart one stepped other_hart distinct other_in_range)
            (other_hart_state hart other other_stepped other_hart distinct (omega (arith, same_harts, other_in_range)))
            -- both harts were equivalent before, and reprogramming keeps the equivalence
            (subst (λ (maybe_trap : Option Trap). ReprogrammedEquiv maybe_trap other_stepped.state.shared.table) traps
            (subst (ReprogrammedEquiv stepped.outcome.step.trap) view_steps_equiv.shared.table
            (reprogrammed_equiv enclave stepped.outcome.step.trap stepped.state.shared.table (hart_state_of other_hart one)
            (hart_state_of other_hart other)
            (equiv.hart_states other_hart))))
      ]
    ]

-- proves noninterference: a low step has the same outcome on every equivalent machine, and leaves equivalent machines
pub noninterference : (hart : ℕ) (machine : MonitoredMachine) → Invariant machine
    → StepNoninterference hart machine (step_of hart machine)
noninterference hart one invariant enclave other invariant_other equiv not_running =
    let same_harts = equiv.harts in
    elim (cases_lt hart (count_of one)) [
      -- a step with the number of no hart changes neither machine
      | inr past_last ↦
          rw (outside hart one past_last, outside hart other (omega (arith, same_harts, past_last))) (record { outcome = refl; state = equiv })
      -- the steps of both views agree, so the machines after the steps are equivalent
      | inl in_range ↦
          let first_after = monitored_step (hart_view hart one) in
          let second_after = monitored_step (hart_view hart other) in
          let view_steps_equiv =
          views_equiv enclave hart one other invariant invariant_other equiv in_range not_running in
          rw (machine_step_is hart one in_range, machine_step_is hart other (omega (arith, same_harts, in_range))) (record {
            outcome = view_steps_equiv.outcome;
            state = record {
              harts = stepped_count hart one first_after ∙ equiv.harts ∙ sym (stepped_count hart other second_after);
              hart_states = hart_states_equiv_after enclave hart one other first_after second_after equiv in_range view_steps_equiv;
              shared = view_steps_equiv.shared;
            };
          })
    ]

-- ---- an enclave that has ended

-- two machines that are equivalent except `enclave` are equal, if `enclave` is not live
pub gone_equal : (enclave : ℕ) (one other : MonitoredMachine) → Invariant one → EquivExcept enclave one other
    → is_live one.shared.table enclave ≡ false → one ≡ other
gone_equal enclave one other invariant_one equiv not_live =
    let same_harts = equiv.harts in
    let machine_of : List HartState → Shared → MonitoredMachine =
    λ hart_states shared. record { hart_states = hart_states; shared = shared } in
    ap₂ machine_of (same_lists one.hart_states other.hart_states equiv.harts (λ hart default in_range.
    get_or_default one.hart_states hart default (hart_state_at_start 0) in_range
    ∙ (equiv.hart_states hart).same (not_running hart)
    ∙ sym (get_or_default other.hart_states hart default (hart_state_at_start 0) (omega (arith, same_harts, in_range)))))
    (equiv.shared.gone not_live)
  where
    -- an enclave that is not live runs on no hart
    not_running : (hart : ℕ) → runs_on enclave hart one ≡ false
    not_running hart =
        elim (cases_Bool (runs_on enclave hart one)) [
          -- an enclave that runs is live
          | inl runs ↦ absurd (both_ways _ not_live (running_is_live enclave hart one invariant_one runs))
          | inr runs_other ↦ runs_other
        ]
