-- The observations of a command in two related benches are equal.
use Rattle.std.proofs.Common.{◌≡◌, ℕ, ◌==◌, Bool, true, false, List, [], ◌∷◌, Option, refl, sym, ◌∙◌, ap, ap₂, subst, inl, inr}
use Rattle.std.specs.Prelude.{◌&&◌, ◌||◌, ◌++◌, nat_lt, replicate, if◌then◌else◌}
use Rattle.rv_enclaves.specs.Table.{runs, window}
use Rattle.rv_enclaves.proofs.EqualMemory.{IsSeen, same_read, read-none}
use Rattle.rv_monitor.specs.Declassification.{AreRelated, may_differ}
use Rattle.rv_monitor.specs.GuestView.{guest_state}
use Rattle.rv_monitor.proofs.GuestView.{guest_hart_state}
use Rattle.rv_debug.specs.Prelude.{Block, HartRan, HartState, Invariant, M, Monitored, MonitoredMachine, Scheduled, Slots, Stop, Target, Trap}
use Rattle.rv_debug.specs.Prelude.{count_of, hart_state_of, is_inside, is_world_of, meets, read, read_result, region, result_case, runs_on, sched}
use Rattle.rv_debug.specs.Prelude.{step_of}
use Rattle.rv_debug.specs.Declassification.{StepsAreMoves}
use Rattle.rv_debug.specs.Execute.{csr_reply}
use Rattle.rv_debug.specs.Observed.{guest_target, observed_hart, observed_harts, observed_run, observed_steps, unless}
use Rattle.rv_debug.specs.ScheduledSteps.{nothing_ran}
use Rattle.rv_debug.proofs.ExecuteAlike.{equal_entries, mhartid}
use Rattle.rv_debug.proofs.Prelude.{AfterRun, Selected, cases_Bool, csr_text, hart_text, no_csr_text, no_steps, ran_text, run, schedule_start}
use Rattle.rv_debug.proofs.Prelude.{scheduled_steps, seen_block, selected_at, steps_of, harts_of, target_stepped, with_scheduled_step, with_selected}
use Rattle.rv_debug.proofs.Prelude.{world_name}
use Rattle.rv_debug.proofs.ObservedRuns.{RunObserved, own_steps, run_observed, same_step_counts, same_last_traps, schedule_summaries_are}
use Rattle.rv_debug.proofs.RelatedMoves.{RelatedAfterMoves, related_after_moves}
use Rattle.rv_debug.proofs.ScheduledSteps.{after_schedule}
use Rattle.rv_debug.proofs.TargetRuns.{hart_pc, hart_stepped, run_monitored}

-- ---- the state of a hart that does not run the enclave

-- a text about a hart, in the guest view, is equal in both, or hidden in both
pub hart_texts : (enclave hart : ℕ) (one other : MonitoredMachine) → AreRelated enclave one other → (text : HartState → List ℕ)
    → unless (runs_on enclave hart one) (text (guest_state (hart_state_of hart one)))
    ≡ unless (runs_on enclave hart other) (text (guest_state (hart_state_of hart other)))
hart_texts enclave hart one other related text =
    let hart_related = related.hart_states hart in
    elim (cases_Bool (runs_on enclave hart one)) [
      -- the enclave runs on the hart in both machines: both texts are hidden
      | inl on_hart ↦
          let on_other_hart : runs_on enclave hart other ≡ true = sym (ap (is_world_of enclave) hart_related.world) ∙ on_hart in
          rw (on_hart, on_other_hart) refl
      -- it runs on the hart in neither machine: the guest states of the hart are equal
      | inr not_on_hart ↦
          let not_on_other_hart : runs_on enclave hart other ≡ false = sym (ap (is_world_of enclave) hart_related.world) ∙ not_on_hart in
          rw (not_on_hart, not_on_other_hart) (ap text (hart_related.same not_on_hart))
    ]

-- ---- runs

-- `run_text` is what others observe of a run on a machine: its summary, or nothing if the enclave runs on the hart after it
abbrev pub run_text : ℕ → ℕ → MonitoredMachine → AfterRun MonitoredMachine → List ℕ
run_text enclave hart machine after =
    let hart_state = hart_state_of hart after.state in
    unless (runs_on enclave hart after.state)
    (ran_text hart_state.hart.pc hart_state.hart.mode (world_name hart_state.world) (record {
      steps = (observed_steps enclave hart (replicate after.ran.steps hart) machine nothing_ran).steps;
      trap = after.ran.trap;
      stop = after.ran.stop;
      entered = 0;
    }))

-- what others observe of a run command on a target is `run_text` of the run of its machine
observed_run_is : (enclave hart : ℕ) (breaks watches : List ℕ) (count : ℕ) (machine : MonitoredMachine)
    → observed_run enclave (selected_at hart machine) (steps_of (selected_at hart machine) breaks watches count)
    ≡ run_text enclave hart machine (run (hart_stepped hart) (hart_pc hart) breaks watches count (no_steps machine))
observed_run_is enclave hart breaks watches count machine =
    ap (observed_run enclave (selected_at hart machine)) (run_monitored hart breaks watches count (no_steps machine))

-- `ran_with` is the summary with the observed steps and the observed trap
abbrev ran_with : ℕ → Stop → HartRan → HartState → List ℕ
ran_with hart stop ran hart_state =
    ran_text hart_state.hart.pc hart_state.hart.mode (world_name hart_state.world)
    (record { steps = ran.steps; trap = ran.trap; stop = stop; entered = 0 })

-- Two runs whose steps are moves, and that stop alike, have the same observed text. If the enclave runs on the hart after them, both texts are empty.
-- Otherwise the hart, the observed steps and the last trap are equal in both.
run_texts : (enclave hart : ℕ) (one other : MonitoredMachine) (one_run other_run : AfterRun MonitoredMachine) → RunObserved enclave hart one one_run
    → RunObserved enclave hart other other_run
    → RelatedAfterMoves enclave hart (replicate one_run.ran.steps hart) (replicate other_run.ran.steps hart) one other nothing_ran nothing_ran
    → one_run.ran.stop ≡ other_run.ran.stop
    → run_text enclave hart one one_run ≡ run_text enclave hart other other_run
run_texts enclave hart one other one_run other_run observed_of_one observed_of_other both_moved same_stop =
    let one_observed = observed_steps enclave hart (replicate one_run.ran.steps hart) one nothing_ran in
    let other_observed = observed_steps enclave hart (replicate other_run.ran.steps hart) other nothing_ran in
    let related : AreRelated enclave one_run.state other_run.state =
    subst (λ (one_state : MonitoredMachine). AreRelated enclave one_state other_run.state) observed_of_one.state_is
    (subst (AreRelated enclave _) observed_of_other.state_is both_moved.related_after) in
    let same_ran : runs_on enclave hart one_run.state ≡ false → one_observed ≡ other_observed =
    λ not_on_hart. both_moved.same_summaries (ap (runs_on enclave hart) observed_of_one.state_is ∙ not_on_hart) in
    let hart_related = related.hart_states hart in
    elim (cases_Bool (runs_on enclave hart one_run.state)) [
      -- the enclave runs on the hart after the first run, and therefore after the second run: both texts are empty
      | inl on_hart ↦
          let on_other_hart : runs_on enclave hart other_run.state ≡ true = sym (ap (is_world_of enclave) hart_related.world) ∙ on_hart in
          rw (on_hart, on_other_hart) refl
      -- the enclave runs on the hart after neither run: the observed steps, the last trap and the state of the hart are equal
      | inr not_on_hart ↦
          let not_on_other_hart : runs_on enclave hart other_run.state ≡ false = sym (ap (is_world_of enclave) hart_related.world) ∙ not_on_hart in
          let same_trap : one_run.ran.trap ≡ other_run.ran.trap =
          sym observed_of_one.last_trap_is ∙ ap (λ (ran : HartRan). ran.trap) (same_ran not_on_hart) ∙ observed_of_other.last_trap_is in
          let same_steps : one_observed.steps ≡ other_observed.steps = ap (λ (ran : HartRan). ran.steps) (same_ran not_on_hart) in
          let text : HartState → ℕ → Option Trap → Stop → List ℕ = λ hart_state steps trap stop.
          ran_text hart_state.hart.pc hart_state.hart.mode (world_name hart_state.world)
          (record { steps = steps; trap = trap; stop = stop; entered = 0 }) in
          rw (not_on_hart, not_on_other_hart)
          (ap₂ (λ (hart_state : HartState) (steps : ℕ). text hart_state steps one_run.ran.trap one_run.ran.stop) (hart_related.same not_on_hart)
          same_steps
          ∙ ap₂ (text (guest_state (hart_state_of hart other_run.state)) other_observed.steps) same_trap same_stop)
    ]

-- two runs of related machines whose steps are moves, and that stop alike, have equal observations
pub runs_alike : (enclave hart : ℕ) (one other : MonitoredMachine) (breaks watches : List ℕ) (count : ℕ) → Invariant one → Invariant other
    → AreRelated enclave one other → StepsAreMoves enclave one other (replicate (steps_of (selected_at hart one) breaks watches count).ran.steps hart)
    (replicate (steps_of (selected_at hart other) breaks watches count).ran.steps hart)
    → (steps_of (selected_at hart one) breaks watches count).ran.stop ≡ (steps_of (selected_at hart other) breaks watches count).ran.stop
    → observed_run enclave (selected_at hart one) (steps_of (selected_at hart one) breaks watches count)
    ≡ observed_run enclave (selected_at hart other) (steps_of (selected_at hart other) breaks watches count)
runs_alike enclave hart one other breaks watches count invariant other_invariant related steps_are_moves same_stop =
    let run_of : MonitoredMachine → AfterRun MonitoredMachine = λ machine.
    run (hart_stepped hart) (hart_pc hart) breaks watches count (no_steps machine) in
    let one_run_is = run_monitored hart breaks watches count (no_steps one) in
    let other_run_is = run_monitored hart breaks watches count (no_steps other) in
    let harts_of_run : AfterRun Target → List ℕ = λ after. replicate after.ran.steps hart in
    let stop_of_run : AfterRun Target → Stop = λ after. after.ran.stop in
    let machine_steps : StepsAreMoves enclave one other (replicate (run_of one).ran.steps hart) (replicate (run_of other).ran.steps hart) =
    subst (λ (one_harts : List ℕ). StepsAreMoves enclave one other one_harts (replicate (run_of other).ran.steps hart)) (ap harts_of_run one_run_is)
    (subst (StepsAreMoves enclave one other _) (ap harts_of_run other_run_is) steps_are_moves) in
    observed_run_is enclave hart breaks watches count one
    ∙ run_texts enclave hart one other (run_of one) (run_of other) (run_observed enclave hart breaks watches count one)
    (run_observed enclave hart breaks watches count other)
    (related_after_moves enclave hart _ _ one other invariant other_invariant related machine_steps)
    (sym (ap stop_of_run one_run_is) ∙ same_stop ∙ ap stop_of_run other_run_is)
    ∙ sym (observed_run_is enclave hart breaks watches count other)

-- ---- schedules

-- `after` is the target after a schedule, with some hart selected
record IsScheduled (harts : List ℕ) (machine : MonitoredMachine) (after : Target) : Type 0 where
  hart : ℕ
  state_is : after ≡ selected_at hart (sched harts machine).state

-- a schedule leaves the machine in the state after its steps
schedule_state : (harts : List ℕ) (machine : Selected) (summary : Scheduled)
    → IsScheduled harts machine.state (scheduled_steps harts (after_schedule (Monitored machine) summary)).state
unfolding scheduled_steps
schedule_state [] machine summary = record { hart = machine.hart; state_is = refl }
schedule_state (hart ∷ harts) machine summary =
    let before = after_schedule (Monitored machine) summary in
    let state_after = schedule_state harts (record { hart = hart; state = (step_of hart machine.state).state })
    (with_scheduled_step hart before (target_stepped (with_selected hart before.state))).did in
    record { hart = state_after.hart; state_is = state_after.state_is }

-- `hart_line` is the observation of the summary of one hart
abbrev hart_line : ℕ → MonitoredMachine → ℕ → HartRan → List ℕ
hart_line enclave machine hart ran =
    let hart_state = hart_state_of hart machine in
    unless (runs_on enclave hart machine) (hart_text hart hart_state.hart.pc hart_state.hart.mode (world_name hart_state.world) ran)

-- `hart_lines` is the observation of the summaries of all harts
abbrev hart_lines : ℕ → MonitoredMachine → HartRan → HartRan → List ℕ
hart_lines enclave machine ran_0 ran_1 = hart_line enclave machine 0 ran_0
    ++ (if nat_lt 1 (count_of machine) then hart_line enclave machine 1 ran_1 else [])

-- what others observe of a schedule is `hart_lines` of its own steps on each hart
observed_harts_are : (enclave : ℕ) (harts : List ℕ) (machine : Selected) (summary : Scheduled)
    → observed_harts enclave (scheduled_steps harts (after_schedule (Monitored machine) summary))
    ≡ hart_lines enclave (sched harts machine.state).state (own_steps 0 harts machine.state summary.first)
    (own_steps 1 harts machine.state summary.second)
observed_harts_are enclave harts machine summary =
    let after = scheduled_steps harts (after_schedule (Monitored machine) summary) in
    let state_after = schedule_state harts machine summary in
    let (ran_0_is, ran_1_is) = schedule_summaries_are harts machine summary in
    let lines : Target → HartRan → HartRan → List ℕ = λ target ran_0 ran_1.
    observed_hart enclave target 0 ran_0 ++ (if nat_lt 1 (harts_of target) then observed_hart enclave target 1 ran_1 else []) in
    ap (λ (target : Target). lines target after.did.first after.did.second) state_after.state_is
    ∙ ap₂ (lines (selected_at state_after.hart (sched harts machine.state).state)) ran_0_is ran_1_is

-- the steps of the harts are moves of both machines, for the observations of each hart
module _ (enclave : ℕ) (harts : List ℕ) (one other : MonitoredMachine)
    (moves : (shown_hart : ℕ) → RelatedAfterMoves enclave shown_hart harts harts one other nothing_ran nothing_ran) where
  -- the observed summaries of a hart are equal
  same_hart_line : (shown_hart : ℕ) → hart_line enclave (sched harts one).state shown_hart (own_steps shown_hart harts one nothing_ran)
      ≡ hart_line enclave (sched harts other).state shown_hart (own_steps shown_hart harts other nothing_ran)
  same_hart_line shown_hart =
      let moved_alike = moves shown_hart in
      let one_ran = own_steps shown_hart harts one nothing_ran in
      let other_ran = own_steps shown_hart harts other nothing_ran in
      let hart_related = moved_alike.related_after.hart_states shown_hart in
      elim (cases_Bool (runs_on enclave shown_hart (sched harts one).state)) [
        -- the enclave runs on the shown hart after both schedules: both observations are empty
        | inl on_hart ↦
            let on_other_hart : runs_on enclave shown_hart (sched harts other).state ≡ true =
            sym (ap (is_world_of enclave) hart_related.world) ∙ on_hart in
            rw (on_hart, on_other_hart) refl
        -- it runs on the shown hart after neither schedule: the state of the hart, its steps and its last trap are equal
        | inr not_on_hart ↦
            let not_on_other_hart : runs_on enclave shown_hart (sched harts other).state ≡ false = sym (ap (is_world_of enclave) hart_related.world)
            ∙ not_on_hart in
            let same_steps : one_ran.steps ≡ other_ran.steps = same_step_counts shown_hart harts one other nothing_ran nothing_ran refl in
            let same_trap : one_ran.trap ≡ other_ran.trap = same_last_traps enclave shown_hart harts one nothing_ran nothing_ran refl
            ∙ ap (λ (ran : HartRan). ran.trap) (moved_alike.same_summaries not_on_hart)
            ∙ sym (same_last_traps enclave shown_hart harts other nothing_ran nothing_ran refl) in
            let text : HartState → ℕ → Option Trap → List ℕ = λ hart_state steps trap.
            hart_text shown_hart hart_state.hart.pc hart_state.hart.mode (world_name hart_state.world) (record { steps = steps; trap = trap }) in
            rw (not_on_hart, not_on_other_hart)
            (ap (λ (hart_state : HartState). text hart_state one_ran.steps one_ran.trap) (hart_related.same not_on_hart)
            ∙ ap₂ (text (guest_state (hart_state_of shown_hart (sched harts other).state))) same_steps same_trap)
      ]

  -- the observed summaries of all harts are equal
  same_hart_lines : hart_lines enclave (sched harts one).state (own_steps 0 harts one nothing_ran) (own_steps 1 harts one nothing_ran)
      ≡ hart_lines enclave (sched harts other).state (own_steps 0 harts other nothing_ran) (own_steps 1 harts other nothing_ran)
  same_hart_lines =
      let moved_alike = moves 0 in
      ap₂ (λ (line lines : List ℕ). line ++ lines) (same_hart_line 0)
      (ap₂ (λ (hart_count : ℕ) (line : List ℕ). if nat_lt 1 hart_count then line else []) moved_alike.related_after.harts (same_hart_line 1))

-- two schedules of related machines whose steps are moves have equal observations
pub schedules_alike : (enclave hart : ℕ) (harts : List ℕ) (one other : MonitoredMachine) → Invariant one → Invariant other
    → AreRelated enclave one other
    → StepsAreMoves enclave one other harts harts → observed_harts enclave (scheduled_steps harts (schedule_start (selected_at hart one)))
    ≡ observed_harts enclave (scheduled_steps harts (schedule_start (selected_at hart other)))
schedules_alike enclave hart harts one other invariant other_invariant related steps =
    observed_harts_are enclave harts (record { hart = hart; state = one }) _
    ∙ same_hart_lines enclave harts one other
    (λ shown_hart. related_after_moves enclave shown_hart harts harts one other invariant other_invariant related steps)
    ∙ sym (observed_harts_are enclave harts (record { hart = hart; state = other }) _)

-- ---- registers

-- two related machines give the same observation of a CSR: none if the enclave runs on the hart, and else the reply to `csr`
pub csrs_alike : (enclave hart : ℕ) (one other : MonitoredMachine) (number : ℕ) → AreRelated enclave one other
    → unless (runs_on enclave hart one) (csr_reply (guest_target (selected_at hart one)) number)
    ≡ unless (runs_on enclave hart other) (csr_reply (guest_target (selected_at hart other)) number)
csrs_alike enclave hart one other number related =
    let text : HartState → List ℕ = λ hart_state.
    if number == mhartid then csr_text number hart else result_case (read_result hart_state.hart.csrs number M) (csr_text number)
    (λ _. no_csr_text) in
    ap (λ (hart_state : HartState). unless (runs_on enclave hart one) (text hart_state)) (guest_hart_state hart one)
    ∙ hart_texts enclave hart one other related text
    ∙ sym (ap (λ (hart_state : HartState). unless (runs_on enclave hart other) (text hart_state)) (guest_hart_state hart other))

-- two related machines have equal PMP entries in each hart
pub entries_alike : (enclave hart : ℕ) (one other : MonitoredMachine) → Invariant one → Invariant other → AreRelated enclave one other
    → (hart_state_of hart one).hart.csrs.pmp ≡ (hart_state_of hart other).hart.csrs.pmp
entries_alike enclave hart one other invariant other_invariant related =
    equal_entries hart one other invariant other_invariant related.harts related.table (related.hart_states hart).world

-- ---- memory

-- if a disjunction fails, then both its parts fail
both_parts_fail : (left right : Bool) → (left || right) ≡ false → (left ≡ false) × (right ≡ false)
both_parts_fail false right or_fails = (refl, or_fails)
both_parts_fail true right or_fails = cc

-- two related machines
module _ (enclave : ℕ) (one other : MonitoredMachine) (related : AreRelated enclave one other) where
  -- a block names private bytes of the enclave if it has bytes of the region, or bytes of the window while the enclave runs
  abbrev names_private_bytes : MonitoredMachine → Block → Bool
  names_private_bytes machine block =
      meets block (region machine.shared.table enclave) || (runs machine.shared.table enclave && meets block (window machine.shared.table enclave))

  -- every byte of a block that names no private bytes must be equal in related memories
  no_private_byte : (block : Block) → names_private_bytes one block ≡ false → IsSeen (may_differ one.shared.table enclave) block.base block.size
  no_private_byte block not_private byte at_or_above_base below_end =
      let (outside_region_block, not_in_window_while_running) = both_parts_fail (meets block (region one.shared.table enclave)) _ not_private in
      let outside_region = seen_block block (region one.shared.table enclave) outside_region_block byte at_or_above_base below_end in
      elim (cases_Bool (runs one.shared.table enclave)) [
        -- the enclave does not run: only bytes of its region may differ, and the byte is outside the region
        | inr not_running ↦ rw (outside_region, not_running) refl
        -- the enclave runs: the byte is outside its region and its window
        | inl running ↦
            let outside_window_block =
            ap (λ (runs_now : Bool). runs_now && meets block (window one.shared.table enclave)) (sym running) ∙ not_in_window_while_running in
            let outside_window = seen_block block (window one.shared.table enclave) outside_window_block byte at_or_above_base below_end in
            rw (outside_region, running, outside_window) refl
      ]

  -- a read of a block that names no private bytes gives equal bytes in both memories
  reads_alike : (block : Block) → names_private_bytes one block ≡ false → read one.shared.memory block.base block.size
      ≡ read other.shared.memory block.base block.size
  reads_alike block not_private =
      let memory = related.memory in
      elim (cases_Bool (is_inside one.shared.memory block.base block.size)) [
        -- the block is in RAM: both reads give its bytes, which are equal
        | inl in_ram ↦ same_read (may_differ one.shared.table enclave) one.shared.memory other.shared.memory block.base block.size memory in_ram
            (no_private_byte block not_private)
        -- the block is not all in RAM: both reads give None
        | inr outside_ram ↦
            let same_size = memory.size in
            read-none one.shared.memory block.base block.size outside_ram
            ∙ sym (read-none other.shared.memory block.base block.size (rw (← same_size) outside_ram))
      ]

  -- a text about the bytes of a block has equal observations in both machines: none if the block names private bytes
  pub memory_texts : (block : Block) (text : Option (List ℕ) → List ℕ)
      → unless (names_private_bytes one block) (text (read one.shared.memory block.base block.size))
      ≡ unless (names_private_bytes other block) (text (read other.shared.memory block.base block.size))
  memory_texts block text =
      let same_names : names_private_bytes one block ≡ names_private_bytes other block =
      ap (λ (table : Slots). meets block (region table enclave) || (runs table enclave && meets block (window table enclave))) related.table in
      elim (cases_Bool (names_private_bytes one block)) [
        -- the block names private bytes in both machines: both texts are hidden
        | inl is_private ↦
            let same_in_other : names_private_bytes other block ≡ true = sym same_names ∙ is_private in
            rw (is_private, same_in_other) refl
        -- it names none: the bytes that are read are equal
        | inr not_private ↦
            let same_in_other : names_private_bytes other block ≡ false = sym same_names ∙ not_private in
            rw (not_private, same_in_other) (ap text (reads_alike block not_private))
      ]
