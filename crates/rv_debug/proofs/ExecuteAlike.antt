-- Noninterference of a command. Two benches that are equivalent except for an enclave have equal replies to a command that shows no private byte
-- of the enclave and avoids its hart. If the command does not enter the enclave, they stay equivalent.
use Rattle.std.proofs.Common.{◌≡◌, ℕ, zero, suc, ◌==◌, ◌+◌, ◌-◌, ◌<◌, ◌≤◌, Bool, true, false, List, [], ◌∷◌, length, Option, refl, sym, ◌∙◌, ap, ap₂}
use Rattle.std.proofs.Common.{subst, inl, inr, arith}
use Rattle.std.specs.Prelude.{nat_lt, ◌++◌, if◌then◌else◌}
use Rattle.std.proofs.lemmas.Bool.{not-true}
use Rattle.rv_pmp.specs.declared.access.Access.{Access as AccessKind}
use Rattle.rv_enclaves.specs.Layout.{layout}
use Rattle.rv_enclaves.specs.declared.shared.Shared.{Shared}
use Rattle.rv_enclaves.specs.declared.world.World.{World}
use Rattle.rv_enclaves.proofs.EqualMemory.{same_read, read-none, write-none, same_write, write-some}
use Rattle.rv_enclaves.specs.SharedEquivExcept.{EqualOutside, is_private}
use Rattle.rv_debug.specs.Prelude.{Access, EquivExcept, Bare, Block, Command, Csr, Dis, Enclaves, Entries, Hart, HartRan, Invariant, M}
use Rattle.rv_debug.specs.Prelude.{MonitoredMachine, Mem, Mode, Monitored, Pmp, Poke, Ran, Reg, Regs, Run, RunsOnNone, Sched, Scheduled, HartState}
use Rattle.rv_debug.specs.Prelude.{SetReg, Slots, Machine, Step, Target, Timer, Width, bytes_in, count_of, harts_in, has_all, is_inside, is_world_of}
use Rattle.rv_debug.specs.Prelude.{meets, number_of_bytes, option_case, ram_base, read, read_result, reg_set, region, register, result_case, runs_on}
use Rattle.rv_debug.specs.Prelude.{hart_state_of, timer_line_set, write, write_bytes}
use Rattle.rv_debug.specs.EnclaveText.{table_text}
use Rattle.rv_debug.proofs.Prelude.{AfterRun, AfterSchedule, RemainEquiv, Executed, BenchState, BenchesEquivExcept, Selected, SelectedEquivExcept}
use Rattle.rv_debug.proofs.Prelude.{NoninterferenceLaw, Effect, IsBare, TargetInvariant, Nothing, AvoidsHart, RunsOnNoHart, Steps, TargetsEquivExcept}
use Rattle.rv_debug.proofs.Prelude.{access_reply, execute, cases_Bool, cases_eq, cases_lt, changed_equiv, selected_at, csr_text, effect, dis_text}
use Rattle.rv_debug.proofs.Prelude.{done, entered_by, gone_equal, hart_text, hart_summary_text, harts_summary_text, is_blind, is_entered, memory_text}
use Rattle.rv_debug.proofs.Prelude.{no_csr_text, no_hart_text, no_steps, schedule_start, ok_text, option_map, outside_text, over_memory}
use Rattle.rv_debug.proofs.Prelude.{hart_view_invariant, past_hart_state, pmp_text, ran_reply, ran_text, range_with_len, register_text}
use Rattle.rv_debug.proofs.Prelude.{registers_text, run, run_effect, seen_block, shared_equiv, steps_of, scheduled_steps, with_selected, world_name}
use Rattle.rv_debug.proofs.EffectsInvariant.{effect_stays_bare, command_keeps_invariant, poke_of}
use Rattle.rv_debug.proofs.RunSchedules.{run_done, run_entered}
use Rattle.rv_debug.proofs.SchedAlike.{NeitherEnters, on_none_of, scheduled_steps_alike}
use Rattle.rv_debug.proofs.StepsAlike.{RunAlike, run-alike}
use Rattle.rv_debug.proofs.TargetRuns.{hart_pc, hart_stepped, target_of, run_monitored}
use Rattle.rv_debug.proofs.ScheduledSteps.{after_schedule, bare_target}

-- ---- equal replies and equivalent states; the end of the file proves that the benches are equal once the enclave has ended

-- two executions have equal replies and entered slots, and leave benches that are equivalent except for `enclave`
record ExecutedAlike (enclave : ℕ) (one other : Executed) : Type 0 where
  pub reply : one.reply ≡ other.reply
  -- both enter the same slots
  pub entered : one.entered ≡ other.entered
  pub state : BenchesEquivExcept enclave one.state other.state

-- two executions enter `enclave` both or neither; if neither, they have equal replies and leave equivalent benches
record AlikeUnlessEntered (enclave : ℕ) (one other : Executed) : Type 0 where
  -- the entered slots have `enclave` in both executions or in neither
  pub entered : is_entered enclave one.entered ≡ is_entered enclave other.entered
  pub passed : is_entered enclave one.entered ≡ false → ExecutedAlike enclave one other

-- `bench_of` is the bench over a target, with the given breakpoints and watchpoints
abbrev pub bench_of : Target → List ℕ → List ℕ → BenchState
bench_of target breaks watches = record { target = target; breaks = breaks; watches = watches }

-- the number of the CSR mhartid
abbrev pub mhartid : ℕ
mhartid = 0xF14

-- `executed_with` is the result of a command that enters no enclave
abbrev executed_with : Target → List ℕ → List ℕ → List ℕ → Executed
executed_with target breaks watches reply = record { state = bench_of target breaks watches; reply = reply; entered = 0 }

-- two executions that enter no enclave, leave equivalent targets and have equal replies are alike
equal_replies_alike : (enclave : ℕ) (one other : Target) (breaks watches reply other_reply : List ℕ) → TargetsEquivExcept enclave one other
    → reply ≡ other_reply
    → AlikeUnlessEntered enclave (executed_with one breaks watches reply) (executed_with other breaks watches other_reply)
equal_replies_alike enclave one other breaks watches reply other_reply equiv same_reply = record {
  entered = refl;
  passed = λ not_entered. record { reply = same_reply; entered = refl; state = record { target = equiv; breaks = refl; watches = refl } };
}

-- ---- steps of named harts, with the same summary for both

-- the summary of a hart is equal in equivalent machines, if the enclave runs on no hart
same_hart_summary : (enclave hart : ℕ) (ran : HartRan) (one other : Selected) → SelectedEquivExcept enclave one other
    → RunsOnNoHart enclave (Monitored one)
    → hart_summary_text (Monitored one) hart ran ≡ hart_summary_text (Monitored other) hart ran
same_hart_summary enclave hart ran one other equiv on_no_hart =
    let hart_states = (let state = equiv.state in state.hart_states hart) in
    ap (λ (hart_state : HartState). hart_text hart hart_state.hart.pc hart_state.hart.mode (world_name hart_state.world) ran)
    (hart_states.same (on_no_hart hart))

-- the summaries of all harts are equal in equivalent machines, if the enclave runs on no hart
same_summaries : (enclave : ℕ) (summary : Scheduled) (one other : Selected) → SelectedEquivExcept enclave one other
    → RunsOnNoHart enclave (Monitored one)
    → harts_summary_text (after_schedule (Monitored one) summary) ≡ harts_summary_text (after_schedule (Monitored other) summary)
same_summaries enclave summary one other equiv on_no_hart =
    let state = equiv.state in
    ap₂ (λ (line lines : List ℕ). line ++ lines) (same_hart_summary enclave 0 summary.first one other equiv on_no_hart)
    (ap₂ (λ (hart_count : ℕ) (line : List ℕ). if nat_lt 1 hart_count then line else []) state.harts
    (same_hart_summary enclave 1 summary.second one other equiv on_no_hart))

-- `schedule_executed` is the result of the command `sched`: the bench after the schedule, the summary and the entered slots
abbrev pub schedule_executed : ℕ → List ℕ → List ℕ → AfterSchedule → Executed
schedule_executed hart breaks watches after =
    record { state = bench_of (with_selected hart after.state) breaks watches; reply = harts_summary_text after; entered = after.did.entered }

-- the command `sched` is alike in two equivalent machines, if both schedules have equal summaries and the enclave runs on no hart
equal_schedules_alike : (enclave hart : ℕ) (breaks watches : List ℕ) (summary other_summary : Scheduled) (one other : Selected)
    → summary ≡ other_summary → SelectedEquivExcept enclave one other → RunsOnNoHart enclave (Monitored one)
    → AlikeUnlessEntered enclave (schedule_executed hart breaks watches (after_schedule (Monitored one) summary))
    (schedule_executed hart breaks watches (after_schedule (Monitored other) other_summary))
equal_schedules_alike enclave hart breaks watches summary other_summary one other same_summary equiv on_no_hart =
    subst (λ (summary_of_second : Scheduled).
    AlikeUnlessEntered enclave (schedule_executed hart breaks watches (after_schedule (Monitored one) summary))
    (schedule_executed hart breaks watches (after_schedule (Monitored other) summary_of_second))) same_summary
    (record {
      entered = refl;
      passed = λ not_entered. record {
        reply = same_summaries enclave summary one other equiv on_no_hart;
        entered = refl;
        state = record { target = record { hart = refl; state = equiv.state }; breaks = refl; watches = refl };
      };
    })

-- the command `sched` is alike in two benches, if neither schedule enters the enclave and the enclave runs on no hart before them
unentered_schedules_alike : (enclave hart : ℕ) (breaks watches : List ℕ) (start : Selected) (one other : AfterSchedule)
    → RunsOnNoHart enclave (Monitored start)
    → NeitherEnters enclave start one other
    → AlikeUnlessEntered enclave (schedule_executed hart breaks watches one) (schedule_executed hart breaks watches other)
unentered_schedules_alike enclave hart breaks watches start one other on_no_hart neither_enters =
    subst (λ (target : Target). AlikeUnlessEntered enclave (schedule_executed hart breaks watches (after_schedule target one.did))
    (schedule_executed hart breaks watches other))
    (sym neither_enters.one_state_is)
    (subst (λ (target : Target).
    AlikeUnlessEntered enclave (schedule_executed hart breaks watches (after_schedule (Monitored neither_enters.end_of_one) one.did))
    (schedule_executed hart breaks watches (after_schedule target other.did))) (sym neither_enters.other_state_is)
    (equal_schedules_alike enclave hart breaks watches one.did other.did neither_enters.end_of_one neither_enters.end_of_other
    neither_enters.same_summary neither_enters.equiv_ends (neither_enters.on_no_hart on_no_hart)))

-- ---- a run

-- `steps_execute` is the result of the command `step` or `run`, from the result of its run
abbrev steps_execute : List ℕ → List ℕ → AfterRun Target → Executed
steps_execute breaks watches after = record { state = bench_of after.state breaks watches; reply = ran_reply after; entered = after.ran.entered }

-- `run_execute` is the result of the command `step` or `run`, from the effect of the command on the target. The run stops at `at_breaks` and
-- `at_watches`.
abbrev run_execute : Target → List ℕ → List ℕ → List ℕ → List ℕ → ℕ → Executed
run_execute target breaks watches at_breaks at_watches count =
    let effect_of_run = run_effect target at_breaks at_watches count in
    record {
      state = bench_of (done target effect_of_run) breaks watches;
      reply = ran_reply
          (steps_of target at_breaks at_watches count);
      entered = entered_by target effect_of_run;
    }

-- the effect of a run leaves the target, and enters the slots, that the run itself does
run_effect_executed : (target : Target) (breaks watches at_breaks at_watches : List ℕ) (count : ℕ)
    → run_execute target breaks watches at_breaks at_watches count ≡ steps_execute breaks watches (steps_of target at_breaks at_watches count)
run_effect_executed target breaks watches at_breaks at_watches count =
    let reply = ran_reply (steps_of target at_breaks at_watches count) in
    ap₂ (λ (after : Target) (entered : ℕ). record { state = bench_of after breaks watches; reply = reply; entered = entered })
    (run_done target at_breaks at_watches count) (run_entered target at_breaks at_watches count)

-- ---- what two machines have in common

-- a hart has equal PMP entries in two machines with the invariant, if they have the same table and number of harts and the hart has the same world
pub equal_entries : (hart : ℕ) (one other : MonitoredMachine) → Invariant one → Invariant other → count_of one ≡ count_of other
    → one.shared.table ≡ other.shared.table → (hart_state_of hart one).world ≡ (hart_state_of hart other).world
    → (hart_state_of hart one).hart.csrs.pmp ≡ (hart_state_of hart other).hart.csrs.pmp
equal_entries hart one other invariant other_invariant same_harts same_table same_world =
    let entries : HartState → Entries = λ hart_state. hart_state.hart.csrs.pmp in
    elim (cases_lt hart (count_of one)) [
      -- neither machine has the hart: both have the state of a hart past the last one
      | inr out_of_range ↦
          let other_out_of_range : count_of other ≤ hart = omega (arith, same_harts, out_of_range) in
          ap entries (past_hart_state one.hart_states hart out_of_range ∙ sym (past_hart_state other.hart_states hart other_out_of_range))
      -- both machines have the hart: its entries are the layout of the table and its world
      | inl in_range ↦
          let entries_of : Slots → World → Entries = λ table world. layout table world in
          let first_layout = (hart_view_invariant hart one invariant in_range).hart.layout.entries in
          let second_layout = (hart_view_invariant hart other other_invariant (omega (arith, same_harts, in_range))).hart.layout.entries in
          first_layout ∙ ap₂ entries_of same_table same_world ∙ sym second_layout
    ]

-- the reply to `access` is equal for two memories of the same size: it depends on the PMP entries and the address, not on the bytes
pub same_access_reply : (one_memory other_memory : List ℕ) → length one_memory ≡ length other_memory
    → (entries : Entries) (mode : Mode) (access : AccessKind) (address : ℕ) (width : Width)
    → access_reply one_memory entries mode access address width ≡ access_reply other_memory entries mode access address width
unfolding read
same_access_reply one_memory other_memory same_size entries mode access address width =
    elim (cases_Bool (is_inside one_memory address (bytes_in width))) [
      -- the block is in RAM of both memories, which have the same size: both replies are the verdict of the PMP entries
      | inl in_ram ↦ rw (← same_size, in_ram) refl
      -- the block is not all in RAM of either memory: the replies are equal
      | inr outside_ram ↦ rw (← same_size, outside_ram) refl
    ]

-- ---- monitored machines

-- an enclave that runs on none of `count` harts from `start` on does not run on a hart that is one of them
not_on_hart_of_range : (enclave count start hart : ℕ) (machine : MonitoredMachine) → RunsOnNone enclave (range_with_len start count) machine
    → start ≤ hart
    → hart < start + count
    → runs_on enclave hart machine ≡ false
not_on_hart_of_range enclave zero start hart machine runs_on_none from_start below_end = absurd (omega (arith, from_start, below_end))
not_on_hart_of_range enclave (suc count) start hart machine (not_on_start, on_none_of_rest) from_start below_end = elim (cases_eq hart start) [
  -- the hart is the first of the range
  | inl is_start ↦ ap (λ (other_hart : ℕ). runs_on enclave other_hart machine) is_start ∙ not_on_start
  -- the hart is one of the others, and the claim holds by induction
  | inr is_not_start ↦
      not_on_hart_of_range enclave count (start + 1) hart machine on_none_of_rest (omega (arith, from_start, is_not_start)) (omega (arith, below_end))
]

-- an enclave that runs on none of the harts of the machine runs on no hart
on_no_hart_of_machine : (enclave : ℕ) (machine : MonitoredMachine) → RunsOnNone enclave (range_with_len 0 (count_of machine)) machine
    → (hart : ℕ) → runs_on enclave hart machine ≡ false
on_no_hart_of_machine enclave machine runs_on_none hart = elim (cases_lt hart (count_of machine)) [
  | inl in_range ↦ not_on_hart_of_range enclave (count_of machine) 0 hart machine runs_on_none (omega arith) (omega (arith, in_range))
  | inr out_of_range ↦ ap (λ (hart_state : HartState). is_world_of enclave hart_state.world) (past_hart_state machine.hart_states hart out_of_range)
]

-- two equivalent machines `one` and `other` with hart `hart` selected, in benches with equal breakpoints and watchpoints
module _ (enclave hart : ℕ) (one other : MonitoredMachine) (equiv : EquivExcept enclave one other) (breaks watches : List ℕ) where
  -- the target with the given machine, and hart `hart` selected
  abbrev as_target : MonitoredMachine → Target
  as_target machine = selected_at hart machine

  -- the given machine, with hart `hart` selected
  abbrev as_selected : MonitoredMachine → Selected
  as_selected machine = record { hart = hart; state = machine }

  -- `bench_of_one` is the bench with the machine `one`
  abbrev bench_of_one : BenchState
  bench_of_one = bench_of (as_target one) breaks watches

  -- `bench_of_other` is the bench with the machine `other`
  abbrev bench_of_other : BenchState
  bench_of_other = bench_of (as_target other) breaks watches

  -- the targets of the two benches are equivalent except for `enclave`
  targets_equiv : TargetsEquivExcept enclave (as_target one) (as_target other)
  targets_equiv = record { hart = refl; state = equiv }

  -- a command that leaves both benches unchanged and has equal replies is executed alike
  unchanged_alike : (reply other_reply : List ℕ) → reply ≡ other_reply
      → AlikeUnlessEntered enclave (executed_with (as_target one) breaks watches reply) (executed_with (as_target other) breaks watches other_reply)
  unchanged_alike reply other_reply same_reply =
      equal_replies_alike enclave (as_target one) (as_target other) breaks watches reply other_reply targets_equiv same_reply

  -- ---- replies about a hart that does not run the enclave

  -- if a command that shows the selected hart avoids the hart of the enclave, the state of the selected hart is equal in both machines
  same_selected_hart : AvoidsHart enclave bench_of_one Regs → hart_state_of hart one ≡ hart_state_of hart other
  same_selected_hart (not_on_hart, _) =
      let hart_equiv = equiv.hart_states hart in
      hart_equiv.same not_on_hart

  -- two equivalent machines have equal PMP entries in each hart
  same_entries : Invariant one → Invariant other → (hart_state_of hart one).hart.csrs.pmp ≡ (hart_state_of hart other).hart.csrs.pmp
  same_entries invariant other_invariant =
      let shared = equiv.shared in
      let hart_equiv = equiv.hart_states hart in
      equal_entries hart one other invariant other_invariant equiv.harts shared.table hart_equiv.world

  -- ---- replies about memory

  -- the memories are equal outside the region of `enclave`
  abbrev memory_equiv : EqualOutside (is_private one.shared.table enclave) one.shared.memory other.shared.memory
  memory_equiv = let shared = equiv.shared in shared.memory

  -- a read of a block that does not meet the region is equal in both memories
  same_visible_read : (block : Block) → meets block (region one.shared.table enclave) ≡ false
      → read one.shared.memory block.base block.size ≡ read other.shared.memory block.base block.size
  same_visible_read block meets_no_private =
      let memory = memory_equiv in
      elim (cases_Bool (is_inside one.shared.memory block.base block.size)) [
        -- the block is in RAM: both reads give its bytes, and none of them is private
        | inl in_ram ↦ same_read (is_private one.shared.table enclave) one.shared.memory other.shared.memory block.base block.size memory in_ram
            (seen_block block (region one.shared.table enclave) meets_no_private)
        -- the block is not all in RAM: both reads give None
        | inr outside_ram ↦
            let same_size = memory.size in
            read-none one.shared.memory block.base block.size outside_ram
            ∙ sym (read-none other.shared.memory block.base block.size (rw (← same_size) outside_ram))
      ]

  -- ---- a poked byte

  -- `poke_execute` is the result of a poke, where the option is the memory after the write, or `None` outside RAM
  abbrev poke_execute : MonitoredMachine → Option (List ℕ) → Executed
  poke_execute machine memory =
      executed_with (poke_of (as_target machine) memory) breaks watches
      (option_case (option_map (over_memory (as_target machine)) memory) outside_text (λ after. ok_text))

  -- equal pokes are alike in both benches
  poke_alike : (address byte : ℕ)
      → AlikeUnlessEntered enclave (poke_execute one (write one.shared.memory address (byte ∷ [])))
      (poke_execute other (write other.shared.memory address (byte ∷ [])))
  poke_alike address byte =
      let shared = equiv.shared in
      let memory = memory_equiv in
      let same_size = memory.size in
      let bytes = byte ∷ [] in
      elim (cases_Bool (is_inside one.shared.memory address 1)) [
        -- the address is in RAM: the same byte is written to both memories
        | inl in_ram ↦
            let write_to_one = write-some one.shared.memory address bytes in_ram in
            let write_to_other = write-some other.shared.memory address bytes (rw (← same_size) in_ram) in
            let written_equal =
            same_write (is_private one.shared.table enclave) one.shared.memory other.shared.memory address bytes _ _ memory write_to_one
            write_to_other in
            rw (write_to_one, write_to_other) (equal_replies_alike enclave _ _ breaks watches ok_text ok_text (record {
              hart = refl;
              state = shared_equiv enclave one other _ _ equiv (record {
                table = shared.table;
                memory = written_equal;
                contexts = shared.contexts;
                gone = λ has_ended. ap (λ (shared : Shared). record shared { memory = write_bytes shared.memory (address - ram_base) bytes })
                    (shared.gone has_ended);
              });
            }) refl)
        -- the address is outside RAM: neither bench changes
        | inr outside_ram ↦
            let write_to_one = write-none one.shared.memory address bytes outside_ram in
            let write_to_other = write-none other.shared.memory address bytes (rw (← same_size) outside_ram) in
            rw (write_to_one, write_to_other) (unchanged_alike outside_text outside_text refl)
      ]

  -- ---- steps

  -- the command `step` or `run` is alike in both benches, if its two runs are alike
  runs_executed_alike : (one_ran other_ran : AfterRun MonitoredMachine) → RunAlike enclave hart one_ran other_ran
      → AlikeUnlessEntered enclave (steps_execute breaks watches (target_of (selected_at hart) one_ran))
      (steps_execute breaks watches (target_of (selected_at hart) other_ran))
  -- both runs enter the enclave, so nothing is claimed of the replies and the benches
  runs_executed_alike one_ran other_ran (inl both_enter) = record {
    entered = both_enter.one_enters ∙ sym both_enter.other_enters;
    passed = λ not_entered. let contradiction : true ≡ false = sym both_enter.one_enters ∙ not_entered in cc;
  }
  -- neither run enters the enclave: the summaries and the states of the hart are equal, so the replies are
  runs_executed_alike one_ran other_ran (inr neither_enters) = record {
    entered = ap (λ (ran : Ran). is_entered enclave ran.entered) neither_enters.same_summary;
    passed = λ not_entered. record {
      reply =
          let hart_equiv = (let equiv_ends = neither_enters.equiv_ends in equiv_ends.hart_states hart) in
          ap₂ (λ (hart_state : HartState) (ran : Ran). ran_text hart_state.hart.pc hart_state.hart.mode (world_name hart_state.world) ran)
          (hart_equiv.same neither_enters.not_on_hart) neither_enters.same_summary;
      entered = ap (λ (ran : Ran). ran.entered) neither_enters.same_summary;
      state = record { target = record { hart = refl; state = neither_enters.equiv_ends }; breaks = refl; watches = refl };
    };
  }

  -- the result of a run command on the target is that of the run of one hart of its machine
  run_is_of_machine : (machine : MonitoredMachine) (at_breaks at_watches : List ℕ) (count : ℕ)
      → (let ran = run (hart_stepped hart) (hart_pc hart) at_breaks at_watches count (no_steps machine) in
      run_execute (as_target machine) breaks watches at_breaks at_watches count ≡ steps_execute breaks watches (target_of (selected_at hart) ran))
  run_is_of_machine machine at_breaks at_watches count =
      run_effect_executed (as_target machine) breaks watches at_breaks at_watches count
      ∙ ap (steps_execute breaks watches) (run_monitored hart at_breaks at_watches count (no_steps machine))

  -- the command `step` or `run` is alike in both benches, if it avoids the hart of the enclave
  run_alike_executed : (at_breaks at_watches : List ℕ) (count : ℕ) → Invariant one → Invariant other → AvoidsHart enclave bench_of_one Regs
      → AlikeUnlessEntered enclave (run_execute (as_target one) breaks watches at_breaks at_watches count)
      (run_execute (as_target other) breaks watches at_breaks at_watches count)
  run_alike_executed at_breaks at_watches count invariant other_invariant (not_on_hart, _) =
      subst (λ (one_executed : Executed).
      AlikeUnlessEntered enclave one_executed (run_execute (as_target other) breaks watches at_breaks at_watches count))
      (sym (run_is_of_machine one at_breaks at_watches count))
      (subst (AlikeUnlessEntered enclave (steps_execute breaks watches _)) (sym (run_is_of_machine other at_breaks at_watches count))
      (runs_executed_alike _ _ (run-alike enclave hart at_breaks at_watches count (no_steps one) other invariant other_invariant equiv
      not_on_hart)))

  -- ---- harts

  -- the command `hart` is alike in both benches, where `exist` and `other_exist` state whether the hart exists in each
  hart_selection_alike : (number : ℕ) (exist other_exist : Bool) (reply : Bool → List ℕ) → exist ≡ other_exist
      → (let answers : MonitoredMachine → Bool → Executed =
      λ machine hart_exists.
      let hart_effect : Effect = (if hart_exists then Steps [] number else Nothing) in
      record {
        state = bench_of (done (as_target machine) hart_effect) breaks watches;
        reply = reply hart_exists;
        entered = entered_by
            (as_target machine) hart_effect;
      } in
      AlikeUnlessEntered enclave (answers one exist) (answers other other_exist))
  unfolding scheduled_steps
  hart_selection_alike number true true reply same_exist =
      equal_replies_alike enclave _ _ breaks watches (reply true) (reply true) (record { hart = refl; state = equiv }) refl
  hart_selection_alike number false false reply same_exist = unchanged_alike (reply false) (reply false) refl
  hart_selection_alike number _ _ reply same_exist = cc

  -- `sched_executed` is the result of the command `sched`, where `exist` states whether its harts exist
  abbrev sched_executed : MonitoredMachine → List ℕ → Bool → Executed
  sched_executed machine harts exist =
      let sched_effect : Effect = (if exist then Steps harts hart else Nothing) in
      record {
        state = bench_of (done (as_target machine) sched_effect) breaks watches;
        reply = if exist then harts_summary_text (scheduled_steps harts (schedule_start (as_target machine))) else no_hart_text;
        entered = entered_by (as_target machine) sched_effect;
      }

  -- the command `sched` is alike in both benches, if the enclave runs on no hart
  sched_executed_alike : (harts : List ℕ) (exist other_exist : Bool) → exist ≡ other_exist
      → Invariant one → Invariant other → RunsOnNoHart enclave (as_target one)
      → AlikeUnlessEntered enclave (sched_executed one harts exist) (sched_executed other harts other_exist)
  sched_executed_alike harts true true same_exist invariant other_invariant on_no_hart =
      elim (scheduled_steps_alike enclave harts (as_selected one) (as_selected other) _ invariant other_invariant targets_equiv
      (on_none_of enclave harts one on_no_hart)) [
        -- both schedules enter the enclave, so nothing is claimed of the replies and the benches
        | inl both_enter ↦ record {
          entered = both_enter.one_enters ∙ sym both_enter.other_enters;
          passed = λ not_entered. let contradiction : true ≡ false = sym both_enter.one_enters ∙ not_entered in cc;
        }
        | inr neither_enters ↦ unentered_schedules_alike enclave hart breaks watches (as_selected one) _ _ on_no_hart neither_enters
      ]
  sched_executed_alike harts false false same_exist invariant other_invariant on_no_hart = unchanged_alike no_hart_text no_hart_text refl
  sched_executed_alike harts _ _ same_exist invariant other_invariant on_no_hart = cc

  -- ---- a command

  -- both machines have the invariant
  module _ (invariant : Invariant one) (other_invariant : Invariant other) where
    -- each command that accesses no byte of the region (blind) and avoids the hart of the enclave is alike in both benches
    command_alike : (command : Command) → is_blind enclave bench_of_one command ≡ true → AvoidsHart enclave bench_of_one command
        → AlikeUnlessEntered enclave (execute bench_of_one command) (execute bench_of_other command)
    unfolding execute is_blind
    -- `step` and `run` execute steps of the selected hart, on which the enclave does not run
    command_alike (Step count) blind avoids_hart = run_alike_executed [] [] count invariant other_invariant avoids_hart
    command_alike (Run count) blind avoids_hart = run_alike_executed breaks watches count invariant other_invariant avoids_hart
    -- a command that shows the selected hart shows equal states, because the enclave does not run on this hart
    command_alike (Reg number) blind avoids_hart =
        unchanged_alike _ _
        (ap (λ (hart_state : HartState). register_text number (register hart_state.hart.regs number)) (same_selected_hart avoids_hart))
    command_alike Regs blind avoids_hart =
        unchanged_alike _ _ (ap (λ (hart_state : HartState). registers_text hart_state.hart.regs hart_state.hart.pc) (same_selected_hart avoids_hart))
    command_alike (Csr number) blind avoids_hart =
        unchanged_alike _ _ (ap (λ (hart_state : HartState). if number == mhartid then csr_text number hart
        else result_case (read_result hart_state.hart.csrs number M) (csr_text number) (λ _. no_csr_text)) (same_selected_hart avoids_hart))
    -- a write of a register or of the timer line makes the same change in both machines
    command_alike (SetReg number value) blind avoids_hart = equal_replies_alike enclave _ _ breaks watches ok_text ok_text (record {
      hart = refl;
      state = changed_equiv enclave hart (reg_set number value) one other (λ hart_state. refl) equiv;
    }) refl
    command_alike (Timer raised) blind avoids_hart = equal_replies_alike enclave _ _ breaks watches ok_text ok_text (record {
      hart = refl;
      state = changed_equiv enclave hart (timer_line_set raised) one other (λ hart_state. refl) equiv;
    }) refl
    -- a blind command reads or writes only bytes outside the region, which are equal in both memories
    command_alike (Mem address count) blind avoids_hart =
        unchanged_alike _ _ (ap (λ (bytes : Option (List ℕ)). option_case bytes outside_text (memory_text address))
        (same_visible_read (record { base = address; size = count }) (not-true _ blind)))
    command_alike (Dis address) blind avoids_hart =
        unchanged_alike _ _ (ap (λ (bytes : Option (List ℕ)). option_case bytes outside_text (λ bytes. dis_text address (number_of_bytes bytes)))
        (same_visible_read (record { base = address; size = 4 }) (not-true _ blind)))
    command_alike (Poke address byte) blind avoids_hart = poke_alike address byte
    -- both machines have the same number of harts, so they select the same hart and execute the same schedules
    command_alike (Hart number) blind avoids_hart =
        hart_selection_alike number (nat_lt number (count_of one)) (nat_lt number (count_of other))
        (λ hart_exists. if hart_exists then ok_text else no_hart_text) (ap (nat_lt number) equiv.harts)
    command_alike (Sched schedule) blind avoids_hart =
        let harts = harts_in schedule in
        sched_executed_alike harts (has_all (count_of one) harts) (has_all (count_of other) harts)
        (ap (λ (hart_count : ℕ). has_all hart_count harts) equiv.harts) invariant other_invariant (on_no_hart_of_machine enclave one avoids_hart)
    -- the PMP entries and the tables are equal in both machines
    command_alike (Access mode access address width) blind avoids_hart =
        let memory = memory_equiv in
        let same_size = memory.size in
        unchanged_alike _ _
        (same_access_reply one.shared.memory other.shared.memory same_size (hart_state_of hart one).hart.csrs.pmp mode access address width
        ∙ ap (λ (entries : Entries). access_reply other.shared.memory entries mode access address width) (same_entries invariant other_invariant))
    command_alike Pmp blind avoids_hart = unchanged_alike _ _ (ap pmp_text (same_entries invariant other_invariant))
    command_alike Enclaves blind avoids_hart =
        unchanged_alike _ _ (ap (λ (table : Slots). table_text table) (let shared = equiv.shared in shared.table))
    -- the other commands change only breakpoints or watchpoints, or nothing
    command_alike _ blind avoids_hart = equal_replies_alike enclave _ _ _ _ _ _ targets_equiv refl

-- ---- any two benches

-- a command that is blind to the enclave and avoids its hart is alike in two benches with monitored targets
monitored-alike : (enclave : ℕ) (one other : Selected) (breaks watches : List ℕ) (command : Command) → Invariant one.state → Invariant other.state
    → SelectedEquivExcept enclave one other
    → is_blind enclave (bench_of (Monitored one) breaks watches) command ≡ true → AvoidsHart enclave (bench_of (Monitored one) breaks watches) command
    → AlikeUnlessEntered enclave (execute (bench_of (Monitored one) breaks watches) command)
    (execute (bench_of (Monitored other) breaks watches) command)
monitored-alike enclave one other breaks watches command invariant other_invariant equiv blind avoids_hart =
    subst (λ (hart : ℕ). AlikeUnlessEntered enclave (execute (bench_of (Monitored one) breaks watches) command)
    (execute (bench_of (selected_at hart other.state) breaks watches) command)) equiv.hart
    (command_alike enclave one.hart one.state other.state equiv.state breaks watches invariant other_invariant command blind avoids_hart)

-- a bare machine stays bare
bare-stays : (machine : Machine) (breaks watches : List ℕ) (command : Command)
    → IsBare (execute (bench_of (Bare machine) breaks watches) command).state.target
unfolding execute
bare-stays machine breaks watches command = effect_stays_bare machine (effect (bench_of (Bare machine) breaks watches) command)

-- an execution that leaves a bare machine is alike to itself
alike-itself : (enclave : ℕ) (after : Executed) → IsBare after.state.target → AlikeUnlessEntered enclave after after
alike-itself enclave after bare =
    let equiv_with_itself = bare_target (λ (target : Target). TargetsEquivExcept enclave target target) (λ alone. refl) after.state.target bare in
    record {
      entered = refl;
      passed = λ not_entered. record { reply = refl; entered = refl; state = record { target = equiv_with_itself; breaks = refl; watches = refl } };
    }

-- a command that is blind to the enclave and avoids its hart is alike in two benches with equal breakpoints and watchpoints
targets-alike : (enclave : ℕ) (one other : Target) (breaks watches : List ℕ) (command : Command) → TargetInvariant one → TargetInvariant other
    → TargetsEquivExcept enclave one other
    → is_blind enclave (bench_of one breaks watches) command ≡ true → AvoidsHart enclave (bench_of one breaks watches) command
    → AlikeUnlessEntered enclave (execute (bench_of one breaks watches) command) (execute (bench_of other breaks watches) command)
targets-alike enclave (Monitored one) (Monitored other) breaks watches command invariant other_invariant equiv blind avoids_hart =
    monitored-alike enclave one other breaks watches command invariant other_invariant equiv blind avoids_hart
targets-alike enclave (Bare one) (Bare other) breaks watches command invariant other_invariant equiv blind avoids_hart =
    subst (λ (machine : Machine). AlikeUnlessEntered enclave (execute (bench_of (Bare one) breaks watches) command)
    (execute (bench_of (Bare machine) breaks watches) command)) equiv
    (alike-itself enclave (execute (bench_of (Bare one) breaks watches) command) (bare-stays one breaks watches command))
targets-alike enclave _ _ breaks watches command invariant other_invariant equiv blind avoids_hart = absurd equiv

-- ---- the benches are equal once the enclave has ended

-- two benches with equivalent targets and equal breakpoints and watchpoints are equal once the enclave has ended
targets_remain_equiv : (enclave : ℕ) (one other : Target) (breaks watches : List ℕ) → TargetInvariant one → TargetsEquivExcept enclave one other
    → RemainEquiv enclave (bench_of one breaks watches) (bench_of other breaks watches)
targets_remain_equiv enclave (Bare one) (Bare other) breaks watches invariant equiv = record {
  but = record { target = equiv; breaks = refl; watches = refl };
  gone = λ has_ended. ap (λ (machine : Machine). bench_of (Bare machine) breaks watches) equiv;
}
targets_remain_equiv enclave (Monitored one) (Monitored other) breaks watches invariant equiv = record {
  but = record { target = equiv; breaks = refl; watches = refl };
  gone = λ has_ended. ap₂ (λ (hart : ℕ) (machine : MonitoredMachine). bench_of (selected_at hart machine) breaks watches) equiv.hart
      (gone_equal enclave one.state other.state invariant equiv.state has_ended);
}
targets_remain_equiv enclave _ _ breaks watches invariant equiv = absurd equiv

-- two equivalent benches are equal once the enclave has ended, if the first has the invariant
pub equiv_again : (enclave : ℕ) (one other : BenchState) → TargetInvariant one.target → BenchesEquivExcept enclave one other
    → RemainEquiv enclave one other
equiv_again enclave one other invariant equiv =
    subst (λ (breaks : List ℕ). RemainEquiv enclave one (bench_of other.target breaks other.watches)) equiv.breaks
    (subst (λ (watches : List ℕ). RemainEquiv enclave one (bench_of other.target one.breaks watches)) equiv.watches
    (targets_remain_equiv enclave one.target other.target one.breaks one.watches invariant equiv.target))

-- Proves the noninterference law for a command of each kind. The second bench is rewritten to the breakpoints and watchpoints of the first.
pub noninterference : NoninterferenceLaw
noninterference enclave bench other_bench command invariant other_invariant equiv blind avoids_hart =
    -- the second bench is rewritten to the breakpoints and watchpoints of the first bench
    let alike_unless_entered =
    subst (λ (breaks : List ℕ). AlikeUnlessEntered enclave (execute bench command)
    (execute (bench_of other_bench.target breaks other_bench.watches) command)) equiv.breaks
    (subst (λ (watches : List ℕ). AlikeUnlessEntered enclave (execute bench command)
    (execute (bench_of other_bench.target bench.breaks watches) command)) equiv.watches
    (targets-alike enclave bench.target other_bench.target bench.breaks bench.watches command
    invariant other_invariant equiv.target blind avoids_hart)) in
    record {
      entered = alike_unless_entered.entered;
      passed = λ not_entered.
          let passed = alike_unless_entered.passed not_entered in
          record {
            reply = passed.reply;
            entered = passed.entered;
            state = equiv_again enclave _ _
                (command_keeps_invariant bench command invariant) passed.state;
          };
    }
