-- The closed instance of the law of declassification, for commands. Each command is a list of the moves of the instance for steps.
use Rattle.std.proofs.Common.{◌≡◌, ℕ, suc, ◌+◌, true, List, [], ◌∷◌, ◌++◌, length, replicate, Option, Some, refl, sym, ◌∙◌, ap, inl, inr, subst}
use Rattle.std.proofs.Common.{arith}
use Rattle.std.specs.Option.{option_map}
use Rattle.rv_enclaves.proofs.EqualMemory.{write-some}
use Rattle.rv_monitor.specs.Declassification.{AreMoves, Both, First, Move, Second}
use Rattle.rv_monitor.specs.Events.{StepOf}
use Rattle.rv_debug.specs.BenchState.{monitored}
use Rattle.rv_debug.specs.Declassification.{AllCommandsAlike, are_steps, first_steps, second_steps, stop_of}
use Rattle.rv_debug.specs.Prelude.{Command, Done, Monitored, MonitoredMachine, Poke, Regs, Step, Target, Timer, has, is_inside, option_case, region}
use Rattle.rv_debug.specs.Prelude.{sched, with_memory, with_timer, write, write_bytes}
use Rattle.rv_debug.specs.SecretRun.{AreConcealed, SecretRunLaw, before_secret, secret_bench, secret_commands, secret_entered, secret_interrupted}
use Rattle.rv_debug.specs.SecretRun.{secret_new, secret_next, secret_raised, secret_ram, secret_resumed, secret_start}
use Rattle.rv_debug.proofs.Prelude.{BenchState, Effect, Selected, Steps, both_ways, done, effect, execute, harts_stepped, lowest_accessed}
use Rattle.rv_debug.proofs.Prelude.{over_memory, run, selected_at}
use Rattle.rv_debug.proofs.Declassification.{list_declassification, relation_law}
use Rattle.rv_debug.proofs.ScheduledSteps.{schedule_is_sched}
use Rattle.rv_debug.proofs.SecretRun.{bytes_after_secret, secret_address, moves_permitted, secret_run_facts, is_in_a0, secret_is_at_offset, start_idle}
use Rattle.rv_debug.proofs.SecretRun.{invariant_before_create, steps_concealed}

-- ---- commands on a machine whose hart 0 is selected

-- on each machine, the command `step` with this count steps these harts, and stops since all its steps are executed
record IsStepOf (count : ℕ) (harts : List ℕ) : Type 0 where
  effect_is : (machine : MonitoredMachine) → effect (monitored machine) (Step count) ≡ Steps harts 0
  stop_is : (machine : MonitoredMachine) → stop_of (monitored machine) (Step count) ≡ Done

-- the command `step 1` is one step of hart 0
one_step : IsStepOf 1 (0 ∷ [])
unfolding run lowest_accessed
one_step = record { effect_is = λ machine. refl; stop_is = λ machine. refl }

-- the command `step 2` is two steps of hart 0
two_steps : IsStepOf 2 (0 ∷ 0 ∷ [])
unfolding run lowest_accessed
two_steps = record { effect_is = λ machine. refl; stop_is = λ machine. refl }

-- the command `step 3` is three steps of hart 0
three_steps : IsStepOf 3 (0 ∷ 0 ∷ 0 ∷ [])
unfolding run lowest_accessed
three_steps = record { effect_is = λ machine. refl; stop_is = λ machine. refl }

-- two machines, and the commands that follow in each
module _ (one other : MonitoredMachine) (commands other_commands : List Command) where
  -- the remaining commands of the two lists are alike, from the two machines on
  abbrev RestAlike : MonitoredMachine → MonitoredMachine → Type 0
  RestAlike one_machine other_machine = AllCommandsAlike 0 (monitored one_machine) (monitored other_machine) commands other_commands

  -- commands that begin with `step`, whose steps are these moves, are alike, if the rest of the commands is alike after the moves
  alike_with_step : (count : ℕ) (harts : List ℕ) (moves : List Move) → IsStepOf count harts → are_steps moves ≡ true → first_steps moves ≡ harts
      → second_steps moves ≡ harts → AreMoves 0 moves one other → RestAlike (sched harts one).state (sched harts other).state
      → AllCommandsAlike 0 (monitored one) (monitored other) (Step count ∷ commands) (Step count ∷ other_commands)
  unfolding execute
  alike_with_step count harts moves is_step all_steps first_harts_are second_harts_are moved rest_alike =
      let after : (machine : MonitoredMachine) → monitored (sched harts machine).state ≡ (execute (monitored machine) (Step count)).state = λ machine.
      let start : Selected = record { hart = 0; state = machine } in
      let bench_over : Target → BenchState = λ target. record { target = target; breaks = []; watches = [] } in
      ap bench_over (sym (schedule_is_sched harts start _ 0))
      ∙ ap (λ (change : Effect). bench_over (done (Monitored start) change)) (sym (is_step.effect_is machine)) in (
        -- the steps of the command are the moves, and both runs stop for the same reason
        inl (inl (record {
          same = refl;
          steps = record {
            moves = moves;
            steps = all_steps;
            first = first_harts_are ∙ ap harts_stepped (sym (is_step.effect_is one));
            second = second_harts_are ∙ ap harts_stepped (sym (is_step.effect_is other));
            are = moved;
          };
          stop = is_step.stop_is one ∙ sym (is_step.stop_is other);
        })),
        -- the remaining commands begin in the benches after the steps
        subst (λ (bench : BenchState). AllCommandsAlike 0 bench (execute (monitored other) (Step count)).state commands other_commands) (after one)
            (subst (λ (bench : BenchState). AllCommandsAlike 0 (monitored (sched harts one).state) bench commands other_commands)
            (after other) rest_alike),
      )

  -- commands that begin with a change of the timer line are alike, if the rest of the commands is alike after the change
  alike_with_timer : RestAlike (with_timer 0 one true) (with_timer 0 other true)
      → AllCommandsAlike 0 (monitored one) (monitored other) (Timer true ∷ commands) (Timer true ∷ other_commands)
  unfolding execute
  alike_with_timer rest =
      (inl (inl (record { same = refl; steps = record { moves = []; steps = refl; first = refl; second = refl; are = tt }; stop = refl })), rest)

  -- commands that begin with `regs` are alike, if the rest of the commands is alike
  alike_with_regs : RestAlike one other → AllCommandsAlike 0 (monitored one) (monitored other) (Regs ∷ commands) (Regs ∷ other_commands)
  unfolding execute
  alike_with_regs rest =
      (inl (inl (record { same = refl; steps = record { moves = []; steps = refl; first = refl; second = refl; are = tt }; stop = refl })), rest)

  -- commands that begin with a poke of each secret are alike, if the rest of the commands is alike after the pokes
  alike_with_poke : (address secret other_secret : ℕ) (one_after other_after : List ℕ)
      → write one.shared.memory address (secret ∷ []) ≡ Some one_after
      → write other.shared.memory address (other_secret ∷ []) ≡ Some other_after
      → has (region one.shared.table 0) address ≡ true → has (region other.shared.table 0) address ≡ true
      → RestAlike (with_memory one one_after) (with_memory other other_after)
      → AllCommandsAlike 0 (monitored one) (monitored other) (Poke address secret ∷ commands) (Poke address other_secret ∷ other_commands)
  unfolding execute
  alike_with_poke address secret other_secret one_after other_after first_write second_write in_region other_in_region rest_alike =
      let after : MonitoredMachine → Option (List ℕ) → BenchState = λ machine written.
      let target = selected_at 0 machine in
      record { target = option_case (option_map (over_memory target) written) target (λ unchanged. unchanged); breaks = []; watches = [] } in (
        inr (inl (in_region, other_in_region)),
        subst (λ (written : Option (List ℕ)). AllCommandsAlike 0 (after one written)
            (after other (write other.shared.memory address (other_secret ∷ []))) commands other_commands) (sym first_write)
            (subst (λ (written : Option (List ℕ)). AllCommandsAlike 0 (after one (Some one_after))
            (after other written) commands other_commands) (sym second_write) rest_alike),
      )

-- ---- the poke of the secret

-- a write at the index of the secret replaces the secret
write_replaces : (before after : List ℕ) (byte new_byte : ℕ)
    → write_bytes (before ++ (byte ∷ after)) (length before) (new_byte ∷ []) ≡ before ++ (new_byte ∷ after)
write_replaces [] after byte new_byte = refl
write_replaces (first ∷ before) after byte new_byte =
    let next_index : suc (length before) + 1 ≡ suc (length before + 1) = omega arith in
    rw next_index (ap (λ (tail : List ℕ). first ∷ tail) (write_replaces before after byte new_byte))

-- the address of the secret is in RAM
secret_in_ram : is_inside (secret_ram 0) secret_address 1 ≡ true
secret_in_ram = refl

-- the poke of the secret after create succeeds and gives the RAM with the secret
poke_gives_secret_ram : (secret : ℕ) → write (secret_next secret_start).shared.memory secret_address (secret ∷ []) ≡ Some (secret_ram secret)
poke_gives_secret_ram secret =
    let some : List ℕ → Option (List ℕ) = λ memory. Some memory in
    ap (λ (memory : List ℕ). write memory secret_address (secret ∷ [])) (secret_run_facts 0).memory_is
    ∙ write-some (secret_ram 0) secret_address (secret ∷ []) secret_in_ram
    ∙ ap some (ap (λ (index : ℕ). write_bytes (secret_ram 0) index (secret ∷ [])) (sym secret_is_at_offset)
    ∙ write_replaces before_secret (replicate bytes_after_secret 0) 0 secret)

-- ---- the commands

-- the commands of the example from the call resume on
abbrev resume : List Command
resume = Step 3 ∷ Step 1 ∷ []

-- the commands of the example from the timer interrupt on
abbrev interrupt : List Command
interrupt = Timer true ∷ Step 1 ∷ Regs ∷ resume

-- The commands of the example satisfy the premise of the law, for any two secrets. The proof builds the premise from the last command to the first.
pub commands_alike : (secret other_secret : ℕ) → AllCommandsAlike 0 secret_bench secret_bench (secret_commands secret) (secret_commands other_secret)
commands_alike secret other_secret =
    -- the moves of the example: the call run, the load, the timer line, the interrupt, the call resume, the last step
    let (run_1, (run_2, (load_1, (load_2, (_, (exits, (resume_1, (resume_2, (resume_3, (last_1, (last_2, _))))))))))) =
    moves_permitted secret other_secret in
    -- the last command `step 1`: a step of the enclave in each machine
    let last_step_alike =
    alike_with_step (secret_resumed secret) (secret_resumed other_secret) [] [] 1 (0 ∷ []) (First 0 ∷ Second 0 ∷ []) one_step refl refl refl
    (last_1, (last_2, tt)) tt in
    -- `step 3`: the three steps of the host to the call resume are low
    let alike_from_resume =
    alike_with_step (secret_interrupted secret) (secret_interrupted other_secret) (Step 1 ∷ []) (Step 1 ∷ []) 3 (0 ∷ 0 ∷ 0 ∷ [])
    (Both (StepOf 0) ∷ Both (StepOf 0) ∷ Both (StepOf 0) ∷ []) three_steps refl refl refl
    (resume_1, (resume_2, (resume_3, tt))) last_step_alike in
    -- `step 1` after the timer line: the enclave exits from both machines; then `regs`
    let alike_from_interrupt =
    alike_with_step (secret_raised secret) (secret_raised other_secret) (Regs ∷ resume) (Regs ∷ resume) 1 (0 ∷ [])
    (Both (StepOf 0) ∷ []) one_step refl
    refl refl (exits, tt) (alike_with_regs (secret_interrupted secret) (secret_interrupted other_secret) resume resume
    alike_from_resume) in
    -- `step 1`: each enclave loads its secret; then the timer line is set
    let alike_from_load =
    alike_with_step (secret_entered secret) (secret_entered other_secret) interrupt interrupt 1 (0 ∷ [])
    (First 0 ∷ Second 0 ∷ []) one_step refl refl refl
    (load_1, (load_2, tt))
    (alike_with_timer (secret_next (secret_entered secret)) (secret_next (secret_entered other_secret)) (Step 1 ∷ Regs ∷ resume)
    (Step 1 ∷ Regs ∷ resume) alike_from_interrupt) in
    -- `step 2`: the two steps of the host to the call run are low
    let alike_from_run = alike_with_step (secret_new secret) (secret_new other_secret) (Step 1 ∷ interrupt) (Step 1 ∷ interrupt) 2 (0 ∷ 0 ∷ [])
    (Both (StepOf 0) ∷ Both (StepOf 0) ∷ []) two_steps refl refl refl (run_1, (run_2, tt))
    alike_from_load in
    -- the first `step 1`, which calls create, is low; then each secret is poked into the region
    let rest_commands : List Command = Step 2 ∷ Step 1 ∷ interrupt in
    alike_with_step secret_start secret_start (Poke secret_address secret ∷ rest_commands) (Poke secret_address other_secret ∷ rest_commands) 1
    (0 ∷ []) (Both (StepOf 0) ∷ [])
    one_step refl refl refl
    (inl (record { low = start_idle.not_on_hart; window = λ running. absurd (both_ways _ start_idle.not_running running) }), tt)
    (alike_with_poke (secret_next secret_start) (secret_next secret_start) rest_commands rest_commands secret_address secret other_secret
    (secret_ram secret) (secret_ram other_secret)
    (poke_gives_secret_ram secret) (poke_gives_secret_ram other_secret) (secret_run_facts 0).region_has
    (secret_run_facts 0).region_has alike_from_run)

-- the commands are alike, and their observations are equal
commands_concealed : (secret other_secret : ℕ) → AreConcealed secret other_secret
commands_concealed secret other_secret =
    let alike = commands_alike secret other_secret in record {
      commands_alike = alike;
      observations_equal = list_declassification 0 secret_bench secret_bench (secret_commands secret)
          (secret_commands other_secret) invariant_before_create invariant_before_create (relation_law.itself 0 secret_bench) alike;
    }

-- proves the example of a secret in a register at the timer interrupt
pub secret_run : SecretRunLaw
secret_run = record { concealed = steps_concealed; commands = commands_concealed; in_a0 = is_in_a0 }
