-- Noninterference with declassification, for commands: two related benches (`BenchesAreRelated`) stay related after commands that are alike, and what
-- others observe of the replies is equal.
use Rattle.std.proofs.Common.{◌≡◌, ℕ, ◌-◌, Bool, true, false, List, [], ◌∷◌, Option, None, refl, sym, ◌∙◌, ap, ap₂, subst, inl, inr}
use Rattle.std.specs.Prelude.{◌⊎◌, nat_lt, if◌then◌else◌}
use Rattle.rv_enclaves.specs.declared.shared.Shared.{Shared}
use Rattle.rv_enclaves.proofs.EqualMemory.{same_write, write-none, write-some}
use Rattle.rv_monitor.specs.Declassification.{AreRelated, may_differ}
use Rattle.rv_monitor.proofs.Declassification.{relation_law as machine_relation_law}
use Rattle.rv_script.specs.declared.command.Command.TheVariants.{Break, Watch}
use Rattle.rv_state.specs.CsrState.{CsrState}
use Rattle.rv_debug.specs.Prelude.{Access, Bare, Clear, Command, Csr, Dis, Enclaves, Hart, HartState, Invariant, Machine, Mem, Monitored}
use Rattle.rv_debug.specs.Prelude.{MonitoredMachine, Pmp, Poke, Reg, Unwatch, Entries, Regs, Run, Sched, SetReg, Slots, Step, Target, Timer, count_of}
use Rattle.rv_debug.specs.Prelude.{harts_in, has, has_all, hart_state_of, is_inside, is_live, number_of_bytes, option_case, ram_base, reg_set, region}
use Rattle.rv_debug.specs.Prelude.{register, runs_on, sched, slot_at, timer_line_set, write, write_bytes}
use Rattle.rv_debug.specs.Declassification.{BenchesAreRelated, CommandDeclassificationLaw, HandsOverAlike, IsSameCommand, ListDeclassificationLaw}
use Rattle.rv_debug.specs.Declassification.{ObservedAlike, BenchRelationLaw, SetsOwnRegister, StepsAreMoves, TargetsAreRelated, stop_of}
use Rattle.rv_debug.specs.EnclaveText.{table_text}
use Rattle.rv_debug.specs.Execute.{breaks_after, watches_after}
use Rattle.rv_debug.specs.Observed.{observed, observed_harts}
use Rattle.rv_debug.proofs.Prelude.{BenchState, Effect, Nothing, PokesInto, Steps, TargetInvariant, cases_Bool, done, effect, execute, dis_text}
use Rattle.rv_debug.proofs.Prelude.{memory_text, ok_text, option_map, outside_text, over_memory, pmp_text, register_text, registers_text}
use Rattle.rv_debug.proofs.Prelude.{RunsOnNoHart, TargetsEquivExcept, access_reply, harts_stepped, no_hart_text, schedule_start, scheduled_steps}
use Rattle.rv_debug.proofs.Prelude.{selected_at}
use Rattle.rv_debug.proofs.EffectsInvariant.{effect_stays_bare, command_keeps_invariant, poke_of}
use Rattle.rv_debug.proofs.ExecuteAlike.{bench_of, same_access_reply}
use Rattle.rv_debug.proofs.LowCommands.{low_command}
use Rattle.rv_debug.proofs.ObservedAlike.{csrs_alike, entries_alike, hart_texts, memory_texts, runs_alike, schedules_alike}
use Rattle.rv_debug.proofs.PokesAlike.{live_if_in_region, hidden_writes, poke_succeeds}
use Rattle.rv_monitor.proofs.RelatedChanges.{changed_related, memory_related, related_itself}
use Rattle.rv_debug.proofs.RelatedMoves.{related_after_moves}
use Rattle.rv_debug.proofs.ScheduledSteps.{bare_target, schedule_is_sched}

-- the two commands are the same command, two pokes of secrets, or two writes of secrets to registers of the enclave
abbrev SecretsOrSame : ℕ → BenchState → BenchState → Command → Command → Type 0
SecretsOrSame enclave bench other_bench command other_command =
    IsSameCommand enclave bench other_bench command other_command
    ⊎ ((PokesInto enclave bench command × PokesInto enclave other_bench other_command)
    ⊎ (SetsOwnRegister enclave bench command × SetsOwnRegister enclave other_bench other_command))

-- two related machines `one` and `other` with hart `hart` selected, in benches with equal breakpoints and watchpoints
module _ (enclave hart : ℕ) (one other : MonitoredMachine) (invariant : Invariant one) (other_invariant : Invariant other)
    (related : AreRelated enclave one other) (breaks watches : List ℕ) where
  -- the target with the given machine, and hart `hart` selected
  abbrev as_target : MonitoredMachine → Target
  as_target machine = selected_at hart machine

  -- the bench with the given machine, and hart `hart` selected
  abbrev as_bench : MonitoredMachine → BenchState
  as_bench machine = bench_of (as_target machine) breaks watches

  -- the targets of the two benches are related for `enclave`
  targets_related : TargetsAreRelated enclave (as_target one) (as_target other)
  targets_related = record { hart = refl; state = related }

  -- ---- effects

  -- the targets are related after steps that are moves of the two machines
  related_after_steps : (harts other_harts : List ℕ) (selected : ℕ) → StepsAreMoves enclave one other harts other_harts
      → TargetsAreRelated enclave (done (as_target one) (Steps harts selected)) (done (as_target other) (Steps other_harts selected))
  related_after_steps harts other_harts selected steps =
      let moved = related_after_moves enclave 0 harts other_harts one other invariant other_invariant related steps in
      subst (λ (target : Target). TargetsAreRelated enclave target (done (as_target other) (Steps other_harts selected)))
      (sym (schedule_is_sched harts (record { hart = hart; state = one }) _ selected))
      (subst (TargetsAreRelated enclave (selected_at selected (sched harts one).state))
      (sym (schedule_is_sched other_harts (record { hart = hart; state = other }) _ selected)) (record { hart = refl; state = moved.related_after }))

  -- the targets are related after the same write of a register
  related_after_setreg : (number value : ℕ) → TargetsAreRelated enclave (done (as_target one) (effect (as_bench one) (SetReg number value)))
      (done (as_target other) (effect (as_bench other) (SetReg number value)))
  related_after_setreg number value = record {
    hart = refl;
    state = changed_related enclave hart (reg_set number value) (reg_set number value) one other related (record {
      world = refl;
      state = λ hart_related. record { world = hart_related.world; same = λ not_on_hart. ap (reg_set number value) (hart_related.same not_on_hart) };
      host = λ hart_related. record { host = hart_related.host; rest = hart_related.rest };
    });
  }

  -- the targets are related after any writes of registers of the enclave on its own hart
  related_after_secret_setreg : (number value other_number other_value : ℕ) → runs_on enclave hart one ≡ true
      → TargetsAreRelated enclave (done (as_target one) (effect (as_bench one) (SetReg number value)))
      (done (as_target other) (effect (as_bench other) (SetReg other_number other_value)))
  related_after_secret_setreg number value other_number other_value on_hart = record {
    hart = refl;
    state = changed_related enclave hart (reg_set number value) (reg_set other_number other_value) one other related (record {
      world = refl;
      state = λ hart_related. record {
        world = hart_related.world;
        same = λ not_on_hart. let contradiction : true ≡ false = sym on_hart ∙ not_on_hart in cc;
      };
      host = λ hart_related. record { host = hart_related.host; rest = hart_related.rest };
    });
  }

  -- the targets are related after the same change of the timer line
  related_after_timer : (raised : Bool) → TargetsAreRelated enclave (done (as_target one) (effect (as_bench one) (Timer raised)))
      (done (as_target other) (effect (as_bench other) (Timer raised)))
  related_after_timer raised = record {
    hart = refl;
    state = changed_related enclave hart (timer_line_set raised) (timer_line_set raised) one other related (record {
      world = refl;
      state = λ hart_related. record { world = hart_related.world; same = λ not_on_hart. ap (timer_line_set raised) (hart_related.same not_on_hart) };
      host = λ hart_related. record { host = hart_related.host; rest = ap (λ (csrs : CsrState). record csrs { timer = raised }) hart_related.rest };
    });
  }

  -- `poked_text` is the reply to a poke, where the option is the memory after the write, or `None` outside RAM
  abbrev poked_text : MonitoredMachine → Option (List ℕ) → List ℕ
  poked_text machine memory = option_case (option_map (over_memory (as_target machine)) memory) outside_text (λ after. ok_text)

  -- two pokes leave related targets and have equal replies
  record PokedAlike (one_memory other_memory : Option (List ℕ)) : Type 0 where
    state : TargetsAreRelated enclave (poke_of (as_target one) one_memory) (poke_of (as_target other) other_memory)
    reply : poked_text one one_memory ≡ poked_text other other_memory

  -- equal pokes of related targets have equal replies and leave related targets
  pokes_alike : (address byte : ℕ) → PokedAlike (write one.shared.memory address (byte ∷ [])) (write other.shared.memory address (byte ∷ []))
  pokes_alike address byte =
      let memory = related.memory in
      let same_size = memory.size in
      let bytes = byte ∷ [] in
      elim (cases_Bool (is_inside one.shared.memory address 1)) [
        -- the address is in RAM: the same byte is written to both memories
        | inl in_ram ↦
            let write_to_one = write-some one.shared.memory address bytes in_ram in
            let write_to_other = write-some other.shared.memory address bytes (rw (← same_size) in_ram) in
            let written_equal =
            same_write (may_differ one.shared.table enclave) one.shared.memory other.shared.memory address bytes _ _ memory write_to_one
            write_to_other in
            let same_if_ended : (is_live one.shared.table enclave ≡ false)
            → write_bytes one.shared.memory (address - ram_base) bytes ≡ write_bytes other.shared.memory (address - ram_base) bytes =
            λ has_ended. ap (λ (shared : Shared). write_bytes shared.memory (address - ram_base) bytes) (related.gone has_ended) in
            rw (write_to_one, write_to_other) (record {
              state = record { hart = refl; state = memory_related enclave one other _ _ related written_equal same_if_ended };
              reply = refl;
            })
        -- the address is outside RAM: neither target changes
        | inr outside_ram ↦
            let write_to_one = write-none one.shared.memory address bytes outside_ram in
            let write_to_other = write-none other.shared.memory address bytes (rw (← same_size) outside_ram) in
            rw (write_to_one, write_to_other) (record { state = targets_related; reply = refl })
      ]

  -- two pokes into the region, of two bytes and at two addresses, leave related targets and have equal replies
  secret_pokes_related : (address byte other_address other_byte : ℕ) → has (region one.shared.table enclave) address ≡ true
      → has (region other.shared.table enclave) other_address ≡ true
      → PokedAlike (write one.shared.memory address (byte ∷ [])) (write other.shared.memory other_address (other_byte ∷ []))
  secret_pokes_related address byte other_address other_byte in_region other_in_region =
      let write_to_one = poke_succeeds one enclave address byte invariant in_region in
      let write_to_other = poke_succeeds other enclave other_address other_byte other_invariant other_in_region in
      let region_may_differ : (hidden_address : ℕ) → has (region one.shared.table enclave) hidden_address ≡ true
      → may_differ one.shared.table enclave hidden_address ≡ true =
      λ hidden_address within_region. rw within_region refl in
      let other_address_in_region : has (region one.shared.table enclave) other_address ≡ true =
      ap (λ (table : Slots). has (region table enclave) other_address) related.table ∙ other_in_region in
      let memory = hidden_writes (may_differ one.shared.table enclave) one.shared.memory other.shared.memory address other_address byte other_byte _
      _ related.memory
      write_to_one write_to_other (region_may_differ address in_region) (region_may_differ other_address other_address_in_region) in
      rw (write_to_one, write_to_other) (record {
        state = record {
          hart = refl;
          state = memory_related enclave one other _ _ related memory (λ has_ended.
              let contradiction : true ≡ false = sym (live_if_in_region (slot_at one.shared.table enclave) address in_region) ∙ has_ended in cc);
        };
        reply = refl;
      })

  -- the targets are related after the command `hart`, where `exist` and `other_exist` state whether the hart exists in each
  related_after_hart : (number : ℕ) (exist other_exist : Bool) → exist ≡ other_exist
      → TargetsAreRelated enclave (done (as_target one) (if exist then Steps [] number else Nothing))
      (done (as_target other) (if other_exist then Steps [] number else Nothing))
  unfolding scheduled_steps
  related_after_hart number true true same_exist = record { hart = refl; state = related }
  related_after_hart number false false same_exist = targets_related
  related_after_hart number _ _ same_exist = cc

  -- `sched_of` is the effect of the command `sched`, where `exist` states whether its harts exist
  abbrev sched_of : List ℕ → Bool → Effect
  sched_of harts exist = if exist then Steps harts hart else Nothing

  -- the targets are related after a schedule whose steps are moves of the two machines
  related_after_sched : (harts : List ℕ) (exist other_exist : Bool) → exist ≡ other_exist
      → StepsAreMoves enclave one other (harts_stepped (sched_of harts exist)) (harts_stepped (sched_of harts other_exist))
      → TargetsAreRelated enclave (done (as_target one) (sched_of harts exist)) (done (as_target other) (sched_of harts other_exist))
  related_after_sched harts true true same_exist steps = related_after_steps harts harts hart steps
  related_after_sched harts false false same_exist steps = targets_related
  related_after_sched harts _ _ same_exist steps = cc

  -- the claim of `related_after`: the targets are related after both benches execute the command
  abbrev RelatedAfter : Command → Type 0
  RelatedAfter command =
      TargetsAreRelated enclave (done (as_target one) (effect (as_bench one) command)) (done (as_target other) (effect (as_bench other) command))

  -- A command that both benches execute leaves related targets, if the enclave hands over the same in both. Each kind of command has a clause; a
  -- command that only shows something leaves the targets as they are.
  related_after : (command : Command) → HandsOverAlike enclave (as_bench one) (as_bench other) command → RelatedAfter command
  related_after (Step count) steps = related_after_steps _ _ hart steps
  related_after (Run count) steps = related_after_steps _ _ hart steps
  related_after (SetReg number value) steps = related_after_setreg number value
  related_after (Timer raised) steps = related_after_timer raised
  related_after (Poke address byte) steps = (pokes_alike address byte).state
  related_after (Hart number) steps =
      related_after_hart number (nat_lt number (count_of one)) (nat_lt number (count_of other)) (ap (nat_lt number) related.harts)
  related_after (Sched schedule) steps =
      let harts = harts_in schedule in
      related_after_sched harts (has_all (count_of one) harts) (has_all (count_of other) harts)
      (ap (λ (hart_count : ℕ). has_all hart_count harts) related.harts) steps
  related_after _ steps = targets_related

  -- ---- observations

  -- `sched_observed` is what others observe of the command `sched`, where `exist` states whether its harts exist
  abbrev sched_observed : MonitoredMachine → List ℕ → Bool → List ℕ
  sched_observed machine harts exist =
      if exist then observed_harts enclave (scheduled_steps harts (schedule_start (as_target machine))) else no_hart_text

  -- equal schedules have equal observations, if the steps in both machines are moves
  schedule_observed : (harts : List ℕ) (exist other_exist : Bool) → exist ≡ other_exist
      → StepsAreMoves enclave one other (harts_stepped (sched_of harts exist)) (harts_stepped (sched_of harts other_exist))
      → sched_observed one harts exist ≡ sched_observed other harts other_exist
  schedule_observed harts true true same_exist steps = schedules_alike enclave hart harts one other invariant other_invariant related steps
  schedule_observed harts false false same_exist steps = refl
  schedule_observed harts _ _ same_exist steps = cc

  -- the claim of `observed_equal`: what others observe of the command is equal in both benches
  abbrev ObservedEqual : Command → Type 0
  ObservedEqual command = observed enclave (as_bench one) command ≡ observed enclave (as_bench other) command

  -- a command that both benches execute has equal observations, if the enclave hands over the same and both runs stop alike
  observed_equal : (command : Command) → HandsOverAlike enclave (as_bench one) (as_bench other) command
      → stop_of (as_bench one) command ≡ stop_of (as_bench other) command → ObservedEqual command
  -- commands with steps: the steps are moves of both machines, and the runs stop for the same reason
  observed_equal (Step count) steps stop = runs_alike enclave hart one other [] [] count invariant other_invariant related steps stop
  observed_equal (Run count) steps stop = runs_alike enclave hart one other breaks watches count invariant other_invariant related steps stop
  observed_equal (Sched schedule) steps stop =
      let harts = harts_in schedule in
      schedule_observed harts (has_all (count_of one) harts) (has_all (count_of other) harts)
      (ap (λ (hart_count : ℕ). has_all hart_count harts) related.harts) steps
  -- commands that show the selected hart: its guest state is equal if the enclave does not run on it, and is hidden otherwise
  observed_equal (Reg number) steps stop =
      hart_texts enclave hart one other related (λ (hart_state : HartState). register_text number (register hart_state.hart.regs number))
  observed_equal Regs steps stop =
      hart_texts enclave hart one other related (λ (hart_state : HartState). registers_text hart_state.hart.regs hart_state.hart.pc)
  observed_equal (Csr number) steps stop = csrs_alike enclave hart one other number related
  -- commands that show bytes: a block without private bytes is equal, and a block with private bytes is hidden
  observed_equal (Mem address count) steps stop =
      memory_texts enclave one other related (record { base = address; size = count })
      (λ (bytes : Option (List ℕ)). option_case bytes outside_text (memory_text address))
  observed_equal (Dis address) steps stop =
      memory_texts enclave one other related (record { base = address; size = 4 })
      (λ (bytes : Option (List ℕ)). option_case bytes outside_text (λ bytes. dis_text address (number_of_bytes bytes)))
  -- equal pokes have equal replies
  observed_equal (Poke address byte) steps stop = (pokes_alike address byte).reply
  -- the PMP entries, the tables and the number of harts are equal
  observed_equal Pmp steps stop = ap pmp_text (entries_alike enclave hart one other invariant other_invariant related)
  observed_equal Enclaves steps stop = ap (λ (table : Slots). table_text table) related.table
  observed_equal (Access mode access address width) steps stop =
      same_access_reply one.shared.memory other.shared.memory related.memory.size (hart_state_of hart one).hart.csrs.pmp mode access address width
      ∙ ap (λ (entries : Entries). access_reply other.shared.memory entries mode access address width)
      (entries_alike enclave hart one other invariant other_invariant related)
  observed_equal (Hart number) steps stop = ap (λ (hart_count : ℕ). if nat_lt number hart_count then ok_text else no_hart_text) related.harts
  observed_equal _ steps stop = refl

  -- ---- a command of each bench

  -- the claim that what others observe of two commands is equal, and that the benches are related after them
  abbrev Alike : Command → Command → Type 0
  Alike command other_command = ObservedAlike enclave (as_bench one) (as_bench other) command other_command

  -- a command that both benches execute is observed alike, if the enclave hands over the same and both runs stop alike
  same_observed : (command : Command) → HandsOverAlike enclave (as_bench one) (as_bench other) command
      → stop_of (as_bench one) command ≡ stop_of (as_bench other) command → Alike command command
  unfolding execute
  same_observed command steps stop = record {
    observed = observed_equal command steps stop;
    state = record { target = related_after command steps; breaks = breaks_same command; watches = watches_same command };
  } where
    -- the breakpoints after the same command are equal
    breaks_same : (command : Command) → breaks_after (as_bench one) command ≡ breaks_after (as_bench other) command
    breaks_same (Break address) = refl
    breaks_same (Clear address) = refl
    breaks_same _ = refl

    -- the watchpoints after the same command are equal
    watches_same : (command : Command) → watches_after (as_bench one) command ≡ watches_after (as_bench other) command
    watches_same (Watch address) = refl
    watches_same (Unwatch address) = refl
    watches_same _ = refl

  -- two pokes of secrets into the region are observed alike
  secret_pokes_alike : (command other_command : Command) → PokesInto enclave (as_bench one) command
      → PokesInto enclave (as_bench other) other_command → Alike command other_command
  unfolding execute
  secret_pokes_alike (Poke address byte) (Poke other_address other_byte) pokes_secret other_pokes_secret =
      let poked = secret_pokes_related address byte other_address other_byte pokes_secret other_pokes_secret in
      record { observed = poked.reply; state = record { target = poked.state; breaks = refl; watches = refl } }
  secret_pokes_alike (Poke address byte) _ pokes_secret other_pokes_secret = absurd other_pokes_secret
  secret_pokes_alike _ other_command pokes_secret other_pokes_secret = absurd pokes_secret

  -- two writes of registers of the enclave are observed alike
  secret_registers_alike : (command other_command : Command) → SetsOwnRegister enclave (as_bench one) command
      → SetsOwnRegister enclave (as_bench other) other_command → Alike command other_command
  unfolding execute
  secret_registers_alike (SetReg number value) (SetReg other_number other_value) sets_secret other_sets_secret =
      record {
        observed = refl;
        state =
            record { target = related_after_secret_setreg number value other_number other_value sets_secret; breaks = refl; watches = refl };
      }
  secret_registers_alike (SetReg number value) _ sets_secret other_sets_secret = absurd other_sets_secret
  secret_registers_alike _ other_command sets_secret other_sets_secret = absurd sets_secret

  -- two commands that are equal, or that set secrets of the enclave, are observed alike
  commands_alike : (command other_command : Command) → SecretsOrSame enclave (as_bench one) (as_bench other) command other_command
      → Alike command other_command
  commands_alike command other_command (inl same_command) =
      subst (Alike command) same_command.same (same_observed command same_command.steps same_command.stop)
  commands_alike command other_command (inr (inl (pokes_secret, other_pokes_secret))) =
      secret_pokes_alike command other_command pokes_secret other_pokes_secret
  commands_alike command other_command (inr (inr (sets_secret, other_sets_secret))) =
      secret_registers_alike command other_command sets_secret other_sets_secret

-- ---- any two benches

-- a command of a bare bench
module _ (enclave : ℕ) (machine : Machine) (breaks watches : List ℕ) where
  -- `bench` is the bench over the bare machine
  abbrev bench : BenchState
  bench = bench_of (Bare machine) breaks watches

  -- a command that two equal bare benches execute is observed alike
  bare_alike_itself : (command : Command) → ObservedAlike enclave bench bench command command
  unfolding execute
  bare_alike_itself command = record {
    observed = refl;
    state = record {
      target = bare_target (λ (target : Target). TargetsAreRelated enclave target target) (λ machine. refl) _
          (effect_stays_bare machine (effect bench command));
      breaks = refl;
      watches = refl;
    };
  }

  -- a bare machine has no region, so no command pokes into it
  bare_has_no_region : (command : Command) → PokesInto enclave bench command → ⊥
  bare_has_no_region (Poke address byte) pokes_secret =
      let contradiction = live_if_in_region None address pokes_secret in
      cc
  bare_has_no_region _ pokes_secret = pokes_secret

  -- a bare machine has no enclave, so no command sets its registers
  bare_runs_no_enclave : (command : Command) → SetsOwnRegister enclave bench command → ⊥
  bare_runs_no_enclave (SetReg number value) sets_secret = cc
  bare_runs_no_enclave _ sets_secret = sets_secret

  -- two commands that are alike on the same bare machine are observed alike
  bare_alike : (command other_command : Command) → SecretsOrSame enclave bench bench command other_command
      → ObservedAlike enclave bench bench command other_command
  bare_alike command other_command (inl same_command) =
      subst (ObservedAlike enclave bench bench command) same_command.same (bare_alike_itself command)
  bare_alike command other_command (inr (inl (pokes_secret, other_pokes_secret))) = absurd (bare_has_no_region command pokes_secret)
  bare_alike command other_command (inr (inr (sets_secret, other_sets_secret))) = absurd (bare_runs_no_enclave command sets_secret)

-- Two commands that are alike are observed alike in two benches with related targets and equal breakpoints and watchpoints. In the monitored case,
-- the second target is rewritten to the selected hart of the first.
targets_alike : (enclave : ℕ) (one other : Target) (breaks watches : List ℕ) (command other_command : Command) → TargetInvariant one
    → TargetInvariant other
    → TargetsAreRelated enclave one other → SecretsOrSame enclave (bench_of one breaks watches) (bench_of other breaks watches) command other_command
    → ObservedAlike enclave (bench_of one breaks watches) (bench_of other breaks watches) command other_command
targets_alike enclave (Monitored one) (Monitored other) breaks watches command other_command invariant other_invariant related alike =
    let for_hart : (hart : ℕ) → one.hart ≡ hart
    → SecretsOrSame enclave (bench_of (Monitored one) breaks watches) (bench_of (selected_at hart other.state) breaks watches) command other_command
    → ObservedAlike enclave (bench_of (Monitored one) breaks watches) (bench_of (selected_at hart other.state) breaks watches) command other_command =
    λ hart hart_is.
    subst (λ (selected_hart : ℕ). SecretsOrSame enclave (bench_of (Monitored one) breaks watches)
    (bench_of (selected_at selected_hart other.state) breaks watches) command other_command
    → ObservedAlike enclave (bench_of (Monitored one) breaks watches)
    (bench_of (selected_at selected_hart other.state) breaks watches) command other_command)
    hart_is
    (commands_alike enclave one.hart one.state other.state invariant other_invariant related.state breaks watches command other_command) in
    for_hart other.hart related.hart alike
targets_alike enclave (Bare one) (Bare other) breaks watches command other_command invariant other_invariant related alike =
    subst (λ (other_machine : Machine). SecretsOrSame enclave (bench_of (Bare one) breaks watches)
    (bench_of (Bare other_machine) breaks watches) command other_command
    → ObservedAlike enclave (bench_of (Bare one) breaks watches) (bench_of (Bare other_machine) breaks watches) command other_command) related
    (bare_alike enclave one breaks watches command other_command) alike
targets_alike enclave _ _ breaks watches command other_command invariant other_invariant related alike = absurd related

-- two commands that are equal, or that set secrets of the enclave, are observed alike in related benches and leave them related
secrets_or_same : (enclave : ℕ) (bench other_bench : BenchState) (command other_command : Command) → TargetInvariant bench.target
    → TargetInvariant other_bench.target
    → BenchesAreRelated enclave bench other_bench → SecretsOrSame enclave bench other_bench command other_command
    → ObservedAlike enclave bench other_bench command other_command
secrets_or_same enclave bench other_bench command other_command invariant other_invariant related =
    subst (λ (breaks : List ℕ). SecretsOrSame enclave bench (bench_of other_bench.target breaks other_bench.watches) command other_command
    → ObservedAlike enclave bench (bench_of other_bench.target breaks other_bench.watches) command other_command) related.breaks
    (subst (λ (watches : List ℕ). SecretsOrSame enclave bench (bench_of other_bench.target bench.breaks watches) command other_command
    → ObservedAlike enclave bench (bench_of other_bench.target bench.breaks watches) command other_command) related.watches
    (targets_alike enclave bench.target other_bench.target bench.breaks bench.watches command other_command invariant other_invariant related.target))

-- Proves the law of declassification for two commands. A low command satisfies the condition on its steps by the law of low commands, so it is a case
-- of equal commands.
pub declassification : CommandDeclassificationLaw
declassification enclave bench other_bench command other_command invariant other_invariant related (inl (inl same_command)) =
    secrets_or_same enclave bench other_bench command other_command invariant other_invariant related (inl same_command)
declassification enclave bench other_bench command other_command invariant other_invariant related (inl (inr same_low)) =
    let low = low_command enclave bench other_bench command invariant other_invariant related same_low.window same_low.none same_low.past in
    subst (ObservedAlike enclave bench other_bench command) same_low.same
    (secrets_or_same enclave bench other_bench command command invariant other_invariant related (inl low.same))
declassification enclave bench other_bench command other_command invariant other_invariant related (inr secrets) =
    secrets_or_same enclave bench other_bench command other_command invariant other_invariant related (inr secrets)

-- ---- lists of commands

-- proves the law of declassification for lists of commands, by induction
pub list_declassification : ListDeclassificationLaw
list_declassification enclave bench other_bench [] [] invariant other_invariant related alike = record { observed = refl; state = related }
list_declassification enclave bench other_bench [] (other_command ∷ other_commands) invariant other_invariant related alike = absurd alike
list_declassification enclave bench other_bench (command ∷ commands) [] invariant other_invariant related alike = absurd alike
list_declassification enclave bench other_bench (command ∷ commands) (other_command ∷ other_commands) invariant other_invariant related
    (first_alike, later_alike) =
    let alike_after = declassification enclave bench other_bench command other_command invariant other_invariant related first_alike in
    let rest_alike = list_declassification enclave (execute bench command).state (execute other_bench other_command).state commands other_commands
    (command_keeps_invariant bench command invariant) (command_keeps_invariant other_bench other_command other_invariant) alike_after.state
    later_alike in
    record {
      observed = ap₂ (λ (text : List ℕ) (texts : List (List ℕ)). text ∷ texts) alike_after.observed rest_alike.observed;
      state = rest_alike.state;
    }

-- ---- where the relation begins

-- each target is related to itself
target_related_to_itself : (enclave : ℕ) (target : Target) → TargetsAreRelated enclave target target
target_related_to_itself enclave (Bare machine) = refl
target_related_to_itself enclave (Monitored selected) = record { hart = refl; state = related_itself enclave selected.state }

-- equivalent targets are related, if the enclave runs on no hart
equiv_targets_related : (enclave : ℕ) (one other : Target) → TargetsEquivExcept enclave one other → RunsOnNoHart enclave one
    → TargetsAreRelated enclave one other
equiv_targets_related enclave (Bare one) (Bare other) equiv on_no_hart = equiv
equiv_targets_related enclave (Monitored one) (Monitored other) equiv on_no_hart =
    let guests = machine_relation_law.guests enclave one.state other.state equiv.state in
    record { hart = equiv.hart; state = machine_relation_law.begins enclave one.state other.state guests on_no_hart }
equiv_targets_related enclave _ _ equiv on_no_hart = absurd equiv

-- Proves that each bench is related to itself, and that equivalent benches are related if the enclave runs on no hart.
pub relation_law : BenchRelationLaw
relation_law = record {
  itself = λ enclave bench. record { target = target_related_to_itself enclave bench.target; breaks = refl; watches = refl };
  begins = λ enclave bench other_bench equiv on_no_hart.
      record {
        target = equiv_targets_related enclave bench.target other_bench.target equiv.target on_no_hart;
        breaks = equiv.breaks;
        watches = equiv.watches;
      };
}
