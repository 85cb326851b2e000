-- The laws of commands about the host's influence and about events hold from any line of a script on. These laws need a legal bench, whose pc is a
-- multiple of 4. The bench is legal at the start, since the entry of an image is a multiple of 4.
use Rattle.std.proofs.Common.{◌≡◌, ℕ, zero, suc, ◌%◌, ◌==◌, Bool, true, false, cond, List, [], ◌∷◌, ◌++◌, codes, length, Option, Result, Ok, Err, Some, None}
use Rattle.std.proofs.Common.{IfOk, IfSome, refl, sym, ◌∙◌, ap, subst, arith}
use Rattle.std.specs.Prelude.{map, nat_lt, not, ◌||◌}
use Rattle.std.proofs.lemmas.Bool.{and_parts, ltb-true}
use Rattle.std.proofs.lemmas.Grind.{common_steps}
use Rattle.std.specs.List.{list_any}
use Rattle.rv_word.specs.Cases.{option_case, result_case}
use Rattle.rv_memory.specs.Harts.{number_of_harts}
use Rattle.rv_memory.specs.Memory.{is_ram_size}
use Rattle.rv_memory.specs.declared.ram_fault.RamFault.TheVariants.{BadSize}
use Rattle.rv_monitor.specs.Prelude.{aligned_to_4}
use Rattle.rv_text.specs.GoodLines.{is_text}
use Rattle.rv_text.specs.Numbers.{number_of_digits}
use Rattle.rv_text.specs.Words.{words_of}
use Rattle.rv_script.specs.Command.{keyword_of, meaning_of, parse_of}
use Rattle.rv_script.specs.Numbers.{decimal_of}
use Rattle.rv_script.specs.declared.command.Command.{Command}
use Rattle.rv_script.specs.declared.command.Command.TheVariants.{Hart, Step, Timer}
use Rattle.rv_script.specs.declared.command.CommandFault.{CommandFault}
use Rattle.rv_monitor.specs.Events.{Event, LineOf, StepOf, events}
use Rattle.rv_monitor.specs.MonitoredMachine.{MonitoredMachine, count_of}
use Rattle.rv_monitor.proofs.LegalMachine.{legal_law}
use Rattle.rv_debug.specs.BenchState.{BenchState}
use Rattle.rv_debug.specs.CommandEvents.{Occurs, actions_of, are_of_harts, commands_for}
use Rattle.rv_debug.specs.Execute.{execute_line, execute_or_fault}
use Rattle.rv_debug.specs.HostInfluence.{HasSameLife, IsLegalTarget, IsSameLife}
use Rattle.rv_debug.specs.Isolation.{after_commands}
use Rattle.rv_debug.specs.Targets.{TargetInvariant, machine_in}
use Rattle.rv_debug.proofs.CommandEvents.{command_events}
use Rattle.rv_debug.proofs.HostInfluence.{host_influence}
use Rattle.rv_elf.specs.Fields.{e_entry}
use Rattle.rv_elf.specs.Faults.{file_fault, first_fault, header_faults, is_bad_entry, place_faults, raw_fault, segment_faults}
use Rattle.rv_elf.specs.Places.{first_address, has_place}
use Rattle.rv_elf.specs.Plans.{LoadPlan, file_plan, raw_plan}
use Rattle.rv_elf.specs.Segments.{has_overlap, is_outside, occupying, raw_segments, segments_of}
use Rattle.rv_elf.specs.declared.elf_fault.ElfFault.{ElfFault}
use Rattle.rv_elf.specs.declared.elf_fault.ElfFault.TheVariants.{BadEntry, SegmentOutside, SegmentOverlap}
use Rattle.rv_elf.specs.declared.segment.Segment.{Segment}
use Rattle.rv_command_line.specs.declared.setup.Setup.{Setup}
use Rattle.rv_streams.specs.declared.fault.BenchFault.{BenchFault}
use Rattle.rv_streams.specs.declared.fault.BenchFault.TheVariants.{Image, Ram}
use Rattle.rv_bench.specs.HostInfluence.{RestsAreSame, ScriptEventsLaw, ScriptInfluenceLaw, hart_line, lines_for, timer_line}
use Rattle.rv_bench.specs.Integrity.{commands_of}
use Rattle.rv_bench.specs.Loaded.{is_read_as_elf, memory_loaded, planned, reset_over, started}
use Rattle.rv_bench.specs.Replies.{bench_line, state_after}
use Rattle.rv_bench.proofs.IntegrityLemmas.{lines_are_commands, line_keeps_invariant, lines_keep_invariant}
use Rattle.rv_bench.proofs.Starts.{StartInvariant, started_invariant}

-- ---- the entry of an image is a multiple of 4

-- if a list of conditions for faults gives no fault, the condition between `before` and `after` does not hold
not_this_fault : (before : List (Bool × ElfFault)) (condition : Bool) (fault : ElfFault) (after : List (Bool × ElfFault))
    → first_fault (before ++ ((condition, fault) ∷ after)) ≡ None → condition ≡ false
not_this_fault [] true fault after no_fault = cc
not_this_fault [] false fault after no_fault = refl
not_this_fault ((true, other) ∷ before) condition fault after no_fault = cc
not_this_fault ((false, other) ∷ before) condition fault after no_fault = not_this_fault before condition fault after no_fault

-- an entry without an error is a multiple of 4
good_entry_aligned : (entry : ℕ) (placed : Bool) → (not (entry % 4 == 0) || not placed) ≡ false → aligned_to_4 entry ≡ entry
good_entry_aligned entry placed not_bad = let remainder_is_0 : entry % 4 ≡ 0 = grind (arith, common_steps) in omega (arith, remainder_is_0)

-- the entry of an ELF file without a fault is a multiple of 4, since BadEntry is the last condition among those for a fault
file_entry_aligned : (file : List ℕ) (ram_size : ℕ) (monitored : Bool) → file_fault file ram_size monitored ≡ None
    → aligned_to_4 (e_entry file) ≡ e_entry file
unfolding header_faults segment_faults place_faults
file_entry_aligned file ram_size monitored no_fault =
    let segments = occupying (segments_of file) in
    let before = header_faults file ++ segment_faults (length file) (segments_of file)
    ++ ((list_any (is_outside ram_size monitored) segments, SegmentOutside) ∷ (has_overlap segments, SegmentOverlap) ∷ []) in
    good_entry_aligned (e_entry file) (has_place ram_size monitored (e_entry file) 4)
    (not_this_fault before (is_bad_entry ram_size monitored (e_entry file)) BadEntry [] no_fault)

-- the first address of a raw image is a multiple of 4
raw_entry_aligned : (monitored : Bool) → aligned_to_4 (first_address monitored) ≡ first_address monitored
raw_entry_aligned true = refl
raw_entry_aligned false = refl

-- the entry of the plan is a multiple of 4, if there is a plan
abbrev EntryIsAligned : Result LoadPlan ElfFault → Type 0
EntryIsAligned plan = IfOk plan (λ plan. aligned_to_4 plan.entry ≡ plan.entry)

-- the plan that the loader makes for an image has an aligned entry
plan_entry_aligned : (image : List ℕ) (setup : Setup) → EntryIsAligned (planned image setup)
plan_entry_aligned image setup = by_kind (is_read_as_elf setup.kind image) where
  -- `plan_with` is the plan with these segments and this entry, without an error
  plan_with : List Segment → ℕ → Result LoadPlan ElfFault
  plan_with segments entry =
      Ok (record { segments = segments; entry = entry; image_size = length image; ram_size = setup.ram; monitored = setup.monitored })

  -- the plan of an ELF file, by cases on its fault
  from_file : (fault : Option ElfFault) → file_fault image setup.ram setup.monitored ≡ fault
      → EntryIsAligned (option_case fault (plan_with (occupying (segments_of image)) (e_entry image)) Err)
  from_file None no_fault = file_entry_aligned image setup.ram setup.monitored no_fault
  from_file (Some fault) has_fault = tt

  -- the plan of a raw image, by cases on its fault
  from_raw : (fault : Option ElfFault)
      → EntryIsAligned (option_case fault (plan_with (raw_segments (length image) setup.monitored) (first_address setup.monitored)) Err)
  from_raw None = raw_entry_aligned setup.monitored
  from_raw (Some fault) = tt

  -- the plan of the image, which is read as an ELF file or as raw bytes
  by_kind : (elf : Bool)
      → EntryIsAligned (cond elf (file_plan image setup.ram setup.monitored) (raw_plan (length image) setup.ram setup.monitored))
  by_kind true = from_file (file_fault image setup.ram setup.monitored) refl
  by_kind false = from_raw (raw_fault (length image) setup.ram setup.monitored)

-- ---- pc and the S-mode registers have legal values

-- a bench at reset is legal, if the entry is aligned
reset_legal : (setup : Setup) (memory : List ℕ) (entry : ℕ) → aligned_to_4 entry ≡ entry → IsLegalTarget (reset_over setup memory entry).target
reset_legal setup memory entry aligned = by_monitor setup.monitored where
  -- a bench at reset is legal, whether or not it is monitored
  by_monitor : (monitored : Bool) → IsLegalTarget (reset_over (record setup { monitored = monitored }) memory entry).target
  by_monitor false = tt
  by_monitor true = legal_law.start memory entry (number_of_harts setup.harts) aligned

-- each bench that starts is legal
started_legal : (image : List ℕ) (setup : Setup) → IfOk (started image setup) (λ state. IsLegalTarget state.target)
unfolding started
started_legal image setup = by_plan (is_ram_size setup.ram) (planned image setup) (plan_entry_aligned image setup) where
  -- the same claim by cases: `valid` states whether the RAM has a valid size, and `plan` is the plan of the image or its error
  by_plan : (valid : Bool) (plan : Result LoadPlan ElfFault) → EntryIsAligned plan → IfOk
      (cond valid (result_case (result_case plan (λ plan. Ok (reset_over setup (memory_loaded image setup plan) plan.entry)) Err) Ok
      (λ fault. Err (Image fault))) (Err (Ram BadSize))) (λ state. IsLegalTarget state.target)
  by_plan false plan aligned = tt
  by_plan true (Err fault) aligned = tt
  by_plan true (Ok plan) aligned = reset_legal setup (memory_loaded image setup plan) plan.entry aligned

-- a line leaves the target legal
line_keeps_legal : (bench : BenchState) (line : List ℕ) → TargetInvariant bench.target → IsLegalTarget bench.target
    → IsLegalTarget (execute_line bench line).state.target
unfolding execute_line
line_keeps_legal bench line invariant legal = by_parsed (parse_of line) where
  -- a parsed line leaves the target legal
  by_parsed : (parsed : Result Command CommandFault) → IsLegalTarget (execute_or_fault bench parsed).state.target
  by_parsed (Ok command) = host_influence.legal bench command invariant legal
  by_parsed (Err fault) = legal

-- lines leave the target legal, by induction over the lines
lines_keep_legal : (bench : BenchState) (lines : List (List ℕ)) → TargetInvariant bench.target → IsLegalTarget bench.target
    → IsLegalTarget (state_after bench_line bench lines).target
lines_keep_legal bench [] invariant legal = legal
lines_keep_legal bench (line ∷ lines) invariant legal =
    lines_keep_legal (execute_line bench line).state lines (line_keeps_invariant bench line invariant) (line_keeps_legal bench line invariant legal)

-- ---- the host's influence

-- The law of commands about the host's influence holds for the rests of two scripts: lines have the effect of their commands.
rests_same : (slot other_slot : ℕ) (first second : BenchState) (lines others : List (List ℕ)) → TargetInvariant first.target
    → TargetInvariant second.target
    → IsLegalTarget first.target → IsLegalTarget second.target → RestsAreSame slot other_slot first second lines others
rests_same slot other_slot first second lines others first_invariant second_invariant first_legal second_legal =
    -- the law for the two benches in which the scripts end
    let Law : BenchState → BenchState → Type 0 = λ first_end second_end.
    IfSome (machine_in first.target) (λ one. IfSome (machine_in second.target) (λ other.
    (life : IsSameLife slot other_slot first second (commands_of lines) (commands_of others) one other)
    → HasSameLife slot other_slot life.moves one other first_end.target second_end.target)) in
    subst (λ (end : BenchState). Law end (state_after bench_line second others)) (sym (lines_are_commands first lines))
    (subst (Law (after_commands first (commands_of lines))) (sym (lines_are_commands second others))
    (host_influence.same slot other_slot first second (commands_of lines)
    (commands_of others) first_invariant second_invariant first_legal second_legal))

-- proves the law of influence for scripts, for an enclave `slot` of the first script and an enclave `other_slot` of the second, by the law for
-- commands
pub script_influence : ScriptInfluenceLaw
script_influence slot other_slot image other_image setup other_setup before other_before lines others =
    by_starts (started image setup) (started other_image other_setup) (started_invariant image setup) (started_invariant other_image other_setup)
    (started_legal image setup) (started_legal other_image other_setup) where
      -- the law holds for two results of a start, `start_result` and `other_result`, which are benches or errors
      by_starts : (start_result other_result : Result BenchState BenchFault)
          → StartInvariant start_result → StartInvariant other_result
          → IfOk start_result (λ start. IsLegalTarget start.target) → IfOk other_result (λ start. IsLegalTarget start.target)
          → IfOk start_result (λ first. IfOk other_result (λ second.
          RestsAreSame slot other_slot (state_after bench_line first before) (state_after bench_line second other_before) lines others))
      by_starts (Err fault) other_result first_invariant second_invariant first_legal second_legal = tt
      by_starts (Ok first) (Err fault) first_invariant second_invariant first_legal second_legal = tt
      by_starts (Ok first) (Ok second) first_invariant second_invariant first_legal second_legal =
          rests_same slot other_slot (state_after bench_line first before) (state_after bench_line second other_before) lines others
          (lines_keep_invariant first before first_invariant) (lines_keep_invariant second other_before second_invariant)
          (lines_keep_legal first before first_invariant first_legal) (lines_keep_legal second other_before second_invariant second_legal)

-- ---- events

-- The line that selects a hart is read as the command `Hart`. There are two harts, so the last case contradicts the bound.
hart_parsed : (hart : ℕ) → nat_lt hart 2 ≡ true → parse_of (hart_line hart) ≡ Ok (Hart hart)
unfolding parse_of is_text meaning_of words_of keyword_of
hart_parsed zero is_hart = refl
hart_parsed (suc zero) is_hart = refl
hart_parsed (suc (suc hart)) is_hart = absurd (omega (arith, ltb-true _ _ is_hart))

-- the line `step 1` is read as the command `Step 1`
step_parsed : parse_of (codes "step 1") ≡ Ok (Step 1)
unfolding parse_of is_text meaning_of words_of keyword_of decimal_of number_of_digits
step_parsed = refl

-- the line that raises or clears a timer line is read as the command `Timer`
timer_parsed : (raised : Bool) → parse_of (timer_line raised) ≡ Ok (Timer raised)
unfolding parse_of is_text meaning_of words_of keyword_of
timer_parsed true = refl
timer_parsed false = refl

-- if two lines are read as two commands, all lines have these two commands, and then the commands of the other lines
two_commands : (line other : List ℕ) (lines : List (List ℕ)) (first second : Command) → parse_of line ≡ Ok first → parse_of other ≡ Ok second
    → commands_of (line ∷ other ∷ lines) ≡ first ∷ second ∷ commands_of lines
two_commands line other lines first second first_parsed second_parsed = rw (first_parsed, second_parsed) refl

-- the two lines for each event have the two commands for it, by induction over the events
lines_have_commands : (list : List Event) → are_of_harts 2 list ≡ true → commands_of (lines_for list) ≡ commands_for list
lines_have_commands [] of_harts = refl
lines_have_commands (StepOf hart ∷ later) of_harts =
    let (is_hart, others_of_harts) = and_parts _ _ of_harts in
    two_commands (hart_line hart) (codes "step 1") (lines_for later) (Hart hart) (Step 1) (hart_parsed hart is_hart) step_parsed
    ∙ ap (λ (commands : List Command). Hart hart ∷ Step 1 ∷ commands) (lines_have_commands later others_of_harts)
lines_have_commands (LineOf hart raised ∷ later) of_harts =
    let (is_hart, others_of_harts) = and_parts _ _ of_harts in
    two_commands (hart_line hart) (timer_line raised) (lines_for later) (Hart hart) (Timer raised) (hart_parsed hart is_hart) (timer_parsed raised)
    ∙ ap (λ (commands : List Command). Hart hart ∷ Timer raised ∷ commands) (lines_have_commands later others_of_harts)

-- the lines for events lead to the machine after the events
events_from : (start : BenchState) (list : List Event) → are_of_harts 2 list ≡ true → IfSome (machine_in start.target) (λ machine.
    are_of_harts (count_of machine) list ≡ true
    → machine_in (state_after bench_line start (lines_for list)).target ≡ Some (events list machine).state)
events_from start list of_two_harts =
    by_machine (machine_in start.target) (command_events.occurs start (commands_for list) list) (command_events.every start list) where
      -- the bench after the lines is the bench after their commands
      end_is : state_after bench_line start (lines_for list) ≡ after_commands start (commands_for list)
      end_is = lines_are_commands start (lines_for list) ∙ ap (after_commands start) (lines_have_commands list of_two_harts)

      -- The same claim for `machine`, which is `None` on a bare bench. Its premises are that the events occur if they are the actions of the
      -- commands, and that they are these actions.
      by_machine : (machine : Option MonitoredMachine) → IfSome machine (λ machine. actions_of start (commands_for list) ≡ map Occurs list
          → machine_in (after_commands start (commands_for list)).target ≡ Some (events list machine).state)
          → IfSome machine (λ machine. are_of_harts (count_of machine) list ≡ true → actions_of start (commands_for list) ≡ map Occurs list)
          → IfSome machine (λ machine. are_of_harts (count_of machine) list ≡ true
          → machine_in (state_after bench_line start (lines_for list)).target ≡ Some (events list machine).state)
      by_machine None occur are_actions = tt
      by_machine (Some machine) occur are_actions =
          λ of_harts. ap (λ (bench : BenchState). machine_in bench.target) end_is ∙ occur (are_actions of_harts)

-- proves that lines can bring about every list of events
pub script_events : ScriptEventsLaw
script_events image setup before list of_two_harts = by_start (started image setup) where
  -- the lines lead the machine to the state after the events, if the script starts a bench; an error at the start leaves nothing to prove
  by_start : (bench : Result BenchState BenchFault) → IfOk bench (λ bench.
      let start = state_after bench_line bench before in
      IfSome (machine_in start.target) (λ machine. are_of_harts (count_of machine) list ≡ true
      → machine_in (state_after bench_line start (lines_for list)).target ≡ Some (events list machine).state))
  by_start (Ok bench) = events_from (state_after bench_line bench before) list of_two_harts
  by_start (Err fault) = tt
