-- This file derives the meaning of a twin run over an input from its image and its two scripts.
use Rattle.std.proofs.Common.{◌≡◌, ℕ, true, false, List, ◌++◌, inl, inr, Option, Some, None, Result, Ok, Err, refl, sym, ◌∙◌, ap}
use Rattle.std.proofs.Common.{subst, arith, append_assoc}
use Rattle.std.specs.Option.{IsSomeAnd}
use Rattle.std.specs.Result.{IsOkAnd}
use Rattle.rv_debug.specs.BenchState.{BenchState}
use Rattle.rv_debug.specs.Targets.{TargetInvariant}
use Rattle.rv_debug.specs.BothBenches.{can_scramble, can_scramble_in, scrambled}
use Rattle.rv_debug.specs.declared.target.Target.{Target}
use Rattle.rv_debug.specs.declared.target.Target.TheVariants.{Bare, Monitored}
use Rattle.rv_enclaves.proofs.Slots.{none_past}
use Rattle.rv_enclaves.specs.SlotNumbers.{slot_numbered}
use Rattle.rv_enclaves.specs.SharedInvariant.{is_held}
use Rattle.rv_word.specs.Cases.{result_case}
use Rattle.rv_memory.specs.Memory.{is_ram_size}
use Rattle.rv_memory.specs.declared.ram_fault.RamFault.TheVariants.{BadSize, NoMemory as NoRamMemory}
use Rattle.rv_command_line.specs.declared.setup.Setup.{Setup}
use Rattle.rv_streams.specs.declared.device.Sink.{Ghosts as SinkGhosts}
use Rattle.rv_streams.specs.declared.device.Source.{Ghosts as SourceGhosts}
use Rattle.rv_streams.specs.declared.fault.BenchFault.{BenchFault}
use Rattle.rv_streams.specs.declared.fault.BenchFault.TheVariants.{Image, Ram, Read, Write}
use Rattle.rv_streams.specs.declared.lines.Lines.{Lines}
use Rattle.rv_streams.specs.declared.separator.ScriptEnd.TheVariants.{Input, Separator}
use Rattle.rv_streams.specs.Calls.{SourceFailed}
use Rattle.rv_streams.specs.Image.{image_in}
use Rattle.rv_streams.specs.Faults.{Outcome}
use Rattle.rv_streams.specs.Script.{ReadsThroughSeparator}
use Rattle.rv_streams.specs.Separator.{after_separator}
use Rattle.rv_streams.specs.Transfer.{WritesPrefix}
use Rattle.rv_streams.specs.Unread.{held, unread, EndsWithSource}
use Rattle.rv_streams.proofs.Ends.{SinkFailed-after, SinkFlushed-after, SinkWorked-more, EndsWithSource-more, separator_read}
use Rattle.rv_bench.specs.declared.pair.Pair.{Pair}
use Rattle.rv_bench.specs.declared.pair.PairOnSlot.{PairOnSlot}
use Rattle.rv_bench.specs.Pair.{make_pair, both_benches}
use Rattle.rv_bench.specs.Loaded.{Starts, started}
use Rattle.rv_bench.specs.Output.{bench_in}
use Rattle.rv_bench.specs.Run.{RunsLines, StopsAtRead}
use Rattle.rv_bench.specs.Twin.{IsNeverEntered, IsOver, RunsSecond, RunsTwin, StopsInScripts, StopsInScriptsAtWrite, StopsSecondAtWrite}
use Rattle.rv_bench.specs.Twin.{after_first_script, first_text, monitored_setup, scripts_text, second_text, twin_output}
use Rattle.rv_bench.proofs.PairLemmas.{prefix_after, prefix_more}
use Rattle.rv_bench.proofs.Entering.{read_after, write_after}
use Rattle.rv_bench.proofs.Starts.{no_ram, has_ram, fault_has_ram}

-- ---- the pair after the scramble

-- if the slot cannot be scrambled, there is no pair
pub no_pair_if_unscramblable : (slot : ℕ) (bench : BenchState) → can_scramble slot bench ≡ false → None ≡ make_pair slot bench
no_pair_if_unscramblable slot bench not_scramblable = rw not_scramblable refl

-- if the slot can be scrambled, the pair consists of the bench and its scrambled copy
pub pair_if_scramblable : (slot : ℕ) (bench second : BenchState) → can_scramble slot bench ≡ true → second ≡ scrambled slot bench
    → Some (record { first = bench; second = second; ran = 0; entered = false }) ≡ make_pair slot bench
pair_if_scramblable slot bench second is_scramblable second_is =
    let pair_with : BenchState → Option Pair = λ second. Some (record { first = bench; second = second; ran = 0; entered = false }) in
    rw is_scramblable (ap pair_with second_is)

-- a number that is not the number of a slot cannot be scrambled
unnumbered_not_scramblable : (number : ℕ) (target : Target) → TargetInvariant target → slot_numbered number ≡ None
    → can_scramble_in number target ≡ false
unnumbered_not_scramblable number (Bare machine) invariant no_slot = refl
unnumbered_not_scramblable number (Monitored selected) invariant no_slot =
    ap is_held (none_past selected.state.shared.table number invariant.shared.valid.count no_slot)

-- a property P of a slot and its pair holds of a slot number and the pair on this slot, if it holds of `pair_on_slot`, whose slot has this number
pub holds_of_made_pair : (P : ℕ → Option Pair → Type 0) (number : ℕ) (bench : BenchState) (pair_on_slot : PairOnSlot)
    → (pair_on_slot.slot ≡ number) × (make_pair number bench ≡ Some pair_on_slot.pair) → P pair_on_slot.slot (Some pair_on_slot.pair)
    → P number (make_pair number bench)
holds_of_made_pair P number bench pair_on_slot (slot_is, pair_is) holds =
    subst (λ (slot : ℕ). P slot (make_pair number bench)) slot_is (subst (P pair_on_slot.slot) (sym pair_is) holds)

-- a number that is not the number of a slot has no pair
pub not_numbered : (number : ℕ) (bench : BenchState) → TargetInvariant bench.target → slot_numbered number ≡ None → make_pair number bench ≡ None
not_numbered number bench invariant no_slot =
    sym (no_pair_if_unscramblable number bench (unnumbered_not_scramblable number bench.target invariant no_slot))

-- ---- the image, and the first script

-- the image was read, and the separator after it, where `scripts_source` has the unread text after the separator
pub record ReadsImage {S : Type 0} {source_view : SourceGhosts S} (old scripts_source : Lines S source_view) (image : List ℕ) : Type 0 where
  -- the lines were read through the separator
  pub through : ReadsThroughSeparator old scripts_source
  -- the text before the separator describes this image
  pub gives : source_view.follows_input scripts_source.source → image_in (unread old) ≡ Ok image
  -- the lines end only if the source does
  pub ends : EndsWithSource old scripts_source

-- the first script was run on the bench of the image, whose state it changed
pub record RunsFirst {S W : Type 0} {source_view : SourceGhosts S} (sink_view : SinkGhosts W) (bench : BenchState)
    (scripts_source : Lines S source_view) (before : W) : Type 0 where
  -- the lines after the first script
  pub second_source : Lines S source_view
  -- the sink after the replies to the first script
  pub sink_between : W
  -- the bench after the first script
  pub bench_between : BenchState
  -- the first script was run to its separator
  pub runs : RunsLines sink_view Separator bench scripts_source second_source before sink_between (Ok tt)
  -- the bench is that after the lines before the separator
  pub state : source_view.follows_input second_source.source → bench_between ≡ after_first_script bench (unread scripts_source)
  -- the lines end only if the source does
  pub ends : EndsWithSource scripts_source second_source

module _ {S W : Type 0} {source_view : SourceGhosts S} (sink_view : SinkGhosts W) (setup : Setup) (slot : ℕ) (image : List ℕ)
    (old scripts_source : Lines S source_view) (before : W) (read : ReadsImage old scripts_source image) where
  -- the input starts the bench of the image, or has its error
  bench_is : (bench : Result BenchState BenchFault) → started image (monitored_setup setup) ≡ bench → source_view.follows_input scripts_source.source
      → bench_in (monitored_setup setup) (unread old) ≡ bench
  bench_is bench starts follows = rw (read.gives follows) starts

  -- the output for the input, if its text before the separator starts this bench
  abbrev output_from : Result BenchState BenchFault → Result (List ℕ) BenchFault
  output_from bench = result_case bench (λ bench. Ok (scripts_text slot bench (after_separator (unread old)))) Err

  -- the error of the input is the error of the start
  fault_is : (fault : BenchFault) → started image (monitored_setup setup) ≡ Err fault → source_view.follows_input scripts_source.source
      → twin_output setup slot (unread old) ≡ Err fault
  fault_is fault starts follows = ap output_from (bench_is (Err fault) starts follows)

  -- the output for the input is the text of both scripts
  output_is : (bench : BenchState) → started image (monitored_setup setup) ≡ Ok bench → source_view.follows_input scripts_source.source
      → twin_output setup slot (unread old) ≡ Ok (scripts_text slot bench (unread scripts_source))
  output_is bench starts follows =
      ap output_from (bench_is (Ok bench) starts follows)
      ∙ ap (λ (scripts : List ℕ). Ok (scripts_text slot bench scripts)) (sym (read.through.rest follows))

  -- if no bench starts, the error of the start is the result of the twin run
  pub not_started : (fault : BenchFault) → Starts image (monitored_setup setup) (Err fault)
      → RunsTwin sink_view setup slot old scripts_source before before (Err fault)
  not_started (Ram BadSize) bad_size =
      (bad_size, read.through, fault_is (Ram BadSize) (no_ram image (monitored_setup setup) bad_size), refl)
  not_started (Ram (NoRamMemory refused)) (valid_size, bytes_are) =
      (valid_size, bytes_are, read.through, λ follows. rw (read.gives follows) refl, refl)
  not_started (Image fault) bad_image =
      (fault_has_ram image (monitored_setup setup) fault bad_image, read.through, fault_is (Image fault) bad_image, refl)
  not_started _ impossible = absurd impossible

  module _ (bench : BenchState) (starts : started image (monitored_setup setup) ≡ Ok bench) where
    -- the RAM has a permitted size, since the bench starts
    has_size : is_ram_size setup.ram ≡ true
    has_size = has_ram image (monitored_setup setup) bench starts

    -- a property of the bench and of the text of both scripts holds of the bench that the whole input starts
    of_input : (P : List ℕ → BenchState → Type 0) → source_view.follows_input scripts_source.source → P (unread scripts_source) bench
        → IsOkAnd (bench_in (monitored_setup setup) (unread old)) (P (after_separator (unread old)))
    of_input P follows holds =
        subst (λ (start : Result BenchState BenchFault). IsOkAnd start (P (after_separator (unread old))))
        (sym (bench_is (Ok bench) starts follows))
        (subst (λ (scripts : List ℕ). P scripts bench) (read.through.rest follows) holds)

    module _ (new : Lines S source_view) (after : W) (script_end : EndsWithSource scripts_source new) where
      -- a failure of the source in the first script is the read error of the twin run
      first_read : RunsLines sink_view Separator bench scripts_source new before after (Err Read)
          → RunsTwin sink_view setup slot old new before after (Err Read)
      first_read (fails, stops) =
          let image_worked = read.through.source in
          let script_failed = fails.source in
          let source_failed : SourceFailed source_view old.source new.source = omega (arith, script_failed, image_worked) in (
            record { source = source_failed; sink = fails.sink; not_at_end = fails.not_at_end },
            λ follows. inr (
              separator_read old scripts_source new read.through script_end fails.not_at_end follows,
              of_input (StopsInScripts sink_view setup slot old new before after) (script_end.followed_before follows) (inl (stops follows)),
            ),
          )

      -- a failure of the sink in the first script is the write error of the twin run
      first_write : RunsLines sink_view Separator bench scripts_source new before after (Err Write)
          → RunsTwin sink_view setup slot old new before after (Err Write)
      first_write (fails, stops) = (
        has_size,
        record {
          source = fails.source ∙ read.through.source;
          sink = fails.sink;
          emptied = fails.emptied;
          prefix = λ follows. subst (λ output. IsOkAnd output (λ text. WritesPrefix (sink_view.taken before) (sink_view.taken after) text))
              (sym (output_is bench starts (script_end.followed_before follows)))
              (prefix_more (sink_view.taken before) (sink_view.taken after) (first_text bench (unread scripts_source)) _ (fails.prefix follows));
        },
        λ follows. of_input (StopsInScriptsAtWrite sink_view setup slot old new before after) (script_end.followed_before follows)
            (inl (stops follows)),
      )

      -- an error in the first script is the error of the twin run
      pub first_fails : (fault : BenchFault) → RunsLines sink_view Separator bench scripts_source new before after (Err fault)
          → RunsTwin sink_view setup slot old new before after (Err fault)
      first_fails Read run = first_read run
      first_fails Write run = first_write run
      first_fails _ impossible = absurd impossible

    -- ---- after the first script, the slot is scrambled in the second bench

    module _ (ran : RunsFirst sink_view bench scripts_source before) (new : Lines S source_view) (after : W)
        (second_end : EndsWithSource ran.second_source new) where
      -- `second_source` has the unread lines after the first script
      abbrev second_source : Lines S source_view
      second_source = ran.second_source

      -- `bench_between` is the bench after the first script
      abbrev bench_between : BenchState
      bench_between = ran.bench_between

      -- the first script was executed to its separator
      abbrev first : RunsLines sink_view Separator bench scripts_source ran.second_source before ran.sink_between (Ok tt)
      first = ran.runs

      -- `pair_at` is the pair after the first script of a text
      abbrev pair_at : List ℕ → Option Pair
      pair_at scripts = make_pair slot (after_first_script bench scripts)

      -- the pair after the first script is the pair that the text of the first script leads to
      pair_is : source_view.follows_input second_source.source → make_pair slot bench_between ≡ pair_at (unread scripts_source)
      pair_is follows = ap (make_pair slot) (ran.state follows)

      -- the replies to the first script and the text of the second script are the text of both scripts
      text_is : (text : List ℕ) → (follows : source_view.follows_input second_source.source)
          → second_text slot (make_pair slot bench_between) (unread second_source) ≡ text
          → first_text bench (unread scripts_source) ++ text ≡ scripts_text slot bench (unread scripts_source)
      text_is text follows second_is =
          ap (λ (second : List ℕ). first_text bench (unread scripts_source) ++ second)
          (sym second_is ∙ (ap (λ (pair : Option Pair). second_text slot pair (unread second_source)) (pair_is follows)
          ∙ ap (second_text slot (pair_at (unread scripts_source))) (first.reads.rest follows)))

      -- the end of the lines after both scripts is the end that the source reported
      both_end : EndsWithSource scripts_source new
      both_end = EndsWithSource-more scripts_source second_source new ran.ends second_end

      -- a property of the pair and of the text of the second script holds if both are taken from the text of both scripts
      of_scripts : source_view.follows_input second_source.source → (P : Option Pair → List ℕ → Type 0)
          → P (make_pair slot bench_between) (unread second_source)
          → P (pair_at (unread scripts_source)) (after_separator (unread scripts_source))
      of_scripts follows P holds =
          subst (P (pair_at (unread scripts_source))) (first.reads.rest follows)
          (subst (λ (pair : Option Pair). P pair (unread second_source)) (pair_is follows) holds)

      -- a property of the pair and of the text of the second script holds if both are taken from the whole input
      second_of_input : source_view.follows_input second_source.source → (P : Option Pair → List ℕ → Type 0)
          → P (make_pair slot bench_between) (unread second_source)
          → IsOkAnd (bench_in (monitored_setup setup) (unread old))
          (λ bench. P (make_pair slot (after_first_script bench (after_separator (unread old)))) (after_separator (after_separator (unread old))))
      second_of_input follows P holds =
          of_input (λ scripts bench. P (make_pair slot (after_first_script bench scripts)) (after_separator scripts))
          (ran.ends.followed_before follows)
          (of_scripts follows P holds)

      -- the result of the second script is the result of the twin run
      pub second_part : (outcome : Outcome)
          → RunsSecond sink_view slot (make_pair slot bench_between) second_source new ran.sink_between after outcome
          → RunsTwin sink_view setup slot old new before after outcome
      -- the second script was run: the calls for the image and for both scripts are the calls of the twin run
      second_part (Ok done) run = (
        has_size,
        record {
          source = run.source ∙ (first.reads.source ∙ read.through.source);
          sink = SinkFlushed-after sink_view first.sink run.sink;
          emptied = run.emptied;
          read = elim run.read [
            -- no line entered the slot before the end of the input
            | inl ended ↦ inl (record {
              at_end = ended.at_end;
              ended = (EndsWithSource-more old scripts_source new read.ends both_end).ended ended.at_end;
              used_up = ended.used_up;
              not_entered = λ follows. second_of_input (second_end.followed_before follows) (IsNeverEntered slot) (ended.not_entered follows);
              reports_end = ended.reports_end;
            })
            -- the run was over before the end of the input: no slot was scrambled, or a line entered the slot
            | inr (is_over, end_is_reported) ↦ inr (
              λ follows. second_of_input (second_end.followed_before follows) (λ pair script. IsOver slot pair script (unread new) new.is_at_end)
                  (is_over follows),
              end_is_reported,
            )
          ];
          -- the replies to the first script, and then the text of the second script, are the output
          written = λ follows. subst (λ output. IsOkAnd output (λ text. sink_view.taken after ≡ sink_view.taken before ++ text))
              (sym (output_is bench starts (both_end.followed_before follows)))
              (run.written follows
              ∙ (ap (λ (taken : List ℕ). taken ++ second_text slot (make_pair slot bench_between) (unread second_source))
              (first.written (second_end.followed_before follows))
              ∙ (append_assoc (sink_view.taken before) (first_text bench (unread scripts_source))
              (second_text slot (make_pair slot bench_between) (unread second_source))
              ∙ ap (λ (text : List ℕ). sink_view.taken before ++ text) (text_is _ (second_end.followed_before follows) refl))));
        },
      )
      -- the source failed in the second script: the input has two separators, and the second script stops at the failed read
      second_part (Err Read) (fails, stops) =
          let first_sources = first.reads.source ∙ read.through.source in
          let second_failed = fails.source in
          let source_failed : SourceFailed source_view old.source new.source = omega (arith, second_failed, first_sources) in (
            record { source = source_failed; sink = SinkWorked-more sink_view first.sink fails.sink; not_at_end = fails.not_at_end },
            λ follows. inr (
              separator_read old scripts_source new read.through both_end fails.not_at_end follows,
              of_input (StopsInScripts sink_view setup slot old new before after) (both_end.followed_before follows) (inr (
                separator_read scripts_source second_source new first.reads second_end fails.not_at_end follows,
                of_scripts (second_end.followed_before follows) Stops
                    (read_after slot (make_pair slot bench_between) _ _ _ _ _ _ (first.written (second_end.followed_before follows)) (stops follows)),
              )),
            ),
          ) where
            -- a read in the second script has failed, where the arguments are the pair and the unread text
            Stops : Option Pair → List ℕ → Type 0
            Stops pair script = IsSomeAnd pair
                (λ pair. StopsAtRead (both_benches slot) Input pair script (source_view.remaining new.source) (held new)
                (sink_view.taken before ++ first_text bench (unread scripts_source)) (sink_view.taken after))
      -- the sink failed in the second script: the replies to the first script and a prefix of the second text were written
      second_part (Err Write) (fails, stops) = (
        has_size,
        record {
          source = fails.source ∙ (first.reads.source ∙ read.through.source);
          sink = SinkFailed-after sink_view first.sink fails.sink;
          emptied = fails.emptied;
          prefix = λ follows. subst (λ output. IsOkAnd output (λ text. WritesPrefix (sink_view.taken before) (sink_view.taken after) text))
              (sym (output_is bench starts (both_end.followed_before follows)))
              (subst (WritesPrefix (sink_view.taken before) (sink_view.taken after)) (text_is _ (second_end.followed_before follows) refl)
              (prefix_after (sink_view.taken before) (sink_view.taken ran.sink_between) (sink_view.taken after)
              (first_text bench (unread scripts_source)) _
              (first.written (second_end.followed_before follows)) (fails.prefix follows)));
        },
        λ follows. of_input (StopsInScriptsAtWrite sink_view setup slot old new before after) (both_end.followed_before follows)
            (inr (of_scripts (second_end.followed_before follows) Stops
            (write_after slot (make_pair slot bench_between) _ _ _ _ _ (first.written (second_end.followed_before follows)) (stops follows)))),
      ) where
        -- a write in the second script has failed, where the arguments are the pair and the unread text
        Stops : Option Pair → List ℕ → Type 0
        Stops pair script = StopsSecondAtWrite slot pair script (unread new) (sink_view.taken before ++ first_text bench (unread scripts_source))
            (sink_view.taken after)
      -- a second script has no other error
      second_part (Err _) impossible = absurd impossible
