-- A twin run over an input, result by result. The input has an image, a first script for two equal benches, and a second one for both after the
-- enclave of a slot is scrambled in the second bench. (This project's own streams.)
use Rattle.std.specs.Prelude.{◌≡◌, ◌⊎◌, ℕ, Bool, true, false, List, [], ◌∷◌, ◌++◌, IsTrue, IsOk, IsOkAnd, IsSomeAnd, Option, Some, None}
use Rattle.std.specs.Prelude.{Result, Ok, Err}
use Rattle.rv_word.specs.Cases.{result_case}
use Rattle.rv_memory.specs.Memory.{is_ram_size}
use Rattle.rv_memory.specs.declared.ram_fault.RamFault.TheVariants.{BadSize, NoMemory as NoRamMemory}
use Rattle.rv_command_line.specs.declared.setup.Setup.{Setup}
use Rattle.rv_debug.specs.BenchState.{BenchState}
use Rattle.rv_text.specs.Lines.{lines_of}
use Rattle.rv_streams.specs.declared.device.Sink.{Ghosts as SinkGhosts}
use Rattle.rv_streams.specs.declared.device.Source.{Ghosts as SourceGhosts}
use Rattle.rv_streams.specs.declared.fault.BenchFault.{BenchFault}
use Rattle.rv_streams.specs.declared.fault.BenchFault.TheVariants.{Image, Ram, Read, Write, Hex, TooLong, NoMemory}
use Rattle.rv_streams.specs.declared.lines.Lines.{Lines}
use Rattle.rv_streams.specs.declared.separator.ScriptEnd.TheVariants.{Input, Separator}
use Rattle.rv_streams.specs.Calls.{SourceWorked, SinkFlushed}
use Rattle.rv_streams.specs.Image.{image_in, ReadsInImage}
use Rattle.rv_streams.specs.LineText.{ReadsLines}
use Rattle.rv_streams.specs.ReadImage.{FindsFault, RunsOutOfMemory}
use Rattle.rv_streams.specs.Faults.{Outcome}
use Rattle.rv_streams.specs.Script.{ReadsThroughSeparator}
use Rattle.rv_streams.specs.Separator.{before_separator, has_separator, after_separator}
use Rattle.rv_streams.specs.Transfer.{WritesPrefix}
use Rattle.rv_streams.specs.Unread.{held, unread, HasEnded}
use Rattle.rv_bench.specs.declared.pair.Pair.{Pair}
use Rattle.rv_bench.specs.Pair.{pair_line, end_text, entered_text, no_slot_text, script_text, make_pair, both_benches}
use Rattle.rv_bench.specs.Output.{bench_in}
use Rattle.rv_bench.specs.Replies.{bench_line, one_bench, replies, state_after}
use Rattle.rv_bench.specs.Run.{FailsToRead, FailsToWrite, StopsAtRead, StopsAtWrite}

-- the setup of a twin run is monitored, whatever the given one specifies
abbrev pub monitored_setup : Setup → Setup
monitored_setup setup = record setup { monitored = true }

-- ---- the text

-- `after_first_script` is the bench after the lines before the first separator
abbrev pub after_first_script : BenchState → List ℕ → BenchState
after_first_script bench input = state_after bench_line bench (before_separator (lines_of input))

-- the replies of one bench to the first script
abbrev pub first_text : BenchState → List ℕ → List ℕ
first_text bench input = replies bench_line bench (before_separator (lines_of input))

-- `second_text` is the text for the second script, which is the rest of the input, once the benches differ
abbrev pub second_text : ℕ → Option Pair → List ℕ → List ℕ
second_text slot None input = no_slot_text
second_text slot (Some pair) input = script_text slot pair (lines_of input)

-- `scripts_text` is the text for both scripts
abbrev pub scripts_text : ℕ → BenchState → List ℕ → List ℕ
scripts_text slot bench input = first_text bench input ++ second_text slot (make_pair slot (after_first_script bench input)) (after_separator input)

-- `twin_output` is the text for a whole input, or the error of its image
abbrev pub twin_output : Setup → ℕ → List ℕ → Result (List ℕ) BenchFault
twin_output setup slot input =
    result_case (bench_in (monitored_setup setup) input) (λ bench. Ok (scripts_text slot bench (after_separator input))) Err

-- ---- the lines that were read

-- Lines were read that did not enter the slot, and then the line that entered it, through its line feed or to the end of the input.
pub record EntersSlot (slot : ℕ) (pair : Pair) (unread remaining : List ℕ) (is_at_end : Bool) : Type 0 where
  -- the lines that did not enter the slot
  pub lines : List (List ℕ)
  -- the line that entered the slot
  pub line : List ℕ
  -- exactly these lines were read
  pub reads : ReadsLines unread remaining is_at_end (lines ++ line ∷ [])
  -- the slot is not entered after the lines before
  pub not_entered : (state_after (pair_line slot) pair lines).entered ≡ false
  -- the slot is entered after the last line
  pub entered : (state_after (pair_line slot) pair (lines ++ line ∷ [])).entered ≡ true

-- the run was over before the end: no slot was scrambled, or the slot was entered
abbrev pub IsOver : ℕ → Option Pair → List ℕ → List ℕ → Bool → Type 0
IsOver slot None unread remaining is_at_end = remaining ≡ unread
IsOver slot (Some pair) unread remaining is_at_end = EntersSlot slot pair unread remaining is_at_end

-- a slot was scrambled, and no line of the input entered it
abbrev pub IsNeverEntered : ℕ → Option Pair → List ℕ → Type 0
IsNeverEntered slot pair input = IsSomeAnd pair (λ pair. (state_after (pair_line slot) pair (lines_of input)).entered ≡ false)

-- The sink failed in the line that reports the end of the input, and no line entered the slot.
pub record StopsInEnd (slot : ℕ) (pair : Pair) (unread remaining old new : List ℕ) : Type 0 where
  -- no byte of the input is left
  pub used_up : remaining ≡ []
  -- no line of the input entered the slot
  pub not_entered : (state_after (pair_line slot) pair (lines_of unread)).entered ≡ false
  -- all replies were written, and then a prefix of the line that reports the end
  pub written : WritesPrefix (old ++ replies (pair_line slot) pair (lines_of unread)) new
      (end_text (state_after (pair_line slot) pair (lines_of unread)).ran)

-- the sink failed in the second script, or in the line `twin no slot`
abbrev pub StopsSecondAtWrite : ℕ → Option Pair → List ℕ → List ℕ → List ℕ → List ℕ → Type 0
StopsSecondAtWrite slot None unread remaining old new = (remaining ≡ unread) × WritesPrefix old new no_slot_text
StopsSecondAtWrite slot (Some pair) unread remaining old new =
    StopsAtWrite (both_benches slot) Input pair unread remaining old new ⊎ StopsInEnd slot pair unread remaining old new

-- the written bytes end in this text
abbrev pub EndsIn : List ℕ → List ℕ → Type 0
EndsIn last written = (prefix : List ℕ) × (written ≡ prefix ++ last)

-- the last line of the output reports that no slot was scrambled, or that the slot was entered
abbrev pub ReportsEnd : {W : Type 0} → SinkGhosts W → W → Type 0
ReportsEnd sink_view after = EndsIn no_slot_text (sink_view.taken after) ⊎ ((ran : ℕ) × EndsIn (entered_text ran) (sink_view.taken after))

module _ {S W : Type 0} {source_view : SourceGhosts S} (sink_view : SinkGhosts W) where
  -- The run reached the end of the input, which the source reported, and no line entered the slot. The last line reports it.
  pub record GoesToEnd (NeverEntered : Type 0) (old new : Lines S source_view) (after : W) : Type 0 where
    -- the lines have reported the end of the input
    pub at_end : new.is_at_end ≡ true
    -- the source returned its end
    pub ended : HasEnded old new
    -- no byte of the input is left
    pub used_up : source_view.follows_input new.source → unread new ≡ []
    -- no line of the input entered the slot
    pub not_entered : source_view.follows_input new.source → NeverEntered
    -- the last line that was written reports the end, with the number of executed commands
    pub reports_end : (ran : ℕ) × EndsIn (end_text ran) (sink_view.taken after)

  -- The text was written, and the sink flushed afterwards. The input was read to its end, or as far as the run continued.
  pub record TellsTwin (output : Result (List ℕ) BenchFault) (NeverEntered Over : Type 0) (old new : Lines S source_view)
      (before after : W) : Type 0 where
    -- no call of the source failed
    pub source : SourceWorked source_view old.source new.source
    -- no call of the sink failed, and the sink was flushed once, at the end
    pub sink : SinkFlushed sink_view before after
    -- no begun line is held
    pub emptied : held new ≡ []
    -- the input was read to its end, or until the slot was entered
    pub read : GoesToEnd NeverEntered old new after ⊎ ((source_view.follows_input new.source → Over) × ReportsEnd sink_view after)
    -- exactly the output was written
    pub written : source_view.follows_input new.source → IsOkAnd output (λ text. sink_view.taken after ≡ sink_view.taken before ++ text)

  -- The meaning of each result of the second part, for the pair after the scramble.
  abbrev pub RunsSecond : ℕ → Option Pair → Lines S source_view → Lines S source_view → W → W → Outcome → Type 0
  RunsSecond slot pair old new before after (Ok _) =
      TellsTwin (Ok (second_text slot pair (unread old))) (IsNeverEntered slot pair (unread old))
      (IsOver slot pair (unread old) (unread new) new.is_at_end) old new before after
  RunsSecond slot pair old new before after (Err Read) =
      FailsToRead sink_view old new before after
      × (source_view.follows_input new.source → IsSomeAnd pair (λ pair.
      StopsAtRead (both_benches slot) Input pair (unread old) (source_view.remaining new.source) (held new) (sink_view.taken before)
      (sink_view.taken after)))
  RunsSecond slot pair old new before after (Err Write) =
      FailsToWrite sink_view (Ok (second_text slot pair (unread old))) old new before after
      × (source_view.follows_input new.source
      → StopsSecondAtWrite slot pair (unread old) (unread new) (sink_view.taken before) (sink_view.taken after))
  RunsSecond slot pair old new before after (Err _) = ⊥

module _ {S W : Type 0} {source_view : SourceGhosts S} (sink_view : SinkGhosts W) (setup : Setup) (slot : ℕ) (old new : Lines S source_view)
    (before after : W) where
  -- the input has this error instead of a text
  abbrev pub HasFault : BenchFault → Type 0
  HasFault fault = source_view.follows_input new.source → twin_output setup slot (unread old) ≡ Err fault

  -- the source failed in the first script, or in the second, which follows a separator
  abbrev pub StopsInScripts : List ℕ → BenchState → Type 0
  StopsInScripts scripts bench =
      StopsAtRead one_bench Separator bench scripts (source_view.remaining new.source) (held new) (sink_view.taken before) (sink_view.taken after)
      ⊎ (IsTrue (has_separator scripts) × IsSomeAnd (make_pair slot (after_first_script bench scripts)) (λ pair.
      StopsAtRead (both_benches slot) Input pair (after_separator scripts) (source_view.remaining new.source) (held new)
      (sink_view.taken before ++ first_text bench scripts) (sink_view.taken after)))

  -- The source failed: in the image, and then nothing is written, or in a script, which follows a separator.
  abbrev pub StopsTwinAtRead : Type 0
  StopsTwinAtRead =
      (ReadsInImage (unread old) (source_view.remaining new.source) (held new) × (after ≡ before))
      ⊎ (IsTrue (has_separator (unread old))
      × IsOkAnd (bench_in (monitored_setup setup) (unread old)) (StopsInScripts (after_separator (unread old))))

  -- the sink failed in the first script, or after it
  abbrev pub StopsInScriptsAtWrite : List ℕ → BenchState → Type 0
  StopsInScriptsAtWrite scripts bench =
      StopsAtWrite one_bench Separator bench scripts (unread new) (sink_view.taken before) (sink_view.taken after)
      ⊎ StopsSecondAtWrite slot (make_pair slot (after_first_script bench scripts)) (after_separator scripts) (unread new)
      (sink_view.taken before ++ first_text bench scripts) (sink_view.taken after)

  -- the sink failed in a script of an input that starts a bench
  abbrev pub StopsTwinAtWrite : Type 0
  StopsTwinAtWrite = IsOkAnd (bench_in (monitored_setup setup) (unread old)) (StopsInScriptsAtWrite (after_separator (unread old)))

  -- a slot was scrambled after the first script, and no line of the second entered it
  abbrev pub IsTwinNeverEntered : Type 0
  IsTwinNeverEntered =
      IsOkAnd (bench_in (monitored_setup setup) (unread old)) (λ bench.
      let scripts = after_separator (unread old) in
      IsNeverEntered slot (make_pair slot (after_first_script bench scripts)) (after_separator scripts))

  -- the run was over before the end of the input
  abbrev pub IsTwinOver : Type 0
  IsTwinOver =
      IsOkAnd (bench_in (monitored_setup setup) (unread old)) (λ bench.
      let scripts = after_separator (unread old) in
      IsOver slot (make_pair slot (after_first_script bench scripts)) (after_separator scripts) (unread new) new.is_at_end)

  -- The meaning of each result of `run_twin`. The text of the image, the size of the RAM and the image are checked in this order, before a byte
  -- is written.
  abbrev pub RunsTwin : Outcome → Type 0
  RunsTwin (Ok _) =
      (is_ram_size setup.ram ≡ true) × TellsTwin sink_view (twin_output setup slot (unread old)) IsTwinNeverEntered IsTwinOver old new before after
  RunsTwin (Err Read) = FailsToRead sink_view old new before after × (source_view.follows_input new.source → StopsTwinAtRead)
  RunsTwin (Err Write) =
      (is_ram_size setup.ram ≡ true) × FailsToWrite sink_view (twin_output setup slot (unread old)) old new before after
      × (source_view.follows_input new.source → StopsTwinAtWrite)
  RunsTwin (Err Hex) = FindsFault Hex old new × HasFault Hex × (after ≡ before)
  RunsTwin (Err TooLong) = FindsFault TooLong old new × HasFault TooLong × (after ≡ before)
  RunsTwin (Err NoMemory) = RunsOutOfMemory old new × (after ≡ before)
  RunsTwin (Err (Ram BadSize)) = (is_ram_size setup.ram ≡ false) × ReadsThroughSeparator old new × HasFault (Ram BadSize) × (after ≡ before)
  RunsTwin (Err (Ram (NoRamMemory refused))) =
      (is_ram_size setup.ram ≡ true) × (refused.bytes ≡ setup.ram) × ReadsThroughSeparator old new
      × (source_view.follows_input new.source → IsOk (image_in (unread old))) × (after ≡ before)
  RunsTwin (Err (Image fault)) = (is_ram_size setup.ram ≡ true) × ReadsThroughSeparator old new × HasFault (Image fault) × (after ≡ before)
  RunsTwin (Err _) = ⊥
