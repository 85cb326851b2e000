-- The second script of a twin run, which both benches of a pair execute, ends at the line that enters the slot, or at the end of the input. These
-- lemmas give the meaning of each result: written, stopped by a failed read, or stopped by a failed write.
use Rattle.std.proofs.Common.{◌≡◌, ℕ, true, false, cond, List, [], ◌++◌, inl, inr, Option, Some, Ok, Err, sym, ◌∙◌, ap, subst, append-nil}
use Rattle.std.specs.Option.{IsSomeAnd}
use Rattle.std.proofs.lemmas.Bool.{false≢true}
use Rattle.rv_text.specs.Lines.{lines_of}
use Rattle.rv_debug.specs.BothBenches.{BothLineExecuted, both_execute_line}
use Rattle.rv_debug.specs.declared.both.BothLine.{BothLine}
use Rattle.rv_debug.specs.declared.both.BothLine.TheVariants.{Faulty, Given}
use Rattle.rv_debug.specs.declared.both.BothWhy.TheVariants.{All, Entered, NotBlind}
use Rattle.rv_streams.specs.declared.device.Sink.{Ghosts as SinkGhosts}
use Rattle.rv_streams.specs.declared.device.Source.{Ghosts as SourceGhosts}
use Rattle.rv_streams.specs.declared.fault.BenchFault.{BenchFault}
use Rattle.rv_streams.specs.declared.fault.BenchFault.TheVariants.{Read, Write}
use Rattle.rv_streams.specs.declared.lines.Lines.{Lines}
use Rattle.rv_streams.specs.declared.separator.ScriptEnd.TheVariants.{Input}
use Rattle.rv_streams.specs.Calls.{SinkFailed, SinkFlushed}
use Rattle.rv_streams.specs.Transfer.{WritesPrefix}
use Rattle.rv_streams.specs.Unread.{unread, EndsWithSource}
use Rattle.rv_streams.proofs.Ends.{SinkFailed-after, SinkFlushed-after}
use Rattle.rv_bench.specs.declared.pair.Pair.{Pair}
use Rattle.rv_bench.specs.Responses.{RespondsToAll, RespondsToEnd, RespondsUntilOver}
use Rattle.rv_bench.specs.Pair.{pair_line, done_by, end_text, entered_text, last_text, script_text, pair_replied, both_benches}
use Rattle.rv_bench.specs.Replies.{Replied, replies, state_after}
use Rattle.rv_bench.specs.Run.{FailsIn, StopsAtRead}
use Rattle.rv_bench.specs.Twin.{EntersSlot, RunsSecond, StopsSecondAtWrite}
use Rattle.rv_bench.proofs.PairLemmas.{at_input_end, ended_all, ended_prefix, entered_all, prefix_all, prefix_more, prefix_none}
use Rattle.rv_bench.proofs.Runs.{RespondsToLines-all, RespondsToLines-state, script_read}
use Rattle.rv_bench.proofs.Runs.{RespondsToNext-not_over, RespondsToNext-state, RespondsToNext-stops, RespondsToNext-taken, RespondsToNext-wrote}

-- ---- the meaning of a failure, for equal written bytes

-- a read that fails in the second script has the same meaning if the bytes before the script, `old` and `other`, are equal
pub read_after : (slot : ℕ) (pair : Option Pair) (unread remaining kept old other new : List ℕ) → old ≡ other
    → IsSomeAnd pair (λ pair. StopsAtRead (both_benches slot) Input pair unread remaining kept old new)
    → IsSomeAnd pair (λ pair. StopsAtRead (both_benches slot) Input pair unread remaining kept other new)
read_after slot pair unread remaining kept old other new same_bytes stops =
    subst (λ (bytes : List ℕ). IsSomeAnd pair (λ pair. StopsAtRead (both_benches slot) Input pair unread remaining kept bytes new)) same_bytes stops

-- a write that fails in the second script has the same meaning if the bytes before the script, `old` and `other`, are equal
pub write_after : (slot : ℕ) (pair : Option Pair) (unread remaining old other new : List ℕ) → old ≡ other
    → StopsSecondAtWrite slot pair unread remaining old new → StopsSecondAtWrite slot pair unread remaining other new
write_after slot pair unread remaining old other new same_bytes stops =
    subst (λ (bytes : List ℕ). StopsSecondAtWrite slot pair unread remaining bytes new) same_bytes stops

-- ---- a line that enters the slot

-- the reply to a line that enters the slot reports the entry, where `pair_now` is the pair before the line and `after` the pair after it
pub entry_reported : (slot : ℕ) (pair_now after : Pair) (line reply : List ℕ) → pair_line slot pair_now line ≡ record { state = after; reply = reply }
    → pair_now.entered ≡ false → after.entered ≡ true → reply ≡ entered_text after.ran
unfolding pair_line
entry_reported slot pair_now after line reply line_is was_not_entered is_entered =
    let both = both_execute_line slot pair_now.first pair_now.second line in
    let replied = ap (λ entered. cond entered (record { state = pair_now; reply = [] }) (pair_replied pair_now both)) was_not_entered in
    by_outcome both.line both (sym replied ∙ line_is) where
      -- a result of the line is the pair after the line with this reply
      Gives : Replied Pair → Type 0
      Gives replied = replied ≡ record { state = after; reply = reply }

      -- the slot is entered in a result of the line
      enters : (replied : Replied Pair) → Gives replied → replied.state.entered ≡ true
      enters replied replied_is = ap (λ (result : Replied Pair). result.state.entered) replied_is ∙ is_entered

      -- the reply is the text of the entry, by cases on the outcome of the line on both benches; an outcome that enters no slot is impossible
      by_outcome : (outcome : BothLine) (both : BothLineExecuted) → Gives (done_by outcome both pair_now.ran) → reply ≡ entered_text after.ran
      by_outcome (Given Entered blank) both replied_is =
          ap (λ (result : Replied Pair). result.reply) (sym replied_is) ∙ ap (λ (result : Replied Pair). entered_text result.state.ran) replied_is
      by_outcome (Given All blank) both replied_is = absurd (false≢true (enters (done_by (Given All blank) both pair_now.ran) replied_is))
      by_outcome (Given NotBlind blank) both replied_is = absurd (false≢true (enters (done_by (Given NotBlind blank) both pair_now.ran) replied_is))
      by_outcome Faulty both replied_is = absurd (false≢true (enters (done_by Faulty both pair_now.ran) replied_is))

-- ---- the script that both benches respond to

-- an error that stops the lines of the second script is the error of the second script
pub two_benches-stop : {S W : Type 0} {source_view : SourceGhosts S} (sink_view : SinkGhosts W) (slot : ℕ) (start : Pair)
    (old new : Lines S source_view) (before after : W)
    (fault : BenchFault) → FailsIn sink_view (both_benches slot) Input start old new before after fault
    → RunsSecond sink_view slot (Some start) old new before after (Err fault)
two_benches-stop sink_view slot start old new before after Read stops = stops
two_benches-stop sink_view slot start old new before after Write (fails, stops) =
    let lines = lines_of (unread old) in (
      record {
        source = fails.source;
        sink = fails.sink;
        emptied = fails.emptied;
        prefix = λ follows. prefix_more (sink_view.taken before) (sink_view.taken after) (replies (pair_line slot) start lines)
            (last_text (state_after (pair_line slot) start lines)) (fails.prefix follows);
      },
      λ follows. inl (stops follows),
    )
two_benches-stop sink_view slot start old new before after _ impossible = absurd impossible

module _ {S W : Type 0} {source_view : SourceGhosts S} (sink_view : SinkGhosts W)
    (slot : ℕ) {start pair_now : Pair} {old new : Lines S source_view} {before sink_now : W} where
  -- the run that responded to all lines of the script, up to the end of the input
  module _ (run : RespondsToEnd sink_view (both_benches slot) Input start pair_now old new before sink_now)
      (follows : source_view.follows_input new.source) where
    -- the pair is the pair after all lines of the script
    all_state : pair_now ≡ state_after (pair_line slot) start (lines_of (unread old))
    all_state = RespondsToLines-state (run.responded follows) (script_read sink_view run follows)

    -- the written bytes are the replies to all lines of the script
    all_wrote : sink_view.taken sink_now ≡ sink_view.taken before ++ replies (pair_line slot) start (lines_of (unread old))
    all_wrote = RespondsToLines-all (run.responded follows) (script_read sink_view run follows)

    -- no line of the script entered the slot
    never_entered : (state_after (pair_line slot) start (lines_of (unread old))).entered ≡ false
    never_entered = ap (λ (pair : Pair). pair.entered) (sym all_state) ∙ run.not_over

  -- the run that stopped at the line that enters the slot
  module _ (run : RespondsUntilOver sink_view (both_benches slot) Input start pair_now old new before sink_now) where
    -- the line that was read last entered the slot
    last_line_enters : source_view.follows_input new.source → EntersSlot slot start (unread old) (unread new) new.is_at_end
    last_line_enters follows = let next = run.next follows in record {
      lines = next.so_far.lines;
      line = next.takes.line;
      reads = (RespondsToNext-taken next).reads;
      not_entered = RespondsToNext-not_over next;
      entered = ap (λ (pair : Pair). pair.entered) (sym (RespondsToNext-state next)) ∙ run.is_over;
    }

    -- the written bytes are the text of the whole script, since later lines have no reply
    over_wrote : source_view.follows_input new.source
        → sink_view.taken sink_now ≡ sink_view.taken before ++ script_text slot start (lines_of (unread old))
    over_wrote follows =
        let so_far = RespondsToNext-wrote (run.next follows) run.wrote_reply in
        entered_all slot start pair_now _ _ _ _ _ _ so_far.taken.reads so_far.state run.is_over so_far.written

  -- the second script with its last text, which reports the end of the input unless a line entered the slot
  module _ (responds : RespondsToAll sink_view (both_benches slot) Input start pair_now old new before sink_now)
      {last : List ℕ} (last_is : last ≡ last_text pair_now) where
    -- without an entry, the last text reports the end
    last_reports_end : pair_now.entered ≡ false → last ≡ end_text pair_now.ran
    last_reports_end not_entered = last_is ∙ ap (λ entered. cond entered [] (end_text pair_now.ran)) not_entered

    -- the last text is empty after an entry
    last_is_empty : pair_now.entered ≡ true → last ≡ []
    last_is_empty is_entered = last_is ∙ ap (λ entered. cond entered [] (end_text pair_now.ran)) is_entered

    module _ {after : W} (ends : EndsWithSource old new) (wrote_last : sink_view.taken after ≡ sink_view.taken sink_now ++ last) where
      -- the last text writes nothing after an entry
      nothing_more : pair_now.entered ≡ true → sink_view.taken after ≡ sink_view.taken sink_now
      nothing_more is_entered =
          wrote_last ∙ (ap (λ text. sink_view.taken sink_now ++ text) (last_is_empty is_entered) ∙ append-nil (sink_view.taken sink_now))

      -- the second script ended, and its last line was written: the meaning of an Ok result
      pub two_benches-report : SinkFlushed sink_view sink_now after → RunsSecond sink_view slot (Some start) old new before after (Ok tt)
      two_benches-report sink_flushed = record {
        source = responds.source;
        sink = SinkFlushed-after sink_view responds.sink sink_flushed;
        emptied = responds.emptied;
        read = elim responds.stopped [
          -- the run reached the end of the input
          | inl run ↦ let at_end = at_input_end run.found in inl (record {
            at_end = at_end.at_end;
            ended = ends.ended at_end.at_end;
            used_up = at_end.none_left;
            not_entered = never_entered run;
            reports_end = (
              pair_now.ran,
              (
                sink_view.taken sink_now,
                wrote_last
                    ∙ ap (λ text. sink_view.taken sink_now ++ text) (last_reports_end run.not_over),
              ),
            );
          })
          -- a line entered the slot
          | inr run ↦ inr (
            last_line_enters run,
            inr (
              pair_now.ran,
              (
                run.taken_before,
                nothing_more run.is_over ∙ (run.wrote_reply
                    ∙ ap (λ text. run.taken_before ++ text) (entry_reported slot _ _ _ _ run.response_is run.not_over run.is_over)),
              ),
            ),
          )
        ];
        -- the text of the script was written, whether or not a line entered the slot
        written = λ follows. elim responds.stopped [
          | inl run ↦ wrote_last ∙ ended_all slot start pair_now _ _ _ _ (all_state run follows) (all_wrote run follows) last_is
          | inr run ↦ nothing_more run.is_over ∙ over_wrote run follows
        ];
      }

    -- the sink fails in the last text
    module _ {after : W} (wrote_prefix : WritesPrefix (sink_view.taken sink_now) (sink_view.taken after) last) where
      -- a failure in the last text has written nothing after an entry, since the last text is empty
      nothing_wrote : pair_now.entered ≡ true → sink_view.taken after ≡ sink_view.taken sink_now
      nothing_wrote is_entered =
          prefix_none (sink_view.taken sink_now) (sink_view.taken after)
          (subst (WritesPrefix (sink_view.taken sink_now) (sink_view.taken after)) (last_is_empty is_entered) wrote_prefix)

      -- a failure of the sink in the last line is the write error of the second script
      pub two_benches-fail : SinkFailed sink_view sink_now after → RunsSecond sink_view slot (Some start) old new before after (Err Write)
      two_benches-fail sink_failed = (
        record {
          source = responds.source;
          sink = SinkFailed-after sink_view responds.sink sink_failed;
          emptied = responds.emptied;
          prefix = λ follows. elim responds.stopped [
            | inl run ↦ ended_prefix slot start pair_now _ _ _ _ (all_state run follows) (all_wrote run follows) last_is _ wrote_prefix
            | inr run ↦ prefix_all _ _ _ (nothing_wrote run.is_over ∙ over_wrote run follows)
          ];
        },
        λ follows. elim responds.stopped [
          -- the sink failed in the line that reports the end of the input
          | inl run ↦ inr (record {
            used_up = (at_input_end run.found).none_left follows;
            not_entered = never_entered run follows;
            written =
                let end_line = end_text (state_after (pair_line slot) start (lines_of (unread old))).ran in
                let last_is_end = last_reports_end run.not_over ∙ ap (λ (pair : Pair). end_text pair.ran) (all_state run follows) in
                subst (λ taken. WritesPrefix taken (sink_view.taken after) end_line) (all_wrote run follows)
                (subst (WritesPrefix (sink_view.taken sink_now) (sink_view.taken after)) last_is_end wrote_prefix);
          })
          -- the sink failed after the reply to the line that entered the slot
          | inr run ↦ inl (RespondsToNext-stops (run.next follows) (prefix_all _ _ _ (nothing_wrote run.is_over ∙ run.wrote_reply)))
        ],
      )
