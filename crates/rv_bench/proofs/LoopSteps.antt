-- The loop over the lines of a script, one iteration at a time: `SoFar` is its invariant, and `LineStep` is one iteration.
use Rattle.std.proofs.Common.{◌≡◌, ℕ, false, true, arith, inl, inr, List, [], ◌++◌, ◌∙◌, refl}
use Rattle.rv_streams.specs.declared.device.Sink.{Ghosts as SinkGhosts}
use Rattle.rv_streams.specs.declared.device.Source.{Ghosts as SourceGhosts}
use Rattle.rv_streams.specs.declared.fault.BenchFault.TheVariants.{Read, Write}
use Rattle.rv_streams.specs.declared.lines.Lines.{Lines}
use Rattle.rv_streams.specs.declared.separator.ScriptEnd.{ScriptEnd}
use Rattle.rv_streams.specs.Calls.{SourceFailed, SourceWorked, SinkFailed, SinkWorked}
use Rattle.rv_streams.specs.LineText.{ReadsLineText, TakesLine}
use Rattle.rv_streams.specs.Script.{ends_script, FindsEnd}
use Rattle.rv_streams.specs.Transfer.{WritesPrefix}
use Rattle.rv_streams.specs.Unread.{held, unread, EndsWithSource}
use Rattle.rv_streams.proofs.Ends.{SinkFailed-after, SinkWorked-more, EndsWithSource-none, EndsWithSource-more}
use Rattle.rv_bench.specs.Responses.{RespondsToAll, RespondsToLine, RespondsToLines, RespondsToNext}
use Rattle.rv_bench.specs.Replies.{Responding}
use Rattle.rv_bench.specs.Run.{FailsIn}
use Rattle.rv_bench.proofs.Runs.{RespondsToLines-none, RespondsToLines-going, RespondsToLines-read, RespondsToNext-wrote}
use Rattle.rv_bench.proofs.Runs.{RespondsToNext-stops, StopsAtWrite-prefix}

-- The loop began with the responder in the state `start`, the lines `old` and the sink `before`. Their states are now `state_now`, `lines_now` and
-- `sink_now`.
module _ {S W : Type 0} {source_view : SourceGhosts S} (sink_view : SinkGhosts W) {A : Type 0} (responder : Responding A) (end : ScriptEnd)
    (start : A) (old : Lines S source_view) (before : W) (state_now : A) (lines_now : Lines S source_view) (sink_now : W) where
  -- The lines so far have their responses, the responder is not over, and no call has failed.
  pub record SoFar : Type 0 where
    -- the lines so far have their replies
    pub responded : source_view.follows_input lines_now.source
        → RespondsToLines responder end start (unread old) (sink_view.taken before) state_now (unread lines_now) lines_now.is_at_end
        (sink_view.taken sink_now)
    -- the responder is not over
    pub not_over : responder.is_over state_now ≡ false
    -- the lines end only if the source does
    pub ends : EndsWithSource old lines_now
    -- no call of the source failed
    pub source : SourceWorked source_view old.source lines_now.source
    -- no call of the sink failed, and the sink was not flushed
    pub sink : SinkWorked sink_view before sink_now

  -- One more line was taken and has its response.
  pub record LineStep (after : A) (new : Lines S source_view) (reply : List ℕ) : Type 0 where
    -- the state of the loop before the line
    pub so_far : SoFar
    -- the bytes of the line that the responder gets
    pub shown : List ℕ
    -- the lines had not reported the end of the input
    pub not_at_end : lines_now.is_at_end ≡ false
    -- the line was taken from the unread bytes
    pub takes : source_view.follows_input new.source → TakesLine (unread lines_now) (unread new) new.is_at_end shown
    -- the line is a line of the script, and does not end it
    pub in_script : ends_script end shown ≡ false
    -- the response to the line
    pub responds : RespondsToLine responder state_now shown (record { state = after; reply = reply })
    -- the lines end only if the source does
    pub ends : EndsWithSource lines_now new
    -- no call of the source failed
    pub source : SourceWorked source_view lines_now.source new.source
    -- no begun line is held
    pub emptied : held new ≡ []

module _ {S W : Type 0} {source_view : SourceGhosts S} {sink_view : SinkGhosts W} {A : Type 0} {responder : Responding A} {end : ScriptEnd}
    {start : A} {old : Lines S source_view} {before : W} where
  -- before the first line, no line has a response
  pub SoFar-none : responder.is_over start ≡ false → SoFar sink_view responder end start old before start old before
  SoFar-none not_over = record {
    responded = λ _. RespondsToLines-none;
    not_over = not_over;
    ends = EndsWithSource-none _;
    source = refl;
    sink = record { worked = (refl, refl); unflushed = refl };
  }

  module _ {state_now : A} {lines_now : Lines S source_view} {sink_now : W} where
    -- if there is no further line of the script, the whole script has its responses
    pub SoFar-ended : {new : Lines S source_view} → SoFar sink_view responder end start old before state_now lines_now sink_now
        → FindsEnd end lines_now new → EndsWithSource lines_now new
        → SourceWorked source_view lines_now.source new.source → held new ≡ []
        → RespondsToAll sink_view responder end start state_now old new before sink_now
    SoFar-ended so_far found_end ends source_worked none_held = record {
      source = source_worked ∙ so_far.source;
      sink = so_far.sink;
      emptied = none_held;
      stopped = inl (record {
        last = lines_now;
        found = found_end;
        not_over = so_far.not_over;
        responded = λ follows. so_far.responded (ends.followed_before follows);
      });
    }

    -- if the source fails in the next line, the lines so far have their replies, and the result is the read error
    pub SoFar-read : (new : Lines S source_view) → SoFar sink_view responder end start old before state_now lines_now sink_now
        → (lines_now.is_at_end ≡ false) × (new.is_at_end ≡ false)
        → EndsWithSource lines_now new → SourceFailed source_view lines_now.source new.source
        → (source_view.follows_input new.source → ReadsLineText (unread lines_now) (source_view.remaining new.source) (held new))
        → FailsIn sink_view responder end start old new before sink_now Read
    SoFar-read new so_far (not_at_end, new_not_at_end) ends next_failed text_held =
        let so_far_worked = so_far.source in
        let source_failed : SourceFailed source_view old.source new.source = omega (arith, next_failed, so_far_worked) in (
          record { source = source_failed; sink = so_far.sink; not_at_end = new_not_at_end },
          λ follows.
              RespondsToLines-read (RespondsToLines-going not_at_end (so_far.responded (ends.followed_before follows))) so_far.not_over
              (text_held follows),
        )

    module _ {after : A} {new : Lines S source_view} {reply : List ℕ}
        (step : LineStep sink_view responder end start old before state_now lines_now sink_now after new reply) where
      -- after one more line, the response to this line follows the responses so far
      next : source_view.follows_input new.source
          → RespondsToNext responder end start (unread old) (sink_view.taken before) (sink_view.taken sink_now) after (unread new) new.is_at_end reply
      next follows = record {
        state_now = state_now;
        remaining = unread lines_now;
        shown = step.shown;
        so_far = RespondsToLines-going step.not_at_end (step.so_far.responded (step.ends.followed_before follows));
        not_over = step.so_far.not_over;
        takes = step.takes follows;
        in_script = step.in_script;
        responds = step.responds;
      }

      -- if the sink fails in the reply to this line, the replies before it are written
      pub LineStep-stops : (last : W) → SinkFailed sink_view sink_now last → WritesPrefix (sink_view.taken sink_now) (sink_view.taken last) reply
          → FailsIn sink_view responder end start old new before last Write
      LineStep-stops last sink_failed wrote_prefix = (
        record {
          source = step.source ∙ step.so_far.source;
          sink = SinkFailed-after sink_view step.so_far.sink sink_failed;
          emptied = step.emptied;
          prefix = λ follows. StopsAtWrite-prefix (RespondsToNext-stops (next follows) wrote_prefix);
        },
        λ follows. RespondsToNext-stops (next follows) wrote_prefix,
      )

      -- the sink worked, and took the whole reply to this line
      module _ {last : W} (sink_worked : SinkWorked sink_view sink_now last)
          (wrote_reply : sink_view.taken last ≡ sink_view.taken sink_now ++ reply) where
        -- if the responder is not over after this line, the loop continues
        pub LineStep-goes : responder.is_over after ≡ false → SoFar sink_view responder end start old before after new last
        LineStep-goes not_over = record {
          responded = λ follows. RespondsToNext-wrote (next follows) wrote_reply;
          not_over = not_over;
          ends = EndsWithSource-more _ _ _ step.so_far.ends step.ends;
          source = step.source ∙ step.so_far.source;
          sink = SinkWorked-more sink_view step.so_far.sink sink_worked;
        }

        -- if the responder is over after this line, the script ends
        pub LineStep-over : responder.is_over after ≡ true → RespondsToAll sink_view responder end start after old new before last
        LineStep-over is_over = let (response_is, same_response_to_significant_bytes) = step.responds in record {
          source = step.source ∙ step.so_far.source;
          sink = SinkWorked-more sink_view step.so_far.sink sink_worked;
          emptied = step.emptied;
          stopped = inr (record {
            state_before = state_now;
            shown = step.shown;
            taken_before = sink_view.taken sink_now;
            reply = reply;
            response_is = response_is;
            not_over = step.so_far.not_over;
            is_over = is_over;
            wrote_reply = wrote_reply;
            next = next;
          });
        }
