-- Lemmas about a run over the lines of a script: the responses to the lines so far, to one more line, and to all lines.
use Rattle.std.proofs.Common.{◌≡◌, ℕ, Bool, false, not, length, inl, inr, Result, Ok, arith, List, [], ◌∷◌, ◌++◌, take, refl, sym}
use Rattle.std.proofs.Common.{◌∙◌, ap, subst, append_assoc, append-nil, lit≤}
use Rattle.std.proofs.lemmas.Bool.{false≢true}
use Rattle.std.proofs.lemmas.List.{take-take, length-append}
use Rattle.std.specs.Result.{IsOkAnd}
use Rattle.rv_streams.specs.declared.device.Sink.{Ghosts as SinkGhosts}
use Rattle.rv_streams.specs.declared.device.Source.{Ghosts as SourceGhosts}
use Rattle.rv_streams.specs.declared.fault.BenchFault.{BenchFault}
use Rattle.rv_streams.specs.declared.fault.BenchFault.TheVariants.{Write}
use Rattle.rv_streams.specs.declared.lines.Lines.{Lines}
use Rattle.rv_streams.specs.declared.separator.ScriptEnd.{ScriptEnd}
use Rattle.rv_streams.specs.declared.separator.ScriptEnd.TheVariants.{Input, Separator}
use Rattle.rv_streams.specs.Calls.{SourceWorked, SinkWorked, SinkFlushed, SinkFailed}
use Rattle.rv_streams.specs.LineText.{ReadsLineText}
use Rattle.rv_streams.specs.Script.{script_lines, is_script_line, FindsEnd, TakesScript}
use Rattle.rv_streams.specs.Transfer.{WritesPrefix}
use Rattle.rv_streams.specs.Unread.{held, unread, EndsWithSource}
use Rattle.rv_streams.proofs.Ends.{SinkFailed-after, SinkFlushed-after, SinkWorked-more}
use Rattle.rv_streams.proofs.LineTextLemmas.{ReadsLines-none, ReadsLines-more}
use Rattle.rv_streams.proofs.ScriptLemmas.{ends_script-shown, script_lines-all, script_lines-prefix, ReadsScript, FindsEnd-separator, FindsEnd-whole}
use Rattle.rv_streams.proofs.TakeWhileLemmas.{list_all-push}
use Rattle.rv_bench.specs.Responses.{RespondsToAll, RespondsToEnd, RespondsToLine, RespondsToLines, RespondsToNext}
use Rattle.rv_bench.specs.Replies.{Responding, Replied, bench_line, one_bench, replies, state_after}
use Rattle.rv_bench.specs.Run.{FailsIn, RunsScript, StopsAtRead, StopsAtWrite}
use Rattle.rv_debug.specs.BenchState.{BenchState}
use Rattle.rv_text.specs.GoodLines.{significant_bytes}
use Rattle.rv_text.specs.Lines.{lines_of}
use Rattle.rv_bench.proofs.RepliesLemmas.{replies-append, state_after-append, replies-more}

-- ---- a line

-- the response to a line, for an equal responder and an equal line
pub RespondsToLine-same : {A : Type 0} {old responder : Responding A} {state_now : A} {given line : List ℕ} {responded : Replied A}
    → old ≡ responder → given ≡ line
    → RespondsToLine old state_now given responded → RespondsToLine responder state_now line responded
RespondsToLine-same {old = old} {state_now = state_now} {line = line} {responded = responded} same_responder same_line responds =
    subst (λ responder. RespondsToLine responder state_now line responded) same_responder
    (subst (λ line. RespondsToLine old state_now line responded) same_line responds)

-- ---- the lines so far

module _ {A : Type 0} {responder : Responding A} {end : ScriptEnd} {start : A} {unread old : List ℕ} where
  -- before the first line, there is no response
  pub RespondsToLines-none : {is_at_end : Bool} → RespondsToLines responder end start unread old start unread is_at_end old
  RespondsToLines-none {is_at_end = is_at_end} = record {
    lines = [];
    taken = record { reads = ReadsLines-none unread is_at_end; in_script = refl };
    state = refl;
    written = sym (append-nil old);
  }

  module _ {state_now : A} {remaining new : List ℕ} where
    -- the responses to the lines so far, if the end of the input is not yet reported
    pub RespondsToLines-going : {is_at_end : Bool} → is_at_end ≡ false
        → RespondsToLines responder end start unread old state_now remaining is_at_end new
        → RespondsToLines responder end start unread old state_now remaining false new
    RespondsToLines-going not_at_end so_far =
        subst (λ is_at_end. RespondsToLines responder end start unread old state_now remaining is_at_end new) not_at_end so_far

    -- if the source fails in the next line, the run stops at this read, after the responses to the lines so far
    pub RespondsToLines-read : {rest kept : List ℕ} → RespondsToLines responder end start unread old state_now remaining false new
        → responder.is_over state_now ≡ false
        → ReadsLineText remaining rest kept → StopsAtRead responder end start unread rest kept old new
    RespondsToLines-read so_far not_over begun = let reads = so_far.taken.reads in record {
      text = reads.text;
      begun = begun.text;
      split = reads.split ∙ ap (λ rest. reads.text ++ rest) begun.split;
      whole_lines = reads.whole_lines refl;
      unfinished = begun.unfinished;
      prefix = begun.prefix;
      in_script = ap (script_lines end) reads.are_lines ∙ (script_lines-all end so_far.lines so_far.taken.in_script ∙ sym reads.are_lines);
      not_over = ap responder.is_over (ap (state_after responder.respond start) reads.are_lines ∙ sym so_far.state) ∙ not_over;
      written = so_far.written ∙ ap (λ lines. old ++ replies responder.respond start lines) (sym reads.are_lines);
    }

    module _ {is_at_end : Bool} {rest : List ℕ} (so_far : RespondsToLines responder end start unread old state_now remaining is_at_end new)
        (whole : ReadsScript end unread rest so_far.lines) where
      -- after the whole script, the written bytes are the replies to all its lines
      pub RespondsToLines-all : new ≡ old ++ replies responder.respond start (script_lines end (lines_of unread))
      RespondsToLines-all = so_far.written ∙ ap (λ lines. old ++ replies responder.respond start lines) (sym whole.all_lines)

      -- after the whole script, the state is the state after all its lines
      pub RespondsToLines-state : state_now ≡ state_after responder.respond start (script_lines end (lines_of unread))
      RespondsToLines-state = so_far.state ∙ ap (state_after responder.respond start) (sym whole.all_lines)

      -- if the sink fails after the last line, all lines of the script have their replies
      pub RespondsToLines-written : {last : List ℕ} → responder.is_over state_now ≡ false → last ≡ new
          → StopsAtWrite responder end start unread rest old last
      RespondsToLines-written not_over same_bytes = let reads = whole.reads in record {
        text = reads.text;
        responded = so_far.lines;
        next = [];
        at_most_one = omega (arith, ap length reads.are_lines, length-append so_far.lines whole.closing, whole.at_most_one);
        split = reads.split;
        are_lines = ap (script_lines end) reads.are_lines ∙ (whole.in_script ∙ sym (append-nil so_far.lines));
        all_lines = reads.all_lines ∙ ap (λ lines. lines ++ lines_of rest) (sym reads.are_lines);
        not_over = ap responder.is_over (sym so_far.state) ∙ not_over;
        written = ([], ([], same_bytes ∙ (so_far.written ∙ sym (append-nil (old ++ replies responder.respond start so_far.lines))), refl));
      }

  -- if the sink fails, the written bytes are a prefix of all replies: the replies before the failure, and a prefix of the next reply
  pub StopsAtWrite-prefix : {remaining new : List ℕ} → StopsAtWrite responder end start unread remaining old new
      → WritesPrefix old new (replies responder.respond start (script_lines end (lines_of unread)))
  StopsAtWrite-prefix {remaining = remaining} stops =
      let (unwritten, (prefix, wrote_prefix, reply_is)) = stops.written in
      let (following, script_is) = script_lines-prefix end (lines_of stops.text) (lines_of remaining) in
      let read = script_lines end (lines_of stops.text) in
      let before = replies responder.respond start stops.responded in
      let others = replies responder.respond (state_after responder.respond start read) following in
      -- the replies to the lines that were read: those before the failure, and then the reply in which the sink failed
      let read_replies : replies responder.respond start read ≡ before ++ (prefix ++ unwritten) =
      ap (replies responder.respond start) stops.are_lines
      ∙ (replies-append responder.respond start stops.responded stops.next ∙ ap (λ reply. before ++ reply) reply_is) in (
        unwritten ++ others,
        (
          before ++ prefix,
          wrote_prefix ∙ append_assoc old before prefix,
          -- all replies are the replies to the lines that were read, and then the replies to the lines after them
          ap (λ lines. replies responder.respond start (script_lines end lines)) stops.all_lines
              ∙ (ap (replies responder.respond start) script_is
              ∙ (replies-append responder.respond start read following
              ∙ (ap (λ text. text ++ others) (read_replies ∙ sym (append_assoc before prefix unwritten))
              ∙ append_assoc (before ++ prefix) unwritten others))),
        ),
      )

-- ---- one more line

module _ {A : Type 0} {responder : Responding A} {end : ScriptEnd} {start : A} {unread old written_so_far : List ℕ} {after : A} {rest : List ℕ}
    {ends : Bool} {reply : List ℕ} (next : RespondsToNext responder end start unread old written_so_far after rest ends reply) where
  -- `lines` has the lines so far, and one more
  abbrev lines : List (List ℕ)
  lines = next.so_far.lines ++ next.takes.line ∷ []

  -- The response to one more line depends only on its significant bytes, which `next` has responded to.
  next_response : responder.respond (state_after responder.respond start next.so_far.lines) next.takes.line ≡ record { state = after; reply = reply }
  next_response =
      let line = next.takes.line in
      let same_significant = sym (ap (take significant_bytes) next.takes.prefix ∙ take-take significant_bytes significant_bytes line (lit≤ tt)) in
      let (response_to_shown, same_response) = next.responds in
      ap (λ state. responder.respond state line) (sym next.so_far.state) ∙ (same_response line same_significant ∙ response_to_shown)

  -- the responder was not over before the line
  pub RespondsToNext-not_over : responder.is_over (state_after responder.respond start next.so_far.lines) ≡ false
  RespondsToNext-not_over = ap responder.is_over (sym next.so_far.state) ∙ next.not_over

  -- the state is the state after all lines, including the last one
  pub RespondsToNext-state : after ≡ state_after responder.respond start lines
  RespondsToNext-state =
      sym (state_after-append responder.respond start next.so_far.lines (next.takes.line ∷ [])
      ∙ ap (λ (responded : Replied A). responded.state) next_response)

  -- the lines taken from the source are the lines of the script so far, and the last one
  pub RespondsToNext-taken : TakesScript end unread rest ends lines
  RespondsToNext-taken = record {
    reads = ReadsLines-more unread next.remaining rest ends next.shown next.so_far.lines next.so_far.taken.reads next.takes;
    in_script = list_all-push (is_script_line end) next.so_far.lines next.takes.line next.so_far.taken.in_script
        (ap not (ends_script-shown end next.remaining rest ends next.shown next.takes ∙ next.in_script));
  }

  -- after the reply to one more line is written, the lines so far include this line
  pub RespondsToNext-wrote : {new : List ℕ} → new ≡ written_so_far ++ reply → RespondsToLines responder end start unread old after rest ends new
  RespondsToNext-wrote wrote_reply =
      let so_far = next.so_far in
      let before = replies responder.respond start so_far.lines in
      record {
        lines = lines;
        taken = RespondsToNext-taken;
        state = RespondsToNext-state;
        -- the replies to the lines so far were written, and then the reply to one more line
        written =
            wrote_reply
            ∙ (ap (λ text. text ++ reply) so_far.written
            ∙ (append_assoc old before reply
            ∙ ap (λ text. old ++ text) (sym (replies-more responder.respond start so_far.lines next.takes.line
            ∙ ap (λ (responded : Replied A). before ++ responded.reply) next_response))));
      }

  -- if the sink fails within the reply to a line, the script stops at this write
  pub RespondsToNext-stops : {new : List ℕ} → WritesPrefix written_so_far new reply → StopsAtWrite responder end start unread rest old new
  RespondsToNext-stops (unwritten, (prefix, wrote_prefix, reply_split)) =
      let so_far = next.so_far in
      let reads = RespondsToNext-taken.reads in
      let reply_is = append-nil (responder.respond (state_after responder.respond start so_far.lines) next.takes.line).reply
      ∙ ap (λ (responded : Replied A). responded.reply) next_response in record {
        text = reads.text;
        responded = so_far.lines;
        next = next.takes.line ∷ [];
        at_most_one = omega (arith, ap length reads.are_lines, length-append so_far.lines (next.takes.line ∷ []));
        split = reads.split;
        are_lines = ap (script_lines end) reads.are_lines ∙ script_lines-all end lines RespondsToNext-taken.in_script;
        all_lines = reads.all_lines ∙ ap (λ lines. lines ++ lines_of rest) (sym reads.are_lines);
        not_over = RespondsToNext-not_over;
        written = (unwritten, (prefix, wrote_prefix ∙ ap (λ text. text ++ prefix) so_far.written, reply_is ∙ reply_split));
      }

-- ---- the responses to a script

module _ {W : Type 0} (sink_view : SinkGhosts W) where
  -- the calls of a sink in a script: it is flushed once if the script ends with the input, and not if it ends at a separator
  abbrev pub SinkAt : ScriptEnd → W → W → Type 0
  SinkAt Input = SinkFlushed sink_view
  SinkAt Separator = SinkWorked sink_view

  -- writes that worked, followed by the calls at the end of a script, are the calls of a sink in a script
  SinkAt-after : (end : ScriptEnd) (old between new : W) → SinkWorked sink_view old between → SinkAt end between new → SinkAt end old new
  SinkAt-after Input old between new = SinkFlushed-after sink_view
  SinkAt-after Separator old between new = SinkWorked-more sink_view

module _ {S W : Type 0} {source_view : SourceGhosts S} (sink_view : SinkGhosts W) where
  -- the run reached the end of the script: no line was left, and the replies are written
  RunsScript-whole : (end : ScriptEnd) (output : Result (List ℕ) BenchFault) (before after : W) {old last new : Lines S source_view}
      → SourceWorked source_view old.source new.source → held new ≡ [] → SinkAt sink_view end before after → EndsWithSource old new
      → FindsEnd end last new
      → (source_view.follows_input new.source → (lines : List (List ℕ)) × TakesScript end (unread old) (unread last) last.is_at_end lines)
      → (source_view.follows_input new.source → IsOkAnd output (λ text. sink_view.taken after ≡ sink_view.taken before ++ text))
      → RunsScript sink_view end output old new before after
  RunsScript-whole Input output before after source_worked none_held sink_calls ends_with_source (inl at_end) lines_taken written = record {
    at_end = at_end.at_end;
    ended = ends_with_source.ended at_end.at_end;
    emptied = none_held;
    source = source_worked;
    sink = sink_calls;
    used_up = at_end.none_left;
    written = written;
  }
  RunsScript-whole Input output before after source_worked none_held sink_calls ends_with_source (inr reads) lines_taken written =
      absurd (false≢true reads.ends)
  RunsScript-whole Separator output before after {old = old} {last = last} {new = new} source_worked none_held sink_calls ends_with_source
      found lines_taken written =
      record { reads = FindsEnd-separator old last new source_worked none_held found lines_taken; sink = sink_calls; written = written }

  -- the responses are the same after the sink passed on the bytes that it held
  pub RespondsToAll-passed : {A : Type 0} {responder : Responding A} {end : ScriptEnd} {start state_now : A} {old new : Lines S source_view}
      {before sink_now after : W}
      → RespondsToAll sink_view responder end start state_now old new before sink_now → sink_view.taken after ≡ sink_view.taken sink_now
      → SinkWorked sink_view sink_now after
      → RespondsToAll sink_view responder end start state_now old new before after
  RespondsToAll-passed {responder = responder} {end = end} {start = start} {state_now = state_now} {old = old} {before = before} responds
      same_bytes sink_worked = record {
        source = responds.source;
        sink = SinkWorked-more sink_view responds.sink sink_worked;
        emptied = responds.emptied;
        stopped = elim responds.stopped [
          -- all lines of the script have their responses
          | inl run ↦ inl (record {
            last = run.last;
            found = run.found;
            not_over = run.not_over;
            responded = λ follows.
                subst (RespondsToLines responder end start (unread old) (sink_view.taken before) state_now (unread run.last) run.last.is_at_end)
                (sym same_bytes) (run.responded follows);
          })
          -- the responder is over after the last line that it read
          | inr run ↦ inr (record {
            state_before = run.state_before;
            shown = run.shown;
            taken_before = run.taken_before;
            reply = run.reply;
            response_is = run.response_is;
            not_over = run.not_over;
            is_over = run.is_over;
            wrote_reply = same_bytes ∙ run.wrote_reply;
            next = run.next;
          })
        ];
      }

  -- a responder that has responded to all lines, up to the end of the script, has read the whole script
  pub script_read : {A : Type 0} {responder : Responding A} {end : ScriptEnd} {start state_now : A} {old new : Lines S source_view} {before after : W}
      → (run : RespondsToEnd sink_view responder end start state_now old new before after) → (follows : source_view.follows_input new.source)
      → ReadsScript end (unread old) (unread new) (run.responded follows).lines
  script_read {end = end} {old = old} {new = new} run follows =
      FindsEnd-whole old run.last new end _ run.found (run.responded follows).taken follows

  -- One bench has responded to a script. The sink may be flushed after the replies; if it fails then, it has all replies.
  module _ {end : ScriptEnd} {start state_now : BenchState} {old new : Lines S source_view} {before sink_now : W}
      (responds : RespondsToAll sink_view one_bench end start state_now old new before sink_now) (ends : EndsWithSource old new) where
    -- a bench is never over, so it responds to all lines of the script, and is then in the state after them
    pub one_bench-state : source_view.follows_input new.source → state_now ≡ state_after bench_line start (script_lines end (lines_of (unread old)))
    one_bench-state follows = elim responds.stopped [
      | inl run ↦ RespondsToLines-state (run.responded follows) (script_read run follows)
      | inr run ↦ absurd (false≢true run.is_over)
    ]

    module _ {after : W} (same_bytes : sink_view.taken after ≡ sink_view.taken sink_now) where
      -- all replies were written: the meaning of an Ok result
      pub one_bench-runs : SinkAt sink_view end sink_now after
          → RunsScript sink_view end (Ok (replies bench_line start (script_lines end (lines_of (unread old))))) old new before after
      one_bench-runs sink_calls = elim responds.stopped [
        -- all lines of the script have their responses
        | inl run ↦
            RunsScript-whole end _ before after responds.source responds.emptied
            (SinkAt-after sink_view end before sink_now after responds.sink sink_calls)
            ends run.found
            (λ follows. ((run.responded follows).lines, (run.responded follows).taken))
            (λ follows. same_bytes ∙ RespondsToLines-all (run.responded follows) (script_read run follows))
        -- a bench is never over
        | inr run ↦ absurd (false≢true run.is_over)
      ]

      -- a failure of the sink after the replies is the write error of the run
      pub one_bench-fails : SinkFailed sink_view sink_now after → FailsIn sink_view one_bench end start old new before after Write
      one_bench-fails sink_failed = elim responds.stopped [
        | inl run ↦
            let stops = λ (follows : source_view.follows_input new.source).
            RespondsToLines-written (run.responded follows) (script_read run follows) refl same_bytes in (
              record {
                source = responds.source;
                sink = SinkFailed-after sink_view responds.sink sink_failed;
                emptied = responds.emptied;
                prefix = λ follows. StopsAtWrite-prefix (stops follows);
              },
              stops,
            )
        | inr run ↦ absurd (false≢true run.is_over)
      ]
