-- The responses to the lines of a script, as far as it is read: to its end, or to the line after which the responder is over. (This project's
-- own streams.)
use Rattle.std.specs.Prelude.{◌≡◌, ◌⊎◌, ℕ, Bool, true, false, List, [], ◌++◌, take, Ok, Err}
use Rattle.rv_text.specs.GoodLines.{significant_bytes}
use Rattle.rv_streams.specs.declared.device.Sink.{Ghosts as SinkGhosts}
use Rattle.rv_streams.specs.declared.device.Source.{Ghosts as SourceGhosts}
use Rattle.rv_streams.specs.declared.lines.Lines.{Lines}
use Rattle.rv_streams.specs.declared.separator.ScriptEnd.{ScriptEnd}
use Rattle.rv_streams.specs.Calls.{SourceWorked, SinkWorked}
use Rattle.rv_streams.specs.LineText.{TakesLine}
use Rattle.rv_streams.specs.Faults.{Outcome}
use Rattle.rv_streams.specs.Script.{ends_script, TakesScript, FindsEnd}
use Rattle.rv_streams.specs.Unread.{held, unread}
use Rattle.rv_bench.specs.Replies.{Responding, Replied, replies, state_after}
use Rattle.rv_bench.specs.Run.{FailsIn}

-- a line has this response, and so has every line that begins with the same significant bytes
abbrev pub RespondsToLine : {A : Type 0} → Responding A → A → List ℕ → Replied A → Type 0
RespondsToLine responder state_now line responded =
    (responder.respond state_now line ≡ responded)
    × ((other : List ℕ) → take significant_bytes other ≡ take significant_bytes line
    → responder.respond state_now other ≡ responder.respond state_now line)

module _ {A : Type 0} (responder : Responding A) (end : ScriptEnd) (start : A) (unread old : List ℕ) where
  -- The lines of the script that were taken have their replies.
  pub record RespondsToLines (state_now : A) (remaining : List ℕ) (is_at_end : Bool) (new : List ℕ) : Type 0 where
    -- the lines that were taken
    pub lines : List (List ℕ)
    -- these are lines of the script, and no others were taken
    pub taken : TakesScript end unread remaining is_at_end lines
    -- the state of the responder after these lines
    pub state : state_now ≡ state_after responder.respond start lines
    -- the replies to these lines were written
    pub written : new ≡ old ++ replies responder.respond start lines

  -- After these lines the responder is not over. One more line was taken, which has this reply.
  pub record RespondsToNext (written_so_far : List ℕ) (after : A) (rest : List ℕ) (ends : Bool) (reply : List ℕ) : Type 0 where
    -- the state of the responder before the next line
    pub state_now : A
    -- the unread bytes before the next line
    pub remaining : List ℕ
    -- the significant bytes of the next line
    pub shown : List ℕ
    -- the lines before the next line have their replies
    pub so_far : RespondsToLines state_now remaining false written_so_far
    -- the responder is not over before the next line
    pub not_over : responder.is_over state_now ≡ false
    -- the next line was taken from the unread bytes
    pub takes : TakesLine remaining rest ends shown
    -- the next line does not end the script
    pub in_script : ends_script end shown ≡ false
    -- the response to the next line
    pub responds : RespondsToLine responder state_now shown (record { state = after; reply = reply })

module _ {S W : Type 0} {source_view : SourceGhosts S} (sink_view : SinkGhosts W) {A : Type 0} (responder : Responding A) (end : ScriptEnd)
    (start state_now : A)
    (old new : Lines S source_view) (before after : W) where
  -- All lines of the script have their responses, and the responder is not over.
  pub record RespondsToEnd : Type 0 where
    -- the lines before the end of the script was found
    pub last : Lines S source_view
    -- no line of the script is left
    pub found : FindsEnd end last new
    -- the responder is not over
    pub not_over : responder.is_over state_now ≡ false
    -- the lines of the script have their replies
    pub responded : source_view.follows_input new.source
        → RespondsToLines responder end start (unread old) (sink_view.taken before) state_now (unread last) last.is_at_end (sink_view.taken after)

  -- After the last line that was read, the responder is over.
  pub record RespondsUntilOver : Type 0 where
    -- the state of the responder before the last line
    pub state_before : A
    -- the significant bytes of the last line
    pub shown : List ℕ
    -- the bytes that the sink had taken before the last reply
    pub taken_before : List ℕ
    -- the reply to the last line
    pub reply : List ℕ
    -- the response to the last line leads to the present state, with this reply
    pub response_is : responder.respond state_before shown ≡ record { state = state_now; reply = reply }
    -- the responder was not over before the last line
    pub not_over : responder.is_over state_before ≡ false
    -- the responder is over after the last line
    pub is_over : responder.is_over state_now ≡ true
    -- the sink took the reply to the last line
    pub wrote_reply : sink_view.taken after ≡ taken_before ++ reply
    -- the last line was taken and responded to after the lines before it
    pub next : source_view.follows_input new.source
        → RespondsToNext responder end start (unread old) (sink_view.taken before) taken_before state_now (unread new) new.is_at_end reply

  -- All lines that were read have their responses.
  pub record RespondsToAll : Type 0 where
    -- no call of the source failed
    pub source : SourceWorked source_view old.source new.source
    -- no call of the sink failed, and the sink was not flushed
    pub sink : SinkWorked sink_view before after
    -- no begun line is held
    pub emptied : held new ≡ []
    -- the script ended, or the responder was over
    pub stopped : RespondsToEnd ⊎ RespondsUntilOver

  -- the meaning of each result of responding to a script
  abbrev pub RespondsToScript : Outcome → Type 0
  RespondsToScript (Ok _) = RespondsToAll
  RespondsToScript (Err fault) = FailsIn sink_view responder end start old new before after fault
