-- The bytes that the lines of a source have not yet returned, and the end of the lines. (This project's own streams.)
use Rattle.std.specs.Prelude.{◌≡◌, ◌<◌, ℕ, true, false, List, [], ◌++◌, ◌+◌, ◌⊎◌, length, Option, Result, IfOk, IfSome, OnErr, OnOk, OnSome, is_err}
use Rattle.rv_streams.specs.declared.device.Source.{Ghosts}
use Rattle.rv_streams.specs.declared.lines.Lines.{Lines}
use Rattle.rv_streams.specs.Device.{HasRisen, counted_if}
use Rattle.rv_streams.specs.LineText.{ReadsLineText, TakesLine}

module _ {S : Type 0} {source_view : Ghosts S} where
  -- `held` is the prefix of an unfinished line
  abbrev pub held : Lines S source_view → List ℕ
  held lines = lines.line.items

  -- `unread` has the prefix of an unfinished line, and the remaining bytes of the source
  abbrev pub unread : Lines S source_view → List ℕ
  unread lines = held lines ++ source_view.remaining lines.source

  -- `calls_left` is an upper bound on the number of lines that are left
  abbrev pub calls_left : Lines S source_view → ℕ
  calls_left lines = source_view.calls_left lines.source + length (held lines)

  -- the source returned its end since the old state, or the lines were already at their end
  abbrev pub HasEnded : Lines S source_view → Lines S source_view → Type 0
  HasEnded old new = (old.is_at_end ≡ true) ⊎ HasRisen (source_view.ends old.source) (source_view.ends new.source)

  -- The lines end only when the source returns its end. The source returns no end before that, and none after it. Its assumed
  -- input stays the same, and if it follows that input in the new state, it does in the old one.
  pub record EndsWithSource (old new : Lines S source_view) : Type 0 where
    -- after the end, the lines stay at their end, and the source returns no further end
    pub stays_at_end : old.is_at_end ≡ true → (new.is_at_end ≡ true) × (source_view.ends new.source ≡ source_view.ends old.source)
    -- until the lines are at their end, the source returns no end
    pub no_new_end : new.is_at_end ≡ false → source_view.ends new.source ≡ source_view.ends old.source
    -- at the end, the source has returned its end
    pub ended : new.is_at_end ≡ true → HasEnded old new
    -- the input that is assumed stays the same
    pub same_input : source_view.input new.source ≡ source_view.input old.source
    -- if the source follows its input in the new state, it does in the old state
    pub followed_before : source_view.follows_input new.source → source_view.follows_input old.source

  -- A call that reads the next line, of any text or of a script: it returns a line or none, or the source fails.
  pub record ReadsLine {L E : Type 0} (old new : Lines S source_view) (result : Result (Option L) E) (items : L → List ℕ) : Type 0 where
    -- if a line is returned, it is the first line of the unread bytes
    pub line : source_view.follows_input new.source
        → IfOk result (λ found. IfSome found (λ line. TakesLine (unread old) (unread new) new.is_at_end (items line)))
    -- if a line is returned, the lines were not at their end
    pub not_at_end : IfOk result (λ found. OnSome found (old.is_at_end ≡ false))
    -- the lines end only if the source does
    pub end : EndsWithSource old new
    -- a failure of the source is counted if and only if the call fails
    pub failures : source_view.failures new.source ≡ counted_if (is_err result) (source_view.failures old.source)
    -- if the source fails, the lines are not at their end
    pub err : OnErr result ((old.is_at_end ≡ false) × (new.is_at_end ≡ false))
    -- if the source fails, the begun line is kept
    pub kept : source_view.follows_input new.source → OnErr result (ReadsLineText (unread old) (source_view.remaining new.source) (held new))
    -- if the source does not fail, no begun line is held
    pub emptied : OnOk result (held new ≡ [])
    -- if a line is returned, fewer calls are left
    pub falls : IfOk result (λ found. OnSome found (calls_left new < calls_left old))
