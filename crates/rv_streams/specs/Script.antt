-- The lines of a script, and its end. (This project's own format.)
use Rattle.std.specs.Prelude.{◌≡◌, ◌⊎◌, ℕ, Bool, true, false, not, List, [], IsTrue}
use Rattle.std.specs.List.{list_all}
use Rattle.rv_streams.specs.declared.device.Source.{Ghosts}
use Rattle.rv_streams.specs.declared.lines.Lines.{Lines}
use Rattle.rv_streams.specs.declared.separator.ScriptEnd.{ScriptEnd}
use Rattle.rv_streams.specs.declared.separator.ScriptEnd.TheVariants.{Input, Separator}
use Rattle.rv_streams.specs.Calls.{SourceWorked}
use Rattle.rv_streams.specs.LineText.{ReadsLines, TakesLine}
use Rattle.rv_streams.specs.Separator.{is_separator, before_separator, has_separator, after_separator}
use Rattle.rv_streams.specs.Unread.{held, unread}

-- `ends_script` states whether a line ends the script; such a line does not belong to the script
abbrev pub ends_script : ScriptEnd → List ℕ → Bool
ends_script Input line = false
ends_script Separator line = is_separator line

-- `script_lines` has the lines of the script: all, or those before the separator
abbrev pub script_lines : ScriptEnd → List (List ℕ) → List (List ℕ)
script_lines Input lines = lines
script_lines Separator lines = before_separator lines

-- a line is one of the script
abbrev pub is_script_line : ScriptEnd → List ℕ → Bool
is_script_line end line = not (ends_script end line)

-- The lines of the script were taken, and no others.
pub record TakesScript (end : ScriptEnd) (unread remaining : List ℕ) (is_at_end : Bool) (lines : List (List ℕ)) : Type 0 where
  -- exactly these lines were taken
  pub reads : ReadsLines unread remaining is_at_end lines
  -- no line of them ends the script
  pub in_script : list_all (is_script_line end) lines ≡ true

module _ {S : Type 0} {source_view : Ghosts S} where
  -- The source has returned its end, and no line is left.
  pub record IsAtEnd (old new : Lines S source_view) : Type 0 where
    -- the lines have reported the end of the input
    pub at_end : new.is_at_end ≡ true
    -- no byte was unread before the call
    pub none : source_view.follows_input new.source → unread old ≡ []
    -- no byte is unread after the call
    pub none_left : source_view.follows_input new.source → unread new ≡ []

  -- A line was read that ends the script.
  pub record ReadsScriptEnd (end : ScriptEnd) (old new : Lines S source_view) : Type 0 where
    -- the significant bytes of the line that ends the script
    pub shown : List ℕ
    -- the lines had not reported the end of the input before
    pub not_at_end : old.is_at_end ≡ false
    -- the line was taken from the unread bytes
    pub takes : source_view.follows_input new.source → TakesLine (unread old) (unread new) new.is_at_end shown
    -- the line ends the script
    pub ends : ends_script end shown ≡ true

  -- no line of the script is left
  abbrev pub FindsEnd : ScriptEnd → Lines S source_view → Lines S source_view → Type 0
  FindsEnd end old new = IsAtEnd old new ⊎ ReadsScriptEnd end old new

  -- The lines were read through the first separator, or, if there is none, until the source returned its end.
  pub record ReadsThroughSeparator (old new : Lines S source_view) : Type 0 where
    -- no call of the source failed
    pub source : SourceWorked source_view old.source new.source
    -- no begun line is held
    pub emptied : held new ≡ []
    -- the bytes after the separator are unread
    pub rest : source_view.follows_input new.source → unread new ≡ after_separator (unread old)
    -- the source returned its end, or the input has a separator
    pub ended : (new.is_at_end ≡ true) ⊎ (source_view.follows_input new.source → IsTrue (has_separator (unread old)))
