-- The lines of a script that are read one by one, up to its end: the end of the input, or a separator.
use Rattle.std.proofs.Common.{◌≡◌, ℕ, ◌+◌, ◌≤◌, Bool, true, false, not, ◌||◌, List, [], ◌∷◌, ◌++◌, length, take, inl, inr}
use Rattle.std.proofs.Common.{IsTrue, None, refl, sym, ◌∙◌, ap, subst, lit≤, append-nil, add-one}
use Rattle.std.proofs.Math.Bool.{or-true}
use Rattle.std.proofs.lemmas.List.{length-append}
use Rattle.std.proofs.lemmas.List.Folds.{list_any-append}
use Rattle.std.specs.List.{list_all, list_any, take_while}
use Rattle.rv_text.specs.GoodLines.{significant_bytes}
use Rattle.rv_text.specs.Lines.{lines_of, after_line, after_lines}
use Rattle.rv_text.specs.Words.{words_of}
use Rattle.rv_streams.specs.declared.device.Source.{Ghosts}
use Rattle.rv_streams.specs.declared.lines.Lines.{Lines}
use Rattle.rv_streams.specs.declared.separator.ScriptEnd.{ScriptEnd}
use Rattle.rv_streams.specs.declared.separator.ScriptEnd.TheVariants.{Input, Separator}
use Rattle.rv_streams.specs.Calls.{SourceWorked}
use Rattle.rv_streams.specs.LineText.{TakesLine, ReadsLines}
use Rattle.rv_streams.specs.Script.{ends_script, script_lines, is_script_line, TakesScript, ReadsScriptEnd, FindsEnd, ReadsThroughSeparator}
use Rattle.rv_streams.specs.Separator.{only_word, line_word, is_dashes, is_separator, has_separator}
use Rattle.rv_streams.specs.Unread.{held, unread}
use Rattle.rv_text.proofs.CutLines.{if_good-take}
use Rattle.rv_text.proofs.LineLemmas.{after_lines-more}
use Rattle.rv_streams.proofs.LineTextLemmas.{ReadsLines-more}
use Rattle.rv_streams.proofs.TakeWhileLemmas.{take_while-all, take_while-stop, take_while-prefix}

-- ---- the lines of a script, and the line that ends it

-- the significant bytes of a line have the same word as the line
pub line_word-take : (line : List ℕ) → line_word (take significant_bytes line) ≡ line_word line
unfolding line_word
line_word-take line = if_good-take (λ good_line. only_word (words_of good_line)) None line

-- the shown bytes of a line determine whether it ends the script
pub ends_script-shown : (end : ScriptEnd) (remaining rest : List ℕ) (ends : Bool) (shown : List ℕ) → (takes : TakesLine remaining rest ends shown)
    → ends_script end takes.line ≡ ends_script end shown
ends_script-shown Input remaining rest ends shown takes = refl
ends_script-shown Separator remaining rest ends shown takes = ap is_dashes (sym (line_word-take takes.line) ∙ ap line_word (sym takes.prefix))

-- each line is a line of a script that ends with the input
all_are_script_lines : (lines : List (List ℕ)) → list_all (is_script_line Input) lines ≡ true
all_are_script_lines [] = refl
all_are_script_lines (line ∷ lines) = all_are_script_lines lines

-- the lines of the script are the lines before its end
script_lines-is : (end : ScriptEnd) (lines : List (List ℕ)) → script_lines end lines ≡ take_while (is_script_line end) lines
script_lines-is Input lines = sym (take_while-all (is_script_line Input) lines (all_are_script_lines lines))
script_lines-is Separator lines = refl

-- if no line ends the script, all lines are lines of the script
pub script_lines-all : (end : ScriptEnd) (lines : List (List ℕ)) → list_all (is_script_line end) lines ≡ true → script_lines end lines ≡ lines
script_lines-all end lines in_script = script_lines-is end lines ∙ take_while-all (is_script_line end) lines in_script

-- the lines of the script are the lines before the line that ends it
script_lines-stop : (end : ScriptEnd) (lines others : List (List ℕ)) (line : List ℕ) → list_all (is_script_line end) lines ≡ true
    → ends_script end line ≡ true → script_lines end (lines ++ line ∷ others) ≡ lines
script_lines-stop end lines others line in_script line_ends = script_lines-is end (lines ++ line ∷ others)
    ∙ take_while-stop (is_script_line end) lines line others in_script (ap not line_ends)

-- the lines of the script among xs are a prefix of the lines of the script among xs and ys
pub script_lines-prefix : (end : ScriptEnd) (xs ys : List (List ℕ))
    → (others : List (List ℕ)) × (script_lines end (xs ++ ys) ≡ script_lines end xs ++ others)
script_lines-prefix Input xs ys = (ys, refl)
script_lines-prefix Separator xs ys = take_while-prefix (is_script_line Separator) xs ys

-- the input has a separator if one of its lines is a separator
has_separator-at : (lines others : List (List ℕ)) (line unread : List ℕ) → lines_of unread ≡ lines ++ line ∷ others → is_separator line ≡ true
    → IsTrue (has_separator unread)
has_separator-at lines others line unread lines_are line_separates =
    let separates_or_later =
    ap (λ test. list_any is_separator lines || (test || list_any is_separator others)) line_separates in
    subst IsTrue (sym (ap (list_any is_separator) lines_are ∙ (list_any-append is_separator lines (line ∷ others) ∙ separates_or_later)))
    (or-true (list_any is_separator lines))

-- ---- a script that was read completely

-- The lines `lines` are all lines of the script. At most the line that ends the script was read in addition.
pub record ReadsScript (end : ScriptEnd) (unread remaining : List ℕ) (lines : List (List ℕ)) : Type 0 where
  -- the line that ends the script, if it was read
  pub closing : List (List ℕ)
  -- whether the lines have reported the end of the input
  pub is_at_end : Bool
  -- exactly these lines were read
  pub reads : ReadsLines unread remaining is_at_end (lines ++ closing)
  -- at most one line ends the script
  pub at_most_one : length closing ≤ 1
  -- the lines that were read, and all unread lines, have the same lines of the script
  pub in_script : script_lines end (lines ++ closing) ≡ lines
  -- these are all lines of the script
  pub all_lines : script_lines end (lines_of unread) ≡ lines
  -- the bytes after the script are left
  pub rest : remaining ≡ after_lines (length lines + 1) unread

-- the script is complete at the end of the input
ReadsScript-ended : (end : ScriptEnd) (unread remaining rest : List ℕ) (is_at_end : Bool) (lines : List (List ℕ))
    → TakesScript end unread remaining is_at_end lines → remaining ≡ [] → rest ≡ [] → ReadsScript end unread rest lines
ReadsScript-ended end unread remaining rest is_at_end lines so_far none_left no_rest =
    -- no text is left, so the lines so far are all lines of the text
    let all_lines : lines_of unread ≡ lines =
    so_far.reads.all_lines ∙ (ap (λ text. lines ++ lines_of text) none_left ∙ append-nil lines) in
    let all_inside = script_lines-all end lines so_far.in_script in
    -- no text is left after the lines so far
    let none_after : after_lines (length lines + 1) unread ≡ [] =
    rw add-one (after_lines-more (length lines) unread) ∙ ap after_line (sym so_far.reads.rest ∙ none_left) in record {
      closing = [];
      is_at_end = is_at_end;
      reads = subst (λ lines. ReadsLines unread rest is_at_end lines) (sym (append-nil lines))
          (subst (λ text. ReadsLines unread text is_at_end lines) (none_left ∙ sym no_rest) so_far.reads);
      at_most_one = lit≤ tt;
      in_script = ap (script_lines end) (append-nil lines) ∙ all_inside;
      all_lines = ap (script_lines end) all_lines ∙ all_inside;
      rest = no_rest ∙ sym none_after;
    }

-- the unread text has the lines that were read, the next line, and the lines of the rest
pub lines_of-taken : (unread remaining rest : List ℕ) (is_at_end ends : Bool) (shown : List ℕ) (lines : List (List ℕ))
    → ReadsLines unread remaining is_at_end lines → (takes : TakesLine remaining rest ends shown)
    → lines_of unread ≡ lines ++ takes.line ∷ lines_of rest
lines_of-taken unread remaining rest is_at_end ends shown lines reads takes = reads.all_lines ∙ ap (λ others. lines ++ others) takes.lines

-- the script is complete after a line that ends it
ReadsScript-through : (end : ScriptEnd) (unread remaining rest : List ℕ) (ends : Bool) (shown : List ℕ) (lines : List (List ℕ))
    → TakesScript end unread remaining false lines → TakesLine remaining rest ends shown → ends_script end shown ≡ true
    → ReadsScript end unread rest lines
ReadsScript-through end unread remaining rest ends shown lines so_far takes shown_ends =
    -- the whole line ends the script, as the bytes shown do
    let line_ends = ends_script-shown end remaining rest ends shown takes ∙ shown_ends in
    let reads = ReadsLines-more unread remaining rest ends shown lines so_far.reads takes in record {
      closing = takes.line ∷ [];
      is_at_end = ends;
      reads = reads;
      at_most_one = lit≤ tt;
      in_script = script_lines-stop end lines [] takes.line so_far.in_script line_ends;
      all_lines = ap (script_lines end) (lines_of-taken unread remaining rest false ends shown lines so_far.reads takes)
          ∙ script_lines-stop end lines (lines_of rest) takes.line so_far.in_script line_ends;
      rest = reads.rest ∙ ap (λ count. after_lines count unread) (length-append lines (takes.line ∷ []));
    }

-- ---- a source, read through the end of a script

-- The script begins in the lines `old`. Its end is found by the call that leads from `before_end` to `new`.
module _ {S : Type 0} {source_view : Ghosts S} (old before_end new : Lines S source_view) where
  -- if no line of the script is left, the lines taken are all of its lines
  pub FindsEnd-whole : (end : ScriptEnd) (lines : List (List ℕ)) → FindsEnd end before_end new
      → TakesScript end (unread old) (unread before_end) before_end.is_at_end lines → source_view.follows_input new.source
      → ReadsScript end (unread old) (unread new) lines
  FindsEnd-whole end lines (inl at_end) so_far follows =
      ReadsScript-ended end (unread old) (unread before_end) (unread new) before_end.is_at_end lines so_far (at_end.none follows)
      (at_end.none_left follows)
  FindsEnd-whole end lines (inr reads) so_far follows =
      ReadsScript-through end (unread old) (unread before_end) (unread new) new.is_at_end reads.shown lines
      (subst (λ is_at_end. TakesScript end (unread old) (unread before_end) is_at_end lines) reads.not_at_end so_far) (reads.takes follows) reads.ends

  -- if a line ended the script at a separator, the input has a separator
  has_separator-if_ended : (lines : List (List ℕ)) → ReadsScriptEnd Separator before_end new
      → TakesScript Separator (unread old) (unread before_end) before_end.is_at_end lines → source_view.follows_input new.source
      → IsTrue (has_separator (unread old))
  has_separator-if_ended lines reads so_far follows =
      let takes = reads.takes follows in
      has_separator-at lines (lines_of (unread new)) takes.line (unread old)
      (lines_of-taken (unread old) (unread before_end) (unread new) before_end.is_at_end new.is_at_end reads.shown lines so_far.reads takes)
      (ends_script-shown Separator (unread before_end) (unread new) new.is_at_end reads.shown takes ∙ reads.ends)

  -- after the separator, the bytes that follow it are left
  pub FindsEnd-separator : SourceWorked source_view old.source new.source → held new ≡ [] → FindsEnd Separator before_end new
      → (source_view.follows_input new.source
      → (lines : List (List ℕ)) × TakesScript Separator (unread old) (unread before_end) before_end.is_at_end lines)
      → ReadsThroughSeparator old new
  FindsEnd-separator source_worked none_held found_end lines_taken = record {
    source = source_worked;
    emptied = none_held;
    rest = λ follows.
        let (lines, so_far) = lines_taken follows in
        let whole = FindsEnd-whole Separator lines found_end so_far follows in
        whole.rest ∙ ap (λ lines. after_lines (length lines + 1) (unread old)) (sym whole.all_lines);
    ended = elim found_end [
      | inl at_end ↦ inl at_end.at_end
      | inr reads ↦ inr (λ follows. let (lines, so_far) = lines_taken follows in has_separator-if_ended lines reads so_far follows)
    ];
  }
