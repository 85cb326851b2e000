-- The state of the assembler's first pass, which reads each line. (This project's own assembler.)
use Rattle.std.specs.Prelude.{◌≡◌, ℕ, ◌+◌, ◌≤◌, [], List, length, Option, Some, None, is_some, option_map, if◌then◌else◌}
use Rattle.rv_word.specs.Cases.{option_case}
use Rattle.rv_asm.specs.LabelMap.{places_of}
use Rattle.rv_asm.specs.Program.{Reading, is_label, words_in, place_in, first_line_fault, label_fault}
use Rattle.rv_asm.specs.declared.first_pass.FirstPass.{FirstPass}
use Rattle.rv_asm.specs.declared.fault.AsmFault.{AsmFault}
use Rattle.rv_asm.specs.declared.fault.AsmFaultKind.TheVariants.{LabelTwice}

-- `label_twice` is the error of a label that an earlier line has too
abbrev pub label_twice : ℕ → AsmFault
label_twice line = record { line = line; kind = LabelTwice }

-- The state of the first pass after exactly these lines: the counts of lines and words, the addresses of the labels, and the first line that
-- repeats a label. (The words are at most 65536.)
pub record HasRead (pass : FirstPass) (lines : List Reading) : Type 0 where
  -- the pass has counted the lines
  pub count : pass.lines ≡ length lines
  -- the pass has counted the words of the lines
  pub words : pass.words ≡ words_in lines
  -- there are at most 65536 words
  pub few : words_in lines ≤ 65536
  -- the map of the pass has the addresses of the labels
  pub labels : places_of pass.labels ≡ place_in lines
  -- the pass has the first line that repeats a label
  pub repeated : first_line_fault label_fault [] lines ≡ option_map label_twice pass.repeated

-- `repeated_with` is the first line that repeats a label, after one more line with this label
abbrev pub repeated_with : FirstPass → Option (List ℕ) → Option ℕ
repeated_with pass None = pass.repeated
repeated_with pass (Some name) =
    if is_some (places_of pass.labels name) then option_case pass.repeated (Some (pass.lines + 1)) Some else pass.repeated

-- the state after the label of the next line, if it has one
pub record AddsLabel (old new : FirstPass) (label : Option (List ℕ)) : Type 0 where
  -- the number of lines is unchanged
  pub count : new.lines ≡ old.lines
  -- the number of words is unchanged
  pub words : new.words ≡ old.words
  -- a new label gets the number of words so far as its address
  pub labels : (name : List ℕ)
      → places_of new.labels name ≡ option_case (places_of old.labels name) (if is_label name label then Some old.words else None) Some
  -- a label that is in the map already is repeated
  pub repeated : new.repeated ≡ repeated_with old label
