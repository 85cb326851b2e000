-- The image that lines encode, which are read one by one: the effect of one more line, the errors of a line, and the end of the image.
use Rattle.std.proofs.Common.{◌≡◌, ℕ, ◌+◌, ◌<◌, ◌≤◌, ltb, Bool, true, false, not, List, [], ◌∷◌, ◌++◌, length, Ok, Err, Option}
use Rattle.std.proofs.Common.{Some, None, refl, sym, ◌∙◌, ap, subst, arith, append-nil}
use Rattle.std.proofs.lemmas.Grind.{flat_map-append}
use Rattle.std.proofs.lemmas.Bool.Decides.{nat_tests}
use Rattle.std.proofs.lemmas.List.{length-append}
use Rattle.std.specs.List.{list_all, take_while}
use Rattle.std.specs.Option.{IsSomeAnd, is_some, unwrap_or, option_and_then}
use Rattle.rv_streams.specs.declared.fault.BenchFault.TheVariants.{Hex, TooLong}
use Rattle.rv_streams.specs.declared.separator.ScriptEnd.TheVariants.{Separator}
use Rattle.rv_text.specs.Lines.{lines_of}
use Rattle.rv_streams.specs.LineText.{ReadsLineText, TakesLine, ReadsLines}
use Rattle.rv_streams.specs.Image.{bytes_of_digits, line_bytes, is_image_line, bytes_of_lines, image_of, image_in, ReadsInImage, ReadsUnmarked}
use Rattle.rv_streams.specs.Image.{ReadsPrefixOfImage, StopsAtFault}
use Rattle.rv_streams.specs.Separator.{line_word, is_separator, before_separator}
use Rattle.rv_streams.proofs.LineTextLemmas.{ReadsLines-more}
use Rattle.rv_streams.specs.Script.{TakesScript}
use Rattle.rv_streams.proofs.ScriptLemmas.{line_word-take, lines_of-taken, ends_script-shown, ReadsScript}
use Rattle.rv_streams.proofs.TakeWhileLemmas.{take_while-all, take_while-stop, take_while-pass, list_all-push, list_all-stop}

-- `image_limit` is the maximal size of an image in bytes: 32 MiB
abbrev pub image_limit : ℕ
image_limit = 33554432

-- The lines that were taken have no separator, and their bytes are the image so far.
pub record EncodesImage (unread remaining : List ℕ) (is_at_end : Bool) (image : List ℕ) : Type 0 where
  -- the lines that were taken
  pub lines : List (List ℕ)
  -- exactly these lines were taken
  pub reads : ReadsLines unread remaining is_at_end lines
  -- no line of them is the separator
  pub unmarked : list_all (λ line. not (is_separator line)) lines ≡ true
  -- each line encodes bytes
  pub sound : list_all is_image_line lines ≡ true
  -- the image so far has the bytes of the lines
  pub image_is : image ≡ bytes_of_lines lines

-- the lines so far encode the image, if the end of the input is not yet reported
pub EncodesImage-going : (unread remaining : List ℕ) (is_at_end : Bool) (image : List ℕ) → EncodesImage unread remaining is_at_end image
    → is_at_end ≡ false
    → EncodesImage unread remaining false image
EncodesImage-going unread remaining is_at_end image so_far not_at_end =
    subst (λ is_at_end. EncodesImage unread remaining is_at_end image) not_at_end so_far

-- The lines so far give an image that is not too long. One more line was taken that is no separator; its first bytes are shown.
pub record TakesInImage (unread remaining rest : List ℕ) (ends : Bool) (image shown : List ℕ) : Type 0 where
  -- the lines before encode the image so far
  pub so_far : EncodesImage unread remaining false image
  -- one more line was taken
  pub takes : TakesLine remaining rest ends shown
  -- the line is not the separator
  pub not_separator : is_separator shown ≡ false
  -- the image so far has at most 32 MiB
  pub within_limit : length image ≤ image_limit

-- a line is no separator if its shown bytes are none
line_not_separator : {unread remaining rest : List ℕ} {ends : Bool} {image shown : List ℕ}
    → (taken : TakesInImage unread remaining rest ends image shown)
    → is_separator taken.takes.line ≡ false
line_not_separator taken = ends_script-shown Separator _ _ _ _ taken.takes ∙ taken.not_separator

-- lines without an error give the image of their bytes, if there are at most 32 MiB
image_of-sound : (lines : List (List ℕ)) → list_all is_image_line lines ≡ true → length (bytes_of_lines lines) ≤ image_limit
    → image_of lines ≡ Ok (bytes_of_lines lines)
image_of-sound lines all_sound within_limit =
    let not_above : ltb image_limit (length (bytes_of_lines lines)) ≡ false = grind (arith, nat_tests) in
    rw (take_while-all is_image_line lines all_sound, not_above, all_sound) refl

-- the image has the error of the first line with an error, if the lines before it have at most 32 MiB
image_of-faulty : (lines others : List (List ℕ)) (line : List ℕ) → list_all is_image_line lines ≡ true
    → length (bytes_of_lines lines) ≤ image_limit → is_image_line line ≡ false → image_of (lines ++ line ∷ others) ≡ Err Hex
image_of-faulty lines others line all_sound within_limit line_faulty =
    let not_above : ltb image_limit (length (bytes_of_lines lines)) ≡ false = grind (arith, nat_tests) in
    let sound_lines_are = take_while-stop is_image_line lines line others all_sound line_faulty in
    let not_all_sound = list_all-stop is_image_line lines line others all_sound line_faulty in
    rw (sound_lines_are, not_above, not_all_sound) refl

-- the bytes of two lists of lines are the bytes of the first, followed by the bytes of the second
bytes_of_lines-append : (xs ys : List (List ℕ)) → bytes_of_lines (xs ++ ys) ≡ bytes_of_lines xs ++ bytes_of_lines ys
bytes_of_lines-append xs ys = flat_map-append (λ line. unwrap_or (line_bytes line) []) xs ys

-- one more line adds its bytes to the bytes of the lines
bytes_of_lines-push : (lines : List (List ℕ)) (line bytes : List ℕ) → line_bytes line ≡ Some bytes
    → bytes_of_lines (lines ++ line ∷ []) ≡ bytes_of_lines lines ++ bytes
bytes_of_lines-push lines line bytes encodes =
    bytes_of_lines-append lines (line ∷ [])
    ∙ (ap (λ encoded. bytes_of_lines lines ++ (unwrap_or encoded [] ++ [])) encodes
    ∙ ap (λ added. bytes_of_lines lines ++ added) (append-nil bytes))

-- if a line without an error makes the image too long, this is the error of the image, also before a later line with an error
image_of-too_long : (lines others : List (List ℕ)) (line bytes : List ℕ) → list_all is_image_line lines ≡ true → line_bytes line ≡ Some bytes
    → image_limit < length (bytes_of_lines lines) + length bytes → image_of (lines ++ line ∷ others) ≡ Err TooLong
image_of-too_long lines others line bytes all_sound encodes exceeds_limit =
    let line_sound : is_image_line line ≡ true = rw encodes refl in
    let later_bytes = bytes_of_lines (take_while is_image_line others) in
    let bytes_are : bytes_of_lines (take_while is_image_line (lines ++ line ∷ others)) ≡ bytes_of_lines lines ++ (bytes ++ later_bytes) =
    ap bytes_of_lines (take_while-pass is_image_line lines line others all_sound line_sound)
    ∙ (bytes_of_lines-append lines (line ∷ take_while is_image_line others)
    ∙ ap (λ encoded. bytes_of_lines lines ++ (unwrap_or encoded [] ++ later_bytes)) encodes) in
    let all_exceed_limit : image_limit < length (bytes_of_lines lines ++ (bytes ++ later_bytes)) =
    omega (arith, length-append (bytes_of_lines lines) (bytes ++ later_bytes), length-append bytes later_bytes) in
    let is_above : ltb image_limit (length (bytes_of_lines lines ++ (bytes ++ later_bytes))) ≡ true = grind (arith, nat_tests) in
    rw (bytes_are, is_above) refl

-- a line that is no separator belongs to the image
before_separator-other : (lines others : List (List ℕ)) (line : List ℕ) → list_all (λ line. not (is_separator line)) lines ≡ true
    → is_separator line ≡ false → before_separator (lines ++ line ∷ others) ≡ lines ++ line ∷ before_separator others
before_separator-other lines others line unmarked not_separator =
    take_while-pass (λ line. not (is_separator line)) lines line others unmarked (ap not not_separator)

-- the shown bytes of a line have the same word as the line
pub TakesLine-word : (remaining rest : List ℕ) (ends : Bool) (shown : List ℕ) (word : Option (List ℕ)) → (takes : TakesLine remaining rest ends shown)
    → word ≡ line_word shown → line_word takes.line ≡ word
TakesLine-word remaining rest ends shown word takes word_is = sym (line_word-take takes.line) ∙ (ap line_word (sym takes.prefix) ∙ sym word_is)

-- the lines before the separator are the lines so far, the next line, which is no separator, and the lines of the rest before the separator
before_separator-taken : (unread remaining rest : List ℕ) (ends : Bool) (image shown : List ℕ) → (so_far : EncodesImage unread remaining false image)
    → (takes : TakesLine remaining rest ends shown) → is_separator takes.line ≡ false
    → before_separator (lines_of unread) ≡ so_far.lines ++ takes.line ∷ before_separator (lines_of rest)
before_separator-taken unread remaining rest ends image shown so_far takes not_separator =
    ap before_separator (lines_of-taken unread remaining rest false ends shown so_far.lines so_far.reads takes)
    ∙ before_separator-other so_far.lines (lines_of rest) takes.line so_far.unmarked not_separator

-- an option that has an element with a property is `Some` of this element
some_and : (found : Option (List ℕ)) (P : List ℕ → Type 0) → IsSomeAnd found P → (bytes : List ℕ) × (found ≡ Some bytes) × P bytes
some_and None P impossible = absurd impossible
some_and (Some bytes) P holds = (bytes, refl, holds)

-- after a failed read, the lines so far have no error and the prefix of one more line is kept
pub EncodesImage-read : (unread remaining rest kept image : List ℕ) → EncodesImage unread remaining false image → length image ≤ image_limit
    → ReadsLineText remaining rest kept → ReadsInImage unread rest kept
EncodesImage-read unread remaining rest kept image so_far within_limit begun = record {
  lines = so_far.lines;
  others = remaining;
  reads = so_far.reads;
  unmarked = take_while-all (λ line. not (is_separator line)) so_far.lines so_far.unmarked;
  image = image_of-sound so_far.lines so_far.sound (omega (arith, within_limit, ap length so_far.image_is));
  begun = begun;
}

-- one more line was read that is no separator
EncodesImage-unmarked : (unread remaining rest : List ℕ) (ends : Bool) (image shown : List ℕ) → (so_far : EncodesImage unread remaining false image)
    → (takes : TakesLine remaining rest ends shown)
    → is_separator takes.line ≡ false → ReadsUnmarked unread rest (so_far.lines ++ takes.line ∷ [])
EncodesImage-unmarked unread remaining rest ends image shown so_far takes not_separator =
    let reads = ReadsLines-more unread remaining rest ends shown so_far.lines so_far.reads takes in record {
      all_lines = reads.all_lines;
      rest = reads.rest;
      unmarked = before_separator-other so_far.lines [] takes.line so_far.unmarked not_separator;
    }

-- a line that is no separator and encodes no bytes is the first line with an error
pub EncodesImage-faulty : (unread remaining rest : List ℕ) (ends : Bool) (image shown : List ℕ) → EncodesImage unread remaining false image
    → (takes : TakesLine remaining rest ends shown) → length image ≤ image_limit
    → is_separator takes.line ≡ false → line_bytes takes.line ≡ None → (image_in unread ≡ Err Hex) × StopsAtFault unread rest Hex
EncodesImage-faulty unread remaining rest ends image shown so_far takes within_limit not_separator no_bytes =
    let bytes_within_limit : length (bytes_of_lines so_far.lines) ≤ image_limit = omega (arith, within_limit, ap length so_far.image_is) in
    let line_faulty : is_image_line takes.line ≡ false = ap is_some no_bytes in (
      -- the image of all lines fails at this line
      ap image_of (before_separator-taken unread remaining rest ends image shown so_far takes not_separator)
          ∙ image_of-faulty so_far.lines (before_separator (lines_of rest)) takes.line so_far.sound bytes_within_limit line_faulty,
      record {
        -- the lines before this line encode an image, and with this line they encode none
        sound = so_far.lines;
        line = takes.line;
        reads = EncodesImage-unmarked unread remaining rest ends image shown so_far takes not_separator;
        image = image_of-sound so_far.lines so_far.sound bytes_within_limit;
        fails = image_of-faulty so_far.lines [] takes.line so_far.sound bytes_within_limit line_faulty;
      },
    )

-- ---- the effect of one more line

module _ {unread remaining rest : List ℕ} {ends : Bool} {image shown : List ℕ} where
  -- a line that is no separator and encodes bytes appends these bytes to the image
  pub EncodesImage-more : {word new : List ℕ} → TakesInImage unread remaining rest ends image shown
      → Some word ≡ line_word shown → IsSomeAnd (bytes_of_digits word) (λ bytes. new ≡ image ++ bytes) → EncodesImage unread rest ends new
  EncodesImage-more {word = word} {new = new} taken word_is appends =
      let so_far = taken.so_far in
      let takes = taken.takes in
      let (bytes, decodes, new_is) = some_and (bytes_of_digits word) (λ bytes. new ≡ image ++ bytes) appends in
      let line = takes.line in
      let has_word = TakesLine-word remaining rest ends shown (Some word) takes word_is in
      -- the word of the whole line is the word of the bytes shown, so the line encodes `bytes`
      let encodes : line_bytes line ≡ Some bytes = ap (option_and_then bytes_of_digits) has_word ∙ decodes in
      let line_sound : is_image_line line ≡ true = ap is_some encodes in record {
        lines = so_far.lines ++ line ∷ [];
        reads = ReadsLines-more unread remaining rest ends shown so_far.lines so_far.reads takes;
        unmarked = list_all-push (λ line. not (is_separator line)) so_far.lines line so_far.unmarked (ap not (line_not_separator taken));
        sound = list_all-push is_image_line so_far.lines line so_far.sound line_sound;
        image_is = new_is ∙ (ap (λ old. old ++ bytes) so_far.image_is ∙ sym (bytes_of_lines-push so_far.lines line bytes encodes));
      }

  -- memory for the bytes of one more line is exhausted: the lines with this line have an image of at most 32 MiB
  pub EncodesImage-refused : {word : List ℕ} → TakesInImage unread remaining rest ends image shown → Some word ≡ line_word shown
      → IsSomeAnd (bytes_of_digits word) (λ bytes. (0 < length bytes) × (length image + length bytes ≤ image_limit))
      → ReadsPrefixOfImage unread rest
  EncodesImage-refused {word = word} taken word_is refused =
      let so_far = taken.so_far in
      let takes = taken.takes in
      let (bytes, decodes, (has_bytes, within_limit)) =
      some_and (bytes_of_digits word) (λ bytes. (0 < length bytes) × (length image + length bytes ≤ image_limit)) refused in
      let line = takes.line in
      let has_word = TakesLine-word remaining rest ends shown (Some word) takes word_is in
      -- the word of the whole line is the word of the bytes shown, so the line encodes `bytes`
      let encodes : line_bytes line ≡ Some bytes = ap (option_and_then bytes_of_digits) has_word ∙ decodes in
      let all_sound = list_all-push is_image_line so_far.lines line so_far.sound (ap is_some encodes) in
      let bytes_are = bytes_of_lines-push so_far.lines line bytes encodes in
      let old_bytes = bytes_of_lines so_far.lines in
      -- the image with these bytes is within the limit
      let all_within_limit : length (bytes_of_lines (so_far.lines ++ line ∷ [])) ≤ image_limit =
      omega (arith, within_limit, ap length bytes_are, length-append old_bytes bytes, ap length so_far.image_is) in record {
        lines = so_far.lines ++ line ∷ [];
        some = omega (arith, has_bytes, ap length bytes_are, length-append old_bytes bytes);
        reads = EncodesImage-unmarked unread remaining rest ends image shown so_far takes (line_not_separator taken);
        image = image_of-sound (so_far.lines ++ line ∷ []) all_sound all_within_limit;
      }

  -- a line without a valid word is the first line with an error
  pub EncodesImage-no_word : TakesInImage unread remaining rest ends image shown
      → None ≡ line_word shown → (image_in unread ≡ Err Hex) × StopsAtFault unread rest Hex
  EncodesImage-no_word taken no_word =
      let has_no_word = TakesLine-word remaining rest ends shown None taken.takes no_word in
      EncodesImage-faulty unread remaining rest ends image shown taken.so_far taken.takes taken.within_limit (line_not_separator taken)
      (ap (option_and_then bytes_of_digits) has_no_word)

  -- a line whose word is not an even number of hexadecimal digits is the first line with an error
  pub EncodesImage-no_digits : {word : List ℕ} → TakesInImage unread remaining rest ends image shown
      → Some word ≡ line_word shown → bytes_of_digits word ≡ None → (image_in unread ≡ Err Hex) × StopsAtFault unread rest Hex
  EncodesImage-no_digits {word = word} taken word_is no_bytes =
      let has_word = TakesLine-word remaining rest ends shown (Some word) taken.takes word_is in
      EncodesImage-faulty unread remaining rest ends image shown taken.so_far taken.takes taken.within_limit (line_not_separator taken)
      (ap (option_and_then bytes_of_digits) has_word ∙ no_bytes)

  -- a line whose bytes make the image longer than 32 MiB is the first line with an error
  pub EncodesImage-too_long : {word : List ℕ} → TakesInImage unread remaining rest ends image shown
      → Some word ≡ line_word shown → IsSomeAnd (bytes_of_digits word) (λ bytes. image_limit < length image + length bytes)
      → (image_in unread ≡ Err TooLong) × StopsAtFault unread rest TooLong
  EncodesImage-too_long {word = word} taken word_is exceeds =
      let so_far = taken.so_far in
      let takes = taken.takes in
      let within_limit = taken.within_limit in
      let (bytes, decodes, exceeds_limit) = some_and (bytes_of_digits word) (λ bytes. image_limit < length image + length bytes) exceeds in
      let has_word = TakesLine-word remaining rest ends shown (Some word) takes word_is in
      let not_separator = line_not_separator taken in
      -- the word of the whole line is the word of the bytes shown, so the line encodes `bytes`
      let encodes : line_bytes takes.line ≡ Some bytes = ap (option_and_then bytes_of_digits) has_word ∙ decodes in
      let old_within_limit : length (bytes_of_lines so_far.lines) ≤ image_limit = omega (arith, within_limit, ap length so_far.image_is) in
      -- the image with these bytes exceeds the limit
      let lines_exceed_limit : image_limit < length (bytes_of_lines so_far.lines) + length bytes =
      omega (arith, exceeds_limit, ap length so_far.image_is) in (
        -- the image of all lines fails at this line
        ap image_of (before_separator-taken unread remaining rest ends image shown so_far takes not_separator)
            ∙ image_of-too_long so_far.lines (before_separator (lines_of rest)) takes.line bytes so_far.sound encodes lines_exceed_limit,
        record {
          -- the lines before this line encode an image, and with this line they encode none
          sound = so_far.lines;
          line = takes.line;
          reads = EncodesImage-unmarked unread remaining rest ends image shown so_far takes not_separator;
          image = image_of-sound so_far.lines so_far.sound old_within_limit;
          fails = image_of-too_long so_far.lines [] takes.line bytes so_far.sound encodes lines_exceed_limit;
        },
      )

-- the lines so far are lines of a script that ends with a separator
pub EncodesImage-taken : {unread remaining : List ℕ} {is_at_end : Bool} {image : List ℕ} → (so_far : EncodesImage unread remaining is_at_end image)
    → TakesScript Separator unread remaining is_at_end so_far.lines
EncodesImage-taken so_far = record { reads = so_far.reads; in_script = so_far.unmarked }

-- if no line of the image is left, the image is complete
pub EncodesImage-whole : (unread remaining rest : List ℕ) (is_at_end : Bool) (image : List ℕ)
    → (so_far : EncodesImage unread remaining is_at_end image)
    → length image ≤ image_limit → ReadsScript Separator unread rest so_far.lines → image_in unread ≡ Ok image
EncodesImage-whole unread remaining rest is_at_end image so_far within_limit whole =
    let bytes_within_limit : length (bytes_of_lines so_far.lines) ≤ image_limit = omega (arith, within_limit, ap length so_far.image_is) in
    ap image_of whole.all_lines ∙ (image_of-sound so_far.lines so_far.sound bytes_within_limit ∙ ap Ok (sym so_far.image_is))
