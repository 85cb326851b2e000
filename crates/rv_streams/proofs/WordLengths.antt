-- No word is longer than its line, so it has at most `max_line` bytes. A line is split into parts, and the words are the parts that are not empty.
use Rattle.std.proofs.Common.{◌≡◌, ℕ, ◌+◌, ◌≤◌, leb, Bool, true, false, cond, ◌&&◌, List, [], ◌∷◌, length, Some, None, filter, arith, refl, subst}
use Rattle.std.proofs.lemmas.Bool.Decides.{nat_tests}
use Rattle.std.specs.List.{slice_split, onto_first, list_all}
use Rattle.rv_text.specs.GoodLines.{max_line, is_blank, is_text, is_good_line}
use Rattle.rv_text.specs.Words.{is_filled, words_of}
use Rattle.rv_streams.specs.Separator.{only_word, line_word}

-- each part has at most `limit` bytes
AllWithin : ℕ → List (List ℕ) → Type 0
AllWithin limit [] = Unit {0}
AllWithin limit (part ∷ parts) = (length part ≤ limit) × AllWithin limit parts

-- parts of at most `limit` bytes have at most `larger` bytes, if `limit` is at most `larger`
within_larger : (limit larger : ℕ) (parts : List (List ℕ)) → limit ≤ larger → AllWithin limit parts → AllWithin larger parts
unfolding AllWithin
within_larger limit larger [] limit_at_most_larger within = tt
within_larger limit larger (part ∷ parts) limit_at_most_larger (part_within, parts_within) =
    let part_fits : length part ≤ limit = part_within in (omega arith, within_larger limit larger parts limit_at_most_larger parts_within)

-- a byte put before the first part makes it one longer
within_onto : (limit byte : ℕ) (parts : List (List ℕ)) → AllWithin limit parts → AllWithin (limit + 1) (onto_first byte parts)
unfolding AllWithin
within_onto limit byte [] within = (omega arith, tt)
within_onto limit byte (part ∷ parts) (part_within, parts_within) =
    let part_fits : length part ≤ limit = part_within in (omega arith, within_larger limit (limit + 1) parts (omega arith) parts_within)

-- the parts of a text are at most as long as the text, by induction over the text
within_split : (separates : ℕ → Bool) (text : List ℕ) → AllWithin (length text) (slice_split separates text)
unfolding AllWithin
within_split separates [] = (omega arith, tt)
within_split separates (byte ∷ text) = by_first (separates byte) (within_split separates text) where
  -- the same claim by cases on the test of the first byte: it separates two parts, or belongs to the first part
  by_first : (byte_separates : Bool) → AllWithin (length text) (slice_split separates text)
      → AllWithin (length (byte ∷ text)) (cond byte_separates ([] ∷ slice_split separates text) (onto_first byte (slice_split separates text)))
  by_first true within = (omega arith, within_larger (length text) (length (byte ∷ text)) (slice_split separates text) (omega arith) within)
  by_first false within = within_larger (length text + 1) (length (byte ∷ text)) (onto_first byte (slice_split separates text)) (omega arith)
      (within_onto (length text) byte (slice_split separates text) within)

-- parts of at most `limit` bytes have at most `limit` bytes after some of them are filtered out
within_filter : (passes : List ℕ → Bool) (limit : ℕ) (parts : List (List ℕ)) → AllWithin limit parts → AllWithin limit (filter passes parts)
unfolding AllWithin
within_filter passes limit [] within = tt
within_filter passes limit (part ∷ parts) (part_within, parts_within) = by_first (passes part) (within_filter passes limit parts parts_within) where
  -- the same claim by cases on the test of the first part
  by_first : (part_passes : Bool) → AllWithin limit (filter passes parts)
      → AllWithin limit (cond part_passes (part ∷ filter passes parts) (filter passes parts))
  by_first true filtered_within = (part_within, filtered_within)
  by_first false filtered_within = filtered_within

-- if each word has at most `limit` bytes, so has the only word
only_word_within : (limit : ℕ) (words : List (List ℕ)) (word : List ℕ) → AllWithin limit words → only_word words ≡ Some word → length word ≤ limit
unfolding AllWithin
only_word_within limit [] word within only_word_is =
    let word_is_empty : [] ≡ word = cc in subst (λ (word : List ℕ). length word ≤ limit) word_is_empty (omega arith)
only_word_within limit (first ∷ []) word (first_within, no_others) only_word_is =
    let word_is_first : first ≡ word = cc in subst (λ (word : List ℕ). length word ≤ limit) word_is_first first_within
only_word_within limit (first ∷ second ∷ words) word within only_word_is = cc

-- a good line has at most `max_line` bytes
good_line_within : (line : List ℕ) → is_good_line line ≡ true → length line ≤ max_line
good_line_within line is_good = by_length (leb (length line) max_line) refl is_good where
  -- the same claim by cases on `fits`, which states whether the length is within the limit
  by_length : (fits : Bool) → leb (length line) max_line ≡ fits → fits && list_all is_text line ≡ true → length line ≤ max_line
  by_length true length_fits is_good = grind (arith, nat_tests)
  by_length false too_long is_good = cc

-- the word of a line has at most `max_line` bytes
pub length-line_word : (line word : List ℕ) → line_word line ≡ Some word → length word ≤ max_line
unfolding line_word words_of
length-line_word line word line_word_is = by_goodness (is_good_line line) refl line_word_is where
  -- the same claim by cases on `good`, which states whether the line is good; another line has no word
  by_goodness : (good : Bool) → is_good_line line ≡ good → cond good (only_word (words_of line)) None ≡ Some word → length word ≤ max_line
  by_goodness true is_good only_word_is =
      let words_within = within_filter is_filled (length line) (slice_split is_blank line) (within_split is_blank line) in
      let word_within = only_word_within (length line) (words_of line) word words_within only_word_is in
      let line_within = good_line_within line is_good in
      omega (arith, word_within, line_within)
  by_goodness false not_good only_word_is = cc
