-- The words of a line are its bytes without the blanks, in order. No word is empty or has a blank.
use Rattle.std.proofs.Common.{◌≡◌, ℕ, Bool, true, false, not, cond, ◌&&◌, List, [], ◌∷◌, ◌++◌, refl, ap, ◌∙◌, arith}
use Rattle.std.proofs.lemmas.Bool.Decides.{nat_tests}
use Rattle.std.specs.Prelude.{filter}
use Rattle.std.specs.List.{slice_split, onto_first, list_all}
use Rattle.rv_text.specs.GoodLines.{is_blank}
use Rattle.rv_text.specs.Words.{is_filled, words_of}

-- `joined` has the words, one after another
abbrev joined : List (List ℕ) → List ℕ
joined [] = []
joined (word ∷ words) = word ++ joined words

-- no byte of a word is blank
abbrev has_no_blank : List ℕ → Bool
has_no_blank word = list_all (λ byte. not (is_blank byte)) word

-- a byte put before the first word is put before all words together
joined-onto_first : (byte : ℕ) (words : List (List ℕ)) → joined (onto_first byte words) ≡ byte ∷ joined words
joined-onto_first byte [] = refl
joined-onto_first byte (word ∷ words) = refl

-- the parts of a line between its blanks, one after another, are the bytes that are not blank (by induction over the line)
joined-slice_split : (line : List ℕ) → joined (slice_split is_blank line) ≡ filter (λ byte. not (is_blank byte)) line
joined-slice_split [] = refl
joined-slice_split (byte ∷ others) = joined_by_test (is_blank byte) (joined-slice_split others) where
  -- the same claim for `byte ∷ others` by cases: `byte_is_blank` states whether `byte` is a blank
  joined_by_test : (byte_is_blank : Bool) → joined (slice_split is_blank others) ≡ filter (λ byte. not (is_blank byte)) others
      → joined (cond byte_is_blank ([] ∷ slice_split is_blank others) (onto_first byte (slice_split is_blank others)))
      ≡ cond (not byte_is_blank) (byte ∷ filter (λ byte. not (is_blank byte)) others) (filter (λ byte. not (is_blank byte)) others)
  joined_by_test true rest_joined = rest_joined
  joined_by_test false rest_joined = joined-onto_first byte (slice_split is_blank others) ∙ ap (λ bytes. byte ∷ bytes) rest_joined

-- a word with a first byte is not empty
filled : (byte : ℕ) (others : List ℕ) → is_filled (byte ∷ others) ≡ true
filled byte others = grind (arith, nat_tests)

-- empty words add no byte: the words without the empty ones, one after another, are the same bytes
joined-filter : (words : List (List ℕ)) → joined (filter is_filled words) ≡ joined words
joined-filter [] = refl
joined-filter ([] ∷ words) = joined-filter words
joined-filter ((byte ∷ others) ∷ words) = rw (filled byte others) (ap (λ bytes. byte ∷ (others ++ bytes)) (joined-filter words))

-- the words of a line, one after another, are the bytes of the line that are not blank
pub joined-words_of : (line : List ℕ) → joined (words_of line) ≡ filter (λ byte. not (is_blank byte)) line
unfolding words_of
joined-words_of line = joined-filter (slice_split is_blank line) ∙ joined-slice_split line

-- no word is empty after the empty words are removed
all_filled : (words : List (List ℕ)) → list_all is_filled (filter is_filled words) ≡ true
all_filled [] = refl
all_filled ([] ∷ words) = all_filled words
all_filled ((byte ∷ others) ∷ words) = rw (filled byte others, filled byte others) (all_filled words)

-- no word of a line is empty
pub words_of-filled : (line : List ℕ) → list_all is_filled (words_of line) ≡ true
unfolding words_of
words_of-filled line = all_filled (slice_split is_blank line)

-- a byte that is not blank, put before the first word, leaves words without blanks
no_blank-onto_first : (byte : ℕ) (words : List (List ℕ)) → is_blank byte ≡ false → list_all has_no_blank words ≡ true
    → list_all has_no_blank (onto_first byte words) ≡ true
no_blank-onto_first byte [] not_blank no_word_has_blank = rw not_blank refl
no_blank-onto_first byte (word ∷ words) not_blank no_word_has_blank = rw not_blank no_word_has_blank

-- the parts of a line between its blanks have no blank (by induction over the line)
no_blank-slice_split : (line : List ℕ) → list_all has_no_blank (slice_split is_blank line) ≡ true
no_blank-slice_split [] = refl
no_blank-slice_split (byte ∷ others) = no_blank_by_test (is_blank byte) refl (no_blank-slice_split others) where
  -- the same claim for `byte ∷ others` by cases: `byte_is_blank` states whether `byte` is a blank
  no_blank_by_test : (byte_is_blank : Bool) → is_blank byte ≡ byte_is_blank → list_all has_no_blank (slice_split is_blank others) ≡ true
      → list_all has_no_blank (cond byte_is_blank ([] ∷ slice_split is_blank others) (onto_first byte (slice_split is_blank others))) ≡ true
  no_blank_by_test true test_is no_part_has_blank = no_part_has_blank
  no_blank_by_test false test_is no_part_has_blank = no_blank-onto_first byte (slice_split is_blank others) test_is no_part_has_blank

-- if no word has a blank, then none has one after the empty words are removed
no_blank-filter : (words : List (List ℕ)) → list_all has_no_blank words ≡ true → list_all has_no_blank (filter is_filled words) ≡ true
no_blank-filter [] no_word_has_blank = refl
no_blank-filter ([] ∷ words) no_word_has_blank = no_blank-filter words no_word_has_blank
no_blank-filter ((byte ∷ others) ∷ words) no_word_has_blank =
    rw (filled byte others) (no_blank_by_test (has_no_blank (byte ∷ others)) no_word_has_blank (no_blank-filter words)) where
      -- the same claim for a first word `byte ∷ others` by cases: `first_has_no_blank` states whether this word has no blank
      no_blank_by_test : (first_has_no_blank : Bool) → first_has_no_blank && list_all has_no_blank words ≡ true
          → (list_all has_no_blank words ≡ true → list_all has_no_blank (filter is_filled words) ≡ true)
          → first_has_no_blank && list_all has_no_blank (filter is_filled words) ≡ true
      no_blank_by_test true no_word_has_blank others_filtered = others_filtered no_word_has_blank
      no_blank_by_test false no_word_has_blank others_filtered = cc

-- no word of a line has a blank
pub words_of-no_blank : (line : List ℕ) → list_all has_no_blank (words_of line) ≡ true
unfolding words_of
words_of-no_blank line = no_blank-filter (slice_split is_blank line) (no_blank-slice_split line)
