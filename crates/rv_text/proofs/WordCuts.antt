-- This file is about the words of a text up to its first blank, and the words after the blank.
use Rattle.std.proofs.Common.{◌≡◌, ◌<◌, ◌==◌, ◌++◌, ℕ, Bool, true, false, cond, List, [], ◌∷◌, length, take, filter, refl, ap, sym, ◌∙◌, arith}
use Rattle.std.proofs.lemmas.Bool.Decides.{nat_tests}
use Rattle.std.proofs.lemmas.List.{take-append-le, take_all}
use Rattle.std.specs.List.{position_or_len, before_first, after_first}
use Rattle.std.proofs.lemmas.List.Sums.{fails_before_first}
use Rattle.std.proofs.lemmas.List.Splits.{slice_split_none, slice_split_first}
use Rattle.rv_text.specs.GoodLines.{is_blank}
use Rattle.rv_text.specs.Words.{is_filled, words_of}

-- `kept` states whether a word is kept: in both cases, the kept words are that word or none, followed by the others
first_or_none : (kept : Bool) (word : List ℕ) (words : List (List ℕ)) → cond kept (word ∷ words) words ≡ cond kept (word ∷ []) [] ++ words
first_or_none true word words = refl
first_or_none false word words = refl

-- a text without a blank is one word, or none if it is empty
pub words-whole : (text : List ℕ) → position_or_len is_blank text ≡ length text → words_of text ≡ filter is_filled (text ∷ [])
unfolding words_of
words-whole text no_blank_found =
    ap (filter is_filled) (slice_split_none is_blank text
    (λ index default is_below. fails_before_first is_blank text index default (omega (arith, no_blank_found, is_below))))

-- the words of a text with a blank are the word before it, if it has a byte, and the words of the rest
pub words-cut : (text : List ℕ) → position_or_len is_blank text < length text
    → words_of text ≡ filter is_filled (before_first is_blank text ∷ []) ++ words_of (after_first is_blank text)
unfolding words_of
words-cut text blank_in_text =
    ap (filter is_filled) (slice_split_first is_blank text 0 blank_in_text) ∙ first_or_none (is_filled (before_first is_blank text)) _ _

-- a text is empty if the test of its length holds
empty_by_test : (text : List ℕ) (is_empty : Bool) → is_empty ≡ (length text == 0) → is_empty ≡ true → text ≡ []
empty_by_test [] is_empty is_empty_is test_holds = refl
empty_by_test (byte ∷ others) is_empty is_empty_is test_holds = grind (arith, nat_tests)

-- a text has no word if it has the same words as its rest, and the rest is empty
pub words-none : (text rest : List ℕ) (is_empty : Bool) → words_of text ≡ words_of rest → is_empty ≡ (length rest == 0)
    → is_empty ≡ true → words_of text ≡ []
unfolding words_of
words-none text rest is_empty same_words is_empty_is test_holds =
    same_words ∙ ap words_of (empty_by_test rest is_empty is_empty_is test_holds)

-- if a list begins with `count` words, these are its first `count` words
pub words-full : (count : ℕ) (words others all_words : List (List ℕ)) → all_words ≡ words ++ others → length words ≡ count
    → words ≡ take count all_words
words-full count words others all_words all_words_are count_is =
    rw all_words_are (sym (take-append-le count words others (omega (arith, count_is)) ∙ take_all count words (omega (arith, count_is))))
