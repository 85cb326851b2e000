-- Decoding by the listing (`decoded`) finds the only instruction that a word encodes, and None if the word encodes none.
use Rattle.std.proofs.Common.{◌≡◌, ◌≢◌, ℕ, zero, suc, ◌+◌, ◌<◌, ◌^◌, Bool, true, false, cond, List, [], ◌∷◌, Some, None}
use Rattle.std.proofs.Common.{refl, sym, ap, subst, ◌∙◌, arith}
use Rattle.std.specs.Prelude.{◌==◌, map, find, slice_get, Option, IfSome, All}
use Rattle.std.specs.Option.{option_map}
use Rattle.std.proofs.lemmas.Option.{slice_get-get_or}
use Rattle.rv_word.specs.Logic.{and_by_bits}
use Rattle.rv_encoding.specs.Rows.{row_of_instr, word_of, fields_at, Encodes}
use Rattle.rv_encoding.specs.Listing.{Listed, listing, listed_of}
use Rattle.rv_encoding.specs.Decoding.{samples, with_fields_of, decoded}
use Rattle.rv_encoding.proofs.ReadingLemmas.{only_read}
use Rattle.rv_encoding.proofs.MaskLemmas.{encodes_by_mask, masked_word_of}
use Rattle.rv_encoding.proofs.ListingLemmas.{listing_of_samples, is_listed}
use Rattle.rv_encoding.specs.declared.instr.Instr.{Instr}

-- the test of `decoded`: whether a word equals the match of the row of an instruction under the row's mask
abbrev fits_row : ℕ → Instr → Bool
fits_row word sample = and_by_bits word (row_of_instr sample).mask == (row_of_instr sample).match

-- the word equals the match of the row of an instruction under the row's mask
abbrev MatchesRow : ℕ → Instr → Type 0
MatchesRow word sample = and_by_bits word (row_of_instr sample).mask ≡ (row_of_instr sample).match

-- equal numbers pass the test of equality
test_of_equal : (m n : ℕ) → m ≡ n → (m == n) ≡ true
test_of_equal m n same = grind arith

-- numbers that pass the test of equality are equal
equal_by_test : (m n : ℕ) → (m == n) ≡ true → m ≡ n
equal_by_test m n test_is = grind arith

-- ---- a sample that the search finds matches the word, and if it finds none, no sample matches

-- the word matches the sample that is found, whether it is the first sample or one of the later; `fits` is the result of the test of the first
first_or_later_matches : (word : ℕ) (first sample : Instr) (later : Option Instr) (fits : Bool) → fits ≡ fits_row word first
    → cond fits (Some first) later ≡ Some sample → (later ≡ Some sample → MatchesRow word sample) → MatchesRow word sample
first_or_later_matches word first sample later true fits_is found later_matches =
    let is_first : first ≡ sample = cc in
    subst (MatchesRow word) is_first (equal_by_test (and_by_bits word (row_of_instr first).mask) (row_of_instr first).match (sym fits_is))
first_or_later_matches word first sample later false fits_is found later_matches = later_matches found

-- the word matches the sample that the search finds; by induction over the samples
found_matches : (word : ℕ) (xs : List Instr) (sample : Instr) → find (fits_row word) xs ≡ Some sample → MatchesRow word sample
found_matches word [] sample found = cc
found_matches word (x ∷ xs) sample found =
    first_or_later_matches word x sample (find (fits_row word) xs) (fits_row word x) refl found (found_matches word xs sample)

-- if the search finds nothing, the first sample does not fit, and the search of the later samples finds nothing
none_found : (fits : Bool) (first : Instr) (later : Option Instr) → cond fits (Some first) later ≡ None → (fits ≡ false) × (later ≡ None)
none_found true first later not_found = cc
none_found false first later not_found = (refl, not_found)

-- if the search finds nothing, the word matches none of the rows of the samples; by induction over the samples
no_row_matches : (word : ℕ) (xs : List Instr) → find (fits_row word) xs ≡ None → (place : ℕ) (row : Listed)
    → slice_get (map listed_of xs) place ≡ Some row → and_by_bits word row.mask ≢ row.match
no_row_matches word [] not_found place row row_is matches = cc
no_row_matches word (x ∷ xs) not_found zero row listed_is matches =
    let row_is : row ≡ listed_of x = cc in
    let x_matches = subst (λ (r : Listed). and_by_bits word r.mask ≡ r.match) row_is matches in
    let x_fits = test_of_equal (and_by_bits word (row_of_instr x).mask) (row_of_instr x).match x_matches in
    let x_does_not_fit = (none_found (fits_row word x) x (find (fits_row word) xs) not_found).0 in
    cc
no_row_matches word (x ∷ xs) not_found (suc place) row row_is matches =
    no_row_matches word xs (none_found (fits_row word x) x (find (fits_row word) xs) not_found).1 place row row_is matches

-- ---- decoding and encoding

-- the word of an instruction is the sum of the match of its row and of its fields at their positions
pub word_of_parts : (instr : Instr) (match fields : ℕ) → match ≡ (row_of_instr instr).match → fields ≡ fields_at (row_of_instr instr).fields
    → word_of instr ≡ match + fields
unfolding word_of
word_of_parts instr match fields match_is fields_are =
    sym (ap (λ fixed_bits. fixed_bits + fields) match_is ∙ ap (λ field_bits. (row_of_instr instr).match + field_bits) fields_are)

-- if the search finds no sample, the word matches no row of the listing
no_listed_row_matches : (word : ℕ) → find (fits_row word) samples ≡ None → (place : ℕ) (row : Listed) → slice_get listing place ≡ Some row
    → and_by_bits word row.mask ≢ row.match
no_listed_row_matches word not_found place row row_is =
    let sample_row_is = ap (λ (rows : List Listed). slice_get rows place) (sym listing_of_samples) ∙ row_is in
    no_row_matches word samples not_found place row sample_row_is

-- if the search finds no sample, the word encodes no instruction, since it would match the row of the instruction
encodes_none : (word : ℕ) (result : Option Instr) → word < 2 ^ 32 → IfSome result (Encodes word) → find (fits_row word) samples ≡ None
    → result ≡ None
encodes_none word None is_32_bits encodes_result not_found = refl
encodes_none word (Some instr) is_32_bits encodes_result not_found =
    let word_of_instr_is_32_bits : word_of instr < 2 ^ 32 = omega (arith, encodes_result.1) in
    let word_matches = subst (λ (word : ℕ). MatchesRow word instr) encodes_result.1
    (masked_word_of instr encodes_result.0 word_of_instr_is_32_bits) in
    absurd (no_listed_row_matches word not_found (is_listed instr).0 (listed_of instr) (is_listed instr).1 word_matches)

-- if `result` is an instruction that the word encodes, or None, and each instruction that the word encodes is `result`, it is `decoded word`
pub decoded_is : (word : ℕ) (result : Option Instr) → word < 2 ^ 32 → IfSome result (Encodes word)
    → ((instr : Instr) → Encodes word instr → result ≡ Some instr) → result ≡ decoded word
unfolding decoded
decoded_is word result is_32_bits encodes_result is_result = result_of_search (find (fits_row word) samples) refl
  where
    -- the result is the sample that the search finds, with the fields of the word, or None
    result_of_search : (found : Option Instr) → find (fits_row word) samples ≡ found → result ≡ option_map (with_fields_of word) found
    result_of_search (Some sample) found_is =
        let encodes_sample = encodes_by_mask sample word is_32_bits (found_matches word samples sample found_is) in
        is_result (with_fields_of word sample) encodes_sample
    result_of_search None found_is = encodes_none word result is_32_bits encodes_result found_is

-- a word encodes at most one instruction
pub encodes_only_one : (word : ℕ) (instr other : Instr) → Encodes word instr → Encodes word other → other ≡ instr
encodes_only_one word instr other encodes_instr encodes_other =
    let reads_instr = only_read word instr encodes_instr in
    let reads_other = only_read word other encodes_other in
    cc

-- a word decodes to the instruction that it encodes
pub decodes_to_encoded : (word : ℕ) (instr : Instr) → word < 2 ^ 32 → Encodes word instr → decoded word ≡ Some instr
decodes_to_encoded word instr is_32_bits encodes_instr =
    sym (decoded_is word (Some instr) is_32_bits encodes_instr
    (λ other encodes_other. ap Some (sym (encodes_only_one word instr other encodes_instr encodes_other))))

-- if nothing is decoded, the word matches no row of the listing
pub none_listed : (word : ℕ) → decoded word ≡ None → All (λ row. and_by_bits word row.mask ≢ row.match) listing
unfolding decoded
none_listed word none_decoded place default in_bounds =
    let not_found = none_found_if_none_decoded (find (fits_row word) samples) none_decoded in
    no_listed_row_matches word not_found place _ (slice_get-get_or listing place default in_bounds)
  where
    -- if nothing is decoded, the search found no sample
    none_found_if_none_decoded : (found : Option Instr) → option_map (with_fields_of word) found ≡ None → found ≡ None
    none_found_if_none_decoded (Some sample) mapped_is_none = cc
    none_found_if_none_decoded None mapped_is_none = refl
