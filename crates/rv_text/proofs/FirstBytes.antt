-- This file proves that a search finds the first byte that passes a test.
use Rattle.std.proofs.Common.{◌≡◌, ℕ, Bool, Option, Some, None, List, length, sym, arith}
use Rattle.std.specs.Option.{unwrap_or}
use Rattle.std.specs.List.{position_or_len}
use Rattle.std.proofs.lemmas.Bool.{false_from_ne_true}
use Rattle.std.proofs.lemmas.List.Sums.{position_or_len_is}
use Rattle.memchr.specs.Find.{IsFirstByte}

-- the result of the search, with the length of the text for `None`, is the position of the first byte that passes the test
pub position-first_byte : (test : ℕ → Bool) (text : List ℕ) (result : Option ℕ) → IsFirstByte test text result
    → unwrap_or result (length text) ≡ position_or_len test text
position-first_byte test text None no_byte_passes =
    sym (position_or_len_is test text (length text) 0 (omega arith)
    (λ earlier is_below. false_from_ne_true _ (no_byte_passes earlier (omega arith) is_below))
    (λ is_below. absurd (omega arith)))
position-first_byte test text (Some index) is_first =
    let index_in_bounds = is_first.0.high in
    sym (position_or_len_is test text index 0 (omega arith)
    (λ earlier is_below. false_from_ne_true _ (is_first.0.before earlier (omega arith) is_below))
    (λ _. is_first.1))
