-- Bytes that were read ahead into a buffer, from index `start` to index `end`: what is left of them after some are returned, and line feeds in them.
use Rattle.std.proofs.Common.{◌≡◌, ◌<◌, ◌≤◌, ◌==◌, ◌||◌, ℕ, ◌+◌, ◌-◌, nat_lt, suc, min, Bool, true, false, not, cond, List, [], ◌∷◌, ◌++◌, take, drop, length}
use Rattle.std.proofs.Common.{arith, refl, ◌∙◌, ap, sym, append_assoc}
use Rattle.std.proofs.lemmas.Bool.Decides.{nat_tests}
use Rattle.std.proofs.Math.Seq.{take-add}
use Rattle.std.proofs.lemmas.List.{drop-drop, length-take, take-append-drop, take-take}
use Rattle.std.specs.List.{position_or_len}
use Rattle.rv_text.specs.Characters.{line_feed}
use Rattle.rv_text.specs.Lines.{has_feed}
use Rattle.rv_text.proofs.LineCuts.{no_feed, all_taken}
use Rattle.rv_text.proofs.LineLemmas.{has_feed-append}
use Rattle.rv_streams.proofs.LineTextLemmas.{has_feed-take}

-- `ahead` is the part of the buffer from index `start` to index `end`
abbrev ahead : List ℕ → ℕ → ℕ → List ℕ
ahead buffer start end = take (end - start) (drop start buffer)

-- if `count` of the bytes read ahead are returned, the bytes read ahead are the returned bytes and the others, which stay
pub ahead_given : (buffer rest given : List ℕ) (start end count room : ℕ) → count ≡ min (length (ahead buffer start end)) room
    → given ≡ take count (ahead buffer start end)
    → ahead buffer start end ++ rest ≡ given ++ (ahead buffer (start + count) end ++ rest)
ahead_given buffer rest given start end count room count_is given_is =
    let count_fits : count ≤ end - start = omega (arith, count_is, length-take (end - start) (drop start buffer)) in
    let returned = take count (drop start buffer) in
    let staying = ahead buffer (start + count) end in
    let ahead_is : ahead buffer start end ≡ returned ++ staying =
    ap (λ count. take count (drop start buffer)) (omega arith) ∙ (take-add count (end - (start + count)) (drop start buffer)
    ∙ ap (λ bytes. returned ++ take (end - (start + count)) bytes) (drop-drop count start buffer)) in
    let returned_is : returned ≡ given = sym (given_is ∙ take-take count (end - start) (drop start buffer) count_fits) in
    ap (λ bytes. bytes ++ rest) ahead_is ∙ (append_assoc returned staying rest ∙ ap (λ bytes. bytes ++ (staying ++ rest)) returned_is)

-- the same for `count` bytes of one line, which is a prefix of the bytes read ahead
pub line_given : (buffer rest given line : List ℕ) (start end count room : ℕ) → line ≡ take (length line) (ahead buffer start end)
    → count ≡ min (length line) room → given ≡ take count line
    → ahead buffer start end ++ rest ≡ given ++ (ahead buffer (start + count) end ++ rest)
line_given buffer rest given line start end count room line_is_prefix count_is given_is =
    let bytes = ahead buffer start end in
    let line_fits : length line ≤ length bytes = omega (arith, ap length line_is_prefix, length-take (length line) bytes) in
    let same_bytes : take count line ≡ take count bytes =
    ap (take count) line_is_prefix ∙ take-take count (length line) bytes (omega (arith, count_is)) in
    ahead_given buffer rest given start end count count (omega (arith, count_is, line_fits)) (given_is ∙ same_bytes)

-- if a text has no line feed before its end, its bytes without the last have no line feed
pub feedless-whole : (text : List ℕ) (end : ℕ) → end ≡ position_or_len (λ byte. byte == line_feed) text → end ≡ length text
    → has_feed (take (length text - 1) text) ≡ false
feedless-whole text end end_is end_is_length = has_feed-take (length text - 1) text (all_taken text (sym end_is ∙ end_is_length))

-- the bytes before the first line feed have no line feed
pub feedless-cut : (text : List ℕ) (end : ℕ) → end ≡ position_or_len (λ byte. byte == line_feed) text → end < length text
    → has_feed (take (length (take (end + 1) text) - 1) (take (end + 1) text)) ≡ false
feedless-cut text end end_is end_in_text =
    let length_is : length (take (end + 1) text) - 1 ≡ end = omega (arith, length-take (end + 1) text) in
    rw length_is (ap has_feed (take-take end (end + 1) text (omega arith)) ∙ (ap (λ count. has_feed (take count text)) end_is ∙ no_feed text))

-- a text with one more byte in front has a line feed if this byte is one, or if the rest has one
feed_found-step : (is_feed : Bool) (position len : ℕ) (rest_has_feed : Bool) → nat_lt position len ≡ rest_has_feed
    → nat_lt (cond (not is_feed) (1 + position) 0) (suc len) ≡ is_feed || rest_has_feed
feed_found-step true position len rest_has_feed found_in_rest = grind (arith, nat_tests)
feed_found-step false position len rest_has_feed found_in_rest = grind (arith, nat_tests, found_in_rest)

-- a text has a line feed if the position of the first one is in the text
pub feed_found : (text : List ℕ) (index : ℕ) → index ≡ position_or_len (λ byte. byte == line_feed) text → nat_lt index (length text) ≡ has_feed text
feed_found text index index_is = ap (λ position. nat_lt position (length text)) index_is ∙ position_in_text text where
  -- the same claim for the position itself, by induction over the text
  position_in_text : (text : List ℕ) → nat_lt (position_or_len (λ byte. byte == line_feed) text) (length text) ≡ has_feed text
  position_in_text [] = refl
  position_in_text (byte ∷ bytes) = feed_found-step (byte == line_feed) _ (length bytes) (has_feed bytes) (position_in_text bytes)

-- a text has a line feed at the position of the first one
pub feed_within : (text : List ℕ) (index : ℕ) → index ≡ position_or_len (λ byte. byte == line_feed) text → index < length text → has_feed text ≡ true
feed_within text index index_is index_in_text =
    let is_in_text : nat_lt index (length text) ≡ true = grind (arith, nat_tests, index_in_text) in sym (feed_found text index index_is) ∙ is_in_text

-- a text has a line feed if a part at its beginning has one
pub feed_in_part : (count : ℕ) (text : List ℕ) → has_feed (take count text) ≡ true → has_feed text ≡ true
feed_in_part count text part_has_feed =
    ap has_feed (sym (take-append-drop count text))
    ∙ (has_feed-append (take count text) (drop count text) ∙ ap (λ has_one. has_one || has_feed (drop count text)) part_has_feed)
