-- Bytes that a sink holds for another sink, from index `start` to index `end` of its buffer: passing them on, holding more, and flushing.
use Rattle.std.proofs.Common.{◌≡◌, ◌<◌, ◌≤◌, ◌≢◌, ◌==◌, ◌&&◌, ℕ, ◌+◌, Bool, false, true, List, ◌++◌, take, drop, length}
use Rattle.std.proofs.Common.{arith, refl, ◌∙◌, ap, sym, append_assoc, append-nil}
use Rattle.std.proofs.lemmas.Bool.Decides.{nat_tests}
use Rattle.std.proofs.Math.Bool.{and-false}
use Rattle.std.proofs.lemmas.Bool.{false≢true}
use Rattle.std.proofs.lemmas.List.{drop-append-le, drop-drop, drop_all, length-take, take-append-drop, take-take}

-- If the taken bytes and the bytes from index `start` on are all bytes, this holds after `count` of at most `room` further bytes are passed on.
pub passed_more : (before after all bytes : List ℕ) (start count room : ℕ) → count ≤ room
    → after ≡ before ++ take count (take room (drop start bytes)) → before ++ drop start bytes ≡ all → after ++ drop (start + count) bytes ≡ all
passed_more before after all bytes start count room count_within_room after_is all_are =
    let passed = take count (drop start bytes) in
    let taken_is = after_is ∙ ap (λ added. before ++ added) (take-take count room (drop start bytes) count_within_room) in
    ap (λ taken. taken ++ drop (start + count) bytes) taken_is
    ∙ (append_assoc before passed (drop (start + count) bytes)
    ∙ (ap (λ rest. before ++ (passed ++ rest)) (sym (drop-drop count start bytes))
    ∙ (ap (λ rest. before ++ rest) (take-append-drop count (drop start bytes)) ∙ all_are)))

-- a part that is copied to the buffer at index `end` is held behind the bytes that are held
pub held_more : (before buffer new part : List ℕ) (start end count : ℕ) → start ≤ end → end ≤ length buffer
    → take (end + count) new ≡ take end buffer ++ take count part
    → before ++ drop start (take (end + count) new) ≡ (before ++ drop start (take end buffer)) ++ take count part
held_more before buffer new part start end count start_before_end end_in_buffer new_is =
    let start_in_held : start ≤ length (take end buffer) = omega (arith, length-take end buffer) in
    ap (λ bytes. before ++ drop start bytes) new_is
    ∙ (ap (λ bytes. before ++ bytes) (drop-append-le start (take end buffer) (take count part) start_in_held)
    ∙ sym (append_assoc before (drop start (take end buffer)) (take count part)))

-- A sink is flushed if the other sink is and no byte is left (`index == len`). This stays the same if a call takes a byte: bytes were left before it,
-- and after it the other sink is not flushed.
pub unflushed : (was_flushed is_flushed flushed_after : Bool) (start index count len : ℕ) → flushed_after ≡ (is_flushed && (count == 0))
    → (is_flushed && (index == len)) ≡ (was_flushed && (start == len))
    → index < len → count ≢ 0 → (flushed_after && (index + count == len)) ≡ (was_flushed && (start == len))
unflushed was_flushed is_flushed flushed_after start index count len flushed_after_is same_so_far bytes_left some_taken =
    let count_not_0 : (count == 0) ≡ false = grind (arith, nat_tests, some_taken) in
    let not_at_end : (index == len) ≡ false = grind (arith, nat_tests, bytes_left) in
    let not_flushed_after = flushed_after_is ∙ (ap (λ none_taken. is_flushed && none_taken) count_not_0 ∙ and-false is_flushed) in
    let not_flushed_before = sym same_so_far ∙ (ap (λ none_left. is_flushed && none_left) not_at_end ∙ and-false is_flushed) in
    ap (λ flushed. flushed && (index + count == len)) not_flushed_after ∙ sym not_flushed_before

-- if the other sink is flushed and no byte is held, all bytes are passed on
pub all_passed : (bytes buffer : List ℕ) (flushed : Bool) (start end : ℕ) → (flushed && (start == end)) ≡ true
    → bytes ++ drop start (take end buffer) ≡ bytes
all_passed bytes buffer true start end none_held =
    let start_is_end : start ≡ end = grind (arith, nat_tests, none_held) in
    let held_before_start : length (take end buffer) ≤ start = omega (arith, start_is_end, length-take end buffer) in
    ap (λ held. bytes ++ held) (drop_all start (take end buffer) held_before_start) ∙ append-nil bytes
all_passed bytes buffer false start end impossible = absurd (false≢true impossible)

-- if the other sink is flushed and no byte is held, the other sink is flushed
pub flushed_too : (flushed none_held : Bool) → (flushed && none_held) ≡ true → flushed ≡ true
flushed_too true none_held both_hold = refl
flushed_too false none_held impossible = absurd (false≢true impossible)
