-- The replies to two lists of lines, one after the other, and the state after them.
use Rattle.std.proofs.Common.{◌≡◌, ℕ, List, [], ◌∷◌, ◌++◌, refl, sym, ◌∙◌, ap, append_assoc, append-nil}
use Rattle.rv_bench.specs.Replies.{Replied, replies, state_after}

module _ {A : Type 0} (respond : A → List ℕ → Replied A) where
  -- the replies to two lists of lines are the replies to the first, followed by the replies to the second from the state after the first
  pub replies-append : (start : A) (lines later_lines : List (List ℕ))
      → replies respond start (lines ++ later_lines) ≡ replies respond start lines ++ replies respond (state_after respond start lines) later_lines
  replies-append start [] later_lines = refl
  replies-append start (line ∷ lines) later_lines =
      let responded = respond start line in
      ap (λ text. responded.reply ++ text) (replies-append responded.state lines later_lines)
      ∙ sym (append_assoc responded.reply (replies respond responded.state lines)
      (replies respond (state_after respond responded.state lines) later_lines))

  -- the state after two lists of lines is the state after the second, from the state after the first
  pub state_after-append : (start : A) (lines later_lines : List (List ℕ))
      → state_after respond start (lines ++ later_lines) ≡ state_after respond (state_after respond start lines) later_lines
  state_after-append start [] later_lines = refl
  state_after-append start (line ∷ lines) later_lines = state_after-append (respond start line).state lines later_lines

  -- the replies to lines and one more line are the replies to the lines, followed by the reply to the last line
  pub replies-more : (start : A) (lines : List (List ℕ)) (line : List ℕ)
      → replies respond start (lines ++ line ∷ []) ≡ replies respond start lines ++ (respond (state_after respond start lines) line).reply
  replies-more start lines line = replies-append start lines (line ∷ [])
      ∙ ap (λ text. replies respond start lines ++ text) (append-nil (respond (state_after respond start lines) line).reply)
