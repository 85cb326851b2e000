-- A text that is written part by part. `WritesUpTo old new text rest` states that the bytes from `old` to `new` are the text without its rest, and
-- `WritesPrefix old new text` that they are a prefix of the text.
use Rattle.std.proofs.Common.{◌≡◌, ℕ, List, ◌++◌, take, drop, append_assoc, sym, ◌∙◌, ap, subst, arith}
use Rattle.std.proofs.lemmas.Grind.{common_steps}
use Rattle.rv_streams.specs.Transfer.{WritesUpTo, WritesPrefix}

-- `count` more bytes of the rest of the text are written
pub WritesUpTo-more : (old so_far new text rest remaining : List ℕ) (count : ℕ) → WritesUpTo old so_far text rest
    → new ≡ so_far ++ take count rest → remaining ≡ drop count rest
    → WritesUpTo old new text remaining
WritesUpTo-more old so_far new text rest remaining count (prefix, so_far_is, text_is) wrote left_is =
    (prefix ++ take count rest, grind (arith, common_steps), grind (arith, common_steps))

-- a prefix of a text is written after the texts before it, and more text would follow
pub WritesPrefix-after : (old so_far new done text others : List ℕ) → so_far ≡ old ++ done → WritesPrefix so_far new text
    → WritesPrefix old new (done ++ (text ++ others))
WritesPrefix-after old so_far new done text others so_far_is (rest, (prefix, wrote_prefix, text_is)) = (
  rest ++ others,
  (
    done ++ prefix,
    wrote_prefix ∙ (ap (λ taken. taken ++ prefix) so_far_is ∙ append_assoc old done prefix),
    ap (λ text. done ++ (text ++ others)) text_is
        ∙ (ap (λ text. done ++ text) (append_assoc prefix rest others) ∙ sym (append_assoc done prefix (rest ++ others))),
  ),
)

-- of a text whose rest is gathered, a prefix of the gathered bytes is written
pub WritesUpTo-on : (old so_far new text rest remaining : List ℕ) → WritesUpTo old so_far text rest → WritesUpTo so_far new rest remaining
    → WritesUpTo old new text remaining
WritesUpTo-on old so_far new text rest remaining (prefix, so_far_is, text_is) (more, wrote_more, rest_is) = (
  prefix ++ more,
  wrote_more ∙ (ap (λ taken. taken ++ more) so_far_is ∙ append_assoc old prefix more),
  text_is ∙ (ap (λ text. prefix ++ text) rest_is ∙ sym (append_assoc prefix more remaining)),
)

-- one more line is gathered
pub WritesUpTo-line : (old new text rest line whole gathered : List ℕ) → WritesUpTo old new text rest → whole ≡ text ++ line
    → gathered ≡ rest ++ line → WritesUpTo old new whole gathered
WritesUpTo-line old new text rest line whole gathered (prefix, new_is, text_is) whole_is gathered_is = (
  prefix,
  new_is,
  whole_is ∙ (ap (λ text. text ++ line) text_is ∙ (append_assoc prefix rest line ∙ ap (λ text. prefix ++ text) (sym gathered_is))),
)

-- the sink stops within the gathered bytes, and more text would follow
pub WritesUpTo-stopped : (old so_far new text rest others whole : List ℕ) → WritesUpTo old so_far text rest → WritesPrefix so_far new rest
    → whole ≡ text ++ others → WritesPrefix old new whole
WritesUpTo-stopped old so_far new text rest others whole (prefix, so_far_is, text_is) stops whole_is =
    let parts_are = whole_is ∙ (ap (λ text. text ++ others) text_is ∙ append_assoc prefix rest others) in
    subst (λ text. WritesPrefix old new text) (sym parts_are) (WritesPrefix-after old so_far new prefix rest others so_far_is stops)

-- all gathered bytes are written
pub WritesUpTo-all : (old so_far new text rest : List ℕ) → WritesUpTo old so_far text rest → new ≡ so_far ++ rest → new ≡ old ++ text
WritesUpTo-all old so_far new text rest (prefix, so_far_is, text_is) wrote_rest =
    wrote_rest ∙ (ap (λ taken. taken ++ rest) so_far_is ∙ (append_assoc old prefix rest ∙ ap (λ text. old ++ text) (sym text_is)))
