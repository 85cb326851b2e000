-- The command of a line depends only on its first six words, and on its significant bytes.
use Rattle.std.proofs.Common.{◌≡◌, ◌≤◌, ℕ, arith, nat_eq, Bor, List, [], ◌∷◌, length, map, take, Option, Some, None, Ok, Err, refl, ap}
use Rattle.std.specs.Prelude.{codes, if◌then◌else◌}
use Rattle.std.specs.List.{starts_with}
use Rattle.rv_script.specs.declared.command.Command.TheVariants.{Blank}
use Rattle.rv_script.specs.declared.keyword.Keyword.{Keyword}
use Rattle.rv_script.specs.Command.{Form, NoOperand, OneOperand, TwoOperands, FourOperands, made, command_row, keyword_of, named, meaning_of, parse_of}
use Rattle.rv_text.specs.GoodLines.{significant_bytes}
use Rattle.rv_text.specs.Words.{words_of}
use Rattle.rv_script.specs.declared.command.CommandFault.TheVariants.{BadLine}
use Rattle.rv_text.proofs.CutLines.{if_good-take}

-- The command that a form makes of operands depends only on the first five: a form takes at most four, so five operands are too many, as more are.
made-take : (form : Form) (operands : List (List ℕ)) → made form (take 5 operands) ≡ made form operands
made-take (NoOperand command) [] = refl
made-take (NoOperand command) (first ∷ others) = refl
made-take (OneOperand make) [] = refl
made-take (OneOperand make) (first ∷ []) = refl
made-take (OneOperand make) (first ∷ second ∷ others) = refl
made-take (TwoOperands make) [] = refl
made-take (TwoOperands make) (first ∷ []) = refl
made-take (TwoOperands make) (first ∷ second ∷ []) = refl
made-take (TwoOperands make) (first ∷ second ∷ third ∷ others) = refl
made-take (FourOperands make) [] = refl
made-take (FourOperands make) (first ∷ []) = refl
made-take (FourOperands make) (first ∷ second ∷ []) = refl
made-take (FourOperands make) (first ∷ second ∷ third ∷ []) = refl
made-take (FourOperands make) (first ∷ second ∷ third ∷ fourth ∷ []) = refl
made-take (FourOperands make) (first ∷ second ∷ third ∷ fourth ∷ fifth ∷ others) = refl

-- no command has exactly three operands
pub made_three : (form : Form) (operands : List (Bor (List ℕ))) → length operands ≡ 3 → None ≡ made form (map (λ operand. operand.now) operands)
made_three form (first ∷ second ∷ third ∷ []) length_is = by_form form
  where
    -- no form takes three operands
    by_form : (form : Form) → None ≡ made form (first.now ∷ second.now ∷ third.now ∷ [])
    by_form (NoOperand command) = refl
    by_form (OneOperand make) = refl
    by_form (TwoOperands make) = refl
    by_form (FourOperands make) = refl
made_three form _ length_is = absurd (omega arith)

-- no command has five or more operands
pub made_many : (form : Form) (operands : List (Bor (List ℕ))) → 5 ≤ length operands → None ≡ made form (map (λ operand. operand.now) operands)
made_many form (first ∷ second ∷ third ∷ fourth ∷ fifth ∷ others) at_least_five = by_form form
  where
    -- no form takes five or more operands
    by_form : (form : Form) → None ≡ made form (map (λ operand. operand.now) (first ∷ second ∷ third ∷ fourth ∷ fifth ∷ others))
    by_form (NoOperand command) = refl
    by_form (OneOperand make) = refl
    by_form (TwoOperands make) = refl
    by_form (FourOperands make) = refl
made_many form _ at_least_five = absurd (omega arith)

-- the command of a keyword, or none for an unknown word, depends on the first five operands only
named-take : (keyword : Option Keyword) (operands : List (List ℕ)) → named keyword (take 5 operands) ≡ named keyword operands
named-take None operands = refl
named-take (Some keyword) operands = rw (made-take (command_row keyword).form operands)

-- the meaning of a line depends on its first six words only: a name and five operands
pub meaning_of-take : (words : List (List ℕ)) → meaning_of (take 6 words) ≡ meaning_of words
unfolding meaning_of
meaning_of-take [] = refl
meaning_of-take (name ∷ operands) =
    ap (λ command. if starts_with nat_eq name (codes "#") then Ok Blank else command) (named-take (keyword_of name) operands)

-- the significant bytes of a line give the same command as the line
pub parse_of-cut : (line : List ℕ) → parse_of (take significant_bytes line) ≡ parse_of line
unfolding parse_of
parse_of-cut line = if_good-take (λ good_line. meaning_of (words_of good_line)) (Err BadLine) line
