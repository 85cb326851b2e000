-- The words that an assembler text denotes, defined line by line (RISC-V Unprivileged ISA 20191213, chapters 24 and 25, in this project's
-- grammar). Addresses count words; an address in bytes is four times as large.
use Rattle.std.specs.Prelude.{◌≡◌, ℕ, List, ◌∷◌, ◌++◌, length, take, drop, Option, Some, Ok}
use Rattle.rv_asm.specs.Program.{Reading, readings, words_in, line_size, line_words}
use Rattle.rv_asm.specs.declared.line.Line.{Line}

-- a line is in the text, after these lines
abbrev pub StandsIn : List ℕ → List Reading → Reading → Type 0
StandsIn text before line = (after : List Reading) × (readings text ≡ before ++ line ∷ after)

-- A text denotes words if there is a map from names to addresses as follows. The address of each label is the sum of the sizes of the lines
-- before it, and no other name has an address. With this map, each line assembles to its words, which follow those of the lines before it. There
-- are no other words.
pub record Denotes (text words : List ℕ) : Type 0 where
  -- the map from names to addresses
  pub labels : List ℕ → Option ℕ
  -- a label has the address of its line
  pub placed : (before : List Reading) (line : Line) (name : List ℕ) → StandsIn text before (Ok line) → line.label ≡ Some name
      → labels name ≡ Some (words_in before)
  -- each name with an address is the label of a line
  pub named : (name : List ℕ) (place : ℕ) → labels name ≡ Some place
      → (before : List Reading) × (line : Line) × StandsIn text before (Ok line) × (line.label ≡ Some name) × (place ≡ words_in before)
  -- each line has its words at its address
  pub each : (before : List Reading) (line : Reading) → StandsIn text before line
      → line_words labels (words_in before) line ≡ Ok (take (line_size line) (drop (words_in before) words))
  -- there are no other words
  pub whole : length words ≡ words_in (readings text)
