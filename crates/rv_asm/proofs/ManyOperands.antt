-- No statement has more than three operands, so operands after the fourth do not change the result.
use Rattle.std.proofs.Common.{◌≡◌, ℕ, List, [], ◌∷◌, take, refl, arith}
use Rattle.rv_asm.specs.declared.mnemonic.Mnemonic.{Mnemonic}
use Rattle.rv_asm.specs.Statements.{statement_of}

-- a statement with four or more operands is the same error, whatever follows the fourth: no mnemonic has more than three
same_after_fourth : (mnemonic : Mnemonic) (first second third fourth : List ℕ) (more others : List (List ℕ))
    → statement_of mnemonic (first ∷ second ∷ third ∷ fourth ∷ more) ≡ statement_of mnemonic (first ∷ second ∷ third ∷ fourth ∷ others)
same_after_fourth mnemonic first second third fourth more others = grind arith

-- a statement depends on its first four operands only, since more than three are an error
pub statement_of-take : (mnemonic : Mnemonic) (operands : List (List ℕ)) → statement_of mnemonic (take 4 operands) ≡ statement_of mnemonic operands
statement_of-take mnemonic [] = refl
statement_of-take mnemonic (first ∷ []) = refl
statement_of-take mnemonic (first ∷ second ∷ []) = refl
statement_of-take mnemonic (first ∷ second ∷ third ∷ []) = refl
statement_of-take mnemonic (first ∷ second ∷ third ∷ fourth ∷ more) = same_after_fourth mnemonic first second third fourth [] more
