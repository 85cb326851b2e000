-- The replies to the lines of a script, one after another. (This project's own commands.)
use Rattle.std.specs.Prelude.{ℕ, Bool, false, List, [], ◌∷◌, ◌++◌}
use Rattle.rv_debug.specs.Execute.{execute_line}
use Rattle.rv_debug.specs.BenchState.{BenchState}

-- the state after a line, and the text of the reply to it
pub record Replied (A : Type 0) : Type 0 where
  -- the state after the line
  pub state : A
  -- the text of the reply
  pub reply : List ℕ

-- A responder to the lines of a script: its reply in each state, and the states in which it is over and reads no further line.
pub record Responding (A : Type 0) : Type 0 where
  -- the state and the reply after a line
  pub respond : A → List ℕ → Replied A
  -- whether no further line is read in a state
  pub is_over : A → Bool

-- the replies to the lines, one after another, each in the state that the lines before it lead to
abbrev pub replies : {A : Type 0} → (A → List ℕ → Replied A) → A → List (List ℕ) → List ℕ
replies respond state [] = []
replies respond state (line ∷ script) =
    let first = respond state line in first.reply ++ replies respond first.state script

-- the state after the lines
abbrev pub state_after : {A : Type 0} → (A → List ℕ → Replied A) → A → List (List ℕ) → A
state_after respond state [] = state
state_after respond state (line ∷ script) = state_after respond (respond state line).state script

-- `bench_line` is the reply of a bench to a line, and the bench after the line
abbrev pub bench_line : BenchState → List ℕ → Replied BenchState
bench_line bench line = let responded = execute_line bench line in record { state = responded.state; reply = responded.reply }

-- a bench is never over
abbrev pub one_bench : Responding BenchState
one_bench = record { respond = bench_line; is_over = λ _. false }
