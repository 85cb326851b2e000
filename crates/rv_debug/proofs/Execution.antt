-- This file is about the execution of lines, on one bench and on two.
use Rattle.std.proofs.Common.{◌≡◌, ℕ, List, take, ap, sym, ◌∙◌}
use Rattle.rv_text.specs.GoodLines.{significant_bytes}
use Rattle.rv_script.proofs.Commands.{parse_of-cut}
use Rattle.rv_debug.specs.Prelude.{parse_of}
use Rattle.rv_debug.proofs.Prelude.{BenchState, execute_or_fault, both_execute_line, both_line_executed, execute_line}

-- the significant bytes of a line decide its execution
execute_line-cut : (bench : BenchState) (line : List ℕ) → execute_line bench (take significant_bytes line) ≡ execute_line bench line
unfolding execute_line
execute_line-cut bench line = ap (execute_or_fault bench) (parse_of-cut line)

-- lines that begin with the same significant bytes have the same effect and reply
pub execute_line_prefix : (bench : BenchState) (other_line line : List ℕ) → take significant_bytes other_line ≡ take significant_bytes line
    → execute_line bench other_line ≡ execute_line bench line
execute_line_prefix bench other_line line same_prefix =
    sym (execute_line-cut bench other_line) ∙ (ap (execute_line bench) same_prefix ∙ execute_line-cut bench line)

-- lines that begin with the same significant bytes have the same effect and replies on two benches
pub both_line-prefix : (enclave : ℕ) (one other : BenchState) (other_line line : List ℕ)
    → take significant_bytes other_line ≡ take significant_bytes line
    → both_execute_line enclave one other other_line ≡ both_execute_line enclave one other line
both_line-prefix enclave one other other_line line same_prefix =
    ap (both_line_executed enclave one other) (sym (parse_of-cut other_line) ∙ (ap parse_of same_prefix ∙ parse_of-cut line))
