use Rattle.std.proofs.Common.{[]}
use Rattle.rvbench.proofs.main.Given as goal

-- the program assumes no input
abbrev pub ghost-run_over_streams : goal.ghost-run_over_streams
ghost-run_over_streams a = []
