use Rattle.std.proofs.Common.{[]}
use Rattle.rv_bench_tests.proofs.standard_tests.expect_over_streams.Given as goal

-- the test assumes no input of the streams
abbrev pub ghost-run_over_streams : goal.ghost-run_over_streams
ghost-run_over_streams g a = []
