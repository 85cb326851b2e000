use Rattle.std.proofs.Common.{[]}
use Rattle.rv_bench_tests.proofs.sources.source_over.Given as goal

-- the test assumes no input of the source
abbrev pub ghost-new : goal.ghost-new
ghost-new g a = []
