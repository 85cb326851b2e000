-- This file proves obligations of `start`, which returns the bench at reset, with the image in its RAM.
use Rattle.std.proofs.Common.{rules}
use Rattle.rv_bench.proofs.Starts.{started_ok, started_err}
use Rattle.rv_bench.proofs.start.start.Goals as goal

-- if the image can be loaded, the result is the bench that the image starts
pub returns-in-Ok-loaded : goal.returns-in-Ok-loaded
returns-in-Ok-loaded c = started_ok _ _ _ c.in-Ok.ensures.ok_size c.in-Ok-loaded.ensures

-- if the image cannot be loaded, the result is the error of the image
pub returns-in-Err-loaded : goal.returns-in-Err-loaded
returns-in-Err-loaded c = started_err _ _ c.in-Err-loaded.fault (search rules) c.in-Err-loaded.ensures
