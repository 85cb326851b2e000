-- This file states the loop invariants of `run_lines`, which responds to the lines of a script, and writes each response.
use Rattle.std.proofs.Common.{◌≡◌}
use Rattle.rv_streams.specs.Unread.{calls_left}
use Rattle.rv_bench.proofs.LoopSteps.{SoFar}
use Rattle.rv_bench.proofs.run.run_lines.Given as goal

-- the responder specifies the same responses as at the start, and the lines so far have their responses
abbrev pub invariant-loop-told : goal.invariant-loop-told
invariant-loop-told g l = record {
  same_responder : g.T.Responder.responding l.responding ≡ g.T.Responder.responding l.initial.responding;
  so_far : SoFar g.W.Sink (g.T.Responder.responding l.initial.responding) l.end
      (g.T.Responder.state l.initial.responding) l.initial.lines l.initial.sink (g.T.Responder.state l.responding) l.lines l.sink;
}

-- the loop ends, since the number of calls that the source can still answer decreases
abbrev pub decreases-loop-told : goal.decreases-loop-told
decreases-loop-told g l = calls_left l.lines
