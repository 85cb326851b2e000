-- This file proves obligations of `run_program`, which runs the program for these arguments and this input.
use Rattle.std.proofs.Common.{◌≡◌, ◌<◌, ℕ, nat_lt, Bool, false, inl, inr, refl, arith}
use Rattle.std.proofs.lemmas.Bool.Decides.{nat_tests}
use Rattle.rv_bench.proofs.MemoryResults.{runs_in_memory}
use Rattle.rv_bench.proofs.in_memory.run_program.Goals as goal

-- a count that is not above 0, by a test, has not risen
not_counted : (old new : ℕ) (has_failed : Bool) → has_failed ≡ nat_lt 0 new → has_failed ≡ false → old < new → ⊥
not_counted old new has_failed has_failed_is none_failed risen = grind (arith, nat_tests)

-- a count that is 0 has not risen
not_risen : (old new : ℕ) → new ≡ 0 → old < new → ⊥
not_risen old new new_is_0 risen = omega (arith, new_is_0, risen)

-- The bytes that the sink in memory has taken are the output of the program. The source in memory never fails, and the log of the sink counts each
-- failure.
pub returns : goal.returns
returns c =
    let sink = c.perform-status.new.sink in
    let log = c.new-sink.result.log in
    rw c.into_bytes.ensures (runs_in_memory _ _ c.new.result c.perform-status.result.0 c.new-sink.result sink _ c.args.input.now
    c.perform-status.result.1 tt c.new.ensures.bytes (λ risen. not_risen 0 0 refl risen)
    (λ sink_failed. elim sink_failed [
      | inl risen ↦ not_counted log.failures sink.log.failures c.has_failed.result c.has_failed.ensures c.if-has_failed.false risen
      | inr risen ↦ not_risen log.empty_calls sink.log.empty_calls sink.takes_all risen
    ])
    c.new-sink.ensures.bytes c.perform-status.ensures.output)
