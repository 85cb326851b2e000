-- This file proves obligations of `read_words`, which reads the job from the arguments of a command line.
use Rattle.std.proofs.Common.{◌∙◌, ◌∷◌, [], ap, inl, inr, refl, subst, sym}
use Rattle.clap.specs.Kinds.{HasKind, Kinds, or_else}
use Rattle.clap.specs.declared.error.Error.{Error}
use Rattle.clap.specs.Walk.{texts}
use Rattle.rv_command_line.specs.CommandLine.{faults_of}
use Rattle.rv_command_line.specs.Job.{has_its_monitor, job_of, named_job}
use Rattle.rv_command_line.specs.Refusals.{refusals_of}
use Rattle.rv_command_line.proofs.Taken.{answers}
use Rattle.rv_command_line.proofs.reading.read_words.Goals as goal

-- if `clap` accepts the arguments, the result is their job, or a refusal of two harts without the monitor
pub returns-in-Ok-try_get_matches_from : goal.returns-in-Ok-try_get_matches_from
returns-in-Ok-try_get_matches_from c =
    let words = texts c.args.words.now in
    let no_fault = sym (c.in-Ok.ensures.faults words) ∙ c.in-Ok-try_get_matches_from.ensures.kinds c.in-Ok.ensures.free in
    let (rest_of_matches, matched_subcommand_is) = c.in-Ok-try_get_matches_from.ensures.matches c.in-Ok.ensures.simple in
    let subcommand_is = matched_subcommand_is ∙ c.in-Ok.ensures.subcommand words in
    -- the arguments without an error mean this job, or are refused (`answers`)
    rw (c.with_its_monitor.ensures, c.matched_job.ensures ∙ ap named_job subcommand_is) (answers words no_fault (has_its_monitor (job_of words)) refl)

-- an error that is among the first faults is among them and more faults
with_more : (faults more : Kinds) (error : Error) → HasKind faults error → HasKind (or_else faults more) error
with_more [] more error (inl is_first) = inl is_first
with_more [] more error (inr impossible) = absurd impossible
with_more (fault ∷ faults) more error is_among = is_among

-- if `clap` refuses the arguments, the result is a fault that they have (clause `fault`)
pub returns-in-Err-clause-fault : goal.returns-in-Err-clause-fault
returns-in-Err-clause-fault c =
    let words = texts c.args.words.now in
    let is_among = subst (λ faults. HasKind faults c.in-Err.error) (c.in-Ok.ensures.faults words) (c.in-Err.ensures.kinds c.in-Ok.ensures.free) in
    c.fault.ensures (refusals_of words) (with_more (faults_of words) _ c.in-Err.error is_among)
