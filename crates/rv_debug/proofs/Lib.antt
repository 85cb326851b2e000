-- Names that the proofs use in addition to those of specs/Prelude, re-exported from one place
pub mod Prelude
-- The members of a set of addresses after an insertion or a removal
mod AddressLaws
-- Sets of addresses as sorted lists
pub mod AddressLemmas
-- The execution of lines, on one bench and on two
pub mod Execution
-- Noninterference of a command
pub mod ExecuteAlike
-- Commands keep two benches related, and their observations are equal
pub mod Declassification
-- An enclave that runs on no hart
pub mod NotRunning
-- A command that steps no hart on which an enclave runs
pub mod LowCommands
-- After an enclave has ended, two related benches are equal in the guest view, and so related for every slot
pub mod Ended
-- The whole reply to a command that does not enter an enclave
mod Observation
-- The observations of a command in two related benches are equal
mod ObservedAlike
-- The observed steps of a run and of a schedule
mod ObservedRuns
-- After moves of two related machines the observed steps of each hart are equal, unless the enclave runs there
mod RelatedMoves
-- Two benches that execute the same commands one after another
pub mod BothAlike
-- Fast steps of a run, within limits that no breakpoint or watchpoint is in
mod FastRuns
-- Fast steps of each machine, stated for a bench's target
mod FastTargets
-- The isolation laws, for an effect, for a command and for a list of commands
pub mod Isolation
-- While an enclave runs on a hart, no command changes the host's saved context
mod Returned
-- Pokes into the region of an enclave
pub mod PokesAlike
-- The lines that show registers: one more line, and their length
mod RegisterLines
-- Examples of replies
mod ReplyExamples
-- Runs of two monitored machines that are equivalent except for an enclave that is not the world of the selected hart
mod StepsAlike
-- The steps of a run, one by one
mod Stepping
-- Steps of a target are those of its machine
mod TargetRuns
-- Steps of named harts in two machines that are equivalent except for an enclave that runs on none of them
mod SchedAlike
-- Two benches stay equivalent except for an enclave after a command that steps no hart on which it runs
mod StateAlike
-- Scheduled steps are those of the target's machine, in the order of the harts
mod ScheduledSteps
-- A hart that a command avoids keeps everything except the PMP entries and mie
mod OtherHarts
-- The loop over a schedule
mod ScheduleLoop
-- A run of the debugger is a schedule with only the selected hart
mod RunSchedules
-- Effects preserve the invariant of a target
pub mod EffectsInvariant
-- The closed instance of the law of declassification, by computing the steps
pub mod SecretRun
-- The closed instance of the law of declassification, for commands
pub mod SecretCommands
-- The closed instance of the law about the whole life of an enclave, by computing the steps
mod HostRun
-- The machine after commands is that after their actions, and every list of events is that of commands
pub mod CommandEvents
-- The steps of an enclave are the same under two lists of commands
pub mod HostInfluence
-- The bytes that S may store, from the law of access control
mod Permissions
