-- Names of other crates and of Rust types that definitions and proofs here use, re-exported from one place
pub mod Prelude
-- Sets of addresses, for breakpoints and watchpoints: sorted lists of at most 32 addresses
pub mod Addresses
-- The execution of commands: the bench after each command, and the reply
pub mod Execute
-- A monitored machine, and its selected hart, which commands work on
pub mod Selected
-- The state of a bench, which its commands show and change
pub mod BenchState
-- Noninterference of commands: equivalent benches have equal replies until a command enters the enclave
pub mod Noninterference
-- The effects of commands on the target, of five kinds, and the target after each
pub mod Effects
-- The reply lines that show the live enclaves
pub mod EnclaveText
-- Noninterference with declassification for commands
pub mod Declassification
-- Fast steps: steps within free limits, which a run executes without a check of breakpoints and watchpoints
pub mod FastSteps
-- Isolation laws for commands: access control, integrity, and the harts that a command leaves as they are
pub mod Isolation
-- The return to the host: the exit of an enclave restores the host's saved context
pub mod Returns
-- The observation of a command: its reply without the parts that are private to an enclave
pub mod Observed
-- The reply lines of commands: ASCII, ISO/IEC 646, each ended by a line feed
pub mod ReplyText
-- Runs of steps, and what ends them: RISC-V Unprivileged ISA 20191213, section 1.2
pub mod Steps
-- Watchpoint hits: an access to a watched byte stops a run
pub mod Stops
-- The target of commands, and the parts of it that commands use
pub mod Targets
-- Two benches that execute the same commands
pub mod BothBenches
-- Commands as lists of actions on the monitored machine
pub mod CommandEvents
-- The host's influence on an enclave, for commands
pub mod HostInfluence
-- The bytes that S-mode may store, in numbers, computed from the records of the enclaves
pub mod Permissions
-- Scheduled steps: one step of each hart of a list, in order
pub mod ScheduledSteps
-- A closed instance of the law of declassification: one machine with two secrets
pub mod SecretRun
-- A closed instance of the law about the whole life of an enclave: two hosts with different schedules
pub mod HostRun
