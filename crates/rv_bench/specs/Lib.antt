-- The responses to the lines of a script, as far as it is read
pub mod Responses
-- The replies of a pair, line by line
pub mod Pair
-- Noninterference over scripts: the replies to lines that avoid an enclave do not depend on it
pub mod Noninterference
-- Noninterference with declassification over scripts
pub mod Declassification
-- The line that the program writes for an error of a job
pub mod FaultText
-- The host's influence on an enclave
pub mod HostInfluence
-- The result of a job from bytes in memory to bytes in memory
pub mod InMemory
-- Integrity over scripts: every part of a script preserves each enclave that it leaves undisturbed
pub mod Integrity
-- Jobs: the effect of each job is that of its call
pub mod Jobs
-- The bench that an image starts, from the memory and the entry that it specifies, or its error
pub mod Loaded
-- The output of the bench for an input: an image, the line `--`, and a script
pub mod Output
-- The program: what it does with its arguments and its streams, and its exit status
pub mod Performing
-- The output of a job for an input
pub mod ProgramOutput
-- The replies to the lines of a script, one after another
pub mod Replies
-- A run over the lines of a script, result by result
pub mod Run
-- A closed instance of the law of declassification from input to output
pub mod SecretScript
-- The program over a reader and a writer, such as the standard streams
pub mod Standard
-- A run over an input, result by result: an image, the line `--`, and a script
pub mod Stream
-- A twin run over an input, result by result
pub mod Twin
-- Laws of a twin run
pub mod TwinLaws
