-- The replies of a pair to the lines of a script
mod PairLemmas
-- Noninterference of scripts
mod NoninterferenceLemmas
-- Declassification over scripts: lines that are alike keep two benches related, and the observed parts of the replies are equal
mod Declassified
-- An example of the law of declassification: an enclave runs on the selected hart
mod DeclassificationExample
-- The second script of a twin run: it ends at the line that enters the slot, or at the end of the input
mod Entering
-- The laws of commands about the host's influence and about events, from any line of a script on
mod HostInfluence
-- Inputs that begin with the same whole lines, including the separator
mod PrefixLines
-- The replies to lines, one after another
mod RepliesLemmas
-- A run over the lines of a script: the responses to the lines so far, to one more line, and to all lines
mod Runs
-- An example of the law of secrets
mod SecretExample
-- A closed instance of the law of declassification, from input to output
mod SecretScript
-- The memory of the closed instance after its image is loaded
mod SecretImage
-- Every part of a script preserves each enclave that it leaves undisturbed, by the law of one command
mod IntegrityLemmas
-- The result of each job, stated by the output of the job for the input
mod JobResults
-- The program wrote its output for its arguments and its input, or a device failed
mod ProgramResults
-- The program over a reader and a writer, by their logs
mod StandardResults
-- The bench that an image starts
mod Starts
-- A run over an input, from its image and its script
mod Streams
-- The loop over the lines of a script, one iteration at a time
mod LoopSteps
-- The program from bytes in memory to bytes in memory
mod MemoryResults
-- Laws of a twin run: two benches with the same script stay equivalent until the slot is entered, and each preserves undisturbed enclaves
mod TwinAlike
-- A twin run over an input, from its image and its two scripts
mod Twins
