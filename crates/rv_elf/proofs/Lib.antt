-- An example: the plan of a file with one segment
mod FileExample
-- The first error of a table whose condition holds is the error with the smallest number
mod FirstFaults
-- The loop that loads the segments of a plan, one after the other
mod LoadLoop
-- The memory after segments are loaded, byte by byte
mod LoadedBytes
-- A segment is loaded by two writes: zeros, and then its part of the image
mod WrittenSegments
-- A plan without an error is valid, and the error of a refused file is the first in the table
mod PlanLemmas
-- A segment that does not meet the range that the monitor reserves for itself has no byte in it
mod ReservedBytes
-- The segments of a file, read from one program header after the other
mod SegmentLemmas
-- Two segments share a byte if and only if the larger of their first addresses is below the smaller of their ends
mod SharedBytes
