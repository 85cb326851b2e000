-- The remaining bytes of a source in memory, and the bytes taken by a sink in memory. (This project's own streams.)
use Rattle.std.specs.Prelude.{ℕ, ◌-◌, List, length, take}
use Rattle.rv_streams.specs.declared.memory.MemorySource.{MemorySource}
use Rattle.rv_streams.specs.declared.memory.MemorySink.{MemorySink}

-- `rest_in_memory` has the bytes that are not yet read
abbrev pub rest_in_memory : MemorySource → List ℕ
rest_in_memory source = source.rest.now

-- `bytes_taken` has the bytes that were taken: a prefix of the buffer
abbrev pub bytes_taken : MemorySink → List ℕ
bytes_taken sink = take sink.taken_len sink.buffer.now

-- `room_of` is the number of further bytes that fit
abbrev pub room_of : MemorySink → ℕ
room_of sink = length sink.buffer.now - sink.taken_len
