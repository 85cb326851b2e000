-- The numbers of the errors. (This project's own.)
use Rattle.std.specs.Prelude.{ℕ, Result}
use Rattle.rv_streams.specs.declared.fault.BenchFault.{BenchFault}
use Rattle.rv_streams.specs.declared.fault.BenchFault.TheVariants.{Image, Ram, Read, Write, Hex, TooLong, NoMemory, Asm}

-- `bench_fault_number` is a number for each kind of error, by which errors are compared
abbrev pub bench_fault_number : BenchFault → ℕ
bench_fault_number (Image fault) = 1
bench_fault_number (Ram fault) = 2
bench_fault_number Read = 3
bench_fault_number Write = 4
bench_fault_number Hex = 5
bench_fault_number TooLong = 6
bench_fault_number NoMemory = 7
bench_fault_number (Asm fault) = 8

-- `Outcome` is the result of a call that returns no value
abbrev pub Outcome : Type 0
Outcome = Result (Unit {0}) BenchFault
