-- The bench that an image starts: when it starts, which error a start has otherwise, and the invariant of the target at the start.
use Rattle.std.proofs.Common.{◌≡◌, ℕ, Bool, true, false, cond, List, length, replicate, Result, Ok, Err, IfOk, refl, ◌∙◌}
use Rattle.rv_word.specs.Cases.{result_case}
use Rattle.rv_memory.specs.Harts.{number_of_harts}
use Rattle.rv_memory.specs.Memory.{is_ram_size, ram_base}
use Rattle.rv_monitor.proofs.Start.{start_invariant}
use Rattle.rv_debug.specs.BenchState.{BenchState}
use Rattle.rv_debug.specs.Targets.{TargetInvariant}
use Rattle.rv_elf.specs.Loaded.{byte_after, loaded_memory}
use Rattle.std.proofs.lemmas.List.{length-replicate}
use Rattle.std.proofs.lemmas.List.FromFn.{length-map-range_with_len}
use Rattle.rv_elf.specs.Plans.{LoadPlan}
use Rattle.rv_elf.specs.declared.elf_fault.ElfFault.{ElfFault}
use Rattle.rv_command_line.specs.declared.setup.Setup.{Setup}
use Rattle.rv_memory.specs.declared.ram_fault.RamFault.TheVariants.{BadSize}
use Rattle.rv_streams.specs.declared.fault.BenchFault.{BenchFault}
use Rattle.rv_streams.specs.declared.fault.BenchFault.TheVariants.{Image, Ram}
use Rattle.rv_streams.specs.Image.{image_in}
use Rattle.rv_bench.specs.Loaded.{bench_of, memory_loaded, planned, reset_over, started}
use Rattle.rv_bench.specs.Output.{bench_in}

-- if the RAM is loaded by the plan of the image, and pc is the entry of the plan, the bench is the bench of the image
pub bench_of-ok : (image : List ℕ) (setup : Setup) (plan : LoadPlan) (zeros memory : List ℕ) (entry : ℕ) (bench : BenchState)
    → planned image setup ≡ Ok plan → zeros ≡ replicate setup.ram 0
    → memory ≡ loaded_memory image plan.segments zeros → entry ≡ plan.entry
    → bench ≡ reset_over setup memory entry → Ok bench ≡ bench_of image setup
bench_of-ok image setup plan zeros memory entry bench plan_is zeros_are memory_is entry_is bench_is =
    rw (plan_is, bench_is, entry_is, memory_is, zeros_are) refl

-- an image that cannot be loaded has its error as the result
pub bench_of-err : (image : List ℕ) (setup : Setup) (fault : ElfFault) → planned image setup ≡ Err fault → Err fault ≡ bench_of image setup
bench_of-err image setup fault plan_is_fault = rw plan_is_fault refl

-- if the RAM has a permitted size, the bench of the image starts
pub started_ok : (image : List ℕ) (setup : Setup) (bench : BenchState) → is_ram_size setup.ram ≡ true → Ok bench ≡ bench_of image setup
    → started image setup ≡ Ok bench
unfolding started
started_ok image setup bench valid_size bench_is = rw (valid_size, ← bench_is) refl

-- an image with an error starts no bench, and the result is the error
pub started_err : (image : List ℕ) (setup : Setup) (fault : ElfFault) → is_ram_size setup.ram ≡ true → Err fault ≡ bench_of image setup
    → started image setup ≡ Err (Image fault)
unfolding started
started_err image setup fault valid_size bench_is = rw (valid_size, ← bench_is) refl

-- a RAM of an invalid size is an error
pub no_ram : (image : List ℕ) (setup : Setup) → is_ram_size setup.ram ≡ false → started image setup ≡ Err (Ram BadSize)
unfolding started
no_ram image setup bad_size = rw bad_size refl

-- if a bench starts, the RAM has a permitted size
pub has_ram : (image : List ℕ) (setup : Setup) (bench : BenchState) → started image setup ≡ Ok bench → is_ram_size setup.ram ≡ true
unfolding started
has_ram image setup bench started_is = by_size (is_ram_size setup.ram) started_is where
  -- the same claim by cases on `valid`, which states whether the RAM has a permitted size
  by_size : (valid : Bool)
      → cond valid (result_case (bench_of image setup) Ok (λ fault. Err (Image fault))) (Err (Ram BadSize)) ≡ Ok bench → valid ≡ true
  by_size true is_result = refl
  by_size false is_result = cc

-- an error of the image is reported only if the RAM has a permitted size
pub fault_has_ram : (image : List ℕ) (setup : Setup) (fault : ElfFault) → started image setup ≡ Err (Image fault) → is_ram_size setup.ram ≡ true
unfolding started
fault_has_ram image setup fault started_is = by_size (is_ram_size setup.ram) started_is where
  -- the same claim by cases on `valid`, which states whether the RAM has a permitted size
  by_size : (valid : Bool)
      → cond valid (result_case (bench_of image setup) Ok (λ fault. Err (Image fault))) (Err (Ram BadSize)) ≡ Err (Image fault) → valid ≡ true
  by_size true is_result = refl
  by_size false is_result = cc

-- loading an image does not change the size of the RAM
loaded_size : (image : List ℕ) (setup : Setup) (plan : LoadPlan) → length (memory_loaded image setup plan) ≡ setup.ram
unfolding loaded_memory
loaded_size image setup plan =
    let zeros = replicate setup.ram 0 in
    length-map-range_with_len (byte_after image plan.segments zeros) ram_base (length zeros) ∙ length-replicate setup.ram 0

-- a bench at reset has the invariant of the target
reset_invariant : (setup : Setup) (memory : List ℕ) (entry : ℕ) → is_ram_size (length memory) ≡ true
    → TargetInvariant (reset_over setup memory entry).target
reset_invariant setup memory entry valid_size = by_monitor setup.monitored where
  -- a bench at reset satisfies the invariant, whether or not it is monitored
  by_monitor : (monitored : Bool) → TargetInvariant (reset_over (record setup { monitored = monitored }) memory entry).target
  by_monitor false = tt
  by_monitor true = start_invariant memory entry (number_of_harts setup.harts) valid_size

-- the result of a start is an error, or a bench with the invariant of the target
abbrev pub StartInvariant : Result BenchState BenchFault → Type 0
StartInvariant start = IfOk start (λ bench. TargetInvariant bench.target)

-- each bench that starts has the invariant of the target
pub started_invariant : (image : List ℕ) (setup : Setup) → StartInvariant (started image setup)
unfolding started
started_invariant image setup = by_plan (is_ram_size setup.ram) refl (planned image setup) where
  -- the same claim by cases: `valid` states whether the RAM has a permitted size, and `plan` is the plan of the image or its error
  by_plan : (valid : Bool) → is_ram_size setup.ram ≡ valid → (plan : Result LoadPlan ElfFault) → StartInvariant
      (cond valid (result_case (result_case plan (λ plan. Ok (reset_over setup (memory_loaded image setup plan) plan.entry)) Err) Ok
      (λ fault. Err (Image fault))) (Err (Ram BadSize)))
  by_plan false bad_size plan = tt
  by_plan true valid_size (Err fault) = tt
  by_plan true valid_size (Ok plan) =
      reset_invariant setup (memory_loaded image setup plan) plan.entry (rw (loaded_size image setup plan) valid_size)

-- a property P that follows from the invariant holds of each bench that starts
pub of_started : (P : BenchState → Type 0) → ((bench : BenchState) → TargetInvariant bench.target → P bench)
    → (image : List ℕ) (setup : Setup) → IfOk (started image setup) P
of_started P holds image setup = by_start (started image setup) (started_invariant image setup) where
  -- the same claim for the result of a start, which is a bench or an error; it claims nothing about an error
  by_start : (start : Result BenchState BenchFault) → StartInvariant start → IfOk start P
  by_start (Ok bench) invariant = holds bench invariant
  by_start (Err fault) invariant = tt

-- a property P that follows from the invariant holds of each bench that an input starts
pub of_bench_in : (P : BenchState → Type 0) → ((bench : BenchState) → TargetInvariant bench.target → P bench)
    → (setup : Setup) (input : List ℕ) → IfOk (bench_in setup input) P
of_bench_in P holds setup input = by_image (image_in input) where
  -- the same claim for the image of the input, which is bytes or an error; it claims nothing about an error
  by_image : (image : Result (List ℕ) BenchFault) → IfOk (result_case image (λ bytes. started bytes setup) Err) P
  by_image (Ok bytes) = of_started P holds bytes setup
  by_image (Err fault) = tt

-- each bench that an input starts has the invariant of the target
pub bench_in_invariant : (setup : Setup) (input : List ℕ) → StartInvariant (bench_in setup input)
bench_in_invariant = of_bench_in (λ bench. TargetInvariant bench.target) (λ bench invariant. invariant)
