-- The bench that an image starts, from the memory and the entry that it specifies, or its error (System V gABI, chapter 5, program loading).
use Rattle.std.specs.Prelude.{◌≡◌, ℕ, Bool, true, false, List, length, replicate, take, Result, Ok, Err, if◌then◌else◌}
use Rattle.std.specs.Str.{bytes_eq}
use Rattle.rv_word.specs.Cases.{result_case}
use Rattle.rv_pmp.specs.declared.mode.Mode.TheVariants.{M}
use Rattle.rv_hart.specs.Hart.{at_reset}
use Rattle.rv_memory.specs.Harts.{number_of_harts}
use Rattle.rv_memory.specs.Memory.{is_ram_size}
use Rattle.rv_memory.specs.declared.ram_fault.RamFault.TheVariants.{BadSize, NoMemory as NoRamMemory}
use Rattle.rv_monitor.specs.MonitoredMachine.{at_start}
use Rattle.rv_debug.specs.BenchState.{BenchState, bare, monitored as monitored_bench}
use Rattle.rv_elf.specs.Fields.{magic}
use Rattle.rv_elf.specs.Loaded.{loaded_memory}
use Rattle.rv_elf.specs.Plans.{LoadPlan, file_plan, raw_plan}
use Rattle.rv_elf.specs.declared.elf_fault.ElfFault.{ElfFault}
use Rattle.rv_command_line.specs.declared.image_kind.ImageKind.{ImageKind}
use Rattle.rv_command_line.specs.declared.image_kind.ImageKind.TheVariants.{Auto, Raw, Elf}
use Rattle.rv_command_line.specs.declared.setup.Setup.{Setup}
use Rattle.rv_streams.specs.declared.fault.BenchFault.{BenchFault}
use Rattle.rv_streams.specs.declared.fault.BenchFault.TheVariants.{Image, Ram}

-- the image is read as an ELF file; if the kind does not decide it, the first four bytes do
abbrev pub is_read_as_elf : ImageKind → List ℕ → Bool
is_read_as_elf Auto image = bytes_eq (take 4 image) magic
is_read_as_elf Raw image = false
is_read_as_elf Elf image = true

-- `planned` is the load plan, or the error of the lowest number
abbrev pub planned : List ℕ → Setup → Result LoadPlan ElfFault
planned image setup =
    if is_read_as_elf setup.kind image then file_plan image setup.ram setup.monitored else raw_plan (length image) setup.ram setup.monitored

-- `memory_loaded` is the loaded memory; every byte that the image does not set is 0
abbrev pub memory_loaded : List ℕ → Setup → LoadPlan → List ℕ
memory_loaded image setup plan = loaded_memory image plan.segments (replicate setup.ram 0)

-- `reset_over` is the bench at reset with a memory: the image on one hart in mode M, or the host on each hart above the monitor, with hart 0
-- selected
abbrev pub reset_over : Setup → List ℕ → ℕ → BenchState
reset_over setup memory entry =
    if setup.monitored then monitored_bench (at_start memory entry (number_of_harts setup.harts))
    else bare (record { hart = at_reset entry M; memory = memory })

-- `bench_of` is the bench at reset, with the image in its RAM, or the error of the image
abbrev pub bench_of : List ℕ → Setup → Result BenchState ElfFault
bench_of image setup = result_case (planned image setup) (λ plan. Ok (reset_over setup (memory_loaded image setup plan) plan.entry)) Err

-- `started` is the bench at reset, or the first error: of the RAM's size, then of the image
unfoldable pub started : List ℕ → Setup → Result BenchState BenchFault
started image setup =
    if is_ram_size setup.ram then result_case (bench_of image setup) Ok (λ fault. Err (Image fault)) else Err (Ram BadSize)

-- the meaning of each result of starting a bench; the size of the RAM is checked before the image
abbrev pub Starts : List ℕ → Setup → Result BenchState BenchFault → Type 0
Starts image setup (Ok bench) = started image setup ≡ Ok bench
Starts image setup (Err (Ram BadSize)) = is_ram_size setup.ram ≡ false
Starts image setup (Err (Ram (NoRamMemory refused))) = (is_ram_size setup.ram ≡ true) × (refused.bytes ≡ setup.ram)
Starts image setup (Err (Image fault)) = started image setup ≡ Err (Image fault)
Starts image setup (Err _) = ⊥
