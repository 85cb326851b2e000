-- A closed instance of the law about the whole life of an enclave. The hosts of two machines differ in a byte of the window, in the number of harts,
-- and in the hart that runs the enclave. Only one of them interrupts the enclave, and resumes it. (An instance of this project's own law.)
use Rattle.std.specs.Prelude.{ℕ, ◌≡◌, true, false, List, [], ◌∷◌, ◌++◌, replicate, slice_index}
use Rattle.rv_monitor.specs.Debugger.{with_memory}
use Rattle.rv_monitor.specs.Events.{LineOf, StepOf}
use Rattle.rv_monitor.specs.Life.{AreLifeMoves, InFirst, InSecond, LifeMove, LiveAlike, Own, one_end, other_end}
use Rattle.rv_monitor.specs.MonitoredMachine.{MonitoredMachine, at_start, hart_state_of, with_hart_state}
use Rattle.rv_monitor.specs.Step.{step_of}
use Rattle.rv_debug.specs.SecretRun.{calling_host}

-- the code of the enclave is lw a0, 0(a2); sw a0, 8(a2)
abbrev pub hosted_enclave : List ℕ
hosted_enclave = 0x03 ∷ 0x25 ∷ 0x06 ∷ 0 ∷ 0x23 ∷ 0x24 ∷ 0xA6 ∷ 0 ∷ []

-- `before_byte` has the host's code at 80010000, and the window at 80014000, whose first word is 7
abbrev pub before_byte : List ℕ
before_byte = replicate 65536 0 ++ (calling_host ++ (replicate 16360 0 ++ (7 ∷ replicate 15 0)))

-- `after_byte` has the bytes of RAM after the byte of the host, including the region at 80018000
abbrev pub after_byte : List ℕ
after_byte = replicate 16367 0 ++ (hosted_enclave ++ replicate 32760 0)

-- `hosted_ram` is the RAM with a byte of the host's choice at 80014010, in the window
abbrev pub hosted_ram : ℕ → List ℕ
hosted_ram byte = before_byte ++ (byte ∷ after_byte)

-- `hosted_asking` has the registers for a call of create: the page at 80018000, with the window at 80014000
abbrev pub hosted_asking : List ℕ
hosted_asking =
    0 ∷ 0 ∷ 0 ∷ 0 ∷ 0 ∷ 0 ∷ 0 ∷ 0 ∷ 0 ∷ 0 ∷ 0x80018000 ∷ 0x1000 ∷ 0x80014000 ∷ 0x1000 ∷ 0x80018000 ∷ 0 ∷ 1 ∷ 0x0A454E43 ∷ replicate 14 0

-- `hosted_reset` is the machine at reset, with 0 as the byte in the window
abbrev pub hosted_reset : ℕ → MonitoredMachine
hosted_reset harts = at_start (hosted_ram 0) 0x80010000 harts

-- `hosted_start` is the machine whose calling hart has the arguments of create
abbrev pub hosted_start : ℕ → ℕ → MonitoredMachine
hosted_start harts hart =
    let hart_state = hart_state_of hart (hosted_reset harts) in
    with_hart_state hart
    (record hart_state { hart = record hart_state.hart { regs = hosted_asking; csrs = record hart_state.hart.csrs { timer = false } } })
    (hosted_reset harts)

-- `hosted_next` is the machine after one step of the hart
abbrev pub hosted_next : ℕ → MonitoredMachine → MonitoredMachine
hosted_next hart machine = (step_of hart machine).state

-- `hosted_new` is a machine with this number of harts after create on a hart, with the byte in the window
abbrev pub hosted_new : ℕ → ℕ → ℕ → MonitoredMachine
hosted_new harts hart byte = with_memory (hosted_next hart (hosted_start harts hart)) (hosted_ram byte)

-- The first machine has one hart. Its host runs the enclave, interrupts it after the load, and resumes it. The second has two. Its hart 1 runs the
-- enclave, and hart 0 makes a call that is refused.
abbrev pub first_machine : ℕ → MonitoredMachine
first_machine byte = hosted_new 1 0 byte

-- the second machine of the example: two harts, and the enclave is created on hart 1
abbrev pub second_machine : ℕ → MonitoredMachine
second_machine byte = hosted_new 2 1 byte

-- the moves of the example: the enclave's load and store are steps of both machines, all other events are of one machine
abbrev pub hosted_moves : List LifeMove
hosted_moves =
    InFirst (StepOf 0) ∷ InFirst (StepOf 0) ∷ InSecond (StepOf 1) ∷ InSecond (StepOf 1) ∷ Own 0 1 ∷ InFirst (LineOf 0 true) ∷ InFirst (StepOf 0)
    ∷ InFirst (StepOf 0) ∷ InFirst (StepOf 0) ∷ InFirst (StepOf 0) ∷ InSecond (StepOf 0) ∷ Own 0 1 ∷ []

-- For any two bytes of the hosts' choice, the moves of the example are permitted, and the steps of the enclave are equal. In both machines the
-- enclave stores 7, which it loaded, at 80014008.
pub record RunsUnderBoth (choice other_choice : ℕ) : Type 0 where
  pub moves_permitted : AreLifeMoves 0 0 hosted_moves (first_machine choice) (second_machine other_choice)
  pub steps_equal : LiveAlike 0 0 hosted_moves (first_machine choice) (second_machine other_choice)
  pub stored : slice_index (one_end hosted_moves (first_machine choice)).shared.memory 0x14008 ≡ 7
  pub stored_too : slice_index (other_end hosted_moves (second_machine other_choice)).shared.memory 0x14008 ≡ 7

-- for all bytes of the two hosts' choice, the example is one life of the enclave
abbrev pub HostRunLaw : Type 0
HostRunLaw = (choice other_choice : ℕ) → RunsUnderBoth choice other_choice
