-- A closed instance of the law of declassification. The host of a machine at reset creates an enclave, and two secrets are put into its region. It
-- runs and loads its secret to a0. The timer interrupts it there, and the host resumes it. The same run is also one of commands. (An instance of this
-- project's own law; declassification: Sabelfeld and Sands, JCS 2009.)
use Rattle.std.specs.Prelude.{ℕ, ◌≡◌, true, false, List, [], ◌∷◌, ◌++◌, replicate, slice_index}
use Rattle.rv_monitor.specs.Debugger.{with_memory, with_timer}
use Rattle.rv_monitor.specs.Declassification.{AreMoves, Both, First, Move, MovedAlike, Second}
use Rattle.rv_monitor.specs.Events.{LineOf, StepOf}
use Rattle.rv_monitor.specs.MonitoredMachine.{MonitoredMachine, at_start, hart_state_of, with_hart_state}
use Rattle.rv_monitor.specs.Step.{step_of}
use Rattle.rv_debug.specs.Prelude.{Command, Poke, Regs, Step, Timer}
use Rattle.rv_debug.specs.BenchState.{BenchState, monitored}
use Rattle.rv_debug.specs.Declassification.{AllCommandsAlike, AllObservedAlike}

-- ecall (create); addi a6, zero, 3; ecall (run); addi a0, zero, 0; addi a6, zero, 4; ecall (resume)
abbrev pub calling_host : List ℕ
calling_host =
    0x73 ∷ 0 ∷ 0 ∷ 0 ∷ 0x13 ∷ 0x08 ∷ 0x30 ∷ 0 ∷ 0x73 ∷ 0 ∷ 0 ∷ 0
    ∷ 0x13 ∷ 0x05 ∷ 0 ∷ 0 ∷ 0x13 ∷ 0x08 ∷ 0x40 ∷ 0 ∷ 0x73 ∷ 0 ∷ 0 ∷ 0 ∷ []

-- the code of the enclave is lw a0, 256(a0); addi a0, zero, 0
abbrev pub secret_enclave : List ℕ
secret_enclave = 0x03 ∷ 0x25 ∷ 0x05 ∷ 0x10 ∷ 0x13 ∷ 0x05 ∷ 0 ∷ 0 ∷ []

-- `before_secret` has the bytes of RAM before the secret. These are the 65536 bytes of the monitor's range, and the host's code at 80010000 with
-- zeros up to 80018000. The enclave's code follows there, with zeros up to its data.
abbrev pub before_secret : List ℕ
before_secret = replicate 65536 0 ++ (calling_host ++ (replicate 32744 0 ++ (secret_enclave ++ replicate 248 0)))

-- `secret_ram` is the RAM with the secret at 80018100, in the region
abbrev pub secret_ram : ℕ → List ℕ
secret_ram secret = before_secret ++ (secret ∷ replicate 32511 0)

-- `secret_asking` has the registers for a call of create: the page at 80018000, without a window
abbrev pub secret_asking : List ℕ
secret_asking = 0 ∷ 0 ∷ 0 ∷ 0 ∷ 0 ∷ 0 ∷ 0 ∷ 0 ∷ 0 ∷ 0 ∷ 0x80018000 ∷ 0x1000 ∷ 0 ∷ 0 ∷ 0x80018000 ∷ 0 ∷ 1 ∷ 0x0A454E43 ∷ replicate 14 0

-- `secret_reset` is the machine at reset, with 0 as the secret
abbrev pub secret_reset : MonitoredMachine
secret_reset = at_start (secret_ram 0) 0x80010000 1

-- `secret_start` is the machine whose host has the arguments of create in its registers, and whose timer line is clear
abbrev pub secret_start : MonitoredMachine
secret_start =
    let hart_state = hart_state_of 0 secret_reset in
    with_hart_state 0
    (record hart_state { hart = record hart_state.hart { regs = secret_asking; csrs = record hart_state.hart.csrs { timer = false } } })
    secret_reset

-- `secret_next` is the machine after one step of hart 0
abbrev pub secret_next : MonitoredMachine → MonitoredMachine
secret_next machine = (step_of 0 machine).state

-- `secret_new` is the machine after create, with a secret in the region
abbrev pub secret_new : ℕ → MonitoredMachine
secret_new secret = with_memory (secret_next secret_start) (secret_ram secret)

-- `secret_entered` is the machine after the host's two steps to run
abbrev pub secret_entered : ℕ → MonitoredMachine
secret_entered secret = secret_next (secret_next (secret_new secret))

-- `secret_raised` is the machine one step of the enclave later, which loads the secret, with the timer line set
abbrev pub secret_raised : ℕ → MonitoredMachine
secret_raised secret = with_timer 0 (secret_next (secret_entered secret)) true

-- `secret_interrupted` is the machine after the timer interrupt
abbrev pub secret_interrupted : ℕ → MonitoredMachine
secret_interrupted secret = secret_next (secret_raised secret)

-- `secret_resumed` is the machine after two more steps of the host and its call resume
abbrev pub secret_resumed : ℕ → MonitoredMachine
secret_resumed secret = secret_next (secret_next (secret_next (secret_interrupted secret)))

-- ---- the instance

-- `secret_moves` has the moves of the example; before and after the interrupt the enclave takes one step in each machine
abbrev pub secret_moves : List Move
secret_moves =
    Both (StepOf 0) ∷ Both (StepOf 0) ∷ First 0 ∷ Second 0 ∷ Both (LineOf 0 true) ∷ Both (StepOf 0) ∷ Both (StepOf 0) ∷ Both (StepOf 0)
    ∷ Both (StepOf 0)
    ∷ First 0 ∷ Second 0 ∷ []

-- for two secrets, the moves of the example are permitted, and every low step has equal outcomes
pub record IsConcealed (secret other_secret : ℕ) : Type 0 where
  pub moves_permitted : AreMoves 0 secret_moves (secret_new secret) (secret_new other_secret)
  pub outcomes_equal : MovedAlike 0 secret_moves (secret_new secret) (secret_new other_secret)

-- ---- the same by commands

-- `secret_bench` is the bench over the monitored machine of the example
abbrev pub secret_bench : BenchState
secret_bench = monitored secret_start

-- the commands of the example: create; the poke of the secret; run; the load to a0; the interrupt; the registers of the host; resume, and one step
abbrev pub secret_commands : ℕ → List Command
secret_commands secret =
    Step 1 ∷ Poke 0x80018100 secret ∷ Step 2 ∷ Step 1 ∷ Timer true ∷ Step 1 ∷ Regs ∷ Step 3 ∷ Step 1 ∷ []

-- for two secrets, the commands satisfy the premise of the law, and what others observe of the replies is equal
pub record AreConcealed (secret other_secret : ℕ) : Type 0 where
  pub commands_alike : AllCommandsAlike 0 secret_bench secret_bench (secret_commands secret) (secret_commands other_secret)
  pub observations_equal : AllObservedAlike 0 secret_bench secret_bench (secret_commands secret) (secret_commands other_secret)

-- steps and commands conceal any two secrets, although the secret is in a0 when the timer interrupts the enclave (`in_a0`, for the secret 41)
pub record SecretRunLaw : Type 0 where
  pub concealed : (secret other_secret : ℕ) → IsConcealed secret other_secret
  pub commands : (secret other_secret : ℕ) → AreConcealed secret other_secret
  pub in_a0 : slice_index (hart_state_of 0 (secret_raised 0x41)).hart.regs 10 ≡ 0x41
