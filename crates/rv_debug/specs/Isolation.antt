-- Isolation laws for commands: access control as the replies of `access` report it, and integrity for a command and for a list of commands.
-- (This project's own debugger and monitor.)
use Rattle.std.specs.List.{list_all}
use Rattle.std.specs.Prelude.{ℕ, ◌≡◌, ◌≢◌, ◌<◌, ◌⊎◌, ◌==◌, true, false, not, List, [], ◌∷◌, None, IfSome, IsSomeAnd, MatchOption}
use Rattle.rv_pmp.specs.Verdicts.{bytes_from, permits}
use Rattle.rv_pmp.specs.declared.access.Access.{Access as AccessKind}
use Rattle.rv_memory.specs.Accesses.{verdict_on}
use Rattle.rv_enclaves.specs.AccessibleMemory.{is_accessible}
use Rattle.rv_debug.specs.Prelude.{Access, Command, IsChangedInOrder, IsUndisturbed, IsPreserved, M, MonitoredMachine, Mode, Monitored}
use Rattle.rv_debug.specs.Prelude.{HartView, RunsOnNone, Target, Width, byte_at, bytes_in, has, is_inside, is_live, region, runs_on}
use Rattle.rv_debug.specs.Prelude.{hart_state_of, reprogrammed, hart_view}
use Rattle.rv_debug.specs.Execute.{access_reply, execute}
use Rattle.rv_debug.specs.BenchState.{BenchState}
use Rattle.rv_debug.specs.Effects.{Effect, Steps, Register, TimerLine, OneByte, effect, harts_stepped}
use Rattle.rv_debug.specs.ReplyText.{verdict_text}
use Rattle.rv_debug.specs.Targets.{TargetInvariant, selected_of, harts_of, machine_in, memory_of}

-- ---- access control

-- `access` replies with a verdict that permits exactly the accesses that are accessible to the world that runs
pub record ReportsVerdict (machine : HartView) (mode : Mode) (access : AccessKind) (address : ℕ) (width : Width) : Type 0 where
  pub reply_is_verdict : access_reply machine.shared.memory machine.hart_state.hart.csrs.pmp mode access address width
      ≡ verdict_text (verdict_on machine.hart_state.hart.csrs.pmp mode access address width)
  pub exact : permits (verdict_on machine.hart_state.hart.csrs.pmp mode access address width)
      ≡ is_accessible machine.shared.memory machine.shared.table machine.hart_state.world access (bytes_from address (bytes_in width))

-- the command `access`, for a mode S or U and for bytes in RAM, reports the verdict; other commands and bare targets have no condition
abbrev pub ReportsAccess : Target → Command → Type 0
ReportsAccess (Monitored selected) (Access mode access address width) =
    mode ≢ M → is_inside selected.state.shared.memory address (bytes_in width) ≡ true
    → ReportsVerdict (hart_view selected.hart selected.state) mode access address width
ReportsAccess _ _ = Unit {0}

-- ---- integrity

-- The enclave in `slot` is undisturbed by an effect on a machine: it is live, the steps leave it undisturbed, and the effect pokes no byte of its
-- region. The enclave may run on a hart that does not step.
abbrev pub UndisturbedByEffect : ℕ → MonitoredMachine → Effect → Type 0
UndisturbedByEffect slot machine (Steps harts selected) = IsUndisturbed slot harts machine
UndisturbedByEffect slot machine (OneByte address byte) =
    (is_live machine.shared.table slot ≡ true) × (has (region machine.shared.table slot) address ≡ false)
UndisturbedByEffect slot machine _ = is_live machine.shared.table slot ≡ true

-- the enclave in `slot` is undisturbed by the effect of a command on a monitored bench
abbrev pub UndisturbedBy : ℕ → BenchState → Command → Type 0
UndisturbedBy slot bench command = IsSomeAnd (machine_in bench.target) (λ machine. UndisturbedByEffect slot machine (effect bench command))

-- both targets are monitored, and the record, the bytes of the region and the saved context of `slot` are as before
abbrev pub IsPreservedIn : ℕ → Target → Target → Type 0
IsPreservedIn slot before after = IsSomeAnd (machine_in before)
    (λ one. IsSomeAnd (machine_in after) (λ other. IsPreserved slot one.shared other.shared))

-- the effect pokes no byte of the region of `slot`
abbrev pub PokesNone : ℕ → MonitoredMachine → Effect → Type 0
PokesNone slot machine (OneByte address byte) = has (region machine.shared.table slot) address ≡ false
PokesNone slot machine _ = Unit {0}

-- an enclave that runs on a hart is undisturbed by every command that does not step that hart and pokes no byte of its region
abbrev pub RunningLaw : Type 0
RunningLaw =
    (slot own_hart : ℕ) (bench : BenchState) (command : Command) → TargetInvariant bench.target
    → IfSome (machine_in bench.target) (λ machine.
    let change = effect bench command in
    runs_on slot own_hart machine ≡ true → RunsOnNone slot (harts_stepped change) machine → PokesNone slot machine change
    → UndisturbedByEffect slot machine change)

-- a command preserves each enclave that it leaves undisturbed
abbrev pub PreservesUndisturbed : BenchState → Command → BenchState → Type 0
PreservesUndisturbed before command after = (slot : ℕ) → UndisturbedBy slot before command → IsPreservedIn slot before.target after.target

-- an effect may change a byte if one of its steps changes the byte, or if the effect pokes the byte
abbrev pub MayChange : MonitoredMachine → Effect → ℕ → Type 0
MayChange machine (Steps harts selected) byte = IsChangedInOrder harts machine byte
MayChange machine (OneByte address value) byte = byte ≡ address
MayChange machine _ byte = ⊥

-- each byte of a monitored machine is as before, or the effect may change it
abbrev pub ChangesMemory : BenchState → Command → BenchState → Type 0
ChangesMemory before command after =
    (byte : ℕ) → IfSome (machine_in before.target) (λ machine.
    byte_at (memory_of after.target) byte ≡ byte_at machine.shared.memory byte ⊎ MayChange machine (effect before command) byte)

-- ---- the other harts

-- the effect avoids the hart: it makes no step of the hart, and sets neither its registers nor its timer line
abbrev pub LeavesHart : ℕ → Target → Effect → Type 0
LeavesHart hart target (Steps harts selected) = list_all (λ stepped. not (stepped == hart)) harts ≡ true
LeavesHart hart target (Register number value) = hart ≢ selected_of target
LeavesHart hart target (TimerLine raised) = hart ≢ selected_of target
LeavesHart hart target _ = Unit {0}

-- the hart keeps its world, registers, pc and mode, and everything else except the PMP entries and mie, which are those of the table and its world
abbrev pub KeepsHart : ℕ → Target → Target → Type 0
KeepsHart hart before after =
    MatchOption (machine_in before) (machine_in after ≡ None)
    (λ one. IsSomeAnd (machine_in after) (λ other. hart_state_of hart other ≡ reprogrammed other.shared.table (hart_state_of hart one)))

-- a command leaves each hart that its effect avoids as it was, apart from PMP entries and mie
abbrev pub PreservesHarts : BenchState → Command → BenchState → Type 0
PreservesHarts before command after =
    (hart : ℕ) → hart < harts_of before.target → LeavesHart hart before.target (effect before command) → KeepsHart hart before.target after.target

-- ---- lists of commands

-- the enclave in `slot` is undisturbed by each command of a list, in turn, and is live before and after them
abbrev pub UndisturbedByAll : ℕ → BenchState → List Command → Type 0
UndisturbedByAll slot bench [] = IsSomeAnd (machine_in bench.target) (λ machine. is_live machine.shared.table slot ≡ true)
UndisturbedByAll slot bench (command ∷ commands) =
    UndisturbedBy slot bench command × UndisturbedByAll slot (execute bench command).state commands

-- `after_commands` is the bench after the commands
abbrev pub after_commands : BenchState → List Command → BenchState
after_commands bench [] = bench
after_commands bench (command ∷ commands) = after_commands (execute bench command).state commands

-- every list of commands preserves each enclave that it leaves undisturbed
abbrev pub IntegrityLaw : Type 0
IntegrityLaw =
    (slot : ℕ) (bench : BenchState) (commands : List Command) → TargetInvariant bench.target → UndisturbedByAll slot bench commands
    → IsPreservedIn slot bench.target (after_commands bench commands).target
