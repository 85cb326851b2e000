-- The monitor's calls: their numbers, the world that each belongs to, the states that each accepts, and the statuses of refusals, in the order
-- of the checks. (Keystone, EuroSys 2020, in this project's profile.)
use Rattle.std.specs.Prelude.{ℕ, ◌==◌, Bool, true, false, ◌&&◌, List, [], ◌∷◌, Option, None, if◌then◌else◌}
use Rattle.std.specs.List.{find}
use Rattle.rv_state.specs.Registers.{register}
use Rattle.rv_enclaves.specs.declared.call.Call.{Call}
use Rattle.rv_enclaves.specs.declared.call.Call.TheVariants.{Create, Destroy, Run, Resume, Measure, Stop, Exit}
use Rattle.rv_enclaves.specs.declared.refusal.Refusal.{Refusal}
use Rattle.rv_enclaves.specs.declared.refusal.Refusal.TheVariants.{NotSupported, BadRegion, BadWindow, Overlap, BadEntry, NoSlot, NoEnclave, BadState}
use Rattle.rv_enclaves.specs.declared.refusal.Refusal.TheVariants.{BadAddress}
use Rattle.rv_enclaves.specs.declared.slot_info.EnclaveState.{EnclaveState}
use Rattle.rv_enclaves.specs.declared.slot_info.EnclaveState.TheVariants.{Fresh, Running, Stopped, Exited}
use Rattle.rv_enclaves.specs.declared.world.World.{World}
use Rattle.rv_enclaves.specs.declared.world.World.TheVariants.{Host, Enclave}

-- the key that a7 must have for a call
abbrev pub call_key : ℕ
call_key = 0x0A454E43

-- the number of a call, which a6 has
abbrev pub call_number : Call → ℕ
call_number Create = 1
call_number Destroy = 2
call_number Run = 3
call_number Resume = 4
call_number Measure = 5
call_number Stop = 6
call_number Exit = 7

-- the seven calls, in the order of their numbers 1 to 7
abbrev pub calls : List Call
calls = Create ∷ Destroy ∷ Run ∷ Resume ∷ Measure ∷ Stop ∷ Exit ∷ []

-- whether the monitor offers a call to a world
abbrev pub is_offered : World → Call → Bool
is_offered Host Stop = false
is_offered Host Exit = false
is_offered Host _ = true
is_offered (Enclave slot) Measure = true
is_offered (Enclave slot) Stop = true
is_offered (Enclave slot) Exit = true
is_offered (Enclave slot) _ = false

-- the call that a world requests with the key in a7 and the number of the call in a6; none if the monitor does not offer it to the world
unfoldable pub call_requested : World → ℕ → ℕ → Option Call
call_requested world a7 a6 =
    if a7 == call_key then find (λ call. call_number call == a6 && is_offered world call) calls else None

-- the call that the registers of a world request
abbrev pub requested_call : World → List ℕ → Option Call
requested_call world regs = call_requested world (register regs 17) (register regs 16)

-- Whether a call accepts an enclave in a state. No call accepts an enclave that runs.
abbrev pub takes : Call → EnclaveState → Bool
takes _ Running = false
takes Destroy Fresh = true
takes Destroy Stopped = true
takes Destroy Exited = true
takes Run Fresh = true
takes Resume Stopped = true
takes _ _ = false

-- the status that a refused call returns in a0
abbrev pub status_of : Refusal → ℕ
status_of NotSupported = 0xFFFFFFFF
status_of BadRegion = 0xFFFFFFFE
status_of BadWindow = 0xFFFFFFFD
status_of Overlap = 0xFFFFFFFC
status_of BadEntry = 0xFFFFFFFB
status_of NoSlot = 0xFFFFFFFA
status_of NoEnclave = 0xFFFFFFF9
status_of BadState = 0xFFFFFFF8
status_of BadAddress = 0xFFFFFFF7
