-- The calls of the monitor in numbers: the key, the calls, the statuses in the order of the checks, and the effects. Nothing here uses the tables
-- of the calls. The law says that the tables agree. (Keystone, EuroSys 2020, in this project's profile; the measurement is SHA-256 of FIPS 180-4.)
use Rattle.std.specs.Prelude.{◌≡◌, ◌≢◌, ◌≤◌, ◌<◌, ◌⊎◌, ℕ, ◌+◌, ◌%◌, ◌^◌, ◌==◌, Bool, true, false, not, ◌&&◌, ◌||◌, nat_le, nat_lt, if◌then◌else◌, is_some}
use Rattle.std.specs.Prelude.{List, [], ◌∷◌, ◌++◌, length, replicate, slice_index_or, slice_set, Option, Some, None}
use Rattle.std.specs.List.{find, list_all, list_any, range_with_len}
use Rattle.std.specs.Option.{is_none}
use Rattle.sha2.specs.Sha256.{sha256}
use Rattle.rv_word.specs.Cases.{option_case}
use Rattle.rv_memory.specs.Memory.{bytes_of, read, write}
use Rattle.rv_memory.specs.Blocks.{meets}
use Rattle.rv_memory.specs.declared.block.Block.{Block}
use Rattle.rv_pmp.specs.Entries.{Entries}
use Rattle.rv_pmp.specs.Verdicts.{bytes_from, permits, verdict}
use Rattle.rv_pmp.specs.declared.access.Access.TheVariants.{Write}
use Rattle.rv_pmp.specs.declared.mode.Mode.TheVariants.{S}
use Rattle.rv_state.specs.Registers.{register, with_register}
use Rattle.rv_enclaves.specs.Calls.{requested_call, status_of}
use Rattle.rv_enclaves.specs.Create.{create_args_of, create_refusals, created}
use Rattle.rv_enclaves.specs.Destroy.{destroyed}
use Rattle.rv_enclaves.specs.Layout.{mie_of}
use Rattle.rv_enclaves.specs.Measure.{measure_refusals, measured, measured_slot}
use Rattle.rv_enclaves.specs.Refusals.{state_refusals}
use Rattle.rv_enclaves.specs.Table.{Slots}
use Rattle.rv_enclaves.specs.declared.call.Call.{Call}
use Rattle.rv_enclaves.specs.declared.call.Call.TheVariants.{Create, Destroy, Run, Resume, Measure, Stop, Exit}
use Rattle.rv_enclaves.specs.declared.refusal.Refusal.{Refusal}
use Rattle.rv_enclaves.specs.declared.shared.Shared.{Shared}
use Rattle.rv_enclaves.specs.declared.slot_info.EnclaveState.{EnclaveState}
use Rattle.rv_enclaves.specs.declared.slot_info.EnclaveState.TheVariants.{Fresh, Running, Stopped, Exited}
use Rattle.rv_enclaves.specs.declared.slot_info.SlotInfo.{SlotInfo}
use Rattle.rv_enclaves.specs.declared.world.World.{World}
use Rattle.rv_enclaves.specs.declared.world.World.TheVariants.{Host, Enclave}

-- ---- the request

-- the call that a world requests with the values of a7 and a6; none if the values request no call that the monitor offers to this world
unfoldable pub call_numbered : World → ℕ → ℕ → Option Call
call_numbered Host a7 a6 =
    if a7 == 0x0A454E43 then (if a6 == 1 then Some Create else (if a6 == 2 then Some Destroy else (if a6 == 3 then Some Run
    else (if a6 == 4 then Some Resume else (if a6 == 5 then Some Measure else None))))) else None
call_numbered (Enclave slot) a7 a6 =
    if a7 == 0x0A454E43 then (if a6 == 5 then Some Measure else (if a6 == 6 then Some Stop else (if a6 == 7 then Some Exit else None))) else None

-- ---- the arguments

-- the region that a0 and a1 name
abbrev pub region_named : List ℕ → Block
region_named regs = record { base = register regs 10; size = register regs 11 }

-- the window that a2 and a3 name; a size of 0 means none
abbrev pub window_named : List ℕ → Block
window_named regs =
    if register regs 13 == 0 then record { base = 0; size = 0 } else record { base = register regs 12; size = register regs 13 }

-- the record in a slot, if the enclave of the slot is live
abbrev pub record_at : Slots → ℕ → Option SlotInfo
record_at table slot = slice_index_or table slot None

-- the slot that a measure is about: the host names the slot in a0, and an enclave measures its own slot
abbrev pub slot_named : World → List ℕ → ℕ
slot_named Host regs = register regs 10
slot_named (Enclave slot) regs = slot

-- ---- the conditions

-- Whether a block may be a region. Its size is a power of two from 4096 to 2 ^ 31, and its base is a multiple of the size. The block is inside
-- memory, which begins at the address 80000000.
abbrev pub is_block_of : List ℕ → Block → Bool
is_block_of memory block =
    list_any (λ exponent. block.size == 2 ^ exponent) (range_with_len 12 20) && (block.base % block.size == 0
    && (nat_le 0x80000000 block.base && nat_le (block.base + block.size) (0x80000000 + length memory)))

-- the range of addresses that the monitor keeps for itself
abbrev pub monitor_range : Block
monitor_range = record { base = 0x80000000; size = 0x10000 }

-- whether a region and a window overlap an enclave in bytes that the two may not share
abbrev pub overlap_enclave : Block → Block → Option SlotInfo → Bool
overlap_enclave region window maybe_info =
    option_case maybe_info false (λ info. meets region info.region || (meets region info.window || meets window info.region))

-- the lowest slot of the 13 slots without a record, if there is one
abbrev pub lowest_free : Slots → Option ℕ
lowest_free table = find (λ slot. is_none (record_at table slot)) (range_with_len 0 13)

-- whether an enclave is in the state in which run accepts it
abbrev pub is_fresh : EnclaveState → Bool
is_fresh Fresh = true
is_fresh Running = false
is_fresh Stopped = false
is_fresh Exited = false

-- whether an enclave is in the state in which resume accepts it
abbrev pub is_stopped : EnclaveState → Bool
is_stopped Fresh = false
is_stopped Running = false
is_stopped Stopped = true
is_stopped Exited = false

-- whether an enclave is in a state in which destroy accepts it
abbrev pub does_not_run : EnclaveState → Bool
does_not_run Fresh = true
does_not_run Running = false
does_not_run Stopped = true
does_not_run Exited = true

-- whether S-mode may store a byte
abbrev pub is_storable : List ℕ → Entries → ℕ → Bool
is_storable memory entries byte =
    nat_le 0x80000000 byte && nat_le (byte + 1) (0x80000000 + length memory) && permits (verdict entries S Write (bytes_from byte 1))

-- ---- the statuses of each call: the first row whose condition holds decides

-- the refusals of create with their statuses: region, window, overlap, entry, no slot
unfoldable pub create_rows : Shared → List ℕ → List (Bool × ℕ)
create_rows shared regs =
    let region = region_named regs in
    let window = window_named regs in
    let entry = register regs 14 in
    (not (is_block_of shared.memory region), 0xFFFFFFFE)
    ∷ (not (register regs 13 == 0 || is_block_of shared.memory window), 0xFFFFFFFD)
    ∷ (
      meets monitor_range region
          || (meets monitor_range window || (meets region window || list_any (overlap_enclave region window) shared.table)),
      0xFFFFFFFC,
    )
    ∷ (not (entry % 4 == 0 && (nat_le region.base entry && nat_lt entry (region.base + region.size))), 0xFFFFFFFB)
    ∷ (is_none (lowest_free shared.table), 0xFFFFFFFA)
    ∷ []

-- the refusals of destroy, run and resume: the slot has no enclave, or the enclave is in a state that the call does not accept
unfoldable pub state_rows : (EnclaveState → Bool) → Slots → ℕ → List (Bool × ℕ)
state_rows accepts table slot =
    (not (is_some (record_at table slot)), 0xFFFFFFF9)
    ∷ (not (option_case (record_at table slot) false (λ info. accepts info.state)), 0xFFFFFFF8)
    ∷ []

-- the refusals of measure: the slot has no enclave, or S-mode may not store 32 bytes at the address
unfoldable pub measure_rows : Shared → Entries → ℕ → ℕ → List (Bool × ℕ)
measure_rows shared entries slot address =
    (not (is_some (record_at shared.table slot)), 0xFFFFFFF9)
    ∷ (not (list_all (is_storable shared.memory entries) (range_with_len address 32)), 0xFFFFFFF7)
    ∷ []

-- the refusals of a call, in the order in which the monitor checks them; stop and exit have no refusals
abbrev pub call_rows : World → Shared → Entries → List ℕ → Call → List (Bool × ℕ)
call_rows world shared entries regs Create = create_rows shared regs
call_rows world shared entries regs Destroy = state_rows does_not_run shared.table (register regs 10)
call_rows world shared entries regs Run = state_rows is_fresh shared.table (register regs 10)
call_rows world shared entries regs Resume = state_rows is_stopped shared.table (register regs 10)
call_rows world shared entries regs Measure = measure_rows shared entries (slot_named world regs) (register regs 11)
call_rows world shared entries regs Stop = []
call_rows world shared entries regs Exit = []

-- the status of a table: the status of the first row whose condition holds, or 0 for success if no row holds
abbrev pub first_status : List (Bool × ℕ) → ℕ
first_status [] = 0
first_status ((true, status) ∷ rows) = status
first_status ((false, status) ∷ rows) = first_status rows

-- the status of any request
unfoldable pub call_status : World → Shared → Entries → List ℕ → ℕ
call_status world shared entries regs =
    option_case (call_numbered world (register regs 17) (register regs 16)) 0xFFFFFFFF
    (λ call. first_status (call_rows world shared entries regs call))

-- ---- the effects

-- The shared state after a create: the new enclave is Fresh, measured and in the lowest free slot. Its first registers are those of its region and
-- window, and it starts at its entry.
unfoldable pub shared_with_new : Shared → List ℕ → Shared
shared_with_new shared regs =
    let region = region_named regs in
    let window = window_named regs in
    let entry = register regs 14 in
    let slot = option_case (lowest_free shared.table) 13 (λ slot. slot) in
    record shared {
      table = slice_set shared.table slot (Some (record {
        region = region;
        window = window;
        entry = entry;
        measurement =
            sha256 ((bytes_of 4 region.base ++ bytes_of 4 region.size ++ bytes_of 4 window.base ++ bytes_of 4 window.size ++ bytes_of 4 entry)
            ++ option_case (read shared.memory region.base region.size) [] (λ bytes. bytes));
        state = Fresh;
      }));
      contexts = slice_set shared.contexts slot (Some (record {
        regs =
            with_register
            (with_register (with_register (with_register (replicate 32 0) 10 region.base) 11 region.size) 12 window.base) 13 window.size;
        pc = entry;
        mode = S;
        supervisor = record { stvec = 0; sscratch = 0; sepc = 0; scause = 0; stval = 0; sie = false; spie = false; spp = false; mxr = false };
      }));
    }

-- the shared state after a destroy: the region of the enclave is zeroed, and its record and saved context are gone
unfoldable pub shared_without : Shared → ℕ → Shared
shared_without shared slot =
    let region = option_case (record_at shared.table slot) (record { base = 0; size = 0 }) (λ info. info.region) in
    record {
      memory = option_case (write shared.memory region.base (replicate region.size 0)) shared.memory (λ after. after);
      table = slice_set shared.table slot None;
      contexts = slice_set shared.contexts slot None;
    }

-- the shared state after a measure: the 32 bytes of the measurement are stored
unfoldable pub shared_with_measurement : Shared → ℕ → ℕ → Shared
shared_with_measurement shared slot address =
    let measurement = option_case (record_at shared.table slot) [] (λ info. info.measurement) in
    record shared { memory = option_case (write shared.memory address measurement) shared.memory (λ after. after) }

-- ---- the law: the definitions of the calls have these tables and effects

-- the table of refusals with the status of each refusal in its place
abbrev pub in_numbers : List (Bool × Refusal) → List (Bool × ℕ)
in_numbers [] = []
in_numbers ((holds, refusal) ∷ rows) = (holds, status_of refusal) ∷ in_numbers rows

-- the definitions of the calls agree with the tables in numbers: requests, statuses, refusals and effects
pub record AreCallNumbers (shared : Shared) (entries : Entries) (regs : List ℕ) : Type 0 where
  pub call : (world : World) → requested_call world regs ≡ call_numbered world (register regs 17) (register regs 16)
  pub status : (refusal : Refusal) → status_of refusal ≢ 0
  pub create : in_numbers (create_refusals shared (create_args_of regs)) ≡ create_rows shared regs
  pub destroy : (slot : ℕ) → in_numbers (state_refusals shared.table Destroy slot) ≡ state_rows does_not_run shared.table slot
  pub run : (slot : ℕ) → in_numbers (state_refusals shared.table Run slot) ≡ state_rows is_fresh shared.table slot
  pub resume : (slot : ℕ) → in_numbers (state_refusals shared.table Resume slot) ≡ state_rows is_stopped shared.table slot
  pub measure : (slot address : ℕ) → in_numbers (measure_refusals shared entries slot address) ≡ measure_rows shared entries slot address
  pub slot : (world : World) → measured_slot world (register regs 10) ≡ slot_named world regs
  pub created : created shared (create_args_of regs) ≡ shared_with_new shared regs
  pub destroyed : (slot : ℕ) → destroyed shared slot ≡ shared_without shared slot
  pub measured : (slot address : ℕ) → measured shared slot address ≡ shared_with_measurement shared slot address
  pub host_mie : mie_of Host ≡ 0
  pub enclave_mie : (slot : ℕ) → mie_of (Enclave slot) ≡ 0x80

-- the definitions of the calls agree with the tables in numbers, for every state and all registers
abbrev pub CallNumbersLaw : Type 0
CallNumbersLaw = (shared : Shared) (entries : Entries) (regs : List ℕ) → AreCallNumbers shared entries regs

-- ---- the calls that are accepted, without tests

-- the registers request the call with this number: a7 has the key, and a6 the number
pub record Requests (number : ℕ) (regs : List ℕ) : Type 0 where
  pub a7 : register regs 17 ≡ 0x0A454E43
  pub a6 : register regs 16 ≡ number

-- `slot` has an enclave in the state `state`, and `info` is its record
pub record HasState (table : Slots) (slot : ℕ) (state : EnclaveState) : Type 0 where
  pub info : SlotInfo
  pub record_is : record_at table slot ≡ Some info
  pub state_is : info.state ≡ state

-- `slot` has an enclave that does not run, and `info` is its record
pub record IsAtRest (table : Slots) (slot : ℕ) : Type 0 where
  pub info : SlotInfo
  pub record_is : record_at table slot ≡ Some info
  pub not_running : info.state ≢ Running

-- A block that may be a region. Its size is a power of two from 4096 to 2 ^ 31, its base is a multiple of the size, and it is inside memory.
pub record IsBlockOf (memory : List ℕ) (block : Block) : Type 0 where
  pub exponent : ℕ
  pub exponent_at_least_12 : 12 ≤ exponent
  pub exponent_below_32 : exponent < 32
  pub size_is_power : block.size ≡ 2 ^ exponent
  pub base_is_multiple : block.base % block.size ≡ 0
  pub from_ram_base : 0x80000000 ≤ block.base
  pub to_ram_end : block.base + block.size ≤ 0x80000000 + length memory

-- The arguments in a0 to a4 meet the conditions of create, and `slot` is the lowest free slot. The new region (a0 and a1), the new window (a2 and a3)
-- and the monitor's range share no byte with each other. a4 is the entry.
pub record IsCreatable (shared : Shared) (regs : List ℕ) (slot : ℕ) : Type 0 where
  pub region : IsBlockOf shared.memory (region_named regs)
  pub window : (register regs 13 ≡ 0) ⊎ IsBlockOf shared.memory (window_named regs)
  pub region_outside_monitor : meets monitor_range (region_named regs) ≡ false
  pub window_outside_monitor : meets monitor_range (window_named regs) ≡ false
  pub window_outside_region : meets (region_named regs) (window_named regs) ≡ false
  -- the new region meets no region or window of another enclave, and the new window meets no region of another enclave
  pub others_apart : (other : ℕ) → overlap_enclave (region_named regs) (window_named regs) (record_at shared.table other) ≡ false
  pub entry_aligned : register regs 14 % 4 ≡ 0
  pub entry_from : register regs 10 ≤ register regs 14
  pub entry_to : register regs 14 < register regs 10 + register regs 11
  pub in_range : slot < 13
  pub free : record_at shared.table slot ≡ None
  -- every lower slot has a live enclave
  pub lowest : (lower : ℕ) → lower < slot → is_some (record_at shared.table lower) ≡ true

-- the enclave of `slot` is live, the 32 bytes from `address` on are in memory, and S-mode may store each of them
pub record IsMeasurable (shared : Shared) (entries : Entries) (slot address : ℕ) : Type 0 where
  pub live : is_some (record_at shared.table slot) ≡ true
  pub from_ram_base : 0x80000000 ≤ address
  pub to_ram_end : address + 32 ≤ 0x80000000 + length shared.memory
  pub storable : (byte : ℕ) → address ≤ byte → byte < address + 32 → permits (verdict entries S Write (bytes_from byte 1)) ≡ true

-- the registers request this call, and the monitor does not refuse it
pub record IsAccepted (world : World) (shared : Shared) (entries : Entries) (regs : List ℕ) (call : Call) : Type 0 where
  pub requested : call_numbered world (register regs 17) (register regs 16) ≡ Some call
  pub status : call_status world shared entries regs ≡ 0

-- Each call is accepted under its conditions in numbers. A create gets the lowest free slot.
pub record AcceptsCalls (shared : Shared) (entries : Entries) (regs : List ℕ) : Type 0 where
  pub create : (slot : ℕ) → Requests 1 regs → IsCreatable shared regs slot
      → IsAccepted Host shared entries regs Create × (lowest_free shared.table ≡ Some slot)
  pub destroy : Requests 2 regs → IsAtRest shared.table (register regs 10) → IsAccepted Host shared entries regs Destroy
  pub run : Requests 3 regs → HasState shared.table (register regs 10) Fresh → IsAccepted Host shared entries regs Run
  pub resume : Requests 4 regs → HasState shared.table (register regs 10) Stopped → IsAccepted Host shared entries regs Resume
  pub measure : (world : World) → Requests 5 regs → IsMeasurable shared entries (slot_named world regs) (register regs 11)
      → IsAccepted world shared entries regs Measure
  pub stop : (slot : ℕ) → Requests 6 regs → IsAccepted (Enclave slot) shared entries regs Stop
  pub exit : (slot : ℕ) → Requests 7 regs → IsAccepted (Enclave slot) shared entries regs Exit

-- each call is accepted under its conditions in numbers, for every state and all registers
abbrev pub AcceptsCallsLaw : Type 0
AcceptsCallsLaw = (shared : Shared) (entries : Entries) (regs : List ℕ) → AcceptsCalls shared entries regs
