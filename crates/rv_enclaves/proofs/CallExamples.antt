-- Examples of calls in numbers. Each example holds by computation. Each call of the host succeeds in some state, and some refused calls have the
-- status of their refusal.
use Rattle.std.proofs.Common.{◌≡◌, ℕ, List, length, Some, refl}
use Rattle.std.specs.Prelude.{replicate}
use Rattle.rv_state.specs.Registers.{with_register}
use Rattle.rv_enclaves.specs.CallNumbers.{call_numbered, call_status, create_rows, state_rows}
use Rattle.rv_enclaves.specs.Contexts.{no_contexts}
use Rattle.rv_enclaves.specs.Table.{no_slots, with_slot}
use Rattle.rv_enclaves.specs.declared.slot_info.EnclaveState.TheVariants.{Fresh, Exited, Stopped}
use Rattle.rv_enclaves.proofs.Prelude.{EnclaveState, Enclave, Entries, Host, Shared}

-- the registers with the key in a7 and the number of a call in a6: 1 create, 2 destroy, 3 run, 4 resume, 5 measure, 6 stop, 7 exit
abbrev asks : ℕ → List ℕ → List ℕ
asks number regs = with_register (with_register regs 16 number) 17 0x0A454E43

-- the arguments of a create: a region of 4 KiB with this base, a window of 4 KiB at 80030000, and an entry
abbrev arguments : ℕ → ℕ → List ℕ
arguments region entry =
    with_register
    (with_register (with_register (with_register (with_register (replicate 32 0) 10 region) 11 0x1000) 12 0x80030000) 13 0x1000) 14 entry

-- registers that are all 0; a0 names slot 0
abbrev names_slot_0 : List ℕ
names_slot_0 = replicate 32 0

-- a shared state without enclaves
abbrev empty : List ℕ → Shared
empty memory = record { memory = memory; table = no_slots; contexts = no_contexts }

-- a shared state with one enclave, in slot 0: its region is at 80020000, its window at 80030000, and its state is given
abbrev with_one : List ℕ → EnclaveState → Shared
with_one memory state = record (empty memory) {
  table = with_slot no_slots 0 (Some (record {
    region = record { base = 0x80020000; size = 0x1000 };
    window = record { base = 0x80030000; size = 0x1000 };
    entry = 0x80020000;
    measurement = replicate 32 0;
    state = state;
  }));
}

-- examples for a memory of 256 KiB
module _ (memory : List ℕ) (entries : Entries) (ram_size : length memory ≡ 0x40000) where
  -- a create of a valid region succeeds
  creates : call_status Host (empty memory) entries (asks 1 (arguments 0x80020000 0x80020000)) ≡ 0
  unfolding call_status call_numbered create_rows
  creates = rw ram_size refl

  -- a second create of the same region is refused with the status Overlap
  overlap : call_status Host (with_one memory Fresh) entries (asks 1 (arguments 0x80020000 0x80020000)) ≡ 0xFFFFFFFC
  unfolding call_status call_numbered create_rows
  overlap = rw ram_size refl

  -- a create whose entry is after the region is refused with the status BadEntry
  bad_entry : call_status Host (empty memory) entries (asks 1 (arguments 0x80020000 0x80021000)) ≡ 0xFFFFFFFB
  unfolding call_status call_numbered create_rows
  bad_entry = rw ram_size refl

-- examples for any memory
module _ (memory : List ℕ) (entries : Entries) where
  -- a create of a region whose base is no multiple of its size is refused with the status BadRegion
  bad_region : call_status Host (empty memory) entries (asks 1 (arguments 0x80020800 0x80020800)) ≡ 0xFFFFFFFE
  unfolding call_status call_numbered create_rows
  bad_region = refl

  -- a run of a Fresh enclave succeeds
  runs_fresh : call_status Host (with_one memory Fresh) entries (asks 3 names_slot_0) ≡ 0
  unfolding call_status call_numbered state_rows
  runs_fresh = refl

  -- a run of a Stopped enclave is refused with the status BadState
  runs_stopped : call_status Host (with_one memory Stopped) entries (asks 3 names_slot_0) ≡ 0xFFFFFFF8
  unfolding call_status call_numbered state_rows
  runs_stopped = refl

  -- a resume of a Stopped enclave succeeds
  resumes_stopped : call_status Host (with_one memory Stopped) entries (asks 4 names_slot_0) ≡ 0
  unfolding call_status call_numbered state_rows
  resumes_stopped = refl

  -- a destroy of an Exited enclave succeeds
  destroys_exited : call_status Host (with_one memory Exited) entries (asks 2 names_slot_0) ≡ 0
  unfolding call_status call_numbered state_rows
  destroys_exited = refl

  -- a destroy of a free slot is refused with the status NoEnclave
  no_enclave : call_status Host (empty memory) entries (asks 2 names_slot_0) ≡ 0xFFFFFFF9
  unfolding call_status call_numbered state_rows
  no_enclave = refl

  -- a stop by the host is refused with the status NotSupported
  stop_of_host : call_status Host (with_one memory Fresh) entries (asks 6 names_slot_0) ≡ 0xFFFFFFFF
  unfolding call_status call_numbered
  stop_of_host = refl

  -- a stop by an enclave succeeds
  stop_of_enclave : call_status (Enclave 0) (with_one memory Fresh) entries (asks 6 names_slot_0) ≡ 0
  unfolding call_status call_numbered
  stop_of_enclave = refl
