-- The bytes that S may store, in numbers. The law of access control says that the PMP permits what is accessible, and each part here shows that what
-- is accessible is what the numbers say.
use Rattle.std.proofs.Common.{◌≡◌, ◌<◌, ◌≤◌, ℕ, ◌+◌, Bool, true, false, List, [], ◌∷◌, length, Option, Some, None, refl, ◌∙◌, ap, ap₂, arith}
use Rattle.std.specs.List.{list_any, range_with_len}
use Rattle.std.specs.Prelude.{not, ◌&&◌, ◌||◌, nat_le}
use Rattle.rv_word.specs.declared.width.Width.TheVariants.{Byte}
use Rattle.rv_pmp.specs.declared.access.Access.TheVariants.{Write}
use Rattle.rv_enclaves.specs.AccessibleMemory.{is_accessible}
use Rattle.rv_enclaves.specs.CallNumbers.{record_at}
use Rattle.rv_enclaves.specs.Table.{region_of, window_of}
use Rattle.rv_enclaves.specs.declared.slot_info.SlotInfo.{SlotInfo}
use Rattle.rv_enclaves.specs.declared.world.World.{World}
use Rattle.rv_enclaves.specs.declared.world.World.TheVariants.{Enclave, Host}
use Rattle.rv_memory.specs.Blocks.{monitor_block}
use Rattle.rv_enclaves.specs.SlotNumbers.{slot_count}
use Rattle.rv_monitor.proofs.AccessControlLemmas.{access_control_law}
use Rattle.rv_debug.specs.Prelude.{Invariant, MonitoredMachine, S, Slots, count_of, has, hart_state_of, hart_view, is_inside, option_case, ram_base}
use Rattle.rv_debug.specs.Prelude.{region}
use Rattle.rv_debug.specs.Permissions.{StorePermissionLaw, enclave_stores, host_stores, is_within, permits_store}
use Rattle.rv_debug.proofs.Prelude.{and_from, hart_view_invariant, le-leb, nat_tests}

-- a hart that exists, and a byte in RAM
module _ (hart byte : ℕ) (machine : MonitoredMachine) (invariant : Invariant machine) (in_range : hart < count_of machine)
    (in_ram_from : ram_base ≤ byte) (in_ram_to : byte + 1 ≤ ram_base + length machine.shared.memory) where
  -- the byte is in the memory
  in_ram : is_inside machine.shared.memory byte 1 ≡ true
  in_ram = and_from _ _ (le-leb ram_base byte in_ram_from) (le-leb (byte + 1) (ram_base + length machine.shared.memory) in_ram_to)

  -- the PMP permits the store if and only if the byte is accessible
  permitted_if_accessible : permits_store hart machine byte
      ≡ is_accessible machine.shared.memory machine.shared.table (hart_state_of hart machine).world Write (byte ∷ [])
  permitted_if_accessible =
      access_control_law (hart_view hart machine) S Write byte Byte (hart_view_invariant hart machine invariant in_range) (λ is_m. cc) in_ram

  -- `table` is the enclave table
  abbrev table : Slots
  table = machine.shared.table

  -- ---- the host

  -- two tests that are equal for each slot agree on whether some slot of a list passes
  same_any : (test other_test : ℕ → Bool) → ((slot : ℕ) → test slot ≡ other_test slot) → (slots : List ℕ)
      → list_any test slots ≡ list_any other_test slots
  same_any test other_test same_tests [] = refl
  same_any test other_test same_tests (slot ∷ slots) =
      ap₂ (λ (first rest : Bool). first || rest) (same_tests slot) (same_any test other_test same_tests slots)

  -- a byte is in the region of a slot by the definition `has` if and only if it is by the definition `is_within`
  same_in_region : (maybe_info : Option SlotInfo)
      → has (region_of maybe_info) byte ≡ option_case maybe_info false (λ info. is_within info.region byte)
  same_in_region None = grind (arith, nat_tests)
  same_in_region (Some info) = refl

  -- a byte is outside the monitor's range if it is at 80010000 or above
  outside_monitor_range : not (has monitor_block byte) ≡ nat_le 0x80010000 byte
  outside_monitor_range = grind (arith, nat_tests, in_ram_from)

  -- what the host may store is the same in both definitions
  host_accessible : is_accessible machine.shared.memory table Host Write (byte ∷ []) ≡ host_stores table byte
  unfolding is_accessible
  host_accessible =
      -- the byte is in the region of some slot by `has` if and only if it is by `is_within`
      let same_regions = same_any (λ slot. has (region table slot) byte)
      (λ slot. option_case (record_at table slot) false (λ info. is_within info.region byte))
      (λ slot. same_in_region (record_at table slot)) (range_with_len 0 slot_count) in
      rw (in_ram, outside_monitor_range, same_regions) (drop_constants _) where
        -- a test with true and false added is the test
        drop_constants : (test : Bool) → ((test && true) || false) ≡ test
        drop_constants true = refl
        drop_constants false = refl

  -- ---- an enclave

  -- both definitions let an enclave with this record store the same bytes; a slot without a record lets no byte be stored
  record_accessible : (maybe_info : Option SlotInfo)
      → ((has (region_of maybe_info) byte && true) || ((has (window_of maybe_info) byte && true) || false))
      ≡ option_case maybe_info false (λ info. is_within info.region byte || is_within info.window byte)
  record_accessible None = grind (arith, nat_tests)
  record_accessible (Some info) = drop_constants (is_within info.region byte) (is_within info.window byte) where
    -- two tests with true and false added are the tests
    drop_constants : (test other_test : Bool) → ((test && true) || ((other_test && true) || false)) ≡ (test || other_test)
    drop_constants true other_test = refl
    drop_constants false true = refl
    drop_constants false false = refl

  -- what an enclave may store is the same in both definitions
  enclave_accessible : (slot : ℕ) → is_accessible machine.shared.memory table (Enclave slot) Write (byte ∷ []) ≡ enclave_stores table slot byte
  unfolding is_accessible
  enclave_accessible slot = record_accessible (record_at table slot)

-- proves that the PMP permits exactly the stores that the world of the hart may make
pub store_permission : StorePermissionLaw
store_permission = record {
  host = λ hart byte machine invariant in_range in_ram_from in_ram_to world_is.
      permitted_if_accessible hart byte machine invariant in_range in_ram_from in_ram_to
      ∙ ap (λ (running_world : World). is_accessible machine.shared.memory machine.shared.table running_world Write (byte ∷ [])) world_is
      ∙ host_accessible hart byte machine invariant in_range in_ram_from in_ram_to;
  enclave = λ hart byte slot machine invariant in_range in_ram_from in_ram_to world_is.
      permitted_if_accessible hart byte machine invariant in_range in_ram_from in_ram_to
      ∙ ap (λ (running_world : World). is_accessible machine.shared.memory machine.shared.table running_world Write (byte ∷ [])) world_is
      ∙ enclave_accessible hart byte machine invariant in_range in_ram_from in_ram_to slot;
}
