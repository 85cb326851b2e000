-- Two harts of two enclaves with the same state make the same accesses: the PMP entries permit them the same bytes, with the same contents.
use Rattle.std.proofs.Common.{◌≡◌, ℕ, Bool, true, false, List, [], ◌∷◌, length, Option, Some, None, Ok, Err, refl, sym, ◌∙◌, ap, ap₂}
use Rattle.std.proofs.Common.{inl, inr}
use Rattle.std.proofs.lemmas.Bool.{cases_Bool}
use Rattle.std.specs.Prelude.{◌&&◌, if◌then◌else◌, is_some}
use Rattle.std.specs.List.{list_all, range_with_len}
use Rattle.rv_word.specs.declared.width.Width.{Width}
use Rattle.rv_pmp.specs.declared.verdict.Verdict.{Verdict}
use Rattle.rv_memory.specs.Accesses.{fetched, loaded, stored, where_permitted}
use Rattle.rv_memory.specs.Memory.{bytes_of, number_of_bytes, read}
use Rattle.rv_memory.specs.declared.access_fault.AccessFault.{AccessFault}
use Rattle.rv_memory.proofs.MemoryLaws.{length-bytes_of}
use Rattle.rv_hart.specs.GuestView.{SameAccess, SameBelowM, given, below_m_hart}
use Rattle.rv_hart.proofs.BelowMSteps.{depends_below_m}
use Rattle.rv_enclaves.proofs.EqualMemory.{read-none, write-none}
use Rattle.rv_monitor.specs.Prelude.{Access, Byte, Enclave, Fetch}
use Rattle.rv_monitor.specs.Prelude.{Hart, Mode, Read, S, HartState, Shared, Slots}
use Rattle.rv_monitor.specs.Prelude.{Word, World, Write, bytes_from, bytes_in, data_mode, is_accessible, is_inside}
use Rattle.rv_monitor.specs.Prelude.{is_machine, may_store, may_store_all}
use Rattle.rv_monitor.specs.Prelude.{mie_of, option_case, permits, slot_at, step, verdict, write}
use Rattle.rv_monitor.proofs.Prelude.{HartViewInvariant, HartView, bare_machine}
use Rattle.rv_monitor.proofs.Exits.{timer_or_none, pending_is_timer}
use Rattle.rv_monitor.proofs.AccessControlLemmas.{below_M, access_control_law}

-- ---- the accesses that the PMP entries of an enclave permit

-- Two results that are Ok under equal tests give the same value. Each case holds by computation, or has a false premise.
same_value_if_tests_agree : {A : Type 0} (test other_test : Bool) (fault other_fault : AccessFault) (value : A) → test ≡ other_test
    → given (if test then Ok value else Err fault) ≡ given (if other_test then Ok value else Err other_fault)
same_value_if_tests_agree true true fault other_fault value same_tests = refl
same_value_if_tests_agree false false fault other_fault value same_tests = refl
same_value_if_tests_agree true false fault other_fault value same_tests = cc
same_value_if_tests_agree false true fault other_fault value same_tests = cc

-- If two PMP verdicts agree on permission, then an access under both verdicts gives the same value. `maybe_bytes` is None outside memory.
same_value_if_verdicts_agree : {A : Type 0} (maybe_bytes : Option (List ℕ)) (verdict other_verdict : Verdict) (result_of : List ℕ → A)
    (fault : AccessFault)
    → (is_some maybe_bytes ≡ true → permits verdict ≡ permits other_verdict)
    → given (option_case maybe_bytes (Err fault) (λ bytes. where_permitted verdict (result_of bytes))) ≡ given
    (option_case maybe_bytes (Err fault) (λ bytes. where_permitted other_verdict (result_of bytes)))
same_value_if_verdicts_agree None verdict other_verdict result_of fault same_verdicts = refl
same_value_if_verdicts_agree (Some bytes) verdict other_verdict result_of fault same_verdicts =
    same_value_if_tests_agree (permits verdict) (permits other_verdict) _ _ (result_of bytes) (same_verdicts refl)

-- the same bytes are accessible to the enclaves of two slots with equal records
same_accessibility : (memory : List ℕ) (table other_table : Slots) (slot other_slot : ℕ) (access : Access) (bytes : List ℕ)
    → slot_at table slot ≡ slot_at other_table other_slot
    → is_accessible memory table (Enclave slot) access bytes ≡ is_accessible memory other_table (Enclave other_slot) access bytes
unfolding is_accessible
same_accessibility memory table other_table slot other_slot Fetch bytes same_slot = rw same_slot refl
same_accessibility memory table other_table slot other_slot Read bytes same_slot = rw same_slot refl
same_accessibility memory table other_table slot other_slot Write bytes same_slot = rw same_slot refl

-- if two tests agree on each number, then they agree on whether all numbers of a list pass
equal_tests_hold_alike : (test other_test : ℕ → Bool) (numbers : List ℕ) → ((value : ℕ) → test value ≡ other_test value)
    → list_all test numbers ≡ list_all other_test numbers
equal_tests_hold_alike test other_test [] same_tests = refl
equal_tests_hold_alike test other_test (value ∷ numbers) same_tests =
    ap₂ (λ (a test : Bool). a && test) (same_tests value) (equal_tests_hold_alike test other_test numbers same_tests)

-- a read that returns bytes reads only bytes inside memory
read_is_inside : (memory : List ℕ) (address count : ℕ) → is_some (read memory address count) ≡ true
    → is_inside memory address count ≡ true
read_is_inside memory address count returns_bytes = elim (cases_Bool (is_inside memory address count)) [
  | inl inside ↦ inside
  -- a read outside memory returns no bytes
  | inr outside ↦
      let contradiction : false ≡ true =
      ap (λ (maybe_bytes : Option (List ℕ)). is_some maybe_bytes) (sym (read-none memory address count outside)) ∙ returns_bytes in
      cc
]

-- a write that succeeds writes only bytes inside memory
write_is_inside : (memory : List ℕ) (address : ℕ) (bytes : List ℕ) → is_some (write memory address bytes) ≡ true
    → is_inside memory address (length bytes) ≡ true
write_is_inside memory address bytes succeeds = elim (cases_Bool (is_inside memory address (length bytes))) [
  | inl inside ↦ inside
  -- a write outside memory fails
  | inr outside ↦
      let contradiction : false ≡ true =
      ap (λ (maybe_bytes : Option (List ℕ)). is_some maybe_bytes) (sym (write-none memory address bytes outside)) ∙ succeeds in
      cc
]

-- the view with this hart state and this shared state
abbrev pub view_of : HartState → Shared → HartView
view_of hart_state shared = record { hart_state = hart_state; shared = shared }

-- The enclaves of two slots run on two harts over equal memories. Their records are equal, and their harts are equal as S and U see them.
pub record Alike (first_slot second_slot : ℕ) (first_view second_view : HartView) : Type 0 where
  -- each hart runs the enclave in its slot
  pub first : first_view.hart_state.world ≡ Enclave first_slot
  pub second : second_view.hart_state.world ≡ Enclave second_slot
  -- both harts are equal, as modes S and U see them
  pub hart : below_m_hart first_view.hart_state.hart ≡ below_m_hart second_view.hart_state.hart
  -- the records of both enclaves are equal
  pub slot : slot_at first_view.shared.table first_slot ≡ slot_at second_view.shared.table second_slot
  -- the memories are equal
  pub memory : first_view.shared.memory ≡ second_view.shared.memory

-- the enclaves of two slots run on two harts with equal memories and equal records, and with equal harts as S and U see them
module _ (first_slot second_slot : ℕ) (first_state second_state : HartState) (first_shared second_shared : Shared)
    (first_view_invariant : HartViewInvariant (view_of first_state first_shared))
    (second_view_invariant : HartViewInvariant (view_of second_state second_shared))
    (alike : Alike first_slot second_slot (view_of first_state first_shared) (view_of second_state second_shared)) where
  -- both harts are in the same mode
  modes_equal : first_state.hart.mode ≡ second_state.hart.mode
  modes_equal = ap (λ (hart : Hart). hart.mode) alike.hart

  -- both harts have the same pc
  pcs_equal : first_state.hart.pc ≡ second_state.hart.pc
  pcs_equal = ap (λ (hart : Hart). hart.pc) alike.hart

  -- the PMP entries of both harts permit the same accesses
  same_permissions : (mode : Mode) (access : Access) (address : ℕ) (width : Width) → is_machine mode ≡ false
      → is_inside first_shared.memory address (bytes_in width) ≡ true
      → permits (verdict first_state.hart.csrs.pmp mode access (bytes_from address (bytes_in width)))
      ≡ permits (verdict second_state.hart.csrs.pmp mode access (bytes_from address (bytes_in width)))
  same_permissions mode access address width mode_below_m inside =
      let bytes = bytes_from address (bytes_in width) in
      let inside_second : is_inside second_shared.memory address (bytes_in width) ≡ true =
      ap (λ (memory : List ℕ). is_inside memory address (bytes_in width)) (sym alike.memory) ∙ inside in
      -- on each hart the PMP permits exactly the accessible bytes, and both enclaves have the same accessible bytes
      access_control_law (view_of first_state first_shared) mode access address width first_view_invariant (below_M mode mode_below_m) inside
      ∙ ap (λ (world : World). is_accessible first_shared.memory first_shared.table world access bytes) alike.first
      ∙ same_accessibility first_shared.memory first_shared.table second_shared.table first_slot second_slot access bytes alike.slot
      ∙ ap (λ (memory : List ℕ). is_accessible memory second_shared.table (Enclave second_slot) access bytes) alike.memory
      ∙ ap (λ (world : World). is_accessible second_shared.memory second_shared.table world access bytes) (sym alike.second)
      ∙ sym (access_control_law (view_of second_state second_shared) mode access address width second_view_invariant
      (below_M mode mode_below_m) inside_second)

  -- the mode of the first hart is below M
  first_below_m : is_machine first_state.hart.mode ≡ false
  first_below_m = first_view_invariant.hart.layout.mode

  -- loads and stores of the first hart are in the mode of this hart
  first_data_mode : data_mode first_state.hart ≡ first_state.hart.mode
  first_data_mode = let mprv_is_0 = first_view_invariant.hart.layout.mprv in rw mprv_is_0 refl

  -- loads and stores of the second hart are in the mode of the first hart
  second_data_mode : data_mode second_state.hart ≡ first_state.hart.mode
  second_data_mode =
      let mprv_is_0 = second_view_invariant.hart.layout.mprv in let mode = modes_equal in rw mprv_is_0 (sym mode)

  -- fetches, loads and stores of both machines have the same results
  same_access_results : SameAccess (bare_machine (view_of first_state first_shared)) (bare_machine (view_of second_state second_shared))
  same_access_results =
      let first_entries = first_state.hart.csrs.pmp in
      let second_entries = second_state.hart.csrs.pmp in
      let mode = first_state.hart.mode in
      record {
        -- only the timer interrupt is enabled, and both harts have the same timer line
        pending =
            pending_is_timer first_state.hart.csrs first_state.hart.mode first_below_m (first_view_invariant.hart.layout.mie ∙ ap mie_of alike.first)
            ∙ ap (λ (hart : Hart). timer_or_none hart.csrs.timer) alike.hart
            ∙ sym (pending_is_timer second_state.hart.csrs second_state.hart.mode second_view_invariant.hart.layout.mode
            (second_view_invariant.hart.layout.mie ∙ ap mie_of alike.second));
        -- both machines have the same permissions for the bytes of an access
        fetched =
            let pc = first_state.hart.pc in
            same_value_if_verdicts_agree (read first_shared.memory pc (bytes_in Word))
            (verdict first_entries mode Fetch (bytes_from pc (bytes_in Word)))
            (verdict second_entries mode Fetch (bytes_from pc (bytes_in Word))) number_of_bytes _
            (λ some_read. same_permissions mode Fetch pc Word first_below_m (read_is_inside first_shared.memory pc (bytes_in Word) some_read))
            ∙ ap (λ (memory : List ℕ). given (fetched memory second_entries mode pc)) alike.memory
            ∙ ap₂ (λ (mode : Mode) (pc : ℕ). given (fetched second_shared.memory second_entries mode pc)) modes_equal pcs_equal;
        loaded = λ address width.
            ap (λ (mode : Mode). given (loaded first_shared.memory first_entries mode address width)) first_data_mode
            -- both reads have the same bytes, because the PMP permits the same reads
            ∙ same_value_if_verdicts_agree (read first_shared.memory address (bytes_in width))
            (verdict first_entries mode Read (bytes_from address (bytes_in width)))
            (verdict second_entries mode Read (bytes_from address (bytes_in width))) number_of_bytes _
            (λ some_read. same_permissions mode Read address width first_below_m
            (read_is_inside first_shared.memory address (bytes_in width) some_read))
            ∙ ap (λ (memory : List ℕ). given (loaded memory second_entries mode address width)) alike.memory
            ∙ ap (λ (mode : Mode). given (loaded second_shared.memory second_entries mode address width)) (sym second_data_mode);
        stored = λ address width value.
            let bytes = bytes_of (bytes_in width) value in
            ap (λ (mode : Mode). given (stored first_shared.memory first_entries mode address width value)) first_data_mode
            -- both writes have the same result, because the PMP permits the same writes
            ∙ same_value_if_verdicts_agree (write first_shared.memory address bytes)
            (verdict first_entries mode Write (bytes_from address (bytes_in width)))
            (verdict second_entries mode Write (bytes_from address (bytes_in width))) (λ after. after) _
            (λ some_write. same_permissions mode Write address width first_below_m
            (ap (λ (count : ℕ). is_inside first_shared.memory address count) (sym (length-bytes_of width value))
            ∙ write_is_inside first_shared.memory address bytes some_write))
            ∙ ap (λ (memory : List ℕ). given (stored memory second_entries mode address width value)) alike.memory
            ∙ ap (λ (mode : Mode). given (stored second_shared.memory second_entries mode address width value)) (sym second_data_mode);
      }

  -- the bare steps of both machines are equal, as S and U see them
  pub bare_steps_alike : SameBelowM (step (bare_machine (view_of first_state first_shared)))
      (step (bare_machine (view_of second_state second_shared)))
  bare_steps_alike =
      depends_below_m (bare_machine (view_of first_state first_shared))
      (bare_machine (view_of second_state second_shared)) first_below_m first_view_invariant.hart.layout.mprv alike.hart alike.memory
      same_access_results

  -- software in S may store the same bytes on both harts
  pub same_may_store : (byte : ℕ) → may_store first_shared.memory first_state.hart.csrs.pmp byte
      ≡ may_store first_shared.memory second_state.hart.csrs.pmp byte
  same_may_store byte = elim (cases_Bool (is_inside first_shared.memory byte 1)) [
    -- a byte in memory has the same permission on both harts
    | inl inside ↦
        let permits_byte = same_permissions S Write byte Byte refl inside in
        ap (λ (is_permitted : Bool). is_inside first_shared.memory byte 1 && is_permitted) permits_byte
    -- a byte outside memory cannot be stored on either hart
    | inr outside ↦ rw outside refl
  ]

  -- software in S may store the 32 bytes of a measurement at the same addresses on both harts
  pub same_may_store_all : (address : ℕ) → may_store_all first_shared.memory first_state.hart.csrs.pmp address
      ≡ may_store_all second_shared.memory second_state.hart.csrs.pmp address
  unfolding may_store_all
  same_may_store_all address =
      equal_tests_hold_alike (may_store first_shared.memory first_state.hart.csrs.pmp) (may_store first_shared.memory second_state.hart.csrs.pmp)
      (range_with_len address 32) same_may_store
      ∙ ap (λ (memory : List ℕ). list_all (may_store memory second_state.hart.csrs.pmp) (range_with_len address 32)) alike.memory
