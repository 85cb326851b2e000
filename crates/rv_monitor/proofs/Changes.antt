-- A step changes only three kinds of bytes: the bytes that its instruction stores, the region that a destroy zeroes, and the bytes that a measure
-- writes.
use Rattle.std.proofs.Common.{◌≡◌, ℕ, ◌+◌, ◌<◌, ◌≤◌, ◌⊎◌, true, false, List, [], length, replicate, Option, Some, None, IfSome, refl, sym}
use Rattle.std.proofs.Common.{◌∙◌, ap, subst, inl, inr, arith}
use Rattle.std.specs.Prelude.{is_some}
use Rattle.rv_pmp.proofs.VerdictLemmas.{each_from_all}
use Rattle.rv_memory.proofs.MemoryLaws.{byte_at-write}
use Rattle.rv_memory.specs.declared.block.Block.{Block}
use Rattle.rv_monitor.specs.Prelude.{Byte, Call, Destroy, IsValidSlot, IsValid, Measure, S, HartState, Shared, Span, Stepped, Trap, World}
use Rattle.rv_monitor.specs.Prelude.{Write, requested_call, byte_at, bytes_from, bytes_in, created, data_mode, destroyed, first_refusal, has}
use Rattle.rv_monitor.specs.Prelude.{is_inside, is_live, layout, may_store, may_store_all, measure_refusals, measured, measured_slot}
use Rattle.rv_monitor.specs.Prelude.{option_case, permits, region, slot_at, step, verdict, with_bytes_at, with_slot, write, zeroed}
use Rattle.rv_monitor.proofs.Prelude.{ByMonitor, Entries, IsChanged, IsConfined, IsMeasured, HartViewInvariant, IsStoredAccessible, SlotIsAccepted}
use Rattle.rv_monitor.proofs.Prelude.{MayTouch, HartView, SlotInfo, Stores, TouchesPermitted, a0, a1, and_from, and_parts, at_written_slot}
use Rattle.rv_monitor.proofs.Prelude.{bare_machine, both_ways, cases_Bool, cases_lt, confined, entered_slot, handled, is_call, le-leb, left}
use Rattle.rv_monitor.proofs.Prelude.{length-replicate, live_in_range, lt-ltb, reach_law, touches_permitted, ChangesAccessible, monitored_step}
use Rattle.rv_monitor.proofs.AccessControlLemmas.{below_M, data_below, access_control_law}
use Rattle.rv_monitor.proofs.StepInvariant.{equal_to_itself}
use Rattle.rv_monitor.proofs.TrapSteps.{step_cases, hart_state_after}
use Rattle.rv_monitor.proofs.HandlerCases.{Requests, handler_cases}

-- ---- bytes written elsewhere

-- a byte outside the range of a write is unchanged, even if the write fails
unchanged_outside_write : (memory : List ℕ) (address : ℕ) (bytes : List ℕ) (byte : ℕ) (maybe_bytes : Option (List ℕ))
    → write memory address bytes ≡ maybe_bytes
    → byte < address ⊎ address + length bytes ≤ byte
    → byte_at (option_case maybe_bytes memory (λ after. after)) byte ≡ byte_at memory byte
unchanged_outside_write memory address bytes byte None write_is byte_outside = refl
unchanged_outside_write memory address bytes byte (Some after) write_is byte_outside =
    byte_at-write memory address bytes after byte write_is byte_outside

-- an address that is not in a block is before the base of the block, or is not before its end
before_or_after_block : (block : Block) (byte : ℕ) → has block byte ≡ false → byte < block.base ⊎ block.base + block.size ≤ byte
before_or_after_block block byte not_in_block = elim (cases_lt byte block.base) [
  | inl before_start ↦ inl before_start
  | inr from_start ↦ elim (cases_lt byte (block.base + block.size)) [
    -- a byte from the base to the end of the block is in the block
    | inl before_end ↦
        absurd (both_ways _ not_in_block (and_from _ _ (le-leb block.base byte from_start) (lt-ltb byte (block.base + block.size) before_end)))
    | inr after_end ↦ inr after_end
  ]
]

-- zeroing a block changes no byte outside the block
zeroing_keeps_other_bytes : (memory : List ℕ) (block : Block) (byte : ℕ) → has block byte ≡ false
    → byte_at (zeroed memory block) byte ≡ byte_at memory byte
zeroing_keeps_other_bytes memory block byte not_in_block =
    let zeroes_length : length (replicate block.size 0) ≡ block.size = length-replicate {A = ℕ} block.size 0 in
    unchanged_outside_write memory block.base (replicate block.size 0) byte (write memory block.base (replicate block.size 0)) refl
    (rw zeroes_length (before_or_after_block block byte not_in_block))

-- ---- the trap handler

-- the byte is unchanged, or is one that the requested call may change
abbrev Changes : World → List ℕ → Shared → ℕ → Shared → Type 0
Changes world regs before byte after =
    byte_at after.memory byte ≡ byte_at before.memory byte ⊎ ByMonitor world regs before after byte

-- a destroy changes only bytes of the region that it zeroes
destroy_changes_region : (hart_state : HartState) (shared : Shared) (byte : ℕ) → IsValid shared.memory shared.table
    → requested_call hart_state.world hart_state.hart.regs ≡ Some Destroy
    → SlotIsAccepted shared.table Destroy (a0 hart_state)
    → Changes hart_state.world hart_state.hart.regs shared byte (destroyed shared (a0 hart_state))
unfolding destroyed
destroy_changes_region hart_state shared byte valid requested slot_accepted =
    let slot = a0 hart_state in
    elim (cases_Bool (has (region shared.table slot) byte)) [
      -- a destroy zeroes the region of the enclave that it ends
      | inl in_region ↦
          let slot_is = slot_accepted.is in
          let slot_in_range = live_in_range shared.table slot slot_accepted.info valid.count slot_accepted.is in
          let slot_is_free : slot_at (with_slot shared.table slot None) slot ≡ None =
          at_written_slot shared.table slot None
          (omega (arith, valid.count)) in
          inr (inl (record { asked = requested; live = rw slot_is refl; gone = rw slot_is_free refl; own = in_region }))
      -- a byte outside the region is unchanged
      | inr outside_region ↦ inl (zeroing_keeps_other_bytes shared.memory (region shared.table slot) byte outside_region)
    ]

-- The hart requests a measure. The lemmas are about one byte of memory.
module _ (hart_state : HartState) (shared : Shared) (valid : IsValid shared.memory shared.table) (byte : ℕ)
    (asked : requested_call hart_state.world hart_state.hart.regs ≡ Some Measure) where
  -- the PMP entries of the hart
  abbrev entries : Entries
  entries = layout shared.table hart_state.world

  -- the slot that a measure names
  abbrev slot : ℕ
  slot = measured_slot hart_state.world (a0 hart_state)

  -- the monitor does not refuse the measure
  module _ (live : is_live shared.table slot ≡ true) (may_store_bytes : may_store_all shared.memory entries (a1 hart_state) ≡ true) where
    -- the monitor does not refuse the measure
    not_refused : first_refusal (measure_refusals shared entries slot (a1 hart_state)) ≡ None
    unfolding measure_refusals
    not_refused = rw (live, may_store_bytes) refl

    -- each of the 32 bytes from a1 on is a byte that the measure may write
    is_measured : a1 hart_state ≤ byte → byte < a1 hart_state + 32
        → IsMeasured hart_state.world hart_state.hart.regs shared byte
    unfolding may_store_all
    is_measured from_start before_end =
        let may_store_byte =
        each_from_all (may_store shared.memory entries) (a1 hart_state) 32 may_store_bytes byte from_start before_end in
        -- the condition of the measure gives that the byte is in memory, and that the PMP permits the store
        let (inside_memory, permitted) =
        and_parts (is_inside shared.memory byte 1) (permits (verdict entries S Write (bytes_from byte 1))) may_store_byte in
        record {
          asked = asked;
          done = not_refused;
          low = from_start;
          high = before_end;
          accessible =
              sym (reach_law shared.memory shared.table hart_state.world S Write byte Byte valid (below_M S refl) inside_memory)
              ∙ permitted;
        }

    -- a measure changes only the 32 bytes from a1 on
    measurement_write_changes : (maybe_info : Option SlotInfo)
        → IfSome maybe_info (IsValidSlot shared.memory) → is_some maybe_info ≡ true
        → Changes hart_state.world hart_state.hart.regs shared byte (record shared {
          memory =
              with_bytes_at shared.memory (a1 hart_state) (option_case maybe_info [] (λ info. info.measurement));
        })
    measurement_write_changes None slot_valid is_live = cc
    measurement_write_changes (Some info) slot_valid is_live = elim (cases_lt byte (a1 hart_state)) [
      -- the byte is before the 32 bytes of the measurement, so the write leaves the byte unchanged
      | inl before_start ↦
          inl
          (unchanged_outside_write shared.memory (a1 hart_state) info.measurement byte (write shared.memory (a1 hart_state) info.measurement) refl
          (inl before_start))
      | inr from_start ↦ elim (cases_lt byte (a1 hart_state + 32)) [
        -- the byte is one of the 32 bytes of the measurement
        | inl before_end ↦ inr (inr (is_measured from_start before_end))
        -- the byte is after the 32 bytes of the measurement, so the write leaves the byte unchanged
        | inr after_end ↦
            let measurement_length = slot_valid.measured in
            inl
            (unchanged_outside_write shared.memory (a1 hart_state) info.measurement byte (write shared.memory (a1 hart_state) info.measurement) refl
            (inr (rw measurement_length after_end)))
      ]
    ]

    -- a measure changes only bytes that the call may change
    measure_changes_bytes : Changes hart_state.world hart_state.hart.regs shared byte (measured shared slot (a1 hart_state))
    unfolding measured
    measure_changes_bytes = measurement_write_changes (slot_at shared.table slot) (valid.well_formed slot) live

-- The hart has the PMP layout of the table and its world. The lemmas are about one byte of memory.
module _ (hart_state : HartState) (shared : Shared) (valid : IsValid shared.memory shared.table)
    (entries_are_layout : hart_state.hart.csrs.pmp ≡ layout shared.table hart_state.world) (byte : ℕ)
    (trap : Trap) where
  -- the byte is unchanged after the trap handler, or the cause is a call that may change the byte
  abbrev ChangedBy : Shared → Type 0
  ChangedBy after =
      byte_at after.memory byte ≡ byte_at shared.memory byte
      ⊎ ((is_call trap.cause ≡ true) × ByMonitor hart_state.world hart_state.hart.regs shared after byte)

  -- if the trap requests a call that may change the byte, then the byte may change
  change_by_call : (call : Call) (after : Shared) → Requests hart_state trap.cause call
      → Changes hart_state.world hart_state.hart.regs shared byte after
      → ChangedBy after
  change_by_call call after requests (inl unchanged) = inl unchanged
  change_by_call call after requests (inr changed_by_call) = let cause_is_ecall = requests.is_call in inr (rw cause_is_ecall refl, changed_by_call)

  -- the trap handler changes only bytes that the requested call may change
  handler_changes_bytes : ChangedBy (handled hart_state shared trap).shared
  unfolding created entered_slot left
  -- only a destroy and a measure change bytes
  handler_changes_bytes = handler_cases hart_state trap shared (λ result. ChangedBy result.shared) (record {
    answers = λ status result. inl refl;
    creates = λ requests no_refusal. inl refl;
    destroys =
        λ requests slot_accepted. change_by_call Destroy (destroyed shared (a0 hart_state)) requests
        (destroy_changes_region hart_state shared byte valid requests.asked slot_accepted);
    measures = λ requests no_refusal.
        change_by_call Measure (measured shared (measured_slot hart_state.world (a0 hart_state)) (a1 hart_state)) requests
        (measure_changes_bytes hart_state shared valid byte requests.asked no_refusal.live
        (subst (λ (entries : Entries). may_store_all shared.memory entries (a1 hart_state) ≡ true) entries_are_layout no_refusal.stores));
    enters = λ call requests is_entry_call from_host slot_accepted. inl refl;
    leaves = inl refl;
    redirects = inl refl;
  })

-- ---- the bare step

-- the bare step of a view with the invariant, and one byte of memory
module _ (view : HartView) (view_invariant : HartViewInvariant view) (byte : ℕ) where
  -- a byte outside the store of the step is unchanged
  abbrev UnchangedOrStored : Option Span → List ℕ → Type 0
  UnchangedOrStored stored memory =
      byte_at memory byte ≡ byte_at view.shared.memory byte ⊎ IsStoredAccessible view.hart_state.world view.shared stored byte

  -- a permitted store changes only bytes that the running world may write
  store_is_permitted : (stored : Option Span) (bytes after : List ℕ)
      → MayTouch (bare_machine view) (data_mode view.hart_state.hart) Write stored
      → Stores bytes view.shared.memory after stored → UnchangedOrStored stored after
  store_is_permitted None bytes after may_touch after_is = inl (ap (λ (memory : List ℕ). byte_at memory byte) after_is)
  store_is_permitted (Some span) bytes after (inside_memory, permitted) (stored_size, write_is) =
      let mode_below_m = below_M (data_mode view.hart_state.hart) (data_below view view_invariant) in
      elim (cases_lt byte span.addr) [
        -- the byte is before the stored bytes, so the store leaves the byte unchanged
        | inl before_start ↦ inl (byte_at-write view.shared.memory span.addr bytes after byte write_is (inl before_start))
        | inr from_start ↦ elim (cases_lt byte (span.addr + bytes_in span.len)) [
          -- the byte is a stored byte, and the PMP permitted the store
          | inl before_end ↦
              inr (record {
                span = span;
                is = refl;
                low = from_start;
                high = before_end;
                accessible =
                    sym (access_control_law view (data_mode view.hart_state.hart) Write span.addr span.len view_invariant mode_below_m inside_memory)
                    ∙ permitted;
              })
          -- the byte is after the stored bytes, so the store leaves the byte unchanged
          | inr after_end ↦
              inl (byte_at-write view.shared.memory span.addr bytes after byte write_is (inr (rw stored_size after_end)))
        ]
      ]

  -- the bare step changes only bytes that the running world may write
  bare_changes : (after : Stepped) → IsConfined (bare_machine view) after → TouchesPermitted (bare_machine view) after
      → UnchangedOrStored after.outcome.touched.stored after.state.memory
  bare_changes after confined_after touches_permitted_bytes =
      let same_memory = equal_to_itself view.shared.memory after.outcome.touched in
      store_is_permitted after.outcome.touched.stored confined_after.bytes after.state.memory touches_permitted_bytes.stored
      (confined_after.alike view.shared.memory same_memory).here

-- proves that a step changes only bytes that its world may write, or bytes that its call of the monitor may change
pub changes : (view : HartView) → HartViewInvariant view → ChangesAccessible view (monitored_step view)
changes view view_invariant byte =
    step_cases view (λ after. byte_at after.state.shared.memory byte ≡ byte_at view.shared.memory byte ⊎ IsChanged view after byte)
    (λ no_trap. elim (bare_changes view view_invariant byte (step (bare_machine view)) (confined (bare_machine view))
    (touches_permitted (bare_machine view))) [
      | inl unchanged ↦ inl unchanged
      -- without a trap, only the instruction changes bytes
      | inr stored ↦ inr (inl stored)
    ])
    (λ trap trapped. elim (handler_changes_bytes
    (hart_state_after view.hart_state trap) view.shared view_invariant.valid view_invariant.hart.layout.entries byte trap) [
      | inl unchanged ↦ inl unchanged
      -- with a trap, only the trap handler changes bytes
      | inr (is_ecall, change) ↦ inr (inr (record { trap = trap; trapped = trapped; is = is_ecall; change = change }))
    ])
