-- A low step of two related machines while the enclave runs on another hart has equal outcomes, and leaves the machines related. The machines need
-- equal bytes in the window of the enclave only where the step reads.
use Rattle.std.proofs.Common.{◌≡◌, ◌<◌, ℕ, zero, suc, ◌+◌, ◌-◌, ◌==◌, Bool, true, false, List, [], ◌∷◌, length, Option, Some, None, refl, sym, ◌∙◌, ap, subst}
use Rattle.std.proofs.Common.{inl, inr, arith}
use Rattle.std.specs.Prelude.{◌&&◌, ◌||◌, not, map, slice_index}
use Rattle.rv_memory.proofs.BlockLaws.{apart_at}
use Rattle.rv_enclaves.proofs.Slots.{free_from}
use Rattle.rv_enclaves.specs.Table.{runs, window, window_of}
use Rattle.rv_monitor.specs.Declassification.{AreRelated, EquivToGuests, IsLowStep, SameHost, SameWindow, may_differ}
use Rattle.rv_monitor.specs.GuestView.{guest_state}
use Rattle.rv_monitor.specs.Prelude.{Access, Contexts, EqualOutside, Fetch, HartState, Outcome, Read, Shared, Slots, Span, bytes_in}
use Rattle.rv_monitor.specs.Prelude.{context_at, has, is_live, is_running, is_world_of, option_case, ram_base, region, region_of, slot_at}
use Rattle.rv_monitor.specs.Reads.{SameWindowRead, in_span, reads_byte}
use Rattle.rv_monitor.specs.Touches.{IsTouchedAccessible, SpanIsAccessible}
use Rattle.rv_monitor.proofs.Prelude.{HartStatesEquivExcept, HartViewStepped, Invariant, MonitoredMachine, MonitoredStepped, SlotInfo, accessible_apart}
use Rattle.rv_monitor.proofs.Prelude.{and_parts, both_ways, cases_Bool, cases_lt, count_of, eq-eqb, eqb-true, hart_state_of, hart_view}
use Rattle.rv_monitor.proofs.Prelude.{list_any, monitored_step, runs_on, step_of}
use Rattle.rv_monitor.proofs.Beside.{running_is_live}
use Rattle.rv_monitor.proofs.GuestEquiv.{GuestStepEquiv, guest_step_equiv, same_hosts_after}
use Rattle.rv_monitor.proofs.HartCases.{outside, step_of_view}
use Rattle.rv_monitor.specs.MonitoredMachine.{hart_state_in}
use Rattle.rv_monitor.proofs.Integrity.{integrity}
use Rattle.rv_monitor.proofs.InvariantLemmas.{hart_view_invariant, invariant_by_size}
use Rattle.rv_monitor.proofs.RelatedEquiv.{equiv_related, related_equiv}
use Rattle.rv_monitor.proofs.SchedIntegrity.{others_keep_running_law}
use Rattle.rv_monitor.proofs.SteppedOver.{MachineOver, MeasuresSeen, ReadsSeen, machine_over, over_bytes}
use Rattle.rv_monitor.proofs.Touched.{touch_law}
use Rattle.std.proofs.lemmas.Bool.{leb-true, ltb-true, not-false}
use Rattle.rv_monitor.proofs.Booleans.{left_if_nand_fails, nand_fails, right_if_not_left}

-- ---- the bytes in which two memories differ

-- whether two memories differ at an address
abbrev pub differs : List ℕ → List ℕ → ℕ → Bool
differs memory other_memory byte =
    not (slice_index memory (byte - ram_base) == slice_index other_memory (byte - ram_base))

-- two memories with equal bytes at an index do not differ at the address of this index
pub same_does_not_differ : (memory other_memory : List ℕ) (index : ℕ)
    → slice_index memory index ≡ slice_index other_memory index
    → differs memory other_memory (ram_base + index) ≡ false
same_does_not_differ memory other_memory index same_element =
    let index_is : ram_base + index - ram_base ≡ index = omega arith in
    rw index_is (ap not (eq-eqb (slice_index memory index) (slice_index other_memory index) same_element))

-- two memories of the same size are equal outside the addresses at which they differ
pub equal_outside_differing : (memory other_memory : List ℕ) → length memory ≡ length other_memory
    → EqualOutside (differs memory other_memory) memory other_memory
equal_outside_differing memory other_memory same_length = record {
  size = same_length;
  bytes = λ index not_differing.
      let index_is : ram_base + index - ram_base ≡ index = omega arith in
      let bytes_equal : (slice_index memory index == slice_index other_memory index) ≡ true =
      not-false _ (rw index_is at not_differing) in
      eqb-true (slice_index memory index) (slice_index other_memory index) bytes_equal;
}

-- ---- a hart on which a running enclave runs

-- `enclave` runs on this hart
pub record RunsSomewhere (enclave : ℕ) (machine : MonitoredMachine) : Type 0 where
  -- a hart on which the enclave runs
  pub hart : ℕ
  pub runs : runs_on enclave hart machine ≡ true

-- if some hart state of a list runs the enclave, then the hart state at some index runs the enclave
hart_in_list : (enclave : ℕ) (hart_states : List HartState)
    → list_any (is_world_of enclave) (map (λ hart_state. hart_state.world) hart_states) ≡ true
    → (hart : ℕ) × (is_world_of enclave (hart_state_in hart_states hart).world ≡ true)
hart_in_list enclave [] some_runs = cc
hart_in_list enclave (hart_state ∷ hart_states) some_runs = elim (cases_Bool (is_world_of enclave hart_state.world)) [
  | inl runs_enclave ↦ (zero, runs_enclave)
  | inr other_runs ↦ let (index_in_rest, runs_enclave) = hart_in_list enclave hart_states (rw other_runs at some_runs) in
      (suc index_in_rest, runs_enclave)
]

-- an enclave with the state Running runs on some hart
pub runs_somewhere : (enclave : ℕ) (machine : MonitoredMachine) → Invariant machine
    → runs machine.shared.table enclave ≡ true
    → RunsSomewhere enclave machine
runs_somewhere enclave machine invariant running =
    let (hart, runs_enclave) = hart_in_list enclave machine.hart_states (sym (invariant.shared.running enclave) ∙ running) in
    record { hart = hart; runs = runs_enclave }

-- ---- the bytes that a step reads

-- bytes that are accessible to another world are not in the region of `enclave`
span_apart : (enclave : ℕ) (machine : MonitoredMachine) (hart : ℕ) (access : Access) (maybe_span : Option Span) → Invariant machine
    → hart < count_of machine
    → runs_on enclave hart machine ≡ false → SpanIsAccessible (hart_view hart machine) access maybe_span → (byte : ℕ)
    → in_span maybe_span byte ≡ true
    → has (region machine.shared.table enclave) byte ≡ false
span_apart enclave machine hart access None invariant in_range not_running is_accessible_span byte byte_in_span = cc
span_apart enclave machine hart access (Some span) invariant in_range not_running is_accessible_span byte byte_in_span =
    -- the byte is at or after the start of the span, and before its end
    let (start_test, end_test) = and_parts _ _ byte_in_span in
    accessible_apart machine.shared.memory machine.shared.table (hart_state_of hart machine).world access span.addr (bytes_in span.len) enclave
    invariant.shared.valid not_running is_accessible_span byte (leb-true _ _ start_test) (ltb-true _ _ end_test)

-- a low step reads no byte in the region of the enclave
pub reads_apart : (enclave hart : ℕ) (machine : MonitoredMachine) → Invariant machine
    → runs_on enclave hart machine ≡ false → (byte : ℕ)
    → reads_byte (step_of hart machine).outcome.step.touched byte ≡ true
    → has (region machine.shared.table enclave) byte ≡ false
reads_apart enclave hart machine invariant not_running byte byte_read = elim (cases_lt hart (count_of machine)) [
  -- a step with the number of no hart reads nothing
  | inr past_last ↦
      let contradiction : false ≡ true =
      sym (ap (λ (stepped : MonitoredStepped). reads_byte stepped.outcome.step.touched byte) (outside hart machine past_last)) ∙ byte_read in
      cc
  -- each byte that the step fetches or loads is accessible to the running world, which is not `enclave`
  | inl in_range ↦
      let view = hart_view hart machine in
      let step_is : (step_of hart machine).outcome.step ≡ (monitored_step view).outcome.step =
      ap (λ (stepped : HartViewStepped). stepped.outcome.step) (step_of_view hart machine in_range) in
      let accessed =
      subst (IsTouchedAccessible view) (sym step_is) (touch_law view (hart_view_invariant hart machine invariant in_range)) in
      let touched = (step_of hart machine).outcome.step.touched in
      elim (cases_Bool (in_span touched.fetched byte)) [
        | inl is_fetched ↦
            span_apart enclave machine hart Fetch touched.fetched invariant in_range not_running accessed.fetched byte is_fetched
        -- a byte that is read but not fetched is loaded
        | inr not_fetched ↦
            span_apart enclave machine hart Read touched.loaded invariant in_range not_running accessed.loaded byte
            (right_if_not_left _ _ byte_read not_fetched)
      ]
]

-- ---- the step

-- a byte that is not in the region, and is outside the window if the enclave runs now, passes the test `may_differ` with false
may_not_differ : (in_region runs_now in_window : Bool) → in_region ≡ false → (runs_now ≡ true → in_window ≡ false)
    → (in_region || (runs_now && in_window)) ≡ false
may_not_differ in_region true in_window outside_region outside_window = rw (outside_region, outside_window refl) refl
may_not_differ in_region false in_window outside_region outside_window = rw outside_region refl

-- two machines are related, and the same hart makes a low step in both while `enclave` runs on another hart
module _ (enclave hart : ℕ) (one other : MonitoredMachine) (invariant_one : Invariant one) (invariant_other : Invariant other)
    (related : AreRelated enclave one other)
    (low_step : IsLowStep enclave hart one other) (running : runs one.shared.table enclave ≡ true) where
  -- The mixed machine: the second machine with the memory of the first one.
  abbrev mixed : MonitoredMachine
  mixed = over_bytes other one.shared.memory

  -- the mixed machine has the invariant
  mixed_invariant : Invariant mixed
  mixed_invariant = invariant_by_size other one.shared.memory invariant_other (sym related.memory.size)

  -- the first machine is related to the mixed machine
  mixed_related : AreRelated enclave one mixed
  mixed_related = record {
    harts = related.harts;
    hart_states = related.hart_states;
    hosts = related.hosts;
    table = related.table;
    memory = record { size = refl; bytes = λ index not_hidden. refl };
    contexts = related.contexts;
    gone = λ not_live. ap (λ (shared : Shared). record shared { memory = one.shared.memory }) (related.gone not_live);
  }

  -- the first machine and the mixed machine are equivalent except `enclave` in the guest view
  mixed_equiv : EquivToGuests enclave one mixed
  mixed_equiv =
      related_equiv enclave one mixed mixed_related (λ enclave_runs. record { size = refl; bytes = λ index not_hidden. refl })

  -- the low steps of the first machine and of the mixed machine have equal outcomes, and leave machines that are equivalent in the guest view
  first_step : GuestStepEquiv enclave (step_of hart one) (step_of hart mixed)
  first_step = guest_step_equiv enclave hart one mixed invariant_one mixed_invariant mixed_equiv low_step.low

  -- the first machine and the mixed machine are related after the step
  related_after : AreRelated enclave (step_of hart one).state (step_of hart mixed).state
  related_after =
      equiv_related enclave (step_of hart one).state (step_of hart mixed).state first_step.state
      (same_hosts_after enclave hart one mixed invariant_one mixed_invariant mixed_equiv mixed_related.hosts low_step.low)

  -- each byte that the step reads is equal in the memories of both machines
  read_bytes_equal : (index : ℕ) → reads_byte (step_of hart one).outcome.step.touched (ram_base + index) ≡ true
      → slice_index one.shared.memory index ≡ slice_index other.shared.memory index
  read_bytes_equal index byte_read = elim (cases_Bool (has (window one.shared.table enclave) (ram_base + index))) [
    -- the bytes of the window that the step reads are equal
    | inl in_window ↦ (low_step.window running).bytes index (nand_fails _ _ in_window byte_read)
    -- a low step reads no byte of the region, and all bytes outside the region and the window are equal
    | inr outside_window ↦
        related.memory.bytes index
        (may_not_differ _ _ _ (reads_apart enclave hart one invariant_one low_step.low (ram_base + index) byte_read) (λ enclave_runs. outside_window))
  ]

  -- the step reads no byte in which the memories of both machines differ
  reads_seen : ReadsSeen (differs one.shared.memory other.shared.memory) (step_of hart mixed).outcome.step.touched
  reads_seen index byte_is_read =
      let touched = ap (λ (outcome : Outcome). reads_byte outcome.step.touched (ram_base + index)) first_step.outcome in
      same_does_not_differ one.shared.memory other.shared.memory index (read_bytes_equal index (touched ∙ byte_is_read))

  -- the step measures no byte in which the memories of both machines differ
  measures_seen : MeasuresSeen (differs one.shared.memory other.shared.memory)
      (hart_state_of hart mixed).world mixed.shared.table mixed.shared.contexts
  measures_seen host memory new no_refusal index in_new_region =
      let new_is_apart = (free_from other.shared.table new no_refusal.apart).others enclave in
      let table = related.table in
      let outside_region : has (region other.shared.table enclave) (ram_base + index) ≡ false =
      apart_at new.region (region other.shared.table enclave) (ram_base + index) new_is_apart.regions in_new_region in
      let outside_window : has (window other.shared.table enclave) (ram_base + index) ≡ false =
      apart_at new.region (window other.shared.table enclave) (ram_base + index) new_is_apart.window in_new_region in
      same_does_not_differ one.shared.memory other.shared.memory index
      (related.memory.bytes index (ap (λ (table : Slots). may_differ table enclave (ram_base + index)) table
      ∙ may_not_differ _ _ _ outside_region (λ enclave_runs. outside_window)))

  -- the steps of the mixed machine and of the second machine differ only in bytes that the step does not change
  mixed_step : MachineOver one.shared.memory other.shared.memory (step_of hart mixed) (step_of hart other)
  mixed_step =
      machine_over (differs one.shared.memory other.shared.memory) hart mixed other.shared.memory
      (equal_outside_differing one.shared.memory other.shared.memory related.memory.size) reads_seen measures_seen

  -- the record of the enclave is unchanged after the step, because the enclave runs on another hart
  record_unchanged : (slot_at (step_of hart one).state.shared.table enclave ≡ slot_at one.shared.table enclave)
      × (is_live (step_of hart one).state.shared.table enclave ≡ true)
  record_unchanged =
      let somewhere = runs_somewhere enclave one invariant_one running in
      let continues = others_keep_running_law hart one invariant_one enclave somewhere.hart somewhere.runs low_step.low in
      let live = running_is_live enclave somewhere.hart one invariant_one somewhere.runs in
      ((integrity hart one invariant_one enclave low_step.low live continues.passes continues.live).preserved.slot, continues.live)

  -- a low step of two related machines, while the enclave runs on another hart, has equal outcomes and leaves the machines related
  pub low_while_running : ((step_of hart one).outcome ≡ (step_of hart other).outcome)
      × AreRelated enclave (step_of hart one).state (step_of hart other).state
  low_while_running =
      let after_first = (step_of hart one).state in
      let hart_states = mixed_step.hart_states in
      let (same_record, still_live) = record_unchanged in
      let may_differ_by : Option SlotInfo → ℕ → Bool = λ maybe_info byte.
      has (region_of maybe_info) byte || (option_case maybe_info false (λ info. is_running info.state) && has (window_of maybe_info) byte) in (
        first_step.outcome ∙ mixed_step.outcome,
        record {
          harts = related_after.harts ∙ ap (λ (hart_states : List HartState). length hart_states) hart_states;
          -- the hart states after the step are equal in the mixed and the second machine
          hart_states = λ hart.
              subst
              (λ (hart_states : List HartState). HartStatesEquivExcept enclave (guest_state (hart_state_of hart after_first))
              (guest_state (hart_state_in hart_states hart))) hart_states
              (related_after.hart_states hart);
          hosts = λ hart runs_on_hart.
              subst (λ (hart_states : List HartState). SameHost (guest_state (hart_state_of hart after_first))
              (guest_state (hart_state_in hart_states hart))) hart_states
              (related_after.hosts hart runs_on_hart);
          table = related_after.table ∙ mixed_step.shared.table;
          memory = record {
            size = related_after.memory.size ∙ mixed_step.shared.size;
            -- each byte is unchanged in both memories, or has the same new value in both
            bytes = λ index not_hidden. elim (mixed_step.shared.changes index) [
              | inr bytes_equal ↦ related_after.memory.bytes index not_hidden ∙ bytes_equal
              | inl (mixed_unchanged, other_unchanged) ↦
                  let before =
                  ap (λ (maybe_info : Option SlotInfo). may_differ_by maybe_info (ram_base + index)) (sym same_record) ∙ not_hidden in
                  related_after.memory.bytes index not_hidden ∙ mixed_unchanged
                  ∙ related.memory.bytes index before ∙ sym other_unchanged
            ];
          };
          -- the saved contexts after the step are equal in the mixed and the second machine
          contexts = record {
            size = related_after.contexts.size ∙ ap (λ (contexts : Contexts). length contexts) mixed_step.shared.contexts;
            others =
                λ slot distinct. related_after.contexts.others slot distinct
                ∙ ap (λ (contexts : Contexts). context_at contexts slot) mixed_step.shared.contexts;
          };
          gone = λ not_live. absurd (both_ways _ not_live still_live);
        },
      )

-- ---- equal windows

-- if all bytes of the window are equal in two machines, then so are the bytes of the window that a step reads
pub window_read : (enclave hart : ℕ) (one other : MonitoredMachine) → SameWindow enclave one other
    → SameWindowRead enclave hart one other
window_read enclave hart one other bytes_equal =
    record { size = bytes_equal.size; bytes = λ index not_hidden. bytes_equal.bytes index (left_if_nand_fails _ _ not_hidden) }
