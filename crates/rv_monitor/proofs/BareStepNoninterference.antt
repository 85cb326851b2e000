-- A bare step neither reads nor writes the region of an enclave other than the running world, in a state that satisfies the invariant. A bare step is
-- a step of the hart without the monitor.
use Rattle.std.proofs.Common.{◌≡◌, ℕ, Bool, false, List, Option, Some, None}
use Rattle.rv_enclaves.proofs.EqualMemory.{IsSeen, same_read, same_write}
use Rattle.rv_enclaves.proofs.EqualMemory.{inside-bounds}
use Rattle.rv_memory.specs.declared.touched.Touched.{Touched}
use Rattle.rv_monitor.specs.Prelude.{Access, EqualOutside, Fetch, Mode, Read, Span, Machine, bytes_in, data_mode, is_machine, is_private}
use Rattle.rv_monitor.specs.Prelude.{is_world_of, step}
use Rattle.rv_monitor.proofs.Prelude.{EqualOn, BareLaw, HartViewInvariant, MayTouch, MayTouchAll, HartView, SameIn, StepAlike, Stores, bare_machine}
use Rattle.rv_monitor.proofs.Prelude.{confined, permitted_apart, small_ram, some_bytes, touches_permitted}
use Rattle.rv_monitor.proofs.AccessControlLemmas.{below_M, data_below}

-- A bare step over the memory of the state, and over another memory with equal bytes outside the hidden bytes. No permitted access of the step has
-- a hidden byte.
module _ (hidden : ℕ → Bool) (view : HartView) (view_invariant : HartViewInvariant view)
    (not_hidden : (mode : Mode) (access : Access) (span : Span) → is_machine mode ≡ false → MayTouch (bare_machine view) mode access (Some span)
    → IsSeen hidden span.addr (bytes_in span.len)) where
  -- the bare machine before the step: the hart with the memory of the state
  abbrev before : Machine
  before = bare_machine view

  -- both memories have equal bytes in each permitted access below M
  accessed_bytes_equal : (mode : Mode) (access : Access) (touched : Option Span) (other_memory : List ℕ) → is_machine mode ≡ false
      → MayTouch before mode access touched
      → EqualOutside hidden before.memory other_memory → SameIn before.memory other_memory touched
  accessed_bytes_equal mode access None other_memory mode_below_m may_touch equal_outside = tt
  accessed_bytes_equal mode access (Some span) other_memory mode_below_m may_touch equal_outside =
      let (inside_memory, _) = may_touch in
      same_read hidden before.memory other_memory span.addr (bytes_in span.len) equal_outside inside_memory
      (not_hidden mode access span mode_below_m may_touch)

  -- both memories have equal bytes in all accesses of the step
  accesses_equal : (touched : Touched) (other_memory : List ℕ) → MayTouchAll before touched
      → EqualOutside hidden before.memory other_memory
      → EqualOn before.memory other_memory touched
  accesses_equal touched other_memory touches_permitted_bytes equal_outside = record {
    size = equal_outside.size;
    fetched =
        accessed_bytes_equal before.hart.mode Fetch touched.fetched other_memory view_invariant.hart.layout.mode touches_permitted_bytes.fetched
        equal_outside;
    loaded =
        accessed_bytes_equal (data_mode before.hart) Read touched.loaded other_memory
        (data_below view view_invariant) touches_permitted_bytes.loaded equal_outside;
  }

  -- equal stores leave both memories equal outside the hidden bytes
  same_stores : (stored : Option Span) (other_memory bytes after other_after : List ℕ)
      → EqualOutside hidden before.memory other_memory
      → Stores bytes before.memory after stored
      → Stores bytes other_memory other_after stored
      → EqualOutside hidden after other_after
  same_stores None other_memory bytes after other_after equal_outside first_stores second_stores =
      rw (first_stores, second_stores) equal_outside
  same_stores (Some span) other_memory bytes after other_after equal_outside (_, first_write_is) (_, second_write_is) =
      same_write hidden before.memory other_memory span.addr bytes after other_after equal_outside first_write_is second_write_is

  -- the bare step has the same effect on both memories, and leaves them equal outside the hidden bytes
  pub bare_step_alike : (other_memory : List ℕ) → EqualOutside hidden before.memory other_memory
      → StepAlike hidden (step before) (step (record before { memory = other_memory }))
  bare_step_alike other_memory equal_outside =
      let after = step before in
      let is_confined = confined before in
      let alike =
      is_confined.alike other_memory (accesses_equal after.outcome.touched other_memory (touches_permitted before) equal_outside) in
      record {
        hart = alike.hart;
        outcome = alike.outcome;
        memory =
            same_stores after.outcome.touched.stored other_memory is_confined.bytes after.state.memory
            (step (record before { memory = other_memory })).state.memory equal_outside alike.here alike.there;
      }

-- ---- the hidden bytes are the region of an enclave other than the running world

-- the hart of the view does not run `enclave`
module _ (enclave : ℕ) (view : HartView) (view_invariant : HartViewInvariant view)
    (runs_other_world : is_world_of enclave view.hart_state.world ≡ false) where
  -- a permitted access of the running world has no byte in the region of another enclave
  accesses_no_private_byte : (mode : Mode) (access : Access) (span : Span) → is_machine mode ≡ false
      → MayTouch (bare_machine view) mode access (Some span)
      → IsSeen (is_private view.shared.table enclave) span.addr (bytes_in span.len)
  accesses_no_private_byte mode access span mode_below_m (inside_memory, permitted) byte from_start before_end =
      let entries = view_invariant.hart.layout.entries in
      let outside_other_regions =
      permitted_apart view.shared.memory view.shared.table view.hart_state.world mode access span.addr (bytes_in span.len)
      (small_ram view.shared.memory view_invariant.valid.ram) view_invariant.valid (below_M mode mode_below_m) (some_bytes span.len)
      (inside-bounds view.shared.memory span.addr (bytes_in span.len) inside_memory) in
      outside_other_regions enclave runs_other_world (rw (← entries) permitted) byte from_start before_end

-- proves the bare law: a bare step depends on no byte in the region of another enclave
pub bare_law : BareLaw
bare_law enclave view memory view_invariant runs_other_world equal_outside =
    bare_step_alike (is_private view.shared.table enclave) view view_invariant
    (accesses_no_private_byte enclave view view_invariant runs_other_world) memory equal_outside
