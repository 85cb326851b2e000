-- Pokes into the region of an enclave: two benches that are equivalent except for it stay so, whatever the bytes are.
use Rattle.std.proofs.Common.{◌≡◌, ℕ, ◌+◌, ◌-◌, ◌≤◌, Bool, true, false, List, [], ◌∷◌, length, Option, Some, None, IfSome, refl, sym, ◌∙◌, ap, subst}
use Rattle.std.proofs.Common.{inl, inr, arith}
use Rattle.std.specs.Prelude.{is_some, nat_le, nat_lt, ◌==◌, ◌%◌}
use Rattle.rv_enclaves.specs.Table.{region_of}
use Rattle.rv_enclaves.specs.declared.slot_info.SlotInfo.{SlotInfo}
use Rattle.rv_enclaves.proofs.EqualMemory.{inside-bounds, write-some}
use Rattle.rv_enclaves.specs.SharedEquivExcept.{EqualOutside, is_private}
use Rattle.rv_debug.specs.Prelude.{Bare, Invariant, IsValidSlot, MonitoredMachine, Monitored, Poke, Slots, Target, has, is_block_size, is_inside}
use Rattle.rv_debug.specs.Prelude.{is_valid_block, ram_base, region, slot_at, with_memory, write, write_bytes}
use Rattle.rv_debug.proofs.Prelude.{BenchState, BenchesEquivExcept, Selected, SelectedEquivExcept, TargetInvariant, CommandAlike, PokeLaw}
use Rattle.rv_debug.proofs.Prelude.{TargetsEquivExcept, equiv_itself, and_from, and_parts, execute, cases_lt, index-above, index-below, itself}
use Rattle.rv_debug.proofs.Prelude.{le-leb, leb-true, length-write, ltb-true, region_in, shared_equiv, write-is}

-- ---- memory

-- if two memories are equal outside hidden bytes, they still are after a write of a hidden byte to the first
hidden_write : (hidden : ℕ → Bool) (memory other_memory : List ℕ) (address byte : ℕ) (memory_after : List ℕ) → EqualOutside hidden memory other_memory
    → write memory address (byte ∷ []) ≡ Some memory_after → hidden address ≡ true → EqualOutside hidden memory_after other_memory
hidden_write hidden memory other_memory address byte memory_after equiv poke_succeeds is_hidden =
    let (from_ram_base, to_ram_end, memory_after_is) = write-is memory address (byte ∷ []) memory_after poke_succeeds in
    let index = address - ram_base in
    let within : index + 1 ≤ length memory = omega (arith, from_ram_base, to_ram_end) in
    record {
      size = length-write memory address (byte ∷ []) memory_after poke_succeeds ∙ equiv.size;
      bytes = λ byte_index not_hidden. rw memory_after_is (elim (cases_lt byte_index index) [
        | inl below_byte ↦ index-below memory index (byte ∷ []) byte_index within below_byte ∙ equiv.bytes byte_index not_hidden
        | inr not_below_byte ↦ elim (cases_lt byte_index (index + 1)) [
          | inl is_byte ↦
              let byte_address : ram_base + byte_index ≡ address = omega (arith, from_ram_base) in
              let contradiction : true ≡ false = sym is_hidden ∙ ap hidden (sym byte_address) ∙ not_hidden in cc
          | inr above_byte ↦ index-above memory index (byte ∷ []) byte_index within above_byte ∙ equiv.bytes byte_index not_hidden
        ]
      ]);
    }

-- if two memories are equal outside hidden bytes, they still are after a write of a hidden byte to each
pub hidden_writes : (hidden : ℕ → Bool) (memory other_memory : List ℕ) (address other_address byte other_byte : ℕ) (memory_after other_after : List ℕ)
    → EqualOutside hidden memory other_memory → write memory address (byte ∷ []) ≡ Some memory_after
    → write other_memory other_address (other_byte ∷ []) ≡ Some other_after
    → hidden address ≡ true → hidden other_address ≡ true → EqualOutside hidden memory_after other_after
hidden_writes hidden memory other_memory address other_address byte other_byte memory_after other_after equiv write_to_one write_to_other
    is_hidden other_is_hidden =
    swapped (hidden_write hidden other_memory memory_after other_address other_byte other_after
    (swapped (hidden_write hidden memory other_memory address byte memory_after equiv write_to_one is_hidden)) write_to_other other_is_hidden) where
      -- equality outside hidden bytes is symmetric
      swapped : {left right : List ℕ} → EqualOutside hidden left right → EqualOutside hidden right left
      swapped equiv = record { size = sym equiv.size; bytes = λ byte_index not_hidden. sym (equiv.bytes byte_index not_hidden) }

-- ---- the region

-- a slot whose region has a byte is live
pub live_if_in_region : (maybe_info : Option SlotInfo) (address : ℕ) → has (region_of maybe_info) address ≡ true → is_some maybe_info ≡ true
live_if_in_region None address in_region =
    let (not_below_0, before_end) = and_parts (nat_le 0 address) (nat_lt address 0) in_region in
    let address_below_0 = ltb-true address 0 before_end in
    absurd (omega (arith, address_below_0))
live_if_in_region (Some info) address in_region = refl

-- a byte of the region of a slot is in RAM, if the record of the slot is valid
region_in_ram : (memory : List ℕ) (maybe_info : Option SlotInfo) (address : ℕ) → IfSome maybe_info (IsValidSlot memory)
    → has (region_of maybe_info) address ≡ true
    → is_inside memory address 1 ≡ true
unfolding is_valid_block
region_in_ram memory None address valid in_region =
    let contradiction = live_if_in_region None address in_region in
    cc
region_in_ram memory (Some info) address valid in_region =
    let block = info.region in
    -- a valid block has a permitted size, its base is a multiple of the size, and it is inside memory
    let (size_is_permitted, aligned_and_inside) = and_parts (is_block_size block.size) _ valid.region in
    let (base_is_aligned, block_is_inside) = and_parts (block.base % block.size == 0) _ aligned_and_inside in
    let (block_from_ram_base, block_to_ram_end) = inside-bounds memory block.base block.size block_is_inside in
    let (not_below_base, before_end) = and_parts (nat_le block.base address) (nat_lt address (block.base + block.size)) in_region in
    let at_or_above_base = leb-true _ _ not_below_base in
    let below_end = ltb-true _ _ before_end in
    and_from _ _ (le-leb ram_base address (omega (arith, block_from_ram_base, at_or_above_base)))
    (le-leb (address + 1) (ram_base + length memory) (omega (arith, block_to_ram_end, below_end)))

-- a poke into the region of an enclave is in RAM, and so succeeds
pub poke_succeeds : (state : MonitoredMachine) (enclave address byte : ℕ) → Invariant state → has (region state.shared.table enclave) address ≡ true
    → write state.shared.memory address (byte ∷ []) ≡ Some (write_bytes state.shared.memory (address - ram_base) (byte ∷ []))
poke_succeeds state enclave address byte invariant in_region =
    write-some state.shared.memory address (byte ∷ [])
    (region_in_ram state.shared.memory (slot_at state.shared.table enclave) address (invariant.shared.valid.well_formed enclave) in_region)

-- ---- machines

-- a byte is written into the region of `enclave` in each of two equivalent machines
module _ (enclave : ℕ) (one other : Selected) (address other_address byte other_byte : ℕ) (equiv : SelectedEquivExcept enclave one other)
    (memory_after other_after : List ℕ)
    (write_to_one : write one.state.shared.memory address (byte ∷ []) ≡ Some memory_after)
    (write_to_other : write other.state.shared.memory other_address (other_byte ∷ []) ≡ Some other_after)
    (in_region : has (region one.state.shared.table enclave) address ≡ true)
    (other_in_region : has (region one.state.shared.table enclave) other_address ≡ true) where
  -- two pokes into the region leave equivalent machines
  machines_equiv : SelectedEquivExcept enclave (record one { state = with_memory one.state memory_after })
      (record other { state = with_memory other.state other_after })
  machines_equiv =
      let state = equiv.state in
      let shared = state.shared in
      record {
        hart = equiv.hart;
        state = shared_equiv enclave one.state other.state _ _ state (record {
          table = shared.table;
          memory = hidden_writes (is_private one.state.shared.table enclave) one.state.shared.memory other.state.shared.memory address other_address
              byte other_byte memory_after other_after
              shared.memory write_to_one write_to_other in_region other_in_region;
          contexts = shared.contexts;
          gone = λ not_live. let contradiction : true ≡ false = sym (live_if_in_region (slot_at one.state.shared.table enclave) address in_region)
              ∙ not_live in cc;
        });
      }

-- ---- benches

-- Two pokes into the region, of any bytes to any addresses, are alike in two benches with equivalent targets. Both pokes succeed, since the region is
-- in RAM, and change only private bytes.
targets_alike : (enclave : ℕ) (one other : Target) (breaks watches : List ℕ) (address other_address byte other_byte : ℕ)
    → TargetInvariant one → TargetInvariant other → TargetsEquivExcept enclave one other
    → has (region_in enclave one) address ≡ true → has (region_in enclave other) other_address ≡ true
    → CommandAlike enclave (execute (record { target = one; breaks = breaks; watches = watches }) (Poke address byte))
    (execute (record { target = other; breaks = breaks; watches = watches }) (Poke other_address other_byte))
unfolding execute
targets_alike enclave (Monitored one) (Monitored other) breaks watches address other_address byte other_byte invariant other_invariant equiv
    in_region other_in_region =
    let write_to_one = poke_succeeds one.state enclave address byte invariant in_region in
    let write_to_other = poke_succeeds other.state enclave other_address other_byte other_invariant other_in_region in
    let same_table = (let state = equiv.state in state.shared.table) in
    let alike_after = machines_equiv enclave one other address other_address byte other_byte equiv _ _ write_to_one write_to_other in_region
    (ap (λ (slots : Slots). has (region slots enclave) other_address) same_table
    ∙ other_in_region) in
    rw (write_to_one, write_to_other) (record {
      reply = refl;
      entered = refl;
      state = record {
        but = record { target = alike_after; breaks = refl; watches = refl };
        gone = λ not_live. let contradiction : true ≡ false = sym (live_if_in_region (slot_at one.state.shared.table enclave) address in_region)
            ∙ not_live in cc;
      };
    })
targets_alike enclave (Bare one) other breaks watches address other_address byte other_byte invariant other_invariant equiv in_region
    other_in_region = let contradiction = live_if_in_region None address in_region in cc
targets_alike enclave (Monitored one) (Bare other) breaks watches address other_address byte other_byte invariant other_invariant equiv in_region
    other_in_region = absurd equiv

-- Proves the law of pokes into the region. The second bench is rewritten to the breakpoints and watchpoints of the first.
pub poke_law : PokeLaw
poke_law enclave bench other_bench (Poke address byte) (Poke other_address other_byte) invariant other_invariant equiv in_region other_in_region =
    subst (λ (breaks : List ℕ). CommandAlike enclave (execute bench (Poke address byte))
    (execute (record other_bench { breaks = breaks }) (Poke other_address other_byte))) equiv.breaks
    (subst (λ (watches : List ℕ). CommandAlike enclave (execute bench (Poke address byte))
    (execute (record other_bench { breaks = bench.breaks; watches = watches }) (Poke other_address other_byte))) equiv.watches
    (targets_alike enclave bench.target other_bench.target bench.breaks bench.watches address other_address byte other_byte invariant other_invariant
    equiv.target in_region other_in_region))
poke_law enclave bench other_bench (Poke address byte) _ invariant other_invariant equiv in_region other_in_region = absurd other_in_region
poke_law enclave bench other_bench _ other_command invariant other_invariant equiv in_region other_in_region = absurd in_region

-- ---- a bench is equivalent to itself

-- each target is equivalent to itself
targets_itself : (enclave : ℕ) (target : Target) → TargetsEquivExcept enclave target target
targets_itself enclave (Bare machine) = refl
targets_itself enclave (Monitored selected) =
    record { hart = refl; state = equiv_itself enclave selected.state (itself enclave selected.state.shared) }

-- each bench is equivalent to itself except for each slot
pub equiv_with_itself : (enclave : ℕ) (bench : BenchState) → BenchesEquivExcept enclave bench bench
equiv_with_itself enclave bench = record { target = targets_itself enclave bench.target; breaks = refl; watches = refl }
