-- Scramble preserves the invariant of the shared state, and changes only what is private to the scrambled enclave.
use Rattle.std.proofs.Common.{◌≡◌, ℕ, ◌+◌, ◌-◌, ◌<◌, true, false, List, length, Option, Some, None, IfSome, refl, sym, ap, ◌∙◌, inl, inr, arith, subst}
use Rattle.std.proofs.Common.{length-set}
use Rattle.std.specs.Prelude.{is_some, nat_le, nat_lt}
use Rattle.std.specs.Option.{option_map}
use Rattle.std.proofs.lemmas.Bool.{cases_lt, cases_eq, cases_Bool, and_from, le-leb, lt-ltb, not-true}
use Rattle.rv_memory.proofs.Complements.{with_complements, length-with_complements, below, above, inside-index, complemented-is}
use Rattle.rv_enclaves.specs.CallLaws.{ScrambledLaw}
use Rattle.rv_enclaves.specs.Scramble.{can_scramble, complemented_context, complemented_block, scrambled_shared}
use Rattle.rv_enclaves.specs.SlotNumbers.{slot_count}
use Rattle.rv_enclaves.proofs.Prelude.{EqualOutside, Block, Context, Contexts, SharedInvariant, Shared, SharedEquivExcept, SlotInfo, World}
use Rattle.rv_enclaves.proofs.Prelude.{can_go_on, context_at, has}
use Rattle.rv_enclaves.proofs.Prelude.{is_held, is_inside, is_live, is_running, option_case, ram_base, region, runs, slot_at, with_context}
use Rattle.rv_enclaves.proofs.EqualMemory.{inside-bounds, read-none}
use Rattle.rv_enclaves.proofs.Slots.{at_written_slot, at_other_slot}
use Rattle.rv_enclaves.proofs.SharedInvariantLemmas.{live_in_range}
use Rattle.rv_enclaves.proofs.Valid.{valid_by_size}

-- ---- memory

-- the complement of a block inside memory changes no byte outside the block
complement_agrees_outside : (memory : List ℕ) (block : Block) → is_inside memory block.base block.size ≡ true
    → EqualOutside (has block) memory (with_complements memory (block.base - ram_base) block.size)
complement_agrees_outside memory block inside =
    let (from_ram_base, to_ram_end) = inside-bounds memory block.base block.size inside in
    let index = block.base - ram_base in
    let fits = inside-index memory block.base block.size inside in
    record {
      size = sym (length-with_complements memory index block.size fits);
      bytes = λ byte_index not_hidden. elim (cases_lt byte_index index) [
        -- an index before the block
        | inl before_start ↦ sym (below memory index block.size byte_index fits before_start)
        | inr from_start ↦ elim (cases_lt byte_index (index + block.size)) [
          -- an index in the block: its address is hidden, against the premise
          | inl before_end ↦
              let from_base : nat_le block.base (ram_base + byte_index) ≡ true =
              le-leb block.base (ram_base + byte_index) (omega (arith, from_ram_base)) in
              let before_block_end : nat_lt (ram_base + byte_index) (block.base + block.size) ≡ true =
              lt-ltb (ram_base + byte_index) (block.base + block.size) (omega (arith, from_ram_base)) in
              let contradiction : true ≡ false = sym (and_from _ _ from_base before_block_end) ∙ not_hidden in cc
          -- an index after the block
          | inr after_end ↦ sym (above memory index block.size byte_index fits after_end)
        ]
      ];
    }

-- the complement of any block changes no byte outside the block
complemented_block_agrees : (memory : List ℕ) (block : Block) → EqualOutside (has block) memory (complemented_block memory block)
complemented_block_agrees memory block = elim (cases_Bool (is_inside memory block.base block.size)) [
  | inl inside ↦
      let complement_is = complemented-is memory block.base block.size inside in
      rw complement_is (complement_agrees_outside memory block inside)
  | inr outside ↦
      let reads_none = read-none memory block.base block.size outside in
      rw reads_none (record { size = refl; bytes = λ byte_index not_hidden. refl })
]

-- ---- contexts

-- the complement of a context is a context, and the complement of None is None
complement_is_present : (maybe_context : Option Context) → is_some (option_map complemented_context maybe_context) ≡ is_some maybe_context
complement_is_present None = refl
complement_is_present (Some context) = refl

-- a hart can continue with the complement of each context with which it can continue
complement_can_continue : (maybe_context : Option Context) → IfSome maybe_context (λ context. can_go_on context ≡ true)
    → IfSome (option_map complemented_context maybe_context) (λ context. can_go_on context ≡ true)
complement_can_continue None can_continue = tt
complement_can_continue (Some context) can_continue = can_continue

-- ---- the slot

-- `slot` has a live enclave that does not run, and is a slot of the table
record MayScramble (shared : Shared) (slot : ℕ) : Type 0 where
  pub live : is_live shared.table slot ≡ true
  pub not_running : runs shared.table slot ≡ false
  pub in_range : slot < slot_count

-- a slot with a saved context has a live enclave that does not run
pub slot_is_live_and_rests : (maybe_info : Option SlotInfo) → is_held maybe_info ≡ true
    → (is_some maybe_info ≡ true) × (option_case maybe_info false (λ info. is_running info.state) ≡ false)
slot_is_live_and_rests None has_context = cc
slot_is_live_and_rests (Some info) has_context = (refl, not-true (is_running info.state) has_context)

-- a slot with a saved context is a slot of the table
in_range : (shared : Shared) (slot : ℕ) (maybe_info : Option SlotInfo) → slot_at shared.table slot ≡ maybe_info
    → length shared.table ≡ slot_count → is_held maybe_info ≡ true
    → slot < slot_count
in_range shared slot None slot_is table_length has_context = cc
in_range shared slot (Some info) slot_is table_length has_context = live_in_range shared.table slot info table_length slot_is

-- `slot` of a shared state with the invariant may be scrambled
module _ (shared : Shared) (worlds : List World) (slot : ℕ) (shared_invariant : SharedInvariant shared worlds)
    (may_scramble : can_scramble shared.table slot ≡ true) where
  -- a slot that may be scrambled has a live enclave that does not run
  slot_may_scramble : MayScramble shared slot
  slot_may_scramble =
      let (live, not_running) = slot_is_live_and_rests (slot_at shared.table slot) may_scramble in
      record {
        live = live;
        not_running = not_running;
        in_range = in_range shared slot (slot_at shared.table slot) refl shared_invariant.valid.count may_scramble;
      }

  -- the saved context of `slot` before the scramble
  abbrev old_context : Option Context
  old_context = context_at shared.contexts slot

  -- the saved contexts after the scramble: the context of `slot` is complemented
  abbrev new_contexts : Contexts
  new_contexts = with_context shared.contexts slot (option_map complemented_context old_context)

  -- the context of `slot` after the scramble is the complement of the old context
  new_context_of_slot : context_at new_contexts slot ≡ option_map complemented_context old_context
  new_context_of_slot =
      at_written_slot shared.contexts slot (option_map complemented_context old_context)
      (let slot_in_range = slot_may_scramble.in_range in omega (arith, shared_invariant.contexts.count, slot_in_range))

  -- the scrambled shared state satisfies the invariant
  pub scrambled_sound : SharedInvariant (scrambled_shared shared slot) worlds
  unfolding scrambled_shared
  scrambled_sound = record {
    valid = valid_by_size shared.memory (complemented_block shared.memory (region shared.table slot)) shared.table
        (complemented_block_agrees shared.memory (region shared.table slot)).size shared_invariant.valid;
    contexts = record {
      count = length-set shared.contexts slot (option_map complemented_context old_context) ∙ shared_invariant.contexts.count;
      kept = λ other. elim (cases_eq other slot) [
        -- the scrambled slot: the complement of its context is present if and only if the context is
        | inl is_slot ↦
            rw is_slot
            (ap (λ (maybe_context : Option Context). is_some maybe_context) new_context_of_slot ∙ complement_is_present old_context
            ∙ shared_invariant.contexts.kept slot)
        -- another slot: its context is unchanged
        | inr is_other ↦
            ap (λ (maybe_context : Option Context). is_some maybe_context) (at_other_slot shared.contexts slot other _ is_other)
            ∙ shared_invariant.contexts.kept other
      ];
      held = λ other.
          let CanContinue : Option Context → Type 0 = λ maybe_context. IfSome maybe_context (λ context. can_go_on context ≡ true) in
          elim (cases_eq other slot) [
            | inl is_slot ↦
                rw is_slot (subst CanContinue (sym new_context_of_slot) (complement_can_continue old_context (shared_invariant.contexts.held slot)))
            | inr is_other ↦ subst CanContinue (sym (at_other_slot shared.contexts slot other _ is_other)) (shared_invariant.contexts.held other)
          ];
    };
    running = shared_invariant.running;
    apart = shared_invariant.apart;
  }

  -- the scrambled shared state is equivalent except `slot` to the state before the scramble
  pub scrambled_agrees : SharedEquivExcept slot shared (scrambled_shared shared slot)
  unfolding scrambled_shared
  scrambled_agrees = record {
    table = refl;
    memory = complemented_block_agrees shared.memory (region shared.table slot);
    contexts = record {
      size = sym (length-set shared.contexts slot (option_map complemented_context old_context));
      others = λ other is_other. sym (at_other_slot shared.contexts slot other _ is_other);
    };
    gone = λ dead. let contradiction : true ≡ false = sym slot_may_scramble.live ∙ dead in cc;
  }

-- proves that scramble preserves the invariant and changes only what is private to `slot`
pub scrambled_law : ScrambledLaw
scrambled_law shared worlds slot shared_invariant may_scramble = record {
  not_running =
      let (is_live, not_running) = slot_is_live_and_rests (slot_at shared.table slot) may_scramble in
      not_running;
  sound = scrambled_sound shared worlds slot shared_invariant may_scramble;
  equivalent = scrambled_agrees shared worlds slot shared_invariant may_scramble;
}
