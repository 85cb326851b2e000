-- The shared state at reset satisfies the invariant, because no enclave is live.
use Rattle.std.proofs.Common.{◌≡◌, ℕ, get_or, replicate, true, false, List, length, Option, None, IfSome, refl, sym, ◌∙◌, ap, subst, inl, inr}
use Rattle.std.specs.Prelude.{is_some}
use Rattle.std.specs.List.{list_any}
use Rattle.std.proofs.lemmas.List.{get_or_past, get_or-replicate}
use Rattle.std.proofs.lemmas.Bool.{cases_lt}
use Rattle.rv_enclaves.specs.Contexts.{no_contexts}
use Rattle.rv_enclaves.specs.SharedInvariant.{shared_at_start}
use Rattle.rv_enclaves.specs.Table.{no_slots}
use Rattle.rv_enclaves.specs.SlotNumbers.{slot_count}
use Rattle.rv_enclaves.proofs.Prelude.{AreApart, Context, IsValidSlot, SharedInvariant, IsValid, SlotInfo, World, can_go_on, context_at, is_held, is_ram_size}
use Rattle.rv_enclaves.proofs.Prelude.{is_running, is_world_of, meets, monitor_block, option_case, region, region_of, slot_at, window, window_of}
use Rattle.rv_memory.proofs.BlockLaws.{meets_nothing}

-- a list with None in every slot has None at each index
nothing_at : {A : Type 0} (slot : ℕ) → get_or {A = Option A} (replicate slot_count None) slot None ≡ None
nothing_at {A} slot = elim (cases_lt slot slot_count) [
  | inl in_range ↦ get_or-replicate {A = Option A} slot_count slot None None in_range
  | inr past_last ↦ get_or_past {X = Option A} (replicate slot_count None) slot None past_last
]

-- no slot has an enclave at reset
no_slot : (slot : ℕ) → slot_at no_slots slot ≡ None
no_slot slot = nothing_at {A = SlotInfo} slot

-- no slot has a saved context at reset
no_context : (slot : ℕ) → context_at no_contexts slot ≡ None
no_context slot = nothing_at {A = Context} slot

-- no slot has a region at reset
no_region : (slot : ℕ) → region no_slots slot ≡ region_of None
no_region slot = ap region_of (no_slot slot)

-- no slot has a window at reset
no_window : (slot : ℕ) → window no_slots slot ≡ window_of None
no_window slot = ap window_of (no_slot slot)

-- the table at reset is valid, if the RAM has a permitted size
pub no_slots_valid : (memory : List ℕ) → is_ram_size (length memory) ≡ true → IsValid memory no_slots
no_slots_valid memory ram_size_valid = record {
  ram = ram_size_valid;
  count = refl;
  well_formed =
      λ slot. let Valid : Option SlotInfo → Type 0 = λ maybe_info. IfSome maybe_info (IsValidSlot memory) in subst Valid (sym (no_slot slot)) tt;
  regions_apart = λ other slot is_other. ap (λ block. meets block (region no_slots slot)) (no_region other);
  windows_apart = λ other slot. ap (λ block. meets block (window no_slots slot)) (no_region other);
  regions_free = λ slot. ap (meets monitor_block) (no_region slot) ∙ meets_nothing monitor_block;
  windows_free = λ slot. ap (meets monitor_block) (no_window slot) ∙ meets_nothing monitor_block;
}

-- the shared state at reset satisfies the invariant, if every hart runs the host
pub start_sound : (memory : List ℕ) (worlds : List World) → ((slot : ℕ) → list_any (is_world_of slot) worlds ≡ false) → AreApart worlds
    → is_ram_size (length memory) ≡ true
    → SharedInvariant (shared_at_start memory) worlds
start_sound memory worlds none_runs worlds_apart ram_size_valid = record {
  valid = no_slots_valid memory ram_size_valid;
  contexts = record {
    count = refl;
    kept = λ slot. ap (λ (maybe_context : Option Context). is_some maybe_context) (no_context slot) ∙ ap is_held (sym (no_slot slot));
    held = λ slot. let CanContinue : Option Context → Type 0 = λ maybe_context. IfSome maybe_context (λ context. can_go_on context ≡ true) in
        subst CanContinue (sym (no_context slot)) tt;
  };
  running =
      λ slot. ap (λ maybe_info. option_case maybe_info false (λ (info : SlotInfo). is_running info.state)) (no_slot slot) ∙ sym (none_runs slot);
  apart = worlds_apart;
}
