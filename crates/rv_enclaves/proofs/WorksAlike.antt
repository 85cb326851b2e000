-- The facts about two shared states that the noninterference of the trap handler needs. If two shared states are equivalent except `enclave`, then so
-- are the shared states after each call and each context switch.
use Rattle.std.proofs.Common.{◌≡◌, ◌≢◌, ℕ, true, List, Option, refl, sym, subst, inl, inr}
use Rattle.std.proofs.lemmas.Bool.{cases_Bool}
use Rattle.rv_enclaves.specs.CallLaws.{CallsAlikeLaw}
use Rattle.rv_enclaves.specs.SharedEquivExcept.{SameContexts}
use Rattle.rv_enclaves.proofs.Prelude.{EqualOutside, Context, Contexts, Destroy, EnclaveState, SharedInvariant, CreateArgs, Shared}
use Rattle.rv_enclaves.proofs.Prelude.{SharedEquivExcept, Slots, World, created}
use Rattle.rv_enclaves.proofs.Prelude.{destroyed, is_live, is_private, saved_context, measured, with_context, with_state}
use Rattle.rv_enclaves.proofs.Alike.{itself, equiv_before, created_alike, destroyed_alike, measured_alike, switched_alike}
use Rattle.rv_enclaves.proofs.Refusals.{MayCreate, SlotIsAccepted, may_create, may_take}

-- the shared state with this table, memory and saved contexts
abbrev shared_of : Slots → List ℕ → Contexts → Shared
shared_of table memory contexts = record { memory = memory; table = table; contexts = contexts }

-- the shared state after a context switch: `slot` has a new state and a new saved context
abbrev pub switched : Shared → ℕ → EnclaveState → Option Context → Shared
switched shared slot state maybe_context =
    record shared { table = with_state shared.table slot state; contexts = with_context shared.contexts slot maybe_context }

-- two shared states are equivalent except `enclave`, and each effect of the trap handler leaves them equivalent except `enclave`
pub record WorksAlike (enclave : ℕ) (one other : Shared) : Type 0 where
  pub before : SharedEquivExcept enclave one other
  pub creates : (new : CreateArgs) → MayCreate one new → SharedEquivExcept enclave (created one new) (created other new)
  pub destroys : (slot : ℕ) → SlotIsAccepted one.table Destroy slot → SharedEquivExcept enclave (destroyed one slot) (destroyed other slot)
  pub measures : (slot address : ℕ) → SharedEquivExcept enclave (measured one slot address) (measured other slot address)
  -- the saved context of each other slot is equal in both states
  pub contexts : (slot : ℕ) → slot ≢ enclave → saved_context one.contexts slot ≡ saved_context other.contexts slot
  pub switches : (slot : ℕ) (state : EnclaveState) (maybe_context : Option Context)
      → SharedEquivExcept enclave (switched one slot state maybe_context) (switched other slot state maybe_context)

-- two equal shared states stay equivalent except `enclave` after each effect of the trap handler
equal_work : (enclave : ℕ) (shared : Shared) → WorksAlike enclave shared shared
equal_work enclave shared = record {
  before = itself enclave shared;
  creates = λ new no_refusal. itself enclave _;
  destroys = λ slot accepted. itself enclave _;
  measures = λ slot address. itself enclave _;
  contexts = λ slot is_other. refl;
  switches = λ slot state maybe_context. itself enclave _;
}

-- `enclave` is live in both shared states
module _ (enclave : ℕ) (table : Slots) (one_memory other_memory : List ℕ) (one_contexts other_contexts : Contexts)
    (equal_outside : EqualOutside (is_private table enclave) one_memory other_memory)
    (saved : SameContexts enclave one_contexts other_contexts)
    (live : is_live table enclave ≡ true) where
  -- each effect of the trap handler leaves the two shared states equivalent except `enclave`, which is live
  live_work : (worlds : List World) → SharedInvariant (shared_of table one_memory one_contexts) worlds
      → SharedInvariant (shared_of table other_memory other_contexts) worlds
      → WorksAlike enclave (shared_of table one_memory one_contexts) (shared_of table other_memory other_contexts)
  live_work worlds one_invariant other_invariant = record {
    before = equiv_before enclave table one_memory other_memory one_contexts other_contexts equal_outside saved live;
    creates = created_alike enclave table one_memory other_memory one_contexts other_contexts equal_outside saved live;
    destroys =
        λ slot accepted.
        destroyed_alike enclave table one_memory other_memory one_contexts other_contexts equal_outside saved live slot one_invariant.valid accepted;
    measures = measured_alike enclave table one_memory other_memory one_contexts other_contexts equal_outside saved live;
    contexts = λ slot not_enclave. let same_context = saved.others slot not_enclave in rw same_context refl;
    switches = switched_alike enclave table one_memory other_memory one_contexts other_contexts equal_outside saved live one_invariant.valid.count;
  }

-- two equivalent shared states with the invariant stay equivalent except `enclave` after each effect of the trap handler
pub works_alike : (enclave : ℕ) (one other : Shared) (worlds : List World) → SharedInvariant one worlds → SharedInvariant other worlds
    → SharedEquivExcept enclave one other
    → WorksAlike enclave one other
works_alike enclave one other worlds one_invariant other_invariant shared_equiv = elim (cases_Bool (is_live one.table enclave)) [
  | inr dead ↦ subst (WorksAlike enclave one) (shared_equiv.gone dead) (equal_work enclave one)
  | inl live ↦
      let same_table = shared_equiv.table in
      let other_invariant_with_table : SharedInvariant (shared_of one.table other.memory other.contexts) worlds =
      subst (λ (table : Slots). SharedInvariant (shared_of table other.memory other.contexts) worlds) (sym same_table) other_invariant in
      subst (λ (table : Slots). WorksAlike enclave one (shared_of table other.memory other.contexts)) same_table
      (live_work enclave one.table one.memory other.memory one.contexts other.contexts shared_equiv.memory shared_equiv.contexts live
      worlds one_invariant other_invariant_with_table)
]

-- proves that each call leaves two equivalent shared states equivalent except `enclave`
pub calls_alike : CallsAlikeLaw
calls_alike enclave one other worlds one_invariant other_invariant equal_outside =
    let alike = works_alike enclave one other worlds one_invariant other_invariant equal_outside in
    record {
      creates = λ new accepted. alike.creates new (may_create one new accepted);
      destroys = λ slot accepted. alike.destroys slot (may_take one.table Destroy slot accepted);
      measures = alike.measures;
    }
