-- Laws of the calls that create, destroy and measure an enclave, and of scrambling, about the state that the harts share. (Laws about the
-- definitions, not rules of a standard.)
use Rattle.std.specs.Prelude.{◌≡◌, ℕ, ◌<◌, ◌^◌, true, false, List, None, IfSome, slice_index}
use Rattle.rv_enclaves.specs.Contexts.{context_at}
use Rattle.rv_enclaves.specs.Create.{create_refusals, created}
use Rattle.rv_enclaves.specs.Destroy.{destroyed}
use Rattle.rv_enclaves.specs.Measure.{measured}
use Rattle.rv_enclaves.specs.Refusals.{first_refusal, state_refusals}
use Rattle.rv_enclaves.specs.Scramble.{can_scramble, scrambled_shared}
use Rattle.rv_enclaves.specs.SharedEquivExcept.{SharedEquivExcept}
use Rattle.rv_enclaves.specs.SharedInvariant.{SharedInvariant}
use Rattle.rv_enclaves.specs.Table.{runs}
use Rattle.rv_enclaves.specs.declared.call.Call.TheVariants.{Destroy}
use Rattle.rv_enclaves.specs.declared.create_args.CreateArgs.{CreateArgs}
use Rattle.rv_enclaves.specs.declared.shared.Shared.{Shared}
use Rattle.rv_enclaves.specs.declared.world.World.{World}

-- a call that is not refused preserves the invariant
pub record CallsKeep (shared : Shared) (worlds : List World) : Type 0 where
  pub creates : (new : CreateArgs) → first_refusal (create_refusals shared new) ≡ None → SharedInvariant (created shared new) worlds
  pub destroys : (slot : ℕ) → first_refusal (state_refusals shared.table Destroy slot) ≡ None → SharedInvariant (destroyed shared slot) worlds
  pub measures : (slot address : ℕ) → SharedInvariant (measured shared slot address) worlds

-- each call that is not refused preserves the invariant of the shared state
abbrev pub CallsKeepLaw : Type 0
CallsKeepLaw = (shared : Shared) (worlds : List World) → SharedInvariant shared worlds → CallsKeep shared worlds

-- each call has equivalent effects on two shared states: the states after the call are equivalent except for what is private to `enclave`
pub record CallsAlike (enclave : ℕ) (one other : Shared) : Type 0 where
  pub creates : (new : CreateArgs) → first_refusal (create_refusals one new) ≡ None → SharedEquivExcept enclave (created one new) (created other new)
  pub destroys : (slot : ℕ) → first_refusal (state_refusals one.table Destroy slot) ≡ None
      → SharedEquivExcept enclave (destroyed one slot) (destroyed other slot)
  pub measures : (slot address : ℕ) → SharedEquivExcept enclave (measured one slot address) (measured other slot address)

-- on two shared states that are equivalent except for `enclave`, a call has equivalent effects
abbrev pub CallsAlikeLaw : Type 0
CallsAlikeLaw =
    (enclave : ℕ) (one other : Shared) (worlds : List World) → SharedInvariant one worlds → SharedInvariant other worlds
    → SharedEquivExcept enclave one other
    → CallsAlike enclave one other

-- the enclave in `slot` does not run, and scrambling preserves the invariant and changes only what is private to `slot`
pub record IsScrambled (shared : Shared) (worlds : List World) (slot : ℕ) : Type 0 where
  pub not_running : runs shared.table slot ≡ false
  pub sound : SharedInvariant (scrambled_shared shared slot) worlds
  pub equivalent : SharedEquivExcept slot shared (scrambled_shared shared slot)

-- a scramble that is permitted preserves the invariant, and changes only what is private to `slot`
abbrev pub ScrambledLaw : Type 0
ScrambledLaw =
    (shared : Shared) (worlds : List World) (slot : ℕ) → SharedInvariant shared worlds → can_scramble shared.table slot ≡ true
    → IsScrambled shared worlds slot

-- scrambling twice restores the state, if memory holds bytes and the context's registers hold 32-bit words
abbrev pub ScrambledTwiceLaw : Type 0
ScrambledTwiceLaw =
    (shared : Shared) (slot : ℕ) → ((index : ℕ) → slice_index shared.memory index < 2 ^ 8)
    → IfSome (context_at shared.contexts slot) (λ context. (number : ℕ) → slice_index context.regs number < 2 ^ 32)
    → scrambled_shared (scrambled_shared shared slot) slot ≡ shared
