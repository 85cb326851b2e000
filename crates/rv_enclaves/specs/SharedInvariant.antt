-- The invariant of the shared state, given the worlds that run on the harts. The table is valid, each live enclave that does not run has a saved
-- context, and a slot runs if and only if it is the world of one hart. (Keystone, EuroSys 2020, in this project's profile.)
use Rattle.std.specs.Prelude.{◌≡◌, ℕ, Bool, true, false, not, List, [], ◌∷◌, length, Option, Some, None, IfSome, is_some}
use Rattle.std.specs.List.{list_any}
use Rattle.rv_enclaves.specs.Contexts.{context_at, can_go_on, no_contexts}
use Rattle.rv_enclaves.specs.SlotNumbers.{slot_count}
use Rattle.rv_enclaves.specs.Table.{Slots, slot_at, IsValid, runs, is_running, is_world_of, no_slots}
use Rattle.rv_enclaves.specs.declared.shared.Shared.{Shared}
use Rattle.rv_enclaves.specs.declared.slot_info.SlotInfo.{SlotInfo}
use Rattle.rv_enclaves.specs.declared.world.World.{World}

-- the shared state at reset: no enclave is live, and no slot has a saved context
abbrev pub shared_at_start : List ℕ → Shared
shared_at_start memory = record { memory = memory; table = no_slots; contexts = no_contexts }

-- whether a slot has a saved context: a Fresh, Stopped or Exited enclave has a saved context, and a Running enclave has none
abbrev pub is_held : Option SlotInfo → Bool
is_held None = false
is_held (Some info) = not (is_running info.state)

-- a slot has a saved context if and only if its enclave is live and does not run, and a hart can continue with each saved context
pub record SavedContextsInvariant (shared : Shared) : Type 0 where
  pub count : length shared.contexts ≡ slot_count
  -- a slot has a saved context if and only if its enclave is live and does not run
  pub kept : (slot : ℕ) → is_some (context_at shared.contexts slot) ≡ is_held (slot_at shared.table slot)
  -- a hart can continue with each saved context
  pub held : (slot : ℕ) → IfSome (context_at shared.contexts slot) (λ context. can_go_on context ≡ true)

-- a slot runs if and only if it is the world of some hart
abbrev pub RunningMatchesWorlds : Slots → List World → Type 0
RunningMatchesWorlds table worlds = (slot : ℕ) → runs table slot ≡ list_any (is_world_of slot) worlds

-- no slot is the world of two harts
abbrev pub AreApart : List World → Type 0
AreApart [] = Unit {0}
AreApart (world ∷ worlds) =
    ((slot : ℕ) → is_world_of slot world ≡ true → list_any (is_world_of slot) worlds ≡ false) × AreApart worlds

-- the invariant of the shared state, given the world that runs on each hart
pub record SharedInvariant (shared : Shared) (worlds : List World) : Type 0 where
  -- the table of enclaves is valid
  pub valid : IsValid shared.memory shared.table
  pub contexts : SavedContextsInvariant shared
  -- a slot is Running if and only if it is the world of some hart
  pub running : RunningMatchesWorlds shared.table worlds
  -- no slot is the world of two harts
  pub apart : AreApart worlds
