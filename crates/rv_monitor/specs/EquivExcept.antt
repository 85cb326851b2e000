-- Equivalence except for one enclave: two monitored machines that differ at most in what is private to this enclave. Private are the bytes of its
-- region, its context, and the hart that runs the enclave, if one does. The specification calls this relation AgreeBut. (Not a rule of a standard;
-- the noninterference laws are about this relation.)
use Rattle.std.specs.Prelude.{◌≡◌, ℕ, Bool, false}
use Rattle.rv_monitor.specs.Prelude.{HartState, SharedEquivExcept, is_world_of}
use Rattle.rv_monitor.specs.MonitoredMachine.{MonitoredMachine, count_of, hart_state_of}

-- whether `enclave` runs on a hart
abbrev pub runs_on : ℕ → ℕ → MonitoredMachine → Bool
runs_on enclave hart machine = is_world_of enclave (hart_state_of hart machine).world

-- two hart states with the same world; they are equal unless that world is `enclave`
pub record HartStatesEquivExcept (enclave : ℕ) (one other : HartState) : Type 0 where
  pub world : one.world ≡ other.world
  -- a hart that does not run `enclave` has equal states in both machines
  pub same : is_world_of enclave one.world ≡ false → one ≡ other

-- two machines have the same number of harts, and the states of each hart and the shared states are equivalent except for `enclave`
pub record EquivExcept (enclave : ℕ) (one other : MonitoredMachine) : Type 0 where
  pub harts : count_of one ≡ count_of other
  pub hart_states : (hart : ℕ) → HartStatesEquivExcept enclave (hart_state_of hart one) (hart_state_of hart other)
  pub shared : SharedEquivExcept enclave one.shared other.shared
