-- The machine with every byte and register that is private to an enclave complemented. The scrambled machine is equivalent to the original machine
-- except for that enclave. (Not a rule of a standard; the second bench of a twin run is built with it.)
use Rattle.std.specs.Prelude.{◌≡◌, ℕ, ◌<◌, ◌^◌, slice_index, IfSome}
use Rattle.rv_enclaves.specs.Scramble.{scrambled_shared}
use Rattle.rv_monitor.specs.Prelude.{context_at}
use Rattle.rv_monitor.specs.MonitoredMachine.{MonitoredMachine}

-- the machine with the bytes of the slot's region and the registers of the slot's saved context complemented
abbrev pub scrambled : MonitoredMachine → ℕ → MonitoredMachine
scrambled machine slot = record machine { shared = scrambled_shared machine.shared slot }

-- two scrambles restore the machine, if memory holds bytes and the registers of the saved context hold 32-bit words
abbrev pub ScrambleLaw : Type 0
ScrambleLaw =
    (machine : MonitoredMachine) (slot : ℕ) → ((index : ℕ) → slice_index machine.shared.memory index < 2 ^ 8)
    → IfSome (context_at machine.shared.contexts slot) (λ context. (index : ℕ) → slice_index context.regs index < 2 ^ 32)
    → scrambled (scrambled machine slot) slot ≡ machine
