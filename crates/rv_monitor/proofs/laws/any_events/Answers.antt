-- The proof obligation of the law `any_events` (src/laws.rt).
use Rattle.rv_monitor.proofs.Events.{event_integrity, event_law, events_invariant, running_events}
use Rattle.rv_monitor.proofs.laws.any_events.Goals as goal

-- proves the law that is the contract of `any_events`
pub returns : goal.returns
returns c = record { keeps = events_invariant; integrity = event_integrity; running = running_events; noninterference = event_law }
