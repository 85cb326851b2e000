-- This file proves obligations of `Addresses::lowest_in`, which returns the lowest address of the set that is in a span.
use Rattle.rv_debug.proofs.AddressLemmas.{find-no_span}
use Rattle.rv_debug.proofs.addresses.Addresses.lowest_in.Goals as goal

-- if there is no span, no address is in it, so no member is found
pub returns-in-None : goal.returns-in-None
returns-in-None c = rw c.in-None.is (find-no_span c.args.self.now)
