-- This file proves obligations of `make_room`, which writes the gathered bytes and empties the buffer, if it has no room for `room` more bytes.
use Rattle.std.proofs.Common.{[], refl, sym, append-nil}
use Rattle.rv_streams.proofs.gathered.make_room.Goals as goal

-- if there is room, nothing is written, which is a prefix of the gathered bytes (clause `prefix`)
pub returns-else-remaining_capacity-room-clause-prefix : goal.returns-else-remaining_capacity-room-clause-prefix
returns-else-remaining_capacity-room-clause-prefix g c = (c.args.gathered.now.items, ([], sym (append-nil _), refl))
