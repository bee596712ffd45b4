use Rattle.std.proofs.Common.{◌≡◌, All, vec_len}
use Rattle.jk_hall.specs.Writing.{list, waits, hall_of}
use Rattle.jk_hall.specs.Reading.{Opens}
use Rattle.jk_hall.proofs.hall.readers_of.Given as goal

-- the writer is as before, and each reader so far is a new one
abbrev pub invariant-loop : goal.invariant-loop
invariant-loop l =
    (list l.writer ≡ list l.fn.writer)
    × (waits l.writer ≡ waits l.fn.writer)
    × (hall_of l.writer ≡ hall_of l.fn.writer)
    × (vec_len l.readers ≡ l.counter)
    × All (Opens (hall_of l.fn.writer) (list l.fn.writer)) l.readers.items
