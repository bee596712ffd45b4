-- What a session keeps, as it is seen.
use Rattle.std.specs.Prelude.{Option, Some, None}
use Rattle.jk_web.specs.declared.session.Stuck.{Stuck as Kept}
use Rattle.jk_web.specs.declared.session.Stuck.TheVariants.{Memory, Bad}
use Rattle.jk_web.specs.Unread.{Stuck, out_of_memory, bad}

-- why it gives no more requests
abbrev pub reason_of : Option Kept → Option Stuck
reason_of None = None
reason_of (Some (Memory refused)) = Some out_of_memory
reason_of (Some (Bad status)) = Some (bad status)
