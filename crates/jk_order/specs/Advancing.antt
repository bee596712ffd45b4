-- A stream passes its next packet.
use Rattle.std.specs.Prelude.{◌≡◌, ℕ, MatchOption}
use Rattle.jk_order.specs.declared.stream.Stream.{Stream}
use Rattle.jk_order.specs.declared.stream.PacketsFrame.{PacketsFrame}
use Rattle.jk_order.specs.Streams.{rank, finished, successor}

-- The stream s has become t, the one behind its next packet, and a number is the rank of t's next
-- packet; or there is none, and s has stayed.
abbrev pub Advances : (f : PacketsFrame) (s t : Stream) (head : ℕ) → Type 0
Advances f s t head = MatchOption (successor f s) ((t ≡ s) × (head ≡ finished)) (λ u. (t ≡ u) × (head ≡ rank f u u.layer u.precinct))
