use Rattle.std.proofs.Common.{rules}
use Rattle.jk_math.proofs.image.is_plane.Goals as goal

pub returns-then-samples-area : goal.returns-then-samples-area
returns-then-samples-area c = (λ t. record { count = search rules; range = c.are_within.ensures.0 t }, λ h. c.are_within.ensures.1 h.range)
