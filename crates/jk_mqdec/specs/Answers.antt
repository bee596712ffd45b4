-- What the definition answers at a decision, and where it goes on.
use Rattle.std.specs.Prelude.{ℕ, Bool, ◌&&◌, List, Result, Ok, Err, if◌then◌else◌}
use Rattle.jk_math.specs.declared.fault.Fault.{Fault}
use Rattle.jk_math.specs.declared.fault.Fault.TheVariants.{CodeOutOfInterval}
use Rattle.jk_model.specs.Decisions.{State, is_within, bit_at, after}

-- The bit of the decision in a context, where the code value lies within the interval before it and
-- after it.
unfoldable pub answer : List ℕ → State → ℕ → Result Bool Fault
answer bytes s cx =
    if is_within bytes s && is_within bytes (after bytes s cx) then Ok (bit_at bytes s cx) else Err CodeOutOfInterval

-- The state after it. Once the code value has left the interval, nothing moves any more.
unfoldable pub next : List ℕ → State → ℕ → State
next bytes s cx = if is_within bytes s then after bytes s cx else s
