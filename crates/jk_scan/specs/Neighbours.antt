-- The places of a block and their neighbours (T.800 D.2, D.3.1 and D.3.2).
use Rattle.std.specs.Prelude.{ℕ, ◌+◌, ◌-◌, ◌/◌, Bool, not, ◌&&◌, ◌||◌, nat_lt, nat_le, if◌then◌else◌}
use Rattle.jk_math.specs.declared.orientation.Orientation.{Orientation}
use Rattle.jk_scan.specs.declared.shape.BlockShape.{BlockShape}
use Rattle.jk_scan.specs.declared.contexts.SignContext.{SignContext}
use Rattle.jk_scan.specs.Contexts.{zero_context_of, contribution_of, sign_context_of}

-- something for each place: column, then row
abbrev pub Field : Type 0 → Type 0
Field X = ℕ → ℕ → X

-- the place lies in the block
abbrev pub is_inside : BlockShape → Field Bool
is_inside s x y = nat_lt x s.width && nat_lt y s.height

-- The neighbours of a place. There are none left of the first column or above the first row.
abbrev pub west : Field Bool → Field Bool
west f x y = nat_le 1 x && f (x - 1) y

abbrev pub east : Field Bool → Field Bool
east f x y = f (x + 1) y

abbrev pub north : Field Bool → Field Bool
north f x y = nat_le 1 y && f x (y - 1)

abbrev pub south : Field Bool → Field Bool
south f x y = f x (y + 1)

-- how many of two
abbrev pub count : Bool → Bool → ℕ
count a b = (if a then 1 else 0) + (if b then 1 else 0)

abbrev pub horizontal : Field Bool → Field ℕ
horizontal f x y = count (west f x y) (east f x y)

abbrev pub vertical : Field Bool → Field ℕ
vertical f x y = count (north f x y) (south f x y)

abbrev pub diagonal : Field Bool → Field ℕ
diagonal f x y = count (west (north f) x y) (east (north f) x y) + count (west (south f) x y) (east (south f) x y)

-- one of the eight neighbours
unfoldable pub touched : Field Bool → Field Bool
touched f x y =
    ((west f x y || east f x y) || (north f x y || south f x y))
    || ((west (north f) x y || east (north f) x y) || (west (south f) x y || east (south f) x y))

-- the context of a place that isn't significant, by the significant places
unfoldable pub zero_at : Orientation → Field Bool → Field ℕ
zero_at orientation significant x y =
    zero_context_of orientation (horizontal significant x y) (vertical significant x y) (diagonal significant x y)

-- The context of a sign, by the significant places and the negative ones. A place that isn't
-- significant counts as neither.
unfoldable pub sign_at : (significant negative : Field Bool) → Field SignContext
sign_at significant negative x y =
    let plus : Field Bool = λ x y. significant x y && not (negative x y) in
    let minus : Field Bool = λ x y. significant x y && negative x y in
    sign_context_of (contribution_of (horizontal plus x y) (horizontal minus x y))
    (contribution_of (vertical plus x y) (vertical minus x y))

-- What a stripe sees of a field. With vertically causal contexts nothing below the stripe counts as
-- significant (D.7).
unfoldable pub seen_from : BlockShape → (stripe : ℕ) → Field Bool → Field Bool
seen_from s stripe f x y = f x y && (not s.style.causal || nat_le (y / 4) stripe)

-- The same three, each by what the place's own stripe sees.
unfoldable pub touched_in : BlockShape → Field Bool → Field Bool
touched_in s f x y = touched (seen_from s (y / 4) f) x y

unfoldable pub zero_in : BlockShape → (significant : Field Bool) → Field ℕ
zero_in s significant x y = zero_at s.orientation (seen_from s (y / 4) significant) x y

unfoldable pub sign_in : BlockShape → (significant negative : Field Bool) → Field SignContext
sign_in s significant negative x y = sign_at (seen_from s (y / 4) significant) negative x y
