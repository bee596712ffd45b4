-- In which order the places of a block are visited, in which pass of a bit-plane each is coded, and
-- which are significant at a moment (T.800 D.1 to D.3). Everything here is a function of the
-- magnitudes at a bit-plane: what the higher planes and this one make of each magnitude, the bit of
-- this plane last. Outside the block they are 0.
use Rattle.std.specs.Prelude.{ℕ, zero, suc, ◌+◌, ◌*◌, ◌/◌, ◌%◌, Bool, false, not, ◌&&◌, ◌||◌, nat_eq, nat_lt, nat_le}
use Rattle.std.specs.Prelude.{if◌then◌else◌}
use Rattle.jk_scan.specs.declared.shape.BlockShape.{BlockShape}
use Rattle.jk_scan.specs.Neighbours.{Field, touched_in}

-- The number of a place in the order of a pass: stripes of four rows, in a stripe the columns from
-- left to right, each downwards (D.1).
unfoldable pub number : ℕ → Field ℕ
number width x y = 4 * (width * (y / 4) + x) + y % 4

abbrev pub stripes : BlockShape → ℕ
stripes s = (s.height + 3) / 4

-- how many numbers there are in a pass; those of a last stripe with fewer rows are numbered too
unfoldable pub visits : BlockShape → ℕ
visits s = 4 * (s.width * stripes s)

-- significant before this plane
abbrev pub old : Field ℕ → Field Bool
old a x y = nat_le 2 (a x y)

-- Found by the significance propagation pass among the numbers below k: the places that become
-- significant there.
unfoldable pub found : BlockShape → Field ℕ → ℕ → Field Bool
found s a zero x y = false
found s a (suc k) x y =
    found s a k x y || (nat_eq (number s.width x y) k
    && (nat_eq (a x y) 1 && touched_in s (λ x y. old a x y || found s a k x y) x y))

-- Coded in the significance propagation pass: not significant before, and a neighbour is
-- significant at that moment (D.3.1).
unfoldable pub spread : BlockShape → Field ℕ → Field Bool
spread s a x y = not (old a x y) && touched_in s (λ x' y'. old a x' y' || found s a (number s.width x y) x' y') x y

-- the three passes of a bit-plane, in their order
abbrev pub propagation : ℕ
propagation = 0

abbrev pub refinement : ℕ
refinement = 1

abbrev pub cleanup : ℕ
cleanup = 2

-- the pass that codes the bit of a place
unfoldable pub pass_of : BlockShape → Field ℕ → Field ℕ
pass_of s a x y = if old a x y then refinement else (if spread s a x y then propagation else cleanup)

-- The moment at which the bit of a place is coded. A moment counts the visits in a bit-plane over
-- its three passes.
unfoldable pub moment : BlockShape → Field ℕ → Field ℕ
moment s a x y = pass_of s a x y * visits s + number s.width x y

-- the bit of a place is coded before a moment
abbrev pub is_coded : BlockShape → Field ℕ → ℕ → Field Bool
is_coded s a t x y = nat_lt (moment s a x y) t

-- Significant at a moment: the highest 1 of the magnitude was coded in a higher plane, or before in
-- this one (D.3).
unfoldable pub significant : BlockShape → Field ℕ → ℕ → Field Bool
significant s a t x y = old a x y || (nat_eq (a x y) 1 && is_coded s a t x y)
