-- What a segment means: the block whose decisions it spells (T.800 Annex D).
use Rattle.std.specs.Prelude.{◌≡◌, ℕ, zero, suc, ◌+◌, ◌-◌, ◌*◌, ◌/◌, ◌%◌, ◌^◌, ◌<◌, ◌≤◌, Bool, true, List, [], ◌∷◌}
use Rattle.std.specs.Prelude.{◌++◌, slice_index_or, nat_le, if◌then◌else◌, map, ℤ, pos, neg_ℤ, unsigned_abs}
use Rattle.std.specs.Int.{is_negative}
use Rattle.std.specs.List.{range_with_len}
use Rattle.jk_model.specs.CodingPasses.{SpellsPasses}
use Rattle.jk_scan.specs.declared.shape.BlockShape.{BlockShape}
use Rattle.jk_scan.specs.Neighbours.{Field, is_inside}
use Rattle.jk_scan.specs.Moments.{pass_of}
use Rattle.jk_scan.specs.Passes.{BlockAtPlane, Decided, plane_decisions}
use Rattle.jk_block.specs.Symbols.{closing_decisions}

-- The coding passes of a block of so many bit-planes, from 0 on: the highest plane has a cleanup
-- pass alone, each lower one has all three (D.3). So pass n is the (n + 2)-th of all, were the
-- first plane to have three.
abbrev pub plane_of : (planes n : ℕ) → ℕ
plane_of planes n = planes - 1 - (n + 2) / 3

abbrev pub kind_of : (n : ℕ) → ℕ
kind_of n = (n + 2) % 3

-- the coefficients at a bit-plane: what this plane and the higher ones make of them
unfoldable pub plane_at : BlockShape → ℕ → Field ℤ → BlockAtPlane
plane_at s b q = record {
  magnitude = λ x y. if is_inside s x y then unsigned_abs (q x y) / 2 ^ b else 0;
  negative = λ x y. is_negative (q x y);
}

-- what a pass decides of its bit-plane, and what ends it
abbrev pub whole_decisions : BlockShape → BlockAtPlane → (pass : ℕ) → Decided
whole_decisions s p pass = plane_decisions s p pass ++ closing_decisions s.style pass

-- what the first passes decide, each a list of its own
unfoldable pub pass_decisions : BlockShape → (planes passes : ℕ) → Field ℤ → List Decided
pass_decisions s planes zero q = []
pass_decisions s planes (suc n) q =
    pass_decisions s planes n q ++ whole_decisions s (plane_at s (plane_of planes n) q) (kind_of n) ∷ []

abbrev pub with_sign : Bool → ℕ → ℤ
with_sign negative m = if negative then neg_ℤ (pos m) else pos m

-- a magnitude without its planes below b
abbrev pub above : (b m : ℕ) → ℕ
above b m = m / 2 ^ b * 2 ^ b

-- What the first passes code of a coefficient: its bits in the planes that are coded, that of the
-- last plane only where one of these passes codes it. All other bits are 0.
unfoldable pub truncated : BlockShape → (planes passes : ℕ) → Field ℤ → Field ℤ
truncated s planes zero q x y = pos 0
truncated s planes (suc n) q x y =
    let b = plane_of planes n in
    with_sign (is_negative (q x y))
    (if nat_le (pass_of s (plane_at s b q).magnitude x y) (kind_of n) then above b (unsigned_abs (q x y))
    else above (b + 1) (unsigned_abs (q x y)))

-- The segment, of which so many passes are coded over so many bit-planes, means these coefficients.
pub record IsBlockMeaning (s : BlockShape) (planes passes : ℕ) (segment : List ℕ) (q : Field ℤ) : Type 0 where
  pub few : passes ≤ 3 * planes - 2
  pub small : (x y : ℕ) → is_inside s x y ≡ true → unsigned_abs (q x y) < 2 ^ planes
  pub coded : (x y : ℕ) → is_inside s x y ≡ true → truncated s planes passes q x y ≡ q x y
  pub spelled : 0 < passes → SpellsPasses s.style.reset segment (pass_decisions s planes passes q)

-- the coefficients of a block row by row, and back
unfoldable pub values_of : BlockShape → Field ℤ → List ℤ
values_of s q = map (λ i. q (i % s.width) (i / s.width)) (range_with_len 0 (s.width * s.height))

abbrev pub value_in : BlockShape → List ℤ → Field ℤ
value_in s values x y = slice_index_or values (y * s.width + x) (pos 0)
