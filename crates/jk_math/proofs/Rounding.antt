-- Halves and quarters that are rounded down.
use Rattle.std.proofs.Common.{◌≡◌, ℕ, ℤ, pos, negsuc, ◌+ℤ◌, ◌≤ℤ◌, refl, arith}
use Rattle.std.proofs.lemmas.Int.{ints}
use lib.Signed.{shr_z}
use Rattle.jk_math.specs.Division.{floor_of}

-- a shift of a signed number rounds down
pub shr-floor_of : (z : ℤ) (d : ℕ) → shr_z z d ≡ floor_of z d
shr-floor_of (pos n) d = refl
shr-floor_of (negsuc n) d = refl

-- twice the half, and four times the quarter
pub half_high : (z : ℤ) → (floor_of z 2 +ℤ floor_of z 2) ≤ℤ z
half_high (pos n) = omega (arith, ints)
half_high (negsuc n) = omega (arith, ints)

pub half_low : (z : ℤ) → z ≤ℤ (floor_of z 2 +ℤ floor_of z 2 +ℤ pos 1)
half_low (pos n) = omega (arith, ints)
half_low (negsuc n) = omega (arith, ints)

abbrev pub fourfold : ℤ → ℤ
fourfold z = z +ℤ z +ℤ (z +ℤ z)

pub quarter_high : (z : ℤ) → fourfold (floor_of z 4) ≤ℤ z
quarter_high (pos n) = omega (arith, ints)
quarter_high (negsuc n) = omega (arith, ints)

pub quarter_low : (z : ℤ) → z ≤ℤ (fourfold (floor_of z 4) +ℤ pos 3)
quarter_low (pos n) = omega (arith, ints)
quarter_low (negsuc n) = omega (arith, ints)
