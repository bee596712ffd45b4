-- Samples that are passed on, and in which range they lie.
use mir.Val.{SFits}
use Rattle.std.proofs.lemmas.Int.{ints, to_z-of_z}
use Rattle.std.proofs.Common.{◌≡◌, ℕ, ℤ, ◌^◌, ◌<◌, pos, negsuc, ◌≤ℤ◌, to_z, of_z, w8, w16, w32, ap, ◌∙◌, arith}

natural_fits : (m : ℕ) (s : ℤ) → (pos 0 ≤ℤ s) × (s ≤ℤ pos m) → m < 2 ^ 16 → SFits w32 s
natural_fits m (pos n) within few = record { sfits = omega (arith, ints, within.1) }
natural_fits m (negsuc n) within few = absurd (omega (arith, ints, within.0))

-- a natural sample
pub passed_on : (m : ℕ) (s : ℤ) → (pos 0 ≤ℤ s) × (s ≤ℤ pos m) → m < 2 ^ 16 → to_z w32 (of_z w32 s) ≡ s
passed_on m s within few = let fits : SFits w32 s = natural_fits m s within few in to_z-of_z w32 s fits

-- a signed one of two bytes, as a sample and as a word
fits_32 : (s : ℤ) → (negsuc 32767 ≤ℤ s) × (s ≤ℤ pos 32767) → SFits w32 s
fits_32 (pos n) within = record { sfits = omega (arith, ints, within.1) }
fits_32 (negsuc n) within = record { sfits = omega (arith, ints, within.0) }

-- a sample of any kind
number_fits : (s : ℤ) → (negsuc 32767 ≤ℤ s) × (s ≤ℤ pos 65535) → SFits w32 s
number_fits (pos n) within = record { sfits = omega (arith, ints, within.1) }
number_fits (negsuc n) within = record { sfits = omega (arith, ints, within.0) }

pub passed_number : (s : ℤ) → (negsuc 32767 ≤ℤ s) × (s ≤ℤ pos 65535) → to_z w32 (of_z w32 s) ≡ s
passed_number s within = to_z-of_z w32 s (number_fits s within)

fits_16 : (s : ℤ) → (negsuc 32767 ≤ℤ s) × (s ≤ℤ pos 32767) → SFits w16 s
fits_16 (pos n) within = record { sfits = omega (arith, ints, within.1) }
fits_16 (negsuc n) within = record { sfits = omega (arith, ints, within.0) }

fits_8 : (s : ℤ) → (negsuc 127 ≤ℤ s) × (s ≤ℤ pos 127) → SFits w8 s
fits_8 (pos n) within = record { sfits = omega (arith, ints, within.1) }
fits_8 (negsuc n) within = record { sfits = omega (arith, ints, within.0) }

tiny_short : (s : ℤ) → (negsuc 127 ≤ℤ s) × (s ≤ℤ pos 127) → (negsuc 32767 ≤ℤ s) × (s ≤ℤ pos 32767)
tiny_short (pos n) within = (omega (arith, ints, within.0), omega (arith, ints, within.1))
tiny_short (negsuc n) within = (omega (arith, ints, within.0), omega (arith, ints, within.1))

pub passed_signed : (s : ℤ) → (negsuc 32767 ≤ℤ s) × (s ≤ℤ pos 32767) → to_z w32 (of_z w32 s) ≡ s
passed_signed s within = to_z-of_z w32 s (fits_32 s within)

pub passed_short : (r s : ℤ) → r ≡ to_z w32 (of_z w32 s) → (negsuc 32767 ≤ℤ s) × (s ≤ℤ pos 32767) → to_z w16 (of_z w16 r) ≡ s
passed_short r s is within = ap (λ z. to_z w16 (of_z w16 z)) (is ∙ passed_signed s within) ∙ to_z-of_z w16 s (fits_16 s within)

pub passed_tiny : (r s : ℤ) → r ≡ to_z w32 (of_z w32 s) → (negsuc 127 ≤ℤ s) × (s ≤ℤ pos 127) → to_z w8 (of_z w8 r) ≡ s
passed_tiny r s is within = ap (λ z. to_z w8 (of_z w8 z)) (is ∙ passed_signed s (tiny_short s within)) ∙ to_z-of_z w8 s (fits_8 s within)
