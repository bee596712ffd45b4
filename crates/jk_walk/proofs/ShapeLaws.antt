-- The sub-bands of a precinct, at the lowest resolution and above it.
use Rattle.std.proofs.Common.{◌≡◌, ℕ, zero, suc, ◌+◌, ◌-◌, ◌*◌, ◌<◌, ◌≤◌, [], ◌∷◌, length, get_or, refl, arith}
use Rattle.std.proofs.lemmas.List.Elements.{All-from_recursion}
use Rattle.jk_math.specs.declared.rect.Rect.{Rect}
use Rattle.jk_marks.specs.declared.coding.Coding.{Coding}
use Rattle.jk_math.specs.declared.orientation.Orientation.TheVariants.{LL, HL, LH, HH}
use Rattle.jk_params.specs.Coding.{band_count, HasPlanes}
use Rattle.jk_walk.specs.TilePackets.{band_part, bands_at}

-- the magnitude bit-planes of a sub-band
pub exponent_fits : (k : Coding) (b : ℕ) → HasPlanes k → b < band_count k.levels → (b < length k.exponents) × (1 ≤ k.guard + get_or k.exponents b 0) × (k.guard + get_or k.exponents b 0 ≤ 24)
exponent_fits k b has less =
    let count = has.count in
    let within : b < length k.exponents = omega (arith, count, less) in
    let fits = All-from_recursion (λ e. (1 ≤ k.guard + e) × (k.guard + e ≤ 24)) k.exponents has.planes b 0 within in
    (within, fits.0, fits.1)

pub bands_lowest : (a : Rect) (k : Coding) (r n : ℕ) → r ≡ 0 → bands_at a k r n ≡ band_part a k r n LL 0 ∷ []
bands_lowest a k zero n e = refl
bands_lowest a k (suc r) n e = absurd (omega (arith, e))

pub bands_higher : (a : Rect) (k : Coding) (r n : ℕ) → 0 < r → bands_at a k r n ≡ band_part a k r n HL (3 * r - 2) ∷ band_part a k r n LH (3 * r - 2 + 1) ∷ band_part a k r n HH (3 * r - 2 + 2) ∷ []
bands_higher a k zero n some = absurd (omega (arith, some))
bands_higher a k (suc r) n some =
    let first : 3 * r + 1 + 0 ≡ 3 * suc r - 2 = omega arith in
    let second : 3 * r + 1 + 1 ≡ 3 * suc r - 2 + 1 = omega arith in
    let third : 3 * r + 1 + 2 ≡ 3 * suc r - 2 + 2 = omega arith in
    λ i. band_part a k (suc r) n HL (first i) ∷ band_part a k (suc r) n LH (second i) ∷ band_part a k (suc r) n HH (third i) ∷ []
