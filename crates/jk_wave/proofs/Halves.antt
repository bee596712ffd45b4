-- The rectangles of the parts of a resolution: of the one below it, and of its sub-bands.
use Rattle.std.proofs.Common.{◌≡◌, ℕ, zero, suc, ◌+◌, ◌-◌, ◌*◌, ◌/◌, ◌%◌, ◌^◌, ◌<◌, ◌≤◌, inl, inr, ◌↔◌, refl, sym, ◌∙◌, ap, arith}
use Rattle.std.proofs.Math.Nat.{mul-le-mul_right}
use Rattle.std.proofs.lemmas.Nat.{pow_pos, pow-add}
use Rattle.std.proofs.lemmas.Bool.{cases_eq}
use Rattle.jk_math.specs.declared.rect.Rect.{Rect}
use Rattle.jk_math.specs.declared.orientation.Orientation.{Orientation}
use Rattle.jk_math.specs.declared.orientation.Orientation.TheVariants.{HL, LH, HH}
use Rattle.jk_geom.specs.Rectangles.{ceil_div, across_offset, down_offset, resolution_area, band_area, level_area, IsWithin}
use Rattle.jk_geom.proofs.Laws.{ceil_covers, ceil_least}
use Rattle.jk_wave.specs.Bands.{numbered_area, high_orientation}
use Rattle.jk_wave.specs.Levels.{half_bound, half_area}

pub half_within : (a : Rect) (o u v : ℕ) → o < 4 → IsWithin (half_area a o) u v ↔ IsWithin a (2 * u + o % 2) (2 * v + o / 2)
half_within a o u v few = (
  (λ h. let l = h.left in let r = h.right in let t = h.upper in let b = h.lower in record { left = omega arith; right = omega arith; upper = omega arith; lower = omega arith }),
  (λ h. let l = h.left in let r = h.right in let t = h.upper in let b = h.lower in record { left = omega arith; right = omega arith; upper = omega arith; lower = omega arith }),
)

-- a bound of a part, of a tile-component's bound
bound_half : (v d b : ℕ) → b ≤ 1 → ceil_div (v - 2 ^ d * b) (2 ^ (d + 1)) ≡ half_bound (ceil_div v (2 ^ d)) b
bound_half v d b bit =
    let p = 2 ^ d in
    let some : 0 < p = pow_pos d in
    let power : 2 ^ (d + 1) ≡ 2 * p = pow-add 2 d 1 ∙ (let e : p * 2 ≡ 2 * p = omega arith in e) in
    let whole = ceil_div v p in
    let covers : v ≤ whole * p = ceil_covers v p some in
    let half = half_bound whole b in
    let part = ceil_div (v - p * b) (2 * p) in
    let reaches : (whole - b) * p ≤ (2 * half) * p = mul-le-mul_right p (omega arith) in
    let taken : whole * p ≤ (whole - b) * p + p * b = taken_is whole b p bit in
    let turned : (2 * half) * p ≡ half * (2 * p) = omega arith in
    let upper : part ≤ half = ceil_least (v - p * b) (2 * p) half (omega arith) (omega arith) in
    let within : v - p * b ≤ part * (2 * p) = ceil_covers (v - p * b) (2 * p) (omega arith) in
    let turned_part : (2 * part + b) * p ≡ part * (2 * p) + p * b = omega arith in
    let lower : whole ≤ 2 * part + b = ceil_least v p (2 * part + b) some (omega arith) in
    ap (λ q. ceil_div (v - p * b) q) power ∙ (let e : part ≡ half = omega arith in e)
  where
    taken_is : (w b p : ℕ) → b ≤ 1 → w * p ≤ (w - b) * p + p * b
    taken_is w b p h = elim (cases_eq b 0) [
      | inl e ↦ let whole : (w - b) * p ≡ w * p = ap (λ n. n * p) (let f : w - b ≡ w = omega arith in f) in omega arith
      | inr ne ↦ elim (cases_eq w 0) [
        | inl e ↦ let none : w * p ≡ 0 * p = ap (λ n. n * p) e in omega arith
        | inr some ↦
            let less : w * p ≡ (w - b + 1) * p = ap (λ n. n * p) (let f : w ≡ w - b + 1 = omega arith in f) in
            let spread : (w - b + 1) * p ≡ (w - b) * p + p = omega arith in
            let one : p * b ≡ p * 1 = ap (λ n. p * n) (let f : b ≡ 1 = omega arith in f) in
            omega arith
      ]
    ]

-- the rectangle of a resolution, reduced by d levels
abbrev whole_area : Rect → ℕ → Rect
whole_area s d = record { x0 = ceil_div s.x0 (2 ^ d); y0 = ceil_div s.y0 (2 ^ d); x1 = ceil_div s.x1 (2 ^ d); y1 = ceil_div s.y1 (2 ^ d) }

resolution_is : (a : Rect) (levels r d : ℕ) → levels - r ≡ d → resolution_area a levels r ≡ whole_area a d
unfolding resolution_area
resolution_is a levels r d e = ap (whole_area a) e

-- resolution r + 1 of all levels is the rectangle itself
pub resolution_top : (a : Rect) (levels : ℕ) → resolution_area a levels levels ≡ a
resolution_top a levels = resolution_is a levels levels 0 (omega arith) ∙ (λ i. record { x0 = one a.x0 i; y0 = one a.y0 i; x1 = one a.x1 i; y1 = one a.y1 i })
  where
    one : (n : ℕ) → ceil_div n 1 ≡ n
    one n = omega arith

part_area : Rect → (d b c : ℕ) → Rect
part_area s d b c = record {
  x0 = ceil_div (s.x0 - 2 ^ d * b) (2 ^ (d + 1));
  y0 = ceil_div (s.y0 - 2 ^ d * c) (2 ^ (d + 1));
  x1 = ceil_div (s.x1 - 2 ^ d * b) (2 ^ (d + 1));
  y1 = ceil_div (s.y1 - 2 ^ d * c) (2 ^ (d + 1));
}

part_half : (s : Rect) (d o : ℕ) → o < 4 → part_area s d (o % 2) (o / 2) ≡ half_area (whole_area s d) o
unfolding part_area
part_half s d o few =
    let across : o % 2 ≤ 1 = omega arith in
    let down : o / 2 ≤ 1 = omega arith in
    λ i. record {
      x0 = bound_half s.x0 d (o % 2) across i;
      y0 = bound_half s.y0 d (o / 2) down i;
      x1 = bound_half s.x1 d (o % 2) across i;
      y1 = bound_half s.y1 d (o / 2) down i;
    }

low_is : (s : Rect) (d : ℕ) → whole_area s (d + 1) ≡ part_area s d 0 0
unfolding part_area
low_is s d = λ i. record {
  x0 = ceil_div (none (2 ^ d) s.x0 i) (2 ^ (d + 1));
  y0 = ceil_div (none (2 ^ d) s.y0 i) (2 ^ (d + 1));
  x1 = ceil_div (none (2 ^ d) s.x1 i) (2 ^ (d + 1));
  y1 = ceil_div (none (2 ^ d) s.y1 i) (2 ^ (d + 1));
}
  where
    none : (p n : ℕ) → n ≡ n - p * 0
    none p n = omega arith

-- the resolution below is the low-pass part
pub below_half : (a : Rect) (levels r : ℕ) → r < levels → resolution_area a levels r ≡ half_area (resolution_area a levels (r + 1)) 0
below_half a levels r less =
    let d = levels - (r + 1) in
    resolution_is a levels r (d + 1) (omega arith) ∙ low_is a d ∙ part_half a d 0 (omega arith) ∙ ap (λ s. half_area s 0) (sym (resolution_is a levels (r + 1) d refl))

-- a sub-band of resolution r + 1
level_is : (a : Rect) (levels r : ℕ) (o : Orientation) → r < levels →
    level_area a (levels - (r + 1) + 1) o ≡ part_area a (levels - (r + 1)) (across_offset o) (down_offset o)
unfolding part_area
level_is a levels r o less =
    let d = levels - (r + 1) in
    let is : d + 1 - 1 ≡ d = omega arith in
    ap (λ e. record {
      x0 = ceil_div (a.x0 - 2 ^ e * across_offset o) (2 ^ (d + 1));
      y0 = ceil_div (a.y0 - 2 ^ e * down_offset o) (2 ^ (d + 1));
      x1 = ceil_div (a.x1 - 2 ^ e * across_offset o) (2 ^ (d + 1));
      y1 = ceil_div (a.y1 - 2 ^ e * down_offset o) (2 ^ (d + 1));
    }) is

band_is : (a : Rect) (levels r o : ℕ) → r < levels → o < 3 → band_area a levels (r + 1) (high_orientation o) ≡ half_area (resolution_area a levels (r + 1)) (o + 1)
unfolding band_area
band_is a levels r zero less few = level_is a levels r HL less ∙ part_half a (levels - (r + 1)) 1 (omega arith) ∙ ap (λ s. half_area s 1) (sym (resolution_is a levels (r + 1) (levels - (r + 1)) refl))
band_is a levels r (suc zero) less few = level_is a levels r LH less ∙ part_half a (levels - (r + 1)) 2 (omega arith) ∙ ap (λ s. half_area s 2) (sym (resolution_is a levels (r + 1) (levels - (r + 1)) refl))
band_is a levels r (suc (suc zero)) less few = level_is a levels r HH less ∙ part_half a (levels - (r + 1)) 3 (omega arith) ∙ ap (λ s. half_area s 3) (sym (resolution_is a levels (r + 1) (levels - (r + 1)) refl))
band_is a levels r (suc (suc (suc o))) less few = absurd (omega arith)

pub lowest_area : (a : Rect) (levels : ℕ) → numbered_area a levels 0 ≡ resolution_area a levels 0
unfolding numbered_area band_area
lowest_area a levels = refl

number_suc : (a : Rect) (levels b : ℕ) → numbered_area a levels (suc b) ≡ band_area a levels (b / 3 + 1) (high_orientation (b % 3))
unfolding numbered_area
number_suc a levels b = refl

pub number_area : (a : Rect) (levels r o : ℕ) → r < levels → 0 < o → o < 4 → numbered_area a levels (3 * r + o) ≡ half_area (resolution_area a levels (r + 1)) o
number_area a levels r o less some few =
    let p : ℕ = o - 1 in
    let number : 3 * r + o ≡ suc (3 * r + p) = omega arith in
    let level : (3 * r + p) / 3 + 1 ≡ r + 1 = omega arith in
    let part : (3 * r + p) % 3 ≡ p = omega arith in
    let which : p + 1 ≡ o = omega arith in
    ap (numbered_area a levels) number ∙ number_suc a levels (3 * r + p)
    ∙ ap (λ n. band_area a levels n (high_orientation ((3 * r + p) % 3))) level ∙ ap (λ n. band_area a levels (r + 1) (high_orientation n)) part
    ∙ band_is a levels r p less (omega arith) ∙ ap (half_area (resolution_area a levels (r + 1))) which
