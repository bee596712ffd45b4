-- Resolutions of sub-bands that agree where they are looked at.
use Rattle.std.proofs.Common.{◌≡◌, ℕ, zero, suc, ◌+◌, ◌*◌, ◌/◌, ◌%◌, ◌<◌, ◌⊎◌, inl, inr, cond, eqb, ℤ, refl, sym, ◌∙◌, subst, add-one, arith}
use Rattle.std.proofs.lemmas.Bool.{cases_eq}
use Rattle.jk_math.specs.declared.rect.Rect.{Rect}
use Rattle.jk_geom.specs.Rectangles.{IsWithin, resolution_area}
use Rattle.jk_lift.proofs.Laws.{is_local_plane}
use Rattle.jk_wave.specs.Resolutions.{woven_plane, resolution_of}
use Rattle.jk_wave.specs.Bands.{numbered_area}
use Rattle.jk_wave.specs.Laws.{IsNear, IsLocalResolution, IsDecided}
use Rattle.jk_wave.specs.Levels.{half_area}
use Rattle.jk_wave.proofs.Equations.{woven_even, woven_odd, level_of, resolution_lowest, resolution_more}
use Rattle.jk_wave.proofs.Halves.{half_within, below_half, lowest_area, number_area}

-- even both ways, or odd in one
pub parities : (x y : ℕ) → ((x % 2 ≡ 0) × (y % 2 ≡ 0)) ⊎ ((x % 2 ≡ 1) ⊎ (y % 2 ≡ 1))
parities x y = elim (cases_eq (x % 2) 0) [
  | inl ex ↦ elim (cases_eq (y % 2) 0) [ inl ey ↦ inl (ex, ey) | inr ny ↦ inr (inr (omega arith)) ]
  | inr nx ↦ inr (inl (omega arith))
]

-- an orientation from its two parities
pub parities_back : (o : ℕ) → o < 3 → cond (eqb ((o + 1) % 2) 1) 1 0 + cond (eqb ((o + 1) / 2) 1) 2 0 ≡ o + 1
parities_back zero few = refl
parities_back (suc zero) few = refl
parities_back (suc (suc zero)) few = refl
parities_back (suc (suc (suc o))) few = absurd (omega arith)

-- a place of a resolution, in the part that has it
pub in_part : (a : Rect) (x y : ℕ) → IsWithin a x y → IsWithin (half_area a (x % 2 + 2 * (y % 2))) (x / 2) (y / 2)
in_part a x y h =
    let o : ℕ = x % 2 + 2 * (y % 2) in
    let across : 2 * (x / 2) + o % 2 ≡ x = omega arith in
    let down : 2 * (y / 2) + o / 2 ≡ y = omega arith in
    (half_within a o (x / 2) (y / 2) (omega arith)).1
    (subst (λ n. IsWithin a n (2 * (y / 2) + o / 2)) (sym across) (subst (λ n. IsWithin a x n) (sym down) h))

pub in_low : (a : Rect) (x y : ℕ) → IsWithin a x y → x % 2 ≡ 0 → y % 2 ≡ 0 → IsWithin (half_area a 0) (x / 2) (y / 2)
in_low a x y h ex ey = let e : x % 2 + 2 * (y % 2) ≡ 0 = omega arith in subst (λ o. IsWithin (half_area a o) (x / 2) (y / 2)) e (in_part a x y h)

-- a place of the resolution below
pub in_below : (a : Rect) (levels r x y : ℕ) → r < levels → IsWithin (resolution_area a levels (r + 1)) x y → x % 2 ≡ 0 → y % 2 ≡ 0 → IsWithin (resolution_area a levels r) (x / 2) (y / 2)
in_below a levels r x y less h ex ey =
    subst (λ (s : Rect). IsWithin s (x / 2) (y / 2)) (sym (below_half a levels r less)) (in_low (resolution_area a levels (r + 1)) x y h ex ey)

-- a place of a sub-band of the resolution
pub in_band : (a : Rect) (levels r x y : ℕ) → r < levels → IsWithin (resolution_area a levels (r + 1)) x y → (x % 2 ≡ 1) ⊎ (y % 2 ≡ 1) →
    IsWithin (numbered_area a levels (3 * r + (x % 2 + 2 * (y % 2)))) (x / 2) (y / 2)
in_band a levels r x y less h odd =
    let o : ℕ = x % 2 + 2 * (y % 2) in
    let some : 0 < o = elim odd [ inl e ↦ omega arith | inr e ↦ omega arith ] in
    subst (λ (s : Rect). IsWithin s (x / 2) (y / 2)) (sym (number_area a levels r o less some (omega arith))) (in_part (resolution_area a levels (r + 1)) x y h)

-- coefficients woven of parts that agree
pub woven_agree : (low other : ℕ → ℕ → ℤ) (high another : ℕ → ℕ → ℕ → ℤ) (x y : ℕ) →
    (x % 2 ≡ 0 → y % 2 ≡ 0 → low (x / 2) (y / 2) ≡ other (x / 2) (y / 2)) →
    ((x % 2 ≡ 1) ⊎ (y % 2 ≡ 1) → high (x % 2 + 2 * (y % 2)) (x / 2) (y / 2) ≡ another (x % 2 + 2 * (y % 2)) (x / 2) (y / 2)) →
    woven_plane low high x y ≡ woven_plane other another x y
woven_agree low other high another x y even odd = elim (parities x y) [
  | inl e ↦ woven_even low high x y e.0 e.1 ∙ even e.0 e.1 ∙ sym (woven_even other another x y e.0 e.1)
  | inr o ↦ woven_odd low high x y o ∙ odd o ∙ sym (woven_odd other another x y o)
]

pub is_local_resolution : IsLocalResolution
is_local_resolution a levels u bands other zero few lowest lows highs x y h w =
    resolution_lowest a levels bands x y ∙ lowest x y h w ∙ sym (resolution_lowest a levels other x y)
is_local_resolution a levels u bands other (suc r) few lowest lows highs s t k l = subst (λ n. (x y : ℕ) → IsWithin (resolution_area a levels n) x y → IsWithin (u n) x y →
    resolution_of a levels bands n x y ≡ resolution_of a levels other n x y) (add-one r) (λ x y h w.
    let area = resolution_area a levels (r + 1) in
    let v = u (r + 1) in
    resolution_more a levels bands r x y
    ∙ is_local_plane area.x0 area.x1 area.y0 area.y1 v.x0 v.x1 v.y0 v.y1 (level_of a levels bands r) (level_of a levels other r)
    (λ i j if it jf jt uf ut vf vt.
    let inside : IsWithin area i j = record { left = if; right = it; upper = jf; lower = jt } in
    let near : IsNear v i j = (uf, ut, vf, vt) in
    woven_agree (resolution_of a levels bands r) (resolution_of a levels other r) (λ o. bands (3 * r + o)) (λ o. other (3 * r + o)) i j
    (λ ei ej. is_local_resolution a levels u bands other r (omega arith) lowest (λ q g j less. lows q g j (omega arith)) (λ q g j less. highs q g j (omega arith)) (i / 2) (j / 2)
    (in_below a levels r i j (omega arith) inside ei ej) (lows r i j (omega arith) inside near ei ej))
    (λ odd. highs r i j (omega arith) inside near odd))
    x y h.left h.right h.upper h.lower w.left w.right w.upper w.lower
    ∙ sym (resolution_more a levels other r x y)) s t k l

-- With the resolutions themselves as what is looked at.
pub is_decided : IsDecided
is_decided a levels bands other r few agree x y h =
    is_local_resolution a levels (resolution_area a levels) bands other r few
    (λ i j inside same. agree 0 i j (omega arith) (subst (λ (s : Rect). IsWithin s i j) (sym (lowest_area a levels)) inside))
    (λ q i j less inside near ei ej. in_below a levels q i j (omega arith) inside ei ej)
    (λ q i j less inside near odd. agree (3 * q + (i % 2 + 2 * (j % 2))) (i / 2) (j / 2) (omega arith) (in_band a levels q i j (omega arith) inside odd))
    x y h h
