-- How far magnitudes grow over all levels.
use Rattle.std.proofs.Common.{◌≡◌, ℕ, zero, suc, ◌+◌, ◌-◌, ◌*◌, ◌/◌, ◌%◌, ◌^◌, ◌<◌, ◌≤◌, ◌⊎◌, inl, inr, ℤ, unsigned_abs, refl, sym, ◌∙◌, ap, subst, add-one, arith}
use Rattle.std.proofs.Math.Nat.{div-mul-le_self, mul-le-mul_left, pow-succ'}
use Rattle.std.proofs.lemmas.Nat.{le-div}
use Rattle.std.proofs.lemmas.Bool.{cases_eq}
use Rattle.jk_math.specs.declared.rect.Rect.{Rect}
use Rattle.jk_geom.specs.Rectangles.{IsWithin, resolution_area}
use Rattle.jk_lift.specs.Lifting.{unlifted}
use Rattle.jk_lift.proofs.Laws.{grows_plane, bounds_plane}
use Rattle.jk_wave.specs.Resolutions.{woven_plane, resolution_of}
use Rattle.jk_wave.specs.Analysis.{reduced, analysed}
use Rattle.jk_wave.specs.Bands.{numbered_area}
use Rattle.jk_wave.specs.Laws.{IsBounded, GrowsLevels, HasEnoughPlanes, HasWidth, BoundsResolutions}
use Rattle.jk_wave.specs.Levels.{half_area, unlifted_over, lifted_over}
use Rattle.jk_wave.proofs.Equations.{woven_even, woven_odd, resolution_lowest, resolution_more, reduced_none, reduced_more, analysed_lowest, analysed_more}
use Rattle.jk_wave.proofs.Halves.{half_within, below_half, lowest_area, number_area, resolution_top}
use Rattle.jk_wave.proofs.Local.{in_low, in_part}

-- a power of a sum
power_more : (b n : ℕ) → b ^ (n + 1) ≡ b * b ^ n
power_more b n = ap (λ k. b ^ k) (add-one n) ∙ pow-succ' b n

some_power : (n : ℕ) → 0 < 4 ^ n
some_power zero = omega arith
some_power (suc n) = let h = some_power n in let e : 4 ^ (n + 1) ≡ 4 * 4 ^ n = power_more 4 n in subst (λ k. 0 < 4 ^ k) (add-one n) (omega arith)

-- a place of part o of a level is at most so large
part_grows : (area : Rect) (f : ℕ → ℕ → ℤ) (b o u v : ℕ) → o < 4 → ((i j : ℕ) → IsWithin area i j → unsigned_abs (f i j) + 2 ≤ b) → IsWithin (half_area area o) u v →
    (o ≡ 0 → 4 * (unsigned_abs (lifted_over area f (2 * u + o % 2) (2 * v + o / 2)) + 2) ≤ 9 * b)
    × (unsigned_abs (lifted_over area f (2 * u + o % 2) (2 * v + o / 2)) + 2 ≤ 4 * b)
part_grows area f b o u v few within h =
    let at = (half_within area o u v few).0 h in
    let x : ℕ = 2 * u + o % 2 in
    let y : ℕ = 2 * v + o / 2 in
    let grown = grows_plane area.x0 area.x1 area.y0 area.y1 b f (λ i j if it jf jt. within i j (record { left = if; right = it; upper = jf; lower = jt })) x y at.left at.right at.upper at.lower in
    (λ low. grown.0 (omega arith) (omega arith), by (unsigned_abs (lifted_over area f x y)) (x % 2) (y % 2) (omega arith) (omega arith) grown.0 grown.1 grown.2 grown.3)
  where
    by : (m p q : ℕ) → p < 2 → q < 2 → (p ≡ 0 → q ≡ 0 → 4 * (m + 2) ≤ 9 * b) → (p ≡ 1 → q ≡ 0 → m + 2 ≤ 3 * b) → (p ≡ 0 → q ≡ 1 → m + 2 ≤ 3 * b) → (p ≡ 1 → q ≡ 1 → m + 2 ≤ 4 * b) → m + 2 ≤ 4 * b
    by m p q fp fq ll hl lh hh = elim (cases_eq p 0) [
      | inl ep ↦ elim (cases_eq q 0) [
        | inl eq ↦ let s = ll ep eq in omega arith
        | inr nq ↦ let s = lh ep (omega arith) in omega arith
      ]
      | inr np ↦ elim (cases_eq q 0) [
        | inl eq ↦ let s = hl (omega arith) eq in omega arith
        | inr nq ↦ hh (omega arith) (omega arith)
      ]
    ]

-- the bound that stands for a power's share
share_of : (p m b v : ℕ) → 0 < p → b ≡ m / p → p * v ≤ m → v ≤ b
share_of p m b v some is h = let turned : v * p ≡ p * v = omega arith in rw is (le-div v m p some (omega arith))

share_back : (p m b k v c : ℕ) → b ≡ m / p → c * v ≤ k * b → c * (p * v) ≤ k * m
share_back p m b k v c is h =
    let whole : b * p ≤ m = rw is (div-mul-le_self m p) in
    let wide : p * (c * v) ≤ p * (k * b) = mul-le-mul_left p h in
    let most : k * (b * p) ≤ k * m = mul-le-mul_left k whole in
    let left : p * (c * v) ≡ c * (p * v) = omega arith in
    let right : p * (k * b) ≡ k * (b * p) = omega arith in
    omega arith

abbrev IsShared : Rect → (levels : ℕ) → (ℕ → ℕ → ℤ) → ℕ → ℕ → Type 0
IsShared a levels f m n = (x y : ℕ) → IsWithin (resolution_area a levels (levels - n)) x y → 4 ^ n * (unsigned_abs (reduced a levels f n x y) + 2) ≤ 9 ^ n * m

-- the next level, from its share
abbrev share : ℕ → ℕ → ℕ
share n m = 9 ^ n * m / 4 ^ n

in_share : (a : Rect) (levels : ℕ) (f : ℕ → ℕ → ℤ) (m n r : ℕ) → levels - n ≡ r → IsShared a levels f m n →
    (x y : ℕ) → IsWithin (resolution_area a levels r) x y → unsigned_abs (reduced a levels f n x y) + 2 ≤ share n m
in_share a levels f m n r e below x y h =
    share_of (4 ^ n) (9 ^ n * m) (share n m) (unsigned_abs (reduced a levels f n x y) + 2) (some_power n) refl (below x y (subst (λ k. IsWithin (resolution_area a levels k) x y) (sym e) h))

low_step : (a : Rect) (levels : ℕ) (f : ℕ → ℕ → ℤ) (m n : ℕ) → n < levels → IsShared a levels f m n → IsShared a levels f m (n + 1)
low_step a levels f m n less below x y h =
    let r : ℕ = levels - (n + 1) in
    let up : levels - n ≡ r + 1 = omega arith in
    let area = resolution_area a levels (r + 1) in
    let part = subst (λ (s : Rect). IsWithin s x y) (below_half a levels r (omega arith)) h in
    let grown = (part_grows area (reduced a levels f n) (share n m) 0 x y (omega arith) (in_share a levels f m n (r + 1) up below) part).0 refl in
    let v = unsigned_abs (lifted_over area (reduced a levels f n) (2 * x + 0) (2 * y + 0)) + 2 in
    let whole : 4 * (4 ^ n * v) ≤ 9 * (9 ^ n * m) = share_back (4 ^ n) (9 ^ n * m) (share n m) 9 v 4 refl grown in
    let at : lifted_over area (reduced a levels f n) (2 * x + 0) (2 * y + 0) ≡ reduced a levels f (n + 1) x y =
    ap (λ k. lifted_over area (reduced a levels f n) k (2 * y + 0)) (let e : 2 * x + 0 ≡ 2 * x = omega arith in e)
    ∙ ap (λ k. lifted_over area (reduced a levels f n) (2 * x) k) (let e : 2 * y + 0 ≡ 2 * y = omega arith in e)
    ∙ ap (λ k. lifted_over (resolution_area a levels k) (reduced a levels f n) (2 * x) (2 * y)) (sym up) ∙ sym (reduced_more a levels f n x y) in
    let four : 4 ^ (n + 1) * v ≡ 4 * (4 ^ n * v) = ap (λ k. k * v) (power_more 4 n) ∙ (let e : 4 * 4 ^ n * v ≡ 4 * (4 ^ n * v) = omega arith in e) in
    let nine : 9 ^ (n + 1) * m ≡ 9 * (9 ^ n * m) = ap (λ k. k * m) (power_more 9 n) ∙ (let e : 9 * 9 ^ n * m ≡ 9 * (9 ^ n * m) = omega arith in e) in
    let done : 4 ^ (n + 1) * v ≤ 9 ^ (n + 1) * m = omega arith in
    subst (λ z. 4 ^ (n + 1) * (unsigned_abs z + 2) ≤ 9 ^ (n + 1) * m) at done

low_grows : (a : Rect) (levels : ℕ) (f : ℕ → ℕ → ℤ) (m : ℕ) → IsBounded a f m → (n : ℕ) → n ≤ levels → IsShared a levels f m n
low_grows a levels f m within zero few x y h =
    let top : levels - 0 ≡ levels = omega arith in
    let inside = subst (λ (s : Rect). IsWithin s x y) (ap (resolution_area a levels) top ∙ resolution_top a levels) h in
    let bound = within x y inside in
    rw reduced_none (omega arith)
low_grows a levels f m within (suc n) few x y h =
    subst (IsShared a levels f m) (add-one n) (low_step a levels f m n (omega arith) (low_grows a levels f m within n (omega arith))) x y h

band_grows : (a : Rect) (levels : ℕ) (f : ℕ → ℕ → ℤ) (m : ℕ) → IsBounded a f m → (n b x y : ℕ) → n < levels → b < 3 →
    IsWithin (numbered_area a levels (3 * (levels - (n + 1)) + b + 1)) x y →
    4 ^ n * (unsigned_abs (analysed a levels f (3 * (levels - (n + 1)) + b + 1) x y) + 2) ≤ 4 * (9 ^ n * m)
band_grows a levels f m within n b x y less few h =
    let r : ℕ = levels - (n + 1) in
    let up : levels - n ≡ r + 1 = omega arith in
    let left : levels - (r + 1) ≡ n = omega arith in
    let number : 3 * r + b + 1 ≡ 3 * r + (b + 1) = omega arith in
    let area = resolution_area a levels (r + 1) in
    let part = subst (λ (s : Rect). IsWithin s x y) (ap (numbered_area a levels) number ∙ number_area a levels r (b + 1) (omega arith) (omega arith) (omega arith)) h in
    let at : analysed a levels f (3 * r + b + 1) x y ≡ lifted_over area (reduced a levels f n) (2 * x + (b + 1) % 2) (2 * y + (b + 1) / 2) =
    ap (λ k. analysed a levels f k x y) number ∙ analysed_more a levels f r (b + 1) x y (omega arith) (omega arith)
    ∙ ap (λ k. lifted_over area (reduced a levels f k) (2 * x + (b + 1) % 2) (2 * y + (b + 1) / 2)) left in
    let grown = (part_grows area (reduced a levels f n) (share n m) (b + 1) x y (omega arith) (in_share a levels f m n (r + 1) up (low_grows a levels f m within n (omega arith))) part).1 in
    let v = unsigned_abs (lifted_over area (reduced a levels f n) (2 * x + (b + 1) % 2) (2 * y + (b + 1) / 2)) + 2 in
    let whole : 1 * (4 ^ n * v) ≤ 4 * (9 ^ n * m) = share_back (4 ^ n) (9 ^ n * m) (share n m) 4 v 1 refl (omega arith) in
    let done : 4 ^ n * v ≤ 4 * (9 ^ n * m) = omega arith in
    subst (λ z. 4 ^ n * (unsigned_abs z + 2) ≤ 4 * (9 ^ n * m)) (sym at) done

pub grows_levels : GrowsLevels
grows_levels a levels f m within = ((λ n x y few. low_grows a levels f m within n few x y), band_grows a levels f m within)

-- the same bound with more levels
more_levels : (n d v m : ℕ) → 4 ^ n * v ≤ 9 ^ n * m → 4 ^ (n + d) * v ≤ 9 ^ (n + d) * m
more_levels n zero v m h = let e : n + 0 ≡ n = omega arith in rw e h
more_levels n (suc d) v m h =
    let k : ℕ = n + d in
    let below = more_levels n d v m h in
    let next : n + suc d ≡ k + 1 = omega arith in
    let four : 4 ^ (k + 1) * v ≡ 4 * (4 ^ k * v) = ap (λ j. j * v) (power_more 4 k) ∙ (let e : 4 * 4 ^ k * v ≡ 4 * (4 ^ k * v) = omega arith in e) in
    let nine : 9 ^ (k + 1) * m ≡ 9 * (9 ^ k * m) = ap (λ j. j * m) (power_more 9 k) ∙ (let e : 9 * 9 ^ k * m ≡ 9 * (9 ^ k * m) = omega arith in e) in
    rw next (omega arith)

up_to : (n k v m : ℕ) → n ≤ k → 4 ^ n * v ≤ 9 ^ n * m → 4 ^ k * v ≤ 9 ^ k * m
up_to n k v m few h = let e : n + (k - n) ≡ k = omega arith in subst (λ j. 4 ^ j * v ≤ 9 ^ j * m) e (more_levels n (k - n) v m h)

-- each coefficient of at most k + 1 levels
coefficient_grows : (a : Rect) (levels : ℕ) (f : ℕ → ℕ → ℤ) (m k : ℕ) → IsBounded a f m → levels ≤ k + 1 → (b x y : ℕ) → b ≤ 3 * levels → IsWithin (numbered_area a levels b) x y →
    (4 ^ (k + 1) * (unsigned_abs (analysed a levels f b x y) + 2) ≤ 9 ^ (k + 1) * m) ⊎ (4 ^ k * (unsigned_abs (analysed a levels f b x y) + 2) ≤ 9 ^ k * (4 * m))
coefficient_grows a levels f m k within few b x y inside h = elim (cases_eq b 0) [
  | inl e ↦
      let none : levels - levels ≡ 0 = omega arith in
      let there = subst (λ (s : Rect). IsWithin s x y) (ap (numbered_area a levels) e ∙ lowest_area a levels ∙ ap (resolution_area a levels) (sym none)) h in
      let at : analysed a levels f b x y ≡ reduced a levels f levels x y = ap (λ n. analysed a levels f n x y) e ∙ analysed_lowest a levels f x y in
      inl (rw at (up_to levels (k + 1) _ m few (low_grows a levels f m within levels (omega arith) x y there)))
  | inr ne ↦
      let q : ℕ = (b - 1) / 3 in
      let o : ℕ = (b - 1) % 3 in
      let n : ℕ = levels - (q + 1) in
      let number : 3 * (levels - (n + 1)) + o + 1 ≡ b = omega arith in
      let Q : ℕ → Type 0 = λ j. IsWithin (numbered_area a levels j) x y → 4 ^ n * (unsigned_abs (analysed a levels f j x y) + 2) ≤ 4 * (9 ^ n * m) in
      let grown = subst Q number (band_grows a levels f m within n o x y (omega arith) (omega arith)) h in
      let turned : 4 * (9 ^ n * m) ≡ 9 ^ n * (4 * m) = omega arith in
      inr (up_to n k (unsigned_abs (analysed a levels f b x y) + 2) (4 * m) (omega arith) (omega arith))
]

pub has_planes : HasEnoughPlanes
has_planes a levels f b x y few inside small h =
    elim (coefficient_grows a levels f 65537 4 (λ u v w. let s = small u v w in omega arith) few b x y inside h) [ inl g ↦ omega arith | inr g ↦ omega arith ]

pub has_width : HasWidth
has_width a levels f b x y few inside small h =
    elim (coefficient_grows a levels f 131073 9 (λ u v w. let s = small u v w in omega arith) few b x y inside h) [ inl g ↦ omega arith | inr g ↦ omega arith ]

-- what is left after at most nine levels
pub reduced_small : (a : Rect) (levels : ℕ) (f : ℕ → ℕ → ℤ) (n x y : ℕ) → n ≤ 9 → n ≤ levels →
    ((u v : ℕ) → IsWithin a u v → unsigned_abs (f u v) < 2 ^ 17) → IsWithin (resolution_area a levels (levels - n)) x y → unsigned_abs (reduced a levels f n x y) + 2 ≤ 2 ^ 28
reduced_small a levels f n x y nine few small h =
    let bound = up_to n 9 (unsigned_abs (reduced a levels f n x y) + 2) 131073 nine (low_grows a levels f 131073 (λ u v w. let s = small u v w in omega arith) n few x y h) in
    omega arith

-- One level back, where the low-pass part is within b / 4.
pub level_bound : (area : Rect) (low : ℕ → ℕ → ℤ) (high : ℕ → ℕ → ℕ → ℤ) (b : ℕ) →
    ((u v : ℕ) → IsWithin (half_area area 0) u v → 4 * unsigned_abs (low u v) ≤ b) →
    ((o u v : ℕ) → 0 < o → o < 4 → IsWithin (half_area area o) u v → unsigned_abs (high o u v) ≤ 2 ^ 23) →
    (x y : ℕ) → IsWithin area x y →
    (4 * unsigned_abs (unlifted area.x0 area.x1 (λ i. woven_plane low high i y) x) ≤ b + 176160775)
    × (4 * unsigned_abs (unlifted_over area (woven_plane low high) x y) ≤ b + 176160775)
level_bound area low high b lows highs x y h =
    let level = bounds_plane area.x0 area.x1 area.y0 area.y1 b (2 ^ 23) (woven_plane low high)
    (λ i j if it jf jt ei ej.
    rw (woven_even low high i j ei ej) (lows (i / 2) (j / 2) (in_low area i j (record { left = if; right = it; upper = jf; lower = jt }) ei ej)))
    (λ i j if it jf jt odd.
    let o : ℕ = i % 2 + 2 * (j % 2) in
    let some : 0 < o = elim odd [ inl e ↦ omega arith | inr e ↦ omega arith ] in
    rw (woven_odd low high i j odd) (highs o (i / 2) (j / 2) some (omega arith) (in_part area i j (record { left = if; right = it; upper = jf; lower = jt }))))
    x y h.left h.right h.upper h.lower in
    (omega (arith, level.0), omega (arith, level.1))

-- the bound of each resolution
pub resolution_bound : (a : Rect) (levels : ℕ) (bands : ℕ → ℕ → ℕ → ℤ) (r : ℕ) → r ≤ levels →
    ((b x y : ℕ) → b ≤ 3 * r → IsWithin (numbered_area a levels b) x y → unsigned_abs (bands b x y) ≤ 2 ^ 23) →
    (x y : ℕ) → IsWithin (resolution_area a levels r) x y → 4 * unsigned_abs (resolution_of a levels bands r x y) ≤ 2 ^ 25 + r * 176160775
resolution_bound a levels bands zero few small x y h =
    let s = small 0 x y (omega arith) (subst (λ (s : Rect). IsWithin s x y) (sym (lowest_area a levels)) h) in
    rw resolution_lowest (omega arith)
resolution_bound a levels bands (suc r) few small x y h =
    subst (λ n. IsWithin (resolution_area a levels n) x y → 4 * unsigned_abs (resolution_of a levels bands n x y) ≤ 2 ^ 25 + n * 176160775) (add-one r) (λ inside.
    let area = resolution_area a levels (r + 1) in
    let bound = (level_bound area (resolution_of a levels bands r) (λ o. bands (3 * r + o)) (2 ^ 25 + r * 176160775)
    (λ u v w. resolution_bound a levels bands r (omega arith) (λ b i j below. small b i j (omega arith)) u v (subst (λ (s : Rect). IsWithin s u v) (sym (below_half a levels r (omega arith))) w))
    (λ o u v some four w. small (3 * r + o) u v (omega arith) (subst (λ (s : Rect). IsWithin s u v) (sym (number_area a levels r o (omega arith) some four)) w))
    x y inside).1 in
    rw (resolution_more a levels bands r x y) (omega arith)) h

pub bounds_resolutions : BoundsResolutions
bounds_resolutions a levels bands r ten few small x y h = let bound = resolution_bound a levels bands r few small x y h in omega arith
