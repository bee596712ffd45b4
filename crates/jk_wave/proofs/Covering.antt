-- The sample above a coefficient: where a region has it, the region depends on the coefficient.
use Rattle.std.proofs.Common.{◌≡◌, ℕ, zero, suc, ◌+◌, ◌-◌, ◌*◌, ◌/◌, ◌%◌, ◌^◌, ◌<◌, ◌≤◌, sym, ◌∙◌, ap, subst, arith}
use Rattle.std.proofs.lemmas.Nat.{pow-add}
use Rattle.jk_math.specs.declared.rect.Rect.{Rect}
use Rattle.jk_geom.specs.Rectangles.{IsWithin, resolution_area}
use Rattle.jk_lift.specs.Pieces.{near_area}
use Rattle.jk_wave.specs.declared.region.Region.{Region}
use Rattle.jk_wave.specs.Bands.{numbered_area}
use Rattle.jk_wave.specs.Levels.{half_area}
use Rattle.jk_wave.specs.Regions.{held, around, part_area}
use Rattle.jk_wave.proofs.Halves.{half_within, below_half, lowest_area, number_area}
use Rattle.jk_wave.proofs.RegionAreas.{held_none, held_suc, part_lowest, part_number}

-- the coordinate n resolutions above
abbrev pub raised : ℕ → ℕ → ℕ
raised n x = x * 2 ^ n

-- of resolution `top`, the sample above a coefficient of sub-band b, in the order of QCD
abbrev pub column_above : (top b x : ℕ) → ℕ
column_above top zero x = raised top x
column_above top (suc b) x = raised (top - (b / 3 + 1)) (2 * x + (b % 3 + 1) % 2)

abbrev pub row_above : (top b y : ℕ) → ℕ
row_above top zero y = raised top y
row_above top (suc b) y = raised (top - (b / 3 + 1)) (2 * y + (b % 3 + 1) / 2)

raised_none : (x : ℕ) → raised 0 x ≡ x
raised_none x = omega arith

raised_suc : (n x : ℕ) → raised (suc n) x ≡ raised n (2 * x)
raised_suc n x =
    let power : 2 ^ (n + 1) ≡ 2 ^ n * 2 = pow-add 2 n 1 in
    let one : suc n ≡ n + 1 = omega arith in
    ap (λ m. x * 2 ^ m) one ∙ ap (λ p. x * p) power ∙ (let e : x * (2 ^ n * 2) ≡ 2 * x * 2 ^ n = grind arith in e)

within_at : (a : Rect) (x y u v : ℕ) → x ≡ u → y ≡ v → IsWithin a x y → IsWithin a u v
within_at a x y u v e f h = subst (λ k. IsWithin a k v) e (subst (IsWithin a x) f h)

-- one resolution above
above_once : (a : Rect) (levels r x y : ℕ) → r < levels → IsWithin (resolution_area a levels r) x y → IsWithin (resolution_area a levels (r + 1)) (2 * x) (2 * y)
above_once a levels r x y less h =
    let area = resolution_area a levels (r + 1) in
    let half : IsWithin (half_area area 0) x y = subst (λ (q : Rect). IsWithin q x y) (below_half a levels r less) h in
    within_at area (2 * x + 0 % 2) (2 * y + 0 / 2) (2 * x) (2 * y) (omega arith) (omega arith) ((half_within area 0 x y (omega arith)).0 half)

-- n resolutions above
above_more : (a : Rect) (levels n r x y : ℕ) → r + n ≤ levels → IsWithin (resolution_area a levels r) x y → IsWithin (resolution_area a levels (r + n)) (raised n x) (raised n y)
above_more a levels zero r x y few h =
    let same : r ≡ r + 0 = omega arith in
    within_at (resolution_area a levels (r + 0)) x y (raised 0 x) (raised 0 y) (sym (raised_none x)) (sym (raised_none y)) (subst (λ k. IsWithin (resolution_area a levels k) x y) same h)
above_more a levels (suc n) r x y few h =
    let once = above_once a levels r x y (omega (arith, few)) h in
    let there = above_more a levels n (r + 1) (2 * x) (2 * y) (omega (arith, few)) once in
    let same : r + 1 + n ≡ r + suc n = omega arith in
    within_at (resolution_area a levels (r + suc n)) (raised n (2 * x)) (raised n (2 * y)) (raised (suc n) x) (raised (suc n) y) (sym (raised_suc n x)) (sym (raised_suc n y))
    (subst (λ k. IsWithin (resolution_area a levels k) (raised n (2 * x)) (raised n (2 * y))) same there)

-- The sample above a coefficient is one of the resolution.
pub sample_above : (a : Rect) (levels top b x y : ℕ) → top ≤ levels → b ≤ 3 * top → IsWithin (numbered_area a levels b) x y → IsWithin (resolution_area a levels top) (column_above top b x) (row_above top b y)
sample_above a levels top zero x y under few h =
    let lowest : IsWithin (resolution_area a levels 0) x y = subst (λ (q : Rect). IsWithin q x y) (lowest_area a levels) h in
    let same : 0 + top ≡ top = omega arith in
    subst (λ k. IsWithin (resolution_area a levels k) (raised top x) (raised top y)) same (above_more a levels top 0 x y (omega (arith, under)) lowest)
sample_above a levels top (suc b) x y under few h =
    let r : ℕ = b / 3 in
    let o : ℕ = b % 3 + 1 in
    let n : ℕ = top - (r + 1) in
    let number : suc b ≡ 3 * r + o = omega arith in
    let less : r < top = omega (arith, few) in
    let part : IsWithin (half_area (resolution_area a levels (r + 1)) o) x y =
    subst (λ (q : Rect). IsWithin q x y) (ap (numbered_area a levels) number ∙ number_area a levels r o (omega (arith, less, under)) (omega arith) (omega arith)) h in
    let whole = (half_within (resolution_area a levels (r + 1)) o x y (omega arith)).0 part in
    let same : r + 1 + n ≡ top = omega (arith, less) in
    subst (λ k. IsWithin (resolution_area a levels k) (raised n (2 * x + o % 2)) (raised n (2 * y + o / 2))) same
    (above_more a levels n (r + 1) (2 * x + o % 2) (2 * y + o / 2) (omega (arith, less, under)) whole)

-- what a rectangle has of another is near that
near_within : (a u : Rect) (x y : ℕ) → IsWithin a x y → IsWithin u x y → IsWithin (near_area a u) x y
near_within a u x y h g =
    let hl = h.left in let hr = h.right in let hu = h.upper in let hd = h.lower in
    let gl = g.left in let gr = g.right in let gu = g.upper in let gd = g.lower in
    record { left = omega arith; right = omega arith; upper = omega arith; lower = omega arith }

-- What is n resolutions below a place of the region is looked at.
held_has : (s : Region) (n x y : ℕ) → s.top ≤ s.levels → n ≤ s.top → IsWithin (resolution_area s.rect s.levels (s.top - n)) x y → IsWithin s.area (raised n x) (raised n y) → IsWithin (held s n) x y
held_has s zero x y under few h above =
    subst (λ (q : Rect). IsWithin q x y) (sym (held_none s)) (within_at s.area (raised 0 x) (raised 0 y) x y (raised_none x) (raised_none y) above)
held_has s (suc n) x y under few h above =
    let area = resolution_area s.rect s.levels (s.top - n) in
    let up : s.top - suc n + 1 ≡ s.top - n = omega (arith, few) in
    let once : IsWithin area (2 * x) (2 * y) = subst (λ k. IsWithin (resolution_area s.rect s.levels k) (2 * x) (2 * y)) up (above_once s.rect s.levels (s.top - suc n) x y (omega (arith, few, under)) h) in
    let seen = held_has s n (2 * x) (2 * y) under (omega (arith, few)) once (within_at s.area (raised (suc n) x) (raised (suc n) y) (raised n (2 * x)) (raised n (2 * y)) (raised_suc n x) (raised_suc n y) above) in
    let near = near_within area (held s n) (2 * x) (2 * y) once seen in
    let half = (half_within (around s n) 0 x y (omega arith)).1 (within_at (around s n) (2 * x) (2 * y) (2 * x + 0 % 2) (2 * y + 0 / 2) (omega arith) (omega arith) near) in
    subst (λ (q : Rect). IsWithin q x y) (sym (held_suc s n)) half

-- The region depends on a coefficient of which it has the sample above.
pub part_has : (s : Region) (b x y : ℕ) → s.top ≤ s.levels → b ≤ 3 * s.top → IsWithin (numbered_area s.rect s.levels b) x y → IsWithin s.area (column_above s.top b x) (row_above s.top b y) → IsWithin (part_area s b) x y
part_has s zero x y under few h above =
    let none : 0 ≡ s.top - s.top = omega arith in
    let lowest : IsWithin (resolution_area s.rect s.levels (s.top - s.top)) x y =
    subst (λ (q : Rect). IsWithin q x y) (lowest_area s.rect s.levels ∙ ap (resolution_area s.rect s.levels) none) h in
    subst (λ (q : Rect). IsWithin q x y) (sym (part_lowest s)) (held_has s s.top x y under (omega arith) lowest above)
part_has s (suc b) x y under few h above =
    let r : ℕ = b / 3 in
    let o : ℕ = b % 3 + 1 in
    let n : ℕ = s.top - (r + 1) in
    let number : suc b ≡ 3 * r + o = omega arith in
    let less : r < s.top = omega (arith, few) in
    let up : r + 1 ≡ s.top - n = omega (arith, less) in
    let area = resolution_area s.rect s.levels (s.top - n) in
    let part : IsWithin (half_area (resolution_area s.rect s.levels (r + 1)) o) x y =
    subst (λ (q : Rect). IsWithin q x y) (ap (numbered_area s.rect s.levels) number ∙ number_area s.rect s.levels r o (omega (arith, less, under)) (omega arith) (omega arith)) h in
    let whole : IsWithin area (2 * x + o % 2) (2 * y + o / 2) =
    subst (λ k. IsWithin (resolution_area s.rect s.levels k) (2 * x + o % 2) (2 * y + o / 2)) up ((half_within (resolution_area s.rect s.levels (r + 1)) o x y (omega arith)).0 part) in
    let seen = held_has s n (2 * x + o % 2) (2 * y + o / 2) under (omega arith) whole above in
    let near = near_within area (held s n) (2 * x + o % 2) (2 * y + o / 2) whole seen in
    let half = (half_within (around s n) o x y (omega arith)).1 near in
    subst (λ k. IsWithin (part_area s k) x y) (sym number) (subst (λ (q : Rect). IsWithin q x y) (sym (part_number s r o (omega arith) (omega arith))) half)
