-- The rectangles of a region: what is looked at of each resolution, and the parts of the sub-bands.
use Rattle.std.proofs.Common.{◌≡◌, ℕ, zero, suc, ◌+◌, ◌-◌, ◌*◌, ◌/◌, ◌%◌, ◌^◌, ◌<◌, ◌≤◌, min, max, refl, sym, ◌∙◌, ap, subst, add-one, arith}
use Rattle.std.proofs.lemmas.Nat.{pow_pos}
use Rattle.jk_math.specs.declared.rect.Rect.{Rect}
use Rattle.jk_geom.specs.Rectangles.{IsArea, IsWithin, resolution_area}
use Rattle.jk_geom.proofs.Laws.{ceil_self, ceil_mono}
use Rattle.jk_lift.specs.Pieces.{near_area}
use Rattle.jk_wave.specs.declared.region.Region.{Region}
use Rattle.jk_wave.specs.Bands.{numbered_area}
use Rattle.jk_wave.specs.Levels.{half_area}
use Rattle.jk_wave.specs.Regions.{IsPartOf, IsRegion, held, around, part_area}
use Rattle.jk_wave.proofs.Halves.{below_half, lowest_area, number_area}

-- what is near a part is a part, and has it
pub near_part : (a u : Rect) → IsPartOf u a → IsPartOf (near_area a u) a
near_part a u h =
    let l = h.left in let x = h.across in let r = h.right in let t = h.upper in let y = h.down in let b = h.lower in
    record { left = omega arith; across = omega arith; right = omega arith; upper = omega arith; down = omega arith; lower = omega arith }

pub near_has : (a u : Rect) → IsPartOf u a → IsPartOf u (near_area a u)
near_has a u h =
    let l = h.left in let x = h.across in let r = h.right in let t = h.upper in let y = h.down in let b = h.lower in
    record { left = omega arith; across = omega arith; right = omega arith; upper = omega arith; down = omega arith; lower = omega arith }

-- the halves of a part are parts of the halves
pub half_part : (p a : Rect) (o : ℕ) → IsPartOf p a → IsPartOf (half_area p o) (half_area a o)
half_part p a o h =
    let l = h.left in let x = h.across in let r = h.right in let t = h.upper in let y = h.down in let b = h.lower in
    record { left = omega arith; across = omega arith; right = omega arith; upper = omega arith; down = omega arith; lower = omega arith }

-- a place of a part
pub part_within : (p a : Rect) (x y : ℕ) → IsPartOf p a → IsWithin p x y → IsWithin a x y
part_within p a x y h w =
    let l = h.left in let r = h.right in let t = h.upper in let b = h.lower in
    let wl = w.left in let wr = w.right in let wt = w.upper in let wb = w.lower in
    record { left = omega arith; right = omega arith; upper = omega arith; lower = omega arith }

-- a resolution of an area is one
pub resolution_is_area : (a : Rect) (levels r : ℕ) → IsArea a → IsArea (resolution_area a levels r)
unfolding resolution_area
resolution_is_area a levels r h =
    let p : ℕ = 2 ^ (levels - r) in
    let some : 0 < p = pow_pos (levels - r) in
    let right = h.right in let lower = h.lower in
    let across = ceil_self a.x1 p some in
    let down = ceil_self a.y1 p some in
    record {
      left = ceil_mono a.x0 a.x1 p some h.left;
      upper = ceil_mono a.y0 a.y1 p some h.upper;
      right = omega (arith, across, right);
      lower = omega (arith, down, lower);
    }

-- a part of an area is one
pub part_is_area : (p a : Rect) → IsPartOf p a → IsArea a → IsArea p
part_is_area p a h w =
    let x = h.across in let r = h.right in let y = h.down in let b = h.lower in
    let wr = w.right in let wb = w.lower in
    record { left = omega arith; upper = omega arith; right = omega arith; lower = omega arith }

pub held_none : (s : Region) → held s 0 ≡ s.area
unfolding held
held_none s = refl

pub held_suc : (s : Region) (n : ℕ) → held s (suc n) ≡ half_area (around s n) 0
unfolding held
held_suc s n = refl

pub held_more : (s : Region) (n : ℕ) → held s (n + 1) ≡ half_area (around s n) 0
held_more s n = ap (held s) (add-one n) ∙ held_suc s n

-- one resolution below
pub part_below : (s : Region) (n : ℕ) → n < s.top → s.top ≤ s.levels → IsPartOf (held s n) (resolution_area s.rect s.levels (s.top - n)) →
    IsPartOf (held s (n + 1)) (resolution_area s.rect s.levels (s.top - (n + 1)))
part_below s n less few h =
    let area = resolution_area s.rect s.levels (s.top - n) in
    let up : s.top - (n + 1) + 1 ≡ s.top - n = omega arith in
    let half : resolution_area s.rect s.levels (s.top - (n + 1)) ≡ half_area area 0 =
    below_half s.rect s.levels (s.top - (n + 1)) (omega arith) ∙ ap (λ r. half_area (resolution_area s.rect s.levels r) 0) up in
    subst (λ q. IsPartOf q (resolution_area s.rect s.levels (s.top - (n + 1)))) (sym (held_more s n))
    (subst (IsPartOf (half_area (around s n) 0)) (sym half) (half_part (around s n) area 0 (near_part area (held s n) h)))

-- what is looked at lies in its resolution
pub held_part : (s : Region) → IsRegion s → (n : ℕ) → n ≤ s.top → IsPartOf (held s n) (resolution_area s.rect s.levels (s.top - n))
held_part s h zero few =
    subst (λ q. IsPartOf q (resolution_area s.rect s.levels (s.top - 0))) (sym (held_none s))
    (subst (λ r. IsPartOf s.area (resolution_area s.rect s.levels r)) (let e : s.top ≡ s.top - 0 = omega arith in e) h.inside)
held_part s h (suc n) few =
    let top = h.top in
    subst (λ m. IsPartOf (held s m) (resolution_area s.rect s.levels (s.top - m))) (add-one n)
    (part_below s n (omega (arith, few)) top (held_part s h n (omega (arith, few))))

pub around_part : (s : Region) → IsRegion s → (n : ℕ) → n ≤ s.top → IsPartOf (around s n) (resolution_area s.rect s.levels (s.top - n))
around_part s h n few = near_part (resolution_area s.rect s.levels (s.top - n)) (held s n) (held_part s h n few)

pub held_is_area : (s : Region) → IsRegion s → (n : ℕ) → n ≤ s.top → IsArea (held s n)
held_is_area s h n few =
    part_is_area (held s n) (resolution_area s.rect s.levels (s.top - n)) (held_part s h n few) (resolution_is_area s.rect s.levels (s.top - n) h.rect)

-- the parts of the sub-bands
pub part_lowest : (s : Region) → part_area s 0 ≡ held s s.top
unfolding part_area
part_lowest s = refl

part_suc : (s : Region) (b : ℕ) → part_area s (suc b) ≡ half_area (around s (s.top - (b / 3 + 1))) (b % 3 + 1)
unfolding part_area
part_suc s b = refl

pub part_number : (s : Region) (r o : ℕ) → 0 < o → o < 4 → part_area s (3 * r + o) ≡ half_area (around s (s.top - (r + 1))) o
part_number s r o some few =
    let p : ℕ = o - 1 in
    let number : 3 * r + o ≡ suc (3 * r + p) = omega arith in
    let level : (3 * r + p) / 3 + 1 ≡ r + 1 = omega arith in
    let part : (3 * r + p) % 3 + 1 ≡ o = omega arith in
    ap (part_area s) number ∙ part_suc s (3 * r + p)
    ∙ ap (λ n. half_area (around s (s.top - n)) ((3 * r + p) % 3 + 1)) level
    ∙ ap (half_area (around s (s.top - (r + 1)))) part

-- each lies in its sub-band
pub part_inside : (s : Region) → IsRegion s → (b : ℕ) → b ≤ 3 * s.top → IsPartOf (part_area s b) (numbered_area s.rect s.levels b)
part_inside s h zero few =
    let none : s.top - s.top ≡ 0 = omega arith in
    subst (λ q. IsPartOf q (numbered_area s.rect s.levels 0)) (sym (part_lowest s))
    (subst (IsPartOf (held s s.top)) (ap (resolution_area s.rect s.levels) none ∙ sym (lowest_area s.rect s.levels)) (held_part s h s.top (omega arith)))
part_inside s h (suc b) few =
    let r : ℕ = b / 3 in
    let o : ℕ = b % 3 + 1 in
    let top = h.top in
    let n : ℕ = s.top - (r + 1) in
    let number : 3 * r + o ≡ suc b = omega arith in
    let under : r < s.top = omega (arith, few) in
    let up : s.top - n ≡ r + 1 = omega (arith, under) in
    subst (λ k. IsPartOf (part_area s k) (numbered_area s.rect s.levels k)) number
    (subst (λ q. IsPartOf q (numbered_area s.rect s.levels (3 * r + o))) (sym (part_number s r o (omega arith) (omega arith)))
    (subst (IsPartOf (half_area (around s n) o)) (ap (λ k. half_area (resolution_area s.rect s.levels k) o) up ∙ sym (number_area s.rect s.levels r o (omega (arith, under, top)) (omega arith) (omega arith)))
    (half_part (around s n) (resolution_area s.rect s.levels (s.top - n)) o (around_part s h n (omega arith)))))

-- all of a resolution
abbrev pub whole_region : Rect → (levels r : ℕ) → Region
whole_region a levels r = record { rect = a; levels = levels; top = r; area = resolution_area a levels r }

most : (n : ℕ) → max n (n - 2) ≡ n
most n = omega arith

least : (n : ℕ) → min n (n + 2) ≡ n
least n = omega arith

near_whole : (a : Rect) → near_area a a ≡ a
near_whole a = λ i. record { x0 = most a.x0 i; y0 = most a.y0 i; x1 = least a.x1 i; y1 = least a.y1 i }

pub held_whole : (a : Rect) (levels r n : ℕ) → r ≤ levels → n ≤ r → held (whole_region a levels r) n ≡ resolution_area a levels (r - n)
held_whole a levels r zero few under = held_none (whole_region a levels r) ∙ ap (resolution_area a levels) (let e : r ≡ r - 0 = omega arith in e)
held_whole a levels r (suc n) few under =
    let up : r - suc n + 1 ≡ r - n = omega (arith, under) in
    let same = held_whole a levels r n few (omega (arith, under)) in
    held_suc (whole_region a levels r) n
    ∙ ap (λ q. half_area (near_area (resolution_area a levels (r - n)) q) 0) same
    ∙ ap (λ q. half_area q 0) (near_whole (resolution_area a levels (r - n)))
    ∙ ap (λ k. half_area (resolution_area a levels k) 0) (sym up)
    ∙ sym (below_half a levels (r - suc n) (omega (arith, under, few)))

pub around_whole : (a : Rect) (levels r n : ℕ) → r ≤ levels → n ≤ r → around (whole_region a levels r) n ≡ resolution_area a levels (r - n)
around_whole a levels r n few under =
    ap (near_area (resolution_area a levels (r - n))) (held_whole a levels r n few under) ∙ near_whole (resolution_area a levels (r - n))

pub part_whole : (a : Rect) (levels r b : ℕ) → r ≤ levels → b ≤ 3 * r → part_area (whole_region a levels r) b ≡ numbered_area a levels b
part_whole a levels r zero few under =
    let none : r - r ≡ 0 = omega arith in
    part_lowest (whole_region a levels r) ∙ held_whole a levels r r few (omega arith) ∙ ap (resolution_area a levels) none ∙ sym (lowest_area a levels)
part_whole a levels r (suc b) few under =
    let q : ℕ = b / 3 in
    let o : ℕ = b % 3 + 1 in
    let number : 3 * q + o ≡ suc b = omega arith in
    let less : q < r = omega (arith, under) in
    let up : r - (r - (q + 1)) ≡ q + 1 = omega (arith, less) in
    subst (λ k. part_area (whole_region a levels r) k ≡ numbered_area a levels k) number
    (part_number (whole_region a levels r) q o (omega arith) (omega arith)
    ∙ ap (λ s. half_area s o) (around_whole a levels r (r - (q + 1)) few (omega arith) ∙ ap (resolution_area a levels) up)
    ∙ sym (number_area a levels q o (omega (arith, less, few)) (omega arith) (omega arith)))

pub whole_is_region : (a : Rect) (levels r : ℕ) → IsArea a → levels ≤ 10 → r ≤ levels → IsArea (resolution_area a levels r) → IsRegion (whole_region a levels r)
whole_is_region a levels r area ten few h =
    record {
      rect = area;
      levels = ten;
      top = few;
      inside = record { left = omega arith; across = h.left; right = omega arith; upper = omega arith; down = h.upper; lower = omega arith };
    }
