-- What a part of a tile depends on is what the window needs of it: a precinct with a code-block that is met is needed.
use Rattle.std.proofs.Common.{◌≡◌, ℕ, zero, suc, ◌+◌, ◌-◌, ◌*◌, ◌<◌, ◌≤◌, true, List, length, sym, ap, ◌∙◌, subst, arith}
use Rattle.jk_math.specs.declared.rect.Rect.{Rect}
use Rattle.jk_marks.specs.declared.coding.Coding.{Coding}
use Rattle.jk_geom.specs.Rectangles.{IsWithin}
use Rattle.jk_geom.specs.TileShapes.{coding_of}
use Rattle.jk_walk.specs.TilePackets.{orientations, band_number}
use Rattle.jk_wave.specs.declared.region.Region.{Region}
use Rattle.jk_wave.specs.Levels.{half_area}
use Rattle.jk_wave.specs.Regions.{held, around, part_area}
use Rattle.jk_wave.specs.Bands.{high_orientation}
use Rattle.jk_wave.proofs.Laws.{part_lowest, part_number}
use Rattle.jk_tile.specs.TileBlocks.{orientation_at}
use Rattle.jk_tile.specs.decoding.TileReading.{region_of, is_met}
use Rattle.jk_tile.proofs.Laws.{met_place}
use Rattle.jk_window.specs.Needs.{part_of_band, stretch, needed_part, is_needed}
use Rattle.jk_window.proofs.Laws.{place_needs}
use Rattle.jk_code.proofs.WindowBands.{seen, high_same, high_part}

-- a rectangle lies in another
record LiesIn (p q : Rect) : Type 0 where
  left : q.x0 ≤ p.x0
  right : p.x1 ≤ q.x1
  upper : q.y0 ≤ p.y0
  lower : p.y1 ≤ q.y1

within : (p q : Rect) (x y : ℕ) → LiesIn p q → IsWithin p x y → IsWithin q x y
within p q x y h w =
    let l = h.left in let r = h.right in let u = h.upper in let b = h.lower in
    let wl = w.left in let wr = w.right in let wu = w.upper in let wb = w.lower in
    record { left = omega (arith, l, wl); right = omega (arith, r, wr); upper = omega (arith, u, wu); lower = omega (arith, b, wb) }

-- what is looked at of a lower resolution
held_lies : (s : Region) (n : ℕ) → LiesIn (held s n) (stretch s.area n)
unfolding held stretch
held_lies s zero = record { left = omega arith; right = omega arith; upper = omega arith; lower = omega arith }
held_lies s (suc n) =
    let h = held_lies s n in
    let l = h.left in let r = h.right in let u = h.upper in let b = h.lower in
    record { left = omega (arith, l); right = omega (arith, r); upper = omega (arith, u); lower = omega (arith, b) }

-- and of its sub-bands
high_lies : (s : Region) (n i : ℕ) → i < 3 → LiesIn (half_area (around s n) (i + 1)) (part_of_band (stretch s.area n) (high_orientation i))
high_lies s n zero lt =
    let h = held_lies s n in
    let l = h.left in let r = h.right in let u = h.upper in let b = h.lower in
    record { left = omega (arith, l); right = omega (arith, r); upper = omega (arith, u); lower = omega (arith, b) }
high_lies s n (suc zero) lt =
    let h = held_lies s n in
    let l = h.left in let r = h.right in let u = h.upper in let b = h.lower in
    record { left = omega (arith, l); right = omega (arith, r); upper = omega (arith, u); lower = omega (arith, b) }
high_lies s n (suc (suc zero)) lt =
    let h = held_lies s n in
    let l = h.left in let r = h.right in let u = h.upper in let b = h.lower in
    record { left = omega (arith, l); right = omega (arith, r); upper = omega (arith, u); lower = omega (arith, b) }
high_lies s n (suc (suc (suc i))) lt = absurd (omega (arith, lt))

part_lies : (s : Region) (r i : ℕ) → i < length (orientations r) → LiesIn (part_area s (band_number r i)) (needed_part s.area (s.top - r) (orientation_at r i))
part_lies s zero zero lt =
    let level : s.top ≡ s.top - 0 = omega arith in
    let lowest : LiesIn (part_area s 0) (stretch s.area s.top) = subst (λ (p : Rect). LiesIn p (stretch s.area s.top)) (sym (part_lowest s)) (held_lies s s.top) in
    subst (λ m. LiesIn (part_area s 0) (stretch s.area m)) level lowest
part_lies s zero (suc i) lt = absurd (omega (arith, lt))
part_lies s (suc q) i lt =
    let n = s.top - (q + 1) in
    let few : i < 3 = omega (arith, lt) in
    let number : 3 * q + (i + 1) ≡ band_number (suc q) i = omega arith in
    let level : n ≡ s.top - suc q = omega arith in
    let area : half_area (around s n) (i + 1) ≡ part_area s (band_number (suc q) i) =
    sym (part_number s q (i + 1) (omega arith) (omega (arith, few))) ∙ ap (part_area s) number in
    let part : part_of_band (stretch s.area n) (high_orientation i) ≡ needed_part s.area (s.top - suc q) (orientation_at (suc q) i) =
    sym (high_part s.area n i few) ∙ ap (needed_part s.area n) (sym (high_same q i few)) ∙ ap (λ m. needed_part s.area m (orientation_at (suc q) i)) level in
    subst (λ (p : Rect). LiesIn p (needed_part s.area (s.top - suc q) (orientation_at (suc q) i))) area
    (subst (LiesIn (half_area (around s n) (i + 1))) part (high_lies s n i few))

-- A precinct with a code-block that is met is needed, where the window has a sample of the tile.
pub met_needs : (a : Rect) (codings : List Coding) (w : Rect) (d c r n i j x y : ℕ) → IsWithin (seen a w d) x y → r + d ≤ (coding_of codings c).levels → i < length (orientations r)
    → is_met (region_of a (coding_of codings c) d (seen a w d)) (coding_of codings c) r n i j ≡ true → is_needed a codings w d c r n ≡ true
met_needs a codings w d c r n i j x y some few lt met =
    let k = coding_of codings c in
    let u = seen a w d in
    let s = region_of a k d u in
    let at = met_place a k d u r n i j met in
    let level : k.levels - d - r ≡ k.levels - (r + d) = omega (arith, few) in
    let part : IsWithin (needed_part u (k.levels - (r + d)) (orientation_at r i)) at.x at.y =
    subst (λ m. IsWithin (needed_part u m (orientation_at r i)) at.x at.y) level
    (within (part_area s (band_number r i)) (needed_part u (k.levels - d - r) (orientation_at r i)) at.x at.y (part_lies s r i lt) at.part) in
    place_needs a codings w d c r n i x y at.x at.y some few lt at.precinct part
