-- Where the parts of the sub-bands of a region lie in the lists of their resolutions.
use Rattle.std.proofs.Common.{◌≡◌, ◌≢◌, ℕ, zero, suc, ◌+◌, ◌-◌, ◌*◌, ◌/◌, ◌%◌, ◌<◌, ◌≤◌, inl, inr, Bool, true, false, cond, refl, sym, ◌∙◌, ap, subst, arith}
use Rattle.std.proofs.lemmas.Bool.{cases_eq, cases_lt}
use Rattle.std.proofs.lemmas.Nat.{row_fits}
use mir.Val.{bool_byte}
use Rattle.jk_math.specs.declared.rect.Rect.{Rect}
use Rattle.jk_math.specs.Raster.{columns_of, rows_of, places_of}
use Rattle.jk_math.specs.Signed.{signed_at}
use Rattle.jk_math.proofs.Laws.{index_below}
use Rattle.jk_geom.specs.Rectangles.{IsWithin}
use Rattle.jk_wave.specs.declared.region.Region.{Region}
use Rattle.jk_wave.specs.declared.places.BandRows.{BandRows}
use Rattle.jk_wave.specs.Laws.{LiesInLevel, LiesApart, LiesOffLow, HasRows, IsOther, KeepsOthers}
use Rattle.jk_wave.specs.Levels.{half_area}
use Rattle.jk_wave.specs.LevelRows.{index_in, first_of_part, part_rows, FitsIn}
use Rattle.jk_wave.specs.Regions.{around, part_area}
use Rattle.jk_wave.specs.RegionRows.{resolution_with, level_places, band_start, band_step, band_rows, low_rows}
use Rattle.jk_wave.proofs.Within.{within_place}
use Rattle.jk_wave.proofs.PartRows.{part_inside, part_apart, rows_fit, same_row, same_column}

-- where a part begins, from its parities
pub start_is : (a : Rect) (across down : Bool) (part : Rect) (left : ℕ) → part ≡ half_area a (cond across 1 0 + cond down 2 0) →
    left ≡ cond across (columns_of (half_area a 0)) 0 →
    (2 * part.y0 + bool_byte down - a.y0) * columns_of a + left ≡ first_of_part a (cond across 1 0 + cond down 2 0)
unfolding first_of_part
start_is a false false part left e f =
    ap (λ (q : Rect). (2 * q.y0 + 0 - a.y0) * columns_of a + left) e ∙ ap (λ n. (2 * (half_area a 0).y0 + 0 - a.y0) * columns_of a + n) (f ∙ (let none : 0 ≡ 0 * columns_of (half_area a 0) = omega arith in none))
start_is a false true part left e f =
    ap (λ (q : Rect). (2 * q.y0 + 1 - a.y0) * columns_of a + left) e ∙ ap (λ n. (2 * (half_area a 2).y0 + 1 - a.y0) * columns_of a + n) (f ∙ (let none : 0 ≡ 0 * columns_of (half_area a 0) = omega arith in none))
start_is a true false part left e f =
    ap (λ (q : Rect). (2 * q.y0 + 0 - a.y0) * columns_of a + left) e ∙ ap (λ n. (2 * (half_area a 1).y0 + 0 - a.y0) * columns_of a + n) (f ∙ (let one : columns_of (half_area a 0) ≡ 1 * columns_of (half_area a 0) = omega arith in one))
start_is a true true part left e f =
    ap (λ (q : Rect). (2 * q.y0 + 1 - a.y0) * columns_of a + left) e ∙ ap (λ n. (2 * (half_area a 3).y0 + 1 - a.y0) * columns_of a + n) (f ∙ (let one : columns_of (half_area a 0) ≡ 1 * columns_of (half_area a 0) = omega arith in one))

pub rows_are : (p q : BandRows) → p.area ≡ q.area → p.start ≡ q.start → p.step ≡ q.step → p ≡ q
rows_are p q e f g = λ i. record { area = e i; start = f i; step = g i }

-- how many places a list has
level_lowest : (s : Region) → level_places s 0 ≡ places_of (part_area s 0)
unfolding level_places
level_lowest s = refl

level_suc : (s : Region) (r : ℕ) → level_places s (suc r) ≡ places_of (around s (s.top - suc r))
unfolding level_places
level_suc s r = refl

pub level_low : (s : Region) (r : ℕ) → r ≡ 0 → level_places s r ≡ places_of (part_area s 0)
level_low s r none = ap (level_places s) none ∙ level_lowest s

pub level_more : (s : Region) (r : ℕ) → 0 < r → level_places s r ≡ places_of (around s (s.top - r))
level_more s zero some = absurd (omega arith)
level_more s (suc r) some = level_suc s r

-- LL lies in the list of resolution 0 as it is
pub band_lowest : (s : Region) → band_rows s 0 ≡ record { area = part_area s 0; start = 0; step = columns_of (part_area s 0) }
unfolding band_start band_step
band_lowest s = refl

band_suc : (s : Region) (b : ℕ) → band_rows s (suc b) ≡ part_rows (around s (s.top - (b / 3 + 1))) (b % 3 + 1)
unfolding band_start band_step part_area
band_suc s b = refl

pub band_number : (s : Region) (r o : ℕ) → 0 < o → o < 4 → band_rows s (3 * r + o) ≡ part_rows (around s (s.top - (r + 1))) o
band_number s r o some few =
    let p : ℕ = o - 1 in
    let number : 3 * r + o ≡ suc (3 * r + p) = omega arith in
    let level : (3 * r + p) / 3 + 1 ≡ r + 1 = omega arith in
    let part : (3 * r + p) % 3 + 1 ≡ o = omega arith in
    ap (band_rows s) number ∙ band_suc s (3 * r + p)
    ∙ ap (λ n. part_rows (around s (s.top - n)) ((3 * r + p) % 3 + 1)) level
    ∙ ap (part_rows (around s (s.top - (r + 1)))) part

-- the part of a level that a sub-band is
abbrev pub part_in : (r b : ℕ) → ℕ
part_in r b = b - 3 * (r - 1)

pub band_of : (s : Region) (r b : ℕ) → 0 < r → resolution_with b ≡ r → band_rows s b ≡ part_rows (around s (s.top - r)) (part_in r b)
band_of s r b some of =
    let q : ℕ = r - 1 in
    let o : ℕ = part_in r b in
    let number : b ≡ 3 * q + o = omega arith in
    let up : q + 1 ≡ r = omega arith in
    ap (band_rows s) number ∙ band_number s q o (omega arith) (omega arith) ∙ ap (λ n. part_rows (around s (s.top - n)) o) up

-- a place of a sub-band, as one of the part
pub in_part_of : (s : Region) (r b x y : ℕ) → 0 < r → resolution_with b ≡ r → IsWithin (part_area s b) x y → IsWithin (half_area (around s (s.top - r)) (part_in r b)) x y
in_part_of s r b x y some of h = subst (λ (p : BandRows). IsWithin p.area x y) (band_of s r b some of) h

pub index_of_band : (s : Region) (r b x y : ℕ) → 0 < r → resolution_with b ≡ r → index_in (band_rows s b) x y ≡ index_in (part_rows (around s (s.top - r)) (part_in r b)) x y
index_of_band s r b x y some of = ap (λ (p : BandRows). index_in p x y) (band_of s r b some of)

-- of LL
pub lowest_index : (s : Region) (x y : ℕ) → index_in (band_rows s 0) x y ≡ (y - (part_area s 0).y0) * columns_of (part_area s 0) + (x - (part_area s 0).x0)
lowest_index s x y =
    let e : 0 + (y - (part_area s 0).y0) * columns_of (part_area s 0) + (x - (part_area s 0).x0) ≡ (y - (part_area s 0).y0) * columns_of (part_area s 0) + (x - (part_area s 0).x0) = omega arith in
    ap (λ (p : BandRows). index_in p x y) (band_lowest s) ∙ e

pub lies_in_level : LiesInLevel
lies_in_level s b x y h = elim (cases_eq (resolution_with b) 0) [
  | inl e ↦
      let none : b ≡ 0 = omega arith in
      let inside = index_below (part_area s 0) x y (within_place (part_area s 0) x y (subst (λ n. IsWithin (part_area s n) x y) none h)) in
      rw (level_low s (resolution_with b) e) (subst (λ n. index_in (band_rows s n) x y < places_of (part_area s 0)) (sym none) (rw (lowest_index s x y) inside))
  | inr ne ↦
      let r : ℕ = resolution_with b in
      let some : 0 < r = omega arith in
      rw (level_more s r some) (rw (index_of_band s r b x y some refl) (part_inside (around s (s.top - r)) (part_in r b) x y (omega arith) (in_part_of s r b x y some refl h)))
]

pub lies_apart : LiesApart
lies_apart s b d x y u v same h k e = elim (cases_eq (resolution_with b) 0) [
  | inl z ↦
      let none : b ≡ 0 = omega arith in
      let also : d ≡ 0 = omega arith in
      let a = part_area s 0 in
      let hb = subst (λ n. IsWithin (part_area s n) x y) none h in
      let kd = subst (λ n. IsWithin (part_area s n) u v) also k in
      let hl = hb.left in let hr = hb.right in let hu = hb.upper in
      let kl = kd.left in let kr = kd.right in let ku = kd.upper in
      let at : (y - a.y0) * columns_of a + (x - a.x0) ≡ (v - a.y0) * columns_of a + (u - a.x0) =
      sym (lowest_index s x y) ∙ ap (λ n. index_in (band_rows s n) x y) (sym none) ∙ e ∙ ap (λ n. index_in (band_rows s n) u v) also ∙ lowest_index s u v in
      let down = same_row (columns_of a) (y - a.y0) (x - a.x0) (v - a.y0) (u - a.x0) (omega arith) (omega arith) at in
      let across = same_column (columns_of a) (y - a.y0) (x - a.x0) (v - a.y0) (u - a.x0) (omega arith) (omega arith) at in
      (omega arith, omega arith, omega arith)
  | inr ne ↦
      let r : ℕ = resolution_with b in
      let some : 0 < r = omega arith in
      let both = part_apart (around s (s.top - r)) (part_in r b) (part_in r d) x y u v (omega arith) (omega arith) (in_part_of s r b x y some refl h) (in_part_of s r d u v some (sym same) k)
      (sym (index_of_band s r b x y some refl) ∙ e ∙ index_of_band s r d u v some (sym same)) in
      let part = both.0 in
      (omega arith, both.1, both.2)
]

pub lies_off_low : LiesOffLow
lies_off_low s b x y u v some h k e =
    let r : ℕ = resolution_with b in
    let both = part_apart (around s (s.top - r)) (part_in r b) 0 x y u v (omega arith) (omega arith) (in_part_of s r b x y some refl h) k (sym (index_of_band s r b x y some refl) ∙ e) in
    let part = both.0 in
    omega arith

-- its rows don't overlap, and lie in the list
pub has_rows : HasRows
has_rows s b = elim (cases_eq (resolution_with b) 0) [
  | inl e ↦
      let none : b ≡ 0 = omega arith in
      let a = part_area s 0 in
      let is : band_rows s b ≡ record { area = a; start = 0; step = columns_of a } = ap (band_rows s) none ∙ band_lowest s in
      let fits : FitsIn (record { area = a; start = 0; step = columns_of a }) (places_of a) = λ row inside.
      let end = row_fits row (columns_of a) (rows_of a) (columns_of a) inside (omega arith) in omega arith in
      (subst (λ (p : BandRows). columns_of p.area ≤ p.step) (sym is) (omega arith), rw (level_low s (resolution_with b) e) (subst (λ (p : BandRows). FitsIn p (places_of a)) (sym is) fits))
  | inr ne ↦
      let r : ℕ = resolution_with b in
      let some : 0 < r = omega arith in
      let near = around s (s.top - r) in
      let is = band_of s r b some refl in (
        subst (λ (p : BandRows). columns_of p.area ≤ p.step) (sym is) (omega arith),
        rw (level_more s r some) (subst (λ (p : BandRows). FitsIn p (places_of near)) (sym is) (rows_fit near (part_in r b) (omega arith))),
      )
]

-- where a row of a part is written, all else stays
pub keeps_others : KeepsOthers
keeps_others s b x y n old new h end same =
    let at : ℕ = index_in (band_rows s b) x y in
    let left = h.left in let upper = h.upper in let lower = h.lower in
    let off : (k : ℕ) → ((i : ℕ) → i < n → IsWithin (part_area s b) (x + i) y → index_in (band_rows s b) (x + i) y ≢ k) → signed_at new k ≡ signed_at old k = λ k away.
    elim (cases_lt k at) [
      | inl lt ↦ same k (inl lt)
      | inr ge ↦ elim (cases_lt k (at + n)) [
        | inr behind ↦ same k (inr behind)
        | inl inside ↦ absurd (away (k - at) (omega arith) (record { left = omega arith; right = omega arith; upper = upper; lower = lower }) (omega arith))
      ]
    ] in (
      (λ d u v of w other. off (index_in (band_rows s d) u v) (λ i lt there meet.
          let one = lies_apart s b d (x + i) y u v (sym of) there w meet in
          is_other b x y n d u v i lt one.0 one.1 one.2 other)),
      (λ u v some w. off (index_in (low_rows s (resolution_with b)) u v) (λ i lt there meet. lies_off_low s b (x + i) y u v some there w meet)),
    )
  where
    is_other : (b x y n d u v i : ℕ) → i < n → b ≡ d → x + i ≡ u → y ≡ v → IsOther b x y n d u v → ⊥
    is_other b x y n d u v i lt e f g (inl c) = c (sym e)
    is_other b x y n d u v i lt e f g (inr (inl c)) = c (sym g)
    is_other b x y n d u v i lt e f g (inr (inr (inl c))) = omega arith
    is_other b x y n d u v i lt e f g (inr (inr (inr c))) = omega arith
