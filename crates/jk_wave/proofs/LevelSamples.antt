-- From the list of a level to the samples of its resolution.
use Rattle.std.proofs.Common.{◌≡◌, ℕ, ◌+◌, ◌-◌, ◌*◌, ◌/◌, ◌%◌, ◌^◌, ◌<◌, ◌≤◌, ◌⊎◌, inl, inr, List, ◌++◌, length, take, drop, ℤ, pos, unsigned_abs, refl, sym, ◌∙◌, ap, subst, arith}
use Rattle.std.specs.List.{All}
use Rattle.std.proofs.lemmas.Bool.{cases_eq, cases_lt}
use Rattle.std.proofs.lemmas.List.Elements.{All-from_get_or}
use Rattle.jk_math.specs.declared.rect.Rect.{Rect}
use Rattle.jk_math.specs.Signed.{IsBelow, signed_at}
use Rattle.jk_math.specs.Raster.{columns_of, rows_of, places_of, raster, plane_at}
use Rattle.jk_math.proofs.Laws.{raster_length, raster_entry, entry_place, raster_at, raster_is, raster_same}
use Rattle.jk_geom.specs.Rectangles.{IsWithin, resolution_area}
use Rattle.jk_lift.proofs.Laws.{is_piece_of_plane}
use Rattle.jk_wave.specs.declared.places.BandRows.{BandRows}
use Rattle.jk_wave.specs.declared.region.Region.{Region}
use Rattle.jk_wave.specs.Laws.{StaysLevel}
use Rattle.jk_wave.specs.Levels.{half_area, unlifted_over}
use Rattle.jk_wave.specs.LevelRows.{index_in, coefficient_of, part_rows, woven_rows, AreZeros, IsBegun, IsBoundedLevel}
use Rattle.jk_wave.specs.Regions.{IsPartOf, IsRegion, held, around, part_area}
use Rattle.jk_wave.specs.RegionRows.{resolution_with, level_places, band_rows, low_rows, ShowsLow, ShowsLevel, AreSmall, IsMadeSmall, IsLevel, IsBegunLevel}
use Rattle.jk_wave.specs.Resolutions.{resolution_of}
use Rattle.jk_wave.proofs.Equations.{level_of, resolution_lowest, resolution_more}
use Rattle.jk_wave.proofs.Local.{in_part, in_low, woven_agree, is_decided}
use Rattle.jk_wave.proofs.Growth.{resolution_bound}
use Rattle.jk_wave.proofs.PartRows.{entry_of}
use Rattle.jk_wave.proofs.Rows.{written_items}
use Rattle.jk_wave.proofs.Synthesis.{below_size, size_below, entry_size, rows_below}
use Rattle.jk_wave.proofs.Within.{place_within, within_place}
use Rattle.jk_wave.proofs.RegionAreas.{held_part, part_within, part_lowest, held_more}
use Rattle.jk_wave.proofs.BandPlaces.{level_low, level_more, band_number, part_in, in_part_of, index_of_band, lowest_index}

-- what is looked at of the resolution below is LL
pub below_is : (s : Region) (r : ℕ) → 0 < r → r ≤ s.top → held s (s.top - (r - 1)) ≡ half_area (around s (s.top - r)) 0
below_is s r some few = ap (held s) (let e : s.top - (r - 1) ≡ s.top - r + 1 = omega arith in e) ∙ held_more s (s.top - r)

-- the list of resolution 0 is LL
pub lowest_samples : (s : Region) (r : ℕ) (rows : List ℤ) (c : ℕ → ℕ → ℕ → ℤ) → r ≡ 0 → length rows ≡ level_places s r → ShowsLevel s r c rows →
    rows ≡ raster (held s (s.top - r)) (resolution_of s.rect s.levels c r)
lowest_samples s r rows c none long shown =
    let area = part_area s 0 in
    let is : area ≡ held s (s.top - r) = part_lowest s ∙ ap (held s) (let e : s.top ≡ s.top - r = omega arith in e) in
    raster_is area rows (resolution_of s.rect s.levels c 0) (long ∙ level_low s r none)
    (λ x y w.
    ap (signed_at rows) (sym (lowest_index s x y)) ∙ shown.bands 0 x y (sym none) (place_within area x y w)
    ∙ sym (resolution_lowest s.rect s.levels c x y))
    ∙ ap (λ n. raster area (resolution_of s.rect s.levels c n)) (sym none)
    ∙ ap (λ q. raster q (resolution_of s.rect s.levels c r)) is

-- one level back of what is near has the samples of the resolution where it is looked at
level_samples : (s : Region) (r : ℕ) (rows : List ℤ) (c : ℕ → ℕ → ℕ → ℤ) → IsRegion s → 0 < r → r ≤ s.top → ShowsLevel s r c rows →
    (x y : ℕ) → IsWithin (held s (s.top - r)) x y → unlifted_over (around s (s.top - r)) (woven_rows (around s (s.top - r)) rows) x y ≡ resolution_of s.rect s.levels c r x y
unfolding woven_rows
level_samples s r rows c region some few shown x y h =
    let n : ℕ = s.top - r in
    let q : ℕ = r - 1 in
    let up : s.top - n ≡ q + 1 = omega arith in
    let back : q + 1 ≡ r = omega arith in
    let area : Rect = resolution_area s.rect s.levels (s.top - n) in
    let u : Rect = held s n in
    let near : Rect = around s n in
    let here : IsWithin area x y = part_within u area x y (held_part s region n (omega arith)) h in
    let low : ℕ → ℕ → ℤ = coefficient_of (part_rows near 0) rows in
    let high : ℕ → ℕ → ℕ → ℤ = λ o. coefficient_of (part_rows near o) rows in
    is_piece_of_plane area u (woven_rows near rows) (level_of s.rect s.levels c q)
    (λ i j if it jf jt.
    let inside : IsWithin near i j = record { left = if; right = it; upper = jf; lower = jt } in
    woven_agree low (resolution_of s.rect s.levels c q) high (λ o. c (3 * q + o)) i j
    (λ ei ej. shown.low (i / 2) (j / 2) some (in_low near i j inside ei ej))
    (λ odd.
    let o : ℕ = i % 2 + 2 * (j % 2) in
    let o_some : 0 < o = elim odd [ inl e ↦ omega arith | inr e ↦ omega arith ] in
    let is : band_rows s (3 * q + o) ≡ part_rows near o = band_number s q o o_some (omega arith) ∙ ap (λ k. part_rows (around s (s.top - k)) o) back in
    let there : IsWithin (part_area s (3 * q + o)) (i / 2) (j / 2) = subst (λ (p : BandRows). IsWithin p.area (i / 2) (j / 2)) (sym is) (in_part near i j inside) in
    ap (λ (p : BandRows). coefficient_of p rows (i / 2) (j / 2)) (sym is)
    ∙ shown.bands (3 * q + o) (i / 2) (j / 2) (omega arith) there))
    x y here.left here.right here.upper here.lower h.left h.right h.upper h.lower
    ∙ ap (λ k. unlifted_over (resolution_area s.rect s.levels k) (level_of s.rect s.levels c q) x y) up
    ∙ sym (resolution_more s.rect s.levels c q x y)
    ∙ ap (λ k. resolution_of s.rect s.levels c k x y) back

-- the items of a vector that a level was made in
pub level_made : (a near : Rect) (n : ℕ) (rows lent new : List ℤ) → n ≡ length new → length new ≡ length lent → lent ≡ rows → a ≡ near →
    new ≡ raster a (unlifted_over a (woven_rows a lent)) → take n (new ++ drop (length new) rows) ≡ raster near (unlifted_over near (woven_rows near rows))
level_made a near n rows lent new count kept is same made =
    written_items n new rows count (kept ∙ ap length is) ∙ made
    ∙ ap (λ l. raster a (unlifted_over a (woven_rows a l))) is
    ∙ ap (λ q. raster q (unlifted_over q (woven_rows q rows))) same

-- what is cropped of it
pub cropped_samples : (s : Region) (r : ℕ) (rows plane made : List ℤ) (c : ℕ → ℕ → ℕ → ℤ) → IsRegion s → 0 < r → r ≤ s.top → ShowsLevel s r c rows →
    plane ≡ raster (around s (s.top - r)) (unlifted_over (around s (s.top - r)) (woven_rows (around s (s.top - r)) rows)) →
    IsPartOf (held s (s.top - r)) (around s (s.top - r)) →
    made ≡ raster (held s (s.top - r)) (plane_at (around s (s.top - r)) plane) → made ≡ raster (held s (s.top - r)) (resolution_of s.rect s.levels c r)
cropped_samples s r rows plane made c region some few shown is part cut =
    let near : Rect = around s (s.top - r) in
    let u : Rect = held s (s.top - r) in
    let f : ℕ → ℕ → ℤ = unlifted_over near (woven_rows near rows) in
    cut ∙ raster_same u (plane_at near plane) (resolution_of s.rect s.levels c r) (λ x y h.
    let w : IsWithin u x y = place_within u x y h in
    ap (λ l. plane_at near l x y) is
    ∙ raster_at near f x y (within_place near x y (part_within u near x y part w))
    ∙ level_samples s r rows c region some few shown x y w)

-- a place is in a rectangle or not
within_or : (a : Rect) (x y : ℕ) → IsWithin a x y ⊎ (IsWithin a x y → ⊥)
within_or a x y = elim (cases_lt x a.x0) [
  | inl lt ↦ inr (λ w. let k = w.left in absurd (omega arith))
  | inr left ↦ elim (cases_lt x a.x1) [
    | inr ge ↦ inr (λ w. let k = w.right in absurd (omega arith))
    | inl right ↦ elim (cases_lt y a.y0) [
      | inl lt ↦ inr (λ w. let k = w.upper in absurd (omega arith))
      | inr upper ↦ elim (cases_lt y a.y1) [
        | inr ge ↦ inr (λ w. let k = w.lower in absurd (omega arith))
        | inl lower ↦ inl (record { left = left; right = right; upper = upper; lower = lower })
      ]
    ]
  ]
]

-- a place is one of this sub-band in the list of the resolution, or not
abbrev pub IsOf : Region → (r b x y : ℕ) → Type 0
IsOf s r b x y = (resolution_with b ≡ r) × IsWithin (part_area s b) x y

pub of_or : (s : Region) (r b x y : ℕ) → IsOf s r b x y ⊎ (IsOf s r b x y → ⊥)
of_or s r b x y = elim (cases_eq (resolution_with b) r) [
  | inl e ↦ elim (within_or (part_area s b) x y) [ inl w ↦ inl (e, w) | inr away ↦ inr (λ h. away h.1) ]
  | inr ne ↦ inr (λ h. ne h.0)
]

-- one of two numbers, where a fact holds and where it doesn't
unfoldable pub chosen : {P : Type 0} → P ⊎ (P → ⊥) → ℤ → ℤ → ℤ
chosen (inl p) a b = a
chosen (inr n) a b = b

chosen_is : {P : Type 0} (d : P ⊎ (P → ⊥)) (a b : ℤ) → P → chosen d a b ≡ a
unfolding chosen
chosen_is (inl p) a b h = refl
chosen_is (inr n) a b h = absurd (n h)

chosen_other : {P : Type 0} (d : P ⊎ (P → ⊥)) (a b : ℤ) → (P → ⊥) → chosen d a b ≡ b
unfolding chosen
chosen_other (inl p) a b other = absurd (other p)
chosen_other (inr n) a b other = refl

chosen_below : {P : Type 0} (m : ℕ) (d : P ⊎ (P → ⊥)) (a b : ℤ) → (P → IsBelow m a) → IsBelow m b → IsBelow m (chosen d a b)
unfolding chosen
chosen_below m (inl p) a b f g = f p
chosen_below m (inr n) a b f g = g

-- The coefficients that the list of a level shows: at the places of its sub-bands its own, and
-- those that LL was made of.
abbrev pub shown_coefficients : (s : Region) (r : ℕ) (rows : List ℤ) → IsLevel s r rows → ℕ → ℕ → ℕ → ℤ
shown_coefficients s r rows h b x y = chosen (of_or s r b x y) (coefficient_of (band_rows s b) rows x y) (h.coefficients b x y)

pub shown_small : (s : Region) (r : ℕ) (rows : List ℤ) (h : IsLevel s r rows) → AreSmall s (shown_coefficients s r rows h)
shown_small s r rows h b x y few =
    chosen_below (2 ^ 23) (of_or s r b x y) (coefficient_of (band_rows s b) rows x y) (h.coefficients b x y) (λ p. h.small b x y p.0 p.1) (h.made_of b x y few)

pub shown_shown : (s : Region) (r : ℕ) (rows : List ℤ) (h : IsLevel s r rows) → IsRegion s → r ≤ s.top → ShowsLevel s r (shown_coefficients s r rows h) rows
shown_shown s r rows h region few = record {
  low = λ x y some w.
      let top = region.top in
      let q : ℕ = r - 1 in
      let area = half_area (around s (s.top - r)) 0 in
      let there : IsWithin (held s (s.top - q)) x y = subst (λ (a : Rect). IsWithin a x y) (sym (below_is s r some few)) w in
      let back : s.top - (s.top - q) ≡ q = omega arith in
      let inside = part_within (held s (s.top - q)) (resolution_area s.rect s.levels (s.top - (s.top - q))) x y (held_part s region (s.top - q) (omega arith)) there in
      h.low x y some w
      ∙ is_decided s.rect s.levels h.coefficients (shown_coefficients s r rows h) q (omega arith)
      (λ b i j under v. sym (chosen_other (of_or s r b i j) (coefficient_of (band_rows s b) rows i j) (h.coefficients b i j) (λ p. let e = p.0 in absurd (omega arith))))
      x y (subst (λ n. IsWithin (resolution_area s.rect s.levels n) x y) back inside);
  bands = λ b x y of w. sym (chosen_is (of_or s r b x y) (coefficient_of (band_rows s b) rows x y) (h.coefficients b x y) (of, w));
}

-- so the samples that are made of it are made of small coefficients
pub made_is : (s : Region) (r : ℕ) (rows values : List ℤ) (h : IsLevel s r rows) → IsRegion s → r ≤ s.top →
    ((c : ℕ → ℕ → ℕ → ℤ) → ShowsLevel s r c rows → values ≡ raster (held s (s.top - r)) (resolution_of s.rect s.levels c r)) → IsMadeSmall s r values
made_is s r rows values h region few samples = record {
  coefficients = shown_coefficients s r rows h;
  small = shown_small s r rows h;
  is = samples (shown_coefficients s r rows h) (shown_shown s r rows h region few);
}

-- the magnitudes of what is made of small coefficients
made_bound : (s : Region) (r : ℕ) (c : ℕ → ℕ → ℕ → ℤ) → IsRegion s → r ≤ s.top → AreSmall s c →
    (x y : ℕ) → IsWithin (held s (s.top - r)) x y → 4 * unsigned_abs (resolution_of s.rect s.levels c r x y) ≤ 2 ^ 25 + r * 176160775
made_bound s r c region few small x y w =
    let top = region.top in
    let back : s.top - (s.top - r) ≡ r = omega arith in
    let inside = part_within (held s (s.top - r)) (resolution_area s.rect s.levels (s.top - (s.top - r))) x y (held_part s region (s.top - r) (omega arith)) w in
    resolution_bound s.rect s.levels c r (omega arith)
    (λ b i j under v. let z = below_size (2 ^ 23) (c b i j) (small b i j (omega arith)) in omega arith)
    x y (subst (λ n. IsWithin (resolution_area s.rect s.levels n) x y) back inside)

pub made_small : (s : Region) (r : ℕ) (values : List ℤ) → IsRegion s → r ≤ s.top → IsMadeSmall s r values → All (IsBelow (2 ^ 29)) values
made_small s r values region few h =
    let area = held s (s.top - r) in
    let f = resolution_of s.rect s.levels h.coefficients r in
    let top = region.top in
    let ten = region.levels in
    let long : length values ≡ places_of area = ap length h.is ∙ raster_length area f in
    All-from_get_or (IsBelow (2 ^ 29)) values (pos 0) (λ k lt.
    let fits : k < places_of area = omega arith in
    let x : ℕ = area.x0 + k % columns_of area in
    let y : ℕ = area.y0 + k / columns_of area in
    let at : signed_at values k ≡ f x y = ap (λ l. signed_at l k) h.is ∙ raster_entry area f k fits in
    let size = made_bound s r h.coefficients region few h.small x y (place_within area x y (entry_place area k fits)) in
    subst (IsBelow (2 ^ 29)) (sym at) (size_below (2 ^ 29) (f x y) (omega arith)))

-- a list from which samples can be made is bounded as the transform asks
pub level_bounded : (s : Region) (r : ℕ) (rows : List ℤ) → IsRegion s → 0 < r → r ≤ s.top → IsLevel s r rows → IsBoundedLevel (around s (s.top - r)) rows
level_bounded s r rows region some few h =
    let near = around s (s.top - r) in
    let q : ℕ = r - 1 in
    let back : q + 1 ≡ r = omega arith in
    record {
      low = λ x y w.
          let top = region.top in
          let ten = region.levels in
          let size = made_bound s q h.coefficients region (omega arith) h.made_of x y (subst (λ (a : Rect). IsWithin a x y) (sym (below_is s r some few)) w) in
          subst (IsBelow (2 ^ 29 - 2 ^ 26)) (sym (h.low x y some w)) (size_below (2 ^ 29 - 2 ^ 26) (resolution_of s.rect s.levels h.coefficients q x y) (omega arith));
      high = λ o x y o_some o_few w.
          let is : band_rows s (3 * q + o) ≡ part_rows near o = band_number s q o o_some o_few ∙ ap (λ k. part_rows (around s (s.top - k)) o) back in
          subst (λ (p : BandRows). IsBelow (2 ^ 23) (coefficient_of p rows x y)) is
          (h.small (3 * q + o) x y (omega arith) (subst (λ (p : BandRows). IsWithin p.area x y) (sym is) w));
    }

-- a list that is made of another
pub stays_level : StaysLevel
stays_level s r old new h long low small = record {
  places = long ∙ h.places;
  coefficients = h.coefficients;
  made_of = h.made_of;
  low = λ x y some w. low x y some w ∙ h.low x y some w;
  small = small;
}

-- what a list that was begun has, of a region
pub begun_low : (s : Region) (r : ℕ) (below rows : List ℤ) → r ≤ s.top → IsBegun (around s (s.top - r)) below rows →
    (x y : ℕ) → 0 < r → IsWithin (low_rows s r).area x y → coefficient_of (low_rows s r) rows x y ≡ plane_at (held s (s.top - (r - 1))) below x y
begun_low s r below rows few h x y some w = h.low x y w ∙ ap (λ a. plane_at a below x y) (sym (below_is s r some few))

pub begun_zeros : (s : Region) (r : ℕ) (below rows : List ℤ) → 0 < r → IsBegun (around s (s.top - r)) below rows →
    (b x y : ℕ) → resolution_with b ≡ r → IsWithin (part_area s b) x y → coefficient_of (band_rows s b) rows x y ≡ pos 0
begun_zeros s r below rows some h b x y of w =
    ap (signed_at rows) (index_of_band s r b x y some of) ∙ h.zeros (part_in r b) x y (omega arith) (omega arith) (in_part_of s r b x y some of w)

pub begun_below : (a : Rect) (below rows : List ℤ) (m : ℕ) → 0 < m → IsBegun a below rows → All (IsBelow m) below → All (IsBelow m) rows
begun_below a below rows m some h small =
    rows_below m (columns_of a) (rows_of a) rows h.places (λ j k lj lk.
    let e = entry_of a j k lj lk in
    subst (λ n. unsigned_abs (signed_at rows n) < m) e.at (elim (cases_eq e.part 0) [
      | inl none ↦
          let Q : ℕ → Type 0 = λ o. IsWithin (half_area a o) e.across e.down → unsigned_abs (coefficient_of (part_rows a o) rows e.across e.down) < m in
          subst Q (sym none) (λ w. rw (h.low e.across e.down w) (entry_size m below some small ((e.down - (half_area a 0).y0) * columns_of (half_area a 0) + (e.across - (half_area a 0).x0)))) e.within
      | inr high ↦ rw (h.zeros e.part e.across e.down (omega arith) e.few e.within) some
    ]))

-- a list with LL of a resolution that is made of small coefficients, and else zeros
abbrev BandsAreZeros : Region → (r : ℕ) → List ℤ → Type 0
BandsAreZeros s r rows = (b x y : ℕ) → resolution_with b ≡ r → IsWithin (part_area s b) x y → coefficient_of (band_rows s b) rows x y ≡ pos 0

zeros_small : (s : Region) (r : ℕ) (rows : List ℤ) → BandsAreZeros s r rows →
    (b x y : ℕ) → resolution_with b ≡ r → IsWithin (part_area s b) x y → IsBelow (2 ^ 23) (coefficient_of (band_rows s b) rows x y)
zeros_small s r rows zeros b x y of w = rw (zeros b x y of w) (size_below (2 ^ 23) (pos 0) (omega arith))

-- zeros alone, of resolution 0
pub begun_lowest : (s : Region) (r : ℕ) (below rows : List ℤ) → r ≡ 0 → AreZeros (places_of (held s s.top)) rows → IsBegunLevel s r below rows
begun_lowest s r below rows none h =
    let zeros : BandsAreZeros s r rows = λ b x y of w. h.zeros (index_in (band_rows s b) x y) in
    let long : length rows ≡ level_places s r = h.count ∙ ap places_of (sym (part_lowest s)) ∙ sym (level_low s r none) in
    record {
      places = long;
      low = λ x y some w. absurd (omega arith);
      zeros = zeros;
      shows = λ f was x y some w. absurd (omega arith);
      small = λ m some small. All-from_get_or (IsBelow m) rows (pos 0) (λ k lt. rw (h.zeros k) (size_below m (pos 0) some));
      level = λ made. record {
        places = long;
        coefficients = λ b x y. pos 0;
        made_of = λ b x y under. size_below (2 ^ 23) (pos 0) (omega arith);
        low = λ x y some w. absurd (omega arith);
        small = zeros_small s r rows zeros;
      };
    }

-- LL and zeros, of a resolution above it
pub begun_above : (s : Region) (r : ℕ) (below rows : List ℤ) → 0 < r → r ≤ s.top → IsBegun (around s (s.top - r)) below rows → IsBegunLevel s r below rows
begun_above s r below rows some few h =
    let low = begun_low s r below rows few h in
    let zeros = begun_zeros s r below rows some h in
    let long : length rows ≡ level_places s r = h.places ∙ sym (level_more s r some) in
    let shows : (f : ℕ → ℕ → ℤ) → (0 < r → below ≡ raster (held s (s.top - (r - 1))) f) → ShowsLow s r f rows = λ f was x y _ w.
    let area = held s (s.top - (r - 1)) in
    low x y some w ∙ ap (λ l. plane_at area l x y) (was some)
    ∙ raster_at area f x y (within_place area x y (subst (λ (a : Rect). IsWithin a x y) (sym (below_is s r some few)) w)) in
    record {
      places = long;
      low = low;
      zeros = zeros;
      shows = shows;
      small = λ m any. begun_below (around s (s.top - r)) below rows m any h;
      level = λ made.
          let g = made some in
          record {
            places = long;
            coefficients = g.coefficients;
            made_of = g.small;
            low = shows (resolution_of s.rect s.levels g.coefficients (r - 1)) (λ _. g.is);
            small = zeros_small s r rows zeros;
          };
    }
