-- The list of a resolution as code-blocks are put into it.
use Rattle.std.proofs.Common.{◌≡◌, ◌≢◌, ℕ, zero, suc, ◌+◌, ◌-◌, ◌*◌, ◌^◌, ◌<◌, ◌≤◌, ◌⊎◌, Bool, true, false, if◌then◌else◌, List, length, All, ℤ, pos, refl, sym, ap, subst, ◌∙◌, inl, inr, arith}
use Rattle.std.proofs.lemmas.Int.{ints}
use Rattle.std.proofs.lemmas.Bool.{cases_lt, cases_eq}
use Rattle.std.proofs.lemmas.List.{get_or_past}
use Rattle.std.proofs.lemmas.List.Elements.{All-get_or}
use Rattle.jk_math.specs.declared.rect.Rect.{Rect}
use Rattle.jk_math.specs.Raster.{plane_at}
use Rattle.jk_math.specs.Signed.{IsBelow, signed_at}
use Rattle.jk_geom.specs.Rectangles.{IsWithin}
use Rattle.jk_geom.specs.Precincts.{precinct_number}
use Rattle.jk_geom.specs.Partitions.{precinct_of}
use Rattle.jk_walk.specs.TilePackets.{orientations, band_number}
use Rattle.jk_wave.specs.declared.places.BandRows.{BandRows}
use Rattle.jk_wave.specs.LevelRows.{index_in, coefficient_of, FitsIn}
use Rattle.jk_wave.specs.Regions.{part_area}
use Rattle.jk_wave.specs.RegionRows.{resolution_with, level_places, band_rows, low_rows, ShowsLow, ShowsBands, ShowsLevel, IsLevel, IsMadeSmall, IsBegunLevel}
use Rattle.jk_wave.specs.Resolutions.{resolution_of}
use Rattle.jk_wave.proofs.Laws.{lies_apart, lies_off_low, has_rows, stays_level}
use Rattle.jk_tile.specs.Filling.{has}
use Rattle.jk_tile.specs.decoding.TileReading.{block_with}
use Rattle.jk_tile.specs.decoding.Source.{Source, IsSource, source_coefficient, source_part, source_rows, ShowsCoefficient, ShowsBlocks, ShowsPrecinct, IsFilling, Fills, resolution_values}
use Rattle.jk_tile.proofs.Places.{block_found}
use Rattle.jk_tile.proofs.Showing.{has_within, within_has, Agrees, few_levels, part_in_band}

-- ---- the sub-bands of a resolution by their numbers

pub number_with : (r i : ℕ) → i < length (orientations r) → resolution_with (band_number r i) ≡ r
number_with zero i lt = omega arith
number_with (suc r) i lt = omega (arith, lt)

pub number_same : (r i k : ℕ) → i < length (orientations r) → k < length (orientations r) → band_number r i ≡ band_number r k → i ≡ k
number_same zero i k li lk e = omega (arith, li, lk)
number_same (suc r) i k li lk e = omega (arith, e)

-- each that is of the resolution
pub record IsNumbered (r b : ℕ) : Type 0 where
  pub band : ℕ
  pub few : band < length (orientations r)
  pub is : b ≡ band_number r band

pub number_from : (r b : ℕ) → resolution_with b ≡ r → IsNumbered r b
number_from zero b e = record { band = 0; few = omega arith; is = omega (arith, e) }
number_from (suc r) b e = record { band = b - (3 * r + 1); few = omega (arith, e); is = omega (arith, e) }

-- ---- a put

-- What is put into a part of a sub-band, and nothing else.
abbrev pub IsPutInto : BandRows → Rect → (old new values : List ℤ) → Type 0
IsPutInto v place old new values = (x y : ℕ) → IsWithin v.area x y
    → coefficient_of v new x y ≡ (if has place x y then plane_at place values x y else coefficient_of v old x y)

abbrev pub StaysOff : BandRows → (old new : List ℤ) → Type 0
StaysOff v old new = (k : ℕ) → ((x y : ℕ) → IsWithin v.area x y → index_in v x y ≢ k) → signed_at new k ≡ signed_at old k

-- the other sub-bands stay
pub other_stays : (s : Source) (r i k x y : ℕ) (old new : List ℤ) → i < length (orientations r) → k < length (orientations r) → (k ≡ i → ⊥) → StaysOff (source_rows s r i) old new
    → IsWithin (source_part s r k) x y → coefficient_of (source_rows s r k) new x y ≡ coefficient_of (source_rows s r k) old x y
other_stays s r i k x y old new li lk other stays h =
    stays (index_in (source_rows s r k) x y) (λ u v w e.
    let both = lies_apart s.region (band_number r i) (band_number r k) u v x y (number_with r i li ∙ sym (number_with r k lk)) w h e in
    other (number_same r k i lk li (sym both.0)))

-- and so does the resolution below
pub low_stays : (s : Source) (r i : ℕ) (old new : List ℤ) → i < length (orientations r) → StaysOff (source_rows s r i) old new → ShowsLow s.region r (coefficient_of (low_rows s.region r) old) new
low_stays s r i old new li stays u v some w =
    let b = band_number r i in
    let of : resolution_with b ≡ r = number_with r i li in
    stays (index_in (low_rows s.region r) u v) (λ x y h e.
    lies_off_low s.region b x y u v (omega (arith, of, some)) h (subst (λ q. IsWithin (low_rows s.region q).area u v) (sym of) w)
    (e ∙ ap (λ q. index_in (low_rows s.region q) u v) (sym of)))

-- a number of a list of small ones
pub entry_small : (values : List ℤ) (k : ℕ) → All (IsBelow (2 ^ 23)) values → IsBelow (2 ^ 23) (signed_at values k)
entry_small values k small = elim (cases_lt k (length values)) [
  | inl lt ↦ All-get_or (IsBelow (2 ^ 23)) values k (pos 0) lt small
  | inr ge ↦ subst (IsBelow (2 ^ 23)) (sym (get_or_past values k (pos 0) ge)) (omega (arith, ints), omega (arith, ints))
]

-- a place that was put
place_put : (v : BandRows) (place : Rect) (old new values : List ℤ) (x y : ℕ) → IsPutInto v place old new values → IsWithin v.area x y → has place x y ≡ true
    → coefficient_of v new x y ≡ plane_at place values x y
place_put v place old new values x y put h e = put x y h ∙ ap (λ (b : Bool). if b then plane_at place values x y else coefficient_of v old x y) e

place_left : (v : BandRows) (place : Rect) (old new values : List ℤ) (x y : ℕ) → IsPutInto v place old new values → IsWithin v.area x y → has place x y ≡ false
    → coefficient_of v new x y ≡ coefficient_of v old x y
place_left v place old new values x y put h e = put x y h ∙ ap (λ (b : Bool). if b then plane_at place values x y else coefficient_of v old x y) e

-- What code-block values at a place of a sub-band do to the list of the resolution.
pub record IsPut (s : Source) (r i : ℕ) (place : Rect) (values old new : List ℤ) : Type 0 where
  pub band : i < length (orientations r)
  pub long : length new ≡ length old
  pub put : IsPutInto (source_rows s r i) place old new values
  pub stays : StaysOff (source_rows s r i) old new
  pub agrees : Agrees place values (source_coefficient s (band_number r i))
  pub small : All (IsBelow (2 ^ 23)) values

-- a place is shown by it or is as before
pub put_or : (s : Source) (r i k x y : ℕ) (place : Rect) (values old new : List ℤ) → IsPut s r i place values old new → k < length (orientations r) → IsWithin (source_part s r k) x y
    → ShowsCoefficient s r k new x y ⊎ (coefficient_of (source_rows s r k) new x y ≡ coefficient_of (source_rows s r k) old x y)
put_or s r i k x y place values old new is lk h = elim (cases_eq k i) [
  | inl same ↦ here same (has place x y) refl
  | inr other ↦ inr (other_stays s r i k x y old new is.band lk other is.stays h)
]
  where
    here : k ≡ i → (b : Bool) → has place x y ≡ b → ShowsCoefficient s r k new x y ⊎ (coefficient_of (source_rows s r k) new x y ≡ coefficient_of (source_rows s r k) old x y)
    here same true e =
        let w : IsWithin (source_part s r i) x y = subst (λ n. IsWithin (source_part s r n) x y) same h in
        inl (subst (λ n. ShowsCoefficient s r n new x y) (sym same)
        (place_put (source_rows s r i) place old new values x y is.put w e ∙ is.agrees x y (has_within place x y e)))
    here same false e =
        let w : IsWithin (source_part s r i) x y = subst (λ n. IsWithin (source_part s r n) x y) same h in
        inr (subst (λ n. coefficient_of (source_rows s r n) new x y ≡ coefficient_of (source_rows s r n) old x y) (sym same)
        (place_left (source_rows s r i) place old new values x y is.put w e))

-- and small
pub put_small : (s : Source) (r i k x y : ℕ) (place : Rect) (values old new : List ℤ) → IsPut s r i place values old new → k < length (orientations r) → IsWithin (source_part s r k) x y
    → IsBelow (2 ^ 23) (coefficient_of (source_rows s r k) old x y) → IsBelow (2 ^ 23) (coefficient_of (source_rows s r k) new x y)
put_small s r i k x y place values old new is lk h before = elim (cases_eq k i) [
  | inl same ↦ here same (has place x y) refl
  | inr other ↦ subst (IsBelow (2 ^ 23)) (sym (other_stays s r i k x y old new is.band lk other is.stays h)) before
]
  where
    here : k ≡ i → (b : Bool) → has place x y ≡ b → IsBelow (2 ^ 23) (coefficient_of (source_rows s r k) new x y)
    here same true e =
        let w : IsWithin (source_part s r i) x y = subst (λ n. IsWithin (source_part s r n) x y) same h in
        subst (λ n. IsBelow (2 ^ 23) (coefficient_of (source_rows s r n) new x y)) (sym same)
        (subst (IsBelow (2 ^ 23)) (sym (place_put (source_rows s r i) place old new values x y is.put w e)) (entry_small values _ is.small))
    here same false e =
        let w : IsWithin (source_part s r i) x y = subst (λ n. IsWithin (source_part s r n) x y) same h in
        subst (λ n. IsBelow (2 ^ 23) (coefficient_of (source_rows s r n) new x y)) (sym same)
        (subst (IsBelow (2 ^ 23)) (sym (place_left (source_rows s r i) place old new values x y is.put w e)) (subst (λ n. IsBelow (2 ^ 23) (coefficient_of (source_rows s r n) old x y)) same before))

pub put_fills : (s : Source) (r i : ℕ) (place : Rect) (values old new : List ℤ) → IsFilling s r old → IsPut s r i place values old new → Fills s r old new
put_fills s r i place values old new filling is = record {
  filling = record {
    level = stays_level s.region r old new filling.level is.long (low_stays s r i old new is.band is.stays) (λ b x y of h.
        let n = number_from r b of in
        let w : IsWithin (source_part s r n.band) x y = subst (λ c. IsWithin (part_area s.region c) x y) n.is h in
        let before = filling.level.small (band_number r n.band) x y (number_with r n.band n.few) w in
        subst (λ c. IsBelow (2 ^ 23) (coefficient_of (band_rows s.region c) new x y)) (sym n.is) (put_small s r i n.band x y place values old new is n.few w before));
    due = λ k x y lk h. elim (put_or s r i k x y place values old new is lk h) [
      | inl shown ↦ inl shown
      | inr same ↦ elim (filling.due k x y lk h) [ inl shown ↦ inl (same ∙ shown) | inr none ↦ inr (same ∙ none) ]
    ];
  };
  keeps = λ k x y lk h before. elim (put_or s r i k x y place values old new is lk h) [ inl shown ↦ shown | inr same ↦ same ∙ before ];
  low = low_stays s r i old new is.band is.stays;
}

-- what is put is shown
pub put_at_place : (s : Source) (r i x y : ℕ) (place : Rect) (values old new : List ℤ) → IsPutInto (source_rows s r i) place old new values → Agrees place values (source_coefficient s (band_number r i))
    → IsWithin place x y → IsWithin (source_part s r i) x y → ShowsCoefficient s r i new x y
put_at_place s r i x y place values old new put agrees h inside =
    place_put (source_rows s r i) place old new values x y put inside (within_has place x y h) ∙ agrees x y h

-- ---- one after another

pub fills_same : (s : Source) (r : ℕ) (rows : List ℤ) → IsFilling s r rows → Fills s r rows rows
fills_same s r rows filling = record { filling = filling; keeps = λ i x y lt h before. before; low = λ x y some w. refl }

pub fills_then : (s : Source) (r : ℕ) (first old new : List ℤ) → Fills s r first old → Fills s r old new → Fills s r first new
fills_then s r first old new a b = record {
  filling = b.filling;
  keeps = λ i x y lt h before. b.keeps i x y lt h (a.keeps i x y lt h before);
  low = λ x y some w. b.low x y some w ∙ a.low x y some w;
}

-- what was shown in one list is shown in the next
pub shown_on : (s : Source) (r n i count : ℕ) (old new : List ℤ) → i < length (orientations r) → Fills s r old new → ShowsBlocks s r n i count old → ShowsBlocks s r n i count new
shown_on s r n i count old new lt fills shows j less x y h inside = fills.keeps i x y lt inside (shows j less x y h inside)

-- where a part lies, in the list of its resolution
pub part_lies : (s : Source) (r i : ℕ) (rows : List ℤ) → i < length (orientations r) → IsLevel s.region r rows → FitsIn (source_rows s r i) (length rows)
part_lies s r i rows lt level =
    let h = has_rows s.region (band_number r i) in
    subst (FitsIn (source_rows s r i)) (ap (level_places s.region) (number_with r i lt) ∙ sym level.places) h.1

-- all precincts are shown: so are all places
pub bands_shown : (s : Source) (r : ℕ) (rows : List ℤ) → IsSource s → r ≤ s.region.top → ((n : ℕ) → n < precinct_number s.region.rect s.coding r → ShowsPrecinct s r n rows)
    → ShowsBands s.region r (source_coefficient s) rows
bands_shown s r rows is few shows b x y of h =
    let k = number_from r b of in
    let here : IsWithin (source_part s r k.band) x y = subst (λ c. IsWithin (part_area s.region c) x y) k.is h in
    let holds = block_found s.region.rect s.coding r k.band x y is.coding (few_levels s r is few) k.few (part_in_band s r k.band x y is few k.few here) in
    subst (λ c. coefficient_of (band_rows s.region c) rows x y ≡ source_coefficient s c x y) (sym k.is)
    (shows (precinct_of s.region.rect s.coding r x y) holds.precinct k.band k.few (block_with s.region.rect s.coding r (precinct_of s.region.rect s.coding r x y) k.band x y) holds.block x y holds.place here)

-- the list as it begins
pub begun_filling : (s : Source) (r : ℕ) (below rows : List ℤ) → IsBegunLevel s.region r below rows → (0 < r → IsMadeSmall s.region (r - 1) below) → IsFilling s r rows
begun_filling s r below rows begun made = record {
  level = begun.level made;
  due = λ i x y lt h. inr (begun.zeros (band_number r i) x y (number_with r i lt) h);
}

-- what it shows at the end
pub level_shown : (s : Source) (r : ℕ) (below first rows : List ℤ) → IsSource s → r ≤ s.region.top → IsBegunLevel s.region r below first → (0 < r → below ≡ resolution_values s (r - 1)) → Fills s r first rows
    → ((n : ℕ) → n < precinct_number s.region.rect s.coding r → ShowsPrecinct s r n rows) → ShowsLevel s.region r (source_coefficient s) rows
level_shown s r below first rows is few begun values fills shows = record {
  low = λ x y some w. fills.low x y some w ∙ begun.shows (resolution_of s.region.rect s.region.levels (source_coefficient s) (r - 1)) values x y some w;
  bands = bands_shown s r rows is few shows;
}
