-- The lists of the sub-bands' parts, in the lists of their resolutions.
use Rattle.std.proofs.Common.{◌≡◌, ◌≢◌, ℕ, ◌+◌, ◌-◌, ◌*◌, ◌^◌, ◌<◌, ◌≤◌, inl, inr, List, length, ℤ, refl, sym, ◌∙◌, ap, subst, arith}
use Rattle.std.proofs.lemmas.Bool.{cases_eq}
use Rattle.jk_math.specs.declared.rect.Rect.{Rect}
use Rattle.jk_math.specs.Signed.{IsBelow, signed_at}
use Rattle.jk_math.specs.Raster.{columns_of, places_of, raster, plane_at}
use Rattle.jk_geom.specs.Rectangles.{IsWithin}
use Rattle.jk_wave.specs.declared.places.BandRows.{BandRows}
use Rattle.jk_wave.specs.declared.region.Region.{Region}
use Rattle.jk_wave.specs.Bands.{AreBands, coefficients_of}
use Rattle.jk_wave.specs.LevelRows.{index_in, coefficient_of}
use Rattle.jk_wave.specs.Regions.{held, part_area, AreBandParts, ShowsParts, IsHeld}
use Rattle.jk_wave.specs.RegionRows.{resolution_with, band_rows, low_rows, ShowsLow, ShowsBands, AreSmall, IsMadeSmall, IsLevel}
use Rattle.jk_wave.specs.Resolutions.{resolution_of}
use Rattle.jk_wave.proofs.BandPlaces.{lies_apart, lies_off_low}
use Rattle.jk_wave.proofs.Within.{list_of}
use Rattle.jk_wave.proofs.LevelSamples.{stays_level}
use Rattle.jk_wave.proofs.RegionAreas.{whole_region, part_whole, held_none}
use Rattle.jk_wave.proofs.Synthesis.{entry_size, size_below}

-- the coefficients that the lists themselves have
abbrev pub own : Region → List (List ℤ) → ℕ → ℕ → ℕ → ℤ
own s lists b = plane_at (part_area s b) (list_of lists b)

pub own_shown : (s : Region) (lists : List (List ℤ)) → ShowsParts s lists (own s lists)
own_shown s lists b x y few h = refl

-- the coefficients of the lists are small
pub own_small : (s : Region) (lists : List (List ℤ)) → AreBandParts s lists → AreSmall s (own s lists)
own_small s lists h b x y few =
    let k : ℕ = (y - (part_area s b).y0) * columns_of (part_area s b) + (x - (part_area s b).x0) in
    size_below (2 ^ 23) (own s lists b x y) (entry_size (2 ^ 23) (list_of lists b) (omega arith) (h.small b few) k)

-- so what is made of them is made of small coefficients
pub held_made : (s : Region) (r : ℕ) (lists : List (List ℤ)) (values : List ℤ) → AreBandParts s lists → IsHeld s lists r values → IsMadeSmall s r values
held_made s r lists values h was = record {
  coefficients = own s lists;
  small = own_small s lists h;
  is = was (own s lists) (own_shown s lists);
}

-- one more of them is at its places in the list of a resolution
pub record ArePutBelow (s : Region) (r b : ℕ) (lists : List (List ℤ)) (old new : List ℤ) : Type 0 where
  pub put : (d x y : ℕ) → d < b → resolution_with d ≡ r → IsWithin (part_area s d) x y → coefficient_of (band_rows s d) new x y ≡ own s lists d x y
  pub low : ShowsLow s r (coefficient_of (low_rows s r) old) new

pub one_more_put : (s : Region) (r b : ℕ) (p : BandRows) (lists : List (List ℤ)) (values initial old new : List ℤ) → resolution_with b ≡ r → p ≡ band_rows s b → values ≡ list_of lists b →
    ((x y : ℕ) → IsWithin p.area x y → coefficient_of p new x y ≡ plane_at p.area values x y) →
    ((k : ℕ) → ((x y : ℕ) → IsWithin p.area x y → index_in p x y ≢ k) → signed_at new k ≡ signed_at old k) →
    ArePutBelow s r b lists initial old → ArePutBelow s r (b + 1) lists initial new
one_more_put s r b p lists values initial old new of is list written others before =
    let there : (x y : ℕ) → IsWithin (part_area s b) x y → coefficient_of (band_rows s b) new x y ≡ plane_at (part_area s b) (list_of lists b) x y =
    subst (λ l. (x y : ℕ) → IsWithin (part_area s b) x y → coefficient_of (band_rows s b) new x y ≡ plane_at (part_area s b) l x y) list
    (subst (λ (q : BandRows). (x y : ℕ) → IsWithin q.area x y → coefficient_of q new x y ≡ plane_at q.area values x y) is written) in
    let apart : (k : ℕ) → ((x y : ℕ) → IsWithin (part_area s b) x y → index_in (band_rows s b) x y ≢ k) → signed_at new k ≡ signed_at old k =
    subst (λ (q : BandRows). (k : ℕ) → ((x y : ℕ) → IsWithin q.area x y → index_in q x y ≢ k) → signed_at new k ≡ signed_at old k) is others in
    record {
      put = λ d x y below same w. elim (cases_eq d b) [
        | inl e ↦ subst (λ n. IsWithin (part_area s n) x y → coefficient_of (band_rows s n) new x y ≡ own s lists n x y) (sym e) (there x y) w
        | inr ne ↦
            apart (index_in (band_rows s d) x y) (λ u v h meet. ne (sym (lies_apart s b d u v x y (of ∙ sym same) h w meet).0))
            ∙ before.put d x y (omega arith) same w
      ];
      low = λ x y some w.
          apart (index_in (low_rows s r) x y) (λ u v h meet. lies_off_low s b u v x y (rw of some) h (subst (λ n. IsWithin (low_rows s n).area x y) (sym of) w) (meet ∙ ap (λ n. index_in (low_rows s n) x y) (sym of)))
          ∙ before.low x y some w;
    }

-- the bands of the lists, at their places in the list of a resolution
pub bands_put : (s : Region) (r : ℕ) (lists : List (List ℤ)) (rows : List ℤ) (c : ℕ → ℕ → ℕ → ℤ) → r ≤ s.top → ShowsParts s lists c →
    ShowsBands s r (own s lists) rows → ShowsBands s r c rows
bands_put s r lists rows c few shown put b x y of w = put b x y of w ∙ shown b x y (omega arith) w

pub put_is_level : (s : Region) (r : ℕ) (lists : List (List ℤ)) (old new : List ℤ) → r ≤ s.top → AreBandParts s lists → IsLevel s r old → length new ≡ length old →
    ShowsLow s r (coefficient_of (low_rows s r) old) new → ShowsBands s r (own s lists) new → IsLevel s r new
put_is_level s r lists old new few h level long low put = stays_level s r old new level long low (λ b x y of w.
    subst (IsBelow (2 ^ 23)) (sym (put b x y of w)) (own_small s lists h b x y (omega arith)))

-- what is looked at of the highest resolution is the region
pub all_held : (s : Region) (r : ℕ) (lists : List (List ℤ)) (values : List ℤ) (c : ℕ → ℕ → ℕ → ℤ) → r ≡ s.top → IsHeld s lists r values → ShowsParts s lists c →
    values ≡ raster s.area (resolution_of s.rect s.levels c s.top)
all_held s r lists values c e was shown =
    let none : s.top - r ≡ 0 = omega arith in
    was c shown ∙ ap (λ n. raster (held s n) (resolution_of s.rect s.levels c r)) none
    ∙ ap (λ q. raster q (resolution_of s.rect s.levels c r)) (held_none s)
    ∙ ap (λ n. raster s.area (resolution_of s.rect s.levels c n)) e

-- all of a resolution
pub whole_parts : (a : Rect) (levels r : ℕ) (lists : List (List ℤ)) → r ≤ levels → AreBands a levels r lists → AreBandParts (whole_region a levels r) lists
whole_parts a levels r lists few h = record {
  count = h.count;
  lengths = λ b under. h.lengths b under ∙ ap places_of (sym (part_whole a levels r b few under));
  small = h.small;
}

pub whole_shown : (a : Rect) (levels r : ℕ) (lists : List (List ℤ)) → r ≤ levels → ShowsParts (whole_region a levels r) lists (coefficients_of a levels lists)
whole_shown a levels r lists few b x y under h = ap (λ q. plane_at q (list_of lists b) x y) (part_whole a levels r b few under)
