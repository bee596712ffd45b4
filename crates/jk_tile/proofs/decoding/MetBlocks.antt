-- Code-blocks that are met: where they lie, and parts of two tiles whose precincts with such code-blocks are the same.
use Rattle.std.proofs.Common.{◌≡◌, ℕ, zero, suc, ◌+◌, ◌-◌, ◌<◌, ◌≤◌, min, max, Bool, true, false, if◌then◌else◌, List, length, Result, Ok, refl, sym, ap, subst, ◌∙◌, arith}
use Rattle.jk_math.specs.Answer.{◌>>=◌}
use Rattle.jk_math.specs.declared.fault.Fault.{Fault}
use Rattle.jk_math.specs.declared.rect.Rect.{Rect}
use Rattle.jk_marks.specs.declared.coding.Coding.{Coding}
use Rattle.jk_geom.specs.declared.grid.BlockGrid.{BlockGrid}
use Rattle.jk_geom.specs.Rectangles.{IsWithin}
use Rattle.jk_geom.specs.Precincts.{precinct_number, precinct_area, part_width, part_height}
use Rattle.jk_geom.specs.Blocks.{block_area}
use Rattle.jk_geom.specs.Partitions.{block_number, precinct_of}
use Rattle.jk_walk.specs.TilePackets.{Body, orientations, band_number}
use Rattle.jk_wave.specs.Regions.{part_area}
use Rattle.jk_tile.specs.Filling.{touches}
use Rattle.jk_tile.specs.TileBlocks.{orientation_at, grid_at, band_resolution, band_index}
use Rattle.jk_tile.specs.decoding.TileReading.{each, tested, block_values, block_value, block_with, coefficient_at, region_of, is_met, met_tested, precinct_part_tested, resolution_part_tested, component_part_tested}
use Rattle.jk_tile.proofs.Steps.{Step, each_none, each_suc}
use Rattle.jk_tile.proofs.Places.{coefficient_by, resolution_is, grid_is, grid_area}
use Rattle.jk_tile.proofs.Fillings.{touching}
use Rattle.jk_tile.proofs.Showing.{grid_touched}

-- ---- where they lie

-- A place of a precinct and of the part of a sub-band on which a part of a tile-component depends.
pub record IsMetAt (a : Rect) (k : Coding) (d : ℕ) (u : Rect) (r n i : ℕ) : Type 0 where
  pub x : ℕ
  pub y : ℕ
  pub precinct : IsWithin (precinct_area a k r n (orientation_at r i)) x y
  pub part : IsWithin (part_area (region_of a k d u) (band_number r i)) x y

grid_met : (g : BlockGrid) (area : Rect) (j : ℕ) → touches (block_area g j) area ≡ true → touches g.area area ≡ true
grid_met g area j met = by (touches g.area area) refl
  where
    by : (b : Bool) → touches g.area area ≡ b → touches g.area area ≡ true
    by true e = e
    by false e = absurd (let clash : true ≡ false = sym met ∙ grid_touched g area j e in cc)

precinct_is : (a : Rect) (k : Coding) (r n i : ℕ) → (grid_at a k r n i).area ≡ precinct_area a k r n (orientation_at r i)
precinct_is a k r n i =
    ap (λ (g : BlockGrid). g.area) (grid_is a k r n i)
    ∙ grid_area (precinct_area a k r n (orientation_at r i)) (min k.xcb (part_width k r)) (min k.ycb (part_height k r))

pub met_place : (a : Rect) (k : Coding) (d : ℕ) (u : Rect) (r n i j : ℕ) → is_met (region_of a k d u) k r n i j ≡ true → IsMetAt a k d u r n i
met_place a k d u r n i j met =
    let precinct = precinct_area a k r n (orientation_at r i) in
    let part = part_area (region_of a k d u) (band_number r i) in
    let touched : touches precinct part ≡ true = subst (λ (x : Rect). touches x part ≡ true) (precinct_is a k r n i) (grid_met (grid_at a k r n i) part j met) in
    let sides = touching precinct part touched in
    let wide = sides.0 in
    let high = sides.1 in
    record {
      x = max precinct.x0 part.x0;
      y = max precinct.y0 part.y0;
      precinct = record { left = omega arith; right = omega (arith, wide); upper = omega arith; lower = omega (arith, high) };
      part = record { left = omega arith; right = omega (arith, wide); upper = omega arith; lower = omega (arith, high) };
    }

-- ---- what is tested

pub each_alike : (n : ℕ) (f g : Step) → ((i : ℕ) → i < n → f i ≡ g i) → each n f ≡ each n g
each_alike zero f g same = each_none f ∙ sym (each_none g)
each_alike (suc n) f g same =
    each_suc n f
    ∙ ap (λ (r : Result (Unit {0}) Fault). r >>= λ _. f n) (each_alike n f g (λ i lt. same i (omega (arith, lt))))
    ∙ ap (λ (s : Result (Unit {0}) Fault). each n g >>= λ _. s) (same n (omega arith))
    ∙ sym (each_suc n g)

pub if_alike : {A : Type 0} (b : Bool) (x y z : A) → (b ≡ true → x ≡ y) → (if b then x else z) ≡ (if b then y else z)
if_alike true x y z same = same refl
if_alike false x y z same = refl

-- The precincts of a tile-component with code-blocks that are met have the same bodies.
abbrev pub AreSameMet : (a : Rect) (k : Coding) (d : ℕ) (u : Rect) (mine theirs : ℕ → ℕ → List Body) → Type 0
AreSameMet a k d u mine theirs = (r n i j : ℕ) → r + d ≤ k.levels → n < precinct_number a k r → i < length (orientations r) → j < block_number (grid_at a k r n i)
    → is_met (region_of a k d u) k r n i j ≡ true → mine r n ≡ theirs r n

band_alike : (a : Rect) (k : Coding) (d : ℕ) (u : Rect) (r n i : ℕ) (bodies others : List Body)
    → ((j : ℕ) → j < block_number (grid_at a k r n i) → is_met (region_of a k d u) k r n i j ≡ true → bodies ≡ others)
    → met_tested (region_of a k d u) k r n i bodies ≡ met_tested (region_of a k d u) k r n i others
unfolding met_tested
band_alike a k d u r n i bodies others same =
    each_alike (block_number (grid_at a k r n i)) _ _ (λ j lt.
    if_alike (is_met (region_of a k d u) k r n i j) (tested (block_values a k r n i j bodies)) (tested (block_values a k r n i j others)) (Ok tt)
    (λ met. ap (λ (bs : List Body). tested (block_values a k r n i j bs)) (same j lt met)))

precinct_alike : (a : Rect) (k : Coding) (d : ℕ) (u : Rect) (r n : ℕ) (bodies others : List Body)
    → ((i j : ℕ) → i < length (orientations r) → j < block_number (grid_at a k r n i) → is_met (region_of a k d u) k r n i j ≡ true → bodies ≡ others)
    → precinct_part_tested (region_of a k d u) k r n bodies ≡ precinct_part_tested (region_of a k d u) k r n others
unfolding precinct_part_tested
precinct_alike a k d u r n bodies others same =
    each_alike (length (orientations r)) _ _ (λ i lt. band_alike a k d u r n i bodies others (λ j less met. same i j lt less met))

resolution_alike : (a : Rect) (k : Coding) (d : ℕ) (u : Rect) (r : ℕ) (bodies others : ℕ → List Body)
    → ((n i j : ℕ) → n < precinct_number a k r → i < length (orientations r) → j < block_number (grid_at a k r n i) → is_met (region_of a k d u) k r n i j ≡ true → bodies n ≡ others n)
    → resolution_part_tested (region_of a k d u) k r bodies ≡ resolution_part_tested (region_of a k d u) k r others
unfolding resolution_part_tested
resolution_alike a k d u r bodies others same =
    each_alike (precinct_number a k r) _ _ (λ n lt. precinct_alike a k d u r n (bodies n) (others n) (λ i j few less met. same n i j lt few less met))

-- The same first fault of their code-blocks.
pub component_alike : (a : Rect) (k : Coding) (d : ℕ) (u : Rect) (mine theirs : ℕ → ℕ → List Body) → d ≤ k.levels → AreSameMet a k d u mine theirs
    → component_part_tested a k d u mine ≡ component_part_tested a k d u theirs
unfolding component_part_tested
component_alike a k d u mine theirs le same =
    each_alike (k.levels - d + 1) _ _ (λ r lt. resolution_alike a k d u r (mine r) (theirs r) (λ n i j precinct band block met. same r n i j (omega (arith, lt, le)) precinct band block met))

-- ---- coefficients

-- The bodies of the precinct that has a place tell its coefficient.
pub coefficient_alike : (a : Rect) (k : Coding) (mine theirs : ℕ → ℕ → List Body) (r i x y : ℕ) → i < length (orientations r)
    → mine r (precinct_of a k r x y) ≡ theirs r (precinct_of a k r x y) → coefficient_at a k mine (band_number r i) x y ≡ coefficient_at a k theirs (band_number r i) x y
coefficient_alike a k mine theirs r i x y lt same =
    let b = band_number r i in
    let s = band_resolution b in
    let n = precinct_of a k s x y in
    let here : mine s n ≡ theirs s n = subst (λ q. mine q (precinct_of a k q x y) ≡ theirs q (precinct_of a k q x y)) (sym (resolution_is r i lt)) same in
    coefficient_by a k mine b x y
    ∙ ap (λ (bs : List Body). block_value a k s n (band_index b) (block_with a k s n (band_index b) x y) bs x y) here
    ∙ sym (coefficient_by a k theirs b x y)
