-- A precinct of which no packet tells: its code-blocks have no coding pass, and their coefficients
-- are zero.
use Rattle.std.specs.Prelude.{◌==◌}
use Rattle.std.proofs.Common.{◌≡◌, ◌&&◌, ◌∷◌, nat_lt, ℕ, ◌+◌, ◌-◌, ◌*◌, ◌<◌, ◌≤◌, Bool, true, false, if◌then◌else◌, List, [], map, length, Ok, ℤ, pos, refl, sym, ap, ◌∙◌, inl, inr, arith}
use Rattle.std.proofs.lemmas.Bool.{lt-ltb, eqb-true}
use Rattle.jk_math.specs.declared.rect.Rect.{Rect}
use Rattle.jk_math.specs.Signed.{signed_at}
use Rattle.jk_marks.specs.declared.coding.Coding.{Coding}
use Rattle.jk_scan.specs.declared.shape.BlockShape.{BlockShape}
use Rattle.jk_math.specs.Raster.{columns_of, rows_of, plane_at}
use Rattle.jk_geom.specs.Rectangles.{IsWithin}
use Rattle.jk_geom.specs.Precincts.{precinct_number}
use Rattle.jk_geom.specs.Partitions.{block_number}
use Rattle.jk_walk.specs.TilePackets.{orientations, band_number, planes_of}
use Rattle.jk_scan.specs.Neighbours.{Field, is_inside}
use Rattle.jk_block.specs.Meaning.{truncated, values_of, value_in}
use Rattle.jk_block.specs.Reading.{block_at}
use Rattle.jk_block.proofs.Laws.{none_means, block_only, value_at}
use Rattle.jk_tile.specs.TileBlocks.{block_shape, block_at_place, grid_at}
use Rattle.jk_tile.specs.decoding.TileReading.{bodies_values, block_values, values_or, tested, is_met, met_tested, precinct_part_tested}
use Rattle.jk_tile.specs.decoding.Gathered.{AreNumbers, place_in, bodies_in}
use Rattle.jk_tile.specs.decoding.Source.{Source, IsSource, source_bodies, source_coefficient, ShowsPrecinct, IsFilling}
use Rattle.jk_tile.proofs.Steps.{fine, each_only, met_by, precinct_part_by}
use Rattle.jk_tile.proofs.Places.{coefficient_is}
use Rattle.jk_tile.proofs.Showing.{few_levels, block_tested, numbered_bodies}

cut_none : (s : BlockShape) (planes : ℕ) (x y : ℕ) → truncated s planes 0 (λ x y. pos 0) x y ≡ pos 0
unfolding truncated
cut_none s planes x y = refl

-- a code-block without bodies
pub none_values : (a : Rect) (k : Coding) (r n i j : ℕ) → block_values a k r n i j []
    ≡ Ok (values_of (block_shape a k r n i j) (truncated (block_shape a k r n i j) (planes_of k (band_number r i)) 0 (λ x y. pos 0)))
unfolding bodies_values
none_values a k r n i j =
    let s = block_shape a k r n i j in
    let planes = planes_of k (band_number r i) in
    let less : planes - 0 ≡ planes = omega arith in
    ap (λ n. block_at s n 0 []) less ∙ block_only s planes 0 [] (truncated s planes 0 (λ x y. pos 0)) (none_means s planes [] (λ x y. pos 0))

-- no numbers
pub none_listed : (numbers : List ℕ) (b : Bool) → b ≡ (length numbers == 0) → b ≡ true → numbers ≡ []
none_listed [] b e is = refl
none_listed (n ∷ numbers) b e is = absurd (let none = eqb-true (length (n ∷ numbers)) 0 (sym e ∙ is) in omega (arith, none))

-- none is gathered of no packets
pub unread_bodies : (s : Source) (r n : ℕ) (numbers : List ℕ) → numbers ≡ [] → AreNumbers s.packets s.packets s.component r n numbers → source_bodies s r n ≡ []
unread_bodies s r n numbers e is = sym (ap (λ (ns : List ℕ). bodies_in s.bytes (map (place_in s.packets) ns)) (sym e) ∙ numbered_bodies s r n numbers is)

-- the coefficient of a place in it
zero_at : (place : Rect) (shape : BlockShape) (values : List ℤ) (q : Field ℤ) (x y : ℕ) → shape.width ≡ columns_of place → shape.height ≡ rows_of place → values ≡ values_of shape q
    → ((u v : ℕ) → q u v ≡ pos 0) → IsWithin place x y → plane_at place values x y ≡ pos 0
zero_at place shape values q x y wide high e none h =
    let hl = h.left in let hr = h.right in let hu = h.upper in let hd = h.lower in
    let across : nat_lt (x - place.x0) shape.width ≡ true = lt-ltb _ _ (omega (arith, hl, hr, wide)) in
    let down : nat_lt (y - place.y0) shape.height ≡ true = lt-ltb _ _ (omega (arith, hu, hd, high)) in
    let inside : is_inside shape (x - place.x0) (y - place.y0) ≡ true = ap (λ b. b && nat_lt (y - place.y0) shape.height) across ∙ down in
    ap (λ w. signed_at values ((y - place.y0) * w + (x - place.x0))) (sym wide) ∙ ap (λ vs. value_in shape vs (x - place.x0) (y - place.y0)) e
    ∙ value_at shape q (x - place.x0) (y - place.y0) inside ∙ none (x - place.x0) (y - place.y0)

unread_zero : (s : Source) (r n i j x y : ℕ) → IsSource s → r ≤ s.region.top → n < precinct_number s.region.rect s.coding r → i < length (orientations r)
    → j < block_number (grid_at s.region.rect s.coding r n i) → source_bodies s r n ≡ [] → IsWithin (block_at_place s.region.rect s.coding r n i j) x y
    → source_coefficient s (band_number r i) x y ≡ pos 0
unread_zero s r n i j x y is few precinct lt block none h =
    let a = s.region.rect in
    let k = s.coding in
    let shape = block_shape a k r n i j in
    let q : Field ℤ = truncated shape (planes_of k (band_number r i)) 0 (λ x y. pos 0) in
    let values : values_or (block_values a k r n i j (source_bodies s r n)) ≡ values_of shape q = ap (λ bodies. values_or (block_values a k r n i j bodies)) none ∙ ap values_or (none_values a k r n i j) in
    coefficient_is a k (source_bodies s) r n i j x y is.coding (few_levels s r is few) lt precinct block h
    ∙ zero_at (block_at_place a k r n i j) shape (values_or (block_values a k r n i j (source_bodies s r n))) q x y refl refl values (cut_none shape (planes_of k (band_number r i))) h

-- so it is shown
pub unread_shown : (s : Source) (r n : ℕ) (rows : List ℤ) → IsSource s → r ≤ s.region.top → n < precinct_number s.region.rect s.coding r → source_bodies s r n ≡ [] → IsFilling s r rows → ShowsPrecinct s r n rows
unread_shown s r n rows is few precinct none filling i lt j block x y h inside = elim (filling.due i x y lt inside) [
  | inl shown ↦ shown
  | inr zero_is ↦ zero_is ∙ sym (unread_zero s r n i j x y is few precinct lt block none h)
]

-- and has no fault
one_fine : (s : Source) (r n i j : ℕ) → source_bodies s r n ≡ [] → (b : Bool) → is_met s.region s.coding r n i j ≡ b → block_tested s r n i j ≡ fine
one_fine s r n i j none true e =
    ap (λ (c : Bool). if c then tested (block_values s.region.rect s.coding r n i j (source_bodies s r n)) else Ok tt) e
    ∙ ap (λ bodies. tested (block_values s.region.rect s.coding r n i j bodies)) none ∙ ap tested (none_values s.region.rect s.coding r n i j)
one_fine s r n i j none false e = ap (λ (c : Bool). if c then tested (block_values s.region.rect s.coding r n i j (source_bodies s r n)) else Ok tt) e

pub unread_fine : (s : Source) (r n : ℕ) → source_bodies s r n ≡ [] → precinct_part_tested s.region s.coding r n (source_bodies s r n) ≡ fine
unread_fine s r n none =
    precinct_part_by s.region s.coding r n (source_bodies s r n)
    ∙ each_only (length (orientations r)) (λ i. met_tested s.region s.coding r n i (source_bodies s r n)) (λ i lt.
    met_by s.region s.coding r n i (source_bodies s r n)
    ∙ each_only (block_number (grid_at s.region.rect s.coding r n i)) (block_tested s r n i) (λ j less. one_fine s r n i j none (is_met s.region s.coding r n i j) refl))
