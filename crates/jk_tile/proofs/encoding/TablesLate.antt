-- Tables that are filled in late are those of code-blocks whose exponents were known.
use Rattle.std.proofs.Common.{◌≡◌, ℕ, zero, suc, ◌+◌, ◌-◌, ◌<◌, ◌≤◌, inl, inr, List, [], ◌∷◌, ◌++◌, append_assoc, length, map, drop, replicate, get_or, ℤ, refl, sym, ap, subst, ◌∙◌, arith, length-append}
use Rattle.std.specs.List.{flat_map, range_with_len}
use Rattle.std.proofs.lemmas.Bool.{cases_lt}
use Rattle.std.proofs.lemmas.List.{ext_get_or, get_or_append_left, get_or-append_right, length-map, length-replicate}
use Rattle.std.proofs.lemmas.List.FromFn.{length-map-range_with_len, get_or-map-range_with_len}
use Rattle.std.specs.Global.{Vec}
use Rattle.jk_math.specs.declared.rect.Rect.{Rect}
use Rattle.jk_math.specs.Lists.{lists_of, list_at}
use Rattle.jk_math.specs.Raster.{raster, plane_at}
use Rattle.jk_math.proofs.Laws.{raster_same, raster_at}
use Rattle.jk_marks.specs.declared.coding.Coding.{Coding}
use Rattle.jk_geom.specs.declared.grid.BlockGrid.{BlockGrid}
use Rattle.jk_geom.specs.Precincts.{precinct_area, precinct_column, precinct_row, precincts_across, precincts_down, precinct_number}
use Rattle.jk_geom.specs.Blocks.{block_area, block_grid}
use Rattle.jk_geom.specs.Partitions.{block_number}
use Rattle.jk_packet.specs.Written.{Table}
use Rattle.jk_jobs.proofs.Shares.{front_of}
use Rattle.jk_block.specs.BlockWritten.{Coded, coded}
use Rattle.jk_wave.specs.Analysis.{analysed}
use Rattle.jk_wave.specs.Bands.{numbered_area}
use Rattle.jk_walk.specs.TilePackets.{orientations, band_number, planes_of}
use Rattle.jk_tile.specs.Filling.{IsPartOf}
use Rattle.jk_tile.specs.TileBlocks.{orientation_at, grid_at, block_at_place, block_shape, shape_of_area}
use Rattle.jk_tile.specs.encoding.Layered.{Layered, layered, table_with}
use Rattle.jk_tile.specs.encoding.LateTables.{with_steps, AreAlike, first_tables, bands_from}
use Rattle.jk_tile.specs.encoding.PacketsWritten.{coded_table, band_tables_at, precinct_tables}
use Rattle.jk_tile.specs.encoding.TileWriters.{resolution_lists}
use Rattle.jk_tile.specs.encoding.TileWritten.{coefficient_of, coded_at}
use Rattle.jk_tile.specs.encoding.Strips.{ComponentFrame, band_at, layered_at, blocks_above}
use Rattle.jk_tile.proofs.Places.{block_is_part}
use Rattle.jk_tile.proofs.encoding.Forwards.{part_within, band_list}
use Rattle.jk_tile.proofs.encoding.BlockRows.{all_above}
use Rattle.jk_tile.proofs.encoding.WrittenBlocks.{number_few, numbered_is, bands_more}
use Rattle.jk_tile.proofs.encoding.WrittenTile.{lists_from}
use Rattle.jk_tile.proofs.encoding.LayerTables.{table_is}
use Rattle.jk_tile.proofs.encoding.ListsKept.{list_was}

-- ---- other exponents

-- the code-blocks are the same
steps_grid : (a : Rect) (k : Coding) (guard : ℕ) (exponents : List ℕ) (r n i : ℕ) → grid_at a (with_steps k guard exponents) r n i ≡ grid_at a k r n i
unfolding block_grid precinct_area precinct_column precinct_row precincts_across
steps_grid a k guard exponents r n i = refl

pub alike_grid : (a : Rect) (k j : Coding) (r n i : ℕ) → AreAlike k j → grid_at a j r n i ≡ grid_at a k r n i
alike_grid a k j r n i e = ap (λ (x : Coding). grid_at a x r n i) e ∙ steps_grid a k j.guard j.exponents r n i

steps_number : (a : Rect) (k : Coding) (guard : ℕ) (exponents : List ℕ) (r : ℕ) → precinct_number a (with_steps k guard exponents) r ≡ precinct_number a k r
unfolding precincts_across precincts_down
steps_number a k guard exponents r = refl

pub alike_number : (a : Rect) (k j : Coding) (r : ℕ) → AreAlike k j → precinct_number a j r ≡ precinct_number a k r
alike_number a k j r e = ap (λ (x : Coding). precinct_number a x r) e ∙ steps_number a k j.guard j.exponents r

pub alike_coded : (a : Rect) (k j : Coding) (f : ℕ → ℕ → ℕ → ℤ) (r n i b : ℕ) → AreAlike k j → coded_at a j f r n i b ≡ coded_at a k f r n i b
alike_coded a k j f r n i b e =
    ap (λ (x : Coding). coded_at a x f r n i b) e
    ∙ ap (λ (g : BlockGrid). coded (shape_of_area (block_area g b) (orientation_at r i) k.style) (raster (block_area g b) (f (band_number r i)))) (steps_grid a k j.guard j.exponents r n i)

-- ---- the tables of a sub-band

-- of one code-block
pub table_late : (layers planes : ℕ) (k : Coded) → table_with planes (layered layers k) ≡ coded_table layers planes k
table_late layers planes k = sym (table_is layers planes k)

map_twice : {X : Type 0} (g : Layered → X) (f : ℕ → Layered) (a n : ℕ) → map g (map f (range_with_len a n)) ≡ map (λ j. g (f j)) (range_with_len a n)
map_twice g f a zero = refl
map_twice {X} g f a (suc n) = ap (λ (xs : List X). g (f a) ∷ xs) (map_twice g f (a + 1) n)

pub band_late : (s : ComponentFrame) (j : Coding) (f : ℕ → ℕ → ℕ → ℤ) (r n i count planes : ℕ) (blocks : List Layered) → AreAlike s.coding j → count ≡ block_number (grid_at s.rect s.coding r n i)
    → blocks ≡ map (layered_at s f r n i) (range_with_len 0 count) → planes ≡ planes_of j (band_number r i) → map (table_with planes) blocks ≡ band_tables_at s.layers s.rect j f r n i
band_late s j f r n i count planes blocks alike ec e ep =
    ap (map (table_with planes)) e ∙ map_twice (table_with planes) (layered_at s f r n i) 0 count
    ∙ lists_from (λ b. table_with planes (layered_at s f r n i b)) (λ b. coded_table s.layers (planes_of j (band_number r i)) (coded_at s.rect j f r n i b)) 0 count
    (λ b from to. table_late s.layers planes (coded_at s.rect s.coding f r n i b) ∙ ap (λ p. coded_table s.layers p (coded_at s.rect s.coding f r n i b)) ep
    ∙ ap (coded_table s.layers (planes_of j (band_number r i))) (sym (alike_coded s.rect s.coding j f r n i b alike)))
    ∙ ap (λ m. map (λ b. coded_table s.layers (planes_of j (band_number r i)) (coded_at s.rect j f r n i b)) (range_with_len 0 m))
    (ec ∙ ap (λ (g : BlockGrid). block_number g) (sym (alike_grid s.rect s.coding j r n i alike)))

-- ---- by precinct

source_agrees : (s : ComponentFrame) (j : Coding) (f : ℕ → ℕ → ℤ) (r n i b : ℕ) → r ≤ j.levels → i < length (orientations r) → b < block_number (grid_at s.rect j r n i)
    → coded_at s.rect j (analysed s.rect j.levels f) r n i b ≡ coded_at s.rect j (coefficient_of (bands_from s j f)) r n i b
source_agrees s j f r n i b le lt few =
    let place = block_at_place s.rect j r n i b in
    let q = band_number r i in
    let area = numbered_area s.rect j.levels q in
    let inside = subst (IsPartOf place) (sym (numbered_is s.rect j.levels r i lt)) (block_is_part s.rect j r n i b few) in
    let bound = number_few j.levels r i le lt in
    ap (coded (block_shape s.rect j r n i b)) (raster_same place (analysed s.rect j.levels f q) (coefficient_of (bands_from s j f) q) (λ x y h.
    let at = part_within place area x y inside h in
    sym (ap (λ (l : List ℤ). plane_at area l x y) (band_list s.rect j.levels q f (omega (arith, bound))) ∙ raster_at area (analysed s.rect j.levels f q) x y (record { left = at.left; right = at.right; upper = at.upper; lower = at.lower }))))

band_agrees : (s : ComponentFrame) (j : Coding) (f : ℕ → ℕ → ℤ) (r n i : ℕ) → r ≤ j.levels → i < length (orientations r) → band_tables_at s.layers s.rect j (analysed s.rect j.levels f) r n i ≡ band_tables_at s.layers s.rect j (coefficient_of (bands_from s j f)) r n i
band_agrees s j f r n i le lt =
    lists_from (λ b. coded_table s.layers (planes_of j (band_number r i)) (coded_at s.rect j (analysed s.rect j.levels f) r n i b)) (λ b. coded_table s.layers (planes_of j (band_number r i)) (coded_at s.rect j (coefficient_of (bands_from s j f)) r n i b))
    0 (block_number (grid_at s.rect j r n i)) (λ b from to. ap (coded_table s.layers (planes_of j (band_number r i))) (source_agrees s j f r n i b le lt (omega (arith, to))))

pub precinct_late : (s : ComponentFrame) (j : Coding) (f : ℕ → ℕ → ℤ) (r n : ℕ) → r ≤ j.levels
    → first_tables s j (analysed s.rect j.levels f) r (length (orientations r)) n ≡ flat_map (λ ts. ts) (precinct_tables s.layers s.rect j (coefficient_of (bands_from s j f)) r n)
unfolding precinct_tables
precinct_late s j f r n le =
    ap (flat_map (λ (ts : List Table). ts)) (lists_from (band_tables_at s.layers s.rect j (analysed s.rect j.levels f) r n) (band_tables_at s.layers s.rect j (coefficient_of (bands_from s j f)) r n) 0 (length (orientations r))
    (λ i from to. band_agrees s j f r n i le (omega (arith, to))))

-- ---- lists behind others

pub lists_filled : (old new : List (List Table)) (g : ℕ → List Table) (count : ℕ) → length new ≡ length old + count → ((m : ℕ) → m < length old → get_or new m [] ≡ get_or old m [])
    → ((n : ℕ) → n < count → get_or new (length old + n) [] ≡ g n) → new ≡ old ++ map g (range_with_len 0 count)
lists_filled old new g count long front made =
    let more = length-map-range_with_len g 0 count in
    ext_get_or [] new (old ++ map g (range_with_len 0 count)) (long ∙ (let e : length old + count ≡ length (old ++ map g (range_with_len 0 count)) = omega (arith, more, length-append old (map g (range_with_len 0 count))) in e)) (λ k lt. elim (cases_lt k (length old)) [
      | inl less ↦ front k less ∙ sym (get_or_append_left old (map g (range_with_len 0 count)) [] k less)
      | inr past ↦
          (let n : ℕ = k - length old in
          let at : length old + n ≡ k = omega (arith, past) in
          let few : n < count = omega (arith, lt, long, past) in
          ap (λ m. get_or new m []) (sym at) ∙ made n few
          ∙ sym (get_or-append_right old (map g (range_with_len 0 count)) (length old) k [] refl past ∙ get_or-map-range_with_len g 0 count n n [] few (omega arith)))
    ])

-- ---- moved one after another

pub blocks_more : (planes : ℕ) (block : Layered) (t : Table) (old new : List Table) (rest less : List Layered) → rest ≡ block ∷ less → new ≡ old ++ t ∷ [] → t ≡ table_with planes block → new ++ map (table_with planes) less ≡ old ++ map (table_with planes) rest
blocks_more planes block t old new rest less step e et =
    ap (λ (ts : List Table). ts ++ map (table_with planes) less) e ∙ append_assoc old (t ∷ []) (map (table_with planes) less) ∙ ap (λ (x : Table). old ++ x ∷ map (table_with planes) less) et
    ∙ ap (λ (bs : List Layered). old ++ map (table_with planes) bs) (sym step)

-- those of the next precinct
pub own_is : (lists : List (Vec Layered)) (rest less : List (Vec Layered)) (n : ℕ) (own : Vec Layered) → rest ≡ drop n lists → rest ≡ own ∷ less → (n < length lists) × (own.items ≡ list_at lists n) × (less ≡ drop (n + 1) lists)
own_is lists rest less n own is step =
    let front = front_of lists less n own own (sym step ∙ is) in
    (front.0, list_was lists n own front.0 (sym front.1), front.2)

-- ---- a resolution

-- its sub-bands stand one behind another
pub number_at : (r i : ℕ) → i < length (orientations r) → band_number r i ≡ band_number r 0 + i
number_at zero i lt = omega (arith, lt)
number_at (suc q) i lt = omega arith

pub next_resolution : (r : ℕ) → band_number r 0 + length (orientations r) ≤ band_number (r + 1) 0
next_resolution zero = omega arith
next_resolution (suc q) = let one : suc q + 1 ≡ suc (suc q) = omega arith in let e = ap (λ r. band_number r 0) one in omega (arith, e)

-- empty lists
abbrev nothing : List Table
nothing = []

none_at : (n k : ℕ) → get_or (replicate n nothing) k nothing ≡ nothing
none_at zero k = refl
none_at (suc n) zero = refl
none_at (suc n) (suc k) = none_at n k

pub record AreEmpty (old new : List (Vec Table)) (count : ℕ) : Type 0 where
  pub long : length new ≡ length old + count
  pub front : (m : ℕ) → m < length old → list_at new m ≡ list_at old m
  pub none : (n : ℕ) → list_at new (length old + n) ≡ []

pub are_empty : (old new : List (Vec Table)) (count : ℕ) → lists_of new ≡ lists_of old ++ replicate count [] → AreEmpty old new count
are_empty old new count e =
    let long = length-map old (λ v. v.items) in
    record {
      long = sym (length-map new (λ v. v.items)) ∙ ap (λ (ls : List (List Table)). length ls) e ∙ length-append (lists_of old) (replicate count nothing) ∙ (let all = length-replicate count nothing in let s : length (lists_of old) + length (replicate count nothing) ≡ length old + count = omega (arith, long, all) in s);
      front = λ m lt. ap (λ (ls : List (List Table)). get_or ls m []) e ∙ get_or_append_left (lists_of old) (replicate count nothing) [] m (omega (arith, lt, long));
      none = λ n. ap (λ (ls : List (List Table)). get_or ls (length old + n) []) e ∙ get_or-append_right (lists_of old) (replicate count nothing) (length old) (length old + n) [] long (omega arith)
          ∙ ap (λ k. get_or (replicate count nothing) k nothing) (let d : length old + n - length old ≡ n = omega arith in d) ∙ none_at count n;
    }

-- a sub-band more of a precinct
pub first_more : (s : ComponentFrame) (j : Coding) (f : ℕ → ℕ → ℕ → ℤ) (r i n planes : ℕ) (old new : List Table) (blocks : List Layered) → AreAlike s.coding j → n < precinct_number s.rect s.coding r
    → blocks ≡ map (layered_at s f r n i) (range_with_len 0 (blocks_above (grid_at s.rect s.coding r n i) (band_at s r i).y1)) → planes ≡ planes_of j (band_number r i) → old ≡ first_tables s j f r i n → new ≡ old ++ map (table_with planes) blocks
    → new ≡ first_tables s j f r (i + 1) n
first_more s j f r i n planes old new blocks alike lt eb ep eo e =
    bands_more (band_tables_at s.layers s.rect j f r n) i old new eo
    (e ∙ ap (λ (ts : List Table). old ++ ts) (band_late s j f r n i (blocks_above (grid_at s.rect s.coding r n i) (band_at s r i).y1) planes blocks alike (all_above s.rect s.coding r n i (band_at s r i).y1 refl) eb ep))

-- all of them
pub resolution_late : (s : ComponentFrame) (j : Coding) (f : ℕ → ℕ → ℤ) (r i : ℕ) (old new : List (Vec Table)) → AreAlike s.coding j → r ≤ s.coding.levels → i ≡ length (orientations r) → length new ≡ length old + precinct_number s.rect s.coding r
    → ((m : ℕ) → m < length old → list_at new m ≡ list_at old m)
    → ((n : ℕ) → n < precinct_number s.rect s.coding r → list_at new (length old + n) ≡ first_tables s j (analysed s.rect s.coding.levels f) r i n)
    → lists_of new ≡ lists_of old ++ resolution_lists (bands_from s j f) r
resolution_late s j f r i old new alike le all long front made =
    let was = length-map old (λ v. v.items) in
    let is = length-map new (λ v. v.items) in
    let levels : s.coding.levels ≡ j.levels = sym (ap (λ (k : Coding). k.levels) alike) in
    let g : ℕ → List Table = λ n. flat_map (λ ts. ts) (precinct_tables s.layers s.rect j (coefficient_of (bands_from s j f)) r n) in
    lists_filled (lists_of old) (lists_of new) g (precinct_number s.rect s.coding r) (omega (arith, was, is, long))
    (λ m lt. front m (omega (arith, lt, was)))
    (λ n lt. ap (λ k. list_at new (k + n)) was ∙ made n lt ∙ ap (λ k. first_tables s j (analysed s.rect s.coding.levels f) r k n) all ∙ ap (λ l. first_tables s j (analysed s.rect l f) r (length (orientations r)) n) levels
    ∙ precinct_late s j f r n (omega (arith, le, levels)))
    ∙ ap (λ k. lists_of old ++ map g (range_with_len 0 k)) (sym (alike_number s.rect s.coding j r alike))
