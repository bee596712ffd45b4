-- A sub-band between its rows: a row more waits, and a row of code-blocks is coded.
use Rattle.std.proofs.Common.{◌≡◌, ℕ, zero, suc, ◌+◌, ◌-◌, ◌*◌, ◌/◌, ◌%◌, ◌^◌, ◌<◌, ◌≤◌, ◌⊎◌, inl, inr, min, max, true, false, leb, List, [], ◌∷◌, ◌++◌, length, map, take, drop, replicate, All, get_or, ℤ, pos, unsigned_abs, refl, sym, ap, subst, ◌∙◌, arith, length-drop}
use Rattle.std.specs.List.{range_with_len, remove}
use Rattle.std.proofs.Math.Nat.{mul-le-mul_right}
use Rattle.std.proofs.Math.Pow.{pow_mono}
use Rattle.std.specs.Prelude.{◌||◌, nat_eq}
use Rattle.std.specs.Global.{Vec}
use Rattle.std.proofs.lemmas.Bool.{cases_lt, or_cases, or_parts, leb-true, leb-false, eqb-true, eqb-false}
use Rattle.std.proofs.lemmas.Nat.{pow_pos, div-add-mod'}
use Rattle.std.proofs.lemmas.List.{get_or_past, length-map, length-append, length-replicate, length-take-le}
use Rattle.std.proofs.lemmas.List.Elements.{All-nil, All-push, All-head, All-tail, All-append, All-weaker, All-from_get_or, All-take, All-drop}
use Rattle.jk_math.specs.declared.rect.Rect.{Rect}
use Rattle.jk_math.specs.BitLength.{bit_length}
use Rattle.jk_math.specs.Lists.{lists_of, list_at}
use Rattle.jk_math.specs.Raster.{columns_of, places_of, raster, plane_at}
use Rattle.jk_math.proofs.Laws.{bit_length_room, bit_length_few}
use Rattle.jk_marks.specs.declared.coding.Coding.{Coding}
use Rattle.jk_math.specs.declared.orientation.Orientation.{Orientation}
use Rattle.jk_geom.specs.Rectangles.{IsArea, band_area}
use Rattle.jk_geom.specs.Precincts.{precinct_number}
use Rattle.jk_geom.proofs.Cells.{cell_from, cell_to, cell_one}
use Rattle.jk_block.specs.BlockWritten.{greatest}
use Rattle.jk_block.proofs.Laws.{greatest_bounds}
use Rattle.jk_wave.specs.climbing.Held.{rows_between}
use Rattle.jk_wave.proofs.Laws.{joined, no_rows, cut_rows}
use Rattle.jk_walk.specs.TilePackets.{orientations, band_number}
use Rattle.jk_tile.specs.TileBlocks.{orientation_at, grid_at}
use Rattle.jk_tile.specs.decoding.Strips.{block_exponent}
use Rattle.jk_tile.specs.encoding.Layered.{Layered}
use Rattle.jk_tile.specs.encoding.Strips.{ComponentFrame, band_at, IsRowStart, row_end, IsRowOf, IsWholeRow, IsWaitingRow, AreWaiting, HaveValues, blocks_above, layered_at, layered_between, HavePlanes, own_band, HoldsRows, IsBetweenRows, HasRowsOf}
use Rattle.jk_tile.specs.declared.encoding.row_coding.Strip.{Strip}
use Rattle.jk_tile.specs.declared.encoding.strips.WaitingRow.{WaitingRow}
use Rattle.jk_tile.specs.declared.encoding.strips.BandStrips.{BandStrips}
use Rattle.jk_tile.proofs.encoding.BlockRows.{none_above}
use Rattle.jk_tile.proofs.encoding.StripBlocks.{between_agrees, above_more, between_few}

-- ---- where rows of code-blocks end

-- the row behind them is the first of one, or the end
pub next_start : (b : Rect) (e y : ℕ) → b.y0 ≤ y → y < b.y1 → IsRowStart b e (row_end b e y)
next_start b e y from to inside =
    let p = 2 ^ e in
    let some = pow_pos e in
    let whole : row_end b e y ≡ (y / p + 1) * p = omega (arith, inside) in
    let next : (y / p + 1 + 1) * p ≡ (y / p + 1) * p + p = omega arith in
    let q : y / p + 1 ≡ row_end b e y / p = cell_one (y / p + 1) (row_end b e y) p some (omega (arith, whole)) (omega (arith, whole, next, some)) in
    let same : row_end b e y / p * p ≡ (y / p + 1) * p = ap (λ m. m * p) (sym q) in
    let far = cell_to y p some in
    omega (arith, same, whole, from, far)

-- a row that isn't the last of one
pub still_open : (b1 p y t : ℕ) → 0 < p → t ≤ min b1 ((y / p + 1) * p) → t < b1 → (t % p ≡ 0 → ⊥) → t < min b1 ((y / p + 1) * p)
still_open b1 p y t some within less off = elim (cases_lt t ((y / p + 1) * p)) [
  | inl short ↦ omega (arith, short, less)
  | inr past ↦
      let whole : t ≡ (y / p + 1) * p = omega (arith, past, within) in
      absurd (off (ap (λ n. n % p) whole ∙ none (y / p + 1) p some))
]
  where
    none : (m p : ℕ) → 0 < p → m * p % p ≡ 0
    none m p some =
        let split = div-add-mod' (m * p) p in
        let next : (m + 1) * p ≡ m * p + p = omega arith in
        let q : m ≡ m * p / p = cell_one m (m * p) p some (omega arith) (omega (arith, next, some)) in
        let same : m * p / p * p ≡ m * p = ap (λ n. n * p) (sym q) in
        omega (arith, split, same)

-- and one that is
pub at_end : (b1 p y t : ℕ) → 0 < p → y < t → t ≤ min b1 ((y / p + 1) * p) → (b1 ≤ t) ⊎ (t % p ≡ 0) → t ≡ min b1 ((y / p + 1) * p)
at_end b1 p y t some order within all = elim all [
  | inl last ↦ omega (arith, last, within)
  | inr whole ↦
      let split = div-add-mod' t p in
      let is : t / p * p ≡ t = omega (arith, split, whole) in
      let from = cell_from y p in
      (elim (cases_lt (y / p) (t / p)) [
        | inl more ↦ (let up : (y / p + 1) * p ≤ t / p * p = mul-le-mul_right p (omega (arith, more)) in omega (arith, up, is, within))
        | inr few ↦ (let low : t / p * p ≤ y / p * p = mul-le-mul_right p few in absurd (omega (arith, low, is, from, order)))
      ])
]

-- rows that stand in the row of code-blocks of the next one stay within
stays : (b1 p y t end : ℕ) → 0 < p → y ≤ t → t < b1 → (y < t → t < min b1 ((y / p + 1) * p)) → end ≤ b1 → end ≤ (t / p + 1) * p → end ≤ min b1 ((y / p + 1) * p)
stays b1 p y t end some order inside missing last within = elim (cases_lt y t) [
  | inl behind ↦
      let less = missing behind in
      let few : t / p ≤ y / p = elim (cases_lt (y / p) (t / p)) [
        | inl more ↦ (let up : (y / p + 1) * p ≤ t / p * p = mul-le-mul_right p (omega (arith, more)) in let low = cell_from t p in absurd (omega (arith, up, low, less)))
        | inr few ↦ few
      ] in
      let up : (t / p + 1) * p ≤ (y / p + 1) * p = mul-le-mul_right p (omega (arith, few)) in
      omega (arith, up, last, within)
  | inr here ↦ (let same : t ≡ y = omega (arith, here, order) in let up = ap (λ n. (n / p + 1) * p) same in omega (arith, up, last, within))
]

pub rows_stay : (b : Rect) (e y t end : ℕ) → y ≤ t → t < b.y1 → (y < t → t < row_end b e y) → end ≤ b.y1 → end ≤ (t / 2 ^ e + 1) * 2 ^ e → end ≤ row_end b e y
rows_stay b e y t end order inside missing last within = stays b.y1 (2 ^ e) y t end (pow_pos e) order inside missing last within

-- ---- magnitudes

pub below_more : (m n : ℕ) (xs : List ℤ) → m ≤ n → All (λ v. unsigned_abs v < 2 ^ m) xs → All (λ v. unsigned_abs v < 2 ^ n) xs
below_more m n xs le all = let wide : 2 ^ m ≤ 2 ^ n = pow_mono le in All-weaker (λ v. unsigned_abs v < 2 ^ m) (λ v. unsigned_abs v < 2 ^ n) (λ v less. omega (arith, less, wide)) xs all

pub below_own : (xs : List ℤ) → All (λ v. unsigned_abs v < 2 ^ bit_length (greatest xs)) xs
below_own xs = let room = bit_length_room (greatest xs) in All-from_get_or (λ v. unsigned_abs v < 2 ^ bit_length (greatest xs)) xs (pos 0) (λ k lt. let bound = greatest_bounds xs k in omega (arith, bound, room))

pub planes_more : (m n : ℕ) (blocks : List (List Layered)) → m ≤ n → HavePlanes m blocks → HavePlanes n blocks
planes_more m n blocks le all = λ k. All-weaker (λ (b : Layered). b.planes ≤ m) (λ (b : Layered). b.planes ≤ n) (λ b few. omega (arith, few, le)) (get_or blocks k []) (all k)

greatest_joined : (xs ys : List ℤ) → greatest (xs ++ ys) ≡ max (greatest xs) (greatest ys)
greatest_joined [] ys = omega arith
greatest_joined (x ∷ xs) ys = let rest = greatest_joined xs ys in omega (arith, rest)

length_rises : (m n : ℕ) → m ≤ n → bit_length m ≤ bit_length n
length_rises m n le = let room = bit_length_room n in bit_length_few m (bit_length n) (omega (arith, le, room))

length_joined : (m n : ℕ) → bit_length (max m n) ≡ max (bit_length m) (bit_length n)
length_joined m n = elim (cases_lt m n) [
  | inl less ↦ (let rise = length_rises m n (omega (arith, less)) in let is : max m n ≡ n = omega (arith, less) in let e = ap bit_length is in omega (arith, e, rise))
  | inr more ↦ (let rise = length_rises n m more in let is : max m n ≡ m = omega (arith, more) in let e = ap bit_length is in omega (arith, e, rise))
]

-- the bits of all rows are the most of the bits of some and of the others
pub bits_joined : (xs ys : List ℤ) → bit_length (greatest (xs ++ ys)) ≡ max (bit_length (greatest xs)) (bit_length (greatest ys))
bits_joined xs ys = ap bit_length (greatest_joined xs ys) ∙ length_joined (greatest xs) (greatest ys)

pub bits_none : (xs : List ℤ) → length xs ≡ 0 → bit_length (greatest xs) ≡ 0
bits_none [] e = bit_length_of_none
  where
    bit_length_of_none : bit_length 0 ≡ 0
    bit_length_of_none = let few = bit_length_few 0 0 (omega arith) in omega (arith, few)
bits_none (x ∷ xs) e = absurd (omega (arith, e))

-- ---- rows

parted : (m n w : ℕ) → (m + n) * w ≡ m * w + n * w
parted m n w = grind arith

pub places_more : (a b : Rect) (end : ℕ) → b.x0 ≡ a.x0 → b.x1 ≡ a.x1 → b.y0 ≡ a.y0 → b.y1 ≡ end → a.y0 ≤ a.y1 → a.y1 ≤ end → places_of b ≡ places_of a + (end - a.y1) * columns_of a
places_more a b end e0 e1 e2 e3 order more =
    let w : columns_of b ≡ columns_of a = omega (arith, e0, e1) in
    let h : b.y1 - b.y0 ≡ a.y1 - a.y0 + (end - a.y1) = omega (arith, e2, e3, order, more) in
    ap (λ m. m * columns_of b) h ∙ ap (λ m. (a.y1 - a.y0 + (end - a.y1)) * m) w ∙ parted (a.y1 - a.y0) (end - a.y1) (columns_of a)

-- those of a rectangle with more of them, which have the columns of another
pub rows_more : (a b band : Rect) (end : ℕ) (f : ℕ → ℕ → ℤ) (old rows : List ℤ) → a.x0 ≡ band.x0 → a.x1 ≡ band.x1 → b ≡ record { x0 = a.x0; y0 = a.y0; x1 = a.x1; y1 = end } → a.y0 ≤ a.y1 → a.y1 ≤ end
    → old ≡ raster a f → rows ≡ raster (rows_between band a.y1 end) f → old ++ rows ≡ raster b f
rows_more a b band end f old rows left right is order more eo er =
    let own : rows_between a a.y1 end ≡ rows_between band a.y1 end =
    ap (λ x. record { x0 = x; y0 = a.y1; x1 = a.x1; y1 = end }) left ∙ ap (λ x. record { x0 = band.x0; y0 = a.y1; x1 = x; y1 = end }) right in
    ap (λ (xs : List ℤ). xs ++ rows) eo ∙ ap (λ (xs : List ℤ). raster a f ++ xs) (er ∙ ap (λ (r : Rect). raster r f) (sym own))
    ∙ joined a a.y0 a.y1 end f order more ∙ ap (λ (r : Rect). raster r f) (sym is)

pub bits_more : (band : Rect) (y end bits tops : ℕ) (f : ℕ → ℕ → ℤ) (rows : List ℤ) → band.y0 ≤ y → y ≤ end → bits ≡ bit_length (greatest (raster (rows_between band band.y0 y) f)) → tops ≡ bit_length (greatest rows)
    → rows ≡ raster (rows_between band y end) f → max bits tops ≡ bit_length (greatest (raster (rows_between band band.y0 end) f))
bits_more band y end bits tops f rows from more was top is =
    let upper = raster (rows_between band band.y0 y) f in
    let lower = raster (rows_between band y end) f in
    ap (λ n. max n tops) was ∙ ap (λ n. max (bit_length (greatest upper)) n) (top ∙ ap (λ (xs : List ℤ). bit_length (greatest xs)) is)
    ∙ sym (bits_joined upper lower) ∙ ap (λ (xs : List ℤ). bit_length (greatest xs)) (joined band band.y0 y end f from more)

-- nothing waits
pub none_wait : (a : Rect) (f : ℕ → ℕ → ℤ) → a.y1 ≤ a.y0 → raster a f ≡ []
none_wait a f h = no_rows a a.y0 a.y1 f h

-- ---- a row of code-blocks waits

-- the rows that wait, where none of a row of code-blocks is missing
pub whole_row : (s : ComponentFrame) (b : BandStrips) → HoldsRows s b → b.area.y0 < b.area.y1 → b.area.y1 ≡ row_end (own_band s b) (block_exponent s.coding b.resolution) b.area.y0 → IsRowOf s b.resolution b.band b.area b.strip.items
whole_row s b holds some whole = record {
  resolution = holds.resolution;
  band = holds.band;
  left = holds.left;
  right = holds.right;
  upper = holds.upper;
  inside = (let lower = holds.lower in omega (arith, some, lower));
  start = holds.start;
  end = whole;
  area_is = (let bounds = holds.bounds in let l = bounds.left in let r = bounds.right in let d = bounds.lower in let hl = holds.left in let hr = holds.right in let order = holds.order in let lower = holds.lower in
      record { left = omega (arith, l, hl, hr); upper = order; right = omega (arith, r, hr); lower = omega (arith, d, lower) });
  long = holds.long;
  small = below_more b.bits 23 b.strip.items holds.few holds.below;
}

-- one waits behind the others
pub waiting_more : (s : ComponentFrame) (r i bits p q : ℕ) (ws : List WaitingRow) (w : WaitingRow) → AreWaiting s r i bits p q ws → w.area.y0 ≡ q → IsWaitingRow s r i bits w → AreWaiting s r i bits p w.area.y1 (ws ++ w ∷ [])
waiting_more s r i bits p q [] w same at is = (at ∙ sym same, is, refl)
waiting_more s r i bits p q (x ∷ ws) w all at is = (all.0, all.1, waiting_more s r i bits x.area.y1 q ws w all.2 at is)

-- they have more bits too
pub waiting_below : (s : ComponentFrame) (r i m n p q : ℕ) (ws : List WaitingRow) → m ≤ n → AreWaiting s r i m p q ws → AreWaiting s r i n p q ws
waiting_below s r i m n p q [] le same = same
waiting_below s r i m n p q (x ∷ ws) le all = (
  all.0,
  record { row = all.1.row; below = below_more m n x.values.items le all.1.below },
  waiting_below s r i m n x.area.y1 q ws le all.2,
)

-- each of them
pub waiting_at : (s : ComponentFrame) (r i bits p q : ℕ) (ws : List WaitingRow) (k : ℕ) (other : WaitingRow) → k < length ws → AreWaiting s r i bits p q ws → IsWaitingRow s r i bits (get_or ws k other)
waiting_at s r i bits p q [] k other lt all = absurd (omega (arith, lt))
waiting_at s r i bits p q (x ∷ ws) zero other lt all = all.1
waiting_at s r i bits p q (x ∷ ws) (suc k) other lt all = waiting_at s r i bits x.area.y1 q ws k other (omega (arith, lt)) all.2

-- none of them
pub waiting_none : (s : ComponentFrame) (r i bits p q : ℕ) (ws : List WaitingRow) → length ws ≡ 0 → AreWaiting s r i bits p q ws → p ≡ q
waiting_none s r i bits p q [] none same = same
waiting_none s r i bits p q (x ∷ ws) none all = absurd (omega (arith, none))

-- what becomes of the sub-band
abbrev pub waiting_on : BandStrips → Vec WaitingRow → (strip room : Vec ℤ) → BandStrips
waiting_on b waiting strip room = record {
  resolution = b.resolution;
  band = b.band;
  top = b.top;
  waiting = waiting;
  area = record { x0 = b.area.x0; y0 = b.area.y1; x1 = b.area.x1; y1 = b.area.y1 };
  strip = strip;
  room = room;
  blocks = b.blocks;
  bits = b.bits;
}

pub waits_holds : (s : ComponentFrame) (b : BandStrips) (values strip room : Vec ℤ) (waiting : Vec WaitingRow) → HoldsRows s b → b.area.y0 < b.area.y1 → b.area.y1 ≡ row_end (own_band s b) (block_exponent s.coding b.resolution) b.area.y0 → values.items ≡ b.strip.items
    → waiting.items ≡ b.waiting.items ++ record { area = b.area; values = values } ∷ [] → strip.items ≡ [] → IsBetweenRows s (waiting_on b waiting strip room)
waits_holds s b values strip room waiting holds some whole ev ew es = (
  record {
    resolution = holds.resolution;
    band = holds.band;
    bounds = holds.bounds;
    left = holds.left;
    right = holds.right;
    upper = (let upper = holds.upper in omega (arith, upper, some));
    order = omega arith;
    lower = holds.lower;
    start = subst (IsRowStart (own_band s b) (block_exponent s.coding b.resolution)) (sym whole)
        (next_start (own_band s b) (block_exponent s.coding b.resolution) b.area.y0 holds.upper (let lower = holds.lower in omega (arith, some, lower)));
    within = λ more. absurd (omega (arith, more));
    long = ap (λ (l : List ℤ). length l) es ∙ (let rows : b.area.y1 - b.area.y1 ≡ 0 = omega arith in (let z : 0 ≡ 0 * columns_of b.area = omega arith in z) ∙ ap (λ n. n * columns_of b.area) (sym rows));
    few = holds.few;
    below = subst (All (λ v. unsigned_abs v < 2 ^ b.bits)) (sym es) (All-nil (λ v. unsigned_abs v < 2 ^ b.bits));
    count = holds.count;
    planes = holds.planes;
    waiting = subst (AreWaiting s b.resolution b.band b.bits b.top b.area.y1) (sym ew)
        (waiting_more s b.resolution b.band b.bits b.top b.area.y0 b.waiting.items (record { area = b.area; values = values }) holds.waiting refl (record {
          row = subst (IsRowOf s b.resolution b.band b.area) (sym ev) (whole_row s b holds some whole);
          below = subst (All (λ v. unsigned_abs v < 2 ^ b.bits)) (sym ev) holds.below;
        }));
  },
  λ more. absurd (omega (arith, more)),
)

pub waits_rows : (s : ComponentFrame) (f : ℕ → ℕ → ℕ → ℤ) (b : BandStrips) (values strip room : Vec ℤ) (waiting : Vec WaitingRow) → values.items ≡ b.strip.items → waiting.items ≡ b.waiting.items ++ record { area = b.area; values = values } ∷ [] → strip.items ≡ []
    → HasRowsOf s f b → HasRowsOf s f (waiting_on b waiting strip room)
waits_rows s f b values strip room waiting ev ew es has =
    let g = f (band_number b.resolution b.band) in
    record {
      blocks = has.blocks;
      waiting = subst (HaveValues g) (sym ew) (All-push (λ (w : WaitingRow). w.values.items ≡ raster w.area g) b.waiting.items (record { area = b.area; values = values }) has.waiting (ev ∙ has.strip));
      strip = es ∙ sym (none_wait (record { x0 = b.area.x0; y0 = b.area.y1; x1 = b.area.x1; y1 = b.area.y1 }) g (omega arith));
      bits = has.bits;
    }

-- ---- a row of code-blocks is coded

-- the first of those that wait
pub first_removed : (ws rest : List WaitingRow) (w : WaitingRow) → 0 < length ws → w ≡ get_or ws 0 w → rest ≡ remove ws 0 → ws ≡ w ∷ rest
first_removed [] rest w some is left = absurd (omega (arith, some))
first_removed (x ∷ ws) rest w some is left = ap (λ y. y ∷ ws) (sym is) ∙ ap (λ l. w ∷ l) (sym left)

-- a row with these coefficients as it is coded
abbrev pub strip_of : (r i : ℕ) → Rect → List ℤ → Strip
strip_of r i a values = record { resolution = r; band = i; area = a; values = record { ref_ptr = (0, 0); now = values } }

-- what becomes of the sub-band
abbrev pub coded_on : BandStrips → WaitingRow → Vec WaitingRow → (strip room : Vec ℤ) → Vec (Vec Layered) → BandStrips
coded_on b w rest strip room blocks = record {
  resolution = b.resolution;
  band = b.band;
  top = w.area.y1;
  waiting = rest;
  area = b.area;
  strip = strip;
  room = room;
  blocks = blocks;
  bits = b.bits;
}

-- which row it is, and what is coded
pub record IsFirstCoded (s : ComponentFrame) (b : BandStrips) (w : WaitingRow) (rest : List WaitingRow) (values strip : List ℤ) (blocks : List (Vec Layered)) : Type 0 where
  pub waiting : b.waiting.items ≡ w ∷ rest
  pub values_are : values ≡ w.values.items
  pub strip_is : strip ≡ b.strip.items
  pub count : length blocks ≡ length b.blocks.items
  pub blocks_are : (n : ℕ) → n < precinct_number s.rect s.coding b.resolution → list_at blocks n
      ≡ list_at b.blocks.items n ++ layered_between s (λ _. plane_at w.area values) b.resolution n b.band w.area.y0 w.area.y1

first_waiting : (s : ComponentFrame) (b : BandStrips) (w : WaitingRow) (rest : List WaitingRow) (values strip : List ℤ) (blocks : List (Vec Layered)) → HoldsRows s b → IsFirstCoded s b w rest values strip blocks → AreWaiting s b.resolution b.band b.bits b.top b.area.y0 (w ∷ rest)
first_waiting s b w rest values strip blocks holds is = subst (AreWaiting s b.resolution b.band b.bits b.top b.area.y0) is.waiting holds.waiting

-- the row that is coded is whole
pub first_whole : (s : ComponentFrame) (b : BandStrips) (w : WaitingRow) (rest : List WaitingRow) (values : List ℤ) → HoldsRows s b → b.waiting.items ≡ w ∷ rest → values ≡ w.values.items → IsRowOf s b.resolution b.band w.area values
first_whole s b w rest values holds ew ev = subst (IsRowOf s b.resolution b.band w.area) (sym ev) (subst (AreWaiting s b.resolution b.band b.bits b.top b.area.y0) ew holds.waiting).1.row

pub coded_holds : (s : ComponentFrame) (b : BandStrips) (w : WaitingRow) (rest : Vec WaitingRow) (values : List ℤ) (strip room : Vec ℤ) (blocks : Vec (Vec Layered)) → IsBetweenRows s b → IsFirstCoded s b w rest.items values strip.items blocks.items → IsBetweenRows s (coded_on b w rest strip room blocks)
coded_holds s b w rest values strip room blocks (holds, missing) is = (
  record {
    resolution = holds.resolution;
    band = holds.band;
    bounds = holds.bounds;
    left = holds.left;
    right = holds.right;
    upper = holds.upper;
    order = holds.order;
    lower = holds.lower;
    start = holds.start;
    within = holds.within;
    long = ap (λ (l : List ℤ). length l) is.strip_is ∙ holds.long;
    few = holds.few;
    below = subst (All (λ v. unsigned_abs v < 2 ^ b.bits)) (sym is.strip_is) holds.below;
    count = is.count ∙ holds.count;
    planes = few_planes;
    waiting = (first_waiting s b w rest.items values strip.items blocks.items holds is).2;
  },
  missing,
)
  where
    x : Strip
    x = strip_of b.resolution b.band w.area values

    whole : IsWholeRow s x
    whole = first_whole s b w rest.items values holds is.waiting is.values_are

    few_planes : HavePlanes b.bits (lists_of blocks.items)
    few_planes n = elim (cases_lt n (precinct_number s.rect s.coding b.resolution)) [
      | inl less ↦ subst (All (λ (k : Layered). k.planes ≤ b.bits)) (sym (is.blocks_are n less))
          (All-append (λ (k : Layered). k.planes ≤ b.bits) (list_at b.blocks.items n) (layered_between s (λ _. plane_at w.area values) b.resolution n b.band w.area.y0 w.area.y1) (holds.planes n)
          (between_few s x n b.bits whole (subst (All (λ v. unsigned_abs v < 2 ^ b.bits)) (sym is.values_are) (first_waiting s b w rest.items values strip.items blocks.items holds is).1.below)))
      | inr past ↦ subst (All (λ (k : Layered). k.planes ≤ b.bits)) (sym (get_or_past (lists_of blocks.items) n [] (let long = length-map blocks.items (λ v. v.items) in let a = is.count in let c = holds.count in omega (arith, past, long, a, c)))) (All-nil (λ (k : Layered). k.planes ≤ b.bits))
    ]

pub coded_rows : (s : ComponentFrame) (f : ℕ → ℕ → ℕ → ℤ) (b : BandStrips) (w : WaitingRow) (rest : Vec WaitingRow) (values : List ℤ) (strip room : Vec ℤ) (blocks : Vec (Vec Layered)) → HoldsRows s b → IsFirstCoded s b w rest.items values strip.items blocks.items → HasRowsOf s f b
    → HasRowsOf s f (coded_on b w rest strip room blocks)
coded_rows s f b w rest values strip room blocks holds is has = record {
  blocks = λ n lt.
      above_more s x f n (list_at b.blocks.items n) (list_at blocks.items n) whole
      (has.blocks n lt ∙ ap (λ y. map (layered_at s f b.resolution n b.band) (range_with_len 0 (blocks_above (grid_at s.rect s.coding b.resolution n b.band) y))) (sym (first_waiting s b w rest.items values strip.items blocks.items holds is).0))
      (is.blocks_are n lt ∙ ap (λ (l : List Layered). list_at b.blocks.items n ++ l) (between_agrees s x f n whole own));
  waiting = All-tail (λ (y : WaitingRow). y.values.items ≡ raster y.area g) w rest.items (subst (HaveValues g) is.waiting has.waiting);
  strip = is.strip_is ∙ has.strip;
  bits = has.bits;
}
  where
    g : ℕ → ℕ → ℤ
    g = f (band_number b.resolution b.band)

    x : Strip
    x = strip_of b.resolution b.band w.area values

    whole : IsWholeRow s x
    whole = first_whole s b w rest.items values holds is.waiting is.values_are

    own : values ≡ raster w.area g
    own = is.values_are ∙ All-head (λ (y : WaitingRow). y.values.items ≡ raster y.area g) w rest.items (subst (HaveValues g) is.waiting has.waiting)

-- ---- more rows

-- whether a row of code-blocks is whole
pub starts : (a y p : ℕ) → (leb a y || nat_eq (y % p) 0) ≡ true → (a ≤ y) ⊎ (y % p ≡ 0)
starts a y p e = elim (or_cases (leb a y) (nat_eq (y % p) 0) e) [
  | inl last ↦ inl (leb-true a y last)
  | inr whole ↦ inr (eqb-true (y % p) 0 whole)
]

pub not_start : (a y p : ℕ) → (leb a y || nat_eq (y % p) 0) ≡ false → (y < a) × (y % p ≡ 0 → ⊥)
not_start a y p e = let both = or_parts (leb a y) (nat_eq (y % p) 0) e in (leb-false a y both.0, eqb-false (y % p) 0 both.1)

-- with the next rows behind those that wait
pub record IsLonger (b mid : BandStrips) (end : ℕ) (rows : List ℤ) (tops : ℕ) : Type 0 where
  pub resolution : mid.resolution ≡ b.resolution
  pub band : mid.band ≡ b.band
  pub area : mid.area ≡ record { x0 = b.area.x0; y0 = b.area.y0; x1 = b.area.x1; y1 = end }
  pub bits : mid.bits ≡ max b.bits tops
  pub strip : mid.strip.items ≡ b.strip.items ++ rows
  pub blocks : mid.blocks.items ≡ b.blocks.items
  pub top : mid.top ≡ b.top
  pub waiting : mid.waiting.items ≡ b.waiting.items

pub longer_holds : (s : ComponentFrame) (b mid : BandStrips) (end : ℕ) (rows : List ℤ) (tops : ℕ) → IsBetweenRows s b → b.area.y1 < end → end ≤ (own_band s b).y1
    → end ≤ (b.area.y1 / 2 ^ block_exponent s.coding b.resolution + 1) * 2 ^ block_exponent s.coding b.resolution → length rows ≡ (end - b.area.y1) * columns_of b.area → tops ≡ bit_length (greatest rows) → tops ≤ 23
    → IsLonger b mid end rows tops → HoldsRows s mid
longer_holds s b mid end rows tops (holds, missing) some inside within long top few is = record {
  resolution = subst (λ n. n ≤ s.coding.levels) (sym is.resolution) holds.resolution;
  band = subst (λ n. mid.band < length (orientations n)) (sym is.resolution) (subst (λ n. n < length (orientations b.resolution)) (sym is.band) holds.band);
  bounds = subst IsArea own holds.bounds;
  left = ap (λ (a : Rect). a.x0) is.area ∙ holds.left ∙ ap (λ (a : Rect). a.x0) own;
  right = ap (λ (a : Rect). a.x1) is.area ∙ holds.right ∙ ap (λ (a : Rect). a.x1) own;
  upper = (let e = ap (λ (a : Rect). a.y0) own in let upper = holds.upper in omega (arith, e, upper, first));
  order = (let order = holds.order in omega (arith, first, last, order, some));
  lower = (let e = ap (λ (a : Rect). a.y1) own in omega (arith, e, inside, last));
  start = λ less. (let e = ap (λ (a : Rect). a.y1) own in
      first ∙ holds.start (omega (arith, less, first, e)) ∙ ap (λ y. max (own_band s b).y0 (y / 2 ^ block_exponent s.coding b.resolution * 2 ^ block_exponent s.coding b.resolution)) (sym first)
      ∙ ap (λ (a : Rect). max a.y0 (mid.area.y0 / 2 ^ block_exponent s.coding b.resolution * 2 ^ block_exponent s.coding b.resolution)) own
      ∙ ap (λ r. max (own_band s mid).y0 (mid.area.y0 / 2 ^ block_exponent s.coding r * 2 ^ block_exponent s.coding r)) (sym is.resolution));
  within = λ _. (let more = rows_stay (own_band s b) (block_exponent s.coding b.resolution) b.area.y0 b.area.y1 end holds.order (omega (arith, some, inside)) missing inside within in
      let same : row_end (own_band s mid) (block_exponent s.coding mid.resolution) mid.area.y0 ≡ row_end (own_band s b) (block_exponent s.coding b.resolution) b.area.y0 =
      ap (λ r. row_end (own_band s mid) (block_exponent s.coding r) mid.area.y0) is.resolution ∙ ap (λ (a : Rect). row_end a (block_exponent s.coding b.resolution) mid.area.y0) (sym own)
      ∙ ap (row_end (own_band s b) (block_exponent s.coding b.resolution)) first in
      omega (arith, more, same, last));
  long = ap (λ (l : List ℤ). length l) is.strip ∙ length-append b.strip.items rows ∙ ap (λ n. n + length rows) holds.long ∙ ap (λ n. places_of b.area + n) long
      ∙ sym (places_more b.area mid.area end (ap (λ (a : Rect). a.x0) is.area) (ap (λ (a : Rect). a.x1) is.area) first last holds.order (omega (arith, some)));
  few = (let e = is.bits in let old = holds.few in omega (arith, e, old, few));
  below = subst (All (λ v. unsigned_abs v < 2 ^ mid.bits)) (sym is.strip)
      (All-append (λ v. unsigned_abs v < 2 ^ mid.bits) b.strip.items rows (below_more b.bits mid.bits b.strip.items (let e = is.bits in omega (arith, e)) holds.below)
      (below_more tops mid.bits rows (let e = is.bits in omega (arith, e)) (subst (λ n. All (λ v. unsigned_abs v < 2 ^ n) rows) (sym top) (below_own rows))));
  count = ap (λ (l : List (Vec Layered)). length l) is.blocks ∙ holds.count ∙ ap (precinct_number s.rect s.coding) (sym is.resolution);
  planes = subst (λ (l : List (Vec Layered)). HavePlanes mid.bits (lists_of l)) (sym is.blocks) (planes_more b.bits mid.bits (lists_of b.blocks.items) (let e = is.bits in omega (arith, e)) holds.planes);
  waiting = subst (AreWaiting s mid.resolution mid.band mid.bits mid.top mid.area.y0) (sym is.waiting)
      (subst (λ y. AreWaiting s mid.resolution mid.band mid.bits mid.top y b.waiting.items) (sym first)
      (subst (λ y. AreWaiting s mid.resolution mid.band mid.bits y b.area.y0 b.waiting.items) (sym is.top)
      (subst (λ r. AreWaiting s r mid.band mid.bits b.top b.area.y0 b.waiting.items) (sym is.resolution)
      (subst (λ i. AreWaiting s b.resolution i mid.bits b.top b.area.y0 b.waiting.items) (sym is.band)
      (waiting_below s b.resolution b.band b.bits mid.bits b.top b.area.y0 b.waiting.items (let e = is.bits in omega (arith, e)) holds.waiting)))));
}
  where
    own : own_band s b ≡ own_band s mid
    own = sym (ap (λ r. band_at s r mid.band) is.resolution ∙ ap (band_at s b.resolution) is.band)

    first : mid.area.y0 ≡ b.area.y0
    first = ap (λ (a : Rect). a.y0) is.area

    last : mid.area.y1 ≡ end
    last = ap (λ (a : Rect). a.y1) is.area

pub longer_rows : (s : ComponentFrame) (f : ℕ → ℕ → ℕ → ℤ) (b mid : BandStrips) (end : ℕ) (list : List ℤ) (tops : ℕ) → HoldsRows s b → b.area.y1 < end → tops ≡ bit_length (greatest list) → IsLonger b mid end list tops
    → list ≡ raster (rows_between (own_band s b) b.area.y1 end) (f (band_number b.resolution b.band)) → HasRowsOf s f b → HasRowsOf s f mid
longer_rows s f b mid end list tops holds some top is rows has =
    let g = f (band_number b.resolution b.band) in
    let band = own_band s b in
    let from : band.y0 ≤ b.area.y1 = (let upper = holds.upper in let order = holds.order in omega (arith, upper, order)) in
    record {
      blocks = λ n lt.
          ap (λ (l : List (Vec Layered)). list_at l n) is.blocks ∙ has.blocks n (subst (λ r. n < precinct_number s.rect s.coding r) is.resolution lt)
          ∙ ap (λ y. map (layered_at s f b.resolution n b.band) (range_with_len 0 (blocks_above (grid_at s.rect s.coding b.resolution n b.band) y))) (sym is.top)
          ∙ ap (λ r. map (layered_at s f r n b.band) (range_with_len 0 (blocks_above (grid_at s.rect s.coding r n b.band) mid.top))) (sym is.resolution)
          ∙ ap (λ i. map (layered_at s f mid.resolution n i) (range_with_len 0 (blocks_above (grid_at s.rect s.coding mid.resolution n i) mid.top))) (sym is.band);
      waiting = subst (HaveValues (f (band_number mid.resolution mid.band))) (sym is.waiting)
          (subst (λ r. HaveValues (f (band_number r mid.band)) b.waiting.items) (sym is.resolution) (subst (λ i. HaveValues (f (band_number b.resolution i)) b.waiting.items) (sym is.band) has.waiting));
      strip = is.strip ∙ rows_more b.area mid.area band end g b.strip.items list holds.left holds.right is.area holds.order (omega (arith, some)) has.strip rows
          ∙ ap (λ r. raster mid.area (f (band_number r b.band))) (sym is.resolution) ∙ ap (λ i. raster mid.area (f (band_number mid.resolution i))) (sym is.band);
      bits = is.bits ∙ bits_more band b.area.y1 end b.bits tops g list from (omega (arith, some)) has.bits top rows
          ∙ ap (λ y. bit_length (greatest (raster (rows_between band band.y0 y) g))) (sym (ap (λ (a : Rect). a.y1) is.area))
          ∙ ap (λ r. bit_length (greatest (raster (rows_between (band_at s r b.band) (band_at s r b.band).y0 mid.area.y1) (f (band_number r b.band))))) (sym is.resolution)
          ∙ ap (λ i. bit_length (greatest (raster (rows_between (band_at s mid.resolution i) (band_at s mid.resolution i).y0 mid.area.y1) (f (band_number mid.resolution i))))) (sym is.band);
    }

-- some of a list of rows
pub rows_of_rows : (band : Rect) (from to y end w n : ℕ) (f : ℕ → ℕ → ℤ) (rows : List ℤ) → from ≤ y → y ≤ end → end ≤ to → w ≡ columns_of band → n ≡ (end - y) * w → rows ≡ raster (rows_between band from to) f
    → take n (drop ((y - from) * w) rows) ≡ raster (rows_between band y end) f
rows_of_rows band from to y end w n f rows low order high wide count is =
    cut_rows (rows_between band from to) y end ((y - from) * w) n f rows low order high is (ap (λ m. (y - from) * m) wide) (count ∙ ap (λ m. (end - y) * m) wide)

-- what the calls gave of the sub-band and its code-blocks
pub band_given : (s : ComponentFrame) (b : BandStrips) (rect area : Rect) (k : Coding) (o : Orientation) → b.band < length (orientations b.resolution) → rect ≡ s.rect → k ≡ s.coding → o ≡ orientation_at b.resolution b.band → area ≡ band_area rect k.levels b.resolution o → area ≡ own_band s b
band_given s b rect area k o lt er ek eo e =
    e ∙ ap (λ (a : Rect). band_area a k.levels b.resolution o) er ∙ ap (λ (j : Coding). band_area s.rect j.levels b.resolution o) ek ∙ ap (band_area s.rect s.coding.levels b.resolution) eo

pub exponent_given : (s : ComponentFrame) (k : Coding) (r e : ℕ) → k ≡ s.coding → e ≡ block_exponent k r → e ≡ block_exponent s.coding r
exponent_given s k r e ek is = is ∙ ap (λ (j : Coding). block_exponent j r) ek

-- where the row is whole, and where it isn't
pub whole_given : (s : ComponentFrame) (b : BandStrips) (area : Rect) (e : ℕ) → HoldsRows s b → b.area.y0 < b.area.y1 → area ≡ own_band s b → e ≡ block_exponent s.coding b.resolution → (leb area.y1 b.area.y1 || nat_eq (b.area.y1 % 2 ^ e) 0) ≡ true
    → b.area.y1 ≡ row_end (own_band s b) (block_exponent s.coding b.resolution) b.area.y0
whole_given s b area e holds some ea ee test =
    at_end (own_band s b).y1 (2 ^ block_exponent s.coding b.resolution) b.area.y0 b.area.y1 (pow_pos (block_exponent s.coding b.resolution)) some (holds.within some)
    (starts (own_band s b).y1 b.area.y1 (2 ^ block_exponent s.coding b.resolution) (sym (ap (λ (a : Rect). leb a.y1 b.area.y1 || nat_eq (b.area.y1 % 2 ^ e) 0) ea ∙ ap (λ n. leb (own_band s b).y1 b.area.y1 || nat_eq (b.area.y1 % 2 ^ n) 0) ee) ∙ test))

pub open_given : (s : ComponentFrame) (b : BandStrips) (area : Rect) (e : ℕ) → HoldsRows s b → b.area.y0 < b.area.y1 → area ≡ own_band s b → e ≡ block_exponent s.coding b.resolution → (leb area.y1 b.area.y1 || nat_eq (b.area.y1 % 2 ^ e) 0) ≡ false
    → IsBetweenRows s b
open_given s b area e holds some ea ee test =
    let p = 2 ^ block_exponent s.coding b.resolution in
    let off = not_start (own_band s b).y1 b.area.y1 p (sym (ap (λ (a : Rect). leb a.y1 b.area.y1 || nat_eq (b.area.y1 % 2 ^ e) 0) ea ∙ ap (λ n. leb (own_band s b).y1 b.area.y1 || nat_eq (b.area.y1 % 2 ^ n) 0) ee) ∙ test) in
    (holds, λ more. still_open (own_band s b).y1 p b.area.y0 b.area.y1 (pow_pos (block_exponent s.coding b.resolution)) (holds.within some) off.0 off.1)

-- ---- before the first row

abbrev nothing : List Layered
nothing = []

none_at : (n k : ℕ) → get_or (replicate n nothing) k nothing ≡ nothing
none_at zero k = refl
none_at (suc n) zero = refl
none_at (suc n) (suc k) = none_at n k

pub record IsFirst (s : ComponentFrame) (b : BandStrips) (area : Rect) (count : ℕ) : Type 0 where
  pub resolution : b.resolution ≤ s.coding.levels
  pub band : b.band < length (orientations b.resolution)
  pub own : area ≡ own_band s b
  pub bounds : IsArea area
  pub rows : b.area ≡ record { x0 = area.x0; y0 = area.y0; x1 = area.x1; y1 = area.y0 }
  pub top : b.top ≡ area.y0
  pub waiting : b.waiting.items ≡ []
  pub strip : b.strip.items ≡ []
  pub blocks : lists_of b.blocks.items ≡ replicate count []
  pub number : count ≡ precinct_number s.rect s.coding b.resolution
  pub bits : b.bits ≡ 0

pub first_holds : (s : ComponentFrame) (b : BandStrips) (area : Rect) (count : ℕ) → IsFirst s b area count → IsBetweenRows s b
first_holds s b area count is = (
  record {
    resolution = is.resolution;
    band = is.band;
    bounds = subst IsArea is.own is.bounds;
    left = ap (λ (a : Rect). a.x0) is.rows ∙ ap (λ (a : Rect). a.x0) is.own;
    right = ap (λ (a : Rect). a.x1) is.rows ∙ ap (λ (a : Rect). a.x1) is.own;
    upper = omega (arith, first, top);
    order = omega (arith, first, last);
    lower = (let bounds = is.bounds in let upper = bounds.upper in let end = ap (λ (a : Rect). a.y1) is.own in omega (arith, last, upper, end));
    start = λ less. (let low = cell_from b.area.y0 (2 ^ block_exponent s.coding b.resolution) in omega (arith, low, first, top));
    within = λ some. absurd (omega (arith, some, first, last));
    long = ap (λ (l : List ℤ). length l) is.strip ∙ (let rows : b.area.y1 - b.area.y0 ≡ 0 = omega (arith, first, last) in (let z : 0 ≡ 0 * columns_of b.area = omega arith in z) ∙ ap (λ n. n * columns_of b.area) (sym rows));
    few = (let e = is.bits in omega (arith, e));
    below = subst (All (λ v. unsigned_abs v < 2 ^ b.bits)) (sym is.strip) (All-nil (λ v. unsigned_abs v < 2 ^ b.bits));
    count = sym (length-map b.blocks.items (λ v. v.items)) ∙ ap (λ (l : List (List Layered)). length l) is.blocks ∙ length-replicate count [] ∙ is.number;
    planes = λ n. subst (All (λ (k : Layered). k.planes ≤ b.bits)) (sym (ap (λ (l : List (List Layered)). get_or l n []) is.blocks ∙ none_at count n)) (All-nil (λ (k : Layered). k.planes ≤ b.bits));
    waiting = subst (AreWaiting s b.resolution b.band b.bits b.top b.area.y0) (sym is.waiting) (is.top ∙ sym first);
  },
  λ some. absurd (omega (arith, some, first, last)),
)
  where
    first : b.area.y0 ≡ area.y0
    first = ap (λ (a : Rect). a.y0) is.rows

    last : b.area.y1 ≡ area.y0
    last = ap (λ (a : Rect). a.y1) is.rows

    top : area.y0 ≡ (own_band s b).y0
    top = ap (λ (a : Rect). a.y0) is.own

pub first_rows : (s : ComponentFrame) (f : ℕ → ℕ → ℕ → ℤ) (b : BandStrips) (area : Rect) (count : ℕ) → IsFirst s b area count → HasRowsOf s f b
first_rows s f b area count is =
    let first = ap (λ (a : Rect). a.y0) is.rows in
    let last = ap (λ (a : Rect). a.y1) is.rows in
    let top = ap (λ (a : Rect). a.y0) is.own in
    let g = f (band_number b.resolution b.band) in
    let rows = rows_between (own_band s b) (own_band s b).y0 b.area.y1 in
    record {
      blocks = λ n lt. ap (λ (l : List (List Layered)). get_or l n []) is.blocks ∙ none_at count n
          ∙ ap (λ m. map (layered_at s f b.resolution n b.band) (range_with_len 0 m)) (sym (none_above s.rect s.coding b.resolution n b.band b.top (is.top ∙ top)));
      waiting = subst (HaveValues g) (sym is.waiting) (All-nil (λ (w : WaitingRow). w.values.items ≡ raster w.area g));
      strip = is.strip ∙ sym (none_wait b.area g (omega (arith, first, last)));
      bits = is.bits ∙ sym (bits_none (raster rows g) (ap (λ (l : List ℤ). length l) (no_rows (own_band s b) (own_band s b).y0 b.area.y1 g (omega (arith, last, top)))));
    }

-- ---- row by row

-- the same sub-band
pub band_same : (s : ComponentFrame) (b cur : BandStrips) → cur.resolution ≡ b.resolution → cur.band ≡ b.band → own_band s cur ≡ own_band s b
band_same s b cur er ei = ap (λ r. band_at s r cur.band) er ∙ ap (band_at s b.resolution) ei

pub columns_own : (s : ComponentFrame) (b : BandStrips) → HoldsRows s b → columns_of b.area ≡ columns_of (own_band s b)
columns_own s b holds = let l = holds.left in let r = holds.right in omega (arith, l, r)

pub rows_given : (s : ComponentFrame) (b cur : BandStrips) (end : ℕ) (f : ℕ → ℕ → ℕ → ℤ) (rows : List ℤ) → cur.resolution ≡ b.resolution → cur.band ≡ b.band
    → rows ≡ raster (rows_between (own_band s b) cur.area.y1 end) (f (band_number b.resolution b.band)) → rows ≡ raster (rows_between (own_band s cur) cur.area.y1 end) (f (band_number cur.resolution cur.band))
rows_given s b cur end f rows er ei e =
    e ∙ ap (λ r. raster (rows_between (band_at s r b.band) cur.area.y1 end) (f (band_number r b.band))) (sym er) ∙ ap (λ i. raster (rows_between (band_at s cur.resolution i) cur.area.y1 end) (f (band_number cur.resolution i))) (sym ei)

-- the columns of its rows
pub columns_same : (s : ComponentFrame) (b cur : BandStrips) → HoldsRows s b → HoldsRows s cur → cur.resolution ≡ b.resolution → cur.band ≡ b.band → columns_of cur.area ≡ columns_of b.area
columns_same s b cur was is er ei =
    let same = band_same s b cur er ei in
    let left = ap (λ (a : Rect). a.x0) same in
    let right = ap (λ (a : Rect). a.x1) same in
    let l = was.left in let r = was.right in let ll = is.left in let rr = is.right in
    omega (arith, left, right, l, r, ll, rr)

-- some of the rows of a list that has so many lie in it
pub rows_inside : (from y end to w long : ℕ) → from ≤ y → y ≤ end → end ≤ to → long ≡ (to - from) * w → (y - from) * w + (end - y) * w ≤ long
rows_inside from y end to w long low order high is =
    let size : (y - from) + (end - y) ≡ end - from = omega (arith, low, order) in
    let some : (y - from) * w + (end - y) * w ≡ (end - from) * w = sym (parted (y - from) (end - y) w) ∙ ap (λ n. n * w) size in
    let whole : (end - from) * w ≤ (to - from) * w = mul-le-mul_right w (omega (arith, high)) in
    omega (arith, some, whole, is)

pub row_long : (w k n : ℕ) (rows : List ℤ) → k + w ≤ length rows → w ≡ n → length (take w (drop k rows)) ≡ n
row_long w k n rows fits e = length-take-le w (drop k rows) (rw length-drop (omega (arith, fits))) ∙ e

pub row_small : (m k n : ℕ) (rows : List ℤ) → All (λ v. unsigned_abs v < m) rows → All (λ v. unsigned_abs v < m) (take k (drop n rows))
row_small m k n rows all = All-take (λ v. unsigned_abs v < m) k (drop n rows) (All-drop (λ v. unsigned_abs v < m) n rows all)
