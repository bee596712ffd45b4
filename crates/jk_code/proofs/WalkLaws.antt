-- A walk down the rows of an image.
use Rattle.std.proofs.Common.{◌≡◌, ℕ, ◌+◌, ◌-◌, ◌*◌, ◌%◌, ◌^◌, ◌<◌, ◌≤◌, inl, inr, length, sym, ap, subst, ◌∙◌, arith}
use Rattle.std.proofs.lemmas.Bool.{cases_lt}
use Rattle.jk_math.specs.declared.rect.Rect.{Rect}
use Rattle.jk_marks.specs.Siz.{tiles_across, tile_count}
use Rattle.jk_tile.specs.decoding.TileReading.{tested, tile_planes_at}
use Rattle.jk_tile.proofs.Laws.{fine, each_only}
use Rattle.jk_rows.specs.Components.{IsStepEnd}
use Rattle.jk_code.specs.MeaningReading.{places_at, tiles_tested}
use Rattle.jk_code.specs.Sources.{ImageSource, IsImageSource}
use Rattle.jk_code.specs.Rows.{area_of_tile, IsFineTile, IsInRow, IsRowWalk, IsTileRow, rows_left}
use Rattle.jk_code.specs.declared.row_walk.RowWalk.{RowWalk}
use Rattle.jk_code.specs.declared.rows.TileRow.{TileRow}
use Rattle.jk_code.proofs.TileRowing.{some_across, first_shown, next_shown, last_shown}
use Rattle.jk_code.proofs.RowLaws.{reached_first, tile_tests}

-- how many tiles there are, as they are counted
pub count_is : (s t : ImageSource) (n : ℕ) → s ≡ t → IsImageSource s → n ≡ length s.headers.tiles → n ≡ tile_count t.headers.siz
count_is s t n same is e = e ∙ is.sound.tiles ∙ ap (λ (x : ImageSource). tile_count x.headers.siz) same

-- the end of the rows of a step, by what its call tells
pub step_is : (a : Rect) (end to : ℕ) → a.y0 ≤ end → end ≤ to → to ≤ a.y1 → (to < a.y1 → to % 2 ≡ 1) → (to < a.y1 → to + 1 < a.y1) → IsStepEnd a to
step_is a end to first more last odd inside = record { from = omega (arith, first, more); to = last; odd = λ behind short. odd short; inside = λ behind short. inside short }

-- it begins with the first row
pub walk_top : (s : ImageSource) (y : ℕ) → IsImageSource s → (0 < tile_count s.headers.siz → y ≡ (area_of_tile s 0).y0) → y ≡ s.area.y0
walk_top s y is top =
    let some = (first_shown s.headers.siz s.reduce is.sound.siz).2 in
    top some ∙ sym ((reached_first s is).at some)

-- behind the last row no code-block has a fault
pub walk_tested : (s : ImageSource) (w : RowWalk) → IsImageSource s → IsRowWalk s w → tile_count s.headers.siz ≤ w.row.first → tiles_tested s.bytes s.headers s.reduce (tile_count s.headers.siz) ≡ fine
walk_tested s w is at done =
    each_only (tile_count s.headers.siz) (λ t. tested (tile_planes_at s.bytes s.headers t s.reduce (places_at s.bytes s.headers t)))
    (λ t lt. tile_tests s t is lt ∙ at.fine t (omega (arith, lt, done)))

-- the next rows of the same row of tiles
pub walk_on : (s : ImageSource) (w : RowWalk) (row : TileRow) (next : ℕ) → IsRowWalk s w → IsInRow s w → IsTileRow s w.row.first (tiles_across s.headers.siz) w.end row → w.row.first < tile_count s.headers.siz → w.end < w.area.y1
    → w.end < next → next ≤ w.area.y1 → (next < w.area.y1 → next % 2 ≡ 1) → (next < w.area.y1 → next + 1 < w.area.y1) → IsRowWalk s (record { row = row; area = w.area; y = w.end; end = next; step = w.step })
walk_on s w row next at in_row is some short more last odd inside =
    let begins = is.begins in
    let from = in_row.from.from in let order = in_row.order in
    record {
      step = at.step;
      high = at.high;
      begins = subst (λ n. n % tiles_across s.headers.siz ≡ 0) (sym begins) at.begins;
      few = subst (λ n. n ≤ tile_count s.headers.siz) (sym begins) at.few;
      fine = subst (λ n. (t : ℕ) → t < n → IsFineTile s t) (sym begins) at.fine;
      inside = λ lt. record {
        row = subst (λ n. IsTileRow s n (tiles_across s.headers.siz) w.end row) (sym begins) is;
        area = in_row.area ∙ ap (area_of_tile s) (sym begins);
        from = in_row.to;
        to = step_is w.area w.end next (omega (arith, from, order)) (omega (arith, more)) last odd inside;
        order = omega (arith, more);
        more = λ less. more;
      };
      end = λ none. absurd (omega (arith, none, begins, some));
    }

pub left_on : (s : ImageSource) (w : RowWalk) (row : TileRow) (next : ℕ) → row.first ≡ w.row.first → IsInRow s w → w.end < w.area.y1 → rows_left s (record { row = row; area = w.area; y = w.end; end = next; step = w.step }) < rows_left s w
left_on s w row next same at short =
    let left = tile_count s.headers.siz - w.row.first in
    let first : tile_count s.headers.siz - row.first ≡ left = ap (λ n. tile_count s.headers.siz - n) same in
    let order = at.order in
    let more = at.more (omega (arith, order, short)) in
    subst (λ n. n * 2 ^ 31 + (w.area.y1 - w.end) < left * 2 ^ 31 + (w.area.y1 - w.y)) (sym first) (omega (arith, more, short))

-- the next row of tiles, of which the one before is fine
pub fine_more : (s : ImageSource) (first across : ℕ) → ((t : ℕ) → t < first → IsFineTile s t) → ((k : ℕ) → k < across → IsFineTile s (first + k)) → (t : ℕ) → t < first + across → IsFineTile s t
fine_more s first across before here t less = elim (cases_lt t first) [
  | inl lt ↦ before t lt
  | inr behind ↦
      let k : ℕ = t - first in
      let sum : first + k ≡ t = omega (arith, behind) in
      subst (IsFineTile s) sum (here k (omega (arith, less, behind)))
]

pub walk_behind : (s : ImageSource) (first : ℕ) (w : RowWalk) → IsImageSource s → first % tiles_across s.headers.siz ≡ 0 → first < tile_count s.headers.siz → IsRowWalk s w → w.row.first ≡ first + tiles_across s.headers.siz
    → (first + tiles_across s.headers.siz < tile_count s.headers.siz → w.y ≡ (area_of_tile s (first + tiles_across s.headers.siz)).y0) → w.y ≡ (area_of_tile s first).y1
walk_behind s first w is begins lt at same top =
    let siz = s.headers.siz in
    elim (cases_lt (first + tiles_across siz) (tile_count siz)) [
      | inl more ↦ top more ∙ (next_shown siz s.reduce first is.sound.siz begins lt).1 more
      | inr none ↦ at.end (omega (arith, none, same)) ∙ ap (λ (a : Rect). a.y1) is.place ∙ sym (last_shown siz s.reduce first is.sound.siz begins lt none)
    ]

pub left_behind : (s : ImageSource) (v w : RowWalk) → IsImageSource s → v.row.first < tile_count s.headers.siz → IsRowWalk s w → w.row.first ≡ v.row.first + tiles_across s.headers.siz → w.row.first ≤ tile_count s.headers.siz → rows_left s w < rows_left s v
left_behind s v w is lt at same few =
    let some = some_across s.headers.siz is.sound.siz in
    let high = at.high in
    let less : (tile_count s.headers.siz - w.row.first) + 1 ≤ tile_count s.headers.siz - v.row.first = omega (arith, some, same, few, lt) in
    by (tile_count s.headers.siz - w.row.first) (tile_count s.headers.siz - v.row.first) (w.area.y1 - w.y) (v.area.y1 - v.y) less (omega (arith, high))
  where
    by : (m n a b : ℕ) → m + 1 ≤ n → a < 2 ^ 31 → m * 2 ^ 31 + a < n * 2 ^ 31 + b
    by m n a b less low = omega (arith, less, low)
