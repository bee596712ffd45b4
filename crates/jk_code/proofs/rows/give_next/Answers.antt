use Rattle.std.proofs.Common.{◌≡◌, ℕ, ◌+◌, ◌%◌, ◌<◌, ◌≤◌, ◌∙◌, ap, sym, subst, arith}
use Rattle.jk_math.specs.declared.rect.Rect.{Rect}
use Rattle.jk_marks.specs.declared.siz.Siz.{Siz}
use Rattle.jk_marks.specs.Siz.{tiles_across, tile_count}
use Rattle.jk_code.specs.Sources.{ImageSource, IsImageSource}
use Rattle.jk_code.specs.Rows.{WereTaken, picture_of, area_of_tile, IsInRow, IsRowWalk}
use Rattle.jk_code.specs.declared.row_walk.RowWalk.{RowWalk}
use Rattle.jk_code.proofs.TileRowing.{next_shown}
use Rattle.jk_code.proofs.WalkLaws.{fine_more, walk_behind}
use Rattle.jk_code.proofs.rows.give_next.Goals as goal

-- where the next row of tiles begins
next_is : (s t : ImageSource) (siz : Siz) (first new across : ℕ) → s ≡ t → siz ≡ s.headers.siz → across ≡ tiles_across siz → new ≡ first → new + across ≡ first + tiles_across t.headers.siz
next_is s t siz first new across same is count begins =
    let due = count ∙ ap tiles_across is ∙ ap (λ (x : ImageSource). tiles_across x.headers.siz) same in
    omega (arith, begins, due)

-- the rows that were given are the last of their row of tiles
last_is : (s : ImageSource) (w : RowWalk) → IsInRow s w → w.area.y1 ≤ w.end → w.end ≡ (area_of_tile s w.row.first).y1
last_is s w at none =
    let to = at.to.to in
    let last : w.end ≡ w.area.y1 = omega (arith, to, none) in
    last ∙ ap (λ (a : Rect). a.y1) at.area

pub walk_from-requires-clause-begins : goal.walk_from-requires-clause-begins
walk_from-requires-clause-begins g c =
    let s = c.args.coded.now in
    let first = c.args.walk.now.row.first in
    let is = subst IsImageSource c.coded.view_is c.coded.invariant in
    let next = next_is _ s c.siz.result.now first c.give_stripe.new.row.first c.tiles_across.result c.coded.view_is c.siz.ensures c.tiles_across.ensures.value c.in_ok-give_stripe.ensures.row.begins in
    subst (λ n. n % tiles_across s.headers.siz ≡ 0) (sym next) (next_shown s.headers.siz s.reduce first is.sound.siz c.requires.walk.begins c.requires.some).0

pub walk_from-requires-clause-fine : goal.walk_from-requires-clause-fine
walk_from-requires-clause-fine g c = λ t less.
    let s = c.args.coded.now in
    let first = c.args.walk.now.row.first in
    let next = next_is _ s c.siz.result.now first c.give_stripe.new.row.first c.tiles_across.result c.coded.view_is c.siz.ensures c.tiles_across.ensures.value c.in_ok-give_stripe.ensures.row.begins in
    let last = last_is s c.args.walk.now (c.requires.walk.inside c.requires.some) c.if-walk.false in
    fine_more s first (tiles_across s.headers.siz) c.requires.walk.fine (c.in_ok-give_stripe.ensures.fine last) t (omega (arith, less, next))

-- the walk stands where the rows that were given end
behind : (s : ImageSource) (v w : RowWalk) (first : ℕ) → IsImageSource s → IsRowWalk s v → v.row.first < tile_count s.headers.siz → v.area.y1 ≤ v.end → first ≡ v.row.first + tiles_across s.headers.siz → IsRowWalk s w → w.row.first ≡ first
    → (first < tile_count s.headers.siz → w.y ≡ (area_of_tile s first).y0) → w.y ≡ v.end
behind s v w first is at some none next new begins top =
    walk_behind s v.row.first w is at.begins some new (begins ∙ next) (subst (λ n. n < tile_count s.headers.siz → w.y ≡ (area_of_tile s n).y0) next top)
    ∙ sym (last_is s v (at.inside some) none)

pub returns-clause-down : goal.returns-clause-down
returns-clause-down g c =
    let s = c.args.coded.now in
    let v = c.args.walk.now in
    let is = subst IsImageSource c.coded.view_is c.coded.invariant in
    let next = next_is _ s c.siz.result.now v.row.first c.give_stripe.new.row.first c.tiles_across.result c.coded.view_is c.siz.ensures c.tiles_across.ensures.value c.in_ok-give_stripe.ensures.row.begins in
    let new = c.in_ok-walk.ensures in
    let same = behind s v c.in_ok-walk.field-0 (c.give_stripe.new.row.first + c.tiles_across.result) is c.requires.walk c.requires.some c.if-walk.false next new.walk new.first new.top in
    let order = (c.requires.walk.inside c.requires.some).order in
    omega (arith, same, order)

pub returns-clause-taken : goal.returns-clause-taken
returns-clause-taken g c =
    let s = c.args.coded.now in
    let v = c.args.walk.now in
    let is = subst IsImageSource c.coded.view_is c.coded.invariant in
    let next = next_is _ s c.siz.result.now v.row.first c.give_stripe.new.row.first c.tiles_across.result c.coded.view_is c.siz.ensures c.tiles_across.ensures.value c.in_ok-give_stripe.ensures.row.begins in
    let new = c.in_ok-walk.ensures in
    let same = behind s v c.in_ok-walk.field-0 (c.give_stripe.new.row.first + c.tiles_across.result) is c.requires.walk c.requires.some c.if-walk.false next new.walk new.first new.top in
    subst (λ z. WereTaken g.S.Rows.took (picture_of s) v.y z c.args.rows.now c.give_stripe.new.rows) (sym same) c.in_ok-give_stripe.ensures.taken
