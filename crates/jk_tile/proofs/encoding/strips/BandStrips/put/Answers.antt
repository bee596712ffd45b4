use Rattle.std.proofs.Common.{◌*◌, ◌-◌, ◌<◌, ◌≤◌, ℕ, ℤ, List, length, refl, sym, ap, ◌∙◌, arith}
use Rattle.jk_math.specs.Raster.{columns_of}
use Rattle.jk_walk.specs.TilePackets.{band_number}
use Rattle.jk_tile.specs.encoding.Strips.{own_band}
use Rattle.jk_tile.proofs.encoding.Waiting.{rows_of_rows, rows_given, rows_inside, columns_own, columns_same, row_long}
use Rattle.jk_tile.proofs.encoding.strips.BandStrips.put.Goals as goal

pub cut-part-requires : goal.cut-part-requires
cut-part-requires c =
    let now = c.loop-self.invariant in
    let more = c.row_end-end.ensures.more in
    rows_inside c.args.self.now.area.y1 c.loop-self.self.area.y1 c.row_end-end.result c.args.to (columns_of c.args.self.now.area) (length c.args.rows.now) now.from (omega (arith, more)) c.row_end-end.ensures.to c.requires.long

pub put_rows-requires-clause-long : goal.put_rows-requires-clause-long
put_rows-requires-clause-long c =
    let s = c.args.source.now in
    let b = c.args.self.now in
    let cur = c.loop-self.self in
    let end : ℕ = c.row_end-end.result in
    let now = c.loop-self.invariant in
    let more = c.row_end-end.ensures.more in
    let w = columns_of b.area in
    let fits = rows_inside b.area.y1 cur.area.y1 end c.args.to w (length c.args.rows.now) now.from (omega (arith, more)) c.row_end-end.ensures.to c.requires.long in
    ap (λ (l : List ℤ). length l) c.cut-part.ensures
    ∙ row_long ((end - cur.area.y1) * w) ((cur.area.y1 - b.area.y1) * w) ((end - cur.area.y1) * columns_of cur.area) c.args.rows.now fits
    (ap (λ n. (end - cur.area.y1) * n) (sym (columns_same s b cur c.requires.holds.0 now.holds.0 now.resolution now.band)))

pub loop-self-preserved : goal.loop-self-preserved
loop-self-preserved c =
    let s = c.args.source.now in
    let b = c.args.self.now in
    let cur = c.loop-self.self in
    let end : ℕ = c.row_end-end.result in
    let now = c.loop-self.invariant in
    let done = c.in_ok-put_rows.ensures in
    let more = c.row_end-end.ensures.more in
    let to = c.row_end-end.ensures.to in
    let next = done.name.2 in
    let from = now.from in
    let w = columns_of b.area in
    record {
      resolution = done.name.0 ∙ now.resolution;
      band = done.name.1 ∙ now.band;
      from = omega (arith, next, more, from);
      to = omega (arith, next, to);
      holds = done.holds;
      rows = λ f has rows. done.rows f (now.rows f has rows)
          (rows_given s b cur end f c.cut-part.result.now now.resolution now.band
          (c.cut-part.ensures
          ∙ rows_of_rows (own_band s b) b.area.y1 c.args.to cur.area.y1 end w ((end - cur.area.y1) * w) (f (band_number b.resolution b.band)) c.args.rows.now from (omega (arith, more)) to (columns_own s b c.requires.holds.0) refl rows));
    }
