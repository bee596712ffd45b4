use Rattle.std.proofs.Common.{◌≡◌, ℕ, ◌-◌, ◌^◌, ◌≤◌, List, ◌∙◌, ap, min, arith}
use Rattle.jk_math.specs.declared.rect.Rect.{Rect}
use Rattle.jk_marks.specs.declared.segments.Cod.{Cod}
use Rattle.jk_marks.specs.declared.coding.Coding.{Coding}
use Rattle.jk_marks.specs.Siz.{tile_count}
use Rattle.jk_geom.specs.Rectangles.{tile_area}
use Rattle.jk_geom.specs.Counts.{packet_number}
use Rattle.jk_params.specs.Headers.{tile_in}
use Rattle.jk_params.proofs.LoopLaws.{cut_none, cut_more, cut_end}
use Rattle.jk_params.proofs.count.count_own.Goals as goal

pub loop-t-init : goal.loop-t-init
loop-t-init c = cut_none (λ t. packet_number (tile_area c.args.siz.now t) (tile_in c.args.tiles.now t).cod.layers (tile_in c.args.tiles.now t).codings) (2 ^ 64 - 1)

pub loop-t-preserved : goal.loop-t-preserved
loop-t-preserved c =
    let f : ℕ → ℕ = λ t. packet_number (tile_area c.args.siz.now t) (tile_in c.args.tiles.now t).cod.layers (tile_in c.args.tiles.now t).codings in
    let m = 2 ^ 64 - 1 in
    let more : c.packet_count-packets.result ≡ min (f c.loop-t.t) m =
    c.packet_count-packets.ensures ∙ ap (λ (a : Rect). min (packet_number a c.cod.result.now.layers c.codings.result.now) m) c.tile.ensures.value
    ∙ ap (λ (k : Cod). min (packet_number (tile_area c.args.siz.now c.loop-t.t) k.layers c.codings.result.now) m) c.cod.ensures
    ∙ ap (λ (ks : List Coding). min (packet_number (tile_area c.args.siz.now c.loop-t.t) (tile_in c.args.tiles.now c.loop-t.t).cod.layers ks) m) c.codings.ensures in
    c.saturating_add-count.ensures ∙ cut_more f c.loop-t.t m c.loop-t.count c.packet_count-packets.result c.loop-t.invariant more

pub returns : goal.returns
returns c =
    let f : ℕ → ℕ = λ t. packet_number (tile_area c.args.siz.now t) (tile_in c.args.tiles.now t).cod.layers (tile_in c.args.tiles.now t).codings in
    let n = tile_count c.args.siz.now in
    let le : c.loop-t.t ≤ n = omega (arith, c.loop-t.auto.t-end, c.tile_count-t-end.ensures) in
    let ge : n ≤ c.loop-t.t = omega (arith, c.loop-t-test.false, c.tile_count-t-end.ensures) in
    cut_end f n c.loop-t.t (2 ^ 64 - 1) c.loop-t.count le ge c.loop-t.invariant
