use Rattle.std.proofs.Common.{◌≡◌, ℕ, ◌-◌, ◌^◌, ◌≤◌, ◌∙◌, ap, min, arith}
use Rattle.jk_math.specs.declared.rect.Rect.{Rect}
use Rattle.jk_marks.specs.Siz.{tile_count}
use Rattle.jk_geom.specs.Rectangles.{tile_area}
use Rattle.jk_geom.specs.Counts.{packet_number}
use Rattle.jk_params.proofs.LoopLaws.{cut_none, cut_more, cut_end}
use Rattle.jk_params.proofs.count.count_alike.Goals as goal

pub loop-t-init : goal.loop-t-init
loop-t-init c = cut_none (λ t. packet_number (tile_area c.args.siz.now t) c.args.layers c.args.codings.now) (2 ^ 64 - 1)

pub loop-t-preserved : goal.loop-t-preserved
loop-t-preserved c =
    let f : ℕ → ℕ = λ t. packet_number (tile_area c.args.siz.now t) c.args.layers c.args.codings.now in
    let m = 2 ^ 64 - 1 in
    let more : c.packet_count.result ≡ min (f c.loop-t.t) m = c.packet_count.ensures ∙ ap (λ (a : Rect). min (packet_number a c.args.layers c.args.codings.now) m) c.tile.ensures.value in
    c.saturating_add-count.ensures ∙ cut_more f c.loop-t.t m c.loop-t.count c.packet_count.result c.loop-t.invariant more

pub returns : goal.returns
returns c =
    let f : ℕ → ℕ = λ t. packet_number (tile_area c.args.siz.now t) c.args.layers c.args.codings.now in
    let n = tile_count c.args.siz.now in
    let le : c.loop-t.t ≤ n = omega (arith, c.loop-t.auto.t-end, c.tile_count-t-end.ensures) in
    let ge : n ≤ c.loop-t.t = omega (arith, c.loop-t-test.false, c.tile_count-t-end.ensures) in
    cut_end f n c.loop-t.t (2 ^ 64 - 1) c.loop-t.count le ge c.loop-t.invariant
