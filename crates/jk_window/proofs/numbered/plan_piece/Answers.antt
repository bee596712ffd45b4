use Rattle.std.proofs.lemmas.Result.{on_ok_weaker}
use Rattle.jk_window.specs.Planning.{tile_packet, tile_packet_size}
use Rattle.jk_window.specs.Numbered.{packets_in}
use Rattle.jk_window.proofs.NumberedPlans.{step_both}
use Rattle.jk_window.proofs.numbered.plan_piece.Goals as goal

pub returns-clause-ok : goal.returns-clause-ok
returns-clause-ok c =
    let t = c.args.tile.now in
    on_ok_weaker c.plan_kept.result
    (λ is. step_both c.args.plan.now c.plan_gap.new.plan c.plan_kept.new.plan (λ file v. tile_packet t file v) (tile_packet_size t) (packets_in t)
    c.args.at c.args.piece.start c.args.piece.end c.requires.first c.requires.order c.in_ok-plan_gap.ensures.ok is)
    c.plan_kept.ensures.ok
