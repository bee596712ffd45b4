use Rattle.std.proofs.Common.{◌≡◌, subst, arith}
use Rattle.jk_window.specs.PartEnds.{numbered}
use Rattle.jk_window.specs.Planning.{IsRunPlan}
use Rattle.jk_window.specs.Numbered.{packets_in}
use Rattle.jk_window.proofs.Passing.{past_later, gap_wanted, kept_wanted}
use Rattle.jk_window.proofs.NumberedPlans.{run_starts, run_goes}
use Rattle.jk_window.proofs.numbered.plan_numbers.Goals as goal

pub loop-at-init : goal.loop-at-init
loop-at-init c = record {
  order = omega arith;
  within = c.requires.order;
  next = c.requires.next;
  before = c.requires.before;
  run = run_starts c.args.size c.args.tile.now c.args.part.0 c.new-plan.result c.new-plan.ensures;
}

pub plan_piece-requires-clause-none : goal.plan_piece-requires-clause-none
plan_piece-requires-clause-none c = gap_wanted c.args.tile.now c.args.intervals.now c.loop-at.at c.args.part.1 c.piece_at-piece.result c.requires.wanted c.piece_at-piece.ensures

pub plan_piece-requires-clause-all : goal.plan_piece-requires-clause-all
plan_piece-requires-clause-all c = kept_wanted c.args.tile.now c.args.intervals.now c.loop-at.at c.args.part.1 c.piece_at-piece.result c.requires.wanted c.piece_at-piece.ensures

pub loop-at-preserved : goal.loop-at-preserved
loop-at-preserved c =
    let piece = c.piece_at-piece.ensures in
    let from = piece.start in
    let to = piece.order in
    let before = c.loop-at.invariant in
    let order = before.order in
    record {
      order = omega (arith, order, from, to);
      within = piece.end;
      next = c.first_past-i.ensures.within;
      before = past_later c.args.intervals.now c.first_past-i.result c.loop-at.at c.piece_at-piece.result.end c.first_past-i.ensures.before (omega (arith, from, to));
      run = run_goes c.args.size c.args.tile.now c.args.part.0 c.loop-at.at c.piece_at-piece.result.end c.loop-at.plan c.plan_piece.new.plan order (omega (arith, from, to)) before.run c.in_ok-plan_piece.ensures.ok;
    }

pub returns-clause-plan : goal.returns-clause-plan
returns-clause-plan c =
    let within = c.loop-at.invariant.within in
    let past = c.loop-at-test.false in
    let over : c.loop-at.at ≡ c.args.part.1 = omega (arith, within, past) in
    subst (λ k. IsRunPlan c.args.size c.args.tile.now (numbered (packets_in c.args.tile.now) c.args.part.0 k) c.loop-at.plan) over c.loop-at.invariant.run

pub returns-clause-before : goal.returns-clause-before
returns-clause-before c = past_later c.args.intervals.now c.loop-at.i c.loop-at.at c.args.part.1 c.loop-at.invariant.before c.loop-at.invariant.within
