use Rattle.std.proofs.Common.{◌≡◌, sym, ap, ◌∙◌, subst, arith}
use Rattle.jk_scan.specs.Moments.{stripes}
use Rattle.jk_scan.specs.Passes.{joined, column_decisions}
use Rattle.jk_block.specs.Steps.{number_of}
use Rattle.jk_block.specs.encoding.Viewed.{seen, IsFlagged, moment_at}
use Rattle.jk_block.proofs.encoding.Listed.{joined_none, joined_more, pass_joined}
use Rattle.jk_block.proofs.encoding.Timing.{moment_first, moment_last}
use Rattle.jk_block.proofs.encoding.passes.write_pass.Goals as goal

pub loop-stripe-init : goal.loop-stripe-init
loop-stripe-init c =
    let v = c.args.block.now in
    let pass = number_of c.args.pass in
    (joined_none (λ i. joined v.shape.width (λ x. column_decisions v.shape (seen v) pass x i)) c.args.list.now, subst (λ t. IsFlagged v t c.args.flags.now) (sym (moment_first v.shape pass v.sized.wide)) c.requires.flagged)

pub loop-stripe-preserved : goal.loop-stripe-preserved
loop-stripe-preserved c =
    let v = c.args.block.now in
    let pass = number_of c.args.pass in (
      joined_more c.loop-stripe.stripe (λ i. joined v.shape.width (λ x. column_decisions v.shape (seen v) pass x i)) c.args.list.now c.loop-stripe.list c.write_stripe.new.list c.loop-stripe.invariant.0 c.in_ok-write_stripe.ensures.listed,
      c.in_ok-write_stripe.ensures.flagged,
    )

pub returns-clause-flagged : goal.returns-clause-flagged
returns-clause-flagged c =
    let v = c.args.block.now in
    let l = c.loop-stripe in
    let pass = number_of c.args.pass in
    let e : l.stripe ≡ stripes v.shape = omega arith in
    subst (λ t. IsFlagged v t l.flags) (ap (λ i. moment_at v.shape pass 0 i 0) e ∙ moment_last v.shape pass v.sized.wide) l.invariant.1

pub returns-clause-listed : goal.returns-clause-listed
returns-clause-listed c =
    let v = c.args.block.now in
    let l = c.loop-stripe in
    pass_joined v.shape (seen v) (number_of c.args.pass) l.stripe c.args.list.now l.list (omega arith) l.invariant.0
