use Rattle.std.proofs.Common.{◌++◌, ap, ◌∙◌, subst, arith}
use Rattle.jk_scan.specs.Passes.{joined}
use Rattle.jk_block.specs.Steps.{number_of}
use Rattle.jk_block.specs.encoding.Viewed.{seen, IsFlagged, word_decisions}
use Rattle.jk_block.proofs.encoding.Listed.{joined_none, joined_more}
use Rattle.jk_block.proofs.encoding.Remaining.{stripe_listed}
use Rattle.jk_block.proofs.encoding.Timing.{moment_word, moment_stripe}
use Rattle.jk_block.proofs.encoding.passes.write_stripe.Goals as goal

pub loop-word-init : goal.loop-word-init
loop-word-init c =
    let v = c.args.block.now in
    (joined_none (λ j. word_decisions v.shape (seen v) (number_of c.args.pass) j c.args.stripe) c.args.list.now, c.requires.flagged)

pub loop-word-preserved : goal.loop-word-preserved
loop-word-preserved c =
    let v = c.args.block.now in
    let pass = number_of c.args.pass in (
      joined_more c.loop-word.word (λ j. word_decisions v.shape (seen v) pass j c.args.stripe) c.args.list.now c.loop-word.list c.write_word.new.list c.loop-word.invariant.0 c.in_ok-write_word.ensures.listed,
      subst (λ t. IsFlagged v t c.write_word.new.flags) (moment_word v.shape pass c.loop-word.word c.args.stripe) c.in_ok-write_word.ensures.flagged,
    )

pub returns-clause-flagged : goal.returns-clause-flagged
returns-clause-flagged c =
    let v = c.args.block.now in
    let l = c.loop-word in
    subst (λ t. IsFlagged v t l.flags) (moment_stripe v.shape (number_of c.args.pass) c.args.stripe l.word (omega arith) v.sized.wide) l.invariant.1

pub returns-clause-listed : goal.returns-clause-listed
returns-clause-listed c =
    let v = c.args.block.now in
    let l = c.loop-word in
    let pass = number_of c.args.pass in
    l.invariant.0 ∙ ap (λ n. c.args.list.now ++ joined n (λ j. word_decisions v.shape (seen v) pass j c.args.stripe)) (omega arith) ∙ ap (λ ds. c.args.list.now ++ ds) (stripe_listed v.shape (seen v) pass c.args.stripe)
