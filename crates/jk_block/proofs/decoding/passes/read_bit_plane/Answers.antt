use Rattle.std.proofs.Common.{◌+◌, ◌/◌, ◌∙◌, refl, arith}
use Rattle.std.proofs.lemmas.Result.{err_from_is_err_and}
use Rattle.jk_block.specs.Reading.{stripe_at, plane_pass_at}
use Rattle.jk_block.specs.Steps.{number_of}
use Rattle.jk_block.specs.decoding.BlockStates.{draft_of}
use Rattle.jk_block.proofs.decoding.Taking.{taken_none, taken_more, taken_fault, advanced_at}
use Rattle.jk_block.proofs.decoding.passes.read_bit_plane.Goals as goal

pub loop-stripe-init : goal.loop-stripe-init
loop-stripe-init c = (taken_none (λ bytes s i z. stripe_at bytes s c.args.plane (number_of c.args.pass) i z) (draft_of c.args.block_state.now) c.args.decoder.now, c.requires.fresh, refl)

pub loop-stripe-preserved : goal.loop-stripe-preserved
loop-stripe-preserved c = (
  taken_more (λ bytes s i z. stripe_at bytes s c.args.plane (number_of c.args.pass) i z) c.loop-stripe.stripe (draft_of c.args.block_state.now) (draft_of c.loop-stripe.block_state) (draft_of c.read_stripe.new.block_state) c.args.decoder.now c.loop-stripe.decoder c.read_stripe.new.decoder c.loop-stripe.invariant.0
      c.in_ok-read_stripe.ensures.shape c.in_ok-read_stripe.ensures.bytes c.in_ok-read_stripe.ensures.takes,
  c.in_ok-read_stripe.ensures.fresh,
  c.in_ok-read_stripe.ensures.planes ∙ c.loop-stripe.invariant.2,
)

pub returns-in_err-read_stripe-clause-takes : goal.returns-in_err-read_stripe-clause-takes
unfolding plane_pass_at
returns-in_err-read_stripe-clause-takes c =
    let p = err_from_is_err_and c.from_residual.result c.from_residual.ensures.1 in
    rw (p.1, p.2)
    (taken_fault (λ bytes s i z. stripe_at bytes s c.args.plane (number_of c.args.pass) i z) c.loop-stripe.stripe ((c.args.block_state.now.shape.height + 3) / 4) (draft_of c.args.block_state.now) (draft_of c.loop-stripe.block_state) c.args.decoder.now c.loop-stripe.decoder c.in_err-read_stripe.field-0.0 (omega arith) c.loop-stripe.invariant.0
    c.in_err-read_stripe.ensures.takes)

pub returns-clause-takes : goal.returns-clause-takes
unfolding plane_pass_at
returns-clause-takes c = λ coder st.
    advanced_at (λ i z. stripe_at c.args.decoder.now.bytes c.args.block_state.now.shape c.args.plane (number_of c.args.pass) i z) c.loop-stripe.stripe ((c.args.block_state.now.shape.height + 3) / 4) (draft_of c.args.block_state.now) (draft_of c.loop-stripe.block_state) c.loop-stripe.decoder coder (omega arith) (c.loop-stripe.invariant.0.advanced coder st)
