use Rattle.std.proofs.Common.{refl, sym, ◌∙◌, arith}
use Rattle.std.proofs.lemmas.Result.{err_from_is_err_and}
use Rattle.jk_scan.specs.Flags.{across}
use Rattle.jk_block.specs.decoding.BlockStates.{draft_of, progress}
use Rattle.jk_block.specs.Steps.{word_pass, number_of}
use Rattle.jk_block.proofs.decoding.Stripes.{stripe_is}
use Rattle.jk_block.proofs.decoding.Taking.{taken_none, taken_more, taken_fault, advanced_at}
use Rattle.jk_block.proofs.decoding.passes.read_stripe.Goals as goal

pub loop-word-init : goal.loop-word-init
loop-word-init c = (taken_none (λ bytes s j z. word_pass bytes s c.args.plane (number_of c.args.pass) j c.args.stripe z) (draft_of c.args.block_state.now) c.args.decoder.now, c.requires.fresh, refl)

pub loop-word-preserved : goal.loop-word-preserved
loop-word-preserved c = (
  taken_more (λ bytes s j z. word_pass bytes s c.args.plane (number_of c.args.pass) j c.args.stripe z) c.loop-word.word (draft_of c.args.block_state.now) (draft_of c.loop-word.block_state) (draft_of c.read_word.new.block_state) c.args.decoder.now c.loop-word.decoder c.read_word.new.decoder c.loop-word.invariant.0
      c.in_ok-read_word.ensures.shape c.in_ok-read_word.ensures.bytes c.in_ok-read_word.ensures.takes,
  c.in_ok-read_word.ensures.fresh,
  c.in_ok-read_word.ensures.planes ∙ c.loop-word.invariant.2,
)

pub returns-in_err-read_word-clause-takes : goal.returns-in_err-read_word-clause-takes
returns-in_err-read_word-clause-takes c =
    let p = err_from_is_err_and c.from_residual.result c.from_residual.ensures.1 in
    let k = draft_of c.args.block_state.now in
    let v = c.args.decoder.now in
    let n = number_of c.args.pass in
    rw (p.1, p.2)
    (λ coder st. sym (stripe_is v.bytes k.shape c.args.plane n c.args.stripe (progress k coder))
    ∙ taken_fault (λ bytes s j z. word_pass bytes s c.args.plane n j c.args.stripe z) c.loop-word.word (across k.shape) k (draft_of c.loop-word.block_state) v c.loop-word.decoder c.in_err-read_word.field-0.0 (omega arith) c.loop-word.invariant.0
    c.in_err-read_word.ensures.takes coder st)

pub returns-clause-takes : goal.returns-clause-takes
returns-clause-takes c = λ coder st.
    let k = draft_of c.args.block_state.now in
    let v = c.args.decoder.now in
    let n = number_of c.args.pass in
    let a = advanced_at (λ j z. word_pass v.bytes k.shape c.args.plane n j c.args.stripe z) c.loop-word.word (across k.shape) k (draft_of c.loop-word.block_state) c.loop-word.decoder coder (omega arith) (c.loop-word.invariant.0.advanced coder st) in
    record { next = a.next; stands = a.stands; is = sym (stripe_is v.bytes k.shape c.args.plane n c.args.stripe (progress k coder)) ∙ a.is }
