use Rattle.std.proofs.Common.{ℕ, ◌-◌, ◌*◌, ◌^◌, ◌%◌, ◌∙◌, sym, ap, subst, arith}
use Rattle.std.specs.Int.RustNames.{bit_or, bit_and}
use Rattle.std.specs.Int.{trailing_zeros, w64}
use Rattle.std.proofs.lemmas.Result.{err_from_is_err_and}
use Rattle.jk_block.specs.decoding.Sights.{seen_in}
use Rattle.jk_scan.specs.declared.shape.BlockShape.{BlockShape}
use Rattle.jk_scan.specs.Words.{bordered}
use Rattle.jk_scan.specs.WordPlaces.{column, row}
use Rattle.jk_scan.specs.Flags.{flag_at}
use Rattle.jk_scan.proofs.Laws.{sooner_zero, bit_is}
use Rattle.jk_block.specs.Steps.{word_pass}
use Rattle.jk_block.specs.decoding.BlockStates.{Draft, Advanced, IsFresh, draft_of}
use Rattle.jk_block.proofs.decoding.Aging.{next_context}
use Rattle.jk_block.proofs.decoding.ReadSoFar.{going_fault, going_all}
use Rattle.jk_block.proofs.decoding.Refining.{Refining, refining_none, refining_idle, refining_next, refining_one, refining_all, refined_all, may_refine}
use Rattle.jk_block.proofs.decoding.words.read_refinement.Goals as goal

pub returns-then-places-eq0-clause-takes : goal.returns-then-places-eq0-clause-takes
returns-then-places-eq0-clause-takes c =
    let k = draft_of c.args.block_state.now in
    let v = c.args.decoder.now in
    going_all 1 c.args.spot k k v v (refining_idle c.args.spot k v c.older-places.result c.older-places.ensures (omega arith))

pub loop-candidates-init : goal.loop-candidates-init
loop-candidates-init c =
    let k = c.args.block_state.now in
    let at = c.args.spot in
    let around = c.significant_around-significant.ensures in
    refining_none at c.args.refined.now (draft_of k) c.args.decoder.now c.touched_places-touched.result c.older-places.result c.requires.fresh
    (c.touched_places-touched.ensures (bordered (seen_in (draft_of k) at.stripe)) at.word at.stripe around) c.older-places.ensures

pub returns-in_err-bit-clause-takes : goal.returns-in_err-bit-clause-takes
returns-in_err-bit-clause-takes c =
    let p = err_from_is_err_and c.from_residual.result c.from_residual.ensures.1 in
    let l = c.loop-candidates in
    let k = draft_of c.args.block_state.now in
    let at = c.args.spot in
    let v = c.args.decoder.now in
    let z = trailing_zeros w64 l.candidates in
    let d = l.invariant.draft in
    let seen = c.touched_places-touched.result in
    let again = c.refined_places-again.result in
    let next = refining_next at c.args.refined.now k v l.decoder seen c.older-places.result l.candidates l.ones l.invariant (omega arith) (omega arith) in
    let context = next_context at c.args.refined.now d again seen z c.refine_context-context.result _ _ l.invariant.fresh next.place
    (c.refined_places-again.ensures z next.place.within next.place.on_row ∙ ap (λ (s : BlockShape). flag_at s c.args.refined.now (column at.word z) (row at.stripe z)) (sym l.invariant.going.shape))
    (l.invariant.near z next.place.within next.place.on_row) (bit_is again z) (bit_is seen z) c.refine_context-context.ensures.value in
    rw (p.1, p.2) (going_fault 1 at z k d v l.decoder c.in_err-bit.field-0.0 next.going next.place
    (c.in_err-bit.ensures.takes at d (column at.word z) (row at.stripe z) next.known_significant next.uncoded context))

pub loop-candidates-smaller : goal.loop-candidates-smaller
loop-candidates-smaller c = sooner_zero c.loop-candidates.candidates (omega arith) (omega arith)

pub loop-candidates-preserved : goal.loop-candidates-preserved
loop-candidates-preserved c =
    let l = c.loop-candidates in
    let k = draft_of c.args.block_state.now in
    let at = c.args.spot in
    let v = c.args.decoder.now in
    let z = trailing_zeros w64 l.candidates in
    let d = l.invariant.draft in
    let seen = c.touched_places-touched.result in
    let again = c.refined_places-again.result in
    let next = refining_next at c.args.refined.now k v l.decoder seen c.older-places.result l.candidates l.ones l.invariant (omega arith) (omega arith) in
    let context = next_context at c.args.refined.now d again seen z c.refine_context-context.result _ _ l.invariant.fresh next.place
    (c.refined_places-again.ensures z next.place.within next.place.on_row ∙ ap (λ (s : BlockShape). flag_at s c.args.refined.now (column at.word z) (row at.stripe z)) (sym l.invariant.going.shape))
    (l.invariant.near z next.place.within next.place.on_row) (bit_is again z) (bit_is seen z) c.refine_context-context.ensures.value in
    subst (λ (one : ℕ). Refining at c.args.refined.now k v c.read_refined.new.decoder seen c.older-places.result (bit_and l.candidates (l.candidates - 1)) (bit_or l.ones (one * 2 ^ z % 2 ^ 64))) (sym c.digit.ensures)
    (refining_one at c.args.refined.now k v l.decoder c.read_refined.new.decoder seen c.older-places.result l.candidates l.ones c.in_ok-bit.bit c.in_ok-bit.bit l.invariant (omega arith) (omega arith) (omega arith) (omega arith)
    (c.in_ok-bit.ensures.takes at d (column at.word z) (row at.stripe z) next.known_significant next.uncoded context) c.in_ok-bit.ensures.bytes)

pub returns-clause-fresh : goal.returns-clause-fresh
returns-clause-fresh c =
    let l = c.loop-candidates in
    let at = c.args.spot in
    let behind = refined_all at c.args.refined.now (draft_of c.args.block_state.now) c.args.decoder.now l.decoder c.touched_places-touched.result c.older-places.result l.candidates l.ones l.invariant (omega arith) in
    subst (λ (d : Draft). IsFresh at.plane c.args.refined.now d) (behind ∙ sym c.refine_all.ensures.refined) l.invariant.fresh

pub returns-clause-takes : goal.returns-clause-takes
returns-clause-takes c = λ coder st.
    let l = c.loop-candidates in
    let k = draft_of c.args.block_state.now in
    let at = c.args.spot in
    let v = c.args.decoder.now in
    let seen = c.touched_places-touched.result in
    let behind = refined_all at c.args.refined.now k v l.decoder seen c.older-places.result l.candidates l.ones l.invariant (omega arith) in
    subst (λ (n : Draft). Advanced (word_pass v.bytes k.shape at.plane 1 at.word at.stripe) k n l.decoder coder) (behind ∙ sym c.refine_all.ensures.refined)
    (going_all 1 at k l.invariant.draft v l.decoder (refining_all at c.args.refined.now k v l.decoder seen c.older-places.result l.candidates l.ones l.invariant (omega arith)) coder st)

pub refine_all-requires : goal.refine_all-requires
refine_all-requires c = record {
  spot = c.requires.spot;
  plane = c.requires.plane;
  refined = may_refine c.args.spot c.args.refined.now (draft_of c.args.block_state.now) c.older-places.result c.loop-candidates.ones c.requires.fresh c.older-places.ensures c.loop-candidates.invariant.bits.only;
}
