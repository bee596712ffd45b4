use Rattle.std.proofs.Common.{ℕ, ◌≤◌, List, length, sym, ap, ◌∙◌, subst, arith}
use Rattle.std.proofs.lemmas.Result.{err_from_is_err_and}
use Rattle.jk_scan.specs.declared.shape.BlockShape.{BlockShape}
use Rattle.jk_scan.specs.Flags.{flag_at}
use Rattle.jk_block.specs.Ages.{AgesView, HasRoom}
use Rattle.jk_block.specs.Fields.{words_of}
use Rattle.jk_block.specs.Reading.{Progress, known_significant, times, blank, pass_at}
use Rattle.jk_block.specs.decoding.BlockStates.{draft_of, progress}
use Rattle.jk_block.proofs.decoding.Aging.{plane_before, aged_none, aged_noted, aged_passed}
use Rattle.jk_block.proofs.decoding.Freshness.{fresh_after, whole_after}
use Rattle.jk_block.proofs.decoding.Taking.{taken_none, taken_more, taken_fault, advanced_at}
use Rattle.jk_block.proofs.decoding.read_passes.Goals as goal

pub loop-n-init : goal.loop-n-init
loop-n-init c =
    let k = draft_of c.args.block_state.now in (
      taken_none (λ bytes s n z. pass_at bytes s c.args.planes n z) k c.args.decoder.now,
      aged_none k.shape k.magnitude (plane_before c.args.planes 0) _ _ _ _ c.requires.unaged.refined.1 c.requires.unaged.older.1 (λ x y. ap (λ (z : Progress). z.magnitude x y) c.requires.blank),
      c.requires.planes,
      record { refined = c.requires.unaged.refined.0; older = c.requires.unaged.older.0 },
    )

pub loop-n-preserved : goal.loop-n-preserved
loop-n-preserved c =
    let k = draft_of c.loop-n.block_state in
    let bytes = c.args.decoder.now.bytes in
    let a = c.loop-n.invariant.0.advanced blank.coder c.requires.stands in
    let is = ap (λ (s : BlockShape). times c.loop-n.n (pass_at bytes s c.args.planes) blank) c.loop-n.invariant.0.shape
    ∙ ap (λ (z : Progress). times c.loop-n.n (pass_at bytes c.args.block_state.now.shape c.args.planes) z) (sym c.requires.blank) ∙ a.is in
    let aged = aged_noted bytes k c.args.planes c.loop-n.n a.next c.loop-n.block_state.significant.now c.loop-n.ages.refined c.loop-n.ages.older c.note.new.ages.refined c.note.new.ages.older (omega arith) is c.loop-n.block_state.known_significant c.loop-n.invariant.1
    c.note.ensures.refined c.note.ensures.older (λ e. ap (λ (g : AgesView). g.refined) (c.note.ensures.kept e)) (λ e. ap (λ (g : AgesView). g.older) (c.note.ensures.kept e)) in
    let step = c.in_ok-read_pass.ensures.takes a.next a.stands in
    let more = ap (λ (bs : List ℕ). pass_at bs k.shape c.args.planes c.loop-n.n (progress k a.next)) (sym c.loop-n.invariant.0.bytes) ∙ step.is in (
      taken_more (λ bytes s n z. pass_at bytes s c.args.planes n z) c.loop-n.n (draft_of c.args.block_state.now) k (draft_of c.read_pass.new.block_state) c.args.decoder.now c.loop-n.decoder c.read_pass.new.decoder c.loop-n.invariant.0
          c.in_ok-read_pass.ensures.shape c.in_ok-read_pass.ensures.bytes c.in_ok-read_pass.ensures.takes,
      aged_passed bytes k (draft_of c.read_pass.new.block_state) c.args.planes c.loop-n.n a.next step.next c.note.new.ages.refined c.note.new.ages.older (omega arith) is more c.in_ok-read_pass.ensures.shape aged,
      c.loop-n.invariant.2 ∙ sym c.in_ok-read_pass.ensures.planes,
      subst (λ (s : BlockShape). HasRoom s c.note.new.ages) (sym c.in_ok-read_pass.ensures.shape) c.note.ensures.room,
    )

pub returns-in_err-read_pass-clause-takes : goal.returns-in_err-read_pass-clause-takes
returns-in_err-read_pass-clause-takes c =
    let p = err_from_is_err_and c.from_residual.result c.from_residual.ensures.1 in
    rw (p.1, p.2)
    (taken_fault (λ bytes s n z. pass_at bytes s c.args.planes n z) c.loop-n.n c.args.passes (draft_of c.args.block_state.now) (draft_of c.loop-n.block_state) c.args.decoder.now c.loop-n.decoder c.in_err-read_pass.field-0.0 (omega arith) c.loop-n.invariant.0
    c.in_err-read_pass.ensures.takes)

pub returns-clause-takes : goal.returns-clause-takes
returns-clause-takes c = λ coder st.
    advanced_at (λ n z. pass_at c.args.decoder.now.bytes c.args.block_state.now.shape c.args.planes n z) c.loop-n.n c.args.passes (draft_of c.args.block_state.now) (draft_of c.loop-n.block_state) c.loop-n.decoder coder (omega arith) (c.loop-n.invariant.0.advanced coder st)

pub read_pass-requires : goal.read_pass-requires
read_pass-requires c = record {
  planes = omega arith;
  few = omega arith;
  n = omega arith;
  room = subst (λ (ws : List ℕ). words_of c.loop-n.block_state.shape ≤ length ws) (sym c.refined.ensures) c.note.ensures.room.refined;
  fresh = λ kind.
      let k = draft_of c.loop-n.block_state in
      let bytes = c.args.decoder.now.bytes in
      let a = c.loop-n.invariant.0.advanced blank.coder c.requires.stands in
      let first = c.args.block_state.now in
      let begun_is = ap (λ (z : Progress). times c.loop-n.n (pass_at bytes first.shape c.args.planes) z) (sym c.requires.blank) ∙ a.is in
      let is = ap (λ (s : BlockShape). times c.loop-n.n (pass_at bytes s c.args.planes) blank) c.loop-n.invariant.0.shape ∙ begun_is in
      let aged = aged_noted bytes k c.args.planes c.loop-n.n a.next c.loop-n.block_state.significant.now c.loop-n.ages.refined c.loop-n.ages.older c.note.new.ages.refined c.note.new.ages.older (omega arith) is c.loop-n.block_state.known_significant c.loop-n.invariant.1
      c.note.ensures.refined c.note.ensures.older (λ e. ap (λ (g : AgesView). g.refined) (c.note.ensures.kept e)) (λ e. ap (λ (g : AgesView). g.older) (c.note.ensures.kept e)) in
      record {
        higher = λ x y is_significant unseen. fresh_after bytes first.shape c.args.planes c.loop-n.n (progress k a.next) (omega arith) kind begun_is x y
            (ap (λ (s : BlockShape). known_significant s (progress k a.next) x y) (sym c.loop-n.invariant.0.shape) ∙ is_significant) unseen;
        whole = λ x y i. whole_after bytes k.shape c.args.planes c.loop-n.n (progress k a.next) (omega arith) is x y i;
        older = λ x y i. ap (λ (ws : List ℕ). flag_at k.shape ws x y) c.refined.ensures ∙ aged.refined_is x y i;
      };
}
