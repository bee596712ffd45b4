-- One block of each message more.
use Rattle.std.proofs.Common.{◌∙◌, ℕ, List, ap}
use Rattle.sha2.specs.Sha256.{compress, initial_hash_256}
use Rattle.jk_digest.specs.Schedules.{one_of}
use Rattle.jk_digest.specs.Lanes.{lane}
use Rattle.jk_digest.proofs.Absorbing.{before_any, one_more, blocks_at}
use Rattle.jk_digest.proofs.lanes.absorbed.Goals as goal

pub loop-n-init : goal.loop-n-init
loop-n-init c = (c.initial-hash.ensures.fours, λ k low. c.initial-hash.ensures.each k low ∙ before_any initial_hash_256 (one_of c.args.a.now c.args.b.now c.args.c.now c.args.d.now k))

pub loop-n-preserved : goal.loop-n-preserved
loop-n-preserved c = (
  c.compressed-hash.ensures.fours,
  λ k low.
      let n : ℕ = c.loop-n.n in
      c.compressed-hash.ensures.each (one_of c.block.result.now c.block-in-loop-n.result.now c.block-in-loop-n-2.result.now c.block-in-loop-n-3.result.now) c.schedules.ensures k low
      ∙ (λ i. compress (lane c.loop-n.hash k) (one_of (c.block.ensures.block i) (c.block-in-loop-n.ensures.block i) (c.block-in-loop-n-2.ensures.block i) (c.block-in-loop-n-3.ensures.block i) k))
      ∙ ap (λ (b : List ℕ). compress (lane c.loop-n.hash k) b) (blocks_at c.args.a.now c.args.b.now c.args.c.now c.args.d.now n k)
      ∙ one_more initial_hash_256 (one_of c.args.a.now c.args.b.now c.args.c.now c.args.d.now k) (lane c.loop-n.hash k) n (c.loop-n.invariant.1 k low),
)
