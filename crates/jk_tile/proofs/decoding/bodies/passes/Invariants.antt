use Rattle.std.proofs.Common.{◌≡◌, ◌-◌, ◌^◌, take, sum_by, min}
use Rattle.jk_tile.proofs.decoding.bodies.passes.Given as goal

abbrev pub invariant-loop-index : goal.invariant-loop-index
invariant-loop-index l = l.passes ≡ min (sum_by (λ b. b.part.passes) (take l.index l.bodies)) (2 ^ 64 - 1)
