use Rattle.std.proofs.Common.{◌≤◌, ◌-◌, All, length}
use Rattle.jk_tile.specs.decoding.Decoded.{IsJobOf}
use Rattle.jk_tile.proofs.decoding.decoded.jobs_of.Given as goal

-- the jobs of the code-blocks before this one
abbrev pub invariant-loop-first : goal.invariant-loop-first
invariant-loop-first l = record {
  jobs : All (IsJobOf l.bytes) l.jobs.items;
  few : l.first ≤ length l.segments;
}

abbrev pub decreases-loop-first : goal.decreases-loop-first
decreases-loop-first l = length l.segments - l.first
