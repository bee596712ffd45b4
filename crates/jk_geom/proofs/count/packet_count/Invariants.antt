use Rattle.std.proofs.Common.{◌≡◌, ◌-◌, ◌^◌, min, take}
use Rattle.std.specs.Prelude.{sum_by}
use Rattle.jk_marks.specs.declared.coding.Coding.{Coding}
use Rattle.jk_geom.proofs.Counts.{precincts_of}
use Rattle.jk_geom.proofs.count.packet_count.Given as goal

-- the precincts of the components before
abbrev pub invariant-loop-c : goal.invariant-loop-c
invariant-loop-c l = l.count ≡ min (sum_by (λ (k : Coding). precincts_of l.rect k) (take l.c l.codings)) (2 ^ 64 - 1)
