use Rattle.std.proofs.Common.{◌≡◌, ◌+◌, ◌-◌, length, map, max, take}
use Rattle.std.specs.List.{range_with_len}
use Rattle.std.specs.Prelude.{slice_index}
use Rattle.jk_tile.specs.encoding.Needs.{gain}
use Rattle.jk_tile.proofs.encoding.needs.exponents_with.Given as goal

-- those of the sub-bands before
abbrev pub invariant-loop-band : goal.invariant-loop-band
invariant-loop-band l = (length l.exponents ≡ 16) × (take l.band l.exponents ≡ map (λ b. max (l.depth + gain b) (slice_index l.needs b - 1)) (range_with_len 0 l.band))
