use Rattle.std.proofs.Common.{◌≡◌, ◌<◌, ◌≤◌, ℕ, get_or, length, max}
use Rattle.std.specs.Prelude.{slice_index}
use Rattle.jk_tile.specs.declared.encoding.fallen.FallenBand.{FallenBand}
use Rattle.jk_tile.proofs.encoding.fallen.FallenComponent.raise.Given as goal

-- raised by the sub-bands before
abbrev pub invariant-loop-b : goal.invariant-loop-b
invariant-loop-b l = record {
  done : (k : ℕ) (other : FallenBand) → k < l.b → slice_index l.needs k ≡ max (slice_index l.fn.needs k) (get_or l.self.bands.items k other).bits;
  rest : (k : ℕ) → l.b ≤ k → slice_index l.needs k ≡ slice_index l.fn.needs k;
  long : length l.needs ≡ 16;
}
