use Rattle.std.proofs.Common.{◌≡◌, ◌<◌, ◌≤◌, ℕ, ℤ, length, max}
use Rattle.std.specs.Prelude.{slice_index}
use Rattle.jk_tile.specs.encoding.Strips.{bands_in}
use Rattle.jk_tile.specs.encoding.FallingComponents.{HasMade, made_need}
use Rattle.jk_tile.proofs.encoding.measuring.raise_by_rows.Given as goal

-- raised by the sub-bands before
abbrev pub invariant-loop-b : goal.invariant-loop-b
invariant-loop-b l = record {
  done : (d e : ℕ) (f : ℕ → ℕ → ℕ → ℤ) → HasMade l.source d e f l.falling → (k : ℕ) → k < l.b → k < bands_in l.source → slice_index l.needs k ≡ max (slice_index l.fn.needs k) (made_need l.source d e f k);
  rest : (k : ℕ) → l.b ≤ k → slice_index l.needs k ≡ slice_index l.fn.needs k;
  long : length l.needs ≡ 16;
}
