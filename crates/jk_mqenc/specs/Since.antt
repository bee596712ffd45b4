-- What the encoder remembers of an earlier interval.
use Rattle.std.specs.Prelude.{◌≡◌, ℕ, ◌+◌, ◌*◌, ◌^◌, ◌≤◌, ◌-◌, List, [], length, drop}
use Rattle.jk_model.specs.Code.{code_value}
use Rattle.jk_model.specs.Decisions.{State}
use Rattle.jk_model.specs.Placed.{end, onto}
use Rattle.jk_mqenc.specs.Machine.{Machine}

-- The interval of s lies within that of t, and once the placed bytes decide the code value at t, it
-- isn't below the low end of t.
pub record Since (t : State) (m : Machine) (s : State) : Type 0 where
  pub more : ℕ
  pub clock : s.doublings ≡ t.doublings + more
  pub low : t.low * 2 ^ more ≤ s.low
  pub high : s.low + s.width ≤ (t.low + t.width) * 2 ^ more
  pub kept : t.doublings + 15 ≤ end m.placed → 128 * t.low ≤ code_value (onto m.placed []) t.doublings

-- the first w placed bytes end at e
pub record EndsBytes (w e : ℕ) (bs : List ℕ) : Type 0 where
  pub enough : w ≤ length bs
  pub ends : end (drop (length bs - w) bs) ≡ e
