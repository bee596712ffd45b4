-- How many binary digits a number has.
use Rattle.std.specs.Prelude.{ℕ, zero, suc, ◌+◌, ◌/◌, ◌==◌, if◌then◌else◌}

-- how many binary digits a number has, if they are not more than k
unfoldable pub digits : (k m : ℕ) → ℕ
digits zero m = 0
digits (suc k) m = if m == 0 then 0 else 1 + digits k (m / 2)

-- how many binary digits a number has; 0 has none
unfoldable pub bit_length : ℕ → ℕ
bit_length m = digits m m
