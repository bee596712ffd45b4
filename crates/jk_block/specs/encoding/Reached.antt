-- Which bits of a word are reached from earlier ones.
use Rattle.std.specs.Prelude.{ℕ, ◌-◌, Bool, ◌&&◌, ◌||◌, nat_le}

-- from the bit that is d lower
abbrev pub reaches : (ℕ → Bool) → (d m : ℕ) → Bool
reaches known_significant d m = nat_le d m && known_significant (m - d)

-- A later place of the word that touches a place is the next below it, or one of the three next to
-- that in the column to the right.
abbrev pub is_reached : (ℕ → Bool) → (m : ℕ) → Bool
is_reached known_significant m = ((reaches known_significant 1 m || reaches known_significant 7 m) || reaches known_significant 8 m) || reaches known_significant 9 m
