-- What a call that appends to a vector leaves, also where it fails: the old content stands in
-- front.
use Rattle.std.specs.Prelude.{◌≡◌, ℕ, List, ◌++◌}

pub record IsFront (old new : List ℕ) : Type 0 where
  pub more : List ℕ
  pub text : new ≡ old ++ more
