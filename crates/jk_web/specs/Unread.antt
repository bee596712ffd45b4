-- The bytes of a connection of which no request was made.
use Rattle.std.specs.Prelude.{ℕ, List, Option}

-- why no more requests are made: memory was refused, or a request was bad, with the status of its
-- reply
pub data Stuck : Type 0 where
  out_of_memory : Stuck
  bad : ℕ → Stuck

-- the bytes, and why no request will be made of them
pub record Unread : Type 0 where
  pub rest : List ℕ
  pub stuck : Option Stuck
