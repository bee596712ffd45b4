-- What is counted of a table before it is written.
use Rattle.std.specs.Prelude.{◌≡◌, ℕ, ◌^◌, ◌<◌, ◌≤◌, [], length, sum_by}
use Rattle.jk_packet.specs.Written.{Table, part_in}

-- The parts of so many layers can be told; they have so many coding passes and so many bytes.
pub record HasSums (layers : ℕ) (t : Table) (passes size : ℕ) : Type 0 where
  pub few : (l : ℕ) → l < layers → (part_in t l).0 ≤ 164
  pub bare : (l : ℕ) → l < layers → (part_in t l).0 ≡ 0 → (part_in t l).1 ≡ []
  pub passes_are : passes ≡ sum_by (λ p. p.0) t.parts
  pub size_is : size ≡ sum_by (λ p. length p.1) t.parts
  pub small : size < 2 ^ 25
