-- The numbers of a header by themselves.
use Rattle.std.specs.Prelude.{ℕ, List, Result, Ok}
use Rattle.jk_math.specs.Answer.{◌>>=◌}
use Rattle.jk_math.specs.declared.fault.Fault.{Fault}
use Rattle.jk_pnm.specs.Reading.{field_at}

-- width, height and maxval, and what follows
unfoldable pub fields_at : List ℕ → Result ((ℕ × ℕ × ℕ) × List ℕ) Fault
fields_at bytes = do
  width ← field_at bytes
  height ← field_at width.1
  maxval ← field_at height.1
  Ok ((width.0, height.0, maxval.0), maxval.1)
