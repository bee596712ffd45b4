-- The reads of a connection.
use Rattle.std.specs.Prelude.{◌≡◌, ℕ, ◌*◌, ◌≤◌, ◌<◌, List, length, Result, Ok}
use Rattle.jk_math.specs.declared.fault.Fault.{Fault}
use Rattle.jk_web.specs.declared.serving.End.{End}
use Rattle.jk_web.specs.declared.serving.End.TheVariants.{ReadFailed, TurnsSpent}

-- the most bytes of a read
abbrev pub most_read : ℕ
most_read = 4096

-- A stream came by so many reads, each of which gave from 1 to 4,096 bytes, and they took so many
-- turns at most. A read that failed took one more. No turn is left where that has ended the
-- connection.
pub record IsReadIn (turns : ℕ) (stream : List ℕ) (result : Result End Fault) : Type 0 where
  pub reads : ℕ
  pub least : reads ≤ length stream
  pub most : length stream ≤ most_read * reads
  pub enough : reads ≤ turns
  pub failed : result ≡ Ok ReadFailed → reads < turns
  pub spent : result ≡ Ok TurnsSpent → reads ≡ turns
