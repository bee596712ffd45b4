use Rattle.std.proofs.Common.{ℕ, ◌<◌}
use Rattle.jk_packet.specs.Written.{IsTable, table_at}
use Rattle.vectors_packet.proofs.writing.are_band_tables.Given as goal

abbrev pub invariant-loop-table : goal.invariant-loop-table
invariant-loop-table l = (j : ℕ) → j < l.table-index → IsTable l.layers l.band.planes (table_at l.tables j)
