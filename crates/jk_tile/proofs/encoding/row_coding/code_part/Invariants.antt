use Rattle.std.proofs.Common.{◌≡◌, ◌++◌, map}
use Rattle.std.specs.List.{range_with_len}
use Rattle.jk_tile.specs.encoding.Ahead.{IsCodedAhead}
use Rattle.jk_tile.specs.encoding.Strips.{row_values, layered_at}
use Rattle.jk_tile.proofs.encoding.row_coding.code_part.Given as goal

-- those before code-block k of the row
abbrev pub invariant-loop-k : goal.invariant-loop-k
invariant-loop-k l = record {
  ahead : IsCodedAhead l.ahead;
  coded : l.coded.items ≡ l.fn.coded.items ++ map (layered_at l.source (row_values l.fn.strip) l.fn.strip.resolution l.part.precinct l.fn.strip.band) (range_with_len l.part.first l.k);
}
