-- The rank of a stream's next packet, and that ranks ascend along a stream.
use Rattle.std.proofs.Common.{◌≡◌, ◌/◌, ◌%◌, ap, ◌∙◌}
use Rattle.std.proofs.lemmas.Nat.{div-mul-add, mod-mul-add}
use Rattle.jk_order.specs.declared.stream.Stream.{Stream}
use Rattle.jk_order.specs.declared.stream.PacketsFrame.{PacketsFrame}
use Rattle.jk_order.specs.Streams.{rank, rank_at, column_x, row_y, StandsInCell}

-- the column and the row that a stream keeps are those of its next precinct
pub placed_column : (s : Stream) → StandsInCell s → s.precinct % s.across ≡ s.column
placed_column s p = ap (λ n. n % s.across) p.row ∙ mod-mul-add s.row s.across s.column p.column

pub placed_row : (s : Stream) → StandsInCell s → s.precinct / s.across ≡ s.row
placed_row s p = ap (λ n. n / s.across) p.row ∙ div-mul-add s.row s.across s.column p.column

pub placed_rank : (f : PacketsFrame) (s : Stream) → StandsInCell s
    → rank f s s.layer s.precinct ≡ rank_at f.order s.layer s.resolution s.component s.precinct (column_x f s s.column) (row_y f s s.row)
unfolding rank
placed_rank f s p =
    ap (λ n. rank_at f.order s.layer s.resolution s.component s.precinct (column_x f s n) (row_y f s (s.precinct / s.across))) (placed_column s p)
    ∙ ap (λ n. rank_at f.order s.layer s.resolution s.component s.precinct (column_x f s s.column) (row_y f s n)) (placed_row s p)
