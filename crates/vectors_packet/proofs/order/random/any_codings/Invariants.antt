use Rattle.std.proofs.Common.{◌≡◌, ℕ, ◌<◌, length}
use Rattle.jk_marks.specs.Coding.{IsCoding}
use Rattle.jk_geom.specs.TileShapes.{coding_of}
use Rattle.vectors_packet.proofs.order.random.any_codings.Given as goal

abbrev pub invariant-loop-component : goal.invariant-loop-component
invariant-loop-component l = (length l.codings ≡ l._component) × ((c : ℕ) → c < length l.codings → IsCoding (coding_of l.codings c))
