use Rattle.std.proofs.Common.{◌≡◌, ◌-◌, ◌≤◌, length}
use Rattle.jk_marks.specs.Siz.{tile_count}
use Rattle.jk_params.specs.HeadersReading.{parts_from, parts_seen}
use Rattle.jk_params.proofs.walk.read_parts.Given as goal

-- the parts that are left follow those that were read
abbrev pub invariant-loop : goal.invariant-loop
invariant-loop l =
    (parts_from (length l.bytes) l.main l.bytes l.fn.at l.fn.tiles ≡ parts_from (length l.bytes - l.counter) l.main l.bytes l.at l.tiles)
    × (l.at ≤ length l.bytes)
    × (length l.tiles ≡ tile_count l.main.siz)
    × (l.seen.items ≡ parts_seen l.tiles)
