use Rattle.std.proofs.Common.{sym, ◌∙◌}
use Rattle.jk_walk.specs.WalkReading.{packets_at}
use Rattle.jk_walk.proofs.SpanLaws.{read_same}
use Rattle.jk_walk.proofs.EntryLaws.{places_few}
use Rattle.jk_walk.proofs.read.tile_packets.Goals as goal

pub new-requires : goal.new-requires
new-requires c =
    places_few c.args.bytes.now c.args.headers.now c.args.tile c.in_ok-places.places.items c.requires.sound c.requires.tile
    (sym (read_same (packets_at c.args.bytes.now c.args.headers.now c.args.tile)) ∙ c.in_ok-places.ensures)
