use Rattle.std.proofs.Common.{length, sym, subst}
use Rattle.jk_walk.proofs.Runs.{AreParts}
use Rattle.jk_walk.proofs.FoundLaws.{tile_parts}
use Rattle.jk_walk.proofs.read.read_tile.Goals as goal

pub read_kept-requires-clause-parts : goal.read_kept-requires-clause-parts
read_kept-requires-clause-parts g c =
    subst (AreParts (length c.args.bytes.now)) (sym c.data_places.ensures) (tile_parts c.args.bytes.now c.args.headers.now c.args.tile c.requires.sound c.requires.tile)
