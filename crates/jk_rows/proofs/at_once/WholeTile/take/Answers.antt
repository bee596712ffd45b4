use Rattle.std.proofs.Common.{Result, Ok, Err, ℤ, ◌∙◌, sym}
use Rattle.std.specs.Prelude.{IfOk}
use Rattle.std.specs.Global.{Vec}
use Rattle.jk_math.specs.Answer.{Answers}
use Rattle.jk_math.specs.Lists.{lists_of}
use Rattle.jk_math.specs.declared.fault.Fault.{Fault}
use Rattle.jk_tile.specs.decoding.TileReading.{tile_planes_at}
use Rattle.jk_tile.specs.decoding.TileSources.{TileSource}
use Rattle.jk_rows.specs.Tiles.{AreTilePlanes}
use Rattle.jk_rows.proofs.AtOnceLaws.{tile_planes}
use Rattle.jk_rows.proofs.at_once.WholeTile.take.Goals as goal

given : (t : TileSource) (r : Result (Vec (Vec ℤ)) Fault) → Answers (λ v. lists_of v.items) r (tile_planes_at t.bytes t.headers t.number t.reduce t.packets) → IfOk r (λ v. AreTilePlanes t v.items)
given t (Ok v) a = tile_planes t v.items a
given t (Err e) a = tt

pub returns-in-Some-clause-planes : goal.returns-in-Some-clause-planes
returns-in-Some-clause-planes c = c.requires.held c.in-Some.planes (sym c.take.ensures.value ∙ c.in-Some.is)

pub returns-in-None-clause-planes : goal.returns-in-None-clause-planes
returns-in-None-clause-planes c = given c.args.coded.now c.decode_tile_of.result c.decode_tile_of.ensures.exact
