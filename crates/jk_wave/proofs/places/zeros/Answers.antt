use Rattle.std.proofs.Common.{arith}
use Rattle.jk_math.specs.Raster.{places_of}
use Rattle.jk_wave.proofs.PutRows.{zeros_are}
use Rattle.jk_wave.proofs.places.zeros.Goals as goal

pub returns-clause-zeros : goal.returns-clause-zeros
returns-clause-zeros c = zeros_are _ (places_of c.args.area.now) c.in_ok-vec.field-0.items (c.in_ok-vec.ensures.items_if_clones_equal (λ y e. e)) (omega arith)
