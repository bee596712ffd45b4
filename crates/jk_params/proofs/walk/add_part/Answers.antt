use Rattle.std.proofs.Common.{◌≡◌, Ok, sym, arith}
use Rattle.jk_params.specs.CodingReading.{codings_at}
use Rattle.jk_params.proofs.StepLaws.{first_part}
use Rattle.jk_params.proofs.walk.add_part.Goals as goal

pub returns : goal.returns
returns c =
    let part = c.args.part.now in
    let ks = c.in_ok-codings.codings in
    let read : codings_at c.args.main.now part.head ≡ Ok ks = sym c.in_ok-codings.ensures in
    first_part c.args.main.now c.args.at part c.args.tiles.now c.set_coding.new.self c.add_place-2.new.self c.cod_of.result ks c.add_place-2.result
    (omega (arith, c.if-part-ne0.false)) read c.cod_of.ensures c.requires.tile c.in_ok-set_coding.ensures.ok c.add_place-2.ensures.ok c.add_place-2.ensures.err
