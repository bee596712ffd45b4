use Rattle.jk_math.specs.Steps.{if_ok}
use Rattle.jk_pnm.proofs.WrittenLaws.{written_means, file_of}
use Rattle.jk_pnm.proofs.writing.file.Goals as goal

pub returns-clause-value : goal.returns-clause-value
returns-clause-value c =
    let shape = c.pixels_and_maxval-pixels.ensures in
    if_ok c.put_raster.result
    (λ v text. file_of c.args.image.now c.in_ok-head.head.items v.items c.pixels_and_maxval-pixels.result.1 c.pixels_and_maxval-pixels.result.0 c.in_ok-head.ensures.value shape.maxval shape.pixels text)
    c.put_raster.ensures.ok

pub returns-clause-means : goal.returns-clause-means
returns-clause-means c =
    if_ok c.put_raster.result (λ v text. written_means c.args.image.now v.items c.pixels_and_maxval-pixels.ensures.profile c.requires.written text) (returns-clause-value c)
