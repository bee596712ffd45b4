use Rattle.jk_block.proofs.decoding.Taking.{refined_takes}
use Rattle.jk_block.proofs.decoding.places.read_refined.Goals as goal

pub returns-clause-takes : goal.returns-clause-takes
returns-clause-takes c = λ at d x y known_significant uncoded context.
    refined_takes at d x y c.args.decoder.now.bytes c.args.context c.args.decoder.now c.decode.new.self c.decode.result known_significant uncoded context c.decode.ensures.answer c.decode.ensures.next
