-- The rest, the first byte of the padding, zeros and the length.
use Rattle.std.proofs.Common.{◌∙◌, refl}
use Rattle.jk_digest.proofs.Ending.{padded_is}
use Rattle.jk_digest.proofs.message.padded.Goals as goal

pub returns : goal.returns
returns c = rw (c.copy_from_slice.ensures.after) (padded_is c.args.rest.now _ c.copy_from_slice-2.new.self c.args.size _ c.requires.short c.requires.same refl (c.copy_from_slice-2.ensures.after ∙ c.to_be_bytes.ensures))
