use Rattle.std.proofs.Common.{◌∙◌}
use Rattle.jk_commands.proofs.AllLaws.{first_is}
use Rattle.jk_commands.proofs.coding_values.first_coding.Goals as goal

pub returns-clause-sound : goal.returns-clause-sound
returns-clause-sound c =
    first_is c.requires.0 c.args.headers.now c.as_slice.result.now c.index-as_slice-0.result c.requires.1 (c.as_slice.ensures ∙ c.codings.ensures) c.index-as_slice-0.is
