use Rattle.std.proofs.Common.{[], sym, arith}
use Rattle.jk_boxes.specs.Written.{colour_box}
use Rattle.jk_extras.specs.Extras.{profile_box}
use Rattle.jk_extras.proofs.Sizes.{text_size}
use Rattle.jk_extras.proofs.judging.colour_size.Goals as goal

pub returns-in-Enumerated-clause-size : goal.returns-in-Enumerated-clause-size
returns-in-Enumerated-clause-size c = λ n. rw c.in-Enumerated.is (sym (text_size (colour_box n) []))

pub returns-in-Profile-clause-size : goal.returns-in-Profile-clause-size
returns-in-Profile-clause-size c = λ n. rw c.in-Profile.is (omega (arith, text_size (profile_box c.in-Profile.profile.items) [], c.len.ensures))
