use Rattle.std.proofs.Common.{◌≡◌, true, rules}
use Rattle.jk_params.specs.Profile.{is_profile_for}
use Rattle.jk_params.proofs.ProfileLaws.{profile_means}
use Rattle.jk_params.proofs.parameters.Parameters.check_frame.Goals as goal

pub returns-clause-sound : goal.returns-clause-sound
unfolding is_profile_for
returns-clause-sound c =
    let within : is_profile_for c.args.self.now c.args.frame.now ≡ true = search rules in
    profile_means c.args.self.now c.args.frame.now c.requires within
