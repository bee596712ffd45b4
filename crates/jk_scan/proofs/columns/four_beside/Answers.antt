use Rattle.jk_scan.proofs.Beside.{four_small, four_left, four_above, four_below, four_right}
use Rattle.jk_scan.proofs.columns.four_beside.Goals as goal

pub returns-clause-small : goal.returns-clause-small
returns-clause-small c = four_small c.args.columns.west c.args.columns.centre c.args.columns.east

pub returns-clause-west : goal.returns-clause-west
returns-clause-west c = four_left c.args.columns.west c.args.columns.centre c.args.columns.east

pub returns-clause-above : goal.returns-clause-above
returns-clause-above c = four_above c.args.columns.west c.args.columns.centre c.args.columns.east

pub returns-clause-below : goal.returns-clause-below
returns-clause-below c = four_below c.args.columns.west c.args.columns.centre c.args.columns.east

pub returns-clause-east : goal.returns-clause-east
returns-clause-east c = four_right c.args.columns.west c.args.columns.centre c.args.columns.east
