use Rattle.jk_scan.proofs.Beside.{nine_few, nine_left, nine_own, nine_right}
use Rattle.jk_scan.proofs.columns.nine_beside.Goals as goal

pub returns-clause-small : goal.returns-clause-small
returns-clause-small c = nine_few c.args.columns.west c.args.columns.centre c.args.columns.east

pub returns-clause-west : goal.returns-clause-west
returns-clause-west c = nine_left c.args.columns.west c.args.columns.centre c.args.columns.east

pub returns-clause-centre : goal.returns-clause-centre
returns-clause-centre c = nine_own c.args.columns.west c.args.columns.centre c.args.columns.east

pub returns-clause-east : goal.returns-clause-east
returns-clause-east c = nine_right c.args.columns.west c.args.columns.centre c.args.columns.east
