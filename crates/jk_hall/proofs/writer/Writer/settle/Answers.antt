use Rattle.std.proofs.Common.{rules}
use Rattle.jk_hall.specs.Writing.{list, waits}
use Rattle.jk_hall.proofs.RunLaws.{publishes_on}
use Rattle.jk_hall.proofs.writer.Writer.settle.Goals as goal

pub returns-clause-step : goal.returns-clause-step
returns-clause-step g c = λ opening events has. publishes_on opening events (list c.args.self.now) (waits c.args.self.now) _ (search rules) has
