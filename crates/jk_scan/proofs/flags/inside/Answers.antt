use Rattle.std.proofs.Common.{arith}
use Rattle.jk_scan.proofs.Geometry.{inside_at}
use Rattle.jk_scan.proofs.flags.inside.Goals as goal

pub returns : goal.returns
returns c = inside_at c.args.shape c.args.word c.args.stripe c.min-rows.result c.min-columns.result c.first_rows.result (omega arith) (omega arith) (omega arith) (omega arith) (λ e. omega arith) (λ e. omega arith) (λ e. omega arith) (λ e. omega arith) c.first_rows.ensures
