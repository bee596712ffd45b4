use Rattle.std.proofs.Common.{subst, sym, lit<, pos, arith}
use Rattle.jk_extras.specs.Inches.{IsPerInch}
use Rattle.jk_extras.proofs.PerInch.{none_is, none_of_none, whole_is, none_weaker, some_unless}
use Rattle.jk_extras.proofs.inches.per_inch.Goals as goal

pub returns-then-n-eq0-clause-only : goal.returns-then-n-eq0-clause-only
returns-then-n-eq0-clause-only c r small some is =
    none_of_none c.args.n c.args.d r (let e = c.then-n-eq0.either in omega arith) some is

pub returns-clause-only : goal.returns-clause-only
returns-clause-only c =
    none_weaker c.lowered.result
    (none_is c.args.n c.args.d c.ranges.n.fits c.ranges.d.fits (omega arith) (omega arith) c.in_default.ensures.only c.in_default-raised.ensures.only)
    c.lowered.ensures.only

pub returns-clause-whole : goal.returns-clause-whole
returns-clause-whole c some small one =
    some_unless c.lowered.result
    (none_weaker c.lowered.result
    (λ less. none_is c.args.n c.args.d c.ranges.n.fits c.ranges.d.fits (omega arith) (omega arith) c.in_default.ensures.only
    c.in_default-raised.ensures.only less (record { numerator = c.args.n; denominator = 254; exponent = pos 4 }) (small, lit< tt) (omega arith)
    (subst (λ d. IsPerInch c.args.n d (record { numerator = c.args.n; denominator = 254; exponent = pos 4 })) (sym one) (whole_is c.args.n some)))
    c.lowered.ensures.only)
