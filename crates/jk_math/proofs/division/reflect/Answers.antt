use Rattle.std.proofs.Common.{◌-◌, ◌*◌, sym, ap, ◌∙◌, refl, arith}
use Rattle.std.proofs.lemmas.Int.{ints}
use Rattle.jk_math.specs.Division.{remainder_of}
use Rattle.jk_math.proofs.DivisionLemmas.{reflected_one, reflected_is}
use Rattle.jk_math.proofs.division.reflect.Goals as goal

pub returns-then-i1-i0-eq1 : goal.returns-then-i1-i0-eq1
returns-then-i1-i0-eq1 c = sym (reflected_one c.args.i c.args.i0 c.args.i1 (omega arith))

pub returns : goal.returns
returns c =
    let p = 2 * (c.args.i1 - c.args.i0 - 1) in
    rw c.min.ensures (reflected_is c.args.i c.args.i0 c.args.i1 p c.remainder-j.result refl (c.remainder-j.ensures.value ∙ ap (λ z. remainder_of z p) (omega (arith, ints))))
