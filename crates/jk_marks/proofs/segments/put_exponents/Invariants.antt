use Rattle.std.proofs.Common.{◌≡◌, ◌++◌, ◌*◌, map, take}
use Rattle.jk_marks.proofs.segments.put_exponents.Given as goal

abbrev pub invariant-loop-exponent : goal.invariant-loop-exponent
invariant-loop-exponent l = l.out.items ≡ l.fn.out.items ++ map (λ e. 8 * e) (take l.exponent-index l.exponents)
