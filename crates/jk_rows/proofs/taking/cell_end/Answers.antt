use Rattle.std.proofs.Common.{◌≡◌, ℕ, ◌+◌, ◌*◌, ◌/◌, ◌%◌, ◌^◌, ap, ◌∙◌, arith}
use Rattle.std.proofs.lemmas.Nat.{pow_pos}
use Rattle.jk_rows.proofs.Cells.{cell_far, multiple}
use Rattle.jk_rows.proofs.taking.cell_end.Goals as goal

pub returns-clause-end : goal.returns-clause-end
returns-clause-end c = λ less.
    let e : ℕ = c.args.exponent in
    let far = cell_far c.args.from e c.requires.exponent (let order = c.requires.order in let to = c.requires.to in omega (arith, order, to)) in
    let is : c.min.result ≡ (c.args.from / 2 ^ e + 1) * 2 ^ e = omega (arith, c.min.ensures, less, far) in
    ap (λ n. n % 2 ^ e) is ∙ multiple (c.args.from / 2 ^ e + 1) (2 ^ e) (pow_pos e)
