use Rattle.std.proofs.Common.{ℕ, ◌/◌, ◌%◌, ap, ◌∙◌}
use Rattle.jk_window.specs.NeededNumbers.{is_in, columns_in}
use Rattle.jk_window.proofs.NeededRows.{has_needs}
use Rattle.jk_window.proofs.rows.NeededPrecincts.has.Goals as goal

pub returns : goal.returns
returns c a k u d r are across less =
    let x = c.args.self.now in
    let n : ℕ = c.args.number in
    c.is_in.ensures
    ∙ ap (λ (v : ℕ × ℕ). is_in v (n % c.args.across)) c.columns.ensures
    ∙ ap (λ (w : ℕ). is_in (columns_in x (n / w)) (n % w)) across
    ∙ has_needs a k u d r n x are less
