use Rattle.std.proofs.Common.{ℕ, List, length, inl, inr, ap, arith, lit<}
use Rattle.std.proofs.lemmas.Result.{err_from_is_err_and}
use Rattle.jk_tile.proofs.encoding.tile.packets_size.Goals as goal

pub returns-in_err-pass_tile-clause-memory : goal.returns-in_err-pass_tile-clause-memory
returns-in_err-pass_tile-clause-memory c =
    let own = c.requires.tile in
    let same = err_from_is_err_and c.from_residual.result c.from_residual.ensures.1 in
    rw (same.1, same.2) (elim (c.in_err-pass_tile.ensures.2 own.0 own.1 own.2 own.3).0 [ inl e ↦ e | inr e ↦ absurd e ])

pub returns-clause-exact : goal.returns-clause-exact
returns-clause-exact c p t is lists =
    let passed = c.in_ok-pass_tile.ensures in
    let long = ap (λ (l : List ℕ). length l) (passed.2 p t is lists) in
    let counted = passed.1 (lit< tt) in
    omega (arith, counted, long)
