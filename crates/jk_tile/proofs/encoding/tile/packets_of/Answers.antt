use Rattle.std.proofs.Common.{ℕ, List, ◌++◌, inl, inr, ap, ◌∙◌}
use Rattle.std.proofs.lemmas.Result.{err_from_is_err_and}
use Rattle.jk_tile.proofs.encoding.tile.packets_of.Goals as goal

pub returns-in_err-pass_tile-clause-memory : goal.returns-in_err-pass_tile-clause-memory
returns-in_err-pass_tile-clause-memory c =
    let own = c.requires.tile in
    let same = err_from_is_err_and c.from_residual.result c.from_residual.ensures.1 in
    rw (same.1, same.2) (elim (c.in_err-pass_tile.ensures.2 own.0 own.1 own.2 own.3).0 [ inl e ↦ e | inr e ↦ e ])

pub returns-clause-exact : goal.returns-clause-exact
returns-clause-exact c p t is lists =
    let passed = c.in_ok-pass_tile.ensures in
    passed.1 ∙ ap (λ (l : List ℕ). l ++ passed.0) c.new-out.ensures.items ∙ passed.2 p t is lists
