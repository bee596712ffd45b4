use Rattle.std.proofs.Common.{◌≡◌, ℕ, zero, suc, ◌*◌, ◌/◌, ◌^◌, ◌<◌, ◌∙◌, ap, sym, subst, arith}
use Rattle.std.proofs.lemmas.Nat.{div-add-mod'}
use Rattle.jk_marks.specs.declared.coding.Coding.{Coding}
use Rattle.jk_tile.specs.decoding.Strips.{block_exponent}
use Rattle.jk_rows.specs.Components.{cell_exponent}
use Rattle.jk_rows.proofs.Cells.{half_small}
use Rattle.jk_rows.proofs.ahead.add_step_blocks.Goals as goal

-- the row of code-blocks in which a row stands begins where numbers fit
cell_small : (k : Coding) (r v e : ℕ) → e ≡ cell_exponent k r → v < 2 ^ 31 → v / 2 ^ e * 2 ^ block_exponent k r < 2 ^ 31
cell_small k zero v e is small =
    let split = div-add-mod' v (2 ^ block_exponent k 0) in
    subst (λ n. v / 2 ^ n * 2 ^ block_exponent k 0 < 2 ^ 31) (sym is) (omega (arith, split, small))
cell_small k (suc q) v e is small = subst (λ n. v / 2 ^ n * 2 ^ block_exponent k (suc q) < 2 ^ 31) (sym is) (half_small v (block_exponent k (suc q)) small)

pub add_cell_blocks-requires-clause-small : goal.add_cell_blocks-requires-clause-small
add_cell_blocks-requires-clause-small c =
    let s = c.args.source.now in
    let power = c.cell_exponent-exponent.ensures.value ∙ ap (λ (k : Coding). cell_exponent k c.args.r) c.coding.ensures.value in
    let end = c.taken-end.ensures.small in
    cell_small s.coding c.args.r c.loop-from.from c.cell_exponent-exponent.result power (omega (arith, end, c.loop-from-test.true))
