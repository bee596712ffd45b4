use Rattle.std.proofs.Common.{◌++◌, map, ap, sym, ◌∙◌}
use Rattle.std.specs.List.{range_with_len}
use Rattle.jk_block.specs.declared.decoding.coefficients.Eight.{Eight}
use Rattle.jk_block.specs.decoding.Eights.{value_of}
use Rattle.jk_block.proofs.decoding.Eights.{bytes_alone}
use Rattle.jk_block.proofs.decoding.coefficients.append_eight.Goals as goal

pub returns-then-eight-eq0-2-clause-items : goal.returns-then-eight-eq0-2-clause-items
returns-then-eight-eq0-2-clause-items c =
    let old = c.args.values.now.items in
    let e = c.args.eight in
    c.append_by.ensures.items ∙ ap (λ (x : Eight). old ++ map (value_of x) (range_with_len 0 8)) (bytes_alone e c.if-eight-eq0.true c.if-eight-eq0-2.true) ∙ ap (λ n. old ++ map (value_of e) (range_with_len 0 n)) (sym c.if-count-eq8.true)
