use Rattle.std.specs.Prelude.{codes}
use Rattle.std.specs.String.{string_bytes}
use Rattle.std.proofs.Common.{ℕ, List, ◌++◌, ap, ◌∙◌}
use Rattle.jk_commands.specs.declared.coding_values.Flag.TheVariants.{Sop, Eph, Colour}
use Rattle.jk_commands.specs.Values.{labelled}
use Rattle.jk_commands.specs.AllLines.{block_values, style_values, precinct_values, flag_values, coding_lines}
use Rattle.jk_commands.proofs.AllLaws.{six_joined}
use Rattle.jk_commands.proofs.telling_all.put_coding.Goals as goal

pub returns : goal.returns
unfolding coding_lines
returns c =
    let h = c.args.headers.now in
    let put : List ℕ → List ℕ → List ℕ → List ℕ = λ text label values. text ++ labelled label values in
    let p = string_bytes c.args.lines.now in
    let q = string_bytes c.put_line.new.line in
    let r = string_bytes c.put_line-2.new.line in
    let s = string_bytes c.put_line-3.new.line in
    let t = string_bytes c.put_line-4.new.line in
    let u = string_bytes c.put_line-5.new.line in
    six_joined (labelled (codes "code-blocks") (block_values h)) (labelled (codes "block-style") (style_values h)) (labelled (codes "precincts") (precinct_values h)) (labelled (codes "SOP") (flag_values Sop (codes "yes") (codes "no") h))
    (labelled (codes "EPH") (flag_values Eph (codes "yes") (codes "no") h)) (labelled (codes "colour-transform") (flag_values Colour (codes "reversible") (codes "none") h))
    p q r s t u (string_bytes c.put_line-6.new.line)
    (c.in_ok-put_line.ensures ∙ ap (put p (codes "code-blocks")) (c.as_str.ensures.value ∙ c.in_ok-blocks.ensures))
    (c.in_ok-put_line-2.ensures ∙ ap (put q (codes "block-style")) (c.as_str-2.ensures.value ∙ c.in_ok-style.ensures))
    (c.in_ok-put_line-3.ensures ∙ ap (put r (codes "precincts")) (c.as_str-3.ensures.value ∙ c.in_ok-precincts.ensures))
    (c.in_ok-put_line-4.ensures ∙ ap (put s (codes "SOP")) (c.as_str-4.ensures.value ∙ c.in_ok-sop.ensures))
    (c.in_ok-put_line-5.ensures ∙ ap (put t (codes "EPH")) (c.as_str-5.ensures.value ∙ c.in_ok-eph.ensures))
    (c.in_ok-put_line-6.ensures ∙ ap (put u (codes "colour-transform")) (c.as_str-6.ensures.value ∙ c.in_ok-colour.ensures))
