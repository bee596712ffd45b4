use Rattle.std.proofs.Common.{List, ℕ, ◌++◌, replicate, ap, ◌∙◌}
use Rattle.std.proofs.lemmas.List.{length-replicate}
use Rattle.jk_marks.specs.Codestream.{part_text, only_part_of}
use Rattle.jk_code.proofs.BeginningLaws.{head_length}
use Rattle.jk_code.proofs.writing.part_head.Goals as goal

pub returns-clause-size : goal.returns-clause-size
returns-clause-size c =
    let content : List ℕ = replicate c.min.result 0 in
    head_length c.args.tile c.write_part_head.new.out.items content
    (c.in_ok-write_part_head.ensures.ok content (length-replicate c.min.result 0) ∙ ap (λ (xs : List ℕ). xs ++ part_text (only_part_of c.args.tile content)) c.in_ok-head.ensures.items)
