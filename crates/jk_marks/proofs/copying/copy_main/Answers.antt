use Rattle.std.proofs.Common.{List, ℕ, ◌++◌, ap, ◌∙◌, arith}
use Rattle.jk_math.specs.Steps.{if_ok}
use Rattle.jk_marks.proofs.CopyingLaws.{main_long, main_kept, main_sized, on_ok_map}
use Rattle.jk_marks.proofs.copying.copy_main.Goals as goal

pub returns-then-bytes-lt2-clause-ok : goal.returns-then-bytes-lt2-clause-ok
returns-then-bytes-lt2-clause-ok c = λ siz segments is begins. let some = main_long c.args.bytes.now siz segments begins in absurd (omega (arith, some, c.if-bytes-lt2.true))

pub returns-clause-ok : goal.returns-clause-ok
returns-clause-ok c = λ siz segments is begins.
    on_ok_map c.copy_main_segments.result (λ e. e ∙ ap (λ (x : List ℕ). c.args.out.now.items ++ x) (main_kept c.args.bytes.now siz segments is begins)) c.copy_main_segments.ensures.ok

pub returns-clause-size : goal.returns-clause-size
returns-clause-size c = λ siz segments is begins. if_ok c.copy_main_segments.result (λ n e. e ∙ main_sized c.args.bytes.now siz segments is begins) c.copy_main_segments.ensures.size

pub returns-then-bytes-lt2-clause-exact : goal.returns-then-bytes-lt2-clause-exact
returns-then-bytes-lt2-clause-exact c = λ some. absurd (omega (arith, some, c.if-bytes-lt2.true))
