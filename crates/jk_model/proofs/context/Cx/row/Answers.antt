use Rattle.std.proofs.Common.{◌∙◌, ap, sym, subst}
use Rattle.jk_model.specs.Contexts.{Context, row_of, rows}
use Rattle.jk_model.proofs.Rows.{row-read, row-sound, IsSound}
use Rattle.jk_model.proofs.context.Cx.row.Goals as goal

pub returns : goal.returns
unfolding rows
returns c =
    let e = row-read c.self.inside.state _ c.self.invariant in
    let sound : IsSound _ = subst IsSound (sym e) (row-sound c.self.inside.state c.self.invariant) in
    record {
      row = e ∙ ap (λ (v : Context). row_of v.state) c.self.view_is;
      smallest = sound.smallest;
      largest = sound.largest;
      after_mps = sound.after_mps;
      after_lps = sound.after_lps;
    }
