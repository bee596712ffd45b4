use Rattle.std.proofs.Common.{◌∙◌, ap, sym, subst, ◌-◌, ◌*◌, ◌^◌, ◌<◌, ◌≤◌}
use Rattle.jk_model.specs.Contexts.{Context, row_of}
use Rattle.jk_model.specs.Steps.{context_of}
use Rattle.jk_model.proofs.StepLaws.{size_sound, scaled_is, scaled_sound}
use Rattle.jk_model.proofs.steps.Step.scaled.Goals as goal

pub returns : goal.returns
returns c =
    let e = c.self.inside.entry in
    let k = c.args.top - 15 in
    let is = c.rotate_left.ensures ∙ scaled_is e c.args.top c.self.invariant c.requires.least c.requires.most in
    let size = size_sound e c.self.invariant in
    let sound = scaled_sound (row_of (context_of e).state).qe c.args.top size.0 size.1 c.requires.least in
    record {
      value = is ∙ ap (λ (x : Context). (row_of x.state).qe * 2 ^ k) c.self.view_is;
      smallest = subst (λ q. 1 ≤ q) (sym is) sound.0;
      below = subst (λ q. q < 2 ^ c.args.top) (sym is) sound.1;
    }
