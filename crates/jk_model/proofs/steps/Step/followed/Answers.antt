use Rattle.std.proofs.Common.{◌≡◌, ◌∙◌, ap, sym, subst, ◌+◌, ◌-◌, ◌%◌, ◌^◌, cond, not, get_or, arith}
use Rattle.std.specs.Prelude.{◌==◌}
use Rattle.std.proofs.lemmas.Nat.{and_mask}
use Rattle.jk_model.specs.Contexts.{Context, moved}
use Rattle.jk_model.specs.Steps.{steps, context_number, context_of, IsEntry}
use Rattle.jk_model.proofs.StepLaws.{followed_is, followed_end, follow_sound, entry_sound, context_back}
use Rattle.jk_model.proofs.steps.Step.followed.Goals as goal
use Rattle.jk_model.proofs.steps.Step.followed.Goals.{After-entry_at}

pub entry_at-requires : goal.entry_at-requires
entry_at-requires c =
    let e = c.self.inside.entry in
    let row = and_mask e 16 in
    let end = followed_end e c.args.less c.args.wide c.self.invariant c.requires.digit in
    let a = c.digit.ensures in
    omega (arith, row, end, a)

-- the entry that is read
entry : (c : After-entry_at) → c.entry_at.result ≡ context_number (cond (c.args.wide == 0) (moved (context_of c.self.inside.entry) (cond c.args.less (not (context_of c.self.inside.entry).mps) (context_of c.self.inside.entry).mps)) (context_of c.self.inside.entry))
entry c =
    let e = c.self.inside.entry in
    c.entry_at.ensures
    ∙ ap (λ r. get_or steps (r + 1 + c.digit.result - c.args.wide) 0) (and_mask e 16)
    ∙ ap (λ l. get_or steps (e % 2 ^ 16 + 1 + l - c.args.wide) 0) c.digit.ensures
    ∙ followed_is e c.args.less c.args.wide c.self.invariant c.requires.digit c.requires.narrow

pub invariant_of-result : goal.invariant_of-result
invariant_of-result c = subst (λ e. IsEntry e) (sym (entry c)) (entry_sound _ (follow_sound (context_of c.self.inside.entry) c.args.less c.args.wide c.self.invariant.state))

pub returns : goal.returns
returns c =
    ap (λ e. context_of e) (entry c)
    ∙ context_back _ (follow_sound (context_of c.self.inside.entry) c.args.less c.args.wide c.self.invariant.state)
    ∙ ap (λ (x : Context). cond (c.args.wide == 0) (moved x (cond c.args.less (not x.mps) x.mps)) x) c.self.view_is
