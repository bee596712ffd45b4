use Rattle.std.proofs.Common.{◌≡◌, ◌∙◌, ap, sym, subst, ◌+◌, ◌%◌, ◌^◌, cond, not, get_or, arith}
use Rattle.std.proofs.lemmas.Nat.{and_mask}
use Rattle.jk_model.specs.Contexts.{Context, moved}
use Rattle.jk_model.specs.Steps.{steps, context_number, context_of, IsEntry}
use Rattle.jk_model.proofs.StepLaws.{after_is, after_end, move_sound, entry_sound, context_back}
use Rattle.jk_model.proofs.steps.Step.after.Goals as goal
use Rattle.jk_model.proofs.steps.Step.after.Goals.{After-entry_at}

pub entry_at-requires : goal.entry_at-requires
entry_at-requires c =
    let e = c.self.inside.entry in
    let row = and_mask e 16 in
    let end = after_end e c.args.moves c.args.less c.self.invariant in
    let a = c.digit.ensures in
    let b = c.digit-2.ensures in
    omega (arith, row, end, a, b)

-- the entry that is read
entry : (c : After-entry_at) → c.entry_at.result ≡ context_number (cond c.args.moves (moved (context_of c.self.inside.entry) (cond c.args.less (not (context_of c.self.inside.entry).mps) (context_of c.self.inside.entry).mps)) (context_of c.self.inside.entry))
entry c =
    let e = c.self.inside.entry in
    c.entry_at.ensures
    ∙ ap (λ r. get_or steps (r + c.digit.result + c.digit-2.result) 0) (and_mask e 16)
    ∙ ap (λ m. get_or steps (e % 2 ^ 16 + m + c.digit-2.result) 0) c.digit.ensures
    ∙ ap (λ l. get_or steps (e % 2 ^ 16 + cond c.args.moves 1 0 + l) 0) c.digit-2.ensures
    ∙ after_is e c.args.moves c.args.less c.self.invariant

pub invariant_of-result : goal.invariant_of-result
invariant_of-result c = subst (λ e. IsEntry e) (sym (entry c)) (entry_sound _ (move_sound (context_of c.self.inside.entry) c.args.moves c.args.less c.self.invariant.state))

pub returns : goal.returns
returns c =
    ap (λ e. context_of e) (entry c)
    ∙ context_back _ (move_sound (context_of c.self.inside.entry) c.args.moves c.args.less c.self.invariant.state)
    ∙ ap (λ (x : Context). cond c.args.moves (moved x (cond c.args.less (not x.mps) x.mps)) x) c.self.view_is
