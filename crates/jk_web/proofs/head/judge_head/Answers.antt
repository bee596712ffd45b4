use Rattle.std.proofs.Common.{sym, ◌∙◌}
use Rattle.std.proofs.lemmas.Bool.{eq-eqb}
use Rattle.jk_web.specs.Fields.{announces_body, asks_close}
use Rattle.jk_web.proofs.HeadLaws.{any_of_fields, judged_refused, judged_answered, closes_old, closes_new}
use Rattle.jk_web.proofs.head.judge_head.Goals as goal

pub returns-then-announce_body : goal.returns-then-announce_body
returns-then-announce_body c =
    λ h r. judged_refused c.args.spans h
    (sym (any_of_fields announces_body c.args.window.now c.args.fields.now c.args.spans.headers h.fields r.fields)
    ∙ sym c.announce_body.ensures ∙ c.if-announce_body.true)

pub returns-then-spans-eq0 : goal.returns-then-spans-eq0
returns-then-spans-eq0 c =
    λ h r. judged_answered c.args.spans h _
    (sym (any_of_fields announces_body c.args.window.now c.args.fields.now c.args.spans.headers h.fields r.fields)
    ∙ sym c.announce_body.ensures ∙ c.if-announce_body.false)
    (eq-eqb c.args.spans.version 0 c.if-spans-eq0.true ∙ closes_old h (sym r.version ∙ c.if-spans-eq0.true))

pub returns-else-spans-eq0 : goal.returns-else-spans-eq0
returns-else-spans-eq0 c =
    λ h r. judged_answered c.args.spans h c.ask_close.result
    (sym (any_of_fields announces_body c.args.window.now c.args.fields.now c.args.spans.headers h.fields r.fields)
    ∙ sym c.announce_body.ensures ∙ c.if-announce_body.false)
    (closes_new h c.ask_close.result (λ e. c.if-spans-eq0.false (r.version ∙ e))
    (c.ask_close.ensures ∙ any_of_fields asks_close c.args.window.now c.args.fields.now c.args.spans.headers h.fields r.fields))
