use Rattle.std.proofs.Common.{sym, ◌∙◌}
use Rattle.jk_web.proofs.ReadingLaws.{no_number, no_name, keeps_x, keeps_y, keeps_w, keeps_h, keeps_r, keeps_l}
use Rattle.jk_web.proofs.query.Readings.keep.Goals as goal

pub returns-in_default : goal.returns-in_default
returns-in_default c =
    λ rest. no_number c.args.self.now c.args.key.now c.args.value.now rest (sym c.number.ensures ∙ c.in_default.is)

pub returns-in-x : goal.returns-in-x
returns-in-x c =
    λ rest. keeps_x c.args.self.now c.args.key.now c.args.value.now c.in-Some.number rest c.fill.result c.fill.new.place c.in-x.is
    (sym c.number.ensures ∙ c.in-Some.is) c.fill.ensures.free c.fill.ensures.new

pub returns-in-y : goal.returns-in-y
returns-in-y c =
    λ rest. keeps_y c.args.self.now c.args.key.now c.args.value.now c.in-Some.number rest c.fill-in-y.result c.fill-in-y.new.place c.in-y.is
    (sym c.number.ensures ∙ c.in-Some.is) c.fill-in-y.ensures.free c.fill-in-y.ensures.new

pub returns-in-w : goal.returns-in-w
returns-in-w c =
    λ rest. keeps_w c.args.self.now c.args.key.now c.args.value.now c.in-Some.number rest c.fill-in-w.result c.fill-in-w.new.place c.in-w.is
    (sym c.number.ensures ∙ c.in-Some.is) c.fill-in-w.ensures.free c.fill-in-w.ensures.new

pub returns-in-h : goal.returns-in-h
returns-in-h c =
    λ rest. keeps_h c.args.self.now c.args.key.now c.args.value.now c.in-Some.number rest c.fill-in-h.result c.fill-in-h.new.place c.in-h.is
    (sym c.number.ensures ∙ c.in-Some.is) c.fill-in-h.ensures.free c.fill-in-h.ensures.new

pub returns-in-r : goal.returns-in-r
returns-in-r c =
    λ rest. keeps_r c.args.self.now c.args.key.now c.args.value.now c.in-Some.number rest c.fill-in-r.result c.fill-in-r.new.place c.in-r.is
    (sym c.number.ensures ∙ c.in-Some.is) c.fill-in-r.ensures.free c.fill-in-r.ensures.new

pub returns-in-layers : goal.returns-in-layers
returns-in-layers c =
    λ rest. keeps_l c.args.self.now c.args.key.now c.args.value.now c.in-Some.number rest c.fill-in-layers.result c.fill-in-layers.new.place c.in-layers.is
    (sym c.number.ensures ∙ c.in-Some.is) c.fill-in-layers.ensures.free c.fill-in-layers.ensures.new

pub returns-in_default-key : goal.returns-in_default-key
returns-in_default-key c =
    λ rest. no_name c.args.self.now c.args.key.now c.args.value.now rest c.in_default-key.not-x c.in_default-key.not-y c.in_default-key.not-w
    c.in_default-key.not-h c.in_default-key.not-r c.in_default-key.not-layers
