-- What comes inside is passed first: there ranks are one after another.
use Rattle.std.proofs.Common.{◌+◌, sym, refl, subst, ◌∙◌}
use Rattle.jk_order.specs.declared.stream.Stream.{Stream}
use Rattle.jk_order.specs.Advancing.{Advances}
use Rattle.jk_order.proofs.Advancing.{outside_of, inside_of, head_fits, outside_precinct, outside_layer, outside_end, inside_layer, inside_precinct, inside_end}
use Rattle.jk_order.proofs.stream.Stream.advance.Goals as goal

pub overflow_add-result : goal.overflow_add-result
overflow_add-result c = record { fits = head_fits c.args.frame.now c.args.self.now c.args.head c.requires.frame c.requires.stream c.requires.live }

pub overflow_add-result-then-has_later_layer-2 : goal.overflow_add-result-then-has_later_layer-2
overflow_add-result-then-has_later_layer-2 c = record { fits = head_fits c.args.frame.now c.args.self.now c.args.head c.requires.frame c.requires.stream c.requires.live }

pub returns-then-self : goal.returns-then-self
returns-then-self c =
    let to = outside_precinct c.args.frame.now c.args.self.now (outside_of c.args.frame.now.order c.in-Lrcp.is) c.args.head c.requires.live c.if-self.true in
    subst (λ (t : Stream). Advances c.args.frame.now c.args.self.now t (c.args.head + 1)) (sym c.next_precinct.ensures) to

pub returns-then-has_later_layer : goal.returns-then-has_later_layer
returns-then-has_later_layer c =
    outside_layer c.args.frame.now c.args.self.now (outside_of c.args.frame.now.order c.in-Lrcp.is) _ c.rank.result refl c.if-self.false (sym c.has_later_layer.ensures ∙ c.if-has_later_layer.true) c.rank.ensures

pub returns-else-has_later_layer : goal.returns-else-has_later_layer
returns-else-has_later_layer c =
    outside_end c.args.frame.now c.args.self.now (outside_of c.args.frame.now.order c.in-Lrcp.is) c.if-self.false (sym c.has_later_layer.ensures ∙ c.if-has_later_layer.false)

pub returns-then-has_later_layer-2 : goal.returns-then-has_later_layer-2
returns-then-has_later_layer-2 c =
    inside_layer c.args.frame.now c.args.self.now (inside_of c.args.frame.now.order c.in-Rpcl.is) c.args.head c.requires.live (sym c.has_later_layer-in-Rpcl.ensures ∙ c.if-has_later_layer-2.true)

pub returns-then-self-2 : goal.returns-then-self-2
returns-then-self-2 c =
    inside_precinct c.args.frame.now c.args.self.now (inside_of c.args.frame.now.order c.in-Rpcl.is) c.next_precinct-then-self-2.new.self c.rank-then-self-2.result c.next_precinct-then-self-2.ensures (sym c.has_later_layer-in-Rpcl.ensures ∙ c.if-has_later_layer-2.false) c.if-self-2.true c.rank-then-self-2.ensures

pub returns-else-self-2 : goal.returns-else-self-2
returns-else-self-2 c =
    inside_end c.args.frame.now c.args.self.now (inside_of c.args.frame.now.order c.in-Rpcl.is) (sym c.has_later_layer-in-Rpcl.ensures ∙ c.if-has_later_layer-2.false) c.if-self-2.false
