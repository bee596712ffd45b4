use Rattle.std.proofs.Common.{◌≡◌, drop, sym, ◌∙◌, ap, subst}
use mathlib.Core.List.{IsPrefix}
use Rattle.jk_hall.specs.Sights.{listed, front_stamp, coming}
use Rattle.jk_hall.proofs.Steps.{grows}
use Rattle.jk_hall.proofs.writer.show.Goals as goal

pub publish_as-inner-requires : goal.publish_as-inner-requires
publish_as-inner-requires g c next is =
    let shown = c.args.inner.desk.shown.value in
    let all = coming shown (drop c.args.inner.behind c.args.inner.log.items) in
    let listed_is : listed next ≡ all.entries = ap (λ s. s.entries) is in
    let log_is : next.front.seen.log ≡ all.log = ap (λ s. s.log) is in
    let stamp_is : front_stamp next.front ≡ all.stamp = ap (λ s. s.stamp) is in
    grows _ _ shown next (listed_is ∙ c.requires.tied ∙ sym log_is) (subst (IsPrefix (listed shown)) (sym listed_is) c.requires.longer) (stamp_is ∙ c.requires.stamped)
