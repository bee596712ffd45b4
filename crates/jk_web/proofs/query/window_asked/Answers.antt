use Rattle.std.proofs.Common.{None, map, refl, sym, ap, ◌∙◌}
use Rattle.form_urlencoded.specs.Parse.{pairs_left}
use Rattle.jk_web.specs.declared.query.Readings.{Readings}
use Rattle.jk_web.specs.Queries.{decoded, pairs_of}
use Rattle.jk_web.specs.Readings.{asked_with}
use Rattle.jk_web.proofs.ReadingLaws.{asked_with-start, asked_with-end}
use Rattle.jk_web.proofs.query.window_asked.Goals as goal

pub loop-pair-init : goal.loop-pair-init
loop-pair-init c =
    let start : Readings = record { x = None; y = None; width = None; height = None; reduce = None; layers = None } in (
      tt,
      tt,
      ap (λ ps. asked_with start (map decoded ps)) (ap pairs_left c.into_iter-pair-iterator.ensures.into_iter_gives ∙ c.parse-pair-items.ensures.value)
          ∙ asked_with-start start (pairs_of c.args.query.now) refl refl refl refl refl refl,
    )

pub returns-clause-exact : goal.returns-clause-exact
returns-clause-exact c =
    c.window.ensures
    ∙ sym (asked_with-end c.loop-pair.readings)
    ∙ ap (λ ps. asked_with c.loop-pair.readings (map decoded ps)) (sym c.in-None.ensures.steps.0)
    ∙ c.loop-pair.invariant.2
