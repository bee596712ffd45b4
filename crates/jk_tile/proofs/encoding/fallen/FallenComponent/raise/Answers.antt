use Rattle.std.proofs.Common.{inl, inr, max, ap, ◌∙◌, arith}
use Rattle.std.specs.Prelude.{slice_index}
use Rattle.std.proofs.lemmas.Bool.{cases_lt}
use Rattle.jk_tile.specs.declared.encoding.fallen.FallenBand.{FallenBand}
use Rattle.jk_tile.proofs.encoding.ComponentFalls.{some_of}
use Rattle.jk_tile.proofs.encoding.fallen.FallenComponent.raise.Goals as goal

pub returns-clause-needs : goal.returns-clause-needs
returns-clause-needs c f has b lt =
    let all = c.args.self.now.bands.items in
    let count = c.requires.fallen.count in
    let test = c.loop-b-test.false in
    let to = c.loop-b.auto.b-end in
    let end_of = c.len-b-end.ensures in
    let other = some_of FallenBand all b (omega (arith, lt, count)) in
    c.loop-b.invariant.done b other (omega (arith, lt, count, test, to, end_of)) ∙ ap (max (slice_index c.args.needs.now b)) (has b other lt).bits

pub returns-clause-room : goal.returns-clause-room
returns-clause-room c b other lt =
    let count = c.requires.fallen.count in
    let test = c.loop-b-test.false in
    let to = c.loop-b.auto.b-end in
    let end_of = c.len-b-end.ensures in
    let is = c.loop-b.invariant.done b other (omega (arith, lt, count, test, to, end_of)) in
    omega (arith, is)

pub returns-clause-rise : goal.returns-clause-rise
returns-clause-rise c b =
    let all = c.args.self.now.bands.items in
    let to = c.loop-b.auto.b-end in
    let end_of = c.len-b-end.ensures in
    elim (cases_lt b c.loop-b.b) [
      | inl less ↦ (let is = c.loop-b.invariant.done b (some_of FallenBand all b (omega (arith, less, to, end_of))) less in omega (arith, is))
      | inr past ↦ (let is = c.loop-b.invariant.rest b past in omega (arith, is))
    ]
