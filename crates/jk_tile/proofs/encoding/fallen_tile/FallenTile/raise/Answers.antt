use Rattle.std.proofs.Common.{◌≡◌, ◌<◌, ℕ, inl, inr, get_or, length, max, sym, ap, subst, ◌∙◌, arith}
use Rattle.std.specs.Prelude.{slice_index}
use Rattle.std.proofs.lemmas.Bool.{cases_lt}
use Rattle.std.proofs.lemmas.List.{get_or_default}
use Rattle.jk_tile.specs.encoding.Needs.{most}
use Rattle.jk_tile.specs.encoding.FallenComponents.{IsFallen, IsCodedOf}
use Rattle.jk_tile.specs.encoding.FallenTiles.{band_need}
use Rattle.jk_tile.specs.declared.encoding.fallen.FallenComponent.{FallenComponent}
use Rattle.jk_tile.proofs.encoding.TileFalls.{most_raised}
use Rattle.jk_tile.proofs.encoding.fallen_tile.FallenTile.raise.Goals as goal

pub raise-requires : goal.raise-requires
raise-requires c =
    let k : ℕ = c.loop-c.c in
    let all = c.args.self.now.components.items in
    let lt : k < length all = omega (arith, c.loop-c-test.true, c.len-c-end.ensures) in
    record { fallen = subst (IsFallen c.args.source.now) (sym c.index.ensures) (c.requires.fallen.each k c.index.result.now lt) }

pub loop-c-init : goal.loop-c-init
loop-c-init c = record {
  needs = λ f has b lt. omega arith;
  room = λ k other lt b band less. absurd (omega (arith, lt));
  rise = λ b. omega arith;
}

pub loop-c-preserved : goal.loop-c-preserved
loop-c-preserved c =
    let s = c.args.source.now in
    let k : ℕ = c.loop-c.c in
    let all = c.args.self.now.components.items in
    let x = c.index.result.now in
    let now = c.loop-c.invariant in
    let raised = c.raise.ensures in
    let lt : k < length all = omega (arith, c.loop-c-test.true, c.len-c-end.ensures) in
    record {
      needs = λ f has b less. most_raised (λ i. band_need s (f i) b) k (slice_index c.args.needs.now b) (slice_index c.loop-c.needs b) (slice_index c.raise.new.needs b) (now.needs f has b less)
          (raised.needs (f k) (subst (IsCodedOf s (f k)) (sym c.index.ensures) (has.each k x lt)) b less);
      room = λ j other below b band less. elim (cases_lt j k) [
        | inl before ↦ (let room = now.room j other before b band less in let rise = raised.rise b in omega (arith, room, rise))
        | inr past ↦
            (let here : j ≡ k = omega (arith, below, past) in
            let own : get_or all j other ≡ x = ap (λ i. get_or all i other) here ∙ get_or_default all k other x lt ∙ sym c.index.ensures in
            let same = ap (λ (y : FallenComponent). (get_or y.bands.items b band).bits) own in
            let room = raised.room b band less in
            omega (arith, same, room))
      ];
      rise = λ b. (let before = now.rise b in let rise = raised.rise b in omega (arith, before, rise));
    }

pub returns-clause-needs : goal.returns-clause-needs
returns-clause-needs c f has b lt =
    let end : c.loop-c.c ≡ length c.args.self.now.components.items = omega (arith, c.loop-c-test.false, c.loop-c.auto.c-end, c.len-c-end.ensures) in
    c.loop-c.invariant.needs f has b lt ∙ ap (λ n. max (slice_index c.args.needs.now b) (most (λ i. band_need c.args.source.now (f i) b) n)) end

pub returns-clause-room : goal.returns-clause-room
returns-clause-room c = record { each = λ k other lt. c.loop-c.invariant.room k other (omega (arith, lt, c.loop-c-test.false, c.len-c-end.ensures)) }

pub returns-clause-rise : goal.returns-clause-rise
returns-clause-rise c = c.loop-c.invariant.rise
