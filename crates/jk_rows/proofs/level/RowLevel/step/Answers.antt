use Rattle.std.proofs.Common.{◌≡◌, ℕ, ◌+◌, ◌*◌, ◌%◌, ◌<◌, ◌++◌, Result, Ok, Err, ℤ, sym, ◌∙◌, ap, subst, arith}
use Rattle.std.specs.Prelude.{OnOk}
use Rattle.jk_wave.specs.Resolutions.{resolution_of, woven_plane}
use Rattle.jk_wave.specs.Levels.{unlifted_over}
use Rattle.jk_math.specs.Raster.{raster}
use Rattle.jk_wave.specs.climbing.Held.{rows_between}
use Rattle.jk_wave.specs.climbing.Intervals.{rows_reached}
use Rattle.jk_wave.specs.climbing.Standing.{AreHigh, ShowHigh}
use Rattle.jk_wave.proofs.Laws.{resolution_is_area}
use Rattle.jk_tile.specs.decoding.Source.{source_coefficient}
use Rattle.jk_rows.specs.Components.{area_at, made_rows, AreBlocksAt, strip_in, StandsBefore}
use Rattle.jk_rows.proofs.Standing.{may_wait, takes_to, are_next, none_out, out_made}
use Rattle.jk_rows.proofs.level.RowLevel.step.Goals as goal

-- what follows of two facts where a step is done
on_two : {A E P Q S : Type 0} (r : Result A E) → (P → Q → S) → OnOk r P → OnOk r Q → OnOk r S
on_two (Ok x) go p q = go p q
on_two (Err e) go p q = p

pub step-requires-clause-high : goal.step-requires-clause-high
step-requires-clause-high c =
    let l = c.args.self.now in
    subst (λ v. AreHigh l.level.area v c.taken.result c.none_before.result) (c.taken.ensures.value ∙ sym c.requires.at.stands.place) (c.none_before.ensures.are l.level.area)

pub step-requires-clause-may : goal.step-requires-clause-may
step-requires-clause-may c =
    let s = c.args.source.now in
    may_wait s c.args.at.below c.args.at.from c.args.at.to c.taken.result c.args.self.now c.args.fresh.now c.requires.source c.requires.q (c.taken.ensures.value ∙ sym c.requires.at.stands.place) c.requires.at.stands.standing c.requires.fresh

pub take_all-requires-clause-stands : goal.take_all-requires-clause-stands
take_all-requires-clause-stands c =
    let s = c.args.source.now in
    let q : ℕ = c.args.at.below in
    let l = c.args.self.now in
    let stands = c.requires.at.stands in
    record {
      standing = c.in_ok-step.ensures.standing;
      is = c.in_ok-step.ensures.same.0 ∙ stands.is;
      place = c.in_ok-step.ensures.same.1;
      blocks = subst (λ v. AreBlocksAt s (q + 1) v l.chains (strip_in l)) (sym c.taken.ensures.value) stands.blocks;
    }

pub take_all-requires-clause-order : goal.take_all-requires-clause-order
take_all-requires-clause-order c =
    let order = (takes_to c.args.source.now c.args.at.below c.args.at.from c.args.at.to c.requires.source c.requires.q c.requires.order).order in
    omega (arith, order, c.taken.ensures.value, c.taken-2.ensures.value)

pub take_all-requires-clause-to : goal.take_all-requires-clause-to
take_all-requires-clause-to c =
    let to = (takes_to c.args.source.now c.args.at.below c.args.at.from c.args.at.to c.requires.source c.requires.q c.requires.order).to in
    omega (arith, to, c.taken-2.ensures.value)

pub take_all-requires-clause-pairs : goal.take_all-requires-clause-pairs
take_all-requires-clause-pairs c =
    let s = c.args.source.now in
    let a = area_at s (c.args.at.below + 1) in
    subst (λ n. a.y0 < n → n < a.y1 → n % 2 ≡ 0) (sym c.taken-2.ensures.value) (takes_to s c.args.at.below c.args.at.from c.args.at.to c.requires.source c.requires.q c.requires.order).pairs

pub take_all-requires-clause-waits : goal.take_all-requires-clause-waits
take_all-requires-clause-waits c =
    let s = c.args.source.now in
    let q : ℕ = c.args.at.below in
    let d : ℕ = c.args.at.from in
    let e : ℕ = c.args.at.to in
    let l = c.args.self.now in
    let at = c.requires.at in
    let next = are_next s q d e c.taken.result l c.args.fresh.now c.requires.source c.requires.q c.requires.order at c.requires.fresh c.taken.ensures.value in
    let under = (takes_to s q d e c.requires.source c.requires.q c.requires.order).under in
    let bands : ℕ → ℕ → ℕ → ℤ = λ o. source_coefficient s (3 * q + o) in
    let show = subst (λ v. ShowHigh l.level.area v c.taken.result bands c.none_before.result) (c.taken.ensures.value ∙ sym at.stands.place) (c.none_before.ensures.show l.level.area bands) in
    let given = c.in_ok-step.ensures.samples (resolution_of s.region.rect s.region.levels (source_coefficient s) q) bands (made_rows s q d) (made_rows s q e) at.waits show next.rows next.before next.more next.under in
    (made_rows s q e, given.0, omega (arith, under, c.taken-2.ensures.value))

pub returns-clause-at : goal.returns-clause-at
returns-clause-at c =
    let s = c.args.source.now in
    let q : ℕ = c.args.at.below in
    let d : ℕ = c.args.at.from in
    let e : ℕ = c.args.at.to in
    let l = c.args.self.now in
    let at = c.requires.at in
    let next = are_next s q d e c.taken.result l c.args.fresh.now c.requires.source c.requires.q c.requires.order at c.requires.fresh c.taken.ensures.value in
    let under = (takes_to s q d e c.requires.source c.requires.q c.requires.order).under in
    let bands : ℕ → ℕ → ℕ → ℤ = λ o. source_coefficient s (3 * q + o) in
    let show = subst (λ v. ShowHigh l.level.area v c.taken.result bands c.none_before.result) (c.taken.ensures.value ∙ sym at.stands.place) (c.none_before.ensures.show l.level.area bands) in
    let given = c.in_ok-step.ensures.samples (resolution_of s.region.rect s.region.levels (source_coefficient s) q) bands (made_rows s q d) (made_rows s q e) at.waits show next.rows next.before next.more next.under in
    on_two c.take_all.result (λ stands samples. record {
      stands = subst (λ n. StandsBefore s q n c.take_all.new.self) c.taken-2.ensures.value stands;
      waits = (samples (made_rows s q e) given.0 (omega (arith, under, c.taken-2.ensures.value))).0;
    }) c.take_all.ensures.stands c.take_all.ensures.samples

pub returns-clause-rows : goal.returns-clause-rows
returns-clause-rows c =
    let s = c.args.source.now in
    let q : ℕ = c.args.at.below in
    let d : ℕ = c.args.at.from in
    let e : ℕ = c.args.at.to in
    let l = c.args.self.now in
    let at = c.requires.at in
    let next = are_next s q d e c.taken.result l c.args.fresh.now c.requires.source c.requires.q c.requires.order at c.requires.fresh c.taken.ensures.value in
    let under = (takes_to s q d e c.requires.source c.requires.q c.requires.order).under in
    let low = resolution_of s.region.rect s.region.levels (source_coefficient s) q in
    let bands : ℕ → ℕ → ℕ → ℤ = λ o. source_coefficient s (3 * q + o) in
    let show = subst (λ v. ShowHigh l.level.area v c.taken.result bands c.none_before.result) (c.taken.ensures.value ∙ sym at.stands.place) (c.none_before.ensures.show l.level.area bands) in
    let given = c.in_ok-step.ensures.samples low bands (made_rows s q d) (made_rows s q e) at.waits show next.rows next.before next.more next.under in
    let place : l.level.v ≡ c.taken.result = at.stands.place ∙ sym c.taken.ensures.value in
    let here : c.step.new.out.items ≡ c.clear.new.self.items ++ raster (rows_between l.level.area (rows_reached l.level.area c.taken.result) (rows_reached l.level.area c.taken.result)) (unlifted_over l.level.area (woven_plane low bands)) =
    given.1 ∙ ap (λ v. c.clear.new.self.items ++ raster (rows_between l.level.area (rows_reached l.level.area v) (rows_reached l.level.area c.taken.result)) (unlifted_over l.level.area (woven_plane low bands))) place in
    let none = none_out l.level.area (rows_reached l.level.area c.taken.result) (unlifted_over l.level.area (woven_plane low bands)) c.clear.new.self.items c.step.new.out.items c.clear.ensures.items here in
    on_two c.take_all.result (λ stands samples.
    out_made s q d e c.taken.result c.taken-2.result c.step.new.out.items c.take_all.new.out.items c.requires.source c.requires.q none c.taken.ensures.value c.taken-2.ensures.value
    (samples (made_rows s q e) given.0 (omega (arith, under, c.taken-2.ensures.value))).1) c.take_all.ensures.stands c.take_all.ensures.samples

pub taken-requires-clause-e : goal.taken-requires-clause-e
taken-requires-clause-e c =
    let s = c.args.source.now in
    let lower = (resolution_is_area s.region.rect s.region.levels s.region.top c.requires.source.region.rect).lower in
    let order = c.requires.order in let to = c.requires.to in
    omega (arith, order, to, lower)

pub taken-requires-2-clause-e : goal.taken-requires-2-clause-e
taken-requires-2-clause-e c =
    let s = c.args.source.now in
    let lower = (resolution_is_area s.region.rect s.region.levels s.region.top c.requires.source.region.rect).lower in
    let to = c.requires.to in
    omega (arith, to, lower)
