use Rattle.std.proofs.Common.{◌≡◌, ◌+◌, ◌-◌, ◌*◌, ◌/◌, ◌^◌, ◌≤◌, length, refl, sym, subst, arith}
use Rattle.std.specs.List.{All}
use Rattle.jk_math.specs.Signed.{IsBelow}
use Rattle.jk_wave.specs.Levels.{half_bound}
use Rattle.jk_wave.specs.Resolutions.{woven_plane}
use Rattle.jk_wave.proofs.ColumnRows.{on_done}
use Rattle.jk_wave.specs.declared.climbing.parts.WovenRows.{WovenRows}
use Rattle.jk_wave.specs.climbing.PartRows.{half_width, across}
use Rattle.jk_wave.proofs.climbing.WovenParts.{rows_below, parts_agree}
use Rattle.jk_wave.proofs.climbing.Steps.{Same, parts_stand, parts_show}
use Rattle.jk_wave.proofs.climbing.level.ClimbingLevel.take.Goals as goal

pub climb_to-requires-clause-stands : goal.climb_to-requires-clause-stands
climb_to-requires-clause-stands c =
    let s : WovenRows = record { area = c.args.self.now.area; v = c.args.self.now.v; t = c.args.t; ll = record { from = (c.args.self.now.v + 1) / 2; values = c.deref.result }; hl = c.args.high.now.hl; lh = c.args.high.now.lh; hh = c.args.high.now.hh } in
    let h = c.args.high.now in
    let st = c.requires.standing in
    let same : Same s h = record { hl = refl; lh = refl; hh = refl; from = (let e : (s.v + 1) / 2 ≡ half_bound s.v 0 = omega arith in e) } in
    parts_stand s h same st.area st.upper c.requires.order c.requires.to
    (subst (λ l. (half_bound s.t 0 - half_bound s.v 0) * half_width s.area 0 ≤ length l) (sym c.deref.ensures.value) c.requires.enough)
    (subst (All (IsBelow (2 ^ 29 - 2 ^ 26))) (sym c.deref.ensures.value) st.small) c.requires.high

pub climb_to-requires-clause-small : goal.climb_to-requires-clause-small
climb_to-requires-clause-small c = rows_below _ (climb_to-requires-clause-stands c)

pub returns-clause-samples : goal.returns-clause-samples
returns-clause-samples c =
    let s : WovenRows = record { area = c.args.self.now.area; v = c.args.self.now.v; t = c.args.t; ll = record { from = (c.args.self.now.v + 1) / 2; values = c.deref.result }; hl = c.args.high.now.hl; lh = c.args.high.now.lh; hh = c.args.high.now.hh } in
    let h = c.args.high.now in
    let st = c.requires.standing in
    let same : Same s h = record { hl = refl; lh = refl; hh = refl; from = (let e : (s.v + 1) / 2 ≡ half_bound s.v 0 = omega arith in e) } in
    let stands = parts_stand s h same st.area st.upper c.requires.order c.requires.to
    (subst (λ l. (half_bound s.t 0 - half_bound s.v 0) * half_width s.area 0 ≤ length l) (sym c.deref.ensures.value) c.requires.enough)
    (subst (All (IsBelow (2 ^ 29 - 2 ^ 26))) (sym c.deref.ensures.value) st.small) c.requires.high in
    on_done c.climb_to.result (λ given low bands shows high climb.
    given (across s.area (woven_plane low bands)) (parts_agree s low bands stands (parts_show s h low bands c.args.self.now.low.items same c.deref.ensures.value shows high)) climb) c.climb_to.ensures.samples
