use Rattle.std.proofs.Common.{◌≡◌, ℕ, ◌+◌, ◌-◌, ◌*◌, ◌/◌, ◌^◌, ◌≤◌, ◌++◌, ℤ, sym, ap, subst, ◌∙◌, arith}
use Rattle.std.specs.List.{All}
use Rattle.std.specs.Global.{Vec}
use Rattle.jk_math.specs.declared.rect.Rect.{Rect}
use Rattle.jk_math.specs.Raster.{columns_of, raster}
use Rattle.jk_math.specs.Signed.{IsBelow}
use Rattle.jk_geom.specs.Rectangles.{IsArea}
use Rattle.jk_wave.specs.Levels.{half_bound, half_area}
use Rattle.jk_wave.specs.Resolutions.{woven_plane}
use Rattle.jk_wave.specs.climbing.Held.{rows_between, HasRoom, IsClimb}
use Rattle.jk_wave.specs.climbing.PartRows.{across}
use Rattle.jk_wave.proofs.climbing.Given.{joined}
use Rattle.jk_wave.proofs.climbing.Steps.{low_shown, all_drop, all_append, rows_left}
use Rattle.jk_wave.proofs.climbing.level.ClimbingLevel.step.Goals as goal

pub returns-clause-standing : goal.returns-clause-standing
returns-clause-standing c =
    let s = c.args.self.now in
    let n = c.take.new.self in
    let st = c.requires.standing in
    let same = c.in_ok-take.ensures.same in
    let upper = ap (λ (b : Rect). b.y0) same.0 in
    let lower = ap (λ (b : Rect). b.y1) same.0 in
    let P = IsBelow (2 ^ 29 - 2 ^ 26) in
    record {
      area = subst IsArea (sym same.0) st.area;
      upper = omega (arith, upper, st.upper, c.requires.may.order);
      lower = omega (arith, lower, c.requires.may.inside);
      pairs = λ behind less. c.requires.may.pairs (omega (arith, behind, upper)) (omega (arith, less, lower));
      ready = λ less. subst (λ (b : Rect). HasRoom b n.climb n.next) (sym same.0) (c.in_ok-take.ensures.ready (omega (arith, less, lower)));
      small = subst (All P) (sym c.forget.ensures) (all_drop P _ n.low.items
          (subst (All P) (sym (ap (λ (v : Vec ℤ). v.items) same.2 ∙ c.in_ok-extend_from_slice.ensures.items)) (all_append P s.low.items c.args.fresh.now st.small c.requires.may.small)));
    }

pub returns-clause-samples : goal.returns-clause-samples
returns-clause-samples c low bands d e holds high fresh above more enough =
    let s = c.args.self.now in
    let a = s.area in
    let t : ℕ = c.args.t in
    let n = c.take.new.self in
    let same = c.in_ok-take.ensures.same in
    let ext = c.extend_from_slice.new.self in
    let half = half_area a 0 in
    let v : ℕ = half_bound s.v 0 in
    let waits : ext.items ≡ raster (rows_between half v e) low = c.in_ok-extend_from_slice.ensures.items ∙ ap (λ l. l ++ c.args.fresh.now) holds.waits
    ∙ ap (λ l. raster (rows_between half v d) low ++ l) fresh ∙ joined half v d e low above more in
    let done = c.in_ok-take.ensures.samples low bands (low_shown a s.v t e low ext.items enough waits) high holds.climbs in
    let count : ((t + 1) / 2 - (n.v + 1) / 2) * ((n.area.x1 + 1) / 2 - (n.area.x0 + 1) / 2) ≡ (half_bound t 0 - v) * columns_of half =
    ap (λ m. ((t + 1) / 2 - (m + 1) / 2) * ((n.area.x1 + 1) / 2 - (n.area.x0 + 1) / 2)) same.1
    ∙ ap (λ (b : Rect). ((t + 1) / 2 - (s.v + 1) / 2) * ((b.x1 + 1) / 2 - (b.x0 + 1) / 2)) same.0
    ∙ ap (λ m. m * ((a.x1 + 1) / 2 - (a.x0 + 1) / 2)) (let z : (t + 1) / 2 - (s.v + 1) / 2 ≡ half_bound t 0 - v = omega arith in z)
    ∙ ap (λ m. (half_bound t 0 - v) * m) (let z : (a.x1 + 1) / 2 - (a.x0 + 1) / 2 ≡ columns_of half = omega arith in z) in (
      record {
        climbs = λ less. subst (λ (b : Rect). IsClimb b (across b (woven_plane low bands)) t n.climb) (sym same.0) (done.0 (let lower = ap (λ (b : Rect). b.y1) same.0 in omega (arith, less, lower)));
        waits = subst (λ (b : Rect). c.forget.new.numbers.items ≡ raster (rows_between (half_area b 0) (half_bound t 0) e) low) (sym same.0)
            (c.forget.ensures ∙ rows_left half v (half_bound t 0) e _ low n.low.items (let z : half_bound s.v 0 ≤ half_bound t 0 = omega (arith, c.requires.may.order) in z) enough count (ap (λ (w : Vec ℤ). w.items) same.2 ∙ waits));
      },
      done.1,
    )
