use Rattle.std.proofs.Common.{◌≡◌, ℕ, ◌+◌, ◌*◌, ◌/◌, ◌%◌, ◌^◌, ◌<◌, ◌⊎◌, ◌++◌, [], Result, Ok, Err, ℤ, refl, sym, ◌∙◌, ap, subst, arith}
use Rattle.std.specs.Prelude.{OnOk}
use Rattle.jk_math.specs.declared.rect.Rect.{Rect}
use Rattle.jk_marks.specs.declared.coding.Coding.{Coding}
use Rattle.jk_math.specs.Raster.{raster}
use Rattle.jk_wave.specs.climbing.Held.{rows_between}
use Rattle.jk_wave.specs.climbing.Intervals.{rows_reached}
use Rattle.jk_wave.specs.Levels.{half_area}
use Rattle.jk_wave.specs.Resolutions.{resolution_of}
use Rattle.jk_wave.specs.declared.climbing.level.ClimbingLevel.{ClimbingLevel}
use Rattle.jk_wave.specs.climbing.Standing.{AreHigh, ShowHigh, IsStanding, MayTake, HoldsPlanes}
use Rattle.jk_wave.proofs.Laws.{resolution_is_area, no_rows}
use Rattle.jk_tile.specs.decoding.Source.{source_coefficient}
use Rattle.jk_tile.specs.decoding.Strips.{block_exponent, IsRowFine}
use Rattle.jk_rows.specs.Components.{area_at, HasRow}
use Rattle.jk_rows.proofs.Cells.{half_small}
use Rattle.jk_rows.proofs.Standing.{may_take}
use Rattle.jk_rows.proofs.Climbed.{AreOf, is_taken, high_taken, high_shown, stands_after, out_of}
use Rattle.jk_rows.proofs.level.RowLevel.take.Goals as goal

on_two : {A E P Q S : Type 0} (r : Result A E) → (P → Q → S) → OnOk r P → OnOk r Q → OnOk r S
on_two (Ok x) go p q = go p q
on_two (Err e) go p q = p

pub high_rows-high-requires-clause-small : goal.high_rows-high-requires-clause-small
high_rows-high-requires-clause-small c =
    let s = c.args.source.now in
    let r : ℕ = c.args.q + 1 in
    let power : c.block_exponent-exponent.result ≡ block_exponent s.coding r = c.block_exponent-exponent.ensures.value ∙ ap (λ (k : Coding). block_exponent k r) c.coding.ensures.value in
    let lower = (resolution_is_area s.region.rect s.region.levels r c.requires.source.region.rect).lower in
    let order = c.requires.order in let to = c.requires.to in
    subst (λ n. c.args.rows.from / 2 ^ (c.block_exponent-exponent.result + 1) * 2 ^ n < 2 ^ 31) power (half_small c.args.rows.from c.block_exponent-exponent.result (omega (arith, order, to, lower)))

pub step-requires-clause-standing : goal.step-requires-clause-standing
step-requires-clause-standing c = subst IsStanding (sym c.ready.ensures.same.0) c.requires.stands.standing

pub step-requires-clause-may : goal.step-requires-clause-may
step-requires-clause-may c =
    let s = c.args.source.now in
    let rows = c.args.rows in
    let order = c.requires.order in
    subst (λ (l : ClimbingLevel). MayTake l [] rows.to) (sym c.ready.ensures.same.0)
    (may_take s c.args.q rows.from c.requires.waits.0 rows.to c.args.self.now c.requires.stands c.requires.waits.1 (omega (arith, order)) c.requires.to c.requires.pairs c.requires.waits.2)

pub step-requires-clause-high : goal.step-requires-clause-high
step-requires-clause-high c =
    let s = c.args.source.now in
    let q : ℕ = c.args.q in
    let rows = c.args.rows in
    let e : ℕ = c.block_exponent-exponent.result in
    let m : ℕ = rows.from / 2 ^ (e + 1) in
    let l = c.ready.new.self in
    let power : e ≡ block_exponent s.coding (q + 1) = c.block_exponent-exponent.ensures.value ∙ ap (λ (k : Coding). block_exponent k (q + 1)) c.coding.ensures.value in
    let at = is_taken s q rows.from rows.to m e c.args.self.now c.requires.q c.requires.stands c.requires.order c.requires.to power refl c.requires.cell in
    let has = subst (λ n. HasRow s q (rows.from / 2 ^ (n + 1)) l) (sym power) c.in_ok-ready.ensures.strips in
    let lower = (resolution_is_area s.region.rect s.region.levels (q + 1) c.requires.source.region.rect).lower in
    let order = c.requires.order in let to = c.requires.to in
    let small = subst (λ n. m * 2 ^ n < 2 ^ 31) power (half_small rows.from e (omega (arith, order, to, lower))) in
    let given : AreOf s q m c.high_rows-high.result l = record {
      hl = c.high_rows-high.ensures.hl.0;
      lh = c.high_rows-high.ensures.lh.0;
      hh = c.high_rows-high.ensures.hh.0;
      hl_list = c.high_rows-high.ensures.hl.1 ∙ c.deref.ensures.value;
      lh_list = c.high_rows-high.ensures.lh.1 ∙ c.deref-2.ensures.value;
      hh_list = c.high_rows-high.ensures.hh.1 ∙ c.deref-3.ensures.value;
    } in
    let high = high_taken s q rows.from rows.to m c.high_rows-high.result l c.requires.source at small has given in
    let same = c.ready.ensures.same.0 in
    let area : area_at s (q + 1) ≡ l.level.area = sym (ap (λ (k : ClimbingLevel). k.area) same ∙ c.requires.stands.is) in
    let place : rows.from ≡ l.level.v = sym (ap (λ (k : ClimbingLevel). k.v) same ∙ c.requires.stands.place) in
    subst (λ (a : Rect). AreHigh a l.level.v rows.to c.high_rows-high.result) area (subst (λ v. AreHigh (area_at s (q + 1)) v rows.to c.high_rows-high.result) place high)

pub returns-clause-stands : goal.returns-clause-stands
returns-clause-stands c =
    let s = c.args.source.now in
    let q : ℕ = c.args.q in
    let rows = c.args.rows in
    let e : ℕ = c.block_exponent-exponent.result in
    let m : ℕ = rows.from / 2 ^ (e + 1) in
    let l = c.ready.new.self in
    let power : e ≡ block_exponent s.coding (q + 1) = c.block_exponent-exponent.ensures.value ∙ ap (λ (k : Coding). block_exponent k (q + 1)) c.coding.ensures.value in
    let at = is_taken s q rows.from rows.to m e c.args.self.now c.requires.q c.requires.stands c.requires.order c.requires.to power refl c.requires.cell in
    let has = subst (λ n. HasRow s q (rows.from / 2 ^ (n + 1)) l) (sym power) c.in_ok-ready.ensures.strips in
    let fine = subst (λ n. (rows.from ≡ (area_at s (q + 1)).y0) ⊎ (rows.from % 2 ^ (n + 1) ≡ 0) → (i : ℕ) → i < 3 → IsRowFine s (record { resolution = q + 1; band = i; row = rows.from / 2 ^ (n + 1) })) (sym power) c.in_ok-ready.ensures.fine in
    let same = c.ready.ensures.same.0 in
    on_two c.step.result (λ standing stays.
    stands_after s q rows.from rows.to m e c.args.self.now _ c.requires.source at c.requires.stands power standing (stays.0 ∙ ap (λ (k : ClimbingLevel). k.area) same) stays.1 c.ready.ensures.same.1 has fine)
    c.step.ensures.standing c.step.ensures.same

pub returns-clause-samples : goal.returns-clause-samples
returns-clause-samples c =
    let s = c.args.source.now in
    let q : ℕ = c.args.q in
    let rows = c.args.rows in
    let e : ℕ = c.block_exponent-exponent.result in
    let m : ℕ = rows.from / 2 ^ (e + 1) in
    let l = c.ready.new.self in
    let power : e ≡ block_exponent s.coding (q + 1) = c.block_exponent-exponent.ensures.value ∙ ap (λ (k : Coding). block_exponent k (q + 1)) c.coding.ensures.value in
    let at = is_taken s q rows.from rows.to m e c.args.self.now c.requires.q c.requires.stands c.requires.order c.requires.to power refl c.requires.cell in
    let has = subst (λ n. HasRow s q (rows.from / 2 ^ (n + 1)) l) (sym power) c.in_ok-ready.ensures.strips in
    let given : AreOf s q m c.high_rows-high.result l = record {
      hl = c.high_rows-high.ensures.hl.0;
      lh = c.high_rows-high.ensures.lh.0;
      hh = c.high_rows-high.ensures.hh.0;
      hl_list = c.high_rows-high.ensures.hl.1 ∙ c.deref.ensures.value;
      lh_list = c.high_rows-high.ensures.lh.1 ∙ c.deref-2.ensures.value;
      hh_list = c.high_rows-high.ensures.hh.1 ∙ c.deref-3.ensures.value;
    } in
    let low = resolution_of s.region.rect s.region.levels (source_coefficient s) q in
    let bands : ℕ → ℕ → ℕ → ℤ = λ o. source_coefficient s (3 * q + o) in
    let shown = high_shown s q rows.from rows.to m c.high_rows-high.result l c.requires.source at has given in
    let same = c.ready.ensures.same.0 in
    let area : l.level.area ≡ area_at s (q + 1) = ap (λ (k : ClimbingLevel). k.area) same ∙ c.requires.stands.is in
    let place : l.level.v ≡ rows.from = ap (λ (k : ClimbingLevel). k.v) same ∙ c.requires.stands.place in
    let show = subst (λ (a : Rect). ShowHigh a l.level.v rows.to bands c.high_rows-high.result) (sym area) (subst (λ v. ShowHigh (area_at s (q + 1)) v rows.to bands c.high_rows-high.result) (sym place) shown) in
    let order = c.requires.order in
    on_two c.step.result (λ standing samples n waits under.
    let holds = subst (HoldsPlanes low bands n) (sym same) waits in
    let both = samples low bands n n holds show (sym (no_rows (half_area l.level.area 0) n n low (omega arith))) (omega (arith, place, order, under)) (omega arith) under in
    let out = out_of s q l.level.v rows.to l.level.area c.args.out.now.items c.step.new.out.items area both.1 in
    (both.0, subst (λ v. c.step.new.out.items ≡ c.args.out.now.items ++ raster (rows_between (area_at s (q + 1)) (rows_reached (area_at s (q + 1)) v) (rows_reached (area_at s (q + 1)) rows.to)) (resolution_of s.region.rect s.region.levels (source_coefficient s) (q + 1))) place out))
    c.step.ensures.standing c.step.ensures.samples
