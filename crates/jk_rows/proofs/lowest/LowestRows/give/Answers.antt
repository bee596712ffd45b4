use Rattle.std.proofs.Common.{◌≡◌, ℕ, ◌+◌, ◌-◌, ◌*◌, ◌/◌, ◌%◌, ◌^◌, ◌<◌, ◌≤◌, ◌⊎◌, ◌++◌, length, take, drop, sym, ◌∙◌, ap, subst, arith}
use Rattle.std.proofs.lemmas.Nat.{div-add-mod'}
use Rattle.jk_math.specs.declared.rect.Rect.{Rect}
use Rattle.jk_math.proofs.Laws.{raster_length}
use Rattle.jk_marks.specs.declared.coding.Coding.{Coding}
use Rattle.jk_wave.proofs.Laws.{resolution_is_area}
use Rattle.jk_tile.specs.decoding.Source.{source_coefficient}
use Rattle.jk_tile.specs.decoding.Strips.{block_exponent, strip_area, IsStrip, IsRowFine}
use Rattle.jk_rows.specs.Components.{area_at}
use Rattle.jk_rows.proofs.Taken.{area_is}
use Rattle.jk_rows.proofs.LowRows.{low_at, IsGiven, lie_in_lowest, low_fits, low_rows, low_after}
use Rattle.jk_rows.proofs.lowest.LowestRows.give.Goals as goal

pub strip_area-first-requires : goal.strip_area-first-requires
strip_area-first-requires c =
    let s = c.args.source.now in
    let v : ℕ = c.args.rows.from in
    let e : ℕ = c.block_exponent.result in
    let power : e ≡ block_exponent s.coding 0 = c.block_exponent.ensures.value ∙ ap (λ (k : Coding). block_exponent k 0) c.coding.ensures.value in
    let lower = (resolution_is_area s.region.rect s.region.levels 0 c.requires.source.region.rect).lower in
    let order = c.requires.order in let to = c.requires.to in
    let split = div-add-mod' v (2 ^ e) in
    let small : v / 2 ^ e * 2 ^ e < 2 ^ 31 = omega (arith, split, order, to, lower) in
    record {
      row = record {
        resolution = omega arith;
        band = omega arith;
        small = subst (λ n. v / 2 ^ e * 2 ^ n < 2 ^ 31) power small;
      };
    }

pub overflow_sub-front : goal.overflow_sub-front
overflow_sub-front c =
    let s = c.args.source.now in
    let v : ℕ = c.args.rows.from in
    let t : ℕ = c.args.rows.to in
    let e : ℕ = c.block_exponent.result in
    let power : e ≡ block_exponent s.coding 0 = c.block_exponent.ensures.value ∙ ap (λ (k : Coding). block_exponent k 0) c.coding.ensures.value in
    let at : IsGiven s v t (v / 2 ^ e) = record { from = c.requires.from; order = c.requires.order; to = c.requires.to; cell = ap (λ n. v / 2 ^ n) power; within = subst (λ n. t ≤ (v / 2 ^ n + 1) * 2 ^ block_exponent s.coding 0) (sym power) c.requires.cell } in
    let begins = (lie_in_lowest s v t (v / 2 ^ e) c.requires.source at).begins in
    let first = ap (λ (a : Rect). a.y0) c.strip_area-first.ensures.value in
    omega (arith, begins, first)

pub cut-requires : goal.cut-requires
cut-requires c =
    let s = c.args.source.now in
    let v : ℕ = c.args.rows.from in
    let t : ℕ = c.args.rows.to in
    let e : ℕ = c.block_exponent.result in
    let m : ℕ = v / 2 ^ e in
    let power : e ≡ block_exponent s.coding 0 = c.block_exponent.ensures.value ∙ ap (λ (k : Coding). block_exponent k 0) c.coding.ensures.value in
    let at : IsGiven s v t m = record { from = c.requires.from; order = c.requires.order; to = c.requires.to; cell = ap (λ n. v / 2 ^ n) power; within = subst (λ n. t ≤ (v / 2 ^ n + 1) * 2 ^ block_exponent s.coding 0) (sym power) c.requires.cell } in
    let area = area_is s 0 c.rect.result c.region.result c.resolution-area.result c.rect.ensures.value c.region.ensures.value c.resolution-area.ensures.value in
    let w : ℕ = c.resolution-area.result.x1 - c.resolution-area.result.x0 in
    let wide : w ≡ (area_at s 0).x1 - (area_at s 0).x0 = ap (λ (a : Rect). a.x1 - a.x0) area in
    let b = strip_area s (low_at m) in
    let strip = c.ready.new.self.strip.items in
    let has = subst (λ n. IsStrip s (low_at (v / 2 ^ n)) strip) (sym power) c.in_ok-ready.ensures.strip in
    let fits = low_fits (area_at s 0) b v t w strip (lie_in_lowest s v t m c.requires.source at) c.requires.order wide (ap length has ∙ raster_length b (source_coefficient s 0)) in
    let front : (v - c.strip_area-first.result.y0) * w ≡ (v - b.y0) * w = ap (λ (a : Rect). (v - a.y0) * w) c.strip_area-first.ensures.value in
    let list = ap length c.deref.ensures.value in
    omega (arith, fits, front, list)

pub returns-clause-blocks : goal.returns-clause-blocks
returns-clause-blocks c =
    let s = c.args.source.now in
    let v : ℕ = c.args.rows.from in
    let t : ℕ = c.args.rows.to in
    let e : ℕ = c.block_exponent.result in
    let m : ℕ = v / 2 ^ e in
    let power : e ≡ block_exponent s.coding 0 = c.block_exponent.ensures.value ∙ ap (λ (k : Coding). block_exponent k 0) c.coding.ensures.value in
    let at : IsGiven s v t m = record { from = c.requires.from; order = c.requires.order; to = c.requires.to; cell = ap (λ n. v / 2 ^ n) power; within = subst (λ n. t ≤ (v / 2 ^ n + 1) * 2 ^ block_exponent s.coding 0) (sym power) c.requires.cell } in
    let strip = c.ready.new.self.strip.items in
    let has = subst (λ n. IsStrip s (low_at (v / 2 ^ n)) strip) (sym power) c.in_ok-ready.ensures.strip in
    let fine = subst (λ n. (v ≡ (area_at s 0).y0) ⊎ (v % 2 ^ block_exponent s.coding 0 ≡ 0) → IsRowFine s (low_at (v / 2 ^ n))) (sym power) c.in_ok-ready.ensures.fine in
    low_after s v t m c.args.self.now.chains c.ready.new.self.chains c.args.self.now.strip.items strip c.requires.source at c.requires.blocks c.ready.ensures.same has fine

pub returns-clause-rows : goal.returns-clause-rows
returns-clause-rows c =
    let s = c.args.source.now in
    let v : ℕ = c.args.rows.from in
    let t : ℕ = c.args.rows.to in
    let e : ℕ = c.block_exponent.result in
    let m : ℕ = v / 2 ^ e in
    let power : e ≡ block_exponent s.coding 0 = c.block_exponent.ensures.value ∙ ap (λ (k : Coding). block_exponent k 0) c.coding.ensures.value in
    let at : IsGiven s v t m = record { from = c.requires.from; order = c.requires.order; to = c.requires.to; cell = ap (λ n. v / 2 ^ n) power; within = subst (λ n. t ≤ (v / 2 ^ n + 1) * 2 ^ block_exponent s.coding 0) (sym power) c.requires.cell } in
    let area = area_is s 0 c.rect.result c.region.result c.resolution-area.result c.rect.ensures.value c.region.ensures.value c.resolution-area.ensures.value in
    let w : ℕ = c.resolution-area.result.x1 - c.resolution-area.result.x0 in
    let wide : w ≡ (area_at s 0).x1 - (area_at s 0).x0 = ap (λ (a : Rect). a.x1 - a.x0) area in
    let strip = c.ready.new.self.strip.items in
    let has = subst (λ n. IsStrip s (low_at (v / 2 ^ n)) strip) (sym power) c.in_ok-ready.ensures.strip in
    let front : (v - c.strip_area-first.result.y0) * w ≡ (v - (strip_area s (low_at m)).y0) * w = ap (λ (a : Rect). (v - a.y0) * w) c.strip_area-first.ensures.value in
    c.in_ok-extend_from_slice.ensures.items
    ∙ ap (λ l. c.args.out.now.items ++ l) (c.cut.ensures ∙ ap (λ n. take ((t - v) * w) (drop n c.deref.result.now)) front ∙ ap (λ l. take ((t - v) * w) (drop ((v - (strip_area s (low_at m)).y0) * w) l)) c.deref.ensures.value
    ∙ low_rows s v t m w strip c.requires.source at has wide)
