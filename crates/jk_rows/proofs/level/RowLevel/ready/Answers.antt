use Rattle.std.proofs.Common.{◌≡◌, ℕ, ◌+◌, ◌*◌, ◌/◌, ◌%◌, ◌^◌, ◌<◌, inl, inr, Result, Ok, Err, refl, sym, ◌∙◌, ap, subst, arith}
use Rattle.std.specs.Prelude.{OnOk}
use Rattle.jk_math.specs.declared.rect.Rect.{Rect}
use Rattle.jk_marks.specs.declared.coding.Coding.{Coding}
use Rattle.jk_wave.proofs.Laws.{resolution_is_area}
use Rattle.jk_tile.specs.decoding.Strips.{block_exponent, IsRowFine}
use Rattle.jk_rows.specs.Components.{HasRow}
use Rattle.jk_rows.proofs.Taken.{area_is}
use Rattle.jk_rows.proofs.Cells.{half_small}
use Rattle.jk_rows.proofs.Climbed.{not_first, one_taken, row_before}
use Rattle.jk_rows.proofs.level.RowLevel.ready.Goals as goal

on_one : {A E P S : Type 0} (r : Result A E) → (P → S) → OnOk r P → OnOk r S
on_one (Ok x) go p = go p
on_one (Err e) go p = p

pub fill-requires-clause-small : goal.fill-requires-clause-small
fill-requires-clause-small c =
    let s = c.args.source.now in
    let r : ℕ = c.args.q + 1 in
    let power : c.block_exponent-exponent.result ≡ block_exponent s.coding r = c.block_exponent-exponent.ensures.value ∙ ap (λ (k : Coding). block_exponent k r) c.coding.ensures.value in
    let lower = (resolution_is_area s.region.rect s.region.levels r c.requires.source.region.rect).lower in
    let small = half_small c.args.v c.block_exponent-exponent.result (let v = c.requires.inside in omega (arith, v, lower)) in
    subst (λ n. c.args.v / 2 ^ (c.block_exponent-exponent.result + 1) * 2 ^ n < 2 ^ 31) power small

pub returns-then-is_first-clause-strips : goal.returns-then-is_first-clause-strips
returns-then-is_first-clause-strips c =
    let s = c.args.source.now in
    let r : ℕ = c.args.q + 1 in
    let power : c.block_exponent-exponent.result ≡ block_exponent s.coding r = c.block_exponent-exponent.ensures.value ∙ ap (λ (k : Coding). block_exponent k r) c.coding.ensures.value in
    subst (λ n. OnOk c.fill.result (HasRow s c.args.q (c.args.v / 2 ^ (n + 1)) c.fill.new.self)) power c.fill.ensures.strips

pub returns-then-is_first-clause-fine : goal.returns-then-is_first-clause-fine
returns-then-is_first-clause-fine c =
    let s = c.args.source.now in
    let r : ℕ = c.args.q + 1 in
    let power : c.block_exponent-exponent.result ≡ block_exponent s.coding r = c.block_exponent-exponent.ensures.value ∙ ap (λ (k : Coding). block_exponent k r) c.coding.ensures.value in
    on_one c.fill.result (λ fine begins. fine)
    (subst (λ n. OnOk c.fill.result ((i : ℕ) → i < 3 → IsRowFine s (record { resolution = r; band = i; row = c.args.v / 2 ^ (n + 1) }))) power c.fill.ensures.fine)

pub returns-clause-strips : goal.returns-clause-strips
returns-clause-strips c =
    let s = c.args.source.now in
    let q : ℕ = c.args.q in
    let v : ℕ = c.args.v in
    let e : ℕ = block_exponent s.coding (q + 1) in
    let power : c.block_exponent-exponent.result ≡ e = c.block_exponent-exponent.ensures.value ∙ ap (λ (k : Coding). block_exponent k (q + 1)) c.coding.ensures.value in
    let area = area_is s (q + 1) c.rect.result c.region.result c.resolution-area.result c.rect.ensures.value c.region.ensures.value c.resolution-area.ensures.value in
    let none = not_first c.resolution-area.result v (c.block_exponent-exponent.result + 1) (sym c.is_first.ensures ∙ c.if-is_first.false) in
    let at = one_taken s q v e c.args.self.now c.requires.q c.requires.stands c.requires.inside refl in
    row_before s q v (v + 1) (v / 2 ^ (e + 1)) e c.args.self.now at c.requires.stands refl (λ same. none.0 (sym same ∙ sym (ap (λ (a : Rect). a.y0) area))) (λ begins. none.1 (ap (λ n. v % 2 ^ (n + 1)) power ∙ begins))

pub returns-clause-fine : goal.returns-clause-fine
returns-clause-fine c = λ begins.
    let s = c.args.source.now in
    let q : ℕ = c.args.q in
    let v : ℕ = c.args.v in
    let e : ℕ = block_exponent s.coding (q + 1) in
    let power : c.block_exponent-exponent.result ≡ e = c.block_exponent-exponent.ensures.value ∙ ap (λ (k : Coding). block_exponent k (q + 1)) c.coding.ensures.value in
    let area = area_is s (q + 1) c.rect.result c.region.result c.resolution-area.result c.rect.ensures.value c.region.ensures.value c.resolution-area.ensures.value in
    let none = not_first c.resolution-area.result v (c.block_exponent-exponent.result + 1) (sym c.is_first.ensures ∙ c.if-is_first.false) in
    absurd (elim begins [
      | inl first ↦ none.0 (first ∙ sym (ap (λ (a : Rect). a.y0) area))
      | inr even ↦ none.1 (ap (λ n. v % 2 ^ (n + 1)) power ∙ even)
    ])
