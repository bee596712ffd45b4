use Rattle.std.proofs.Common.{◌≡◌, ℕ, ◌*◌, ◌/◌, ◌%◌, ◌^◌, ◌<◌, inl, inr, Result, Ok, Err, sym, ◌∙◌, ap, subst, arith}
use Rattle.std.specs.Prelude.{OnOk}
use Rattle.std.proofs.lemmas.Nat.{div-add-mod'}
use Rattle.jk_math.specs.declared.rect.Rect.{Rect}
use Rattle.jk_marks.specs.declared.coding.Coding.{Coding}
use Rattle.jk_wave.proofs.Laws.{resolution_is_area}
use Rattle.jk_tile.specs.decoding.Strips.{block_exponent, IsStrip, IsRowFine}
use Rattle.jk_rows.proofs.Taken.{area_is}
use Rattle.jk_rows.proofs.Climbed.{not_first}
use Rattle.jk_rows.proofs.LowRows.{low_at, low_before}
use Rattle.jk_rows.proofs.lowest.LowestRows.ready.Goals as goal

on_one : {A E P S : Type 0} (r : Result A E) → (P → S) → OnOk r P → OnOk r S
on_one (Ok x) go p = go p
on_one (Err e) go p = p

pub read_strip-requires-clause-row : goal.read_strip-requires-clause-row
read_strip-requires-clause-row c =
    let s = c.args.source.now in
    let v : ℕ = c.args.v in
    let power : c.block_exponent-exponent.result ≡ block_exponent s.coding 0 = c.block_exponent-exponent.ensures.value ∙ ap (λ (k : Coding). block_exponent k 0) c.coding.ensures.value in
    let lower = (resolution_is_area s.region.rect s.region.levels 0 c.requires.source.region.rect).lower in
    let inside = c.requires.inside in
    let split = div-add-mod' v (2 ^ c.block_exponent-exponent.result) in
    let small : v / 2 ^ c.block_exponent-exponent.result * 2 ^ c.block_exponent-exponent.result < 2 ^ 31 = omega (arith, split, inside, lower) in
    record {
      resolution = omega arith;
      band = omega arith;
      small = subst (λ n. v / 2 ^ c.block_exponent-exponent.result * 2 ^ n < 2 ^ 31) power small;
    }

pub returns-then-is_first-clause-strip : goal.returns-then-is_first-clause-strip
returns-then-is_first-clause-strip c =
    let s = c.args.source.now in
    let power : c.block_exponent-exponent.result ≡ block_exponent s.coding 0 = c.block_exponent-exponent.ensures.value ∙ ap (λ (k : Coding). block_exponent k 0) c.coding.ensures.value in
    subst (λ n. OnOk c.read_strip.result (IsStrip s (low_at (c.args.v / 2 ^ n)) c.read_strip.new.strip.items)) power c.read_strip.ensures.strip

pub returns-then-is_first-clause-fine : goal.returns-then-is_first-clause-fine
returns-then-is_first-clause-fine c =
    let s = c.args.source.now in
    let power : c.block_exponent-exponent.result ≡ block_exponent s.coding 0 = c.block_exponent-exponent.ensures.value ∙ ap (λ (k : Coding). block_exponent k 0) c.coding.ensures.value in
    on_one c.read_strip.result (λ fine begins. fine) (subst (λ n. OnOk c.read_strip.result (IsRowFine s (low_at (c.args.v / 2 ^ n)))) power c.read_strip.ensures.fine)

pub returns-clause-strip : goal.returns-clause-strip
returns-clause-strip c =
    let s = c.args.source.now in
    let v : ℕ = c.args.v in
    let power : c.block_exponent-exponent.result ≡ block_exponent s.coding 0 = c.block_exponent-exponent.ensures.value ∙ ap (λ (k : Coding). block_exponent k 0) c.coding.ensures.value in
    let area = area_is s 0 c.rect.result c.region.result c.resolution-area.result c.rect.ensures.value c.region.ensures.value c.resolution-area.ensures.value in
    let none = not_first c.resolution-area.result v c.block_exponent-exponent.result (sym c.is_first.ensures ∙ c.if-is_first.false) in
    low_before s v c.args.self.now.chains c.args.self.now.strip.items c.requires.blocks c.requires.from c.requires.inside (λ same. none.0 (same ∙ sym (ap (λ (a : Rect). a.y0) area))) (λ begins. none.1 (ap (λ n. v % 2 ^ n) power ∙ begins))

pub returns-clause-fine : goal.returns-clause-fine
returns-clause-fine c = λ begins.
    let s = c.args.source.now in
    let v : ℕ = c.args.v in
    let power : c.block_exponent-exponent.result ≡ block_exponent s.coding 0 = c.block_exponent-exponent.ensures.value ∙ ap (λ (k : Coding). block_exponent k 0) c.coding.ensures.value in
    let area = area_is s 0 c.rect.result c.region.result c.resolution-area.result c.rect.ensures.value c.region.ensures.value c.resolution-area.ensures.value in
    let none = not_first c.resolution-area.result v c.block_exponent-exponent.result (sym c.is_first.ensures ∙ c.if-is_first.false) in
    absurd (elim begins [
      | inl first ↦ none.0 (first ∙ sym (ap (λ (a : Rect). a.y0) area))
      | inr even ↦ none.1 (ap (λ n. v % 2 ^ n) power ∙ even)
    ])
