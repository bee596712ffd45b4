use Rattle.std.proofs.Common.{◌≡◌, ℕ, refl, ◌+◌, ◌<◌, inl, inr, List, ℤ, length, ◌∙◌, ap, sym, subst, arith}
use Rattle.std.proofs.lemmas.Bool.{cases_eq}
use Rattle.std.specs.Vec.{with_items}
use Rattle.jk_math.specs.declared.rect.Rect.{Rect}
use Rattle.jk_math.specs.Raster.{places_of}
use Rattle.jk_geom.specs.Rectangles.{is_empty, IsWithin}
use Rattle.jk_geom.specs.Precincts.{precinct_number}
use Rattle.jk_wave.proofs.Laws.{part_within}
use Rattle.jk_tile.specs.TileBlocks.{block_at_place}
use Rattle.jk_tile.specs.decoding.Strips.{strip_area, ShowsPlace, KeepsPlaces, ShowsPartIn, IsPartFine}
use Rattle.jk_tile.proofs.Showing.{with_same, followed_numbers}
use Rattle.jk_tile.proofs.decoding.StripLaws.{across_is, strip_whole, strip_none, row_whole, none_in_row, block_in_strip}
use Rattle.jk_tile.proofs.decoding.strips.read_strip.Goals as goal

pub loop-k-init : goal.loop-k-init
loop-k-init c = record {
  long = c.in_ok-lengthen.ensures.long;
  fine = λ n from to. absurd (omega (arith, from, to));
  shows = λ n from to. absurd (omega (arith, from, to));
}

pub first_precinct-first-requires-clause-some : goal.first_precinct-first-requires-clause-some
first_precinct-first-requires-clause-some c = ap is_empty (sym c.strip_area-area.ensures.value) ∙ sym c.is_empty.ensures ∙ c.if-is_empty.false

pub returns-then-is_empty-clause-strip : goal.returns-then-is_empty-clause-strip
returns-then-is_empty-clause-strip c =
    let area = c.strip_area-area.ensures.value in
    strip_none c.args.source.now c.args.at c.lengthen.new.strip.items (ap is_empty (sym area) ∙ sym c.is_empty.ensures ∙ c.if-is_empty.true) (c.in_ok-lengthen.ensures.long ∙ ap places_of area)

pub returns-then-is_empty-clause-fine : goal.returns-then-is_empty-clause-fine
returns-then-is_empty-clause-fine c = none_in_row c.args.source.now c.args.at (ap is_empty (sym c.strip_area-area.ensures.value) ∙ sym c.is_empty.ensures ∙ c.if-is_empty.true)

pub follow-requires-clause-chain : goal.follow-requires-clause-chain
follow-requires-clause-chain c =
    let s = c.args.source.now in
    let wide = across_is s c.args.at.resolution c.precinct_count-across.result.0 c.rect-rect.result c.coding.result.now c.rect-rect.ensures.value c.coding.ensures.value c.precinct_count-across.ensures.across in
    let lt : c.first_precinct-first.result + c.loop-k.k < precinct_number s.region.rect s.coding c.args.at.resolution = omega (arith, wide, c.loop-k-test.true, c.first_precinct-first.ensures.inside) in
    let own = c.requires.chains.each (c.first_precinct-first.result + c.loop-k.k) lt in
    (own.0, own.1)

pub read_row_part-requires-clause-numbers : goal.read_row_part-requires-clause-numbers
read_row_part-requires-clause-numbers c =
    let s = c.args.source.now in
    let r = c.args.at.resolution in
    let n : ℕ = c.first_precinct-first.result + c.loop-k.k in
    let wide = across_is s r c.precinct_count-across.result.0 c.rect-rect.result c.coding.result.now c.rect-rect.ensures.value c.coding.ensures.value c.precinct_count-across.ensures.across in
    let lt : n < precinct_number s.region.rect s.coding r = omega (arith, wide, c.loop-k-test.true, c.first_precinct-first.ensures.inside) in
    followed_numbers s r n (precinct_number s.region.rect s.coding r) s.packets s.component c.args.chains.now c.follow.new.numbers.items c.deref.result.now refl refl c.requires.chains lt c.in_ok-follow.ensures.numbers c.deref.ensures.value

pub loop-k-preserved : goal.loop-k-preserved
loop-k-preserved c =
    let s = c.args.source.now in
    let w = c.args.at in
    let area = c.strip_area-area.result in
    let is = c.strip_area-area.ensures.value in
    let last : ℕ = c.first_precinct-first.result + c.loop-k.k in
    let old = c.loop-k.strip in
    let new = c.read_row_part.new.strip in
    let done = c.in_ok-read_row_part.ensures in
    let lent = c.deref_mut.ensures.value in
    let long : length new ≡ length old.items = done.long ∙ ap (λ (xs : List ℤ). length xs) lent in
    let back : (with_items old new).items ≡ new = with_same old new long in
    let keeps = subst (λ (xs : List ℤ). KeepsPlaces s w.resolution w.band area xs new) lent done.keeps in
    record {
      long = ap (λ (xs : List ℤ). length xs) back ∙ long ∙ c.loop-k.invariant.long;
      fine = λ n from to. elim (cases_eq n last) [
        | inl same ↦ subst (IsPartFine s w) (sym same) done.fine
        | inr other ↦ c.loop-k.invariant.fine n from (omega (arith, to, other))
      ];
      shows = λ n from to. elim (cases_eq n last) [
        | inl same ↦ subst (λ m. ShowsPartIn s w area m (with_items old new).items) (sym same) (subst (λ (xs : List ℤ). ShowsPartIn s w area last xs) (sym back) done.shows)
        | inr other ↦ λ j lt row x y h.
            let inside : IsWithin area x y = subst (λ (a : Rect). IsWithin a x y) (sym is)
            (part_within (block_at_place s.region.rect s.coding w.resolution n w.band j) (strip_area s w) x y (block_in_strip s w n j lt row) h) in
            subst (λ (xs : List ℤ). ShowsPlace s w.resolution w.band area xs x y) (sym back) (keeps x y inside (c.loop-k.invariant.shows n from (omega (arith, to, other)) j lt row x y h))
      ];
    }

pub returns-clause-strip : goal.returns-clause-strip
returns-clause-strip c =
    let s = c.args.source.now in
    let w = c.args.at in
    let is = c.strip_area-area.ensures.value in
    let wide = across_is s w.resolution c.precinct_count-across.result.0 c.rect-rect.result c.coding.result.now c.rect-rect.ensures.value c.coding.ensures.value c.precinct_count-across.ensures.across in
    strip_whole s w c.first_precinct-first.result c.loop-k.strip.items c.rect-rect.ensures.source c.requires.row c.first_precinct-first.ensures.value (c.loop-k.invariant.long ∙ ap places_of is)
    (λ n from to. subst (λ (a : Rect). ShowsPartIn s w a n c.loop-k.strip.items) is (c.loop-k.invariant.shows n from (omega (arith, to, wide, c.loop-k-test.false))))

pub returns-clause-fine : goal.returns-clause-fine
returns-clause-fine c =
    let s = c.args.source.now in
    let w = c.args.at in
    let wide = across_is s w.resolution c.precinct_count-across.result.0 c.rect-rect.result c.coding.result.now c.rect-rect.ensures.value c.coding.ensures.value c.precinct_count-across.ensures.across in
    row_whole s w c.first_precinct-first.result c.first_precinct-first.ensures.value (λ n from to. c.loop-k.invariant.fine n from (omega (arith, to, wide, c.loop-k-test.false)))
