-- A level between two steps: what it may take, and how it is left.
use Rattle.std.proofs.Common.{◌≡◌, ℕ, ◌+◌, ◌-◌, ◌*◌, ◌%◌, ◌^◌, ◌<◌, ◌≤◌, ◌++◌, List, [], length, ℤ, sym, ◌∙◌, ap, subst, arith}
use Rattle.std.specs.List.{All}
use Rattle.std.proofs.Math.Nat.{mul-le-mul_right}
use Rattle.std.proofs.lemmas.List.Elements.{All-nil}
use Rattle.jk_math.specs.declared.rect.Rect.{Rect}
use Rattle.jk_math.specs.Raster.{raster}
use Rattle.jk_math.specs.Signed.{IsBelow}
use Rattle.jk_math.proofs.Laws.{raster_length}
use Rattle.jk_wave.specs.Levels.{half_bound, half_area}
use Rattle.jk_wave.specs.Resolutions.{resolution_of}
use Rattle.jk_wave.specs.climbing.Held.{rows_between}
use Rattle.jk_wave.specs.climbing.Intervals.{rows_reached}
use Rattle.jk_wave.specs.climbing.PartRows.{half_width}
use Rattle.jk_wave.specs.climbing.Standing.{IsStanding, MayTake}
use Rattle.jk_wave.proofs.Laws.{new_at, first_taken, made_above, made_below, made_within, made_more, taken_more, takes_within, takes_pairs, half_is, no_rows, resolution_is_area}
use Rattle.jk_tile.specs.decoding.Source.{Source, IsSource, source_coefficient}
use Rattle.jk_rows.specs.declared.level.RowLevel.{RowLevel}
use Rattle.jk_rows.specs.Components.{area_at, taken_rows, made_rows, step_rows, AreChains, StandsBefore, WaitsUpto, IsRowLevel}
use Rattle.jk_rows.proofs.Taken.{taken_high, made_high, made_is}
use Rattle.jk_rows.proofs.Small.{below_small}

-- the rows that wait
waiting : (s : Source) (q m : ℕ) (l : RowLevel) → WaitsUpto s q m l → length l.level.low.items ≡ (m - half_bound l.level.v 0) * half_width l.level.area 0
waiting s q m l waits =
    ap length waits.waits ∙ raster_length (rows_between (half_area l.level.area 0) (half_bound l.level.v 0) m) (resolution_of s.region.rect s.region.levels (source_coefficient s) q)

-- rows up to an even one or the end, for which enough rows wait
pub may_take : (s : Source) (q v m t : ℕ) (l : RowLevel) → StandsBefore s q v l → WaitsUpto s q m l → v ≤ t → t ≤ (area_at s (q + 1)).y1
    → ((area_at s (q + 1)).y0 < t → t < (area_at s (q + 1)).y1 → t % 2 ≡ 0) → half_bound t 0 ≤ m → MayTake l.level [] t
may_take s q v m t l at waits order to pairs under =
    let upper = ap (λ (b : Rect). b.y0) at.is in
    let lower = ap (λ (b : Rect). b.y1) at.is in
    let place = at.place in
    let long = waiting s q m l waits in
    let fits : (half_bound t 0 - half_bound l.level.v 0) * half_width l.level.area 0 ≤ (m - half_bound l.level.v 0) * half_width l.level.area 0 = mul-le-mul_right (half_width l.level.area 0) (omega (arith, under)) in
    record {
      small = All-nil (IsBelow (2 ^ 29 - 2 ^ 26));
      order = omega (arith, place, order);
      inside = omega (arith, lower, to);
      pairs = λ behind short. pairs (omega (arith, behind, upper)) (omega (arith, short, lower));
      enough = omega (arith, long, fits);
    }

-- no row, while further rows below come to those that wait
pub may_wait : (s : Source) (q d e v : ℕ) (l : RowLevel) (fresh : List ℤ) → IsSource s → q < s.region.top → v ≡ l.level.v → IsStanding l.level → fresh ≡ step_rows s d e q → MayTake l.level fresh v
may_wait s q d e v l fresh is less place standing rows =
    let some : 0 < s.region.top = omega (arith, less) in
    let first = made_within s.region.rect s.region.levels s.region.top d q is.region.rect is.region.top some in
    let last = made_within s.region.rect s.region.levels s.region.top e q is.region.rect is.region.top some in
    let md = made_is s q d some in let me = made_is s q e some in
    let su = standing.upper in let sl = standing.lower in
    let none : (half_bound v 0 - half_bound l.level.v 0) * half_width l.level.area 0 ≡ 0 = ap (λ n. n * half_width l.level.area 0) (let z : half_bound v 0 - half_bound l.level.v 0 ≡ 0 = omega (arith, place) in z) ∙ (let o : 0 * half_width l.level.area 0 ≡ 0 = omega arith in o) in
    record {
      small = subst (All (IsBelow (2 ^ 29 - 2 ^ 26))) (sym rows) (below_small s q (made_rows s q d) (made_rows s q e) is less (omega (arith, first.0, md)) (omega (arith, last.1, me)));
      order = omega (arith, place);
      inside = omega (arith, place, sl);
      pairs = λ behind short. subst (λ n. n % 2 ≡ 0) (sym place) (standing.pairs (subst (λ n. l.level.area.y0 < n) place behind) (subst (λ n. n < l.level.area.y1) place short));
      enough = omega (arith, none);
    }

-- a level before its first row
pub level_new : (s : Source) (q : ℕ) (l : RowLevel) → IsSource s → q < s.region.top → IsStanding l.level → l.level.area ≡ area_at s (q + 1) → l.level.v ≡ (area_at s (q + 1)).y0 → l.level.low.items ≡ [] → AreChains s (q + 1) l.chains
    → IsRowLevel s (area_at s s.region.top).y0 q l
level_new s q l is less standing area place none chains =
    let rect = s.region.rect in
    let levels = s.region.levels in
    let top : ℕ = s.region.top in
    let first = (area_at s top).y0 in
    let at = new_at rect levels top q (source_coefficient s) l.level is.region.rect is.region.top less standing area place none in
    let taken = taken_high s q first in
    let here : taken_rows s (q + 1) first ≡ (area_at s (q + 1)).y0 = taken ∙ first_taken rect levels top q is.region.rect is.region.top less in
    record {
      stands = record {
        standing = standing;
        is = area;
        place = place ∙ sym here;
        blocks = record {
          chained = chains;
          strips = λ behind. absurd (omega (arith, behind, here));
          fine = λ behind. absurd (omega (arith, behind, here));
        };
      };
      waits = subst (λ m. WaitsUpto s q m l) (sym (made_is s q first (omega (arith, less)))) at.holds;
    }

-- which rows a step of the level takes
pub record TakesTo (s : Source) (q d e : ℕ) : Type 0 where
  pub order : taken_rows s (q + 1) d ≤ taken_rows s (q + 1) e
  pub to : taken_rows s (q + 1) e ≤ (area_at s (q + 1)).y1
  pub pairs : (area_at s (q + 1)).y0 < taken_rows s (q + 1) e → taken_rows s (q + 1) e < (area_at s (q + 1)).y1 → taken_rows s (q + 1) e % 2 ≡ 0
  pub before : half_bound (taken_rows s (q + 1) d) 0 ≤ made_rows s q d
  pub more : made_rows s q d ≤ made_rows s q e
  pub under : half_bound (taken_rows s (q + 1) e) 0 ≤ made_rows s q e

pub takes_to : (s : Source) (q d e : ℕ) → IsSource s → q < s.region.top → d ≤ e → TakesTo s q d e
takes_to s q d e is less le =
    let rect = s.region.rect in
    let levels = s.region.levels in
    let top : ℕ = s.region.top in
    let some : 0 < top = omega (arith, less) in
    let td = taken_high s q d in let te = taken_high s q e in
    let md = made_is s q d some in let me = made_is s q e some in
    let a = area_at s (q + 1) in
    let area = resolution_is_area rect levels (q + 1) is.region.rect in
    let more_taken = taken_more rect levels top d e q is.region.rect le in
    let below_d = made_below rect levels top d q is.region.rect is.region.top less in
    let below_e = made_below rect levels top e q is.region.rect is.region.top less in
    let made = made_more rect levels top d e q is.region.rect le in
    record {
      order = omega (arith, td, te, more_taken);
      to = subst (λ n. n ≤ a.y1) (sym te) (takes_within a _ area).1;
      pairs = subst (λ n. a.y0 < n → n < a.y1 → n % 2 ≡ 0) (sym te) (takes_pairs a _ area);
      before = omega (arith, td, md, below_d);
      more = omega (arith, md, me, made);
      under = omega (arith, te, me, below_e);
    }

-- what the step makes
pub step_made : (s : Source) (q d e : ℕ) → IsSource s → q < s.region.top
    → raster (rows_between (area_at s (q + 1)) (rows_reached (area_at s (q + 1)) (taken_rows s (q + 1) d)) (rows_reached (area_at s (q + 1)) (taken_rows s (q + 1) e))) (resolution_of s.region.rect s.region.levels (source_coefficient s) (q + 1))
    ≡ step_rows s d e (q + 1)
step_made s q d e is less =
    let a = area_at s (q + 1) in
    let g = resolution_of s.region.rect s.region.levels (source_coefficient s) (q + 1) in
    let made : (n : ℕ) → rows_reached a (taken_rows s (q + 1) n) ≡ made_rows s (q + 1) n =
    λ n. ap (rows_reached a) (taken_high s q n) ∙ sym (made_above s.region.rect s.region.levels s.region.top n q) ∙ sym (made_high s q n) in
    ap (λ n. raster (rows_between a n (rows_reached a (taken_rows s (q + 1) e))) g) (made d) ∙ ap (λ n. raster (rows_between a (made_rows s (q + 1) d) n) g) (made e)

-- The rows of the resolution below that come with a step are the next ones.
pub record AreNext (s : Source) (q d e v : ℕ) (l : RowLevel) (fresh : List ℤ) : Type 0 where
  pub rows : fresh ≡ raster (rows_between (half_area l.level.area 0) (made_rows s q d) (made_rows s q e)) (resolution_of s.region.rect s.region.levels (source_coefficient s) q)
  pub before : half_bound l.level.v 0 ≤ made_rows s q d
  pub more : made_rows s q d ≤ made_rows s q e
  pub under : half_bound v 0 ≤ made_rows s q e

pub are_next : (s : Source) (q d e v : ℕ) (l : RowLevel) (fresh : List ℤ) → IsSource s → q < s.region.top → d ≤ e → IsRowLevel s d q l → fresh ≡ step_rows s d e q → v ≡ taken_rows s (q + 1) d → AreNext s q d e v l fresh
are_next s q d e v l fresh is less le at rows taken =
    let to = takes_to s q d e is less le in
    let top = is.region.top in
    let place = at.stands.place in
    let before = to.before in let more = to.more in
    let half : half_area l.level.area 0 ≡ area_at s q = ap (λ (a : Rect). half_area a 0) at.stands.is ∙ half_is s.region.rect s.region.levels q (omega (arith, less, top)) in
    record {
      rows = rows ∙ ap (λ (a : Rect). raster (rows_between a (made_rows s q d) (made_rows s q e)) (resolution_of s.region.rect s.region.levels (source_coefficient s) q)) (sym half);
      before = omega (arith, place, before);
      more = more;
      under = omega (arith, taken, before, more);
    }

-- no row was given by a step that takes none
pub none_out : (a : Rect) (p : ℕ) (g : ℕ → ℕ → ℤ) (old new : List ℤ) → old ≡ [] → new ≡ old ++ raster (rows_between a p p) g → new ≡ []
none_out a p g old new none e = e ∙ ap (λ l. l ++ raster (rows_between a p p) g) none ∙ no_rows a p p g (omega arith)

-- the rows of both parts of a step
pub out_made : (s : Source) (q d e v t : ℕ) (mid new : List ℤ) → IsSource s → q < s.region.top → mid ≡ [] → v ≡ taken_rows s (q + 1) d → t ≡ taken_rows s (q + 1) e
    → new ≡ mid ++ raster (rows_between (area_at s (q + 1)) (rows_reached (area_at s (q + 1)) v) (rows_reached (area_at s (q + 1)) t)) (resolution_of s.region.rect s.region.levels (source_coefficient s) (q + 1))
    → new ≡ step_rows s d e (q + 1)
out_made s q d e v t mid new is less none ev et given =
    let a = area_at s (q + 1) in
    let g = resolution_of s.region.rect s.region.levels (source_coefficient s) (q + 1) in
    given ∙ ap (λ l. l ++ raster (rows_between a (rows_reached a v) (rows_reached a t)) g) none
    ∙ ap (λ n. raster (rows_between a (rows_reached a n) (rows_reached a t)) g) ev ∙ ap (λ n. raster (rows_between a (rows_reached a (taken_rows s (q + 1) d)) (rows_reached a n)) g) et
    ∙ step_made s q d e is less
