-- Laws of a walk down the rows of an image that comes.
use Rattle.std.proofs.Common.{◌≡◌, ℕ, ◌+◌, ◌<◌, ◌≤◌, ◌⊎◌, List, [], Result, Ok, Err, OnOk, length, get_or, refl, sym, ap, subst, ◌∙◌, arith}
use Rattle.std.specs.Global.{Vec}
use Rattle.jk_math.specs.Memory.{IsMemory}
use Rattle.jk_math.specs.Picture.{Picture, IsPicture}
use Rattle.jk_math.specs.declared.fault.Fault.{Fault}
use Rattle.jk_marks.specs.Siz.{tiles_across}
use Rattle.jk_params.specs.declared.picture_frame.PictureFrame.{PictureFrame}
use Rattle.jk_params.specs.Profile.{siz_for}
use Rattle.jk_tile.specs.declared.encoding.falling_tile.FallingTile.{FallingTile}
use Rattle.jk_tile.specs.declared.encoding.fallen_tile.FallenTile.{FallenTile}
use Rattle.jk_tile.specs.encoding.Forward.{tile_value}
use Rattle.jk_tile.specs.encoding.FallenTiles.{IsCodedTile}
use Rattle.jk_code.specs.RowsWritten.{IsStripe, WereGiven, WereAllGiven, HasMetBefore, HaveSameRows}
use Rattle.jk_code.specs.ComingRows.{IsComing, component_of, area_of_coming, tiles_coming, IsFallingTile, AreFalling, HaveRows, AreFallen, AreCoded}
use Rattle.jk_code.specs.ComingWalks.{IsBetweenTiles, IsComingWalk, EndsFallen, IsOfPicture, WalksOn, IsGivenTo}
use Rattle.jk_code.specs.declared.coming.ComingImage.{ComingImage}
use Rattle.jk_code.specs.declared.coming_walk.ComingWalk.{ComingWalk}
use Rattle.jk_code.proofs.PictureRows.{blank, given_none, met_here, IsStep, stripe_step, same_self}
use Rattle.jk_code.proofs.ComingLaws.{between_next, beside_first, rows_inside}

-- before the first row of a row of tiles
pub row_begun : (s : ComingImage) (w : ComingWalk) → IsComing s → 1 ≤ w.step → AreFallen s (length w.fallen.items) w.fallen.items → IsBetweenTiles s (length w.fallen.items) w.y → length w.fallen.items < tiles_coming s
    → length w.tiles.items ≡ tiles_across (siz_for s.frame s.parameters.now) → AreFalling s (length w.fallen.items) (area_of_coming s (length w.fallen.items)).y0 w.tiles.items → w.end ≡ (area_of_coming s (length w.fallen.items)).y1
    → (area_of_coming s (length w.fallen.items)).y0 < (area_of_coming s (length w.fallen.items)).y1 → IsComingWalk s w
row_begun s w is step fallen between some across tiles end more =
    let first : ℕ = length w.fallen.items in
    let row = between.at some in
    let inside = rows_inside s first in
    record {
      fallen = fallen;
      tiles = λ k other lt. subst (λ y. IsFallingTile s (first + k) y (get_or w.tiles.items k other)) (sym row) (tiles k other lt);
      lower = λ k lt. (beside_first s first w.y k between (omega (arith, lt, across))).1 ∙ sym end;
      below = subst (λ n. IsBetweenTiles s (first + n) w.end) (sym across) (subst (λ y. IsBetweenTiles s (first + tiles_across (siz_for s.frame s.parameters.now)) y) (sym end) (between_next s first w.y is between some));
      top = omega (arith, inside.0, row);
      order = omega (arith, row, end, more);
      bottom = omega (arith, inside.1, end);
      some = step;
    }

-- where its next tiles alone are changed
pub with_tiles : (u w : ComingWalk) (tiles : Vec FallingTile) → u ≡ (let v : ComingWalk = record w { tiles = u.tiles } in v) → (let v : ComingWalk = record u { tiles = tiles } in v) ≡ (let v : ComingWalk = record w { tiles = tiles } in v)
with_tiles u w tiles same = ap (λ (v : ComingWalk). let x : ComingWalk = record v { tiles = tiles } in x) same

pub tiles_changed : (s : ComingImage) (w new : ComingWalk) → IsComingWalk s w → new ≡ (let u : ComingWalk = record w { tiles = new.tiles } in u) → length new.tiles.items ≡ length w.tiles.items → AreFalling s (length w.fallen.items) w.y new.tiles.items
    → ((p : Picture) → HaveRows s (length w.fallen.items) p w.tiles.items → HaveRows s (length w.fallen.items) p new.tiles.items) → WalksOn s w new
tiles_changed s w new walk same count tiles rows = subst (WalksOn s w) (sym same) (record {
  walk = record {
    fallen = walk.fallen;
    tiles = tiles;
    lower = λ k lt. walk.lower k (omega (arith, lt, count));
    below = subst (λ n. IsBetweenTiles s (length w.fallen.items + n) w.end) (sym count) walk.below;
    top = walk.top;
    order = walk.order;
    bottom = walk.bottom;
    some = walk.some;
  };
  row = refl;
  of = λ p was. record { coded = was.coded; rows = rows p was.rows };
})

-- ---- what was given of it

-- nothing yet,
pub given_first : {A : Type 0} (framed : A → PictureFrame) (next : A → ℕ) (gave : A → Picture → A → Type 0) (s : ComingImage) (from : A) (w : ComingWalk) (none : List FallenTile) → IsComing s → framed from ≡ s.frame → next from ≡ s.frame.y0 → w.y ≡ s.frame.y0
    → none ≡ [] → ((p : Picture) → AreCoded s (length none) p none → IsOfPicture s p w) → IsGivenTo framed next gave s from from w
given_first framed next gave s from w none is frame first row empty of = record {
  frame = frame;
  row = first ∙ sym row;
  picture = blank s.frame;
  given = subst (λ y. WereGiven gave s.frame s.frame.y0 y from from (blank s.frame)) (sym row) (given_none gave s.frame s.frame.y0 from is.frame);
  of = λ p same. of p (λ t other lt. absurd {A = IsCodedTile (component_of s t) (tile_value p s.parameters.now.colour) (get_or none t other)} (let long = ap (λ (l : List FallenTile). length l) empty in omega (arith, lt, long)));
}

-- nothing more,
pub given_on : {A : Type 0} (framed : A → PictureFrame) (next : A → ℕ) (gave : A → Picture → A → Type 0) (s : ComingImage) (from to : A) (old new : ComingWalk) → WalksOn s old new → IsGivenTo framed next gave s from to old
    → IsGivenTo framed next gave s from to new
given_on framed next gave s from to old new on was = record {
  frame = was.frame;
  row = was.row ∙ sym on.row;
  picture = was.picture;
  given = subst (λ y. WereGiven gave s.frame s.frame.y0 y from to was.picture) (sym on.row) was.given;
  of = λ p same. on.of p (was.of p (subst (HaveSameRows was.picture p s.frame.y0) on.row same));
}

-- a stripe,
pub given_step : {A : Type 0} (framed : A → PictureFrame) (next : A → ℕ) (gave : A → Picture → A → Type 0) (s : ComingImage) (from mid to : A) (v : Picture) (z : ℕ) (w : ComingWalk) → IsComingWalk s w → w.y < z → z ≤ w.end → IsPicture v
    → IsStripe (framed mid) (next mid) z v → gave mid v to → (was : IsGivenTo framed next gave s from mid w) → IsStep gave s.frame s.frame.y0 w.y z from to was.picture v
given_step framed next gave s from mid to v z w walk more inside is stripe here was =
    let bottom = walk.bottom in
    stripe_step gave s.frame s.frame.y0 w.y z from mid to was.picture v (omega arith) walk.top more (omega (arith, bottom, inside)) was.given is
    (subst (λ y. IsStripe s.frame y z v) was.row (subst (λ (f : PictureFrame). IsStripe f (next mid) z v) was.frame stripe)) here

-- a fault in place of one,
pub met_in_walk : {A : Type 0} (framed : A → PictureFrame) (next : A → ℕ) (gave : A → Picture → A → Type 0) (met : A → Fault → A → Type 0) (s : ComingImage) (from mid to : A) (w : ComingWalk) (e : Fault) → IsComingWalk s w → w.y < w.end
    → IsGivenTo framed next gave s from mid w → IsMemory e ⊎ met mid e to → IsMemory e ⊎ HasMetBefore gave met s.frame from to e
met_in_walk framed next gave met s from mid to w e walk more was why =
    let bottom = walk.bottom in
    met_here gave met s.frame s.frame.y0 w.y (s.frame.y0 + s.frame.height) from mid to was.picture e walk.top (omega (arith, more, bottom)) was.given why

-- or all of it
pub record IsAllGiven {A : Type 0} (gave : A → Picture → A → Type 0) (s : ComingImage) (from to : A) (w : ComingWalk) : Type 0 where
  pub fallen : AreFallen s (tiles_coming s) w.fallen.items
  pub given : (p : Picture) × WereAllGiven gave s.frame from to p × AreCoded s (tiles_coming s) p w.fallen.items

pub all_given : {A : Type 0} (framed : A → PictureFrame) (next : A → ℕ) (gave : A → Picture → A → Type 0) (s : ComingImage) (from to : A) (w : ComingWalk) → IsComingWalk s w → EndsFallen s w → w.end ≤ w.y → IsGivenTo framed next gave s from to w
    → IsAllGiven gave s from to w
all_given framed next gave s from to w walk whole past was =
    let all = whole past in
    let order = walk.order in
    let end = walk.below.end (omega (arith, all)) in
    let last : w.y ≡ s.frame.y0 + s.frame.height = omega (arith, order, past, end) in
    let p = was.picture in
    record {
      fallen = subst (λ n. AreFallen s n w.fallen.items) all walk.fallen;
      given = (
        p,
        subst (λ y. WereGiven gave s.frame s.frame.y0 y from to p) last was.given,
        subst (λ n. AreCoded s n p w.fallen.items) all (was.of p (same_self p s.frame.y0 w.y)).coded,
      );
    }

-- what is told of a result
pub on_any : {A E : Type 0} (P : Type 0) (r : Result A E) → P → OnOk r P
on_any P (Ok x) h = h
on_any P (Err e) h = tt
