-- The tiles of which a window has samples, one after another.
use Rattle.std.proofs.Common.{◌≡◌, ℕ, ◌+◌, ◌-◌, ◌<◌, ◌≤◌, ◌^◌, not, Bool, true, false, if◌then◌else◌, List, [], ◌∷◌, ◌++◌, get_or, Option, Some, None, Result, Ok, refl, sym, ap, subst, ◌∙◌, inl, inr, arith}
use Rattle.std.proofs.lemmas.Bool.{cases_eq}
use Rattle.std.proofs.lemmas.List.{length-append, get_or_default, get_or_append_left, get_or-append_right}
use Rattle.jk_math.specs.declared.fault.Fault.{Fault}
use Rattle.jk_math.specs.declared.rect.Rect.{Rect}
use Rattle.jk_geom.specs.Rectangles.{IsArea, IsWithin, is_empty, meet}
use Rattle.jk_params.specs.Headers.{Headers, AreHeaders}
use Rattle.jk_walk.specs.declared.places.PacketPlace.{PacketPlace}
use Rattle.jk_walk.specs.WalkReading.{packets_at}
use Rattle.jk_window.specs.declared.view.View.{View}
use Rattle.jk_window.specs.Views.{HaveLevels, frame_of, window_of, area_at}
use Rattle.jk_window.proofs.Laws.{area_found}
use Rattle.jk_tile.specs.Filling.{IsPartOf, touches}
use Rattle.jk_tile.specs.TileMeaning.{shown_area}
use Rattle.jk_tile.specs.decoding.TileReading.{tested}
use Rattle.jk_tile.proofs.Laws.{fine, tested_ok}
use Rattle.jk_code.specs.MeaningReading.{places_or, places_at}
use Rattle.jk_code.specs.ViewReading.{seen_part, is_seen}
use Rattle.jk_code.specs.Tiles.{AreSeen, IsPartSeen}
use Rattle.jk_geom.proofs.Laws.{sides_some}
use Rattle.jk_code.proofs.HeaderFacts.{sides_of, smaller, reduced_frame}
use Rattle.jk_code.proofs.Planes.{HasFrame}

-- ---- what is asked

pub if_true : {A : Type 0} (b : Bool) (x y : A) → b ≡ true → (if b then x else y) ≡ x
if_true true x y e = refl
if_true false x y e = absurd cc

pub if_false : {A : Type 0} (b : Bool) (x y : A) → b ≡ false → (if b then x else y) ≡ y
if_false false x y e = refl
if_false true x y e = absurd cc

-- whether the window has a sample of a tile
pub seen_is : (h : Headers) (d t : ℕ) (w area : Rect) (asked answer : Bool) → area ≡ shown_area h.siz t d → asked ≡ touches w area → asked ≡ answer → is_seen h d w t ≡ answer
seen_is h d t w area asked answer e f g = sym (ap (touches w) e) ∙ sym f ∙ g

-- ---- the packets of the tiles

-- what is kept of tile t
abbrev pub kept_of : List ℕ → Headers → (d : ℕ) → Rect → ℕ → Option (List PacketPlace)
kept_of bytes h d w t = if is_seen h d w t then Some (places_at bytes h t) else None

pub record IsOwn (bytes : List ℕ) (h : Headers) (d : ℕ) (w : Rect) (t : ℕ) (packets : Option (List PacketPlace)) : Type 0 where
  pub value : packets ≡ kept_of bytes h d w t
  pub done : (if is_seen h d w t then tested (packets_at bytes h t) else Ok tt) ≡ fine
  pub read : is_seen h d w t ≡ true → packets_at bytes h t ≡ Ok (places_at bytes h t)

pub own_read : (bytes : List ℕ) (h : Headers) (d : ℕ) (w : Rect) (t : ℕ) (packets : Option (List PacketPlace)) (places : List PacketPlace) → is_seen h d w t ≡ true → packets_at bytes h t ≡ Ok places → packets ≡ Some places → IsOwn bytes h d w t packets
own_read bytes h d w t packets places seen read e =
    let same : places_at bytes h t ≡ places = ap places_or read in
    record {
      value = e ∙ sym (ap (λ (ws : List PacketPlace). let o : Option (List PacketPlace) = Some ws in o) same) ∙ sym (if_true (is_seen h d w t) (Some (places_at bytes h t)) None seen);
      done = if_true (is_seen h d w t) (tested (packets_at bytes h t)) fine seen ∙ tested_ok (packets_at bytes h t) places read;
      read = λ s. read ∙ ap (λ (ws : List PacketPlace). let r : Result (List PacketPlace) Fault = Ok ws in r) (sym same);
    }

pub own_none : (bytes : List ℕ) (h : Headers) (d : ℕ) (w : Rect) (t : ℕ) (packets : Option (List PacketPlace)) → is_seen h d w t ≡ false → packets ≡ None → IsOwn bytes h d w t packets
own_none bytes h d w t packets seen e = record {
  value = e ∙ sym (if_false (is_seen h d w t) (Some (places_at bytes h t)) None seen);
  done = if_false (is_seen h d w t) (tested (packets_at bytes h t)) fine seen;
  read = λ s. absurd (let clash : true ≡ false = sym s ∙ seen in cc);
}

-- one tile more
pub seen_more : (bytes : List ℕ) (h : Headers) (d : ℕ) (w : Rect) (n : ℕ) (all : List (Option (List PacketPlace))) (packets : Option (List PacketPlace)) → AreSeen bytes h d w n all → IsOwn bytes h d w n packets → AreSeen bytes h d w (n + 1) (all ++ packets ∷ [])
seen_more bytes h d w n all packets is own = record {
  count = length-append all (packets ∷ []) ∙ ap (λ k. k + 1) is.count;
  each = λ t lt. elim (cases_eq t n) [
    | inl same ↦
        ap (λ k. get_or (all ++ packets ∷ []) k None) same ∙ get_or-append_right all (packets ∷ []) n n None is.count (omega arith) ∙ (let z : n - n ≡ 0 = omega arith in ap (λ k. get_or (packets ∷ []) k None) z)
        ∙ own.value ∙ ap (kept_of bytes h d w) (sym same)
    | inr other ↦ get_or_append_left all (packets ∷ []) None t (omega (arith, lt, other, is.count)) ∙ is.each t (omega (arith, lt, other))
  ];
  read = λ t lt. elim (cases_eq t n) [
    | inl same ↦ subst (λ k. is_seen h d w k ≡ true → packets_at bytes h k ≡ Ok (places_at bytes h k)) (sym same) own.read
    | inr other ↦ is.read t (omega (arith, lt, other))
  ];
}

-- what is found of a tile
kept_at : (bytes : List ℕ) (h : Headers) (d : ℕ) (w : Rect) (n t : ℕ) (all : List (Option (List PacketPlace))) (value : Option (List PacketPlace)) → AreSeen bytes h d w n all → t < n → value ≡ get_or all t value → kept_of bytes h d w t ≡ value
kept_at bytes h d w n t all value is lt e = sym (is.each t lt) ∙ get_or_default all t None value (omega (arith, lt, is.count)) ∙ sym e

pub some_kept : (bytes : List ℕ) (h : Headers) (d : ℕ) (w : Rect) (n t : ℕ) (all : List (Option (List PacketPlace))) (value : Option (List PacketPlace)) (places : List PacketPlace) → AreSeen bytes h d w n all → t < n → value ≡ get_or all t value → value ≡ Some places
    → (is_seen h d w t ≡ true) × (packets_at bytes h t ≡ Ok places)
some_kept bytes h d w n t all value places is lt e some = go (is_seen h d w t) refl
  where
    go : (b : Bool) → is_seen h d w t ≡ b → (is_seen h d w t ≡ true) × (packets_at bytes h t ≡ Ok places)
    go true seen =
        let here : Some (places_at bytes h t) ≡ Some places = sym (if_true (is_seen h d w t) (Some (places_at bytes h t)) None seen) ∙ kept_at bytes h d w n t all value is lt e ∙ some in
        let same : places_at bytes h t ≡ places = cc in
        (seen, is.read t lt seen ∙ ap (λ (ws : List PacketPlace). let r : Result (List PacketPlace) Fault = Ok ws in r) same)
    go false seen =
        let none : Option (List PacketPlace) = None in
        let clash : none ≡ Some places = sym (if_false (is_seen h d w t) (Some (places_at bytes h t)) None seen) ∙ kept_at bytes h d w n t all value is lt e ∙ some in absurd cc

pub none_kept : (bytes : List ℕ) (h : Headers) (d : ℕ) (w : Rect) (n t : ℕ) (all : List (Option (List PacketPlace))) (value : Option (List PacketPlace)) → AreSeen bytes h d w n all → t < n → value ≡ get_or all t value → value ≡ None → is_seen h d w t ≡ false
none_kept bytes h d w n t all value is lt e none = go (is_seen h d w t) refl
  where
    go : (b : Bool) → is_seen h d w t ≡ b → is_seen h d w t ≡ false
    go false seen = seen
    go true seen =
        let nothing : Option (List PacketPlace) = None in
        let clash : Some (places_at bytes h t) ≡ nothing = sym (if_true (is_seen h d w t) (Some (places_at bytes h t)) None seen) ∙ kept_at bytes h d w n t all value is lt e ∙ none in absurd cc

-- ---- the part of a tile

within_both : (a b : Rect) (x y : ℕ) → IsWithin a x y → IsWithin b x y → IsWithin (meet a b) x y
within_both a b x y h g =
    let hl = h.left in let hr = h.right in let hu = h.upper in let hd = h.lower in
    let gl = g.left in let gr = g.right in let gu = g.upper in let gd = g.lower in
    record { left = omega (arith, hl, gl); right = omega (arith, hr, gr); upper = omega (arith, hu, gu); lower = omega (arith, hd, gd) }

pub some_sides : (a : Rect) → not (is_empty a) ≡ true → is_empty a ≡ false
some_sides a e = go (is_empty a) e refl
  where
    go : (b : Bool) → not b ≡ true → is_empty a ≡ b → is_empty a ≡ false
    go false e f = f
    go true e f = absurd cc

-- a part that isn't empty
pub meet_parts : (a b : Rect) → touches a b ≡ true → IsPartOf (meet a b) a × IsPartOf (meet a b) b
meet_parts a b e =
    let sides = sides_of (meet a b) (some_sides (meet a b) e) in
    let wide = sides.0 in
    let high = sides.1 in (
      record { left = omega arith; across = omega (arith, wide); right = omega arith; upper = omega arith; down = omega (arith, high); lower = omega arith },
      record { left = omega arith; across = omega (arith, wide); right = omega arith; upper = omega arith; down = omega (arith, high); lower = omega arith },
    )

pub part_seen : (h : Headers) (d t : ℕ) (w : Rect) → is_seen h d w t ≡ true → IsPartSeen h d t w (seen_part h d w t)
part_seen h d t w seen =
    let parts = meet_parts w (shown_area h.siz t d) seen in
    record { inside = parts.0; tile = parts.1; all = λ x y within inside. within_both w (shown_area h.siz t d) x y inside within }

-- a tile of which the window has no sample
pub none_seen : (h : Headers) (d t : ℕ) (w : Rect) (x y : ℕ) → is_seen h d w t ≡ false → IsWithin (shown_area h.siz t d) x y → IsWithin w x y → ⊥
none_seen h d t w x y seen within inside =
    let both = within_both w (shown_area h.siz t d) x y inside within in
    let left = both.left in let right = both.right in let upper = both.upper in let lower = both.lower in
    let some : is_empty (seen_part h d w t) ≡ false = sides_some (seen_part h d w t) (omega (arith, left, right)) (omega (arith, upper, lower)) in
    let clash : true ≡ false = sym (ap not some) ∙ seen in cc

-- ---- the window

pub record IsViewed (h : Headers) (v : View) (w : Rect) : Type 0 where
  pub levels : HaveLevels h v.reduce
  pub area : IsArea w
  pub inside : IsPartOf w (frame_of h v.reduce)
  pub frame : HasFrame w

pub is_viewed : (size : ℕ) (h : Headers) (v : View) (w : Rect) → AreHeaders size h → area_at h v ≡ Ok w → w.x1 < 2 ^ 31 → w.y1 < 2 ^ 31 → IsViewed h v w
is_viewed size h v w are e right lower =
    let found = area_found h v w are.tiles e in
    let a = frame_of h v.reduce in
    let image = sides_of a found.0.image in
    let some : is_empty w ≡ false = ap is_empty found.1 ∙ found.0.window in
    let sides = sides_of w some in
    let wide = sides.0 in
    let high = sides.1 in
    let x0 : w.x0 ≡ (window_of h v).x0 = ap (λ (r : Rect). r.x0) found.1 in
    let y0 : w.y0 ≡ (window_of h v).y0 = ap (λ (r : Rect). r.y0) found.1 in
    let x1 : w.x1 ≡ (window_of h v).x1 = ap (λ (r : Rect). r.x1) found.1 in
    let y1 : w.y1 ≡ (window_of h v).y1 = ap (λ (r : Rect). r.y1) found.1 in
    let whole = reduced_frame h.siz v.reduce are.siz image.0 image.1 in
    let across : w.x1 - w.x0 ≤ a.x1 - a.x0 = omega (arith, x0, x1, wide) in
    let down : w.y1 - w.y0 ≤ a.y1 - a.y0 = omega (arith, y0, y1, high) in
    let few = smaller (w.x1 - w.x0) (w.y1 - w.y0) (a.x1 - a.x0) (a.y1 - a.y0) across down in
    record {
      levels = found.0.levels;
      area = record { left = omega (arith, wide); upper = omega (arith, high); right = right; lower = lower };
      inside = record { left = omega (arith, x0); across = omega (arith, wide); right = omega (arith, x1); upper = omega (arith, y0); down = omega (arith, high); lower = omega (arith, y1) };
      frame = record { wide = omega (arith, wide); high = omega (arith, high); right = omega (arith, wide, right); lower = omega (arith, high, lower); area = omega (arith, few, whole.area) };
    }
