-- Rows that are given one stripe behind another, and tiles row by row.
use Rattle.std.proofs.Common.{◌≡◌, ℕ, ◌+◌, ◌%◌, ◌<◌, ◌≤◌, ◌++◌, List, [], ◌∷◌, get_or, Result, Ok, Err, ℤ, refl, sym, ap, subst, ◌∙◌, arith}
use Rattle.std.specs.Global.{Vec}
use Rattle.jk_math.specs.Picture.{Picture, IsPicture}
use Rattle.jk_math.specs.declared.fault.Fault.{Fault}
use Rattle.jk_math.specs.declared.rect.Rect.{Rect}
use Rattle.jk_marks.specs.Siz.{tiles_across, tile_count}
use Rattle.jk_geom.specs.Rectangles.{IsArea, IsWithin}
use Rattle.jk_geom.specs.Partitions.{TileHolds}
use Rattle.jk_params.specs.Headers.{Headers}
use Rattle.jk_walk.specs.declared.places.PacketPlace.{PacketPlace}
use Rattle.jk_window.specs.Views.{frame_of}
use Rattle.jk_tile.specs.decoding.TileReading.{tested, tile_planes_at}
use Rattle.jk_tile.specs.TileMeaning.{shown_area}
use Rattle.jk_tile.proofs.Laws.{fine, each_found, tile_is_area, bind_ok, bind_err}
use Rattle.jk_rows.specs.Components.{IsStepEnd}
use Rattle.jk_rows.proofs.Laws.{no_fault_in}
use Rattle.jk_code.specs.Made.{rows_of}
use Rattle.jk_code.specs.MeaningReading.{places_or, places_at, packets_tested, tiles_tested, reduction_at, picture_with, planes_of_tiles, picture_at}
use Rattle.jk_code.specs.Sources.{ImageSource, IsImageSource}
use Rattle.jk_code.specs.Rows.{AreTaken, WereTaken, WereRefused, picture_of, area_of_tile, part_of_stripe, tile_source, HasFaultAt}
use Rattle.jk_code.specs.Tiles.{IsPartSeen, ShowsTileAt}
use Rattle.jk_tile.specs.Filling.{IsPartOf}
use Rattle.jk_code.proofs.Planes.{tiles_are_picture}
use Rattle.jk_code.proofs.MeaningLaws.{picture_by}
use Rattle.jk_code.proofs.StripeLaws.{part_frame, rows_are}
use Rattle.jk_code.proofs.Placing.{tile_part}
use Rattle.jk_code.proofs.TileRowing.{some_across, row_whole, row_holds, beside, first_shown, next_shown, last_shown}

-- ---- stripes

pub none_taken : {A : Type 0} (took : A → Picture → A → Type 0) (p : Picture) (y : ℕ) (x : A) → WereTaken took p y y x x
none_taken took p y x = ([], (refl, refl))

after : {A : Type 0} (took : A → Picture → A → Type 0) (p : Picture) (y z w : ℕ) (from mid to : A) (stripes rest : List (ℕ × A)) → z ≤ w → AreTaken took p y z from stripes mid → AreTaken took p z w mid rest to → AreTaken took p y w from (stripes ++ rest) to
after {A} took p y z w from mid to [] rest le h more = subst (λ n. AreTaken took p n w from rest to) (sym h.0) (subst (λ (x : A). AreTaken took p z w x rest to) (sym h.1) more)
after took p y z w from mid to (s ∷ stripes) rest le h more = (h.0, omega (arith, le, h.1), h.2, after took p s.0 z w s.1 mid to stripes rest le h.3 more)

pub taken_more : {A : Type 0} (took : A → Picture → A → Type 0) (p : Picture) (y z w : ℕ) (from mid to : A) → z ≤ w → WereTaken took p y z from mid → WereTaken took p z w mid to → WereTaken took p y w from to
taken_more took p y z w from mid to le first second = (first.0 ++ second.0, after took p y z w from mid to first.0 second.0 le first.1 second.1)

pub taken_one : {A : Type 0} (took : A → Picture → A → Type 0) (p : Picture) (y z : ℕ) (from to : A) → y < z → took from (rows_of p y z) to → WereTaken took p y z from to
taken_one took p y z from to lt t = ((z, to) ∷ [], (lt, omega arith, t, (refl, refl)))

-- rows that were refused behind others that were taken
pub refused_later : {A : Type 0} (took : A → Picture → A → Type 0) (refused : A → Picture → Fault → A → Type 0) (p : Picture) (y x z : ℕ) (from mid to : A) (e : Fault) → y ≤ x → WereTaken took p y x from mid → WereRefused took refused p x z mid to e → WereRefused took refused p y z from to e
refused_later took refused p y x z from mid to e le taken why =
    let low = why.low in
    record {
      next = why.next;
      last = why.last;
      before = why.before;
      low = omega (arith, le, low);
      more = why.more;
      high = why.high;
      taken = taken_more took p y x why.next from mid why.before low taken why.taken;
      why = why.why;
    }

-- the first of them
pub refused_here : {A : Type 0} (took : A → Picture → A → Type 0) (refused : A → Picture → Fault → A → Type 0) (p : Picture) (y w z : ℕ) (from to : A) (e : Fault) → y < w → w ≤ z → refused from (rows_of p y w) e to → WereRefused took refused p y z from to e
refused_here took refused p y w z from to e lt high why =
    record { next = y; last = w; before = from; low = omega arith; more = lt; high = high; taken = none_taken took p y from; why = why }

-- ---- faults

-- the packets of a tile of a source
pub places_are : (s : ImageSource) (t : ℕ) → IsImageSource s → t < tile_count s.headers.siz → places_at s.bytes s.headers t ≡ get_or s.packets t []
places_are s t is lt = ap (λ (r : Result (List PacketPlace) Fault). places_or r) (is.packets.each t lt)

pub no_fault : (s : ImageSource) (e : Fault) → IsImageSource s → tiles_tested s.bytes s.headers s.reduce (tile_count s.headers.siz) ≡ fine → HasFaultAt s e → ⊥
no_fault s e is all has =
    let t = has.0 in
    let tile = each_found (tile_count s.headers.siz) (λ t. tested (tile_planes_at s.bytes s.headers t s.reduce (places_at s.bytes s.headers t))) tt all t has.1 in
    no_fault_in (tile_source s t) e (ap (λ (ws : List PacketPlace). tested (tile_planes_at s.bytes s.headers t s.reduce ws)) (sym (places_are s t is has.1)) ∙ tile) has.2

-- ---- rows of tiles

-- the tiles from `first` on are left, and so are the rows from z on
pub record IsReached (s : ImageSource) (first z : ℕ) : Type 0 where
  pub begins : first % tiles_across s.headers.siz ≡ 0
  pub at : first < tile_count s.headers.siz → z ≡ (area_of_tile s first).y0
  pub end : tile_count s.headers.siz ≤ first → z ≡ s.area.y1

pub reached_first : (s : ImageSource) → IsImageSource s → IsReached s 0 s.area.y0
reached_first s is =
    let siz = is.sound.siz in
    let first = first_shown s.headers.siz s.reduce siz in
    record {
      begins = first.0;
      at = λ some. ap (λ (a : Rect). a.y0) is.place ∙ sym first.1;
      end = λ none. absurd (let some = first.2 in omega (arith, some, none));
    }

pub reached_next : (s : ImageSource) (first z : ℕ) → IsImageSource s → IsReached s first z → first < tile_count s.headers.siz → IsReached s (first + tiles_across s.headers.siz) (area_of_tile s first).y1
reached_next s first z is at lt =
    let siz = is.sound.siz in
    let next = next_shown s.headers.siz s.reduce first siz at.begins lt in
    record {
      begins = next.0;
      at = λ more. sym (next.1 more);
      end = λ none. last_shown s.headers.siz s.reduce first siz at.begins lt none ∙ sym (ap (λ (a : Rect). a.y1) is.place);
    }

-- ---- a stripe of a row of tiles

-- where a row of tiles lies
pub record IsStripe (s : ImageSource) (first : ℕ) (stripe : Rect) : Type 0 where
  pub begins : first % tiles_across s.headers.siz ≡ 0
  pub tile : first < tile_count s.headers.siz
  pub area : IsArea stripe
  pub left : stripe.x0 ≡ s.area.x0
  pub right : stripe.x1 ≡ s.area.x1
  pub from : IsStepEnd (area_of_tile s first) stripe.y0
  pub to : IsStepEnd (area_of_tile s first) stripe.y1

step_end_like : (a b : Rect) (e : ℕ) → a.y0 ≡ b.y0 → a.y1 ≡ b.y1 → IsStepEnd a e → IsStepEnd b e
step_end_like a b e upper lower is =
    let from = is.from in let to = is.to in
    record {
      from = omega (arith, from, upper);
      to = omega (arith, to, lower);
      odd = subst (λ y0. y0 < e → e < b.y1 → e % 2 ≡ 1) upper (subst (λ y1. a.y0 < e → e < y1 → e % 2 ≡ 1) lower is.odd);
      inside = subst (λ y0. y0 < e → e < b.y1 → e + 1 < b.y1) upper (subst (λ y1. a.y0 < e → e < y1 → e + 1 < y1) lower is.inside);
    }

-- a step of one of the tiles
pub step_end_of : (s : ImageSource) (first k e : ℕ) → first % tiles_across s.headers.siz ≡ 0 → k < tiles_across s.headers.siz → IsStepEnd (area_of_tile s first) e → IsStepEnd (area_of_tile s (first + k)) e
step_end_of s first k e begins lt is =
    let same = beside s.headers.siz s.reduce first k begins lt in
    step_end_like (area_of_tile s first) (area_of_tile s (first + k)) e (sym same.0) (sym same.1) is

pub part_seen : (s : ImageSource) (first k : ℕ) (stripe : Rect) → IsImageSource s → IsStripe s first stripe → k < tiles_across s.headers.siz → IsPartSeen s.headers s.reduce (first + k) stripe (part_of_stripe s (first + k) stripe)
part_seen s first k stripe is at lt =
    let siz = s.headers.siz in
    let t : ℕ = first + k in
    let whole = row_whole siz first at.begins at.tile in
    let few : t < tile_count siz = omega (arith, whole, lt) in
    let tile = tile_part s.headers t s.reduce (tile_is_area siz t is.sound.siz few) in
    let same = beside siz s.reduce first k at.begins lt in
    let frame_left = ap (λ (a : Rect). a.x0) is.place in
    let frame_right = ap (λ (a : Rect). a.x1) is.place in
    let left = at.left in let right = at.right in let down = at.area.upper in
    let tl = tile.left in let tr = tile.right in let ta = tile.across in
    let from = at.from.from in let to = at.to.to in
    record {
      inside = record { left = omega (arith, tl, left, frame_left); across = ta; right = omega (arith, tr, right, frame_right); upper = omega arith; down = down; lower = omega arith };
      tile = record { left = omega arith; across = ta; right = omega arith; upper = omega (arith, same.0, from); down = down; lower = omega (arith, same.1, to) };
      all = λ x y within inside. record { left = within.left; right = within.right; upper = inside.upper; lower = inside.lower };
    }

-- where all tiles of the row are shown, all tiles are
pub all_shown : (s : ImageSource) (first : ℕ) (stripe : Rect) (planes : List (Vec ℤ)) → IsImageSource s → IsStripe s first stripe
    → ((k : ℕ) → k < tiles_across s.headers.siz → ShowsTileAt s.bytes s.headers s.reduce stripe (first + k) s.headers.siz.components planes)
    → (t : ℕ) → t < tile_count s.headers.siz → ShowsTileAt s.bytes s.headers s.reduce stripe t s.headers.siz.components planes
all_shown s first stripe planes is at shows t lt c x y few within inside =
    let siz = s.headers.siz in
    let holds : TileHolds siz s.reduce t x y = record { tile = lt; place = within } in
    let from = at.from.from in let to = at.to.to in
    let above = inside.upper in let below = inside.lower in
    let row = row_holds siz s.reduce first t x y is.sound.siz at.begins at.tile holds (omega (arith, from, above)) (omega (arith, to, below)) in
    shows row.number row.few c x y few (subst (λ n. IsWithin (shown_area siz n s.reduce) x y) row.is within) inside

pub stripe_inside : (s : ImageSource) (first : ℕ) (stripe : Rect) → IsImageSource s → IsStripe s first stripe → (x y : ℕ) → IsWithin stripe x y → IsWithin (frame_of s.headers s.reduce) x y
stripe_inside s first stripe is at x y h =
    let tile = tile_part s.headers first s.reduce (tile_is_area s.headers.siz first is.sound.siz at.tile) in
    let place = is.place in
    let frame_left = ap (λ (a : Rect). a.x0) place in
    let frame_right = ap (λ (a : Rect). a.x1) place in
    let left = at.left in let right = at.right in
    let from = at.from.from in let to = at.to.to in
    let upper = tile.upper in let lower = tile.lower in
    let hl = h.left in let hr = h.right in let hu = h.upper in let hd = h.lower in
    record { left = omega (arith, hl, left, frame_left); right = omega (arith, hr, right, frame_right); upper = omega (arith, hu, from, upper); lower = omega (arith, hd, to, lower) }

-- what is tested of a tile of a source
pub tile_tests : (s : ImageSource) (t : ℕ) → IsImageSource s → t < tile_count s.headers.siz → tested (tile_planes_at s.bytes s.headers t s.reduce (places_at s.bytes s.headers t)) ≡ tested (tile_planes_at s.bytes s.headers t s.reduce (get_or s.packets t []))
tile_tests s t is lt = ap (λ (ws : List PacketPlace). tested (tile_planes_at s.bytes s.headers t s.reduce ws)) (places_are s t is lt)

pub stripe_at : (s : ImageSource) (first : ℕ) (stripe : Rect) → IsImageSource s → first + tiles_across s.headers.siz ≤ tile_count s.headers.siz → first % tiles_across s.headers.siz ≡ 0 → IsArea stripe → stripe.x0 ≡ s.area.x0 → stripe.x1 ≡ s.area.x1
    → IsStepEnd (area_of_tile s first) stripe.y0 → IsStepEnd (area_of_tile s first) stripe.y1 → IsStripe s first stripe
stripe_at s first stripe is whole begins area left right from to =
    let some = some_across s.headers.siz is.sound.siz in
    record { begins = begins; tile = omega (arith, some, whole); area = area; left = left; right = right; from = from; to = to }

-- ---- pictures

-- the picture of a stripe is those rows of the whole one
pub stripe_rows : (s : ImageSource) (y z : ℕ) → IsImageSource s → s.area.y0 ≤ y → z ≤ s.area.y1
    → picture_with s.headers.siz (record { x0 = s.area.x0; y0 = y; x1 = s.area.x1; y1 = z }) (planes_of_tiles s.bytes s.headers s.reduce (record { x0 = s.area.x0; y0 = y; x1 = s.area.x1; y1 = z })) ≡ rows_of (picture_of s) y z
stripe_rows s y z is low high =
    let frame = frame_of s.headers s.reduce in
    subst (λ (a : Rect). picture_with s.headers.siz (record { x0 = a.x0; y0 = y; x1 = a.x1; y1 = z }) (planes_of_tiles s.bytes s.headers s.reduce (record { x0 = a.x0; y0 = y; x1 = a.x1; y1 = z }))
    ≡ rows_of (picture_with s.headers.siz a (planes_of_tiles s.bytes s.headers s.reduce a)) y z) (sym is.place)
    (rows_are s.bytes s.headers s.reduce y z (subst IsArea is.place is.is_area) (subst (λ (a : Rect). a.y0 ≤ y) is.place low) (subst (λ (a : Rect). z ≤ a.y1) is.place high))

-- and it is a picture, where it has a row
pub stripe_picture : (s : ImageSource) (y z : ℕ) → IsImageSource s → s.area.y0 ≤ y → y < z → z ≤ s.area.y1
    → IsPicture (picture_with s.headers.siz (record { x0 = s.area.x0; y0 = y; x1 = s.area.x1; y1 = z }) (planes_of_tiles s.bytes s.headers s.reduce (record { x0 = s.area.x0; y0 = y; x1 = s.area.x1; y1 = z })))
stripe_picture s y z is low more high =
    let stripe : Rect = record { x0 = s.area.x0; y0 = y; x1 = s.area.x1; y1 = z } in
    let wide = is.frame.wide in
    let left = is.is_area.left in
    let part : IsPartOf stripe s.area = record { left = omega arith; across = left; right = omega arith; upper = low; down = omega (arith, more); lower = high } in
    tiles_are_picture s.bytes s.headers s.reduce stripe is.sound.siz (part_frame stripe s.area part is.frame (omega (arith, wide)) more)

-- the rows of a tile lie in the image
pub rows_inside : (s : ImageSource) (first : ℕ) → IsImageSource s → first < tile_count s.headers.siz → (s.area.y0 ≤ (area_of_tile s first).y0) × ((area_of_tile s first).y1 ≤ s.area.y1)
rows_inside s first is lt =
    let tile = tile_part s.headers first s.reduce (tile_is_area s.headers.siz first is.sound.siz lt) in
    let upper = tile.upper in let lower = tile.lower in
    let above = ap (λ (a : Rect). a.y0) is.place in
    let below = ap (λ (a : Rect). a.y1) is.place in
    (omega (arith, upper, above), omega (arith, lower, below))

-- rows of a row of tiles are rows of the image
pub in_rows : (s : ImageSource) (first y z : ℕ) → IsImageSource s → first + tiles_across s.headers.siz ≤ tile_count s.headers.siz → IsStepEnd (area_of_tile s first) y → IsStepEnd (area_of_tile s first) z → (s.area.y0 ≤ y) × (z ≤ s.area.y1)
in_rows s first y z is whole from to =
    let some = some_across s.headers.siz is.sound.siz in
    let inside = rows_inside s first is (omega (arith, some, whole)) in
    let above = from.from in let below = to.to in
    (omega (arith, inside.0, above), omega (arith, inside.1, below))

-- a stripe has an area
pub stripe_area : (s : ImageSource) (y z : ℕ) → IsImageSource s → y ≤ z → z ≤ s.area.y1 → IsArea (record { x0 = s.area.x0; y0 = y; x1 = s.area.x1; y1 = z })
stripe_area s y z is more high =
    let left = is.is_area.left in let right = is.is_area.right in let lower = is.is_area.lower in
    record { left = left; upper = more; right = right; lower = omega (arith, high, lower) }

-- ---- what a codestream means, step by step

pub picture_fine : (bytes : List ℕ) (h : Headers) (d : ℕ) (a : Rect) → reduction_at h d ≡ Ok a → packets_tested bytes h (tile_count h.siz) ≡ fine → tiles_tested bytes h d (tile_count h.siz) ≡ fine
    → picture_at h bytes d ≡ Ok (picture_with h.siz a (planes_of_tiles bytes h d a))
picture_fine bytes h d a area packets tiles = picture_by bytes h d ∙ bind_ok (reduction_at h d) _ a area ∙ bind_ok (packets_tested bytes h (tile_count h.siz)) _ tt packets ∙ bind_ok (tiles_tested bytes h d (tile_count h.siz)) _ tt tiles

pub reduction_fails : (bytes : List ℕ) (h : Headers) (d : ℕ) (e : Fault) → reduction_at h d ≡ Err e → picture_at h bytes d ≡ Err e
reduction_fails bytes h d e is = picture_by bytes h d ∙ bind_err (reduction_at h d) _ e is

pub packets_fail : (bytes : List ℕ) (h : Headers) (d : ℕ) (a : Rect) (e : Fault) → reduction_at h d ≡ Ok a → packets_tested bytes h (tile_count h.siz) ≡ Err e → picture_at h bytes d ≡ Err e
packets_fail bytes h d a e area is = picture_by bytes h d ∙ bind_ok (reduction_at h d) _ a area ∙ bind_err (packets_tested bytes h (tile_count h.siz)) _ e is

pub tiles_fail : (bytes : List ℕ) (h : Headers) (d : ℕ) (a : Rect) (e : Fault) → reduction_at h d ≡ Ok a → packets_tested bytes h (tile_count h.siz) ≡ fine → tiles_tested bytes h d (tile_count h.siz) ≡ Err e → picture_at h bytes d ≡ Err e
tiles_fail bytes h d a e area packets is =
    picture_by bytes h d ∙ bind_ok (reduction_at h d) _ a area ∙ bind_ok (packets_tested bytes h (tile_count h.siz)) _ tt packets ∙ bind_err (tiles_tested bytes h d (tile_count h.siz)) _ e is

pub area_rows : (s : ImageSource) (first : ℕ) → IsImageSource s → first < tile_count s.headers.siz → (area_of_tile s first).y0 ≤ (area_of_tile s first).y1
area_rows s first is lt = (tile_part s.headers first s.reduce (tile_is_area s.headers.siz first is.sound.siz lt)).down
