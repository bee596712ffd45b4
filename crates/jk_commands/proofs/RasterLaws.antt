-- The rasters of stripes, one behind another, are the raster of the picture.
use Rattle.std.proofs.Common.{◌≡◌, ℕ, zero, suc, ◌+◌, ◌-◌, ◌*◌, ◌<◌, ◌≤◌, true, List, [], ◌∷◌, ◌++◌, length, get_or, ℤ, pos, Option, refl, sym, ap, subst, ◌∙◌, arith}
use Rattle.std.specs.List.{flat_map, range_with_len}
use Rattle.std.specs.Io.KnownBytes.{Appends}
use Rattle.std.proofs.lemmas.List.{append_assoc}
use Rattle.std.proofs.lemmas.List.Concat.{flat_map-append}
use Rattle.jk_math.specs.Front.{IsFront}
use Rattle.jk_math.specs.declared.fault.Fault.{Fault}
use Rattle.jk_math.specs.Picture.{Picture, is_grey_or_rgb}
use Rattle.jk_math.proofs.Laws.{appends_none, appends_join}
use Rattle.jk_pnm.specs.Written.{is_written, maxval_of, sample_text, pixel_text, raster_part, raster_text}
use Rattle.jk_code.specs.Made.{rows_of}
use Rattle.jk_code.specs.Rows.{AreTaken, WereTaken, WereRefused}
use Rattle.jk_code.proofs.Laws.{rows_components, rows_sample}
use Rattle.jk_commands.specs.declared.decoding_rows.RowWriter.{RowWriter}
use Rattle.jk_commands.specs.RowWriting.{HasFront, IsRasterBehind, IsRasterBroken}

range_joined : (n m a : ℕ) → range_with_len a (n + m) ≡ range_with_len a n ++ range_with_len (a + n) m
range_joined zero m a = let same : a ≡ a + 0 = omega arith in let none : zero + m ≡ m = omega arith in ap (range_with_len a) none ∙ ap (λ (k : ℕ). range_with_len k m) same
range_joined (suc n) m a =
    let one : suc n + m ≡ suc (n + m) = omega arith in
    let last : (a + 1) + n ≡ a + suc n = omega arith in
    ap (range_with_len a) one ∙ ap (λ (ks : List ℕ). a ∷ ks) (range_joined n m (a + 1) ∙ ap (λ (k : ℕ). range_with_len (a + 1) n ++ range_with_len k m) last)

part_joined : (m : ℕ) (planes : List (List ℤ)) (from n k : ℕ) → raster_part m planes from (n + k) ≡ raster_part m planes from n ++ raster_part m planes (from + n) k
part_joined m planes from n k =
    let f : ℕ → List ℕ = pixel_text m planes in
    ap (λ (ks : List ℕ). flat_map f ks) (range_joined n k from) ∙ flat_map-append f (range_with_len from n) (range_with_len (from + n) k)

-- the same pixels elsewhere
pixels_alike : (m : ℕ) (parts planes : List (List ℤ)) (n i from : ℕ) → ((k : ℕ) → k < i + n → pixel_text m parts k ≡ pixel_text m planes (from + k)) → flat_map (pixel_text m parts) (range_with_len i n) ≡ flat_map (pixel_text m planes) (range_with_len (from + i) n)
pixels_alike m parts planes zero i from each = refl
pixels_alike m parts planes (suc n) i from each =
    let here : i < i + suc n = omega arith in
    let next : (from + i) + 1 ≡ from + (i + 1) = omega arith in
    let rest = pixels_alike m parts planes n (i + 1) from (λ k within. each k (omega (arith, within))) in
    ap (λ (ys : List ℕ). ys ++ flat_map (pixel_text m parts) (range_with_len (i + 1) n)) (each i here)
    ∙ ap (λ (ys : List ℕ). pixel_text m planes (from + i) ++ ys) (rest ∙ ap (λ (k : ℕ). flat_map (pixel_text m planes) (range_with_len k n)) (sym next))

-- the texts of planes that have the same samples at two pixels
planes_alike : (m k j : ℕ) (parts planes : List (List ℤ)) → length parts ≡ length planes
    → ((c : ℕ) → c < length planes → get_or (get_or parts c []) k (pos 0) ≡ get_or (get_or planes c []) j (pos 0)) → pixel_text m parts k ≡ pixel_text m planes j
planes_alike m k j [] [] long each = refl
planes_alike m k j [] (plane ∷ planes) long each = absurd (omega (arith, long))
planes_alike m k j (part ∷ parts) [] long each = absurd (omega (arith, long))
planes_alike m k j (part ∷ parts) (plane ∷ planes) long each =
    ap (λ (s : ℤ). sample_text m s ++ pixel_text m parts k) (each 0 (omega arith))
    ∙ ap (λ (ys : List ℕ). sample_text m (get_or plane j (pos 0)) ++ ys) (planes_alike m k j parts planes (omega (arith, long)) (λ c lt. each (suc c) (omega (arith, lt))))

-- ---- rows of a picture

-- a pixel of the rows from y on is one of the picture
row_pixel : (m : ℕ) (p : Picture) (y z k : ℕ) → p.y0 ≤ y → k < (z - y) * p.width → pixel_text m (rows_of p y z).planes k ≡ pixel_text m p.planes ((y - p.y0) * p.width + k)
row_pixel m p y z k low lt =
    planes_alike m k ((y - p.y0) * p.width + k) (rows_of p y z).planes p.planes (rows_components p y z) (λ c less. rows_sample p y z c k low less lt)

-- their raster is a part of the picture's
rows_raster : (m : ℕ) (p : Picture) (y z : ℕ) → p.y0 ≤ y → y ≤ z → raster_text m (rows_of p y z).planes ((z - y) * p.width) ≡ raster_part m p.planes ((y - p.y0) * p.width) ((z - y) * p.width)
rows_raster m p y z low order =
    let from = (y - p.y0) * p.width in
    let none : from + 0 ≡ from = omega arith in
    pixels_alike m (rows_of p y z).planes p.planes ((z - y) * p.width) 0 from (λ k lt. row_pixel m p y z k low (omega (arith, lt)))
    ∙ ap (λ (t : ℕ). flat_map (pixel_text m p.planes) (range_with_len t ((z - y) * p.width))) none

-- a stripe has a file where the picture has one
rows_written : (p : Picture) (y z : ℕ) → is_written p ≡ true → is_written (rows_of p y z) ≡ true
rows_written p y z is = subst (λ (n : ℕ). is_grey_or_rgb n p.signed ≡ true) (sym (rows_components p y z)) is

-- ---- all stripes

rest_of : (x y z end w : ℕ) → x ≤ y → y ≤ z → z ≤ end → (end - y) * w ≡ (z - y) * w + (end - z) * w
rest_of x y z end w low order high =
    let e : end - y ≡ (z - y) + (end - z) = omega (arith, order, high) in
    ap (λ t. t * w) e ∙ (let s : ((z - y) + (end - z)) * w ≡ (z - y) * w + (end - z) * w = grind arith in s)

next_of : (x y z w : ℕ) → x ≤ y → y ≤ z → (y - x) * w + (z - y) * w ≡ (z - x) * w
next_of x y z w low order =
    let e : z - x ≡ (y - x) + (z - y) = omega (arith, low, order) in
    (let s : (y - x) * w + (z - y) * w ≡ ((y - x) + (z - y)) * w = grind arith in s) ∙ ap (λ t. t * w) (sym e)

-- the raster of the picture's rows from y down to z
abbrev rows_part : Picture → (y z : ℕ) → List ℕ
rows_part p y z = raster_part (maxval_of p.depth) p.planes ((y - p.y0) * p.width) ((z - y) * p.width)

rows_none : (p : Picture) (y : ℕ) → rows_part p y y ≡ []
rows_none p y =
    let none : (y - y) * p.width ≡ 0 = ap (λ t. t * p.width) (let z : y - y ≡ 0 = omega arith in z) ∙ (let z : 0 * p.width ≡ 0 = omega arith in z) in
    ap (raster_part (maxval_of p.depth) p.planes ((y - p.y0) * p.width)) none

-- a stripe's raster is that of its rows
stripe_raster : (p : Picture) (y z : ℕ) → p.y0 ≤ y → y ≤ z → raster_text (maxval_of p.depth) (rows_of p y z).planes ((rows_of p y z).width * (rows_of p y z).height) ≡ rows_part p y z
stripe_raster p y z low order =
    let w = p.width in
    let wide : p.x0 + w - p.x0 ≡ w = omega arith in
    let size : (rows_of p y z).width * (rows_of p y z).height ≡ (z - y) * w = ap (λ t. t * (z - y)) wide ∙ (let turned : w * (z - y) ≡ (z - y) * w = grind arith in turned) in
    ap (raster_text (maxval_of p.depth) (rows_of p y z).planes) size ∙ rows_raster (maxval_of p.depth) p y z low order

-- rows below rows
rows_joined : (p : Picture) (y z end : ℕ) → p.y0 ≤ y → y ≤ z → z ≤ end → rows_part p y z ++ rows_part p z end ≡ rows_part p y end
rows_joined p y z end low order high =
    let top = maxval_of p.depth in
    let w = p.width in
    ap (λ (t : ℕ). rows_part p y z ++ raster_part top p.planes t ((end - z) * w)) (sym (next_of p.y0 y z w low order))
    ∙ sym (part_joined top p.planes ((y - p.y0) * w) ((z - y) * w) ((end - z) * w))
    ∙ ap (raster_part top p.planes ((y - p.y0) * w)) (sym (rest_of p.y0 y z end w low order high))

-- all rows
rows_all : (p : Picture) → rows_part p p.y0 (p.y0 + p.height) ≡ raster_text (maxval_of p.depth) p.planes (p.width * p.height)
rows_all p =
    let from : (p.y0 - p.y0) * p.width ≡ 0 = ap (λ t. t * p.width) (let z : p.y0 - p.y0 ≡ 0 = omega arith in z) ∙ (let z : 0 * p.width ≡ 0 = omega arith in z) in
    let all : (p.y0 + p.height - p.y0) * p.width ≡ p.width * p.height = ap (λ t. t * p.width) (let z : p.y0 + p.height - p.y0 ≡ p.height = omega arith in z) ∙ (let z : p.height * p.width ≡ p.width * p.height = grind arith in z) in
    ap (λ (t : ℕ). raster_part (maxval_of p.depth) p.planes t ((p.y0 + p.height - p.y0) * p.width)) from ∙ ap (raster_part (maxval_of p.depth) p.planes 0) all

-- ---- stripes that a writer got

rows_behind : {W : Type 0} (contents : W → Option (List ℕ)) (p : Picture) (y z : ℕ) (a b : RowWriter W) (stripes : List (ℕ × RowWriter W)) → is_written p ≡ true → p.y0 ≤ y → AreTaken (IsRasterBehind contents) p y z a stripes b
    → Appends (contents a.writer.now) (contents b.writer.now) (rows_part p y z)
rows_behind {W} contents p y z a b [] is low h =
    subst (λ (x : RowWriter W). Appends (contents a.writer.now) (contents x.writer.now) (rows_part p y z)) h.1
    (subst (Appends (contents a.writer.now) (contents a.writer.now)) (sym (ap (rows_part p y) (sym h.0) ∙ rows_none p y)) (appends_none (contents a.writer.now)))
rows_behind contents p y z a b (s ∷ stripes) is low h =
    let order : y ≤ s.0 = (let lt = h.0 in omega (arith, lt)) in
    let here = subst (Appends (contents a.writer.now) (contents s.1.writer.now)) (stripe_raster p y s.0 low order) (h.2.1 (rows_written p y s.0 is)) in
    let more = rows_behind contents p s.0 z s.1 b stripes is (omega (arith, low, order)) h.3 in
    subst (Appends (contents a.writer.now) (contents b.writer.now)) (rows_joined p y s.0 z low order h.1)
    (appends_join (contents a.writer.now) (contents s.1.writer.now) (contents b.writer.now) (rows_part p y s.0) (rows_part p s.0 z) here more)

-- A writer that got all stripes has the raster of the picture behind what it had.
pub all_behind : {W : Type 0} (contents : W → Option (List ℕ)) (p : Picture) (a b : RowWriter W) → is_written p ≡ true → WereTaken (IsRasterBehind contents) p p.y0 (p.y0 + p.height) a b
    → Appends (contents a.writer.now) (contents b.writer.now) (raster_text (maxval_of p.depth) p.planes (p.width * p.height))
all_behind contents p a b is taken =
    subst (Appends (contents a.writer.now) (contents b.writer.now)) (rows_all p) (rows_behind contents p p.y0 (p.y0 + p.height) a b taken.0 is (omega arith) taken.1)

named : {W : Type 0} (contents : W → Option (List ℕ)) (p : Picture) (y z : ℕ) (a b : RowWriter W) (stripes : List (ℕ × RowWriter W)) → AreTaken (IsRasterBehind contents) p y z a stripes b → b.writer.ghost_name ≡ a.writer.ghost_name
named {W} contents p y z a b [] h = ap (λ (x : RowWriter W). x.writer.ghost_name) (sym h.1)
named contents p y z a b (s ∷ stripes) h = named contents p s.0 z s.1 b stripes h.3 ∙ h.2.0

-- It is still the same one.
pub same_writer : {W : Type 0} (contents : W → Option (List ℕ)) (p : Picture) (y z : ℕ) (a b : RowWriter W) → WereTaken (IsRasterBehind contents) p y z a b → b.writer.ghost_name ≡ a.writer.ghost_name
same_writer contents p y z a b taken = named contents p y z a b taken.0 taken.1

-- What a writer has whose write failed behind other stripes: a beginning of the raster of the picture.
pub rows_broken : {W : Type 0} (contents : W → Option (List ℕ)) (p : Picture) (a b : RowWriter W) (e : Fault) → is_written p ≡ true → WereRefused (IsRasterBehind contents) (IsRasterBroken contents) p p.y0 (p.y0 + p.height) a b e
    → HasFront (raster_text (maxval_of p.depth) p.planes (p.width * p.height)) (contents a.writer.now) (contents b.writer.now)
rows_broken contents p a b e is why =
    let y : ℕ = p.y0 in
    let n = why.next in
    let m = why.last in
    let end : ℕ = p.y0 + p.height in
    let low = why.low in
    let more = why.more in
    let order : n ≤ m = omega (arith, more) in
    let broken = why.why.2 (rows_written p n m is) in
    let front = subst (IsFront broken.0) (stripe_raster p n m low order) broken.2 in
    let before = rows_behind contents p y n a why.before why.taken.0 is (omega arith) why.taken.1 in (
      rows_part p y n ++ broken.0,
      appends_join (contents a.writer.now) (contents why.before.writer.now) (contents b.writer.now) (rows_part p y n) broken.0 before broken.1,
      record {
        more = front.more ++ rows_part p m end;
        text = sym (rows_all p) ∙ sym (rows_joined p y m end (omega arith) (omega (arith, low, order)) why.high)
            ∙ ap (λ (xs : List ℕ). xs ++ rows_part p m end) (sym (rows_joined p y n m (omega arith) low order) ∙ ap (λ (xs : List ℕ). rows_part p y n ++ xs) front.text ∙ sym (append_assoc (rows_part p y n) broken.0 front.more))
            ∙ append_assoc (rows_part p y n ++ broken.0) front.more (rows_part p m end);
      },
    )

-- It is still the same one.
pub same_broken : {W : Type 0} (contents : W → Option (List ℕ)) (p : Picture) (y z : ℕ) (a b : RowWriter W) (e : Fault) → WereRefused (IsRasterBehind contents) (IsRasterBroken contents) p y z a b e → b.writer.ghost_name ≡ a.writer.ghost_name
same_broken contents p y z a b e why = why.why.1 ∙ same_writer contents p y why.next a why.before why.taken
