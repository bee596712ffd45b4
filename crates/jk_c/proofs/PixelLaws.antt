-- The pixels of stripes, one below the other, are those of the picture.
use Rattle.std.proofs.Common.{◌≡◌, ℕ, ℤ, ◌+◌, ◌-◌, ◌*◌, ◌<◌, ◌≤◌, ◌⊎◌, inl, inr, true, false, Bool, List, [], ◌∷◌, ◌++◌, length, get_or, pos, Result, Ok, Err, refl, sym, ap, subst, ◌∙◌, arith}
use Rattle.std.specs.Prelude.{IfOk}
use Rattle.std.proofs.lemmas.List.{get_or_append_left, get_or-append-add, length-append, append-nil, append_assoc, get_or_default}
use Rattle.std.proofs.lemmas.Bool.{cases_lt}
use Rattle.jk_math.specs.declared.fault.Fault.{Fault}
use Rattle.jk_math.specs.Picture.{Picture, IsPicture}
use Rattle.jk_code.specs.Made.{rows_of}
use Rattle.jk_code.specs.Rows.{AreTaken, WereTaken}
use Rattle.jk_code.proofs.Laws.{rows_components, rows_sample}
use Rattle.jk_c.specs.declared.pixel_rows.PixelRows.{PixelRows}
use Rattle.jk_c.specs.Answers.{GivesPixels}
use Rattle.jk_c.specs.Signed.{GivesSigned}
use Rattle.jk_c.specs.PixelRows.{HasSamples, HavePixels, HaveAllPixels, TookPixels, GivesRows}
use Rattle.jk_c.proofs.Spreading.{place_below}

-- ---- stripes

-- no rows
no_pixels : {X : Type 0} (value : X → ℤ) (p : Picture) (y : ℕ) → HavePixels value p y y []
no_pixels value p y =
    let none : y - y ≡ 0 = omega arith in
    let size : (y - y) * p.width ≡ 0 = ap (λ t. t * p.width) none ∙ (let z : 0 * p.width ≡ 0 = omega arith in z) in
    record {
      count = sym (ap (λ t. t * length p.planes) size ∙ (let z : 0 * length p.planes ≡ 0 = omega arith in z));
      each = λ c i other few less. absurd (omega (arith, less, size));
    }

-- the pixels of a stripe are those of its rows
stripe_pixels : {X : Type 0} (value : X → ℤ) (p : Picture) (y z : ℕ) (pixels : List X) → p.y0 ≤ y → y ≤ z → HaveAllPixels value (rows_of p y z) pixels → HavePixels value p y z pixels
stripe_pixels value p y z pixels low order h =
    let q = rows_of p y z in
    let n : length q.planes ≡ length p.planes = rows_components p y z in
    let wide : q.width ≡ p.width = omega arith in
    let high : (q.y0 + q.height) - q.y0 ≡ z - y = omega arith in
    let size : ((q.y0 + q.height) - q.y0) * q.width ≡ (z - y) * p.width = ap (λ t. t * q.width) high ∙ ap (λ t. (z - y) * t) wide in
    record {
      count = h.count ∙ ap (λ t. t * length q.planes) size ∙ ap (λ k. (z - y) * p.width * k) n;
      each = λ c i other few less.
          let none : q.y0 - q.y0 ≡ 0 = omega arith in
          let from : (q.y0 - q.y0) * q.width + i ≡ i = ap (λ t. t * q.width + i) none ∙ (let z : 0 * q.width + i ≡ i = omega arith in z) in
          ap (λ k. value (get_or pixels (i * k + c) other)) (sym n)
          ∙ h.each c i other (omega (arith, few, n)) (omega (arith, less, size))
          ∙ ap (λ t. get_or (get_or q.planes c []) t (pos 0)) from
          ∙ rows_sample p y z c i low few less;
    }

more_rows : (x y z w : ℕ) → x ≤ y → y ≤ z → (z - x) * w ≡ (y - x) * w + (z - y) * w
more_rows x y z w low order =
    let e : z - x ≡ (y - x) + (z - y) = omega (arith, low, order) in
    ap (λ t. t * w) e ∙ (let s : ((y - x) + (z - y)) * w ≡ (y - x) * w + (z - y) * w = grind arith in s)

-- rows below rows
pixels_joined : {X : Type 0} (value : X → ℤ) (p : Picture) (y z w : ℕ) (above below : List X) → p.y0 ≤ y → y ≤ z → z ≤ w → HavePixels value p y z above → HavePixels value p z w below → HavePixels value p y w (above ++ below)
pixels_joined value p y z w above below low order high a b =
    let n = length p.planes in
    let first = (z - y) * p.width in
    let rest = (w - z) * p.width in
    let all : (w - y) * p.width ≡ first + rest = more_rows y z w p.width order high in
    record {
      count = length-append above below ∙ ap (λ t. t + length below) a.count ∙ ap (λ t. first * n + t) b.count
          ∙ (let s : first * n + rest * n ≡ (first + rest) * n = grind arith in s) ∙ ap (λ t. t * n) (sym all);
      each = λ c i other few less. elim (cases_lt i first) [
        | inl before ↦
            let inside = place_below i first n c before few in
            ap value (get_or_append_left above below other (i * n + c) (omega (arith, inside, a.count))) ∙ a.each c i other few before
        | inr behind ↦
            let j = i - first in
            let is : i ≡ first + j = omega (arith, behind) in
            let place : i * n + c ≡ length above + (j * n + c) = ap (λ t. t * n + c) is ∙ (let s : (first + j) * n + c ≡ first * n + (j * n + c) = grind arith in s) ∙ ap (λ t. t + (j * n + c)) (sym a.count) in
            let there : (z - p.y0) * p.width + j ≡ (y - p.y0) * p.width + i = (let s = more_rows p.y0 y z p.width low order in omega (arith, s, is)) in
            ap (λ t. value (get_or (above ++ below) t other)) place
            ∙ ap value (get_or-append-add above below (j * n + c) other)
            ∙ b.each c j other few (omega (arith, less, all, is))
            ∙ ap (λ t. get_or (get_or p.planes c []) t (pos 0)) there
      ];
    }

-- What stripes left: the pixels of rows behind those that were there, and samples that have a place,
-- if there was a row.
record IsLeft {X : Type 0} (value : X → ℤ) (bits : ℕ) (signed : Bool) (p : Picture) (y z : ℕ) (a b : PixelRows X) : Type 0 where
  fits : a.fits ≡ true
  pixels : List X
  list : b.list.items ≡ a.list.items ++ pixels
  have : HavePixels value p y z pixels
  samples : (pixels ≡ []) ⊎ HasSamples bits signed p

stripes_left : {X : Type 0} (value : X → ℤ) (bits : ℕ) (signed : Bool) (p : Picture) (y z : ℕ) (a b : PixelRows X) (stripes : List (ℕ × PixelRows X)) → p.y0 ≤ y
    → AreTaken (TookPixels value bits signed) p y z a stripes b → b.fits ≡ true → IsLeft value bits signed p y z a b
stripes_left {X} value bits signed p y z a b [] low h fits = record {
  fits = subst (λ (x : PixelRows X). x.fits ≡ true) (sym h.1) fits;
  pixels = [];
  list = ap (λ (x : PixelRows X). x.list.items) (sym h.1) ∙ sym (append-nil a.list.items);
  have = subst (λ t. HavePixels value p y t []) h.0 (no_pixels value p y);
  samples = inl refl;
}
stripes_left {X} value bits signed p y z a b (s ∷ stripes) low h fits =
    let order : y ≤ s.0 = (let lt = h.0 in omega (arith, lt)) in
    let rest = stripes_left value bits signed p s.0 z s.1 b stripes (omega (arith, low, order)) h.3 fits in
    let here = h.2.taken rest.fits in
    let samples : HasSamples bits signed p = record { sign = here.1.sign; few = here.1.few } in
    record {
      fits = here.0;
      pixels = here.2 ++ rest.pixels;
      list = rest.list ∙ ap (λ (xs : List X). xs ++ rest.pixels) here.3 ∙ append_assoc a.list.items here.2 rest.pixels;
      have = pixels_joined value p y s.0 z here.2 rest.pixels low order h.1 (stripe_pixels value p y s.0 here.2 low order here.4) rest.have;
      samples = inr samples;
    }

-- no row of a picture is empty
some_pixels : (p : Picture) → IsPicture p → ((p.y0 + p.height) - p.y0) * p.width * length p.planes ≡ 0 → ⊥
some_pixels p is none =
    let wide = is.frame.wide in
    let high = is.frame.high in
    let some = is.components.some in
    let h : (p.y0 + p.height) - p.y0 ≡ p.height = omega arith in
    positive p.height p.width (length p.planes) (omega (arith, high)) (omega (arith, wide)) some (ap (λ t. t * p.width * length p.planes) (sym h) ∙ none)
  where
    positive : (h w n : ℕ) → 1 ≤ h → 1 ≤ w → 1 ≤ n → h * w * n ≡ 0 → ⊥
    positive h w n a b c e = grind arith

-- The pixels of all stripes of a picture, put into an empty list.
pub all_pixels : {X : Type 0} (value : X → ℤ) (bits : ℕ) (signed : Bool) (p : Picture) (a b : PixelRows X) → IsPicture p → a.list.items ≡ [] → WereTaken (TookPixels value bits signed) p p.y0 (p.y0 + p.height) a b → b.fits ≡ true
    → HasSamples bits signed p × HaveAllPixels value p b.list.items
all_pixels {X} value bits signed p a b is_picture empty taken fits =
    let left = stripes_left value bits signed p p.y0 (p.y0 + p.height) a b taken.0 (omega arith) taken.1 fits in
    let is : b.list.items ≡ left.pixels = left.list ∙ ap (λ (xs : List X). xs ++ left.pixels) empty in
    let have = subst (λ (xs : List X). HaveAllPixels value p xs) (sym is) left.have in
    elim left.samples [
      | inl none ↦ absurd (some_pixels p is_picture (sym left.have.count ∙ ap (λ (xs : List X). length xs) none))
      | inr samples ↦ (samples, have)
    ]

-- Where the picture has such samples, all stripes had.
fits_all : {X : Type 0} (value : X → ℤ) (bits : ℕ) (signed : Bool) (p : Picture) (y z : ℕ) (a b : PixelRows X) (stripes : List (ℕ × PixelRows X)) → AreTaken (TookPixels value bits signed) p y z a stripes b → a.fits ≡ true → HasSamples bits signed p → b.fits ≡ true
fits_all {X} value bits signed p y z a b [] h fits has = subst (λ (x : PixelRows X). x.fits ≡ true) h.1 fits
fits_all value bits signed p y z a b (s ∷ stripes) h fits has =
    fits_all value bits signed p s.0 z s.1 b stripes h.3 (h.2.fits fits (record { sign = has.sign; few = has.few })) has

-- ---- as calls give them

all_rows : (p : Picture) → ((p.y0 + p.height) - p.y0) * p.width ≡ p.width * p.height
all_rows p = ap (λ t. t * p.width) (let e : (p.y0 + p.height) - p.y0 ≡ p.height = omega arith in e) ∙ (let turned : p.height * p.width ≡ p.width * p.height = grind arith in turned)

from_none : (p : Picture) (i : ℕ) → (p.y0 - p.y0) * p.width + i ≡ i
from_none p i = ap (λ t. t * p.width + i) (let e : p.y0 - p.y0 ≡ 0 = omega arith in e) ∙ (let e : 0 * p.width + i ≡ i = omega arith in e)

plane_long : (p : Picture) (c : ℕ) → IsPicture p → c < length p.planes → length (get_or p.planes c []) ≡ p.width * p.height
plane_long p c is few = (is.components.each c [] few).count

count_of : {X : Type 0} (value : X → ℤ) (p : Picture) (pixels : List X) → HaveAllPixels value p pixels → length pixels ≡ p.width * p.height * length p.planes
count_of value p pixels h = h.count ∙ ap (λ t. t * length p.planes) (all_rows p)

-- Where not all had, or the pixels aren't so many, the picture has other samples.
pub other_samples : {X : Type 0} (value : X → ℤ) (bits : ℕ) (signed : Bool) (p : Picture) (a b : PixelRows X) (n : ℕ) → IsPicture p → a.list.items ≡ [] → a.fits ≡ true → WereTaken (TookPixels value bits signed) p p.y0 (p.y0 + p.height) a b
    → (b.fits ≡ true → length b.list.items ≡ n → ⊥) → HasSamples bits signed p → n ≡ p.width * p.height * length p.planes → ⊥
other_samples value bits signed p a b n is empty fits taken other has count =
    let all = fits_all value bits signed p p.y0 (p.y0 + p.height) a b taken.0 taken.1 fits has in
    other all (count_of value p b.list.items (all_pixels value bits signed p a b is empty taken all).1 ∙ sym count)

each_of : {X : Type 0} (value : X → ℤ) (p : Picture) (pixels : List X) (none : X) → IsPicture p → HaveAllPixels value p pixels → (c : ℕ) → c < length p.planes → (i : ℕ) → i < length (get_or p.planes c [])
    → value (get_or pixels (i * length p.planes + c) none) ≡ get_or (get_or p.planes c []) i (pos 0)
each_of value p pixels none is h c few i less =
    h.each c i none few (omega (arith, less, plane_long p c is few, all_rows p))
    ∙ ap (λ t. get_or (get_or p.planes c []) t (pos 0)) (from_none p i)

-- Unsigned pixels.
pub unsigned_given : (bits : ℕ) (r : Result Picture Fault) (before after : List ℕ) (code : ℕ) → IfOk r IsPicture → GivesRows (λ (x : ℕ). pos x) bits false r before code after → GivesPixels bits r before code after
unsigned_given bits (Err e) before after code is h = h
unsigned_given bits (Ok p) before after code is (inl h) =
    let count = count_of (λ (x : ℕ). pos x) p after h.3 in
    inl (
      h.0,
      record { plain = h.1.sign; few = h.1.few; room = h.2 ∙ count },
      record { count = count; each = λ c few i less. each_of (λ (x : ℕ). pos x) p after 0 is h.3 c few i less },
    )
unsigned_given bits (Ok p) before after code is (inr h) = inr (h.0, λ fits. h.1 (record { sign = fits.plain; few = fits.few }) fits.room, h.2)

-- Signed ones.
pub signed_given : (bits : ℕ) (r : Result Picture Fault) (before after : List ℤ) (code : ℕ) → IfOk r IsPicture → GivesRows (λ (x : ℤ). x) bits true r before code after → GivesSigned bits r before code after
signed_given bits (Err e) before after code is h = h
signed_given bits (Ok p) before after code is (inl h) =
    let count = count_of (λ (x : ℤ). x) p after h.3 in
    inl (
      h.0,
      record { signed = h.1.sign; few = h.1.few; room = h.2 ∙ count },
      record { count = count; each = λ c few i less. each_of (λ (x : ℤ). x) p after (pos 0) is h.3 c few i less },
    )
signed_given bits (Ok p) before after code is (inr h) = inr (h.0, λ fits. h.1 (record { sign = fits.signed; few = fits.few }) fits.room, h.2)

-- ---- as samples of one kind are put

place_in : (w h n i c : ℕ) → i < w * h → c < n → i * n + c < w * h * n
place_in w h n i c less few = place_below i (w * h) n c less few

-- what is put of a picture
pub put_pixels : {X : Type 0} (value : X → ℤ) (none : X) (p : Picture) (pixels : List X) → IsPicture p → length pixels ≡ p.width * p.height * length p.planes
    → ((c : ℕ) → c < length p.planes → (i : ℕ) → i < length (get_or p.planes c []) → value (get_or pixels (i * length p.planes + c) none) ≡ get_or (get_or p.planes c []) i (pos 0))
    → HaveAllPixels value p pixels
put_pixels value none p pixels is count each = record {
  count = count ∙ ap (λ t. t * length p.planes) (sym (all_rows p));
  each = λ c i other few less.
      let within : i < p.width * p.height = omega (arith, less, all_rows p) in
      let inside = place_in p.width p.height (length p.planes) i c within few in
      ap value (get_or_default pixels (i * length p.planes + c) other none (omega (arith, inside, count)))
      ∙ each c few i (omega (arith, within, plane_long p c is few))
      ∙ ap (λ t. get_or (get_or p.planes c []) t (pos 0)) (sym (from_none p i));
}
