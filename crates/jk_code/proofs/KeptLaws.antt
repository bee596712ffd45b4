-- What was kept of all rows of a picture, the first stripe as it is, is the picture.
use Rattle.std.proofs.Common.{◌≡◌, ℕ, ◌+◌, ◌-◌, ◌≤◌, ◌<◌, ◌⊎◌, inl, inr, List, [], ◌∷◌, ◌++◌, length, get_or, ℤ, Option, Some, None, Result, refl, sym, ap, subst, ◌∙◌, arith}
use Rattle.std.proofs.lemmas.List.{length-map}
use Rattle.std.specs.Global.{Vec}
use Rattle.jk_math.specs.Answer.{Answers}
use Rattle.jk_math.specs.declared.fault.Fault.{Fault}
use Rattle.jk_math.specs.Lists.{lists_of}
use Rattle.jk_math.specs.Picture.{Picture, IsPicture}
use Rattle.jk_math.specs.Raster.{raster}
use Rattle.jk_code.specs.declared.keeping.StripeKeeper.{StripeKeeper}
use Rattle.jk_code.specs.Kept.{AreBehind, TookStripe, IsAllKept}
use Rattle.jk_code.specs.Rows.{AreTaken, WereTaken, AreTold, fault_of, picture_of}
use Rattle.jk_code.specs.Sources.{ImageSource, IsImageSource}
use Rattle.jk_code.specs.Tiles.{plane_in}
use Rattle.jk_code.specs.Made.{rows_of}
use Rattle.jk_code.specs.RowsWritten.{sample_on_grid}
use Rattle.jk_code.proofs.Planes.{tiles_are_picture}
use Rattle.jk_code.proofs.PictureRows.{whole_rows}
use Rattle.jk_code.proofs.StripeLaws.{rows, raster_joined, rows_planes, rows_count, all_joined}

-- The rows of a picture down to one stand in the lists.
pub record AreListed (p : Picture) (y : ℕ) (k : StripeKeeper) : Type 0 where
  pub none : k.first ≡ None
  pub count : length k.planes.items ≡ length p.planes
  pub rows_are : (c : ℕ) → c < length p.planes → plane_in k.planes.items c ≡ raster (rows p.x0 (p.x0 + p.width) p.y0 y) (sample_on_grid p c)

-- They are kept: there are none, they are the first stripe, or they stand in the lists.
abbrev pub AreKept : Picture → (y : ℕ) → StripeKeeper → Type 0
AreKept p y k = ((k.first ≡ None) × (k.planes.items ≡ []) × (y ≡ p.y0)) ⊎ (k.first ≡ Some (rows_of p p.y0 y)) ⊎ AreListed p y k

listed : (p : Picture) (y z : ℕ) (old : List (List ℤ)) (next : StripeKeeper) → p.y0 ≤ y → y ≤ z → length old ≡ length p.planes
    → ((c : ℕ) → c < length p.planes → get_or old c [] ≡ raster (rows p.x0 (p.x0 + p.width) p.y0 y) (sample_on_grid p c)) → AreBehind old (rows_of p y z).planes next → AreListed p z next
listed p y z old next low more count are here = record {
  none = here.none;
  count = here.count ∙ count;
  rows_are = λ c lt.
      here.planes c ∙ ap (λ (xs : List ℤ). xs ++ get_or (rows_of p y z).planes c []) (are c lt)
      ∙ ap (λ (xs : List ℤ). raster (rows p.x0 (p.x0 + p.width) p.y0 y) (sample_on_grid p c) ++ xs) (rows_planes p y z c lt)
      ∙ raster_joined p.x0 (p.x0 + p.width) p.y0 y z (sample_on_grid p c) low more;
}

-- a stripe more
more_kept : (p : Picture) (y z : ℕ) (k next : StripeKeeper) → IsPicture p → p.y0 ≤ y → y ≤ z → AreKept p y k → TookStripe k (rows_of p y z) next → AreKept p z next
more_kept p y z k next is low more (inl nothing) took = inr (inl (subst (λ n. next.first ≡ Some (rows_of p n z)) nothing.2 (took.alone nothing.0 nothing.1)))
more_kept p y z k next is low more (inr (inl one)) took =
    let v = rows_of p p.y0 y in
    inr (inr (listed p y z v.planes next low more (rows_count p p.y0 y) (λ c lt. rows_planes p p.y0 y c lt) (took.second v one (rows_count p y z ∙ sym (rows_count p p.y0 y)))))
more_kept p y z k next is low more (inr (inr kept)) took =
    let count = kept.count in
    let some = is.components.some in
    let long : length (lists_of k.planes.items) ≡ length p.planes = length-map k.planes.items (λ (v : Vec ℤ). v.items) ∙ count in
    inr (inr (listed p y z (lists_of k.planes.items) next low more long kept.rows_are (took.more kept.none (omega (arith, count, some)) (rows_count p y z ∙ sym count))))

all_kept : (p : Picture) (y z : ℕ) (k : StripeKeeper) (stripes : List (ℕ × StripeKeeper)) (to : StripeKeeper) → IsPicture p → p.y0 ≤ y → AreKept p y k → AreTaken TookStripe p y z k stripes to → AreKept p z to
all_kept p y z k [] to is low kept h = subst (λ n. AreKept p n to) h.0 (subst (λ (x : StripeKeeper). AreKept p y x) h.1 kept)
all_kept p y z k (s ∷ stripes) to is low kept h =
    let more = h.0 in
    all_kept p s.0 z s.1 stripes to is (omega (arith, low, more)) (more_kept p y s.0 k s.1 is low (omega (arith, more)) kept h.2) h.3

-- All rows are kept: the first stripe is the picture, or the lists are its planes.
pub kept_whole : (p : Picture) (from to : StripeKeeper) → IsPicture p → from.first ≡ None → from.planes.items ≡ [] → WereTaken TookStripe p p.y0 (p.y0 + p.height) from to
    → IsAllKept p to
kept_whole p from to is none empty taken = by (all_kept p p.y0 (p.y0 + p.height) from taken.0 to is (omega arith) (inl (none, empty, refl)) taken.1)
  where
    by : AreKept p (p.y0 + p.height) to → IsAllKept p to
    by (inl nothing) = let high = is.frame.high in let same = nothing.2 in absurd (omega (arith, high, same))
    by (inr (inl one)) = inl (one ∙ ap (λ (q : Picture). Some q) (whole_rows p is))
    by (inr (inr kept)) = inr (kept.none, all_joined p to.planes.items is kept.count kept.rows_are)

-- those of a source
pub source_kept : (s : ImageSource) (from to : StripeKeeper) → IsImageSource s → from.first ≡ None → from.planes.items ≡ [] → WereTaken TookStripe (picture_of s) s.area.y0 s.area.y1 from to → IsAllKept (picture_of s) to
source_kept s from to is none empty taken =
    let down = is.is_area.upper in
    let last : s.area.y1 ≡ s.area.y0 + (s.area.y1 - s.area.y0) = omega (arith, down) in
    kept_whole (picture_of s) from to (tiles_are_picture s.bytes s.headers s.reduce s.area is.sound.siz is.frame) none empty
    (subst (λ z. WereTaken TookStripe (picture_of s) s.area.y0 z from to) last taken)

-- What never refuses tells what is due.
pub told_never : {A : Type 0} (took : A → Picture → A → Type 0) (s : ImageSource) (from to : A) (result : Result (Unit {0}) Fault) → AreTold took (λ x p e y. ⊥) s from to result → Answers (λ _. tt) result (fault_of s)
told_never took s from to result told = elim told [
  | inl answers ↦ answers
  | inr why ↦ absurd why.3.why
]
