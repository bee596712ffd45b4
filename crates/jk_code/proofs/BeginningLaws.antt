-- Laws of what stands before a tile-part, and of the file as a whole.
use Rattle.std.proofs.Common.{◌≡◌, ℕ, zero, suc, ◌+◌, ◌-◌, ◌^◌, min, ◌<◌, ◌≤◌, ◌⊎◌, inl, inr, Bool, true, false, not, List, [], ◌∷◌, ◌++◌, length, replicate, Result, Ok, Err, IfOk, refl, ap, sym, ◌∙◌, subst, arith, append_assoc}
use Rattle.std.proofs.lemmas.Bool.{cases_lt, lt-ltb, le-ltb, not-false}
use Rattle.std.proofs.lemmas.List.{append-nil, length-append, length-replicate, append_cancel_right}
use Rattle.jk_math.specs.Memory.{IsMemory}
use Rattle.jk_math.specs.Picture.{Picture, IsPicture}
use Rattle.jk_math.specs.Steps.{guarded, ok_is}
use Rattle.jk_math.specs.declared.fault.Fault.{Fault}
use Rattle.jk_math.specs.declared.fault.Fault.TheVariants.{BadParameters, Limit}
use Rattle.jk_marks.specs.Markers.{marker_text, eoc}
use Rattle.jk_marks.specs.Siz.{tile_count}
use Rattle.jk_marks.specs.Codestream.{main_text, part_text, codestream_text, segments_of, only_part_of}
use Rattle.jk_boxes.specs.Boxes.{HoldsCodestream, box_text, boxes_text, signature}
use Rattle.jk_boxes.specs.Written.{is_wrapped, wrapped, file_type_box, header_box, code_box}
use Rattle.jk_boxes.proofs.Laws.{wrapped_holds}
use Rattle.jk_params.specs.declared.parameters.Parameters.{Parameters}
use Rattle.jk_params.specs.declared.parameters.Container.{Container}
use Rattle.jk_params.specs.declared.parameters.Container.TheVariants.{Raw, Jp2}
use Rattle.jk_params.specs.Profile.{siz_of, is_profile, is_contained, IsWrittenBy}
use Rattle.jk_params.proofs.Laws.{part_text_length}
use Rattle.jk_tile.specs.encoding.PacketsWritten.{tile_text}
use Rattle.jk_window.specs.Views.{holds_below}
use Rattle.jk_window.proofs.Laws.{below_none, below_more, below_fails, below_at, below_from}
use Rattle.jk_params.specs.declared.picture_frame.PictureFrame.{PictureFrame}
use Rattle.jk_params.specs.PictureFrames.{frame_of}
use Rattle.jk_code.specs.declared.contents.WrittenFrame.{WrittenFrame}
use Rattle.jk_code.specs.Contents.{HasPicture}
use Rattle.jk_code.specs.Meaning.{Means}
use Rattle.jk_code.specs.Fronts.{HasFronts}
use Rattle.jk_code.specs.Written.{main_for, part_for, part_fits, parts_fit, tree_for, contained, file_for, written}
use Rattle.jk_code.specs.Beginnings.{front_of, parts_upto, text_upto, text_before, IsFirstTooLong}
use Rattle.jk_code.specs.Sending.{IsTooLong, IsTooLongAhead}
use Rattle.jk_code.proofs.LoopLaws.{parts_more}
use Rattle.jk_code.proofs.WrittenLaws.{text_parts, holds_means, written_means, written_bare}
use Rattle.jk_code.proofs.FrontLaws.{fronts_mean}

-- ---- tile-parts

pub only_length : (t : ℕ) (content : List ℕ) → length (part_text (only_part_of t content)) ≡ 14 + length content
only_length t content = part_text_length (only_part_of t content)

-- a head that makes a tile-part with its data has 14 bytes
pub head_length : (t : ℕ) (head content : List ℕ) → head ++ content ≡ part_text (only_part_of t content) → length head ≡ 14
head_length t head content e = let all = sym (length-append head content) ∙ ap length e ∙ only_length t content in omega (arith, all)

pub parts_longer : (p : Picture) (q : Parameters) (n : ℕ) → length (parts_upto p q (n + 1)) ≡ length (parts_upto p q n) + (14 + length (tile_text p q n))
parts_longer p q n =
    ap length (parts_more (part_for p q) n) ∙ length-append (parts_upto p q n) (part_text (part_for p q n))
    ∙ ap (λ k. length (parts_upto p q n) + k) (only_length n (tile_text p q n))

-- the first tile-part
pub parts_first : (p : Picture) (q : Parameters) → parts_upto p q 1 ≡ part_text (part_for p q 0)
parts_first p q = append-nil (part_text (part_for p q 0))

-- a number of bytes with which a tile-part can say its length tells all of them
pub all_told : (n size : ℕ) → size ≡ min n (2 ^ 64 - 1) → 14 + size < 2 ^ 32 → n ≡ size
all_told n size told short = omega (arith, told, short)

pub fits_said : (p : Picture) (q : Parameters) (t : ℕ) → 14 + length (tile_text p q t) < 2 ^ 32 → part_fits p q t ≡ true
fits_said p q t short = lt-ltb (14 + length (tile_text p q t)) (2 ^ 32) short

pub long_said : (p : Picture) (q : Parameters) (t : ℕ) → 2 ^ 32 ≤ 14 + length (tile_text p q t) → part_fits p q t ≡ false
long_said p q t long = le-ltb (14 + length (tile_text p q t)) (2 ^ 32) long

-- all fit where the first and those behind it do
pub fits_from : (p : Picture) (q : Parameters) (n : ℕ) → ((t : ℕ) → 1 ≤ t → t < n → part_fits p q t ≡ true) → part_fits p q 0 ≡ true → holds_below (part_fits p q) n ≡ true
fits_from p q n rest first = below_from (part_fits p q) n each
  where
    each : (t : ℕ) → t < n → part_fits p q t ≡ true
    each zero lt = first
    each (suc t) lt = rest (suc t) (omega arith) lt

-- one more fits
pub fits_more : (p : Picture) (q : Parameters) (n : ℕ) → ((t : ℕ) → 1 ≤ t → t < n → part_fits p q t ≡ true) → part_fits p q n ≡ true → (t : ℕ) → 1 ≤ t → t < n + 1 → part_fits p q t ≡ true
fits_more p q n before last t some lt = elim (cases_lt t n) [
  | inl less ↦ before t some less
  | inr same ↦ let e : n ≡ t = omega (arith, lt, same) in ap (part_fits p q) (sym e) ∙ last
]

-- ---- the first that is too long

-- all numbers below n pass a test, or one is the first that doesn't
pub first_false : (f : ℕ → Bool) (n : ℕ) → (holds_below f n ≡ true) ⊎ ((m : ℕ) × (m < n) × (holds_below f m ≡ true) × (f m ≡ false))
first_false f zero = inl (below_none f)
first_false f (suc n) = elim (first_false f n) [
  | inl all ↦ by (f n) refl all
  | inr m ↦ inr (m.0, omega (arith, m.1), m.2, m.3)
]
  where
    by : (b : Bool) → f n ≡ b → holds_below f n ≡ true → (holds_below f (suc n) ≡ true) ⊎ ((m : ℕ) × (m < suc n) × (holds_below f m ≡ true) × (f m ≡ false))
    by true e all = let same : n + 1 ≡ suc n = omega arith in inl (ap (holds_below f) (sym same) ∙ below_more f n all e)
    by false e all = inr (n, omega arith, all, e)

pub first_too_long : (p : Picture) (q : Parameters) → IsTooLong p q → (n : ℕ) × IsFirstTooLong p q n
first_too_long p q long = elim (first_false (part_fits p q) (tile_count (siz_of p q))) [
  | inl all ↦ absurd (let both : true ≡ false = sym (below_at (part_fits p q) (tile_count (siz_of p q)) long.0 all long.1) ∙ long.2 in cc)
  | inr m ↦ (m.0, record { tile = m.1; before = m.2; long = m.3 })
]

pub limit_due : (p : Picture) (q : Parameters) (n : ℕ) → is_profile q p ≡ true → IsFirstTooLong p q n → written p q ≡ Err Limit
unfolding written
limit_due p q n profile first = rw (profile, below_fails (part_fits p q) (tile_count (siz_of p q)) n first.tile first.long) refl

-- ---- the front

-- the boxes of a file are its front and its codestream
boxes_front : (p : Picture) (codestream : List ℕ)
    → signature ++ boxes_text (file_type_box ∷ header_box p.width p.height (length p.planes) p.depth ∷ code_box codestream ∷ [])
    ≡ front_of Jp2 p (length codestream) ++ codestream
unfolding box_text
boxes_front p codestream = simp (append_assoc, append-nil)

pub wrapped_front : (p : Picture) (codestream : List ℕ) → is_wrapped p ≡ true → wrapped p codestream ≡ Ok (front_of Jp2 p (length codestream) ++ codestream)
unfolding wrapped
wrapped_front p codestream is = rw is (ap (λ (x : List ℕ). Ok x) (boxes_front p codestream))

pub contained_front : (k : Container) (p : Picture) (codestream : List ℕ) → is_contained k (length p.planes) p.signed ≡ true
    → contained k p codestream ≡ Ok (front_of k p (length codestream) ++ codestream)
contained_front Raw p codestream is = refl
contained_front Jp2 p codestream is = wrapped_front p codestream is

-- what becomes the boxes of a file with each codestream of its size behind it is the front
abbrev pub IsBefore : PictureFrame → (size : ℕ) → (front : List ℕ) → Type 0
IsBefore f size front = (codestream : List ℕ) → length codestream ≡ size
    → front ++ codestream ≡ signature ++ boxes_text (file_type_box ∷ header_box f.width f.height f.components f.depth ∷ code_box codestream ∷ [])

front_is : (f : PictureFrame) (p : Picture) (front : List ℕ) (size : ℕ) → f ≡ frame_of p → IsBefore f size front → front ≡ front_of Jp2 p size
front_is f p front size frame each =
    let zeros : List ℕ = replicate size 0 in
    let before : IsBefore (frame_of p) size front = subst (λ (x : PictureFrame). IsBefore x size front) frame each in
    append_cancel_right front (front_of Jp2 p size) zeros
    (before zeros (length-replicate size 0) ∙ boxes_front p zeros ∙ ap (λ n. front_of Jp2 p n ++ zeros) (length-replicate size 0))

pub front_value : {X : Type 0} (view : X → List ℕ) (s : WrittenFrame) (k : Container) (size : ℕ) (r : Result X Fault) → k ≡ Jp2 → IfOk r (λ v. IsBefore s.frame size (view v))
    → IfOk r (λ v. (p : Picture) → HasPicture s p → view v ≡ front_of k p size)
front_value view s k size (Ok v) jp2 each = λ p has. (front_is s.frame p (view v) size has.frame each ∙ ap (λ x. front_of x p size) (sym jp2))
front_value view s k size (Err e) jp2 each = tt

-- the same front for the same size, which a bare codestream hasn't
pub front_same : (k : Container) (p : Picture) (m n : ℕ) → (k ≡ Jp2 → m ≡ n) → front_of k p m ≡ front_of k p n
front_same Raw p m n same = refl
front_same Jp2 p m n same = ap (front_of Jp2 p) (same refl)

-- ---- the file

pub codestream_length : (p : Picture) (q : Parameters)
    → length (codestream_text (tree_for p q)) ≡ length (main_text (siz_of p q) (segments_of (main_for p q))) + (length (parts_upto p q (tile_count (siz_of p q))) + 2)
codestream_length p q =
    let main = main_text (siz_of p q) (segments_of (main_for p q)) in
    let parts = parts_upto p q (tile_count (siz_of p q)) in
    ap length (text_parts p q) ∙ length-append main (parts ++ marker_text eoc) ∙ ap (λ n. length main + n) (length-append parts (marker_text eoc))

-- the file is what stands before EOC, and EOC
pub file_ends : (p : Picture) (q : Parameters) → is_profile q p ≡ true → IsWrittenBy q p → parts_fit p q ≡ true
    → written p q ≡ Ok (text_upto p q (tile_count (siz_of p q)) ++ marker_text eoc)
unfolding written text_upto
file_ends p q profile by fit =
    let codestream = codestream_text (tree_for p q) in
    let front = front_of q.container p (length codestream) in
    let main = main_text (siz_of p q) (segments_of (main_for p q)) in
    let parts = parts_upto p q (tile_count (siz_of p q)) in
    let whole : front ++ codestream ≡ (front ++ (main ++ parts)) ++ marker_text eoc =
    ap (λ (x : List ℕ). front ++ x) (text_parts p q ∙ sym (append_assoc main parts (marker_text eoc))) ∙ sym (append_assoc front (main ++ parts) (marker_text eoc)) in
    rw (profile, fit) (contained_front q.container p codestream by.contained ∙ ap (λ (x : List ℕ). Ok x) whole)

-- and means the picture, as its layers do
contained_holds : (k : Container) (p : Picture) (codestream file : List ℕ) → (k ≡ Jp2 → 16 + length codestream < 2 ^ 64) → HoldsCodestream codestream codestream → contained k p codestream ≡ Ok file → HoldsCodestream file codestream
contained_holds Raw p codestream file small bare e = subst (λ (x : List ℕ). HoldsCodestream x codestream) (ok_is codestream file e) bare
contained_holds Jp2 p codestream file small bare e = inr (wrapped_holds p codestream file (small refl) e)

pub file_means : (p : Picture) (q : Parameters) (file : List ℕ) → IsPicture p → IsWrittenBy q p → (q.container ≡ Jp2 → 16 + length (codestream_text (tree_for p q)) < 2 ^ 64)
    → written p q ≡ Ok file → Means file 0 p × HasFronts p q file
unfolding written
file_means p q file is by small e =
    let codestream = codestream_text (tree_for p q) in
    let inside = guarded (not (is_profile q p)) BadParameters (file_for p q) file e in
    let last = guarded (not (parts_fit p q)) Limit (contained q.container p codestream) file inside.1 in
    let fit : parts_fit p q ≡ true = not-false (parts_fit p q) last.0 in
    let holds : HoldsCodestream file codestream = contained_holds q.container p codestream file small (written_bare p q) last.1 in
    (holds_means file codestream p holds (written_means p q is by fit), fronts_mean p q file is by fit holds)

-- ---- the start of a file, as it is put together

-- how long the codestream is, by its main header, its first tile-part, and those behind it
pub size_said : (p : Picture) (q : Parameters) (main head content rest : ℕ) → main ≡ length (main_text (siz_of p q) (segments_of (main_for p q))) → head ≡ 14
    → content ≡ length (tile_text p q 0) → length (parts_upto p q 1) + rest ≡ length (parts_upto p q (tile_count (siz_of p q)))
    → main + (head + content) + rest + 2 ≡ length (codestream_text (tree_for p q))
size_said p q main head content rest m h d r =
    let first : length (parts_upto p q 1) ≡ 14 + length (tile_text p q 0) = ap (λ (x : List ℕ). length x) (parts_first p q) ∙ only_length 0 (tile_text p q 0) in
    omega (arith, m, h, d, r, first, codestream_length p q)

pub start_joined : (p : Picture) (q : Parameters) (front main head content : List ℕ) (size : ℕ) → front ≡ front_of q.container p size
    → (q.container ≡ Jp2 → size ≡ length (codestream_text (tree_for p q))) → main ≡ main_text (siz_of p q) (segments_of (main_for p q))
    → head ++ content ≡ part_text (part_for p q 0) → ((front ++ main) ++ head) ++ content ≡ text_upto p q 1
unfolding text_upto
start_joined p q front main head content size f s m part =
    let first : front ≡ front_of q.container p (length (codestream_text (tree_for p q))) = f ∙ front_same q.container p size (length (codestream_text (tree_for p q))) s in
    append_assoc (front ++ main) head content ∙ append_assoc front main (head ++ content)
    ∙ ap (λ (x : List ℕ). x ++ (main ++ (head ++ content))) first
    ∙ ap (λ (x : List ℕ). front_of q.container p (length (codestream_text (tree_for p q))) ++ (x ++ (head ++ content))) m
    ∙ ap (λ (x : List ℕ). front_of q.container p (length (codestream_text (tree_for p q))) ++ (main_text (siz_of p q) (segments_of (main_for p q)) ++ x)) (part ∙ sym (parts_first p q))

-- the first tile-part is too long, which is found before anything is written
pub first_ahead : (p : Picture) (q : Parameters) → 0 < tile_count (siz_of p q) → part_fits p q 0 ≡ false → IsTooLongAhead p q
first_ahead p q some long = (0, record { tile = some; before = below_none (part_fits p q); long = long }, none q.container)
  where
    none : (k : Container) → text_before k p q 0 ≡ []
    none Raw = refl
    none Jp2 = refl

-- any is, in a JP2 file
pub any_ahead : (p : Picture) (q : Parameters) → q.container ≡ Jp2 → IsTooLong p q → IsTooLongAhead p q
any_ahead p q jp2 long = let first = first_too_long p q long in (first.0, first.1, ap (λ k. text_before k p q first.0) jp2)

pub ahead_any : (p : Picture) (q : Parameters) (e : Fault) → IsMemory e ⊎ ((e ≡ Limit) × (q.container ≡ Jp2) × IsTooLong p q) → IsMemory e ⊎ ((e ≡ Limit) × IsTooLongAhead p q)
ahead_any p q e why = elim why [
  | inl memory ↦ inl memory
  | inr limit ↦ inr (limit.0, any_ahead p q limit.1 limit.2)
]

-- a number of bytes that tells no more than those of the tile
pub ahead_first : (p : Picture) (q : Parameters) (e : Fault) (size : ℕ) → 0 < tile_count (siz_of p q) → size ≤ length (tile_text p q 0) → IsMemory e ⊎ ((e ≡ Limit) × (2 ^ 32 ≤ 14 + size))
    → IsMemory e ⊎ ((e ≡ Limit) × IsTooLongAhead p q)
ahead_first p q e size some least why = elim why [
  | inl memory ↦ inl memory
  | inr limit ↦ inr (limit.0, first_ahead p q some (long_said p q 0 (let long = limit.1 in omega (arith, long, least))))
]

pub long_any : (p : Picture) (q : Parameters) (t : ℕ) (e : Fault) (size : ℕ) → t < tile_count (siz_of p q) → size ≤ length (tile_text p q t) → IsMemory e ⊎ ((e ≡ Limit) × (2 ^ 32 ≤ 14 + size))
    → IsMemory e ⊎ ((e ≡ Limit) × IsTooLong p q)
long_any p q t e size lt least why = elim why [
  | inl memory ↦ inl memory
  | inr limit ↦ inr (limit.0, (t, lt, long_said p q t (let long = limit.1 in omega (arith, long, least))))
]
