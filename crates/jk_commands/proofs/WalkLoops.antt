-- One step of each loop over boxes, segments and tile-parts, and its end.
use Rattle.std.proofs.Common.{◌≡◌, ℕ, zero, suc, ◌+◌, ◌-◌, ◌<◌, ◌≤◌, cond, eqb, true, false, List, [], ◌∷◌, ◌++◌, drop, Option, Some, None, add-one, refl, sym, ap, ◌∙◌, arith}
use Rattle.std.proofs.lemmas.Bool.{eq-eqb, ne_eqb}
use Rattle.std.proofs.lemmas.List.{drop-drop}
use Rattle.byteorder.specs.Endian.{big_number}
use Rattle.jk_marks.specs.Copying.{segment_size}
use Rattle.jk_commands.specs.BoxList.{box_named, behind_box, boxes_from}
use Rattle.jk_commands.specs.HeaderMarkers.{markers_from, part_size, parts_from}
use Rattle.jk_commands.specs.Values.{texts_below}

-- ---- boxes

boxes-suc : (n : ℕ) (rest : List ℕ) → boxes_from (suc n) rest ≡ behind_box (box_named rest) (λ size. boxes_from n (drop size rest))
unfolding boxes_from
boxes-suc n rest = refl

pub boxes_stop : (n : ℕ) (rest : List ℕ) → box_named rest ≡ None → boxes_from n rest ≡ []
unfolding boxes_from
boxes_stop zero rest e = refl
boxes_stop (suc n) rest e = ap (λ (b : Option (ℕ × ℕ)). behind_box b (λ size. boxes_from n (drop size rest))) e

pub boxes_end : (n i : ℕ) (rest : List ℕ) → n ≤ i → boxes_from (n - i) rest ≡ []
unfolding boxes_from
boxes_end n i rest le =
    let m : n - i ≡ 0 = omega arith in
    ap (λ k. boxes_from k rest) m ∙ refl

pub boxes_next : (n : ℕ) (b : ℕ × ℕ) (rest : List ℕ) → box_named rest ≡ Some b → boxes_from (suc n) rest ≡ b ∷ boxes_from n (drop b.1 rest)
boxes_next n b rest e = boxes-suc n rest ∙ ap (λ (o : Option (ℕ × ℕ)). behind_box o (λ size. boxes_from n (drop size rest))) e

pub boxes_more : (n i at : ℕ) (b : ℕ × ℕ) (bytes : List ℕ) → i < n → box_named (drop at bytes) ≡ Some b
    → boxes_from (n - i) (drop at bytes) ≡ b ∷ boxes_from (n - (i + 1)) (drop (at + b.1) bytes)
boxes_more n i at b bytes lt e =
    let m : n - i ≡ suc (n - (i + 1)) = omega arith in
    ap (λ k. boxes_from k (drop at bytes)) m
    ∙ boxes_next (n - (i + 1)) b (drop at bytes) e
    ∙ ap (λ (xs : List ℕ). b ∷ boxes_from (n - (i + 1)) xs) (drop-drop b.1 at bytes)

-- ---- segments

markers-suc : (n last : ℕ) (bytes : List ℕ)
    → markers_from (suc n) last bytes
    ≡ cond (eqb (segment_size last bytes) 0) [] (big_number 2 bytes ∷ markers_from n last (drop (segment_size last bytes) bytes))
unfolding markers_from
markers-suc n last bytes = refl

pub markers_stop : (n last : ℕ) (bytes : List ℕ) → segment_size last bytes ≡ 0 → markers_from n last bytes ≡ []
unfolding markers_from
markers_stop zero last bytes e = refl
markers_stop (suc n) last bytes e = let none : eqb (segment_size last bytes) 0 ≡ true = eq-eqb _ _ e in rw none refl

pub markers_end : (n i last : ℕ) (bytes : List ℕ) → n ≤ i → markers_from (n - i) last bytes ≡ []
unfolding markers_from
markers_end n i last bytes le =
    let m : n - i ≡ 0 = omega arith in
    ap (λ k. markers_from k last bytes) m ∙ refl

pub markers_next : (n last size : ℕ) (bytes : List ℕ) → size ≡ segment_size last bytes → 0 < size
    → markers_from (suc n) last bytes ≡ big_number 2 bytes ∷ markers_from n last (drop size bytes)
markers_next n last size bytes e some =
    let not_none : eqb (segment_size last bytes) 0 ≡ false = ne_eqb _ _ (λ z. omega (arith, z, e, some)) in
    markers-suc n last bytes
    ∙ ap (λ b. cond b [] (big_number 2 bytes ∷ markers_from n last (drop (segment_size last bytes) bytes))) not_none
    ∙ ap (λ s. big_number 2 bytes ∷ markers_from n last (drop s bytes)) (sym e)

pub markers_more : (n i last at size : ℕ) (bytes : List ℕ) → i < n → size ≡ segment_size last (drop at bytes) → 0 < size
    → markers_from (n - i) last (drop at bytes) ≡ big_number 2 (drop at bytes) ∷ markers_from (n - (i + 1)) last (drop (at + size) bytes)
markers_more n i last at size bytes lt e some =
    let m : n - i ≡ suc (n - (i + 1)) = omega arith in
    ap (λ k. markers_from k last (drop at bytes)) m
    ∙ markers_next (n - (i + 1)) last size (drop at bytes) e some
    ∙ ap (λ (xs : List ℕ). big_number 2 (drop at bytes) ∷ markers_from (n - (i + 1)) last xs) (drop-drop size at bytes)

-- ---- tile-parts

parts-suc : (n : ℕ) (bytes : List ℕ) → parts_from (suc n) bytes ≡ cond (eqb (part_size bytes) 0) [] (bytes ∷ parts_from n (drop (part_size bytes) bytes))
unfolding parts_from
parts-suc n bytes = refl

pub parts_stop : (n : ℕ) (bytes : List ℕ) → part_size bytes ≡ 0 → parts_from n bytes ≡ []
unfolding parts_from
parts_stop zero bytes e = refl
parts_stop (suc n) bytes e = let none : eqb (part_size bytes) 0 ≡ true = eq-eqb _ _ e in rw none refl

pub parts_end : (n i : ℕ) (bytes : List ℕ) → n ≤ i → parts_from (n - i) bytes ≡ []
unfolding parts_from
parts_end n i bytes le =
    let m : n - i ≡ 0 = omega arith in
    ap (λ k. parts_from k bytes) m ∙ refl

pub parts_next : (n size : ℕ) (bytes : List ℕ) → size ≡ part_size bytes → 0 < size → parts_from (suc n) bytes ≡ bytes ∷ parts_from n (drop size bytes)
parts_next n size bytes e some =
    let not_none : eqb (part_size bytes) 0 ≡ false = ne_eqb _ _ (λ z. omega (arith, z, e, some)) in
    parts-suc n bytes
    ∙ ap (λ b. cond b [] (bytes ∷ parts_from n (drop (part_size bytes) bytes))) not_none
    ∙ ap (λ s. bytes ∷ parts_from n (drop s bytes)) (sym e)

pub parts_more : (n i at size : ℕ) (bytes : List ℕ) → i < n → size ≡ part_size (drop at bytes) → 0 < size
    → parts_from (n - i) (drop at bytes) ≡ drop at bytes ∷ parts_from (n - (i + 1)) (drop (at + size) bytes)
parts_more n i at size bytes lt e some =
    let m : n - i ≡ suc (n - (i + 1)) = omega arith in
    ap (λ k. parts_from k (drop at bytes)) m
    ∙ parts_next (n - (i + 1)) size (drop at bytes) e some
    ∙ ap (λ (xs : List ℕ). drop at bytes ∷ parts_from (n - (i + 1)) xs) (drop-drop size at bytes)

-- ---- texts

pub texts_none : (f : ℕ → List ℕ) → texts_below f 0 ≡ []
unfolding texts_below
texts_none f = refl

texts-suc : (f : ℕ → List ℕ) (n : ℕ) → texts_below f (suc n) ≡ texts_below f n ++ f n
unfolding texts_below
texts-suc f n = refl

pub texts_more : (f : ℕ → List ℕ) (n : ℕ) → texts_below f (n + 1) ≡ texts_below f n ++ f n
texts_more f n = ap (texts_below f) (add-one n) ∙ texts-suc f n
