-- How long boxes are.
use Rattle.std.proofs.Common.{inl, inr, ◌≡◌, ℕ, suc, ◌+◌, ◌^◌, ◌<◌, ◌≤◌, Bool, true, false, not, leb, List, ◌∷◌, ◌++◌, length, drop, map, get_or, Ok, refl, sym, ap, ◌∙◌, arith}
use Rattle.std.proofs.lemmas.List.{length-append, length-map, drop_all}
use Rattle.std.proofs.lemmas.List.Concat.{flat_map-append}
use Rattle.std.proofs.lemmas.Bool.{and_parts, leb-true, le-leb}
use Rattle.std.proofs.lemmas.Bool.Decides.{leb_tells}
use Rattle.std.proofs.Math.Seq.{drop-cons}
use Rattle.jk_math.specs.declared.fault.Fault.TheVariants.{BadParameters}
use Rattle.jk_math.specs.Answer.{refuse}
use Rattle.jk_boxes.specs.Boxes.{Box, box_text, box_size, boxes_text}
use Rattle.jk_boxes.proofs.Laws.{box_length}
use Rattle.jk_extras.specs.declared.values.Other.{Other}
use Rattle.jk_extras.specs.declared.values.Extras.{Extras}
use Rattle.jk_extras.specs.Extras.{is_extras, extra_boxes, colour_boxes, resolution_boxes, others_boxes, other_box, is_colour, is_grid}

pub text_size : (b : Box) (bs : List Box) → length (boxes_text (b ∷ bs)) ≡ box_size b + length (boxes_text bs)
text_size b bs = length-append (box_text b) (boxes_text bs) ∙ ap (λ k. k + length (boxes_text bs)) (box_length b)

abbrev pub others_size : List Other → ℕ
others_size os = length (boxes_text (map other_box os))

pub extra_size : (n : ℕ) (e : Extras) → length (boxes_text (extra_boxes n e)) ≡ length (boxes_text (colour_boxes n e.colour)) + (length (boxes_text (resolution_boxes e)) + length (boxes_text (others_boxes e)))
extra_size n e =
    let c = colour_boxes n e.colour in
    let r = resolution_boxes e in
    let o = others_boxes e in
    ap (λ (x : List ℕ). length x) (flat_map-append box_text c (r ++ o)) ∙ length-append (boxes_text c) (boxes_text (r ++ o))
    ∙ ap (λ (x : List ℕ). length (boxes_text c) + length x) (flat_map-append box_text r o) ∙ ap (λ k. length (boxes_text c) + k) (length-append (boxes_text r) (boxes_text o))

-- two comparisons that say the same
pub leb_by : (a b c d : ℕ) → (a ≤ b → c ≤ d) → (c ≤ d → a ≤ b) → leb a b ≡ leb c d
leb_by a b c d f g = elim (leb_tells a b) [
  | inl w ↦ w.0 ∙ sym (le-leb c d (f w.1))
  | inr w ↦ elim (leb_tells c d) [ inl v ↦ absurd (let h = g v.1 in omega arith) | inr v ↦ w.0 ∙ sym v.0 ]
]

pub size_at : (os : List Other) (i : ℕ) (o : Other) → i < length os → o ≡ get_or os i o → others_size (drop i os) ≡ box_size (other_box o) + others_size (drop (i + 1) os)
size_at os i o low is =
    let next : suc i ≡ i + 1 = omega arith in
    let cut : drop i os ≡ o ∷ drop (i + 1) os = drop-cons os i o low ∙ ap (λ (x : Other). x ∷ drop (suc i) os) (sym is) ∙ ap (λ k. o ∷ drop k os) next in
    ap others_size cut ∙ text_size (other_box o) (map other_box (drop (i + 1) os))

pub text_at : (os : List Other) (i : ℕ) (o : Other) → i < length os → o ≡ get_or os i o
    → boxes_text (map other_box (drop i os)) ≡ box_text (other_box o) ++ boxes_text (map other_box (drop (i + 1) os))
text_at os i o low is =
    let next : suc i ≡ i + 1 = omega arith in
    let cut : drop i os ≡ o ∷ drop (i + 1) os = drop-cons os i o low ∙ ap (λ (x : Other). x ∷ drop (suc i) os) (sym is) ∙ ap (λ k. o ∷ drop k os) next in
    ap (λ (x : List Other). boxes_text (map other_box x)) cut

pub no_more : (os : List Other) (i : ℕ) → length os ≤ i → others_size (drop i os) ≡ 0
no_more os i end = ap others_size (drop_all i os end)

-- what may be given is short
pub record AreLow (n : ℕ) (e : Extras) : Type 0 where
  pub colour : length (boxes_text (colour_boxes n e.colour)) ≤ 2 ^ 24
  pub resolution : length (boxes_text (resolution_boxes e)) ≤ 2 ^ 24
  pub others : length (boxes_text (others_boxes e)) ≤ 2 ^ 24

pub extras_low : (n : ℕ) (e : Extras) → is_extras n e ≡ true → AreLow n e
unfolding is_extras
extras_low n e is =
    let a = and_parts (is_colour n e.colour) _ is in
    let b = and_parts (is_grid e.capture) _ a.1 in
    let c = and_parts (is_grid e.display) _ b.1 in
    let d = and_parts (leb (length (extra_boxes n e)) 1024) _ c.1 in
    let low = leb-true _ _ d.1 in
    let size = extra_size n e in
    record { colour = omega (arith, low, size); resolution = omega (arith, low, size); others = omega (arith, low, size) }

pub judged : (b : Bool) → Ok tt ≡ refuse (not b) BadParameters → b ≡ true
judged true e = refl
judged false e = absurd cc

pub few_is : (n : ℕ) (e : Extras) (c r : ℕ) → c ≡ length (colour_boxes n e.colour) → r ≡ length (resolution_boxes e) → length (extra_boxes n e) ≡ (c + r) + length e.others.items
few_is n e c r is_c is_r =
    let cs = colour_boxes n e.colour in
    let rs = resolution_boxes e in
    omega (arith, length-append cs (rs ++ others_boxes e), length-append rs (others_boxes e), length-map e.others.items other_box)
