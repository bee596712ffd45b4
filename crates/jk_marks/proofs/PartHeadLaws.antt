-- The head of a tile-part is found in the bytes, and spells the tile-part.
use Rattle.std.proofs.Common.{◌≡◌, ℕ, ◌<◌, Bool, true, false, cond, eqb, ltb, List, [], ◌∷◌, ◌++◌, length, take, drop, get_or, Some, None, inl, inr, append_assoc, lit<, refl, sym, ap, ◌∙◌, arith}
use Rattle.std.specs.List.{flat_map}
use Rattle.std.proofs.lemmas.Bool.{ne_eqb, le-ltb, cases_Bool}
use Rattle.std.proofs.Math.Nat.{mod-eq_of_lt}
use Rattle.byteorder.specs.Endian.{big_number, big_bytes}
use Rattle.byteorder.specs.Numbers.{big_number-reads_back}
use Rattle.jk_marks.specs.declared.siz.Siz.{Siz}
use Rattle.jk_marks.specs.declared.part_head.PartHead.{PartHead}
use Rattle.jk_marks.specs.Markers.{sot, sod, eoc, marker_text}
use Rattle.jk_marks.specs.Segments.{segment_text}
use Rattle.jk_marks.specs.Codestream.{CodestreamPart, sot_text, part_text, part_length, psot, IsPart, BeginsWith}
use Rattle.jk_marks.specs.Copying.{part_with, part_kept_at}
use Rattle.jk_marks.specs.PartHeads.{kept_text, head_of, part_head_at, part_head, heads_text}
use Rattle.jk_marks.proofs.CopyingLaws.{part_rest, part_long, part_kept}

open_is : (b : Bool) (n : ℕ) → 0 < n → eqb (cond b 0 n) 0 ≡ b
open_is true n some = refl
open_is false n some = ne_eqb _ _ (λ z. omega (arith, z, some))

-- The head of the part that begins the bytes, and its segments.
pub head_found : (siz : Siz) (bytes : List ℕ) (p : CodestreamPart) → IsPart siz p → BeginsWith bytes p → part_head_at bytes ≡ Some (head_of p)
unfolding part_head_at
head_found siz bytes p is begins =
    let rest = flat_map segment_text p.segments ++ (marker_text sod ++ (p.content ++ begins.others)) in
    let text = part_rest bytes p begins in
    let narrow = is.narrow in
    let few = is.number in
    let less = is.total in
    let fits = is.fits in
    let more = big_bytes 2 10 ++ (big_bytes 2 p.tile ++ (big_bytes 4 (psot p) ++ (big_bytes 1 p.number ++ (big_bytes 1 p.total ++ rest)))) in
    let long : ltb (length bytes) 12 ≡ false = le-ltb _ _ (part_long bytes p begins) in
    let marker : big_number 2 bytes ≡ sot = ap (big_number 2) text ∙ big_number-reads_back 2 sot more (lit< tt) in
    let number : get_or bytes 10 0 ≡ p.number = ap (λ (x : List ℕ). get_or x 10 0) text ∙ mod-eq_of_lt (omega (arith, few)) in
    let total : get_or bytes 11 0 ≡ p.total = ap (λ (x : List ℕ). get_or x 11 0) text ∙ mod-eq_of_lt (omega (arith, less)) in
    let tile : big_number 2 (drop 4 bytes) ≡ p.tile =
    ap (λ (x : List ℕ). big_number 2 (drop 4 x)) text ∙ big_number-reads_back 2 p.tile (big_bytes 4 (psot p) ++ (big_bytes 1 p.number ++ (big_bytes 1 p.total ++ rest))) (omega (arith, narrow)) in
    let size : big_number 4 (drop 6 bytes) ≡ psot p =
    ap (λ (x : List ℕ). big_number 4 (drop 6 x)) text ∙ big_number-reads_back 4 (psot p) (big_bytes 1 p.number ++ (big_bytes 1 p.total ++ rest)) (omega (arith, fits)) in
    let left : eqb (big_number 4 (drop 6 bytes)) 0 ≡ p.is_open = ap (λ n. eqb n 0) size ∙ open_is p.is_open (part_length p) (omega arith) in
    let kept : length (part_kept_at bytes) ≡ length (kept_text p) = ap (λ (xs : List ℕ). length xs) (part_kept siz bytes p is begins) in
    rw (long, marker) (λ i. Some (record { tile = tile i; number = number i; total = total i; is_open = left i; size = kept i }))

-- No part stands at EOC.
pub none_at_end : (bytes others : List ℕ) → bytes ≡ marker_text eoc ++ others → part_head_at bytes ≡ None
unfolding part_head_at
none_at_end bytes others e =
    let marker : big_number 2 bytes ≡ eoc = ap (big_number 2) e ∙ big_number-reads_back 2 eoc others (lit< tt) in
    elim (cases_Bool (ltb (length bytes) 12)) [
      | inl short ↦ rw short refl
      | inr long ↦ rw (long, marker) refl
    ]

joined : (a b c d : List ℕ) → (a ++ (b ++ c)) ++ d ≡ a ++ (b ++ (c ++ d))
joined a b c d = simp append_assoc

part_again : (p : CodestreamPart) → part_text p ≡ sot_text p.tile (psot p) p.number p.total ++ (flat_map segment_text p.segments ++ (marker_text sod ++ p.content))
unfolding part_text
part_again p = refl

-- Tile-parts are what their heads say.
pub head_is : (p : CodestreamPart) (content : List ℕ) → part_head (head_of p) (kept_text p) (length content) ++ content ≡ part_text (part_with p content)
head_is p content =
    joined (sot_text p.tile (psot (part_with p content)) p.number p.total) (kept_text p) (marker_text sod) content ∙ sym (part_again (part_with p content))

pub heads-nil : (segments : List ℕ) (content : ℕ → ℕ → List ℕ) → heads_text [] segments content ≡ []
unfolding heads_text
heads-nil segments content = refl

pub heads-cons : (h : PartHead) (heads : List PartHead) (segments : List ℕ) (content : ℕ → ℕ → List ℕ)
    → heads_text (h ∷ heads) segments content
    ≡ part_head h (take h.size segments) (length (content h.tile h.number)) ++ (content h.tile h.number ++ heads_text heads (drop h.size segments) content)
unfolding heads_text
heads-cons h heads segments content = refl

-- appends one after another
pub two_more : (o p q a b : List ℕ) → p ≡ o ++ a → q ≡ p ++ b → q ≡ o ++ (a ++ b)
two_more o p q a b e f = f ∙ ap (λ (xs : List ℕ). xs ++ b) e ∙ append_assoc o a b
