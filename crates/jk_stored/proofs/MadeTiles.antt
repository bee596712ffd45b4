-- Each tile-part that is made has the packets of its tile of the codestream.
use Rattle.std.proofs.Common.{◌≡◌, ℕ, suc, ◌+◌, ◌<◌, false, List, [], ◌∷◌, ◌++◌, length, map, drop, get_or, Some, refl, sym, ap, ◌∙◌, arith, append_assoc}
use Rattle.std.specs.Prelude.{slice_get}
use Rattle.std.specs.List.{flat_map, AllByRecursion}
use Rattle.std.proofs.lemmas.Bool.{true≢false}
use Rattle.std.proofs.lemmas.List.{drop_at, drop-drop}
use Rattle.jk_marks.specs.declared.siz.Siz.{Siz}
use Rattle.jk_marks.specs.declared.part_head.PartHead.{PartHead}
use Rattle.jk_marks.specs.Markers.{eoc, marker_text}
use Rattle.jk_marks.specs.Copying.{part_with}
use Rattle.jk_marks.specs.PartHeads.{kept_text, head_of, part_head}
use Rattle.jk_marks.specs.Codestream.{CodestreamPart, IsPart, BeginsWith, part_text}
use Rattle.jk_marks.proofs.Laws.{head_found, part_kept, head_is}
use Rattle.jk_params.specs.Headers.{Headers}
use Rattle.jk_params.proofs.Laws.{part_text_length}
use Rattle.jk_window.specs.Emptied.{emptied_part}
use Rattle.jk_stored.specs.declared.outline.PartSize.{PartSize}
use Rattle.jk_stored.specs.Outlines.{Front, size_of}
use Rattle.jk_stored.specs.Making.{Made, made_text, IsMade, AreMade}
use Rattle.jk_stored.proofs.OutlineLaws.{AreAligned, grown}

-- ---- a tile-part of the outline

-- It begins the bytes that are left.
begins_here : (p : CodestreamPart) (parts : List CodestreamPart) (rest : List ℕ) → p.is_open ≡ false → rest ≡ flat_map part_text (p ∷ parts) ++ marker_text eoc → BeginsWith rest p
begins_here p parts rest closed e = record {
  others = flat_map part_text parts ++ marker_text eoc;
  text = e ∙ append_assoc (part_text p) (flat_map part_text parts) (marker_text eoc);
  last = λ left. absurd (true≢false (sym left ∙ closed));
}

some_is : {A : Type 0} (x y : A) → Some x ≡ Some y → x ≡ y
some_is x y e = cc

-- The head that was read is that of the part, and its segments are the part's.
pub record IsMadeOf (p : CodestreamPart) (t : ℕ) (m : Made) : Type 0 where
  pub head : m.head ≡ head_of p
  pub kept : m.kept ≡ kept_text p
  pub tile : p.tile ≡ t
  pub number : p.number ≡ 0

made_of_part : (siz : Siz) (o : List ℕ) (h : Headers) (t at : ℕ) (p : CodestreamPart) (parts : List CodestreamPart) (m : Made) → IsPart siz p → p.is_open ≡ false → drop at o ≡ flat_map part_text (p ∷ parts) ++ marker_text eoc → IsMade o h t at m
    → IsMadeOf p t m
made_of_part siz o h t at p parts m is closed left made =
    let begins = begins_here p parts (drop at o) closed left in
    let head : m.head ≡ head_of p = some_is m.head (head_of p) (sym made.head ∙ head_found siz (drop at o) p is begins) in
    record {
      head = head;
      kept = made.kept ∙ part_kept siz (drop at o) p is begins;
      tile = sym (ap (λ (x : PartHead). x.tile) head) ∙ made.tile;
      number = sym (ap (λ (x : PartHead). x.number) head) ∙ made.number;
    }

-- its text with the data
pub made_part : (p : CodestreamPart) (t : ℕ) (m : Made) → IsMadeOf p t m → made_text m ≡ part_text (part_with p m.content)
made_part p t m is = (λ i. part_head (is.head i) (is.kept i) (length m.content) ++ m.content) ∙ head_is p m.content

-- ---- all of them

-- the tile-parts of the outline that are left are those that are made
abbrev pub AreMadeOf : (t : ℕ) → List CodestreamPart → List Made → Type 0
AreMadeOf t [] [] = Unit {0}
AreMadeOf t [] (m ∷ made) = ⊥
AreMadeOf t (p ∷ parts) [] = ⊥
AreMadeOf t (p ∷ parts) (m ∷ made) = IsMadeOf p t m × AreMadeOf (t + 1) parts made

-- what is left behind a part
left_behind : (o : List ℕ) (at n : ℕ) (p : CodestreamPart) (rest : List ℕ) → drop at o ≡ part_text p ++ rest → n ≡ length (part_text p) → drop (at + n) o ≡ rest
left_behind o at n p rest e long = sym (drop-drop n at o) ∙ ap (drop n) e ∙ drop_at (part_text p) rest n (sym long)

pub made_of_parts : (siz : Siz) (o : List ℕ) (h : Headers) (t at place : ℕ) (parts : List CodestreamPart) (fronts : List Front) (made : List Made) → AllByRecursion (IsPart siz) parts → AreAligned parts fronts → map (λ (m : Made). m.size) made ≡ map size_of fronts
    → drop at o ≡ flat_map part_text parts ++ marker_text eoc → AreMade (λ i a _ m. IsMade o h i a m) t at place made → AreMadeOf t parts made
made_of_parts siz o h t at place [] [] [] each al sizes left made = tt
made_of_parts siz o h t at place [] [] (m ∷ more) each al sizes left made = absurd cc
made_of_parts siz o h t at place [] (f ∷ fronts) more each al sizes left made = absurd al
made_of_parts siz o h t at place (p ∷ parts) [] more each al sizes left made = absurd al
made_of_parts siz o h t at place (p ∷ parts) (f ∷ fronts) [] each al sizes left made = absurd cc
made_of_parts siz o h t at place (p ∷ parts) (f ∷ fronts) (m ∷ more) each al sizes left made =
    let size : m.size ≡ size_of f = cc in
    let rest : map (λ (u : Made). u.size) more ≡ map size_of fronts = cc in
    let long : m.size.held ≡ length (part_text p) = ap (λ (s : PartSize). s.held) size ∙ sym (part_text_length p ∙ al.0.long) in
    let next = left_behind o at m.size.held p (flat_map part_text parts ++ marker_text eoc) (left ∙ append_assoc (part_text p) (flat_map part_text parts) (marker_text eoc)) long in
    (made_of_part siz o h t at p parts m each.0 al.0.closed left made.0, made_of_parts siz o h (t + 1) (at + m.size.held) (place + m.size.size) parts fronts more each.1 al.1 rest next made.1)

-- their texts are those of the tile-parts of the codestream with these data
pub made_are : (content : ℕ → ℕ → List ℕ) (c : List ℕ) (t place : ℕ) (parts : List CodestreamPart) (fronts : List Front) (made : List Made) (none : Made) → AreAligned parts fronts → AreMadeOf t parts made
    → ((i : ℕ) → i < length made → (get_or made i none).content ≡ content (t + i) 0) → flat_map made_text made ≡ flat_map part_text (map (emptied_part content) (grown c place fronts parts))
made_are content c t place [] [] [] none al are same = refl
made_are content c t place [] [] (m ∷ made) none al are same = absurd are
made_are content c t place [] (f ∷ fronts) made none al are same = absurd al
made_are content c t place (p ∷ parts) [] made none al are same = absurd al
made_are content c t place (p ∷ parts) (f ∷ fronts) [] none al are same = absurd are
made_are content c t place (p ∷ parts) (f ∷ fronts) (m ∷ made) none al are same =
    let own : m.content ≡ content p.tile p.number = same 0 (omega arith) ∙ (λ i. content ((let z : t + 0 ≡ t = omega arith in z ∙ sym are.0.tile) i) (sym are.0.number i)) in
    let here : made_text m ≡ part_text (emptied_part content p) = made_part p t m are.0 ∙ ap (λ (xs : List ℕ). part_text (part_with p xs)) own in
    (λ i. here i ++ made_are content c (t + 1) (place + f.size) parts fronts made none al.1 are.1
    (λ k lt. same (suc k) (omega (arith, lt)) ∙ ap (λ n. content n 0) (let e : t + suc k ≡ t + 1 + k = omega arith in e)) i)

-- ---- where the data stand

-- one element, at the front
pub only_one : {A : Type 0} (xs : List A) (x : A) → length xs ≡ 1 → slice_get xs 0 ≡ Some x → xs ≡ x ∷ []
only_one [] x long e = absurd cc
only_one {A} (y ∷ []) x long e = let same : y ≡ x = cc in ap (λ (z : A). z ∷ []) same
only_one (y ∷ (z ∷ xs)) x long e = absurd (omega (arith, long))

pub first_of : {A : Type 0} (xs : List A) (d x : A) → slice_get xs 0 ≡ Some x → get_or xs 0 d ≡ x
first_of [] d x e = absurd cc
first_of (y ∷ xs) d x e = cc
