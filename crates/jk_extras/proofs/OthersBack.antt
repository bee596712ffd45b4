-- Boxes of XML and under UUIDs that are given are told, in their order.
use Rattle.std.proofs.Common.{◌≡◌, ℕ, ◌+◌, ◌-◌, ◌≤◌, true, false, ltb, List, [], ◌∷◌, ◌++◌, length, take, drop, map, Some, Ok, refl, sym, ap, subst, ◌∙◌, append_assoc, arith}
use Rattle.std.specs.List.{AllByRecursion}
use Rattle.std.proofs.lemmas.Bool.{le-ltb}
use Rattle.std.proofs.lemmas.List.{take_at, drop_at, drop-drop, length-append, length-drop}
use Rattle.std.proofs.lemmas.List.Concat.{flat_map-append}
use Rattle.jk_boxes.specs.Boxes.{Box, AreBoxes, IsJp2, box_text, boxes_text, box_size, signature}
use Rattle.jk_boxes.proofs.Heads.{head_of, after_box}
use Rattle.jk_extras.specs.declared.finding.Wanted.TheVariants.{Others}
use Rattle.jk_extras.specs.declared.finding.Found.{Found}
use Rattle.jk_extras.specs.declared.finding.ToldOther.{ToldOther}
use Rattle.jk_extras.specs.declared.finding.Kind.TheVariants.{Xml as XmlKind, Uuid as UuidKind}
use Rattle.jk_extras.specs.declared.values.Other.{Other}
use Rattle.jk_extras.specs.declared.values.Other.TheVariants.{Xml, Uuid}
use Rattle.jk_extras.specs.declared.values.Extras.{Extras}
use Rattle.jk_extras.specs.Finding.{is_wanted, found_by, found_at, other_told, other_at}
use Rattle.jk_extras.specs.Extras.{other_box, others_boxes}
use Rattle.jk_extras.specs.Dressed.{components_of, dressed_header, dressed}
use Rattle.jk_extras.specs.Given.{IsOther, AreTold, HasUuid}
use Rattle.jk_extras.proofs.Sizes.{extras_low}
use Rattle.jk_extras.proofs.Saying.{contents_there}
use Rattle.jk_extras.proofs.Dressings.{found_again}
use Rattle.jk_extras.proofs.Holding.{others_given, given_before, written_text, last_boxes}

-- what a box at a place is told as
record OneTold (text : List ℕ) (at : ℕ) (o : Other) : Type 0 where
  told : ToldOther
  is : other_told (record { at = at; head = head_of (other_box o) }) ≡ Ok told
  told_as : IsOther text told o
  end_is : told.end ≡ at + box_size (other_box o)

one_told : (text post : List ℕ) (at : ℕ) (o : Other) → HasUuid o → drop at text ≡ box_text (other_box o) ++ post → OneTold text at o
unfolding other_told
one_told text post at (Xml x) uuid there =
    let b = other_box (Xml x) in
    let n = length x.items in
    let inside = contents_there text b post at there in
    let wide : (at + (8 + n)) - (at + 8) ≡ n = omega arith in
    record {
      told = record { kind = XmlKind; start = at + 8; end = at + (8 + n) };
      is = refl;
      told_as = (refl, ap (λ k. take k (drop (at + 8) text)) wide ∙ ap (take n) inside ∙ take_at x.items post n refl);
      end_is = refl;
    }
one_told text post at (Uuid id x) uuid there =
    let b = other_box (Uuid id x) in
    let n = length (id ++ x.items) in
    let size : n ≡ 16 + length x.items = length-append id x.items ∙ ap (λ k. k + length x.items) uuid in
    let inside = contents_there text b post at there in
    let joined : drop (at + 8) text ≡ id ++ (x.items ++ post) = inside ∙ append_assoc id x.items post in
    let long : ltb ((at + (8 + n)) - (at + 8)) 16 ≡ false = le-ltb _ _ (omega (arith, size)) in
    let start : (at + 8) + 16 ≡ at + 24 = omega arith in
    let front : ((at + 8) + 16) - 16 ≡ at + 8 = omega arith in
    let sixteen : ((at + 8) + 16) - (((at + 8) + 16) - 16) ≡ 16 = omega arith in
    let wide : (at + (8 + n)) - ((at + 8) + 16) ≡ length x.items = omega (arith, size) in
    let behind : drop ((at + 8) + 16) text ≡ x.items ++ post = sym (drop-drop 16 (at + 8) text) ∙ ap (drop 16) joined ∙ drop_at id (x.items ++ post) 16 uuid in
    record {
      told = record { kind = UuidKind; start = (at + 8) + 16; end = at + (8 + n) };
      is = rw long refl;
      told_as = (
        refl,
        ap (λ k. take (((at + 8) + 16) - (((at + 8) + 16) - 16)) (drop k text)) front ∙ ap (λ k. take k (drop (at + 8) text)) sixteen ∙ ap (take 16) joined ∙ take_at id (x.items ++ post) 16 uuid,
        ap (λ k. take k (drop ((at + 8) + 16) text)) wide ∙ ap (take (length x.items)) behind ∙ take_at x.items post (length x.items) refl,
      );
      end_is = refl;
    }

wanted_other : (o : Other) → is_wanted Others (other_box o).kind ≡ true
wanted_other (Xml x) = refl
wanted_other (Uuid id x) = refl

other_found : (text : List ℕ) (at : ℕ) (f : Found) (t : ToldOther) → found_at Others at text ≡ Ok (Some f) → other_told f ≡ Ok t → other_at at text ≡ Ok (Some t)
unfolding other_at
other_found text at f t found told = rw (found, told) refl

told_all : (text : List ℕ) (last : List Box) (os : List Other) (at : ℕ) → AllByRecursion HasUuid os → AreBoxes (map other_box os ++ last) → drop at text ≡ boxes_text (map other_box os ++ last) → AreTold text at os
told_all text last [] at uuids are there = tt
told_all text last (o ∷ os) at uuids are there =
    let b = other_box o in
    let tail = map other_box os ++ last in
    let all = boxes_text (b ∷ tail) in
    let enough : length all ≤ length text = omega (arith, ap (λ (x : List ℕ). length x) there, length-drop at text) in
    let found = found_again Others [] b tail (length text) at tt (wanted_other o) are enough in
    let here : at + 0 ≡ at = omega arith in
    let seen : found_at Others at text ≡ Ok (Some (record { at = at; head = head_of b })) =
    ap (found_by Others (length text) at) there ∙ found ∙ ap (λ k. Ok (Some (record { at = k; head = head_of b }))) here in
    let one = one_told text (boxes_text tail) at o uuids.0 there in
    let next : drop (at + box_size b) text ≡ boxes_text tail = sym (drop-drop (box_size b) at text) ∙ ap (drop (box_size b)) there ∙ after_box b (boxes_text tail) in
    let more = told_all text last os (at + box_size b) uuids.1 are.2 next in
    (one.told, other_found text at (record { at = at; head = head_of b }) one.told seen one.is, one.told_as, subst (λ k. AreTold text k os) (sym one.end_is) more)

pub others_back : (file codestream : List ℕ) (j : IsJp2 file codestream) (e : Extras) (text : List ℕ) → AllByRecursion HasUuid e.others.items → dressed j e ≡ Ok text
    → AreTold text (length (signature ++ boxes_text (j.file_type ∷ (j.early ++ (dressed_header j e ∷ j.middle))))) e.others.items
others_back file codestream j e text uuids due =
    let last = j.code ∷ j.after in
    let before = j.file_type ∷ (j.early ++ (dressed_header j e ∷ j.middle)) in
    let front = signature ++ boxes_text before in
    let w = written_text file codestream j e text due in
    let low = extras_low (components_of j.header_next.1.image) e w.0 in
    let joined : j.file_type ∷ (j.early ++ (dressed_header j e ∷ (j.middle ++ (others_boxes e ++ last)))) ≡ before ++ (others_boxes e ++ last) =
    ap (λ (x : List Box). j.file_type ∷ x) (sym (append_assoc j.early (dressed_header j e ∷ j.middle) (others_boxes e ++ last))) in
    let spelled : text ≡ front ++ boxes_text (others_boxes e ++ last) =
    w.1 ∙ ap (λ (x : List Box). signature ++ boxes_text x) joined ∙ ap (λ (x : List ℕ). signature ++ x) (flat_map-append box_text before (others_boxes e ++ last))
    ∙ sym (append_assoc signature (boxes_text before) (boxes_text (others_boxes e ++ last))) in
    let there : drop (length front) text ≡ boxes_text (others_boxes e ++ last) = ap (drop (length front)) spelled ∙ drop_at front (boxes_text (others_boxes e ++ last)) (length front) refl in
    let are = given_before (others_boxes e) last (others_given e.others.items (omega (arith, low.others))) (last_boxes file codestream j) in
    told_all text last e.others.items (length front) uuids are there
