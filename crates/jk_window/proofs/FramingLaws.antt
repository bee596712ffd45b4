-- What an index keeps around the packets is found in the bytes, and there is one.
use Rattle.std.proofs.Common.{◌≡◌, ℕ, zero, suc, ◌+◌, ◌-◌, ◌<◌, ◌≤◌, true, List, [], ◌∷◌, ◌++◌, length, length-append, map, drop, Option, Some, None, append_assoc, refl, sym, ap, ◌∙◌, subst, arith}
use Rattle.std.specs.Prelude.{slice_get}
use Rattle.std.specs.List.{AllByRecursion, flat_map}
use Rattle.std.proofs.lemmas.Bool.{true≢false}
use Rattle.std.proofs.lemmas.List.{drop_at, drop-drop}
use Rattle.std.proofs.lemmas.Grind.{flat_map-append}
use Rattle.std.proofs.lemmas.Option.{get_or_from_slice_get}
use Rattle.jk_marks.specs.declared.part_head.PartHead.{PartHead}
use Rattle.jk_marks.specs.Markers.{eoc, marker_text}
use Rattle.jk_marks.specs.Codestream.{CodestreamPart, Tree, part_text, part_length, data_start, main_text, codestream_text, IsPart, AreParts, AreClosedBeforeLast, BeginsWith}
use Rattle.jk_marks.specs.Copying.{main_size_at}
use Rattle.jk_marks.specs.PartHeads.{kept_text, head_of, part_head_at}
use Rattle.jk_marks.proofs.Laws.{begins_main, main_kept, main_sized, part_kept, head_found, none_at_end}
use Rattle.jk_boxes.specs.declared.boxes.Form.{Form}
use Rattle.jk_boxes.specs.declared.place.Boxed.{Boxed}
use Rattle.jk_boxes.specs.Boxes.{HoldsAt, form_of}
use Rattle.jk_params.specs.Headers.{Headers, tile_in, headers_of, IsHeaders}
use Rattle.jk_params.proofs.Laws.{part_text_length, part_placed}
use Rattle.jk_window.specs.Framing.{Frame, IsFrameOf, end_of, where_some, walked, head_alone, segments_alone, frame_at}

walked-suc : {X : Type 0} (f : PartHead → List ℕ → List X) (n : ℕ) (bytes : List ℕ) (h : Headers) (at : ℕ)
    → walked f (suc n) bytes h at ≡ where_some (part_head_at (drop at bytes)) (λ head. f head (drop at bytes) ++ walked f n bytes h (end_of h head))
unfolding walked
walked-suc f n bytes h at = refl

-- one part more, none, and none left
pub walked_more : {X : Type 0} (f : PartHead → List ℕ → List X) (n i : ℕ) (bytes : List ℕ) (h : Headers) (at : ℕ) (head : PartHead) → i < n → Some head ≡ part_head_at (drop at bytes)
    → walked f (n - i) bytes h at ≡ f head (drop at bytes) ++ walked f (n - (i + 1)) bytes h (end_of h head)
walked_more f n i bytes h at head lt some =
    let m : n - i ≡ suc (n - (i + 1)) = omega arith in
    ap (λ k. walked f k bytes h at) m
    ∙ walked-suc f (n - (i + 1)) bytes h at
    ∙ ap (λ (o : Option PartHead). where_some o (λ p. f p (drop at bytes) ++ walked f (n - (i + 1)) bytes h (end_of h p))) (sym some)

pub walked_none : {X : Type 0} (f : PartHead → List ℕ → List X) (n : ℕ) (bytes : List ℕ) (h : Headers) (at : ℕ) → None ≡ part_head_at (drop at bytes) → walked f n bytes h at ≡ []
unfolding walked
walked_none f zero bytes h at none = refl
walked_none f (suc n) bytes h at none = ap (λ (o : Option PartHead). where_some o (λ p. f p (drop at bytes) ++ walked f n bytes h (end_of h p))) (sym none)

pub walked_over : {X : Type 0} (f : PartHead → List ℕ → List X) (n i : ℕ) (bytes : List ℕ) (h : Headers) (at : ℕ) → n ≤ i → walked f (n - i) bytes h at ≡ []
unfolding walked
walked_over f n i bytes h at le = let m : n - i ≡ 0 = omega arith in ap (λ k. walked f k bytes h at) m ∙ refl

last_open : (p : CodestreamPart) (back : List CodestreamPart) → AreClosedBeforeLast (p ∷ back) → p.is_open ≡ true → flat_map part_text back ++ marker_text eoc ≡ marker_text eoc
last_open p [] closed left = refl
last_open p (q ∷ back) closed left = absurd (true≢false (sym left ∙ closed.0))

later_closed : (p : CodestreamPart) (back : List CodestreamPart) → AreClosedBeforeLast (p ∷ back) → AreClosedBeforeLast back
later_closed p [] closed = tt
later_closed p (q ∷ back) closed = closed.1

walk_is : {X : Type 0} (f : PartHead → List ℕ → List X) (g : CodestreamPart → List X) (bytes : List ℕ) (h : Headers) (tree : Tree) (n at : ℕ) (front back : List CodestreamPart)
    → ((b : List ℕ) (p : CodestreamPart) → IsPart tree.siz p → BeginsWith b p → f (head_of p) b ≡ g p) → h ≡ headers_of tree → AreParts tree.siz tree.parts → tree.parts ≡ front ++ back
    → at ≡ length (main_text tree.siz tree.segments) + length (flat_map part_text front) → AllByRecursion (IsPart tree.siz) back → AreClosedBeforeLast back → drop at bytes ≡ flat_map part_text back ++ marker_text eoc
    → length back < n → walked f n bytes h at ≡ flat_map g back
walk_is f g bytes h tree zero at front back same says are split at-is each closed here less = absurd (omega (arith, less))
walk_is {X} f g bytes h tree (suc n) at front [] same says are split at-is each closed here less =
    walked-suc f n bytes h at
    ∙ ap (λ (o : Option PartHead). where_some o (λ head. f head (drop at bytes) ++ walked f n bytes h (end_of h head))) (none_at_end (drop at bytes) [] here)
walk_is {X} f g bytes h tree (suc n) at front (p ∷ back) same says are split at-is each closed here less =
    let rest = flat_map part_text back ++ marker_text eoc in
    let text : drop at bytes ≡ part_text p ++ rest = here ∙ append_assoc (part_text p) (flat_map part_text back) (marker_text eoc) in
    let begins : BeginsWith (drop at bytes) p = record { others = rest; text = text; last = last_open p back closed } in
    let place = subst (λ (x : Headers). slice_get (tile_in x.tiles p.tile).data_places p.number ≡ Some (at + data_start p, at + part_length p)) (sym says) (part_placed tree at front p back are split each.0.tile at-is) in
    let next : end_of h (head_of p) ≡ at + part_length p =
    ap (λ (q : ℕ × ℕ). q.1) (get_or_from_slice_get (tile_in h.tiles p.tile).data_places p.number (at + data_start p, at + part_length p) (0, 0) place) in
    let after : drop (at + part_length p) bytes ≡ rest = sym (drop-drop (part_length p) at bytes) ∙ ap (drop (part_length p)) text ∙ drop_at (part_text p) rest (part_length p) (part_text_length p) in
    let parts : tree.parts ≡ (front ++ p ∷ []) ++ back = split ∙ sym (append_assoc front (p ∷ []) back) in
    let long = part_text_length p in
    let end : at + part_length p ≡ length (main_text tree.siz tree.segments) + length (flat_map part_text (front ++ p ∷ [])) =
    omega (arith, at-is, ap (λ (xs : List ℕ). length xs) (flat_map-append part_text front (p ∷ [])), length-append (flat_map part_text front) (part_text p ++ []), length-append (part_text p) [], long) in
    walked-suc f n bytes h at
    ∙ ap (λ (o : Option PartHead). where_some o (λ head. f head (drop at bytes) ++ walked f n bytes h (end_of h head))) (head_found tree.siz (drop at bytes) p each.0 begins)
    ∙ ap (λ k. f (head_of p) (drop at bytes) ++ walked f n bytes h k) next
    ∙ ap (λ (xs : List X). xs ++ walked f n bytes h (at + part_length p)) (same (drop at bytes) p each.0 begins)
    ∙ ap (λ (xs : List X). g p ++ xs) (walk_is f g bytes h tree n (at + part_length p) (front ++ p ∷ []) back same says are parts end each.1 (later_closed p back closed) after (omega (arith, less)))

parts_few : (parts : List CodestreamPart) → length parts ≤ length (flat_map part_text parts)
parts_few [] = omega arith
parts_few (p ∷ parts) = let more = parts_few parts in omega (arith, more, part_text_length p, length-append (part_text p) (flat_map part_text parts))

heads_each : (parts : List CodestreamPart) → flat_map (λ (p : CodestreamPart). head_of p ∷ []) parts ≡ map head_of parts
heads_each [] = refl
heads_each (p ∷ parts) = ap (λ (hs : List PartHead). head_of p ∷ hs) (heads_each parts)

-- what is taken of all parts of a codestream
all_walked : {X : Type 0} (f : PartHead → List ℕ → List X) (g : CodestreamPart → List X) (bytes : List ℕ) (h : Headers) (is : IsHeaders bytes h) → ((b : List ℕ) (p : CodestreamPart) → IsPart is.tree.siz p → BeginsWith b p → f (head_of p) b ≡ g p)
    → walked f (length bytes) bytes h (main_size_at bytes) ≡ flat_map g is.tree.parts
unfolding codestream_text
all_walked f g bytes h is same =
    let tree = is.tree in
    let spelled = is.spelled in
    let main = main_text tree.siz tree.segments in
    let parts = flat_map part_text tree.parts in
    let rest = parts ++ marker_text eoc in
    let start : main_size_at bytes ≡ length main = main_sized bytes tree.siz tree.segments spelled.header (begins_main bytes tree spelled) in
    let here : drop (main_size_at bytes) bytes ≡ rest = ap (drop (main_size_at bytes)) spelled.text ∙ drop_at main rest (main_size_at bytes) (sym start) in
    let whole = ap (λ (xs : List ℕ). length xs) spelled.text in
    let few = parts_few tree.parts in
    walk_is f g bytes h tree (length bytes) (main_size_at bytes) [] tree.parts same is.says spelled.parts refl (omega (arith, start)) spelled.parts.each spelled.parts.closed here
    (omega (arith, few, whole, length-append main rest, length-append parts (marker_text eoc)))

-- The frame of a file.
pub frame_found : {bytes codestream : List ℕ} {place : Boxed} (holds : HoldsAt bytes codestream place) (h : Headers) (is : IsHeaders codestream h) (form : Form) (size : ℕ) → form ≡ form_of holds → size ≡ length bytes
    → IsFrameOf holds is.tree (frame_at codestream h form size)
frame_found {bytes} {codestream} {place} holds h is form size own long =
    let tree = is.tree in
    record {
      main = main_kept codestream tree.siz tree.segments is.spelled.header (begins_main codestream tree is.spelled);
      heads = all_walked head_alone (λ (p : CodestreamPart). head_of p ∷ []) codestream h is (λ b p part begins. refl) ∙ heads_each tree.parts;
      segments = all_walked segments_alone kept_text codestream h is (λ b p part begins. part_kept tree.siz b p part begins);
      form = own;
      size = long;
    }

pub frame_only : {bytes codestream : List ℕ} {place : Boxed} (holds : HoldsAt bytes codestream place) (tree : Tree) (f g : Frame) → IsFrameOf holds tree f → IsFrameOf holds tree g → f ≡ g
frame_only holds tree f g a b =
    let main = a.main ∙ sym b.main in
    let heads = a.heads ∙ sym b.heads in
    let segments = a.segments ∙ sym b.segments in
    let form = a.form ∙ sym b.form in
    let size = a.size ∙ sym b.size in
    λ k. record { main = main k; heads = heads k; segments = segments k; form = form k; size = size k }
