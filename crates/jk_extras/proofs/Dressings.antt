-- A JP2 file with extras, by its boxes and by places in it.
use Rattle.std.proofs.Common.{lit<, ◌≡◌, ℕ, ◌+◌, ◌-◌, ◌<◌, ◌≤◌, ◌≢◌, Bool, true, false, ◌&&◌, not, map, cond, eqb, ltb, List, [], ◌∷◌, ◌++◌, length, take, drop, get_or, Some, Result, Ok, Err, refl, sym, ap, ◌∙◌, append_assoc, arith, inr}
use Rattle.std.specs.List.{AllByRecursion, filter}
use Rattle.std.proofs.lemmas.Bool.{ne_eqb, eq-eqb, lt-ltb, le-ltb}
use Rattle.std.proofs.lemmas.List.{take_at, drop_at, drop-drop, length-append, length-drop, append-nil, get_or-drop, get_or_append_left}
use Rattle.std.proofs.lemmas.List.Concat.{flat_map-append}
use Rattle.byteorder.specs.Endian.{big_number}
use Rattle.jk_math.specs.Answer.{◌>>=◌, refuse}
use Rattle.jk_math.specs.declared.fault.Fault.{Fault}
use Rattle.jk_math.specs.declared.fault.Fault.TheVariants.{BadParameters, Limit}
use Rattle.jk_boxes.specs.declared.boxes.Form.{Form}
use Rattle.jk_boxes.specs.declared.boxes.Form.TheVariants.{Short, Long, Open}
use Rattle.jk_boxes.specs.declared.place.Boxed.{Boxed}
use Rattle.jk_boxes.specs.Boxes.{Box, FitsForm, AreBoxes, IsInner, IsJp2, box_text, boxes_text, box_size, head_text, is_open, signature, jp2_place, header_kind, code_kind, palette_kind, image_header_kind, colour_kind}
use Rattle.jk_boxes.specs.Reading.{boxes_at, contents_of}
use Rattle.jk_boxes.specs.Written.{fits_form}
use Rattle.jk_boxes.proofs.Heads.{head_of, box_again, box_length, after_box, contents_again, box_some}
use Rattle.jk_boxes.proofs.Laws.{place_again}
use Rattle.jk_extras.specs.declared.finding.Wanted.{Wanted}
use Rattle.jk_extras.specs.declared.finding.Wanted.TheVariants.{Header, Code}
use Rattle.jk_extras.specs.declared.finding.Found.{Found}
use Rattle.jk_extras.specs.declared.values.Extras.{Extras}
use Rattle.jk_extras.specs.Header.{resolution_kind}
use Rattle.jk_extras.specs.Finding.{is_wanted, found_by, found_at, one_found}
use Rattle.jk_extras.specs.Extras.{IsNone, is_extras, goes, short_box, colour_boxes, resolution_boxes, others_boxes, other_box}
use Rattle.jk_extras.specs.Placing.{kept_step, kept_after, header_dressed, dressed_at, with_extras_at}
use Rattle.jk_extras.specs.Dressed.{components_of, header_boxes, dressed_header, dressed}
use Rattle.jk_extras.specs.Passing.{passed_by}
use Rattle.jk_extras.proofs.Passing.{some_left, one_step as pass_step, no_step}
use Rattle.jk_extras.proofs.Looking.{one_step}
use Rattle.jk_extras.proofs.Sizes.{text_size}

-- the first box that is looked for is found behind others
pub found_again : (wanted : Wanted) (skipped : List Box) (b : Box) (tail : List Box) (n at : ℕ) → AllByRecursion (λ (x : Box). is_wanted wanted x.kind ≡ false) skipped
    → is_wanted wanted b.kind ≡ true → AreBoxes (skipped ++ (b ∷ tail)) → length (boxes_text (skipped ++ (b ∷ tail))) ≤ n
    → found_by wanted n at (boxes_text (skipped ++ (b ∷ tail))) ≡ Ok (Some (record { at = at + length (boxes_text skipped); head = head_of b }))
found_again wanted [] b tail n at skip is are enough =
    let after = boxes_text tail in
    let rest = box_text b ++ after in
    let size = text_size b tail in
    let m = some_left n (length rest) (omega (arith, size, box_some b)) enough in
    let read = box_again true b after are.0 (λ o. (refl, ap boxes_text (are.1 o))) in
    let here : at ≡ at + 0 = omega arith in
    ap (λ k. found_by wanted k at rest) m.1 ∙ one_step wanted m.0 at rest (omega (arith, size, box_some b)) ∙ rw (read, is) (ap (λ k. Ok (Some (record { at = k; head = head_of b }))) here)
found_again wanted (x ∷ xs) b tail n at skip is are enough =
    let after = boxes_text (xs ++ (b ∷ tail)) in
    let rest = box_text x ++ after in
    let size = text_size x (xs ++ (b ∷ tail)) in
    let m = some_left n (length rest) (omega (arith, size, box_some x)) enough in
    let read = box_again true x after are.0 (λ o. (refl, ap boxes_text (are.1 o))) in
    let other = skip.0 in
    let next = after_box x after in
    let more = found_again wanted xs b tail m.0 (at + box_size x) skip.1 is are.2 (omega (arith, size, box_some x, m.1, enough)) in
    let place : (at + box_size x) + length (boxes_text xs) ≡ at + length (boxes_text (x ∷ xs)) = omega (arith, text_size x xs) in
    ap (λ k. found_by wanted k at rest) m.1 ∙ one_step wanted m.0 at rest (omega (arith, size, box_some x))
    ∙ rw (read, other, next) (more ∙ ap (λ k. Ok (Some (record { at = k; head = head_of b }))) place)

-- boxes that stay
abbrev pub stays : Extras → Box → Bool
stays e b = not (goes e b.kind)

kept_on : (e : Extras) (x : Box) (xs : List Box) (g : Bool) (known : List ℕ) → goes e x.kind ≡ g
    → (cond g known (known ++ box_text x)) ++ boxes_text (filter (stays e) xs) ≡ known ++ boxes_text (filter (stays e) (x ∷ xs))
kept_on e x xs true known is = rw is refl
kept_on e x xs false known is = rw is (append_assoc known (box_text x) (boxes_text (filter (stays e) xs)))

kept_passes : (e : Extras) (x : Box) (after : List ℕ) (g : Bool) (known : List ℕ) (at : ℕ) → goes e x.kind ≡ g
    → kept_step e known at (head_of x) (box_text x ++ after) ≡ Ok (cond g known (known ++ box_text x))
kept_passes e x after true known at is = rw is refl
kept_passes e x after false known at is = let t = take_at (box_text x) after (box_size x) (box_length x) in rw (is, t) refl

kept_again : (e : Extras) (others : List Box) (n at : ℕ) (known : List ℕ) → AllByRecursion (IsInner palette_kind) others → length (boxes_text others) ≤ n
    → passed_by (kept_step e) false n known at (boxes_text others) ≡ Ok (known ++ boxes_text (filter (stays e) others))
kept_again e [] n at known plain enough = no_step (kept_step e) false n known at [] refl ∙ ap Ok (sym (append-nil known))
kept_again e (x ∷ xs) n at known plain enough =
    let after = boxes_text xs in
    let rest = box_text x ++ after in
    let size = text_size x xs in
    let inner = plain.0 in
    let m = some_left n (length rest) (omega (arith, size, box_some x)) enough in
    let last : is_open x.form ≡ true → (false ≡ true) × (after ≡ []) = λ o. let c = inner.closed in absurd cc in
    let read = box_again false x after inner.box last in
    let g = goes e x.kind in
    let pass = kept_passes e x after g known at refl in
    let next = after_box x after in
    let more = kept_again e xs m.0 (at + box_size x) (cond g known (known ++ box_text x)) plain.1 (omega (arith, size, box_some x, m.1, enough)) in
    ap (λ k. passed_by (kept_step e) false k known at rest) m.1 ∙ pass_step (kept_step e) false m.0 known at rest (omega (arith, size, box_some x))
    ∙ rw (read, pass, next) (more ∙ ap Ok (kept_on e x xs g known refl))

-- the contents of the JP2 header box
number_on : (k : ℕ) (xs ys : List ℕ) → k + 2 ≤ length xs → big_number 2 (drop k (xs ++ ys)) ≡ big_number 2 (drop k xs)
number_on k xs ys long =
    let at : (i : ℕ) → i < 2 → get_or (drop k (xs ++ ys)) i 0 ≡ get_or (drop k xs) i 0 =
    λ i low. get_or-drop k (xs ++ ys) i 0 ∙ get_or_append_left xs ys 0 (k + i) (omega arith) ∙ sym (get_or-drop k xs i 0) in
    rw (at 0 (lit< tt), at 1 (lit< tt)) refl

abbrev pub image_box : List ℕ → Box
image_box image = short_box image_header_kind image

judged_then : (b : Bool) (x : List ℕ) → (refuse (not b) BadParameters >>= λ _. Ok x) ≡ cond b (Ok x) (Err BadParameters)
judged_then true x = refl
judged_then false x = refl

header_by : (e : Extras) (contents first rest text : List ℕ) (n : ℕ) → ltb (length contents) 22 ≡ false → big_number 2 (drop 16 contents) ≡ n → take 22 contents ≡ first → drop 22 contents ≡ rest
    → kept_after e (first ++ boxes_text (colour_boxes n e.colour)) rest ≡ Ok text
    → header_dressed e contents ≡ cond (is_extras n e) (Ok (text ++ boxes_text (resolution_boxes e))) (Err BadParameters)
unfolding header_dressed
header_by e contents first rest text n long number front behind kept = rw (long, number, front, behind, kept) (judged_then (is_extras n e) (text ++ boxes_text (resolution_boxes e)))

header_again : (e : Extras) (image : List ℕ) (others : List Box) → length image ≡ 14 → AllByRecursion (IsInner palette_kind) others
    → header_dressed e (boxes_text (image_box image ∷ others))
    ≡ cond (is_extras (components_of image) e) (Ok (boxes_text (image_box image ∷ header_boxes (components_of image) e others))) (Err BadParameters)
unfolding box_text
header_again e image others long plain =
    let b = image_box image in
    let n = components_of image in
    let rest = boxes_text others in
    let c = boxes_text (colour_boxes n e.colour) in
    let k = boxes_text (filter (stays e) others) in
    let r = boxes_text (resolution_boxes e) in
    let head = head_text Short image_header_kind (box_size b) in
    let contents = box_text b ++ rest in
    let size : box_size b ≡ 22 = omega (arith, long) in
    let enough : ltb (length contents) 22 ≡ false = le-ltb _ _ (omega (arith, text_size b others, size)) in
    let inside : drop 8 contents ≡ image ++ rest = ap (drop 8) (append_assoc head image rest) ∙ drop_at head (image ++ rest) 8 refl in
    let number : big_number 2 (drop 16 contents) ≡ n =
    ap (big_number 2) (sym (drop-drop 8 8 contents) ∙ ap (drop 8) inside) ∙ number_on 8 image rest (omega (arith, long)) in
    let front = take_at (box_text b) rest 22 (box_length b ∙ size) in
    let behind = drop_at (box_text b) rest 22 (box_length b ∙ size) in
    let kept = kept_again e others (length rest) 0 (box_text b ++ c) plain (omega arith) in
    let joined : ((box_text b ++ c) ++ k) ++ r ≡ box_text b ++ (c ++ (k ++ r)) = simp append_assoc in
    let spelled : c ++ (k ++ r) ≡ boxes_text (header_boxes n e others) =
    ap (λ (x : List ℕ). c ++ x) (sym (flat_map-append box_text (filter (stays e) others) (resolution_boxes e)))
    ∙ sym (flat_map-append box_text (colour_boxes n e.colour) (filter (stays e) others ++ resolution_boxes e)) in
    header_by e contents (box_text b) rest ((box_text b ++ c) ++ k) n enough number front behind kept
    ∙ ap (λ (x : List ℕ). cond (is_extras n e) (Ok x) (Err BadParameters)) (joined ∙ ap (λ (x : List ℕ). box_text b ++ x) spelled)

pub and_no : (b : Bool) → (b && false) ≡ false
and_no true = refl
and_no false = refl

fits_back : (f : Form) (size : ℕ) → FitsForm f size → fits_form f size ≡ true
fits_back Short size fits = lt-ltb _ _ fits
fits_back Long size fits = lt-ltb _ _ fits
fits_back Open size fits = refl

-- boxes behind others are boxes
pub boxes_behind : (xs ys : List Box) → AreBoxes (xs ++ ys) → AreBoxes ys
boxes_behind [] ys are = are
boxes_behind (x ∷ xs) ys are = boxes_behind xs ys are.2

-- where the header and the codestream box stand
module _ (file codestream : List ℕ) (j : IsJp2 file codestream) where
  abbrev pub first : List ℕ
  first = signature ++ boxes_text (j.file_type ∷ j.early)

  abbrev pub last : List ℕ
  last = boxes_text (j.code ∷ j.after)

  split : file ≡ first ++ (box_text j.header ++ (boxes_text j.middle ++ last))
  split =
      let a = boxes_text (j.file_type ∷ j.early) in
      j.text ∙ ap (λ (x : List ℕ). signature ++ x) (flat_map-append box_text (j.file_type ∷ j.early) (j.header ∷ (j.middle ++ (j.code ∷ j.after))))
      ∙ ap (λ (x : List ℕ). signature ++ (a ++ (box_text j.header ++ x))) (flat_map-append box_text j.middle (j.code ∷ j.after))
      ∙ sym (append_assoc signature a (box_text j.header ++ (boxes_text j.middle ++ last)))

  abbrev pub head_at : ℕ
  head_at = 12 + length (boxes_text (j.file_type ∷ j.early))

  first_size : length first ≡ head_at
  first_size = length-append signature (boxes_text (j.file_type ∷ j.early))

  abbrev pub behind_header : ℕ
  behind_header = head_at + box_size j.header

  header_size : length (first ++ box_text j.header) ≡ behind_header
  header_size = length-append first (box_text j.header) ∙ ap (λ k. k + length (box_text j.header)) first_size ∙ ap (λ k. head_at + k) (box_length j.header)

  abbrev pub code_at : ℕ
  code_at = behind_header + length (boxes_text j.middle)

  take_first : take head_at file ≡ first
  take_first = ap (take head_at) split ∙ take_at first (box_text j.header ++ (boxes_text j.middle ++ last)) head_at first_size

  pub drop_first : drop head_at file ≡ box_text j.header ++ (boxes_text j.middle ++ last)
  drop_first = ap (drop head_at) split ∙ drop_at first (box_text j.header ++ (boxes_text j.middle ++ last)) head_at first_size

  drop_header : drop behind_header file ≡ boxes_text j.middle ++ last
  drop_header =
      ap (drop behind_header) (split ∙ sym (append_assoc first (box_text j.header) (boxes_text j.middle ++ last)))
      ∙ drop_at (first ++ box_text j.header) (boxes_text j.middle ++ last) behind_header header_size

  drop_middle : drop code_at file ≡ last
  drop_middle = sym (drop-drop (length (boxes_text j.middle)) behind_header file) ∙ ap (drop (length (boxes_text j.middle))) drop_header
      ∙ drop_at (boxes_text j.middle) last (length (boxes_text j.middle)) refl

  between : take (code_at - behind_header) (drop behind_header file) ≡ boxes_text j.middle
  between =
      let wide : code_at - behind_header ≡ length (boxes_text j.middle) = omega arith in
      ap (λ k. take k (drop behind_header file)) wide ∙ ap (take (length (boxes_text j.middle))) drop_header
      ∙ take_at (boxes_text j.middle) last (length (boxes_text j.middle)) refl

  abbrev pub header_there : Found
  header_there = record { at = head_at; head = head_of j.header }

  abbrev pub code_there : Found
  code_there = record { at = code_at; head = head_of j.code }

  header_kind_is : is_wanted Header j.header.kind ≡ true
  header_kind_is = eq-eqb _ _ j.header_next.0

  code_kind_is : is_wanted Code j.code.kind ≡ true
  code_kind_is = eq-eqb _ _ j.code_next.0

  early_skipped : (bs : List Box) → AllByRecursion (λ (b : Box). (b.kind ≢ header_kind) × (b.kind ≢ code_kind)) bs → AllByRecursion (λ (b : Box). is_wanted Header b.kind ≡ false) bs
  early_skipped [] all = tt
  early_skipped (b ∷ bs) all = (ne_eqb _ _ all.0.0, early_skipped bs all.1)

  middle_skipped : (bs : List Box) → AllByRecursion (λ (b : Box). b.kind ≢ code_kind) bs → AllByRecursion (λ (b : Box). is_wanted Code b.kind ≡ false) bs
  middle_skipped [] all = tt
  middle_skipped (b ∷ bs) all = (ne_eqb _ _ all.0, middle_skipped bs all.1)

  file_type_skipped : is_wanted Header j.file_type.kind ≡ false
  file_type_skipped = ap (λ k. is_wanted Header k) j.file_type_first.0

  pub header_seen : found_at Header 12 file ≡ Ok (Some header_there)
  header_seen =
      let skipped = j.file_type ∷ j.early in
      let tail = j.middle ++ (j.code ∷ j.after) in
      let all = boxes_text (skipped ++ (j.header ∷ tail)) in
      let front : drop 12 file ≡ all = ap (drop 12) j.text ∙ drop_at signature all 12 refl in
      let enough : length all ≤ length file = omega (arith, ap (λ (x : List ℕ). length x) j.text, length-append signature all) in
      let found = found_again Header skipped j.header tail (length file) 12 (file_type_skipped, early_skipped j.early j.before_header) header_kind_is j.boxes enough in
      ap (found_by Header (length file) 12) front ∙ found

  finds_header : one_found Header 12 file ≡ Ok header_there
  unfolding one_found
  finds_header = rw header_seen refl

  finds_code : one_found Code behind_header file ≡ Ok code_there
  unfolding one_found
  finds_code =
      let all = boxes_text (j.middle ++ (j.code ∷ j.after)) in
      let front : drop behind_header file ≡ all = drop_header ∙ sym (flat_map-append box_text j.middle (j.code ∷ j.after)) in
      let enough : length all ≤ length file = omega (arith, ap (λ (x : List ℕ). length x) front, length-drop behind_header file) in
      let are = boxes_behind (j.file_type ∷ j.early) (j.header ∷ (j.middle ++ (j.code ∷ j.after))) j.boxes in
      let found = found_again Code j.middle j.code j.after (length file) behind_header (middle_skipped j.middle j.before_code) code_kind_is are.2 enough in
      rw (front, found) refl

  pub opens : (b : Boxed) × (boxes_at file ≡ Ok b) × (b.jp2 ≡ true)
  opens = (jp2_place j, (place_again file codestream (jp2_place j) (inr (j, refl))).0, refl)

  contents_there : contents_of (head_of j.header) (drop head_at file) ≡ j.header.contents
  contents_there = ap (contents_of (head_of j.header)) drop_first ∙ contents_again j.header (boxes_text j.middle ++ last)

  module _ (e : Extras) where
    abbrev boxes_given : List ℕ
    boxes_given = boxes_text (others_boxes e)

    placed_by : (h c : Found) (b : Boxed) (contents : List ℕ) (r : Result (List ℕ) Fault) → boxes_at file ≡ Ok b → b.jp2 ≡ true → one_found Header 12 file ≡ Ok h
        → one_found Code (h.at + h.head.size) file ≡ Ok c → contents_of h.head (drop h.at file) ≡ contents → header_dressed e contents ≡ r
        → with_extras_at e file ≡ (r >>= λ text. dressed_at h c.at text boxes_given file)
    unfolding with_extras_at
    placed_by h c b contents r opened jp2 header code is due = rw (opened, jp2, header, code, is, due) refl

    -- the header with other contents, and the boxes that are given
    spelled : (text : List ℕ) → dressed_at header_there code_at text boxes_given file
        ≡ (let header : Box = record j.header { contents = text } in cond (fits_form header.form (box_size header)) (Ok (signature ++ boxes_text (j.file_type ∷ (j.early ++ (header ∷ (j.middle ++ (others_boxes e ++ (j.code ∷ j.after)))))))) (Err Limit))
    unfolding dressed_at box_text
    spelled text =
        let header : Box = record j.header { contents = text } in
        let size = box_size header in
        let a = boxes_text (j.file_type ∷ j.early) in
        let m = boxes_text j.middle in
        let tail = others_boxes e ++ (j.code ∷ j.after) in
        let head = head_text j.header.form header_kind size in
        let kind : head ≡ head_text j.header.form j.header.kind size = ap (λ k. head_text j.header.form k size) (sym j.header_next.0) in
        let end : m ++ (boxes_given ++ last) ≡ boxes_text (j.middle ++ tail) =
        ap (λ (x : List ℕ). m ++ x) (sym (flat_map-append box_text (others_boxes e) (j.code ∷ j.after))) ∙ sym (flat_map-append box_text j.middle tail) in
        let whole : take head_at file ++ (head ++ (text ++ (take (code_at - behind_header) (drop behind_header file) ++ (boxes_given ++ drop code_at file))))
        ≡ signature ++ boxes_text (j.file_type ∷ (j.early ++ (header ∷ (j.middle ++ tail)))) =
        ap (λ (x : List ℕ). x ++ (head ++ (text ++ (take (code_at - behind_header) (drop behind_header file) ++ (boxes_given ++ drop code_at file))))) take_first
        ∙ ap (λ (x : List ℕ). first ++ (head ++ (text ++ (x ++ (boxes_given ++ drop code_at file))))) between
        ∙ ap (λ (x : List ℕ). first ++ (head ++ (text ++ (m ++ (boxes_given ++ x))))) drop_middle
        ∙ ap (λ (x : List ℕ). first ++ (head ++ (text ++ x))) end
        ∙ ap (λ (x : List ℕ). first ++ (x ++ (text ++ boxes_text (j.middle ++ tail)))) kind
        ∙ ap (λ (x : List ℕ). first ++ x) (sym (append_assoc (head_text j.header.form j.header.kind size) text (boxes_text (j.middle ++ tail))))
        ∙ append_assoc signature a (box_text header ++ boxes_text (j.middle ++ tail))
        ∙ ap (λ (x : List ℕ). signature ++ x) (sym (flat_map-append box_text (j.file_type ∷ j.early) (header ∷ (j.middle ++ tail)))) in
        ap (λ (x : List ℕ). cond (fits_form j.header.form size) (Ok x) (Err Limit)) whole

    judged_on : (b : Bool) (x : List ℕ) (f : List ℕ → Result (List ℕ) Fault) → (cond b (Ok x) (Err BadParameters) >>= f) ≡ cond b (f x) (Err BadParameters)
    judged_on true x f = refl
    judged_on false x f = refl

    -- what is written by places in the file is what is written by its boxes
    pub dressed_there : with_extras_at e file ≡ dressed j e
    unfolding dressed
    dressed_there =
        let h = j.header_next.1 in
        let n = components_of h.image in
        let text = boxes_text (image_box h.image ∷ header_boxes n e h.others) in
        let due = header_again e h.image h.others h.size h.plain in
        placed_by header_there code_there opens.0 _ _ opens.1 opens.2 finds_header finds_code (contents_there ∙ h.text) due
        ∙ judged_on (is_extras n e) text (λ t. dressed_at header_there code_at t boxes_given file)
        ∙ ap (λ (x : Result (List ℕ) Fault). cond (is_extras n e) x (Err BadParameters)) (spelled text)

    -- with nothing the file stays
    none_goes : (kind : ℕ) → IsNone e → goes e kind ≡ false
    none_goes kind none = rw (none.colour, none.capture, none.display, and_no (eqb kind colour_kind), and_no (eqb kind resolution_kind)) refl

    none_kept : (bs : List Box) → IsNone e → filter (stays e) bs ≡ bs
    none_kept [] none = refl
    none_kept (b ∷ bs) none = let g = none_goes b.kind none in rw g (ap (λ (x : List Box). b ∷ x) (none_kept bs none))

    none_given : (n : ℕ) → IsNone e → is_extras n e ≡ true
    unfolding is_extras
    none_given n none = rw (none.colour, none.capture, none.display, none.others) refl

    none_boxes : (n : ℕ) (bs : List Box) → IsNone e → header_boxes n e bs ≡ bs
    none_boxes n bs none =
        let c : colour_boxes n e.colour ≡ [] = ap (colour_boxes n) none.colour in
        let r : resolution_boxes e ≡ [] = rw (none.capture, none.display) refl in
        let k = filter (stays e) bs in
        ap (λ (x : List Box). x ++ (k ++ resolution_boxes e)) c ∙ ap (λ (x : List Box). k ++ x) r ∙ append-nil k ∙ none_kept bs none

    shape : Box → List Box → Result (List ℕ) Fault
    shape h o = cond (fits_form h.form (box_size h)) (Ok (signature ++ boxes_text (j.file_type ∷ (j.early ++ (h ∷ (j.middle ++ (o ++ (j.code ∷ j.after)))))))) (Err Limit)

    pub none_same : IsNone e → dressed j e ≡ Ok file
    unfolding dressed shape
    none_same none =
        let h = j.header_next.1 in
        let n = components_of h.image in
        let given = none_given n none in
        let contents : boxes_text (image_box h.image ∷ header_boxes n e h.others) ≡ j.header.contents =
        ap (λ (x : List Box). boxes_text (image_box h.image ∷ x)) (none_boxes n h.others none) ∙ sym h.text in
        let header : dressed_header j e ≡ j.header = ap (λ (x : List ℕ). let b : Box = record j.header { contents = x } in b) contents in
        let others : others_boxes e ≡ [] = ap (map other_box) none.others in
        let are = boxes_behind (j.file_type ∷ j.early) (j.header ∷ (j.middle ++ (j.code ∷ j.after))) j.boxes in
        let fits = fits_back j.header.form (box_size j.header) are.0.size in
        rw given (ap (λ (x : Box). shape x (others_boxes e)) header ∙ ap (shape j.header) others ∙ rw fits (ap Ok (sym j.text)))
