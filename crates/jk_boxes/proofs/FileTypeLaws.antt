-- The file type box: what is read is spelled so, and what is spelled so is read.
use Rattle.std.proofs.Common.{◌≡◌, ℕ, ◌+◌, ◌*◌, ◌%◌, ◌^◌, ◌<◌, ◌≤◌, true, false, ◌||◌, eqb, ltb, not, List, [], ◌∷◌, ◌++◌, length, drop, Ok, refl, sym, ap, subst, ◌∙◌, arith}
use Rattle.std.specs.List.{flat_map, list_any, AllByRecursion}
use Rattle.std.proofs.lemmas.Bool.{eqb-true, eq-eqb, ltb-false, le-ltb, not-false, or_parts}
use Rattle.std.proofs.lemmas.List.{take-append-drop, length-drop, drop-drop}
use Rattle.byteorder.specs.Endian.{big_number, big_bytes}
use Rattle.byteorder.specs.Numbers.{big_number-reads_back, big_from-lt}
use Rattle.jk_math.specs.Steps.{bind_then, refuse_then, ok_is}
use Rattle.jk_math.specs.declared.fault.Fault.TheVariants.{BadBox, Unsupported}
use Rattle.jk_boxes.specs.Boxes.{Box, box_size, box_text, is_open, IsBox, IsFileType, file_type_kind, jp2_brand}
use Rattle.jk_boxes.specs.Reading.{box_of_kind_at, contents_of, names_jp2, file_type_at}
use Rattle.jk_math.proofs.Laws.{AreBytes, are_bytes_after, are_bytes_taken, number_back}
use Rattle.jk_boxes.proofs.Heads.{box_from, head_of, kind_takes, kind_again, contents_again}

-- the numbers of four bytes that stand one after another
numbers_of : List ℕ → List ℕ
numbers_of (a ∷ b ∷ c ∷ d ∷ xs) = big_number 4 (a ∷ b ∷ c ∷ d ∷ []) ∷ numbers_of xs
numbers_of xs = []

numbers_text : (xs : List ℕ) → AreBytes xs → length xs % 4 ≡ 0 → flat_map (big_bytes 4) (numbers_of xs) ≡ xs
unfolding numbers_of
numbers_text [] fits e = refl
numbers_text (a ∷ []) fits e = absurd (omega (arith, e))
numbers_text (a ∷ b ∷ []) fits e = absurd (omega (arith, e))
numbers_text (a ∷ b ∷ c ∷ []) fits e = absurd (omega (arith, e))
numbers_text (a ∷ b ∷ c ∷ d ∷ xs) fits e =
    let others = flat_map (big_bytes 4) (numbers_of xs) in
    let back : big_bytes 4 (big_number 4 (a ∷ b ∷ c ∷ d ∷ [])) ≡ a ∷ b ∷ c ∷ d ∷ [] = number_back 4 (a ∷ b ∷ c ∷ d ∷ xs) fits (omega arith) in
    ap (λ (x : List ℕ). x ++ others) back ∙ ap (λ (x : List ℕ). a ∷ b ∷ c ∷ d ∷ x) (numbers_text xs (are_bytes_after 4 (a ∷ b ∷ c ∷ d ∷ xs) fits) (omega (arith, e)))

numbers_narrow : (xs : List ℕ) → AreBytes xs → AllByRecursion (λ n. n < 2 ^ 32) (numbers_of xs)
unfolding numbers_of
numbers_narrow [] fits = tt
numbers_narrow (a ∷ []) fits = tt
numbers_narrow (a ∷ b ∷ []) fits = tt
numbers_narrow (a ∷ b ∷ c ∷ []) fits = tt
numbers_narrow (a ∷ b ∷ c ∷ d ∷ xs) fits = (big_from-lt 0 4 (a ∷ b ∷ c ∷ d ∷ xs) fits, numbers_narrow xs (are_bytes_after 4 (a ∷ b ∷ c ∷ d ∷ xs) fits))

names_numbers : (xs : List ℕ) → list_any (λ n. eqb n jp2_brand) (numbers_of xs) ≡ names_jp2 xs
unfolding numbers_of names_jp2
names_numbers [] = refl
names_numbers (a ∷ []) = refl
names_numbers (a ∷ b ∷ []) = refl
names_numbers (a ∷ b ∷ c ∷ []) = refl
names_numbers (a ∷ b ∷ c ∷ d ∷ xs) = ap (λ t. eqb (big_number 4 (a ∷ b ∷ c ∷ d ∷ [])) jp2_brand || t) (names_numbers xs)

numbers_again : (ns : List ℕ) → AllByRecursion (λ n. n < 2 ^ 32) ns → numbers_of (flat_map (big_bytes 4) ns) ≡ ns
unfolding numbers_of
numbers_again [] h = refl
numbers_again (n ∷ ns) h =
    let read : big_number 4 (big_bytes 4 n) ≡ n = big_number-reads_back 4 n [] h.0 in
    ap (λ k. k ∷ numbers_of (flat_map (big_bytes 4) ns)) read ∙ ap (λ (x : List ℕ). n ∷ x) (numbers_again ns h.1)

numbers_length : (ns : List ℕ) → length (flat_map (big_bytes 4) ns) ≡ 4 * length ns
numbers_length [] = refl
numbers_length (n ∷ ns) = let more = numbers_length ns in omega (arith, more)

two_numbers : (xs : List ℕ) → AreBytes xs → 8 ≤ length xs → xs ≡ big_bytes 4 (big_number 4 xs) ++ (big_bytes 4 (big_number 4 (drop 4 xs)) ++ drop 8 xs)
two_numbers xs fits long =
    let first = number_back 4 xs fits (omega arith) in
    let second = number_back 4 (drop 4 xs) (are_bytes_after 4 xs fits) (omega (arith, length-drop 4 xs)) in
    sym (take-append-drop 4 xs) ∙ ap (λ (x : List ℕ). x ++ drop 4 xs) (sym first)
    ∙ ap (λ (x : List ℕ). big_bytes 4 (big_number 4 xs) ++ x)
    (sym (take-append-drop 4 (drop 4 xs)) ∙ ap (λ (x : List ℕ). x ++ drop 4 (drop 4 xs)) (sym second) ∙ ap (λ (x : List ℕ). big_bytes 4 (big_number 4 (drop 4 xs)) ++ x) (drop-drop 4 4 xs))

is_file_type : (contents : List ℕ) → AreBytes contents → 8 ≤ length contents → length contents % 4 ≡ 0 → names_jp2 (drop 8 contents) ≡ true → IsFileType contents
is_file_type contents fits long fours named =
    let list = drop 8 contents in
    let list_fits = are_bytes_after 8 contents fits in
    let even : length list % 4 ≡ 0 = omega (arith, length-drop 8 contents, fours) in
    let b = big_number 4 contents in
    let v = big_number 4 (drop 4 contents) in
    record {
      brand = b;
      version = v;
      compatible = numbers_of list;
      text = two_numbers contents fits long ∙ ap (λ (x : List ℕ). big_bytes 4 b ++ (big_bytes 4 v ++ x)) (sym (numbers_text list list_fits even));
      narrow = (big_from-lt 0 4 contents fits, (big_from-lt 0 4 (drop 4 contents) (are_bytes_after 4 contents fits), numbers_narrow list list_fits));
      listed = names_numbers list ∙ named;
    }

-- a file type box at the front, and the length that was answered
pub record TakesFileType (rest : List ℕ) (size : ℕ) : Type 0 where
  pub box : Box
  pub text : rest ≡ box_text box ++ drop size rest
  pub is : IsBox box
  pub size_is : box_size box ≡ size
  pub last : is_open box.form ≡ true → drop size rest ≡ []
  pub kind : box.kind ≡ file_type_kind
  pub file_type : IsFileType box.contents
  pub whole : size ≤ length rest

pub file_type_takes : (rest : List ℕ) (size : ℕ) → AreBytes rest → file_type_at rest ≡ Ok size → TakesFileType rest size
unfolding file_type_at
file_type_takes rest size fits e =
    bind_then (box_of_kind_at file_type_kind true rest) _ size e (λ head s e.
    let contents = contents_of head rest in
    refuse_then (ltb (length contents) 8 || not (eqb (length contents % 4) 0)) BadBox _ size e (λ even e.
    refuse_then (not (names_jp2 (drop 8 contents))) Unsupported _ size e (λ named e.
    let t = kind_takes file_type_kind true rest head fits s in
    let parts = or_parts (ltb (length contents) 8) (not (eqb (length contents % 4) 0)) even in
    let contents_fits : AreBytes contents = are_bytes_taken _ _ (are_bytes_after _ rest fits) in
    let is = is_file_type contents contents_fits (ltb-false _ _ parts.0) (eqb-true _ _ (not-false _ parts.1)) (not-false _ named) in
    let here : TakesFileType rest head.size = record {
      box = box_from head rest;
      text = t.0.text;
      is = t.0.is;
      size_is = t.0.size;
      last = λ o. (t.0.last o).1;
      kind = t.1;
      file_type = is;
      whole = t.0.whole;
    } in
    subst (λ k. TakesFileType rest k) (ok_is head.size size e) here
    )))

listed_again : (contents : List ℕ) → IsFileType contents → (8 ≤ length contents) × (length contents % 4 ≡ 0) × (names_jp2 (drop 8 contents) ≡ true)
listed_again contents is =
    let list = flat_map (big_bytes 4) is.compatible in
    let len : length contents ≡ 8 + length list = ap (λ (x : List ℕ). length x) is.text ∙ omega arith in
    let fours = numbers_length is.compatible in
    let behind : drop 8 contents ≡ list = ap (drop 8) is.text in (
      omega arith,
      omega (arith, len, fours),
      ap names_jp2 behind ∙ sym (names_numbers list) ∙ ap (list_any (λ n. eqb n jp2_brand)) (numbers_again is.compatible is.narrow.1.1) ∙ is.listed,
    )

pub file_type_again : (b : Box) (after : List ℕ) → IsBox b → (is_open b.form ≡ true → after ≡ []) → b.kind ≡ file_type_kind → IsFileType b.contents
    → file_type_at (box_text b ++ after) ≡ Ok (box_size b)
unfolding file_type_at
file_type_again b after is last kind file_type =
    let rest = box_text b ++ after in
    let read : box_of_kind_at file_type_kind true rest ≡ Ok (head_of b) = ap (λ k. box_of_kind_at k true rest) (sym kind) ∙ kind_again true b after is (λ o. (refl, last o)) in
    let contents = contents_again b after in
    let l = listed_again b.contents file_type in
    let long : ltb (length b.contents) 8 ≡ false = le-ltb _ _ l.0 in
    let even : eqb (length b.contents % 4) 0 ≡ true = eq-eqb _ _ l.1 in
    rw (read, contents, long, even, l.2) refl
