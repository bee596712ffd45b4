-- What the head of a box takes, and that it is taken again where it was written.
use Rattle.std.proofs.Common.{lit<, ◌≡◌, ℕ, ◌+◌, ◌-◌, ◌^◌, ◌<◌, ◌≤◌, Bool, true, false, eqb, ltb, not, List, [], ◌++◌, length, take, drop, Ok, refl, sym, ap, subst, ◌∙◌, append_assoc, arith, inl, inr}
use Rattle.std.proofs.Math.Seq.{take-add}
use Rattle.std.proofs.lemmas.Bool.{eqb-true, ne_eqb, eq-eqb, ltb-false, le-ltb, not-false}
use Rattle.std.proofs.lemmas.List.{take_at, drop_at, take-append-drop, length-append, length-drop, length-take, drop-drop, drop_all}
use Rattle.byteorder.specs.Endian.{big_number, big_bytes}
use Rattle.byteorder.specs.Numbers.{big_number-reads_back, big_from-lt}
use Rattle.jk_math.specs.Steps.{bind_then, refuse_then, guarded, guard_ended, chosen, ok_is}
use Rattle.jk_math.specs.declared.fault.Fault.TheVariants.{Truncated, BadBox}
use Rattle.jk_boxes.specs.declared.boxes.Form.{Form}
use Rattle.jk_boxes.specs.declared.boxes.Form.TheVariants.{Short, Long, Open}
use Rattle.jk_boxes.specs.declared.boxes.BoxHead.{BoxHead}
use Rattle.jk_boxes.specs.Boxes.{Box, head_size, head_text, box_size, box_text, is_open, FitsForm, IsBox}
use Rattle.jk_boxes.specs.Reading.{length_at, box_at, contents_of, box_of_kind_at}
use Rattle.jk_math.proofs.Laws.{AreBytes, are_bytes_after, number_back}

-- what stands at the front, where the length is told in this way
pub record TakesLength (ends : Bool) (rest : List ℕ) (form : Form) (size : ℕ) : Type 0 where
  pub head : take (head_size form) rest ≡ head_text form (big_number 4 (drop 4 rest)) size
  pub fits : FitsForm form size
  pub low : head_size form ≤ size
  pub room : head_size form ≤ length rest
  pub last : is_open form ≡ true → (ends ≡ true) × (size ≡ length rest)

front_eight : (n : ℕ) (rest : List ℕ) → AreBytes rest → 8 ≤ length rest → big_number 4 rest ≡ n → take 8 rest ≡ big_bytes 4 n ++ big_bytes 4 (big_number 4 (drop 4 rest))
front_eight n rest fits long is =
    let first : big_bytes 4 n ≡ take 4 rest = ap (big_bytes 4) (sym is) ∙ number_back 4 rest fits (omega arith) in
    let second : big_bytes 4 (big_number 4 (drop 4 rest)) ≡ take 4 (drop 4 rest) = number_back 4 (drop 4 rest) (are_bytes_after 4 rest fits) (omega (arith, length-drop 4 rest)) in
    take-add 4 4 rest ∙ ap (λ (x : List ℕ). x ++ take 4 (drop 4 rest)) (sym first) ∙ ap (λ (x : List ℕ). big_bytes 4 n ++ x) (sym second)

number_low : (n : ℕ) (rest : List ℕ) → AreBytes rest → big_number n rest < 256 ^ n
number_low n rest fits = big_from-lt 0 n rest fits

pub length_takes : (ends : Bool) (rest : List ℕ) (l : Form × ℕ) → AreBytes rest → 8 ≤ length rest → length_at ends rest ≡ Ok l → TakesLength ends rest l.0 l.1
unfolding length_at
length_takes ends rest l fits long e =
    let n = big_number 4 rest in
    let m = big_number 8 (drop 8 rest) in
    elim (chosen (eqb n 0) _ _ (Ok l) e) [
      | inl w ↦
          let g = guard_ended ends Truncated (Open, length rest) l w.1 in
          let t : TakesLength ends rest Open (length rest) = record { head = front_eight 0 rest fits long (eqb-true n 0 w.0); fits = tt; low = long; room = long; last = λ _. (g.0, refl) } in
          subst (λ (l : Form × ℕ). TakesLength ends rest l.0 l.1) g.1 t
      | inr w ↦ elim (chosen (eqb n 1) _ _ (Ok l) w.1) [
        | inl v ↦
            let g = guarded (ltb (length rest) 16) Truncated _ l v.1 in
            let h = guarded (ltb m 16) BadBox _ l g.1 in
            let roomy : 16 ≤ length rest = ltb-false _ _ g.0 in
            let front = front_eight 1 rest fits long (eqb-true n 1 v.0) in
            let number : big_bytes 8 m ≡ take 8 (drop 8 rest) = number_back 8 (drop 8 rest) (are_bytes_after 8 rest fits) (omega (arith, length-drop 8 rest)) in
            let k = big_bytes 4 (big_number 4 (drop 4 rest)) in
            let t : TakesLength ends rest Long m = record {
              head = take-add 8 8 rest ∙ ap (λ (x : List ℕ). x ++ take 8 (drop 8 rest)) front ∙ ap (λ (x : List ℕ). (big_bytes 4 1 ++ k) ++ x) (sym number) ∙ append_assoc (big_bytes 4 1) k (big_bytes 8 m);
              fits = number_low 8 (drop 8 rest) (are_bytes_after 8 rest fits);
              low = ltb-false _ _ h.0;
              room = roomy;
              last = λ o. absurd cc;
            } in
            subst (λ (l : Form × ℕ). TakesLength ends rest l.0 l.1) (ok_is (Long, m) l h.1) t
        | inr v ↦
            let g = guarded (ltb n 8) BadBox _ l v.1 in
            let t : TakesLength ends rest Short n = record {
              head = front_eight n rest fits long refl;
              fits = number_low 4 rest fits;
              low = ltb-false _ _ g.0;
              room = long;
              last = λ o. absurd cc;
            } in
            subst (λ (l : Form × ℕ). TakesLength ends rest l.0 l.1) (ok_is (Short, n) l g.1) t
      ]
    ]

-- the box that a head and the bytes behind it make
abbrev pub box_from : BoxHead → List ℕ → Box
box_from head rest = record { form = head.form; kind = head.kind; contents = contents_of head rest }

pub record TakesBox (ends : Bool) (rest : List ℕ) (head : BoxHead) : Type 0 where
  pub text : rest ≡ box_text (box_from head rest) ++ drop head.size rest
  pub is : IsBox (box_from head rest)
  pub size : box_size (box_from head rest) ≡ head.size
  pub low : 8 ≤ head.size
  pub whole : head.size ≤ length rest
  pub last : is_open head.form ≡ true → (ends ≡ true) × (drop head.size rest ≡ [])

eight_before : (f : Form) → 8 ≤ head_size f
eight_before Short = omega arith
eight_before Long = omega arith
eight_before Open = omega arith

takes_box : (ends : Bool) (rest : List ℕ) (form : Form) (size : ℕ) → AreBytes rest → TakesLength ends rest form size → size ≤ length rest
    → TakesBox ends rest (record { form = form; kind = big_number 4 (drop 4 rest); size = size })
unfolding box_text
takes_box ends rest form size fits t whole =
    let h = head_size form in
    let kind = big_number 4 (drop 4 rest) in
    let contents = take (size - h) (drop h rest) in
    let len : length contents ≡ size - h = length-take (size - h) (drop h rest) ∙ omega (arith, length-drop h rest, t.low) in
    let size-is : h + length contents ≡ size = omega (arith, len, t.low) in
    let after : drop (size - h) (drop h rest) ≡ drop size rest = drop-drop (size - h) h rest ∙ ap (λ k. drop k rest) (omega (arith, t.low)) in
    let behind : drop h rest ≡ contents ++ drop size rest = sym (take-append-drop (size - h) (drop h rest)) ∙ ap (λ (x : List ℕ). contents ++ x) after in
    let front : take h rest ≡ head_text form kind (h + length contents) = t.head ∙ ap (head_text form kind) (sym size-is) in
    record {
      text = sym (take-append-drop h rest) ∙ ap (λ (x : List ℕ). x ++ drop h rest) front ∙ ap (λ (x : List ℕ). head_text form kind (h + length contents) ++ x) behind
          ∙ sym (append_assoc (head_text form kind (h + length contents)) contents (drop size rest));
      is = record { kind = number_low 4 (drop 4 rest) (are_bytes_after 4 rest fits); size = subst (FitsForm form) (sym size-is) t.fits };
      size = size-is;
      low = omega (arith, eight_before form, t.low);
      whole = whole;
      last = λ o. ((t.last o).0, drop_all size rest (omega (arith, (t.last o).1)));
    }

pub box_takes : (ends : Bool) (rest : List ℕ) (head : BoxHead) → AreBytes rest → box_at ends rest ≡ Ok head → TakesBox ends rest head
unfolding box_at
box_takes ends rest head fits e =
    refuse_then (ltb (length rest) 8) Truncated _ head e (λ long e.
    bind_then (length_at ends rest) _ head e (λ l s e.
    refuse_then (ltb (length rest) l.1) Truncated _ head e (λ whole e.
    let t = length_takes ends rest l fits (ltb-false _ _ long) s in
    let b = takes_box ends rest l.0 l.1 fits t (ltb-false _ _ whole) in
    subst (λ (x : BoxHead). TakesBox ends rest x) (ok_is (record { form = l.0; kind = big_number 4 (drop 4 rest); size = l.1 }) head e) b
    )))

-- reading what was written
length_short : (ends : Bool) (rest : List ℕ) (n : ℕ) → big_number 4 rest ≡ n → 8 ≤ n → length_at ends rest ≡ Ok (Short, n)
unfolding length_at
length_short ends rest n is low =
    let a : eqb n 0 ≡ false = ne_eqb n 0 (omega arith) in
    let b : eqb n 1 ≡ false = ne_eqb n 1 (omega arith) in
    let c : ltb n 8 ≡ false = le-ltb _ _ low in
    rw (is, a, b, c) refl

length_long : (ends : Bool) (rest : List ℕ) (n : ℕ) → big_number 4 rest ≡ 1 → big_number 8 (drop 8 rest) ≡ n → 16 ≤ n → 16 ≤ length rest → length_at ends rest ≡ Ok (Long, n)
unfolding length_at
length_long ends rest n one is low room =
    let b : ltb (length rest) 16 ≡ false = le-ltb _ _ room in
    let c : ltb n 16 ≡ false = le-ltb _ _ low in
    rw (one, b, is, c) refl

length_open : (rest : List ℕ) → big_number 4 rest ≡ 0 → length_at true rest ≡ Ok (Open, length rest)
unfolding length_at
length_open rest is = rw is refl

box_again_from : (ends : Bool) (rest : List ℕ) (form : Form) (kind size : ℕ) → 8 ≤ length rest → length_at ends rest ≡ Ok (form, size) → size ≤ length rest → big_number 4 (drop 4 rest) ≡ kind
    → box_at ends rest ≡ Ok (record { form = form; kind = kind; size = size })
unfolding box_at
box_again_from ends rest form kind size long read whole is =
    let a : ltb (length rest) 8 ≡ false = le-ltb _ _ long in
    let b : ltb (length rest) size ≡ false = le-ltb _ _ whole in
    rw (a, read, b, is) refl

abbrev pub head_of : Box → BoxHead
head_of b = record { form = b.form; kind = b.kind; size = box_size b }

pub head_length : (form : Form) (kind size : ℕ) → length (head_text form kind size) ≡ head_size form
head_length Short kind size = refl
head_length Long kind size = refl
head_length Open kind size = refl

pub box_length : (b : Box) → length (box_text b) ≡ box_size b
unfolding box_text
box_length b = length-append (head_text b.form b.kind (box_size b)) b.contents ∙ ap (λ k. k + length b.contents) (head_length b.form b.kind (box_size b))

-- a box that was written is read again
pub box_again : (ends : Bool) (b : Box) (after : List ℕ) → IsBox b → (is_open b.form ≡ true → (ends ≡ true) × (after ≡ [])) → box_at ends (box_text b ++ after) ≡ Ok (head_of b)
unfolding box_text
box_again ends b after is last =
    let h = head_text b.form b.kind (box_size b) in
    let rest = b.contents ++ after in
    let joined = append_assoc h b.contents after in
    let len : length rest ≡ length b.contents + length after = length-append b.contents after in
    let n = length b.contents in
    ap (box_at ends) joined ∙ elim b.form as (λ (f : Form). FitsForm f (head_size f + n) → (is_open f ≡ true → (ends ≡ true) × (after ≡ [])) → box_at ends (head_text f b.kind (head_size f + n) ++ rest) ≡ Ok (record { form = f; kind = b.kind; size = head_size f + n })) [
      | Short ↦ λ fits last.
          let k = big_bytes 4 b.kind ++ rest in
          box_again_from ends (big_bytes 4 (8 + n) ++ k) Short b.kind (8 + n) (omega arith)
          (length_short ends (big_bytes 4 (8 + n) ++ k) (8 + n) (big_number-reads_back 4 (8 + n) k fits) (omega arith)) (omega (arith, len)) (big_number-reads_back 4 b.kind rest is.kind)
      | Long ↦ λ fits last.
          let k = big_bytes 8 (16 + n) ++ rest in
          let t = big_bytes 4 1 ++ (big_bytes 4 b.kind ++ k) in
          box_again_from ends t Long b.kind (16 + n) (omega arith)
          (length_long ends t (16 + n) (big_number-reads_back 4 1 (big_bytes 4 b.kind ++ k) (lit< tt)) (big_number-reads_back 8 (16 + n) rest fits) (omega arith) (omega arith)) (omega (arith, len)) (big_number-reads_back 4 b.kind k is.kind)
      | Open ↦ λ fits last.
          let t = big_bytes 4 0 ++ (big_bytes 4 b.kind ++ rest) in
          let none : length after ≡ 0 = ap (λ (x : List ℕ). length x) (last refl).1 in
          let size : length t ≡ 8 + n = omega (arith, len, none) in
          let read : length_at ends t ≡ Ok (Open, 8 + n) = ap (λ e. length_at e t) (last refl).0 ∙ length_open t (big_number-reads_back 4 0 (big_bytes 4 b.kind ++ rest) (lit< tt)) ∙ ap (λ k. Ok (Open, k)) size in
          box_again_from ends t Open b.kind (8 + n) (omega arith) read (omega (arith, len)) (big_number-reads_back 4 b.kind rest is.kind)
    ] is.size last

pub after_box : (b : Box) (after : List ℕ) → drop (box_size b) (box_text b ++ after) ≡ after
after_box b after = drop_at (box_text b) after (box_size b) (box_length b)

pub contents_again : (b : Box) (after : List ℕ) → contents_of (head_of b) (box_text b ++ after) ≡ b.contents
unfolding box_text
contents_again b after =
    let h = head_text b.form b.kind (box_size b) in
    let k = head_size b.form in
    let behind : drop k ((h ++ b.contents) ++ after) ≡ b.contents ++ after = ap (drop k) (append_assoc h b.contents after) ∙ drop_at h (b.contents ++ after) k (head_length b.form b.kind (box_size b)) in
    let size : box_size b - k ≡ length b.contents = omega arith in
    ap (take (box_size b - k)) behind ∙ ap (λ n. take n (b.contents ++ after)) size ∙ take_at b.contents after (length b.contents) refl

-- the same for a box of a kind
pub kind_takes : (kind : ℕ) (ends : Bool) (rest : List ℕ) (head : BoxHead) → AreBytes rest → box_of_kind_at kind ends rest ≡ Ok head → TakesBox ends rest head × (head.kind ≡ kind)
unfolding box_of_kind_at
kind_takes kind ends rest head fits e =
    refuse_then (eqb (length rest) 0) BadBox _ head e (λ some e.
    bind_then (box_at ends rest) _ head e (λ h s e.
    refuse_then (not (eqb h.kind kind)) BadBox _ head e (λ same e.
    let is = ok_is h head e in
    (subst (λ (x : BoxHead). TakesBox ends rest x) is (box_takes ends rest h fits s), ap (λ (x : BoxHead). x.kind) (sym is) ∙ eqb-true h.kind kind (not-false _ same))
    )))

pub kind_again : (ends : Bool) (b : Box) (after : List ℕ) → IsBox b → (is_open b.form ≡ true → (ends ≡ true) × (after ≡ [])) → box_of_kind_at b.kind ends (box_text b ++ after) ≡ Ok (head_of b)
unfolding box_of_kind_at
kind_again ends b after is last =
    let read = box_again ends b after is last in
    let some : eqb (length (box_text b ++ after)) 0 ≡ false = ne_eqb _ _ (omega (arith, length-append (box_text b) after, box_length b, eight_before b.form)) in
    let same : eqb b.kind b.kind ≡ true = eq-eqb b.kind b.kind refl in
    rw (some, read, same) refl

pub box_some : (b : Box) → 8 ≤ box_size b
box_some b = omega (arith, eight_before b.form)
