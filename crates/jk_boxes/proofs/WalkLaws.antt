-- The walk over the boxes: what is passed is spelled so, and what is spelled so is passed.
use Rattle.std.proofs.Common.{◌≡◌, ◌≢◌, ℕ, zero, suc, ◌+◌, ◌<◌, ◌≤◌, ◌⊎◌, true, false, eqb, List, [], ◌∷◌, ◌++◌, length, drop, Ok, refl, sym, ap, ◌∙◌, arith, inl, inr}
use Rattle.std.specs.List.{AllByRecursion}
use Rattle.std.proofs.lemmas.Bool.{eqb-true, eqb-false, eq-eqb, ne_eqb}
use Rattle.std.proofs.lemmas.List.{length-append, length-drop, nil_from_length}
use Rattle.jk_math.specs.Answer.{◌>>=◌}
use Rattle.jk_math.specs.Steps.{bind_then, chosen, ok_is}
use Rattle.jk_boxes.specs.declared.boxes.BoxHead.{BoxHead}
use Rattle.jk_boxes.specs.declared.place.CodePlace.{CodePlace}
use Rattle.jk_boxes.specs.declared.place.Seen.{Seen}
use Rattle.jk_boxes.specs.declared.place.Seen.TheVariants.{Nothing, Header, Code}
use Rattle.jk_boxes.specs.Boxes.{Box, head_size, box_size, box_text, boxes_text, is_open, AreBoxes, IsHeaderBox, header_kind, code_kind}
use Rattle.jk_boxes.specs.Reading.{box_at, contents_of, header_at, passed, walk_at}
use Rattle.jk_math.proofs.Laws.{AreBytes, are_bytes_after, are_bytes_taken}
use Rattle.jk_boxes.proofs.Loops.{walk_step, walk_stops, some_left}
use Rattle.jk_boxes.proofs.Heads.{TakesBox, box_from, head_of, box_takes, box_again, after_box, box_length, box_some, contents_again}
use Rattle.jk_boxes.proofs.HeaderLaws.{bool_false, header_takes, header_again}

-- the place of a codestream box that begins at k
abbrev pub place_at : ℕ → Box → CodePlace
place_at k code = record { form = code.form; start = k + head_size code.form; end = k + box_size code }

pub text_length : (b : Box) (after : List ℕ) → length (box_text b ++ after) ≡ box_size b + length after
text_length b after = length-append (box_text b) after ∙ ap (λ k. k + length after) (box_length b)

pub no_boxes : (bs : List Box) → boxes_text bs ≡ [] → bs ≡ []
no_boxes [] e = refl
no_boxes (b ∷ bs) e = absurd (omega (arith, text_length b (boxes_text bs), box_some b, ap (λ (x : List ℕ). length x) e))

-- a box was taken, and others behind it
more_boxes : (rest : List ℕ) (head : BoxHead) (bs : List Box) → TakesBox true rest head → drop head.size rest ≡ boxes_text bs → AreBoxes bs
    → (rest ≡ boxes_text (box_from head rest ∷ bs)) × AreBoxes (box_from head rest ∷ bs)
more_boxes rest head bs t text are =
    (t.text ∙ ap (λ (x : List ℕ). box_text (box_from head rest) ++ x) text, (t.is, λ o. no_boxes bs (sym text ∙ (t.last o).1), are))

-- behind the codestream box
pub record AfterCode (p q : CodePlace) (rest : List ℕ) : Type 0 where
  pub after : List Box
  pub text : rest ≡ boxes_text after
  pub boxes : AreBoxes after
  pub same : q ≡ p

code_takes : (n : ℕ) (p q : CodePlace) (at : ℕ) (rest : List ℕ) → length rest ≤ n → AreBytes rest → walk_at n (Code p) at rest ≡ Ok q → AfterCode p q rest
unfolding walk_at passed
code_takes zero p q at rest enough fits e = record { after = []; text = nil_from_length rest (omega arith); boxes = tt; same = ok_is q p (sym e) }
code_takes (suc n) p q at rest enough fits e =
    elim (chosen (eqb (length rest) 0) _ _ (Ok q) e) [
      | inl w ↦ record { after = []; text = nil_from_length rest (eqb-true _ _ w.0); boxes = tt; same = ok_is q p (sym w.1) }
      | inr w ↦
          bind_then (box_at true rest) _ q w.1 (λ head s e.
          let t = box_takes true rest head fits s in
          let more = code_takes n p q (at + head.size) (drop head.size rest) (omega (arith, length-drop head.size rest, t.low, enough)) (are_bytes_after head.size rest fits) e in
          let all = more_boxes rest head more.after t more.text more.boxes in
          let r : AfterCode p q rest = record { after = box_from head rest ∷ more.after; text = all.0; boxes = all.1; same = more.same } in
          r
          )
    ]

-- behind the JP2 header box
pub record AfterHeader (at : ℕ) (q : CodePlace) (rest : List ℕ) : Type 0 where
  pub middle : List Box
  pub code : Box
  pub after : List Box
  pub text : rest ≡ boxes_text (middle ++ (code ∷ after))
  pub boxes : AreBoxes (middle ++ (code ∷ after))
  pub before_code : AllByRecursion (λ b. b.kind ≢ code_kind) middle
  pub kind : code.kind ≡ code_kind
  pub place : q ≡ place_at (at + length (boxes_text middle)) code

header_passed : (at : ℕ) (head : BoxHead) (rest : List ℕ) (next : Seen) → passed Header at head rest ≡ Ok next
    → ((eqb head.kind code_kind ≡ true) × (Code (record { form = head.form; start = at + head_size head.form; end = at + head.size }) ≡ next)) ⊎ ((eqb head.kind code_kind ≡ false) × (Header ≡ next))
unfolding passed
header_passed at head rest next e =
    let place : CodePlace = record { form = head.form; start = at + head_size head.form; end = at + head.size } in
    elim (chosen (eqb head.kind code_kind) _ _ (Ok next) e) [
      | inl w ↦ inl (w.0, ok_is (Code place) next w.1)
      | inr w ↦ inr (w.0, ok_is Header next w.1)
    ]

further : (at size k m : ℕ) (code : Box) → m ≡ size + k → place_at ((at + size) + k) code ≡ place_at (at + m) code
further at size k m code e = let same : (at + size) + k ≡ at + m = omega (arith, e) in ap (λ n. place_at n code) same

header_walk_takes : (n : ℕ) (q : CodePlace) (at : ℕ) (rest : List ℕ) → length rest ≤ n → AreBytes rest → walk_at n Header at rest ≡ Ok q → AfterHeader at q rest
unfolding walk_at
header_walk_takes zero q at rest enough fits e = absurd cc
header_walk_takes (suc n) q at rest enough fits e =
    elim (chosen (eqb (length rest) 0) _ _ (Ok q) e) [
      | inl w ↦ absurd (let d = w.1 in cc)
      | inr w ↦
          bind_then (box_at true rest) _ q w.1 (λ head s e.
          bind_then (passed Header at head rest) _ q e (λ next pass e.
          let t = box_takes true rest head fits s in
          let b = box_from head rest in
          let enough_left : length (drop head.size rest) ≤ n = omega (arith, length-drop head.size rest, t.low, enough) in
          let fits_left = are_bytes_after head.size rest fits in
          elim (header_passed at head rest next pass) [
            | inl v ↦
                let place : CodePlace = record { form = head.form; start = at + head_size head.form; end = at + head.size } in
                let on = ap (λ (x : Seen). walk_at n x (at + head.size) (drop head.size rest)) v.1 ∙ e in
                let more = code_takes n place q (at + head.size) (drop head.size rest) enough_left fits_left on in
                let all = more_boxes rest head more.after t more.text more.boxes in
                let place-is : place ≡ place_at (at + 0) b =
                ap (λ k. let x : CodePlace = record { form = head.form; start = at + head_size head.form; end = at + k } in x) (sym t.size) ∙ ap (λ k. place_at k b) (omega arith) in
                let r : AfterHeader at q rest = record {
                  middle = [];
                  code = b;
                  after = more.after;
                  text = all.0;
                  boxes = all.1;
                  before_code = tt;
                  kind = eqb-true head.kind code_kind v.0;
                  place = more.same ∙ place-is;
                } in
                r
            | inr v ↦
                let on = ap (λ (x : Seen). walk_at n x (at + head.size) (drop head.size rest)) v.1 ∙ e in
                let more = header_walk_takes n q (at + head.size) (drop head.size rest) enough_left fits_left on in
                let all = more_boxes rest head (more.middle ++ (more.code ∷ more.after)) t more.text more.boxes in
                let len : length (boxes_text (b ∷ more.middle)) ≡ head.size + length (boxes_text more.middle) = text_length b (boxes_text more.middle) ∙ ap (λ k. k + length (boxes_text more.middle)) t.size in
                let r : AfterHeader at q rest = record {
                  middle = b ∷ more.middle;
                  code = more.code;
                  after = more.after;
                  text = all.0;
                  boxes = all.1;
                  before_code = (eqb-false head.kind code_kind v.0, more.before_code);
                  kind = more.kind;
                  place = more.place ∙ further at head.size (length (boxes_text more.middle)) (length (boxes_text (b ∷ more.middle))) more.code len;
                } in
                r
          ]
          ))
    ]

-- behind the file type box
pub record AfterFileType (at : ℕ) (q : CodePlace) (rest : List ℕ) : Type 0 where
  pub early : List Box
  pub header : Box
  pub middle : List Box
  pub code : Box
  pub after : List Box
  pub text : rest ≡ boxes_text (early ++ (header ∷ (middle ++ (code ∷ after))))
  pub boxes : AreBoxes (early ++ (header ∷ (middle ++ (code ∷ after))))
  pub before_header : AllByRecursion (λ b. (b.kind ≢ header_kind) × (b.kind ≢ code_kind)) early
  pub header_next : (header.kind ≡ header_kind) × IsHeaderBox header.contents
  pub before_code : AllByRecursion (λ b. b.kind ≢ code_kind) middle
  pub kind : code.kind ≡ code_kind
  pub place : q ≡ place_at ((at + length (boxes_text early)) + (box_size header + length (boxes_text middle))) code

start_passed : (at : ℕ) (head : BoxHead) (rest : List ℕ) (next : Seen) → passed Nothing at head rest ≡ Ok next
    → ((eqb head.kind header_kind ≡ true) × (header_at (eqb head.size (length rest)) (contents_of head rest) ≡ Ok tt) × (Header ≡ next))
    ⊎ ((eqb head.kind header_kind ≡ false) × (eqb head.kind code_kind ≡ false) × (Nothing ≡ next))
unfolding passed
start_passed at head rest next e =
    elim (chosen (eqb head.kind header_kind) _ _ (Ok next) e) [
      | inl w ↦ bind_then (header_at (eqb head.size (length rest)) (contents_of head rest)) _ next w.1 (λ u s e. inl (w.0, s, ok_is Header next e))
      | inr w ↦ elim (chosen (eqb head.kind code_kind) _ _ (Ok next) w.1) [
        | inl v ↦ absurd (let d = v.1 in cc)
        | inr v ↦ inr (w.0, v.0, ok_is Nothing next v.1)
      ]
    ]

-- a JP2 header box is not the last box of a file that is read
not_last : (n : ℕ) (q : CodePlace) (at : ℕ) (rest : List ℕ) (head : BoxHead) → walk_at n Header at (drop head.size rest) ≡ Ok q → eqb head.size (length rest) ≡ false
not_last n q at rest head e =
    bool_false (eqb head.size (length rest)) (λ o.
    let none : length (drop head.size rest) ≡ 0 = omega (arith, length-drop head.size rest, eqb-true _ _ o) in
    let stop = sym (walk_stops n Header at (drop head.size rest) none) ∙ e in
    absurd cc)

pub start_takes : (n : ℕ) (q : CodePlace) (at : ℕ) (rest : List ℕ) → length rest ≤ n → AreBytes rest → walk_at n Nothing at rest ≡ Ok q → AfterFileType at q rest
unfolding walk_at
start_takes zero q at rest enough fits e = absurd cc
start_takes (suc n) q at rest enough fits e =
    elim (chosen (eqb (length rest) 0) _ _ (Ok q) e) [
      | inl w ↦ absurd (let d = w.1 in cc)
      | inr w ↦
          bind_then (box_at true rest) _ q w.1 (λ head s e.
          bind_then (passed Nothing at head rest) _ q e (λ next pass e.
          let t = box_takes true rest head fits s in
          let b = box_from head rest in
          let enough_left : length (drop head.size rest) ≤ n = omega (arith, length-drop head.size rest, t.low, enough) in
          let fits_left = are_bytes_after head.size rest fits in
          elim (start_passed at head rest next pass) [
            | inl v ↦
                let on = ap (λ (x : Seen). walk_at n x (at + head.size) (drop head.size rest)) v.2 ∙ e in
                let more = header_walk_takes n q (at + head.size) (drop head.size rest) enough_left fits_left on in
                let all = more_boxes rest head (more.middle ++ (more.code ∷ more.after)) t more.text more.boxes in
                let inside = ap (λ o. header_at o (contents_of head rest)) (sym (not_last n q (at + head.size) rest head on)) ∙ v.1 in
                let contents_fit : AreBytes (contents_of head rest) = are_bytes_taken _ _ (are_bytes_after _ rest fits) in
                let k = length (boxes_text more.middle) in
                let place-is : (at + head.size) + k ≡ (at + 0) + (box_size b + k) = omega (arith, t.size) in
                let r : AfterFileType at q rest = record {
                  early = [];
                  header = b;
                  middle = more.middle;
                  code = more.code;
                  after = more.after;
                  text = all.0;
                  boxes = all.1;
                  before_header = tt;
                  header_next = (eqb-true head.kind header_kind v.0, header_takes (contents_of head rest) contents_fit inside);
                  before_code = more.before_code;
                  kind = more.kind;
                  place = more.place ∙ ap (λ m. place_at m more.code) place-is;
                } in
                r
            | inr v ↦
                let on = ap (λ (x : Seen). walk_at n x (at + head.size) (drop head.size rest)) v.2 ∙ e in
                let more = start_takes n q (at + head.size) (drop head.size rest) enough_left fits_left on in
                let all = more_boxes rest head (more.early ++ (more.header ∷ (more.middle ++ (more.code ∷ more.after)))) t more.text more.boxes in
                let k = box_size more.header + length (boxes_text more.middle) in
                let len : length (boxes_text (b ∷ more.early)) ≡ head.size + length (boxes_text more.early) = text_length b (boxes_text more.early) ∙ ap (λ m. m + length (boxes_text more.early)) t.size in
                let place-is : ((at + head.size) + length (boxes_text more.early)) + k ≡ (at + length (boxes_text (b ∷ more.early))) + k = omega (arith, len) in
                let r : AfterFileType at q rest = record {
                  early = b ∷ more.early;
                  header = more.header;
                  middle = more.middle;
                  code = more.code;
                  after = more.after;
                  text = all.0;
                  boxes = all.1;
                  before_header = ((eqb-false head.kind header_kind v.0, eqb-false head.kind code_kind v.1), more.before_header);
                  header_next = more.header_next;
                  before_code = more.before_code;
                  kind = more.kind;
                  place = more.place ∙ ap (λ m. place_at m more.code) place-is;
                } in
                r
          ]
          ))
    ]

-- a step over a box that was written
step_again : (b : Box) (bs : List Box) (n : ℕ) (seen : Seen) (at : ℕ) → AreBoxes (b ∷ bs) → length (boxes_text (b ∷ bs)) ≤ n
    → (m : ℕ) × (length (boxes_text bs) ≤ m) × (walk_at n seen at (boxes_text (b ∷ bs)) ≡ (passed seen at (head_of b) (boxes_text (b ∷ bs)) >>= λ next. walk_at m next (at + box_size b) (boxes_text bs)))
step_again b bs n seen at are enough =
    let after = boxes_text bs in
    let rest = box_text b ++ after in
    let len = text_length b after in
    let some : 0 < length rest = omega (arith, len, box_some b) in
    let m = some_left n (length rest) some enough in
    let last : is_open b.form ≡ true → (true ≡ true) × (after ≡ []) = λ o. (refl, ap boxes_text (are.1 o)) in
    let read = box_again true b after are.0 last in
    let next = after_box b after in
    (m.0, omega (arith, len, box_some b, m.1, enough), ap (λ k. walk_at k seen at rest) m.1 ∙ walk_step m.0 seen at rest some ∙ rw (read, next) refl)

code_again : (bs : List Box) (n : ℕ) (p : CodePlace) (at : ℕ) → AreBoxes bs → length (boxes_text bs) ≤ n → walk_at n (Code p) at (boxes_text bs) ≡ Ok p
unfolding passed
code_again [] n p at are enough = walk_stops n (Code p) at [] refl
code_again (b ∷ bs) n p at are enough =
    let s = step_again b bs n (Code p) at are enough in
    s.2 ∙ code_again bs s.0 p (at + box_size b) are.2 s.1

header_walk_again : (middle : List Box) (code : Box) (after : List Box) (n at : ℕ) → AreBoxes (middle ++ (code ∷ after)) → length (boxes_text (middle ++ (code ∷ after))) ≤ n
    → AllByRecursion (λ b. b.kind ≢ code_kind) middle → code.kind ≡ code_kind → walk_at n Header at (boxes_text (middle ++ (code ∷ after))) ≡ Ok (place_at (at + length (boxes_text middle)) code)
unfolding passed
header_walk_again [] code after n at are enough others kind =
    let s = step_again code after n Header at are enough in
    let is : eqb code.kind code_kind ≡ true = eq-eqb _ _ kind in
    let here : at ≡ at + 0 = omega arith in
    s.2 ∙ rw is (code_again after s.0 (place_at at code) (at + box_size code) are.2 s.1) ∙ ap (λ k. Ok (place_at k code)) here
header_walk_again (b ∷ middle) code after n at are enough others kind =
    let s = step_again b (middle ++ (code ∷ after)) n Header at are enough in
    let other : eqb b.kind code_kind ≡ false = ne_eqb _ _ others.0 in
    s.2 ∙ rw other (header_walk_again middle code after s.0 (at + box_size b) are.2 s.1 others.1 kind)
    ∙ ap Ok (further at (box_size b) (length (boxes_text middle)) (length (boxes_text (b ∷ middle))) code (text_length b (boxes_text middle)))

pub start_again : (early : List Box) (header : Box) (middle : List Box) (code : Box) (after : List Box) (n at : ℕ)
    → AreBoxes (early ++ (header ∷ (middle ++ (code ∷ after)))) → length (boxes_text (early ++ (header ∷ (middle ++ (code ∷ after))))) ≤ n
    → AllByRecursion (λ b. (b.kind ≢ header_kind) × (b.kind ≢ code_kind)) early → header.kind ≡ header_kind → IsHeaderBox header.contents
    → AllByRecursion (λ b. b.kind ≢ code_kind) middle → code.kind ≡ code_kind
    → walk_at n Nothing at (boxes_text (early ++ (header ∷ (middle ++ (code ∷ after))))) ≡ Ok (place_at ((at + length (boxes_text early)) + (box_size header + length (boxes_text middle))) code)
unfolding passed
start_again [] header middle code after n at are enough none header_is inside others kind =
    let tail = middle ++ (code ∷ after) in
    let s = step_again header tail n Nothing at are enough in
    let is : eqb header.kind header_kind ≡ true = eq-eqb _ _ header_is in
    let contents = contents_again header (boxes_text tail) in
    let read = header_again header.contents (eqb (box_size header) (length (boxes_text (header ∷ tail)))) inside in
    let k = length (boxes_text middle) in
    let here : (at + box_size header) + k ≡ (at + 0) + (box_size header + k) = omega arith in
    s.2 ∙ rw (is, contents, read) (header_walk_again middle code after s.0 (at + box_size header) are.2 s.1 others kind) ∙ ap (λ m. Ok (place_at m code)) here
start_again (b ∷ early) header middle code after n at are enough none header_is inside others kind =
    let s = step_again b (early ++ (header ∷ (middle ++ (code ∷ after)))) n Nothing at are enough in
    let no_header : eqb b.kind header_kind ≡ false = ne_eqb _ _ none.0.0 in
    let no_code : eqb b.kind code_kind ≡ false = ne_eqb _ _ none.0.1 in
    let k = box_size header + length (boxes_text middle) in
    let len : length (boxes_text (b ∷ early)) ≡ box_size b + length (boxes_text early) = text_length b (boxes_text early) in
    let here : ((at + box_size b) + length (boxes_text early)) + k ≡ (at + length (boxes_text (b ∷ early))) + k = omega (arith, len) in
    s.2 ∙ rw (no_header, no_code) (start_again early header middle code after s.0 (at + box_size b) are.2 s.1 none.1 header_is inside others kind) ∙ ap (λ m. Ok (place_at m code)) here
