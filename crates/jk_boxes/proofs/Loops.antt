-- The loops over boxes, one step at a time.
use Rattle.std.proofs.Common.{◌≡◌, ℕ, zero, suc, ◌+◌, ◌<◌, ◌≤◌, Bool, true, false, eqb, ◌||◌, List, [], ◌∷◌, length, drop, Ok, Err, refl, sym, ap, ◌∙◌, arith}
use Rattle.std.proofs.lemmas.Bool.{ne_eqb, eq-eqb}
use Rattle.std.proofs.lemmas.List.{length-drop}
use Rattle.byteorder.specs.Endian.{big_number}
use Rattle.jk_math.specs.Answer.{◌>>=◌, refuse}
use Rattle.jk_math.specs.declared.fault.Fault.{Fault}
use Rattle.jk_math.specs.declared.fault.Fault.TheVariants.{Unsupported, BadBox}
use Rattle.jk_boxes.specs.declared.boxes.BoxHead.{BoxHead}
use Rattle.jk_boxes.specs.declared.place.CodePlace.{CodePlace}
use Rattle.jk_boxes.specs.declared.place.Seen.{Seen}
use Rattle.jk_boxes.specs.declared.place.Seen.TheVariants.{Nothing, Header, Code}
use Rattle.jk_boxes.specs.declared.boxes.Form.{Form}
use Rattle.jk_boxes.specs.declared.boxes.Form.TheVariants.{Short, Long, Open}
use Rattle.jk_boxes.specs.Boxes.{jp2_brand, palette_kind, head_size}
use Rattle.jk_boxes.specs.Reading.{names_jp2, box_at, no_palette_at, walk_at, passed, place_in}

pub names_more : (xs : List ℕ) → 4 ≤ length xs → names_jp2 xs ≡ (eqb (big_number 4 xs) jp2_brand || names_jp2 (drop 4 xs))
unfolding names_jp2
names_more [] h = absurd (omega arith)
names_more (a ∷ []) h = absurd (omega arith)
names_more (a ∷ b ∷ []) h = absurd (omega arith)
names_more (a ∷ b ∷ c ∷ []) h = absurd (omega arith)
names_more (a ∷ b ∷ c ∷ d ∷ xs) h = refl

pub names_none : (xs : List ℕ) → length xs < 4 → names_jp2 xs ≡ false
unfolding names_jp2
names_none [] h = refl
names_none (a ∷ []) h = refl
names_none (a ∷ b ∷ []) h = refl
names_none (a ∷ b ∷ c ∷ []) h = refl
names_none (a ∷ b ∷ c ∷ d ∷ xs) h = absurd (omega arith)

-- What is left to pass decides about the whole.
pub record PaletteLeft (ends : Bool) (rest whole : List ℕ) : Type 0 where
  pub most : ℕ
  pub enough : length rest ≤ most
  pub same : no_palette_at most ends rest ≡ no_palette_at (length whole) ends whole

pub palette_starts : (ends : Bool) (whole : List ℕ) → PaletteLeft ends (drop 0 whole) whole
palette_starts ends whole = record { most = length whole; enough = omega arith; same = refl }

pub palette_step : (n : ℕ) (ends : Bool) (rest : List ℕ) → 0 < length rest
    → no_palette_at (suc n) ends rest ≡ (box_at ends rest >>= λ box. refuse (eqb box.kind palette_kind) Unsupported >>= λ _. no_palette_at n ends (drop box.size rest))
unfolding no_palette_at
palette_step n ends rest some = let e : eqb (length rest) 0 ≡ false = ne_eqb (length rest) 0 (omega arith) in rw e refl

pub some_left : (n k : ℕ) → 0 < k → k ≤ n → (m : ℕ) × (n ≡ suc m)
some_left zero k some le = absurd (omega arith)
some_left (suc n) k some le = (n, refl)

pub palette_more : (ends : Bool) (rest whole : List ℕ) (box : BoxHead) → PaletteLeft ends rest whole → 0 < length rest → box_at ends rest ≡ Ok box → 0 < box.size
    → eqb box.kind palette_kind ≡ false → PaletteLeft ends (drop box.size rest) whole
palette_more ends rest whole box left some read size other =
    let m = some_left left.most (length rest) some left.enough in
    record {
      most = m.0;
      enough = omega (arith, length-drop box.size rest, m.1, left.enough);
      same = sym (ap (λ k. no_palette_at k ends rest) m.1 ∙ palette_step m.0 ends rest some ∙ rw (read, other) refl) ∙ left.same;
    }

pub palette_fault : (ends : Bool) (rest whole : List ℕ) (e : Fault) → PaletteLeft ends rest whole → 0 < length rest → box_at ends rest ≡ Err e → no_palette_at (length whole) ends whole ≡ Err e
palette_fault ends rest whole e left some read =
    let m = some_left left.most (length rest) some left.enough in
    sym left.same ∙ ap (λ k. no_palette_at k ends rest) m.1 ∙ palette_step m.0 ends rest some ∙ rw read refl

pub palette_met : (ends : Bool) (rest whole : List ℕ) (box : BoxHead) → PaletteLeft ends rest whole → 0 < length rest → box_at ends rest ≡ Ok box
    → eqb box.kind palette_kind ≡ true → no_palette_at (length whole) ends whole ≡ Err Unsupported
palette_met ends rest whole box left some read met =
    let m = some_left left.most (length rest) some left.enough in
    sym left.same ∙ ap (λ k. no_palette_at k ends rest) m.1 ∙ palette_step m.0 ends rest some ∙ rw (read, met) refl

pub palette_stops : (n : ℕ) (ends : Bool) (rest : List ℕ) → length rest ≡ 0 → no_palette_at n ends rest ≡ Ok tt
unfolding no_palette_at
palette_stops zero ends rest none = refl
palette_stops (suc n) ends rest none = let e : eqb (length rest) 0 ≡ true = eq-eqb (length rest) 0 none in rw e refl

pub palette_ends : (ends : Bool) (rest whole : List ℕ) → PaletteLeft ends rest whole → length rest ≡ 0 → no_palette_at (length whole) ends whole ≡ Ok tt
palette_ends ends rest whole left none = sym left.same ∙ palette_stops left.most ends rest none

-- The same for the walk over the file.
pub record WalkLeft (seen : Seen) (at : ℕ) (rest : List ℕ) (most at0 : ℕ) (whole : List ℕ) : Type 0 where
  pub steps : ℕ
  pub enough : length rest ≤ steps
  pub same : walk_at steps seen at rest ≡ walk_at most Nothing at0 whole

pub walk_starts : (most at : ℕ) (whole : List ℕ) → length whole ≤ most → WalkLeft Nothing at whole most at whole
walk_starts most at whole h = record { steps = most; enough = h; same = refl }

pub walk_step : (n : ℕ) (seen : Seen) (at : ℕ) (rest : List ℕ) → 0 < length rest
    → walk_at (suc n) seen at rest ≡ (box_at true rest >>= λ box. passed seen at box rest >>= λ next. walk_at n next (at + box.size) (drop box.size rest))
unfolding walk_at
walk_step n seen at rest some = let e : eqb (length rest) 0 ≡ false = ne_eqb (length rest) 0 (omega arith) in rw e refl

pub walk_stops : (n : ℕ) (seen : Seen) (at : ℕ) (rest : List ℕ) → length rest ≡ 0 → walk_at n seen at rest ≡ place_in seen
unfolding walk_at
walk_stops zero seen at rest none = refl
walk_stops (suc n) seen at rest none = let e : eqb (length rest) 0 ≡ true = eq-eqb (length rest) 0 none in rw e refl

pub walk_more : (seen next : Seen) (at most at0 : ℕ) (rest whole : List ℕ) (box : BoxHead) → WalkLeft seen at rest most at0 whole → 0 < length rest → box_at true rest ≡ Ok box → 0 < box.size
    → passed seen at box rest ≡ Ok next → WalkLeft next (at + box.size) (drop box.size rest) most at0 whole
walk_more seen next at most at0 rest whole box left some read size pass =
    let m = some_left left.steps (length rest) some left.enough in
    record {
      steps = m.0;
      enough = omega (arith, length-drop box.size rest, m.1, left.enough);
      same = sym (ap (λ k. walk_at k seen at rest) m.1 ∙ walk_step m.0 seen at rest some ∙ rw (read, pass) refl) ∙ left.same;
    }

pub walk_fault : (seen : Seen) (at most at0 : ℕ) (rest whole : List ℕ) (e : Fault) → WalkLeft seen at rest most at0 whole → 0 < length rest → box_at true rest ≡ Err e
    → walk_at most Nothing at0 whole ≡ Err e
walk_fault seen at most at0 rest whole e left some read =
    let m = some_left left.steps (length rest) some left.enough in
    sym left.same ∙ ap (λ k. walk_at k seen at rest) m.1 ∙ walk_step m.0 seen at rest some ∙ rw read refl

pub walk_refused : (seen : Seen) (at most at0 : ℕ) (rest whole : List ℕ) (box : BoxHead) (e : Fault) → WalkLeft seen at rest most at0 whole → 0 < length rest → box_at true rest ≡ Ok box
    → passed seen at box rest ≡ Err e → walk_at most Nothing at0 whole ≡ Err e
walk_refused seen at most at0 rest whole box e left some read pass =
    let m = some_left left.steps (length rest) some left.enough in
    sym left.same ∙ ap (λ k. walk_at k seen at rest) m.1 ∙ walk_step m.0 seen at rest some ∙ rw (read, pass) refl

pub walk_ends : (seen : Seen) (at most at0 : ℕ) (rest whole : List ℕ) → WalkLeft seen at rest most at0 whole → length rest ≡ 0 → walk_at most Nothing at0 whole ≡ place_in seen
walk_ends seen at most at0 rest whole left none = sym left.same ∙ walk_stops left.steps seen at rest none

some_before : (f : Form) → 0 < head_size f
some_before Short = omega arith
some_before Long = omega arith
some_before Open = omega arith

pub some_head : (box : BoxHead) → head_size box.form ≤ box.size → 0 < box.size
some_head box h = omega (arith, some_before box.form)

pub unseen : (seen : Seen) → ((place : CodePlace) → seen ≡ Code place → ⊥) → place_in seen ≡ Err BadBox
unseen Nothing h = refl
unseen Header h = refl
unseen (Code place) h = absurd (h place refl)
