-- The loops that pass boxes, one step at a time.
use Rattle.std.proofs.Common.{◌≡◌, ℕ, zero, suc, ◌+◌, ◌<◌, ◌≤◌, Bool, true, false, eqb, List, length, drop, Result, Ok, Err, refl, sym, ap, ◌∙◌, arith}
use Rattle.std.proofs.lemmas.Bool.{ne_eqb, eq-eqb}
use Rattle.std.proofs.lemmas.List.{length-drop}
use Rattle.jk_math.specs.Answer.{◌>>=◌}
use Rattle.jk_math.specs.declared.fault.Fault.{Fault}
use Rattle.jk_boxes.specs.declared.boxes.BoxHead.{BoxHead}
use Rattle.jk_boxes.specs.declared.boxes.Form.{Form}
use Rattle.jk_boxes.specs.declared.boxes.Form.TheVariants.{Short, Long, Open}
use Rattle.jk_boxes.specs.Boxes.{head_size}
use Rattle.jk_boxes.specs.Reading.{box_at}
use Rattle.jk_extras.specs.Passing.{passed_by}

pub some_left : (n k : ℕ) → 0 < k → k ≤ n → (m : ℕ) × (n ≡ suc m)
some_left zero k some le = absurd (omega arith)
some_left (suc n) k some le = (n, refl)

some_before : (f : Form) → 0 < head_size f
some_before Short = omega arith
some_before Long = omega arith
some_before Open = omega arith

pub some_head : (box : BoxHead) → head_size box.form ≤ box.size → 0 < box.size
some_head box h = omega (arith, some_before box.form)

module _ {T : Type 0} (step : T → ℕ → BoxHead → List ℕ → Result T Fault) (ends : Bool) where
  -- What is left to pass decides what is due.
  pub record Left (known : T) (at : ℕ) (rest : List ℕ) (due : Result T Fault) : Type 0 where
    pub most : ℕ
    pub enough : length rest ≤ most
    pub same : passed_by step ends most known at rest ≡ due

  pub starts : (known : T) (at : ℕ) (rest : List ℕ) → Left known at rest (passed_by step ends (length rest) known at rest)
  starts known at rest = record { most = length rest; enough = omega arith; same = refl }

  pub one_step : (n : ℕ) (known : T) (at : ℕ) (rest : List ℕ) → 0 < length rest
      → passed_by step ends (suc n) known at rest
      ≡ (box_at ends rest >>= λ box. step known at box rest >>= λ next. passed_by step ends n next (at + box.size) (drop box.size rest))
  unfolding passed_by
  one_step n known at rest some = let e : eqb (length rest) 0 ≡ false = ne_eqb (length rest) 0 (omega arith) in rw e refl

  pub no_step : (n : ℕ) (known : T) (at : ℕ) (rest : List ℕ) → length rest ≡ 0 → passed_by step ends n known at rest ≡ Ok known
  unfolding passed_by
  no_step zero known at rest none = refl
  no_step (suc n) known at rest none = let e : eqb (length rest) 0 ≡ true = eq-eqb (length rest) 0 none in rw e refl

  pub more : (known next : T) (at : ℕ) (rest : List ℕ) (due : Result T Fault) (box : BoxHead) → Left known at rest due → 0 < length rest → box_at ends rest ≡ Ok box
      → 0 < box.size → step known at box rest ≡ Ok next → Left next (at + box.size) (drop box.size rest) due
  more known next at rest due box left some read size pass =
      let m = some_left left.most (length rest) some left.enough in
      record {
        most = m.0;
        enough = omega (arith, length-drop box.size rest, m.1, left.enough);
        same = sym (ap (λ k. passed_by step ends k known at rest) m.1 ∙ one_step m.0 known at rest some ∙ rw (read, pass) refl) ∙ left.same;
      }

  pub fault : (known : T) (at : ℕ) (rest : List ℕ) (due : Result T Fault) (e : Fault) → Left known at rest due → 0 < length rest → box_at ends rest ≡ Err e → due ≡ Err e
  fault known at rest due e left some read =
      let m = some_left left.most (length rest) some left.enough in
      sym left.same ∙ ap (λ k. passed_by step ends k known at rest) m.1 ∙ one_step m.0 known at rest some ∙ rw read refl

  pub refused : (known : T) (at : ℕ) (rest : List ℕ) (due : Result T Fault) (box : BoxHead) (e : Fault) → Left known at rest due → 0 < length rest → box_at ends rest ≡ Ok box
      → step known at box rest ≡ Err e → due ≡ Err e
  refused known at rest due box e left some read pass =
      let m = some_left left.most (length rest) some left.enough in
      sym left.same ∙ ap (λ k. passed_by step ends k known at rest) m.1 ∙ one_step m.0 known at rest some ∙ rw (read, pass) refl

  pub stops : (known : T) (at : ℕ) (rest : List ℕ) (due : Result T Fault) → Left known at rest due → length rest ≡ 0 → due ≡ Ok known
  stops known at rest due left none = sym left.same ∙ no_step left.most known at rest none
