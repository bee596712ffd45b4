-- The loop that looks for a box, one step at a time.
use Rattle.std.proofs.Common.{◌≡◌, ℕ, zero, suc, ◌+◌, ◌<◌, ◌≤◌, true, false, if◌then◌else◌, eqb, List, length, drop, Option, Some, None, Result, Ok, Err, refl, sym, ap, ◌∙◌, arith}
use Rattle.std.proofs.lemmas.Bool.{ne_eqb, eq-eqb}
use Rattle.std.proofs.lemmas.List.{length-drop}
use Rattle.jk_math.specs.Answer.{◌>>=◌}
use Rattle.jk_math.specs.declared.fault.Fault.{Fault}
use Rattle.jk_boxes.specs.declared.boxes.BoxHead.{BoxHead}
use Rattle.jk_boxes.specs.Reading.{box_at}
use Rattle.jk_extras.specs.declared.finding.Wanted.{Wanted}
use Rattle.jk_extras.specs.declared.finding.Found.{Found}
use Rattle.jk_extras.specs.Finding.{is_wanted, found_by}
use Rattle.jk_extras.proofs.Passing.{some_left}

-- What is left to look through decides what is due.
pub record Left (wanted : Wanted) (at : ℕ) (rest : List ℕ) (due : Result (Option Found) Fault) : Type 0 where
  pub most : ℕ
  pub enough : length rest ≤ most
  pub same : found_by wanted most at rest ≡ due

pub starts : (wanted : Wanted) (most at : ℕ) (rest : List ℕ) → length rest ≤ most → Left wanted at rest (found_by wanted most at rest)
starts wanted most at rest h = record { most = most; enough = h; same = refl }

pub one_step : (wanted : Wanted) (n at : ℕ) (rest : List ℕ) → 0 < length rest
    → found_by wanted (suc n) at rest
    ≡ (box_at true rest >>= λ box. if is_wanted wanted box.kind then Ok (Some (record { at = at; head = box })) else found_by wanted n (at + box.size) (drop box.size rest))
unfolding found_by
one_step wanted n at rest some = let e : eqb (length rest) 0 ≡ false = ne_eqb (length rest) 0 (omega arith) in rw e refl

pub no_step : (wanted : Wanted) (n at : ℕ) (rest : List ℕ) → length rest ≡ 0 → found_by wanted n at rest ≡ Ok None
unfolding found_by
no_step wanted zero at rest none = refl
no_step wanted (suc n) at rest none = let e : eqb (length rest) 0 ≡ true = eq-eqb (length rest) 0 none in rw e refl

pub more : (wanted : Wanted) (at : ℕ) (rest : List ℕ) (due : Result (Option Found) Fault) (box : BoxHead) → Left wanted at rest due → 0 < length rest
    → box_at true rest ≡ Ok box → 0 < box.size → is_wanted wanted box.kind ≡ false → Left wanted (at + box.size) (drop box.size rest) due
more wanted at rest due box left some read size other =
    let m = some_left left.most (length rest) some left.enough in
    record {
      most = m.0;
      enough = omega (arith, length-drop box.size rest, m.1, left.enough);
      same = sym (ap (λ k. found_by wanted k at rest) m.1 ∙ one_step wanted m.0 at rest some ∙ rw (read, other) refl) ∙ left.same;
    }

pub fault : (wanted : Wanted) (at : ℕ) (rest : List ℕ) (due : Result (Option Found) Fault) (e : Fault) → Left wanted at rest due → 0 < length rest → box_at true rest ≡ Err e
    → due ≡ Err e
fault wanted at rest due e left some read =
    let m = some_left left.most (length rest) some left.enough in
    sym left.same ∙ ap (λ k. found_by wanted k at rest) m.1 ∙ one_step wanted m.0 at rest some ∙ rw read refl

pub met : (wanted : Wanted) (at : ℕ) (rest : List ℕ) (due : Result (Option Found) Fault) (box : BoxHead) → Left wanted at rest due → 0 < length rest
    → box_at true rest ≡ Ok box → is_wanted wanted box.kind ≡ true → due ≡ Ok (Some (record { at = at; head = box }))
met wanted at rest due box left some read is =
    let m = some_left left.most (length rest) some left.enough in
    sym left.same ∙ ap (λ k. found_by wanted k at rest) m.1 ∙ one_step wanted m.0 at rest some ∙ rw (read, is) refl

pub stops : (wanted : Wanted) (at : ℕ) (rest : List ℕ) (due : Result (Option Found) Fault) → Left wanted at rest due → length rest ≡ 0 → due ≡ Ok None
stops wanted at rest due left none = sym left.same ∙ no_step wanted left.most at rest none
