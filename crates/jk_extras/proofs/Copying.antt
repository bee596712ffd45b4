-- The loop that copies boxes of XML and under UUIDs, one step at a time.
use Rattle.std.proofs.Common.{◌≡◌, ℕ, zero, suc, ◌+◌, ◌-◌, ◌<◌, ◌≤◌, List, [], ◌++◌, length, slice_range, Option, Some, None, Result, Ok, Err, refl, sym, ap, ◌∙◌, arith}
use Rattle.std.proofs.lemmas.List.{drop_all}
use Rattle.jk_math.specs.Answer.{◌>>=◌}
use Rattle.jk_math.specs.declared.fault.Fault.{Fault}
use Rattle.jk_extras.specs.declared.finding.Wanted.TheVariants.{Others}
use Rattle.jk_extras.specs.declared.finding.Found.{Found}
use Rattle.jk_extras.specs.declared.finding.ToldOther.{ToldOther}
use Rattle.jk_extras.specs.Finding.{found_by, found_at, other_told}
use Rattle.jk_extras.specs.Texts.{others_from, if_found}
use Rattle.jk_extras.proofs.Passing.{some_left}

-- What is left to copy decides what is due.
pub record OthersLeft (file known : List ℕ) (at : ℕ) (due : Result (List ℕ) Fault) : Type 0 where
  pub most : ℕ
  pub enough : length file - at ≤ most
  pub same : others_from most known at file ≡ due

pub others_start : (file known : List ℕ) (at : ℕ) → OthersLeft file known at (others_from (length file) known at file)
others_start file known at = record { most = length file; enough = omega arith; same = refl }

pub copy_step : (file known : List ℕ) (n at : ℕ) (f : Option Found) → found_at Others at file ≡ Ok f
    → others_from (suc n) known at file ≡ if_found f (Ok known) (λ g. other_told g >>= λ _. others_from n (known ++ slice_range file g.at (g.at + g.head.size)) (g.at + g.head.size) file)
unfolding others_from
copy_step file known n at f found = rw found refl

pub copy_fault : (file known : List ℕ) (n at : ℕ) (d : Fault) → found_at Others at file ≡ Err d → others_from (suc n) known at file ≡ Err d
unfolding others_from
copy_fault file known n at d found = rw found refl

pub copy_nothing : (file known : List ℕ) (at : ℕ) → others_from zero known at file ≡ Ok known
unfolding others_from
copy_nothing file known at = refl

pub others_more : (file known : List ℕ) (at : ℕ) (due : Result (List ℕ) Fault) (f : Found) (t : ToldOther) → OthersLeft file known at due → at < length file → found_at Others at file ≡ Ok (Some f)
    → other_told f ≡ Ok t → at < f.at + f.head.size → OthersLeft file (known ++ slice_range file f.at (f.at + f.head.size)) (f.at + f.head.size) due
others_more file known at due f t left some found told on =
    let m = some_left left.most (length file - at) (omega arith) left.enough in
    record {
      most = m.0;
      enough = omega (arith, m.1, left.enough);
      same = sym (ap (λ k. others_from k known at file) m.1 ∙ copy_step file known m.0 at (Some f) found ∙ rw told refl) ∙ left.same;
    }

pub others_fault : (file known : List ℕ) (at : ℕ) (due : Result (List ℕ) Fault) (d : Fault) → OthersLeft file known at due → at < length file → found_at Others at file ≡ Err d → due ≡ Err d
others_fault file known at due d left some found =
    let m = some_left left.most (length file - at) (omega arith) left.enough in
    sym left.same ∙ ap (λ k. others_from k known at file) m.1 ∙ copy_fault file known m.0 at d found

pub others_untold : (file known : List ℕ) (at : ℕ) (due : Result (List ℕ) Fault) (f : Found) (d : Fault) → OthersLeft file known at due → at < length file → found_at Others at file ≡ Ok (Some f)
    → other_told f ≡ Err d → due ≡ Err d
others_untold file known at due f d left some found told =
    let m = some_left left.most (length file - at) (omega arith) left.enough in
    sym left.same ∙ ap (λ k. others_from k known at file) m.1 ∙ copy_step file known m.0 at (Some f) found ∙ rw told refl

pub others_none : (file known : List ℕ) (at : ℕ) (due : Result (List ℕ) Fault) → OthersLeft file known at due → at < length file → found_at Others at file ≡ Ok None → due ≡ Ok known
others_none file known at due left some found =
    let m = some_left left.most (length file - at) (omega arith) left.enough in
    sym left.same ∙ ap (λ k. others_from k known at file) m.1 ∙ copy_step file known m.0 at None found

found_nothing : (n at : ℕ) → found_by Others n at [] ≡ Ok None
unfolding found_by
found_nothing zero at = refl
found_nothing (suc n) at = refl

pub others_end : (file known : List ℕ) (at : ℕ) (due : Result (List ℕ) Fault) → OthersLeft file known at due → length file ≤ at → due ≡ Ok known
others_end file known at due left end =
    sym left.same ∙ by left.most
  where
    by : (n : ℕ) → others_from n known at file ≡ Ok known
    by zero = copy_nothing file known at
    by (suc n) = copy_step file known n at None (ap (found_by Others (length file) at) (drop_all at file end) ∙ found_nothing (length file) at)
