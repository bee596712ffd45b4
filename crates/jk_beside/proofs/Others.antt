-- Boxes of XML and under UUIDs, one after another.
use Rattle.std.proofs.Common.{◌≡◌, ℕ, ◌+◌, ◌≤◌, ◌⊎◌, inl, inr, zero, suc, List, [], ◌∷◌, ◌++◌, length, Some, None, Result, Ok, Err, refl, sym, ap, ◌∙◌, append_assoc, append-nil}
use Rattle.std.proofs.lemmas.List.{drop_all}
use Rattle.jk_math.specs.Answer.{◌>>=◌, Refuses}
use Rattle.jk_math.specs.Memory.{IsMemory}
use Rattle.jk_math.specs.declared.fault.Fault.{Fault}
use Rattle.jk_math.specs.declared.fault.Fault.TheVariants.{Memory}
use Rattle.jk_extras.specs.declared.finding.Wanted.TheVariants.{Others}
use Rattle.jk_extras.specs.declared.finding.Found.{Found}
use Rattle.jk_extras.specs.Finding.{found_by, found_at}
use Rattle.jk_beside.specs.Others.{Reach, AreBefore, held_bytes}
use Rattle.jk_beside.specs.Listing.{other_line, other_behind, AreLines, IsOthersFault}

-- one more
pub reach_more : (file : List ℕ) (at mid : ℕ) (fs : List Found) (f : Found) → Reach file at fs mid → found_at Others mid file ≡ Ok (Some f)
    → Reach file at (fs ++ f ∷ []) (f.at + f.head.size)
reach_more file at mid [] f reach found = (ap (λ (k : ℕ). found_at Others k file) reach ∙ found, refl)
reach_more file at mid (g ∷ gs) f reach found = (reach.0, reach_more file (g.at + g.head.size) mid gs f reach.1 found)

found_nothing : (n at : ℕ) → found_by Others n at [] ≡ Ok None
unfolding found_by
found_nothing zero at = refl
found_nothing (suc n) at = refl

-- behind the end of the file there is none
pub nothing_behind : (file : List ℕ) (at : ℕ) → length file ≤ at → found_at Others at file ≡ Ok None
nothing_behind file at end = ap (found_by Others (length file) at) (drop_all at file end) ∙ found_nothing (length file) at

pub lines_more : (file : List ℕ) (fs : List Found) (f : Found) (text line : List ℕ) → AreLines file fs text → other_line f.head.kind (held_bytes file f) ≡ Ok line
    → AreLines file (fs ++ f ∷ []) (text ++ line)
lines_more file [] f text line are is = (line, [], is, refl, ap (λ (t : List ℕ). t ++ line) are ∙ sym (append-nil line))
lines_more file (g ∷ gs) f text line (own, rest, held, later, whole) is =
    (own, rest ++ line, held, lines_more file gs f rest line later is, ap (λ (t : List ℕ). t ++ line) whole ∙ append_assoc own rest line)

-- what is appended is a line
pub line_said : (known : List ℕ) (kind : ℕ) (contents next : List ℕ) → other_behind known kind contents ≡ Ok next
    → (line : List ℕ) × (other_line kind contents ≡ Ok line) × (next ≡ known ++ line)
line_said known kind contents next h = by (other_line kind contents) refl h where
  by : (r : Result (List ℕ) Fault) → other_line kind contents ≡ r → (r >>= λ line. Ok (known ++ line)) ≡ Ok next
      → (line : List ℕ) × (other_line kind contents ≡ Ok line) × (next ≡ known ++ line)
  by (Ok line) is same = (line, is, let e = same in cc)
  by (Err e) is same = absurd (let clash = same in cc)

line_refused : (known : List ℕ) (kind : ℕ) (contents : List ℕ) (e : Fault) → other_behind known kind contents ≡ Err e → other_line kind contents ≡ Err e
line_refused known kind contents e h = by (other_line kind contents) refl h where
  by : (r : Result (List ℕ) Fault) → other_line kind contents ≡ r → (r >>= λ line. Ok (known ++ line)) ≡ Err e → other_line kind contents ≡ Err e
  by (Ok line) is same = absurd (let clash = same in cc)
  by (Err d) is same = is ∙ same

pub memory_or : {A : Type 0} (e : Fault) (due : Result A Fault) → Refuses e due → IsMemory e ⊎ (due ≡ Err e)
memory_or (Memory r) due h = inl tt
memory_or e due h = inr h

pub line_none : (known : List ℕ) (kind : ℕ) (contents : List ℕ) (e : Fault) → Refuses e (other_behind known kind contents)
    → IsMemory e ⊎ (other_line kind contents ≡ Err e)
line_none known kind contents e h = by (memory_or e (other_behind known kind contents) h) where
  by : IsMemory e ⊎ (other_behind known kind contents ≡ Err e) → IsMemory e ⊎ (other_line kind contents ≡ Err e)
  by (inl memory) = inl memory
  by (inr due) = inr (line_refused known kind contents e due)

-- a box without a line
pub behind_fault : (file : List ℕ) (at : ℕ) (fs : List Found) (text : List ℕ) (f : Found) (e : Fault) → AreBefore file at fs f → AreLines file fs text
    → IsMemory e ⊎ (other_line f.head.kind (held_bytes file f) ≡ Err e) → IsMemory e ⊎ IsOthersFault file at e
behind_fault file at fs text f e before lines (inl memory) = inl memory
behind_fault file at fs text f e before lines (inr none) = inr (inr (fs, text, f, before, lines, none))
