-- What holds of every row of the table.
use Rattle.std.proofs.Common.{◌≡◌, ℕ, zero, suc, ◌<◌, ◌≤◌, Bool, true, false, ◌&&◌, nat_lt, List, [], ◌∷◌, length, get_or, refl, arith}
use Rattle.std.specs.List.{list_all}
use Rattle.std.proofs.lemmas.List.{get_or_default}
use Rattle.std.proofs.lemmas.Bool.{and_parts}
use Rattle.std.proofs.lemmas.Bool.Decides.{nat_tests}
use Rattle.jk_model.specs.declared.table.Row.{Row}
use Rattle.jk_model.specs.Contexts.{rows, row_of, line}

abbrev is_sound : Row → Bool
is_sound r = nat_lt 0 r.qe && (nat_lt r.qe 0x5602 && (nat_lt r.next_mps 47 && nat_lt r.next_lps 47))

-- the sizes and the next states of a row
pub record IsSound (r : Row) : Type 0 where
  pub smallest : 1 ≤ r.qe
  pub largest : r.qe ≤ 0x5601
  pub after_mps : r.next_mps < 47
  pub after_lps : r.next_lps < 47

sound : (r : Row) → is_sound r ≡ true → IsSound r
sound r h = record {
  smallest = grind (arith, nat_tests);
  largest = grind (arith, nat_tests);
  after_mps = grind (arith, nat_tests);
  after_lps = grind (arith, nat_tests);
}

at_each : (test : Row → Bool) (xs : List Row) (i : ℕ) (d : Row) → list_all test xs ≡ true → i < length xs → test (get_or xs i d) ≡ true
at_each test [] i d h k = absurd (omega arith)
at_each test (x ∷ xs) zero d h k = (and_parts (test x) (list_all test xs) h).0
at_each test (x ∷ xs) (suc i) d h k = at_each test xs i d (and_parts (test x) (list_all test xs) h).1 (omega arith)

pub row-sound : (state : ℕ) → state < 47 → IsSound (row_of state)
unfolding rows
row-sound state h = sound (row_of state) (at_each is_sound rows state (line 0 0 0 false) refl h)

pub row-read : (state : ℕ) (d : Row) → state < 47 → get_or rows state d ≡ row_of state
unfolding rows
row-read state d h = get_or_default rows state d (line 0 0 0 false) h
