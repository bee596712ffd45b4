-- Where the resolutions of a component begin among its precincts.
use Rattle.std.proofs.Common.{◌≡◌, ℕ, suc, ◌+◌, ◌*◌, ◌^◌, ◌<◌, ◌≤◌, List, length, get_or, set, sym, ap, ◌∙◌, inl, inr, arith}
use Rattle.std.proofs.lemmas.Bool.{cases_eq}
use Rattle.std.proofs.lemmas.List.{get_or-set_same, get_or-set_other}
use Rattle.jk_math.specs.declared.rect.Rect.{Rect}
use Rattle.jk_marks.specs.declared.coding.Coding.{Coding}
use Rattle.jk_geom.specs.Precincts.{precinct_number}
use Rattle.jk_geom.specs.Counts.{precincts_below}
use Rattle.jk_geom.proofs.Laws.{below_more, below_none}
use Rattle.jk_tile.specs.encoding.TileWriters.{index_of}
use Rattle.jk_tile.proofs.encoding.TileIndex.{below_rises}

pub first_none : (a : Rect) (k : Coding) → 0 ≡ precincts_below a k 0
first_none a k = sym (below_none a k)

pub first_at : (a : Rect) (k : Coding) (xs : List ℕ) (i : ℕ) → get_or xs 0 0 ≡ 0 → i ≤ 0 → get_or xs i 0 ≡ precincts_below a k i
first_at a k xs i e le =
    let none : 0 ≡ i = omega (arith, le) in
    ap (λ m. get_or xs m 0) (sym none) ∙ e ∙ first_none a k ∙ ap (precincts_below a k) none

-- the sum of a resolution more
pub sum_more : (a : Rect) (k : Coding) (r sum own : ℕ) → sum ≡ precincts_below a k r → own ≡ precinct_number a k r → sum + own ≡ precincts_below a k (r + 1)
sum_more a k r sum own es eo = let more = below_more a k r in let one : suc r ≡ r + 1 = omega arith in let e = ap (precincts_below a k) one in omega (arith, more, es, eo, e)

-- none passes all
pub sum_few : (a : Rect) (k : Coding) (r n sum own : ℕ) → r < n → sum ≡ precincts_below a k r → own ≡ precinct_number a k r → precincts_below a k n ≤ 2 ^ 24 → sum + own ≤ 2 ^ 24
sum_few a k r n sum own lt es eo few = let rise = below_rises a k r n lt in omega (arith, rise, es, eo, few)

pub firsts_more : (a : Rect) (k : Coding) (r sum own : ℕ) (xs : List ℕ) → r + 1 < length xs → sum ≡ precincts_below a k r → own ≡ precinct_number a k r → ((i : ℕ) → i ≤ r → get_or xs i 0 ≡ precincts_below a k i)
    → (i : ℕ) → i ≤ r + 1 → get_or (set xs (r + 1) (sum + own)) i 0 ≡ precincts_below a k i
firsts_more a k r sum own xs long es eo each i le = elim (cases_eq i (r + 1)) [
  | inl same ↦ ap (λ m. get_or (set xs (r + 1) (sum + own)) m 0) same ∙ get_or-set_same xs (r + 1) (sum + own) 0 long ∙ sum_more a k r sum own es eo ∙ ap (precincts_below a k) (sym same)
  | inr other ↦ get_or-set_other xs (r + 1) i (sum + own) 0 other ∙ each i (omega (arith, le, other))
]

-- where a packet's precinct stands
pub place_at : (a : Rect) (k : Coding) (xs : List ℕ) (c r n place : ℕ) → r ≤ k.levels → ((i : ℕ) → i ≤ k.levels + 1 → get_or xs i 0 ≡ precincts_below a k i)
    → place ≡ c * get_or xs (k.levels + 1) 0 + (get_or xs r 0 + n) → place ≡ index_of a k c r n
place_at a k xs c r n place le each e =
    e ∙ ap (λ m. c * m + (get_or xs r 0 + n)) (each (k.levels + 1) (omega arith)) ∙ ap (λ m. c * precincts_below a k (k.levels + 1) + (m + n)) (each r (omega (arith, le)))
