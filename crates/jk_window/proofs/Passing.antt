-- Going through intervals that ascend by their starts.
use Rattle.std.proofs.Common.{◌≡◌, ℕ, ◌+◌, ◌<◌, ◌≤◌, inl, inr, min, max, true, false, Bool, List, length, get_or, refl, sym, ap, ◌∙◌, arith}
use Rattle.std.specs.List.Sorted.{IsNonDecreasingBy}
use Rattle.std.proofs.lemmas.Bool.{cases_lt}
use Rattle.jk_geom.specs.declared.shape.PacketName.{PacketName}
use Rattle.jk_window.specs.declared.contents.TileCut.{TileCut}
use Rattle.jk_window.specs.declared.numbered.Piece.{Piece}
use Rattle.jk_window.specs.Cutting.{wanted}
use Rattle.jk_window.specs.Numbered.{IsAmong, AreWanted, AreAll, EndBefore, IsPiece}
use Rattle.jk_window.proofs.PlanLaws.{get_same}

-- one interval more that ends there
pub past_one_more : (xs : List (ℕ × ℕ)) (i at : ℕ) (y : ℕ × ℕ) → EndBefore xs i at → y ≡ get_or xs i (0, 0) → y.1 ≤ at → EndBefore xs (i + 1) at
past_one_more xs i at y before own le k lt = elim (cases_lt k i) [
  | inl less ↦ before k less
  | inr past ↦ (let is : k ≡ i = omega (arith, lt, past) in
      let end : (get_or xs k (0, 0)).1 ≡ y.1 = ap (λ q. (get_or xs q (0, 0)).1) is ∙ ap (λ (s : ℕ × ℕ). s.1) (sym own) in
      omega (arith, end, le))
]

pub past_later : (xs : List (ℕ × ℕ)) (next at behind : ℕ) → EndBefore xs next at → at ≤ behind → EndBefore xs next behind
past_later xs next at behind before le k lt = let one = before k lt in omega (arith, one, le)

-- an interval that has a number from there on is the next one or a later one
among_later : (xs : List (ℕ × ℕ)) (next at i : ℕ) → EndBefore xs next at → at ≤ i → (h : IsAmong xs i) → next ≤ h.0
among_later xs next at i before lo h = elim (cases_lt h.0 next) [
  | inl less ↦ (
      let end = before h.0 less in
      let same : get_or xs h.0 (0, 0) ≡ h.1 = get_same xs h.0 (0, 0) h.1 h.2 ∙ h.3 in
      let is : (get_or xs h.0 (0, 0)).1 ≡ h.1.1 = ap (λ (s : ℕ × ℕ). s.1) same in
      let within = h.4.1 in
      absurd (omega (arith, end, is, within, lo)))
  | inr past ↦ past
]

-- behind all intervals
pub piece_last : (xs : List (ℕ × ℕ)) (next at behind : ℕ) → at < behind → EndBefore xs next at → length xs ≤ next → IsPiece xs at behind (record { start = behind; end = behind })
piece_last xs next at behind lt before past = record {
  start = omega (arith, lt);
  order = omega arith;
  some = lt;
  end = omega arith;
  gap = λ i lo hi h. (let later = among_later xs next at i before lo h in let within = h.2 in omega (arith, later, within, past));
  kept = λ i lo hi. absurd (omega (arith, lo, hi));
}

-- up to the end of the next one
pub piece_next : (xs : List (ℕ × ℕ)) (next at behind start end : ℕ) → at < behind → EndBefore xs next at → IsNonDecreasingBy (λ (s : ℕ × ℕ). s.0) xs → next < length xs → (start, end) ≡ get_or xs next (0, 0) → at < end
    → IsPiece xs at behind (record { start = min (max start at) behind; end = max (min end behind) (min (max start at) behind) })
piece_next xs next at behind start end lt before up within own goes =
    let first : (get_or xs next (0, 0)).0 ≡ start = ap (λ (s : ℕ × ℕ). s.0) (sym own) in
    record {
      start = omega (arith, lt);
      order = omega arith;
      some = omega (arith, lt, goes);
      end = omega (arith, lt);
      gap = λ i lo hi h. (
          let later = among_later xs next at i before lo h in
          let rises = up next h.0 (0, 0) later h.2 in
          let same : get_or xs h.0 (0, 0) ≡ h.1 = get_same xs h.0 (0, 0) h.1 h.2 ∙ h.3 in
          let is : (get_or xs h.0 (0, 0)).0 ≡ h.1.0 = ap (λ (s : ℕ × ℕ). s.0) same in
          let from = h.4.0 in
          omega (arith, hi, lo, rises, is, from, first));
      kept = λ i lo hi. (next, (start, end), within, get_same xs next (start, end) (0, 0) within ∙ sym own, (omega (arith, lo, hi), omega (arith, lo, hi)));
    }

-- ---- so a piece has packets of which none are kept, and then packets of which all are

none_of : (t : TileCut) (xs : List (ℕ × ℕ)) (n : PacketName) (i : ℕ) → ((wanted t.shape.now t.top t.reduce t.layers n ≡ true) → IsAmong xs i) → (IsAmong xs i → ⊥) → wanted t.shape.now t.top t.reduce t.layers n ≡ false
none_of t xs n i law never = by (wanted t.shape.now t.top t.reduce t.layers n) law
  where
    by : (b : Bool) → ((b ≡ true) → IsAmong xs i) → b ≡ false
    by true law = absurd (never (law refl))
    by false law = refl

pub gap_wanted : (t : TileCut) (xs : List (ℕ × ℕ)) (at behind : ℕ) (p : Piece) → AreWanted t xs → IsPiece xs at behind p → AreAll t at p.start false
gap_wanted t xs at behind p are is i n lo hi e = none_of t xs n i (are i n e).0 (is.gap i lo hi)

pub kept_wanted : (t : TileCut) (xs : List (ℕ × ℕ)) (at behind : ℕ) (p : Piece) → AreWanted t xs → IsPiece xs at behind p → AreAll t p.start p.end true
kept_wanted t xs at behind p are is i n lo hi e = (are i n e).1 (is.kept i lo hi)
