-- The packets that have something: what stands between two of them has nothing.
use Rattle.std.proofs.Common.{◌≡◌, ℕ, zero, suc, ◌+◌, ◌-◌, ◌<◌, ◌≤◌, Bool, true, false, cond, eqb, inl, inr, List, [], ◌∷◌, length, get_or, refl, sym, ap, subst, arith}
use Rattle.std.proofs.lemmas.Bool.{eqb-true, cases_lt}
use Rattle.std.proofs.lemmas.Grind.{get_or_default_zero}
use Rattle.std.proofs.Math.ListN.{get_or-eq_default}
use Rattle.jk_packet.specs.declared.header.BlockContribution.{BlockContribution}
use Rattle.jk_walk.specs.declared.places.PacketPlace.{PacketPlace}
use Rattle.jk_walk.specs.WalkReading.{full_numbers}
use Rattle.jk_tile.specs.decoding.Gathered.{place_in, AreByPrecinct}
use Rattle.jk_tile.specs.declared.decoding.chains.PacketChains.{PacketChains}
use Rattle.jk_tile.proofs.decoding.Chaining.{chains_bare}

-- whether the first packet has nothing
bare_front : (low : ℕ) (w : PacketPlace) (places : List PacketPlace) → eqb (length w.parts) 0 ≡ true → full_numbers low (w ∷ places) ≡ full_numbers (low + 1) places
bare_front low w places e = ap (λ b. cond b (full_numbers (low + 1) places) (low ∷ full_numbers (low + 1) places)) e

full_front : (low : ℕ) (w : PacketPlace) (places : List PacketPlace) → eqb (length w.parts) 0 ≡ false → full_numbers low (w ∷ places) ≡ low ∷ full_numbers (low + 1) places
full_front low w places e = ap (λ b. cond b (full_numbers (low + 1) places) (low ∷ full_numbers (low + 1) places)) e

no_parts : (parts : List BlockContribution) → eqb (length parts) 0 ≡ true → parts ≡ []
no_parts [] e = refl
no_parts (p ∷ parts) e = absurd (let none = eqb-true (length (p ∷ parts)) 0 e in omega (arith, none))

-- number k of these lies from `low` on
full_low : (low : ℕ) (places : List PacketPlace) (k : ℕ) → k < length (full_numbers low places) → low ≤ get_or (full_numbers low places) k 0
full_low low [] k lt = absurd (omega (arith, lt))
full_low low (w ∷ places) k lt = by (full_low (low + 1) places) (eqb (length w.parts) 0) refl
  where
    by : ((k : ℕ) → k < length (full_numbers (low + 1) places) → low + 1 ≤ get_or (full_numbers (low + 1) places) k 0) → (b : Bool) → eqb (length w.parts) 0 ≡ b → low ≤ get_or (full_numbers low (w ∷ places)) k 0
    by rest true e =
        let is = bare_front low w places e in
        let deep = rest k (subst (λ (ns : List ℕ). k < length ns) is lt) in
        subst (λ (ns : List ℕ). low ≤ get_or ns k 0) (sym is) (omega (arith, deep))
    by rest false e =
        let is = full_front low w places e in
        subst (λ (ns : List ℕ). low ≤ get_or ns k 0) (sym is) (at k (subst (λ (ns : List ℕ). k < length ns) is lt))
      where
        at : (k : ℕ) → k < length (low ∷ full_numbers (low + 1) places) → low ≤ get_or (low ∷ full_numbers (low + 1) places) k 0
        at zero lt = omega arith
        at (suc k) lt = let deep = rest k (omega (arith, lt)) in omega (arith, deep)

-- and before the end
pub full_in : (low : ℕ) (places : List PacketPlace) (k : ℕ) → k < length (full_numbers low places) → get_or (full_numbers low places) k 0 < low + length places
full_in low [] k lt = absurd (omega (arith, lt))
full_in low (w ∷ places) k lt = by (full_in (low + 1) places) (eqb (length w.parts) 0) refl
  where
    by : ((k : ℕ) → k < length (full_numbers (low + 1) places) → get_or (full_numbers (low + 1) places) k 0 < low + 1 + length places) → (b : Bool) → eqb (length w.parts) 0 ≡ b
        → get_or (full_numbers low (w ∷ places)) k 0 < low + length (w ∷ places)
    by rest true e =
        let is = bare_front low w places e in
        let deep = rest k (subst (λ (ns : List ℕ). k < length ns) is lt) in
        subst (λ (ns : List ℕ). get_or ns k 0 < low + length (w ∷ places)) (sym is) (omega (arith, deep))
    by rest false e =
        let is = full_front low w places e in
        subst (λ (ns : List ℕ). get_or ns k 0 < low + length (w ∷ places)) (sym is) (at k (subst (λ (ns : List ℕ). k < length ns) is lt))
      where
        at : (k : ℕ) → k < length (low ∷ full_numbers (low + 1) places) → get_or (low ∷ full_numbers (low + 1) places) k 0 < low + length (w ∷ places)
        at zero lt = omega arith
        at (suc k) lt = let deep = rest k (omega (arith, lt)) in omega (arith, deep)

-- before the next of these, or the end
full_next : (low end : ℕ) (places : List PacketPlace) (k : ℕ) → end ≡ low + length places → k < length (full_numbers low places) → get_or (full_numbers low places) k 0 < get_or (full_numbers low places) (suc k) end
full_next low end [] k is lt = absurd (omega (arith, lt))
full_next low end (w ∷ places) k is lt = by (λ k lt. full_next (low + 1) end places k (omega (arith, is)) lt) (eqb (length w.parts) 0) refl
  where
    by : ((k : ℕ) → k < length (full_numbers (low + 1) places) → get_or (full_numbers (low + 1) places) k 0 < get_or (full_numbers (low + 1) places) (suc k) end) → (b : Bool) → eqb (length w.parts) 0 ≡ b
        → get_or (full_numbers low (w ∷ places)) k 0 < get_or (full_numbers low (w ∷ places)) (suc k) end
    by rest true e =
        let same = bare_front low w places e in
        subst (λ (ns : List ℕ). get_or ns k 0 < get_or ns (suc k) end) (sym same) (rest k (subst (λ (ns : List ℕ). k < length ns) same lt))
    by rest false e =
        let same = full_front low w places e in
        subst (λ (ns : List ℕ). get_or ns k 0 < get_or ns (suc k) end) (sym same) (at k (subst (λ (ns : List ℕ). k < length ns) same lt))
      where
        at : (k : ℕ) → k < length (low ∷ full_numbers (low + 1) places) → get_or (low ∷ full_numbers (low + 1) places) k 0 < get_or (low ∷ full_numbers (low + 1) places) (suc k) end
        at zero lt = elim (cases_lt 0 (length (full_numbers (low + 1) places))) [
          | inl some ↦ (let deep = full_low (low + 1) places 0 some in let read = get_or_default_zero (full_numbers (low + 1) places) 0 end some in omega (arith, deep, read))
          | inr none ↦ (let read = get_or-eq_default (full_numbers (low + 1) places) end none in omega (arith, read, is))
        ]
        at (suc k) lt = rest k (omega (arith, lt))

-- before the first of these no packet has anything
bare_before : (low end : ℕ) (places : List PacketPlace) (j : ℕ) → end ≡ low + length places → low + j < get_or (full_numbers low places) 0 end → (place_in places j).parts ≡ []
bare_before low end [] j is lt = absurd (omega (arith, lt, is))
bare_before low end (w ∷ places) j is lt = by (λ j lt. bare_before (low + 1) end places j (omega (arith, is)) lt) (eqb (length w.parts) 0) refl
  where
    by : ((j : ℕ) → low + 1 + j < get_or (full_numbers (low + 1) places) 0 end → (place_in places j).parts ≡ []) → (b : Bool) → eqb (length w.parts) 0 ≡ b → (place_in (w ∷ places) j).parts ≡ []
    by rest true e = at j lt
      where
        at : (j : ℕ) → low + j < get_or (full_numbers low (w ∷ places)) 0 end → (place_in (w ∷ places) j).parts ≡ []
        at zero lt = no_parts w.parts e
        at (suc j) lt =
            let less = subst (λ (ns : List ℕ). low + suc j < get_or ns 0 end) (bare_front low w places e) lt in
            rest j (omega (arith, less))
    by rest false e = absurd
        (let less = subst (λ (ns : List ℕ). low + j < get_or ns 0 end) (full_front low w places e) lt in
        omega (arith, less))

-- between number k of these and the next, or the end, no packet has anything
bare_between : (low end : ℕ) (places : List PacketPlace) (k j : ℕ) → end ≡ low + length places → k < length (full_numbers low places) → get_or (full_numbers low places) k 0 < low + j
    → low + j < get_or (full_numbers low places) (suc k) end → (place_in places j).parts ≡ []
bare_between low end [] k j is lt above below = absurd (omega (arith, lt))
bare_between low end (w ∷ places) k j is lt above below = by (λ k j lt above below. bare_between (low + 1) end places k j (omega (arith, is)) lt above below) (eqb (length w.parts) 0) refl
  where
    by : ((k j : ℕ) → k < length (full_numbers (low + 1) places) → get_or (full_numbers (low + 1) places) k 0 < low + 1 + j → low + 1 + j < get_or (full_numbers (low + 1) places) (suc k) end
        → (place_in places j).parts ≡ []) → (b : Bool) → eqb (length w.parts) 0 ≡ b → (place_in (w ∷ places) j).parts ≡ []
    by rest true e =
        let same = bare_front low w places e in
        at j (subst (λ (ns : List ℕ). k < length ns) same lt) (subst (λ (ns : List ℕ). get_or ns k 0 < low + j) same above) (subst (λ (ns : List ℕ). low + j < get_or ns (suc k) end) same below)
      where
        at : (j : ℕ) → k < length (full_numbers (low + 1) places) → get_or (full_numbers (low + 1) places) k 0 < low + j → low + j < get_or (full_numbers (low + 1) places) (suc k) end → (place_in (w ∷ places) j).parts ≡ []
        at zero lt above below = absurd (let deep = full_low (low + 1) places k lt in omega (arith, deep, above))
        at (suc j) lt above below = rest k j lt (omega (arith, above)) (omega (arith, below))
    by rest false e =
        let same = full_front low w places e in
        at k j (subst (λ (ns : List ℕ). k < length ns) same lt) (subst (λ (ns : List ℕ). get_or ns k 0 < low + j) same above) (subst (λ (ns : List ℕ). low + j < get_or ns (suc k) end) same below)
      where
        at : (k j : ℕ) → k < length (low ∷ full_numbers (low + 1) places) → get_or (low ∷ full_numbers (low + 1) places) k 0 < low + j → low + j < get_or (low ∷ full_numbers (low + 1) places) (suc k) end
            → (place_in (w ∷ places) j).parts ≡ []
        at zero zero lt above below = absurd (omega (arith, above))
        at zero (suc j) lt above below = bare_before (low + 1) end places j (omega (arith, is)) (omega (arith, below))
        at (suc k) zero lt above below = absurd (let deep = full_low (low + 1) places k (omega (arith, lt)) in omega (arith, deep, above))
        at (suc k) (suc j) lt above below = rest k j (omega (arith, lt)) (omega (arith, above)) (omega (arith, below))

-- ---- chains of the packets from one on, and of those before it that have nothing

pub chains_bares : (places : List PacketPlace) (c r count m d : ℕ) (chains : PacketChains) → m + d ≤ length places → ((i : ℕ) → m ≤ i → i < m + d → (place_in places i).parts ≡ [])
    → AreByPrecinct places (m + d) c r count chains → AreByPrecinct places m c r count chains
chains_bares places c r count m zero chains fits none h = subst (λ i. AreByPrecinct places i c r count chains) (let same : m + 0 ≡ m = omega arith in same) h
chains_bares places c r count m (suc d) chains fits none h =
    let back : m + suc d ≡ (m + d) + 1 = omega arith in
    let here = chains_bare places c r count (m + d) chains (omega (arith, fits)) (none (m + d) (omega arith) (omega arith)) (subst (λ i. AreByPrecinct places i c r count chains) back h) in
    chains_bares places c r count m d chains (omega (arith, fits)) (λ i le lt. none i le (omega (arith, lt))) here

-- how far they go where `left` of the packets that have something are left: to the next of these, or to the end
abbrev pub reached : (places : List PacketPlace) (left : ℕ) → ℕ
reached places left = get_or (full_numbers 0 places) left (length places)

-- behind the one before it
pub chains_behind : (places : List PacketPlace) (c r count k : ℕ) (chains : PacketChains) → k < length (full_numbers 0 places) → AreByPrecinct places (reached places (suc k)) c r count chains
    → AreByPrecinct places (get_or (full_numbers 0 places) k 0 + 1) c r count chains
chains_behind places c r count k chains lt h =
    let m = get_or (full_numbers 0 places) k 0 in
    let n = reached places (suc k) in
    let after = full_next 0 (length places) places k (omega arith) lt in
    let most : n ≤ length places = elim (cases_lt (suc k) (length (full_numbers 0 places))) [
      | inl some ↦ (let deep = full_in 0 places (suc k) some in let read = get_or_default_zero (full_numbers 0 places) (suc k) (length places) some in omega (arith, deep, read))
      | inr none ↦ (let read = get_or-eq_default (full_numbers 0 places) (length places) none in omega (arith, read))
    ] in
    let up : n ≡ (m + 1) + (n - (m + 1)) = omega (arith, after) in
    chains_bares places c r count (m + 1) (n - (m + 1)) chains (omega (arith, most, up))
    (λ i le less. bare_between 0 (length places) places k i (omega arith) lt (omega (arith, le)) (omega (arith, less, up)))
    (subst (λ i. AreByPrecinct places i c r count chains) up h)

-- before the first of these, where none is left
pub chains_all : (places : List PacketPlace) (c r count : ℕ) (chains : PacketChains) → AreByPrecinct places (reached places 0) c r count chains → AreByPrecinct places 0 c r count chains
chains_all places c r count chains h =
    let n = reached places 0 in
    let most : n ≤ length places = elim (cases_lt 0 (length (full_numbers 0 places))) [
      | inl some ↦ (let deep = full_in 0 places 0 some in let read = get_or_default_zero (full_numbers 0 places) 0 (length places) some in omega (arith, deep, read))
      | inr none ↦ (let read = get_or-eq_default (full_numbers 0 places) (length places) none in omega (arith, read))
    ] in
    chains_bares places c r count 0 n chains (omega (arith, most)) (λ i le less. bare_before 0 (length places) places i (omega arith) (omega (arith, less)))
    (subst (λ i. AreByPrecinct places i c r count chains) (let same : n ≡ 0 + n = omega arith in same) h)

-- where all are left
pub chains_none_yet : (places : List PacketPlace) → reached places (length (full_numbers 0 places)) ≡ length places
chains_none_yet places = get_or-eq_default (full_numbers 0 places) (length places) (omega arith)
