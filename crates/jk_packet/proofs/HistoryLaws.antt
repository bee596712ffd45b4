-- What the layers before one have of a block, by its table: Lblock, the passes, whether the block is included, and the piece that
-- the next layer adds.
use Rattle.std.proofs.Common.{◌≡◌, ℕ, zero, suc, ◌+◌, ◌^◌, ◌<◌, ◌≤◌, Bool, true, false, cond, List, [], ◌∷◌, ◌++◌, length, get_or, take, Option, Some, None, refl, sym, ap, ◌∙◌, subst, inl, inr, arith}
use Rattle.std.specs.Prelude.{not, nat_eq, nat_lt, nat_le, is_some, sum_by}
use Rattle.std.specs.List.{AllByRecursion}
use Rattle.std.proofs.lemmas.Bool.{cases_lt, cases_eq, cases_Bool}
use Rattle.std.proofs.lemmas.Bool.Decides.{nat_tests}
use Rattle.std.proofs.lemmas.List.{append-nil}
use Rattle.std.proofs.lemmas.List.Sums.{sum_by_push, sum_by_more, sum_by_more_le, get_or-le-sum_by}
use Rattle.std.proofs.Math.Nat.{pow-le-pow_right}
use Rattle.jk_math.specs.BitLength.{bit_length}
use Rattle.jk_math.proofs.Laws.{bit_length_room, bit_length_few}
use Rattle.jk_packet.specs.Words.{greatest_power, floor_log2, width, IsAddition}
use Rattle.jk_packet.specs.PacketText.{PacketContribution, option_list, has_any, zeros_of, passes_of, lblock_of}
use Rattle.jk_packet.specs.Written.{Table, part_in, least_growth, lblock_at, piece_in, contribution_in, first_in, has_passes, IsTable}
use Rattle.jk_packet.specs.Writing.{history}

-- The equations of the definitions.
pub history_none : (t : Table) → history t 0 ≡ []
unfolding history
history_none t = refl

pub history_more : (t : Table) (l : ℕ) → history t (suc l) ≡ history t l ++ option_list (contribution_in t l)
unfolding history
history_more t l = refl

abbrev pub own_contribution : Table → ℕ → PacketContribution
own_contribution t l = record { zero_planes = t.zero_planes; piece = piece_in t l }

pub contribution_none : (t : Table) (l : ℕ) → nat_eq (part_in t l).0 0 ≡ true → contribution_in t l ≡ None
unfolding contribution_in
contribution_none t l e = ap (λ (b : Bool). cond b None (Some (own_contribution t l))) e

pub contribution_some : (t : Table) (l : ℕ) → nat_eq (part_in t l).0 0 ≡ false → contribution_in t l ≡ Some (own_contribution t l)
unfolding contribution_in
contribution_some t l e = ap (λ (b : Bool). cond b None (Some (own_contribution t l))) e

pub lblock_first : (t : Table) → lblock_at t 0 ≡ 3
unfolding lblock_at
lblock_first t = refl

pub lblock_kept : (t : Table) (l : ℕ) → nat_eq (part_in t l).0 0 ≡ true → lblock_at t (suc l) ≡ lblock_at t l
unfolding lblock_at
lblock_kept t l e =
    ap (λ (b : Bool). lblock_at t l + cond b 0 (least_growth (lblock_at t l) (part_in t l).0 (length (part_in t l).1))) e ∙ (let z : lblock_at t l + 0 ≡ lblock_at t l = omega arith in z)

pub lblock_grown : (t : Table) (l : ℕ) → nat_eq (part_in t l).0 0 ≡ false → lblock_at t (suc l) ≡ lblock_at t l + (piece_in t l).growth
unfolding lblock_at
lblock_grown t l e = ap (λ (b : Bool). lblock_at t l + cond b 0 (least_growth (lblock_at t l) (part_in t l).0 (length (part_in t l).1))) e

pub is_some_contribution : (t : Table) (l : ℕ) → is_some (contribution_in t l) ≡ has_passes l t
is_some_contribution t l = elim (cases_Bool (nat_eq (part_in t l).0 0)) [
  | inl none ↦ ap is_some (contribution_none t l none) ∙ ap not (sym none)
  | inr some ↦ ap is_some (contribution_some t l some) ∙ ap not (sym some)
]

-- one layer more, without passes and with some
pub history_kept : (t : Table) (l : ℕ) → nat_eq (part_in t l).0 0 ≡ true → history t (suc l) ≡ history t l
history_kept t l none = history_more t l ∙ ap (λ (c : Option PacketContribution). history t l ++ option_list c) (contribution_none t l none) ∙ append-nil (history t l)

pub history_grown : (t : Table) (l : ℕ) → nat_eq (part_in t l).0 0 ≡ false → history t (suc l) ≡ history t l ++ own_contribution t l ∷ []
history_grown t l some = history_more t l ∙ ap (λ (c : Option PacketContribution). history t l ++ option_list c) (contribution_some t l some)

-- Lblock
pub lblock_history : (t : Table) (l : ℕ) → lblock_of (history t l) ≡ lblock_at t l
lblock_history t zero = ap lblock_of (history_none t) ∙ sym (lblock_first t)
lblock_history t (suc l) =
    let before = lblock_history t l in
    elim (cases_Bool (nat_eq (part_in t l).0 0)) [
      | inl none ↦ ap lblock_of (history_kept t l none) ∙ before ∙ sym (lblock_kept t l none)
      | inr some ↦
          ap lblock_of (history_grown t l some)
          ∙ (let e = sum_by_push (λ (c : PacketContribution). c.piece.growth) (history t l) (own_contribution t l) in
          let g = lblock_grown t l some in
          let s : lblock_of (history t l ++ own_contribution t l ∷ []) ≡ lblock_at t (suc l) = omega (arith, e, before, g) in
          s)
    ]

-- zero bit-planes
all_push : (P : PacketContribution → Type 0) (cs : List PacketContribution) (c : PacketContribution) → AllByRecursion P cs → P c → AllByRecursion P (cs ++ c ∷ [])
all_push P [] c all own = (own, tt)
all_push P (d ∷ cs) c all own = (all.0, all_push P cs c all.1 own)

abbrev pub SameZeros : Table → PacketContribution → Type 0
SameZeros t = λ c. c.zero_planes ≡ t.zero_planes

zeros_all : (t : Table) (l : ℕ) → AllByRecursion (SameZeros t) (history t l)
zeros_all t zero = subst (λ (cs : List PacketContribution). AllByRecursion (SameZeros t) cs) (sym (history_none t)) tt
zeros_all t (suc l) = elim (cases_Bool (nat_eq (part_in t l).0 0)) [
  | inl none ↦ subst (λ (cs : List PacketContribution). AllByRecursion (SameZeros t) cs) (sym (history_kept t l none)) (zeros_all t l)
  | inr some ↦ subst (λ (cs : List PacketContribution). AllByRecursion (SameZeros t) cs) (sym (history_grown t l some)) (all_push (SameZeros t) (history t l) (own_contribution t l) (zeros_all t l) refl)
]

zeros_by : (t : Table) (cs : List PacketContribution) → AllByRecursion (SameZeros t) cs → has_any cs ≡ true → t.zero_planes ≡ zeros_of cs
zeros_by t [] all any = absurd (cc)
zeros_by t (c ∷ cs) all any = sym all.0

pub zeros_history : (t : Table) (l : ℕ) → has_any (history t l) ≡ true → t.zero_planes ≡ zeros_of (history t l)
zeros_history t l any = zeros_by t (history t l) (zeros_all t l) any

-- passes
pub passes_history : (t : Table) (l : ℕ) → l ≤ length t.parts → passes_of (history t l) ≡ sum_by (λ p. p.0) (take l t.parts)
passes_history t zero within = ap passes_of (history_none t)
passes_history t (suc l) within =
    let before = passes_history t l (omega (arith, within)) in
    let more = sum_by_more (λ (p : ℕ × List ℕ). p.0) t.parts l (0, []) (omega (arith, within)) in
    let at : sum_by (λ (p : ℕ × List ℕ). p.0) (take (suc l) t.parts) ≡ sum_by (λ (p : ℕ × List ℕ). p.0) (take (l + 1) t.parts) = ap (λ n. sum_by (λ (p : ℕ × List ℕ). p.0) (take n t.parts)) (let e : suc l ≡ l + 1 = omega arith in e) in
    elim (cases_Bool (nat_eq (part_in t l).0 0)) [
      | inl none ↦ (let e = ap passes_of (history_kept t l none) in let z : (part_in t l).0 ≡ 0 = grind (arith, nat_tests) in omega (arith, e, z, before, more, at))
      | inr some ↦ (let e = ap passes_of (history_grown t l some) in
          let p = sum_by_push (λ (c : PacketContribution). c.piece.passes) (history t l) (own_contribution t l) in
          omega (arith, e, p, before, more, at))
    ]

pub passes_within : (t : Table) (l : ℕ) → l < length t.parts → passes_of (history t l) + (part_in t l).0 ≤ sum_by (λ p. p.0) t.parts
passes_within t l within =
    let before = passes_history t l (omega (arith, within)) in
    let more = sum_by_more_le (λ (p : ℕ × List ℕ). p.0) t.parts l (0, []) within in
    omega (arith, before, more)

-- the first layer that includes the block
before_first : (parts : List (ℕ × List ℕ)) (k : ℕ) → k < first_in parts → nat_eq (get_or parts k (0, [])).0 0 ≡ true
before_first [] k less = absurd (omega (arith, less))
before_first (p ∷ parts) k less = by (λ k less. before_first parts k less) (nat_eq p.0 0) refl k less
  where
    by : ((k : ℕ) → k < first_in parts → nat_eq (get_or parts k (0, [])).0 0 ≡ true) → (b : Bool) → nat_eq p.0 0 ≡ b → (k : ℕ) → k < cond b (1 + first_in parts) 0 → nat_eq (get_or (p ∷ parts) k (0, [])).0 0 ≡ true
    by rest true e zero less = e
    by rest true e (suc k) less = rest k (omega (arith, less))
    by rest false e k less = absurd (omega (arith, less))

at_first : (parts : List (ℕ × List ℕ)) → first_in parts < length parts → nat_eq (get_or parts (first_in parts) (0, [])).0 0 ≡ false
at_first [] less = absurd (omega (arith, less))
at_first (p ∷ parts) less = by (λ less. at_first parts less) (nat_eq p.0 0) refl less
  where
    by : (first_in parts < length parts → nat_eq (get_or parts (first_in parts) (0, [])).0 0 ≡ false) → (b : Bool) → nat_eq p.0 0 ≡ b → cond b (1 + first_in parts) 0 < suc (length parts)
        → nat_eq (get_or (p ∷ parts) (cond b (1 + first_in parts) 0) (0, [])).0 0 ≡ false
    by rest true e less =
        let at : 1 + first_in parts ≡ suc (first_in parts) = omega arith in
        ap (λ n. nat_eq (get_or (p ∷ parts) n (0, [])).0 0) at ∙ rest (omega (arith, less))
    by rest false e less = e

pub first_within : (parts : List (ℕ × List ℕ)) → first_in parts ≤ length parts
first_within [] = omega arith
first_within (p ∷ parts) = by (nat_eq p.0 0) (first_within parts)
  where
    by : (b : Bool) → first_in parts ≤ length parts → cond b (1 + first_in parts) 0 ≤ suc (length parts)
    by true rest = omega (arith, rest)
    by false rest = omega arith

any_push : (cs : List PacketContribution) (c : PacketContribution) → has_any (cs ++ c ∷ []) ≡ true
any_push [] c = refl
any_push (d ∷ cs) c = refl

-- where layer l is the first, has passes before it, or is before the first
first_now : (t : Table) (l : ℕ) → l < length t.parts → first_in t.parts ≡ l → nat_eq (part_in t l).0 0 ≡ false
first_now t l within e = ap (λ n. nat_eq (get_or t.parts n (0, [])).0 0) (sym e) ∙ at_first t.parts (omega (arith, within, e))

pub included_history : (t : Table) (l : ℕ) → l ≤ length t.parts → has_any (history t l) ≡ nat_lt (first_in t.parts) l
included_history t zero within = ap has_any (history_none t) ∙ (let e : false ≡ nat_lt (first_in t.parts) 0 = grind (arith, nat_tests) in e)
included_history t (suc l) within =
    let before = included_history t l (omega (arith, within)) in
    elim (cases_Bool (nat_eq (part_in t l).0 0)) [
      | inl none ↦
          ap has_any (history_kept t l none) ∙ before
          ∙ (elim (cases_eq (first_in t.parts) l) [
            | inl at ↦ absurd (let some = first_now t l (omega (arith, within)) at in let c : true ≡ false = sym none ∙ some in cc)
            | inr apart ↦ (let e : nat_lt (first_in t.parts) l ≡ nat_lt (first_in t.parts) (suc l) = grind (arith, nat_tests) in e)
          ])
      | inr some ↦
          ap has_any (history_grown t l some) ∙ any_push (history t l) (own_contribution t l)
          ∙ (elim (cases_lt l (first_in t.parts)) [
            | inl early ↦ absurd (let none = before_first t.parts l early in let c : true ≡ false = sym none ∙ some in cc)
            | inr late ↦ (let e : true ≡ nat_lt (first_in t.parts) (suc l) = grind (arith, nat_tests) in e)
          ])
    ]

-- A block that isn't included before layer l is included there exactly where l is its first layer.
pub taken_first : (t : Table) (l : ℕ) → l < length t.parts → nat_lt (first_in t.parts) l ≡ false → is_some (contribution_in t l) ≡ nat_lt (first_in t.parts) (l + 1)
taken_first t l within not_yet =
    is_some_contribution t l
    ∙ (elim (cases_eq (first_in t.parts) l) [
      | inl at ↦ ap not (first_now t l within at) ∙ (let e : true ≡ nat_lt (first_in t.parts) (l + 1) = grind (arith, nat_tests) in e)
      | inr apart ↦
          let early : l < first_in t.parts = grind (arith, nat_tests) in
          ap not (before_first t.parts l early) ∙ (let e : false ≡ nat_lt (first_in t.parts) (l + 1) = grind (arith, nat_tests) in e)
    ])

-- The logarithm of a number of passes is at most 7.
power_small : (k n j : ℕ) → n < 2 ^ suc j → greatest_power k n ≤ j
unfolding greatest_power
power_small zero n j less = omega arith
power_small (suc k) n j less = by (power_small k n j less) (nat_le (2 ^ suc k) n) refl
  where
    by : greatest_power k n ≤ j → (b : Bool) → nat_le (2 ^ suc k) n ≡ b → cond b (suc k) (greatest_power k n) ≤ j
    by rest true e =
        let low : 2 ^ suc k ≤ n = grind (arith, nat_tests) in
        elim (cases_lt j (suc k)) [
          | inl more ↦ absurd (let p : 2 ^ suc j ≤ 2 ^ suc k = pow-le-pow_right (omega arith) (omega (arith, more)) in omega (arith, p, low, less))
          | inr few ↦ few
        ]
    by rest false e = rest

pub log2_small : (n j : ℕ) → n < 2 ^ suc j → floor_log2 n ≤ j
unfolding floor_log2
log2_small n j less = power_small 31 n j less

-- The least growth makes room, and no more than must be.
pub growth_room : (lblock passes size : ℕ) → bit_length size ≤ lblock + least_growth lblock passes size + floor_log2 passes
unfolding least_growth
growth_room lblock passes size = omega arith

pub growth_least : (lblock passes size n : ℕ) → lblock ≤ n → bit_length size ≤ n → lblock + least_growth lblock passes size ≤ n
unfolding least_growth
growth_least lblock passes size n low few = omega (arith, low, few)

pub growth_width : (lblock passes size n m : ℕ) → lblock ≤ n → bit_length size ≤ n → floor_log2 passes ≤ m → lblock + least_growth lblock passes size + floor_log2 passes ≤ n + m
unfolding least_growth
growth_width lblock passes size n m low few small = omega (arith, low, few, small)

size_few : (layers planes : ℕ) (t : Table) (l : ℕ) → IsTable layers planes t → l < layers → length (part_in t l).1 < 2 ^ 25
size_few layers planes t l is within =
    let own = get_or-le-sum_by (λ (p : ℕ × List ℕ). length p.1) t.parts l (0, []) (let e = is.long in omega (arith, e, within)) in
    let all = is.size in
    omega (arith, own, all)

pub part_length : (layers planes : ℕ) (t : Table) (l : ℕ) → IsTable layers planes t → l < layers → length (part_in t l).1 < 2 ^ 25
part_length layers planes t l is within = size_few layers planes t l is within

pub lblock_few : (layers planes : ℕ) (t : Table) (l : ℕ) → IsTable layers planes t → l ≤ layers → lblock_at t l ≤ 25
lblock_few layers planes t zero is within = let e = lblock_first t in omega (arith, e)
lblock_few layers planes t (suc l) is within =
    let before = lblock_few layers planes t l is (omega (arith, within)) in
    let size = length (part_in t l).1 in
    elim (cases_Bool (nat_eq (part_in t l).0 0)) [
      | inl none ↦ (let e = lblock_kept t l none in omega (arith, e, before))
      | inr some ↦ (let e = lblock_grown t l some in
          let g = growth_least (lblock_at t l) (part_in t l).0 size 25 before (bit_length_few size 25 (size_few layers planes t l is (omega (arith, within)))) in
          omega (arith, e, g))
    ]

pub piece_narrow : (layers planes : ℕ) (t : Table) (l : ℕ) → IsTable layers planes t → l < layers → width (lblock_at t l) (piece_in t l) ≤ 32
piece_narrow layers planes t l is within =
    let size = length (part_in t l).1 in
    let few = is.few l within in
    growth_width (lblock_at t l) (part_in t l).0 size 25 7 (lblock_few layers planes t l is (omega (arith, within))) (bit_length_few size 25 (size_few layers planes t l is within)) (log2_small (part_in t l).0 7 (omega (arith, few)))

-- A piece of a table can be told.
pub piece_is : (layers planes : ℕ) (t : Table) (l : ℕ) → IsTable layers planes t → l < layers → nat_eq (part_in t l).0 0 ≡ false → IsAddition (lblock_at t l) (piece_in t l)
piece_is layers planes t l is within some =
    let size = length (part_in t l).1 in
    record {
      some = grind (arith, nat_tests);
      few = is.few l within;
      narrow = piece_narrow layers planes t l is within;
      fits = (let room = bit_length_room size in
          let wide : 2 ^ bit_length size ≤ 2 ^ width (lblock_at t l) (piece_in t l) = pow-le-pow_right (omega arith) (growth_room (lblock_at t l) (part_in t l).0 size) in
          omega (arith, room, wide));
    }
