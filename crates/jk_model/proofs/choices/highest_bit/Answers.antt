use Rattle.std.proofs.Common.{◌≡◌, ℕ, suc, ◌+◌, ◌*◌, ◌^◌, ◌<◌, ◌≤◌, inl, inr, arith, bit_or}
use Rattle.std.specs.Int.Count.{count_leading_zeros}
use Rattle.std.proofs.Math.Nat.{pow-succ'}
use Rattle.std.proofs.Math.Pow.{pow_mono}
use Rattle.std.proofs.lemmas.Bool.{cases_lt}
use Rattle.std.proofs.lemmas.Nat.{leading_top, or_lt, le_or_l}
use Rattle.jk_model.proofs.choices.highest_bit.Goals as goal

-- the power of two below the number is that below the number with its lowest bit set
place_of : (n r : ℕ) → 1 ≤ n → n < 2 ^ 64 → 2 ^ r ≤ bit_or n 1 → bit_or n 1 < 2 * 2 ^ r → r + count_leading_zeros 64 n ≡ 63
place_of n r some fits least most =
    let t = leading_top 64 n some fits in
    let j = t.0 in
    let all : count_leading_zeros 64 n + suc j ≡ 64 = t.1 in
    let from = t.2 in
    let below = t.3 in
    let one : 1 < 2 ^ suc j = omega (arith, below, some) in
    let under = or_lt (suc j) n 1 below one in
    let over = le_or_l n 1 in
    let double = pow-succ' 2 r in
    let same : r ≡ j = elim (cases_lt r j) [
      | inl less ↦ (let p : 2 ^ suc r ≤ 2 ^ j = pow_mono (let h : suc r ≤ j = omega (arith, less) in h) in absurd (omega (arith, p, double, most, over, from)))
      | inr more ↦ elim (cases_lt j r) [
        | inl less ↦ (let p : 2 ^ suc j ≤ 2 ^ r = pow_mono (let h : suc j ≤ r = omega (arith, less) in h) in absurd (omega (arith, p, least, under)))
        | inr few ↦ omega (arith, more, few)
      ]
    ] in
    omega (arith, all, same)

pub returns : goal.returns
returns c = record {
  place = place_of c.args.number c.ilog2.result c.requires (omega arith) c.ilog2.ensures.power_le c.ilog2.ensures.next_power_gt;
}

pub ilog2-requires : goal.ilog2-requires
ilog2-requires c =
    let over = le_or_l c.args.number 1 in
    let some = c.requires in
    omega (arith, over, some)
