-- The atomic steps of the encoder keep the invariant.
use Rattle.std.proofs.Common.{◌≡◌, ◌∙◌, ap, sym, ℕ, suc, ◌+◌, ◌-◌, ◌*◌, ◌^◌, ◌<◌, ◌≤◌, List, [], ◌∷◌, refl, arith}
use Rattle.std.proofs.Math.Nat.{pow-succ'}
use Rattle.jk_model.specs.Decisions.{State, initial, doubled}
use Rattle.jk_model.specs.Placed.{placed_number}
use Rattle.jk_mqenc.specs.Machine.{Machine, unit, HasRoom, HoldsInterval}

-- ---- the unit

pub unit-is : (c : ℕ) → unit c ≡ 2 ^ (27 - c)
unfolding unit
unit-is c = refl

pub unit-zero : unit 0 ≡ 134217728
unit-zero = unit-is 0

pub unit-seven : unit 7 ≡ 1048576
unit-seven = unit-is 7

pub unit-eight : unit 8 ≡ 524288
unit-eight = unit-is 8

pub unit-double : (c : ℕ) → c < 27 → unit c ≡ 2 * unit (c + 1)
unit-double c h =
    let e : 27 - c ≡ suc (27 - (c + 1)) = omega arith in
    unit-is c ∙ ap (λ x. 2 ^ x) e ∙ pow-succ' 2 (27 - (c + 1)) ∙ ap (λ x. 2 * x) (sym (unit-is (c + 1)))

-- ---- E1: the start

abbrev pub started : Machine
started = record { code = 0; width = 2 ^ 15; count = 12; placed = [] }

unit-twelve : unit 12 ≡ 32768
unit-twelve = unit-is 12

pub holds-started : HoldsInterval started initial
holds-started = record {
  low = omega arith;
  clock = omega arith;
  count = omega arith;
  width = refl;
  positive = omega arith;
  largest = omega arith;
  room = omega (arith, unit-twelve);
  above = omega (arith, unit-twelve);
  clean = tt;
}

-- ---- E2: narrow

room-less : (bs : List ℕ) (u x y : ℕ) → y ≤ x → HasRoom bs u x → HasRoom bs u y
room-less [] u x y h r = omega arith
room-less (b ∷ o) u x y h r = λ t. let k = r t in omega arith

pub narrow : (m : Machine) (s : State) (x a : ℕ) → 1 ≤ a → x + a ≤ m.width → HoldsInterval m s → HoldsInterval (record m { code = m.code + x; width = a }) (record s { low = s.low + x; width = a })
narrow m s x a h k i = record {
  low = omega (arith, i.low);
  clock = i.clock;
  count = i.count;
  width = refl;
  positive = h;
  largest = omega (arith, i.largest);
  room = omega (arith, i.room);
  above = room-less m.placed (unit m.count) (m.code + m.width) (m.code + x + a) (omega arith) i.above;
  clean = i.clean;
}

-- ---- E3: double, before a byte is placed

twice : (a u v : ℕ) → v ≡ 2 * u → a * v ≡ 2 * (a * u)
twice a u v h = ap (λ x. a * x) h ∙ grind arith

room-twice : (bs : List ℕ) (u v x y : ℕ) → v ≡ 2 * u → y ≡ 2 * x → HasRoom bs u x → HasRoom bs v y
room-twice [] u v x y h k r = omega arith
room-twice (b ∷ o) u v x y h k r = λ t. omega (arith, r t, twice b u v h)

pub double : (m : Machine) (s : State) (c : ℕ) → m.count ≡ c + 1 → m.width < 2 ^ 15 → HoldsInterval m s → HoldsInterval (record m { code = 2 * m.code; width = 2 * m.width; count = c }) (doubled s)
double m s c h k i =
    let u : unit c ≡ 2 * unit m.count = unit-double c (omega (arith, i.count)) ∙ ap (λ x. 2 * unit x) (sym h) in
    record {
      low = omega (arith, i.low, twice (placed_number m.placed) (unit m.count) (unit c) u);
      clock = omega (arith, i.clock);
      count = omega (arith, i.count);
      width = omega (arith, i.width);
      positive = omega (arith, i.positive);
      largest = omega arith;
      room = omega (arith, i.room);
      above = room-twice m.placed (unit m.count) (unit c) (m.code + m.width) (2 * m.code + 2 * m.width) u (omega arith) i.above;
      clean = i.clean;
    }
