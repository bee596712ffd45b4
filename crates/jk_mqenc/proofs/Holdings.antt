-- The bytes of the code against the pure functions.
use Rattle.std.proofs.Common.{◌≡◌, ◌∙◌, ap, sym, subst, refl, ℕ, ◌+◌, ◌-◌, ◌^◌, ◌<◌, Bool, cond, List, [], ◌∷◌, ◌++◌, reverse, Option, Some, None, arith}
use Rattle.std.proofs.lemmas.Bool.{ne_eqb}
use Rattle.std.proofs.lemmas.Nat.{pow_below}
use Rattle.std.proofs.lemmas.List.{reverse-append}
use Rattle.jk_model.specs.Decisions.{State}
use Rattle.jk_mqenc.specs.Machine.{Machine, HoldsInterval, HasRoom, unit, byte_out, placed_after}
use Rattle.jk_mqenc.specs.Holding.{placed_of, IsBegun, before}
use Rattle.jk_mqenc.specs.Coding.{shifted, twice}
use Rattle.jk_mqenc.proofs.Machine.{unit-is, unit-zero}
use Rattle.jk_mqenc.proofs.Placements.{made_of}
use Rattle.jk_mqenc.proofs.AtomicSteps.{twice-is}

before-placed : (items : List ℕ) (held : Option ℕ) → placed_of items held ≡ before held (reverse items)
before-placed items None = refl
before-placed items (Some b) = refl

pub byte_out-is : (m : Machine) → byte_out m ≡ placed_after m.placed m.code m.width
unfolding byte_out
byte_out-is m = refl

pub pushed-items : (items new : List ℕ) (out : Option ℕ) (b : ℕ) → out ≡ Some b → new ≡ items ++ b ∷ [] → reverse new ≡ before out (reverse items)
pushed-items items new out b h k =
    ap (λ (x : List ℕ). reverse x) k ∙ reverse-append items (b ∷ []) ∙ sym (ap (λ (x : Option ℕ). before x (reverse items)) h)

pub kept-items : (items new : List ℕ) (out : Option ℕ) → out ≡ None → new ≡ items → items ≡ [] → reverse new ≡ before out (reverse items)
kept-items items new out h k e =
    ap (λ (x : List ℕ). reverse x) (k ∙ e) ∙ sym (ap (λ (x : Option ℕ). before x (reverse items)) h)

pub none-begun : (items : List ℕ) (held : Option ℕ) → held ≡ None → IsBegun items held → items ≡ []
none-begun items None h k = k
none-begun items (Some b) h k = absurd (cc)

pub placed-more : (items new bs : List ℕ) (held out : Option ℕ) (code byte c n : ℕ) → placed_of items held ≡ bs → ((o : List ℕ) (w : ℕ) → placed_after (before held o) code w ≡ made_of byte c n (before out o) w) → reverse new ≡ before out (reverse items) → (w : ℕ) → placed_after bs code w ≡ made_of byte c n (reverse new) w
placed-more items new bs held out code byte c n v p e w =
    ap (λ (x : List ℕ). placed_after x code w) (sym v ∙ before-placed items held) ∙ p (reverse items) w ∙ sym (ap (λ (x : List ℕ). made_of byte c n x w) e)

-- ---- doublings

abbrev pub IsHeld : Machine → Type 0
IsHeld m = (s : State) × HoldsInterval m s

pub held-bound : (m : Machine) → IsHeld m → m.code + m.width < 2 ^ 29
held-bound m h =
    let i = h.1 in
    omega (arith, i.room, unit-is m.count, pow_below (27 - m.count) 28 (omega arith))

pub held-room : (m : Machine) → m.count ≡ 0 → IsHeld m → m.code < 150994944
held-room m z h =
    let i = h.1 in
    omega (arith, i.room, i.positive, ap (λ c. unit c) z, unit-zero)

first-room : (m : Machine) (bs : List ℕ) → m.placed ≡ bs → bs ≡ [] → m.count ≡ 0 → IsHeld m → m.code < 134217728
first-room m bs p e z h =
    let i = h.1 in
    let r = subst (λ (x : List ℕ). HasRoom x (unit m.count) (m.code + m.width)) (p ∙ e) i.above in
    omega (arith, r, i.positive, ap (λ c. unit c) z, unit-zero)

pub held-first : (m : Machine) → m.count ≡ 0 → IsHeld m → m.placed ≡ [] → m.code < 134217728
held-first m z h e = first-room m m.placed refl e z h

pub twice-more : (m : Machine) → (m.count ≡ 1 → ⊥) → twice m ≡ shifted m
twice-more m n = twice-is m ∙ ap (λ (t : Bool). cond t (byte_out (shifted m)) (shifted m)) (ne_eqb m.count 1 n)
