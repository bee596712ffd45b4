-- Decisions that are listed, as the definitions say them.
use Rattle.std.proofs.Common.{◌≡◌, ℕ, zero, suc, ◌+◌, ◌-◌, ◌*◌, ◌/◌, Bool, true, false, cond, [], ◌∷◌, ◌++◌, refl, sym, ap, ◌∙◌, append_assoc, arith}
use Rattle.std.specs.Prelude.{◌&&◌, ◌||◌, nat_eq, nat_le}
use Rattle.std.proofs.lemmas.Bool.Decides.{nat_tests}
use Rattle.std.proofs.lemmas.List.{append-nil}
use Rattle.jk_scan.specs.declared.shape.BlockShape.{BlockShape}
use Rattle.jk_scan.specs.declared.contexts.SignContext.{SignContext}
use Rattle.jk_scan.specs.Contexts.{refine_context_of, run_length, uniform}
use Rattle.jk_scan.specs.Neighbours.{is_inside, sign_in, touched_in}
use Rattle.jk_scan.specs.Moments.{number, visits, pass_of, is_coded, significant}
use Rattle.jk_scan.specs.Passes.{BlockAtPlane, Decided, is_one, flipped, joined, sign_decision, new_decisions, refining_decision, own_decisions, place_decisions, rows_decisions, run_decisions, column_decisions, plane_decisions}
use Rattle.std.specs.Int.{is_negative}
use Rattle.jk_scan.proofs.Laws.{sign_alike, significant_is}
use Rattle.jk_block.specs.Meaning.{plane_at, value_in}
use Rattle.jk_block.proofs.Whole.{plane_outside}
use Rattle.jk_block.specs.encoding.Viewed.{seen, significant_at, negative_in, run_head}
use Rattle.jk_block.specs.declared.encoding.plane.BlockPlane.{BlockPlane}

pub sign_is : (v : BlockPlane) (t x y : ℕ) (c : SignContext) (n f : Bool) → c ≡ sign_in v.shape (significant_at v t) (negative_in v) x y → n ≡ (seen v).negative x y → f ≡ flipped c.flip n
    → (c.context, f) ≡ sign_decision v.shape (seen v) t x y
unfolding plane_at
sign_is v t x y c n f e g h =
    let p = seen v in
    ap (λ (f : Bool). (c.context, f)) (h ∙ ap (flipped c.flip) g)
    ∙ ap (λ (c : SignContext). (c.context, flipped c.flip (p.negative x y))) (e ∙ sign_alike v.shape (significant_at v t) (significant_at v t) (negative_in v) p.negative x y (λ u w. refl) (λ u w l. ap (λ b. b && is_negative (value_in v.shape v.values.now u w)) (inside u w l (is_inside v.shape u w) refl)))
  where
    none : (a : ℕ) (c : Bool) → a ≡ 0 → (nat_le 2 a || (nat_eq a 1 && c)) ≡ false
    none a c e = grind (arith, nat_tests)

    inside : (u w : ℕ) → significant_at v t u w ≡ true → (b : Bool) → is_inside v.shape u w ≡ b → is_inside v.shape u w ≡ true
    inside u w l true e = e
    inside u w l false e =
        let c : true ≡ false = sym l ∙ significant_is v.shape (seen v).magnitude t u w ∙ none ((seen v).magnitude u w) (is_coded v.shape (seen v).magnitude t u w) (plane_outside v.shape v.plane (value_in v.shape v.values.now) u w e) in
        absurd cc

pub next_is : (s : BlockShape) (p : BlockAtPlane) (t x y cx : ℕ) (refined u bit : Bool) → refined ≡ nat_le 4 (p.magnitude x y) → u ≡ touched_in s (significant s p.magnitude t) x y → cx ≡ refine_context_of refined u → bit ≡ is_one (p.magnitude x y)
    → (cx, bit) ≡ refining_decision s p t x y
unfolding refining_decision
next_is s p t x y cx refined u bit r e c b =
    ap (λ (b : Bool). (cx, b)) b ∙ ap (λ (c : ℕ). (c, is_one (p.magnitude x y))) (c ∙ ap (λ (r : Bool). refine_context_of r u) r ∙ ap (refine_context_of (nat_le 4 (p.magnitude x y))) e)

-- the decisions of a place in a pass
pub place_none : (s : BlockShape) (p : BlockAtPlane) (pass x y : ℕ) → (is_inside s x y && nat_eq (pass_of s p.magnitude x y) pass) ≡ false → place_decisions s p pass x y ≡ []
unfolding place_decisions
place_none s p pass x y h = ap (λ b. cond b (own_decisions s p pass (pass * visits s + number s.width x y) x y) []) h

pub place_next : (s : BlockShape) (p : BlockAtPlane) (pass x y t : ℕ) → (is_inside s x y && nat_eq (pass_of s p.magnitude x y) pass) ≡ true → t ≡ pass * visits s + number s.width x y → pass ≡ 1 → place_decisions s p pass x y ≡ refining_decision s p t x y ∷ []
unfolding place_decisions
place_next s p pass x y t h e one =
    ap (λ b. cond b (own_decisions s p pass (pass * visits s + number s.width x y) x y) []) h ∙ ap (λ t. own_decisions s p pass t x y) (sym e) ∙ ap (λ n. own_decisions s p n t x y) one

pub place_new : (s : BlockShape) (p : BlockAtPlane) (pass x y t : ℕ) → (is_inside s x y && nat_eq (pass_of s p.magnitude x y) pass) ≡ true → t ≡ pass * visits s + number s.width x y → (pass ≡ 1 → ⊥) → place_decisions s p pass x y ≡ new_decisions s p t x y
unfolding place_decisions
place_new s p pass x y t h e other = ap (λ b. cond b (own_decisions s p pass (pass * visits s + number s.width x y) x y) []) h ∙ ap (λ t. own_decisions s p pass t x y) (sym e) ∙ by pass other
  where
    by : (n : ℕ) → (n ≡ 1 → ⊥) → own_decisions s p n t x y ≡ new_decisions s p t x y
    by zero h = refl
    by (suc zero) h = absurd (h refl)
    by (suc (suc n)) h = refl

-- one list more
pub joined_none : (part : ℕ → Decided) (old : Decided) → old ≡ old ++ joined 0 part
unfolding joined
joined_none part old = sym (append-nil old)

pub joined_more : (n : ℕ) (part : ℕ → Decided) (old before after : Decided) → before ≡ old ++ joined n part → after ≡ before ++ part n → after ≡ old ++ joined (n + 1) part
unfolding joined
joined_more n part old before after e h =
    h ∙ ap (λ (ds : Decided). ds ++ part n) e ∙ append_assoc old (joined n part) (part n) ∙ ap (λ k. old ++ joined k part) (let one : suc n ≡ n + 1 = omega arith in one)

-- a column in run mode, up to its first row with the bit 1
pub head_none : (s : BlockShape) (p : BlockAtPlane) (t x i f : ℕ) → f ≡ 4 → run_head s p t x i f ≡ ((run_length, false) ∷ [])
unfolding run_head
head_none s p t x i f e =
    ap (λ b. cond b ((run_length, false) ∷ []) ((run_length, true) ∷ (uniform, nat_le 2 f) ∷ (uniform, is_one f) ∷ sign_decision s p t x (4 * i + f) ∷ [])) (let g : nat_eq f 4 ≡ true = grind (arith, nat_tests) in g)

pub head_some : (s : BlockShape) (p : BlockAtPlane) (t x i f : ℕ) (l0 l1 l2 l3 l4 : Decided) → (f ≡ 4 → ⊥)
    → l1 ≡ l0 ++ (run_length, true) ∷ [] → l2 ≡ l1 ++ (uniform, nat_le 2 f) ∷ [] → l3 ≡ l2 ++ (uniform, is_one f) ∷ [] → l4 ≡ l3 ++ sign_decision s p t x (4 * i + f) ∷ []
    → l4 ≡ l0 ++ run_head s p t x i f
unfolding run_head
head_some s p t x i f l0 l1 l2 l3 l4 h e1 e2 e3 e4 =
    e4 ∙ ap (λ (l : Decided). l ++ sign_decision s p t x (4 * i + f) ∷ []) (e3 ∙ ap (λ (l : Decided). l ++ (uniform, is_one f) ∷ []) (e2 ∙ ap (λ (l : Decided). l ++ (uniform, nat_le 2 f) ∷ []) e1))
    ∙ four l0 (run_length, true) (uniform, nat_le 2 f) (uniform, is_one f) (sign_decision s p t x (4 * i + f))
    ∙ ap (λ b. l0 ++ cond b ((run_length, false) ∷ []) ((run_length, true) ∷ (uniform, nat_le 2 f) ∷ (uniform, is_one f) ∷ sign_decision s p t x (4 * i + f) ∷ []))
    (let g : false ≡ nat_eq f 4 = grind (arith, nat_tests) in g)
  where
    four : (l : Decided) (a b c d : ℕ × Bool) → (((l ++ a ∷ []) ++ b ∷ []) ++ c ∷ []) ++ d ∷ [] ≡ l ++ (a ∷ b ∷ c ∷ d ∷ [])
    four l a b c d = simp append_assoc

-- and the rows behind it
pub run_is : (s : BlockShape) (p : BlockAtPlane) (t x i f : ℕ) → (nat_eq f 4 ≡ false → t ≡ 2 * visits s + number s.width x (4 * i + f)) → run_decisions s p x i f ≡ run_head s p t x i f ++ rows_decisions s p 2 x i (f + 1) (3 - f)
unfolding run_decisions run_head joined
run_is s p t x i f e = by (nat_eq f 4) refl
  where
    by : (b : Bool) → nat_eq f 4 ≡ b
        → cond b ((run_length, false) ∷ []) (((run_length, true) ∷ (uniform, nat_le 2 f) ∷ (uniform, is_one f) ∷ sign_decision s p (2 * visits s + number s.width x (4 * i + f)) x (4 * i + f) ∷ []) ++ rows_decisions s p 2 x i (f + 1) (3 - f))
        ≡ cond b ((run_length, false) ∷ []) ((run_length, true) ∷ (uniform, nat_le 2 f) ∷ (uniform, is_one f) ∷ sign_decision s p t x (4 * i + f) ∷ []) ++ rows_decisions s p 2 x i (f + 1) (3 - f)
    by true h = ap (λ n. ((run_length, false) ∷ []) ++ rows_decisions s p 2 x i (f + 1) n) (let g : 0 ≡ 3 - f = grind (arith, nat_tests) in g)
    by false h = ap (λ t. ((run_length, true) ∷ (uniform, nat_le 2 f) ∷ (uniform, is_one f) ∷ sign_decision s p t x (4 * i + f) ∷ []) ++ rows_decisions s p 2 x i (f + 1) (3 - f)) (sym (e h))

-- a pass
pub pass_joined : (s : BlockShape) (p : BlockAtPlane) (pass n : ℕ) (old new : Decided) → n ≡ (s.height + 3) / 4 → new ≡ old ++ joined n (λ i. joined s.width (λ x. column_decisions s p pass x i)) → new ≡ old ++ plane_decisions s p pass
unfolding plane_decisions
pass_joined s p pass n old new e h = h ∙ ap (λ n. old ++ joined n (λ i. joined s.width (λ x. column_decisions s p pass x i))) e
