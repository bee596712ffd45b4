-- The table of moves, entry by entry.
use Rattle.std.proofs.Common.{◌≡◌, ◌∙◌, ap, sym, subst, ℕ, zero, suc, ◌+◌, ◌-◌, ◌*◌, ◌/◌, ◌%◌, ◌^◌, ◌<◌, ◌≤◌, Bool, true, false, not, ◌&&◌, cond, List, [], ◌∷◌, ◌++◌, length, get_or, refl, arith}
use Rattle.std.specs.Prelude.{◌==◌}
use Rattle.std.specs.Bool.{beq}
use Rattle.std.specs.List.{flat_map, range_with_len}
use Rattle.std.specs.Int.{w64, rotate_left}
use Rattle.std.specs.Int.Bits.{bit_or, or_zero_l}
use Rattle.std.proofs.Math.Nat.{mul-lt-mul_of_pos_right}
use Rattle.std.proofs.lemmas.Nat.{pow-add, pow_pos, mul-le, shl-shr}
use Rattle.std.proofs.lemmas.List.{get_or_append_left, get_or-append-add}
use Rattle.std.proofs.lemmas.List.FromFn.{get_or-range_with_len}
use Rattle.jk_model.specs.Contexts.{Context, row_of, moved}
use Rattle.jk_model.proofs.Rows.{row-sound}
use Rattle.jk_model.specs.Steps.{context_number, context_of, IsEntry, moves_of, contexts_of, steps}

-- an element of lists of one length that are joined
at_flat : {X A : Type 0} (f : X → List A) (w : ℕ) (d : X) (e : A) → ((x : X) → length (f x) ≡ w) → (xs : List X) (i k : ℕ) → k < w → i < length xs → get_or (flat_map f xs) (w * i + k) e ≡ get_or (f (get_or xs i d)) k e
at_flat f w d e long [] i k less within = absurd (omega (arith, within))
at_flat f w d e long (x ∷ xs) zero k less within =
    ap (λ p. get_or (f x ++ flat_map f xs) p e) (let q : w * 0 + k ≡ k = omega arith in q)
    ∙ get_or_append_left (f x) (flat_map f xs) e k (let l = long x in omega (arith, l, less))
at_flat f w d e long (x ∷ xs) (suc i) k less within =
    let at : w * suc i + k ≡ length (f x) + (w * i + k) = (let l = long x in let m : w * suc i ≡ w + w * i = grind arith in omega (arith, l, m)) in
    ap (λ p. get_or (f x ++ flat_map f xs) p e) at
    ∙ get_or-append-add (f x) (flat_map f xs) (w * i + k) e
    ∙ at_flat f w d e long xs i k less (omega (arith, within))

-- which of the contexts of a state
which : Bool → ℕ
which mps = cond mps 1 0

own_context : (state : ℕ) (mps : Bool) → get_or (contexts_of state) (which mps) (record { state = 0; mps = false }) ≡ record { state = state; mps = mps }
unfolding which
own_context state true = refl
own_context state false = refl

which_less : (mps : Bool) → which mps < 2
unfolding which
which_less true = omega arith
which_less false = omega arith

context_place : (state : ℕ) (mps : Bool) → state < 47 → get_or (flat_map contexts_of (range_with_len 0 47)) (2 * state + which mps) (record { state = 0; mps = false }) ≡ record { state = state; mps = mps }
context_place state mps less =
    at_flat contexts_of 2 0 (record { state = 0; mps = false }) (λ x. refl) (range_with_len 0 47) state (which mps) (which_less mps) less
    ∙ ap (λ s. get_or (contexts_of s) (which mps) (record { state = 0; mps = false })) (get_or-range_with_len 0 47 state 0 less ∙ (let e : 0 + state ≡ state = omega arith in e))
    ∙ own_context state mps

place_is : (state k : ℕ) (mps : Bool) → 6 * state + cond mps 3 0 + k ≡ 3 * (2 * state + which mps) + k
unfolding which
place_is state k true = omega arith
place_is state k false = omega arith

-- The row of a context in the table.
pub row_place : (state k : ℕ) (mps : Bool) → state < 47 → k < 3 → get_or steps (6 * state + cond mps 3 0 + k) 0 ≡ get_or (moves_of (record { state = state; mps = mps })) k 0
unfolding steps
row_place state k mps less small =
    ap (λ p. get_or (flat_map moves_of (flat_map contexts_of (range_with_len 0 47))) p 0) (place_is state k mps)
    ∙ at_flat moves_of 3 (record { state = 0; mps = false }) 0 (λ x. refl) (flat_map contexts_of (range_with_len 0 47)) (2 * state + which mps) k small (let w = which_less mps in omega (arith, w, less))
    ∙ ap (λ (c : Context). get_or (moves_of c) k 0) (context_place state mps less)

-- a context and its entry
low_part : (qe state : ℕ) (mps : Bool) → state < 47 → ((qe * 2 ^ 49 + (6 * state + cond mps (2 ^ 31 + 3) 0)) % 2 ^ 16 / 6 ≡ state) × (((qe * 2 ^ 49 + (6 * state + cond mps (2 ^ 31 + 3) 0)) / 2 ^ 31 % 2 == 1) ≡ mps)
low_part qe state true less = (omega (arith, less), ap (λ d. d == 1) (let e : (qe * 2 ^ 49 + (6 * state + (2 ^ 31 + 3))) / 2 ^ 31 % 2 ≡ 1 = omega (arith, less) in e))
low_part qe state false less = (omega (arith, less), ap (λ d. d == 1) (let e : (qe * 2 ^ 49 + (6 * state + 0)) / 2 ^ 31 % 2 ≡ 0 = omega (arith, less) in e))

pub context_back : (c : Context) → c.state < 47 → context_of (context_number c) ≡ c
context_back c less =
    let both = low_part (row_of c.state).qe c.state c.mps less in
    ap (λ s. record { state = s; mps = (context_of (context_number c)).mps }) both.0 ∙ ap (λ (b : Bool). record { state = c.state; mps = b }) both.1

pub entry_sound : (c : Context) → c.state < 47 → IsEntry (context_number c)
entry_sound c less = record {
  same = ap context_number (sym (context_back c less));
  state = subst (λ (x : Context). x.state < 47) (sym (context_back c less)) less;
}

moved_by : (c : Context) (same : Bool) → c.state < 47
    → (cond {A = Context} same (record { state = (row_of c.state).next_mps; mps = c.mps }) (record { state = (row_of c.state).next_lps; mps = cond (row_of c.state).switch (not c.mps) c.mps })).state < 47
moved_by c true less = (row-sound c.state less).after_mps
moved_by c false less = (row-sound c.state less).after_lps

pub moved_sound : (c : Context) (bit : Bool) → c.state < 47 → (moved c bit).state < 47
unfolding moved
moved_sound c bit less = moved_by c (beq bit c.mps) less

-- The context after a decision.
move_is : (c : Context) (moves less : Bool) → get_or (moves_of c) (cond moves 1 0 + cond (moves && less) 1 0) 0 ≡ context_number (cond moves (moved c (cond less (not c.mps) c.mps)) c)
move_is c true true = refl
move_is c true false = refl
move_is c false true = refl
move_is c false false = refl

pub move_sound : (c : Context) (moves less : Bool) → c.state < 47 → (cond moves (moved c (cond less (not c.mps) c.mps)) c).state < 47
move_sound c true less h = moved_sound c (cond less (not c.mps) c.mps) h
move_sound c false less h = h

digits_small : (moves less : Bool) → cond moves 1 0 + cond (moves && less) 1 0 < 3
digits_small true true = omega arith
digits_small true false = omega arith
digits_small false true = omega arith
digits_small false false = omega arith

-- the parts of an entry
symbol_is : (mps : Bool) → cond mps (2 ^ 31 + 3) 0 ≡ 2 ^ 31 * which mps + cond mps 3 0
unfolding which
symbol_is true = refl
symbol_is false = refl

place_small : (mps : Bool) → cond mps 3 0 ≤ 3
place_small true = omega arith
place_small false = omega arith

pub row_at : (e : ℕ) → IsEntry e → e % 2 ^ 16 ≡ 6 * (context_of e).state + cond (context_of e).mps 3 0
row_at e is =
    let c = context_of e in
    let same = is.same in
    let symbol = symbol_is c.mps in
    let place = place_small c.mps in
    let state = is.state in
    omega (arith, same, symbol, place, state)

low_end : (mps : Bool) → cond mps (2 ^ 31 + 3) 0 < 2 ^ 31 + 4
low_end true = omega arith
low_end false = omega arith

pub size_of : (e : ℕ) → IsEntry e → e / 2 ^ 49 ≡ (row_of (context_of e).state).qe
size_of e is =
    let c = context_of e in
    let same = is.same in
    let low = low_end c.mps in
    let state = is.state in
    omega (arith, same, low, state)

pub size_sound : (e : ℕ) → IsEntry e → (1 ≤ (row_of (context_of e).state).qe) × ((row_of (context_of e).state).qe ≤ 0x5601)
size_sound e is = let sound = row-sound (context_of e).state is.state in (sound.smallest, sound.largest)

-- Qe, moved so that it stands below a place
high_of : (q low : ℕ) → q < 2 ^ 15 → low < 2 ^ 32 → (q * 2 ^ 49 + low) / 2 ^ 32 * 2 ^ 32 % 2 ^ 64 ≡ q * 2 ^ 49
high_of q low fits small = omega (arith, fits, small)

turned : (q top : ℕ) → q < 2 ^ 15 → 15 ≤ top → top < 64 → rotate_left w64 (q * 2 ^ 49) top ≡ q * 2 ^ (top - 15)
turned q top fits least most =
    let n = q * 2 ^ 49 in
    let x = q * 2 ^ (top - 15) in
    let own : top % 64 ≡ top = omega (arith, most) in
    let other : (64 - top % 64) % 64 ≡ 64 - top = omega (arith, own, least, most) in
    let whole : n * 2 ^ top ≡ x * 2 ^ 64 =
    (let split = pow-add 2 (top - 15) 15 in
    let all = ap (λ k. 2 ^ k) (let e : top - 15 + 15 ≡ top = omega (arith, least) in e) in
    let power : 2 ^ top ≡ 2 ^ (top - 15) * 2 ^ 15 = sym all ∙ split in
    ap (λ p. q * 2 ^ 49 * p) power ∙ grind arith) in
    let left : n * 2 ^ (top % 64) % 2 ^ 64 ≡ 0 = ap (λ k. n * 2 ^ k % 2 ^ 64) own ∙ ap (λ k. k % 2 ^ 64) whole ∙ omega arith in
    let parts : n ≡ x * 2 ^ (64 - top) =
    (let split = pow-add 2 (top - 15) (64 - top) in
    let all = ap (λ k. 2 ^ k) (let e : top - 15 + (64 - top) ≡ 49 = omega (arith, least, most) in e) in
    let power : 2 ^ 49 ≡ 2 ^ (top - 15) * 2 ^ (64 - top) = sym all ∙ split in
    ap (λ p. q * p) power ∙ grind arith) in
    let right : n / 2 ^ ((64 - top % 64) % 64) ≡ x = ap (λ k. n / 2 ^ k) other ∙ ap (λ m. m / 2 ^ (64 - top)) parts ∙ shl-shr x (64 - top) in
    ap (λ m. bit_or m (n / 2 ^ ((64 - top % 64) % 64))) left ∙ or_zero_l (n / 2 ^ ((64 - top % 64) % 64)) ∙ right

pub scaled_is : (e top : ℕ) → IsEntry e → 15 ≤ top → top < 64 → rotate_left w64 (e / 2 ^ 32 * 2 ^ 32 % 2 ^ 64) top ≡ (row_of (context_of e).state).qe * 2 ^ (top - 15)
scaled_is e top is least most =
    let c = context_of e in
    let q = (row_of c.state).qe in
    let low = 6 * c.state + cond c.mps (2 ^ 31 + 3) 0 in
    let largest = (size_sound e is).1 in
    let fits : q < 2 ^ 15 = omega (arith, largest) in
    let small : low < 2 ^ 32 = (let end = low_end c.mps in let state = is.state in omega (arith, end, state)) in
    ap (λ x. rotate_left w64 (x / 2 ^ 32 * 2 ^ 32 % 2 ^ 64) top) is.same
    ∙ ap (λ x. rotate_left w64 x top) (high_of q low fits small)
    ∙ turned q top fits least most

pub scaled_sound : (q top : ℕ) → 1 ≤ q → q ≤ 0x5601 → 15 ≤ top → (1 ≤ q * 2 ^ (top - 15)) × (q * 2 ^ (top - 15) < 2 ^ top)
scaled_sound q top some most least =
    let one = pow_pos (top - 15) in
    let up = mul-le 1 (2 ^ (top - 15)) q (2 ^ (top - 15)) some (omega arith) in
    let below = mul-lt-mul_of_pos_right (let e : q < 2 ^ 15 = omega (arith, most) in e) (pow_pos (top - 15)) in
    let all : 2 ^ 15 * 2 ^ (top - 15) ≡ 2 ^ top = sym (pow-add 2 15 (top - 15)) ∙ ap (λ k. 2 ^ k) (let e : 15 + (top - 15) ≡ top = omega (arith, least) in e) in
    (omega (arith, one, up), omega (arith, below, all))

-- the first context of a state
pub new_is : (state : ℕ) → state < 47 → get_or steps (6 * state) 0 ≡ context_number (record { state = state; mps = false })
new_is state less =
    ap (λ p. get_or steps p 0) (let e : 6 * state ≡ 6 * state + 0 + 0 = omega arith in e) ∙ row_place state 0 false less (omega arith)

-- an entry of the row
pub in_row : (e k : ℕ) → IsEntry e → k < 3 → get_or steps (e % 2 ^ 16 + k) 0 ≡ get_or (moves_of (context_of e)) k 0
in_row e k is small =
    let c = context_of e in
    ap (λ p. get_or steps (p + k) 0) (row_at e is) ∙ row_place c.state k c.mps is.state small

pub row_end : (e k : ℕ) → IsEntry e → k < 3 → e % 2 ^ 16 + k < 282
row_end e k is small =
    let at = row_at e is in
    let place = place_small (context_of e).mps in
    let state = is.state in
    omega (arith, at, place, state, small)

pub after_is : (e : ℕ) (moves less : Bool) → IsEntry e
    → get_or steps (e % 2 ^ 16 + cond moves 1 0 + cond (moves && less) 1 0) 0 ≡ context_number (cond moves (moved (context_of e) (cond less (not (context_of e).mps) (context_of e).mps)) (context_of e))
after_is e moves less is =
    let k = cond moves 1 0 + cond (moves && less) 1 0 in
    let at : e % 2 ^ 16 + cond moves 1 0 + cond (moves && less) 1 0 ≡ e % 2 ^ 16 + k = omega arith in
    ap (λ p. get_or steps p 0) at ∙ in_row e k is (digits_small moves less) ∙ move_is (context_of e) moves less

pub after_end : (e : ℕ) (moves less : Bool) → IsEntry e → e % 2 ^ 16 + cond moves 1 0 + cond (moves && less) 1 0 < 282
after_end e moves less is =
    let end = row_end e (cond moves 1 0 + cond (moves && less) 1 0) is (digits_small moves less) in
    omega (arith, end)

-- the place in the row, where `wide` is 0 or 1
follow_is : (c : Context) (less : Bool) (wide : ℕ) → wide ≤ 1 → (less ≡ true → wide ≡ 0) → get_or (moves_of c) (1 + cond less 1 0 - wide) 0 ≡ context_number (cond (wide == 0) (moved c (cond less (not c.mps) c.mps)) c)
follow_is c true zero digit narrow = refl
follow_is c false zero digit narrow = refl
follow_is c true (suc zero) digit narrow = absurd (let e = narrow refl in omega (arith, e))
follow_is c false (suc zero) digit narrow = refl
follow_is c less (suc (suc n)) digit narrow = absurd (omega (arith, digit))

one_of : (t : Bool) (x y : Context) → x.state < 47 → y.state < 47 → (cond t x y).state < 47
one_of true x y h k = h
one_of false x y h k = k

pub follow_sound : (c : Context) (less : Bool) (wide : ℕ) → c.state < 47 → (cond (wide == 0) (moved c (cond less (not c.mps) c.mps)) c).state < 47
follow_sound c less wide h = one_of (wide == 0) (moved c (cond less (not c.mps) c.mps)) c (moved_sound c (cond less (not c.mps) c.mps) h) h

follow_small : (less : Bool) (wide : ℕ) → 1 + cond less 1 0 - wide < 3
follow_small true wide = omega arith
follow_small false wide = omega arith

pub followed_is : (e : ℕ) (less : Bool) (wide : ℕ) → IsEntry e → wide ≤ 1 → (less ≡ true → wide ≡ 0)
    → get_or steps (e % 2 ^ 16 + 1 + cond less 1 0 - wide) 0 ≡ context_number (cond (wide == 0) (moved (context_of e) (cond less (not (context_of e).mps) (context_of e).mps)) (context_of e))
followed_is e less wide is digit narrow =
    let k = 1 + cond less 1 0 - wide in
    let at : e % 2 ^ 16 + 1 + cond less 1 0 - wide ≡ e % 2 ^ 16 + k = omega (arith, digit) in
    ap (λ p. get_or steps p 0) at ∙ in_row e k is (follow_small less wide) ∙ follow_is (context_of e) less wide digit narrow

pub followed_end : (e : ℕ) (less : Bool) (wide : ℕ) → IsEntry e → wide ≤ 1 → e % 2 ^ 16 + 1 + cond less 1 0 - wide < 282
followed_end e less wide is digit =
    let end = row_end e (1 + cond less 1 0 - wide) is (follow_small less wide) in
    omega (arith, end, digit)
