-- The entries of the tables.
use Rattle.std.proofs.Common.{◌≡◌, ℕ, ◌+◌, ◌*◌, ◌/◌, ◌<◌, Bool, true, false, cond, get_or, refl, arith, List, length, ◌++◌, ap, ◌∙◌}
use Rattle.std.specs.Prelude.{nat_eq, bit_and}
use Rattle.std.proofs.lemmas.Bool.Decides.{nat_tests}
use Rattle.std.proofs.lemmas.Nat.{and_mask}
use Rattle.jk_scan.specs.declared.contexts.Contribution.{Contribution}
use Rattle.jk_scan.specs.declared.contexts.Contribution.TheVariants.{Negative, Balanced, Positive}
use Rattle.std.proofs.Math.ListN.{get_or-append}
use Rattle.std.proofs.lemmas.List.{get_or-append-add}
use Rattle.std.proofs.lemmas.List.FromFn.{get_or-map-range_with_len, length-map-range_with_len}
use Rattle.jk_math.specs.declared.orientation.Orientation.{Orientation}
use Rattle.jk_math.specs.declared.orientation.Orientation.TheVariants.{LL, HL, LH, HH}
use Rattle.jk_scan.specs.declared.contexts.SignContext.{SignContext}
use Rattle.jk_scan.specs.Bits.{on}
use Rattle.jk_scan.specs.Neighbours.{count}
use Rattle.jk_scan.specs.Contexts.{low_context_of, high_context_of, zero_context_of, sign_context_of}
use Rattle.jk_scan.specs.Tables.{zero_context_by, sign_context_by, packed, contexts_by, zero_contexts, first_of, sign_entries}

-- LH has the contexts of LL
low_alike : (i : ℕ) → zero_context_by LL i ≡ zero_context_by LH i
unfolding zero_context_by zero_context_of
low_alike i = refl

of_orientation : (orientation : Orientation) (i : ℕ) → i < 512 → get_or (contexts_by orientation) i 0 ≡ zero_context_by orientation i
unfolding contexts_by
of_orientation orientation i h = get_or-map-range_with_len (zero_context_by orientation) 0 512 i i 0 h (omega arith)

long : (orientation : Orientation) → length (contexts_by orientation) ≡ 512
unfolding contexts_by
long orientation = length-map-range_with_len (zero_context_by orientation) 0 512

first_part : (orientation : Orientation) (rest : List ℕ) (i : ℕ) → i < 512 → get_or (contexts_by orientation ++ rest) i 0 ≡ zero_context_by orientation i
first_part orientation rest i h = let l = long orientation in get_or-append (contexts_by orientation) rest 0 i (omega (arith, l)) ∙ of_orientation orientation i h

behind_part : (orientation : Orientation) (rest : List ℕ) (i j : ℕ) → j ≡ 512 + i → get_or (contexts_by orientation ++ rest) j 0 ≡ get_or rest i 0
behind_part orientation rest i j e = let l = long orientation in ap (λ n. get_or (contexts_by orientation ++ rest) n 0) (let g : j ≡ length (contexts_by orientation) + i = omega (arith, l, e) in g) ∙ get_or-append-add (contexts_by orientation) rest i 0

pub zero_entry_at : (orientation : Orientation) (i : ℕ) → i < 512 → get_or zero_contexts (first_of orientation + i) 0 ≡ zero_context_by orientation i
unfolding zero_contexts
zero_entry_at LL i h = ap (λ n. get_or (contexts_by LL ++ (contexts_by HL ++ contexts_by HH)) n 0) (let g : 0 + i ≡ i = omega arith in g) ∙ first_part LL (contexts_by HL ++ contexts_by HH) i h
zero_entry_at LH i h =
    ap (λ n. get_or (contexts_by LL ++ (contexts_by HL ++ contexts_by HH)) n 0) (let g : 0 + i ≡ i = omega arith in g) ∙ first_part LL (contexts_by HL ++ contexts_by HH) i h ∙ low_alike i
zero_entry_at HL i h = behind_part LL (contexts_by HL ++ contexts_by HH) i (512 + i) refl ∙ first_part HL (contexts_by HH) i h
zero_entry_at HH i h =
    behind_part LL (contexts_by HL ++ contexts_by HH) (512 + i) (1024 + i) (omega arith) ∙ behind_part HL (contexts_by HH) i (512 + i) refl ∙ of_orientation HH i h

pub sign_at_entry : (i : ℕ) → i < 256 → get_or sign_entries i 0 ≡ packed (sign_context_by i)
unfolding sign_entries
sign_at_entry i h = get_or-map-range_with_len (λ i. packed (sign_context_by i)) 0 256 i i 0 h (omega arith)

low_small : (h v d : ℕ) → low_context_of h v d < 9
low_small h v d = grind (arith, nat_tests)

high_small : (b d : ℕ) → high_context_of b d < 9
high_small b d = grind (arith, nat_tests)

context_small : (orientation : Orientation) (h v d : ℕ) → zero_context_of orientation h v d < 9
unfolding zero_context_of
context_small LL h v d = low_small h v d
context_small HL h v d = low_small v h d
context_small LH h v d = low_small h v d
context_small HH h v d = high_small (h + v) d

pub zero_small : (orientation : Orientation) (i : ℕ) → zero_context_by orientation i < 9
unfolding zero_context_by
zero_small orientation i = context_small orientation (count (on i 1) (on i 7)) (count (on i 3) (on i 5)) (count (on i 0) (on i 6) + count (on i 2) (on i 8))

made : ℕ → Bool → SignContext
made n f = record { context = n; flip = f }

-- a context out of its number
pub unpacked : (e : ℕ) (c : SignContext) → e ≡ packed c → (let r : SignContext = record { context = e / 2; flip = nat_eq (bit_and e 1) 1 } in r) ≡ c
unfolding made
unpacked e c h = by c.context c.flip h
  where
    by : (n : ℕ) (f : Bool) → e ≡ 2 * n + cond f 1 0 → made (e / 2) (nat_eq (bit_and e 1) 1) ≡ made n f
    by n true h = let m = and_mask e 1 in let a : e / 2 ≡ n = omega (arith, h) in let b : nat_eq (bit_and e 1) 1 ≡ true = grind (arith, nat_tests, m, h) in cc
    by n false h = let m = and_mask e 1 in let a : e / 2 ≡ n = omega (arith, h) in let b : nat_eq (bit_and e 1) 1 ≡ false = grind (arith, nat_tests, m, h) in cc

sign_below : (h v : Contribution) → (sign_context_of h v).context < 14
unfolding sign_context_of
sign_below Positive Positive = omega arith
sign_below Positive Balanced = omega arith
sign_below Positive Negative = omega arith
sign_below Balanced Positive = omega arith
sign_below Balanced Balanced = omega arith
sign_below Balanced Negative = omega arith
sign_below Negative Positive = omega arith
sign_below Negative Balanced = omega arith
sign_below Negative Negative = omega arith

pub sign_small : (e i : ℕ) → e ≡ packed (sign_context_by i) → e / 2 < 14
unfolding sign_context_by
sign_small e i h = by (sign_context_by i).flip (sign_context_by i).context h below
  where
    below : (sign_context_by i).context < 14
    below = sign_below _ _

    by : (f : Bool) (n : ℕ) → e ≡ 2 * n + cond f 1 0 → n < 14 → e / 2 < 14
    by true n h l = omega (arith, h, l)
    by false n h l = omega (arith, h, l)
