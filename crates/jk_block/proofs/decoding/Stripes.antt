-- A stripe word by word is a stripe column by column.
use Rattle.std.proofs.Common.{◌≡◌, ℕ, zero, suc, ◌+◌, ◌-◌, ◌*◌, ◌/◌, ◌<◌, true, false, cond, List, Result, Ok, Err, refl, sym, ap, ◌∙◌, arith}
use Rattle.std.specs.Prelude.{nat_lt}
use Rattle.std.proofs.lemmas.Bool.Decides.{nat_tests}
use Rattle.jk_math.specs.declared.fault.Fault.{Fault}
use Rattle.jk_math.specs.Answer.{◌>>=◌}
use Rattle.jk_math.specs.Steps.{done}
use Rattle.jk_scan.specs.declared.shape.BlockShape.{BlockShape}
use Rattle.jk_scan.specs.Flags.{across}
use Rattle.jk_block.specs.Reading.{Progress, times, column_at, stripe_at}
use Rattle.jk_block.specs.Steps.{word_column, word_pass}
use Rattle.jk_block.proofs.decoding.Rests.{times_same, times_parts}

-- a column, if the block has it
guarded : List ℕ → BlockShape → (b pass i x : ℕ) → Progress → Result Progress Fault
guarded bytes s b pass i x z = cond (nat_lt x s.width) (column_at bytes s b pass x i z) (done z)

words_are : (bytes : List ℕ) (s : BlockShape) (b pass i m : ℕ) (z : Progress) → times m (λ j. word_pass bytes s b pass j i) z ≡ times (8 * m) (guarded bytes s b pass i) z
unfolding times word_pass word_column guarded
words_are bytes s b pass i zero z = refl
words_are bytes s b pass i (suc m) z =
    ap (λ (r : Result Progress Fault). r >>= word_pass bytes s b pass m i) (words_are bytes s b pass i m z)
    ∙ sym (times_parts (8 * m) 8 (guarded bytes s b pass i) z)
    ∙ ap (λ n. times n (guarded bytes s b pass i) z) (let e : 8 * m + 8 ≡ 8 * suc m = omega arith in e)

past : (bytes : List ℕ) (s : BlockShape) (b pass i d : ℕ) (z : Progress) → times d (λ k. guarded bytes s b pass i (s.width + k)) z ≡ Ok z
unfolding times guarded
past bytes s b pass i zero z = refl
past bytes s b pass i (suc d) z =
    ap (λ (r : Result Progress Fault). r >>= guarded bytes s b pass i (s.width + d)) (past bytes s b pass i d z)
    ∙ ap (λ q. cond q (column_at bytes s b pass (s.width + d) i z) (done z)) (let e : nat_lt (s.width + d) s.width ≡ false = grind (arith, nat_tests) in e)

within : (bytes : List ℕ) (s : BlockShape) (b pass i x : ℕ) (z : Progress) → x < s.width → guarded bytes s b pass i x z ≡ column_at bytes s b pass x i z
unfolding guarded
within bytes s b pass i x z h = ap (λ q. cond q (column_at bytes s b pass x i z) (done z)) (let e : nat_lt x s.width ≡ true = grind (arith, nat_tests) in e)

bind_done : (r : Result Progress Fault) (f : Progress → Result Progress Fault) → ((w : Progress) → f w ≡ Ok w) → (r >>= f) ≡ r
bind_done (Ok w) f h = h w
bind_done (Err e) f h = refl

pub stripe_is : (bytes : List ℕ) (s : BlockShape) (b pass i : ℕ) (z : Progress) → times (across s) (λ j. word_pass bytes s b pass j i) z ≡ stripe_at bytes s b pass i z
unfolding stripe_at
stripe_is bytes s b pass i z =
    words_are bytes s b pass i (across s) z
    ∙ ap (λ n. times n (guarded bytes s b pass i) z) (let e : 8 * ((s.width + 7) / 8) ≡ s.width + (8 * ((s.width + 7) / 8) - s.width) = omega arith in e)
    ∙ times_parts s.width (8 * ((s.width + 7) / 8) - s.width) (guarded bytes s b pass i) z
    ∙ bind_done (times s.width (guarded bytes s b pass i) z) (times (8 * ((s.width + 7) / 8) - s.width) (λ k. guarded bytes s b pass i (s.width + k))) (past bytes s b pass i (8 * ((s.width + 7) / 8) - s.width))
    ∙ times_same s.width (guarded bytes s b pass i) (λ x. column_at bytes s b pass x i) z (λ x h w. within bytes s b pass i x w h)
