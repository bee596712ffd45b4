-- What a reader answers at its end.
use Rattle.std.proofs.Common.{◌≡◌, ℕ, ◌+◌, ◌-◌, ◌≤◌, Bool, false, cond, List, length, take, drop, Option, Some, None, Result, Ok, Err, sym, ap, ◌∙◌, arith, add-zero}
use Rattle.std.specs.Prelude.{◌==◌, IfOk, is_some}
use Rattle.std.proofs.lemmas.List.{length-take, take-append-drop}
use Rattle.jk_math.specs.Answer.{◌>>=◌}
use Rattle.jk_math.specs.declared.fault.Fault.{Fault}
use Rattle.jk_bits.specs.Stuffing.{spread, size, Packs}
use Rattle.jk_bits.specs.Reading.{Bits, given, fault_ahead, finish_at, end_from, read_of, IsReading}
use Rattle.jk_bits.proofs.Texts.{reads_back, ReadsBack, packs_sized}

-- a reader as callers see it
abbrev pub seen : List ℕ → ℕ → ℕ → ℕ → Option Fault → Bits
seen bytes position byte left f = record { bytes = bytes; read = read_of bytes position byte left; failed = is_some f }

pub finish_failed : (bytes : List ℕ) (position byte left : ℕ) (e : Fault) → IsReading bytes position byte left (Some e) → finish_at (seen bytes position byte left (Some e)) ≡ Err e
unfolding finish_at
finish_failed bytes position byte left e i = ap Err (i.ends ∙ sym i.stuck.2)

pub finish_whole : (bytes : List ℕ) (position byte left : ℕ) → IsReading bytes position byte left None → finish_at (seen bytes position byte left None) ≡ end_from bytes position byte
unfolding finish_at
finish_whole bytes position byte left i =
    ap (λ n. size false n bytes) (sym (add-zero (read_of bytes position byte left)))
    ∙ i.sizes 0
    ∙ ap (λ n. size (byte == 255) n (drop position bytes) >>= (λ n. Ok (position + n))) (let e : 0 - left ≡ 0 = omega arith in e)

pub read_within : (bytes : List ℕ) (position byte left : ℕ) → read_of bytes position byte left ≤ length (spread false bytes)
unfolding read_of
read_within bytes position byte left = omega arith

pub found_at : (s : Bits) (r : Result ℕ Fault) → s.failed ≡ false → s.read ≤ length (spread false s.bytes) → r ≡ finish_at s → IfOk r (λ n. Packs false (given s) (take n s.bytes))
unfolding finish_at
found_at s (Ok n) whole within h = packs_sized false s.read s.bytes n within (ap (λ (t : Bool). cond t (Err (fault_ahead s)) (size false s.read s.bytes)) (sym whole) ∙ sym h)
found_at s (Err e) whole within h = tt

pub only_at : (s : Bits) (n : ℕ) → s.failed ≡ false → s.read ≤ length (spread false s.bytes) → n ≤ length s.bytes → Packs false (given s) (take n s.bytes) → finish_at s ≡ Ok n
unfolding finish_at
only_at s n whole within fits p =
    let r : ReadsBack false (given s) (take n s.bytes) (drop n s.bytes) = reads_back false (given s) (take n s.bytes) (drop n s.bytes) p in
    let count : length (given s) ≡ s.read = length-take s.read (spread false s.bytes) ∙ omega (arith, within) in
    let long : length (take n s.bytes) ≡ n = length-take n s.bytes ∙ omega (arith, fits) in
    ap (λ (t : Bool). cond t (Err (fault_ahead s)) (size false s.read s.bytes)) whole
    ∙ ap (λ k. size false k s.bytes) (sym count)
    ∙ ap (size false (length (given s))) (sym (take-append-drop n s.bytes))
    ∙ r.size_back
    ∙ ap Ok long
