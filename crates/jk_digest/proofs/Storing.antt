-- Words beside each other, one of each block, are put behind those before them.
use Rattle.std.proofs.Common.{◌≡◌, ℕ, zero, suc, ◌+◌, ◌-◌, ◌*◌, ◌<◌, ◌≤◌, ◌⊎◌, inl, inr, List, [], ◌∷◌, length, get_or, sym, ap, ◌∙◌, arith}
use lib.Lanes.{put_chunk}
use Rattle.std.proofs.lemmas.Simd.{get_or-put_chunk_at, get_or-put_chunk_below}
use Rattle.std.proofs.lemmas.Bool.{cases_lt}
use Rattle.sha2.specs.Sha256.{schedule, word_at, add32, small_sigma0, small_sigma1}
use Rattle.jk_digest.specs.Schedules.{HasWords, one_of}
use Rattle.sha2.proofs.Schedule256.{slice_index-schedule_first, slice_index-schedule_next}

-- a place is that of one word of one block
pub stored : (p : ℕ → List ℕ) (ws each : List ℕ) (t : ℕ) → length ws ≡ 256 → length each ≡ 4 → t < 64 → HasWords p ws t
    → ((k : ℕ) → k < 4 → get_or each k 0 ≡ get_or (schedule (p k) 48) t 0) → HasWords p (put_chunk (4 * t) ws each) (t + 1)
stored p ws each t all four low old new s k within side = by (cases_lt s t)
  where
    by : (s < t) ⊎ (t ≤ s) → get_or (put_chunk (4 * t) ws each) (4 * s + k) 0 ≡ get_or (schedule (p k) 48) s 0
    by (inl before) = get_or-put_chunk_below (4 * t) ws each (4 * s + k) 0 (omega arith) ∙ old s k before side
    by (inr behind) =
        let here : s ≡ t = omega arith in
        ap (λ n. get_or (put_chunk (4 * t) ws each) (4 * n + k) 0) here
        ∙ get_or-put_chunk_at (4 * t) ws each k 0 (omega arith) (omega arith) ∙ new k side ∙ ap (λ n. get_or (schedule (p k) 48) n 0) (sym here)

-- what is made of four words before is the word of the schedule
pub made_next : (p : ℕ → List ℕ) (ws each : List ℕ) (t : ℕ) → 16 ≤ t → t < 64 → HasWords p ws t
    → ((k : ℕ) → k < 4 → get_or each k 0 ≡ add32 (add32 (add32 (small_sigma1 (get_or ws (4 * (t - 2) + k) 0)) (get_or ws (4 * (t - 7) + k) 0)) (small_sigma0 (get_or ws (4 * (t - 15) + k) 0))) (get_or ws (4 * (t - 16) + k) 0))
    → (k : ℕ) → k < 4 → get_or each k 0 ≡ get_or (schedule (p k) 48) t 0
made_next p ws each t low high old is k side =
    let b = p k in
    let e2 = old (t - 2) k (omega arith) side in
    let e7 = old (t - 7) k (omega arith) side in
    let e15 = old (t - 15) k (omega arith) side in
    let e16 = old (t - 16) k (omega arith) side in
    is k side ∙ (λ i. add32 (add32 (add32 (small_sigma1 (e2 i)) (e7 i)) (small_sigma0 (e15 i))) (e16 i)) ∙ sym (slice_index-schedule_next b 48 t low high)

-- four words of four blocks
pub first_words_of : (a b c d : List ℕ) (t w x y z : ℕ) → t < 16 → w ≡ word_at a (4 * t) → x ≡ word_at b (4 * t) → y ≡ word_at c (4 * t) → z ≡ word_at d (4 * t)
    → (k : ℕ) → k < 4 → get_or (w ∷ x ∷ y ∷ z ∷ []) k 0 ≡ get_or (schedule (one_of a b c d k) 48) t 0
first_words_of a b c d t w x y z low ew ex ey ez zero side = ew ∙ sym (slice_index-schedule_first a 48 t low)
first_words_of a b c d t w x y z low ew ex ey ez (suc zero) side = ex ∙ sym (slice_index-schedule_first b 48 t low)
first_words_of a b c d t w x y z low ew ex ey ez (suc (suc zero)) side = ey ∙ sym (slice_index-schedule_first c 48 t low)
first_words_of a b c d t w x y z low ew ex ey ez (suc (suc (suc zero))) side = ez ∙ sym (slice_index-schedule_first d 48 t low)
first_words_of a b c d t w x y z low ew ex ey ez (suc (suc (suc (suc k)))) side = absurd (omega arith)
