-- The blocks of a message, one more each time.
use Rattle.std.proofs.Common.{◌≡◌, ℕ, zero, suc, ◌+◌, ◌-◌, ◌*◌, ◌<◌, ◌≤◌, List, take, drop, add-one, add-zero, refl, sym, ap, ◌∙◌, arith}
use Rattle.std.proofs.lemmas.List.{drop-drop, drop-take, take-take}
use Rattle.sha2.specs.Sha256.{hash_after, compress}
use Rattle.jk_digest.specs.Schedules.{message_block, one_of, HasWords, HasColumn}

pub before_any : (h p : List ℕ) → h ≡ hash_after h p 0
unfolding hash_after
before_any h p = refl

pub one_more : (h p g : List ℕ) (n : ℕ) → g ≡ hash_after h p n → compress g (message_block p n) ≡ hash_after h p (n + 1)
unfolding hash_after
one_more h p g n e = ap (λ (x : List ℕ). compress x (message_block p n)) e ∙ ap (λ k. hash_after h p k) (sym (add-one n))

-- blocks of another list that are the next ones
pub goes_on : (h p s : List ℕ) (a c : ℕ) → ((n : ℕ) → n < c → message_block s n ≡ message_block p (a + n)) → hash_after (hash_after h p a) s c ≡ hash_after h p (a + c)
unfolding hash_after
goes_on h p s a zero same = ap (λ n. hash_after h p n) (sym (add-zero a))
goes_on h p s a (suc c) same =
    let up : suc (a + c) ≡ a + suc c = omega arith in
    (λ i. compress (goes_on h p s a c (λ n low. same n (omega arith)) i) (same c (omega arith) i)) ∙ ap (λ n. hash_after h p n) up

-- a block of what stands from another one on
pub block_behind : (p : List ℕ) (a n : ℕ) → message_block (drop (a * 64) p) n ≡ message_block p (a + n)
block_behind p a n =
    let at : a * 64 + n * 64 ≡ (a + n) * 64 = omega arith in
    ap (λ (x : List ℕ). take 64 x) (drop-drop (n * 64) (a * 64) p ∙ ap (λ m. drop m p) at)

-- a block of the first ones
pub block_in : (p : List ℕ) (c n : ℕ) → n < c → message_block (take (c * 64) p) n ≡ message_block p n
block_in p c n low =
    let m : ℕ = (c - n) * 64 in
    let all : c * 64 ≡ n * 64 + m = omega arith in
    ap (λ (k : ℕ). take 64 (drop (n * 64) (take k p))) all
    ∙ ap (λ (x : List ℕ). take 64 x) (drop-take (n * 64) m p)
    ∙ take-take 64 m (drop (n * 64) p) (omega arith)

-- blocks that stand by themselves
pub hash_on : (h p : List ℕ) (a c m : ℕ) → c ≤ m → hash_after (hash_after h p a) (take (m * 64) (drop (a * 64) p)) c ≡ hash_after h p (a + c)
hash_on h p a c m few = goes_on h p (take (m * 64) (drop (a * 64) p)) a c (λ n low. block_in (drop (a * 64) p) m n (omega arith) ∙ block_behind p a n)

-- a block of four
pub column_of : (b : ℕ → List ℕ) (ws : List ℕ) (k : ℕ) → k < 4 → HasWords (one_of (b 0) (b 1) (b 2) (b 3)) ws 64 → HasColumn (b k) ws k
column_of b ws zero side words t low = words t 0 low (omega arith)
column_of b ws (suc zero) side words t low = words t 1 low (omega arith)
column_of b ws (suc (suc zero)) side words t low = words t 2 low (omega arith)
column_of b ws (suc (suc (suc zero))) side words t low = words t 3 low (omega arith)
column_of b ws (suc (suc (suc (suc k)))) side words t low = absurd (omega arith)

-- the blocks of four messages at one place
pub blocks_at : (a b c d : List ℕ) (n k : ℕ) → one_of (message_block a n) (message_block b n) (message_block c n) (message_block d n) k ≡ message_block (one_of a b c d k) n
blocks_at a b c d n zero = refl
blocks_at a b c d n (suc zero) = refl
blocks_at a b c d n (suc (suc zero)) = refl
blocks_at a b c d n (suc (suc (suc k))) = refl
