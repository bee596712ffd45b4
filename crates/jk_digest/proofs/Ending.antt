-- The end of a message: what is left behind its groups, with the padding.
use Rattle.std.proofs.Common.{◌≡◌, ℕ, suc, ◌+◌, ◌-◌, ◌*◌, ◌/◌, ◌%◌, ◌^◌, ◌<◌, ◌≤◌, List, [], ◌∷◌, ◌++◌, length, take, drop, replicate, slice_set, refl, sym, ap, ◌∙◌, arith, length-append, length-drop}
use Rattle.std.proofs.lemmas.List.{drop-append-le, append_assoc, take-replicate, drop-replicate, length-replicate, set-append_right}
use Rattle.std.proofs.lemmas.Slice.{take-put_mid}
use Rattle.std.specs.Int.{w64, to_be_bytes}
use Rattle.sha2.specs.Sha256.{hash_after, padding, padded_message}
use Rattle.sha2.proofs.Absorbing256.{hash_after-append}
use Rattle.jk_digest.specs.Schedules.{message_block}
use Rattle.jk_digest.proofs.Absorbing.{goes_on, block_in, block_behind}
use borrow.Rule.Slice.PartMut.{put_mid}

nine : (z : ℕ) → suc (z + 8) ≡ 9 + z
nine z = omega arith

padding_long : (n : ℕ) → length (padding n) ≡ 9 + (119 - n % 64) % 64
padding_long n =
    let z : ℕ = (119 - n % 64) % 64 in
    let end : List ℕ = to_be_bytes w64 (n * 8 % 2 ^ 64) in
    let both : length (replicate z 0 ++ end) ≡ length (replicate z 0) + 8 = length-append (replicate z 0) end in
    let zeros : length (replicate z 0) ≡ z = length-replicate z 0 in
    ap (λ (k : ℕ). suc k) (both ∙ ap (λ (k : ℕ). k + 8) zeros) ∙ nine z

-- the hash value behind what is left, in an array that begins with it
pub whole : (h m last rest : List ℕ) (n : ℕ) → n * 64 ≤ length m → rest ≡ drop (n * 64) m
    → take (((length rest + 8) / 64 + 1) * 64) last ≡ rest ++ padding (length m)
    → hash_after (hash_after h m n) last ((length rest + 8) / 64 + 1) ≡ hash_after h (padded_message m) (length (padded_message m) / 64)
whole h m last rest n within er is =
    let p : List ℕ = padded_message m in
    let c : ℕ = (length rest + 8) / 64 + 1 in
    let left : length rest ≡ length m - n * 64 = ap length er ∙ length-drop (n * 64) m in
    let total : length p ≡ length m + length (padding (length m)) = length-append m (padding (length m)) in
    let more : length (padding (length m)) ≡ 9 + (119 - length m % 64) % 64 = padding_long (length m) in
    let blocks : n + c ≡ length p / 64 = omega arith in
    let behind : drop (n * 64) p ≡ take (c * 64) last = drop-append-le (n * 64) m (padding (length m)) within ∙ ap (λ x. x ++ padding (length m)) (sym er) ∙ sym is in
    ap (λ x. hash_after x last c) (sym (hash_after-append h m (padding (length m)) n within))
    ∙ goes_on h p last n c (λ i low. sym (block_in last c i low) ∙ ap (λ x. message_block x i) (sym behind) ∙ block_behind p n i)
    ∙ ap (λ i. hash_after h p i) blocks

-- the first bytes of the padding, behind the rest
zeros_behind : (rest xs : List ℕ) → length rest < 512 → xs ≡ replicate 512 0 → slice_set (rest ++ drop (length rest) xs) (length rest) 0x80 ≡ rest ++ 0x80 ∷ replicate (511 - length rest) 0
zeros_behind rest xs short blank =
    let n : ℕ = length rest in
    let more : 512 - n ≡ suc (511 - n) = omega arith in
    let left : drop n xs ≡ 0 ∷ replicate (511 - n) 0 = ap (λ (l : List ℕ). drop n l) blank ∙ drop-replicate n 512 0 ∙ ap (λ k. replicate k 0) more in
    let here : n - n ≡ 0 = omega arith in
    ap (λ (l : List ℕ). slice_set (rest ++ l) n 0x80) left ∙ set-append_right rest (0 ∷ replicate (511 - n) 0) n n 0x80 refl (omega arith)
    ∙ ap (λ k. rest ++ slice_set (0 ∷ replicate (511 - n) 0) k 0x80) here

zero_more : (m : ℕ) → 0 + m ≡ m
zero_more m = omega arith

one_sooner : (n m : ℕ) → suc n + m ≡ suc (n + m)
one_sooner n m = omega arith

take_past : (p q : List ℕ) (m : ℕ) → take (length p + m) (p ++ q) ≡ p ++ take m q
take_past [] q m = ap (λ k. take k q) (zero_more m)
take_past (x ∷ p) q m = ap (λ k. take k (x ∷ p ++ q)) (one_sooner (length p) m) ∙ ap (λ l. x ∷ l) (take_past p q m)

-- what is left of a message, and its padding
pub padded_is : (rest xs bytes : List ℕ) (size k : ℕ) → length rest < 256 → length rest % 64 ≡ size % 64 → xs ≡ replicate 512 0 → bytes ≡ to_be_bytes w64 (size * 8 % 2 ^ 64)
    → take (((length rest + 8) / 64 + 1) * 64) (put_mid (((length rest + 8) / 64 + 1) * 64 - 8) k (slice_set (rest ++ drop (length rest) xs) (length rest) 0x80) bytes) ≡ rest ++ padding size
padded_is rest xs bytes size k short same blank is =
    let n : ℕ = length rest in
    let end : ℕ = ((n + 8) / 64 + 1) * 64 in
    let z : ℕ = (119 - size % 64) % 64 in
    let front : List ℕ = rest ++ 0x80 ∷ replicate (511 - n) 0 in
    let set : slice_set (rest ++ drop n xs) n 0x80 ≡ front = zeros_behind rest xs (omega arith) blank in
    let eight : length bytes ≡ 8 = ap length is in
    let long : length front ≡ 512 = length-append rest (0x80 ∷ replicate (511 - n) 0) ∙ ap (λ k. n + suc k) (length-replicate (511 - n) 0) ∙ omega arith in
    let cut : end - 8 ≡ n + suc z = omega arith in
    let least : z ≤ 511 - n = omega arith in
    let taken : take (end - 8) front ≡ rest ++ 0x80 ∷ replicate z 0 =
    ap (λ k. take k front) cut ∙ take_past rest (0x80 ∷ replicate (511 - n) 0) (suc z) ∙ ap (λ l. rest ++ 0x80 ∷ l) (take-replicate z (511 - n) 0 least) in
    ap (λ l. take end (put_mid (end - 8) k l bytes)) set
    ∙ take-put_mid (end - 8) k front bytes end (omega arith) (omega arith)
    ∙ (λ i. taken i ++ is i)
    ∙ append_assoc rest (0x80 ∷ replicate z 0) (to_be_bytes w64 (size * 8 % 2 ^ 64))
