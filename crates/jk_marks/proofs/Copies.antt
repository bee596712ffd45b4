-- Copies of a text, one after another.
use Rattle.std.proofs.Common.{◌≡◌, ℕ, suc, ◌+◌, ◌-◌, ◌<◌, ◌≤◌, List, ◌++◌, replicate, append_assoc, arith}
use Rattle.std.specs.List.{concat}
use Rattle.std.proofs.lemmas.List.{append-nil}

pub copies_more : (out text : List ℕ) (n i : ℕ) → i < n → (out ++ text) ++ concat (replicate (n - (i + 1)) text) ≡ out ++ concat (replicate (n - i) text)
copies_more out text n i lt =
    let k : n - i ≡ suc (n - (i + 1)) = omega arith in
    rw k (append_assoc out text (concat (replicate (n - (i + 1)) text)))

pub copies_all : (out text : List ℕ) (n i : ℕ) → n ≤ i → out ++ concat (replicate (n - i) text) ≡ out
copies_all out text n i le =
    let k : n - i ≡ 0 = omega arith in
    rw k (append-nil out)
