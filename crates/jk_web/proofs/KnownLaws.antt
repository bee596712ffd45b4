-- Bytes that a reader has left, where they are known.
use Rattle.std.proofs.Common.{◌≡◌, ◌≤◌, ◌+◌, ℕ, List, [], ◌++◌, length, take, arith, Option, Some, None, sym, ap, ◌∙◌, subst, append_assoc, append-nil}
use Rattle.std.specs.Io.KnownBytes.{Consumes, Keeps}
use Rattle.std.proofs.lemmas.List.{length-append, length-take-le}

pub consumes_none : (known : Option (List ℕ)) → Consumes known known []
consumes_none None = tt
consumes_none (Some xs) = λ i. xs

pub consumes_join : (a b c : Option (List ℕ)) (x y : List ℕ) → Consumes a b x → Consumes b c y → Consumes a c (x ++ y)
consumes_join None b c x y p q = tt
consumes_join (Some xs) None c x y p q = absurd p
consumes_join (Some xs) (Some ys) None x y p q = absurd q
consumes_join (Some xs) (Some ys) (Some zs) x y p q = p ∙ ap (λ (v : List ℕ). x ++ v) q ∙ sym (append_assoc x y zs)

pub consumes_kept : (a b c : Option (List ℕ)) (x : List ℕ) → Consumes a b x → Keeps b c → Consumes a c x
consumes_kept None b c x p q = tt
consumes_kept (Some xs) None c x p q = absurd p
consumes_kept (Some xs) (Some ys) None x p q = absurd q
consumes_kept (Some xs) (Some ys) (Some zs) x p q = p ∙ ap (λ (v : List ℕ). x ++ v) (sym q)

-- Each read adds a byte.
pub longer : (stream piece : List ℕ) (turns count : ℕ) → turns ≤ length stream → (count ≡ 0 → ⊥) → count ≤ length piece
    → turns + 1 ≤ length (stream ++ take count piece)
longer stream piece turns count h some fits = omega (arith, length-append stream (take count piece), length-take-le count piece fits)

-- A read that gave nothing.
pub consumes_no_more : (a b c : Option (List ℕ)) (x piece : List ℕ) (count : ℕ) → count ≡ 0 → Consumes a b x → Consumes b c (take count piece) → Consumes a c x
consumes_no_more a b c x piece count is p q =
    subst (Consumes a c) (ap (λ (n : ℕ). x ++ take n piece) is ∙ append-nil x) (consumes_join a b c x (take count piece) p q)
