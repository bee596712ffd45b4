-- The second group follows the first.
use Rattle.std.proofs.Common.{◌≡◌, ◌∙◌, ℕ, ◌+◌, ◌-◌, ◌≤◌, List, take, drop, ap, arith}
use Rattle.sha2.specs.Sha256.{hash_after}
use Rattle.jk_digest.proofs.Absorbing.{before_any, hash_on}
use Rattle.jk_digest.proofs.message.finished.Goals as goal

first_four : (h p : List ℕ) (n : ℕ) → n ≤ 4 → hash_after h (take 256 p) n ≡ hash_after h p n
first_four h p n few =
    let here : 0 + n ≡ n = omega arith in
    ap (λ g. hash_after g (take 256 p) n) (before_any h p) ∙ hash_on h p 0 n 4 few ∙ ap (λ k. hash_after h p k) here

pub returns-then-count-gt4 : goal.returns-then-count-gt4
returns-then-count-gt4 c =
    let four : c.min.result ≡ 4 = c.min.ensures ∙ omega arith in
    let all : 4 + (c.args.count - 4) ≡ c.args.count = omega arith in
    let bytes : List ℕ = c.args.blocks.now in
    let first = c.absorbed.ensures ∙ ap (λ n. hash_after c.args.hash.now (take 256 bytes) n) four ∙ first_four c.args.hash.now bytes 4 (omega arith) in
    c.absorbed-then-count-gt4.ensures ∙ ap (λ h. hash_after h (take 256 (drop 256 bytes)) (c.args.count - 4)) first
    ∙ hash_on c.args.hash.now bytes 4 (c.args.count - 4) 4 (omega arith) ∙ ap (λ n. hash_after c.args.hash.now bytes n) all

pub returns-else-count-gt4 : goal.returns-else-count-gt4
returns-else-count-gt4 c =
    let same : c.min.result ≡ c.args.count = c.min.ensures ∙ omega arith in
    c.absorbed.ensures ∙ ap (λ n. hash_after c.args.hash.now (take 256 c.args.blocks.now) n) same
    ∙ first_four c.args.hash.now c.args.blocks.now c.args.count c.if-count-gt4.false
