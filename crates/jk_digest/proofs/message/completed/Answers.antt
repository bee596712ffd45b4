-- Four blocks at a time, and then what is left.
use Rattle.std.proofs.Common.{◌≡◌, ◌∙◌, ℕ, ◌+◌, ◌-◌, ◌*◌, ◌/◌, ◌≤◌, List, length, ap, arith}
use Rattle.sha2.specs.Sha256.{hash_after, initial_hash_256, sha256, digest_bytes}
use Rattle.jk_digest.proofs.Absorbing.{hash_on}
use Rattle.jk_digest.proofs.Ending.{whole}
use Rattle.jk_digest.proofs.message.completed.Goals as goal

pub loop-four-init : goal.loop-four-init
loop-four-init c =
    let none : c.args.done ≡ c.args.done + 4 * 0 = omega arith in
    c.requires.behind ∙ ap (λ n. hash_after initial_hash_256 c.args.message.now n) none

pub loop-four-preserved : goal.loop-four-preserved
loop-four-preserved c =
    let n : ℕ = c.args.done + 4 * c.loop-four.four in
    let m : List ℕ = c.args.message.now in
    let more : n + 4 ≡ c.args.done + 4 * (c.loop-four.four + 1) = omega arith in
    c.absorbed.ensures
    ∙ (λ i. hash_after (c.loop-four.invariant i) (c.four_blocks.ensures.blocks i) 4)
    ∙ hash_on initial_hash_256 m n 4 4 (omega arith) ∙ ap (λ k. hash_after initial_hash_256 m k) more

pub returns : goal.returns
unfolding sha256
returns c =
    let m : List ℕ = c.args.message.now in
    let fours : ℕ = (length m / 64 - c.args.done) / 4 in
    let n : ℕ = c.args.done + 4 * fours in
    let rest : List ℕ = c.behind-rest.result.now in
    let all : c.loop-four.four ≡ fours = omega arith in
    let within : n * 64 ≤ length m = omega arith in
    let held = c.loop-four.invariant ∙ ap (λ g. hash_after initial_hash_256 m (c.args.done + 4 * g)) all in
    c.bytes_of.ensures ∙ ap (λ h. digest_bytes h 8)
    (c.finished.ensures ∙ ap (λ h. hash_after h c.padded-last.result ((length rest + 8) / 64 + 1)) held
    ∙ whole initial_hash_256 m c.padded-last.result rest n within c.behind-rest.ensures c.padded-last.ensures)
