use Rattle.std.proofs.Common.{◌≡◌, ◌-◌, ◌<◌, ◌≤◌, ◌++◌, [], ◌∷◌, min, max, Bool, true, false, List, replicate, sym, ◌∙◌, ap, arith}
use Rattle.std.specs.Prelude.{nat_lt}
use Rattle.std.proofs.lemmas.List.{append-nil}
use Rattle.std.proofs.lemmas.Bool.Decides.{nat_tests}
use Rattle.jk_bits.specs.Writing.{Written}
use Rattle.jk_tree.proofs.Visits.{ending}
use Rattle.jk_tree.proofs.Speeches.{spoken_piece}
use Rattle.jk_tree.proofs.write.speak.Goals as goal

pub returns-in_ok-push-clause-told : goal.returns-in_ok-push-clause-told
returns-in_ok-push-clause-told c = λ tree.
    let w = c.args.node.value in
    let t = c.args.threshold in
    let before = c.args.writer.now in
    let zeros : c.saturating_sub.result ≡ min w t - max c.args.node.told (min c.args.over t) =
    c.saturating_sub.ensures ∙ ap (λ n. n - c.max-from.result) c.min-2.ensures ∙ ap (λ n. min w t - n) (c.max-from.ensures ∙ ap (λ n. max c.args.node.told n) c.min.ensures) in
    let less : c.args.node.told < t = (let h = c.if-node-threshold.false in omega (arith, h)) in
    let open_value : c.args.node.told ≤ w = (let h = c.if-node.false in omega (arith, h)) in
    let one : nat_lt w t ≡ true = (let h = c.if-node-threshold-2.true in grind (arith, nat_tests)) in
    c.in_ok-push.ensures.1
    ∙ ap (λ (s : Written). record { bits = s.bits ++ true ∷ []; failed = s.failed }) c.in_ok-push_zeros.ensures
    ∙ ap (λ n. record { bits = (before.bits ++ replicate n false) ++ true ∷ []; failed = before.failed }) zeros
    ∙ ap (λ (b : Bool). record { bits = (before.bits ++ replicate (min w t - max c.args.node.told (min c.args.over t)) false) ++ ending b; failed = before.failed }) (sym one)
    ∙ ap (λ (bs : List Bool). record { bits = bs; failed = before.failed }) (spoken_piece c.args.over w c.args.node.told t tree less open_value before.bits)

pub returns-else-node-threshold-2-clause-told : goal.returns-else-node-threshold-2-clause-told
returns-else-node-threshold-2-clause-told c = λ tree.
    let w = c.args.node.value in
    let t = c.args.threshold in
    let before = c.args.writer.now in
    let zeros : c.saturating_sub.result ≡ min w t - max c.args.node.told (min c.args.over t) =
    c.saturating_sub.ensures ∙ ap (λ n. n - c.max-from.result) c.min-2.ensures ∙ ap (λ n. min w t - n) (c.max-from.ensures ∙ ap (λ n. max c.args.node.told n) c.min.ensures) in
    let less : c.args.node.told < t = (let h = c.if-node-threshold.false in omega (arith, h)) in
    let open_value : c.args.node.told ≤ w = (let h = c.if-node.false in omega (arith, h)) in
    let none : nat_lt w t ≡ false = (let h = c.if-node-threshold-2.false in grind (arith, nat_tests)) in
    c.in_ok-push_zeros.ensures
    ∙ ap (λ n. record { bits = before.bits ++ replicate n false; failed = before.failed }) zeros
    ∙ ap (λ (bs : List Bool). record { bits = bs; failed = before.failed }) (sym (append-nil (before.bits ++ replicate (min w t - max c.args.node.told (min c.args.over t)) false)))
    ∙ ap (λ (b : Bool). record { bits = (before.bits ++ replicate (min w t - max c.args.node.told (min c.args.over t)) false) ++ ending b; failed = before.failed }) (sym none)
    ∙ ap (λ (bs : List Bool). record { bits = bs; failed = before.failed }) (spoken_piece c.args.over w c.args.node.told t tree less open_value before.bits)
