-- The loop went over all codings.
use Rattle.std.proofs.Common.{◌≡◌, ◌≤◌, ◌-◌, ◌^◌, List, length, take, min, ◌∙◌, subst}
use Rattle.std.specs.Prelude.{sum_by}
use Rattle.jk_marks.specs.declared.coding.Coding.{Coding}
use Rattle.jk_geom.proofs.Counts.{count_full, precincts_of}
use Rattle.jk_geom.proofs.count.packet_count.Goals as goal

pub returns : goal.returns
returns c =
    let a = c.args.rect.now in
    let n = c.loop-c.c in
    let same = c.as_slice-codings.ensures in
    let long = subst (λ (ks : List Coding). length ks ≤ n) same c.loop-c-test.false in
    let counted = subst (λ (ks : List Coding). c.loop-c.count ≡ min (sum_by (λ (k : Coding). precincts_of a k) (take n ks)) (2 ^ 64 - 1)) same c.loop-c.invariant in
    c.saturating_mul.ensures ∙ count_full a c.args.layers c.args.codings.now n c.loop-c.count (2 ^ 64 - 1) c.requires.layers long counted
