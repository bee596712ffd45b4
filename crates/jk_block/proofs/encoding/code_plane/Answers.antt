use Rattle.std.proofs.Common.{◌≡◌, ℕ, ◌+◌, ◌-◌, ◌*◌, ◌≤◌, ap, ◌∙◌, sym, subst, inl, inr, arith}
use Rattle.std.proofs.lemmas.Bool.{cases_lt}
use Rattle.jk_scan.specs.Moments.{visits}
use Rattle.jk_block.specs.Meaning.{plane_of, kind_of, value_in}
use Rattle.jk_block.specs.CodedBlocks.{HasCodedPasses}
use Rattle.jk_block.specs.Steps.{number_of}
use Rattle.jk_block.specs.encoding.Viewed.{IsFlagged}
use Rattle.jk_block.proofs.encoding.Planes.{begun_plane, begun_top, ended_plane}
use Rattle.jk_block.proofs.encoding.Written.{coded_pass}
use Rattle.jk_block.proofs.encoding.code_plane.Goals as goal

pub loop-n-init : goal.loop-n-init
loop-n-init c =
    let v = c.args.block.now in
    let flags = c.args.flags.now in
    let new = c.begin.new.self in
    let e = c.begin.ensures in
    let first : c.saturating_sub-n.result ≡ 3 * c.args.above - 2 = omega arith in (
      subst (λ n. HasCodedPasses v.shape c.args.planes n (value_in v.shape v.values.now) c.args.encoder.now c.args.marks.now.items) (sym first) c.requires.before,
      elim (cases_lt 0 c.args.above) [
        | inl some ↦ subst (λ k. IsFlagged v (k * visits v.shape) new) (omega (arith, some, first)) (begun_plane v flags new c.requires.known_significant e.significant e.room e.visited)
        | inr none ↦ subst (λ k. IsFlagged v (k * visits v.shape) new) (omega (arith, none, first)) (begun_top v flags new c.requires.known_significant e.significant e.room e.visited (c.requires.top (omega (arith, none))))
      ],
    )

kind : (n above : ℕ) → 3 * above - 2 ≤ n → n ≤ 3 * above → kind_of n ≡ n + 2 - 3 * above
kind n above low high = omega (arith, low, high)

pub loop-n-preserved : goal.loop-n-preserved
loop-n-preserved c =
    let b = c.args.block.now in
    let r = c.requires.plane in
    let l = c.loop-n in
    let low : 3 * c.args.above - 2 ≤ l.n = omega arith in
    let high : l.n ≤ 3 * c.args.above = omega arith in
    let plane : plane_of c.args.planes l.n ≡ b.plane = omega (arith, r, low, high) in
    let same = c.pass_of.ensures in (
      coded_pass b.shape c.args.planes l.n b.plane (number_of c.pass_of.result) (value_in b.shape b.values.now) l.encoder c.code_pass.new.encoder l.marks.items c.code_pass.new.marks.items l.invariant.0
          plane (sym same) c.in_ok-code_pass.ensures.codes c.in_ok-code_pass.ensures.marks,
      subst (λ k. IsFlagged b (k * visits b.shape) c.code_pass.new.flags) (ap (λ k. k + 1) (same ∙ kind l.n c.args.above low high) ∙ (let e : l.n + 2 - 3 * c.args.above + 1 ≡ l.n + 1 + 2 - 3 * c.args.above = omega (arith, low) in e)) c.in_ok-code_pass.ensures.flagged,
    )

pub returns-clause-known_significant : goal.returns-clause-known_significant
returns-clause-known_significant c =
    let v = c.args.block.now in
    let l = c.loop-n in
    ended_plane v l.flags (subst (λ k. IsFlagged v (k * visits v.shape) l.flags) (omega arith) l.invariant.1)
