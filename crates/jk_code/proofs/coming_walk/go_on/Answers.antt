use Rattle.std.proofs.Common.{◌≡◌, ℕ, Result, Ok, Err, IfOk, length, sym, subst, arith}
use Rattle.jk_math.specs.Picture.{Picture}
use Rattle.jk_math.specs.declared.fault.Fault.{Fault}
use Rattle.jk_code.specs.ComingRows.{AreCoded}
use Rattle.jk_code.specs.ComingWalks.{IsComingWalk, IsOfPicture, WalksOn}
use Rattle.jk_code.specs.declared.coming.ComingImage.{ComingImage}
use Rattle.jk_code.specs.declared.coming_walk.ComingWalk.{ComingWalk}
use Rattle.jk_code.proofs.coming_walk.go_on.Goals as goal

goes_on : (s : ComingImage) (old : ComingWalk) (Has : Picture → Type 0) (r : Result ComingWalk Fault) → IfOk r (IsComingWalk s) → IfOk r (λ w. w.y ≡ old.y) → IfOk r (λ w. (p : Picture) → Has p → IsOfPicture s p w) → ((p : Picture) → IsOfPicture s p old → Has p)
    → IfOk r (WalksOn s old)
goes_on s old Has (Ok w) walk row of has = record { walk = walk; row = row; of = λ p was. of p (has p was) }
goes_on s old Has (Err e) walk row of has = tt

pub returns-clause-walk : goal.returns-clause-walk
returns-clause-walk c =
    let s = c.args.coming.now in
    let old = c.args.walk in
    let order = c.requires.walk.order in
    let last : old.end ≡ old.y = omega (arith, order, c.if-walk.false) in
    let kept = c.in_ok-keep_tiles.ensures in
    let new = c.keep_tiles.new.fallen.items in
    goes_on s old (λ p. AreCoded s (length new) p new) c.walk_from.result c.walk_from.ensures.walk (subst (λ (y : ℕ). IfOk c.walk_from.result (λ w. w.y ≡ y)) last c.walk_from.ensures.row) c.walk_from.ensures.of
    (λ p was. subst (λ n. AreCoded s n p new) (sym kept.fallen.count) (kept.rows p was.rows was.coded))
