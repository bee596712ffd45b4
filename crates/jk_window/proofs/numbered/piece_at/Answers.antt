use Rattle.std.proofs.Common.{◌≡◌, ◌∙◌, refl, min, max, get_or, ap, sym, subst}
use Rattle.jk_window.specs.declared.numbered.Piece.{Piece}
use Rattle.jk_window.specs.Numbered.{IsPiece}
use Rattle.jk_window.proofs.Passing.{piece_last, piece_next}
use Rattle.jk_window.proofs.numbered.piece_at.Goals as goal

pub returns-then-next-intervals : goal.returns-then-next-intervals
returns-then-next-intervals c = piece_last c.args.intervals.now c.args.next c.args.at c.args.behind c.requires.some c.requires.before c.if-next-intervals.true

pub returns : goal.returns
returns c =
    let xs = c.args.intervals.now in
    let at = c.args.at in
    let behind = c.args.behind in
    let s = get_or xs c.args.next (0, 0) in
    let start : c.min-start.result ≡ min (max s.0 at) behind = c.min-start.ensures ∙ ap (λ k. min k behind) c.max.ensures in
    let end : c.max-2.result ≡ max (min s.1 behind) (min (max s.0 at) behind) = c.max-2.ensures ∙ (λ j. max (c.min.ensures j) (start j)) in
    subst (λ (p : Piece). IsPiece xs at behind p) (λ j. record { start = sym start j; end = sym end j })
    (piece_next xs c.args.next at behind s.0 s.1 c.requires.some c.requires.before c.requires.ascend c.if-next-intervals.false refl (c.requires.past c.if-next-intervals.false))
