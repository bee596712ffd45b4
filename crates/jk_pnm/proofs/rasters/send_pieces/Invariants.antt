use Rattle.std.proofs.Common.{◌≡◌, take}
use Rattle.jk_pnm.specs.Rasters.{pieces_text}
use Rattle.jk_pnm.proofs.SendingLaws.{Wrote}
use Rattle.jk_pnm.proofs.rasters.send_pieces.Given as goal

-- the pieces before this one are written
abbrev pub invariant-loop-piece : goal.invariant-loop-piece
invariant-loop-piece g l = Wrote (g.W.Write.contents l.initial.writer) (g.W.Write.contents l.writer) (λ part. part ≡ pieces_text (take l.piece-index l.pieces))
