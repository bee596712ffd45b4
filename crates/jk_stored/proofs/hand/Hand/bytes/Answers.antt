use Rattle.std.proofs.Common.{◌≡◌, ◌+◌, ◌-◌, List, ℕ, length, take, drop, subst, sym, arith}
use Rattle.jk_walk.specs.TilePackets.{slice_of}
use Rattle.jk_stored.proofs.Held.{held_part}
use Rattle.jk_stored.proofs.hand.Hand.bytes.Goals as goal

pub returns-clause-held : goal.returns-clause-held
returns-clause-held c = λ f held.
    let h = c.args.self.now in
    let d = c.args.at - h.start in
    let n = d + c.min-count.result - d in
    let same : c.deref.result.now ≡ h.room.items = c.deref.ensures.value in
    let begun = c.requires.at.begun in
    let most = c.requires.at.within in
    let less = c.min-count.ensures in
    subst (λ (xs : List ℕ). take n (drop d xs) ≡ slice_of f (c.args.at, c.args.at + length (take n (drop d xs)))) (sym same)
    (held_part f h.room.items h.start h.count c.args.at n held begun (omega (arith, begun, most, less)) c.requires.at.fits)
