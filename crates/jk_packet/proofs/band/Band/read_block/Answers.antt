use Rattle.std.proofs.Common.{◌≡◌, ℕ, ◌*◌, ◌<◌, false, List, ◌∷◌, [], ◌++◌, length, get_or, set, refl, Ok, Err, sym, ap, ◌∙◌, subst, arith}
use Rattle.std.proofs.lemmas.Result.{err_from_is_err_and}
use Rattle.std.proofs.lemmas.List.{get_or_read, length-set}
use Rattle.jk_math.specs.Steps.{refuses_due}
use Rattle.jk_bits.specs.Reading.{Bits}
use Rattle.jk_tree.specs.Asking.{TagTreeRead, IsKnown}
use Rattle.jk_tree.specs.TagTree.{shape_of}
use Rattle.jk_packet.specs.declared.shape.BandShape.{BandShape}
use Rattle.jk_packet.specs.declared.block.Block.{Block}
use Rattle.jk_packet.specs.declared.header.BlockContribution.{BlockContribution}
use Rattle.jk_packet.specs.Words.{most_passes}
use Rattle.jk_packet.specs.Reading.{BandState, BandWalk, block_in, grown, part_of, included_at, zero_planes_at, piece_at, with_inclusion, block_at}
use Rattle.jk_packet.proofs.BandLaws.{block_err, block_left, block_taken, taken_zeros_err, taken_piece_err, taken_ok}
use Rattle.jk_packet.proofs.KnownLaws.{AreKnown, known_still, known_set, known_read}
use Rattle.jk_packet.proofs.band.Band.read_block.Goals as goal

abbrev walk_at : BandShape → List Block → TagTreeRead → TagTreeRead → Bits → List BlockContribution → BandWalk
walk_at shape blocks inclusion zeros bits parts = record {
  band = record { shape = shape_of shape.across shape.down; planes = shape.planes; blocks = blocks; inclusion = inclusion; zeros = zeros };
  bits = bits;
  parts = parts;
}

-- the block that was read is that at the index
block_is : (b : BandState) (items : List Block) (i n : ℕ) (x : Block) → b.blocks ≡ items → i < n → length items ≡ n → x ≡ get_or items i x → x ≡ block_in items i
block_is b items i n x e less long r = get_or_read items i x (omega (arith, less, long)) r _

pub returns-in_err-included-clause-exact : goal.returns-in_err-included-clause-exact
returns-in_err-included-clause-exact c =
    let s = c.self.inside in
    let w = walk_at s.shape s.blocks.items s.inclusion s.zeros c.args.reader.now c.args.parts.now.items in
    let less : c.args.index < s.shape.across * s.shape.down = subst (λ (b : BandState). c.args.index < b.shape.width * b.shape.height) (sym c.self.view_is) c.requires.index in
    let block : c.index-block.result.now ≡ block_in s.blocks.items c.args.index = block_is w.band s.blocks.items c.args.index (s.shape.across * s.shape.down) c.index-block.result.now refl less c.self.invariant.0 c.index-block.ensures in
    let p = err_from_is_err_and c.from_residual.result c.from_residual.ensures.1 in
    let due : block_at c.args.number c.args.layer c.args.index w ≡ Err c.in_err-included.field-0.0 =
    block_err c.args.number c.args.layer c.args.index w c.in_err-included.field-0.0
    (ap (λ (x : Block). included_at c.args.layer c.args.index x (s.inclusion, c.args.reader.now)) (sym block) ∙ c.in_err-included.ensures.exact) in
    rw (p.1, p.2) (refuses_due c.in_err-included.field-0.0 _ (ap (λ (b : BandState). block_at c.args.number c.args.layer c.args.index record w { band = b }) (sym c.self.view_is) ∙ due))

pub returns-then-not-included-clause-exact : goal.returns-then-not-included-clause-exact
returns-then-not-included-clause-exact c =
    let s = c.self.inside in
    let w = walk_at s.shape s.blocks.items s.inclusion s.zeros c.args.reader.now c.args.parts.now.items in
    let less : c.args.index < s.shape.across * s.shape.down = subst (λ (b : BandState). c.args.index < b.shape.width * b.shape.height) (sym c.self.view_is) c.requires.index in
    let block : c.index-block.result.now ≡ block_in s.blocks.items c.args.index = block_is w.band s.blocks.items c.args.index (s.shape.across * s.shape.down) c.index-block.result.now refl less c.self.invariant.0 c.index-block.ensures in
    ap (λ (b : BandState). block_at c.args.number c.args.layer c.args.index record w { band = b }) (sym c.self.view_is)
    ∙ block_left c.args.number c.args.layer c.args.index w (c.in_ok-included.included, (c.read_inclusion.new.tree, c.read_inclusion.new.reader))
    (ap (λ (x : Block). included_at c.args.layer c.args.index x (s.inclusion, c.args.reader.now)) (sym block) ∙ c.in_ok-included.ensures.exact) c.if-not-included.true

pub returns-in_err-zero_planes-clause-exact : goal.returns-in_err-zero_planes-clause-exact
returns-in_err-zero_planes-clause-exact c =
    let s = c.self.inside in
    let w = walk_at s.shape s.blocks.items s.inclusion s.zeros c.args.reader.now c.args.parts.now.items in
    let less : c.args.index < s.shape.across * s.shape.down = subst (λ (b : BandState). c.args.index < b.shape.width * b.shape.height) (sym c.self.view_is) c.requires.index in
    let block : c.index-block.result.now ≡ block_in s.blocks.items c.args.index = block_is w.band s.blocks.items c.args.index (s.shape.across * s.shape.down) c.index-block.result.now refl less c.self.invariant.0 c.index-block.ensures in
    let p = err_from_is_err_and c.from_residual-in_err-zero_planes.result c.from_residual-in_err-zero_planes.ensures.1 in
    let due : block_at c.args.number c.args.layer c.args.index w ≡ Err c.in_err-zero_planes.field-0.0 =
    block_taken c.args.number c.args.layer c.args.index w (c.in_ok-included.included, (c.read_inclusion.new.tree, c.read_inclusion.new.reader))
    (ap (λ (x : Block). included_at c.args.layer c.args.index x (s.inclusion, c.args.reader.now)) (sym block) ∙ c.in_ok-included.ensures.exact) c.if-not-included.false
    ∙ taken_zeros_err c.args.number c.args.index (with_inclusion w (c.read_inclusion.new.tree, c.read_inclusion.new.reader)) c.in_err-zero_planes.field-0.0
    (ap (λ (x : Block). zero_planes_at s.shape.planes c.args.index x (s.zeros, c.read_inclusion.new.reader)) (sym block) ∙ c.in_err-zero_planes.ensures.exact) in
    rw (p.1, p.2) (refuses_due c.in_err-zero_planes.field-0.0 _ (ap (λ (b : BandState). block_at c.args.number c.args.layer c.args.index record w { band = b }) (sym c.self.view_is) ∙ due))

pub returns-in_err-piece-clause-exact : goal.returns-in_err-piece-clause-exact
returns-in_err-piece-clause-exact c =
    let s = c.self.inside in
    let w = walk_at s.shape s.blocks.items s.inclusion s.zeros c.args.reader.now c.args.parts.now.items in
    let less : c.args.index < s.shape.across * s.shape.down = subst (λ (b : BandState). c.args.index < b.shape.width * b.shape.height) (sym c.self.view_is) c.requires.index in
    let block : c.index-block.result.now ≡ block_in s.blocks.items c.args.index = block_is w.band s.blocks.items c.args.index (s.shape.across * s.shape.down) c.index-block.result.now refl less c.self.invariant.0 c.index-block.ensures in
    let p = err_from_is_err_and c.from_residual-in_err-piece.result c.from_residual-in_err-piece.ensures.1 in
    let z : ℕ × (TagTreeRead × Bits) = (c.in_ok-zero_planes.zero_planes, (c.read_zero_planes.new.tree, c.read_zero_planes.new.reader)) in
    let due : block_at c.args.number c.args.layer c.args.index w ≡ Err c.in_err-piece.field-0.0 =
    block_taken c.args.number c.args.layer c.args.index w (c.in_ok-included.included, (c.read_inclusion.new.tree, c.read_inclusion.new.reader))
    (ap (λ (x : Block). included_at c.args.layer c.args.index x (s.inclusion, c.args.reader.now)) (sym block) ∙ c.in_ok-included.ensures.exact) c.if-not-included.false
    ∙ taken_piece_err c.args.number c.args.index (with_inclusion w (c.read_inclusion.new.tree, c.read_inclusion.new.reader)) z c.in_err-piece.field-0.0
    (ap (λ (x : Block). zero_planes_at s.shape.planes c.args.index x (s.zeros, c.read_inclusion.new.reader)) (sym block) ∙ c.in_ok-zero_planes.ensures.exact)
    (ap (λ (x : Block). piece_at (most_passes s.shape.planes z.0) x.passes x.length_bits z.1.1) (sym block) ∙ c.in_err-piece.ensures.exact) in
    rw (p.1, p.2) (refuses_due c.in_err-piece.field-0.0 _ (ap (λ (b : BandState). block_at c.args.number c.args.layer c.args.index record w { band = b }) (sym c.self.view_is) ∙ due))

pub returns-clause-exact : goal.returns-clause-exact
returns-clause-exact c =
    let s = c.self.inside in
    let w = walk_at s.shape s.blocks.items s.inclusion s.zeros c.args.reader.now c.args.parts.now.items in
    let less : c.args.index < s.shape.across * s.shape.down = subst (λ (b : BandState). c.args.index < b.shape.width * b.shape.height) (sym c.self.view_is) c.requires.index in
    let block : c.index-block.result.now ≡ block_in s.blocks.items c.args.index = block_is w.band s.blocks.items c.args.index (s.shape.across * s.shape.down) c.index-block.result.now refl less c.self.invariant.0 c.index-block.ensures in
    let z : ℕ × (TagTreeRead × Bits) = (c.in_ok-zero_planes.zero_planes, (c.read_zero_planes.new.tree, c.read_zero_planes.new.reader)) in
    let v = with_inclusion w (c.read_inclusion.new.tree, c.read_inclusion.new.reader) in
    let p = c.in_ok-piece.piece in
    ap (λ (b : BandState). block_at c.args.number c.args.layer c.args.index record w { band = b }) (sym c.self.view_is)
    ∙ block_taken c.args.number c.args.layer c.args.index w (c.in_ok-included.included, (c.read_inclusion.new.tree, c.read_inclusion.new.reader))
    (ap (λ (x : Block). included_at c.args.layer c.args.index x (s.inclusion, c.args.reader.now)) (sym block) ∙ c.in_ok-included.ensures.exact) c.if-not-included.false
    ∙ taken_ok c.args.number c.args.index v z (p, c.read_piece.new.reader)
    (ap (λ (x : Block). zero_planes_at s.shape.planes c.args.index x (s.zeros, c.read_inclusion.new.reader)) (sym block) ∙ c.in_ok-zero_planes.ensures.exact)
    (ap (λ (x : Block). piece_at (most_passes s.shape.planes z.0) x.passes x.length_bits z.1.1) (sym block) ∙ c.in_ok-piece.ensures.exact)
    ∙ ap (λ (x : Block). Ok (record {
      band = record { shape = shape_of s.shape.across s.shape.down; planes = s.shape.planes; blocks = set s.blocks.items c.args.index (grown x z.0 p); inclusion = c.read_inclusion.new.tree; zeros = c.read_zero_planes.new.tree };
      bits = c.read_piece.new.reader;
      parts = c.args.parts.now.items ++ part_of c.args.number c.args.index z.0 p ∷ [];
    })) (sym block)
    ∙ ap (λ (ps : List BlockContribution). Ok (record {
      band = record { shape = shape_of s.shape.across s.shape.down; planes = s.shape.planes; blocks = set s.blocks.items c.args.index (grown c.index-block.result.now z.0 p); inclusion = c.read_inclusion.new.tree; zeros = c.read_zero_planes.new.tree };
      bits = c.read_piece.new.reader;
      parts = ps;
    })) (sym c.in_ok-push.ensures.items)

-- the blocks after one was read are known as far as packets have something of them
known_after : (shape : BandShape) (items : List Block) (old new : TagTreeRead) (i : ℕ) (x b : Block) → length items ≡ shape.across * shape.down → old.shape ≡ shape_of shape.across shape.down → new.shape ≡ old.shape
    → AreKnown (shape_of shape.across shape.down) old.nodes (shape.across * shape.down) items → i < shape.across * shape.down → x ≡ block_in items i
    → ((j : ℕ) → IsKnown old.shape old.nodes j → IsKnown new.shape new.nodes j) → (x.included ≡ false → IsKnown new.shape new.nodes i)
    → AreKnown (shape_of shape.across shape.down) new.nodes (shape.across * shape.down) (set items i b)
known_after shape items old new i x b long was kept known less e still first =
    let s = shape_of shape.across shape.down in
    let n = shape.across * shape.down in
    known_set s new.nodes n i items b (omega (arith, less, long)) (known_still s old new n items was (kept ∙ was) still known) (known_read s old new n i items x was (kept ∙ was) still known less e first)

pub invariant_of-self-in_err-push : goal.invariant_of-self-in_err-push
invariant_of-self-in_err-push c =
    let s = c.self.inside in
    let inv = c.self.invariant in
    let less : c.args.index < s.shape.across * s.shape.down = subst (λ (b : BandState). c.args.index < b.shape.width * b.shape.height) (sym c.self.view_is) c.requires.index in
    let w = walk_at s.shape s.blocks.items s.inclusion s.zeros c.args.reader.now c.args.parts.now.items in
    let block : c.index-block.result.now ≡ block_in s.blocks.items c.args.index = block_is w.band s.blocks.items c.args.index (s.shape.across * s.shape.down) c.index-block.result.now refl less inv.0 c.index-block.ensures in (
      length-set s.blocks.items c.args.index _ ∙ inv.0,
      c.read_inclusion.ensures.kept ∙ inv.1,
      c.read_zero_planes.ensures.kept ∙ inv.2,
      known_after s.shape s.blocks.items s.inclusion c.read_inclusion.new.tree c.args.index c.index-block.result.now _ inv.0 inv.1 c.read_inclusion.ensures.kept inv.3 less block c.read_inclusion.ensures.still
          (λ no_included. c.in_ok-included.ensures.known c.if-not-included.false no_included),
    )

pub invariant_of-self-2 : goal.invariant_of-self-2
invariant_of-self-2 c =
    let s = c.self.inside in
    let inv = c.self.invariant in
    let less : c.args.index < s.shape.across * s.shape.down = subst (λ (b : BandState). c.args.index < b.shape.width * b.shape.height) (sym c.self.view_is) c.requires.index in
    let w = walk_at s.shape s.blocks.items s.inclusion s.zeros c.args.reader.now c.args.parts.now.items in
    let block : c.index-block.result.now ≡ block_in s.blocks.items c.args.index = block_is w.band s.blocks.items c.args.index (s.shape.across * s.shape.down) c.index-block.result.now refl less inv.0 c.index-block.ensures in (
      length-set s.blocks.items c.args.index _ ∙ inv.0,
      c.read_inclusion.ensures.kept ∙ inv.1,
      c.read_zero_planes.ensures.kept ∙ inv.2,
      known_after s.shape s.blocks.items s.inclusion c.read_inclusion.new.tree c.args.index c.index-block.result.now _ inv.0 inv.1 c.read_inclusion.ensures.kept inv.3 less block c.read_inclusion.ensures.still
          (λ no_included. c.in_ok-included.ensures.known c.if-not-included.false no_included),
    )
