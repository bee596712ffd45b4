use Rattle.std.proofs.Common.{◌≡◌, suc, ◌+◌, ◌-◌, ◌*◌, ◌≤◌, refl, sym, ap, ◌∙◌, arith}
use Rattle.jk_tree.specs.TagTree.{Shape}
use Rattle.std.proofs.lemmas.Result.{err_from_is_err_and}
use Rattle.jk_packet.specs.Reading.{BandState, BandWalk, block_at, blocks_at}
use Rattle.jk_packet.proofs.BandLaws.{blocks_none, blocks_err, blocks_next, refuses_on}
use Rattle.jk_packet.proofs.KnownLaws.{blocks_skipped}
use Rattle.jk_packet.proofs.band.Band.read.Goals as goal

pub returns-in_err-read_block : goal.returns-in_err-read_block
returns-in_err-read_block c =
    let i = c.loop-index.index in
    let n = c.self.inside.shape.across * c.self.inside.shape.down in
    let w : BandWalk = record { band = c.loop-index.self; bits = c.loop-index.reader; parts = c.loop-index.parts.items } in
    let p = err_from_is_err_and c.from_residual.result c.from_residual.ensures.1 in
    let more : n - i ≡ suc (n - (i + 1)) = (let t = c.loop-index-test.true in omega (arith, t)) in
    let told = c.loop-index.invariant.told in
    let all : n ≡ c.args.self.now.shape.width * c.args.self.now.shape.height = c.loop-index.invariant.end_is in
    rw (p.1, p.2) (refuses_on c.in_err-read_block.field-0.0 (block_at c.args.number c.args.layer i w) _ c.in_err-read_block.ensures.exact
    (λ h. ap (λ k. blocks_at c.args.number c.args.layer k 0 record { band = c.args.self.now; bits = c.args.reader.now; parts = c.args.parts.now.items }) (sym all)
    ∙ sym told
    ∙ ap (λ k. blocks_at c.args.number c.args.layer k i w) more
    ∙ blocks_err c.args.number c.args.layer (n - (i + 1)) i w c.in_err-read_block.field-0.0 h))

pub loop-index-init : goal.loop-index-init
loop-index-init c =
    let n = c.self.inside.shape.across * c.self.inside.shape.down in
    let i = c.next_told-index.result in
    let w : BandWalk = record { band = c.args.self.now; bits = c.args.reader.now; parts = c.args.parts.now.items } in
    let all : n ≡ c.args.self.now.shape.width * c.args.self.now.shape.height = ap (λ (b : BandState). b.shape.width * b.shape.height) c.self.view_is in
    let within = c.next_told-index.ensures.within in
    record {
      end_is = all;
      within = omega (arith, within, all);
      kept = refl;
      told = sym (blocks_skipped c.args.number c.args.layer 0 i n w (omega arith) (omega (arith, within, all)) (λ j least less. c.next_told-index.ensures.silent j least less c.args.number c.args.reader.now c.args.parts.now.items))
          ∙ ap (λ k. blocks_at c.args.number c.args.layer k 0 w) (let e : n - 0 ≡ n = omega arith in e);
    }

pub loop-index-preserved : goal.loop-index-preserved
loop-index-preserved c =
    let i = c.loop-index.index in
    let n = c.self.inside.shape.across * c.self.inside.shape.down in
    let w : BandWalk = record { band = c.loop-index.self; bits = c.loop-index.reader; parts = c.loop-index.parts.items } in
    let v : BandWalk = record { band = c.read_block.new.self; bits = c.read_block.new.reader; parts = c.read_block.new.parts.items } in
    let next = c.next_told-index-in-loop-index in
    let less = c.loop-index-test.true in
    let more : n - i ≡ suc (n - (i + 1)) = omega (arith, less) in
    let kept = c.read_block.ensures.kept ∙ c.loop-index.invariant.kept in
    let all : n ≡ c.read_block.new.self.shape.width * c.read_block.new.self.shape.height = c.loop-index.invariant.end_is ∙ ap (λ (x : Shape). x.width * x.height) (sym kept) in
    let within : next.result ≤ n = (let f = next.ensures.within in omega (arith, f, all)) in
    record {
      end_is = c.loop-index.invariant.end_is;
      within = within;
      kept = kept;
      told =
          sym (blocks_skipped c.args.number c.args.layer (i + 1) next.result n v next.ensures.from within (λ j least under. next.ensures.silent j least under c.args.number c.read_block.new.reader c.read_block.new.parts.items))
          ∙ sym (blocks_next c.args.number c.args.layer (n - (i + 1)) i w v c.in_ok-read_block.ensures.exact)
          ∙ ap (λ k. blocks_at c.args.number c.args.layer k i w) (sym more)
          ∙ c.loop-index.invariant.told;
    }

pub returns : goal.returns
returns c =
    let i = c.loop-index.index in
    let n = c.self.inside.shape.across * c.self.inside.shape.down in
    let w : BandWalk = record { band = c.loop-index.self; bits = c.loop-index.reader; parts = c.loop-index.parts.items } in
    let none : n - i ≡ 0 = (let t = c.loop-index-test.false in omega (arith, t)) in
    let all : n ≡ c.args.self.now.shape.width * c.args.self.now.shape.height = c.loop-index.invariant.end_is in
    ap (λ k. blocks_at c.args.number c.args.layer k 0 record { band = c.args.self.now; bits = c.args.reader.now; parts = c.args.parts.now.items }) (sym all)
    ∙ sym c.loop-index.invariant.told
    ∙ ap (λ k. blocks_at c.args.number c.args.layer k i w) none
    ∙ blocks_none c.args.number c.args.layer i w
