use Rattle.std.proofs.Common.{◌≡◌, ◌<◌, length, arith}
use Rattle.jk_packet.proofs.BandWriting.{front_goes, front_ends, ready_next}
use Rattle.jk_packet.proofs.writing.write_band.Goals as goal

pub loop-index-preserved : goal.loop-index-preserved
loop-index-preserved c =
    let b = c.args.shape in
    let ts = c.args.tables.now in
    let i = c.loop-index.index in
    let less : i < length ts = (let t = c.loop-index-test.true in let e = c.requires.tables.3.long in omega (arith, t, e)) in
    record {
      ready = c.in_ok-write_block.ensures.ready;
      told = λ layers follow speak.
          let before = c.loop-index.invariant.told layers follow speak in
          front_goes b ts c.args.layer i layers c.loop-index.band c.write_block.new.band c.args.writer.now c.loop-index.writer c.write_block.new.writer less before (c.in_ok-write_block.ensures.told layers follow before.1);
    }

pub returns-clause-ready : goal.returns-clause-ready
returns-clause-ready c =
    let b = c.args.shape in
    ready_next b c.args.tables.now c.args.layer c.loop-index.index c.loop-index.band (let t = c.loop-index-test.false in let e = c.loop-index.auto.index-end in omega (arith, t, e)) c.loop-index.invariant.ready

pub returns-clause-told : goal.returns-clause-told
returns-clause-told c = λ layers follow speak.
    let b = c.args.shape in
    let ts = c.args.tables.now in
    let i = c.loop-index.index in
    let all : i ≡ length ts = (let t = c.loop-index-test.false in let e = c.requires.tables.3.long in let n = c.loop-index.auto.index-end in omega (arith, t, e, n)) in
    front_ends b ts c.args.layer i layers c.loop-index.band c.args.writer.now c.loop-index.writer all (c.loop-index.invariant.told layers follow speak)
