use Rattle.std.proofs.Common.{◌≡◌, suc, ◌+◌, ◌-◌, Bool, cond, Ok, sym, ap, ◌∙◌, arith}
use Rattle.std.proofs.lemmas.Result.{err_from_is_err_and}
use Rattle.jk_packet.specs.Reading.{growth_at}
use Rattle.jk_packet.proofs.ReadLaws.{growth_none, growth_next, growth_err}
use Rattle.jk_packet.proofs.words.read_growth.Goals as goal

pub returns-in_err-grows-clause-exact : goal.returns-in_err-grows-clause-exact
returns-in_err-grows-clause-exact c =
    let g = c.loop-growth.growth in
    let p = err_from_is_err_and c.from_residual.result c.from_residual.ensures.1 in
    let more : c.args.room - g ≡ suc (c.args.room - (g + 1)) = (let t = c.loop-growth-test.true in omega (arith, t)) in
    rw (p.1, p.2) (sym c.loop-growth.invariant.told ∙ ap (λ k. growth_at k g c.loop-growth.reader) more
    ∙ growth_err (c.args.room - (g + 1)) g c.loop-growth.reader c.in_err-grows.field-0.0 c.in_err-grows.ensures.exact)

pub returns-then-not-grows-clause-exact : goal.returns-then-not-grows-clause-exact
returns-then-not-grows-clause-exact c =
    let g = c.loop-growth.growth in
    let more : c.args.room - g ≡ suc (c.args.room - (g + 1)) = (let t = c.loop-growth-test.true in omega (arith, t)) in
    sym c.loop-growth.invariant.told ∙ ap (λ k. growth_at k g c.loop-growth.reader) more
    ∙ growth_next (c.args.room - (g + 1)) g c.loop-growth.reader (c.in_ok-grows.grows, c.bit.new.self) c.in_ok-grows.ensures.exact
    ∙ ap (λ (b : Bool). cond b (growth_at (c.args.room - (g + 1)) (g + 1) c.bit.new.self) (Ok (g, c.bit.new.self))) c.if-not-grows.true

pub loop-growth-preserved : goal.loop-growth-preserved
loop-growth-preserved c =
    let g = c.loop-growth.growth in
    let more : c.args.room - g ≡ suc (c.args.room - (g + 1)) = (let t = c.loop-growth-test.true in omega (arith, t)) in
    record {
      within = (let t = c.loop-growth-test.true in omega (arith, t));
      room_fits = c.loop-growth.invariant.room_fits;
      told =
          sym (sym c.loop-growth.invariant.told ∙ ap (λ k. growth_at k g c.loop-growth.reader) more
          ∙ growth_next (c.args.room - (g + 1)) g c.loop-growth.reader (c.in_ok-grows.grows, c.bit.new.self) c.in_ok-grows.ensures.exact
          ∙ ap (λ (b : Bool). cond b (growth_at (c.args.room - (g + 1)) (g + 1) c.bit.new.self) (Ok (g, c.bit.new.self))) c.if-not-grows.false);
    }

pub returns-clause-exact : goal.returns-clause-exact
returns-clause-exact c =
    let g = c.loop-growth.growth in
    let none : c.args.room - g ≡ 0 = (let t = c.loop-growth-test.false in omega (arith, t)) in
    sym c.loop-growth.invariant.told ∙ ap (λ k. growth_at k g c.loop-growth.reader) none ∙ growth_none g c.loop-growth.reader
