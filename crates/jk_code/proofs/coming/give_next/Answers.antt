use Rattle.std.proofs.Common.{◌≡◌, ◌≤◌, ◌+◌, length, sym, subst, ◌∙◌, arith}
use Rattle.std.proofs.lemmas.Result.{err_from_is_err_and}
use Rattle.jk_math.specs.Picture.{IsPicture}
use Rattle.jk_code.specs.ComingRows.{area_of_coming, AreFalling, HaveRows}
use Rattle.jk_code.specs.ComingWalks.{IsBetweenTiles}
use Rattle.jk_code.proofs.PictureRows.{joined, same_self}
use Rattle.jk_code.proofs.ComingWalkLaws.{given_step}
use Rattle.jk_code.proofs.coming.give_next.Goals as goal

pub give_stripe-requires : goal.give_stripe-requires
give_stripe-requires g c =
    let s = c.args.coming.now in
    let w = c.args.walk.now in
    let before = c.requires.before in
    let was = before.given.1 in
    let v = c.in_ok-stripe.stripe in
    let z = c.step_end-end.result in
    let first : c.len-first.result ≡ length w.fallen.items = omega (arith, c.len-first.ensures) in
    let is : IsPicture v = subst IsPicture c.stripe.view_is c.stripe.invariant in
    let step = given_step g.S.RowSupply.framed g.S.RowSupply.next g.S.RowSupply.gave s before.given.0 c.args.supply.now c.give.new.self v z w before.walk c.step_end-end.ensures.more c.step_end-end.ensures.to is c.in_ok-stripe.ensures.rows c.in_ok-stripe.ensures.gave was in
    let all = joined w.y was.picture v in
    let agrees = step.agrees all (same_self all s.frame.y0 z) in
    let few = before.walk.below.few in
    let inside = c.step_end-end.ensures.to in
    let end = step.end in
    record {
      coming = c.requires.coming;
      picture = is;
      whole = omega (arith, few, first);
      tiles = subst (λ n. AreFalling s n v.y0 w.tiles.items) (sym first) (subst (λ y. AreFalling s (length w.fallen.items) y w.tiles.items) (sym step.start) before.walk.tiles);
      stripe = step.stripe;
      lower = λ k lt. subst (λ n. v.y0 + v.height ≤ (area_of_coming s (n + k)).y1) (sym first) (let bound = before.walk.lower k lt in omega (arith, bound, end, inside));
      given = (all, step.given.picture, step.given.frame, agrees.stripe, subst (λ n. HaveRows s n all w.tiles.items) (sym first) (was.of all agrees.before).rows);
    }

pub returns-in_err-stripe-clause-err : goal.returns-in_err-stripe-clause-err
returns-in_err-stripe-clause-err g c =
    let same = err_from_is_err_and c.from_residual.result c.from_residual.ensures.1 in
    rw (same.1, same.2) c.in_err-stripe.ensures.met

pub returns-clause-step : goal.returns-clause-step
returns-clause-step g c =
    let s = c.args.coming.now in
    let w = c.args.walk.now in
    let before = c.requires.before in
    let walk = before.walk in
    let v = c.in_ok-stripe.stripe in
    let z = c.step_end-end.result in
    let first : c.len-first.result ≡ length w.fallen.items = omega (arith, c.len-first.ensures) in
    let is : IsPicture v = subst IsPicture c.stripe.view_is c.stripe.invariant in
    let end = (given_step g.S.RowSupply.framed g.S.RowSupply.next g.S.RowSupply.gave s before.given.0 c.args.supply.now c.give.new.self v z w walk c.step_end-end.ensures.more c.step_end-end.ensures.to is c.in_ok-stripe.ensures.rows c.in_ok-stripe.ensures.gave before.given.1).end in
    let done = c.in_ok-give_stripe.ensures in
    let new = c.give_stripe.new.tiles.items in
    let count = done.count in
    let more = c.step_end-end.ensures.more in
    let top = walk.top in
    record {
      walk = record {
        fallen = walk.fallen;
        tiles = subst (λ n. AreFalling s n z new) first (subst (λ y. AreFalling s c.len-first.result y new) end done.tiles);
        lower = λ k lt. walk.lower k (omega (arith, lt, count));
        below = subst (λ n. IsBetweenTiles s (length w.fallen.items + n) w.end) (sym count) walk.below;
        top = omega (arith, top, more);
        order = c.step_end-end.ensures.to;
        bottom = walk.bottom;
        some = walk.some;
      };
      down = more;
      given = λ from was.
          (let step = given_step g.S.RowSupply.framed g.S.RowSupply.next g.S.RowSupply.gave s from c.args.supply.now c.give.new.self v z w walk c.step_end-end.ensures.more c.step_end-end.ensures.to is c.in_ok-stripe.ensures.rows c.in_ok-stripe.ensures.gave was in
          record {
            frame = c.in_ok-stripe.ensures.stays ∙ was.frame;
            row = c.in_ok-stripe.ensures.next;
            picture = joined w.y was.picture v;
            given = step.given;
            of = λ p rows.
                (let agrees = step.agrees p rows in
                let held = was.of p agrees.before in
                record {
                  coded = held.coded;
                  rows = subst (λ n. HaveRows s n p new) first (done.rows p (sym rows.frame ∙ step.given.frame) agrees.stripe (subst (λ n. HaveRows s n p w.tiles.items) (sym first) held.rows));
                });
          });
    }
