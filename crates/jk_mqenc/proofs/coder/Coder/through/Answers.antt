use Rattle.std.proofs.Common.{◌≡◌, ◌∙◌, ap, sym, subst, refl, ◌+◌, ◌-◌, ◌*◌, ◌%◌, ◌^◌, arith}
use Rattle.jk_mqenc.specs.declared.registers.Registers.{Registers}
use Rattle.jk_mqenc.specs.Machine.{placed_after}
use Rattle.jk_mqenc.specs.Encoded.{with_registers}
use Rattle.jk_mqenc.proofs.Finishing.{at_of}
use Rattle.jk_mqenc.proofs.Renorming.{comes-first}
use Rattle.jk_mqenc.proofs.Passing.{Passing, can-put, can-pass, passes, passes-last, passes-ready}
use Rattle.jk_mqenc.proofs.coder.Coder.through.Goals as goal

pub code_at_byte-requires : goal.code_at_byte-requires
code_at_byte-requires c =
    let room = (can-put (with_registers c.args.self.now c.args.taken) c.requires.due c.requires.holds).room in
    omega (arith, room)

pub put-requires-clause-room : goal.put-requires-clause-room
put-requires-clause-room c =
    let room = (can-put (with_registers c.args.self.now c.args.taken) c.requires.due c.requires.holds).room in
    omega (arith, room, c.code_at_byte.ensures)

pub put-requires-clause-first : goal.put-requires-clause-first
put-requires-clause-first c = λ none.
    let first = (can-put (with_registers c.args.self.now c.args.taken) c.requires.due c.requires.holds).first none in
    omega (arith, first, c.code_at_byte.ensures)

pub loop-placed-init : goal.loop-placed-init
loop-placed-init c =
    let old = c.args.self.now in
    let taken = c.args.taken in
    let new = c.put.new.self in
    let p = c.in_ok-placed.placed in
    let times = taken.count + c.doublings_behind_byte-due.result in
    let brings = c.doublings_behind_byte-due.ensures in
    let first = with_registers old taken in
    subst (λ x. Passing old taken new p.code p.count x) (let left : times - taken.count ≡ c.doublings_behind_byte-due.result = omega arith in left)
    (passes old taken new first p.code p.count times times (comes-first first c.requires.count c.requires.holds) (omega arith) refl brings.fits brings.wide
    (λ w. ap (λ x. placed_after old.placed x w) (sym c.code_at_byte.ensures) ∙ c.in_ok-placed.ensures.placed w))

pub put-requires-in-loop-placed-clause-room : goal.put-requires-in-loop-placed-clause-room
put-requires-in-loop-placed-clause-room c =
    let l = c.loop-placed in
    let room = (can-pass c.args.self.now c.args.taken l.self l.placed.code l.placed.count l.due l.invariant c.loop-placed-test.true).room in
    omega (arith, room)

pub put-requires-in-loop-placed-clause-first : goal.put-requires-in-loop-placed-clause-first
put-requires-in-loop-placed-clause-first c = λ none.
    let l = c.loop-placed in
    let first = (can-pass c.args.self.now c.args.taken l.self l.placed.code l.placed.count l.due l.invariant c.loop-placed-test.true).first none in
    omega (arith, first)

pub loop-placed-preserved : goal.loop-placed-preserved
loop-placed-preserved c =
    let l = c.loop-placed in
    let i = l.invariant in
    let p = c.in_ok-placed-2.placed in
    let many = c.loop-placed-test.true in
    let room = (can-pass c.args.self.now c.args.taken l.self l.placed.code l.placed.count l.due i many).room in
    let code : l.placed.code * 2 ^ l.placed.count ≡ l.placed.code * 2 ^ l.placed.count % 2 ^ 32 = omega (arith, room) in
    passes c.args.self.now c.args.taken c.put-in-loop-placed.new.self (at_of l.placed.code i.width l.placed.count l.self.placed) p.code p.count l.due i.times i.comes many i.whole i.fits i.wide
    (λ w. ap (λ x. placed_after l.self.placed x w) code ∙ c.in_ok-placed-2.ensures.placed w)

pub renormalised-requires-clause-code : goal.renormalised-requires-clause-code
renormalised-requires-clause-code c =
    let l = c.loop-placed in
    let code = (passes-ready c.args.self.now c.args.taken l.self l.placed.code l.placed.count l.due l.invariant c.loop-placed-test.false c.requires.count c.requires.holds).code in
    omega (arith, code)

pub returns : goal.returns
returns c = record {
  done =
      let l = c.loop-placed in
      let i = l.invariant in
      let less = c.loop-placed-test.false in
      let code = (passes-ready c.args.self.now c.args.taken l.self l.placed.code l.placed.count l.due i less c.requires.count c.requires.holds).code in
      let whole : l.placed.code * 2 ^ l.due % 2 ^ 32 ≡ l.placed.code * 2 ^ l.due = omega (arith, code) in
      ap (λ (r : Registers). with_registers l.self r) (c.renormalised.ensures i.times i.fits i.wide)
      ∙ ap (λ x. at_of x (c.args.taken.width * 2 ^ i.times) (l.placed.count - l.due) l.self.placed) whole
      ∙ passes-last c.args.self.now c.args.taken l.self l.placed.code l.placed.count l.due i less;
}
