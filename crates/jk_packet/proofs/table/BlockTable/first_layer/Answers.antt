use Rattle.std.proofs.Common.{◌≡◌, ◌+◌, true, false, length, get_or, sym, ap, ◌∙◌, arith}
use Rattle.std.specs.Prelude.{nat_eq}
use Rattle.std.proofs.lemmas.Bool.Decides.{nat_tests}
use Rattle.jk_packet.specs.Written.{Table, first_in, table_of}
use Rattle.jk_packet.proofs.TableLaws.{first_of, first_table, length-table, first_here, first_next, first_end}
use Rattle.jk_packet.proofs.table.BlockTable.first_layer.Goals as goal

pub loop-part-init : goal.loop-part-init
loop-part-init c = record { here = omega arith; rest = omega arith }

pub returns-then-part-ne0 : goal.returns-then-part-ne0
returns-then-part-ne0 c =
    let s = c.self.inside in
    let i = c.loop-part.part-index in
    let parts = c.deref-part-items.result.now in
    let some : nat_eq (get_or parts i record { passes = 0; end = 0 }).passes 0 ≡ false = (let h = c.if-part-ne0.true in grind (arith, nat_tests)) in
    let rest = first_here parts i _ c.loop-part-test.true some in
    let all : i ≡ first_of s.parts.items = (let r = c.loop-part.invariant.rest in let e = ap first_of c.deref-part-items.ensures.value in omega (arith, rest, r, e)) in
    c.loop-part.invariant.here
    ∙ ap (λ n. s.skipped + n) all
    ∙ sym (first_table s.zero_planes s.skipped s.parts.items s.bytes.items)
    ∙ ap (λ (t : Table). first_in t.parts) c.self.view_is

pub overflow_add-first : goal.overflow_add-first
overflow_add-first c =
    let s = c.self.inside in
    let long = length-table s.zero_planes s.skipped s.parts.items s.bytes.items in
    let same : length (table_of s.zero_planes s.skipped s.parts.items s.bytes.items).parts ≡ length c.args.self.now.parts = ap (λ (t : Table). length t.parts) c.self.view_is in
    let few = c.requires in
    let less = c.loop-part-test.true in
    let here = c.loop-part.invariant.here in
    let own = ap length c.deref-part-items.ensures.value in
    omega (arith, long, same, few, less, here, own)

pub loop-part-preserved : goal.loop-part-preserved
loop-part-preserved c =
    let i = c.loop-part.part-index in
    let parts = c.deref-part-items.result.now in
    let none : nat_eq (get_or parts i record { passes = 0; end = 0 }).passes 0 ≡ true = (let h = c.if-part-ne0.false in grind (arith, nat_tests)) in
    let rest = first_next parts i _ c.loop-part-test.true none in
    let here = c.loop-part.invariant.here in
    let was = c.loop-part.invariant.rest in
    record { here = omega (arith, here); rest = omega (arith, rest, was) }

pub returns : goal.returns
returns c =
    let s = c.self.inside in
    let i = c.loop-part.part-index in
    let parts = c.deref-part-items.result.now in
    let rest = first_end parts i c.loop-part-test.false in
    let all : i ≡ first_of s.parts.items = (let r = c.loop-part.invariant.rest in let e = ap first_of c.deref-part-items.ensures.value in omega (arith, rest, r, e)) in
    c.loop-part.invariant.here
    ∙ ap (λ n. s.skipped + n) all
    ∙ sym (first_table s.zero_planes s.skipped s.parts.items s.bytes.items)
    ∙ ap (λ (t : Table). first_in t.parts) c.self.view_is
