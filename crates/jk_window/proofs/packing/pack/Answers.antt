use Rattle.std.proofs.Common.{◌≡◌, ◌*◌, ◌+◌, ◌-◌, ◌≤◌, [], ◌∷◌, length, take, drop, refl, ap, ◌∙◌, arith, length-append}
use Rattle.std.specs.Int.{div_ceil}
use Rattle.jk_window.proofs.PackedLaws.{spell_more, spelled_all, all_spelled}
use Rattle.jk_window.proofs.PackingLaws.{all_packed}
use Rattle.jk_window.proofs.packing.pack.Goals as goal

pub loop-number-preserved : goal.loop-number-preserved
loop-number-preserved c =
    let entries = c.args.entries.now in
    let old = c.loop-number.lists in
    let new = c.add_group.new.lists in
    let m = c.loop-number.number in
    let behind = m * 64 + c.min.result in
    let before = c.loop-number.invariant in
    let more = c.in_ok-add_group.ensures.ok in
    let long : length new.groups.items ≡ length old.groups.items + 1 = ap length more.groups ∙ length-append old.groups.items (more.group ∷ []) in
    let count = before.count in
    let least = c.min.ensures in
    record {
      count = omega (arith, long, count);
      level = more.level before.level;
      spell = spell_more old new entries (take (behind - m * 64) (drop (m * 64) entries)) m behind before.spell count refl (λ k lt within. omega (arith, least, lt, within)) more;
    }

pub new-requires : goal.new-requires
new-requires c =
    let many : div_ceil (length c.args.entries.now) 64 ≤ c.loop-number.number = omega (arith, c.loop-number-test.false, c.div_ceil-number-end.ensures) in
    let same = c.fit.ensures in
    all_spelled c.fit.new.self c.args.entries.now
    (all_packed c.loop-number.lists c.fit.new.self c.args.entries.now c.loop-number.number c.loop-number.invariant.spell many same.groups same.marks same.headers same.near same.wide)

pub returns-clause-value : goal.returns-clause-value
returns-clause-value c =
    let many : div_ceil (length c.args.entries.now) 64 ≤ c.loop-number.number = omega (arith, c.loop-number-test.false, c.div_ceil-number-end.ensures) in
    let same = c.fit.ensures in
    c.new.ensures
    ∙ spelled_all c.fit.new.self c.args.entries.now
    (all_packed c.loop-number.lists c.fit.new.self c.args.entries.now c.loop-number.number c.loop-number.invariant.spell many same.groups same.marks same.headers same.near same.wide)
