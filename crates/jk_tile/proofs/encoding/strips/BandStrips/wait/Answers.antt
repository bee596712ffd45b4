use Rattle.std.proofs.Common.{ℤ, ap, ◌∙◌}
use Rattle.std.specs.Global.{Vec}
use Rattle.jk_tile.proofs.encoding.Waiting.{waits_holds, waits_rows}
use Rattle.jk_tile.proofs.encoding.strips.BandStrips.wait.Goals as goal

pub returns-clause-holds : goal.returns-clause-holds
returns-clause-holds c s holds some whole =
    waits_holds s c.args.self.now c.replace-values.result c.replace-values.new.dest c.replace-room.new.dest c.push.new.self holds some whole (ap (λ (v : Vec ℤ). v.items) c.replace-values.ensures.value) c.in_ok-push.ensures.items
    (ap (λ (v : Vec ℤ). v.items) c.replace-values.ensures.after ∙ c.clear.ensures.items)

pub returns-clause-rows : goal.returns-clause-rows
returns-clause-rows c s f has =
    waits_rows s f c.args.self.now c.replace-values.result c.replace-values.new.dest c.replace-room.new.dest c.push.new.self (ap (λ (v : Vec ℤ). v.items) c.replace-values.ensures.value) c.in_ok-push.ensures.items
    (ap (λ (v : Vec ℤ). v.items) c.replace-values.ensures.after ∙ c.clear.ensures.items) has
