use Rattle.jk_tile.proofs.encoding.Waiting.{first_removed, first_whole, coded_holds, coded_rows}
use Rattle.jk_tile.proofs.encoding.strips.BandStrips.code_first.Goals as goal

pub code_strip-requires-clause-strip : goal.code_strip-requires-clause-strip
code_strip-requires-clause-strip c =
    let b = c.args.self.now in
    first_whole c.args.source.now b c.remove-row.result c.remove-row.new.self.items c.deref.result.now c.requires.holds.0 (first_removed b.waiting.items c.remove-row.new.self.items c.remove-row.result c.requires.some c.remove-row.ensures.value c.remove-row.ensures.items) c.deref.ensures.value

pub returns-clause-holds : goal.returns-clause-holds
returns-clause-holds c =
    let b = c.args.self.now in
    coded_holds c.args.source.now b c.remove-row.result c.remove-row.new.self c.deref.result.now c.keep_room.new.numbers c.keep_room.new.next c.code_strip.new.coded c.requires.holds
    (record { waiting = first_removed b.waiting.items c.remove-row.new.self.items c.remove-row.result c.requires.some c.remove-row.ensures.value c.remove-row.ensures.items; values_are = c.deref.ensures.value; strip_is = c.keep_room.ensures; count = c.in_ok-code_strip.ensures.count; blocks_are = c.in_ok-code_strip.ensures.coded })

pub returns-clause-rows : goal.returns-clause-rows
returns-clause-rows c f has =
    let b = c.args.self.now in
    coded_rows c.args.source.now f b c.remove-row.result c.remove-row.new.self c.deref.result.now c.keep_room.new.numbers c.keep_room.new.next c.code_strip.new.coded c.requires.holds.0
    (record { waiting = first_removed b.waiting.items c.remove-row.new.self.items c.remove-row.result c.requires.some c.remove-row.ensures.value c.remove-row.ensures.items; values_are = c.deref.ensures.value; strip_is = c.keep_room.ensures; count = c.in_ok-code_strip.ensures.count; blocks_are = c.in_ok-code_strip.ensures.coded }) has
