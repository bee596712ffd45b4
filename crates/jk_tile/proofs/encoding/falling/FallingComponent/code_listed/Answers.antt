use Rattle.std.proofs.lemmas.Result.{on_ok_weaker}
use Rattle.jk_wave.specs.Analysis.{analysed}
use Rattle.jk_tile.proofs.encoding.falling.FallingComponent.code_listed.Goals as goal

pub code_listed-requires-clause-bands : goal.code_listed-requires-clause-bands
code_listed-requires-clause-bands c = (c.args.self.now.y, c.requires.standing.bands)

pub returns-clause-standing : goal.returns-clause-standing
returns-clause-standing c =
    let standing = c.requires.standing in
    on_ok_weaker c.code_listed.result (λ keeps. record {
      frame = standing.frame;
      rect = standing.rect;
      levels = standing.levels;
      place = standing.place;
      taken = standing.taken;
      bands = keeps c.args.self.now.y standing.bands;
    }) c.code_listed.ensures.bands

pub returns-clause-rows : goal.returns-clause-rows
returns-clause-rows c =
    let s = c.args.source.now in
    on_ok_weaker c.code_listed.result (λ keeps f has. record { given = has.given; bands = keeps (analysed s.rect s.coding.levels f) has.bands }) c.code_listed.ensures.rows
