use Rattle.std.proofs.Common.{◌*◌, List, [], ◌++◌, replicate, refl, ap, ◌∙◌}
use Rattle.std.specs.Global.{Vec}
use Rattle.jk_math.specs.Lists.{lists_of}
use Rattle.jk_tile.specs.encoding.Layered.{Layered}
use Rattle.jk_tile.specs.declared.encoding.strips.BandStrips.{BandStrips}
use Rattle.jk_tile.proofs.encoding.TileLists.{count_of}
use Rattle.jk_tile.proofs.encoding.Waiting.{band_given, first_holds, first_rows}
use Rattle.jk_tile.proofs.encoding.strips.BandStrips.new.Goals as goal

pub returns-clause-holds : goal.returns-clause-holds
returns-clause-holds c =
    let s = c.args.source.now in
    let b : BandStrips = record {
      resolution = c.args.r;
      band = c.args.i;
      top = c.band-area.result.y0;
      waiting = c.new.result;
      area = record { x0 = c.band-area.result.x0; y0 = c.band-area.result.y0; x1 = c.band-area.result.x1; y1 = c.band-area.result.y0 };
      strip = c.in_ok-strip.strip;
      room = c.new-2.result;
      blocks = c.add_lists.new.lists;
      bits = 0;
    } in
    first_holds s b c.band-area.result (c.precinct_count-across.result.0 * c.precinct_count-across.result.1) (record {
      resolution = c.requires.r;
      band = c.requires.i;
      own = band_given s b c.rect-rect.result c.band-area.result c.coding-coding.result.now c.orientation.result c.requires.i c.rect-rect.ensures.value c.coding-coding.ensures.value c.orientation.ensures c.band-area.ensures.value;
      bounds = c.band-area.ensures.area;
      rows = refl;
      top = refl;
      waiting = c.new.ensures.items;
      strip = c.in_ok-strip.ensures.items;
      blocks = c.in_ok-add_lists.ensures.lists ∙ ap (λ (l : List (Vec Layered)). lists_of l ++ replicate (c.precinct_count-across.result.0 * c.precinct_count-across.result.1) []) c.new-blocks.ensures.items;
      number = count_of c.rect-rect.result s.rect c.coding-coding.result.now s.coding c.args.r c.precinct_count-across.result.0 c.precinct_count-across.result.1 c.rect-rect.ensures.value c.coding-coding.ensures.value c.precinct_count-across.ensures.across c.precinct_count-across.ensures.down;
      bits = refl;
    })

pub returns-clause-rows : goal.returns-clause-rows
returns-clause-rows c f =
    let s = c.args.source.now in
    let b : BandStrips = record {
      resolution = c.args.r;
      band = c.args.i;
      top = c.band-area.result.y0;
      waiting = c.new.result;
      area = record { x0 = c.band-area.result.x0; y0 = c.band-area.result.y0; x1 = c.band-area.result.x1; y1 = c.band-area.result.y0 };
      strip = c.in_ok-strip.strip;
      room = c.new-2.result;
      blocks = c.add_lists.new.lists;
      bits = 0;
    } in
    first_rows s f b c.band-area.result (c.precinct_count-across.result.0 * c.precinct_count-across.result.1) (record {
      resolution = c.requires.r;
      band = c.requires.i;
      own = band_given s b c.rect-rect.result c.band-area.result c.coding-coding.result.now c.orientation.result c.requires.i c.rect-rect.ensures.value c.coding-coding.ensures.value c.orientation.ensures c.band-area.ensures.value;
      bounds = c.band-area.ensures.area;
      rows = refl;
      top = refl;
      waiting = c.new.ensures.items;
      strip = c.in_ok-strip.ensures.items;
      blocks = c.in_ok-add_lists.ensures.lists ∙ ap (λ (l : List (Vec Layered)). lists_of l ++ replicate (c.precinct_count-across.result.0 * c.precinct_count-across.result.1) []) c.new-blocks.ensures.items;
      number = count_of c.rect-rect.result s.rect c.coding-coding.result.now s.coding c.args.r c.precinct_count-across.result.0 c.precinct_count-across.result.1 c.rect-rect.ensures.value c.coding-coding.ensures.value c.precinct_count-across.ensures.across c.precinct_count-across.ensures.down;
      bits = refl;
    })
