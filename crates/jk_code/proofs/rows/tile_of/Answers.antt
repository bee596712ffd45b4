use Rattle.std.proofs.Common.{◌≡◌, ◌<◌, List, [], get_or, length, ◌∙◌, ap, sym, subst, arith}
use Rattle.std.proofs.lemmas.List.{get_or_default}
use Rattle.jk_marks.specs.Siz.{tile_count}
use Rattle.jk_walk.specs.declared.places.PacketPlace.{PacketPlace}
use Rattle.jk_walk.proofs.Laws.{packets_within}
use Rattle.jk_code.specs.Sources.{ImageSource}
use Rattle.jk_code.specs.Rows.{tile_source}
use Rattle.jk_code.proofs.Placing.{ends_of, tile_places}
use Rattle.jk_code.proofs.Tiling.{tile_levels}
use Rattle.jk_code.proofs.rows.tile_of.Goals as goal

pub invariant_of-result : goal.invariant_of-result
invariant_of-result c =
    let i = c.coded.inside in
    let bytes = i.bytes.now in
    let h = i.headers.now in
    let t = c.args.number in
    let lt : t < tile_count h.siz = subst (λ (s : ImageSource). t < tile_count s.headers.siz) (sym c.coded.view_is) c.requires.number in
    let places = c.index-packets-number.result in
    let read = tile_places bytes h (tile_count h.siz) t i.packets.now places c.coded.invariant.packets lt c.index-packets-number.is in
    record {
      sound = c.coded.invariant.sound;
      is_tile = lt;
      ends = ends_of (length bytes) _ places (packets_within bytes h t places c.coded.invariant.sound lt read);
      levels = tile_levels i.reduce h.tiles t c.coded.invariant.levels (omega (arith, lt, c.coded.invariant.sound.tiles));
    }

pub returns : goal.returns
returns c =
    let i = c.coded.inside in
    let h = i.headers.now in
    let t = c.args.number in
    let lt : t < tile_count h.siz = subst (λ (s : ImageSource). t < tile_count s.headers.siz) (sym c.coded.view_is) c.requires.number in
    let places = c.index-packets-number.result in
    let count = c.coded.invariant.packets.count in
    let same : places ≡ get_or i.packets.now t [] = c.index-packets-number.is ∙ sym (get_or_default i.packets.now t [] places (omega (arith, lt, count))) in
    subst (λ (s : ImageSource). record { headers = h; bytes = i.bytes.now; number = t; packets = places; reduce = i.reduce } ≡ tile_source s t) c.coded.view_is
    (ap (λ (ws : List PacketPlace). record { headers = h; bytes = i.bytes.now; number = t; packets = ws; reduce = i.reduce }) same)
