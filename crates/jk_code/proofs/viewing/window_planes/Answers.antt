use Rattle.std.proofs.Common.{◌≡◌, ◌<◌, ℕ, ℤ, if◌then◌else◌, List, Option, length, Ok, Err, ◌∙◌, ap, sym, subst, inl, inr, arith}
use Rattle.std.specs.Global.{Vec}
use Rattle.std.proofs.lemmas.Bool.{cases_eq}
use Rattle.std.proofs.lemmas.Result.{err_from_is_err_and}
use Rattle.jk_math.specs.declared.rect.Rect.{Rect}
use Rattle.jk_marks.specs.declared.siz.Siz.{Siz}
use Rattle.jk_marks.specs.Siz.{tile_count}
use Rattle.jk_params.specs.Headers.{Headers}
use Rattle.jk_walk.specs.declared.places.PacketPlace.{PacketPlace}
use Rattle.jk_tile.specs.decoding.TileReading.{tested, part_planes_at}
use Rattle.jk_tile.proofs.Laws.{fine, each_none, each_more, each_fails, refuses_on}
use Rattle.jk_math.specs.Lists.{lists_of}
use Rattle.jk_tile.specs.Filling.{IsPartOf}
use Rattle.jk_window.specs.Views.{HaveLevels, frame_of}
use Rattle.jk_code.specs.MeaningReading.{places_or, places_at, planes_of_tiles}
use Rattle.jk_code.specs.Sources.{CodestreamSource}
use Rattle.jk_code.specs.Tiles.{AreSeen, ArePlanes, KeepsSamples, ShowsTileAt}
use Rattle.jk_code.specs.ViewReading.{seen_part, is_seen, seen_parts_tested}
use Rattle.jk_walk.proofs.Laws.{packets_within}
use Rattle.jk_code.proofs.Placing.{within_part, planes_are, ends_of}
use Rattle.jk_code.proofs.ViewSteps.{if_true, if_false, some_kept, none_kept, none_seen}
use Rattle.jk_code.proofs.Tiling.{tile_levels}
use Rattle.jk_code.proofs.viewing.window_planes.Goals as goal
use Rattle.jk_code.proofs.viewing.window_planes.Goals.{in-Some+in_ok-show_tile, in_default}

-- the packets, by the fields of the source
packets_of : (s t : CodestreamSource) (d : ℕ) (w : Rect) (all : List (Option (List PacketPlace))) → s ≡ t → AreSeen t.bytes t.headers d w (tile_count t.headers.siz) all → AreSeen s.bytes s.headers d w (tile_count s.headers.siz) all
packets_of s t d w all same seen = subst (λ (x : CodestreamSource). AreSeen x.bytes x.headers d w (tile_count x.headers.siz) all) (sym same) seen

pub loop-number-init : goal.loop-number-init
loop-number-init c =
    let siz = ap (λ (s : Siz). s.components) c.siz.ensures in
    record {
      end_is = c.tile_count-number-end.ensures ∙ c.source.invariant.tiles;
      tested = each_none _;
      planes = record { count = c.in_ok-planes.ensures.count ∙ siz; each = λ i lt. c.in_ok-planes.ensures.each i (omega (arith, lt, siz)) };
      shows = λ t lt. absurd (omega (arith, lt));
    }

pub invariant_of-next : goal.invariant_of-next
invariant_of-next c =
    let bytes = c.source.inside.bytes.now in
    let h = c.source.inside.headers.now in
    let t = c.loop-number.number in
    let lt : t < tile_count h.siz = omega (arith, c.loop-number-test.true, c.loop-number.invariant.end_is) in
    let places = c.in-Some.packets in
    let read = (some_kept bytes h c.args.reduce c.args.window.now (tile_count h.siz) t c.args.all.now c.index-all-number.result places (packets_of _ c.args.source.now c.args.reduce c.args.window.now c.args.all.now c.source.view_is c.requires.packets) lt c.index-all-number.is c.in-Some.is).1 in
    record {
      sound = c.source.invariant;
      is_tile = lt;
      ends = ends_of (length bytes) _ places (packets_within bytes h t places c.source.invariant lt read);
      levels = tile_levels c.args.reduce h.tiles t (subst (λ (s : CodestreamSource). HaveLevels s.headers c.args.reduce) (sym c.source.view_is) c.requires.levels) (omega (arith, lt, c.source.invariant.tiles));
    }

pub show_tile-requires-clause-packets : goal.show_tile-requires-clause-packets
show_tile-requires-clause-packets c =
    let h = c.source.inside.headers.now in
    let lt : c.loop-number.number < tile_count h.siz = omega (arith, c.loop-number-test.true, c.loop-number.invariant.end_is) in
    (some_kept c.source.inside.bytes.now h c.args.reduce c.args.window.now (tile_count h.siz) c.loop-number.number c.args.all.now c.index-all-number.result c.in-Some.packets (packets_of _ c.args.source.now c.args.reduce c.args.window.now c.args.all.now c.source.view_is c.requires.packets) lt c.index-all-number.is c.in-Some.is).1

pub show_tile-requires-clause-seen : goal.show_tile-requires-clause-seen
show_tile-requires-clause-seen c =
    let h = c.source.inside.headers.now in
    let lt : c.loop-number.number < tile_count h.siz = omega (arith, c.loop-number-test.true, c.loop-number.invariant.end_is) in
    (some_kept c.source.inside.bytes.now h c.args.reduce c.args.window.now (tile_count h.siz) c.loop-number.number c.args.all.now c.index-all-number.result c.in-Some.packets (packets_of _ c.args.source.now c.args.reduce c.args.window.now c.args.all.now c.source.view_is c.requires.packets) lt c.index-all-number.is c.in-Some.is).0

pub returns-in_err-show_tile-clause-exact : goal.returns-in_err-show_tile-clause-exact
returns-in_err-show_tile-clause-exact c =
    let bytes = c.source.inside.bytes.now in
    let h = c.source.inside.headers.now in
    let d = c.args.reduce in
    let w = c.args.window.now in
    let n = c.loop-number.number in
    let e = c.in_err-show_tile.field-0.0 in
    let q = err_from_is_err_and c.from_residual-in_err-show_tile.result c.from_residual-in_err-show_tile.ensures.1 in
    let lt : n < tile_count h.siz = omega (arith, c.loop-number-test.true, c.loop-number.invariant.end_is) in
    let found = some_kept bytes h d w (tile_count h.siz) n c.args.all.now c.index-all-number.result c.in-Some.packets (packets_of _ c.args.source.now c.args.reduce c.args.window.now c.args.all.now c.source.view_is c.requires.packets) lt c.index-all-number.is c.in-Some.is in
    let same : places_at bytes h n ≡ c.in-Some.packets = ap places_or found.1 in
    rw (q.1, q.2) (refuses_on e (tested (part_planes_at bytes h n d (seen_part h d w n) c.in-Some.packets)) _ c.in_err-show_tile.ensures.exact
    (λ is. subst (λ (s : CodestreamSource). seen_parts_tested s.bytes s.headers d w (tile_count s.headers.siz) ≡ Err e) c.source.view_is
    (each_fails (tile_count h.siz) n (λ t. if is_seen h d w t then tested (part_planes_at bytes h t d (seen_part h d w t) (places_at bytes h t)) else Ok tt) e lt c.loop-number.invariant.tested
    (if_true (is_seen h d w n) (tested (part_planes_at bytes h n d (seen_part h d w n) (places_at bytes h n))) fine found.0
    ∙ ap (λ (ws : List PacketPlace). tested (part_planes_at bytes h n d (seen_part h d w n) ws)) same ∙ is))))

-- what is done of a tile
record IsDone (bytes : List ℕ) (h : Headers) (d : ℕ) (w : Rect) (t : ℕ) (old new : List (Vec ℤ)) : Type 0 where
  pub tested : (if is_seen h d w t then tested (part_planes_at bytes h t d (seen_part h d w t) (places_at bytes h t)) else Ok tt) ≡ fine
  pub planes : ArePlanes h w new
  pub keeps : KeepsSamples bytes h d w old new
  pub shows : ShowsTileAt bytes h d w t h.siz.components new

pub loop-number-preserved : goal.loop-number-preserved
loop-number-preserved c =
    let bytes = c.source.inside.bytes.now in
    let h = c.source.inside.headers.now in
    let d = c.args.reduce in
    let w = c.args.window.now in
    let n = c.loop-number.number in
    let all = c.args.all.now in
    let old = c.loop-number.planes.items in
    let lt : n < tile_count h.siz = omega (arith, c.loop-number-test.true, c.loop-number.invariant.end_is) in
    let done : IsDone bytes h d w n old c.match-all-number.planes.items = elim c.match-all-number.branch [
      | in-Some+in_ok-show_tile b ↦
          let found = some_kept bytes h d w (tile_count h.siz) n all c.index-all-number.result b.in-Some.packets (packets_of _ c.args.source.now c.args.reduce c.args.window.now c.args.all.now c.source.view_is c.requires.packets) lt c.index-all-number.is b.in-Some.is in
          let same : places_at bytes h n ≡ b.in-Some.packets = ap places_or found.1 in
          subst (λ v. IsDone bytes h d w n old v.items) (sym b.planes-is) (record {
            tested = if_true (is_seen h d w n) (tested (part_planes_at bytes h n d (seen_part h d w n) (places_at bytes h n))) fine found.0
                ∙ ap (λ (ws : List PacketPlace). tested (part_planes_at bytes h n d (seen_part h d w n) ws)) same ∙ b.in_ok-show_tile.ensures.exact;
            planes = b.in_ok-show_tile.ensures.planes;
            keeps = b.in_ok-show_tile.ensures.keeps;
            shows = b.in_ok-show_tile.ensures.shows;
          })
      | in_default b ↦
          let none = none_kept bytes h d w (tile_count h.siz) n all c.index-all-number.result (packets_of _ c.args.source.now c.args.reduce c.args.window.now c.args.all.now c.source.view_is c.requires.packets) lt c.index-all-number.is b.in_default.is in
          subst (λ v. IsDone bytes h d w n old v.items) (sym b.planes-is) (record {
            tested = if_false (is_seen h d w n) (tested (part_planes_at bytes h n d (seen_part h d w n) (places_at bytes h n))) fine none;
            planes = c.loop-number.invariant.planes;
            keeps = λ i x y some within before. before;
            shows = λ i x y few within inside. absurd (none_seen h d n w x y none within inside);
          })
    ] in
    record {
      end_is = c.loop-number.invariant.end_is;
      tested = each_more n (λ t. if is_seen h d w t then tested (part_planes_at bytes h t d (seen_part h d w t) (places_at bytes h t)) else Ok tt) c.loop-number.invariant.tested done.tested;
      planes = done.planes;
      shows = λ t less. elim (cases_eq t n) [
        | inl same ↦ subst (λ k. ShowsTileAt bytes h d w k h.siz.components c.match-all-number.planes.items) (sym same) done.shows
        | inr other ↦ λ i x y some within inside. done.keeps i x y some inside (c.loop-number.invariant.shows t (omega (arith, less, other)) i x y some within inside)
      ];
    }

pub returns-clause-exact : goal.returns-clause-exact
returns-clause-exact c =
    let h = c.source.inside.headers.now in
    let all : c.loop-number.number ≡ tile_count h.siz = omega (arith, c.loop-number-test.false, c.loop-number.auto.number-end, c.loop-number.invariant.end_is) in
    subst (λ (s : CodestreamSource). seen_parts_tested s.bytes s.headers c.args.reduce c.args.window.now (tile_count s.headers.siz) ≡ fine) c.source.view_is
    (ap (seen_parts_tested c.source.inside.bytes.now h c.args.reduce c.args.window.now) (sym all) ∙ c.loop-number.invariant.tested)

pub returns-clause-planes : goal.returns-clause-planes
returns-clause-planes c =
    let h = c.source.inside.headers.now in
    subst (λ (s : CodestreamSource). lists_of c.loop-number.planes.items ≡ planes_of_tiles s.bytes s.headers c.args.reduce c.args.window.now) c.source.view_is
    (planes_are c.source.inside.bytes.now h c.args.reduce c.args.window.now c.loop-number.planes.items c.source.invariant.siz (λ x y. within_part c.args.window.now (frame_of h c.args.reduce) x y (subst (λ (s : CodestreamSource). IsPartOf c.args.window.now (frame_of s.headers c.args.reduce)) (sym c.source.view_is) c.requires.inside)) c.loop-number.invariant.planes
    (λ t lt. c.loop-number.invariant.shows t (omega (arith, lt, c.loop-number-test.false, c.loop-number.invariant.end_is))))
