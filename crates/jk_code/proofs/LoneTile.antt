-- A stripe of which the only tile of its row has all: the tile's planes are those of the stripe.
use Rattle.std.proofs.Common.{◌≡◌, ℕ, ◌+◌, ◌<◌, List, [], get_or, length, ℤ, ap, subst, ◌∙◌, arith}
use Rattle.std.specs.Global.{Vec}
use Rattle.jk_math.specs.Lists.{lists_of}
use Rattle.jk_math.specs.declared.rect.Rect.{Rect}
use Rattle.jk_math.proofs.Laws.{raster_length}
use Rattle.jk_marks.specs.Siz.{tiles_across}
use Rattle.jk_tile.specs.Filling.{IsPartOf}
use Rattle.jk_tile.specs.TileMeaning.{shown_area}
use Rattle.jk_tile.specs.decoding.TileReading.{component_samples}
use Rattle.jk_code.specs.MeaningReading.{planes_of_tiles}
use Rattle.jk_code.specs.Sources.{ImageSource, IsImageSource}
use Rattle.jk_code.specs.Rows.{part_of_stripe}
use Rattle.jk_code.specs.Tiles.{ArePlanes, ShowsTileAt, IsPartSeen, part_lists, plane_in}
use Rattle.jk_code.proofs.Placing.{planes_are, shown_plane, shown_vectors, tile_agrees}
use Rattle.jk_code.proofs.RowLaws.{IsStripe, all_shown, part_seen, stripe_inside}

-- the tile's planes over the stripe
lone_lists : (s : ImageSource) (first : ℕ) (stripe : Rect) (vs : List (Vec ℤ)) → part_of_stripe s first stripe ≡ stripe
    → lists_of vs ≡ part_lists s.bytes s.headers first s.reduce (part_of_stripe s first stripe) (get_or s.packets first [])
    → lists_of vs ≡ part_lists s.bytes s.headers first s.reduce stripe (get_or s.packets first [])
lone_lists s first stripe vs wide e = e ∙ ap (λ (a : Rect). part_lists s.bytes s.headers first s.reduce a (get_or s.packets first [])) wide

pub lone_shows : (s : ImageSource) (first : ℕ) (stripe : Rect) (vs : List (Vec ℤ)) → IsImageSource s → IsStripe s first stripe → IsPartOf stripe (shown_area s.headers.siz first s.reduce)
    → lists_of vs ≡ part_lists s.bytes s.headers first s.reduce stripe (get_or s.packets first [])
    → ShowsTileAt s.bytes s.headers s.reduce stripe first s.headers.siz.components vs
lone_shows s first stripe vs is at tile e c x y few within inside =
    tile_agrees s.bytes s.headers s.reduce first c stripe (get_or s.packets first []) (plane_in vs c) is.sound.siz at.tile (is.packets.each first at.tile) tile
    (shown_plane s.bytes s.headers s.reduce first c stripe (get_or s.packets first []) (lists_of vs) e few) x y
    (record { left = inside.left; right = inside.right; upper = inside.upper; lower = inside.lower })

pub lone_planes : (s : ImageSource) (first : ℕ) (stripe : Rect) (vs : List (Vec ℤ)) → IsImageSource s → IsStripe s first stripe → tiles_across s.headers.siz ≡ 1 → part_of_stripe s first stripe ≡ stripe
    → lists_of vs ≡ part_lists s.bytes s.headers first s.reduce (part_of_stripe s first stripe) (get_or s.packets first [])
    → lists_of vs ≡ planes_of_tiles s.bytes s.headers s.reduce stripe
lone_planes s first stripe vs is at lone wide e =
    let h = s.headers in
    let d = s.reduce in
    let places = get_or s.packets first [] in
    let own = lone_lists s first stripe vs wide e in
    let seen : IsPartSeen h d (first + 0) stripe (part_of_stripe s (first + 0) stripe) = part_seen s first 0 stripe is at (omega (arith, lone)) in
    let tile : IsPartOf stripe (shown_area h.siz first d) =
    subst (λ (a : Rect). IsPartOf a (shown_area h.siz first d)) wide
    (subst (λ n. IsPartOf (part_of_stripe s n stripe) (shown_area h.siz n d)) (let e : first + 0 ≡ first = omega arith in e) seen.tile) in
    let planes : ArePlanes h stripe vs = record {
      count = shown_vectors s.bytes h d first stripe places vs own;
      each = λ c few. ap (λ (l : List ℤ). length l) (shown_plane s.bytes h d first c stripe places (lists_of vs) own few) ∙ raster_length stripe (component_samples s.bytes h first d places c);
    } in
    planes_are s.bytes h d stripe vs is.sound.siz (stripe_inside s first stripe is at) planes
    (all_shown s first stripe vs is at (λ k less. subst (λ n. ShowsTileAt s.bytes h d stripe n h.siz.components vs) (let e : first ≡ first + k = omega (arith, less, lone) in e) (lone_shows s first stripe vs is at tile own)))
