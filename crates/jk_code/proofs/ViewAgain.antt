-- The decoded window of the file of a window is that of the stored file, whatever the file's code-blocks are: the precincts that
-- the window needs have the same bodies.
use Rattle.std.proofs.Common.{◌≡◌, ℕ, zero, suc, ◌+◌, ◌<◌, ◌≤◌, not, true, cond, if◌then◌else◌, List, [], ◌∷◌, length, map, Option, None, Result, Ok, Err, ℤ, refl, sym, ap, ◌∙◌, subst, arith}
use Rattle.std.specs.Prelude.{slice_range}
use Rattle.std.specs.List.{range_with_len}
use Rattle.jk_math.specs.Answer.{◌>>=◌}
use Rattle.jk_math.specs.Steps.{bind_then}
use Rattle.jk_math.specs.declared.fault.Fault.{Fault}
use Rattle.jk_math.specs.declared.fault.Fault.TheVariants.{BadWindow}
use Rattle.jk_math.specs.declared.rect.Rect.{Rect}
use Rattle.jk_math.specs.Picture.{Picture}
use Rattle.jk_math.specs.Raster.{raster}
use Rattle.jk_math.proofs.Laws.{raster_same}
use Rattle.jk_marks.specs.declared.siz.Siz.{Siz}
use Rattle.jk_marks.specs.declared.coding.Coding.{Coding}
use Rattle.jk_marks.specs.Siz.{IsSiz, tile_count}
use Rattle.jk_marks.specs.Codestream.{codestream_text}
use Rattle.jk_boxes.specs.declared.place.Boxed.{Boxed}
use Rattle.jk_boxes.specs.Reading.{boxes_at}
use Rattle.jk_boxes.proofs.Laws.{boxes_again, place_again}
use Rattle.jk_geom.specs.Rectangles.{IsWithin, is_empty, meet, tile_area}
use Rattle.jk_geom.specs.Precincts.{precinct_number}
use Rattle.jk_geom.specs.Partitions.{image_area, reduced_area, precinct_of, TileHolds}
use Rattle.jk_geom.specs.TileShapes.{coding_of}
use Rattle.jk_geom.proofs.Laws.{precinct_found, tile_covers}
use Rattle.jk_params.specs.Headers.{Headers, tile_in, AreHeaders}
use Rattle.jk_params.specs.HeadersReading.{headers_at}
use Rattle.jk_params.proofs.Laws.{only_headers, sound_headers}
use Rattle.jk_walk.specs.declared.places.PacketPlace.{PacketPlace}
use Rattle.jk_walk.specs.TilePackets.{shape_in, Body, Packet, of_precinct}
use Rattle.jk_walk.specs.WalkReading.{packets_at}
use Rattle.jk_walk.proofs.Laws.{packets_only}
use Rattle.jk_tile.specs.Pixels.{tile_sample}
use Rattle.jk_tile.specs.TileBlocks.{orientation_at}
use Rattle.jk_tile.specs.TileMeaning.{shown_area, values_of}
use Rattle.jk_tile.specs.decoding.TileReading.{each, tested, bodies_of, coefficient_at, component_part_tested, part_planes_at}
use Rattle.jk_tile.proofs.Laws.{fine, each_only, tested_ok, bind_ok, bodies_are, pixel_same, levels_read, is_band, each_alike, if_alike, component_alike, coefficient_alike}
use Rattle.jk_window.specs.declared.view.View.{View}
use Rattle.jk_window.specs.Views.{HasArea, HaveLevels, frame_of, window_of, area_at, window_at}
use Rattle.jk_window.specs.Again.{front_runs, AreAlike}
use Rattle.jk_window.specs.Emptied.{kept_packet, of_fronts}
use Rattle.jk_window.specs.Indexing.{IndexFields, IsIndexOf, joined_runs, HasRuns}
use Rattle.jk_window.specs.Cutting.{HaveRuns, needed_by, cut_tree}
use Rattle.jk_window.proofs.Laws.{cut_again, runs_kept, kept_bodies, all_layers, place_needs, window_area_is, area_found, area_only, area_refused}
use Rattle.jk_code.specs.MeaningReading.{places_or, places_at, packets_tested, sample_of_tiles, planes_of_tiles, picture_with}
use Rattle.jk_code.specs.ViewReading.{seen_part, is_seen, seen_packets_tested, seen_parts_tested, view_at, image_view_at, meaning_view_at}
use Rattle.jk_code.specs.Windows.{IsWindowKept}
use Rattle.jk_code.proofs.EmptiedTiles.{Said, said_of, said_alike, left_of, seen_fronts, bodies_below, first_kept}
use Rattle.jk_code.proofs.HeaderFacts.{sides_of}
use Rattle.jk_code.proofs.Tiling.{tile_value, tile_levels}
use Rattle.jk_code.proofs.WindowBands.{seen, values_local}
use Rattle.jk_code.proofs.MetNeeds.{met_needs}
use Rattle.jk_code.proofs.WindowLaws.{levels_alike, reply_holds}
use Rattle.jk_code.proofs.ViewLaws.{view_by, packets_fine}
use Rattle.jk_code.proofs.ViewSteps.{some_sides}

-- ---- a part of a tile, by what is said of the tile and the bodies of its precincts

abbrev Bodies : Type 0
Bodies = ℕ → ℕ → ℕ → List Body

abbrev sample_by : Said → (t d : ℕ) → Bodies → (c x y : ℕ) → ℤ
sample_by s t d bodies c x y = tile_sample s.1 s.0 (λ i. values_of (tile_area s.0 t) (coding_of s.2 i) d (coefficient_at (tile_area s.0 t) (coding_of s.2 i) (bodies i)) x y) c

abbrev part_by : Said → (t d : ℕ) → Rect → Bodies → Result (List (List ℤ)) Fault
part_by s t d u bodies =
    each (s.0).components (λ c. component_part_tested (tile_area s.0 t) (coding_of s.2 c) d u (bodies c))
    >>= λ _. Ok (map (λ c. raster u (sample_by s t d bodies c)) (range_with_len 0 (s.0).components))

part_is : (bytes : List ℕ) (h : Headers) (t d : ℕ) (u : Rect) (places : List PacketPlace) → part_planes_at bytes h t d u places ≡ part_by (said_of h t) t d u (bodies_of bytes places)
unfolding part_planes_at
part_is bytes h t d u places = refl

-- The precincts that a window needs of tile t have the same bodies.
abbrev AreSameNeeded : Headers → (w : Rect) → (d t : ℕ) → (mine theirs : Bodies) → Type 0
AreSameNeeded h w d t mine theirs = (c r n : ℕ) → c < h.siz.components → r + d ≤ (coding_of (tile_in h.tiles t).codings c).levels
    → n < precinct_number (tile_area h.siz t) (coding_of (tile_in h.tiles t).codings c) r → needed_by h w d t c r n ≡ true → mine c r n ≡ theirs c r n

-- ---- its samples

sample_alike : (size : ℕ) (h : Headers) (w : Rect) (d t : ℕ) (mine theirs : Bodies) (c x y : ℕ) → AreHeaders size h → t < tile_count h.siz → HaveLevels h d → AreSameNeeded h w d t mine theirs
    → c < h.siz.components → IsWithin (seen_part h d w t) x y → sample_by (said_of h t) t d mine c x y ≡ sample_by (said_of h t) t d theirs c x y
sample_alike size h w d t mine theirs c x y are lt levels same few within =
    let f = tile_in h.tiles t in
    let a = tile_area h.siz t in
    let fields = are.each t lt in
    let coding : ℕ → Coding = λ i. coding_of f.codings i in
    let all = fields.all in
    let low = tile_levels d h.tiles t levels (let long = are.tiles in omega (arith, lt, long)) in
    pixel_same f.cod h.siz (λ i. values_of a (coding i) d (coefficient_at a (coding i) (mine i)) x y) (λ i. values_of a (coding i) d (coefficient_at a (coding i) (theirs i)) x y) h.siz.components c fields.colour few
    (λ i less.
    let there : i < length f.codings = omega (arith, less, all) in
    let le = levels_read f.codings i d (coding i) low there refl in
    values_local a f.codings w d i (coefficient_at a (coding i) (mine i)) (coefficient_at a (coding i) (theirs i)) x y le within
    (λ r b u v under band inside part.
    let found = precinct_found a (coding i) r (orientation_at r b) u v (fields.codings.each i there) (omega (arith, under)) (is_band r b band) inside in
    coefficient_alike a (coding i) (mine i) (theirs i) r b u v band
    (same i r (precinct_of a (coding i) r u v) less under found.0 (place_needs a f.codings w d i r (precinct_of a (coding i) r u v) b x y u v within under band found.1 part))))

run_alike : (f g : ℕ → List ℤ) (a n : ℕ) → ((c : ℕ) → c < a + n → f c ≡ g c) → map f (range_with_len a n) ≡ map g (range_with_len a n)
run_alike f g a zero same = refl
run_alike f g a (suc n) same =
    ap (λ (v : List ℤ). v ∷ map f (range_with_len (a + 1) n)) (same a (omega arith))
    ∙ ap (λ (vs : List (List ℤ)). g a ∷ vs) (run_alike f g (a + 1) n (λ c lt. same c (omega (arith, lt))))

lists_alike : (f g : ℕ → List ℤ) (n : ℕ) → ((c : ℕ) → c < n → f c ≡ g c) → map f (range_with_len 0 n) ≡ map g (range_with_len 0 n)
lists_alike f g n same = run_alike f g 0 n (λ c lt. same c (omega (arith, lt)))

-- ---- its first fault, or its samples

part_alike : (size : ℕ) (h : Headers) (w : Rect) (d t : ℕ) (mine theirs : Bodies) → AreHeaders size h → t < tile_count h.siz → HaveLevels h d → AreSameNeeded h w d t mine theirs
    → is_seen h d w t ≡ true → part_by (said_of h t) t d (seen_part h d w t) mine ≡ part_by (said_of h t) t d (seen_part h d w t) theirs
part_alike size h w d t mine theirs are lt levels same some =
    let f = tile_in h.tiles t in
    let a = tile_area h.siz t in
    let u = seen_part h d w t in
    let n = h.siz.components in
    let fields = are.each t lt in
    let all = fields.all in
    let coding : ℕ → Coding = λ i. coding_of f.codings i in
    let low = tile_levels d h.tiles t levels (let long = are.tiles in omega (arith, lt, long)) in
    let sides = sides_of u (some_sides u some) in
    let wide = sides.0 in
    let high = sides.1 in
    let corner : IsWithin (seen a w d) u.x0 u.y0 = record { left = omega arith; right = omega (arith, wide); upper = omega arith; lower = omega (arith, high) } in
    let tests : each n (λ c. component_part_tested a (coding c) d u (mine c)) ≡ each n (λ c. component_part_tested a (coding c) d u (theirs c)) =
    each_alike n _ _ (λ c few.
    component_alike a (coding c) d u (mine c) (theirs c) (levels_read f.codings c d (coding c) low (omega (arith, few, all)) refl)
    (λ r m i j under precinct band block met. same c r m few under precinct (met_needs a f.codings w d c r m i j u.x0 u.y0 corner under band met))) in
    let lists : map (λ c. raster u (sample_by (said_of h t) t d mine c)) (range_with_len 0 n) ≡ map (λ c. raster u (sample_by (said_of h t) t d theirs c)) (range_with_len 0 n) =
    lists_alike _ _ n (λ c few.
    raster_same u (sample_by (said_of h t) t d mine c) (sample_by (said_of h t) t d theirs c) (λ x y is.
    let left = is.left in let right = is.right in let upper = is.upper in let lower = is.lower in
    sample_alike size h w d t mine theirs c x y are lt levels same few
    (record { left = omega (arith, left); right = omega (arith, right); upper = omega (arith, upper); lower = omega (arith, lower) }))) in
    ap (λ (r : Result (Unit {0}) Fault). r >>= λ _. (let o : Result (List (List ℤ)) Fault = Ok (map (λ c. raster u (sample_by (said_of h t) t d mine c)) (range_with_len 0 n)) in o)) tests
    ∙ ap (λ (ls : List (List ℤ)). each n (λ c. component_part_tested a (coding c) d u (theirs c)) >>= λ _. (let o : Result (List (List ℤ)) Fault = Ok ls in o)) lists

-- ---- the tiles of the two codestreams

-- The packets of a tile are read in both, and have the same bodies in the precincts that the window needs.
record AreTwins (bytes new : List ℕ) (h g : Headers) (w : Rect) (d t : ℕ) : Type 0 where
  first : packets_at bytes h t ≡ Ok (places_at bytes h t)
  second : packets_at new g t ≡ Ok (places_at new g t)
  same : AreSameNeeded h w d t (bodies_of bytes (places_at bytes h t)) (bodies_of new (places_at new g t))

again_ok : (bytes : List ℕ) (h : Headers) (t : ℕ) (places : List PacketPlace) → packets_at bytes h t ≡ Ok places → places ≡ places_at bytes h t
again_ok bytes h t places read = sym (ap places_or read)

twins : (bytes new : List ℕ) (h g : Headers) (w : Rect) (d t : ℕ) (runs : ℕ → List (List Packet)) → AreHeaders (length bytes) h → AreHeaders (length new) g → AreAlike g h → t < tile_count h.siz
    → HasRuns bytes h t (runs t) → HasRuns new g t (front_runs h (seen_fronts h w d None) runs t) → AreTwins bytes new h g w d t
twins bytes new h g w d t runs are sound alike lt has again =
    let f = tile_in h.tiles t in
    let keep = needed_by h w d t in
    let packets = joined_runs (runs t) in
    let others = joined_runs (front_runs h (seen_fronts h w d None) runs t) in
    let left = left_of h (seen_fronts h w d None) runs t in
    let there : t < tile_count g.siz = subst (λ (s : Siz). t < tile_count s) (sym alike.siz) lt in
    let mine = packets_only bytes h t packets are lt has.packets in
    let theirs = packets_only new g t others sound there again.packets in
    let one = again_ok bytes h t mine.0 mine.1 in
    let two = again_ok new g t theirs.0 theirs.1 in
    let fields = are.each t lt in
    let all = fields.all in
    let done : List PacketPlace → Result (List PacketPlace) Fault = λ ws. Ok ws in
    record {
      first = mine.1 ∙ ap done one;
      second = theirs.1 ∙ ap done two;
      same = λ c r n few under precinct needed.
          (let kept : bodies_below None left c r n ≡ cond (keep c r n) (bodies_below None packets c r n) [] =
          kept_bodies (shape_in h.siz f t) keep f.cod.layers f.cod.sop f.cod.eph packets c r n has.packets.order
          (record { component = omega (arith, few, all); resolution = omega (arith, under); precinct = precinct })
          ∙ first_kept (keep c r n) None f.cod.layers (of_precinct c r n packets)
          (all_layers (shape_in h.siz f t) packets c r n has.packets.order (record { component = omega (arith, few, all); resolution = omega (arith, under); precinct = precinct })) in
          ap (λ (ws : List PacketPlace). bodies_of bytes ws c r n) (sym one)
          ∙ sym (bodies_are bytes packets mine.0 c r n mine.2)
          ∙ sym (ap (λ b. cond b (bodies_below None packets c r n) []) needed)
          ∙ sym kept
          ∙ sym (ap (λ (ps : List Packet). bodies_below None ps c r n) (runs_kept (kept_packet (of_fronts (seen_fronts h w d None t)) f.cod.sop f.cod.eph) (runs t)))
          ∙ bodies_are new others theirs.0 c r n theirs.2
          ∙ ap (λ (ws : List PacketPlace). bodies_of new ws c r n) two);
    }

-- ---- the window

-- what is tested of tile t, by what is said of it
abbrev step_by : Said → (w : Rect) → (d t : ℕ) → Bodies → Result (Unit {0}) Fault
step_by s w d t bodies =
    let u = meet w (shown_area s.0 t d) in
    if not (is_empty u) then tested (part_by s t d u bodies) else Ok tt

step_is : (bytes : List ℕ) (h : Headers) (w : Rect) (d t : ℕ) → (if is_seen h d w t then tested (part_planes_at bytes h t d (seen_part h d w t) (places_at bytes h t)) else Ok tt) ≡ step_by (said_of h t) w d t (bodies_of bytes (places_at bytes h t))
step_is bytes h w d t =
    ap (λ (r : Result (List (List ℤ)) Fault). if is_seen h d w t then tested r else Ok tt) (part_is bytes h t d (seen_part h d w t) (places_at bytes h t))

step_alike : (bytes new : List ℕ) (h g : Headers) (w : Rect) (d t : ℕ) → AreHeaders (length bytes) h → AreAlike g h → t < tile_count h.siz → HaveLevels h d → AreTwins bytes new h g w d t
    → (if is_seen g d w t then tested (part_planes_at new g t d (seen_part g d w t) (places_at new g t)) else Ok tt) ≡ (if is_seen h d w t then tested (part_planes_at bytes h t d (seen_part h d w t) (places_at bytes h t)) else Ok tt)
step_alike bytes new h g w d t are alike lt levels twin =
    let mine = bodies_of bytes (places_at bytes h t) in
    let theirs = bodies_of new (places_at new g t) in
    step_is new g w d t
    ∙ ap (λ (s : Said). step_by s w d t theirs) (said_alike g h t alike lt)
    ∙ sym (if_alike (is_seen h d w t) (tested (part_by (said_of h t) t d (seen_part h d w t) mine)) (tested (part_by (said_of h t) t d (seen_part h d w t) theirs)) (Ok tt)
    (λ some. ap tested (part_alike (length bytes) h w d t mine theirs are lt levels twin.same some)))
    ∙ sym (step_is bytes h w d t)

planes_alike : (bytes new : List ℕ) (h g : Headers) (w : Rect) (d : ℕ) → AreHeaders (length bytes) h → AreAlike g h → HaveLevels h d → ((t : ℕ) → t < tile_count h.siz → AreTwins bytes new h g w d t)
    → ((x y : ℕ) → IsWithin w x y → IsWithin (frame_of h d) x y) → planes_of_tiles new g d w ≡ planes_of_tiles bytes h d w
planes_alike bytes new h g w d are alike levels twin inside =
    ap (λ (s : Siz). map (λ c. raster w (sample_of_tiles new g d c)) (range_with_len 0 s.components)) alike.siz
    ∙ lists_alike (λ c. raster w (sample_of_tiles new g d c)) (λ c. raster w (sample_of_tiles bytes h d c)) h.siz.components (λ c few.
    raster_same w (sample_of_tiles new g d c) (sample_of_tiles bytes h d c) (λ x y is.
    let left = is.left in let right = is.right in let upper = is.upper in let lower = is.lower in
    let within : IsWithin w x y = record { left = omega (arith, left); right = omega (arith, right); upper = omega (arith, upper); lower = omega (arith, lower) } in
    let tile = tile_covers h.siz d x y are.siz (inside x y within) in
    let t = tile.0 in
    let lt = tile.1.tile in
    let holds : TileHolds g.siz d t x y = subst (λ (s : Siz). TileHolds s d t x y) (sym alike.siz) tile.1 in
    let place = tile.1.place in
    let pl = place.left in let pr = place.right in let pu = place.upper in let pb = place.lower in
    let both : IsWithin (seen_part h d w t) x y = record { left = omega (arith, left, pl); right = omega (arith, right, pr); upper = omega (arith, upper, pu); lower = omega (arith, lower, pb) } in
    let mine = bodies_of bytes (places_at bytes h t) in
    let theirs = bodies_of new (places_at new g t) in
    tile_value new g d t c x y (subst IsSiz (sym alike.siz) are.siz) holds
    ∙ ap (λ (s : Said). sample_by s t d theirs c x y) (said_alike g h t alike lt)
    ∙ sym (sample_alike (length bytes) h w d t mine theirs c x y are lt levels (twin t lt).same few both)
    ∙ sym (tile_value bytes h d t c x y are.siz tile.1)))

all_read : (bytes : List ℕ) (h : Headers) (n : ℕ) → ((t : ℕ) → t < n → packets_at bytes h t ≡ Ok (places_at bytes h t)) → packets_tested bytes h n ≡ fine
all_read bytes h n read = each_only n (λ t. tested (packets_at bytes h t)) (λ t lt. tested_ok (packets_at bytes h t) (places_at bytes h t) (read t lt))

-- what is made of a window, once the packets are read
abbrev shown_by : List ℕ → Headers → (d : ℕ) → Rect → Result Picture Fault
shown_by bytes h d w =
    seen_packets_tested bytes h d w (tile_count h.siz) >>= λ _. seen_parts_tested bytes h d w (tile_count h.siz) >>= λ _. Ok (picture_with h.siz w (planes_of_tiles bytes h d w))

view_again : (bytes new : List ℕ) (h g : Headers) (v : View) (w : Rect) (runs : ℕ → List (List Packet)) → AreHeaders (length bytes) h → AreHeaders (length new) g → AreAlike g h
    → HaveRuns bytes h runs → HaveRuns new g (front_runs h (seen_fronts h w v.reduce None) runs) → area_at h v ≡ Ok w → view_at g new v ≡ view_at h bytes v
view_again bytes new h g v w runs are sound alike has again seen =
    let d = v.reduce in
    let n = tile_count h.siz in
    let count : tile_count g.siz ≡ n = ap tile_count alike.siz in
    let found = area_found h v w are.tiles seen in
    let long = are.tiles in
    let many = sound.tiles in
    let levels : HaveLevels g d = levels_alike d g.tiles h.tiles found.0.levels (many ∙ count ∙ sym long) (λ t lt. alike.codings t (omega (arith, lt, many, count))) in
    let frame : frame_of h d ≡ frame_of g d = ap (λ (s : Siz). reduced_area (image_area s) d) (sym alike.siz) in
    let window : window_of h v ≡ window_of g v = ap (λ (s : Siz). let a = reduced_area (image_area s) d in meet a record { x0 = a.x0 + v.x; y0 = a.y0 + v.y; x1 = a.x0 + v.x + v.width; y1 = a.y0 + v.y + v.height }) (sym alike.siz) in
    let there : area_at g v ≡ Ok (window_of g v) =
    area_only g v many (record { levels = levels; image = ap is_empty (sym frame) ∙ found.0.image; window = ap is_empty (sym window) ∙ found.0.window }) in
    let done : Rect → Result Rect Fault = λ x. Ok x in
    let same : area_at g v ≡ Ok w = there ∙ ap done (sym window ∙ sym found.1) in
    let twin : (t : ℕ) → t < n → AreTwins bytes new h g w d t = λ t lt. twins bytes new h g w d t runs are sound alike lt (has t lt) (again t (omega (arith, lt, count))) in
    let inside : (x y : ℕ) → IsWithin w x y → IsWithin (frame_of h d) x y = λ x y within.
    (let in_window = subst (λ (a : Rect). IsWithin a x y) found.1 within in
    let left = in_window.left in let right = in_window.right in let upper = in_window.upper in let lower = in_window.lower in
    record { left = omega (arith, left); right = omega (arith, right); upper = omega (arith, upper); lower = omega (arith, lower) }) in
    let mine : seen_packets_tested bytes h d w n ≡ fine = packets_fine bytes h d w n (all_read bytes h n (λ t lt. (twin t lt).first)) in
    let theirs : seen_packets_tested new g d w (tile_count g.siz) ≡ fine = packets_fine new g d w (tile_count g.siz) (all_read new g (tile_count g.siz) (λ t lt. (twin t (omega (arith, lt, count))).second)) in
    let parts : seen_parts_tested new g d w (tile_count g.siz) ≡ seen_parts_tested bytes h d w n =
    ap (seen_parts_tested new g d w) count ∙ each_alike n _ _ (λ t lt. step_alike bytes new h g w d t are alike lt found.0.levels (twin t lt)) in
    let picture : picture_with g.siz w (planes_of_tiles new g d w) ≡ picture_with h.siz w (planes_of_tiles bytes h d w) =
    ap (λ (s : Siz). picture_with s w (planes_of_tiles new g d w)) alike.siz ∙ ap (picture_with h.siz w) (planes_alike bytes new h g w d are alike found.0.levels twin inside) in
    let shown : shown_by new g d w ≡ shown_by bytes h d w =
    bind_ok (seen_packets_tested new g d w (tile_count g.siz)) _ tt theirs
    ∙ ap (λ (r : Result (Unit {0}) Fault). r >>= λ _. (let o : Result Picture Fault = Ok (picture_with g.siz w (planes_of_tiles new g d w)) in o)) parts
    ∙ ap (λ (p : Picture). seen_parts_tested bytes h d w n >>= λ _. (let o : Result Picture Fault = Ok p in o)) picture
    ∙ sym (bind_ok (seen_packets_tested bytes h d w n) _ tt mine) in
    view_by new g v
    ∙ ap (λ (r : Result Rect Fault). r >>= shown_by new g d) same
    ∙ shown
    ∙ sym (ap (λ (r : Result Rect Fault). r >>= shown_by bytes h d) seen)
    ∙ sym (view_by bytes h v)

-- ---- the files

image_is : (bytes : List ℕ) (h : Headers) (v : View) → headers_at bytes ≡ Ok h → image_view_at bytes v ≡ view_at h bytes v
unfolding image_view_at
image_is bytes h v read = rw read refl

meaning_is : (bytes : List ℕ) (b : Boxed) (v : View) → boxes_at bytes ≡ Ok b → meaning_view_at bytes v ≡ image_view_at (slice_range bytes b.start b.end) v
unfolding meaning_view_at
meaning_is bytes b v read = rw read refl

-- The decoded windows of both are the same, and so is the first fault.
pub window_kept : IsWindowKept
window_kept bytes i is v reply none due =
    let h = i.headers in
    let d = v.reduce in
    bind_then (window_at h v) _ reply due (λ w found rest.
    let new = codestream_text (cut_tree is w v) in
    let again = cut_again bytes i is w v in
    let g = again.headers in
    let own = place_again bytes is.codestream i.place is.holds in
    let o = boxes_again reply new (reply_holds bytes is.codestream i.place is.holds (cut_tree is w v) reply rest) in
    meaning_is reply o.boxed v o.due
    ∙ ap (λ (c : List ℕ). image_view_at c v) (sym o.here)
    ∙ image_is new g v (only_headers new g again.says)
    ∙ view_again is.codestream new h g v w is.runs (sound_headers is.codestream h is.says) (sound_headers new g again.says) again.alike is.tiles
    (subst (λ (l : Option ℕ). HaveRuns new g (front_runs h (seen_fronts h w d l) is.runs)) none again.tiles) (window_area_is h v w found)
    ∙ sym (image_is is.codestream h v (only_headers is.codestream h is.says))
    ∙ ap (λ (c : List ℕ). image_view_at c v) own.1
    ∙ sym (meaning_is bytes i.place v own.0))

-- A view without a window is refused.
view_unseen : (bytes : List ℕ) (h : Headers) (v : View) → AreHeaders (length bytes) h → (HasArea h v → ⊥) → view_at h bytes v ≡ Err BadWindow
view_unseen bytes h v are none = by (area_at h v) refl
  where
    by : (r : Result Rect Fault) → area_at h v ≡ r → view_at h bytes v ≡ Err BadWindow
    by (Ok w) e = absurd (none (area_found h v w are.tiles e).0)
    by (Err e) is =
        view_by bytes h v ∙ ap (λ (r : Result Rect Fault). r >>= shown_by bytes h v.reduce) is ∙ ap (λ (x : Fault). let r : Result Picture Fault = Err x in r) (area_refused h v e is)

pub window_unseen : (bytes : List ℕ) (i : IndexFields) → IsIndexOf bytes i → (v : View) → (HasArea i.headers v → ⊥) → meaning_view_at bytes v ≡ Err BadWindow
window_unseen bytes i is v none =
    let h = i.headers in
    let own = place_again bytes is.codestream i.place is.holds in
    meaning_is bytes i.place v own.0
    ∙ ap (λ (c : List ℕ). image_view_at c v) (sym own.1)
    ∙ image_is is.codestream h v (only_headers is.codestream h is.says)
    ∙ view_unseen is.codestream h v (sound_headers is.codestream h is.says) none

-- What is decoded of a window doesn't depend on the layers that its view asks for.
pub all_shown : (bytes : List ℕ) (v : View) → meaning_view_at bytes (record v { layers = None }) ≡ meaning_view_at bytes v
unfolding meaning_view_at image_view_at view_at area_at
all_shown bytes v = refl
