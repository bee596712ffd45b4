-- Packets that are planned one by one are all packets of a part, and parts that are planned one by one all parts of a tile.
use Rattle.std.proofs.Common.{◌≡◌, ℕ, zero, suc, ◌+◌, ◌<◌, ◌≤◌, List, [], ◌∷◌, ◌++◌, length, length-append, drop, get_or, append_assoc, refl, sym, ap, ◌∙◌, subst, arith, inl, inr}
use Rattle.std.specs.Prelude.{sum_by}
use Rattle.std.specs.List.{AllZip, flat_map, zip}
use Rattle.std.proofs.lemmas.Bool.{cases_lt}
use Rattle.std.proofs.lemmas.List.{append-nil, get_or_append_left, get_or_push}
use Rattle.std.proofs.lemmas.List.Sums.{sum_by-cons}
use Rattle.std.proofs.lemmas.Slice.Zip.{length-zip, get_or-zip}
use Rattle.jk_math.specs.declared.rect.Rect.{Rect}
use Rattle.jk_geom.specs.declared.shape.PacketName.{PacketName}
use Rattle.jk_geom.specs.Rectangles.{meet, tile_area}
use Rattle.jk_geom.specs.Partitions.{reduced_area}
use Rattle.jk_order.specs.PacketOrder.{order}
use Rattle.jk_params.specs.Headers.{tile_in}
use Rattle.jk_walk.specs.declared.entries.PacketEntry.{PacketEntry}
use Rattle.jk_walk.specs.TilePackets.{shape_in}
use Rattle.jk_window.specs.declared.contents.TileCut.{TileCut}
use Rattle.jk_window.specs.declared.view.View.{View}
use Rattle.jk_window.specs.Views.{layers_in}
use Rattle.jk_window.specs.Indexing.{IndexFields, entries_of}
use Rattle.jk_window.specs.Cutting.{Entered, run_at, runs_at, wanted}
use Rattle.jk_window.specs.Planning.{PlanFields, plan_text, plan_length, IsBehind, tile_packet, tile_packet_size, run_from, IsRunPlan, AreTilePlans, TilePlanFields, no_tile, IsTilePlan, ArePlansUpto, packet_from, packet_size, no_plan}
use Rattle.jk_window.proofs.PlanLaws.{plan_of, planned-nil}
use Rattle.jk_window.proofs.Runs.{run_more, runs_step, runs_over, runs_length}

-- ---- a part

-- the packets of a tile with their entries
abbrev pub entered_by : TileCut → List PacketName → List Entered
entered_by c names = zip names c.entries.now

-- So far the packets from the `next`-th to the i-th are planned.
pub record IsRunning (n : ℕ) (c : TileCut) (names : List PacketName) (next start stop : ℕ) (plan : PlanFields) (i at : ℕ) : Type 0 where
  pub size : plan.size ≡ n
  pub first : next ≤ i
  pub text : (file : List ℕ) → plan_text file plan ++ flat_map (tile_packet c file) (run_at (drop i (entered_by c names)) at stop) ≡ flat_map (tile_packet c file) (run_at (drop next (entered_by c names)) start stop)
  pub long : plan_length plan + sum_by (tile_packet_size c) (run_at (drop i (entered_by c names)) at stop) ≡ sum_by (tile_packet_size c) (run_at (drop next (entered_by c names)) start stop)
  pub count : i + length (run_at (drop i (entered_by c names)) at stop) ≡ next + length (run_at (drop next (entered_by c names)) start stop)

pub running_starts : (n : ℕ) (c : TileCut) (names : List PacketName) (next start stop : ℕ) (plan : PlanFields) → plan ≡ plan_of [] [] n → IsRunning n c names next start stop plan next start
running_starts n c names next start stop plan e =
    let run = run_at (drop next (entered_by c names)) start stop in
    subst (λ (p : PlanFields). IsRunning n c names next start stop p next start) (sym e) (record {
      size = refl;
      first = omega arith;
      text = λ file. ap (λ (xs : List ℕ). xs ++ flat_map (tile_packet c file) run) (planned-nil file []);
      long = omega arith;
      count = refl;
    })

running_by : (n : ℕ) (c : TileCut) (names : List PacketName) (next start stop : ℕ) (plan new : PlanFields) (i at end : ℕ) (d : PacketName) (e : PacketEntry) → IsRunning n c names next start stop plan i at
    → i < length names → i < length c.entries.now → at < stop → end ≡ (get_or c.entries.now i e).end
    → IsBehind plan new (λ file. tile_packet c file (get_or names i d, get_or c.entries.now i e)) (tile_packet_size c (get_or names i d, get_or c.entries.now i e))
    → IsRunning n c names next start stop new (i + 1) end
running_by n c names next start stop plan new i at end d e r named lt less ends b =
    let packets = entered_by c names in
    let x : Entered = (get_or names i d, get_or c.entries.now i e) in
    let long = length-zip names c.entries.now in
    let one : get_or packets i (d, e) ≡ x = get_or-zip names c.entries.now i (d, e) named lt in
    let step : run_at (drop i packets) at stop ≡ x ∷ run_at (drop (i + 1) packets) end stop =
    run_more packets i at stop (d, e) (omega (arith, named, lt, long)) less ∙ (λ j. one j ∷ run_at (drop (i + 1) packets) (one j).1.end stop) ∙ ap (λ k. x ∷ run_at (drop (i + 1) packets) k stop) (sym ends) in
    let rest = run_at (drop (i + 1) packets) end stop in
    let grown = b.long in
    let sum = ap (sum_by (tile_packet_size c)) step ∙ sum_by-cons (tile_packet_size c) x rest in
    let before = r.long in
    let first = r.first in
    let count = r.count in
    let size = ap (λ (xs : List Entered). length xs) step in
    record {
      size = b.size ∙ r.size;
      first = omega (arith, first);
      text = λ file.
          ap (λ (xs : List ℕ). xs ++ flat_map (tile_packet c file) rest) (b.made file)
          ∙ append_assoc (plan_text file plan) (tile_packet c file x) (flat_map (tile_packet c file) rest)
          ∙ ap (λ (xs : List Entered). plan_text file plan ++ flat_map (tile_packet c file) xs) (sym step)
          ∙ r.text file;
      long = omega (arith, before, sum, grown);
      count = omega (arith, count, size);
    }

-- the same by a list that has the entries
pub running_more : (n : ℕ) (c : TileCut) (names : List PacketName) (entries : List PacketEntry) (next start stop : ℕ) (plan new : PlanFields) (i at : ℕ) (d : PacketName) (e : PacketEntry) → IsRunning n c names next start stop plan i at
    → entries ≡ c.entries.now → length names ≡ length c.entries.now → i < length names → at < stop
    → IsBehind plan new (λ file. tile_packet c file (get_or names i d, get_or entries i e)) (tile_packet_size c (get_or names i d, get_or entries i e))
    → IsRunning n c names next start stop new (i + 1) (get_or entries i e).end
running_more n c names entries next start stop plan new i at d e r same all named less b =
    running_by n c names next start stop plan new i at (get_or entries i e).end d e r named (omega (arith, named, all)) less (ap (λ (xs : List PacketEntry). (get_or xs i e).end) same)
    (subst (λ (xs : List PacketEntry). IsBehind plan new (λ file. tile_packet c file (get_or names i d, get_or xs i e)) (tile_packet_size c (get_or names i d, get_or xs i e))) same b)

pub running_over : (n : ℕ) (c : TileCut) (names : List PacketName) (next start stop : ℕ) (plan : PlanFields) (i at : ℕ) → IsRunning n c names next start stop plan i at → run_at (drop i (entered_by c names)) at stop ≡ []
    → IsRunPlan n c (run_at (drop next (entered_by c names)) start stop) plan × (i ≡ next + length (run_at (drop next (entered_by c names)) start stop))
running_over n c names next start stop plan i at r none =
    let over = ap (sum_by (tile_packet_size c)) none in
    let long = r.long in
    let count = r.count in
    let size = ap (λ (xs : List Entered). length xs) none in (
      record {
        size = r.size;
        text = λ file. sym (append-nil (plan_text file plan)) ∙ ap (λ (xs : List Entered). plan_text file plan ++ flat_map (tile_packet c file) xs) (sym none) ∙ r.text file;
        long = omega (arith, over, long);
      },
      omega (arith, count, size),
    )

-- ---- the parts of a tile

zip_push : {A B : Type 0} (P : A → B → Type 0) (xs : List A) (ys : List B) (x : A) (y : B) → AllZip P xs ys → P x y → AllZip P (xs ++ x ∷ []) (ys ++ y ∷ [])
zip_push P [] [] x y all is = (is, tt)
zip_push P [] (b ∷ ys) x y all is = absurd all
zip_push P (a ∷ xs) [] x y all is = absurd all
zip_push P (a ∷ xs) (b ∷ ys) x y all is = (all.0, zip_push P xs ys x y all.1 is)

zip_length : {A B : Type 0} (P : A → B → Type 0) (xs : List A) (ys : List B) → AllZip P xs ys → length ys ≡ length xs
zip_length P [] [] all = refl
zip_length P [] (b ∷ ys) all = absurd all
zip_length P (a ∷ xs) [] all = absurd all
zip_length P (a ∷ xs) (b ∷ ys) all = ap suc (zip_length P xs ys all.1)

zip_get : {A B : Type 0} (P : A → B → Type 0) (xs : List A) (ys : List B) (n : ℕ) (d : A) (e : B) → AllZip P xs ys → n < length ys → P (get_or xs n d) (get_or ys n e)
zip_get P [] [] n d e all lt = absurd (omega (arith, lt))
zip_get P [] (b ∷ ys) n d e all lt = absurd all
zip_get P (a ∷ xs) [] n d e all lt = absurd all
zip_get P (a ∷ xs) (b ∷ ys) zero d e all lt = all.0
zip_get P (a ∷ xs) (b ∷ ys) (suc n) d e all lt = zip_get P xs ys n d e all.1 (omega (arith, lt))

-- So far the first k parts are planned.
pub record AreRunning (n : ℕ) (c : TileCut) (names : List PacketName) (parts : List (ℕ × ℕ)) (plans : List PlanFields) (k next : ℕ) : Type 0 where
  pub done : List (List Entered)
  pub planned_so : AllZip (IsRunPlan n c) done plans
  pub goes : done ++ runs_at (drop next (entered_by c names)) (drop k parts) ≡ runs_at (entered_by c names) parts

pub runs_start : (n : ℕ) (c : TileCut) (names : List PacketName) (parts : List (ℕ × ℕ)) (plans : List PlanFields) → plans ≡ [] → AreRunning n c names parts plans 0 0
runs_start n c names parts plans e = record { done = []; planned_so = subst (AllZip (IsRunPlan n c) []) (sym e) tt; goes = refl }

pub runs_more : (n : ℕ) (c : TileCut) (names : List PacketName) (parts : List (ℕ × ℕ)) (plans new : List PlanFields) (k next behind : ℕ) (p d : ℕ × ℕ) (plan : PlanFields) → AreRunning n c names parts plans k next → k < length parts → p ≡ get_or parts k d
    → IsRunPlan n c (run_from c names next p) plan → behind ≡ next + length (run_from c names next p) → new ≡ plans ++ plan ∷ [] → AreRunning n c names parts new (k + 1) behind
runs_more n c names parts plans new k next behind p d plan r lt own is ends pushed =
    let packets = entered_by c names in
    let run = run_from c names next p in
    let step = runs_step packets next k (length run) parts p d lt own refl in
    record {
      done = r.done ++ run ∷ [];
      planned_so = subst (AllZip (IsRunPlan n c) (r.done ++ run ∷ [])) (sym pushed) (zip_push (IsRunPlan n c) r.done plans run plan r.planned_so is);
      goes =
          ap (λ m. (r.done ++ run ∷ []) ++ runs_at (drop m packets) (drop (k + 1) parts)) ends
          ∙ append_assoc r.done (run ∷ []) (runs_at (drop (next + length run) packets) (drop (k + 1) parts))
          ∙ ap (λ (xs : List (List Entered)). r.done ++ xs) (sym step)
          ∙ r.goes;
    }

pub runs_end : (n : ℕ) (c : TileCut) (names : List PacketName) (parts : List (ℕ × ℕ)) (plans : List PlanFields) (k next : ℕ) → AreRunning n c names parts plans k next → length parts ≤ k → AllZip (IsRunPlan n c) (runs_at (entered_by c names) parts) plans
runs_end n c names parts plans k next r le =
    let over = runs_over (entered_by c names) next k parts le in
    subst (λ (xs : List (List Entered)). AllZip (IsRunPlan n c) xs plans) (sym (append-nil r.done) ∙ ap (λ (xs : List (List Entered)). r.done ++ xs) (sym over) ∙ r.goes) r.planned_so

-- The plans of a tile's parts are those of the index's.
pub tile_plans : (i : IndexFields) (w : Rect) (v : View) (t n : ℕ) (c : TileCut) (names : List PacketName) (parts : List (ℕ × ℕ)) (plans : List PlanFields) → AllZip (IsRunPlan n c) (runs_at (entered_by c names) parts) plans → n ≡ i.frame.size
    → c.shape.now ≡ shape_in i.headers.siz (tile_in i.headers.tiles t) t → names ≡ order c.shape.now → c.entries.now ≡ entries_of i.packets t → c.eph ≡ (tile_in i.headers.tiles t).cod.eph → c.start ≡ i.place.start
    → c.top ≡ meet w (reduced_area (tile_area i.headers.siz t) v.reduce) → c.reduce ≡ v.reduce → c.layers ≡ layers_in v.layers (tile_in i.headers.tiles t).cod.layers → parts ≡ (tile_in i.headers.tiles t).data_places → AreTilePlans i w v t plans
tile_plans i w v t n c names parts plans all size shape named entries eph start top reduce layers places =
    let own_names : names ≡ order (shape_in i.headers.siz (tile_in i.headers.tiles t) t) = named ∙ ap order shape in
    let count = zip_length (IsRunPlan n c) (runs_at (entered_by c names) parts) plans all in
    let long = runs_length (entered_by c names) parts in
    let some = ap (λ (ps : List (ℕ × ℕ)). length ps) places in
    record {
      count = omega (arith, count, long, some);
      each = λ k lt.
          let one = zip_get (IsRunPlan n c) (runs_at (entered_by c names) parts) plans k [] no_plan all lt in
          record {
            size = one.size ∙ size;
            text = λ file. one.text file ∙ (λ j. flat_map (packet_from file (start j) (wanted (shape j) (top j) (reduce j) (layers j)) (eph j)) (get_or (runs_at (zip (own_names j) (entries j)) (places j)) k []));
            long = one.long ∙ (λ j. sum_by (packet_size (wanted (shape j) (top j) (reduce j) (layers j)) (eph j)) (get_or (runs_at (zip (own_names j) (entries j)) (places j)) k []));
          };
    }

-- ---- all tiles

pub plans_push : (i : IndexFields) (w : Rect) (v : View) (n : ℕ) (all new : List TilePlanFields) (x : TilePlanFields) → ArePlansUpto i w v n all → IsTilePlan i w v n x → new ≡ all ++ x ∷ [] → ArePlansUpto i w v (n + 1) new
plans_push i w v n all new x before here pushed = subst (ArePlansUpto i w v (n + 1)) (sym pushed) record {
  count = (let count = before.count in omega (arith, count, length-append all (x ∷ [])));
  each = λ t lt. elim (cases_lt t n) [
    | inl less ↦ subst (IsTilePlan i w v t) (sym (get_or_append_left all (x ∷ []) no_tile t (omega (arith, less, before.count)))) (before.each t less)
    | inr none ↦ (let same : n ≡ t = omega (arith, lt, none) in
        subst (IsTilePlan i w v t) (sym (get_or_push all x no_tile t (before.count ∙ same))) (subst (λ k. IsTilePlan i w v k x) same here))
  ];
}
