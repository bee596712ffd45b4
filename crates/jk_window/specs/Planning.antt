-- The file of a window from what an index keeps: stretches of the stored file, and what is written
-- between them.
use Rattle.std.specs.Prelude.{◌≡◌, ℕ, ◌+◌, ◌-◌, ◌<◌, ◌≤◌, ◌^◌, Bool, true, false, if◌then◌else◌, List, [], ◌∷◌, ◌++◌, length}
use Rattle.std.specs.Prelude.{take, drop, sum_by, slice_index_or, Result, Ok, Err}
use Rattle.std.specs.List.{flat_map, AllByRecursion, zip}
use Rattle.jk_math.specs.declared.fault.Fault.{Fault}
use Rattle.jk_math.specs.declared.fault.Fault.TheVariants.{Limit}
use Rattle.jk_math.specs.declared.rect.Rect.{Rect}
use Rattle.jk_marks.specs.declared.part_head.PartHead.{PartHead}
use Rattle.jk_marks.specs.Siz.{tile_count}
use Rattle.jk_marks.specs.Markers.{eoc, marker_text}
use Rattle.jk_marks.specs.PartHeads.{psot_for, part_head, heads_text}
use Rattle.jk_boxes.specs.declared.boxes.Form.{Form}
use Rattle.jk_boxes.specs.declared.place.Boxed.{Boxed}
use Rattle.jk_boxes.specs.Boxes.{head_size, head_text, code_kind}
use Rattle.jk_boxes.specs.Written.{fits_form}
use Rattle.jk_geom.specs.declared.shape.PacketName.{PacketName}
use Rattle.jk_geom.specs.TileShapes.{IsTileShape}
use Rattle.jk_order.specs.PacketOrder.{order}
use Rattle.jk_params.specs.Headers.{Headers, tile_in}
use Rattle.jk_packet.specs.PacketText.{eph_text}
use Rattle.jk_walk.specs.Entries.{AreEntries}
use Rattle.jk_walk.specs.Sop.{sop_written}
use Rattle.jk_walk.specs.TilePackets.{slice_of, shape_in}
use Rattle.jk_window.specs.declared.steps.CutStep.{CutStep}
use Rattle.jk_window.specs.declared.contents.TileCut.{TileCut}
use Rattle.jk_window.specs.declared.view.View.{View}
use Rattle.jk_window.specs.Framing.{Frame}
use Rattle.jk_window.specs.Indexing.{IndexFields, IsIndexOf, entries_of}
use Rattle.jk_window.specs.PartEnds.{HaveNoCounters, AreEnds}
use Rattle.jk_window.specs.Cutting.{Entered, keeps, wanted, run_at, runs_at, cut_file}

-- ---- a plan

-- the stretches that are copied of a stored file of so many bytes, and what is written behind each,
-- all in one text
pub record PlanFields : Type 0 where
  pub steps : List CutStep
  pub written : List ℕ
  pub size : ℕ

-- what is made of a file
unfoldable pub planned : List ℕ → List CutStep → List ℕ → List ℕ
planned file [] written = []
planned file (s ∷ steps) written = slice_of file (s.start, s.end)
    ++ (take s.written written ++ planned file steps (drop s.written written))

abbrev pub plan_text : List ℕ → PlanFields → List ℕ
plan_text file p = planned file p.steps p.written

-- A plan that makes the file of the view's window of each file that has the index.
abbrev pub IsPlanOf : IndexFields → View → PlanFields → Type 0
IsPlanOf i v p = (file : List ℕ) (is : IsIndexOf file i) → cut_file is v ≡ Ok (plan_text file p)

-- what such a plan makes of these bytes, whether they have the index or not
abbrev pub IsPlanned : (bytes : List ℕ) → IndexFields → View → List ℕ → Type 0
IsPlanned bytes i v made = (p : PlanFields) × IsPlanOf i v p × (made ≡ plan_text bytes p)

-- how many bytes that are
abbrev pub step_length : CutStep → ℕ
step_length s = s.end - s.start + s.written

abbrev pub plan_length : PlanFields → ℕ
plan_length p = sum_by step_length p.steps

-- a stretch of so many bytes
pub record IsStep (size : ℕ) (s : CutStep) : Type 0 where
  pub order : s.start ≤ s.end
  pub within : s.end ≤ size

-- Stretches of the file, and no more and no less is written than what stands behind them.
pub record IsPlan (p : PlanFields) : Type 0 where
  pub steps : AllByRecursion (IsStep p.size) p.steps
  pub written : sum_by (λ s. s.written) p.steps ≡ length p.written

-- The second plan makes what the first makes, and then this, of so many bytes.
pub record IsBehind (old new : PlanFields) (text : List ℕ → List ℕ) (n : ℕ) : Type 0 where
  pub size : new.size ≡ old.size
  pub made : (file : List ℕ) → plan_text file new ≡ plan_text file old ++ text file
  pub long : plan_length new ≡ plan_length old + n

abbrev pub no_step : CutStep
no_step = record { start = 0; end = 0; written = 0 }

-- The last step has this number, and of it this holds.
pub record IsLast (p : PlanFields) (n : ℕ) (P : CutStep → Type 0) : Type 0 where
  pub last : length p.steps ≡ n + 1
  pub holds : P (slice_index_or p.steps n no_step)

-- ---- packets

-- a packet that is kept, or an empty one, where the codestream begins at `start` of the file
abbrev pub packet_from : (file : List ℕ) → (start : ℕ) → (PacketName → Bool) → (eph : Bool) → Entered → List ℕ
packet_from file start keep eph v =
    if keep v.0 then slice_of file (start + v.1.start, start + v.1.end)
    else sop_written v.1.counter ++ (0 ∷ eph_text eph)

-- how many bytes that are
abbrev pub packet_size : (PacketName → Bool) → (eph : Bool) → Entered → ℕ
packet_size keep eph v = if keep v.0 then v.1.end - v.1.start
    else length (sop_written v.1.counter) + length (0 ∷ eph_text eph)

-- the packets of tile t in their order, with their entries
abbrev pub entered_in : IndexFields → ℕ → List Entered
entered_in i t = zip (order (shape_in i.headers.siz (tile_in i.headers.tiles t) t)) (entries_of i.packets t)

-- those of part n of tile t
abbrev pub part_packets : IndexFields → (t n : ℕ) → List Entered
part_packets i t n = slice_index_or (runs_at (entered_in i t) (tile_in i.headers.tiles t).data_places) n []

-- its data
abbrev pub part_from : (file : List ℕ) → IndexFields → (w : Rect) → View → (t n : ℕ) → List ℕ
part_from file i w v t n =
    flat_map (packet_from file i.place.start (keeps i.headers w v t) (tile_in i.headers.tiles t).cod.eph)
    (part_packets i t n)

-- the part itself, with this head and these segments
abbrev pub part_text_from : (file : List ℕ) → IndexFields → (w : Rect) → View → PartHead → List ℕ → List ℕ
part_text_from file i w v h segments =
    part_head h segments (length (part_from file i w v h.tile h.number)) ++ part_from file i w v h.tile h.number

-- how many bytes these are, by the index alone
abbrev pub part_size : IndexFields → (w : Rect) → View → (t n : ℕ) → ℕ
part_size i w v t n =
    sum_by (packet_size (keeps i.headers w v t) (tile_in i.headers.tiles t).cod.eph) (part_packets i t n)

-- ---- a tile, by what is kept of it

-- a tile of a file of so many bytes, and a rectangle of the reduced grid
pub record IsTileCut (file : ℕ) (c : TileCut) : Type 0 where
  pub shape : IsTileShape c.shape.now
  pub size : ℕ
  pub entries : AreEntries size c.shape.now c.entries.now
  pub within : c.start + size ≤ file
  pub narrow : file < 2 ^ 64
  pub right : c.top.x1 < 2 ^ 31
  pub lower : c.top.y1 < 2 ^ 31
  pub few : c.reduce ≤ 10
  pub ends : AreEnds 0 (length c.entries.now) c.parts.now.ends.items
  pub counters : c.parts.now.counted ≡ false → HaveNoCounters c.entries.now

-- what is made of a packet of it, and how many bytes that are
abbrev pub tile_packet : TileCut → (file : List ℕ) → Entered → List ℕ
tile_packet c file v = packet_from file c.start (wanted c.shape.now c.top c.reduce c.layers) c.eph v

abbrev pub tile_packet_size : TileCut → Entered → ℕ
tile_packet_size c v = packet_size (wanted c.shape.now c.top c.reduce c.layers) c.eph v

-- its packets from the `next`-th on that stand in a part
abbrev pub run_from : TileCut → List PacketName → (next : ℕ) → ℕ × ℕ → List Entered
run_from c names next part = run_at (drop next (zip names c.entries.now)) part.0 part.1

-- the plan of some of its packets
pub record IsRunPlan (n : ℕ) (c : TileCut) (run : List Entered) (p : PlanFields) : Type 0 where
  pub size : p.size ≡ n
  pub text : (file : List ℕ) → plan_text file p ≡ flat_map (tile_packet c file) run
  pub long : plan_length p ≡ sum_by (tile_packet_size c) run

-- ---- the parts of a tile

abbrev pub no_plan : PlanFields
no_plan = record { steps = []; written = []; size = 0 }

-- the plan of the data of part n of tile t
pub record IsPartPlan (i : IndexFields) (w : Rect) (v : View) (t n : ℕ) (p : PlanFields) : Type 0 where
  pub size : p.size ≡ i.frame.size
  pub text : (file : List ℕ) → plan_text file p ≡ part_from file i w v t n
  pub long : plan_length p ≡ part_size i w v t n

-- the plans of all parts of tile t
pub record AreTilePlans (i : IndexFields) (w : Rect) (v : View) (t : ℕ) (plans : List PlanFields) : Type 0 where
  pub count : length plans ≡ length (tile_in i.headers.tiles t).data_places
  pub each : (n : ℕ) → n < length plans → IsPartPlan i w v t n (slice_index_or plans n no_plan)

-- No packet of tile t is kept, and none has an SOP.
pub record AreEmptied (i : IndexFields) (w : Rect) (v : View) (t : ℕ) : Type 0 where
  pub none : (n : PacketName) → keeps i.headers w v t n ≡ false
  pub counters : HaveNoCounters (entries_of i.packets t)

-- the plans of a tile's parts, of which there are none where all packets are emptied and have no
-- SOP
pub record TilePlanFields : Type 0 where
  pub is_emptied : Bool
  pub plans : List PlanFields

abbrev pub no_tile : TilePlanFields
no_tile = record { is_emptied = false; plans = [] }

pub record IsTilePlan (i : IndexFields) (w : Rect) (v : View) (t : ℕ) (p : TilePlanFields) : Type 0 where
  pub emptied : p.is_emptied ≡ true → AreEmptied i w v t
  pub planned : p.is_emptied ≡ false → AreTilePlans i w v t p.plans

-- the plans of the first n tiles
pub record ArePlansUpto (i : IndexFields) (w : Rect) (v : View) (n : ℕ) (all : List TilePlanFields) : Type 0 where
  pub count : length all ≡ n
  pub each : (t : ℕ) → t < n → IsTilePlan i w v t (slice_index_or all t no_tile)

-- ---- the file

-- the codestream, where each part has these data
abbrev pub framed : Frame → (ℕ → ℕ → List ℕ) → List ℕ
framed f content = f.main ++ (heads_text f.heads f.segments content ++ marker_text eoc)

-- how many bytes it has
abbrev pub framed_size : Frame → (ℕ → ℕ → ℕ) → ℕ
framed_size f size = length f.main + (sum_by (λ h. 14 + h.size + size h.tile h.number) f.heads + 2)

-- the file around another codestream: a bare one; or the file up to the head of its codestream box,
-- a head for the new length, the codestream, and what stands behind
abbrev pub around : Boxed → (size : ℕ) → List ℕ → List ℕ → List ℕ
around place size file new = slice_of file (0, place.start) ++ (new ++ slice_of file (place.end, size))

abbrev pub headed : Boxed → Form → (size : ℕ) → List ℕ → List ℕ → List ℕ
headed place form size file new =
    slice_of file (0, place.start - head_size form)
    ++ (head_text form code_kind (head_size form + length new) ++ (new ++ slice_of file (place.end, size)))

-- what stands in it before a codestream of so many bytes
abbrev pub front_of : IndexFields → (length : ℕ) → List ℕ → List ℕ
front_of i length file =
    let form = i.frame.form in
    if i.place.jp2
    then slice_of file (0, i.place.start - head_size form) ++ head_text form code_kind (head_size form + length)
    else slice_of file (0, i.place.start)

unfoldable pub reboxed : Boxed → Form → (size : ℕ) → List ℕ → List ℕ → Result (List ℕ) Fault
reboxed place form size file new =
    if place.jp2 then (if fits_form form (head_size form + length new) then Ok (headed place form size file new)
    else Err Limit)
    else Ok (around place size file new)

-- the file of the window w of a view
abbrev pub made_of : List ℕ → IndexFields → (w : Rect) → View → Result (List ℕ) Fault
made_of file i w v = reboxed i.place i.frame.form i.frame.size file (framed i.frame (part_from file i w v))

-- ---- what an index gives for it

-- each length has its place: Psot of each part its four bytes, the length of the box its form
pub record Fits (i : IndexFields) (w : Rect) (v : View) : Type 0 where
  pub parts : AllByRecursion (λ h. psot_for h (part_size i w v h.tile h.number) < 2 ^ 32) i.frame.heads
  pub box : fits_form i.frame.form (head_size i.frame.form + framed_size i.frame (part_size i w v)) ≡ true
  pub short : framed_size i.frame (part_size i w v) ≤ i.place.end - i.place.start

-- a head of a part that the headers know
pub record IsHead (headers : Headers) (h : PartHead) : Type 0 where
  pub tile : h.tile < tile_count headers.siz
  pub number : h.number < length (tile_in headers.tiles h.tile).data_places

-- The heads are of parts that there are, their segments are there, and the codestream lies in the
-- file, behind the head of its box.
pub record IsSound (i : IndexFields) : Type 0 where
  pub heads : AllByRecursion (IsHead i.headers) i.frame.heads
  pub segments : sum_by (λ h. h.size) i.frame.heads ≡ length i.frame.segments
  pub order : i.place.start ≤ i.place.end
  pub within : i.place.end ≤ i.frame.size
  pub box : i.place.jp2 ≡ true → head_size i.frame.form ≤ i.place.start
