-- Tile-parts that are planned one by one are all tile-parts of a window.
use Rattle.std.proofs.Common.{◌≡◌, ℕ, ◌+◌, ◌-◌, ◌*◌, ◌<◌, ◌≤◌, ◌^◌, Bool, true, false, cond, min, List, ◌∷◌, ◌++◌, length, take, drop, get_or, append_assoc, refl, sym, ap, ◌∙◌, subst, arith}
use Rattle.std.specs.Prelude.{sum_by}
use Rattle.std.specs.List.{AllByRecursion}
use Rattle.std.proofs.lemmas.List.{append-nil, drop_more, drop_all, drop-drop}
use Rattle.std.proofs.lemmas.List.Sums.{sum_by-cons}
use Rattle.jk_math.specs.declared.rect.Rect.{Rect}
use Rattle.jk_marks.specs.declared.part_head.PartHead.{PartHead}
use Rattle.jk_marks.specs.Siz.{tile_count}
use Rattle.jk_marks.specs.Markers.{sod, marker_text}
use Rattle.jk_marks.specs.PartHeads.{psot_for, part_head, heads_text}
use Rattle.jk_marks.specs.Codestream.{sot_text}
use Rattle.jk_marks.proofs.Laws.{heads-nil, heads-cons}
use Rattle.jk_window.specs.declared.view.View.{View}
use Rattle.jk_window.specs.Indexing.{IndexFields, IsIndexOf}
use Rattle.jk_window.specs.Planning.{PlanFields, plan_text, plan_length, IsBehind, IsHead, IsPartPlan, part_from, part_size}
use Rattle.jk_packet.specs.PacketText.{eph_text}
use Rattle.jk_params.specs.Headers.{tile_in}
use Rattle.jk_window.specs.Emptying.{emptied_texts}
use Rattle.jk_window.specs.Planning.{AreEmptied, TilePlanFields, no_tile, no_plan, IsTilePlan, ArePlansUpto, part_packets, part_text_from}
use Rattle.jk_window.proofs.PlanLaws.{get_same}
use Rattle.jk_window.proofs.NumberedPlans.{texts_length}
use Rattle.jk_window.proofs.Beside.{beside_text}
use Rattle.jk_window.proofs.PacketPlans.{part_is, part_sized}

abbrev pub size_of : PartHead → ℕ
size_of h = h.size

-- Psot of a part has its four bytes.
abbrev pub PsotFits : IndexFields → (w : Rect) → View → PartHead → Type 0
PsotFits i w v h = psot_for h (part_size i w v h.tile h.number) < 2 ^ 32

-- So far the first k parts of a window are planned.
pub record IsGoing (i : IndexFields) (w : Rect) (v : View) (old cur : PlanFields) (heads : List PartHead) (k at : ℕ) : Type 0 where
  pub size : cur.size ≡ old.size
  pub heads_left : AllByRecursion (IsHead i.headers) (drop k heads)
  pub fits : AllByRecursion (PsotFits i w v) (drop k heads)
  pub there : at + sum_by size_of (drop k heads) ≡ length i.frame.segments
  pub text : (file : List ℕ) → IsIndexOf file i
      → plan_text file cur ++ heads_text (drop k heads) (drop at i.frame.segments) (part_from file i w v) ≡ plan_text file old ++ heads_text heads i.frame.segments (part_from file i w v)

pub going_starts : (i : IndexFields) (w : Rect) (v : View) (old : PlanFields) (heads : List PartHead) → AllByRecursion (IsHead i.headers) heads → AllByRecursion (PsotFits i w v) heads → sum_by size_of heads ≡ length i.frame.segments
    → IsGoing i w v old old heads 0 0
going_starts i w v old heads all fits sum = record {
  size = refl;
  heads_left = all;
  fits = fits;
  there = omega (arith, sum);
  text = λ file is. refl;
}

-- how long the data of a part are
part_long : (file : List ℕ) (i : IndexFields) (is : IsIndexOf file i) (w : Rect) (v : View) (t n : ℕ) → t < tile_count i.headers.siz → part_size i w v t n ≡ length (part_from file i w v t n)
part_long file i is w v t n lt = part_sized file i is w v t n lt ∙ ap (λ (xs : List ℕ). length xs) (sym (part_is file i is w v t n lt))

-- a length that is cut where Psot wouldn't fit says the same
pub psot_cut : (h : PartHead) (m n : ℕ) → m ≡ min n (2 ^ 64 - 1) → psot_for h n < 2 ^ 32 → psot_for h m ≡ psot_for h n
psot_cut h m n own fits = by h.is_open refl
  where
    by : (b : Bool) → h.is_open ≡ b → psot_for h m ≡ psot_for h n
    by true e = ap (λ b. cond b 0 (14 + h.size + m)) e ∙ sym (ap (λ b. cond b 0 (14 + h.size + n)) e)
    by false e =
        let lt : 14 + h.size + n < 2 ^ 32 = subst (λ b. cond b 0 (14 + h.size + n) < 2 ^ 32) e fits in
        let same : m ≡ n = omega (arith, own, lt) in
        ap (psot_for h) same

pub head_cut : (h : PartHead) (kept : List ℕ) (m n : ℕ) → psot_for h m ≡ psot_for h n → part_head h kept m ≡ part_head h kept n
head_cut h kept m n same = ap (λ p. sot_text h.tile p h.number h.total ++ (kept ++ marker_text sod)) same

-- the text of a head, and then that of its data
pub head_behind : (file : List ℕ) (old mid new : PlanFields) (head text : List ℕ) (m n : ℕ) → IsBehind old mid (λ _. head) m → IsBehind mid new (λ _. text) n → plan_text file new ≡ plan_text file old ++ (head ++ text)
head_behind file old mid new head text m n one two =
    two.made file ∙ ap (λ (xs : List ℕ). xs ++ text) (one.made file) ∙ append_assoc (plan_text file old) head text

-- the plan of a tile among those of all
pub tile_at : (i : IndexFields) (w : Rect) (v : View) (n t : ℕ) (all : List TilePlanFields) (x : TilePlanFields) → ArePlansUpto i w v n all → t < n → x ≡ get_or all t x → IsTilePlan i w v t x
tile_at i w v n t all x are lt is =
    let count = are.count in
    subst (IsTilePlan i w v t) (get_same all t no_tile x (omega (arith, count, lt)) ∙ sym is) (are.each t lt)

-- and that of a part of it
pub part_at : (i : IndexFields) (w : Rect) (v : View) (t n : ℕ) (x : TilePlanFields) → IsTilePlan i w v t x → x.is_emptied ≡ false → n < length (tile_in i.headers.tiles t).data_places
    → (n < length x.plans) × IsPartPlan i w v t n (get_or x.plans n no_plan)
part_at i w v t n x is shown lt =
    let plans = is.planned shown in
    let count = plans.count in
    let within : n < length x.plans = omega (arith, count, lt) in
    (within, plans.each n within)

-- a part by a plan of its data
pub planned_part : (file : List ℕ) (i : IndexFields) (w : Rect) (v : View) (old new p : PlanFields) (h : PartHead) (piece : List ℕ) → IsIndexOf file i → h.tile < tile_count i.headers.siz → IsPartPlan i w v h.tile h.number p
    → plan_text file new ≡ plan_text file old ++ (part_head h piece (plan_length p) ++ plan_text file p) → plan_text file new ≡ plan_text file old ++ part_text_from file i w v h piece
planned_part file i w v old new p h piece index lt plan made =
    let long : plan_length p ≡ length (part_from file i w v h.tile h.number) = plan.long ∙ part_long file i index w v h.tile h.number lt in
    made ∙ (λ j. plan_text file old ++ (part_head h piece (long j) ++ plan.text file j))

-- a part of which no packet is kept, and none has an SOP
pub emptied_part : (file : List ℕ) (i : IndexFields) (w : Rect) (v : View) (old new : PlanFields) (h : PartHead) (piece : List ℕ) (m : ℕ) (eph : Bool) → AreEmptied i w v h.tile → length (part_packets i h.tile h.number) ≡ m
    → eph ≡ (tile_in i.headers.tiles h.tile).cod.eph
    → plan_text file new ≡ plan_text file old ++ (part_head h piece (m * length (0 ∷ eph_text eph)) ++ emptied_texts eph m) → plan_text file new ≡ plan_text file old ++ part_text_from file i w v h piece
emptied_part file i w v old new h piece m eph are count own made =
    let text : part_from file i w v h.tile h.number ≡ emptied_texts eph m = beside_text file i w v h.tile h.number m are count ∙ ap (λ b. emptied_texts b m) (sym own) in
    let long : m * length (0 ∷ eph_text eph) ≡ length (part_from file i w v h.tile h.number) = sym (ap (λ (xs : List ℕ). length xs) text ∙ texts_length eph m) in
    made ∙ (λ j. plan_text file old ++ (part_head h piece (long j) ++ sym text j))

pub going_more : (i : IndexFields) (w : Rect) (v : View) (old cur new : PlanFields) (heads : List PartHead) (k at : ℕ) (e : PartHead) (h : PartHead) (piece : List ℕ) → IsGoing i w v old cur heads k at → k < length heads → h ≡ get_or heads k e
    → piece ≡ take h.size (drop at i.frame.segments) → new.size ≡ cur.size
    → ((file : List ℕ) → IsIndexOf file i → plan_text file new ≡ plan_text file cur ++ part_text_from file i w v h piece) → IsGoing i w v old new heads (k + 1) (at + h.size)
going_more i w v old cur new heads k at e h piece g lt own is size made =
    let rest = drop (k + 1) heads in
    let here : drop k heads ≡ h ∷ rest = drop_more heads k e lt ∙ ap (λ (x : PartHead). x ∷ rest) (sym own) in
    let all = subst (AllByRecursion (IsHead i.headers)) here g.heads_left in
    let fits = subst (AllByRecursion (PsotFits i w v)) here g.fits in
    let sum = ap (sum_by size_of) here ∙ sum_by-cons size_of h rest in
    let there = g.there in
    record {
      size = size ∙ g.size;
      heads_left = all.1;
      fits = fits.1;
      there = omega (arith, there, sum);
      text = λ file index.
          let content = part_from file i w v in
          let own-data = content h.tile h.number in
          let segments = drop at i.frame.segments in
          let behind = heads_text rest (drop (at + h.size) i.frame.segments) content in
          let head = part_head h (take h.size segments) (length own-data) in
          ap (λ (xs : List ℕ). xs ++ behind) (made file index ∙ (λ j. plan_text file cur ++ (part_head h (is j) (length own-data) ++ own-data)))
          ∙ append_assoc (plan_text file cur) (head ++ own-data) behind
          ∙ ap (λ (xs : List ℕ). plan_text file cur ++ xs) (append_assoc head own-data behind)
          ∙ ap (λ (xs : List ℕ). plan_text file cur ++ (head ++ (own-data ++ heads_text rest xs content))) (sym (drop-drop h.size at i.frame.segments))
          ∙ ap (λ (xs : List ℕ). plan_text file cur ++ xs) (sym (heads-cons h rest segments content))
          ∙ ap (λ (hs : List PartHead). plan_text file cur ++ heads_text hs segments content) (sym here)
          ∙ g.text file index;
    }

pub going_over : (i : IndexFields) (w : Rect) (v : View) (old cur : PlanFields) (heads : List PartHead) (k at : ℕ) → IsGoing i w v old cur heads k at → length heads ≤ k → (file : List ℕ) → IsIndexOf file i
    → plan_text file cur ≡ plan_text file old ++ heads_text heads i.frame.segments (part_from file i w v)
going_over i w v old cur heads k at g le file index =
    let content = part_from file i w v in
    sym (append-nil (plan_text file cur))
    ∙ ap (λ (xs : List ℕ). plan_text file cur ++ xs) (sym (heads-nil (drop at i.frame.segments) content))
    ∙ ap (λ (hs : List PartHead). plan_text file cur ++ heads_text hs (drop at i.frame.segments) content) (sym (drop_all k heads le))
    ∙ g.text file index
