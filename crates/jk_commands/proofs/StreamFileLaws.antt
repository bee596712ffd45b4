-- A file that comes from a source, by its head and the raster behind it.
use Rattle.std.proofs.Common.{◌≡◌, ℕ, ◌*◌, ◌-◌, ◌≤◌, ◌⊎◌, List, [], ◌++◌, length, take, drop, Option, Result, Ok, Err, OnOk, refl, sym, ap, subst, ◌∙◌, append_assoc, append-nil, inl, inr, arith}
use Rattle.std.specs.Bool.{⊤}
use Rattle.std.proofs.lemmas.List.{take-append-drop}
use Rattle.std.specs.Io.KnownBytes.{Appends}
use Rattle.jk_math.specs.Memory.{IsMemory}
use Rattle.jk_math.specs.Picture.{Picture}
use Rattle.jk_math.specs.Steps.{ok_is}
use Rattle.jk_math.specs.declared.fault.Fault.{Fault}
use Rattle.jk_math.specs.declared.fault.Fault.TheVariants.{Shelf, BadPnm}
use Rattle.jk_math.proofs.Laws.{appends_none}
use Rattle.jk_pnm.specs.declared.header.Header.{Header}
use Rattle.jk_pnm.specs.Pnm.{IsPnm}
use Rattle.jk_pnm.specs.Reading.{header_at, pnm_at}
use Rattle.jk_pnm.specs.Heads.{row_bytes}
use Rattle.jk_pnm.specs.RasterRows.{drawn}
use Rattle.jk_pnm.proofs.Laws.{header_forward, header_bad, pnm_again, pnm_unheaded, pnm_bad, pnm_fine, raster_behind}
use Rattle.jk_code.specs.Meaning.{Means}
use Rattle.jk_code.specs.Written.{written}
use Rattle.jk_options.specs.declared.plan.Plan.{Plan}
use Rattle.jk_options.specs.declared.plan.PlacedFrame.{PlacedFrame}
use Rattle.jk_options.specs.Plans.{at_place, placing, placed_on}
use Rattle.jk_files.specs.declared.incoming.Incoming.{Incoming}
use Rattle.jk_files.specs.Incoming.{waiting_of, Took}
use Rattle.jk_files.proofs.Laws.{took_both}
use Rattle.jk_commands.specs.Commands.{encoded}
use Rattle.jk_commands.specs.RowStreaming.{with_raster, AreBad, WereRefused, HasRaster, IsLeftOfStream, HasAll, HasNoHead, IsBad, IsLeftOfIncoming}
use Rattle.jk_commands.proofs.LeftLaws.{Wrote, encoded_is, left_of, left_unplaced}
use Rattle.jk_commands.proofs.StreamLaws.{took_front}

-- a head that is whole in bytes that wait
pub head_waits : (bytes w raster : List ℕ) (h : Header) → bytes ≡ w → header_at bytes ≡ Ok (h, raster)
    → (length bytes - length raster ≤ length w) × (header_at w ≡ Ok (h, drop (length bytes - length raster) w))
head_waits bytes w raster h same is =
    let n = length raster in
    let read = ap (λ (xs : List ℕ). header_at xs) (sym same) ∙ is in
    let behind = raster_behind w (h, raster) n read refl in
    let long : length bytes ≡ length w = ap (λ (xs : List ℕ). length xs) same in
    let left : drop (length bytes - n) w ≡ raster = ap (λ k. drop (k - n) w) long ∙ behind.tail in
    (omega arith, read ∙ ap (λ (xs : List ℕ). let r : Result (Header × List ℕ) Fault = Ok (h, xs) in r) (sym left))

pub head_fits : (bytes raster : List ℕ) (h : Header) → header_at bytes ≡ Ok (h, raster) → length raster ≤ length bytes
head_fits bytes raster h is = (raster_behind bytes (h, raster) (length raster) is refl).room

-- or none
pub headless : (bytes w : List ℕ) (e : Fault) → bytes ≡ w → header_at bytes ≡ Err e → header_at w ≡ Err BadPnm
headless bytes w e same is =
    ap (λ (xs : List ℕ). header_at xs) (sym same) ∙ is ∙ ap (λ (d : Fault). let r : Result (Header × List ℕ) Fault = Err d in r) (header_bad bytes e is)

module _ {S : Type 0} (remaining : S → Option (List ℕ)) where
  -- the head that waited was taken
  pub head_taken : (a b c d : Incoming S) (n : ℕ) (h : Header) → Took remaining a b [] → Took remaining b c [] → header_at (waiting_of c) ≡ Ok (h, drop n (waiting_of c)) → d.source ≡ c.source
      → waiting_of d ≡ drop n (waiting_of c) → (front : List ℕ) × Took remaining a d front × (header_at (front ++ waiting_of d) ≡ Ok (h, waiting_of d))
  head_taken a b c d n h first second is same left =
      let front = take n (waiting_of c) in
      let whole : front ++ waiting_of d ≡ waiting_of c = ap (λ (xs : List ℕ). front ++ xs) left ∙ take-append-drop n (waiting_of c) in (
        front,
        took_both remaining a c d [] front (took_both remaining a b c [] [] first second) (took_front remaining c d n same left),
        ap (λ (xs : List ℕ). header_at xs) whole ∙ is ∙ ap (λ (xs : List ℕ). let r : Result (Header × List ℕ) Fault = Ok (h, xs) in r) (sym left),
      )

  -- A head was taken, and what waits behind it.
  pub record HasHead (a b : Incoming S) (h : Header) : Type 0 where
    pub front : List ℕ
    pub took : Took remaining a b front
    pub head : header_at (front ++ waiting_of b) ≡ Ok (h, waiting_of b)

  -- the head is that of the file, whatever comes behind the bytes that were seen
  head_stays : (a b c : Incoming S) (h : Header) (k : HasHead a b h) (bytes more : List ℕ) → Took remaining b c bytes
      → header_at (k.front ++ ((bytes ++ waiting_of c) ++ more)) ≡ Ok (h, (bytes ++ waiting_of c) ++ more)
  head_stays a b c h k bytes more took =
      let seen : (bytes ++ waiting_of c) ++ more ≡ waiting_of b ++ (took.more ++ more) = ap (λ (xs : List ℕ). xs ++ more) took.text ∙ append_assoc (waiting_of b) took.more more in
      let forward = header_forward (k.front ++ waiting_of b) (took.more ++ more) (h, waiting_of b) k.head in
      let whole : (k.front ++ waiting_of b) ++ (took.more ++ more) ≡ k.front ++ (waiting_of b ++ (took.more ++ more)) = append_assoc k.front (waiting_of b) (took.more ++ more) in
      subst (λ (xs : List ℕ). header_at (k.front ++ xs) ≡ Ok (h, xs)) (sym seen) (subst (λ (xs : List ℕ). header_at xs ≡ Ok (h, waiting_of b ++ (took.more ++ more))) whole forward)

  -- the file is refused
  bad_file : (a b c : Incoming S) (h : Header) → HasHead a b h → AreBad remaining h 0 b c → IsBad remaining a c
  bad_file a b c h k bad = record {
    bytes = k.front ++ bad.bytes;
    took = took_both remaining a b c k.front bad.bytes k.took bad.took;
    why = λ more none.
        let w = waiting_of c in
        let none_before : 0 ≡ 0 * row_bytes h = omega arith in
        let whole : k.front ++ ((bad.bytes ++ w) ++ more) ≡ ((k.front ++ bad.bytes) ++ w) ++ more =
        sym (append_assoc k.front (bad.bytes ++ w) more) ∙ ap (λ (xs : List ℕ). xs ++ more) (sym (append_assoc k.front bad.bytes w)) in
        subst (λ (xs : List ℕ). pnm_at xs ≡ Err BadPnm) whole
        (pnm_bad (k.front ++ ((bad.bytes ++ w) ++ more)) h ((bad.bytes ++ w) ++ more) (head_stays a b c h k bad.bytes more bad.took) (bad.why [] more none_before none));
  }

  pub bad_head : (a b : Incoming S) → Took remaining a b [] → HasNoHead remaining b → IsBad remaining a b
  bad_head a b took bad = record {
    bytes = [];
    took = took;
    why = λ more none. pnm_unheaded (waiting_of b ++ more) BadPnm (bad more none);
  }

  -- A file was taken, and has this picture.
  record IsFileOf (a c : Incoming S) (h : Header) (bytes : List ℕ) : Type 0 where
    input : List ℕ
    all : HasAll remaining a c input
    read : pnm_at input ≡ Ok (drawn (with_raster h bytes))

  whole_file : (a b c : Incoming S) (h : Header) (bytes : List ℕ) → HasHead a b h → HasRaster remaining h b c bytes → IsFileOf a c h bytes
  whole_file a b c h bytes k whole =
      let w = waiting_of c in
      let none : (bytes ++ w) ++ [] ≡ bytes = append-nil (bytes ++ w) ∙ ap (λ (xs : List ℕ). bytes ++ xs) whole.none ∙ append-nil bytes in
      let head = subst (λ (xs : List ℕ). header_at (k.front ++ xs) ≡ Ok (h, xs)) none (head_stays a b c h k bytes [] whole.took) in
      record {
        input = k.front ++ bytes;
        all = record { took = took_both remaining a b c k.front bytes k.took whole.took; ended = whole.ended; none = whole.none };
        read = pnm_fine (k.front ++ bytes) h bytes head whole.long whole.picture;
      }

  -- ---- what was written

  bad_left : (x y : Option (List ℕ)) (plan : Plan) (a c : Incoming S) (text : List ℕ) (r : Result ⊤ Fault) → Appends x y text → r ≡ Err BadPnm → text ≡ [] → IsBad remaining a c
      → Wrote x y (λ text. IsLeftOfIncoming remaining plan a c text r)
  bad_left x y plan a c text r appends is none bad = (text, appends, inr (inr (is, none, bad)))

  failed_left : (x y : Option (List ℕ)) (plan : Plan) (a c : Incoming S) (text : List ℕ) (r : Result ⊤ Fault) (e : Fault) → Appends x y text → r ≡ Err e → text ≡ [] → IsMemory e ⊎ (e ≡ Shelf)
      → Wrote x y (λ text. IsLeftOfIncoming remaining plan a c text r)
  failed_left x y plan a c text r e appends is none why = (text, appends, inr (inl (e, is, why, none)))

  refused_left : (x y : Option (List ℕ)) (plan : Plan) (a b c : Incoming S) (h : Header) (text : List ℕ) (r : Result ⊤ Fault) (e : Fault) → HasHead a b h → Appends x y text → r ≡ Err e → text ≡ []
      → IsMemory e ⊎ WereRefused remaining h 0 b e c → Wrote x y (λ text. IsLeftOfIncoming remaining plan a c text r)
  refused_left x y plan a b c h text r e k appends is none why = elim why [
    | inl memory ↦ failed_left x y plan a c text r e appends is none (inl memory)
    | inr refused ↦ elim refused [
      | inl shelf ↦ failed_left x y plan a c text r e appends is none (inr shelf)
      | inr bad ↦ bad_left x y plan a c text r appends (is ∙ ap (λ (d : Fault). let q : Result ⊤ Fault = Err d in q) bad.0) none (bad_file a b c h k bad.1)
    ]
  ]

  -- no head was found
  pub headless_left : (x : Option (List ℕ)) (plan : Plan) (a b : Incoming S) (e : Fault) → IsMemory e ⊎ (e ≡ Shelf) ⊎ (e ≡ BadPnm)
      → (e ≡ BadPnm → Took remaining a b [] × HasNoHead remaining b) → Wrote x x (λ text. IsLeftOfIncoming remaining plan a b text (Err e))
  headless_left x plan a b e kind bad = elim kind [
    | inl memory ↦ failed_left x x plan a b [] (Err e) e (appends_none x) refl refl (inl memory)
    | inr other ↦ elim other [
      | inl shelf ↦ failed_left x x plan a b [] (Err e) e (appends_none x) refl refl (inr shelf)
      | inr is ↦
          let h = bad is in
          bad_left x x plan a b [] (Err e) (appends_none x) (ap (λ (d : Fault). let q : Result ⊤ Fault = Err d in q) is) refl (bad_head a b h.0 h.1)
    ]
  ]

  -- the picture can't lie there, and the rows were looked at
  pub judged_left : (x : Option (List ℕ)) (plan : Plan) (a b c : Incoming S) (h : Header) (e : Fault) → HasHead a b h → IsMemory e ⊎ WereRefused remaining h 0 b e c
      → Wrote x x (λ text. IsLeftOfIncoming remaining plan a c text (Err e))
  judged_left x plan a b c h e k why = refused_left x x plan a b c h [] (Err e) e k (appends_none x) refl refl why

  pub unplaced_left : (x : Option (List ℕ)) (plan : Plan) (a b c : Incoming S) (h : Header) (e : Fault) (bytes : List ℕ) → HasHead a b h → HasRaster remaining h b c bytes
      → placing (drawn (with_raster h bytes)) plan ≡ Err e → Wrote x x (λ text. IsLeftOfIncoming remaining plan a c text (Err e))
  unplaced_left x plan a b c h e bytes k whole placed =
      let file = whole_file a b c h bytes k whole in
      let left = left_unplaced x file.input plan (drawn (with_raster h bytes)) e file.read placed in
      (left.0, left.1, inl (file.input, file.all, left.2))

  -- it can, and what encoding it leaves
  pub placed_left : (x y : Option (List ℕ)) (plan : Plan) (a b c : Incoming S) (h : Header) (placed : PlacedFrame) (r : Result ⊤ Fault) → HasHead a b h
      → ((bytes : List ℕ) → placing (drawn (with_raster h bytes)) plan ≡ Ok (placed_on (drawn (with_raster h bytes)) placed))
      → Wrote x y (λ text. IsLeftOfStream remaining h placed.frame.x0 placed.frame.y0 placed.parameters b c text r) → Wrote x y (λ text. IsLeftOfIncoming remaining plan a c text r)
  placed_left x y plan a b c h placed r k is wrote = elim wrote.2 [
    | inl s ↦ refused_left x y plan a b c h wrote.0 r s.0 k wrote.1 s.1 s.3 s.2
    | inr s ↦
        let bytes = s.0 in
        let p = drawn (with_raster h bytes) in
        let file = whole_file a b c h bytes k s.1 in
        let left = left_of x y file.input plan p (placed_on p placed) r file.read (is bytes) (wrote.0, wrote.1, s.2) in
        (left.0, left.1, inl (file.input, file.all, left.2))
  ]

  -- the whole file
  pub placed_whole : (x y : Option (List ℕ)) (plan : Plan) (a b c : Incoming S) (h : Header) (placed : PlacedFrame) (r : Result ⊤ Fault) → HasHead a b h
      → ((bytes : List ℕ) → placing (drawn (with_raster h bytes)) plan ≡ Ok (placed_on (drawn (with_raster h bytes)) placed)) → placed.frame.x0 ≡ plan.x0 → placed.frame.y0 ≡ plan.y0
      → OnOk r ((bytes : List ℕ) × HasRaster remaining h b c bytes × (file : List ℕ) × (written (at_place (drawn (with_raster h bytes)) placed.frame.x0 placed.frame.y0) placed.parameters ≡ Ok file)
      × Appends x y file × Means file 0 (at_place (drawn (with_raster h bytes)) placed.frame.x0 placed.frame.y0))
      → OnOk r ((input : List ℕ) × HasAll remaining a c input × (file : List ℕ) × (encoded input plan ≡ Ok file) × Appends x y file × ((p : Picture) → IsPnm input p → Means file 0 (at_place p plan.x0 plan.y0)))
  placed_whole x y plan a b c h placed (Ok done) k is left upper s =
      let bytes = s.0 in
      let q = drawn (with_raster h bytes) in
      let file = whole_file a b c h bytes k s.1 in
      let there : at_place q placed.frame.x0 placed.frame.y0 ≡ at_place q plan.x0 plan.y0 = ap (λ n. at_place q n placed.frame.y0) left ∙ ap (λ n. at_place q plan.x0 n) upper in (
        file.input,
        file.all,
        s.2,
        encoded_is file.input plan q (placed_on q placed) file.read (is bytes) ∙ s.3,
        s.4,
        λ p pnm.
            let same : q ≡ p = ok_is q p (sym file.read ∙ pnm_again file.input p pnm) in
            subst (λ (v : Picture). Means s.2 0 v) (there ∙ ap (λ (v : Picture). at_place v plan.x0 plan.y0) same) s.5,
      )
  placed_whole x y plan a b c h placed (Err e) k is left upper s = tt
