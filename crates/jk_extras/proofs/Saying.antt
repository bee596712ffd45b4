-- What is told of a JP2 header box is what its boxes say.
use Rattle.std.proofs.Common.{◌≡◌, ℕ, ◌+◌, ◌-◌, ◌≤◌, Bool, true, false, ◌&&◌, not, cond, eqb, ltb, List, [], ◌∷◌, ◌++◌, length, take, drop, get_or, Option, Some, None, Result, Ok, refl, sym, ap, subst, ◌∙◌, append_assoc, arith, inl, inr}
use Rattle.std.specs.Prelude.{is_some}
use Rattle.std.specs.List.{AllByRecursion}
use Rattle.std.proofs.lemmas.Bool.{eqb-true, ltb-false, and_parts}
use Rattle.std.proofs.lemmas.List.{take_at, drop_at, drop-drop, drop-append-le, length-drop}
use Rattle.jk_math.specs.Answer.{◌>>=◌}
use Rattle.jk_math.specs.Steps.{bind_then, guarded, guard_ended, chosen, done, ok_is}
use Rattle.jk_math.specs.declared.fault.Fault.{Fault}
use Rattle.jk_math.specs.declared.fault.Fault.TheVariants.{BadBox}
use Rattle.jk_boxes.specs.Boxes.{Box, IsInner, box_text, boxes_text, box_size, head_size, head_text, is_open, colour_kind, palette_kind}
use Rattle.jk_boxes.specs.Reading.{contents_of}
use Rattle.jk_boxes.proofs.Heads.{head_of, head_length, box_again, after_box, contents_again, box_some}
use Rattle.jk_extras.specs.declared.grids.Grids.{Grids}
use Rattle.jk_extras.specs.declared.header.ToldColour.{ToldColour}
use Rattle.jk_extras.specs.declared.header.ToldColour.TheVariants.{Nothing, Enumerated, Profile}
use Rattle.jk_extras.specs.declared.header.Met.{Met}
use Rattle.jk_extras.specs.Grids.{grids_at}
use Rattle.jk_extras.specs.Header.{colour_at, is_nothing, met_passed, resolution_kind}
use Rattle.jk_extras.specs.Passing.{passed_by}
use Rattle.jk_extras.specs.Said.{SaidColour, Unsaid, Number, IccProfile, colour_said, or_later, said_by, first_colour, first_resolution, colour_told}
use Rattle.jk_extras.proofs.Passing.{some_left, one_step as pass_step, no_step}
use Rattle.jk_extras.proofs.Sizes.{text_size}

-- the contents of a box that stands at a place
pub contents_there : (bytes : List ℕ) (b : Box) (post : List ℕ) (at : ℕ) → drop at bytes ≡ box_text b ++ post → drop (at + head_size b.form) bytes ≡ b.contents ++ post
unfolding box_text
contents_there bytes b post at there =
    let head = head_text b.form b.kind (box_size b) in
    sym (drop-drop (head_size b.form) at bytes) ∙ ap (drop (head_size b.form)) (there ∙ append_assoc head b.contents post)
    ∙ drop_at head (b.contents ++ post) (head_size b.form) (head_length b.form b.kind (box_size b))

-- the contents of a colour specification box that stand at a place
colour_is : (bytes contents post : List ℕ) (at : ℕ) (c : ToldColour) → drop at bytes ≡ contents ++ post → colour_at at contents ≡ Ok c → colour_told bytes c ≡ colour_said contents
unfolding colour_at
colour_is bytes contents post at c there e =
    let m = get_or contents 0 0 in
    let g = guarded (ltb (length contents) 3) BadBox _ c e in
    let long : 3 ≤ length contents = ltb-false _ _ g.0 in
    elim (chosen (eqb m 1) _ _ (Ok c) g.1) [
      | inl w ↦
          let h = guard_ended (eqb (length contents) 7) BadBox _ c w.1 in
          rw w.0 (ap (colour_told bytes) (sym h.1))
      | inr w ↦ elim (chosen (eqb m 2) _ _ (Ok c) w.1) [
        | inl v ↦
            let h = guarded (eqb (length contents) 3) BadBox _ c v.1 in
            let n = length contents in
            let rest : drop (at + 3) bytes ≡ drop 3 contents ++ post = sym (drop-drop 3 at bytes) ∙ ap (drop 3) there ∙ drop-append-le 3 contents post long in
            let wide : (at + n) - (at + 3) ≡ n - 3 = omega arith in
            let slice : take ((at + n) - (at + 3)) (drop (at + 3) bytes) ≡ drop 3 contents =
            ap (λ k. take k (drop (at + 3) bytes)) wide ∙ ap (take (n - 3)) rest ∙ take_at (drop 3 contents) post (n - 3) (length-drop 3 contents) in
            rw (w.0, v.0) (ap (colour_told bytes) (sym (ok_is _ c h.1)) ∙ ap IccProfile slice)
        | inr v ↦ rw (w.0, v.0) (ap (colour_told bytes) (sym (ok_is Nothing c v.1)))
      ]
    ]

-- a colour that was told stays, and the first box that says one counts
or_keeps : (bytes : List ℕ) (c : ToldColour) (k : Bool) (s : SaidColour) → (k && is_nothing c) ≡ false → or_later (colour_told bytes c) (cond k s Unsaid) ≡ colour_told bytes c
or_keeps bytes Nothing true s e = absurd cc
or_keeps bytes Nothing false s e = refl
or_keeps bytes (Enumerated n) k s e = refl
or_keeps bytes (Profile start end) k s e = refl

or_takes : (bytes : List ℕ) (c : ToldColour) (s : SaidColour) → is_nothing c ≡ true → or_later (colour_told bytes c) s ≡ s
or_takes bytes Nothing s e = refl
or_takes bytes (Enumerated n) s e = absurd cc
or_takes bytes (Profile start end) s e = absurd cc

pub or_unsaid : (s : SaidColour) → or_later s Unsaid ≡ s
or_unsaid Unsaid = refl
or_unsaid (Number n) = refl
or_unsaid (IccProfile p) = refl

or_joined : (a b c : SaidColour) → or_later (or_later a b) c ≡ or_later a (or_later b c)
or_joined Unsaid b c = refl
or_joined (Number n) b c = refl
or_joined (IccProfile p) b c = refl

-- the same of resolutions
abbrev resolution_step : Option Grids → Bool → List ℕ → Result (Option Grids) Fault
resolution_step (Some g) k contents = Ok (Some g)
resolution_step None k contents = cond k (grids_at contents >>= λ g. Ok (Some g)) (Ok None)

resolution_keeps : (m : Option Grids) (k : Bool) (contents : List ℕ) → (k && not (is_some m)) ≡ false → resolution_step m k contents ≡ Ok m
resolution_keeps (Some g) k contents e = refl
resolution_keeps None true contents e = absurd cc
resolution_keeps None false contents e = refl

resolution_takes : (m : Option Grids) (k : Bool) (contents : List ℕ) → (k && not (is_some m)) ≡ true → resolution_step m k contents ≡ (grids_at contents >>= λ g. Ok (Some g))
resolution_takes (Some g) true contents e = absurd cc
resolution_takes (Some g) false contents e = absurd cc
resolution_takes None true contents e = refl
resolution_takes None false contents e = absurd cc

abbrev pub resolution_from : Option (List ℕ) → Result (Option Grids) Fault
resolution_from None = Ok None
resolution_from (Some contents) = grids_at contents >>= λ g. Ok (Some g)

abbrev pub resolution_over : Option Grids → List Box → Result (Option Grids) Fault
resolution_over (Some g) bs = Ok (Some g)
resolution_over None bs = resolution_from (first_resolution bs)

resolution_none : (m : Option Grids) → resolution_over m [] ≡ Ok m
resolution_none None = refl
resolution_none (Some g) = refl

resolution_more : (m next last : Option Grids) (b : Box) (bs : List Box) → resolution_step m (eqb b.kind resolution_kind) b.contents ≡ Ok next
    → resolution_over next bs ≡ Ok last → resolution_over m (b ∷ bs) ≡ Ok last
resolution_more (Some g) next last b bs e more = subst (λ (x : Option Grids). resolution_over x bs ≡ Ok last) (sym (ok_is (Some g) next e)) more
resolution_more None next last b bs e more =
    elim (chosen (eqb b.kind resolution_kind) _ _ (Ok next) e) [
      | inl w ↦ bind_then (grids_at b.contents) _ next w.1 (λ g s f.
          let last-is : done (Some g) ≡ Ok last = subst (λ (x : Option Grids). resolution_over x bs ≡ Ok last) (sym (ok_is (Some g) next f)) more in
          rw (w.0, s) last-is)
      | inr w ↦ rw w.0 (subst (λ (x : Option Grids). resolution_over x bs ≡ Ok last) (sym (ok_is None next w.1)) more)
    ]

other_kind : (k : ℕ) → eqb k colour_kind ≡ true → eqb k resolution_kind ≡ false
other_kind k is = let e : k ≡ colour_kind = eqb-true k colour_kind is in rw e refl

other_colour : (k : ℕ) → eqb k resolution_kind ≡ true → eqb k colour_kind ≡ false
other_colour k is = let e : k ≡ resolution_kind = eqb-true k resolution_kind is in rw e refl

-- one box
record Stepped (bytes : List ℕ) (met next : Met) (b : Box) : Type 0 where
  colour_is : colour_told bytes next.colour ≡ or_later (colour_told bytes met.colour) (said_by b)
  resolution_is : resolution_step met.resolution (eqb b.kind resolution_kind) b.contents ≡ Ok next.resolution

stepped : (bytes after post : List ℕ) (b : Box) (at : ℕ) (met next : Met) → drop (at + head_size b.form) bytes ≡ b.contents ++ post
    → met_passed met at (head_of b) (box_text b ++ after) ≡ Ok next → Stepped bytes met next b
unfolding met_passed
stepped bytes after post b at met next there e =
    let k = eqb b.kind colour_kind in
    let r = eqb b.kind resolution_kind in
    let is = contents_again b after in
    elim (chosen (k && is_nothing met.colour) _ _ (Ok next) e) [
      | inl w ↦
          let p = and_parts k (is_nothing met.colour) w.0 in
          bind_then (colour_at (at + head_size b.form) (contents_of (head_of b) (box_text b ++ after))) _ next w.1 (λ c s f.
          let read = ap (colour_at (at + head_size b.form)) (sym is) ∙ s in
          let here : Stepped bytes met (record { colour = c; resolution = met.resolution }) b = record {
            colour_is = colour_is bytes b.contents post (at + head_size b.form) c there read ∙ sym (or_takes bytes met.colour (said_by b) p.1 ∙ ap (λ (x : Bool). cond x (colour_said b.contents) Unsaid) p.0);
            resolution_is = resolution_keeps met.resolution r b.contents (ap (λ (x : Bool). x && not (is_some met.resolution)) (other_kind b.kind p.0));
          } in
          subst (λ (x : Met). Stepped bytes met x b) (ok_is _ next f) here)
      | inr w ↦ elim (chosen (r && not (is_some met.resolution)) _ _ (Ok next) w.1) [
        | inl v ↦
            let p = and_parts r (not (is_some met.resolution)) v.0 in
            bind_then (grids_at (contents_of (head_of b) (box_text b ++ after))) _ next v.1 (λ g s f.
            let read = ap grids_at (sym is) ∙ s in
            let here : Stepped bytes met (record { colour = met.colour; resolution = Some g }) b = record {
              colour_is = sym (or_keeps bytes met.colour k (colour_said b.contents) w.0);
              resolution_is = resolution_takes met.resolution r b.contents v.0 ∙ rw read refl;
            } in
            subst (λ (x : Met). Stepped bytes met x b) (ok_is _ next f) here)
        | inr v ↦
            let here : Stepped bytes met met b = record {
              colour_is = sym (or_keeps bytes met.colour k (colour_said b.contents) w.0);
              resolution_is = resolution_keeps met.resolution r b.contents v.0;
            } in
            subst (λ (x : Met). Stepped bytes met x b) (ok_is met next v.1) here
      ]
    ]

-- all boxes
pub record Walked (bytes : List ℕ) (met last : Met) (bs : List Box) : Type 0 where
  pub colour_is : colour_told bytes last.colour ≡ or_later (colour_told bytes met.colour) (first_colour bs)
  pub resolution_is : resolution_over met.resolution bs ≡ Ok last.resolution

pub walked : (bytes post : List ℕ) (bs : List Box) (n at : ℕ) (met last : Met) → AllByRecursion (IsInner palette_kind) bs → drop at bytes ≡ boxes_text bs ++ post
    → length (boxes_text bs) ≤ n → passed_by met_passed false n met at (boxes_text bs) ≡ Ok last → Walked bytes met last bs
walked bytes post [] n at met last plain there enough e =
    let here : Walked bytes met met [] = record { colour_is = sym (or_unsaid (colour_told bytes met.colour)); resolution_is = resolution_none met.resolution } in
    subst (λ (x : Met). Walked bytes met x []) (ok_is met last (sym (no_step met_passed false n met at [] refl) ∙ e)) here
walked bytes post (b ∷ bs) n at met last plain there enough e =
    let after = boxes_text bs in
    let rest = box_text b ++ after in
    let size = text_size b bs in
    let inner = plain.0 in
    let m = some_left n (length rest) (omega (arith, size, box_some b)) enough in
    let end : is_open b.form ≡ true → (false ≡ true) × (after ≡ []) = λ o. let c = inner.closed in absurd cc in
    let read = box_again false b after inner.box end in
    let behind = after_box b after in
    let joined : drop at bytes ≡ box_text b ++ (after ++ post) = there ∙ append_assoc (box_text b) after post in
    let inside = contents_there bytes b (after ++ post) at joined in
    let next_there : drop (at + box_size b) bytes ≡ after ++ post = sym (drop-drop (box_size b) at bytes) ∙ ap (drop (box_size b)) joined ∙ after_box b (after ++ post) in
    let step : (met_passed met at (head_of b) rest >>= λ next. passed_by met_passed false m.0 next (at + box_size b) after) ≡ Ok last =
    sym (ap (λ k. passed_by met_passed false k met at rest) m.1 ∙ pass_step met_passed false m.0 met at rest (omega (arith, size, box_some b)) ∙ rw (read, behind) refl) ∙ e in
    bind_then (met_passed met at (head_of b) rest) _ last step (λ next s f.
    let one = stepped bytes after (after ++ post) b at met next inside s in
    let more = walked bytes post bs m.0 (at + box_size b) next last plain.1 next_there (omega (arith, size, box_some b, m.1, enough)) f in
    let r : Walked bytes met last (b ∷ bs) = record {
      colour_is = more.colour_is ∙ ap (λ (x : SaidColour). or_later x (first_colour bs)) one.colour_is ∙ or_joined (colour_told bytes met.colour) (said_by b) (first_colour bs);
      resolution_is = resolution_more met.resolution next.resolution last.resolution b bs one.resolution_is more.resolution_is;
    } in
    r)
