-- A file with extras is told where the file was.
use Rattle.std.proofs.Common.{◌≡◌, ℕ, suc, ◌<◌, ◌+◌, ◌≤◌, Bool, true, false, ◌&&◌, not, cond, eqb, ltb, leb, List, [], ◌∷◌, ◌++◌, length, drop, get_or, Option, Some, None, Result, Ok, Err, refl, sym, ap, ◌∙◌, arith, inl, inr}
use Rattle.std.specs.Prelude.{is_some}
use Rattle.std.specs.List.{AllByRecursion, filter}
use Rattle.std.proofs.lemmas.Bool.{eqb-true, and_parts, leb-true, le-ltb, ne_eqb}
use Rattle.byteorder.specs.Endian.{big_number}
use Rattle.jk_math.specs.Answer.{◌>>=◌}
use Rattle.jk_math.specs.Steps.{bind_then, chosen, ok_is}
use Rattle.jk_math.specs.declared.fault.Fault.{Fault}
use Rattle.jk_math.specs.declared.fault.Fault.TheVariants.{BadBox}
use Rattle.jk_boxes.specs.Boxes.{Box, IsInner, box_text, boxes_text, box_size, head_size, is_open, colour_kind, palette_kind}
use Rattle.jk_boxes.specs.Reading.{box_at, contents_of}
use Rattle.jk_boxes.proofs.Heads.{head_of, box_again, after_box, contents_again, box_some}
use Rattle.jk_extras.specs.declared.grids.Grids.{Grids}
use Rattle.jk_extras.specs.declared.header.ToldColour.{ToldColour}
use Rattle.jk_extras.specs.declared.header.ToldColour.TheVariants.{Nothing, Enumerated, Profile}
use Rattle.jk_extras.specs.declared.header.Met.{Met}
use Rattle.jk_extras.specs.declared.values.Colour.{Colour}
use Rattle.jk_extras.specs.declared.values.Colour.TheVariants.{AsItIs, Enumerated as GivenSpace, Profile as GivenProfile}
use Rattle.jk_extras.specs.declared.values.Extras.{Extras}
use Rattle.jk_extras.specs.Grids.{grids_at}
use Rattle.jk_extras.specs.Header.{colour_at, is_nothing, met_passed, resolution_kind}
use Rattle.jk_extras.specs.Passing.{passed_by}
use Rattle.jk_extras.specs.Extras.{is_colour, goes, has_colour, has_grids, colour_boxes, resolution_box, resolution_boxes}
use Rattle.jk_extras.specs.Profiles.{has_size, is_restricted}
use Rattle.jk_extras.specs.Dressed.{header_boxes}
use Rattle.jk_extras.specs.Said.{first_resolution}
use Rattle.jk_extras.proofs.Passing.{some_left, one_step as pass_step, no_step}
use Rattle.jk_extras.proofs.Sizes.{text_size}
use Rattle.jk_extras.proofs.Dressings.{stays}
use Rattle.jk_extras.proofs.Saying.{resolution_over, resolution_from}
use Rattle.jk_extras.proofs.ReadBack.{goes_resolution, not_resolution, no_colour_box}

-- whether the colour of boxes is told without a fault, and whether it is nothing
abbrev pub colour_due : List Box → Result Bool Fault
colour_due [] = Ok true
colour_due (b ∷ bs) =
    cond (eqb b.kind colour_kind) (colour_at 0 b.contents >>= λ c. cond (is_nothing c) (colour_due bs) (Ok false)) (colour_due bs)

-- the same wherever it stands
abbrev shape : (t m l n k : Bool) → ℕ → ToldColour → Result ToldColour Fault
shape t m l n k number profile = cond t (Err BadBox) (cond m (cond l (Ok (Enumerated number)) (Err BadBox)) (cond n (cond k (Err BadBox) (Ok profile)) (Ok Nothing)))

-- two colours of which one is nothing where the other is
record Alike (r s : Result ToldColour Fault) : Type 0 where
  there : (c : ToldColour) → r ≡ Ok c → (d : ToldColour) × (s ≡ Ok d) × (is_nothing d ≡ is_nothing c)

alike_same : (r : Result ToldColour Fault) → Alike r r
alike_same r = record { there = λ c e. (c, e, refl) }

alike_fault : (d : Fault) (s : Result ToldColour Fault) → Alike (Err d) s
alike_fault d s = record { there = λ c e. absurd cc }

alike_profile : (a b c d : ℕ) → Alike (Ok (Profile a b)) (Ok (Profile c d))
alike_profile a b c d = record { there = λ x e. (Profile c d, refl, ap is_nothing (ok_is (Profile a b) x e)) }

shape_alike : (t m l n k : Bool) (number a b c d : ℕ) → Alike (shape t m l n k number (Profile a b)) (shape t m l n k number (Profile c d))
shape_alike true m l n k number a b c d = alike_same (Err BadBox)
shape_alike false true l n k number a b c d = alike_same (cond l (Ok (Enumerated number)) (Err BadBox))
shape_alike false false l true true number a b c d = alike_same (Err BadBox)
shape_alike false false l true false number a b c d = alike_profile a b c d
shape_alike false false l false k number a b c d = alike_same (Ok Nothing)

colour_alike : (x y : ℕ) (contents : List ℕ) → Alike (colour_at x contents) (colour_at y contents)
unfolding colour_at
colour_alike x y contents =
    shape_alike (ltb (length contents) 3) (eqb (get_or contents 0 0) 1) (eqb (length contents) 7) (eqb (get_or contents 0 0) 2) (eqb (length contents) 3) (big_number 4 (drop 3 contents))
    (x + 3) (x + length contents) (y + 3) (y + length contents)

-- what is due of boxes where so much was met
pub record IsDue (met : Met) (bs : List Box) : Type 0 where
  pub colour_told : is_nothing met.colour ≡ true → (x : Bool) × (colour_due bs ≡ Ok x)
  pub resolution_told : (g : Option Grids) × (resolution_over met.resolution bs ≡ Ok g)

-- a box that isn't a colour or counts no more
other_due : (k n : Bool) (r s : Result Bool Fault) → (k && n) ≡ false → n ≡ true → cond k r s ≡ s
other_due true n r s e f = absurd cc
other_due false n r s e f = refl

over_other : (m : Option Grids) (b : Box) (bs : List Box) → (eqb b.kind resolution_kind && not (is_some m)) ≡ false → resolution_over m (b ∷ bs) ≡ resolution_over m bs
over_other (Some g) b bs e = refl
over_other None b bs e = rw (and_true (eqb b.kind resolution_kind) e) refl
  where
    and_true : (k : Bool) → (k && true) ≡ false → k ≡ false
    and_true true e = absurd cc
    and_true false e = refl

none_met : (m : Option Grids) → not (is_some m) ≡ true → m ≡ None
none_met None e = refl
none_met (Some g) e = absurd cc

-- from the colours of all boxes to those behind the first
rest_due : (b : Box) (bs : List Box) (c : ToldColour) (x : Bool) → eqb b.kind colour_kind ≡ true → colour_at 0 b.contents ≡ Ok c → colour_due (b ∷ bs) ≡ Ok x → is_nothing c ≡ true → colour_due bs ≡ Ok x
rest_due b bs c x is read due nothing = sym (rw (is, read, nothing) refl) ∙ due

-- what stands once a box was passed
record Goes (met : Met) (at : ℕ) (b : Box) (after : List ℕ) (bs : List Box) : Type 0 where
  next : Met
  pass : met_passed met at (head_of b) (box_text b ++ after) ≡ Ok next
  due : IsDue next bs

bool_same : (b : Bool) → cond b true false ≡ b
bool_same true = refl
bool_same false = refl

-- a box that isn't a colour, or after which no colour is due
goes_by : (met : Met) (at : ℕ) (b : Box) (after : List ℕ) (bs : List Box) → IsDue met (b ∷ bs) → (eqb b.kind colour_kind && is_nothing met.colour) ≡ false → Goes met at b after bs
unfolding met_passed
goes_by met at b after bs due no_colour =
    let k = eqb b.kind colour_kind in
    let r = eqb b.kind resolution_kind in
    let n = is_nothing met.colour in
    let m = not (is_some met.resolution) in
    let is = contents_again b after in
    let colours = λ (nothing : n ≡ true). (let d = due.colour_told nothing in
    let same : colour_due (b ∷ bs) ≡ colour_due bs = other_due k n (colour_at 0 b.contents >>= λ c. cond (is_nothing c) (colour_due bs) (Ok false)) (colour_due bs) no_colour nothing in
    let e : colour_due bs ≡ Ok d.0 = sym same ∙ d.1 in
    let pair : (x : Bool) × (colour_due bs ≡ Ok x) = (d.0, e) in pair) in
    elim (chosen (r && m) true false (r && m) (bool_same (r && m))) [
      | inl w ↦
          let p = and_parts r m w.0 in
          let none = none_met met.resolution p.1 in
          let d = due.resolution_told in
          let both = w.0 in
          let kind = p.0 in
          let read : (grids_at b.contents >>= λ g. Ok (Some g)) ≡ Ok d.0 =
          sym (ap (λ (x : Option Grids). resolution_over x (b ∷ bs)) none ∙ ap (λ (x : Bool). resolution_from (cond x (Some b.contents) (first_resolution bs))) kind) ∙ d.1 in
          bind_then (grids_at b.contents) _ d.0 read (λ g s f.
          let next : Met = record { colour = met.colour; resolution = Some g } in
          let here : Goes met at b after bs = record {
            next = next;
            pass = rw (no_colour, both, is, s) refl;
            due = record { colour_told = colours; resolution_told = (Some g, refl) };
          } in
          here)
      | inr w ↦
          let neither = w.0 in
          let here : Goes met at b after bs = record {
            next = met;
            pass = rw (no_colour, neither) refl;
            due = record {
              colour_told = colours;
              resolution_told = (due.resolution_told.0, sym (over_other met.resolution b bs neither) ∙ due.resolution_told.1);
            };
          } in
          here
    ]

goes_on : (met : Met) (at : ℕ) (b : Box) (after : List ℕ) (bs : List Box) → IsDue met (b ∷ bs) → Goes met at b after bs
unfolding met_passed
goes_on met at b after bs due =
    let k = eqb b.kind colour_kind in
    let r = eqb b.kind resolution_kind in
    let n = is_nothing met.colour in
    let is = contents_again b after in
    elim (chosen (k && n) true false (k && n) (bool_same (k && n))) [
      | inl w ↦
          let p = and_parts k n w.0 in
          let d = due.colour_told p.1 in
          let kind = p.0 in
          let not_r = not_resolution b.kind kind in
          bind_then (colour_at 0 b.contents) _ d.0 (sym (ap (λ (x : Bool). cond x (colour_at 0 b.contents >>= λ c. cond (is_nothing c) (colour_due bs) (Ok false)) (colour_due bs)) kind) ∙ d.1) (λ c s f.
          let a = (colour_alike 0 (at + head_size b.form) b.contents).there c s in
          let next : Met = record { colour = a.0; resolution = met.resolution } in
          let both = w.0 in
          let here : Goes met at b after bs = record {
            next = next;
            pass = rw (both, is, a.1) refl;
            due = record {
              colour_told = λ nothing. (d.0, rest_due b bs c d.0 kind s d.1 (sym a.2 ∙ nothing));
              resolution_told = (due.resolution_told.0, sym (over_other met.resolution b bs (ap (λ (x : Bool). x && not (is_some met.resolution)) not_r)) ∙ due.resolution_told.1);
            };
          } in
          here)
      | inr w ↦ goes_by met at b after bs due w.0
    ]

passes_on : (met next last : Met) (n m at : ℕ) (b : Box) (after : List ℕ) → n ≡ suc m → 0 < length (box_text b ++ after) → box_at false (box_text b ++ after) ≡ Ok (head_of b)
    → met_passed met at (head_of b) (box_text b ++ after) ≡ Ok next → passed_by met_passed false m next (at + box_size b) after ≡ Ok last
    → passed_by met_passed false n met at (box_text b ++ after) ≡ Ok last
passes_on met next last n m at b after is some read pass more =
    let behind = after_box b after in
    ap (λ k. passed_by met_passed false k met at (box_text b ++ after)) is ∙ pass_step met_passed false m met at (box_text b ++ after) some ∙ rw (read, pass, behind) more

-- what is due is told
pub told_by_due : (bs : List Box) (n at : ℕ) (met : Met) → AllByRecursion (IsInner palette_kind) bs → length (boxes_text bs) ≤ n → IsDue met bs
    → (last : Met) × (passed_by met_passed false n met at (boxes_text bs) ≡ Ok last)
told_by_due [] n at met plain enough due = (met, no_step met_passed false n met at [] refl)
told_by_due (b ∷ bs) n at met plain enough due =
    let after = boxes_text bs in
    let rest = box_text b ++ after in
    let size = text_size b bs in
    let inner = plain.0 in
    let m = some_left n (length rest) (omega (arith, size, box_some b)) enough in
    let end : is_open b.form ≡ true → (false ≡ true) × (after ≡ []) = λ o. let c = inner.closed in absurd cc in
    let read = box_again false b after inner.box end in
    let step = goes_on met at b after bs due in
    let more = told_by_due bs m.0 (at + box_size b) step.next plain.1 (omega (arith, size, box_some b, m.1, enough)) step.due in
    (more.0, passes_on met step.next more.0 n m.0 at b after m.1 (omega (arith, size, box_some b)) read step.pass more.1)

-- what is told was due
last_due : (b : Box) (bs : List Box) (x : Bool) → eqb b.kind colour_kind ≡ false → colour_due bs ≡ Ok x → colour_due (b ∷ bs) ≡ Ok x
last_due b bs x other due = rw other due

first_due : (b : Box) (bs : List Box) (c : ToldColour) → eqb b.kind colour_kind ≡ true → colour_at 0 b.contents ≡ Ok c → (is_nothing c ≡ true → (x : Bool) × (colour_due bs ≡ Ok x))
    → (x : Bool) × (colour_due (b ∷ bs) ≡ Ok x)
first_due b bs c is read more = by (is_nothing c) refl
  where
    by : (n : Bool) → is_nothing c ≡ n → (x : Bool) × (colour_due (b ∷ bs) ≡ Ok x)
    by true nothing = let d = more nothing in let due = d.1 in (d.0, rw (is, read, nothing) due)
    by false some = (false, rw (is, read, some) refl)

colour_before : (met next : Met) (at : ℕ) (b : Box) (after : List ℕ) (bs : List Box) → met_passed met at (head_of b) (box_text b ++ after) ≡ Ok next
    → (is_nothing next.colour ≡ true → (x : Bool) × (colour_due bs ≡ Ok x)) → is_nothing met.colour ≡ true → (x : Bool) × (colour_due (b ∷ bs) ≡ Ok x)
unfolding met_passed
colour_before met next at b after bs e more nothing =
    let k = eqb b.kind colour_kind in
    let is = contents_again b after in
    elim (chosen (k && is_nothing met.colour) _ _ (Ok next) e) [
      | inl w ↦
          let p = and_parts k (is_nothing met.colour) w.0 in
          bind_then (colour_at (at + head_size b.form) (contents_of (head_of b) (box_text b ++ after))) _ next w.1 (λ c s f.
          let read = ap (colour_at (at + head_size b.form)) (sym is) ∙ s in
          let a = (colour_alike (at + head_size b.form) 0 b.contents).there c read in
          let same : c ≡ next.colour = ap (λ (x : Met). x.colour) (ok_is (record { colour = c; resolution = met.resolution }) next f) in
          first_due b bs a.0 p.0 a.1 (λ none. more (ap is_nothing (sym same) ∙ sym a.2 ∙ none)))
      | inr w ↦
          let other = off k (is_nothing met.colour) w.0 nothing in
          let kept : next.colour ≡ met.colour = elim (chosen (eqb b.kind resolution_kind && not (is_some met.resolution)) _ _ (Ok next) w.1) [
            | inl v ↦ bind_then (grids_at (contents_of (head_of b) (box_text b ++ after))) _ next v.1 (λ g s f. ap (λ (x : Met). x.colour) (sym (ok_is (record { colour = met.colour; resolution = Some g }) next f)))
            | inr v ↦ ap (λ (x : Met). x.colour) (sym (ok_is met next v.1))
          ] in
          let d = more (ap is_nothing kept ∙ nothing) in
          (d.0, last_due b bs d.0 other d.1)
    ]
  where
    off : (k n : Bool) → (k && n) ≡ false → n ≡ true → k ≡ false
    off true n e f = absurd cc
    off false n e f = refl

pub due_by_told : (bs : List Box) (n at : ℕ) (met last : Met) → AllByRecursion (IsInner palette_kind) bs → length (boxes_text bs) ≤ n → passed_by met_passed false n met at (boxes_text bs) ≡ Ok last
    → is_nothing met.colour ≡ true → (x : Bool) × (colour_due bs ≡ Ok x)
due_by_told [] n at met last plain enough e nothing = (true, refl)
due_by_told (b ∷ bs) n at met last plain enough e nothing =
    let after = boxes_text bs in
    let rest = box_text b ++ after in
    let size = text_size b bs in
    let inner = plain.0 in
    let m = some_left n (length rest) (omega (arith, size, box_some b)) enough in
    let end : is_open b.form ≡ true → (false ≡ true) × (after ≡ []) = λ o. let c = inner.closed in absurd cc in
    let read = box_again false b after inner.box end in
    let behind = after_box b after in
    let step : (met_passed met at (head_of b) rest >>= λ next. passed_by met_passed false m.0 next (at + box_size b) after) ≡ Ok last =
    sym (ap (λ k. passed_by met_passed false k met at rest) m.1 ∙ pass_step met_passed false m.0 met at rest (omega (arith, size, box_some b)) ∙ rw (read, behind) refl) ∙ e in
    bind_then (met_passed met at (head_of b) rest) _ last step (λ next s f.
    colour_before met next at b after bs s
    (λ none. due_by_told bs m.0 (at + box_size b) next last plain.1 (omega (arith, size, box_some b, m.1, enough)) f none) nothing)

-- the colour of what is written
profile_long : (n : ℕ) (p : List ℕ) → is_restricted n p ≡ true → 132 ≤ length p
unfolding is_restricted
profile_long n p is = leb-true 132 (length p) (and_parts (leb 132 (length p)) _ (and_parts (has_size p) _ is).0).0

colour_given_due : (n : ℕ) (c : Colour) (rest : List Box) → is_colour n c ≡ true → has_colour c ≡ true → colour_due (colour_boxes n c ++ rest) ≡ Ok false
unfolding colour_at
colour_given_due n AsItIs rest may is = absurd cc
colour_given_due n GivenSpace rest may is = refl
colour_given_due n (GivenProfile p) rest may is =
    let long = profile_long n p.items may in
    let a : ltb (length (2 ∷ 0 ∷ 0 ∷ p.items)) 3 ≡ false = le-ltb _ _ (omega arith) in
    let b : eqb (length (2 ∷ 0 ∷ 0 ∷ p.items)) 3 ≡ false = ne_eqb _ _ (omega (arith, long)) in
    rw (a, b) refl

no_colour_last : (e : Extras) (g : Bool) → colour_due (cond g (resolution_box e ∷ []) []) ≡ Ok true
no_colour_last e true = refl
no_colour_last e false = refl

not_colour : (k : ℕ) → eqb k resolution_kind ≡ true → eqb k colour_kind ≡ false
not_colour k is = let e : k ≡ resolution_kind = eqb-true _ _ is in rw e refl

kept_due : (e : Extras) (bs : List Box) → has_colour e.colour ≡ false → colour_due (filter (stays e) bs ++ resolution_boxes e) ≡ colour_due bs
kept_due e [] off = no_colour_last e (has_grids e)
kept_due e (b ∷ bs) off = by (goes e b.kind) refl (kept_due e bs off)
  where
    by : (g : Bool) → goes e b.kind ≡ g → colour_due (filter (stays e) bs ++ resolution_boxes e) ≡ colour_due bs → colour_due (filter (stays e) (b ∷ bs) ++ resolution_boxes e) ≡ colour_due (b ∷ bs)
    by true is more =
        let k = not_colour b.kind (goes_resolution (eqb b.kind colour_kind) (eqb b.kind resolution_kind) (has_colour e.colour) (has_grids e) off is) in
        rw (is, k) more
    by false is more =
        rw is (ap (λ (x : Result Bool Fault). cond (eqb b.kind colour_kind) (colour_at 0 b.contents >>= λ c. cond (is_nothing c) x (Ok false)) x) more)

pub written_due : (n : ℕ) (e : Extras) (others : List Box) (x : Bool) → is_colour n e.colour ≡ true → colour_due others ≡ Ok x → (y : Bool) × (colour_due (header_boxes n e others) ≡ Ok y)
written_due n e others x may due = by (has_colour e.colour) refl
  where
    by : (h : Bool) → has_colour e.colour ≡ h → (y : Bool) × (colour_due (header_boxes n e others) ≡ Ok y)
    by true is = (false, colour_given_due n e.colour (filter (stays e) others ++ resolution_boxes e) may is)
    by false is =
        (x, ap (λ (b : List Box). colour_due (b ++ (filter (stays e) others ++ resolution_boxes e))) (no_colour_box n e.colour is) ∙ kept_due e others is ∙ due)
