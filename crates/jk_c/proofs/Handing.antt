-- What is handed out where an image is to be encoded.
use Rattle.std.proofs.Common.{◌≡◌, ◌⊎◌, inl, inr, ℕ, ℤ, pos, true, false, ◌*◌, ◌+◌, List, [], ◌++◌, map, Ok, Err, Result, refl, sym, ap, subst, ◌∙◌, arith}
use Rattle.std.specs.Global.{Vec}
use Rattle.std.specs.List.{range_with_len}
use Rattle.std.specs.Bool.{⊤}
use Rattle.std.specs.Prelude.{MatchResult}
use Rattle.std.proofs.Math.Path.{fun_ext}
use Rattle.std.proofs.Math.ListN.{get_or-map}
use Rattle.std.proofs.lemmas.List.{map-id}
use Rattle.jk_math.specs.Memory.{IsMemory}
use Rattle.jk_math.specs.declared.fault.Fault.{Fault}
use Rattle.jk_math.specs.declared.fault.Fault.TheVariants.{BadParameters}
use Rattle.jk_math.specs.Picture.{Picture, IsPicture}
use Rattle.jk_params.specs.declared.parameters.Parameters.{Parameters}
use Rattle.jk_params.specs.Profile.{is_profile}
use Rattle.jk_code.specs.Meaning.{Means}
use Rattle.jk_code.specs.Fronts.{HasFronts}
use Rattle.jk_code.specs.Written.{written}
use Rattle.jk_code.specs.Beginnings.{IsLeftBy}
use Rattle.jk_code.specs.RowsWritten.{WereAllGiven, IsWrittenOfBy}
use Rattle.jk_c.specs.declared.coding.CallerCoding.{CallerCoding}
use Rattle.jk_c.specs.declared.frames.CallerFrame.{CallerFrame}
use Rattle.jk_c.specs.declared.pixel_supply.PixelSupply.{PixelSupply}
use Rattle.jk_c.specs.Answers.{Room, HandsOut, bytes_of}
use Rattle.jk_c.specs.Codes.{code_of}
use Rattle.jk_c.specs.Codings.{IsKnownCoding, AreParameters}
use Rattle.jk_c.specs.Encodings.{IsEncodedBy, IsEncodedFile, IsEncoded}
use Rattle.jk_c.specs.Frames.{IsKnownFrame, IsCountable, framed, picture_from}
use Rattle.jk_c.specs.Pictured.{pictured}
use Rattle.jk_c.specs.PixelsGiven.{picture_of, HasGivenRows, HasRefusedRows}
use Rattle.jk_c.specs.Signed.{IsKnownSignedFrame, signed_picture_from}
use Rattle.jk_c.proofs.Answering.{memory_is, bytes_due, bytes_found}
use Rattle.jk_c.proofs.SupplyLaws.{all_given, met_outside}

-- ---- the picture of a caller's list

pub unsigned_picture : (f : CallerFrame) (pixels : List ℕ) → pictured (framed f false) (map pos pixels) ≡ picture_from f pixels
unsigned_picture f pixels =
    let picture : (ℕ → List ℤ) → Picture =
    λ plane. record { x0 = f.x0; y0 = f.y0; width = f.width; height = f.height; depth = f.depth; signed = false; planes = map plane (range_with_len 0 f.components) } in
    ap picture (fun_ext (λ c. ap (λ (sample : ℕ → ℤ). map sample (range_with_len 0 (f.width * f.height))) (fun_ext (λ i. get_or-map pos pixels (i * f.components + c) 0))))

pub signed_picture : (f : CallerFrame) (pixels : List ℤ) → pictured (framed f true) (map (λ (x : ℤ). x) pixels) ≡ signed_picture_from f pixels
signed_picture f pixels = ap (λ (samples : List ℤ). pictured (framed f true) samples) (map-id pixels)

-- ---- the file that its rows leave

outside : (p : Picture) (q : Parameters) → is_profile q p ≡ false → written p q ≡ Err BadParameters
unfolding written
outside p q is = rw is refl

-- a file that was written whole
pub whole_file : {X : Type 0} (value : X → ℤ) (s t : PixelSupply X) (k : CallerCoding) (q : Parameters) (none : List ℕ) (v : Vec ℕ) → s.given ≡ 0 → AreParameters k q → IsKnownCoding k → none ≡ []
    → (p : Picture) × WereAllGiven (HasGivenRows value) s.frame s t p × (file : List ℕ) × (written p q ≡ Ok file) × (v.items ≡ none ++ file) × Means file 0 p × HasFronts p q file
    → IsEncodedFile (picture_of value s) k (Ok v)
whole_file value s t k q none v first are known empty h =
    let items : v.items ≡ h.2 = h.4 ∙ ap (λ (xs : List ℕ). xs ++ h.2) empty in
    let by : IsEncodedBy h.0 k (Ok v) = record {
      parameters = q;
      are = are;
      known = known;
      picture = h.1.picture;
      file = h.3 ∙ sym (ap (λ (xs : List ℕ). Ok xs) items);
      means = subst (λ (xs : List ℕ). Means xs 0 h.0) (sym items) h.5;
    } in
    inr (inr (subst (λ (p : Picture). IsEncodedBy p k (Ok v)) (all_given value s t h.0 first h.1) by))

-- a fault of encoding its picture
left_by : (p : Picture) (k : CallerCoding) (q : Parameters) (text : List ℕ) (e : Fault) → AreParameters k q → IsKnownCoding k → IsPicture p → IsLeftBy IsMemory p q text e → IsEncodedFile p k (Err e)
left_by p k q text e are known is left = elim left [
  | inl bad ↦
      inr (inr (subst (λ (x : Fault). IsEncodedBy p k (Err x)) (sym bad.0) (record { parameters = q; are = are; known = known; picture = is; file = outside p q bad.1; means = tt })))
  | inr rest ↦ elim rest [
    | inl limit ↦
        inr (inr (subst (λ (x : Fault). IsEncodedBy p k (Err x)) (sym limit.0) (record { parameters = q; are = are; known = known; picture = is; file = limit.1; means = tt })))
    | inr refused ↦ elim refused.0 [ inl memory ↦ inl memory | inr memory ↦ inl memory ]
  ]
]

abbrev failed : Fault → Result ⊤ Fault
failed e = Err e

same_fault : (e f : Fault) → failed e ≡ failed f → e ≡ f
same_fault e f is = cc

-- what was left where it wasn't
pub left_file : {X : Type 0} (value : X → ℤ) (s t : PixelSupply X) (k : CallerCoding) (q : Parameters) (text : List ℕ) (e : Fault) → s.given ≡ 0 → AreParameters k q → IsKnownCoding k
    → IsWrittenOfBy IsMemory (HasGivenRows value) (HasRefusedRows value) s.frame q s t text (Err e) → IsEncodedFile (picture_of value s) k (Err e)
left_file value s t k q text e none are known h = elim h [
  | inl refused ↦
      let same = same_fault e refused.0 refused.1 in
      elim refused.2 [
        | inl memory ↦ inl (subst IsMemory (sym same) memory)
        | inr met ↦ let m = met_outside value s t refused.0 met in inr (inl (ap (λ (x : Fault). Err x) (same ∙ m.0), λ is coding. m.1 is))
      ]
  | inr left ↦ subst (λ (p : Picture). IsEncodedFile p k (Err e)) (all_given value s t left.0 none left.1) (left_by left.0 k q text e are known left.1.picture left.2)
]

-- ---- what is handed out of it

-- Memory, and the room is as before
memory_out : (r : Result (Vec ℕ) Fault) (before after : Room) (code : ℕ) → MatchResult r (λ _. ⊥) IsMemory → HandsOut (bytes_of r) before code after → (code ≡ 1) × (after ≡ before)
memory_out (Ok v) before after code h given = absurd h
memory_out (Err e) before after code h given = (given.0 ∙ memory_is e h, given.1)

-- a fault, and the room is as before
fault_out : (r : Result (Vec ℕ) Fault) (e : Fault) (before after : Room) (code : ℕ) → r ≡ Err e → HandsOut (bytes_of r) before code after
    → (code ≡ code_of e) × (after ≡ before)
fault_out r e before after code is given = subst (λ (r : Result (Vec ℕ) Fault). HandsOut (bytes_of r) before code after) is given

memory_told : (p : Picture) (k : CallerCoding) (before after : Room) (code : ℕ) → (code ≡ 1) × (after ≡ before) → IsEncoded p k before code after
memory_told p k before after code h = record {
  refused = λ other. (inl h.0, h.1);
  exact = λ is known. inl h;
  means = λ done. absurd (let one = h.0 in omega (arith, one, done));
}

pub handed_out : (p : Picture) (k : CallerCoding) (r : Result (Vec ℕ) Fault) (before after : Room) (code : ℕ) → IsEncodedFile p k r → HandsOut (bytes_of r) before code after
    → IsEncoded p k before code after
handed_out p k r before after code file given = elim file [
  | inl memory ↦ memory_told p k before after code (memory_out r before after code memory given)
  | inr rest ↦ elim rest [
    | inl bad ↦
        let out = fault_out r BadParameters before after code bad.0 given in
        record {
          refused = λ unasked. (inr (inl out.0), out.1);
          exact = λ is known. absurd (bad.1 is known);
          means = λ done. absurd (let number = out.0 in omega (arith, number, done));
        }
    | inr by ↦ record {
      refused = λ unasked. absurd (unasked by.picture by.known);
      exact = λ is known. elim (bytes_due r (written p by.parameters) before after code by.file given) [
        | inl memory ↦ inl memory
        | inr out ↦ inr (record { parameters = by.parameters; are = by.are; file = out })
      ];
      means = λ done. bytes_found r (λ (bytes : List ℕ). Means bytes 0 p) before after code by.means given done;
    }
  ]
]

-- ---- as calls give it

pub countable : (f : CallerFrame) → IsKnownFrame f → IsCountable f
countable f known = record { some = known.some; few = known.few; bits = known.bits; area = known.area; reserved = known.reserved }

pub countable_signed : (f : CallerFrame) → IsKnownSignedFrame f → IsCountable f
countable_signed f known = record { some = known.some; few = known.few; bits = known.bits; area = known.area; reserved = known.reserved }

pub unsigned_encoded : (f : CallerFrame) (pixels : List ℕ) (k : CallerCoding) (before after : Room) (code : ℕ) → IsEncoded (pictured (framed f false) (map (λ (x : ℕ). pos x) pixels)) k before code after
    → IsEncoded (picture_from f pixels) k before code after
unsigned_encoded f pixels k before after code h = subst (λ (p : Picture). IsEncoded p k before code after) (unsigned_picture f pixels) h

pub signed_encoded : (f : CallerFrame) (pixels : List ℤ) (k : CallerCoding) (before after : Room) (code : ℕ) → IsEncoded (pictured (framed f true) (map (λ (x : ℤ). x) pixels)) k before code after
    → IsEncoded (signed_picture_from f pixels) k before code after
signed_encoded f pixels k before after code h = subst (λ (p : Picture). IsEncoded p k before code after) (signed_picture f pixels) h
