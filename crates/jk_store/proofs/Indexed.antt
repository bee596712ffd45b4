-- A JP2 file that means a picture has an index, and a file that is written in a JP2 container is one.
use Rattle.std.proofs.Common.{◌≡◌, ℕ, Bool, true, false, not, if◌then◌else◌, inl, inr, List, ◌++◌, slice_index_or, Result, Ok, Err, IfOk, refl, sym, ap, ◌∙◌, subst, arith}
use Rattle.std.specs.Global.{Vec}
use Rattle.jk_math.specs.Answer.{Refuses, Answers}
use Rattle.jk_math.specs.Memory.{IsMemory}
use Rattle.jk_math.specs.declared.fault.Fault.{Fault}
use Rattle.jk_math.specs.declared.fault.Fault.TheVariants.{Memory, BadParameters, Limit, Unsupported}
use Rattle.jk_math.specs.Picture.{Picture}
use Rattle.jk_marks.specs.Codestream.{codestream_text}
use Rattle.jk_boxes.specs.declared.place.Boxed.{Boxed}
use Rattle.jk_boxes.specs.Boxes.{IsBare, IsJp2, HoldsCodestream, HoldsAt, signature}
use Rattle.jk_boxes.specs.Reading.{boxes_at}
use Rattle.jk_boxes.specs.Written.{is_wrapped, wrapped}
use Rattle.jk_boxes.proofs.Laws.{place_again}
use Rattle.jk_extras.specs.declared.values.Extras.{Extras}
use Rattle.jk_extras.specs.Dressed.{IsDressed}
use Rattle.jk_params.specs.Profile.{is_profile}
use Rattle.jk_params.specs.declared.parameters.Parameters.{Parameters}
use Rattle.jk_params.specs.declared.parameters.Container.{Container}
use Rattle.jk_params.specs.declared.parameters.Container.TheVariants.{Raw, Jp2}
use Rattle.jk_window.specs.Indexing.{IndexFields, index_at}
use Rattle.jk_window.proofs.Laws.{has_index, index_only}
use Rattle.jk_code.specs.Meaning.{Means}
use Rattle.jk_code.specs.Written.{parts_fit, tree_for, contained, file_for, written}
use Rattle.jk_store.specs.Catalogue.{image_at}

-- where a value is due, only memory is refused
pub only_memory : {A : Type 0} (e : Fault) (due : Result A Fault) (x : A) → Refuses e due → due ≡ Ok x → IsMemory e
only_memory (Memory r) due x h is = tt
only_memory e due x h is = absurd (let clash = sym h ∙ is in cc)

-- a fault beside memory is due
pub due_fault : {A : Type 0} (e : Fault) (due : Result A Fault) → Refuses e due → (IsMemory e → ⊥) → due ≡ Err e
due_fault (Memory r) due h not_memory = absurd (not_memory tt)
due_fault e due h not_memory = h

-- a JP2 file isn't a bare codestream
not_bare : (bytes codestream rest : List ℕ) → bytes ≡ signature ++ rest → IsBare bytes codestream → ⊥
not_bare bytes codestream rest is bare =
    let first : slice_index_or bytes 0 0 ≡ 0 = ap (λ l. slice_index_or l 0 0) is in
    let other : slice_index_or bytes 0 0 ≡ 255 = ap (λ l. slice_index_or l 0 0) bare.text in
    omega (arith, first, other)

is_jp2 : (bytes codestream rest : List ℕ) (place : Boxed) → bytes ≡ signature ++ rest → HoldsAt bytes codestream place → place.jp2 ≡ true
is_jp2 bytes codestream rest place is (inl bare) = absurd (not_bare bytes codestream rest is bare.0)
is_jp2 bytes codestream rest place is (inr jp2) = ap (λ (b : Boxed). b.jp2) jp2.1

image_with : (bytes : List ℕ) (place : Boxed) (i : IndexFields) → index_at bytes ≡ Ok i → boxes_at bytes ≡ Ok place → place.jp2 ≡ true → image_at bytes ≡ Ok i
unfolding image_at
image_with bytes place i index opened jp2 = rw (index, opened, jp2) refl

pub image_indexed : (bytes rest : List ℕ) (d : ℕ) (p : Picture) → bytes ≡ signature ++ rest → Means bytes d p → (i : IndexFields) × (image_at bytes ≡ Ok i)
image_indexed bytes rest d p is m =
    let shown = m.picture in
    let i = has_index bytes m.codestream shown.headers m.holds shown.says (λ t lt. let tile = (shown.tiles t lt).decoded in (tile.packets, tile.tile)) in
    let opened = place_again bytes i.1.codestream i.0.place i.1.holds in
    (i.0, image_with bytes i.0.place i.0 (index_only bytes i.0 i.1) opened.0 (is_jp2 bytes i.1.codestream rest i.0.place is i.1.holds))

-- ---- the file that is written

else_ok : {A : Type 0} (b : Bool) (e : Fault) (r : Result A Fault) (x : A) → (if b then Err e else r) ≡ Ok x → r ≡ Ok x
else_ok true e r x is = absurd cc
else_ok false e r x is = is

then_ok : {A : Type 0} (b : Bool) (e : Fault) (y x : A) → (if b then Ok y else Err e) ≡ Ok x → x ≡ y
then_ok true e y x is = cc
then_ok false e y x is = absurd cc

wrapped_text : (p : Picture) (codestream bytes : List ℕ) → wrapped p codestream ≡ Ok bytes → (rest : List ℕ) × (bytes ≡ signature ++ rest)
unfolding wrapped
wrapped_text p codestream bytes is = (_, then_ok (is_wrapped p) Unsupported _ bytes is)

contained_file : (c : Container) (p : Picture) (codestream bytes : List ℕ) → c ≡ Jp2 → contained c p codestream ≡ Ok bytes → wrapped p codestream ≡ Ok bytes
contained_file Jp2 p codestream bytes is h = h
contained_file Raw p codestream bytes is h = absurd cc

-- in a JP2 container it begins with the signature box
pub written_text : (p : Picture) (q : Parameters) (bytes : List ℕ) → q.container ≡ Jp2 → written p q ≡ Ok bytes → (rest : List ℕ) × (bytes ≡ signature ++ rest)
unfolding written
written_text p q bytes jp2 is =
    let file = else_ok (not (is_profile q p)) BadParameters (file_for p q) bytes is in
    let code = codestream_text (tree_for p q) in
    let made = else_ok (not (parts_fit p q)) Limit (contained q.container p code) bytes file in
    wrapped_text p code bytes (contained_file q.container p code bytes jp2 made)

pub written_indexed : (r : Result (Vec ℕ) Fault) (p : Picture) (q : Parameters) → q.container ≡ Jp2 → Answers (λ v. v.items) r (written p q) → IfOk r (λ v. Means v.items 0 p)
    → IfOk r (λ v. (i : IndexFields) × (image_at v.items ≡ Ok i))
written_indexed (Ok v) p q jp2 due means =
    let text = written_text p q v.items jp2 due in
    image_indexed v.items text.0 0 p text.1 means
written_indexed (Err e) p q jp2 due means = tt

-- ---- the same file with what it is to keep

boxed : (bytes codestream rest : List ℕ) → bytes ≡ signature ++ rest → HoldsCodestream bytes codestream → IsJp2 bytes codestream
boxed bytes codestream rest is (inl bare) = absurd (not_bare bytes codestream rest is bare)
boxed bytes codestream rest is (inr jp2) = jp2

pub dressed_indexed : (file given rest : List ℕ) (e : Extras) (r : Result (Vec ℕ) Fault) (p : Picture) → given ≡ file → file ≡ signature ++ rest → Means file 0 p
    → ((codestream : List ℕ) (j : IsJp2 given codestream) → IfOk r (λ v. IsDressed j e v.items)) → IfOk r (λ v. (i : IndexFields) × (image_at v.items ≡ Ok i))
dressed_indexed file given rest e (Ok v) p same is m holds =
    let n = subst (λ b. Means b 0 p) (sym same) m in
    let dressed = (holds n.codestream (boxed given n.codestream rest (same ∙ is) n.holds)).is in
    image_indexed v.items _ 0 p dressed.text (record { codestream = n.codestream; holds = inr dressed; picture = n.picture })
dressed_indexed file given rest e (Err f) p same is m holds = tt
