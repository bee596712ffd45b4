-- Texts that are passed on piece by piece.
use Rattle.std.proofs.Common.{◌≡◌, ℕ, ◌+◌, ◌<◌, List, [], ◌∷◌, ◌++◌, length, get_or, take, drop, append_assoc, refl, sym, ap, ◌∙◌}
use Rattle.std.specs.List.{flat_map}
use Rattle.std.proofs.lemmas.List.{append-nil, take_more, take-append-drop, at_drop_more}
use Rattle.std.proofs.lemmas.List.Concat.{flat_map-append}
use Rattle.jk_math.specs.Front.{IsFront}
use Rattle.jk_packet.specs.Written.{PrecinctTables, header_in, bodies_text}
use Rattle.jk_tile.specs.encoding.TileWriters.{text_by}

-- nothing, and all, is a beginning
pub front_none : (text : List ℕ) → IsFront [] text
front_none text = record { more = text; text = refl }

-- what was passed on, and a beginning of the next piece
pub front_more : (before part piece after text : List ℕ) → IsFront part piece → text ≡ before ++ (piece ++ after) → IsFront (before ++ part) text
front_more before part piece after text front e = record {
  more = front.more ++ after;
  text =
      e ∙ ap (λ (l : List ℕ). before ++ (l ++ after)) front.text ∙ ap (λ (l : List ℕ). before ++ l) (append_assoc part front.more after)
      ∙ sym (append_assoc before part (front.more ++ after));
}

-- one piece more, and all by the pieces before, the next one and those behind
pub passed_more : {X : Type 0} (f : X → List ℕ) (xs : List X) (i : ℕ) (x : X) → i < length xs → x ≡ get_or xs i x → flat_map f (take i xs) ++ f x ≡ flat_map f (take (i + 1) xs)
passed_more {X} f xs i x lt is =
    let before = flat_map f (take i xs) in
    ap (λ (y : X). before ++ f y) is ∙ ap (λ (l : List ℕ). before ++ l) (sym (append-nil (f (get_or xs i x)))) ∙ sym (flat_map-append f (take i xs) (get_or xs i x ∷ [])) ∙ ap (flat_map f) (sym (take_more xs i x lt))

pub passed_rest : {X : Type 0} (f : X → List ℕ) (xs : List X) (i : ℕ) (x : X) → i < length xs → x ≡ get_or xs i x → flat_map f xs ≡ flat_map f (take i xs) ++ (f x ++ flat_map f (drop (i + 1) xs))
passed_rest {X} f xs i x lt is =
    let before = flat_map f (take i xs) in
    ap (flat_map f) (sym (take-append-drop i xs)) ∙ flat_map-append f (take i xs) (drop i xs) ∙ ap (λ (l : List ℕ). before ++ l) (at_drop_more (flat_map f) xs i x lt)
    ∙ ap (λ (y : X). before ++ (f y ++ flat_map f (drop (i + 1) xs))) (sym is)

-- ---- a packet: its header, and the bodies behind it

pub head_is : (w v : PrecinctTables) (number : ℕ) (before head lent : List ℕ) → v ≡ w → before ≡ [] → head ≡ before ++ header_in v.shapes v.sop v.eph v.tables v.written number → lent ≡ head → lent ≡ header_in w.shapes w.sop w.eph w.tables w.written number
head_is w v number before head lent ev eb eh el =
    el ∙ eh ∙ ap (λ (l : List ℕ). l ++ header_in v.shapes v.sop v.eph v.tables v.written number) eb ∙ ap (λ (u : PrecinctTables). header_in u.shapes u.sop u.eph u.tables u.written number) ev

pub packet_is : (w : PrecinctTables) (number layer : ℕ) (lent flat : List ℕ) → layer ≡ w.written → lent ≡ header_in w.shapes w.sop w.eph w.tables w.written number → bodies_text w.tables layer ≡ flat → text_by w number ≡ lent ++ flat
packet_is w number layer lent flat next head bodies =
    ap (λ (l : List ℕ). l ++ bodies_text w.tables w.written) (sym head) ∙ ap (λ (l : List ℕ). lent ++ l) (ap (bodies_text w.tables) (sym next) ∙ bodies)

-- two texts that were taken one behind the other
pub both_passed : {S : Type 0} (took : S → List ℕ → S → Type 0) → ((s t u : S) (x y : List ℕ) → took s x t → took t y u → took s (x ++ y) u) → (s t u : S) (x y lent flat text : List ℕ) → took s x t → took t y u → x ≡ lent → y ≡ flat → text ≡ lent ++ flat
    → (part : List ℕ) × took s part u × (part ≡ text)
both_passed took joined s t u x y lent flat text first second ex ey e = (x ++ y, joined s t u x y first second, ap (λ (l : List ℕ). l ++ y) ex ∙ ap (λ (l : List ℕ). lent ++ l) ey ∙ sym e)
