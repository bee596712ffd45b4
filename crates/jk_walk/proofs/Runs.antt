-- Packets cut into runs, one for each part of a tile.
use Rattle.std.proofs.Common.{◌≡◌, ℕ, ◌+◌, ◌<◌, ◌≤◌, inl, inr, nat_lt, List, [], ◌∷◌, ◌++◌, length, length-append, get_or, map, drop, refl, sym, ap, ◌∙◌, subst, arith}
use Rattle.std.specs.List.{AllByRecursion, flat_map}
use Rattle.std.proofs.lemmas.Bool.{cases_lt, lt-ltb, le-ltb, cond-true, cond-false}
use Rattle.std.proofs.lemmas.List.{drop_more, drop_all}
use Rattle.jk_walk.specs.TilePackets.{slice_of, Packet}
use Rattle.jk_walk.specs.WalkReading.{begun}
use Rattle.jk_walk.proofs.Slices.{slice_none, slice_length}

abbrev pub packet_text : Packet → List ℕ
packet_text p = p.text

-- the texts of a run, joined
abbrev pub run_text : List Packet → List ℕ
run_text run = flat_map packet_text run

abbrev pub joined_runs : List (List Packet) → List Packet
joined_runs runs = flat_map (λ run. run) runs

-- The packets are cut into runs, whose texts are the bytes of the places.
pub record IsCut (bytes : List ℕ) (packets : List Packet) (parts : List (ℕ × ℕ)) : Type 0 where
  pub runs : List (List Packet)
  pub whole : joined_runs runs ≡ packets
  pub cut : map run_text runs ≡ map (slice_of bytes) parts

-- places in so many bytes
abbrev pub IsPart : ℕ → ℕ × ℕ → Type 0
IsPart size p = (p.0 ≤ p.1) × (p.1 ≤ size)

abbrev pub AreParts : ℕ → List (ℕ × ℕ) → Type 0
AreParts size parts = AllByRecursion (λ p. (p.0 ≤ p.1) × (p.1 ≤ size)) parts

pub begun-nil : begun [] ≡ []
unfolding begun
begun-nil = refl

pub begun_here : (p : ℕ × ℕ) (parts : List (ℕ × ℕ)) → p.0 < p.1 → begun (p ∷ parts) ≡ p ∷ parts
unfolding begun
begun_here p parts less = cond-true (nat_lt p.0 p.1) (p ∷ parts) (begun parts) (lt-ltb p.0 p.1 less)

pub begun_later : (p : ℕ × ℕ) (parts : List (ℕ × ℕ)) → p.1 ≤ p.0 → begun (p ∷ parts) ≡ begun parts
unfolding begun
begun_later p parts le = cond-false (nat_lt p.0 p.1) (p ∷ parts) (begun parts) (le-ltb p.0 p.1 le)

-- what is begun has bytes left
pub begun_some : (parts : List (ℕ × ℕ)) (q : ℕ × ℕ) (later : List (ℕ × ℕ)) → begun parts ≡ q ∷ later → q.0 < q.1
begun_some [] q later e = absurd (let none : q ∷ later ≡ [] = sym e ∙ begun-nil in cc)
begun_some (p ∷ parts) q later e = elim (cases_lt p.0 p.1) [
  | inl less ↦ (let both : p ∷ parts ≡ q ∷ later = sym (begun_here p parts less) ∙ e in
      let same : p ≡ q = cc in
      subst (λ (z : ℕ × ℕ). z.0 < z.1) same less)
  | inr none ↦ begun_some parts q later (sym (begun_later p parts none) ∙ e)
]

-- what is begun is in the bytes
pub begun_parts : (size : ℕ) (parts : List (ℕ × ℕ)) → AreParts size parts → AreParts size (begun parts)
begun_parts size [] all = subst (AreParts size) (sym begun-nil) tt
begun_parts size (p ∷ parts) all = elim (cases_lt p.0 p.1) [
  | inl less ↦ subst (AreParts size) (sym (begun_here p parts less)) all
  | inr none ↦ subst (AreParts size) (sym (begun_later p parts none)) (begun_parts size parts all.1)
]

-- ---- what is read

-- nothing behind the last packet
pub cut_none : (bytes : List ℕ) (parts : List (ℕ × ℕ)) → begun parts ≡ [] → IsCut bytes [] parts
cut_none bytes [] e = record { runs = []; whole = refl; cut = refl }
cut_none bytes (p ∷ parts) e = elim (cases_lt p.0 p.1) [
  | inl less ↦ absurd (let clash : p ∷ parts ≡ [] = sym (begun_here p parts less) ∙ e in cc)
  | inr none ↦ (let more = cut_none bytes parts (sym (begun_later p parts none) ∙ e) in
      record {
        runs = [] ∷ more.runs;
        whole = more.whole;
        cut = ap (λ (xs : List ℕ). xs ∷ map run_text more.runs) (sym (slice_none bytes p.0 p.1 none)) ∙ ap (λ (xs : List (List ℕ)). slice_of bytes p ∷ xs) more.cut;
      })
]

-- parts without bytes have no packet
pub cut_begun : (bytes : List ℕ) (packets : List Packet) (parts : List (ℕ × ℕ)) → IsCut bytes packets (begun parts) → IsCut bytes packets parts
cut_begun bytes packets [] c = subst (IsCut bytes packets) begun-nil c
cut_begun bytes packets (p ∷ parts) c = elim (cases_lt p.0 p.1) [
  | inl less ↦ subst (IsCut bytes packets) (begun_here p parts less) c
  | inr none ↦ (let more = cut_begun bytes packets parts (subst (IsCut bytes packets) (begun_later p parts none) c) in
      record {
        runs = [] ∷ more.runs;
        whole = more.whole;
        cut = ap (λ (xs : List ℕ). xs ∷ map run_text more.runs) (sym (slice_none bytes p.0 p.1 none)) ∙ ap (λ (xs : List (List ℕ)). slice_of bytes p ∷ xs) more.cut;
      })
]

-- a packet in front of what is left of its part
pub cut_more : (bytes : List ℕ) (p : Packet) (packets : List Packet) (a b c : ℕ) (later : List (ℕ × ℕ)) → slice_of bytes (a, c) ≡ p.text ++ slice_of bytes (b, c) → IsCut bytes packets ((b, c) ∷ later) → IsCut bytes (p ∷ packets) ((a, c) ∷ later)
cut_more bytes p packets a b c later e cut = by cut.runs cut.whole cut.cut
  where
    by : (runs : List (List Packet)) → joined_runs runs ≡ packets → map run_text runs ≡ map (slice_of bytes) ((b, c) ∷ later) → IsCut bytes (p ∷ packets) ((a, c) ∷ later)
    by [] whole is = absurd cc
    by (run ∷ runs) whole is =
        let first : run_text run ≡ slice_of bytes (b, c) = cc in
        let rest : map run_text runs ≡ map (slice_of bytes) later = cc in
        record {
          runs = (p ∷ run) ∷ runs;
          whole = ap (λ (ps : List Packet). p ∷ ps) whole;
          cut = ap (λ (xs : List ℕ). (p.text ++ xs) ∷ map run_text runs) first ∙ ap (λ (xs : List ℕ). xs ∷ map run_text runs) (sym e) ∙ ap (λ (xs : List (List ℕ)). slice_of bytes (a, c) ∷ xs) rest;
        }

-- ---- what is there

no_bytes : (bytes : List ℕ) (p : ℕ × ℕ) → IsPart (length bytes) p → slice_of bytes p ≡ [] → p.1 ≤ p.0
no_bytes bytes p is none =
    let long = slice_length bytes p.0 p.1 is.0 is.1 in
    let empty = ap length none in
    omega (arith, long, empty)

-- no packets are in parts without bytes
pub none_begun : (bytes : List ℕ) (parts : List (ℕ × ℕ)) → AreParts (length bytes) parts → IsCut bytes [] parts → begun parts ≡ []
none_begun bytes [] all cut = begun-nil
none_begun bytes (p ∷ parts) all cut = by (λ c. none_begun bytes parts all.1 c) cut.runs cut.whole cut.cut
  where
    by : (IsCut bytes [] parts → begun parts ≡ []) → (runs : List (List Packet)) → joined_runs runs ≡ [] → map run_text runs ≡ map (slice_of bytes) (p ∷ parts) → begun (p ∷ parts) ≡ []
    by others [] whole is = absurd cc
    by others ((q ∷ run) ∷ runs) whole is = absurd cc
    by others ([] ∷ runs) whole is =
        let first : [] ≡ slice_of bytes p = cc in
        let rest : map run_text runs ≡ map (slice_of bytes) parts = cc in
        begun_later p parts (no_bytes bytes p all.0 (sym first)) ∙ others record { runs = runs; whole = whole; cut = rest }

-- The packet at the front of the part in hand.
pub record InHand (bytes : List ℕ) (p : Packet) (packets : List Packet) (parts : List (ℕ × ℕ)) : Type 0 where
  pub part : ℕ × ℕ
  pub later : List (ℕ × ℕ)
  pub begins : begun parts ≡ part ∷ later
  pub rest : List ℕ
  pub text : slice_of bytes part ≡ p.text ++ rest
  pub cut : (b : ℕ) → slice_of bytes (b, part.1) ≡ rest → IsCut bytes packets ((b, part.1) ∷ later)

pub some_begun : (bytes : List ℕ) (p : Packet) (packets : List Packet) (parts : List (ℕ × ℕ)) → 0 < length p.text → AreParts (length bytes) parts → IsCut bytes (p ∷ packets) parts → InHand bytes p packets parts
some_begun bytes p packets [] some all cut = by cut.runs cut.whole cut.cut
  where
    by : (runs : List (List Packet)) → joined_runs runs ≡ p ∷ packets → map run_text runs ≡ [] → InHand bytes p packets []
    by [] whole is = absurd cc
    by (run ∷ runs) whole is = absurd cc
some_begun bytes p packets (q ∷ parts) some all cut = by (λ c. some_begun bytes p packets parts some all.1 c) cut.runs cut.whole cut.cut
  where
    by : (IsCut bytes (p ∷ packets) parts → InHand bytes p packets parts) → (runs : List (List Packet)) → joined_runs runs ≡ p ∷ packets → map run_text runs ≡ map (slice_of bytes) (q ∷ parts) → InHand bytes p packets (q ∷ parts)
    by other [] whole is = absurd cc
    by other ([] ∷ runs) whole is =
        let first : [] ≡ slice_of bytes q = cc in
        let rest : map run_text runs ≡ map (slice_of bytes) parts = cc in
        let more = other record { runs = runs; whole = whole; cut = rest } in
        record {
          part = more.part;
          later = more.later;
          begins = begun_later q parts (no_bytes bytes q all.0 (sym first)) ∙ more.begins;
          rest = more.rest;
          text = more.text;
          cut = more.cut;
        }
    by other ((first ∷ run) ∷ runs) whole is =
        let same : first ≡ p = cc in
        let others : run ++ joined_runs runs ≡ packets = cc in
        let own : first.text ++ run_text run ≡ slice_of bytes q = cc in
        let rest : map run_text runs ≡ map (slice_of bytes) parts = cc in
        let text : slice_of bytes q ≡ p.text ++ run_text run = sym own ∙ ap (λ (x : Packet). x.text ++ run_text run) same in
        let long = slice_length bytes q.0 q.1 all.0.0 all.0.1 in
        let size = ap length text in
        let both = length-append p.text (run_text run) in
        record {
          part = q;
          later = parts;
          begins = begun_here q parts (omega (arith, long, size, both, some));
          rest = run_text run;
          text = text;
          cut = λ b e. record {
            runs = run ∷ runs;
            whole = others;
            cut = ap (λ (xs : List ℕ). xs ∷ map run_text runs) (sym e) ∙ ap (λ (xs : List (List ℕ)). slice_of bytes (b, q.1) ∷ xs) rest;
          };
        }

-- ---- the parts one after another

-- where nothing is left of the part in hand, the next is in hand
pub part_next : (at stop next : ℕ) (parts : List (ℕ × ℕ)) (d : ℕ × ℕ) → stop ≤ at → next < length parts → begun ((at, stop) ∷ drop next parts) ≡ begun (get_or parts next d ∷ drop (next + 1) parts)
part_next at stop next parts d used less = begun_later (at, stop) (drop next parts) used ∙ ap begun (drop_more parts next d less)

pub part_last : (at stop next : ℕ) (parts : List (ℕ × ℕ)) → stop ≤ at → length parts ≤ next → begun ((at, stop) ∷ drop next parts) ≡ []
part_last at stop next parts used past = begun_later (at, stop) (drop next parts) used ∙ ap begun (drop_all next parts past) ∙ begun-nil
