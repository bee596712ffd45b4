-- A group of each layout spells the entries of which it was made.
use Rattle.std.proofs.Common.{◌≡◌, ℕ, zero, suc, ◌+◌, ◌-◌, ◌*◌, ◌<◌, ◌≤◌, Bool, List, [], ◌∷◌, ◌++◌, length, map, drop, get_or, Some, sym, ap, subst, ◌∙◌, arith, length-append, append-nil}
use Rattle.std.specs.Prelude.{slice_get, Option}
use Rattle.std.specs.Option.{option_map}
use Rattle.std.specs.List.{All}
use Rattle.std.specs.Int.{div_ceil}
use Rattle.std.proofs.lemmas.List.{drop_more, length-map}
use Rattle.std.proofs.lemmas.Option.{slice_get_within, get_or_from_slice_get, slice_get-map}
use Rattle.jk_walk.specs.declared.entries.PacketEntry.{PacketEntry}
use Rattle.jk_window.specs.declared.packed.Layout.TheVariants.{Joined, Near, Wide}
use Rattle.jk_window.specs.declared.packed.Group.{Group}
use Rattle.jk_window.specs.declared.packed.Lists.{Lists}
use Rattle.jk_window.specs.Packed.{counter_at, joined_entry, near_entry}
use Rattle.jk_window.specs.Packing.{FitsWords, FitsNear, AreTouching, AreJoined, FitNear, mark_of, header_of, near_of, StaysIn, IsMore, Spell}
use Rattle.jk_window.proofs.PackedLaws.{get_front, get_at, then_some, spell_kept}

-- ---- entries that touch

pub touching_starts : (base : ℕ) (piece : List PacketEntry) → AreTouching base (drop 0 piece) → AreTouching base piece
touching_starts base piece t = t

pub touching_more : (at base i : ℕ) (piece : List PacketEntry) (d : PacketEntry) → i < length piece → (get_or piece i d).start ≡ at
    → (AreTouching at (drop i piece) → AreTouching base piece) → AreTouching (get_or piece i d).end (drop (i + 1) piece) → AreTouching base piece
unfolding AreTouching
touching_more at base i piece d lt start before t = before (subst (AreTouching at) (sym (drop_more piece i d lt)) (start, t))

pub touching_none : (at : ℕ) → AreTouching at []
unfolding AreTouching
touching_none at = tt

mark_at : (base at : ℕ) (piece : List PacketEntry) (j : ℕ) (e : PacketEntry) → AreTouching at piece → slice_get piece j ≡ Some e → slice_get ((at - base) ∷ map (mark_of base) piece) j ≡ Some (e.start - base)
unfolding AreTouching
mark_at base at [] j e t is = absurd cc
mark_at base at (x ∷ xs) zero e t is = let same : x ≡ e = cc in ap (λ k. Some (k - base)) (sym t.0 ∙ ap (λ (p : PacketEntry). p.start) same)
mark_at base at (x ∷ xs) (suc j) e t is = mark_at base x.end xs j e t.1 is

mark_first : (base : ℕ) (piece : List PacketEntry) (j : ℕ) (e : PacketEntry) → AreTouching base piece → slice_get piece j ≡ Some e → slice_get (0 ∷ map (mark_of base) piece) j ≡ Some (e.start - base)
mark_first base piece j e t is =
    let none : base - base ≡ 0 = omega arith in
    subst (λ k. slice_get (k ∷ map (mark_of base) piece) j ≡ Some (e.start - base)) none (mark_at base base piece j e t is)

-- ---- an entry from what is told of it

entry_same : (e : PacketEntry) (start body end : ℕ) (counter : Option (ℕ × ℕ)) → start ≡ e.start → body ≡ e.body → end ≡ e.end → counter ≡ e.counter
    → ◌≡◌ {A = PacketEntry} (record { start = start; body = body; end = end; counter = counter }) e
entry_same e start body end counter p q r s = λ j. record { start = p j; body = q j; end = r j; counter = s j }

told_near : (g : Group) (i : ℕ) (e : PacketEntry) → FitsNear g.base e → e.counter ≡ counter_at g.counted i → near_entry g i (near_of g.base e) ≡ e
told_near g i e n count =
    let low = n.low in
    let order = n.order in
    let high = n.high in
    entry_same e (g.base + (e.start - g.base)) (g.base + (e.start - g.base) + (e.body - e.start)) (g.base + (e.end - g.base)) (counter_at g.counted i) (omega (arith, low)) (omega (arith, low, order)) (omega (arith, high)) (sym count)

there : (P : PacketEntry → Type 0) (piece : List PacketEntry) (j : ℕ) (e : PacketEntry) → All P piece → slice_get piece j ≡ Some e → P e
there P piece j e all is = subst P (get_or_from_slice_get piece j e e is) (all j e (slice_get_within piece j e is))

counted_there : (counted : Bool) (first base : ℕ) (piece : List PacketEntry) (j : ℕ) (e : PacketEntry) → FitNear counted first base piece → slice_get piece j ≡ Some e → e.counter ≡ counter_at counted (first + j)
counted_there counted first base piece j e near is =
    subst (λ (p : PacketEntry). p.counter ≡ counter_at counted (first + j)) (get_or_from_slice_get piece j e e is) (near.counted j e (slice_get_within piece j e is))

mapped_there : {B : Type 0} (f : PacketEntry → B) (piece : List PacketEntry) (j : ℕ) (e : PacketEntry) → slice_get piece j ≡ Some e → slice_get (map f piece) j ≡ Some (f e)
mapped_there f piece j e is = slice_get-map f piece j ∙ ap (option_map f) is

-- ---- the groups

none_more : {A : Type 0} (xs ys : List A) → ys ≡ xs → ys ≡ xs ++ []
none_more xs ys e = e ∙ sym (append-nil xs)

abbrev pub joined_group : (base at : ℕ) → Bool → Group
joined_group base at counted = record { base = base; at = at; layout = Joined; counted = counted }

abbrev pub near_group : (base at : ℕ) → Bool → Group
near_group base at counted = record { base = base; at = at; layout = Near; counted = counted }

abbrev pub wide_group : ℕ → Bool → Group
wide_group at counted = record { base = 0; at = at; layout = Wide; counted = counted }

pub wide_more : (old new : Lists) (piece : List PacketEntry) (first at : ℕ) (counted : Bool) → All FitsWords piece → at ≡ length old.wide.items → new.groups.items ≡ old.groups.items ++ wide_group at counted ∷ []
    → new.marks.items ≡ old.marks.items → new.headers.items ≡ old.headers.items → new.near.items ≡ old.near.items → new.wide.items ≡ old.wide.items ++ piece → IsMore old new piece first
wide_more old new piece first at counted words front groups marks headers near wide = record {
  group = wide_group at counted;
  groups = groups;
  front = record {
    groups_more = wide_group at counted ∷ [];
    marks_more = [];
    headers_more = [];
    near_more = [];
    wide_more = piece;
    groups = groups;
    marks = none_more old.marks.items new.marks.items marks;
    headers = none_more old.headers.items new.headers.items headers;
    near = none_more old.near.items new.near.items near;
    wide = wide;
  };
  level = λ same. ap length marks ∙ same ∙ sym (ap length headers);
  spells = λ j e is. (get_at old.wide.items piece new.wide.items j (at + j) wide (ap (λ k. k + j) front) ∙ is, there FitsWords piece j e words is);
}

pub near_more : (old new : Lists) (piece : List PacketEntry) (first base at : ℕ) (counted : Bool) → FitNear counted first base piece → at ≡ length old.near.items
    → new.groups.items ≡ old.groups.items ++ near_group base at counted ∷ [] → new.marks.items ≡ old.marks.items → new.headers.items ≡ old.headers.items
    → new.near.items ≡ old.near.items ++ map (near_of base) piece → new.wide.items ≡ old.wide.items → IsMore old new piece first
near_more old new piece first base at counted are front groups marks headers near wide = record {
  group = near_group base at counted;
  groups = groups;
  front = record {
    groups_more = near_group base at counted ∷ [];
    marks_more = [];
    headers_more = [];
    near_more = map (near_of base) piece;
    wide_more = [];
    groups = groups;
    marks = none_more old.marks.items new.marks.items marks;
    headers = none_more old.headers.items new.headers.items headers;
    near = near;
    wide = none_more old.wide.items new.wide.items wide;
  };
  level = λ same. ap length marks ∙ same ∙ sym (ap length headers);
  spells = λ j e is. (
    then_some (λ n. Some (near_entry (near_group base at counted) (first + j) n)) (slice_get new.near.items (at + j)) (near_of base e) e
        (get_at old.near.items (map (near_of base) piece) new.near.items j (at + j) near (ap (λ k. k + j) front) ∙ mapped_there (near_of base) piece j e is)
        (ap Some (told_near (near_group base at counted) (first + j) e (there (FitsNear base) piece j e are.near is) (counted_there counted first base piece j e are is))),
    (there (FitsNear base) piece j e are.near is).words,
  );
}

pub joined_more : (old new : Lists) (piece : List PacketEntry) (first base at : ℕ) (counted : Bool) → FitNear counted first base piece → AreJoined base piece → at ≡ length old.marks.items
    → length old.marks.items ≡ length old.headers.items → new.groups.items ≡ old.groups.items ++ joined_group base at counted ∷ []
    → new.marks.items ≡ old.marks.items ++ (0 ∷ map (mark_of base) piece) → new.headers.items ≡ old.headers.items ++ (map header_of piece ++ 0 ∷ [])
    → new.near.items ≡ old.near.items → new.wide.items ≡ old.wide.items → IsMore old new piece first
joined_more old new piece first base at counted are joined front level groups marks headers near wide =
    let g = joined_group base at counted in
    let new_marks = 0 ∷ map (mark_of base) piece in
    let new_headers = map header_of piece ++ 0 ∷ [] in
    let of_marks : length new_marks ≡ length piece + 1 = (let mapped = length-map piece (mark_of base) in omega (arith, mapped)) in
    let of_headers : length new_headers ≡ length piece + 1 = (
    let both = length-append (map header_of piece) (0 ∷ []) in
    let mapped = length-map piece header_of in
    omega (arith, both, mapped)) in
    let all_marks = length-append old.marks.items new_marks in
    let all_headers = length-append old.headers.items new_headers in
    record {
      group = g;
      groups = groups;
      front = record {
        groups_more = g ∷ [];
        marks_more = new_marks;
        headers_more = new_headers;
        near_more = [];
        wide_more = [];
        groups = groups;
        marks = marks;
        headers = headers;
        near = none_more old.near.items new.near.items near;
        wide = none_more old.wide.items new.wide.items wide;
      };
      level = λ same. ap length marks ∙ omega (arith, all_marks, all_headers, of_marks, of_headers, same) ∙ sym (ap length headers);
      spells = λ j e is.
          let from : slice_get new.marks.items (at + j) ≡ Some (e.start - base) = get_at old.marks.items new_marks new.marks.items j (at + j) marks (ap (λ k. k + j) front) ∙ mark_first base piece j e joined.touching is in
          let long : slice_get new.headers.items (at + j) ≡ Some (header_of e) =
          get_at old.headers.items new_headers new.headers.items j (at + j) headers (ap (λ k. k + j) (front ∙ level)) ∙ get_front (map header_of piece) (0 ∷ []) j (header_of e) (mapped_there header_of piece j e is) in
          let to : slice_get new.marks.items (at + j + 1) ≡ Some (e.end - base) =
          get_at old.marks.items new_marks new.marks.items (suc j) (at + j + 1) marks (omega (arith, front)) ∙ mapped_there (mark_of base) piece j e is in (
            then_some _ (slice_get new.marks.items (at + j)) (e.start - base) e from
                (then_some _ (slice_get new.headers.items (at + j)) (header_of e) e long
                (then_some (λ k. Some (joined_entry g (first + j) (e.start - base) (header_of e) k)) (slice_get new.marks.items (at + j + 1)) (e.end - base) e to
                (ap Some (told_near (near_group base at counted) (first + j) e (there (FitsNear base) piece j e are.near is) (counted_there counted first base piece j e are is))))),
            (there (FitsNear base) piece j e are.near is).words,
          );
    }

-- lists of the same elements
pub same_front : (old new : Lists) → new.groups.items ≡ old.groups.items → new.marks.items ≡ old.marks.items → new.headers.items ≡ old.headers.items → new.near.items ≡ old.near.items
    → new.wide.items ≡ old.wide.items → StaysIn old new
same_front old new groups marks headers near wide = record {
  groups_more = [];
  marks_more = [];
  headers_more = [];
  near_more = [];
  wide_more = [];
  groups = none_more old.groups.items new.groups.items groups;
  marks = none_more old.marks.items new.marks.items marks;
  headers = none_more old.headers.items new.headers.items headers;
  near = none_more old.near.items new.near.items near;
  wide = none_more old.wide.items new.wide.items wide;
}

-- ---- all groups

-- as many groups as there must be
enough : (n m k : ℕ) → div_ceil n 64 ≤ m → k < n → k < m * 64
enough n m k many lt = omega (arith, many, lt)

pub all_packed : (old new : Lists) (entries : List PacketEntry) (m : ℕ) → Spell old entries (m * 64) → div_ceil (length entries) 64 ≤ m → new.groups.items ≡ old.groups.items → new.marks.items ≡ old.marks.items
    → new.headers.items ≡ old.headers.items → new.near.items ≡ old.near.items → new.wide.items ≡ old.wide.items → Spell new entries (length entries)
all_packed old new entries m spell many groups marks headers near wide =
    spell_kept old new entries (length entries) (λ k e lt is. spell k e (enough (length entries) m k many lt) is) (same_front old new groups marks headers near wide)
