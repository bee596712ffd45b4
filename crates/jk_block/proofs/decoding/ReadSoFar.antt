-- How far a word is read in a pass.
use Rattle.std.proofs.Common.{◌≡◌, ℕ, ◌+◌, ◌-◌, ◌*◌, ◌/◌, ◌%◌, ◌<◌, ◌≤◌, true, List, Result, Ok, Err, refl, sym, ap, ◌∙◌, arith}
use Rattle.jk_math.specs.declared.fault.Fault.{Fault}
use Rattle.jk_math.specs.Answer.{◌>>=◌}
use Rattle.jk_model.specs.Decisions.{State, initial}
use Rattle.jk_mqdec.specs.Standing.{DecoderView, Stands}
use Rattle.jk_scan.specs.declared.shape.BlockShape.{BlockShape}
use Rattle.jk_scan.specs.WordPlaces.{column, row}
use Rattle.jk_block.specs.declared.word_place.WordPlace.{WordPlace}
use Rattle.jk_block.specs.Reading.{Progress, place_at, rows_at, read_run}
use Rattle.jk_block.specs.decoding.BlockStates.{Draft, progress, Advanced, TakesStep, Onward}
use Rattle.jk_block.specs.Steps.{IsBitPlace, word_pass}
use Rattle.jk_block.proofs.decoding.Rests.{rest_at, rest_all, rest_none, is_run, Passes, skip, rest_place, rest_run, rest_run_fault}

-- The pass has come to bit n of a word.
pub record ReadSoFar (pass : ℕ) (at : WordPlace) (n : ℕ) (k0 k : Draft) (v0 v : DecoderView) : Type 0 where
  pub most : n ≤ 64
  pub shape : k.shape ≡ k0.shape
  pub bytes : v.bytes ≡ v0.bytes
  pub onward : (coder : State) → Stands v0 coder → Onward (word_pass v0.bytes k0.shape at.plane pass at.word at.stripe) (rest_at v.bytes k.shape at.plane pass at.word at.stripe n) k0 k v coder

pub going_none : (pass : ℕ) (at : WordPlace) (k0 k : Draft) (v : DecoderView) → k.shape ≡ k0.shape → ((coder : State) → progress k0 coder ≡ progress k coder) → ReadSoFar pass at 0 k0 k v v
going_none pass at k0 k v shape same = record {
  most = omega arith;
  shape = shape;
  bytes = refl;
  onward = λ coder st. record {
    next = coder;
    stands = st;
    is = rest_all v.bytes k0.shape at.plane pass at.word at.stripe (progress k0 coder) ∙ ap (λ (s : BlockShape). rest_at v.bytes s at.plane pass at.word at.stripe 0 (progress k0 coder)) (sym shape)
        ∙ ap (λ (z : Progress). rest_at v.bytes k.shape at.plane pass at.word at.stripe 0 z) (same coder);
  };
}

pub going_skip : (pass : ℕ) (at : WordPlace) (n m : ℕ) (k0 k : Draft) (v0 v : DecoderView) → ReadSoFar pass at n k0 k v0 v → n ≤ m → m ≤ 64
    → ((coder : State) (l : ℕ) → n ≤ l → l < m → Passes k.shape pass at.word at.stripe (l / 8) (l % 8) (progress k coder)) → ReadSoFar pass at m k0 k v0 v
going_skip pass at n m k0 k v0 v g h l p = record {
  most = l;
  shape = g.shape;
  bytes = g.bytes;
  onward = λ coder st.
      let o = g.onward coder st in
      record {
        next = o.next;
        stands = o.stands;
        is = o.is ∙ skip v.bytes k.shape at.plane pass at.word at.stripe n (m - n) (progress k o.next) (omega arith) (λ i a b. p o.next i a (omega arith))
            ∙ ap (λ n. rest_at v.bytes k.shape at.plane pass at.word at.stripe n (progress k o.next)) (let e : n + (m - n) ≡ m = omega arith in e);
      };
}

-- the same of what the call was given
moved : (pass : ℕ) (at : WordPlace) (n : ℕ) (bytes bytes' : List ℕ) (s s' : BlockShape) (z : Progress) → bytes' ≡ bytes → s' ≡ s → rest_at bytes s at.plane pass at.word at.stripe n z ≡ rest_at bytes' s' at.plane pass at.word at.stripe n z
moved pass at n bytes bytes' s s' z b e = ap (λ (bs : List ℕ). rest_at bs s at.plane pass at.word at.stripe n z) (sym b) ∙ ap (λ (s : BlockShape). rest_at bytes' s at.plane pass at.word at.stripe n z) (sym e)

pub going_place : {A : Type 0} (pass : ℕ) (at : WordPlace) (n : ℕ) (k0 k k' : Draft) (v0 v v' : DecoderView) (u : A) → ReadSoFar pass at n k0 k v0 v → IsBitPlace k.shape at n
    → TakesStep (place_at v.bytes k.shape at.plane pass (column at.word n) (row at.stripe n)) k k' v v' (Ok u) → k'.shape ≡ k.shape → v'.bytes ≡ v.bytes → ReadSoFar pass at (n + 1) k0 k' v0 v'
going_place pass at n k0 k k' v0 v v' u g place takes shape bytes = record {
  most = (let w = place.within in omega (arith, w));
  shape = shape ∙ g.shape;
  bytes = bytes ∙ g.bytes;
  onward = λ coder st.
      let o = g.onward coder st in
      let a = takes o.next o.stands in
      record {
        next = a.next;
        stands = a.stands;
        is = o.is ∙ rest_place v.bytes k.shape at.plane pass at.word at.stripe n (progress k o.next) place.within place.on_row place.inside
            ∙ ap (λ (r : Result Progress Fault). r >>= rest_at v.bytes k.shape at.plane pass at.word at.stripe (n + 1)) a.is
            ∙ moved pass at (n + 1) v.bytes v'.bytes k.shape k'.shape (progress k' a.next) bytes shape;
      };
}

pub going_fault : (pass : ℕ) (at : WordPlace) (n : ℕ) (k0 k : Draft) (v0 v : DecoderView) (e : Fault) → ReadSoFar pass at n k0 k v0 v → IsBitPlace k.shape at n
    → ((coder : State) → Stands v coder → place_at v.bytes k.shape at.plane pass (column at.word n) (row at.stripe n) (progress k coder) ≡ Err e) → (coder : State) → Stands v0 coder → word_pass v0.bytes k0.shape at.plane pass at.word at.stripe (progress k0 coder) ≡ Err e
going_fault pass at n k0 k v0 v e g place takes coder st =
    let o = g.onward coder st in
    o.is ∙ rest_place v.bytes k.shape at.plane pass at.word at.stripe n (progress k o.next) place.within place.on_row place.inside
    ∙ ap (λ (r : Result Progress Fault). r >>= rest_at v.bytes k.shape at.plane pass at.word at.stripe (n + 1)) (takes o.next o.stands)

pub going_run : (at : WordPlace) (n f : ℕ) (k0 k k' : Draft) (v0 v v' : DecoderView) → ReadSoFar 2 at n k0 k v0 v → n < 64 → n % 8 ≡ 0 → f ≤ 4 → is_run k.shape 2 at.word at.stripe (n / 8) (progress k initial) ≡ true
    → ((coder : State) → Stands v coder → Onward (read_run v.bytes k.shape at.plane (8 * at.word + n / 8) at.stripe) (rows_at v.bytes k.shape at.plane 2 (8 * at.word + n / 8) at.stripe (f + 1) (3 - f)) k k' v' coder)
    → k'.shape ≡ k.shape → v'.bytes ≡ v.bytes → ReadSoFar 2 at (n + f + 2) k0 k' v0 v'
going_run at n f k0 k k' v0 v v' g within first few run takes shape bytes = record {
  most = omega arith;
  shape = shape ∙ g.shape;
  bytes = bytes ∙ g.bytes;
  onward = λ coder st.
      let o = g.onward coder st in
      let a = takes o.next o.stands in
      record {
        next = a.next;
        stands = a.stands;
        is = o.is ∙ rest_run v.bytes k.shape at.plane 2 at.word at.stripe n f (progress k o.next) (progress k' a.next) within first few run a.is
            ∙ moved 2 at (n + f + 2) v.bytes v'.bytes k.shape k'.shape (progress k' a.next) bytes shape;
      };
}

pub going_run_fault : (at : WordPlace) (n : ℕ) (k0 k : Draft) (v0 v : DecoderView) (e : Fault) → ReadSoFar 2 at n k0 k v0 v → n < 64 → n % 8 ≡ 0 → is_run k.shape 2 at.word at.stripe (n / 8) (progress k initial) ≡ true
    → ((coder : State) → Stands v coder → read_run v.bytes k.shape at.plane (8 * at.word + n / 8) at.stripe (progress k coder) ≡ Err e) → (coder : State) → Stands v0 coder → word_pass v0.bytes k0.shape at.plane 2 at.word at.stripe (progress k0 coder) ≡ Err e
going_run_fault at n k0 k v0 v e g within first run takes coder st =
    let o = g.onward coder st in
    o.is ∙ rest_run_fault v.bytes k.shape at.plane 2 at.word at.stripe n (progress k o.next) e within first run (takes o.next o.stands)

pub going_all : (pass : ℕ) (at : WordPlace) (k0 k : Draft) (v0 v : DecoderView) → ReadSoFar pass at 64 k0 k v0 v → (coder : State) → Stands v0 coder → Advanced (word_pass v0.bytes k0.shape at.plane pass at.word at.stripe) k0 k v coder
going_all pass at k0 k v0 v g coder st =
    let o = g.onward coder st in
    record { next = o.next; stands = o.stands; is = o.is ∙ rest_none v.bytes k.shape at.plane pass at.word at.stripe (progress k o.next) }
