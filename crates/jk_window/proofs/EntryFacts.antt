-- What is true of each entry is true of the one that is got.
use Rattle.std.proofs.Common.{◌≡◌, ℕ, zero, suc, ◌+◌, ◌<◌, ◌≤◌, List, [], ◌∷◌, length, take, get_or, sym, subst, arith}
use Rattle.std.specs.List.{AllByRecursion}
use Rattle.jk_walk.specs.declared.entries.PacketEntry.{PacketEntry}
use Rattle.jk_walk.specs.Entries.{IsEntry}

one_of : (P : PacketEntry → Type 0) (xs : List PacketEntry) (i : ℕ) (d : PacketEntry) → AllByRecursion P xs → i < length xs → P (get_or xs i d)
one_of P [] i d all lt = absurd (omega arith)
one_of P (x ∷ xs) zero d all lt = all.0
one_of P (x ∷ xs) (suc i) d all lt = one_of P xs i d all.1 (omega arith)

pub entry_there : (P : PacketEntry → Type 0) (xs : List PacketEntry) (i : ℕ) (e : PacketEntry) → AllByRecursion P xs → i < length xs → e ≡ get_or xs i e → P e
entry_there P xs i e all lt is = subst P (sym is) (one_of P xs i e all lt)

pub entry_within : (size most : ℕ) (xs : List PacketEntry) (i : ℕ) (e : PacketEntry) → AllByRecursion (IsEntry size) xs → i < length xs → e ≡ get_or xs i e → size ≤ most → IsEntry most e
entry_within size most xs i e all lt is le =
    let own = entry_there (IsEntry size) xs i e all lt is in
    let within = own.within in
    record {
      header = own.header;
      body = own.body;
      within = omega (arith, within, le);
    }

pub taken_more : (P : PacketEntry → Type 0) (xs : List PacketEntry) (i : ℕ) (e : PacketEntry) → i < length xs → e ≡ get_or xs i e → AllByRecursion P (take i xs) → P e → AllByRecursion P (take (i + 1) xs)
taken_more P [] i e lt is all one = absurd (omega arith)
taken_more P (x ∷ xs) zero e lt is all one =
    let n : 0 + 1 ≡ suc 0 = omega arith in subst (λ k. AllByRecursion P (take k (x ∷ xs))) (sym n) (subst P is one, tt)
taken_more P (x ∷ xs) (suc i) e lt is all one =
    let n : suc i + 1 ≡ suc (i + 1) = omega arith in subst (λ k. AllByRecursion P (take k (x ∷ xs))) (sym n) (all.0, taken_more P xs i e (omega arith) is all.1 one)
