-- Rows of a raster that are looked at as they come.
use Rattle.std.proofs.Common.{◌≡◌, ℕ, ◌*◌, ◌<◌, ◌≤◌, ◌⊎◌, List, [], ◌++◌, length, Option, refl, sym, ap, subst, ◌∙◌, append_assoc, append-nil, length-append, inl, inr, arith}
use Rattle.std.specs.Io.KnownBytes.{IsAtEnd}
use Rattle.jk_math.specs.Memory.{IsMemory}
use Rattle.jk_math.specs.Picture.{Picture, IsPicture, IsFrame}
use Rattle.jk_math.specs.declared.fault.Fault.{Fault}
use Rattle.jk_pnm.specs.declared.header.Header.{Header}
use Rattle.jk_pnm.specs.Heads.{row_bytes}
use Rattle.jk_pnm.proofs.Laws.{rows_below_end, size_by_rows}
use Rattle.jk_files.specs.declared.incoming.Incoming.{Incoming}
use Rattle.jk_files.specs.Incoming.{waiting_of, Took}
use Rattle.jk_files.proofs.Laws.{took_none, took_both}
use Rattle.jk_commands.specs.RowStreaming.{with_raster, WereRead, WereRefused, HasRaster}
use Rattle.jk_commands.proofs.FileRowLaws.{AreBelow, below_none, below_more, below_all}
use Rattle.jk_commands.proofs.StreamLaws.{refused_behind}

module _ {S : Type 0} (remaining : S → Option (List ℕ)) where
  -- The rows above row y were read, and their samples are in their range.
  pub record IsJudged (h : Header) (a b : Incoming S) (y : ℕ) : Type 0 where
    pub bytes : List ℕ
    pub took : Took remaining a b bytes
    pub long : length bytes ≡ y * row_bytes h
    pub inside : y ≤ h.height
    pub fine : (more : List ℕ) → AreBelow (with_raster h (bytes ++ more)) y
    pub ended : 0 < y → y ≡ h.height → IsAtEnd (remaining b.source.now) × (waiting_of b ≡ [])

  pub judged_none : (h : Header) (a : Incoming S) → IsJudged h a a 0
  judged_none h a = record {
    bytes = [];
    took = took_none remaining a;
    long = omega arith;
    inside = omega arith;
    fine = λ more. below_none (with_raster h more);
    ended = λ some full. absurd (omega (arith, some));
  }

  pub judged_more : (h : Header) (a b c : Incoming S) (y z : ℕ) (v : Picture) → IsJudged h a b y → WereRead remaining h y z b v c → IsPicture v → IsJudged h a c z
  judged_more h a b c y z v k r is =
      let row = row_bytes h in
      let order = r.order in
      let ends = rows_below_end row y z z (omega arith) (omega arith) in
      let e1 = ends.1 in
      let e2 = ends.2 in
      let first = k.long in
      let second = r.long in
      let both = length-append k.bytes r.bytes in
      record {
        bytes = k.bytes ++ r.bytes;
        took = took_both remaining a b c k.bytes r.bytes k.took r.took;
        long = omega arith;
        inside = r.inside;
        fine = λ more.
            subst (λ (xs : List ℕ). AreBelow (with_raster h xs) z) (sym (append_assoc k.bytes r.bytes more))
            (below_more (with_raster h (k.bytes ++ (r.bytes ++ more))) y z r.order r.inside (k.fine (r.bytes ++ more)) (subst IsPicture (r.rows k.bytes more k.long) is));
        ended = λ some full. r.last full;
      }

  pub judged_all : (h : Header) (a b : Incoming S) (y : ℕ) → IsFrame 0 0 h.width h.height → (1 ≤ h.depth) × (h.depth ≤ 16) → y ≡ h.height → IsJudged h a b y
      → (bytes : List ℕ) × HasRaster remaining h a b bytes
  judged_all h a b y frame bits all k =
      let some = frame.high in
      let ends = k.ended (omega arith) all in (
        k.bytes,
        record {
          took = k.took;
          long = k.long ∙ ap (λ n. n * row_bytes h) all ∙ sym (size_by_rows h (row_bytes h) refl);
          ended = ends.0;
          none = ends.1;
          picture = below_all (with_raster h k.bytes) frame bits
              (subst (λ (xs : List ℕ). AreBelow (with_raster h xs) h.height) (append-nil k.bytes) (subst (λ n. AreBelow (with_raster h (k.bytes ++ [])) n) all (k.fine [])));
        },
      )

  pub judged_refused : (h : Header) (a b c : Incoming S) (y : ℕ) (e : Fault) → IsJudged h a b y → IsMemory e ⊎ WereRefused remaining h y b e c → IsMemory e ⊎ WereRefused remaining h 0 a e c
  judged_refused h a b c y e k why = elim why [
    | inl memory ↦ inl memory
    | inr refused ↦ inr (refused_behind remaining h y a b c k.bytes e k.took k.long refused)
  ]
