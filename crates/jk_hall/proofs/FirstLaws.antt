-- What was answered from beginnings of a list was answered from the first of its images.
use Rattle.std.proofs.Common.{ℕ, List, length, take, All, Result, subst}
use Rattle.std.proofs.lemmas.List.{take-map}
use Rattle.std.proofs.lemmas.List.Elements.{All-take}
use mathlib.Core.List.{IsPrefix}
use Rattle.jk_math.specs.declared.fault.Fault.{Fault}
use Rattle.jk_web.specs.declared.serving.End.{End}
use Rattle.jk_web.specs.Cuts.{AreOf, Has}
use Rattle.jk_web.specs.Images.{Image, names_of}
use Rattle.jk_web.specs.Resources.{IsPathSegment}
use Rattle.jk_web.specs.Serving.{EndsConnection}
use Rattle.jk_web.proofs.Laws.{ends_by}
use Rattle.jk_store.specs.Files.{Files}
use Rattle.jk_store.specs.Showing.{ShowImages, AreKept}
use Rattle.jk_store.specs.declared.entry.Entry.{Entry}
use Rattle.jk_hall.specs.declared.reader.Reader.{Reader}
use Rattle.jk_hall.specs.Kept.{KeepsCuts}
use Rattle.jk_hall.specs.Reading.{seen, cuts}
use Rattle.jk_hall.specs.Replying.{Goes}
use Rattle.jk_hall.specs.Behind.{GivesUpTo, RefusesUpTo, GivesFirst, GivesFirstKept, RefusesFor}
use Rattle.jk_hall.proofs.Fronting.{shown_front, cuts_front, cuts_all, kept_front, kept_on}
use Rattle.jk_hall.proofs.Keeping.{cuts_on}
use Rattle.jk_hall.proofs.Attended.{cause_is}

segments_front : (n : ℕ) (images : List Image) → All IsPathSegment (names_of images) → All IsPathSegment (names_of (take n images))
segments_front n images a =
    subst (λ (v : List (List ℕ)). All IsPathSegment v) (take-map (λ (i : Image). i.name) n images) (All-take IsPathSegment n (names_of images) a)

module _ {S : Type 0} (keeps : S → Files → Type 0) (failed : S → ℕ) (gave : S → List ℕ → List ℕ → S → Type 0) (gave_at : S → List ℕ → ℕ → ℕ → List ℕ → S → Type 0)
    (last : List Entry) (images : List Image) (shows : ShowImages last images) (segments : All IsPathSegment (names_of images)) where
  pub shown : (start end : Reader × S) (stream text : List ℕ) (over spent : Type 0) (r : Result End Fault) → KeepsCuts (seen start.0) (cuts start.0)
      → EndsConnection (GivesUpTo keeps failed gave gave_at last) (RefusesUpTo keeps last) start stream text over spent end r
      → EndsConnection (GivesFirst failed gave gave_at images) RefusesFor start stream text over spent end r
  shown start end stream text over spent r held k =
      ((ends_by (GivesUpTo keeps failed gave gave_at last) (RefusesUpTo keeps last) (GivesFirst failed gave gave_at images) RefusesFor
      (λ s. s) (λ s. KeepsCuts (seen s.0) (cuts s.0)) (λ s. Unit {0})
      (λ s q reply t h g. (
        g.0.goes.cuts_on.held h,
        λ b. (
          (
            g.0.goes.grown,
            g.0.reply.any (take (length (seen t.0)) images) (shown_front (seen t.0) last images g.1 shows)
                (cuts_on (seen s.0) (seen t.0) g.0.goes.grown (cuts s.0) h) (segments_front (length (seen t.0)) images segments),
          ),
          tt,
        ),
      ))
      (λ s q e t h g. (g.0.1.cuts_on.held h, λ b. (cause_is e _ g.0.0, tt)))
      start stream text over spent end r held k).1 tt).0

  Known : Reader × S → Type 0
  Known s = KeepsCuts (seen s.0) (cuts s.0) × AreKept keeps s.1 images × AreOf (Has (cuts s.0)) images

  known_on : (s t : Reader × S) → Goes keeps s t → IsPrefix (seen t.0) last → Known s → Known t
  unfolding Known
  known_on s t g p known =
      let n = length (seen t.0) in
      let front = shown_front (seen t.0) last images p shows in (
        g.cuts_on.held known.0,
        kept_on keeps s.1 t.1 images g.keeps_on known.1,
        cuts_all n images (cuts t.0)
            (g.cuts_on.known known.0 (take n images) front (kept_front keeps s.1 n images known.1)
            (cuts_front (seen t.0) images (cuts s.0) (cuts_on (seen s.0) (seen t.0) g.grown (cuts s.0) known.0) front known.2)),
      )

  pub same : (start end : Reader × S) (stream text : List ℕ) (over spent : Type 0) (r : Result End Fault)
      → KeepsCuts (seen start.0) (cuts start.0) × AreKept keeps start.1 images × AreOf (Has (cuts start.0)) images
      → EndsConnection (GivesUpTo keeps failed gave gave_at last) (RefusesUpTo keeps last) start stream text over spent end r
      → EndsConnection (GivesFirstKept failed gave gave_at images) RefusesFor start stream text over spent end r
  unfolding Known
  same start end stream text over spent r known k =
      ((ends_by (GivesUpTo keeps failed gave gave_at last) (RefusesUpTo keeps last) (GivesFirstKept failed gave gave_at images) RefusesFor
      (λ s. s) Known (λ s. Unit {0})
      (λ s q reply t known g. (
        known_on s t g.0.goes g.1 known,
        λ b.
            let n = length (seen t.0) in
            let front = shown_front (seen t.0) last images g.1 shows in (
              (
                g.0.goes.grown,
                g.0.reply.same (take n images) front (kept_front keeps s.1 n images known.1)
                    (cuts_front (seen t.0) images (cuts s.0) (cuts_on (seen s.0) (seen t.0) g.0.goes.grown (cuts s.0) known.0) front known.2)
                    (segments_front n images segments),
              ),
              tt,
            ),
      ))
      (λ s q e t known g. (known_on s t g.0.1 g.1 known, λ b. (cause_is e _ g.0.0, tt)))
      start stream text over spent end r known k).1 tt).0
