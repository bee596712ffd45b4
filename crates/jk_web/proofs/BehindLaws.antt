-- What a catalogue and the place that its windows come from went through.
use Rattle.std.proofs.Common.{ℕ, List, All, Option, Result, refl, ◌∙◌}
use Rattle.jk_math.specs.declared.fault.Fault.{Fault}
use Rattle.jk_window.specs.declared.view.View.{View}
use Rattle.jk_web.specs.declared.serving.End.{End}
use Rattle.jk_web.specs.declared.running.Answering.{Answering}
use Rattle.jk_web.specs.Resources.{IsPathSegment}
use Rattle.jk_web.specs.Images.{Image, names_of, gives_with, gives_kept, refuses_memory}
use Rattle.jk_web.specs.Serving.{EndsConnection}
use Rattle.jk_web.specs.Behind.{HoldsBehind, KnowsBehind, GoesBehind, GivesBehind, RefusesBehind}
use Rattle.jk_web.proofs.RunLaws.{ends_as}

module _ {C W : Type 0} (stands keeps : C → List Image → Type 0) (made : C → List ℕ → View → List ℕ → Type 0) (has : W → List ℕ → View → List ℕ → Type 0) where
  goes_nowhere : (s : Answering C W) → GoesBehind stands keeps made has s s
  goes_nowhere s = record {
    same = (refl, refl);
    lasts = record { stands_on = λ images k. k; keeps_on = λ images k. k; made_on = λ n a b k. k };
    holds = λ k. k;
    knows = λ images k. k.2;
  }

  known_on : (images : List Image) (s t : Answering C W) → GoesBehind stands keeps made has s t → KnowsBehind stands keeps has images s → KnowsBehind stands keeps has images t
  known_on images s t g k = (g.lasts.stands_on images k.0, g.lasts.keeps_on images k.1, g.knows images k)

  goes_on : (s t u : Answering C W) → GoesBehind stands keeps made has s t → GoesBehind stands keeps made has t u → GoesBehind stands keeps made has s u
  goes_on s t u g h = record {
    same = (h.same.0 ∙ g.same.0, h.same.1 ∙ g.same.1);
    lasts = record {
      stands_on = λ images k. h.lasts.stands_on images (g.lasts.stands_on images k);
      keeps_on = λ images k. h.lasts.keeps_on images (g.lasts.keeps_on images k);
      made_on = λ n a b k. h.lasts.made_on n a b (g.lasts.made_on n a b k);
    };
    holds = λ k. h.holds (g.holds k);
    knows = λ images k. h.knows images (known_on images s t g k);
  }

  module _ (broke : C → List ℕ → C → Type 0) (reads : C → List ℕ → List ℕ → C → Type 0) (others : Option Image → C → List ℕ → View → C → List ℕ → Type 0)
      (start end : Answering C W) (stream text : List ℕ) (over spent : Type 0) (r : Result End Fault)
      (k : EndsConnection (GivesBehind stands keeps made has broke reads others) (RefusesBehind stands keeps made has) start stream text over spent end r) where
    -- from the first state to the last
    pub went : GoesBehind stands keeps made has start end
    went =
        (ends_as (GivesBehind stands keeps made has broke reads others) (λ s q reply t. Unit {0}) (RefusesBehind stands keeps made has)
        (λ a. a) (GoesBehind stands keeps made has start)
        (λ s q reply t p g. (tt, goes_on start s t p g.goes))
        (λ s q e t p g. (g.memory, goes_on start s t p g.goes))
        start stream text over spent end r (goes_nowhere start) k).1

    -- what was written, of the catalogue alone
    pub shown : (images : List Image) → stands start.catalogue.now images → HoldsBehind made has start → All IsPathSegment (names_of images)
        → EndsConnection (gives_with broke reads others images) refuses_memory start.catalogue.now stream text over spent end.catalogue.now r
    shown images stand held segments =
        (ends_as (GivesBehind stands keeps made has broke reads others) (gives_with broke reads others images) (RefusesBehind stands keeps made has)
        (λ a. a.catalogue.now) (λ a. stands a.catalogue.now images × HoldsBehind made has a)
        (λ s q reply t p g. (g.reply images p.0 p.1 segments, (g.goes.lasts.stands_on images p.0, g.goes.holds p.1)))
        (λ s q e t p g. (g.memory, (g.goes.lasts.stands_on images p.0, g.goes.holds p.1)))
        start stream text over spent end r (stand, held) k).0

    pub kept : (images : List Image) → KnowsBehind stands keeps has images start → All IsPathSegment (names_of images)
        → EndsConnection (gives_kept broke images) refuses_memory start.catalogue.now stream text over spent end.catalogue.now r
    kept images known segments =
        (ends_as (GivesBehind stands keeps made has broke reads others) (gives_kept broke images) (RefusesBehind stands keeps made has)
        (λ a. a.catalogue.now) (KnowsBehind stands keeps has images)
        (λ s q reply t p g. (g.kept images p segments, known_on images s t g.goes p))
        (λ s q e t p g. (g.memory, known_on images s t g.goes p))
        start stream text over spent end r known k).0
