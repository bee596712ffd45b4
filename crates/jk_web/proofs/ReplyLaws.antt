-- Replies to requests for the file of an image, or for a window of it.
use Rattle.std.proofs.Common.{◌≡◌, ℕ, ◌⊎◌, inl, inr, Bool, true, false, List, Option, Some, None, is_some, Result, Ok, Err, IfOk, IsErr, sym, ap, ◌∙◌}
use Rattle.jk_math.specs.declared.fault.Fault.{Fault}
use Rattle.jk_math.specs.declared.fault.Fault.TheVariants.{Memory, NoSuchImage, BadWindow, Shelf, Changed}
use Rattle.jk_math.specs.Memory.{IsMemory}
use Rattle.jk_math.specs.Steps.{if_ok}
use Rattle.jk_window.specs.declared.view.View.{View}
use Rattle.jk_web.specs.declared.reply.Reply.{Reply}
use Rattle.jk_web.specs.Replies.{Content, printed, error}
use Rattle.jk_web.specs.Images.{Image, sent, whole_content, cut_content, window_content, IsImageFile, IsCutOf, HasNoCut, MayRefuse, status_of, IsReplyOf}

-- a name of which there is an image
pub some_not : (o : Option Image) → is_some o ≡ true → o ≡ None → ⊥
some_not o is none = let clash = sym is ∙ ap is_some none in cc

-- what is due is a fault
pub bad_whole : (o : Option Image) (b : Bool) → is_some o ≡ true → b ≡ false → error 400 ≡ whole_content o b
bad_whole None b is empty = absurd (cc)
bad_whole (Some i) b is empty = ap (λ x. whole_content (Some i) x) (sym empty)

pub bad_window : (o : Option Image) (asked : Option View) → is_some o ≡ true → asked ≡ None → error 400 ≡ window_content o asked
bad_window None asked is none = absurd (cc)
bad_window (Some i) asked is none = ap (λ x. window_content (Some i) x) (sym none)

pub no_cut : (o : Option Image) (all : Option View) (asked : View) → all ≡ Some asked → HasNoCut o asked → error 400 ≡ window_content o all
no_cut None all asked is none = absurd none
no_cut (Some i) all asked is none = sym (ap (λ x. window_content (Some i) x) is ∙ ap cut_content none)

-- what is due is sent
pub whole_sent : (o : Option Image) (b : Bool) (file : List ℕ) → b ≡ true → IsImageFile o file → sent file ≡ whole_content o b
whole_sent None b file bare is = absurd is
whole_sent (Some i) b file bare is = ap sent is ∙ sym (ap (λ x. whole_content (Some i) x) bare)

pub cut_sent : (o : Option Image) (all : Option View) (asked : View) (file : List ℕ) → all ≡ Some asked → IsCutOf o asked file → sent file ≡ window_content o all
cut_sent None all asked file is cut = absurd cut
cut_sent (Some i) all asked file is cut = sym (ap (λ x. window_content (Some i) x) is ∙ ap cut_content cut)

pub either : {A B C D : Type 0} → A ⊎ B → (A → C) → (B → D) → C ⊎ D
either (inl a) f g = inl (f a)
either (inr b) f g = inr (g b)

-- a reply with another file is one where more files are others
pub reply_as : (due : Content) (broken : Type 0) (other more : List ℕ → Type 0) (close : Bool) (r : Reply) → ((file : List ℕ) → other file → more file)
    → IsReplyOf due broken other close r → IsReplyOf due broken more close r
reply_as due broken other more close r on (inl is) = inl is
reply_as due broken other more close r on (inr (inl why)) = inr (inl why)
reply_as due broken other more close r on (inr (inr sent)) = inr (inr (sent.0, on sent.0 sent.1, sent.2))

nothing : {A : Type 0} (r : Result A Fault) (P : A → Type 0) → IsErr r → IfOk r P
nothing (Ok x) P e = absurd (cc)
nothing (Err f) P e = tt

module _ (due : Content) (broken : Type 0) (other : List ℕ → Type 0) (close : Bool) (r : Result Reply Fault) where
  pub said : (content : Content) → content ≡ due → IfOk r (λ x. x ≡ printed content close) → IfOk r (IsReplyOf due broken other close)
  said content same is = if_ok r (λ x e. inl (e ∙ ap (λ c. printed c close) same)) is

  pub sent_as : (file : List ℕ) → (sent file ≡ due) ⊎ other file → IfOk r (λ x. x ≡ printed (sent file) close) → IfOk r (IsReplyOf due broken other close)
  sent_as file (inl same) is = said (sent file) same is
  sent_as file (inr another) is = if_ok r (λ x e. inr (inr (file, another, e))) is

  broken_as : broken → IfOk r (λ x. x ≡ printed (error 500) close) → IfOk r (IsReplyOf due broken other close)
  broken_as why is = if_ok r (λ x e. inr (inl (why, e))) is

  pub refused_as : (o : Option Image) (Uncut : Type 0) (e : Fault) → MayRefuse o broken Uncut e → (o ≡ None → ⊥) → (Uncut → error 400 ≡ due)
      → IfOk r (λ x. x ≡ printed (error (status_of e)) close) → (IsMemory e → IsErr r) → IfOk r (IsReplyOf due broken other close)
  refused_as o uncut (Memory k) may some bad is passed = nothing r (IsReplyOf due broken other close) (passed tt)
  refused_as o uncut NoSuchImage may some bad is passed = absurd (some may)
  refused_as o uncut BadWindow may some bad is passed = said (error 400) (bad may) is
  refused_as o uncut Shelf may some bad is passed = broken_as may is
  refused_as o uncut Changed may some bad is passed = broken_as may is
  refused_as o uncut e may some bad is passed = absurd may
