-- What a reader answers, of its parts.
use Rattle.std.proofs.Common.{ℕ, List, Result, Ok, Err, IfOk, IfErr}
use mathlib.Core.List.{IsPrefix}
use Rattle.jk_math.specs.declared.fault.Fault.{Fault}
use Rattle.jk_web.specs.declared.reply.Reply.{Reply}
use Rattle.jk_web.specs.declared.request.Request.{Request}
use Rattle.jk_store.specs.Files.{Files}
use Rattle.jk_hall.specs.declared.reader.Reader.{Reader}
use Rattle.jk_hall.specs.Looking.{IsLook}
use Rattle.jk_hall.specs.Reading.{seen, told, cuts, look_counts}
use Rattle.jk_hall.specs.Replying.{IsRefusal, IsUnread, Goes, RefusesReply, Replies, GivesReply}

module _ {S : Type 0} (keeps : S → Files → Type 0) (s t : Reader × S) (q : Request) (goes : Goes keeps s t) (unread : IsUnread s q t) where
  pub refused : (r : Result Reply Fault) → IfErr r (λ e. IsRefusal s.0 e t.0) → IfErr r (λ e. RefusesReply keeps s q e t)
  refused (Ok y) why = tt
  refused (Err e) why = (why, goes, unread)

  pub given : (failed : S → ℕ) (gave : S → List ℕ → List ℕ → S → Type 0) (gave_at : S → List ℕ → ℕ → ℕ → List ℕ → S → Type 0) (r : Result Reply Fault)
      → IfOk r (λ y. IsLook (look_counts s.0) (look_counts t.0)) → IfOk r (λ y. IsPrefix (told s.0) (seen t.0))
      → IfOk r (Replies keeps failed gave gave_at (seen t.0) s.1 t.1 (cuts s.0) q) → IfOk r (λ y. GivesReply keeps failed gave gave_at s q y t)
  given failed gave gave_at (Err e) look begins reply = tt
  given failed gave gave_at (Ok y) look begins reply = record { goes = goes; look = look; unread = unread; begins = begins; reply = reply }
