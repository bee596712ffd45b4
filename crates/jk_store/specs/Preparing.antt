-- What is at hand of an image before it is stored.
use Rattle.std.specs.Prelude.{ℕ, List, Result, Ok, Err}
use Rattle.std.specs.String.{string_bytes}
use Rattle.jk_math.specs.Answer.{◌>>=◌}
use Rattle.jk_math.specs.declared.fault.Fault.{Fault}
use Rattle.jk_store.specs.Catalogue.{image_at}
use Rattle.jk_store.specs.Checking.{given_bytes}
use Rattle.jk_store.specs.Adding.{stored_due, added_due}
use Rattle.jk_store.specs.declared.entry.Entry.{Entry}
use Rattle.jk_store.specs.declared.encoded.Encoded.{Encoded}
use Rattle.jk_store.specs.declared.prepared.Ready.{Ready}
use Rattle.jk_store.specs.declared.prepared.Prepared.{Prepared}

-- the file of an image that is encoded, or the first fault: of its name, or of its encoding
abbrev pub due_file : Encoded → Result (List ℕ) Fault
due_file e = stored_due (string_bytes e.name) (given_bytes e.file)

-- the file of an image that is prepared, or the fault for which there is none
abbrev pub ready_bytes : Result Ready Fault → Result (List ℕ) Fault
ready_bytes (Ok r) = Ok r.bytes.items
ready_bytes (Err e) = Err e

-- the file of an image that is prepared, where it may be added beside these entries, or the first
-- fault
abbrev pub due_beside : List Entry → Prepared → Result (List ℕ) Fault
due_beside entries p = added_due entries (string_bytes p.name) (ready_bytes p.made)

-- the bytes of a file that is an image of an archive, or the first fault
unfoldable pub image_due : List ℕ → Result (List ℕ) Fault
image_due bytes = do
  _ ← image_at bytes
  Ok bytes
