use Rattle.std.proofs.Common.{◌≡◌, true, false, sym, ap, ◌∙◌}
use Rattle.std.specs.String.{string_bytes}
use Rattle.sha2.specs.Sha256.{sha256}
use Rattle.jk_store.specs.Names.{file_name}
use Rattle.jk_store.proofs.PartsLaws.{as_many}
use Rattle.jk_store.proofs.entry.Entry.whole.Goals as goal

pub returns-then-has_other_length-clause-steady : goal.returns-then-has_other_length-clause-steady
returns-then-has_other_length-clause-steady g c = λ files b keeps has stands changed.
    let told = c.if-has_other_length.true in
    let steady = c.has_other_length.ensures.steady files b keeps has (as_many c.args.self.now.parts.items b stands.parts) in
    let both : true ≡ false = sym told ∙ steady in
    absurd (cc)

pub returns-then-not-has_digest-clause-steady : goal.returns-then-not-has_digest-clause-steady
returns-then-not-has_digest-clause-steady g c = λ files b keeps has stands changed.
    let path : c.as_str-3.result.now ≡ file_name (string_bytes c.args.self.now.name) = c.as_str-3.ensures.value ∙ c.in_ok-name.ensures.ok ∙ ap file_name c.as_str.ensures.value in
    let same = c.in_ok-file.ensures.same files b keeps (ap files path ∙ has) in
    c.has_digest.ensures.no c.if-not-has_digest.true (ap sha256 (c.deref.ensures.value ∙ same) ∙ sym stands.digest)
