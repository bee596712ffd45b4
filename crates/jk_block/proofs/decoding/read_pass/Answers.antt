use Rattle.std.proofs.Common.{◌≡◌, ℕ, List, Result, Ok, Err, refl, sym, ap, ◌∙◌}
use Rattle.std.proofs.lemmas.Result.{err_from_is_err_and}
use Rattle.jk_math.specs.declared.fault.Fault.{Fault}
use Rattle.jk_math.specs.Answer.{◌>>=◌}
use Rattle.jk_model.specs.Decisions.{State}
use Rattle.jk_model.specs.CodingPasses.{begun_by}
use Rattle.jk_scan.specs.declared.shape.BlockShape.{BlockShape}
use Rattle.jk_block.specs.Meaning.{plane_of, kind_of}
use Rattle.jk_block.specs.Reading.{Progress, begun, with_contexts, plane_pass_at, closing_at, pass_at}
use Rattle.jk_block.specs.Steps.{number_of}
use Rattle.jk_block.specs.decoding.BlockStates.{Draft, draft_of, progress}
use Rattle.jk_block.proofs.decoding.Taking.{takes_begun, takes_through, takes_then}
use Rattle.jk_block.proofs.decoding.read_pass.Goals as goal

-- the pass without what ends it
scan : List ℕ → BlockShape → (planes n : ℕ) → Progress → Result Progress Fault
scan bytes s planes n z = plane_pass_at bytes s (plane_of planes n) (kind_of n) (begun (kind_of n) (with_contexts s z))

-- where the draft and the decoder have begun a pass, the plane is what is left of it
scan_is : (bytes bs : List ℕ) (s s' : BlockShape) (planes n pass : ℕ) (k k' : Draft) → k.shape ≡ s → pass ≡ kind_of n → s' ≡ s → bs ≡ bytes → ((c : State) → progress k' c ≡ begun pass (progress k c)) → (coder : State)
    → scan bytes s planes n (progress k coder) ≡ plane_pass_at bs s' (plane_of planes n) pass (progress k' (begun_by s'.style.reset coder))
unfolding scan
scan_is bytes bs s s' planes n pass k k' e kind same read begins coder =
    let b = plane_of planes n in
    ap (λ (m : ℕ). plane_pass_at bytes s b m (begun m (progress k (begun_by s.style.reset coder)))) (sym kind)
    ∙ ap (λ (z : Progress). plane_pass_at bytes s b pass z) (sym (begins (begun_by s.style.reset coder)))
    ∙ ap (λ (t : BlockShape). plane_pass_at bytes t b pass (progress k' (begun_by t.style.reset coder))) (sym same)
    ∙ ap (λ (xs : List ℕ). plane_pass_at xs s' b pass (progress k' (begun_by s'.style.reset coder))) (sym read)

pub returns-in_err-read_bit_plane-clause-takes : goal.returns-in_err-read_bit_plane-clause-takes
unfolding pass_at scan
returns-in_err-read_bit_plane-clause-takes c =
    let p = err_from_is_err_and c.from_residual.result c.from_residual.ensures.1 in
    let k = draft_of c.args.block_state.now in
    let v = c.args.decoder.now in
    let w = c.begin_contexts.new.decoder in
    let bytes = v.bytes in
    let planes = c.args.planes in
    let n = c.args.n in
    let pass = number_of c.pass_of-pass.result in
    let k' = draft_of c.begin.new.block_state in
    let scanned = takes_begun {A = Unit {0}} (scan bytes k.shape planes n) (plane_pass_at w.bytes k'.shape (plane_of planes n) pass) (begun_by k'.shape.style.reset) k k' (draft_of c.read_bit_plane.new.block_state) v w c.read_bit_plane.new.decoder
    (Err c.in_err-read_bit_plane.field-0.0) c.begin_contexts.ensures.stands
    (scan_is bytes w.bytes k.shape k'.shape planes n pass k k' refl c.pass_of-pass.ensures c.begin.ensures.shape c.begin_contexts.ensures.bytes c.begin.ensures.begun)
    c.in_err-read_bit_plane.ensures.takes in
    rw (p.1, p.2) (λ coder st. ap (λ (r : Result Progress Fault). r >>= closing_at bytes k.shape.style (kind_of n)) (scanned coder st))

pub returns-clause-takes : goal.returns-clause-takes
unfolding pass_at scan
returns-clause-takes c =
    let k = draft_of c.args.block_state.now in
    let v = c.args.decoder.now in
    let w = c.begin_contexts.new.decoder in
    let x = c.read_bit_plane.new.decoder in
    let bytes = v.bytes in
    let planes = c.args.planes in
    let n = c.args.n in
    let pass = number_of c.pass_of-pass.result in
    let k' = draft_of c.begin.new.block_state in
    let new = draft_of c.read_bit_plane.new.block_state in
    let scanned = takes_begun {A = Unit {0}} (scan bytes k.shape planes n) (plane_pass_at w.bytes k'.shape (plane_of planes n) pass) (begun_by k'.shape.style.reset) k k' new v w x
    (Ok tt) c.begin_contexts.ensures.stands
    (scan_is bytes w.bytes k.shape k'.shape planes n pass k k' refl c.pass_of-pass.ensures c.begin.ensures.shape c.begin_contexts.ensures.bytes c.begin.ensures.begun)
    c.in_ok-read_bit_plane.ensures.takes in
    let read : x.bytes ≡ bytes = c.in_ok-read_bit_plane.ensures.bytes ∙ c.begin_contexts.ensures.bytes in
    let same : new.shape ≡ k.shape = c.in_ok-read_bit_plane.ensures.shape ∙ c.begin.ensures.shape in
    let closed = takes_through (closing_at bytes k.shape.style (kind_of n)) (closing_at x.bytes new.shape.style pass) new new new x c.end_pass.new.decoder c.end_pass.result
    (λ coder.
    ap (λ (bs : List ℕ). closing_at bs k.shape.style (kind_of n) (progress new coder)) (sym read)
    ∙ ap (λ (s : BlockShape). closing_at x.bytes s.style (kind_of n) (progress new coder)) (sym same)
    ∙ ap (λ (m : ℕ). closing_at x.bytes new.shape.style m (progress new coder)) (sym c.pass_of-pass.ensures))
    (c.end_pass.ensures.takes new) in
    takes_then (scan bytes k.shape planes n) (closing_at bytes k.shape.style (kind_of n)) k new v x c.end_pass.new.decoder c.end_pass.result scanned closed
