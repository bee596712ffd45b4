-- Requests that are answered one after another.
use Rattle.std.proofs.Common.{◌≡◌, ℕ, ◌<◌, ◌⊎◌, inl, inr, Bool, true, false, if◌then◌else◌, List, [], ◌∷◌, ◌++◌, length, Option, None, Some, IfSome, refl, sym, ap, ◌∙◌, subst, arith, append_assoc, append-nil, length-append, Ok}
use Rattle.std.specs.Io.KnownBytes.{Appends, Consumes}
use Rattle.httparse.specs.Grammar.{lf, IsField, is_token_byte, is_uri_byte, RequestHead, IsRequestHead, print_request, print_blank, print_version, print_end, print_section}
use Rattle.httparse.proofs.GrammarLemmas.{print_request-append, ReadsRequest-append}
use Rattle.httparse.proofs.OpenLemmas.{letter_is_token}
use Rattle.std.proofs.lemmas.List.Elements.{All-cons, All-nil}
use Rattle.std.proofs.lemmas.Str.{IsUtf8-from_ascii}
use Rattle.std.proofs.lemmas.Str.Ascii.{IsAscii-cons, IsAscii-nil}
use Rattle.jk_web.specs.declared.serving.End.{End}
use Rattle.jk_web.specs.declared.serving.End.TheVariants.{Closed, Bad, ReadFailed, WriteFailed, TurnsSpent}
use Rattle.jk_math.specs.declared.fault.Fault.{Fault}
use Rattle.jk_web.specs.declared.reply.Reply.{Reply}
use Rattle.jk_web.specs.declared.request.Request.{Request}
use Rattle.jk_web.specs.Fields.{closes}
use Rattle.jk_web.specs.Heads.{IsWhole, IsBad, IsQuiet, request_of}
use Rattle.jk_math.specs.Front.{IsFront}
use Rattle.jk_web.specs.Replies.{bad_reply}
use Rattle.jk_web.specs.Sessions.{TakesRequest}
use Rattle.jk_web.specs.Unread.{Unread, bad}
use Rattle.jk_web.specs.Serving.{Answered, nothing, one_more, IsClosedText, IsBadText, IsCutText, IsRefusedText, HasRequests, TellsEnd, EndsConnection}
use Rattle.jk_math.proofs.Laws.{appends_join}
use Rattle.jk_web.proofs.KnownLaws.{consumes_join}

-- A head has a byte.
head_some : (h : RequestHead) → IsRequestHead h → 0 < length (print_request h)
head_some h valid =
    omega (
      arith,
      ap length (append-nil (print_request h)),
      ap length (print_request-append h []),
      length-append (print_blank h.blank) (h.method ++ 32 ∷ (h.target ++ 32 ∷ (print_version h.minor ++ (print_end h.line_end ++ (print_section h.fields h.last ++ []))))),
      length-append h.method (32 ∷ (h.target ++ 32 ∷ (print_version h.minor ++ (print_end h.line_end ++ (print_section h.fields h.last ++ []))))),
    )

-- a head
first_head : RequestHead
first_head = record { blank = []; method = 65 ∷ []; target = 47 ∷ []; minor = 1; line_end = lf; fields = []; last = lf }

first_valid : IsRequestHead first_head
unfolding first_head
first_valid = record {
  method = (omega arith, All-cons (λ v. is_token_byte v ≡ true) 65 [] letter_is_token (All-nil _));
  target = (omega arith, All-cons (λ v. is_uri_byte v ≡ true) 47 [] refl (All-nil _));
  target_text = IsUtf8-from_ascii _ (IsAscii-cons 47 [] (omega arith) IsAscii-nil);
  minor = omega arith;
  fields = All-nil IsField;
}

-- A whole head takes bytes.
pub whole_less : (rest tail : List ℕ) (h : RequestHead) → IsWhole rest h tail → length tail < length rest
whole_less rest tail h w = omega (arith, head_some h w.reads.0, ap length w.reads.1, length-append (print_request h) tail)

-- A request takes bytes.
pub takes_less : (old new : Unread) (q : Request) → TakesRequest old new q → length new.rest < length old.rest
takes_less old new q k = whole_less old.rest new.rest k.head k.whole

module _ {S : Type 0} (gives : S → Request → Reply → S → Type 0) (refuses : S → Request → Fault → S → Type 0) where
  -- the reply to the head is that to the request that was made of it
  given_head : (old new : Unread) (t u : S) (q : Request) (reply : Reply) (k : TakesRequest old new q) → gives t q reply u → gives t (request_of k.head) reply u
  given_head old new t u q reply k g = subst (λ (r : Request). gives t r reply u) k.asks g

  pub go_on : (a b c : Option (List ℕ)) (s t u : S) (stream text sent : List ℕ) (old new : Unread) (q : Request) (reply : Reply)
      → Appends a b text → Appends b c sent → sent ≡ reply.bytes → Answered gives s stream text old.rest t → TakesRequest old new q → gives t q reply u
      → q.closes ≡ false → (x : List ℕ) × Appends a c x × Answered gives s stream x new.rest u
  go_on a b c s t u stream text sent old new q reply before now same answered k g keeps = (
    text ++ reply.bytes,
    appends_join a b c text reply.bytes before (subst (Appends b c) same now),
    one_more text old.rest t k.head new.rest reply u answered k.whole k.good
        (sym (ap (λ (r : Request). r.closes) k.asks) ∙ keeps) (given_head old new t u q reply k g),
  )

  pub close_here : (a b c : Option (List ℕ)) (s t u : S) (stream text sent : List ℕ) (old new : Unread) (q : Request) (reply : Reply)
      → Appends a b text → Appends b c sent → sent ≡ reply.bytes → Answered gives s stream text old.rest t → TakesRequest old new q → gives t q reply u
      → q.closes ≡ true → (x : List ℕ) × Appends a c x × IsClosedText gives s stream x u
  close_here a b c s t u stream text sent old new q reply before now same answered k g closing = (
    text ++ reply.bytes,
    appends_join a b c text reply.bytes before (subst (Appends b c) same now),
    record {
      before = text;
      rest = old.rest;
      state = t;
      answered = answered;
      head = k.head;
      tail = new.rest;
      whole = k.whole;
      good = k.good;
      last = sym (ap (λ (r : Request). r.closes) k.asks) ∙ closing;
      reply = reply;
      given = given_head old new t u q reply k g;
      ends = refl;
    },
  )

  left_unless : (closing : Bool) (rest : List ℕ) → HasRequests rest → IfSome (if closing then None else Some rest) HasRequests
  left_unless true rest k = tt
  left_unless false rest k = k

  pub cut_here : (a b c : Option (List ℕ)) (s t u : S) (stream text sent : List ℕ) (old new : Unread) (q : Request) (reply : Reply)
      → Appends a b text → ((part : List ℕ) × Appends b c part × IsFront part sent) → sent ≡ reply.bytes
      → Answered gives s stream text old.rest t → TakesRequest old new q → gives t q reply u → HasRequests new.rest
      → (x : List ℕ) × Appends a c x × IsCutText gives s stream x u
  cut_here a b c s t u stream text sent old new q reply before some same answered k g more = (
    text ++ some.0,
    appends_join a b c text some.0 before some.1,
    record {
      before = text;
      rest = old.rest;
      state = t;
      answered = answered;
      reply = reply;
      left = if closes k.head then None else Some new.rest;
      due = inl (k.head, new.rest, k.whole, k.good, given_head old new t u q reply k g, refl);
      whole = left_unless (closes k.head) new.rest more;
      part = some.0;
      cut = subst (IsFront some.0) same some.2;
      ends = refl;
    },
  )

  pub bad_here : (a b c : Option (List ℕ)) (s t : S) (stream text sent rest : List ℕ) (status : ℕ) (reply : Reply)
      → Appends a b text → Appends b c sent → sent ≡ reply.bytes → Answered gives s stream text rest t → IsBad rest status → reply ≡ bad_reply status
      → (x : List ℕ) × Appends a c x × IsBadText gives s stream x t
  bad_here a b c s t stream text sent rest status reply before now same answered wrong due = (
    text ++ sent,
    appends_join a b c text sent before now,
    record {
      before = text;
      rest = rest;
      answered = answered;
      status = status;
      bad = wrong;
      ends = ap (λ (v : List ℕ). text ++ v) (same ∙ ap (λ (r : Reply). r.bytes) due);
    },
  )

  pub cut_bad : (a b c : Option (List ℕ)) (s t : S) (stream text sent rest : List ℕ) (status : ℕ) (reply : Reply)
      → Appends a b text → ((part : List ℕ) × Appends b c part × IsFront part sent) → sent ≡ reply.bytes
      → Answered gives s stream text rest t → IsBad rest status → reply ≡ bad_reply status
      → (x : List ℕ) × Appends a c x × IsCutText gives s stream x t
  cut_bad a b c s t stream text sent rest status reply before some same answered wrong due = (
    text ++ some.0,
    appends_join a b c text some.0 before some.1,
    record {
      before = text;
      rest = rest;
      state = t;
      answered = answered;
      reply = reply;
      left = None;
      due = inr (status, wrong, due, refl, refl);
      whole = tt;
      part = some.0;
      cut = subst (IsFront some.0) same some.2;
      ends = refl;
    },
  )

  pub refuse_here : (s t u : S) (stream text : List ℕ) (old new : Unread) (q : Request) (e : Fault) → Answered gives s stream text old.rest t
      → TakesRequest old new q → refuses t q e u → IsRefusedText gives refuses s stream text e u
  refuse_here s t u stream text old new q e answered k r = record {
    rest = old.rest;
    state = t;
    answered = answered;
    cause = inr (k.head, new.rest, k.whole, k.good, subst (λ (p : Request). refuses t p e u) k.asks r);
  }

  -- ---- one more piece

  whole_append : (rest tail more : List ℕ) (h : RequestHead) → IsWhole rest h tail → IsWhole (rest ++ more) h (tail ++ more)
  whole_append rest tail more h w = record { reads = ReadsRequest-append rest h tail more w.reads; short = w.short }

  pub answered_append : (s : S) (stream more text rest : List ℕ) (t : S) → Answered gives s stream text rest t
      → Answered gives s (stream ++ more) text (rest ++ more) t
  answered_append s stream more _ _ _ nothing = nothing
  answered_append s stream more _ _ _ (one_more text rest t h tail reply u a w good keeps g) =
      one_more text (rest ++ more) t h (tail ++ more) reply u (answered_append s stream more text rest t a) (whole_append rest tail more h w) good keeps g

  pub answered_join : (s : S) (stream text rest : List ℕ) (t : S) (text2 rest2 : List ℕ) (u : S) → Answered gives s stream text rest t
      → Answered gives t rest text2 rest2 u → Answered gives s stream (text ++ text2) rest2 u
  answered_join s stream text rest t _ _ _ a nothing =
      subst (λ (v : List ℕ). Answered gives s stream v rest t) (sym (append-nil text)) a
  answered_join s stream text rest t _ _ _ a (one_more text2 rest2 v h tail reply u b w good keeps g) =
      subst (λ (x : List ℕ). Answered gives s stream x tail u) (append_assoc text text2 reply.bytes)
      (one_more (text ++ text2) rest2 v h tail reply u (answered_join s stream text rest t text2 rest2 v a b) w good keeps g)

  -- what a piece adds
  pub advance : (a b c : Option (List ℕ)) (s : S) (stream text piece : List ℕ) (t : S) (old new : Unread) → Consumes a b stream → Consumes b c piece
      → Answered gives s stream text old.rest t → new ≡ record old { rest = old.rest ++ piece }
      → Consumes a c (stream ++ piece) × Answered gives s (stream ++ piece) text new.rest t
  advance a b c s stream text piece t old new p q answered fed = (
    consumes_join a b c stream piece p q,
    subst (λ (r : List ℕ). Answered gives s (stream ++ piece) text r t) (sym (ap (λ (w : Unread). w.rest) fed))
        (answered_append s stream piece text old.rest t answered),
  )

  -- what ended behind requests that were answered before
  pub ends_behind : (s : S) (stream text rest : List ℕ) (t : S) (text2 : List ℕ) (new : Unread) (u : S) (over spent : Type 0) (e : End)
      → Answered gives s stream text rest t → TellsEnd gives refuses t rest text2 new u (Ok (Some e))
      → EndsConnection gives refuses s stream (text ++ text2) over spent u (Ok e)
  ends_behind s stream text rest t text2 new u over spent Closed a k =
      inr record {
        before = text ++ k.before;
        rest = k.rest;
        state = k.state;
        answered = answered_join s stream text rest t k.before k.rest k.state a k.answered;
        head = k.head;
        tail = k.tail;
        whole = k.whole;
        good = k.good;
        last = k.last;
        reply = k.reply;
        given = k.given;
        ends = ap (λ (v : List ℕ). text ++ v) k.ends ∙ sym (append_assoc text k.before k.reply.bytes);
      }
  ends_behind s stream text rest t text2 new u over spent Bad a k =
      record {
        before = text ++ k.before;
        rest = k.rest;
        answered = answered_join s stream text rest t k.before k.rest u a k.answered;
        status = k.status;
        bad = k.bad;
        ends = ap (λ (v : List ℕ). text ++ v) k.ends ∙ sym (append_assoc text k.before (bad_reply k.status).bytes);
      }
  ends_behind s stream text rest t text2 new u over spent WriteFailed a k =
      record {
        before = text ++ k.before;
        rest = k.rest;
        state = k.state;
        answered = answered_join s stream text rest t k.before k.rest k.state a k.answered;
        reply = k.reply;
        left = k.left;
        due = k.due;
        whole = k.whole;
        part = k.part;
        cut = k.cut;
        ends = ap (λ (v : List ℕ). text ++ v) k.ends ∙ sym (append_assoc text k.before k.part);
      }
  ends_behind s stream text rest t text2 new u over spent ReadFailed a k = absurd k
  ends_behind s stream text rest t text2 new u over spent TurnsSpent a k = absurd k

  -- the same where an answer or memory was refused
  pub refused_behind : (s : S) (stream text rest : List ℕ) (t : S) (text2 : List ℕ) (e : Fault) (u : S)
      → Answered gives s stream text rest t → IsRefusedText gives refuses t rest text2 e u
      → IsRefusedText gives refuses s stream (text ++ text2) e u
  refused_behind s stream text rest t text2 e u a k = record {
    rest = k.rest;
    state = k.state;
    answered = answered_join s stream text rest t text2 k.rest k.state a k.answered;
    cause = k.cause;
  }

-- what is bad in a session that goes on
pub bad_rest : (old : Unread) (status : ℕ) → old.stuck ≡ None → (old.stuck ≡ Some (bad status)) ⊎ ((old.stuck ≡ None) × IsBad old.rest status) → IsBad old.rest status
bad_rest old status running (inl e) = absurd (cc)
bad_rest old status running (inr e) = e.1

-- Before the first byte a head may come.
pub quiet_nothing : IsQuiet []
quiet_nothing = record {
  short = omega arith;
  none = λ h rest r. omega (arith, head_some h r.0, ap length r.1, length-append (print_request h) rest);
  unfinished = inl (inl (print_request first_head, first_head, (first_valid, sym (append-nil (print_request first_head)))));
}
