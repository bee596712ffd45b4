-- The requests of a rest, one behind another, and the texts that are due to them.
use Rattle.std.proofs.Common.{◌≡◌, ℕ, ◌+◌, ◌-◌, ◌<◌, ◌⊎◌, inl, inr, Bool, true, false, if◌then◌else◌, List, [], ◌++◌, length, take, drop, Option, None, Some, IfSome, refl, sym, ap, ◌∙◌, subst, append_assoc, append-nil, arith}
use Rattle.std.proofs.lemmas.List.{drop-drop, take_all, length-drop}
use Rattle.httparse.specs.Grammar.{RequestHead}
use Rattle.jk_math.specs.Front.{IsFront}
use Rattle.jk_web.specs.declared.head.Head.{Head}
use Rattle.jk_web.specs.declared.reply.Reply.{Reply}
use Rattle.jk_web.specs.declared.request.Request.{Request}
use Rattle.jk_web.specs.Fields.{closes}
use Rattle.jk_web.specs.Heads.{IsWhole, IsGood, IsQuiet, IsBad, request_of}
use Rattle.jk_web.specs.Judging.{IsHeadAt}
use Rattle.jk_web.specs.Replies.{bad_reply}
use Rattle.jk_web.specs.Serving.{Requests, no_request, another, HasRequests, Answered, one_more, IsWholeText, BeginsText, IsDue, IsCutText}
use Rattle.jk_web.proofs.ServingLaws.{whole_less}

-- ---- the requests of a rest

-- what is left from a place on
pub tail_is : (rest : List ℕ) (start : ℕ) → take (length rest - start) (drop start rest) ≡ drop start rest
tail_is rest start = take_all (length rest - start) (drop start rest) (omega (arith, length-drop start rest))

pub all_quiet : (rest : List ℕ) (start : ℕ) → Requests rest (drop start rest) → IsQuiet (drop start rest) → HasRequests rest
all_quiet rest start k quiet = record { last = drop start rest; requests = k; ends = inl quiet }

pub all_closing : (rest : List ℕ) (start : ℕ) (head : Head) → Requests rest (drop start rest) → IsHeadAt (drop start rest) head → head.closes ≡ true
    → HasRequests rest
all_closing rest start head k at closing = record {
  last = drop start rest;
  requests = k;
  ends = inr (inl (at.tree, drop head.length (drop start rest), at.whole, at.good, sym at.close ∙ closing));
}

pub all_bad : (rest : List ℕ) (start status : ℕ) → Requests rest (drop start rest) → IsBad (drop start rest) status → HasRequests rest
all_bad rest start status k wrong = record { last = drop start rest; requests = k; ends = inr (inr (status, wrong)) }

pub one_further : (rest : List ℕ) (start : ℕ) (head : Head) → Requests rest (drop start rest) → IsHeadAt (drop start rest) head → head.closes ≡ false
    → Requests rest (drop (start + head.length) rest)
one_further rest start head k at open_still =
    subst (Requests rest) (drop-drop head.length start rest)
    (another (drop start rest) at.tree (drop head.length (drop start rest)) k at.whole at.good (sym at.close ∙ open_still))

pub further_less : (rest : List ℕ) (start : ℕ) (head : Head) → IsHeadAt (drop start rest) head
    → length (drop (start + head.length) rest) < length (drop start rest)
further_less rest start head at =
    subst (λ (v : List ℕ). length v < length (drop start rest)) (drop-drop head.length start rest)
    (whole_less (drop start rest) (drop head.length (drop start rest)) at.tree at.whole)

-- ---- fronts of texts

front_within : (text before part whole : List ℕ) → text ≡ before ++ part → IsFront part whole → IsFront text (before ++ whole)
front_within text before part whole e cut = record {
  more = cut.more;
  text = ap (λ (v : List ℕ). before ++ v) cut.text ∙ sym (append_assoc before part cut.more) ∙ ap (λ (v : List ℕ). v ++ cut.more) (sym e);
}

front_longer : (text whole more : List ℕ) → IsFront text whole → IsFront text (whole ++ more)
front_longer text whole more front = record {
  more = front.more ++ more;
  text = ap (λ (v : List ℕ). v ++ more) front.text ∙ append_assoc text front.more more;
}

-- ---- the texts that are due to them, where each request has a reply

module _ {S : Type 0} (gives : S → Request → Reply → S → Type 0)
    (total : (s : S) (q : Request) → (r : Reply) × (t : S) × gives s q r t) where
  -- replies to requests that don't close
  answered_on : (s : S) (stream text rest : List ℕ) (t : S) (last : List ℕ) → Answered gives s stream text rest t → Requests rest last
      → (more : List ℕ) × (u : S) × Answered gives s stream (text ++ more) last u
  answered_on s stream text rest t _ a no_request =
      ([], t, subst (λ (v : List ℕ). Answered gives s stream v rest t) (sym (append-nil text)) a)
  answered_on s stream text rest t _ a (another middle h tail k w good keeps) =
      let before = answered_on s stream text rest t middle a k in
      let now = total before.1 (request_of h) in (
        before.0 ++ now.0.bytes,
        now.1,
        subst (λ (v : List ℕ). Answered gives s stream v tail now.1) (append_assoc text before.0 now.0.bytes)
            (one_more (text ++ before.0) middle before.1 h tail now.0 now.1 before.2 w good keeps now.2),
      )

  -- and what is due behind them
  ended : (s : S) (stream text last : List ℕ) (t : S) → Answered gives s stream text last t
      → IsQuiet last ⊎ ((h : RequestHead) × (tail : List ℕ) × IsWhole last h tail × IsGood h × (closes h ≡ true)) ⊎ ((status : ℕ) × IsBad last status)
      → (more : List ℕ) × (u : S) × IsWholeText gives s stream (text ++ more) u
  ended s stream text last t a (inl quiet) =
      ([], t, inl record { rest = last; answered = subst (λ (v : List ℕ). Answered gives s stream v last t) (sym (append-nil text)) a; quiet = quiet })
  ended s stream text last t a (inr (inl k)) =
      let now = total t (request_of k.0) in (
        now.0.bytes,
        now.1,
        inr (inl record {
          before = text;
          rest = last;
          state = t;
          answered = a;
          head = k.0;
          tail = k.1;
          whole = k.2;
          good = k.3;
          last = k.4;
          reply = now.0;
          given = now.2;
          ends = refl;
        }),
      )
  ended s stream text last t a (inr (inr k)) =
      ((bad_reply k.0).bytes, t, inr (inr record { before = text; rest = last; answered = a; status = k.0; bad = k.1; ends = refl }))

  whole_on : (s : S) (stream text rest : List ℕ) (t : S) → Answered gives s stream text rest t → HasRequests rest
      → (more : List ℕ) × (u : S) × IsWholeText gives s stream (text ++ more) u
  whole_on s stream text rest t a k =
      let on = answered_on s stream text rest t k.last a k.requests in
      let end = ended s stream (text ++ on.0) k.last on.1 on.2 k.ends in (
        on.0 ++ end.0,
        end.1,
        subst (λ (v : List ℕ). IsWholeText gives s stream v end.1) (append_assoc text on.0 end.0) end.2,
      )

  -- a reply that closes, or doesn't
  begins_by : (closing : Bool) (s : S) (stream text before rest : List ℕ) (state : S) (h : RequestHead) (tail : List ℕ) (reply : Reply) (t : S)
      → closes h ≡ closing → Answered gives s stream before rest state → IsWhole rest h tail → IsGood h → gives state (request_of h) reply t
      → IfSome (if closing then None else Some tail) HasRequests → IsFront text (before ++ reply.bytes) → BeginsText gives s stream text
  begins_by true s stream text before rest state h tail reply t is a w good g k front = record {
    all = before ++ reply.bytes;
    state = t;
    whole = inr (inl record {
      before = before;
      rest = rest;
      state = state;
      answered = a;
      head = h;
      tail = tail;
      whole = w;
      good = good;
      last = is;
      reply = reply;
      given = g;
      ends = refl;
    });
    front = front;
  }
  begins_by false s stream text before rest state h tail reply t is a w good g k front =
      let on = whole_on s stream (before ++ reply.bytes) tail t (one_more before rest state h tail reply t a w good is g) k in
      record { all = (before ++ reply.bytes) ++ on.0; state = on.1; whole = on.2; front = front_longer text (before ++ reply.bytes) on.0 front }

  begins_due : (s : S) (stream text before rest : List ℕ) (state : S) (reply : Reply) (t : S) (left : Option (List ℕ))
      → Answered gives s stream before rest state → IsDue gives state rest reply t left → IfSome left HasRequests
      → IsFront text (before ++ reply.bytes) → BeginsText gives s stream text
  begins_due s stream text before rest state reply t left a (inl d) k front =
      begins_by (closes d.0) s stream text before rest state d.0 d.1 reply t refl a d.2 d.3 d.4
      (subst (λ (o : Option (List ℕ)). IfSome o HasRequests) d.5 k) front
  begins_due s stream text before rest state reply t left a (inr d) k front = record {
    all = before ++ reply.bytes;
    state = state;
    whole = inr (inr record {
      before = before;
      rest = rest;
      answered = a;
      status = d.0;
      bad = d.1;
      ends = ap (λ (r : Reply). before ++ r.bytes) d.2;
    });
    front = front;
  }

  -- A text that was cut off is the beginning of a whole one.
  pub begins_text : (s : S) (stream text : List ℕ) (t : S) → IsCutText gives s stream text t → BeginsText gives s stream text
  begins_text s stream text t k =
      begins_due s stream text k.before k.rest k.state k.reply t k.left k.answered k.due k.whole
      (front_within text k.before k.part k.reply.bytes k.ends k.cut)
