-- Replies (RFC 9112, sections 4 and 6; RFC 9110, sections 8.3, 8.6, 9.1 and 15).
use Rattle.std.specs.Prelude.{ℕ, Bool, true, ◌&&◌, ◌==◌, nat_lt, nat_le, List, [], ◌∷◌, ◌++◌, length, unwrap_or}
use Rattle.std.specs.Prelude.{if◌then◌else◌, codes}
use Rattle.std.specs.Fmt.{decimal}
use Rattle.http.specs.StatusCode.{reason_phrase}
use Rattle.jk_web.specs.declared.reply.Media.{Media}
use Rattle.jk_web.specs.declared.reply.Media.TheVariants.{Plain, Jp2}
use Rattle.jk_web.specs.declared.reply.Reply.{Reply}

-- the end of a line
abbrev pub end_of_line : List ℕ
end_of_line = 13 ∷ 10 ∷ []

-- a status has three digits
abbrev pub is_status : ℕ → Bool
is_status status = nat_le 100 status && nat_lt status 1000

-- the phrase of a status, empty where none is known
unfoldable pub phrase_of : ℕ → List ℕ
phrase_of status = if is_status status then unwrap_or (reason_phrase status) [] else []

-- the media type of a body (RFC 2046, section 4.1.3; RFC 3745, section 4)
abbrev pub media_text : Media → List ℕ
media_text Plain = codes "text/plain"
media_text Jp2 = codes "image/jp2"

-- what a reply says
pub record Content : Type 0 where
  pub status : ℕ
  pub media : Media
  pub body : List ℕ

abbrev pub status_line : ℕ → List ℕ
status_line status = codes "HTTP/1.1 " ++ (decimal status ++ (32 ∷ (phrase_of status ++ end_of_line)))

abbrev pub field_line : List ℕ → List ℕ → List ℕ
field_line name value = name ++ (codes ": " ++ (value ++ end_of_line))

-- Where the method isn't allowed, the only one that is.
abbrev pub allow_line : ℕ → List ℕ
allow_line status = if status == 405 then field_line (codes "Allow") (codes "GET") else []

-- that the connection closes
abbrev pub close_line : Bool → List ℕ
close_line close = if close then field_line (codes "Connection") (codes "close") else []

-- the reply up to its body
unfoldable pub head_text : ℕ → Media → ℕ → Bool → List ℕ
head_text status media size close =
    status_line status
    ++ (allow_line status
    ++ (field_line (codes "Content-Type") (media_text media)
    ++ (field_line (codes "Content-Length") (decimal size)
    ++ (close_line close ++ end_of_line))))

-- the reply that says this, and whether the connection closes behind it
abbrev pub printed : Content → Bool → Reply
printed c close = record {
  status = c.status;
  close = close;
  bytes = head_text c.status c.media (length c.body) close ++ c.body;
}

-- what is said of a request that isn't answered: its status and phrase
abbrev pub error : ℕ → Content
error status = record {
  status = status;
  media = Plain;
  body = decimal status ++ (32 ∷ (phrase_of status ++ (10 ∷ [])));
}

-- the reply to a bad request
abbrev pub bad_reply : ℕ → Reply
bad_reply status = printed (error status) true
