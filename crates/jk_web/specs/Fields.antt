-- The fields of a request that a server judges (RFC 9110, sections 5.1 and 7.6.1; RFC 9112, section
-- 6).
use Rattle.std.specs.Prelude.{ℕ, Bool, not, ◌&&◌, ◌||◌, ◌==◌, List, codes}
use Rattle.std.specs.List.{list_any}
use Rattle.std.specs.Str.{bytes_eq, str_eq_ignore_ascii_case}
use Rattle.httparse.specs.Grammar.{Field, RequestHead}
use Rattle.httparse.specs.Spans.{name_and_value}

-- A name and a value, without the white space around it, that say that a body may follow: any
-- transfer coding, or a length other than the text `0`. Names are compared without regard to case.
abbrev pub announces_body : List ℕ × List ℕ → Bool
announces_body f =
    str_eq_ignore_ascii_case f.0 (codes "transfer-encoding")
    || (str_eq_ignore_ascii_case f.0 (codes "content-length") && not (bytes_eq f.1 (codes "0")))

-- A name and a value that say that the connection is to be closed.
abbrev pub asks_close : List ℕ × List ℕ → Bool
asks_close f = str_eq_ignore_ascii_case f.0 (codes "connection") && str_eq_ignore_ascii_case f.1 (codes "close")

-- whether some field of the head announces a body
abbrev pub announces : RequestHead → Bool
announces h = list_any (λ (f : Field). announces_body (name_and_value f)) h.fields

-- whether the connection closes after the reply: in version 1.0, and where a field asks for it
abbrev pub closes : RequestHead → Bool
closes h = (h.minor == 0) || list_any (λ (f : Field). asks_close (name_and_value f)) h.fields
