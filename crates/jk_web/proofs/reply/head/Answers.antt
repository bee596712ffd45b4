use Rattle.std.proofs.Common.{◌≡◌, ℕ, List, [], ◌++◌, codes, ap, ◌∙◌, append_assoc}
use Rattle.std.specs.Fmt.{decimal}
use Rattle.jk_web.specs.Replies.{status_line, allow_line, field_line, close_line, end_of_line, media_text, head_text}
use Rattle.jk_web.proofs.reply.head.Goals as goal

-- six pieces, one after another
six : (before o1 o2 o3 o4 o5 o6 p1 p2 p3 p4 p5 p6 : List ℕ) → before ≡ [] → o1 ≡ before ++ p1 → o2 ≡ o1 ++ p2 → o3 ≡ o2 ++ p3
    → o4 ≡ o3 ++ p4 → o5 ≡ o4 ++ p5 → o6 ≡ o5 ++ p6 → o6 ≡ p1 ++ (p2 ++ (p3 ++ (p4 ++ (p5 ++ p6))))
six before o1 o2 o3 o4 o5 o6 p1 p2 p3 p4 p5 p6 e0 e1 e2 e3 e4 e5 e6 =
    let all : ((((([] ++ p1) ++ p2) ++ p3) ++ p4) ++ p5) ++ p6 ≡ p1 ++ (p2 ++ (p3 ++ (p4 ++ (p5 ++ p6)))) = simp append_assoc in cc

pub returns : goal.returns
unfolding head_text
returns c =
    six c.in_ok-out.out.items c.put_status.new.out.items c.put_allow.new.out.items c.put_field.new.out.items c.put_field-2.new.out.items
    c.put_close.new.out.items c.extend_from_slice.new.self.items
    (status_line c.args.status) (allow_line c.args.status) (field_line (codes "Content-Type") (media_text c.args.media))
    (field_line (codes "Content-Length") (decimal c.args.size)) (close_line c.args.close) end_of_line
    c.in_ok-out.ensures.items
    c.in_ok-put_status.ensures
    c.in_ok-put_allow.ensures
    (c.in_ok-put_field.ensures ∙ ap (λ (v : List ℕ). c.put_allow.new.out.items ++ field_line (codes "Content-Type") v) c.name.ensures)
    (c.in_ok-put_field-2.ensures
    ∙ ap (λ (v : List ℕ). c.put_field.new.out.items ++ field_line (codes "Content-Length") v) (c.as_str.ensures.value ∙ c.in_ok-to_string.ensures.ok))
    c.in_ok-put_close.ensures
    c.in_ok-extend_from_slice.ensures.items
