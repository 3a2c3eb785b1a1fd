use Rattle.std.proofs.Common.{◌∙◌, decimal, length}
use Rattle.std.specs.Prelude.{codes}
use Rattle.admin_pages.specs.Replies.{reply_text, status_line}
use Rattle.admin_pages.proofs.Texts.{in_a_row_ok}
use Rattle.admin_pages.proofs.replies.append_reply.Goals as goal

pub returns : goal.returns
unfolding reply_text
returns c =
    in_a_row_ok c.extend_from_slice-2.result c.args.out.now.items (codes "HTTP/1.1 ") c.as_bytes.result.now (status_line c.args.reply)
    (codes "Content-Type: text/plain; version=0.0.4; charset=utf-8\r\nContent-Length: ") (decimal (length c.args.body.now))
    (codes "\r\nConnection: close\r\n\r\n") c.args.body.now c.append_all.new.out.items c.append_number.new.out.items
    c.extend_from_slice.new.self.items c.extend_from_slice-2.new.self.items (c.as_bytes.ensures.value ∙ c.status_line.ensures)
    c.in_ok-append_all.ensures c.in_ok-append_number.ensures c.in_ok-extend_from_slice.ensures.items c.extend_from_slice-2.ensures.items
