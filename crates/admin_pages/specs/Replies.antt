-- Replies of HTTP (RFC 9112, section 4; RFC 9110, section 15), each the last of its connection (RFC 9112, section 9.6).
use Rattle.std.specs.Prelude.{ℕ, List, [], ◌++◌, length, codes, decimal}
use Rattle.admin_pages.specs.declared.replies.Reply.{Reply}
use Rattle.admin_pages.specs.declared.replies.Reply.TheVariants.{Healthy, Ready, NotReady, Noted, Metrics, Draining, Refused}
use Rattle.admin_pages.specs.declared.routes.Refusal.{Refusal}
use Rattle.admin_pages.specs.declared.routes.Refusal.TheVariants.{BadRequest, Forbidden, NotFound, GetOnly, PostOnly, GetOrPostOnly, HasBody, HeadTooLarge}

-- what is told so many seconds after the start, unless it is a page
abbrev pub body_of : Reply → (uptime : ℕ) → List ℕ
body_of Healthy uptime = codes "healthy\nuptime_seconds " ++ (decimal uptime ++ codes "\n")
body_of Ready uptime = codes "ready\n"
body_of NotReady uptime = codes "not ready\n"
body_of Noted uptime = codes "ready\n"
body_of Metrics uptime = []
body_of Draining uptime = codes "draining\n"
body_of (Refused why) uptime = []

-- the status and its reason, and behind 405 the methods that are allowed
abbrev pub refusal_line : Refusal → List ℕ
refusal_line BadRequest = codes "400 Bad Request\r\n"
refusal_line Forbidden = codes "403 Forbidden\r\n"
refusal_line NotFound = codes "404 Not Found\r\n"
refusal_line GetOnly = codes "405 Method Not Allowed\r\nAllow: GET\r\n"
refusal_line PostOnly = codes "405 Method Not Allowed\r\nAllow: POST\r\n"
refusal_line GetOrPostOnly = codes "405 Method Not Allowed\r\nAllow: GET, POST\r\n"
refusal_line HasBody = codes "413 Content Too Large\r\n"
refusal_line HeadTooLarge = codes "431 Request Header Fields Too Large\r\n"

abbrev pub status_line : Reply → List ℕ
status_line Healthy = codes "200 OK\r\n"
status_line Ready = codes "200 OK\r\n"
status_line NotReady = codes "503 Service Unavailable\r\n"
status_line Noted = codes "200 OK\r\n"
status_line Metrics = codes "200 OK\r\n"
status_line Draining = codes "202 Accepted\r\n"
status_line (Refused why) = refusal_line why

unfoldable pub reply_text : Reply → (body : List ℕ) → List ℕ
reply_text reply body =
    codes "HTTP/1.1 " ++ (status_line reply ++ (codes "Content-Type: text/plain; version=0.0.4; charset=utf-8\r\nContent-Length: "
    ++ (decimal (length body) ++ (codes "\r\nConnection: close\r\n\r\n" ++ body))))
