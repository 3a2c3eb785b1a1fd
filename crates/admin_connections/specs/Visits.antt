-- One request of the administration address and its reply: this project's own.
use Rattle.std.specs.Prelude.{◌≡◌, ◌⊎◌, ℕ, ◌≤◌, List, [], ◌++◌, length, drop, Bool, true, false, Option, Some, None, MatchOption, Box, box_value}
use Rattle.std.specs.Bool.{MatchBool}
use Rattle.httparse.specs.Grammar.{ReadsRequest, RequestHead}
use Rattle.admin_pages.specs.declared.about.About.{About}
use Rattle.admin_pages.specs.declared.counted.Metrics.{Metrics}
use Rattle.admin_pages.specs.declared.page.Gauges.{Gauges}
use Rattle.admin_pages.specs.declared.page.Page.{Page}
use Rattle.admin_pages.specs.declared.heads.Reading.{Reading}
use Rattle.admin_pages.specs.declared.heads.Reading.TheVariants as reading
use Rattle.admin_pages.specs.declared.replies.Reply.{Reply}
use Rattle.admin_pages.specs.declared.replies.Reply.TheVariants as reply
use Rattle.admin_pages.specs.declared.routes.AdminRequest.{AdminRequest}
use Rattle.admin_pages.specs.declared.standing.Standing.{Standing}
use Rattle.admin_pages.specs.Heads.{judged}
use Rattle.admin_pages.specs.Hosts.{texts}
use Rattle.admin_pages.specs.Pages.{left, page}
use Rattle.admin_pages.specs.Replies.{body_of, reply_text}
use Rattle.admin_pages.specs.Standings.{after_asked, reply_to}
use Rattle.admin_connections.specs.declared.visit.Stage.{Stage}
use Rattle.admin_connections.specs.declared.visit.Stage.TheVariants as stage
use Rattle.admin_connections.specs.declared.visit.Visit.{Visit}

-- the bytes of the reply that the peer is still to take
abbrev pub owed_of : Visit → List ℕ
owed_of v = drop v.taken v.reply.items

-- nothing came, and nothing is owed
pub record IsFresh (v : Visit) : Type 0 where
  pub stage_is : v.stage ≡ stage.Head
  pub unheard : v.head.items ≡ []
  pub unanswered : v.reply.items ≡ []

abbrev pub is_head : Stage → Bool
is_head stage.Head = true
is_head stage.Figures = false
is_head stage.Lines = false
is_head stage.Reply = false
is_head stage.Done = false

abbrev pub is_page : Reply → Bool
is_page reply.Healthy = false
is_page reply.Ready = false
is_page reply.NotReady = false
is_page reply.Noted = false
is_page reply.Metrics = true
is_page reply.Draining = false
is_page (reply.Refused why) = false

-- what was said, behind what came, and the reply to it
abbrev pub after_reading : Standing → Reading → Standing
after_reading s reading.Part = s
after_reading s (reading.Asked it) = after_asked s it
after_reading s (reading.Refused why) = s

abbrev pub replied : Standing → Reading → Option Reply
replied s reading.Part = None
replied s (reading.Asked it) = Some (reply_to s it)
replied s (reading.Refused why) = Some (reply.Refused why)

-- the names that a server was given
abbrev pub hosts_of : About → List (List ℕ)
hosts_of about = texts about.hosts.items

-- bytes that begin with a request are read as what it asks of a server that was given these names
abbrev pub IsReadAs : (own : List (List ℕ)) → List ℕ → Reading → Type 0
IsReadAs own bytes r = (h : RequestHead) (rest : List ℕ) → ReadsRequest bytes h rest → length h.fields ≤ 64 → r ≡ judged own h

-- a whole reply is owed, or the page is to be begun
abbrev pub Owes : (uptime : ℕ) → Reply → Visit → Visit → Type 0
Owes uptime r old new = MatchBool (is_page r) (new.stage ≡ stage.Figures) ((new.stage ≡ stage.Reply) × (new.reply.items ≡ old.reply.items ++ reply_text r (body_of r uptime)))

-- the bytes so far are read, and answered as they are meant
pub record Reads (own : List (List ℕ)) (uptime : ℕ) (bytes : List ℕ) (old : Visit) (standing : Standing) (new : Visit) (standing' : Standing) : Type 0 where
  pub is : Reading
  pub read_as : IsReadAs own bytes is
  pub said : standing' ≡ after_reading standing is
  pub owed : MatchOption (replied standing is) (new.stage ≡ stage.Head) (λ r. Owes uptime r old new)

-- a piece counts only while the request is not whole
abbrev pub Hears : (own : List (List ℕ)) → (uptime : ℕ) → Visit → Standing → (piece : List ℕ) → Visit → Standing → Type 0
Hears own uptime old standing piece new standing' = MatchBool (is_head old.stage) (Reads own uptime (old.head.items ++ piece) old standing new standing') ((new ≡ old) × (standing' ≡ standing))

-- nothing is said, or what the bytes ask
abbrev pub AtMostSays : (own : List (List ℕ)) → List ℕ → Standing → Standing → Type 0
AtMostSays own bytes old new = (new ≡ old) ⊎ ((it : AdminRequest) × IsReadAs own bytes (reading.Asked it) × (new ≡ after_asked old it))

-- what is not written of a page
abbrev pub page_left : {A : Type 0} → About → Option (Box Page A) → List ℕ
page_left a None = []
page_left a (Some p) = left a (box_value p)

pub record Begins (a : About) (m : Metrics) (g : Gauges) (old new : Visit) : Type 0 where
  pub stage_is : new.stage ≡ stage.Lines
  pub page_is : page_left a new.page ≡ page a m g
  pub lines_stay : new.lines ≡ old.lines
  pub reply_stays : new.reply ≡ old.reply

-- some lines more are written, of the page that it was
pub record Writes (a : About) (old new : Visit) : Type 0 where
  pub lines_are : new.lines.items ++ page_left a new.page ≡ old.lines.items ++ page_left a old.page
  pub stage_stays : new.stage ≡ old.stage
  pub reply_stays : new.reply ≡ old.reply

-- all of it is written, and owed as a reply
pub record Finishes (a : About) (old new : Visit) : Type 0 where
  pub stage_is : new.stage ≡ stage.Reply
  pub reply_is : new.reply.items ≡ old.reply.items ++ reply_text reply.Metrics (old.lines.items ++ page_left a old.page)

abbrev pub GoesOn : About → Visit → Visit → Type 0
GoesOn a old new = MatchOption old.page (new ≡ old) (λ p. Writes a old new ⊎ Finishes a old new)
