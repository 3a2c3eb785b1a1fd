-- Replies to items, one each, and a tenant's own requests among them: this project's own words, on which the headline rests.
use Rattle.std.specs.Prelude.{◌≡◌, ℕ, List, [], ◌∷◌, length, Option, Some, None, Bool, false, not, ◌&&◌, nat_le, nat_eq, if◌then◌else◌}
use Rattle.wire_frames.specs.Requests.{key_of}
use Rattle.wire_frames.specs.Replies.{reply}
use Rattle.std.specs.Cmp.Lexicographic.{pointwise}
use Rattle.tenant_map.specs.Tenancy.{Tenancy}
use Rattle.request_replies.specs.Tenants.{Step}
use Rattle.request_replies.specs.Answers.{is_no_memory}
use Rattle.path_hub.specs.Items.{Item}

-- a reply and its connection
pub record Sent : Type 0 where
  pub conn : ℕ
  pub frame : List ℕ

abbrev pub StepItem : Tenancy → Option (List ℕ) → List ℕ → Tenancy → Type 0
StepItem old (Some body) frame new = Step old body frame new
StepItem old None frame new = (frame ≡ reply 255 0 []) × (new ≡ old)

-- from the first tenants these replies to these items lead to the last
abbrev pub Run : Tenancy → List Item → List Sent → Tenancy → Type 0
Run old [] [] new = new ≡ old
Run old (i ∷ is) (t ∷ ts) new = (mid : Tenancy) × (t.conn ≡ i.conn) × StepItem old i.body t.frame mid × Run mid is ts new
Run old [] (t ∷ ts) new = ⊥
Run old (i ∷ is) [] new = ⊥

-- equal bytes
abbrev pub same : List ℕ → List ℕ → Bool
same = pointwise nat_eq

-- a request of that tenant that memory sufficed for
abbrev pub is_own : List ℕ → Option (List ℕ) → List ℕ → Bool
is_own key None frame = false
is_own key (Some body) frame = nat_le 21 (length body) && same key (key_of body) && not (is_no_memory frame)

abbrev pub body_in : Option (List ℕ) → List ℕ
body_in None = []
body_in (Some body) = body

-- the tenant's own requests, and the replies to them
abbrev pub own_requests : List ℕ → List Item → List Sent → List (List ℕ)
own_requests key [] ts = []
own_requests key (i ∷ is) [] = []
own_requests key (i ∷ is) (t ∷ ts) = if is_own key i.body t.frame then body_in i.body ∷ own_requests key is ts else own_requests key is ts

abbrev pub own_replies : List ℕ → List Item → List Sent → List (List ℕ)
own_replies key [] ts = []
own_replies key (i ∷ is) [] = []
own_replies key (i ∷ is) (t ∷ ts) = if is_own key i.body t.frame then t.frame ∷ own_replies key is ts else own_replies key is ts
