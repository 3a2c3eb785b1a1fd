-- What was asked is what was answered.
use Rattle.std.proofs.Common.{◌≡◌, ℕ, List, [], ◌++◌, Bool, Option, Some, None, sym, ap, ◌∙◌, subst, drop, length}
use Rattle.std.proofs.Math.Seq.{drop-append_seam}
use Rattle.std.specs.Option.{option_map_or}
use Rattle.wire_frames.specs.Frames.{front}
use Rattle.wire_frames.specs.Framing.{Framing}
use Rattle.outbox.specs.Appends.{Appends, RepliesTo}
use Rattle.outbox.specs.declared.answers.Step.{Step}
use Rattle.path_hub.specs.HubState.{HubState}
use Rattle.path_hub.specs.Pending.{Takes}
use Rattle.connection_turns.specs.declared.answered.RequestKind.{RequestKind}
use Rattle.hub_core.specs.Asking.{asks}
use Rattle.hub_core.specs.InFront.{waiting_on}
use Rattle.hub_core.specs.Replies.{body_at}
use Rattle.hub_core.specs.Answering as listen
use Rattle.admin_pages.specs.declared.counted.Metrics.{Metrics}
use Rattle.admin_pages.specs.declared.counted.Served.{Served}
use Rattle.admin_pages.specs.Counting.{after_request}
use Rattle.hub_server.specs.Measuring.{Measured, Counts, Answers, IsIdle, served, is_over}

next_is : (f g : Framing) (body : Option (List ℕ)) → Takes f body g → body_at (front f.waiting) ≡ body
next_is f g (Some body) t = ap body_at t.2
next_is f g None t = ap body_at t.2

next_asked : (conn : ℕ) (old new : HubState) (reply : List ℕ) (a : listen.Answers conn old reply new) → body_at (front (waiting_on conn old)) ≡ a.body
next_asked conn old new reply a =
    ap (λ (f : Option Framing). body_at (front (option_map_or (λ g. g.waiting) f []))) a.was ∙ next_is a.framing a.left a.body a.takes_off

-- the hub's reply, behind what there was, and its count
pub counted_reply : (last : Bool) (conn : ℕ) (old mid new : Measured) (before after part : List ℕ) (n : ℕ) (asked : RequestKind) → n ≡ length before → part ≡ drop n after → mid.metrics ≡ old.metrics → asked ≡ asks old.hub.tenants (body_at (front (waiting_on conn old.hub))) →
    RepliesTo last (listen.Answers conn) (listen.is_over conn) (λ bytes reply. bytes ++ reply) old.hub before after mid.hub → Counts asked part mid new →
    RepliesTo last (Answers conn) (is_over conn) (λ bytes reply. bytes ++ reply) old before after new
counted_reply last conn old mid new before after part n asked long behind stay same r k =
    let reply : List ℕ = r.0 in
    let a : listen.Answers conn old.hub reply mid.hub = r.2 in
    let b : listen.Answers conn old.hub reply new.hub = subst (λ (h : HubState). listen.Answers conn old.hub reply h) (sym k.hub_stays) a in
    let cut : part ≡ reply = behind ∙ ap (λ (m : ℕ). drop m after) long ∙ ap (λ (xs : List ℕ). drop (length before) xs) r.1 ∙ drop-append_seam before reply in
    let told : asked ≡ asks old.hub.tenants b.body = same ∙ ap (λ (x : Option (List ℕ)). asks old.hub.tenants x) (next_asked conn old.hub new.hub reply b) in (
      reply,
      r.1,
      record {
        answers = b;
        micros = k.micros;
        units = k.units;
        bound = k.bound;
        counted = k.counted
            ∙ ap (λ (m : Metrics). after_request m (served asked part k.micros k.units k.bound)) stay
            ∙ ap (λ (x : RequestKind). after_request old.metrics (served x part k.micros k.units k.bound)) told
            ∙ ap (λ (xs : List ℕ). after_request old.metrics (served (asks old.hub.tenants b.body) xs k.micros k.units k.bound)) cut;
      },
      ap (listen.is_over conn) k.hub_stays ∙ r.3,
    )

pub counted_once : (old mid : Measured) (metrics : Metrics) (asked : RequestKind) (reply : List ℕ) (micros units : ℕ) (bound : Option ℕ) (s : Served) → mid ≡ old →
    s ≡ served asked reply micros units bound → metrics ≡ after_request mid.metrics s → Counts asked reply old (record { hub = mid.hub; metrics = metrics })
counted_once old mid metrics asked reply micros units bound s same is e = record {
  micros = micros;
  units = units;
  bound = bound;
  hub_stays = ap (λ (m : Measured). m.hub) same;
  counted = e ∙ ap (after_request mid.metrics) is ∙ ap (λ (m : Measured). after_request m.metrics (served asked reply micros units bound)) same;
}

-- a step that is told with its time, or counted too, ended as it did
pub appended : (step step' : Step) (conn : ℕ) (old new : Measured) (before after : List ℕ) → step' ≡ step → Appends (Answers conn) (IsIdle conn) (is_over conn) step old before after new → Appends (Answers conn) (IsIdle conn) (is_over conn) step' old before after new
appended step step' conn old new before after e h = subst (λ (s : Step). Appends (Answers conn) (IsIdle conn) (is_over conn) s old before after new) (sym e) h

pub hub_appended : (step step' : Step) (conn : ℕ) (old new : HubState) (before after : List ℕ) → step ≡ step' → Appends (listen.Answers conn) (listen.IsIdle conn) (listen.is_over conn) step old before after new → Appends (listen.Answers conn) (listen.IsIdle conn) (listen.is_over conn) step' old before after new
hub_appended step step' conn old new before after e h = subst (λ (s : Step). Appends (listen.Answers conn) (listen.IsIdle conn) (listen.is_over conn) s old before after new) e h
