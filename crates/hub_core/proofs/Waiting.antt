-- What is in front, and what a share of work leaves.
use Rattle.std.proofs.Common.{◌≡◌, ◌≤◌, ℕ, List, length, Bool, false, Option, Some, Result, Ok, Err, ap, ◌∙◌, subst}
use Rattle.std.specs.Prelude.{MatchOption}
use Rattle.std.specs.Option.{option_map_or}
use Rattle.wire_frames.specs.Frames.{front}
use Rattle.wire_frames.specs.declared.parts.Part.{Part}
use Rattle.tenant_map.specs.Tenancy.{Tenancy}
use Rattle.path_hub.specs.declared.tasks.Tasks.{Tasks}
use Rattle.path_hub.specs.UnderWay.{Shares}
use Rattle.path_hub.specs.declared.tasks.Advance.{Advance}
use Rattle.path_hub.specs.declared.tasks.Advance.TheVariants as share
use Rattle.path_hub.specs.HubState.{HubState}
use Rattle.path_hub.specs.Into.{Takes}
use Rattle.path_hub.specs.declared.fault.TakeFault.{TakeFault}
use Rattle.path_hub.specs.declared.fault.TakeFault.TheVariants as fault
use Rattle.hub_core.specs.InFront.{IsAhead, waiting_on}
use Rattle.hub_core.specs.Long.{is_long_to}
use Rattle.hub_core.specs.Needs.{IsNoPart, IsPart, front_of}
use Rattle.hub_core.specs.Replies.{IsMostTo, body_at}
use Rattle.hub_core.specs.Steps.{GoesOn}
use Rattle.hub_core.proofs.Bounds.{to_first}

-- a share of work after which the request waits on
pub goes_on : (s : Advance) (conn : ℕ) (old new : HubState) (tasks left : Tasks) (before after : List ℕ) → s ≡ share.Working → Shares s conn old tasks before new left after → GoesOn conn (record { hub = old; tasks = tasks }) (record { hub = new; tasks = left })
goes_on s conn old new tasks left before after e h =
    let k : Shares share.Working conn old tasks before new left after = subst (λ (x : Advance). Shares x conn old tasks before new left after) e h in record { framing = k.2.0; was = k.2.1; works = k.2.2 }

-- what is told of what is in front
pub told_ahead : (conn : ℕ) (hub : HubState) (t : Tenancy) (bytes : List ℕ) (part : Option Part) (tenant : Option ℕ) (most : ℕ) (waits is_long : Bool)
    → t ≡ hub.tenants → bytes ≡ waiting_on conn hub → MatchOption part (IsNoPart bytes) (IsPart t bytes) → tenant ≡ front_of t bytes → 9 ≤ most → ((body : List ℕ) → body_at (front bytes) ≡ Some body → IsMostTo t body most)
    → is_long ≡ option_map_or (is_long_to t) (body_at (front bytes)) false → IsAhead conn hub (record { waiting = length bytes; part = part; tenant = tenant; most_reply = most; waits = waits; is_long = is_long })
told_ahead conn hub t bytes part tenant most waits is_long e b p n l m g = record {
  waiting = ap (λ (xs : List ℕ). length xs) b;
  part = subst (λ (x : Tenancy). MatchOption part (IsNoPart (waiting_on conn hub)) (IsPart x (waiting_on conn hub))) e (subst (λ (xs : List ℕ). MatchOption part (IsNoPart xs) (IsPart t xs)) b p);
  tenant = n ∙ ap (λ (x : Tenancy). front_of x bytes) e ∙ ap (λ (xs : List ℕ). front_of hub.tenants xs) b;
  most = to_first conn hub t bytes most e b l m;
  exact = λ body k. subst (λ (x : Tenancy). IsMostTo x body most) e (m body (ap (λ (xs : List ℕ). body_at (front xs)) b ∙ k));
  long = g ∙ ap (λ (x : Tenancy). option_map_or (is_long_to x) (body_at (front bytes)) false) e ∙ ap (λ (xs : List ℕ). option_map_or (is_long_to hub.tenants) (body_at (front xs)) false) b;
}

-- a piece that comes changes no map
pub takes_tenants : (conn : ℕ) (piece : List ℕ) (old new : HubState) (r : Result (Unit {0}) TakeFault) → Takes conn piece old r new → new.tenants ≡ old.tenants
takes_tenants conn piece old new (Ok u) t = t.tenants_stay
takes_tenants conn piece old new (Err fault.NoConnection) t = ap (λ (h : HubState). h.tenants) t.1
takes_tenants conn piece old new (Err fault.Closed) t = ap (λ (h : HubState). h.tenants) t.1
takes_tenants conn piece old new (Err fault.Memory) t = ap (λ (h : HubState). h.tenants) t.1
