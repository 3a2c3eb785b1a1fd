-- A run, event by event.
use Rattle.std.proofs.Common.{◌≡◌, ℕ, ◌<◌, ◌≤◌, ◌+◌, List, [], ◌∷◌, ◌++◌, length, map, take, drop, get_or, sym, ap, ◌∙◌, subst, refl}
use Rattle.std.proofs.lemmas.List.{append-nil, append_assoc, map-append, take_more, drop_more, take_all, take-append-drop}
use Rattle.path_hub.specs.declared.event.Event.{Event}
use Rattle.path_hub.specs.declared.event.Reply.{Reply}
use Rattle.tenant_map.specs.Tenancy.{Tenancy}
use Rattle.path_hub.specs.Items.{Item, Streams, after_event, items_at, items_from, streams_after, no_streams, items}
use Rattle.path_hub.specs.Runs.{Run}
use Rattle.path_hub.proofs.Alone.{run-append, isolated_from_run}
use Rattle.request_replies.specs.Tenants.{fresh}
use Rattle.request_replies.specs.Laws.{KeysApart}
use Rattle.path_hub.specs.Pending.{told}
use Rattle.path_hub.specs.Sessions.{Sessions, Agree, Replies, Applies, AppliesSome}
use Rattle.path_hub.specs.Headline.{Replied, StopsAt}

items-append : (s : Streams) (es fs : List Event) → items_from s (es ++ fs) ≡ items_from s es ++ items_from (streams_after s es) fs
items-append s [] fs = refl
items-append s (e ∷ es) fs = ap (λ is. items_at e s ++ is) (items-append (after_event e s) es fs) ∙ sym (append_assoc (items_at e s) (items_from (after_event e s) es) (items_from (streams_after (after_event e s) es) fs))

streams_push : (s : Streams) (es : List Event) (e : Event) → streams_after s (es ++ e ∷ []) ≡ after_event e (streams_after s es)
streams_push s [] e = refl
streams_push s (d ∷ es) e = streams_push (after_event d s) es e

items_push : (s : Streams) (es : List Event) (e : Event) → items_from s (es ++ e ∷ []) ≡ items_from s es ++ items_at e (streams_after s es)
items_push s es e = items-append s es (e ∷ []) ∙ ap (λ is. items_from s es ++ is) (append-nil (items_at e (streams_after s es)))

replies-append : (os : Tenancy) (out : List Reply) (is js : List Item) (mid : Tenancy) (out' : List Reply) (os' : Tenancy) (out'' : List Reply) → Replies os out is mid out' → Replies mid out' js os' out'' → Replies os out (is ++ js) os' out''
replies-append os out is js mid out' os' out'' a b = record {
  replies = a.replies ++ b.replies;
  out = b.out ∙ ap (λ x. x ++ b.replies) a.out ∙ append_assoc out a.replies b.replies;
  run = subst (λ ts. Run os (is ++ js) ts os') (sym (map-append told a.replies b.replies)) (run-append is js (map told a.replies) (map told b.replies) os mid os' a.run b.run);
}

-- how far a run has come
pub record IsSoFar (events : List Event) (i : ℕ) (os : Tenancy) (out : List Reply) (ss : Sessions) (os' : Tenancy) (out' : List Reply) : Type 0 where
  pub agree : Agree (streams_after no_streams (take i events)) ss
  pub told_so_far : Replies os out (items_from no_streams (take i events)) os' out'

pub so_far_more : (events : List Event) (i : ℕ) (event : Event) (os mid os' : Tenancy) (out out' out'' : List Reply) (ss ss' : Sessions) → i < length events → event ≡ get_or events i event → IsSoFar events i os out ss mid out' → Applies event ss mid out' ss' os' out'' → IsSoFar events (i + 1) os out ss' os' out''
so_far_more events i event os mid os' out out' out'' ss ss' l e f a =
    let t : take (i + 1) events ≡ take i events ++ event ∷ [] = take_more events i event l ∙ ap (λ x. take i events ++ x ∷ []) (sym e) in
    let next = a (streams_after no_streams (take i events)) f.agree in
    record {
      agree = subst (λ s. Agree s ss') (sym (streams_push no_streams (take i events) event) ∙ sym (ap (streams_after no_streams) t)) next.0;
      told_so_far = subst (λ is. Replies os out is os' out'') (sym (items_push no_streams (take i events) event) ∙ sym (ap (items_from no_streams) t))
          (replies-append os out (items_from no_streams (take i events)) (items_at event (streams_after no_streams (take i events))) mid out' os' out'' f.told_so_far next.1);
    }

pub replied : (law : KeysApart) (keys : List (List ℕ)) (os os' : Tenancy) (is : List Item) (out out' : List Reply) → os ≡ fresh keys → Replies os out is os' out' → Replied keys is out out'
replied law keys os os' is out out' e r =
    let run' : Run (fresh keys) is (map told r.replies) os' = subst (λ x. Run x is (map told r.replies) os') e r.run in
    record {
      replies = r.replies;
      out = r.out;
      last = os';
      run = run';
      isolated = λ key has. isolated_from_run law is (map told r.replies) (fresh keys) os' key [] run' (law.first keys key has.0 has.1 has.2);
    }

pub so_far_all : (law : KeysApart) (keys : List (List ℕ)) (events : List Event) (i : ℕ) (os os' : Tenancy) (out out' : List Reply) (ss : Sessions) → length events ≤ i → os ≡ fresh keys → IsSoFar events i os out ss os' out' → Replied keys (items events) out out'
so_far_all law keys events i os os' out out' ss l e f = replied law keys os os' (items events) out out' e (subst (λ es. Replies os out (items_from no_streams es) os' out') (take_all i events l) f.told_so_far)

-- up to an event that wants memory
pub stops_at : (law : KeysApart) (keys : List (List ℕ)) (events : List Event) (i : ℕ) (event : Event) (os mid os' : Tenancy) (out out' out'' : List Reply) (ss : Sessions) → i < length events → event ≡ get_or events i event → os ≡ fresh keys → IsSoFar events i os out ss mid out' → AppliesSome event ss mid out' os' out'' → StopsAt keys events out out''
stops_at law keys events i event os mid os' out out' out'' ss l e h f a =
    let next = a (streams_after no_streams (take i events)) f.agree in
    record {
      done = take i events;
      event = event;
      later = drop (i + 1) events;
      events_are = sym (take-append-drop i events) ∙ ap (λ x. take i events ++ x) (drop_more events i event l ∙ ap (λ x. x ∷ drop (i + 1) events) (sym e));
      first = next.first;
      others = next.others;
      items_are = next.items_are;
      told_first = replied law keys os os' (items (take i events) ++ next.first) out out'' h (replies-append os out (items (take i events)) next.first mid out' os' out'' f.told_so_far next.told_first);
      wanted = next.wanted;
    }
