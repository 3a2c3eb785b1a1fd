-- One tenant's replies depend on its own requests alone.
use Rattle.std.specs.Prelude.{◌≡◌, ◌⊎◌, ℕ, List, [], ◌∷◌, ◌++◌, length, Option, Some, None, Bool, true, false, not, ◌&&◌, nat_le, nat_lt, refl}
use Rattle.std.proofs.Common.{sym, ap, ◌∙◌, subst, cond, inl, inr, arith}
use Rattle.std.specs.Bool.{MatchBool}
use Rattle.std.proofs.lemmas.Slice.Eq.{bytes_eq-Decides}
use Rattle.std.proofs.lemmas.Bool.Decides.{nat_tests}
use Rattle.tenant_map.specs.Maps.{Map}
use Rattle.tenant_map.specs.Tenancy.{Tenancy}
use Rattle.wire_frames.specs.Requests.{key_of, number_of}
use Rattle.wire_frames.specs.Replies.{reply}
use Rattle.request_replies.specs.Answers.{Answers, Alone, is_no_memory}
use Rattle.request_replies.specs.Tenants.{map_of, with_map_of, ServesBody, ServesBy, BodyMayWant}
use Rattle.path_hub.specs.Items.{Item}
use Rattle.path_hub.specs.Runs.{Sent, StepItem, Run, same, is_own, own_requests, own_replies, body_in}
use Rattle.request_replies.specs.Laws.{KeysApart}
use Rattle.std.proofs.lemmas.Bool.{false≢true, MatchBool-at_true, MatchBool-at_false}

-- What a step is to the tenant of a key: nothing, or its own request.
pub record IsSkipped (key : List ℕ) (m : Map) (body : Option (List ℕ)) (frame : List ℕ) (mid : Tenancy) : Type 0 where
  pub test : is_own key body frame ≡ false
  pub kept : map_of key mid ≡ Some m

pub record IsOwn (key : List ℕ) (m : Map) (body : Option (List ℕ)) (frame : List ℕ) (mid : Tenancy) : Type 0 where
  pub test : is_own key body frame ≡ true
  pub next : Map
  pub told : Answers m (body_in body) frame next
  pub after : map_of key mid ≡ Some next

abbrev pub IsFor : List ℕ → Map → Option (List ℕ) → List ℕ → Tenancy → Type 0
IsFor key m body frame mid = IsSkipped key m body frame mid ⊎ IsOwn key m body frame mid

-- to another tenant
other_by : (law : KeysApart) (o : Option Map) (key : List ℕ) (b frame : List ℕ) (os new : Tenancy) → same key (key_of b) ≡ false → ServesBy o b os frame new → map_of key new ≡ map_of key os
other_by law None key b frame os new n s = ap (map_of key) s.1
other_by law (Some m) key b frame os new n s = ap (map_of key) s.2 ∙ law.others key (key_of b) s.0 os (λ e. false≢true (sym n ∙ (bytes_eq-Decides key (key_of b)).1 e))

for_body : (law : KeysApart) (key : List ℕ) (m : Map) (os : Tenancy) (b frame : List ℕ) (mid : Tenancy) → map_of key os ≡ Some m
    → (x y z : Bool) → nat_le 21 (length b) ≡ x → same key (key_of b) ≡ y → is_no_memory frame ≡ z
    → MatchBool z ((frame ≡ reply 21 (number_of b) []) × (mid ≡ os) × BodyMayWant os b) (ServesBody os b frame mid) → IsFor key m (Some b) frame mid
for_body law key m os b frame mid h x y true p q r s = inl (record {
  test = ap (λ t. x' && y' && not t) r ∙ and_false (x' && y');
  kept = ap (map_of key) s.1 ∙ h;
})
  where
    x' : Bool
    x' = nat_le 21 (length b)

    y' : Bool
    y' = same key (key_of b)

    and_false : (t : Bool) → (t && false) ≡ false
    and_false true = refl
    and_false false = refl
for_body law key m os b frame mid h false y false p q r s =
    let short : nat_lt (length b) 21 ≡ true = grind (arith, nat_tests) in
    inl (record {
      test = ap (λ t. t && same key (key_of b) && not (is_no_memory frame)) p;
      kept = ap (map_of key) (MatchBool-at_true _ _ short s).1 ∙ h;
    })
for_body law key m os b frame mid h true false false p q r s =
    let long : nat_lt (length b) 21 ≡ false = grind (arith, nat_tests) in
    inl (record {
      test = ap (λ t. t && same key (key_of b) && not (is_no_memory frame)) p ∙ ap (λ t. t && not (is_no_memory frame)) q;
      kept = other_by law (map_of (key_of b) os) key b frame os mid q (MatchBool-at_false _ _ long s) ∙ h;
    })
for_body law key m os b frame mid h true true false p q r s =
    let long : nat_lt (length b) 21 ≡ false = grind (arith, nat_tests) in
    let k : key ≡ key_of b = (bytes_eq-Decides key (key_of b)).0 q in
    let found : map_of (key_of b) os ≡ Some m = subst (λ (j : List ℕ). map_of j os ≡ Some m) k h in
    let v : ServesBy (Some m) b os frame mid = subst (λ (o : Option Map). ServesBy o b os frame mid) found (MatchBool-at_false _ _ long s) in
    inr (record {
      test = ap (λ t. t && same key (key_of b) && not (is_no_memory frame)) p ∙ ap (λ t. t && not (is_no_memory frame)) q ∙ ap not r;
      next = v.0;
      told = v.1;
      after = ap (map_of key) v.2 ∙ subst (λ (j : List ℕ). map_of j (with_map_of (key_of b) v.0 os) ≡ Some v.0) (sym k) (law.own (key_of b) v.0 m os found);
    })

for_item : (law : KeysApart) (key : List ℕ) (m : Map) (os : Tenancy) (body : Option (List ℕ)) (frame : List ℕ) (mid : Tenancy) → map_of key os ≡ Some m → StepItem os body frame mid → IsFor key m body frame mid
for_item law key m os None frame mid h s = inl (record { test = refl; kept = ap (map_of key) s.1 ∙ h })
for_item law key m os (Some b) frame mid h s = for_body law key m os b frame mid h _ _ _ refl refl refl s

pub isolated_from_run : (law : KeysApart) (is : List Item) (ts : List Sent) (os new : Tenancy) (key : List ℕ) (m : Map) → Run os is ts new → map_of key os ≡ Some m → Alone m (own_requests key is ts) (own_replies key is ts)
isolated_from_run law [] [] os new key m r h = tt
isolated_from_run law [] (t ∷ ts) os new key m r h = absurd r
isolated_from_run law (i ∷ is) [] os new key m r h = absurd r
isolated_from_run law (i ∷ is) (t ∷ ts) os new key m r h = by (for_item law key m os i.body t.frame r.0 h r.2) (λ n k. isolated_from_run law is ts r.0 new key n r.3 k)
  where
    by : IsFor key m i.body t.frame r.0 → ((n : Map) → map_of key r.0 ≡ Some n → Alone n (own_requests key is ts) (own_replies key is ts)) → Alone m (own_requests key (i ∷ is) (t ∷ ts)) (own_replies key (i ∷ is) (t ∷ ts))
    by (inl s) again = subst (λ b. Alone m (cond b (body_in i.body ∷ own_requests key is ts) (own_requests key is ts)) (cond b (t.frame ∷ own_replies key is ts) (own_replies key is ts))) (sym s.test) (again m s.kept)
    by (inr s) again = subst (λ b. Alone m (cond b (body_in i.body ∷ own_requests key is ts) (own_requests key is ts)) (cond b (t.frame ∷ own_replies key is ts) (own_replies key is ts))) (sym s.test) (s.next, s.told, again s.next s.after)

-- runs one after the other
pub run-append : (is js : List Item) (ts us : List Sent) (old mid new : Tenancy) → Run old is ts mid → Run mid js us new → Run old (is ++ js) (ts ++ us) new
run-append [] js [] us old mid new r s = subst (λ (o : Tenancy). Run o js us new) r s
run-append [] js (t ∷ ts) us old mid new r s = absurd r
run-append (i ∷ is) js [] us old mid new r s = absurd r
run-append (i ∷ is) js (t ∷ ts) us old mid new r s = (r.0, r.1, r.2, run-append is js ts us r.0 mid new r.3 s)
