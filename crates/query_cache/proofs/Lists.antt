-- The list of texts, and the entries under them.
use Rattle.std.proofs.Common.{◌≡◌, Bor, ℕ, zero, suc, ◌-◌, ◌<◌, ◌≤◌, Bool, true, false, List, [], ◌∷◌, length, take, sym, ap, ◌∙◌, subst, refl, Option, Some, None, cond, ◌||◌, arith}
use Rattle.std.specs.Option.{is_some, option_map_or}
use Rattle.std.specs.List.{AllByRecursion}
use Rattle.std.specs.Map.{lookup, lookup_entry, remove_entry}
use Rattle.std.specs.declared.vec.Vec.{Vec}
use Rattle.std.specs.declared.alloc.Global.{Global}
use Rattle.std.proofs.lemmas.Slice.Eq.{bytes_eq-Decides}
use Rattle.std.proofs.lemmas.List.{length-map}
use Rattle.lru.specs.LruCache.{LruCache, lru_cache, promoted, put_entries}
use Rattle.std.specs.Option.{IsSome, is_none, option_copied}
use Rattle.std.specs.Prelude.{OnErr, Result, Ok, Err}
use Rattle.path_grammar.specs.declared.ast.Query.{Query}
use Rattle.path_grammar.specs.View.{query_view}
use Rattle.path_types.specs.Verdict.{IsValidQuery}
use Rattle.query_cache.specs.Texts.{Held, same, is_held, without, after_use, Admits, IsWithin}
use Rattle.query_cache.specs.Kept.{texts_of, is_text, IsKept, IsCache, Keeps}

abbrev Entries : Type 0
Entries = List (Vec ℕ Global × Query)

-- a text is held where it has an entry
pub held_entry : (text : List ℕ) (es : Entries) → is_some (lookup (is_text text) es) ≡ is_held text (texts_of es)
held_entry text [] = refl
held_entry text (e ∷ es) =
    elim (same text e.0.items) as (λ b. is_some (cond b (Some e.1) (lookup (is_text text) es)) ≡ (b || is_held text (texts_of es))) [ true ↦ refl | false ↦ held_entry text es ]

pub not_held : (text : List ℕ) (es : Entries) → is_some (lookup (is_text text) es) ≡ false → lookup (is_text text) es ≡ None
not_held text es h = by (lookup (is_text text) es) h
  where
    by : (o : Option Query) → is_some o ≡ false → o ≡ None
    by None h = refl
    by (Some q) h = absurd (cc)

-- the entry of a text
pub record IsEntry (text : List ℕ) (es : Entries) : Type 0 where
  pub entry : Vec ℕ Global × Query
  pub found : lookup_entry (is_text text) es ≡ Some entry
  pub value : lookup (is_text text) es ≡ Some entry.1
  pub text_is : entry.0.items ≡ text
  pub shorter : length (remove_entry (is_text text) es) < length es

pub entry_of : (text : List ℕ) (es : Entries) → is_some (lookup (is_text text) es) ≡ true → IsEntry text es
entry_of text [] h = absurd (cc)
entry_of text (e ∷ es) h = by (same text e.0.items) refl h (entry_of text es)
  where
    by : (b : Bool) → same text e.0.items ≡ b → is_some (cond b (Some e.1) (lookup (is_text text) es)) ≡ true → (is_some (lookup (is_text text) es) ≡ true → IsEntry text es) → IsEntry text (e ∷ es)
    by true p h again = record {
      entry = e;
      found = ap (λ b. cond b (Some e) (lookup_entry (is_text text) es)) p;
      value = ap (λ b. cond b (Some e.1) (lookup (is_text text) es)) p;
      text_is = sym ((bytes_eq-Decides text e.0.items).0 p);
      shorter = subst (λ b. length (cond b es (e ∷ remove_entry (is_text text) es)) < suc (length es)) (sym p) (omega arith);
    }
    by false p h again =
        let x = again h in
        let l = x.shorter in
        record {
          entry = x.entry;
          found = ap (λ b. cond b (Some e) (lookup_entry (is_text text) es)) p ∙ x.found;
          value = ap (λ b. cond b (Some e.1) (lookup (is_text text) es)) p ∙ x.value;
          text_is = x.text_is;
          shorter = subst (λ b. length (cond b es (e ∷ remove_entry (is_text text) es)) < suc (length es)) (sym p) (omega (arith, l));
        }

texts_without : (text : List ℕ) (es : Entries) → texts_of (remove_entry (is_text text) es) ≡ without text (texts_of es)
texts_without text [] = refl
texts_without text (e ∷ es) =
    elim (same text e.0.items) as (λ b. texts_of (cond b es (e ∷ remove_entry (is_text text) es)) ≡ cond b (texts_of es) (e.0.items ∷ without text (texts_of es))) [ true ↦ refl | false ↦ ap (λ ts. e.0.items ∷ ts) (texts_without text es) ]

texts_first : (n : ℕ) (es : Entries) → texts_of (take n es) ≡ take n (texts_of es)
texts_first zero es = refl
texts_first (suc n) [] = refl
texts_first (suc n) (e ∷ es) = ap (λ ts. e.0.items ∷ ts) (texts_first n es)

no_entry : (text : List ℕ) (es : Entries) → is_some (lookup (is_text text) es) ≡ false → lookup_entry (is_text text) es ≡ None
no_entry text [] h = refl
no_entry text (e ∷ es) h =
    elim (same text e.0.items) as (λ b. is_some (cond b (Some e.1) (lookup (is_text text) es)) ≡ false → cond b (Some e) (lookup_entry (is_text text) es) ≡ None) [ true ↦ λ (i : true ≡ false). absurd (cc) | false ↦ λ i. no_entry text es i ] h

-- ---- A text that is held

promoted_is : (text : List ℕ) (es : Entries) (x : IsEntry text es) → promoted (is_text text) es ≡ x.entry ∷ remove_entry (is_text text) es
promoted_is text es x = ap (λ o. option_map_or (λ e. e ∷ remove_entry (is_text text) es) o es) x.found

-- where none is, nothing moves
pub promoted_none : (text : List ℕ) (es : Entries) → is_some (lookup (is_text text) es) ≡ false → promoted (is_text text) es ≡ es
promoted_none text es h = ap (λ o. option_map_or (λ e. e ∷ remove_entry (is_text text) es) o es) (no_entry text es h)

pub admits_held : (text : List ℕ) (es : Entries) (cap : ℕ) → is_some (lookup (is_text text) es) ≡ true
    → Admits text true (record { texts = texts_of es; capacity = cap }) (record { texts = texts_of (promoted (is_text text) es); capacity = cap })
admits_held text es cap h =
    let x = entry_of text es h in
    let used : after_use text cap (texts_of es) ≡ text ∷ without text (texts_of es) = ap (λ b. cond b (text ∷ without text (texts_of es)) (text ∷ take (cap - 1) (texts_of es))) (sym (held_entry text es) ∙ h) in
    ap (λ (ts : List (List ℕ)). record { texts = ts; capacity = cap })
    (ap texts_of (promoted_is text es x) ∙ ap (λ t. t ∷ texts_of (remove_entry (is_text text) es)) x.text_is ∙ ap (λ ts. text ∷ ts) (texts_without text es) ∙ sym used)

kept_without : (text : List ℕ) (es : Entries) → AllByRecursion IsKept es → AllByRecursion IsKept (remove_entry (is_text text) es)
kept_without text [] a = a
kept_without text (e ∷ es) a = elim (same text e.0.items) as (λ b. AllByRecursion IsKept (cond b es (e ∷ remove_entry (is_text text) es))) [ true ↦ a.1 | false ↦ (a.0, kept_without text es a.1) ]

kept_entry : (text : List ℕ) (es : Entries) (e : Vec ℕ Global × Query) → AllByRecursion IsKept es → lookup_entry (is_text text) es ≡ Some e → IsKept e
kept_entry text [] e a h = absurd (cc)
kept_entry text (d ∷ es) e a h =
    elim (same text d.0.items) as (λ b. cond b (Some d) (lookup_entry (is_text text) es) ≡ Some e → IsKept e) [
      | true ↦ λ (i : Some d ≡ Some e). let s : d ≡ e = cc in subst IsKept s a.0
      | false ↦ λ i. kept_entry text es e a.1 i
    ] h

pub cache_promoted : (text : List ℕ) (es : Entries) (cap : ℕ) → IsCache es cap → IsCache (promoted (is_text text) es) cap
cache_promoted text es cap c = by (is_some (lookup (is_text text) es)) refl
  where
    by : (b : Bool) → is_some (lookup (is_text text) es) ≡ b → IsCache (promoted (is_text text) es) cap
    by false h = subst (λ xs. IsCache xs cap) (sym (promoted_none text es h)) c
    by true h =
        let x = entry_of text es h in
        let l = x.shorter in
        let n = c.few in
        subst (λ xs. IsCache xs cap) (sym (promoted_is text es x)) (record {
          each = (kept_entry text es x.entry c.each x.found, kept_without text es c.each);
          few = omega (arith, l, n);
          some = c.some;
          limited = c.limited;
        })

pub within : (es : Entries) (room : ℕ) → IsCache es room → IsWithin (record { texts = texts_of es; capacity = room })
within es room c = subst (λ n. n ≤ room) (sym (length-map es (λ (e : Vec ℕ Global × Query). e.0.items))) c.few

-- a held text is a query, and so within the limit
pub long_not_held : (text : List ℕ) (es : Entries) (cap : ℕ) → IsCache es cap → 4096 < length text → is_held text (texts_of es) ≡ false
long_not_held text es cap c l = by (is_some (lookup (is_text text) es)) refl
  where
    by : (b : Bool) → is_some (lookup (is_text text) es) ≡ b → is_held text (texts_of es) ≡ false
    by false h = sym (held_entry text es) ∙ h
    by true h =
        let x = entry_of text es h in
        let short : length text ≤ 4096 = subst (λ t. length t ≤ 4096) x.text_is (kept_entry text es x.entry c.each x.found).short in
        absurd (omega (arith, l, short))

-- ---- A new text

pub admits_new : (text : List ℕ) (key : Vec ℕ Global) (q : Query) (es : Entries) (cap : ℕ) → is_some (lookup (is_text text) es) ≡ false → key.items ≡ text
    → Admits text true (record { texts = texts_of es; capacity = cap }) (record { texts = texts_of ((key, q) ∷ take (cap - 1) es); capacity = cap })
admits_new text key q es cap h k =
    let used : after_use text cap (texts_of es) ≡ text ∷ take (cap - 1) (texts_of es) = ap (λ b. cond b (text ∷ without text (texts_of es)) (text ∷ take (cap - 1) (texts_of es))) (sym (held_entry text es) ∙ h) in
    ap (λ (ts : List (List ℕ)). record { texts = ts; capacity = cap })
    (ap (λ t. t ∷ texts_of (take (cap - 1) es)) k ∙ ap (λ ts. text ∷ ts) (texts_first (cap - 1) es) ∙ sym used)

kept_first : (n : ℕ) (es : Entries) → AllByRecursion IsKept es → AllByRecursion IsKept (take n es)
kept_first zero es a = tt
kept_first (suc n) [] a = a
kept_first (suc n) (e ∷ es) a = (a.0, kept_first n es a.1)

first_few : (n : ℕ) (es : Entries) → length (take n es) ≤ n
first_few zero es = omega arith
first_few (suc n) [] = omega arith
first_few (suc n) (e ∷ es) = let l = first_few n es in omega (arith, l)

pub cache_new : (text : List ℕ) (key : Vec ℕ Global) (q : Query) (es : Entries) (cap : ℕ) → key.items ≡ text → IsValidQuery text (query_view q) → IsCache es cap → IsCache ((key, q) ∷ take (cap - 1) es) cap
cache_new text key q es cap k v c =
    let l = first_few (cap - 1) es in
    let s = c.some in
    record {
      each = (subst (λ t. IsValidQuery t (query_view q)) (sym k) v, kept_first (cap - 1) es c.each);
      few = omega (arith, l, s);
      some = c.some;
      limited = c.limited;
    }

-- ---- What is lent

pub lent_valid : (text : List ℕ) (es : Entries) (cap : ℕ) (q : Query) → IsCache es cap → lookup (is_text text) es ≡ Some q → IsValidQuery text (query_view q)
lent_valid text es cap q c h =
    let x = entry_of text es (ap is_some h) in
    let same : x.entry.1 ≡ q = some_same x.entry.1 q (sym x.value ∙ h) in
    subst (λ t. IsValidQuery t (query_view q)) x.text_is (subst (λ p. IsValidQuery x.entry.0.items (query_view p)) same (kept_entry text es x.entry c.each x.found))
  where
    some_same : (a b : Query) → Some a ≡ Some b → a ≡ b
    some_same a b e = cc

-- ---- The calls, over what the cache is made of

abbrev Queries : Type 0
Queries = LruCache (Vec ℕ Global) Query

abbrev pub view_of : Queries → Held
view_of l = record { texts = texts_of l.entries; capacity = l.cap }

abbrev pub same_key : Vec ℕ Global → Vec ℕ Global → Bool
same_key a b = same a.items b.items

pub put_new : (text : List ℕ) (key : Vec ℕ Global) (q : Query) (old : Queries) → key.items ≡ text → lookup (is_text text) old.entries ≡ None → put_entries same_key old key q ≡ (key, q) ∷ take (old.cap - 1) old.entries
put_new text key q old k h =
    ap (λ o. option_map_or (λ (e : Vec ℕ Global × Query). (e.0, q) ∷ remove_entry (same_key key) old.entries) o ((key, q) ∷ take (old.cap - 1) old.entries))
    (subst (λ t. lookup_entry (is_text t) old.entries ≡ None) (sym k) (no_entry text old.entries (ap is_some h)))

pub cache_kept : (text : List ℕ) (q : Query) (old new : Queries) (r : Option Query) → IsValidQuery text (query_view q) → IsCache old.entries old.cap → Keeps text q old r new → IsCache new.entries new.cap
cache_kept text q old new None v c k = subst (λ (l : Queries). IsCache l.entries l.cap) (sym k.2) (cache_new text k.0 q old.entries old.cap k.1 v c)
cache_kept text q old new (Some owned) v c k = subst (λ (l : Queries). IsCache l.entries l.cap) (sym k.1) c

pub admits_kept : (text : List ℕ) (q : Query) (old new : Queries) (r : Option Query) → is_some (lookup (is_text text) old.entries) ≡ false → Keeps text q old r new → Admits text (is_none r) (view_of old) (view_of new)
admits_kept text q old new None h k = subst (λ l. Admits text true (view_of old) (view_of l)) (sym k.2) (admits_new text k.0 q old.entries old.cap h k.1)
admits_kept text q old new (Some owned) h k = (sym (held_entry text old.entries) ∙ h, ap view_of k.1)

-- a promotion, where the text is held and where it is not
pub admits_promoted : (text : List ℕ) (old new : Queries) → is_some (lookup (is_text text) old.entries) ≡ true → new ≡ lru_cache (promoted (is_text text) old.entries) old.cap → Admits text true (view_of old) (view_of new)
admits_promoted text old new h e = subst (λ l. Admits text true (view_of old) (view_of l)) (sym e) (admits_held text old.entries old.cap h)

pub stays : (text : List ℕ) (old new : Queries) → is_some (lookup (is_text text) old.entries) ≡ false → new ≡ lru_cache (promoted (is_text text) old.entries) old.cap → new ≡ old
stays text old new h e = e ∙ ap (λ es. lru_cache es old.cap) (promoted_none text old.entries h)

pub cache_stays : (text : List ℕ) (old new : Queries) → IsCache old.entries old.cap → new ≡ lru_cache (promoted (is_text text) old.entries) old.cap → IsCache new.entries new.cap
cache_stays text old new c e = subst (λ (l : Queries). IsCache l.entries l.cap) (sym e) (cache_promoted text old.entries old.cap c)

pub on_err : {A E : Type 0} (r : Result A E) (P : Type 0) → P → OnErr r P
on_err (Ok a) P p = tt
on_err (Err e) P p = p

-- what is held is there to be lent
pub peeked : (text : List ℕ) (es : Entries) (r : Option (Bor Query)) → option_copied r ≡ lookup (is_text text) es → is_held text (texts_of es) ≡ true → IsSome r
peeked text es None e h = let x : false ≡ true = ap is_some e ∙ held_entry text es ∙ h in absurd (cc)
peeked text es (Some q) e h = refl
