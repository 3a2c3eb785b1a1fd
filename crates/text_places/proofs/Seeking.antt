-- A byte of the rest tells what it is part of. So the first value that is sought is found at its place, and none before it.
use Rattle.json_text.proofs.Names.{◌≡◌, ℕ, suc, ◌+◌, ◌-◌, ◌<◌, ◌≤◌, ◌⊎◌, inl, inr, List, [], ◌∷◌, ◌++◌, length, take, drop, get_or, refl, sym, ap, ◌∙◌, subst, arith, nat_tests, false, Some, None, cases_lt, drop_more, drop_at, take_at, drop_all, append_assoc, length-append}
use Rattle.std.proofs.Math.Seq.{drop-drop}
use Rattle.json_text.proofs.Names.{IsText, IsScalarText, IsString, AreAtoms, NoAtomFirst, Atom, class, is_atom, atom_end, string_end, at, Spelt, Scalar, Num, Str, Tree, Leaf, source_of, size, Label, Top, IsAt}
use Rattle.decimal_order.specs.Limits.{IsWithinLimits}
use Rattle.decimal_order.specs.Number.{IsNumber as IsNumberText}
use Rattle.json_text.specs.Verdict.{Applies, BreaksLimit, depth_limit}
use Rattle.json_text.specs.declared.modes.Mode.TheVariants.{Between}
use Rattle.json_text.proofs.Complete.{atom_by_class}
use Rattle.json_text.proofs.Parts.{placed}
use Rattle.json_text.proofs.Strings.{chars_pass}
use Rattle.text_places.specs.Firsts.{IsFirst, IsNumber, IsContainer, IsBetween, is_sought, fault_of}
use Rattle.text_places.specs.Levels.{LiesIn}
use Rattle.text_places.specs.declared.firsts.Sought.{Sought}
use Rattle.text_places.specs.declared.firsts.Sought.TheVariants.{Depth, Number}
use Rattle.text_places.proofs.Inside.{below, one_at}
use Rattle.text_places.proofs.Levels.{deep_found, one_level}
use Rattle.text_places.proofs.Rests.{Rest, ends, passes, opens, closes, names, quotes, words, text_rest}

-- ---- the first byte of the rest

record SameHead (c b : ℕ) (cs tail : List ℕ) : Type 0 where
  head : c ≡ b
  tails : cs ≡ tail

same_head : {bs cs tail : List ℕ} {c b : ℕ} → bs ≡ c ∷ cs → bs ≡ b ∷ tail → SameHead c b cs tail
same_head e f = record { head = cc; tails = cc }

string_head : {bs vs tail : List ℕ} {b : ℕ} (cs : List ℕ) (spelt : List Spelt) → IsString vs spelt → bs ≡ vs ++ cs → bs ≡ b ∷ tail → 34 ≡ b
string_head cs spelt (inside, a, e) f g = (same_head (f ∙ ap (λ l. l ++ cs) e) g).head

abbrev IsOpening : ℕ → Type 0
IsOpening b = (b ≡ 91) ⊎ (b ≡ 123)

abbrev IsClosing : ℕ → Type 0
IsClosing b = (b ≡ 93) ⊎ (b ≡ 125)

between_opening : (b : ℕ) → IsBetween b → IsOpening b → ⊥
between_opening b h g = grind (arith, nat_tests)

between_closing : (b : ℕ) → IsBetween b → IsClosing b → ⊥
between_closing b h g = grind (arith, nat_tests)

between_quote : (b : ℕ) → IsBetween b → 34 ≡ b → ⊥
between_quote b h g = grind (arith, nat_tests)

between_atom : (b : ℕ) → IsBetween b → class b ≡ Atom → ⊥
between_atom b h g = grind (arith, nat_tests)

opening_atom : (b : ℕ) → IsOpening b → class b ≡ Atom → ⊥
opening_atom b h g = grind (arith, nat_tests)

closing_atom : (b : ℕ) → IsClosing b → class b ≡ Atom → ⊥
closing_atom b h g = grind (arith, nat_tests)

opening_closing : (b : ℕ) → IsOpening b → IsClosing b → ⊥
opening_closing b h g = grind (arith, nat_tests)

opening_quote : (b : ℕ) → IsOpening b → 34 ≡ b → ⊥
opening_quote b h g = grind (arith, nat_tests)

closing_quote : (b : ℕ) → IsClosing b → 34 ≡ b → ⊥
closing_quote b h g = grind (arith, nat_tests)

quote_atom : (b : ℕ) → 34 ≡ b → class b ≡ Atom → ⊥
quote_atom b h g = grind (arith, nat_tests)

pub record Opened (t : Tree) (n level place : ℕ) (tail : List ℕ) : Type 0 where
  pub up : ℕ
  pub label : Label
  pub part : Tree
  pub is_at : IsAt t 0 Top 0 n up label part
  pub is_container : IsContainer part
  pub place_is : place ≡ (source_of part).place
  pub lies : LiesIn t n level
  pub rest : Rest t (n + 1) (suc level) (place + 1) tail

pub record Quoted (t : Tree) (n level place : ℕ) (bs : List ℕ) : Type 0 where
  pub bytes : List ℕ
  pub rest : List ℕ
  pub spelt : List Spelt
  pub is : bs ≡ bytes ++ rest
  pub is_string : IsString bytes spelt
  pub next : ℕ
  pub left : Rest t next level (place + length bytes) rest
  pub passed : (next ≡ n) ⊎ ((next ≡ n + 1) × ((up : ℕ) × (label : Label) × IsAt t 0 Top 0 n up label (Leaf (at place bytes) (Str spelt))))

pub record Worded (t : Tree) (n level place : ℕ) (bs : List ℕ) : Type 0 where
  pub bytes : List ℕ
  pub rest : List ℕ
  pub scalar : Scalar
  pub up : ℕ
  pub label : Label
  pub some : 0 < length bytes
  pub is : bs ≡ bytes ++ rest
  pub is_text : IsScalarText bytes scalar
  pub are_atoms : AreAtoms bytes
  pub no_atom : NoAtomFirst rest
  pub is_at : IsAt t 0 Top 0 n up label (Leaf (at place bytes) scalar)
  pub left : Rest t (n + 1) level (place + length bytes) rest

module _ {t : Tree} {n level place b : ℕ} {bs tail : List ℕ} where
  between_on : Rest t n level place bs → bs ≡ b ∷ tail → IsBetween b → Rest t n level (place + 1) tail
  between_on (ends e s) f i = absurd (cc)
  between_on (passes e j r) f i = subst (Rest t n level (place + 1)) (same_head e f).tails r
  between_on (opens e j i' c p l r) f i = absurd (between_opening b i (subst IsOpening (same_head e f).head j))
  between_on (closes u e j r) f i = absurd (between_closing b i (subst IsClosing (same_head e f).head j))
  between_on (names spelt e h r) f i = absurd (between_quote b i (string_head _ spelt h e f))
  between_on (quotes {spelt = spelt} e h i' r) f i = absurd (between_quote b i (string_head _ spelt h e f))
  between_on (words e h a free i' r) f i = absurd (between_atom b i (subst (λ c. class c ≡ Atom) (same_head e f).head a.0))

  open_on : Rest t n level place bs → bs ≡ b ∷ tail → IsOpening b → Opened t n level place tail
  open_on (ends e s) f i = absurd (cc)
  open_on (passes e j r) f i = absurd (between_opening b (subst IsBetween (same_head e f).head j) i)
  open_on (opens {up = up} {label = label} {part = part} e j i' c p l r) f i = record { up = up; label = label; part = part; is_at = i'; is_container = c; place_is = p; lies = l; rest = subst (Rest t (n + 1) (suc level) (place + 1)) (same_head e f).tails r }
  open_on (closes u e j r) f i = absurd (opening_closing b i (subst IsClosing (same_head e f).head j))
  open_on (names spelt e h r) f i = absurd (opening_quote b i (string_head _ spelt h e f))
  open_on (quotes {spelt = spelt} e h i' r) f i = absurd (opening_quote b i (string_head _ spelt h e f))
  open_on (words e h a free i' r) f i = absurd (opening_atom b i (subst (λ c. class c ≡ Atom) (same_head e f).head a.0))

  quote_on : Rest t n level place bs → bs ≡ b ∷ tail → 34 ≡ b → Quoted t n level place bs
  quote_on (ends e s) f i = absurd (cc)
  quote_on (passes e j r) f i = absurd (between_quote b (subst IsBetween (same_head e f).head j) i)
  quote_on (opens e j i' c p l r) f i = absurd (opening_quote b (subst IsOpening (same_head e f).head j) i)
  quote_on (closes u e j r) f i = absurd (closing_quote b (subst IsClosing (same_head e f).head j) i)
  quote_on (names {vs = vs} {cs = cs} spelt e h r) f i = record { bytes = vs; rest = cs; next = n; spelt = spelt; is = e; is_string = h; left = r; passed = inl refl }
  quote_on (quotes {up = up} {vs = vs} {cs = cs} {label = label} {spelt = spelt} e h i' r) f i = record { bytes = vs; rest = cs; next = n + 1; spelt = spelt; is = e; is_string = h; left = r; passed = inr (refl, (up, label, i')) }
  quote_on (words e h a free i' r) f i = absurd (quote_atom b i (subst (λ c. class c ≡ Atom) (same_head e f).head a.0))

  word_on : Rest t n level place bs → bs ≡ b ∷ tail → (IsBetween b → ⊥) → (34 ≡ b → ⊥) → (IsOpening b → ⊥) → (IsClosing b → ⊥) → Worded t n level place bs
  word_on (ends e s) f no_between no_quote no_opening no_closing = absurd (cc)
  word_on (passes e j r) f no_between no_quote no_opening no_closing = absurd (no_between (subst IsBetween (same_head e f).head j))
  word_on (opens e j i' c p l r) f no_between no_quote no_opening no_closing = absurd (no_opening (subst IsOpening (same_head e f).head j))
  word_on (closes u e j r) f no_between no_quote no_opening no_closing = absurd (no_closing (subst IsClosing (same_head e f).head j))
  word_on (names spelt e h r) f no_between no_quote no_opening no_closing = absurd (no_quote (string_head _ spelt h e f))
  word_on (quotes {spelt = spelt} e h i' r) f no_between no_quote no_opening no_closing = absurd (no_quote (string_head _ spelt h e f))
  word_on (words {c = c} {up = up} {vs = vs} {cs = cs} {label = label} {s = s} e h a free i' r) f no_between no_quote no_opening no_closing = record { bytes = c ∷ vs; rest = cs; scalar = s; up = up; label = label; some = omega arith; is = e; is_text = h; are_atoms = a; no_atom = free; is_at = i'; left = r }

end_on : {t : Tree} {n level place : ℕ} {bs : List ℕ} → Rest t n level place bs → bs ≡ [] → size t ≤ n
end_on (ends e s) f = s
end_on (passes e j r) f = absurd (cc)
end_on (opens e j i' c p l r) f = absurd (cc)
end_on (closes u e j r) f = absurd (cc)
end_on (names spelt e (inside, a, h) r) f = absurd (cc)
end_on (quotes e (inside, a, h) i' r) f = absurd (cc)
end_on (words e h a free i' r) f = absurd (cc)

close_on : {t : Tree} {n level place b : ℕ} {bs tail : List ℕ} → Rest t n level place bs → bs ≡ b ∷ tail → IsClosing b → (l : ℕ) × (level ≡ suc l) × Rest t n l (place + 1) tail
close_on (ends e s) f i = absurd (cc)
close_on {b = b} (passes e j r) f i = absurd (between_closing b (subst IsBetween (same_head e f).head j) i)
close_on {b = b} (opens e j i' c p l r) f i = absurd (opening_closing b (subst IsOpening (same_head e f).head j) i)
close_on {t} {n} {place = place} (closes {inner = l} u e j r) f i = (l, u, subst (Rest t n l (place + 1)) (same_head e f).tails r)
close_on {b = b} (names spelt e h r) f i = absurd (closing_quote b i (string_head _ spelt h e f))
close_on {b = b} (quotes {spelt = spelt} e h i' r) f i = absurd (closing_quote b i (string_head _ spelt h e f))
close_on {b = b} (words e h a free i' r) f i = absurd (closing_atom b i (subst (λ c. class c ≡ Atom) (same_head e f).head a.0))

-- ---- at a place of the text

pub NoneBelow : Sought → Tree → ℕ → Type 0
NoneBelow sought t n = (k : ℕ) (other : Tree) → k < n → IsNumber t k other → is_sought sought t k other → ⊥

-- the values that begin before this place are not those that are sought
pub record Here (sought : Sought) (text : List ℕ) (t : Tree) (level place : ℕ) : Type 0 where
  pub number : ℕ
  pub rest : Rest t number level place (drop place text)
  pub none : NoneBelow sought t number

one_more : (sought : Sought) (t part : Tree) (n up : ℕ) (label : Label) → IsAt t 0 Top 0 n up label part → NoneBelow sought t n → (is_sought sought t n part → ⊥) → NoneBelow sought t (n + 1)
unfolding NoneBelow
one_more sought t part n up label h none not k other l (u, la, there) is = elim (cases_lt k n) [
  | inl p ↦ none k other p (u, la, there) is
  | inr p ↦ let z : k ≡ n = omega arith in not (subst (λ s. is_sought sought t n s) (one_at there h z) (subst (λ j. is_sought sought t j other) z is))
]

behind : (text vs cs : List ℕ) (place : ℕ) → drop place text ≡ vs ++ cs → cs ≡ drop (place + length vs) text
behind text vs cs place e = sym (sym (drop-drop (length vs) place text) ∙ ap (drop (length vs)) e ∙ drop_at vs cs (length vs) refl)

pub begins : (sought : Sought) (text : List ℕ) (t : Tree) → IsText text t → Here sought text t 0 0
unfolding NoneBelow
begins sought text t h = record { number = 0; rest = text_rest text t h; none = λ k other l i is. omega arith }

container_keeps : (part : Tree) → IsContainer part → BreaksLimit part → ⊥
container_keeps part c b = grind arith

word_is_number : (bytes : List ℕ) (s : Scalar) → IsNumberText bytes → IsScalarText bytes s → s ≡ Num
word_is_number bytes s n h = search arith

no_atom : (c : ℕ) → (class c ≡ Atom → ⊥) → is_atom c ≡ false
no_atom c h = grind (arith, nat_tests)

atoms_over : (vs cs : List ℕ) (k : ℕ) → AreAtoms vs → NoAtomFirst cs → atom_end k (vs ++ cs) ≡ k + length vs
atoms_over [] [] k h f = omega arith
atoms_over [] (c ∷ cs) k h f = rw (no_atom c f) (omega arith)
atoms_over (v ∷ vs) cs k h f = rw (atom_by_class v h.0) (atoms_over vs cs (k + 1) h.1 f ∙ omega arith)

string_over : (text vs cs : List ℕ) (spelt : List Spelt) (place : ℕ) → place < length text → drop place text ≡ vs ++ cs → IsString vs spelt → string_end Between (place + 1) (drop (place + 1) text) ≡ Some (place + length vs)
string_over text vs cs spelt place l e (inside, a, f) =
    ap (string_end Between (place + 1)) (sym (same_head whole (drop_more text place 0 l)).tails) ∙ chars_pass spelt inside cs (place + 1) a ∙ ap Some long
  where
    whole : drop place text ≡ 34 ∷ (inside ++ 34 ∷ cs)
    whole = e ∙ ap (λ v. v ++ cs) f ∙ ap (λ v. 34 ∷ v) (append_assoc inside (34 ∷ []) cs)

    long : place + 1 + length inside + 1 ≡ place + length vs
    long = let x = ap length f in let y : length (inside ++ 34 ∷ []) ≡ length inside + 1 = (simp length-append refl) in omega arith

module _ (sought : Sought) (text : List ℕ) (t : Tree) (level place : ℕ) (here : Here sought text t level place) (l : place < length text) where
  abbrev b : ℕ
  b = get_or text place 0

  head : drop place text ≡ b ∷ drop (place + 1) text
  head = drop_more text place 0 l

  pub over_between : IsBetween b → Here sought text t level (place + 1)
  over_between i = record { number = here.number; rest = between_on here.rest head i; none = here.none }

  pub over_opening : IsOpening b → ((sought ≡ Depth) × (level ≡ depth_limit) → ⊥) → Here sought text t (level + 1) (place + 1)
  over_opening i shallow = let o = open_on here.rest head i in record {
    number = here.number + 1;
    rest = subst (λ k. Rest t (here.number + 1) k (place + 1) (drop (place + 1) text)) (omega arith) o.rest;
    none = one_more sought t o.part here.number o.up o.label o.is_at here.none (go sought refl o);
  }
    where
      go : (s : Sought) → sought ≡ s → (o : Opened t here.number level place (drop (place + 1) text)) → is_sought s t here.number o.part → ⊥
      go Depth e o is = shallow (e, one_level o.lies is.1)
      go Number e o is = container_keeps o.part o.is_container is

  pub found_deep : IsText text t → IsOpening b → sought ≡ Depth → level ≡ depth_limit → IsFirst (is_sought sought) text place
  unfolding NoneBelow
  found_deep h i e d = let o = open_on here.rest head i in subst (λ s. IsFirst (is_sought s) text place) (sym e) (record {
    tree = t;
    is_text = h;
    number = here.number;
    part = o.part;
    is_number = (o.up, o.label, o.is_at);
    is = (o.is_container, subst (LiesIn t here.number) d o.lies);
    place = o.place_is;
    first = subst (λ s. NoneBelow s t here.number) e here.none;
  })

  pub over_closing : IsClosing b → (1 ≤ level) × Here sought text t (level - 1) (place + 1)
  over_closing i = let x = close_on here.rest head i in
      (omega (arith, x.1), record { number = here.number; rest = subst (λ k. Rest t here.number k (place + 1) (drop (place + 1) text)) (omega (arith, x.1)) x.2; none = here.none })

  module _ (is_quote : 34 ≡ b) where
    quoted : Quoted t here.number level place (drop place text)
    quoted = quote_on here.rest head is_quote

    quoted_to : string_end Between (place + 1) (drop (place + 1) text) ≡ Some (place + length quoted.bytes)
    quoted_to = string_over text quoted.bytes quoted.rest quoted.spelt place l quoted.is quoted.is_string

    pub over_string : (end : ℕ) → string_end Between (place + 1) (drop (place + 1) text) ≡ Some end → (place < end) × Here sought text t level end
    over_string end e = let same : place + length quoted.bytes ≡ end = (let x = sym quoted_to ∙ e in cc) in (
      some same quoted.is_string,
      record {
        number = quoted.next;
        rest = subst (λ k. Rest t quoted.next level k (drop k text)) same (subst (Rest t quoted.next level (place + length quoted.bytes)) (behind text quoted.bytes quoted.rest place quoted.is) quoted.left);
        none = elim quoted.passed [
          | inl x ↦ subst (NoneBelow sought t) (sym x) here.none
          | inr (x, (up, label, i)) ↦ subst (NoneBelow sought t) (sym x) (one_more sought t _ here.number up label i here.none (no_string sought))
        ];
      },
    )
      where
        some : place + length quoted.bytes ≡ end → IsString quoted.bytes quoted.spelt → place < end
        some same (inside, a, f) = let x = ap length f in omega arith

        no_string : (s : Sought) → is_sought s t here.number (Leaf (at place quoted.bytes) (Str quoted.spelt)) → ⊥
        no_string Depth is = is.0
        no_string Number is = is

    pub no_end : string_end Between (place + 1) (drop (place + 1) text) ≡ None → ⊥
    no_end e = let x = sym quoted_to ∙ e in cc

  module _ (no_between : IsBetween b → ⊥) (no_quote : 34 ≡ b → ⊥) (no_opening : IsOpening b → ⊥) (no_closing : IsClosing b → ⊥) (end : ℕ) (is_end : end ≡ atom_end place (drop place text)) where
    worded : Worded t here.number level place (drop place text)
    worded = word_on here.rest head no_between no_quote no_opening no_closing

    ends_at : end ≡ place + length worded.bytes
    ends_at = is_end ∙ ap (atom_end place) worded.is ∙ atoms_over worded.bytes worded.rest place worded.are_atoms worded.no_atom

    the_bytes : take (end - place) (drop place text) ≡ worded.bytes
    the_bytes = ap (take (end - place)) worded.is ∙ take_at worded.bytes worded.rest (end - place) (let x = ends_at in omega arith)

    pub found_beyond : IsText text t → sought ≡ Number → (bytes : List ℕ) → bytes ≡ take (end - place) (drop place text) → IsNumberText bytes → (IsWithinLimits bytes → ⊥) → IsFirst (is_sought sought) text place
    unfolding NoneBelow
    found_beyond h e bytes same n beyond = let w = worded in let is_num = word_is_number w.bytes w.scalar (subst IsNumberText (same ∙ the_bytes) n) w.is_text in
        subst (λ s. IsFirst (is_sought s) text place) (sym e) (record {
          tree = t;
          is_text = h;
          number = here.number;
          part = Leaf (at place w.bytes) w.scalar;
          is_number = (w.up, w.label, w.is_at);
          is = subst (λ s. BreaksLimit (Leaf (at place w.bytes) s)) (sym is_num) (λ x. beyond (subst IsWithinLimits (sym (same ∙ the_bytes)) x));
          place = refl;
          first = subst (λ s. NoneBelow s t here.number) e here.none;
        })

    pub over_word : (bytes : List ℕ) → bytes ≡ take (end - place) (drop place text) → ((sought ≡ Number) × IsNumberText bytes × (IsWithinLimits bytes → ⊥) → ⊥) → (place < end) × Here sought text t level end
    over_word bytes same within = let w = worded in let e = ends_at in (
      (let s = w.some in omega arith),
      record {
        number = here.number + 1;
        rest = subst (λ k. Rest t (here.number + 1) level k (drop k text)) (sym e) (subst (Rest t (here.number + 1) level (place + length w.bytes)) (behind text w.bytes w.rest place w.is) w.left);
        none = one_more sought t _ here.number w.up w.label w.is_at here.none (go sought refl w.scalar w.is_text);
      },
    )
      where
        go : (s : Sought) → sought ≡ s → (c : Scalar) → IsScalarText worded.bytes c → is_sought s t here.number (Leaf (at place worded.bytes) c) → ⊥
        go Depth e c h is = is.0
        go Number e Num h is = within (e, subst IsNumberText (sym (same ∙ the_bytes)) h, (λ x. is (subst IsWithinLimits (same ∙ the_bytes) x)))
        go Number e c h is = is

-- ---- behind the text

pub nothing_found : (sought : Sought) (text : List ℕ) (level place : ℕ) → length text ≤ place → ((t : Tree) → IsText text t → Here sought text t level place) → Applies text (fault_of sought) → ⊥
unfolding NoneBelow
nothing_found Depth text level place l here (t, h, d) = let x = here t h in let y = deep_found t depth_limit d in let b = below y.is_at in let s = end_on x.rest (drop_all place text l) in
    x.none y.number y.part (omega arith) (y.up, y.label, y.is_at) (y.is_container, y.lies)
nothing_found Number text level place l here (t, part, h, p, q) = let x = here t h in let y = placed p in let b = below y.is_at in let s = end_on x.rest (drop_all place text l) in
    x.none y.number part (omega arith) (y.up, y.label, y.is_at) q
