-- Strings that are read are spelled so.
use Rattle.std.proofs.Common.{◌≡◌, ℕ, zero, suc, ◌+◌, ◌-◌, ◌*◌, Bool, true, false, cond, ◌||◌, ◌==◌, List, [], ◌∷◌, ◌++◌, length, Option, Some, None, refl, sym, ap, subst, ◌∙◌, append_assoc, arith, ◌⊎◌, inl, inr, nat_lt}
use Rattle.std.proofs.lemmas.Bool.{eqb-true}
use Rattle.std.proofs.lemmas.Bool.Decides.{nat_tests}
use Rattle.std.specs.Char.Utf16.{surrogate_pair_char}
use Rattle.path_grammar.specs.Characters.{Text, is_between, is_digit, is_plain}
use Rattle.path_grammar.specs.Strings.{Hex, digit_hex, upper_hex, lower_hex, FourHex, four, Escape, quote_mark, backspace, form_feed, line_feed, carriage_return, tab, slash, backslash, non_surrogate, surrogate_pair, Inside, end, plain, escaped, StringLiteral, double_quoted, single_quoted}
use Rattle.path_grammar.specs.Reading.{◌>>=◌, behind}
use Rattle.path_grammar.specs.ReadingStrings.{hex_of, hex_at, unit_at, low_at, whole_at, unicode_at, short_of, escape_at, character_at, inside_step, inside_at, string_at}
use Rattle.path_grammar.proofs.Read.{found, pair, same_pair, bind_some, some_is, chosen, guarded, picked, Reads, ReadsOne, reads_behind, behind_reads}

chosen_some : (b : Bool) (x n : ℕ) (other : Option ℕ) → cond b (Some x) other ≡ Some n → ((b ≡ true) × (x ≡ n)) ⊎ ((b ≡ false) × (other ≡ Some n))
chosen_some true x n other e = inl (refl, some_is x n e)
chosen_some false x n other e = inr (refl, e)

hex_is : (c n : ℕ) → hex_of c ≡ Some n → Hex c n
unfolding hex_of
hex_is c n e = elim (chosen_some (is_digit c) _ _ _ e) [
  | inl h ↦ subst (λ (m : ℕ). Hex c m) h.1 (digit_hex h.0)
  | inr h ↦ elim (chosen_some (is_between 0x41 0x46 c) _ _ _ h.1) [
    | inl k ↦ subst (λ (m : ℕ). Hex c m) k.1 (upper_hex k.0)
    | inr k ↦ (let g = guarded (is_between 0x61 0x66 c) (Some (c - 0x57)) n k.1 in subst (λ (m : ℕ). Hex c m) (some_is (c - 0x57) n g.1) (lower_hex g.0))
  ]
]

hex_reads : (t rest : Text) (n : ℕ) → hex_at t ≡ found n rest → (c : ℕ) × (t ≡ c ∷ rest) × Hex c n
unfolding hex_at
hex_reads [] rest n e = absurd cc
hex_reads (c ∷ t) rest n e =
    let b = bind_some (hex_of c) (λ m. found m t) (pair n rest) e in
    let p = same_pair (b.0) n t rest b.2 in
    (c, ap (λ (u : Text). c ∷ u) p.1, subst (λ (m : ℕ). Hex c m) p.0 (hex_is c (b.0) b.1))

four_parts : (a b c d : ℕ) (t t1 t2 t3 rest : Text) → t ≡ a ∷ t1 → t1 ≡ b ∷ t2 → t2 ≡ c ∷ t3 → t3 ≡ d ∷ rest → t ≡ (a ∷ b ∷ c ∷ d ∷ []) ++ rest
four_parts a b c d t t1 t2 t3 rest p q r s = rw (p, q, r, s) refl

unit_reads : ReadsOne unit_at FourHex
unfolding unit_at
unit_reads t rest n e =
    let i = bind_some (hex_at t) (λ x. hex_at x.1 >>= λ j. hex_at j.1 >>= λ k. hex_at k.1 >>= λ l. found (0x1000 * x.0 + 0x100 * j.0 + 0x10 * k.0 + l.0) l.1) (pair n rest) e in
    let j = bind_some (hex_at (i.0.1)) (λ x. hex_at x.1 >>= λ k. hex_at k.1 >>= λ l. found (0x1000 * i.0.0 + 0x100 * x.0 + 0x10 * k.0 + l.0) l.1) (pair n rest) i.2 in
    let k = bind_some (hex_at (j.0.1)) (λ x. hex_at x.1 >>= λ l. found (0x1000 * i.0.0 + 0x100 * j.0.0 + 0x10 * x.0 + l.0) l.1) (pair n rest) j.2 in
    let l = bind_some (hex_at (k.0.1)) (λ x. found (0x1000 * i.0.0 + 0x100 * j.0.0 + 0x10 * k.0.0 + x.0) x.1) (pair n rest) k.2 in
    let p = same_pair (0x1000 * i.0.0 + 0x100 * j.0.0 + 0x10 * k.0.0 + l.0.0) n (l.0.1) rest l.2 in
    let a = hex_reads t (i.0.1) (i.0.0) i.1 in
    let b = hex_reads (i.0.1) (j.0.1) (j.0.0) j.1 in
    let c = hex_reads (j.0.1) (k.0.1) (k.0.0) k.1 in
    let d = hex_reads (k.0.1) (l.0.1) (l.0.0) l.1 in
    record {
      front = a.0 ∷ b.0 ∷ c.0 ∷ d.0 ∷ [];
      parts = four_parts (a.0) (b.0) (c.0) (d.0) t (i.0.1) (j.0.1) (k.0.1) rest a.1 b.1 c.1 (d.1 ∙ ap (λ (u : Text). d.0 ∷ u) p.1);
      is = subst (λ (m : ℕ). FourHex (a.0 ∷ b.0 ∷ c.0 ∷ d.0 ∷ []) m) p.0 (four a.2 b.2 c.2 d.2);
    }

-- the second half of a pair, with the mark before it
abbrev Low : ℕ → Text → ℕ → Type 0
Low high t c = (s : Text) × (low : ℕ) × (t ≡ 0x5C ∷ 0x75 ∷ s) × FourHex s low × (is_between 0xDC00 0xDFFF low ≡ true) × (surrogate_pair_char high low ≡ c)

low_reads : (high : ℕ) → ReadsOne (low_at high) (Low high)
unfolding low_at
low_reads high t rest c e =
    let give = λ (x : ℕ × Text). cond (is_between 0xDC00 0xDFFF x.0) (found (surrogate_pair_char high x.0) x.1) None in
    let u = bind_some (behind 0x5C t) (λ u. behind 0x75 u >>= λ v. unit_at v >>= give) (pair c rest) e in
    let v = bind_some (behind 0x75 (u.0)) (λ v. unit_at v >>= give) (pair c rest) u.2 in
    let x = bind_some (unit_at (v.0)) give (pair c rest) v.2 in
    let g = guarded (is_between 0xDC00 0xDFFF (x.0.0)) (found (surrogate_pair_char high (x.0.0)) (x.0.1)) (pair c rest) x.2 in
    let p = same_pair (surrogate_pair_char high (x.0.0)) c (x.0.1) rest g.1 in
    let r = unit_reads (v.0) (x.0.1) (x.0.0) x.1 in
    let parts : t ≡ (0x5C ∷ 0x75 ∷ r.front) ++ rest = behind_reads 0x5C t (u.0) u.1 ∙ ap (λ (w : Text). 0x5C ∷ w) (behind_reads 0x75 (u.0) (v.0) v.1) ∙ ap (λ (w : Text). 0x5C ∷ 0x75 ∷ w) (r.parts ∙ ap (λ (w : Text). r.front ++ w) p.1) in
    record { front = 0x5C ∷ 0x75 ∷ r.front; parts = parts; is = (r.front, x.0.0, refl, r.is, g.0, p.0) }

is_high : (u : ℕ) → (nat_lt u 0xD800 || nat_lt 0xDFFF u) ≡ false → nat_lt u 0xDC00 ≡ true → is_between 0xD800 0xDBFF u ≡ true
is_high u e f = grind (arith, nat_tests)

pair_escape : (quote u c : ℕ) (t low : Text) → FourHex t u → is_between 0xD800 0xDBFF u ≡ true → Low u low c → Escape quote (0x75 ∷ (t ++ low)) c
pair_escape quote u c t low f h l =
    subst (λ (w : Text). Escape quote (0x75 ∷ (t ++ w)) c) (sym l.2) (subst (λ (d : ℕ). Escape quote (0x75 ∷ (t ++ (0x5C ∷ 0x75 ∷ l.0))) d) l.5 (surrogate_pair f l.3 h l.4))

unicode_reads : (quote : ℕ) → ReadsOne unicode_at (λ t c. Escape quote (0x75 ∷ t) c)
unfolding unicode_at whole_at
unicode_reads quote t rest c e =
    let x = bind_some (unit_at t) (λ x. whole_at x.0 x.1) (pair c rest) e in
    let u = x.0.0 in
    let r = unit_reads t (x.0.1) u x.1 in
    elim (picked (nat_lt u 0xD800 || nat_lt 0xDFFF u) _ _ _ _ _ x.2) [
      | inl h ↦ record { front = r.front; parts = r.parts ∙ ap (λ (w : Text). r.front ++ w) h.1.1; is = subst (λ (d : ℕ). Escape quote (0x75 ∷ r.front) d) h.1.0 (non_surrogate r.is h.0) }
      | inr h ↦ (
          let g = guarded (nat_lt u 0xDC00) (low_at u (x.0.1)) (pair c rest) h.1 in
          let l = low_reads u (x.0.1) rest c g.1 in
          record { front = r.front ++ l.front; parts = r.parts ∙ ap (λ (w : Text). r.front ++ w) l.parts ∙ sym (append_assoc r.front l.front rest); is = pair_escape quote u c r.front l.front r.is (is_high u h.0 g.0) l.is })
    ]

-- a short escape
short_is : (quote c v : ℕ) → short_of c ≡ Some v → Escape quote (c ∷ []) v
unfolding short_of
short_is quote c v e = elim (chosen_some (c == 0x62) _ _ _ e) [
  | inl h ↦ same 0x62 0x08 (eqb-true c 0x62 h.0) h.1 backspace
  | inr h ↦ elim (chosen_some (c == 0x66) _ _ _ h.1) [
    | inl h ↦ same 0x66 0x0C (eqb-true c 0x66 h.0) h.1 form_feed
    | inr h ↦ elim (chosen_some (c == 0x6E) _ _ _ h.1) [
      | inl h ↦ same 0x6E 0x0A (eqb-true c 0x6E h.0) h.1 line_feed
      | inr h ↦ elim (chosen_some (c == 0x72) _ _ _ h.1) [
        | inl h ↦ same 0x72 0x0D (eqb-true c 0x72 h.0) h.1 carriage_return
        | inr h ↦ elim (chosen_some (c == 0x74) _ _ _ h.1) [
          | inl h ↦ same 0x74 0x09 (eqb-true c 0x74 h.0) h.1 tab
          | inr h ↦ elim (chosen_some (c == 0x2F) _ _ _ h.1) [
            | inl h ↦ same 0x2F 0x2F (eqb-true c 0x2F h.0) h.1 slash
            | inr h ↦ (let g = guarded (c == 0x5C) (Some 0x5C) v h.1 in same 0x5C 0x5C (eqb-true c 0x5C g.0) (some_is 0x5C v g.1) backslash)
          ]
        ]
      ]
    ]
  ]
]
  where
    same : (k w : ℕ) → c ≡ k → w ≡ v → Escape quote (k ∷ []) w → Escape quote (c ∷ []) v
    same k w p q h = subst (λ (d : ℕ). Escape quote (d ∷ []) v) (sym p) (subst (λ (d : ℕ). Escape quote (k ∷ []) d) q h)

short_reads : (quote c : ℕ) (t rest : Text) (v : ℕ) → (short_of c >>= λ w. found w t) ≡ found v rest → Reads (Escape quote) (c ∷ t) v rest
short_reads quote c t rest v e =
    let b = bind_some (short_of c) (λ w. found w t) (pair v rest) e in
    let p = same_pair (b.0) v t rest b.2 in
    record { front = c ∷ []; parts = ap (λ (u : Text). c ∷ u) p.1; is = subst (λ (w : ℕ). Escape quote (c ∷ []) w) p.0 (short_is quote c (b.0) b.1) }

quote_reads : (quote c : ℕ) (t rest : Text) (v : ℕ) → c ≡ quote → quote ≡ v → t ≡ rest → Reads (Escape quote) (c ∷ t) v rest
quote_reads quote c t rest v p q r = record { front = quote ∷ []; parts = rw (p, r) refl; is = subst (λ (w : ℕ). Escape quote (quote ∷ []) w) q quote_mark }

escape_reads : (quote : ℕ) → ReadsOne (escape_at quote) (Escape quote)
unfolding escape_at
escape_reads quote [] rest v e = absurd cc
escape_reads quote (c ∷ t) rest v e = elim (picked (c == quote) _ _ _ _ _ e) [
  | inl h ↦ quote_reads quote c t rest v (eqb-true c quote h.0) h.1.0 h.1.1
  | inr h ↦ elim (chosen (c == 0x75) _ _ _ h.1) [
    | inl k ↦ reads_behind (λ u w. Escape quote (0x75 ∷ u) w) (Escape quote) c 0x75 t rest v (eqb-true c 0x75 k.0) (λ u w. w) (unicode_reads quote t rest v k.1)
    | inr k ↦ short_reads quote c t rest v k.1
  ]
]

-- one character, as itself or escaped
data One (quote other : ℕ) : Text → ℕ → Type 0 where
  itself : {c : ℕ} → (is_plain c || c == other) ≡ true → One quote other (c ∷ []) c
  by_escape : {c : ℕ} {t : Text} → Escape quote t c → One quote other (0x5C ∷ t) c

character_reads : (quote other : ℕ) → ReadsOne (character_at quote other) (One quote other)
unfolding character_at
character_reads quote other [] rest v e = absurd cc
character_reads quote other (c ∷ t) rest v e = elim (chosen (c == 0x5C) _ _ _ e) [
  | inl h ↦ reads_behind (Escape quote) (One quote other) c 0x5C t rest v (eqb-true c 0x5C h.0) (λ u w. by_escape w) (escape_reads quote t rest v h.1)
  | inr h ↦ (
      let g = guarded (is_plain c || c == other) (found c t) (pair v rest) h.1 in
      let p = same_pair c v t rest g.1 in
      record { front = c ∷ []; parts = ap (λ (u : Text). c ∷ u) p.1; is = subst (λ (w : ℕ). One quote other (c ∷ []) w) p.0 (itself g.0) })
]

one_inside : (quote other : ℕ) (t u : Text) (c : ℕ) (cs : List ℕ) → One quote other t c → Inside quote other u cs → Inside quote other (t ++ u) (c ∷ cs)
one_inside quote other _ u c cs (itself h) i = plain h i
one_inside quote other _ u c cs (by_escape h) i = escaped h i

-- what stands before the quote that closes
abbrev pub Closed : ℕ → ℕ → Text → List ℕ → Type 0
Closed quote other t cs = (u : Text) × (t ≡ u ++ (quote ∷ [])) × Inside quote other u cs

closed_here : (quote other : ℕ) (t u rest : Text) (cs : List ℕ) → behind quote t ≡ Some u → found [] u ≡ found cs rest → Reads (Closed quote other) t cs rest
closed_here quote other t u rest cs b e =
    let p = same_pair [] cs u rest e in
    record { front = quote ∷ []; parts = behind_reads quote t u b ∙ ap (λ (w : Text). quote ∷ w) p.1; is = ([], refl, subst (λ (xs : List ℕ). Inside quote other [] xs) p.0 end) }

three : (t u v w rest : Text) (q : ℕ) → t ≡ u ++ w → w ≡ (v ++ (q ∷ [])) ++ rest → t ≡ ((u ++ v) ++ (q ∷ [])) ++ rest
three t u v w rest q p r = rw (p, r) (simp append_assoc)

closed_later : (quote other n : ℕ) (t rest : Text) (cs : List ℕ) → ReadsOne (inside_at quote other n) (Closed quote other) → (character_at quote other t >>= λ x. inside_at quote other n x.1 >>= λ xs. found (x.0 ∷ xs.0) xs.1) ≡ found cs rest → Reads (Closed quote other) t cs rest
closed_later quote other n t rest cs ih e =
    let x = bind_some (character_at quote other t) (λ x. inside_at quote other n x.1 >>= λ xs. found (x.0 ∷ xs.0) xs.1) (pair cs rest) e in
    let xs = bind_some (inside_at quote other n (x.0.1)) (λ xs. found (x.0.0 ∷ xs.0) xs.1) (pair cs rest) x.2 in
    let p = same_pair (x.0.0 ∷ xs.0.0) cs (xs.0.1) rest xs.2 in
    let r = character_reads quote other t (x.0.1) (x.0.0) x.1 in
    let m = ih (x.0.1) (xs.0.1) (xs.0.0) xs.1 in
    let u = m.is.0 in
    record {
      front = (r.front ++ u) ++ (quote ∷ []);
      parts = three t r.front u (x.0.1) rest quote r.parts (m.parts ∙ ap (λ (w : Text). m.front ++ w) p.1 ∙ ap (λ (w : Text). w ++ rest) m.is.1);
      is = (r.front ++ u, refl, subst (λ (ys : List ℕ). Inside quote other (r.front ++ u) ys) p.0 (one_inside quote other r.front u (x.0.0) (xs.0.0) r.is m.is.2));
    }

inside_read : (quote other n : ℕ) (t rest : Text) (cs : List ℕ) (o : Option Text) → ReadsOne (inside_at quote other n) (Closed quote other) → behind quote t ≡ o → inside_step quote other (inside_at quote other n) t o ≡ found cs rest → Reads (Closed quote other) t cs rest
unfolding inside_step
inside_read quote other n t rest cs (Some u) ih b e = closed_here quote other t u rest cs b e
inside_read quote other n t rest cs None ih b e = closed_later quote other n t rest cs ih e

inside_reads : (quote other n : ℕ) → ReadsOne (inside_at quote other n) (Closed quote other)
unfolding inside_at
inside_reads quote other zero t rest cs e = absurd cc
inside_reads quote other (suc n) t rest cs e = inside_read quote other n t rest cs (behind quote t) (inside_reads quote other n) refl e

double_is : (u : Text) (cs : List ℕ) → Closed 0x22 0x27 u cs → StringLiteral (0x22 ∷ u) cs
double_is u cs h = subst (λ (w : Text). StringLiteral (0x22 ∷ w) cs) (sym h.1) (double_quoted h.2)

single_is : (u : Text) (cs : List ℕ) → Closed 0x27 0x22 u cs → StringLiteral (0x27 ∷ u) cs
single_is u cs h = subst (λ (w : Text). StringLiteral (0x27 ∷ w) cs) (sym h.1) (single_quoted h.2)

pub string_reads : ReadsOne string_at StringLiteral
unfolding string_at
string_reads [] rest cs e = absurd cc
string_reads (c ∷ t) rest cs e = elim (chosen (c == 0x22) _ _ _ e) [
  | inl h ↦ reads_behind (Closed 0x22 0x27) StringLiteral c 0x22 t rest cs (eqb-true c 0x22 h.0) (λ u w. double_is u cs w) (inside_reads 0x22 0x27 (length t) t rest cs h.1)
  | inr h ↦ (
      let g = guarded (c == 0x27) (inside_at 0x27 0x22 (length t) t) (pair cs rest) h.1 in
      reads_behind (Closed 0x27 0x22) StringLiteral c 0x27 t rest cs (eqb-true c 0x27 g.0) (λ u w. single_is u cs w) (inside_reads 0x27 0x22 (length t) t rest cs g.1))
]
