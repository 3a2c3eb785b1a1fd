-- Where a walk goes from one point to another: what each call shows of the tokens that it took.
use Rattle.json_text.proofs.Names.{◌≡◌, ◌≢◌, ℕ, suc, ◌+◌, ◌<◌, ◌≤◌, Bool, true, false, IsTrue, cond, List, ◌∷◌, ◌++◌, length, drop, Option, Some}
use Rattle.json_text.proofs.Names.{None, refl, sym, ap, subst, ◌∙◌, arith, Result, Ok, Err, nat_tests, drop_more, Token, Opening, Closing, Text, Word}
use Rattle.json_text.proofs.Names.{State, step, put_leaf, put_open, put_close, put_comma, takes_value, takes_name, closes, after_comma, level_of}
use Rattle.json_text.proofs.Names.{first_of, Took, is_atom, sign_at, IsToken, sign}
use Rattle.json_walk.proofs.Names.{Kind, Extent, Entry, Shape, Array, Object, Level, Root, Inside, Want, Open, BuildFault, NotJson, Memory, Lexed}
use Rattle.json_walk.proofs.Names.{Built, standing, Marked, weight, TokenAt, begins_value, is_text, token_of, end_of, IsListed, place, Point, point}
use Rattle.json_walk.proofs.Names.{Walked, stays, moves, Halts, want_at, no_more, WalksValue}
use Rattle.json_text.specs.declared.tape.Want.TheVariants as wants
use Rattle.json_walk.specs.declared.lexing.Lexed.TheVariants as lexed
use Rattle.json_text.specs.Machine.{Comma, Between}
use Rattle.json_walk.specs.Walked.{NoneAt, IsNameAt, price_of, byte_at, IsBlocked, refused, few, AsksValue, AsksName, with_sign}
use Rattle.json_walk.proofs.Tokens.{refused_all}
use Rattle.json_walk.proofs.TokensAt.{sign_token, token_size, size, ends_at, no_word_marked}
use Rattle.json_walk.proofs.Listed.{in_text}

-- ---- What the machine refuses

unclosing : (shape : Shape) (l : Level) (w : Want) → closes shape (Inside shape) w ≡ false → closes shape l w ≡ false
unclosing shape l w h = grind arith

pub cond_none : {A : Type 0} (b : Bool) (x : A) → b ≡ false → cond b (Some x) None ≡ None
cond_none b x e = grind arith

-- nothing is closed where the test says so
unclosed : (shape : Shape) (p : ℕ) (es : List Entry) (os : List Open) (w : Want) (name : Option Extent) (d : ℕ) → closes shape (Inside shape) w ≡ false → put_close shape p es os w name d ≡ None
unclosed shape p es os w name d n = grind arith

-- a comma comes behind a value alone
no_comma : (l : Level) (w : Want) → (w ≡ wants.Next → ⊥) → after_comma l w ≡ None
no_comma l w n = grind arith

uncommaed : (b : Built) (w : Want) (name : Option Extent) → (w ≡ wants.Next → ⊥) → step Comma (standing b w name) ≡ None
uncommaed b w name n = ap (λ r. put_comma b.entries b.opens r b.deep) (no_comma (level_of b.opens) w n)

-- no value may come
pub unput : (x : Extent) (kind : Kind) (es : List Entry) (os : List Open) (w : Want) (name : Option Extent) (d : ℕ) → takes_value w ≡ false → put_leaf x kind es os w name d ≡ None
unput x kind es os w name d n = grind arith

pub unopened : (shape : Shape) (p : ℕ) (es : List Entry) (os : List Open) (w : Want) (name : Option Extent) (d : ℕ) → takes_value w ≡ false → put_open shape p es os w name d ≡ None
unopened shape p es os w name d n = grind arith

-- where a colon has to come, nothing else is taken
pub colon_only : (tok : Token) (b : Built) (name : Option Extent) → (tok ≡ Between → ⊥) → step tok (standing b wants.Colon name) ≡ None
colon_only tok b name n = grind arith

-- where a name has to come, nothing but a string or the end of an empty object
pub name_only : (tok : Token) (b : Built) (w : Want) → takes_name w ≡ true → is_text tok ≡ false → (w ≡ wants.FirstName → (p : ℕ) → tok ≡ Closing Object p → ⊥) → step tok (standing b w None) ≡ None
name_only tok b w t n c = grind arith

-- where a value has to come, nothing but its beginning or the end of an empty array
pub value_only : (tok : Token) (b : Built) (w : Want) (name : Option Extent) → takes_value w ≡ true → begins_value tok ≡ false → (w ≡ wants.FirstValue → (p : ℕ) → tok ≡ Closing Array p → ⊥) → step tok (standing b w name) ≡ None
value_only tok b w name t n c = grind arith

-- ---- Points

-- so many looks later
abbrev pub later : ℕ → Point → Point
later d a = point a.number a.state (a.looked + d) a.exceeds

module _ (bytes items : List ℕ) where
  -- more looks may be paid for
  walked_paid : (k now more : ℕ) (mark : Bool) (s : State) (c : Point) → now ≤ more → Walked bytes items (point k s now mark) c → Walked bytes items (point k s more mark) c
  walked_paid k now more mark s c l (stays n e x p) = stays n e x (omega (arith, l, p))
  walked_paid k now more mark s c l (moves m v) =
      moves (record { inside = m.inside; end = m.end; taken = m.taken; next = m.next; looks = omega (arith, l, m.looks); marked = m.marked }) v

  walked_same : (a b c : Point) → b.number ≡ a.number → b.state ≡ a.state → b.exceeds ≡ a.exceeds → Walked bytes items b c → Walked bytes items (point a.number a.state b.looked a.exceeds) c
  walked_same a b c n s x w = grind arith

  pub walked_more : {a b c : Point} → Walked bytes items a b → Walked bytes items b c → Walked bytes items a c
  walked_more {a = a} {b = b} {c = c} (stays n s x l) w = walked_paid a.number b.looked a.looked a.exceeds a.state c l (walked_same a b c n s x w)
  walked_more (moves m v) w = moves m (walked_more v w)

  pub walked_later : (d : ℕ) {a b : Point} → Walked bytes items a b → Walked bytes items (later d a) (later d b)
  walked_later d (stays n s x l) = stays n s x (omega (arith, l))
  walked_later d (moves m v) = let price = m.looks in
      moves (record { inside = m.inside; end = m.end; taken = m.taken; next = m.next; looks = omega (arith, price); marked = m.marked }) (walked_later d v)

  blocked_later : (d : ℕ) (a : Point) → IsBlocked bytes items a → IsBlocked bytes items (later d a)
  blocked_later d a (refused l r) = refused l r
  blocked_later d a (few n l out) = few n l out

  pub halts_later : (d : ℕ) {a : Point} → Halts bytes items a → Halts bytes items (later d a)
  halts_later d (b, w, h) = (later d b, walked_later d w, blocked_later d b h)

  pub here : (a : Point) → Walked bytes items a a
  here a = stays refl refl refl (omega arith)

  pub halts_more : {a b : Point} → Walked bytes items a b → Halts bytes items b → Halts bytes items a
  halts_more w (c, v, h) = (c, walked_more w v, h)

  pub here_halts : (a : Point) → IsBlocked bytes items a → Halts bytes items a
  here_halts a h = (a, here a, h)

  -- over one token
  pub one : (k now later : ℕ) (mark mark' : Bool) (tok : Token) (s s' : State) → k < length items → TokenAt bytes (place items k) tok → step tok s ≡ Some s' → later ≤ now + 3 + weight tok
      → Marked bytes (place items k) mark (Ok (place items k + size tok)) mark' → Walked bytes items (point k s now mark) (point (k + 1) s' later mark')
  one k now later mark mark' tok s s' l t e p m = let z : k + 1 ≡ suc k = omega arith in moves (record {
    inside = l;
    end = place items k + length t.bytes;
    taken = record { vs = t.bytes; rest = t.rest; tok = tok; stands = t.stands; is_token = t.is_token; steps = e; end = refl };
    next = z;
    looks = p;
    marked = subst (λ n. Marked bytes (place items k) mark (Ok (place items k + n)) mark') (token_size t.is_token) m;
  }) (here _)

  -- over a token of one byte
  pub over_sign : (k b now later : ℕ) (mark : Bool) (tok : Token) (s s' : State) → k < length items → place items k < length bytes → byte_at bytes items k ≡ b → sign_at (place items k) b ≡ Some tok → is_atom b ≡ false → step tok s ≡ Some s' → later ≤ now + 3
      → Walked bytes items (point k s now mark) (point (k + 1) s' later mark)
  over_sign k b now later mark tok s s' l i q h a e p =
      one k now later mark mark tok s s' l (sign_token bytes (place items k) tok i (ap (sign_at (place items k)) q ∙ h)) e (omega arith) (no_word_marked bytes (place items k) b _ mark q a)

  -- no token that stands here is taken
  pub blocked : (k now : ℕ) (mark : Bool) (s : State) → k < length items → ((tok : Token) → TokenAt bytes (place items k) tok → step tok s ≡ None) → IsBlocked bytes items (point k s now mark)
  blocked k now mark s l h = refused l (λ vs rest tok e t. h tok (record { bytes = vs; rest = rest; stands = e; is_token = t }))

-- ---- Names

pub named_step : (b : Built) (w : Want) (x : Extent) → takes_name w ≡ true → step (Text x) (standing b w None) ≡ Some (standing b wants.Colon (Some x))
named_step b w x t = grind arith

sign_token_byte : (p b : ℕ) (tok : Token) → sign_at p b ≡ Some tok → (tok ≡ Between → b ≡ 58) × ((q : ℕ) → tok ≡ Closing Object q → b ≡ 125) × ((q : ℕ) → tok ≡ Closing Array q → b ≡ 93) × (tok ≡ Comma → b ≡ 44)
sign_token_byte p b (Closing Array q) h = ((λ e. absurd (cc)), (λ r e. absurd (cc)), (λ r e. grind (arith, nat_tests)), (λ e. absurd (cc)))
sign_token_byte p b tok h = grind arith

-- a sign that is none of these
sign_byte : {p : ℕ} {vs rest : List ℕ} {tok : Token} → IsToken p vs tok rest → (b : ℕ) (cs : List ℕ) → b ∷ cs ≡ vs ++ rest → (tok ≡ Between → b ≡ 58) × ((q : ℕ) → tok ≡ Closing Object q → b ≡ 125) × ((q : ℕ) → tok ≡ Closing Array q → b ≡ 93) × (tok ≡ Comma → b ≡ 44)
sign_byte (sign {p = p} {b = b'} {tok = tok} h) b cs e = let f : b' ≡ b = cc in subst (λ x. (tok ≡ Between → x ≡ 58) × ((q : ℕ) → tok ≡ Closing Object q → x ≡ 125) × ((q : ℕ) → tok ≡ Closing Array q → x ≡ 93) × (tok ≡ Comma → x ≡ 44)) f (sign_token_byte p b' tok h)
sign_byte _ b cs e = ((λ e. absurd (cc)), (λ r e. absurd (cc)), (λ r e. absurd (cc)), (λ e. absurd (cc)))

quote_here : {p : ℕ} {vs rest : List ℕ} {x : Extent} → IsToken p vs (Text x) rest → (b : ℕ) (cs : List ℕ) → b ∷ cs ≡ vs ++ rest → b ≡ 34
quote_here h b cs e = grind (arith, nat_tests)

module _ (bytes items : List ℕ) (listed : IsListed bytes items) where
  pub first_byte : (k : ℕ) (tok : Token) → k < length items → TokenAt bytes (place items k) tok → (tok ≡ Between → byte_at bytes items k ≡ 58) × ((q : ℕ) → tok ≡ Closing Object q → byte_at bytes items k ≡ 125) × ((q : ℕ) → tok ≡ Closing Array q → byte_at bytes items k ≡ 93) × (tok ≡ Comma → byte_at bytes items k ≡ 44)
  first_byte k tok l t = sign_byte t.is_token (byte_at bytes items k) (drop (place items k + 1) bytes) (sym (drop_more bytes (place items k) 0 (in_text bytes items listed k l)) ∙ t.stands)

  -- over a name
  over_name : (k now later : ℕ) (mark : Bool) (b : Built) (w : Want) (x : Extent) → k < length items → AsksName bytes items k w → IsNameAt bytes (place items k) (Some x) → later ≤ now + x.len + 3
      → Walked bytes items (point k (standing b w None) now mark) (point (k + 1) (standing b wants.Colon (Some x)) later mark)
  over_name k now later mark b w x l asks t p =
      one bytes items k now later mark mark (Text x) (standing b w None) (standing b wants.Colon (Some x)) l t (named_step b w x asks.0) (omega (arith, p))
      (no_word_marked bytes (place items k) 34 _ mark (quote_here t.is_token (byte_at bytes items k) (drop (place items k + 1) bytes) (sym (drop_more bytes (place items k) 0 (in_text bytes items listed k l)) ∙ t.stands)) refl)

  pub name_and_colon : (k now later : ℕ) (mark : Bool) (b : Built) (w : Want) (x : Extent) → k + 1 < length items → AsksName bytes items k w → IsNameAt bytes (place items k) (Some x) → byte_at bytes items (k + 1) ≡ 58 → later ≤ now + x.len + 6
      → Walked bytes items (point k (standing b w None) now mark) (point (k + 2) (standing b wants.Value (Some x)) later mark)
  name_and_colon k now later mark b w x l asks t q r = let between = now + x.len + 3 in let z : k + 1 + 1 ≡ k + 2 = omega arith in
      walked_more bytes items (over_name k now between mark b w x (omega (arith, l)) asks t (omega arith))
      (subst (λ n. Walked bytes items (point (k + 1) (standing b wants.Colon (Some x)) between mark) (point n (standing b wants.Value (Some x)) later mark)) z
      (over_sign bytes items (k + 1) 58 between later mark Between (standing b wants.Colon (Some x)) (standing b wants.Value (Some x)) l (in_text bytes items listed (k + 1) l) q refl refl refl (omega (arith, r))))

  pub no_name_halts : (k now : ℕ) (mark : Bool) (b : Built) (w : Want) → k < length items → AsksName bytes items k w → IsNameAt bytes (place items k) None → Halts bytes items (point k (standing b w None) now mark)
  no_name_halts k now mark b w l asks none =
      here_halts bytes items _ (blocked bytes items k now mark (standing b w None) l (λ tok t. name_only tok b w asks.0 (none tok t) (λ e p f. asks.1 e ((first_byte k tok l t).1 p f))))

  pub no_colon_halts : (k now later : ℕ) (mark : Bool) (b : Built) (w : Want) (x : Extent) → k + 1 < length items → AsksName bytes items k w → IsNameAt bytes (place items k) (Some x) → later ≤ now + x.len + 3 → byte_at bytes items (k + 1) ≢ 58
      → Halts bytes items (point k (standing b w None) now mark)
  no_colon_halts k now later mark b w x l asks t p n = halts_more bytes items (over_name k now later mark b w x (omega (arith, l)) asks t p)
      (here_halts bytes items _ (blocked bytes items (k + 1) later mark (standing b wants.Colon (Some x)) l (λ tok at. colon_only tok b (Some x) (λ e. n ((first_byte (k + 1) tok l at).0 e)))))

-- the bytes of a name without a backslash are looked at once, those of any other one have been looked at
pub looks_paid : (plain : Bool) (now named colon later len : ℕ) → named ≤ now + len + 1 → (IsTrue plain → named ≤ now + 2) → colon ≤ named + 1 → later ≤ colon + len → (plain ≡ false → later ≡ colon) → later ≤ now + len + 6
looks_paid plain now named colon later len a q c s u = grind arith

-- ---- Values

leaf_any : (x : Extent) (kind : Kind) (es : List Entry) (os : List Open) (name : Option Extent) (d : ℕ) → put_leaf x kind es os wants.FirstValue name d ≡ put_leaf x kind es os wants.Value name d
leaf_any x kind es os name d = grind arith

open_any : (shape : Shape) (p : ℕ) (es : List Entry) (os : List Open) (name : Option Extent) (d : ℕ) → put_open shape p es os wants.FirstValue name d ≡ put_open shape p es os wants.Value name d
open_any shape p es os name d = grind arith

-- a value is taken first as it is later
pub value_any : (tok : Token) (b : Built) (w : Want) (name : Option Extent) → takes_value w ≡ true → begins_value tok ≡ true → step tok (standing b w name) ≡ step tok (standing b wants.Value name)
value_any tok b w name t v = grind arith

pub leaf_level : (x : Extent) (kind : Kind) (es : List Entry) (os : List Open) (name : Option Extent) (d : ℕ) (s : State) → put_leaf x kind es os wants.Value name d ≡ Some s → level_of s.opens ≡ level_of os
leaf_level x kind es os name d s e = grind arith

pub open_level : (shape : Shape) (p : ℕ) (es : List Entry) (os : List Open) (name : Option Extent) (d : ℕ) (s : State) → put_open shape p es os wants.Value name d ≡ Some s → level_of s.opens ≡ Inside shape
open_level shape p es os name d s e = grind arith

-- a string, a number or another word, that is a value
abbrev is_leaf : Token → Bool
is_leaf (Text x) = true
is_leaf (Word x kind) = true
is_leaf _ = false

leaf_begins : (tok : Token) → is_leaf tok ≡ true → begins_value tok ≡ true
leaf_begins tok h = grind arith

leaf_keeps : (tok : Token) (b : Built) (name : Option Extent) (s : State) → is_leaf tok ≡ true → step tok (standing b wants.Value name) ≡ Some s → level_of s.opens ≡ level_of b.opens
leaf_keeps tok b name s h e = grind arith

pub not_root : {l : Level} {shape : Shape} → l ≡ Inside shape → l ≡ Root → ⊥
not_root e f = let g = sym e ∙ f in cc

module _ (bytes items : List ℕ) (listed : IsListed bytes items) where
  -- a token that the machine refuses
  pub refused_halts : (k now : ℕ) (mark : Bool) (tok : Token) (s : State) → k < length items → TokenAt bytes (place items k) tok → step tok s ≡ None → Halts bytes items (point k s now mark)
  refused_halts k now mark tok s l t n = here_halts bytes items _ (refused l (refused_all bytes t.bytes t.rest (place items k) tok s t.stands t.is_token n))

  pub no_value_halts : (k now : ℕ) (mark : Bool) (b : Built) (w : Want) (name : Option Extent) → k < length items → AsksValue bytes items k w → NoneAt begins_value bytes (place items k) → Halts bytes items (point k (standing b w name) now mark)
  no_value_halts k now mark b w name l asks none =
      here_halts bytes items _ (blocked bytes items k now mark (standing b w name) l (λ tok t. value_only tok b w name asks.0 (none tok t) (λ e p f. asks.1 e ((first_byte bytes items listed k tok l t).2 p f))))

  pub leaf_walks : (k now later byte : ℕ) (mark mark' : Bool) (shape : Shape) (old new : Built) (w : Want) (name : Option Extent) (tok : Token) (made : Result (Unit {0}) BuildFault) → k + 1 < length items → level_of old.opens ≡ Inside shape → AsksValue bytes items k w → TokenAt bytes (place items k) tok → is_leaf tok ≡ true
      → Took (step tok (standing old wants.Value name)) made (standing new wants.Next None) → later ≤ now + 3 + weight tok → Marked bytes (place items k) mark (Ok (place items k + size tok)) mark' → byte ≡ byte_at bytes items (k + 1)
      → WalksValue bytes items (point k (standing old w name) now mark) shape (k + 1) (with_sign made byte) new later mark'
  leaf_walks k now later byte mark mark' shape old new w name tok (Ok x) l inside asks t leaf took p m q =
      let any = value_any tok old w name asks.0 (leaf_begins tok leaf) in
      (one bytes items k now later mark mark' tok _ _ (omega (arith, l)) t (any ∙ took) p m, leaf_keeps tok old name _ leaf took ∙ inside, q, l)
  leaf_walks k now later byte mark mark' shape old new w name tok made l inside asks t leaf took p m q = grind arith

  pub open_walks : (k now later : ℕ) (mark mark' : Bool) (shape : Shape) (old new : Built) (w : Want) (name : Option Extent) → k < length items → AsksValue bytes items k w → TokenAt bytes (place items k) (Opening shape (place items k))
      → step (Opening shape (place items k)) (standing old wants.Value name) ≡ Some (standing new (first_of shape) None) → later ≤ now + 1 → Marked bytes (place items k) mark (Ok (place items k + 1)) mark'
      → Walked bytes items (point k (standing old w name) now mark) (point (k + 1) (standing new (want_at false (level_of new.opens)) None) (later + 1) mark') × (level_of new.opens ≡ Root → ⊥)
  open_walks k now later mark mark' shape old new w name l asks t took p m = let tok = Opening shape (place items k) in
      let any = value_any tok old w name asks.0 refl in let level = open_level shape (place items k) old.entries old.opens name old.deep _ took in
      grind (arith, one bytes items k now (later + 1) mark mark' tok _ _ l t (any ∙ took) (omega (arith, p)) m, not_root level)

  -- a leaf is walked by what was lexed
  pub lexed_walks : (k now between later byte : ℕ) (mark mark' : Bool) (shape : Shape) (old new : Built) (w : Want) (name : Option Extent) (l l' : Lexed) (made : Result (Unit {0}) BuildFault) (r : Result (Option ℕ) BuildFault) → k + 1 < length items → level_of old.opens ≡ Inside shape → AsksValue bytes items k w
      → l ≡ l' → TokenAt bytes (place items k) (token_of (place items k) l) → Marked bytes (place items k) mark (Ok (end_of (place items k) l)) mark' → between ≤ now + price_of l
      → is_leaf (token_of (place items k) l') ≡ true → price_of l' ≤ weight (token_of (place items k) l') + 2
      → Took (step (token_of (place items k) l') (standing old wants.Value name)) made (standing new wants.Next None) → later ≤ between + 1 → byte ≡ byte_at bytes items (k + 1) → r ≡ with_sign made byte
      → WalksValue bytes items (point k (standing old w name) now mark) shape (k + 1) r new later mark'
  lexed_walks k now between later byte mark mark' shape old new w name l l' made r inside level asks e t m looked leaf price took last q is =
      let i = place items k in let more = subst (λ x. between ≤ now + price_of x) e looked in
      subst (λ x. WalksValue bytes items (point k (standing old w name) now mark) shape (k + 1) x new later mark') (sym is)
      (leaf_walks k now later byte mark mark' shape old new w name (token_of i l') made inside level asks (subst (λ x. TokenAt bytes i (token_of i x)) e t) leaf took (omega (arith, more, price, last))
      (subst (λ n. Marked bytes i mark (Ok n) mark') (ends_at i l') (subst (λ x. Marked bytes i mark (Ok (end_of i x)) mark') e m)) q)

  inside_walks : (k now later : ℕ) (mark mark' : Bool) (shape inner : Shape) (old new : Built) (w : Want) (name : Option Extent) (l : Lexed) (made : Result (Unit {0}) BuildFault) → k < length items → AsksValue bytes items k w
      → l ≡ lexed.Opens inner → TokenAt bytes (place items k) (token_of (place items k) l) → Marked bytes (place items k) mark (Ok (end_of (place items k) l)) mark' → later ≤ now + price_of l
      → Took (step (Opening inner (place items k)) (standing old wants.Value name)) made (standing new (first_of inner) None)
      → WalksValue bytes items (point k (standing old w name) now mark) shape (k + 1) (no_more made) new later mark'
  inside_walks k now later mark mark' shape inner old new w name l (Ok x) inside asks e t m looked took =
      let i = place items k in let more = subst (λ x. later ≤ now + price_of x) e looked in
      open_walks k now later mark mark' inner old new w name inside asks (subst (λ x. TokenAt bytes i (token_of i x)) e t) took (omega (arith, more)) (subst (λ x. Marked bytes i mark (Ok (end_of i x)) mark') e m)
  inside_walks k now later mark mark' shape inner old new w name l (Err NotJson) inside asks e t m looked took = let i = place items k in
      refused_halts k now mark (Opening inner i) (standing old w name) inside (subst (λ x. TokenAt bytes i (token_of i x)) e t) (value_any (Opening inner i) old w name asks.0 refl ∙ took)
  inside_walks k now later mark mark' shape inner old new w name l (Err Memory) inside asks e t m looked took = tt

  pub opened_walks : (k now later : ℕ) (mark mark' : Bool) (shape inner : Shape) (old new : Built) (w : Want) (name : Option Extent) (l : Lexed) (made : Result (Unit {0}) BuildFault) (r : Result (Option ℕ) BuildFault) → k < length items → AsksValue bytes items k w
      → l ≡ lexed.Opens inner → TokenAt bytes (place items k) (token_of (place items k) l) → Marked bytes (place items k) mark (Ok (end_of (place items k) l)) mark' → later ≤ now + price_of l
      → Took (step (Opening inner (place items k)) (standing old wants.Value name)) made (standing new (first_of inner) None) → r ≡ no_more made
      → WalksValue bytes items (point k (standing old w name) now mark) shape (k + 1) r new later mark'
  opened_walks k now later mark mark' shape inner old new w name l made r inside asks e t m looked took is =
      rw is (inside_walks k now later mark mark' shape inner old new w name l made inside asks e t m looked took)
