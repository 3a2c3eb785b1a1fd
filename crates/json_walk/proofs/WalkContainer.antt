-- Where a walk enters a container, goes from child to child, and leaves it.
use Rattle.json_text.proofs.Names.{◌≡◌, ◌≢◌, ℕ, suc, ◌+◌, ◌<◌, ◌≤◌, ◌⊎◌, inl, inr, Bool, true, false, not, cond, List, length, Option, Some, None}
use Rattle.json_text.proofs.Names.{refl, sym, ap, subst, ◌∙◌, arith, Result, Ok, Err, eqb, nat_tests, Token, Opening, Closing, Text, Word, State}
use Rattle.json_text.proofs.Names.{step, put_close, closes, level_of, first_of, Took, IsSmall, sign_at, is_atom, Taken, cases_Bool}
use Rattle.json_walk.proofs.Names.{Extent, Entry, Shape, Array, Object, Level, Root, Inside, Want, Open, BuildFault, NotJson, Memory, Lexed, Spot}
use Rattle.json_walk.proofs.Names.{Built, standing, Marked, TokenAt, begins_value, is_text, IsListed, place, Point, point, Walked, stays, moves}
use Rattle.json_walk.proofs.Names.{Halts, want_at, WalksValue, no_more, token_of, end_of}
use Rattle.std.specs.Prelude.{IfOk}
use Rattle.std.proofs.lemmas.Option.{none-some, same_Some}
use Rattle.json_text.specs.declared.tape.Kind.TheVariants as kinds
use Rattle.json_text.specs.declared.tape.Want.TheVariants as wants
use Rattle.json_walk.specs.declared.lexing.Lexed.TheVariants as lexed
use Rattle.json_text.specs.Machine.{Comma}
use Rattle.json_walk.specs.Walked.{AsksValue, AsksName, byte_at, Outlasts, few, AsksChild, shape_of, width, ending, paid, WalksInto, WalksTo, spot_behind, price_of, behind, is_whole, spot_after}
use Rattle.json_walk.proofs.WalkSteps.{not_root, first_byte, blocked, here_halts, halts_more, walked_more, one, over_sign, refused_halts, value_only, name_only, colon_only, value_any, named_step, open_level}
use Rattle.json_walk.proofs.Listed.{in_text}
use Rattle.json_walk.proofs.TokensAt.{sign_token}
use Rattle.json_walk.proofs.MachineWalk.{step_small}

is_first : (b : Bool) → true ≡ not b → b ≡ false
is_first b e = grind arith

-- a constant that is not 0
pub is_object : (n : ℕ) → (n ≡ 0 → ⊥) → false ≡ not (not (eqb n 0))
is_object n h = grind (arith, nat_tests)

pub is_behind : (b : Bool) → false ≡ not b → b ≡ true
is_behind b e = grind arith

other_close : (shape other : Shape) → (other ≡ shape → ⊥) → closes other (Inside shape) wants.Next ≡ false
other_close shape other n = grind arith

close_other : (shape other : Shape) (p : ℕ) (es : List Entry) (os : List Open) (d : ℕ) → level_of os ≡ Inside shape → (other ≡ shape → ⊥) → put_close other p es os wants.Next None d ≡ None
close_other shape other p es os d l n = grind arith

same_closing : (p : ℕ) (shape other : Shape) → other ≡ shape → Closing other p ≡ Closing shape p
same_closing p shape other e = ap (λ x. Closing x p) e

-- behind a value only a comma or the end is taken
next_only : (tok : Token) (b : Built) (shape : Shape) → level_of b.opens ≡ Inside shape → (tok ≡ Comma → ⊥) → ((p : ℕ) → tok ≡ Closing shape p → ⊥) → step tok (standing b wants.Next None) ≡ None
next_only tok b shape l n c = grind arith

first_close : (shape : Shape) → closes shape (Inside shape) (first_of shape) ≡ closes shape (Inside shape) wants.Next
first_close shape = grind arith

cond_same : {A : Type 0} (b c : Bool) (x : A) → b ≡ c → cond b (Some x) None ≡ cond c (Some x) None
cond_same b c x e = ap (λ y. cond y (Some x) None) e

close_first : (shape : Shape) (p : ℕ) (es : List Entry) (os : List Open) (d : ℕ) → level_of os ≡ Inside shape → put_close shape p es os (first_of shape) None d ≡ put_close shape p es os wants.Next None d
close_first shape p es os d l = grind arith

-- a container is closed at its first child's place as it is behind a value
close_any : (shape : Shape) (p : ℕ) (b : Built) (behind : Bool) → level_of b.opens ≡ Inside shape → step (Closing shape p) (standing b (want_at behind (level_of b.opens)) None) ≡ step (Closing shape p) (standing b wants.Next None)
close_any shape p b behind l = grind arith

ending_sign : (shape : Shape) (p : ℕ) → sign_at p (ending shape) ≡ Some (Closing shape p)
ending_sign shape p = grind arith

ending_atom : (shape : Shape) → is_atom (ending shape) ≡ false
ending_atom shape = grind arith

-- what a child has to begin with behind a comma
abbrev next_of : Shape → Want
next_of Array = wants.Value
next_of Object = wants.Name

comma_step : (b : Built) (shape : Shape) → level_of b.opens ≡ Inside shape → step Comma (standing b wants.Next None) ≡ Some (standing b (next_of shape) None)
comma_step b shape l = grind arith

module _ (bytes items : List ℕ) (listed : IsListed bytes items) where
  next_asks : (shape : Shape) (k : ℕ) → AsksChild bytes items k shape (next_of shape)
  next_asks shape k = search arith

  first_asks : (shape : Shape) (k : ℕ) → byte_at bytes items k ≢ ending shape → AsksChild bytes items k shape (first_of shape)
  first_asks shape k n = search arith

  pub no_sign_halts : (k now : ℕ) (mark : Bool) (b : Built) (shape : Shape) → k < length items → level_of b.opens ≡ Inside shape → byte_at bytes items k ≢ 44 → byte_at bytes items k ≢ ending shape → Halts bytes items (point k (standing b wants.Next None) now mark)
  no_sign_halts k now mark b shape l level comma end =
      here_halts bytes items _ (blocked bytes items k now mark (standing b wants.Next None) l (λ tok t.
      let first = first_byte bytes items listed k tok l t in
      next_only tok b shape level (λ e. comma (first.3 e)) (closing shape end first.1 first.2)))
    where
      closing : (shape : Shape) → byte_at bytes items k ≢ ending shape → {tok : Token} → ((q : ℕ) → tok ≡ Closing Object q → byte_at bytes items k ≡ 125) → ((q : ℕ) → tok ≡ Closing Array q → byte_at bytes items k ≡ 93) → (p : ℕ) → tok ≡ Closing shape p → ⊥
      closing shape n object array p e = grind arith

  pub comma_walks : (k now later : ℕ) (mark : Bool) (b : Built) (shape : Shape) → k < length items → level_of b.opens ≡ Inside shape → byte_at bytes items k ≡ 44 → later ≤ now + 3
      → (w : Want) × AsksChild bytes items (k + 1) shape w × Walked bytes items (point k (standing b wants.Next None) now mark) (point (k + 1) (standing b w None) later mark)
  comma_walks k now later mark b shape l level q p = (next_of shape, next_asks shape (k + 1), over_sign bytes items k 44 now later mark Comma _ _ l (in_text bytes items listed k l) q refl refl (comma_step b shape level) p)

  close_walks : (k now later : ℕ) (mark : Bool) (old new : Built) (shape : Shape) → k < length items → byte_at bytes items k ≡ ending shape → step (Closing shape (place items k)) (standing old wants.Next None) ≡ Some (standing new wants.Next None) → later ≤ now + 3
      → Walked bytes items (point k (standing old wants.Next None) now mark) (point (k + 1) (standing new wants.Next None) later mark)
  close_walks k now later mark old new shape l q took p = over_sign bytes items k (ending shape) now later mark (Closing shape (place items k)) _ _ l (in_text bytes items listed k l) q (ending_sign shape (place items k)) (ending_atom shape) took p

  -- a container that a sign ends
  pub ended_walks : (k now : ℕ) (mark : Bool) (old new : Built) (shape : Shape) (made : Result (Unit {0}) BuildFault) (r : Result Spot BuildFault) → k < length items → byte_at bytes items k ≡ ending shape → Took (step (Closing shape (place items k)) (standing old wants.Next None)) made (standing new wants.Next None) → r ≡ spot_behind made k
      → WalksTo bytes items (point k (standing old wants.Next None) now mark) r new now mark
  ended_walks k now mark old new shape (Ok x) r l q took e = rw e (close_walks k now now mark old new shape l q took (omega arith))
  ended_walks k now mark old new shape (Err NotJson) r l q took e =
      rw e (refused_halts bytes items listed k now mark (Closing shape (place items k)) _ l (sign_token bytes (place items k) (Closing shape (place items k)) (in_text bytes items listed k l) (ap (sign_at (place items k)) q ∙ ending_sign shape (place items k))) took)
  ended_walks k now mark old new shape (Err Memory) r l q took e = rw e tt

  paid_least : (behind : Bool) (now : ℕ) → now ≤ paid behind now
  paid_least true now = omega arith
  paid_least false now = omega arith

  -- the state before a container's first child, or behind one
  entry_state : (b : Built) (shape : Shape) (behind : Bool) → level_of b.opens ≡ Inside shape → standing b (want_at behind (level_of b.opens)) None ≡ standing b (want_at behind (Inside shape)) None
  entry_state b shape behind l = ap (λ v. standing b (want_at behind v) None) l

  pub closed_entered : (k next now later : ℕ) (mark : Bool) (behind : Bool) (old new : Built) (shape : Shape) (made : Result (Unit {0}) BuildFault) (r : Result (Option ℕ) BuildFault) → next ≡ k + 1 → k < length items → level_of old.opens ≡ Inside shape → byte_at bytes items k ≡ ending shape → Took (step (Closing shape (place items k)) (standing old wants.Next None)) made (standing new wants.Next None) → later ≤ now + 1 → r ≡ no_more made
      → WalksInto bytes items (point k (standing old (want_at behind (level_of old.opens)) None) (paid behind now) mark) shape next r new later mark
  closed_entered k next now later mark behind old new shape (Ok x) r e l level q took p is =
      let least = paid_least behind now in
      rw is (subst (λ n. Walked bytes items (point k (standing old (want_at behind (level_of old.opens)) None) (paid behind now) mark) (point n (standing new wants.Next None) later mark)) (sym e) (over_sign bytes items k (ending shape) (paid behind now) later mark (Closing shape (place items k)) _ _ l (in_text bytes items listed k l) q (ending_sign shape (place items k)) (ending_atom shape) (close_any shape (place items k) old behind level ∙ took) (omega (arith, p, least))))
  closed_entered k next now later mark behind old new shape (Err NotJson) r e l level q took p is =
      rw is (refused_halts bytes items listed k (paid behind now) mark (Closing shape (place items k)) _ l (sign_token bytes (place items k) (Closing shape (place items k)) (in_text bytes items listed k l) (ap (sign_at (place items k)) q ∙ ending_sign shape (place items k))) (close_any shape (place items k) old behind level ∙ took))
  closed_entered k next now later mark behind old new shape (Err Memory) r e l level q took p is = rw is tt

  pub first_entered : (k next now later : ℕ) (mark : Bool) (behind : Bool) (b : Built) (shape : Shape) → true ≡ not behind → k ≤ next → level_of b.opens ≡ Inside shape → byte_at bytes items k ≢ ending shape → later ≤ now + 1
      → WalksInto bytes items (point k (standing b (want_at behind (level_of b.opens)) None) (paid behind now) mark) shape next (Ok (Some k)) b later mark
  first_entered k next now later mark behind b shape e' le level n p = let e = is_first behind e' in
      (level, le, (first_of shape, first_asks shape k n, stays refl (sym (ap (λ x. standing b (want_at x (level_of b.opens)) None) e ∙ entry_state b shape false level)) refl (subst (λ x. later ≤ paid x now) (sym e) p)))

  pub comma_entered : (k next now later : ℕ) (mark : Bool) (behind : Bool) (b : Built) (shape : Shape) → false ≡ not behind → next ≡ k + 1 → k < length items → level_of b.opens ≡ Inside shape → byte_at bytes items k ≡ 44 → later ≤ now + 1
      → WalksInto bytes items (point k (standing b (want_at behind (level_of b.opens)) None) (paid behind now) mark) shape next (Ok (Some next)) b later mark
  comma_entered k next now later mark behind b shape e' f l level q p = let e = is_behind behind e' in
      let w = comma_walks k now later mark b shape l level q (omega (arith, p)) in grind arith

  pub none_entered : (k now : ℕ) (mark : Bool) (behind : Bool) (b : Built) (shape : Shape) → false ≡ not behind → k < length items → level_of b.opens ≡ Inside shape → byte_at bytes items k ≢ 44 → byte_at bytes items k ≢ ending shape
      → Halts bytes items (point k (standing b (want_at behind (level_of b.opens)) None) (paid behind now) mark)
  none_entered k now mark behind b shape e' l level comma end = let e = is_behind behind e' in
      subst (λ x. Halts bytes items (point k (standing b (want_at x (level_of b.opens)) None) (paid x now) mark)) (sym e) (no_sign_halts k now mark b shape l level comma end)

  pub over_halts : (k now : ℕ) (mark : Bool) (s : State) (shape : Shape) → length items ≤ k → level_of s.opens ≡ Inside shape → Halts bytes items (point k s now mark)
  over_halts k now mark s shape l level = here_halts bytes items _ (few 0 (omega (arith, l)) (λ h. not_root level h.0))

pub closed_behind : (k : ℕ) (made : Result (Unit {0}) BuildFault) (r : Result Spot BuildFault) → r ≡ spot_behind made k → IfOk r (λ next. (next.number ≡ k + 1) × (next.behind ≡ true))
closed_behind k made r e = grind arith

pub if_ok : {A : Type 0} {P Q : A → Type 0} (r : Result A BuildFault) → ((x : A) → P x → Q x) → IfOk r P → IfOk r Q
if_ok r f h = search arith

-- ---- Children

-- a child may stand at place number k, in a container on this level
abbrev pub MayContinue : (bytes items : List ℕ) → Point → ℕ → Level → Built → ℕ → Bool → Type 0
MayContinue bytes items a k level b looked mark = (shape : Shape) → level ≡ Inside shape → (w : Want) × AsksChild bytes items k shape w × Walked bytes items a (point k (standing b w None) looked mark)

pub small_state : (k : ℕ) (b : Built) (v w : Want) (m n : Option Extent) → IsSmall k (standing b v m) → IsSmall k (standing b w n)
small_state k b v w m n h = record { entries = h.entries; opens = h.opens }

text_or : (tok : Token) → (is_text tok ≡ false) ⊎ ((x : Extent) × (tok ≡ Text x))
text_or tok = grind arith

value_level : (tok : Token) (b : Built) (shape : Shape) (name : Option Extent) (s : State) → level_of b.opens ≡ Inside shape → begins_value tok ≡ true → step tok (standing b wants.Value name) ≡ Some s → level_of s.opens ≡ Root → ⊥
value_level tok b shape name s l v e = grind arith

module _ (bytes items : List ℕ) (listed : IsListed bytes items) where
  pub walked_small : (a b : Point) → Walked bytes items a b → IsSmall a.number a.state → IsSmall b.number b.state
  walked_small a b (stays n s x l) h = subst (λ k. IsSmall k b.state) (sym n) (subst (IsSmall a.number) (sym s) h)
  walked_small a b (moves {b = c} m w) h =
      walked_small c b w (step_small a.number c.number m.taken.tok a.state c.state (omega (arith, m.next)) m.taken.steps h)

  pub value_walks_more : {a b : Point} (shape : Shape) (k looked : ℕ) (r : Result (Option ℕ) BuildFault) (new : Built) (mark : Bool) → Walked bytes items a b → WalksValue bytes items b shape k r new looked mark → WalksValue bytes items a shape k r new looked mark
  value_walks_more shape k looked (Ok (Some byte)) new mark w h = (walked_more bytes items w h.0, h.1, h.2, h.3)
  value_walks_more shape k looked (Ok None) new mark w h = (walked_more bytes items w h.0, h.1)
  value_walks_more shape k looked r new mark w h = grind (arith, halts_more)

  pub walk_walks_more : {a b : Point} (looked : ℕ) (r : Result Spot BuildFault) (new : Built) (mark : Bool) → Walked bytes items a b → WalksTo bytes items b r new looked mark → WalksTo bytes items a r new looked mark
  walk_walks_more looked r new mark w v = search (arith, walked_more, halts_more)

  pub walks_fault : (a : Point) (shape : Shape) (k looked : ℕ) (fault : BuildFault) (new : Built) (mark : Bool) → WalksValue bytes items a shape k (Err fault) new looked mark → WalksTo bytes items a (Err fault) new looked mark
  walks_fault a shape k looked fault new mark h = search arith

  -- ---- Too few places

  at_token : (k j : ℕ) (s s' : State) → (t : Taken bytes (place items k) j s s') → TokenAt bytes (place items k) t.tok
  at_token k j s s' t = record { bytes = t.vs; rest = t.rest; stands = t.stands; is_token = t.is_token }

  none_some : {A : Type 0} {o : Option A} (x : A) → o ≡ None → o ≡ Some x → ⊥
  none_some x e f = none-some x (sym e ∙ f)

  value_outlasts : (k : ℕ) (b : Built) (shape : Shape) (w : Want) (name : Option Extent) → level_of b.opens ≡ Inside shape → AsksValue bytes items k w → Outlasts bytes items 1 k (standing b w name)
  value_outlasts k b shape w name l asks = (
    (λ h. not_root l h.0),
    λ j s' inside t h. elim (cases_Bool (begins_value t.tok)) [
      | inr n ↦ none_some s' (value_only t.tok b w name asks.0 n (λ e p f. asks.1 e ((first_byte bytes items listed k t.tok inside (at_token k j _ s' t)).2 p f))) t.steps
      | inl y ↦ value_level t.tok b shape name s' l y (sym (value_any t.tok b w name asks.0 y) ∙ t.steps) h.0
    ],
  )

  colon_outlasts : (k : ℕ) (b : Built) (shape : Shape) (x : Extent) → level_of b.opens ≡ Inside shape → Outlasts bytes items 2 k (standing b wants.Colon (Some x))
  colon_outlasts k b shape x l = grind (arith, not_root, none_some, colon_only, same_Some, value_outlasts)

  name_outlasts : (k : ℕ) (b : Built) (shape : Shape) (w : Want) → level_of b.opens ≡ Inside shape → AsksName bytes items k w → Outlasts bytes items 3 k (standing b w None)
  name_outlasts k b shape w l asks = (
    (λ h. not_root l h.0),
    λ j s' inside t. elim (text_or t.tok) [
      | inl n ↦ absurd (none_some s' (name_only t.tok b w asks.0 n (λ e p f. asks.1 e ((first_byte bytes items listed k t.tok inside (at_token k j _ s' t)).1 p f))) t.steps)
      | inr (x, y) ↦ (let same : standing b wants.Colon (Some x) ≡ s' = same_Some (standing b wants.Colon (Some x)) s' (sym (named_step b w x asks.0) ∙ ap (λ tok. step tok (standing b w None)) (sym y) ∙ t.steps) in
          subst (Outlasts bytes items 2 (suc k)) same (colon_outlasts (suc k) b shape x l))
    ],
  )

  pub few_halts : (k now : ℕ) (mark : Bool) (b : Built) (shape : Shape) (w : Want) → length items ≤ k + width shape → level_of b.opens ≡ Inside shape → AsksChild bytes items k shape w → Halts bytes items (point k (standing b w None) now mark)
  few_halts k now mark b Array w l level asks = here_halts bytes items _ (few 1 l (value_outlasts k b Array w None level asks))
  few_halts k now mark b Object w l level asks = here_halts bytes items _ (few 3 l (name_outlasts k b Object w level asks))

  -- ---- What the loops keep

  pub walked_onward : (a b : Point) → Walked bytes items a b → a.number ≤ b.number
  walked_onward a b (stays n s x l) = omega (arith, n)
  walked_onward a b (moves {b = c} m w) = let next = m.next in let h = walked_onward c b w in omega (arith, next, h)

  pub member_walks : (other : List ℕ) (object : Bool) (k now between later : ℕ) (mark mark' : Bool) (old new : Built) (w : Want) (x : Extent) (r : Result (Option ℕ) BuildFault) → false ≡ not object → other ≡ bytes
      → (AsksName bytes items k w → Walked bytes items (point k (standing old w None) now mark) (point (k + 2) (standing old wants.Value (Some x)) between mark))
      → ((v : Want) → AsksValue other items (k + 2) v → WalksValue other items (point (k + 2) (standing old v (Some x)) between mark) (shape_of object) (k + 2 + 1) r new later mark')
      → AsksChild bytes items k (shape_of object) w → WalksValue bytes items (point k (standing old w None) now mark) (shape_of object) (k + width (shape_of object)) r new later mark'
  member_walks other true k now between later mark mark' old new w x r e same named valued asks = let z : k + 2 + 1 ≡ k + 3 = omega arith in
      let walks = subst (λ n. WalksValue bytes items (point (k + 2) (standing old wants.Value (Some x)) between mark) Object n r new later mark') z
      (subst (λ b. WalksValue b items (point (k + 2) (standing old wants.Value (Some x)) between mark) Object (k + 2 + 1) r new later mark') same (valued wants.Value (refl, λ e. absurd (cc)))) in
      value_walks_more Object (k + 3) later r new mark' (named asks) walks
  member_walks other false k now between later mark mark' old new w x r e same named valued asks = absurd (cc)

  same_inside : (s t : Shape) → Inside s ≡ Inside t → s ≡ t
  same_inside s t e = grind arith

  pub may_continue : (a : Point) (k : ℕ) (level : Level) (shape : Shape) (b : Built) (looked : ℕ) (mark : Bool) → level ≡ Inside shape → (w : Want) × AsksChild bytes items k shape w × Walked bytes items a (point k (standing b w None) looked mark) → MayContinue bytes items a k level b looked mark
  may_continue a k level shape b looked mark e (w, asks, walked) = λ other f. (w, subst (λ s. AsksChild bytes items k s w) (same_inside shape other (sym e ∙ f)) asks, walked)

  pub entered_none : (a : Point) (shape : Shape) (next looked : ℕ) (o : Option ℕ) (b : Built) (mark : Bool) → o ≡ None → WalksInto bytes items a shape next (Ok o) b looked mark → Walked bytes items a (point next (standing b wants.Next None) looked mark)
  entered_none a shape next looked o b mark e h = subst (λ x. WalksInto bytes items a shape next (Ok x) b looked mark) e h

  pub entered_some : (a : Point) (shape : Shape) (next looked k : ℕ) (o : Option ℕ) (b : Built) (mark : Bool) → o ≡ Some k → WalksInto bytes items a shape next (Ok o) b looked mark → WalksInto bytes items a shape next (Ok (Some k)) b looked mark
  entered_some a shape next looked k o b mark e h = subst (λ x. WalksInto bytes items a shape next (Ok x) b looked mark) e h

  -- the child that a loop has come to, by what was known before it
  pub child_walks : (other : List ℕ) (a : Point) (k n now later : ℕ) (mark mark' : Bool) (level : Level) (shape : Shape) (old new : Built) (r r' : Result (Option ℕ) BuildFault) → level ≡ Inside shape → other ≡ bytes → MayContinue bytes items a k level old now mark → r ≡ r' → n ≡ k + width shape
      → ((w : Want) → AsksChild other items k shape w → WalksValue other items (point k (standing old w None) now mark) shape (k + width shape) r new later mark') → WalksValue bytes items a shape n r' new later mark'
  child_walks other a k n now later mark mark' level shape old new r r' e same may is size walks = grind (arith, value_walks_more)

  pub child_fault : (other : List ℕ) (a : Point) (k now later : ℕ) (mark mark' : Bool) (level : Level) (shape : Shape) (old new : Built) (r : Result (Option ℕ) BuildFault) (fault : BuildFault) → level ≡ Inside shape → other ≡ bytes → MayContinue bytes items a k level old now mark → r ≡ Err fault
      → ((w : Want) → AsksChild other items k shape w → WalksValue other items (point k (standing old w None) now mark) shape (k + width shape) r new later mark') → WalksTo bytes items a (Err fault) new later mark'
  child_fault other a k now later mark mark' level shape old new r fault e same may is walks =
      walks_fault a shape (k + width shape) later fault new mark' (child_walks other a k (k + width shape) now later mark mark' level shape old new r (Err fault) e same may is refl walks)

  pub next_may_continue : (a : Point) (n k looked : ℕ) (mark : Bool) (level : Level) (shape : Shape) (b : Built) (byte : ℕ) → level ≡ Inside shape → byte ≡ 44 → k ≡ n + 1 → WalksValue bytes items a shape n (Ok (Some byte)) b looked mark → MayContinue bytes items a k level b looked mark
  next_may_continue a n k looked mark level shape b byte e comma size g =
      let w = comma_walks bytes items listed n looked looked mark b shape g.3 g.1 (sym g.2 ∙ comma) (omega arith) in
      subst (λ x. MayContinue bytes items a x level b looked mark) (sym size) (may_continue a (n + 1) level shape b looked mark e (w.0, w.1, walked_more bytes items g.0 w.2))

  pub walks_ended : (a : Point) (n looked : ℕ) (mark : Bool) (shape : Shape) (old new : Built) (byte : ℕ) (r : Result Spot BuildFault) → WalksValue bytes items a shape n (Ok (Some byte)) old looked mark
      → (byte ≡ byte_at bytes items n → WalksTo bytes items (point n (standing old wants.Next None) looked mark) r new looked mark) → WalksTo bytes items a r new looked mark
  walks_ended a n looked mark shape old new byte r g h = walk_walks_more looked r new mark g.0 (h g.2)

  pub walks_same : (other : List ℕ) (a b : Point) (looked : ℕ) (r : Result Spot BuildFault) (new : Built) (mark : Bool) → other ≡ bytes → Walked bytes items a b → WalksTo other items b r new looked mark → WalksTo bytes items a r new looked mark
  walks_same other a b looked r new mark same w h = walk_walks_more looked r new mark w (subst (λ x. WalksTo x items b r new looked mark) same h)

  -- ---- The first token

  abbrev First : Point → Result Spot BuildFault → Built → ℕ → Bool → Type 0
  First a r new later mark = WalksTo bytes items a r new later mark × IfOk r (λ next. next.behind ≡ false → level_of new.opens ≡ Root → ⊥)

  first_taken : (now later : ℕ) (mark mark' : Bool) (old new : Built) (l : Lexed) → 0 < length items → TokenAt bytes (place items 0) (token_of (place items 0) l) → Marked bytes (place items 0) mark (Ok (end_of (place items 0) l)) mark' → later ≤ now + price_of l
      → step (token_of (place items 0) l) (standing old wants.Value None) ≡ Some (standing new (behind l) None) → First (point 0 (standing old wants.Value None) now mark) (Ok (record { number = 1; behind = is_whole l })) new later mark'
  first_taken now later mark mark' old new (lexed.Text x) l t m p took = (one bytes items 0 now later mark mark' (Text x) _ _ l t took (omega (arith, p)) m, λ e. absurd (cc))
  first_taken now later mark mark' old new (lexed.Number x) l t m p took = (one bytes items 0 now later mark mark' (Word x kinds.Number) _ _ l t took (omega (arith, p)) m, λ e. absurd (cc))
  first_taken now later mark mark' old new (lexed.Word kind x) l t m p took = (one bytes items 0 now later mark mark' (Word x kind) _ _ l t took (omega (arith, p)) m, λ e. absurd (cc))
  first_taken now later mark mark' old new (lexed.Opens shape) l t m p took = grind (
    arith,
    open_level shape (place items 0) old.entries old.opens None old.deep _ took,
    one bytes items 0 now (later + 1) mark mark' (Opening shape (place items 0)) _ _ l t took (omega (arith, p)) m,
  )

  pub whole_walks : (now later : ℕ) (mark mark' : Bool) (old new : Built) (l : Lexed) (made : Result (Unit {0}) BuildFault) (r : Result Spot BuildFault) → 0 < length items → TokenAt bytes (place items 0) (token_of (place items 0) l) → Marked bytes (place items 0) mark (Ok (end_of (place items 0) l)) mark' → later ≤ now + price_of l
      → Took (step (token_of (place items 0) l) (standing old wants.Value None)) made (standing new (behind l) None) → r ≡ spot_after made l → First (point 0 (standing old wants.Value None) now mark) r new later mark'
  whole_walks now later mark mark' old new l (Ok x) r inside t m p took e = rw e (first_taken now later mark mark' old new l inside t m p took)
  whole_walks now later mark mark' old new l (Err NotJson) r inside t m p took e =
      rw e (refused_halts bytes items listed 0 now mark (token_of (place items 0) l) _ inside t took, tt)
  whole_walks now later mark mark' old new l (Err Memory) r inside t m p took e = rw e (tt, tt)

  pub spot_one : (made : Result (Unit {0}) BuildFault) (l : Lexed) (r : Result Spot BuildFault) → 0 < length items → r ≡ spot_after made l → IfOk r (λ next. next.number ≤ length items)
  spot_one made l r inside e = grind arith

  -- no place, no token
  pub nothing_halts : (now : ℕ) (mark : Bool) (b : Built) → length items ≤ 0 → Halts bytes items (point 0 (standing b wants.Value None) now mark)
  nothing_halts now mark b l = here_halts bytes items _ (few 0 (omega (arith, l)) (λ h. let e = h.1 in cc))
