-- What a whole walk shows of a text: its tape where it comes to the end, and that there is none where it halts.
use Rattle.json_text.proofs.Names.{◌≡◌, ◌≢◌, ℕ, zero, suc, ◌+◌, ◌<◌, ◌≤◌, ◌^◌, inl, inr, Bool, true, false, List, [], ◌∷◌, ◌++◌, length, drop, get_or}
use Rattle.json_text.proofs.Names.{Some, None, refl, sym, ap, subst, ◌∙◌, arith, Err, cases_lt, drop_more, IsJson, IsNoJson, StandsForAll, HasDepth}
use Rattle.json_text.proofs.Names.{AreWithinLimits, Token, State, step, put_close, level_of, Blank, class, IsToken, Goes, stay, blank, token, Taken}
use Rattle.json_walk.proofs.Names.{places, IsBounded, Root, BuildFault, NotJson, Memory, Spot, Entry, Open, Shape, Built, standing, IsListed, place}
use Rattle.json_walk.proofs.Names.{Point, point, Walked, stays, moves, Halts, want_at, at}
use Rattle.json_text.specs.declared.tape.Want.TheVariants as wants
use Rattle.tape_cells.specs.Built.{nothing}
use Rattle.json_walk.specs.Walked.{Outlasts, IsBlocked, refused, few, WalksTo, paid}
use Rattle.json_text.proofs.Complete.{blank_class}
use Rattle.json_walk.proofs.Listed.{in_text, next_is, no_blank}
use Rattle.json_walk.proofs.Marks.{Kept, kept_start, kept_token}
use Rattle.json_walk.proofs.PlaceWalk.{Walks, walks_start, walks_end, walks_refused}
use Rattle.json_walk.proofs.Placing.{walks_next, walks_over}
use Rattle.json_walk.proofs.WalkEnds.{reads_none, reads_depth, solid_by_test}

-- a way from a byte that is no blank begins with a token
record Begun (p : ℕ) (bs : List ℕ) (s : State) : Type 0 where
  vs : List ℕ
  rest : List ℕ
  tok : Token
  next : State
  stands : bs ≡ vs ++ rest
  is_token : IsToken p vs tok rest
  steps : step tok s ≡ Some next

way_begun : {p q : ℕ} {bs : List ℕ} {s s' : State} → Goes p bs s q [] s' → (b : ℕ) (cs : List ℕ) → bs ≡ b ∷ cs → class b ≢ Blank → Begun p bs s
way_begun (stay e f) b cs g n = absurd (cc)
way_begun (blank {b = b'} e f i w) b cs g n = absurd (n (let m : b ≡ b' = cc in let c = blank_class b' i in let d = ap class m in cc))
way_begun (token {vs = vs} {rest = rest} {tok = tok} {s' = s'} e f i st w) b cs g n = record { vs = vs; rest = rest; tok = tok; next = s'; stands = e; is_token = i; steps = st }

-- behind the value of a whole text nothing is taken
no_root_close : (shape : Shape) (p : ℕ) (es : List Entry) (os : List Open) (d : ℕ) → level_of os ≡ Root → put_close shape p es os wants.Next None d ≡ None
no_root_close shape p es os d l = grind arith

nothing_more : (tok : Token) (b : Built) → level_of b.opens ≡ Root → step tok (standing b wants.Next None) ≡ None
nothing_more tok b l = grind arith

paid_least : (behind : Bool) (now : ℕ) → now ≤ paid behind now
paid_least true now = omega arith
paid_least false now = omega arith

module _ (bytes items : List ℕ) (listed : IsListed bytes items) (before : ℕ) where
  -- what is known at a point of a walk
  record Known (k : ℕ) (s : State) (now : ℕ) (mark : Bool) : Type 0 where
    walks : Walks bytes k (get_or (places bytes) k (length bytes)) before now s
    kept : Kept bytes mark s

  at_place : (k now : ℕ) (s : State) → k < length items → Walks bytes k (get_or (places bytes) k (length bytes)) before now s → Walks bytes k (place items k) before now s
  at_place k now s l w = subst (λ x. Walks bytes k x before now s) (sym (next_is bytes items listed k 0 l)) w

  known_less : (k : ℕ) (s : State) (now less : ℕ) (mark : Bool) → less ≤ now → Known k s now mark → Known k s less mark
  known_less k s now less mark l h = grind arith

  known_walked : (a b : Point) → Walked bytes items a b → Known a.number a.state a.looked a.exceeds → Known b.number b.state b.looked b.exceeds
  known_walked a b (stays n s x l) h = grind arith
  known_walked a b (moves {b = c} m w) h = let k = a.number in let i = place items k in
      let inside = in_text bytes items listed k m.inside in let z : k + 1 ≡ c.number = omega (arith, m.next) in
      let walks = walks_next bytes k i m.end before a.looked c.looked a.state c.state (at_place k a.looked a.state m.inside h.walks) inside m.taken m.looks in
      let kept = kept_token bytes i m.end a.exceeds c.exceeds a.state c.state inside m.taken m.marked h.kept in
      known_walked c b w (record { walks = subst (λ n. Walks bytes n (get_or (places bytes) n (length bytes)) before c.looked c.state) z walks; kept = kept })

  past_places : (k now : ℕ) (s : State) → Walks bytes k (get_or (places bytes) k (length bytes)) before now s → length items ≤ k → length bytes ≤ get_or (places bytes) k (length bytes)
  past_places k now s w l = walks_over bytes k (get_or (places bytes) k (length bytes)) before now s w (let e = ap length listed.list in omega (arith, l, e))

  outlasts_none : (n k now : ℕ) (s : State) → Walks bytes k (get_or (places bytes) k (length bytes)) before now s → length items ≤ k + n → Outlasts bytes items n k s → IsNoJson bytes
  outlasts_none zero k now s w l out = reads_none bytes (get_or (places bytes) k (length bytes)) s w.knows (past_places k now s w (omega (arith, l))) out
  outlasts_none (suc n) k now s w l out = elim (cases_lt k (length items)) [
    | inl a ↦ (λ t x.
        let i = place items k in let here = at_place k now s a w in let inside = in_text bytes items listed k a in
        let b = way_begun (here.knows.back t x).1 (get_or bytes i 0) (drop (i + 1) bytes) (drop_more bytes i 0 inside) (solid_by_test (get_or bytes i 0) (no_blank bytes items listed k a)) in
        let taken : Taken bytes i (i + length b.vs) s b.next = record { vs = b.vs; rest = b.rest; tok = b.tok; stands = b.stands; is_token = b.is_token; steps = b.steps; end = refl } in
        let z : k + 1 ≡ suc k = omega arith in
        let walks = subst (λ m. Walks bytes m (get_or (places bytes) m (length bytes)) before now b.next) z (walks_next bytes k i (i + length b.vs) before now now s b.next here inside taken (omega arith)) in
        outlasts_none n (suc k) now b.next walks (omega (arith, l)) (out.1 (i + length b.vs) b.next a taken) t x)
    | inr a ↦ reads_none bytes (get_or (places bytes) k (length bytes)) s w.knows (past_places k now s w a) out.0
  ]

  blocked_none : (b : Point) → Known b.number b.state b.looked b.exceeds → IsBlocked bytes items b → IsNoJson bytes
  blocked_none b h (refused l r) = walks_refused bytes b.number (place items b.number) before b.looked b.state (at_place b.number b.looked b.state l h.walks) (in_text bytes items listed b.number l) r
  blocked_none b h (few n l out) = outlasts_none n b.number b.looked b.state h.walks l out

  -- before the first token
  abbrev pub first_point : Point
  first_point = point 0 (standing nothing wants.Value None) before false

  known_first : Known 0 (standing nothing wants.Value None) before false
  known_first = record { walks = walks_start bytes before; kept = kept_start bytes }

  pub halts_none : Halts bytes items first_point → IsNoJson bytes
  halts_none (b, w, h) = blocked_none b (known_walked first_point b w known_first) h

  -- more tokens than those of a text
  pub more_none : (spot : Spot) (b : Built) (looked : ℕ) (mark : Bool) → Walked bytes items first_point (at spot b looked mark) → level_of b.opens ≡ Root → spot.behind ≡ true → spot.number < length items → IsNoJson bytes
  more_none spot b looked mark w level behind l = let known = known_walked first_point (at spot b looked mark) w known_first in
      let same : standing b (want_at spot.behind (level_of b.opens)) None ≡ standing b wants.Next None = ap (λ x. standing b (want_at x (level_of b.opens)) None) behind in
      blocked_none (at spot b looked mark) known (refused l (λ vs rest tok e t. ap (step tok) same ∙ nothing_more tok b level))

  pub record WholeWalk (entries : List Entry) (deep looked : ℕ) (mark : Bool) : Type 0 where
    pub json : IsJson bytes
    pub stands : StandsForAll bytes entries
    pub bounded : IsBounded bytes before looked
    pub short : length entries < 2 ^ 31
    pub depth : HasDepth bytes deep
    pub numbers : mark ≡ false → AreWithinLimits bytes entries

  pub whole_walk : (spot : Spot) (b : Built) (looked : ℕ) (mark : Bool) → Walked bytes items first_point (at spot b looked mark) → level_of b.opens ≡ Root → spot.behind ≡ true → length items ≤ spot.number → WholeWalk b.entries b.deep looked mark
  whole_walk spot b looked mark w level behind l =
      let known = known_walked first_point (at spot b looked mark) w known_first in let k = spot.number in
      let i = get_or (places bytes) k (length bytes) in let walks = known.walks in let over = past_places k (paid spot.behind looked) _ walks l in
      let want : want_at spot.behind (level_of b.opens) ≡ wants.Next = ap (λ x. want_at x (level_of b.opens)) behind in
      let end = walks_end bytes k i before (paid spot.behind looked) _ walks over (level, want) in let short = listed.short in record {
        json = end.json;
        stands = end.stands;
        bounded = λ t x. (let most = end.bounded t x in let least = paid_least spot.behind looked in omega (arith, most, least));
        short = omega (arith, short, walks.knows.within, walks.knows.small.entries);
        depth = λ t x. reads_depth bytes i _ walks.knows over t x;
        numbers = known.kept.good;
      }

  pub began : (b : Built) (c : Point) → b ≡ nothing → Walked bytes items (point 0 (standing b wants.Value None) before false) c → Walked bytes items first_point c
  began b c e w = subst (λ x. Walked bytes items (point 0 (standing x wants.Value None) before false) c) e w

  -- a call that halts, and no want of memory
  pub fault_none : (b : Built) (fault : BuildFault) (new : Built) (looked : ℕ) (mark : Bool) → b ≡ nothing → WalksTo bytes items (point 0 (standing b wants.Value None) before false) (Err fault) new looked mark → fault ≡ NotJson → IsNoJson bytes
  fault_none b NotJson new looked mark e h f = halts_none (subst (λ x. Halts bytes items (point 0 (standing x wants.Value None) before false)) e h)
  fault_none b Memory new looked mark e h f = absurd (cc)
