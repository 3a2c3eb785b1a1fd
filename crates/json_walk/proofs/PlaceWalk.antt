-- What a walk over the places knows before place number k, which is byte i.
use Rattle.json_text.proofs.Names.{◌≡◌, ℕ, zero, suc, ◌+◌, ◌-◌, ◌<◌, ◌≤◌, List, length, ap, subst, ◌∙◌, arith, true, IsJson, IsNoJson, StandsForAll}
use Rattle.json_text.proofs.Names.{Taken, Refused, is_blank, State, start, level_of}
use Rattle.json_walk.proofs.Names.{blank_byte, byte, places, next_place, Root, Next, StandsAt, weight, IsBounded}
use Rattle.structural_index.specs.Seams.{BlanksUpTo}
use Rattle.structural_index.proofs.Seams as seams
use Rattle.json_walk.specs.Walking.{IsPaid}
use Rattle.json_walk.proofs.Counting.{start_seam}
use Rattle.json_walk.proofs.Walking.{walk_starts, walk_goes_on, place_number, walk_bounded}
use Rattle.json_walk.proofs.MachineWalk.{Knows, knows_start}
use Rattle.json_walk.proofs.WalkEnds.{reads_blank, reads_token, reads_json, reads_tape, reads_refused}
use Rattle.json_walk.proofs.Bridge.{same_default}

-- the invariant of a builder that goes from place to place
pub record Walks (bytes : List ℕ) (k i before now : ℕ) (s : State) : Type 0 where
  pub knows : Knows bytes i s
  pub here : StandsAt bytes k i
  pub paid : IsPaid bytes k i before now
  pub few : k ≤ length (places bytes)

-- over blanks
knows_over : (bytes : List ℕ) (d j : ℕ) (s : State) → Knows bytes j s → j + d ≤ length bytes → ((k : ℕ) → j ≤ k → k < j + d → blank_byte (byte bytes k) ≡ true) → Knows bytes (j + d) s
knows_over bytes zero j s h l b = let e : j ≡ j + 0 = omega arith in subst (λ x. Knows bytes x s) e h
knows_over bytes (suc d) j s h l b = let e : j + 1 + d ≡ j + suc d = omega arith in
    let one = reads_blank bytes j s h (omega arith) (ap is_blank (same_default bytes j (omega arith)) ∙ b j (omega arith) (omega arith)) in
    subst (λ x. Knows bytes x s) e (knows_over bytes d (j + 1) s one (omega arith) (λ k a c. b k (omega arith) (omega arith)))

knows_up_to : (bytes : List ℕ) (j n : ℕ) (s : State) → Knows bytes j s → BlanksUpTo bytes j n → Knows bytes n s
knows_up_to bytes j n s h b = let from = b.from in let to = b.to in let e : j + (n - j) ≡ n = omega arith in
    subst (λ x. Knows bytes x s) e (knows_over bytes (n - j) j s h (omega arith) (λ k a c. b.blanks k a (omega arith)))

pub walks_start : (bytes : List ℕ) (before : ℕ) → Walks bytes 0 (next_place bytes 0) before before start
walks_start bytes before = grind (
  arith,
  knows_up_to bytes 0 (next_place bytes 0) start (knows_start bytes) (seams.blanks_before bytes 0 (omega arith) (start_seam bytes)),
  walk_starts bytes,
)

-- a token that the builder took
pub walks_token : (bytes : List ℕ) (k i j before now later : ℕ) (s new : State) → Walks bytes k i before now s → i < length bytes → (taken : Taken bytes i j s new) → later ≤ now + 3 + weight taken.tok
    → Walks bytes (suc k) (next_place bytes j) before later new
walks_token bytes k i j before now later s new w l taken p = let on = walk_goes_on bytes k i j s new w.here taken in
    let number = place_number bytes k i w.here in grind (arith, knows_up_to bytes j (next_place bytes j) new (reads_token bytes i j s new w.knows taken) on.blanks)

-- a token that it refused, or no token
pub walks_refused : (bytes : List ℕ) (k i before now : ℕ) (s : State) → Walks bytes k i before now s → i < length bytes → Refused bytes i s → IsNoJson bytes
walks_refused bytes k i before now s w l r =
    let number = place_number bytes k i w.here in reads_refused bytes i s w.knows l (ap is_blank (same_default bytes i l) ∙ number.solid l) r

-- the end
pub record Answers (bytes : List ℕ) (before now : ℕ) (s : State) : Type 0 where
  pub json : IsJson bytes
  pub stands : StandsForAll bytes s.entries
  pub bounded : IsBounded bytes before now

pub walks_end : (bytes : List ℕ) (k i before now : ℕ) (s : State) → Walks bytes k i before now s → length bytes ≤ i → (level_of s.opens ≡ Root) × (s.want ≡ Next) → Answers bytes before now s
walks_end bytes k i before now s w l d = let at = w.here in let e : i ≡ length bytes = omega arith in grind (
  arith,
  reads_json bytes i s w.knows l d,
  reads_tape bytes i s w.knows l,
  walk_bounded bytes k before now w.few (subst (StandsAt bytes k) e at) (subst (λ x. IsPaid bytes k x before now) e w.paid),
)
