-- What stands at a place of the list: each is a place of the text, where a token may begin.
use Rattle.json_text.proofs.Names.{◌≡◌, ℕ, zero, suc, ◌+◌, ◌-◌, ◌<◌, ◌≤◌, ◌^◌, Bool, true, false, not, ◌&&◌, ◌||◌, cond, List, ◌∷◌, length, drop}
use Rattle.json_text.proofs.Names.{get_or, refl, sym, ap, ◌∙◌, arith, get_or_default, is_blank, text_limit, State, IsSmall}
use Rattle.json_walk.proofs.Names.{places, IsSeam, ClosesBefore, StandsAt, IsListed, place}
use Rattle.std.proofs.Common.{filter}
use Rattle.std.specs.List.{range_with_len}
use Rattle.structural_index.specs.Places.{is_place}
use Rattle.structural_index.proofs.Seams as seams
use Rattle.json_walk.specs.Placing.{IsIndexed}
use Rattle.json_walk.proofs.Walking.{look_back, place_behind, place_number}
use Rattle.json_walk.proofs.WalkEnds.{reads_small}
use Rattle.json_walk.proofs.Bridge.{same_default}

-- number k of those in a range that pass a test, with what is left from it on
record PlaceIs (p : ℕ → Bool) (a n k : ℕ) (all : List ℕ) (i : ℕ) : Type 0 where
  from : a ≤ i
  to : i < a + n
  is : p i ≡ true
  left : filter p (range_with_len i (a + n - i)) ≡ drop k all

place_is : (p : ℕ → Bool) (n a k : ℕ) → k < length (filter p (range_with_len a n)) → PlaceIs p a n k (filter p (range_with_len a n)) (get_or (filter p (range_with_len a n)) k 0)
place_is p zero a k l = absurd (omega arith)
place_is p (suc n) a k l = go (λ k l. place_is p n (a + 1) k l) (p a) refl k l where
  rest : List ℕ
  rest = filter p (range_with_len (a + 1) n)

  later : (k i : ℕ) (all : List ℕ) → PlaceIs p (a + 1) n k rest i → drop k rest ≡ all → (from : a ≤ i) × (i < a + suc n) × (p i ≡ true) × (filter p (range_with_len i (a + suc n - i)) ≡ all)
  later k i all h e = grind arith

  go : ((k : ℕ) → k < length rest → PlaceIs p (a + 1) n k rest (get_or rest k 0)) → (b : Bool) → p a ≡ b → (k : ℕ) → k < length (cond b (a ∷ rest) rest) → PlaceIs p a (suc n) k (cond b (a ∷ rest) rest) (get_or (cond b (a ∷ rest) rest) k 0)
  go ih true e zero l = let z : a + suc n - a ≡ suc n = omega arith in grind (arith, z)
  go ih b e k l = grind (arith, later, rest)

places_few : (p : ℕ → Bool) (n a : ℕ) → length (filter p (range_with_len a n)) ≤ n
places_few p zero a = omega arith
places_few p (suc n) a = grind (arith, places_few p n (a + 1))

-- no place is behind the end
places_in : (p : ℕ → Bool) (n a d k : ℕ) → a + n ≤ d → get_or (filter p (range_with_len a n)) k d ≤ d
places_in p zero a d k l = omega arith
places_in p (suc n) a d k l = go (λ k. places_in p n (a + 1) d k (omega arith)) (p a) k where
  go : ((k : ℕ) → get_or (filter p (range_with_len (a + 1) n)) k d ≤ d) → (b : Bool) (k : ℕ) → get_or (cond b (a ∷ filter p (range_with_len (a + 1) n)) (filter p (range_with_len (a + 1) n))) k d ≤ d
  go ih b k = grind arith

pub place_in : (bytes : List ℕ) (k : ℕ) → get_or (places bytes) k (length bytes) ≤ length bytes
place_in bytes k = places_in (is_place bytes) (length bytes - 0) 0 (length bytes) k (omega arith)

-- a place is outside strings
outside : (op inside quote blank after : Bool) → ((op && not inside) || (quote && not inside) || ((not inside && not quote && not blank && not op) && not after)) ≡ true → inside ≡ false
outside op inside quote blank after h = grind arith

-- and not between two bytes of a word
apart : (op inside quote blank after : Bool) → ((op && not inside) || (quote && not inside) || ((not inside && not quote && not blank && not op) && not after)) ≡ true → ((not inside && not quote && not blank && not op) && after) ≡ false
apart op inside quote blank after h = grind arith

place_seam : (text : List ℕ) (i : ℕ) → is_place text i ≡ true → IsSeam text i
unfolding is_place
place_seam text i h = grind (arith, outside, apart)

module _ (text items : List ℕ) (listed : IsListed text items) where
  found : (k : ℕ) → k < length items → PlaceIs (is_place text) 0 (length text - 0) k (places text) (place items k)
  found k l = grind (arith, place_is)

  pub in_text : (k : ℕ) → k < length items → place items k < length text
  in_text k l = let t = (found k l).to in omega arith

  pub number_below : (k : ℕ) → k ≤ length items → k ≤ length text
  number_below k l = let e = ap length listed.list in let f = places_few (is_place text) (length text - 0) 0 in omega arith

  pub stands_at : (k : ℕ) → k < length items → StandsAt text k (place items k)
  stands_at k l = let h = found k l in let inside = in_text k l in
      let z : 0 + (length text - 0) - place items k ≡ length text - place items k = omega arith in
      let first = seams.place_first text (place items k) inside h.is in grind (arith, place_seam text (place items k) h.is)

  pub no_blank : (k : ℕ) → k < length items → is_blank (get_or text (place items k) 0) ≡ false
  no_blank k l = let inside = in_text k l in
      ap is_blank (same_default text (place items k) inside) ∙ (place_number text k (place items k) (stands_at k l)).solid inside

  pub next_is : (k d : ℕ) → k < length items → get_or items k d ≡ get_or (places text) k (length text)
  next_is k d l = get_or_default items k d (length text) l ∙ ap (λ (ps : List ℕ). get_or ps k (length text)) listed.list

  -- what begins there ends before the next place
  pub closes_before : (k next : ℕ) → k < length items → next ≡ get_or (places text) (k + 1) (length text) → ClosesBefore text (place items k) next
  closes_before k next l e = let z : suc k ≡ k + 1 = omega arith in
      let last : get_or (places text) (suc k) (length text) ≡ next = ap (λ n. get_or (places text) n (length text)) z ∙ sym e in record {
        string = λ m is after quote closing. look_back text k (place items k) m listed.closed (stands_at k l) quote (last ∙ is) after closing;
        seam = (stands_at k l).seam;
        next = sym last ∙ sym (place_behind text k (place items k) (in_text k l) (stands_at k l));
      }

  pub indexed : IsIndexed text
  indexed = record { utf8 = listed.utf8; controls = listed.controls; escapes = listed.escapes }

  pub near : (k : ℕ) → k < length items → place items k < 2 ^ 24
  near k l = let i = in_text k l in let s = listed.short in omega (arith, i, s)

  pub small_enough : (k : ℕ) (s : State) → k ≤ length items → IsSmall k s → IsSmall text_limit s
  small_enough k s l h = let below = number_below k l in let short = listed.short in reads_small k text_limit s (omega (arith, below, short)) h
