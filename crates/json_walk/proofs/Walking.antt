-- From place to place.
use Rattle.json_text.proofs.Names.{◌≡◌, ℕ, zero, suc, ◌+◌, ◌-◌, ◌<◌, ◌≤◌, inl, inr, Bool, true, false, not, ◌||◌, cond, List, [], ◌∷◌, ◌++◌, length}
use Rattle.json_text.proofs.Names.{get_or, drop, refl, sym, ap, subst, ◌∙◌, arith, Some, cases_lt, nat_tests, Tree, IsText, Taken, IsToken, sign}
use Rattle.json_text.proofs.Names.{text, word, sign_at, Token, State}
use Rattle.json_walk.proofs.Names.{op_byte, blank_byte, byte, is_inside, places, HasControlInside, IsSpan, IsSeam, next_place, StandsAt, weight}
use Rattle.json_walk.proofs.Names.{IsBounded}
use Rattle.std.proofs.Common.{true≢false, ap₂, ◌&&◌}
use Rattle.json_text.proofs.Names.{false≢true}
use Rattle.structural_index.specs.Places.{is_real_quote, is_place, places_from, IsUnclosed, HasWrongEscape, HasLoneSurrogate}
use Rattle.structural_index.proofs.JudgedEscapes.{start_free, past_free, free_right, free_paired}
use Rattle.structural_index.proofs.Seams as seams
use Rattle.json_walk.specs.Counting.{source_bytes_before, is_source_byte}
use Rattle.json_walk.specs.Walking.{IsPaid, GoesOn, IsPlaceNumber}
use Rattle.json_walk.proofs.Bridge.{sign_op, token_place}
use Rattle.json_walk.proofs.Counting.{HasLonePart, Crossed, cross_sign, cross_string, cross_word, start_seam, source_suc, reach_text, at_end, text_counts}

-- from a seam over blanks to the next place
settled_after : (bytes : List ℕ) (j : ℕ) → j ≤ length bytes → IsSeam bytes j → (n : ℕ) → n ≡ next_place bytes j → (IsSeam bytes n) × (places_from bytes n ≡ places_from bytes j) × (source_bytes_before bytes n ≡ source_bytes_before bytes j)
settled_after bytes j l m n e = let b = seams.blanks_before bytes j l m in let from = b.from in let to = b.to in
    let z : j + (n - j) ≡ n = omega arith in let x = over (n - j) j (omega arith) m (λ k a c. b.blanks k a (omega arith)) in
    (subst (IsSeam bytes) z x.0, sym (x.1 ∙ ap (places_from bytes) z), ap (source_bytes_before bytes) (sym z) ∙ x.2)
  where
    over : (d i : ℕ) → i + d ≤ length bytes → IsSeam bytes i → ((k : ℕ) → i ≤ k → k < i + d → blank_byte (byte bytes k) ≡ true) → (IsSeam bytes (i + d)) × (places_from bytes i ≡ places_from bytes (i + d)) × (source_bytes_before bytes (i + d) ≡ source_bytes_before bytes i)
    over zero i a s h = let f : i ≡ i + 0 = omega arith in (subst (IsSeam bytes) f s, ap (places_from bytes) f, ap (source_bytes_before bytes) (sym f))
    over (suc d) i a s h = let f : suc i + d ≡ i + suc d = omega arith in let blank = h i (omega arith) (omega arith) in
        let p = seams.seam_blank bytes i s blank in let ih = over d (suc i) (omega arith) p.1 (λ k x y. h k (omega arith) (omega arith)) in
        let none : is_source_byte bytes i ≡ false = ap (λ t. t || not (blank_byte (byte bytes i) || op_byte (byte bytes i))) s.outside ∙ ap (λ t. not (t || op_byte (byte bytes i))) blank in
        let same : source_bytes_before bytes (suc i) ≡ source_bytes_before bytes i = source_suc bytes i ∙ ap (λ t. cond t (suc (source_bytes_before bytes i)) (source_bytes_before bytes i)) none in
        (subst (IsSeam bytes) f ih.0, seams.run_to bytes i (suc i) (omega arith) (omega arith) (λ k x y. (let g : k ≡ i = omega arith in ap (is_place bytes) g ∙ p.0)) ∙ ih.1 ∙ ap (places_from bytes) f, ap (source_bytes_before bytes) (sym f) ∙ ih.2 ∙ same)

arrive : (bytes : List ℕ) (k j : ℕ) → j ≤ length bytes → IsSeam bytes j → places_from bytes j ≡ drop k (places bytes) → StandsAt bytes k (next_place bytes j)
arrive bytes k j l m e = grind (arith, settled_after bytes j l m (next_place bytes j) refl)

pub walk_starts : (bytes : List ℕ) → StandsAt bytes 0 (next_place bytes 0)
walk_starts bytes = arrive bytes 0 0 (omega arith) (start_seam bytes) refl

-- the weight of a token, and one place
token_crossed : (bytes : List ℕ) (i p : ℕ) (vs rest : List ℕ) (tok : Token) → IsSeam bytes i → drop i bytes ≡ vs ++ rest → IsToken p vs tok rest → Crossed (Unit {0}) bytes i (i + length vs) rest 1 (weight tok)
token_crossed bytes i p vs rest tok m e (sign {b = b} h) = let n : suc i ≡ i + 1 = omega arith in
    subst (λ w. Crossed (Unit {0}) bytes i (i + 1) rest 1 w) (sym (no_weight p b tok h)) (subst (λ j. Crossed (Unit {0}) bytes i j rest 1 0) n (cross_sign (Unit {0}) bytes i b rest m e (sign_op p b tok h)))
  where
    no_weight : (p b : ℕ) (tok : Token) → sign_at p b ≡ Some tok → weight tok ≡ 0
    no_weight p b tok g = grind (arith, nat_tests)
token_crossed bytes i p vs rest tok m e (text cs h) = cross_string (Unit {0}) bytes i vs rest cs (λ l. tt) m e h
token_crossed bytes i p vs rest tok m e (word {b = b} {vs = bs} {kind = kind} a n k) = cross_word (Unit {0}) bytes i b bs rest kind m e a n k

drop_step : (ps qs : List ℕ) (k i : ℕ) → i ∷ qs ≡ drop k ps → qs ≡ drop (suc k) ps
drop_step [] qs zero i e = absurd (cc)
drop_step [] qs (suc k) i e = absurd (cc)
drop_step (p ∷ ps) qs zero i e = cc
drop_step (p ∷ ps) qs (suc k) i e = drop_step ps qs k i e

pub walk_goes_on : (bytes : List ℕ) (k i j : ℕ) (s s' : State) → StandsAt bytes k i → (taken : Taken bytes i j s s') → GoesOn bytes k i j taken.tok
walk_goes_on bytes k i j s s' at taken = let e = taken.end in
    let c = subst (λ x. Crossed (Unit {0}) bytes i x taken.rest 1 (weight taken.tok)) (sym e) (token_crossed bytes i i taken.vs taken.rest taken.tok at.seam taken.stands taken.is_token) in
    let one = token_place bytes i i taken.vs taken.rest taken.tok at.seam taken.stands taken.is_token in
    let left : places_from bytes j ≡ drop (suc k) (places bytes) = drop_step (places bytes) (places_from bytes j) k i (ap (λ x. i ∷ places_from bytes x) e ∙ sym one.one ∙ at.left) in
    let x = settled_after bytes j c.within c.seam (next_place bytes j) refl in
    record { next = arrive bytes (suc k) j c.within c.seam left; blanks = seams.blanks_before bytes j c.within c.seam; paid = x.2 ∙ c.weight }

get_or_drop : (ps : List ℕ) (k d : ℕ) → get_or (drop k ps) 0 d ≡ get_or ps k d
get_or_drop [] zero d = refl
get_or_drop [] (suc k) d = refl
get_or_drop (p ∷ ps) zero d = refl
get_or_drop (p ∷ ps) (suc k) d = get_or_drop ps k d

pub stands_value : (bytes : List ℕ) (k i : ℕ) → StandsAt bytes k i → i ≡ get_or (places bytes) k (length bytes)
stands_value bytes k i at = sym at.settled ∙ ap (λ (ps : List ℕ). get_or ps 0 (length bytes)) at.left ∙ get_or_drop (places bytes) k (length bytes)

-- a place that stands first is solid
first_solid : (bytes : List ℕ) (k i : ℕ) → StandsAt bytes k i → i < length bytes → blank_byte (byte bytes i) ≡ false
first_solid bytes k i at l = by_blank (blank_byte (byte bytes i)) refl where
  by_blank : (t : Bool) → blank_byte (byte bytes i) ≡ t → blank_byte (byte bytes i) ≡ false
  by_blank false b = b
  by_blank true b = let p = seams.seam_blank bytes i at.seam b in
      let q = seams.run_to bytes i (suc i) (omega arith) l (λ k x y. (let g : k ≡ i = omega arith in ap (is_place bytes) g ∙ p.0)) in
      let later = seams.blanks_before bytes (suc i) l p.1 in let from = later.from in
      let same : next_place bytes i ≡ next_place bytes (suc i) = ap (λ (ps : List ℕ). get_or ps 0 (length bytes)) q in let settled = at.settled in
      absurd (omega arith)

drop_some : (ps qs : List ℕ) (k i : ℕ) → i ∷ qs ≡ drop k ps → k < length ps
drop_some [] qs zero i e = absurd (cc)
drop_some [] qs (suc k) i e = absurd (cc)
drop_some (p ∷ ps) qs zero i e = omega arith
drop_some (p ∷ ps) qs (suc k) i e = let ih = drop_some ps qs k i e in omega arith

drop_past_end : (ps : List ℕ) (k : ℕ) → drop k ps ≡ [] → length ps ≤ k
drop_past_end [] k e = omega arith
drop_past_end (p ∷ ps) zero e = absurd (cc)
drop_past_end (p ∷ ps) (suc k) e = let ih = drop_past_end ps k e in omega arith

pub place_number : (bytes : List ℕ) (k i : ℕ) → StandsAt bytes k i → IsPlaceNumber bytes k i
place_number bytes k i at = record {
  value = stands_value bytes k i at;
  solid = first_solid bytes k i at;
  more = λ l. (let f = seams.place_first bytes i l (seams.seam_place bytes i at.seam (first_solid bytes k i at l)) in drop_some (places bytes) (places_from bytes (suc i)) k i (sym f ∙ at.left));
  over = λ l. elim (cases_lt i (length bytes)) [ inl a ↦ a | inr a ↦ search (arith, drop_past_end) ];
}

-- the next place is the first behind it
pub place_behind : (bytes : List ℕ) (k i : ℕ) → i < length bytes → StandsAt bytes k i → next_place bytes (suc i) ≡ get_or (places bytes) (suc k) (length bytes)
place_behind bytes k i l at = let first = seams.place_first bytes i l (seams.seam_place bytes i at.seam (first_solid bytes k i at l)) in
    let left : places_from bytes (suc i) ≡ drop (suc k) (places bytes) = drop_step (places bytes) (places_from bytes (suc i)) k i (sym first ∙ at.left) in
    ap (λ (ps : List ℕ). get_or ps 0 (length bytes)) left ∙ get_or_drop (places bytes) (suc k) (length bytes)

pub look_back : (bytes : List ℕ) (k i m : ℕ) → (IsUnclosed bytes → ⊥) → StandsAt bytes k i → byte bytes i ≡ 0x22 → get_or (places bytes) (suc k) (length bytes) ≡ suc m → i < m → byte bytes m ≡ 0x22 → IsSpan bytes i m
look_back bytes k i m u at q e l q' = let o = seams.opens_at_seam bytes i at.seam q in let c = seams.strings_close bytes i u o in
    let span = c.1 in let within = span.within in let after = span.after in
    subst (IsSpan bytes i) (sym (seams.quote_closes bytes i c.0 m span (place_behind bytes k i (omega arith) at ∙ e) l q')) span

pub unclosed_none : (bytes : List ℕ) (t : Tree) → IsText bytes t → IsUnclosed bytes → ⊥
unclosed_none bytes t x u = let r = reach_text bytes t x in let y = r.crossed in
    let end : r.end ≡ length bytes = at_end bytes r.end y.within y.left in true≢false (sym (ap (is_inside bytes) end ∙ u) ∙ y.seam.outside)

pub control_none : (bytes : List ℕ) (t : Tree) → IsText bytes t → HasControlInside bytes → ⊥
control_none bytes t x (k, l, interior, control) = let r = reach_text bytes t x in let y = r.crossed in
    let end : r.end ≡ length bytes = at_end bytes r.end y.within y.left in
    let inside = seams.and_second (not (is_real_quote bytes k)) (is_inside bytes k) interior in false≢true (sym (y.clean k (omega arith) (omega (arith, end, l))) ∙ ap₂ (λ a b. a && b) inside control)

pub wrong_none : (bytes : List ℕ) (t : Tree) → IsText bytes t → HasWrongEscape bytes → ⊥
wrong_none bytes t x (zero, h) = absurd (false≢true (sym (free_right bytes 0 (start_free bytes)) ∙ h))
wrong_none bytes t x (suc k, h) = let r = reach_text bytes t x in let y = r.crossed in
    let end : r.end ≡ length bytes = at_end bytes r.end y.within y.left in
    elim (cases_lt (length bytes) (suc k)) [ inl l ↦ false≢true (sym (free_right bytes (suc k) (past_free bytes (suc k) l)) ∙ h) | inr l ↦ false≢true (sym (y.right (suc k) (omega arith) (omega arith)) ∙ h) ]

-- a surrogate is lone exactly where a string or a name of the tree has a lone one
pub lone_part : (bytes : List ℕ) (t : Tree) → IsText bytes t → HasLoneSurrogate bytes → HasLonePart t
lone_part bytes t x (zero, h) = absurd (false≢true (sym (free_paired bytes 0 (start_free bytes)) ∙ h))
lone_part bytes t x (suc k, h) = let r = reach_text bytes t x in let y = r.crossed in
    let end : r.end ≡ length bytes = at_end bytes r.end y.within y.left in
    elim (cases_lt (length bytes) (suc k)) [ inl l ↦ absurd (false≢true (sym (free_paired bytes (suc k) (past_free bytes (suc k) l)) ∙ h)) | inr l ↦ y.lone (suc k) (omega arith) (omega arith) h ]

pub walk_bounded : (bytes : List ℕ) (k before now : ℕ) → k ≤ length (places bytes) → StandsAt bytes k (length bytes) → IsPaid bytes k (length bytes) before now → IsBounded bytes before now
walk_bounded bytes k before now l at paid t x = let c = text_counts bytes t x in let w = c.bytes_are in omega arith
