-- What a walk under way shows: that it may go on, and what its end says.
use Rattle.json_text.proofs.Names.{◌≡◌, ℕ, ◌+◌, ◌<◌, ◌≤◌, Bool, true, false, List, length, None, Result, Ok, Err, refl, sym, ap, subst, arith, IsNoJson, IsSmall, level_of}
use Rattle.json_walk.proofs.Names.{BuildFault, NotJson, Memory, Root, Built, standing, Point, point, Walked, stays, want_at, at, Halts, Spot, DuplicateCheck}
use Rattle.json_text.specs.declared.tape.Want.TheVariants as wants
use Rattle.tape_cells.specs.Built.{nothing}
use Rattle.structural_index.specs.declared.answer.Index.{Index}
use Rattle.name_stamps.specs.declared.seen.SeenNames.{SeenNames}
use Rattle.json_walk.specs.declared.second_stage.Way.{Way}
use Rattle.json_walk.specs.Walked.{WalksTo, paid}
use Rattle.std.specs.Prelude.{IfOk, IsErrOf}
use Rattle.json_walk.specs.declared.second_stage.Reading.{Reading}
use Rattle.json_walk.specs.UnderWay.{IsUnderWay, IsOver, IsReading, Ends, spot_of}
use Rattle.json_walk.proofs.WalkSteps.{walked_more, halts_more, later, walked_later, halts_later}
use Rattle.json_walk.proofs.WalkContainer.{walked_small, small_state}
use Rattle.json_walk.proofs.WholeWalk.{WholeWalk, halts_none, more_none, whole_walk}

behind_true : (b : Bool) → (b ≡ false → ⊥) → b ≡ true
behind_true true f = refl
behind_true false f = absurd (f refl)

-- ---- A share's own count of looks begins at 0

paid_later : (behind : Bool) (x d : ℕ) → paid behind x + d ≡ paid behind (x + d)
paid_later true x d = refl
paid_later false x d = omega arith

paid_more : (behind : Bool) (x y : ℕ) → x ≤ y → paid behind x ≤ paid behind y
paid_more true x y l = l
paid_more false x y l = omega (arith, l)

at_later : (spot : Spot) (b : Built) (x d : ℕ) (mark : Bool) → at spot b (x + d) mark ≡ later d (at spot b x mark)
at_later spot b x d mark = ap (λ n. point spot.number (standing b (want_at spot.behind (level_of b.opens)) None) n mark) (sym (paid_later spot.behind x d))

module _ (text items : List ℕ) where
  pub share_walked : (from to : Spot) (old new : Built) (start taken now then_ : ℕ) (mark mark' : Bool) → start ≡ 0 → then_ ≤ now + taken
      → Walked text items (at from old start mark) (at to new taken mark') → Walked text items (at from old now mark) (at to new then_ mark')
  share_walked from to old new start taken now then_ mark mark' none few w =
      let z : start + now ≡ now = omega (arith, none) in
      let l : then_ ≤ taken + now = omega (arith, few) in
      let shifted = walked_later text items now w in
      let first = subst (λ n. Walked text items (at from old n mark) (later now (at to new taken mark'))) z (subst (λ p. Walked text items p (later now (at to new taken mark'))) (sym (at_later from old start now mark)) shifted) in
      walked_more text items (subst (λ p. Walked text items (at from old now mark) p) (sym (at_later to new taken now mark')) first)
      (stays refl refl refl (paid_more to.behind then_ (taken + now) l))

  pub fault_halts : (from : Point) (fault : BuildFault) (new : Built) (taken : ℕ) (mark : Bool) → fault ≡ NotJson → WalksTo text items from (Err fault) new taken mark → Halts text items from
  fault_halts from NotJson new taken mark e h = h
  fault_halts from Memory new taken mark e h = absurd (cc)

  -- the first token
  pub share_walked_first : (to : Spot) (new : Built) (start taken now then_ : ℕ) (mark : Bool) → start ≡ 0 → then_ ≤ now + taken
      → Walked text items (point 0 (standing nothing wants.Value None) start false) (at to new taken mark) → Walked text items (point 0 (standing nothing wants.Value None) now false) (at to new then_ mark)
  share_walked_first to new start taken now then_ mark none few w =
      let z : start + now ≡ now = omega (arith, none) in
      let l : then_ ≤ taken + now = omega (arith, few) in
      let first = subst (λ n. Walked text items (point 0 (standing nothing wants.Value None) n false) (later now (at to new taken mark))) z (walked_later text items now w) in
      walked_more text items (subst (λ p. Walked text items (point 0 (standing nothing wants.Value None) now false) p) (sym (at_later to new taken now mark)) first)
      (stays refl refl refl (paid_more to.behind then_ (taken + now) l))

  pub share_halts : (from : Spot) (old : Built) (start now : ℕ) (mark : Bool) → start ≡ 0 → Halts text items (at from old start mark) → Halts text items (at from old now mark)
  share_halts from old start now mark none h =
      let z : start + now ≡ now = omega (arith, none) in
      subst (λ n. Halts text items (at from old n mark)) z (subst (Halts text items) (sym (at_later from old start now mark)) (halts_later text items now h))

module _ (text : List ℕ) (index : Index) (before : ℕ) where
  pub way_small : (now : ℕ) (seen : SeenNames) (way : Way) → IsUnderWay text index before now seen way → IsSmall way.number (standing way.builder wants.Next None)
  way_small now seen way u = small_state _ _ _ _ _ _ (walked_small text index.places.items u.listed _ _ u.walked (record { entries = omega arith; opens = (omega arith, tt) }))

  pub went_on : (now later : ℕ) (seen seen' : SeenNames) (way next : Way) → IsUnderWay text index before now seen way
      → Walked text index.places.items (at (spot_of way) way.builder now way.may_exceed) (at (spot_of next) next.builder later next.may_exceed) → next.number ≤ length index.places.items
      → (next.behind ≡ false → level_of next.builder.opens ≡ Root → ⊥) → DuplicateCheck text next.builder seen' → IsUnderWay text index before later seen' next
  went_on now later seen seen' way next u w inside opened checked = record {
    listed = u.listed;
    walked = walked_more text index.places.items u.walked w;
    inside = inside;
    opened = opened;
    checked = checked;
  }

  -- with another count of looks, which are those from here on
  pub counted_anew : (now : ℕ) (seen : SeenNames) (way : Way) → IsUnderWay text index before now seen way → IsUnderWay text index before 0 seen way
  counted_anew now seen way u = went_on now 0 seen seen way way u (stays refl refl refl (paid_more way.behind 0 now (omega arith))) u.inside u.opened u.checked

  pub way_halts : (now : ℕ) (seen : SeenNames) (way : Way) → IsUnderWay text index before now seen way → Halts text index.places.items (at (spot_of way) way.builder now way.may_exceed) → IsNoJson text
  way_halts now seen way u h = halts_none text index.places.items u.listed before (halts_more text index.places.items u.walked h)

  -- the value is whole, and places are left, or none
  pub way_more : (now : ℕ) (seen : SeenNames) (way : Way) → IsUnderWay text index before now seen way → IsOver way → way.number < length index.places.items → IsNoJson text
  way_more now seen way u over l = more_none text index.places.items u.listed before (spot_of way) way.builder now way.may_exceed u.walked over (behind_true way.behind (λ e. u.opened e over)) l

  pub way_whole : (now : ℕ) (seen : SeenNames) (way : Way) → (u : IsUnderWay text index before now seen way) → IsOver way → length index.places.items ≤ way.number
      → WholeWalk text index.places.items u.listed before way.builder.entries way.builder.deep now way.may_exceed
  way_whole now seen way u over done = whole_walk text index.places.items u.listed before (spot_of way) way.builder now way.may_exceed u.walked over (behind_true way.behind (λ e. u.opened e over)) done

-- how a walk that is over ends
module _ (text : List ℕ) (before now : ℕ) where
  pub ends_reading : (r : Result Reading BuildFault) → Ends text before now r → IfOk r (λ reading. IsReading text before now reading)
  ends_reading (Ok reading) h = h
  ends_reading (Err fault) h = tt

  pub ends_refused : (r : Result Reading BuildFault) → Ends text before now r → IsErrOf r NotJson → IsNoJson text
  ends_refused (Ok reading) h e = absurd (cc)
  ends_refused (Err NotJson) h e = h
  ends_refused (Err Memory) h e = absurd (h)
