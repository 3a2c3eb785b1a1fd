use Rattle.json_text.proofs.Names.{◌≡◌, ℕ, false, List, None, sym, ap, subst, arith, IsNoJson}
use Rattle.json_walk.proofs.Names.{NotJson, IsListed, Walked, at, point, standing, DuplicateCheck}
use Rattle.json_text.specs.declared.tape.Want.TheVariants as wants
use Rattle.tape_cells.specs.Built.{nothing}
use Rattle.json_walk.proofs.Walking.{unclosed_none, control_none, wrong_none}
use Rattle.json_walk.proofs.WholeWalk.{began, fault_none}
use Rattle.json_walk.proofs.UnderWay.{share_walked_first}
use Rattle.json_walk.proofs.second_stage.begin.Goals.{After-batch-batch, then-index-via-then-index, then-index-via-else-index+then-index-2, then-index-via-else-index+else-index-2+then-index-3}
use Rattle.json_walk.proofs.second_stage.begin.Goals as goal

pub returns-then-index-clause-refused : goal.returns-then-index-clause-refused
returns-then-index-clause-refused c = λ e t x. elim c.then-index.branch [
  | then-index-via-then-index w ↦ unclosed_none c.args.looks.now.0 t x (c.requires.index.unclosed_is.0 w.if-index.true)
  | then-index-via-else-index+then-index-2 w ↦ control_none c.args.looks.now.0 t x (c.requires.index.control_is.0 w.if-index-2.true)
  | then-index-via-else-index+else-index-2+then-index-3 w ↦ wrong_none c.args.looks.now.0 t x (c.requires.index.wrong_is.0 w.if-index-3.true)
]

-- the bytes of the batch, and the list that is walked
bytes : (c : After-batch-batch) → c.batch-batch.result.0 ≡ c.args.looks.now.0
bytes c = ap (λ (p : List ℕ × ℕ). p.0) c.batch-batch.ensures

none : (c : After-batch-batch) → c.batch-batch.result.1 ≡ 0
none c = ap (λ (p : List ℕ × ℕ). p.1) c.batch-batch.ensures

listed : (c : After-batch-batch) → IsListed c.args.looks.now.0 c.as_slice-places.result.now
listed c = record { list = grind arith; short = c.requires.short; utf8 = c.requires.utf8; controls = λ h. grind arith; escapes = λ h. grind arith; closed = λ h. grind arith }

places : (c : After-batch-batch) → c.as_slice-places.result.now ≡ c.args.index.now.places.items
places c = grind arith

pub whole-first-requires-clause-listed : goal.whole-first-requires-clause-listed
whole-first-requires-clause-listed c = let b = (goal.at.whole-first-requires-clause-listed c).After-batch-batch in subst (λ t. IsListed t c.as_slice-places.result.now) (sym (bytes b)) (listed b)

pub returns-in-Ok-clause-on_way : goal.returns-in-Ok-clause-on_way
returns-in-Ok-clause-on_way c = λ seen checked.
    let b = (goal.at.returns-in-Ok-clause-on_way c).After-batch-batch in let text = c.args.looks.now.0 in
    let e = places b in let list = subst (IsListed text) e (listed b) in
    let settled = ap (λ (p : List ℕ × ℕ). p.1) c.settle.ensures in
    let walks = subst (λ t. Walked t c.as_slice-places.result.now (point 0 (standing nothing wants.Value None) c.batch-batch.result.1 false) (at c.in-Ok.spot c.whole-first.new.builder c.whole-first.new.looks.1 c.whole-first.new.may_exceed)) (bytes b)
    (began _ _ (subst (λ t. IsListed t c.as_slice-places.result.now) (sym (bytes b)) (listed b)) _ _ _ c.in_ok-builder.ensures c.in-Ok.ensures.walks) in
    record {
      listed = list;
      walked = share_walked_first text c.args.index.now.places.items c.in-Ok.spot c.whole-first.new.builder c.batch-batch.result.1 c.whole-first.new.looks.1 c.args.looks.now.1 c.settle.new.self.1 c.whole-first.new.may_exceed (none b) (omega (arith, settled))
          (subst (λ p. Walked text p (point 0 (standing nothing wants.Value None) c.batch-batch.result.1 false) (at c.in-Ok.spot c.whole-first.new.builder c.whole-first.new.looks.1 c.whole-first.new.may_exceed)) e walks);
      inside = (let further = c.in-Ok.ensures.further in grind arith);
      opened = c.in-Ok.ensures.opened;
      checked = subst (λ t. DuplicateCheck t c.whole-first.new.builder seen) (bytes b) (c.in-Ok.ensures.checked seen (subst (λ x. DuplicateCheck c.batch-batch.result.0 x seen) (sym c.in_ok-builder.ensures) (subst (λ t. DuplicateCheck t nothing seen) (sym (bytes b)) checked)));
    }

pub returns-in-Err-clause-refused : goal.returns-in-Err-clause-refused
returns-in-Err-clause-refused c = λ e. let b = (goal.at.returns-in-Err-clause-refused c).After-batch-batch in
    subst IsNoJson (bytes b) (fault_none _ _ (subst (λ t. IsListed t c.as_slice-places.result.now) (sym (bytes b)) (listed b)) c.batch-batch.result.1 _ c.in-Err.fault c.whole-first.new.builder c.whole-first.new.looks.1 c.whole-first.new.may_exceed c.in_ok-builder.ensures c.in-Err.ensures.walks (let f : c.in-Err.fault ≡ NotJson = cc in f))
