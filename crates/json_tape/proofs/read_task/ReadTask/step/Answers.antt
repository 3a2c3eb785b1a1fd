use Rattle.json_text.proofs.Names.{◌≡◌, ◌∙◌, ℕ, List, ap, sym, subst, Err, IsNoJson}
use Rattle.std.specs.String.{string_bytes}
use Rattle.json_text.specs.Answer.{Explains}
use Rattle.json_walk.specs.UnderWay.{IsUnderWay}
use Rattle.json_walk.proofs.UnderWay.{counted_anew}
use Rattle.name_stamps.specs.declared.seen.SeenNames.{SeenNames}
use Rattle.json_tape.specs.Shares.{IsRead, IsKept}
use Rattle.json_tape.proofs.Verdicts.{explained}
use Rattle.json_tape.proofs.read_task.ReadTask.step.Goals.{After-new-looks, In-Ok}
use Rattle.json_tape.proofs.read_task.ReadTask.step.Goals as goal

bytes : (c : After-new-looks) → c.new-looks.result.0 ≡ string_bytes c.self.inside.text
bytes c = ap (λ (p : List ℕ × ℕ). p.0) c.new-looks.ensures ∙ c.as_bytes.ensures.value

-- the walk as it stood, with no look taken by this share
begun : (c : After-new-looks) → IsUnderWay c.new-looks.result.0 c.self.inside.index c.self.invariant.3.0 c.new-looks.result.1 c.self.inside.seen.value c.self.inside.way
begun c = let way = c.self.invariant.3 in
    subst (λ t. IsUnderWay t c.self.inside.index way.0 c.new-looks.result.1 c.self.inside.seen.value c.self.inside.way) (sym (bytes c))
    (subst (λ n. IsUnderWay (string_bytes c.self.inside.text) c.self.inside.index way.0 n c.self.inside.seen.value c.self.inside.way) (sym (ap (λ (p : List ℕ × ℕ). p.1) c.new-looks.ensures))
    (counted_anew (string_bytes c.self.inside.text) c.self.inside.index way.0 way.1 c.self.inside.seen.value c.self.inside.way way.2))

-- the walk is under way with the names as they are lent
lent : (c : After-new-looks) → {seen : SeenNames} → seen ≡ c.self.inside.seen.value → IsUnderWay c.new-looks.result.0 c.self.inside.index c.self.invariant.3.0 c.new-looks.result.1 seen c.self.inside.way
lent c same = subst (λ s. IsUnderWay c.new-looks.result.0 c.self.inside.index c.self.invariant.3.0 c.new-looks.result.1 s c.self.inside.way) (sym same) (begun c)

-- the walk behind the share
came : (c : In-Ok) → IsUnderWay c.new-looks.result.0 c.self.inside.index c.self.invariant.3.0 c.new-looks.result.1 c.deref_mut.result.now c.self.inside.way
    → c.new-looks.result.0 ≡ string_bytes c.self.inside.text → IsRead (string_bytes c.self.inside.text) c.self.inside.index c.go_on.new.seen c.in-Ok.way
came c u same = let i = c.self.invariant in (i.0, i.1, i.2, (i.3.0, c.go_on.new.looks.1, subst (λ t. IsUnderWay t c.self.inside.index i.3.0 c.go_on.new.looks.1 c.go_on.new.seen c.in-Ok.way) same (c.in-Ok.ensures.on_way i.3.0 u)))

pub go_on-requires : goal.go_on-requires
go_on-requires c = (c.self.invariant.3.0, lent (goal.at.go_on-requires c).After-new-looks c.deref_mut.ensures.value)

pub refused-requires : goal.refused-requires
refused-requires c = let at = (goal.at.refused-requires c).After-new-looks in let i = c.self.invariant in
    subst (Explains (string_bytes c.self.inside.text)) (sym c.fault_of.ensures)
    (explained (string_bytes c.self.inside.text) i.0 i.1 c.in-Err.fault (λ e. subst IsNoJson (bytes at) (c.in-Err.ensures.refused (ap Err e))))

pub invariant_of-result : goal.invariant_of-result
invariant_of-result c = let at = goal.at.invariant_of-result c in came at.In-Ok (lent at.After-new-looks c.deref_mut.ensures.value) (bytes at.After-new-looks)

pub end-requires-clause-read : goal.end-requires-clause-read
end-requires-clause-read c = let at = goal.at.end-requires-clause-read c in
    subst (λ s. IsRead c.as_str.result.now c.self.inside.index s c.in-Ok.way) (sym c.into_inner.ensures)
    (subst (λ t. IsRead t c.self.inside.index c.go_on.new.seen c.in-Ok.way) (sym c.as_str.ensures.value) (came at.In-Ok (lent at.After-new-looks c.deref_mut.ensures.value) (bytes at.After-new-looks)))

pub of_parts-requires : goal.of_parts-requires
of_parts-requires c = let parts = c.in-Ok-end.parts in subst (λ t. IsKept t parts.tape parts.names) c.as_str.ensures.value c.in-Ok-end.ensures
