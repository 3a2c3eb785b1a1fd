-- The share with a ticket, and what each call leaves of it: this project's own.
use Rattle.std.specs.Prelude.{◌≡◌, ℕ, ◌==◌, ◌&&◌, List, [], ◌∷◌, ◌++◌, Bool, true, false}
use Rattle.memory_budget.specs.declared.share.Share.{Share}
use Rattle.memory_budget.specs.States.{State, Standing, party_at, own}

-- the shares with a ticket, held and waiting: one at most
abbrev pub shares_in : (ticket : ℕ) → Standing → List Share × List Share
shares_in ticket p = (own ticket p.held, own ticket p.waiting)

abbrev pub shares_as : State → (party ticket : ℕ) → List Share × List Share
shares_as s party ticket = shares_in ticket (party_at s party)

-- all shares but those of this party with this ticket are what they were
pub record OthersStay (party ticket : ℕ) (old new : State) : Type 0 where
  pub stay : (q t : ℕ) → (q == party && t == ticket) ≡ false → shares_as new q t ≡ shares_as old q t

-- one more, held or waiting
abbrev pub with_share : (is_held : Bool) → Share → List Share × List Share → List Share × List Share
with_share true x shares = (shares.0 ++ x ∷ [], shares.1)
with_share false x shares = (shares.0, shares.1 ++ x ∷ [])

-- a share that waited is held, and nothing else changes
pub record Grants (share : Share) (old new : State) : Type 0 where
  pub party : ℕ
  pub left : List Share
  pub waited : own share.ticket (party_at old party).waiting ≡ share ∷ left
  pub holds : shares_as new party share.ticket ≡ (own share.ticket (party_at old party).held ++ share ∷ [], left)
  pub others : OthersStay party share.ticket old new
