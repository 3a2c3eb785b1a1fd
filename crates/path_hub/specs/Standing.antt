-- Where a session stands in its connection's stream: this project's own.
use Rattle.std.specs.Prelude.{◌≡◌, ℕ, List, [], ◌∷◌, ◌++◌, map, Option, false}
use Rattle.wire_frames.specs.Frames.{rest}
use Rattle.wire_frames.specs.Framing.{Framing, fresh, with_piece}
use Rattle.path_hub.specs.Pending.{bodies_in, pending, item, Takes}
use Rattle.path_hub.specs.Serving.{items_in}

-- of all that is whole in the stream these were answered, and the others are pending
pub record StandsAt (stream : List ℕ) (answered : List (Option (List ℕ))) (f : Framing) : Type 0 where
  pub bodies_are : bodies_in stream ≡ answered ++ pending f
  pub rest_is : f.closed ≡ false → rest f.waiting ≡ rest stream

-- A new session stands at the start, a piece that is taken and a step that answers keep it so, and what was answered are the first of the stream's items, whatever follows.
pub record Standing : Type 0 where
  pub start : StandsAt [] [] fresh
  pub piece : (stream more : List ℕ) (answered : List (Option (List ℕ))) (f : Framing) → StandsAt stream answered f → f.closed ≡ false → StandsAt (stream ++ more) answered (with_piece f more)
  pub step : (stream : List ℕ) (answered : List (Option (List ℕ))) (body : Option (List ℕ)) (f f' : Framing) → StandsAt stream answered f → Takes f body f' → StandsAt stream (answered ++ body ∷ []) f'
  pub first : (conn : ℕ) (stream more : List ℕ) (answered : List (Option (List ℕ))) (f : Framing) → StandsAt stream answered f
      → (waiting : List (Option (List ℕ))) × (items_in conn (stream ++ more) ≡ map (item conn) (answered ++ waiting))
