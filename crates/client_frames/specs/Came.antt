-- What stands at the front of the bytes that came from a server: a whole reply, the beginning of one, or neither.
use Rattle.std.specs.Prelude.{◌≡◌, ◌≢◌, ◌⊎◌, ℕ, ◌<◌, ◌≤◌, List, ◌++◌, length}
use Rattle.store_names.specs.Lengths.{longest_reply, payload_limit}
use Rattle.wire_frames.specs.Frames.{body_length}
use Rattle.wire_frames.specs.Replies.{reply}
use Rattle.client_frames.specs.declared.replies.Front.{Front}
use Rattle.client_frames.specs.declared.replies.Front.TheVariants.{Whole, Wait, NoReply}

-- no whole reply stands there
abbrev pub HoldsNoReply : List ℕ → Type 0
HoldsNoReply bytes = (status number : ℕ) (payload more : List ℕ) → length payload ≤ payload_limit → bytes ≢ reply status number payload ++ more

-- a reply's length, or less than that
abbrev pub MayBegin : List ℕ → Type 0
MayBegin bytes = (length bytes < 4) ⊎ ((5 ≤ body_length bytes) × (body_length bytes ≤ longest_reply))

abbrev pub Shows : List ℕ → Front → Type 0
Shows bytes (Whole r rest) = (length r.payload.now ≤ payload_limit) × (bytes ≡ reply r.status r.number r.payload.now ++ rest.now)
Shows bytes Wait = HoldsNoReply bytes × MayBegin bytes
Shows bytes NoReply = (more : List ℕ) → HoldsNoReply (bytes ++ more)
