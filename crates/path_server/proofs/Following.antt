-- Keys that were read, and the rest of the text behind them.
use Rattle.std.proofs.Common.{◌≡◌, ℕ, ◌<◌, ◌≤◌, ◌+◌, ◌-◌, List, [], ◌∷◌, ◌++◌, length, take, drop, slice_index, refl, ap, arith}
use Rattle.std.proofs.Math.Seq.{take-append_seam, drop-append-add, get_or-append_seam, split_at}
use Rattle.std.proofs.lemmas.List.{append_assoc, length-append}
use Rattle.hex.proofs.HexLemmas.{IsOk-decode_sized}
use Rattle.path_server.specs.Keys.{SpellsKey, SpellsKeys}
use Rattle.path_server.proofs.Splits.{take_rest}

-- keys that the rest spells go on what was read, and the rest spells some where the text does
pub record Follows (text : List ℕ) (read : List (List ℕ)) (rest : List ℕ) : Type 0 where
  pub forth : (keys : List (List ℕ)) → SpellsKeys rest keys → SpellsKeys text (read ++ keys)
  pub back : (keys : List (List ℕ)) → SpellsKeys text keys → (others : List (List ℕ)) × SpellsKeys rest others

pub follows_nothing : (text : List ℕ) → Follows text [] text
follows_nothing text = record { forth = λ keys spelled. spelled; back = λ keys spelled. (keys, spelled) }

spelled_length : (text key : List ℕ) → SpellsKey text key → length text ≡ 32
spelled_length text key spelled = ((IsOk-decode_sized text 16).0 (rw spelled refl)).0

-- the first key of several, at its place in the text
pub record IsFront (rest : List ℕ) : Type 0 where
  pub key : List ℕ
  pub spelled : SpellsKey (take 32 rest) key
  pub comma : slice_index rest 32 ≡ 44
  pub others : List (List ℕ)
  pub others_spelled : SpellsKeys (drop 33 rest) others

front_of : (first others key : List ℕ) (keys : List (List ℕ)) → SpellsKey first key → SpellsKeys others keys → IsFront (first ++ 44 ∷ others)
front_of first others key keys spelled more =
    let long = spelled_length first key spelled in
    let seam : take (length first) (first ++ 44 ∷ others) ≡ first = take-append_seam first (44 ∷ others) in
    let mark : slice_index (first ++ 44 ∷ others) (length first) ≡ 44 = get_or-append_seam first 44 others 0 in
    let left : drop (length first + 1) (first ++ 44 ∷ others) ≡ others = drop-append-add first (44 ∷ others) 1 in
    let front = rw long at seam in
    let comma = rw long at mark in
    let behind = rw long at left in
    record { key = key; spelled = rw front spelled; comma = comma; others = keys; others_spelled = rw behind more }

-- a text of more than one key's length that spells keys begins with one and a comma
pub front : (rest : List ℕ) (keys : List (List ℕ)) → 32 < length rest → SpellsKeys rest keys → IsFront rest
front rest [] long spelled = absurd spelled
front rest (key ∷ []) long spelled = let l = spelled_length rest key spelled in absurd (omega arith)
front rest (key ∷ next ∷ keys) long (first, others, split, spelled, more) = rw split (front_of first others key (next ∷ keys) spelled more)

-- one of no more spells one key
pub last : (rest : List ℕ) (keys : List (List ℕ)) → length rest ≤ 32 → SpellsKeys rest keys → (key : List ℕ) × SpellsKey rest key
last rest [] short spelled = absurd spelled
last rest (key ∷ []) short spelled = (key, spelled)
last rest (key ∷ next ∷ keys) short (first, others, split, spelled, more) =
    let l = spelled_length first key spelled in
    let sum = length-append first (44 ∷ others) in
    let same = ap length split in
    absurd (omega arith)

joined : (rest : List ℕ) (key : List ℕ) (keys : List (List ℕ)) → 32 < length rest → SpellsKey (take 32 rest) key → slice_index rest 32 ≡ 44 → SpellsKeys (drop 33 rest) keys → SpellsKeys rest (key ∷ keys)
joined rest key [] long spelled comma more = absurd more
joined rest key (next ∷ keys) long spelled comma more =
    let split : rest ≡ take 32 rest ++ 44 ∷ drop 33 rest = rw comma at (split_at {A = ℕ} rest 32 0 long) in
    (take 32 rest, drop 33 rest, split, spelled, more)

pub follows_next : (text : List ℕ) (read : List (List ℕ)) (rest key : List ℕ) → Follows text read rest → 32 < length rest → SpellsKey (take 32 rest) key → slice_index rest 32 ≡ 44
    → Follows text (read ++ key ∷ []) (take (length rest - 33) (drop 33 rest))
follows_next text read rest key f long spelled comma = rw (take_rest 33 rest) (record {
  forth = λ keys more. rw (append_assoc read (key ∷ []) keys) (f.forth (key ∷ keys) (joined rest key keys long spelled comma more));
  back = λ keys all. let (others, more) = f.back keys all in let it = front rest others long more in (it.others, it.others_spelled);
})
