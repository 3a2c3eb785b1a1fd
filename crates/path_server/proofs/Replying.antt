-- A reply read piece by piece.
use Rattle.std.proofs.Common.{◌≡◌, ℕ, ◌+◌, ◌-◌, ◌<◌, ◌≤◌, List, [], ◌∷◌, ◌++◌, length, map, take, sym, ap, ◌∙◌, subst, refl, arith, length-append, length-take, append_assoc, ◌⊎◌, inl, inr, Result, Ok, Err, true, false}
use Rattle.std.proofs.lemmas.List.Concat.{flat_map-append}
use Rattle.std.proofs.lemmas.List.{append-nil, map_push, map-append, take_at, take_all, take-append-le}
use Rattle.std.specs.Int.{w32, from_be_bytes}
use Rattle.path_hub.specs.Into.{joined}
use Rattle.path_hub.specs.Wires.{Meaning, Gave, Took, Moved, Reads, Faults, WritesAll, HasEnded}
use Rattle.store_names.specs.Lengths.{longest_reply}
use Rattle.wire_frames.specs.Frames.{body_length}
use Rattle.path_server.specs.Calls.{HoldsNoReply, IsReadFault}
use Rattle.path_server.specs.Exchanges.{EndsReply, EndsExchange, Exchanges, IsCutShort, IsReply, ReadsBytes, ReadsReply, SpellsLength}
use Rattle.path_server.specs.declared.call_fault.CallFault.{CallFault}
use Rattle.path_server.specs.declared.call_fault.CallFault.TheVariants.{TooLong, BadLine, ReadFault, WriteFault, Memory}
use Rattle.path_server.proofs.Moves.{moved_none, moved_trans}
use Rattle.path_server.proofs.Framed.{above_limit, is_reply, not_whole, reply_or_none}

-- so many of the bytes came, and stand behind what stood there
pub record HasRead (count : ℕ) (m : Meaning) (old : List ℕ) (left : ℕ) (n : Meaning) (new : List ℕ) : Type 0 where
  pub chunks : List (List ℕ)
  pub told : Moved m.traffic (map Gave chunks) n.traffic
  pub total : length (joined chunks) + left ≡ count
  pub new_is : new ≡ old ++ joined chunks
  pub failures : n.failures ≡ m.failures

pub read_none : (count : ℕ) (m : Meaning) (old : List ℕ) → HasRead count m old count m old
read_none count m old = record { chunks = []; told = moved_none m.traffic; total = omega arith; new_is = sym (append-nil old); failures = refl }

-- one piece more came
pub record OneMore (count : ℕ) (m : Meaning) (piece : List ℕ) (left : ℕ) (k : Meaning) : Type 0 where
  pub chunks : List (List ℕ)
  pub told : Moved m.traffic (map Gave chunks) k.traffic
  pub total : length (joined chunks) + left ≡ count + length piece
  pub failures : k.failures ≡ m.failures

push_joined : (cs : List (List ℕ)) (c : List ℕ) → joined (cs ++ c ∷ []) ≡ joined cs ++ c
push_joined cs c = flat_map-append (λ bytes. bytes) cs (c ∷ []) ∙ ap (λ s. joined cs ++ s) (append-nil c)

push_length : (cs : List (List ℕ)) (c : List ℕ) → length (joined (cs ++ c ∷ [])) ≡ length (joined cs) + length c
push_length cs c = ap length (push_joined cs c) ∙ length-append (joined cs) c

one_more : (count : ℕ) (m n k : Meaning) (old new : List ℕ) (left : ℕ) (piece : List ℕ) → HasRead count m old left n new → Reads n piece k → OneMore count m piece left k
one_more count m n k old new left piece h r = record {
  chunks = h.chunks ++ piece ∷ [];
  told = subst (λ ms. Moved m.traffic ms k.traffic) (sym (map_push Gave h.chunks piece)) (moved_trans m.traffic n.traffic k.traffic (map Gave h.chunks) (Gave piece ∷ []) h.told r.moved);
  total = let total = h.total in omega (arith, push_length h.chunks piece, total);
  failures = r.failures ∙ h.failures;
}

read_in-append : (count : ℕ) (m n k : Meaning) (old mid new : List ℕ) (left : ℕ) (piece : List ℕ) → HasRead count m old left n mid → Reads n piece k → length piece ≤ left → new ≡ mid ++ piece → HasRead count m old (left - length piece) k new
unfolding one_more
read_in-append count m n k old mid new left piece h r few same =
    let o = one_more count m n k old mid left piece h r in
    let total = o.total in
    record {
      chunks = o.chunks;
      told = o.told;
      total = omega (arith, total, few);
      new_is = same ∙ ap (λ s. s ++ piece) h.new_is ∙ append_assoc old (joined h.chunks) piece ∙ ap (λ s. old ++ s) (sym (push_joined h.chunks piece));
      failures = o.failures;
    }

-- the piece is at the front of a buffer
pub read_piece : (count : ℕ) (m n k : Meaning) (old mid new : List ℕ) (left j : ℕ) (into rest : List ℕ) → HasRead count m old left n mid → Reads n (take j into) k → j ≤ left → j ≤ length into → new ≡ mid ++ take j (into ++ rest) → HasRead count m old (left - j) k new
read_piece count m n k old mid new left j into rest h r few within same =
    let long : length (take j into) ≡ j = omega (arith, length-take j into, within) in
    let front : take j (into ++ rest) ≡ take j into = take-append-le j into rest within in
    subst (λ x. HasRead count m old (left - x) k new) long (read_in-append count m n k old mid new left (take j into) h r (omega (arith, long, few)) (same ∙ ap (λ x. mid ++ x) front))

pub read_all : (count : ℕ) (m n : Meaning) (old new : List ℕ) (left : ℕ) → HasRead count m old left n new → left ≤ 0 → ReadsBytes count m old (Ok tt) n new
read_all count m n old new left h none = let total = h.total in record { chunks = h.chunks; told = h.told; ends = (omega (arith, total, none), h.new_is, h.failures) }

pub read_failed : (count : ℕ) (m n k : Meaning) (old mid new : List ℕ) (left : ℕ) → HasRead count m old left n mid → 0 < left → Faults n k → ReadsBytes count m old (Err ReadFault) k new
read_failed count m n k old mid new left h some f =
    let total = h.total in
    record {
      chunks = h.chunks;
      told = subst (λ ms. Moved m.traffic ms k.traffic) (append-nil (map Gave h.chunks)) (moved_trans m.traffic n.traffic k.traffic (map Gave h.chunks) [] h.told f.moved);
      ends = (omega (arith, total, some), inl (f.failures ∙ ap (λ x. x + 1) h.failures));
    }

pub read_ended : (count : ℕ) (m n k : Meaning) (old mid new : List ℕ) (left : ℕ) (piece : List ℕ) → HasRead count m old left n mid → 0 < left → Reads n piece k → length piece ≡ 0 → HasEnded k.traffic → ReadsBytes count m old (Err ReadFault) k new
read_ended count m n k old mid new left piece h some r empty ended =
    let o = one_more count m n k old mid left piece h r in
    let total = o.total in
    record { chunks = o.chunks; told = o.told; ends = (omega (arith, total, some, empty), inr (o.failures, ended)) }

pub read_refused : (count : ℕ) (m n k : Meaning) (old mid new : List ℕ) (left : ℕ) (piece : List ℕ) → HasRead count m old left n mid → Reads n piece k → length piece ≤ left → ReadsBytes count m old (Err Memory) k new
read_refused count m n k old mid new left piece h r few =
    let o = one_more count m n k old mid left piece h r in
    let total = o.total in
    record { chunks = o.chunks; told = o.told; ends = (omega (arith, total, few), o.failures) }

-- ---- a whole reply

cut_short : (came : List ℕ) (m n : Meaning) → IsCutShort m n → IsReadFault came m n
cut_short came m n (inl e) = inl e
cut_short came m n (inr (e, ended)) = inr (e, inl ended)

-- where no failure came before
cut_since : (m n k : Meaning) → n.failures ≡ m.failures → IsCutShort n k → IsCutShort m k
cut_since m n k same (inl e) = inl (e ∙ ap (λ x. x + 1) same)
cut_since m n k same (inr (e, ended)) = inr (e ∙ same, ended)

pub fault_since : (came : List ℕ) (m n k : Meaning) → n.failures ≡ m.failures → IsReadFault came n k → IsReadFault came m k
fault_since came m n k same (inl e) = inl (e ∙ ap (λ x. x + 1) same)
fault_since came m n k same (inr (e, why)) = inr (e ∙ same, why)

-- the head was not read whole
pub no_head : (m n : Meaning) (old head reply : List ℕ) (fault : CallFault) → ReadsBytes 4 m old (Err fault) n head → ReadsReply m (Err fault) n reply
no_head m n old head reply TooLong r = absurd r.ends
no_head m n old head reply (BadLine number) r = absurd r.ends
no_head m n old head reply ReadFault r = let few = r.ends.0 in record { chunks = r.chunks; told = r.told; ends = (not_whole (joined r.chunks) (omega (arith, few)), cut_short (joined r.chunks) m n r.ends.1) }
no_head m n old head reply WriteFault r = absurd r.ends
no_head m n old head reply Memory r = let few = r.ends.0 in record { chunks = r.chunks; told = r.told; ends = (reply_or_none (joined r.chunks) (omega (arith, few)), r.ends.1) }

head_long : (m n : Meaning) (old head : List ℕ) → ReadsBytes 4 m old (Ok tt) n head → old ≡ [] → length head ≡ 4
head_long m n old head r none = let few = r.ends.0 in ap length (r.ends.1 ∙ ap (λ s. s ++ joined r.chunks) none) ∙ few

pub too_long : (m n : Meaning) (old head reply : List ℕ) (length' : ℕ) → ReadsBytes 4 m old (Ok tt) n head → old ≡ [] → SpellsLength head length' → longest_reply < length' → ReadsReply m (Err ReadFault) n reply
too_long m n old head reply length' r none s above =
    let came : head ≡ joined r.chunks = r.ends.1 ∙ ap (λ x. x ++ joined r.chunks) none in
    let long : longest_reply < body_length (joined r.chunks) = subst (λ x. longest_reply < body_length x) came (subst (λ x. longest_reply < x) s.length_is above) in
    let four = r.ends.0 in
    record {
      chunks = r.chunks;
      told = r.told;
      ends = (above_limit (joined r.chunks) long, inr (r.ends.2, inr (record { head = four; above = long })));
    }

spells_more : (head part : List ℕ) (n : ℕ) → SpellsLength head n → length head ≡ 4 → SpellsLength (head ++ part) n
spells_more head part n s four =
    let front : take 4 (head ++ part) ≡ take 4 head = take_at head part 4 four ∙ sym (take_all 4 head (omega (arith, four))) in
    record { length_is = s.length_is ∙ sym (ap (from_be_bytes w32) front); head = s.head ∙ sym front }

-- what came behind a head that spells this length
pub record Behind (len : ℕ) (m k : Meaning) (head : List ℕ) (part : List ℕ) : Type 0 where
  pub chunks : List (List ℕ)
  pub told : Moved m.traffic (map Gave chunks) k.traffic
  pub came : joined chunks ≡ head ++ part
  pub spells : SpellsLength (head ++ part) len
  pub long : length (head ++ part) ≡ 4 + length part

behind : (len : ℕ) (m n k : Meaning) (head part : List ℕ) (cs : List (List ℕ)) → ReadsBytes 4 m [] (Ok tt) n head → SpellsLength head len → Moved n.traffic (map Gave cs) k.traffic → joined cs ≡ part → Behind len m k head part
behind len m n k head part cs r s told part_is =
    let four : length head ≡ 4 = head_long m n [] head r refl in
    record {
      chunks = r.chunks ++ cs;
      told = subst (λ ms. Moved m.traffic ms k.traffic) (sym (map-append Gave r.chunks cs)) (moved_trans m.traffic n.traffic k.traffic (map Gave r.chunks) (map Gave cs) r.told told);
      came = flat_map-append (λ bytes. bytes) r.chunks cs ∙ ap (λ x. x ++ joined cs) (sym r.ends.1) ∙ ap (λ x. head ++ x) part_is;
      spells = spells_more head part len s four;
      long = omega (arith, length-append head part, four);
    }

-- less than the body came
cut_body : (len : ℕ) (head part : List ℕ) → SpellsLength (head ++ part) len → length (head ++ part) ≡ 4 + length part → length part < len → HoldsNoReply (head ++ part)
cut_body len head part s long few = let spelled = s.length_is in not_whole (head ++ part) (omega (arith, long, few, spelled))

pub body_read : (len : ℕ) (m n k : Meaning) (head reply : List ℕ) (end' : Result (Unit {0}) CallFault) → ReadsBytes 4 m [] (Ok tt) n head → SpellsLength head len → len ≤ longest_reply → ReadsBytes len n head end' k reply → ReadsReply m end' k reply
body_read len m n k head reply (Ok u) r s small b =
    let w = behind len m n k head (joined b.chunks) b.chunks r s b.told refl in
    let whole = b.ends.0 in
    let long = w.long in
    record {
      chunks = w.chunks;
      told = w.told;
      ends = (subst IsReply (sym w.came) (is_reply (head ++ joined b.chunks) len w.spells (omega (arith, long, whole)) small), b.ends.1 ∙ sym w.came, b.ends.2 ∙ r.ends.2);
    }
body_read len m n k head reply (Err TooLong) r s small b = absurd b.ends
body_read len m n k head reply (Err (BadLine number)) r s small b = absurd b.ends
body_read len m n k head reply (Err ReadFault) r s small b =
    let w = behind len m n k head (joined b.chunks) b.chunks r s b.told refl in
    record {
      chunks = w.chunks;
      told = w.told;
      ends = (subst HoldsNoReply (sym w.came) (cut_body len head (joined b.chunks) w.spells w.long b.ends.0), cut_short (joined w.chunks) m k (cut_since m n k r.ends.2 b.ends.1));
    }
body_read len m n k head reply (Err WriteFault) r s small b = absurd b.ends
body_read len m n k head reply (Err Memory) r s small b =
    let w = behind len m n k head (joined b.chunks) b.chunks r s b.told refl in
    let few = b.ends.0 in
    let long = w.long in
    let spelled = w.spells.length_is in
    record {
      chunks = w.chunks;
      told = w.told;
      ends = (subst (λ x. HoldsNoReply x ⊎ IsReply x) (sym w.came) (reply_or_none (head ++ joined b.chunks) (omega (arith, long, few, spelled))), b.ends.1 ∙ r.ends.2);
    }

-- ---- a request and its reply

pub not_sent : (m n : Meaning) (request reply : List ℕ) → WritesAll m request false n → Exchanges request m (Err WriteFault) n reply
not_sent m n request reply w = record {
  pieces = w.pieces;
  chunks = [];
  unsent = w.others;
  sent = w.bytes_are;
  told = subst (λ ms. Moved m.traffic ms n.traffic) (sym (append-nil (map Took w.pieces))) w.moved;
  ends = (refl, w.failures);
}

pub sent_all : (m n : Meaning) (request : List ℕ) → WritesAll m request true n → n.failures ≡ m.failures
sent_all m n request w = let rises = w.failures in omega (arith, rises)

exchange_ends : (unsent : List ℕ) (chunks : List (List ℕ)) (end' : Result (Unit {0}) CallFault) (m n k : Meaning) (reply : List ℕ) → unsent ≡ [] → n.failures ≡ m.failures → EndsReply (joined chunks) end' n k reply → EndsExchange unsent chunks end' m k reply
exchange_ends unsent chunks (Ok u) m n k reply all same e = (all, e.0, e.1, e.2 ∙ same)
exchange_ends unsent chunks (Err TooLong) m n k reply all same e = absurd e
exchange_ends unsent chunks (Err (BadLine number)) m n k reply all same e = absurd e
exchange_ends unsent chunks (Err ReadFault) m n k reply all same e = (all, e.0, fault_since (joined chunks) m n k same e.1)
exchange_ends unsent chunks (Err WriteFault) m n k reply all same e = absurd e
exchange_ends unsent chunks (Err Memory) m n k reply all same e = (all, e.0, e.1 ∙ same)

pub exchanged : (m n k : Meaning) (request reply : List ℕ) (end' : Result (Unit {0}) CallFault) → WritesAll m request true n → ReadsReply n end' k reply → Exchanges request m end' k reply
exchanged m n k request reply end' w r = record {
  pieces = w.pieces;
  chunks = r.chunks;
  unsent = w.others;
  sent = w.bytes_are;
  told = moved_trans m.traffic n.traffic k.traffic (map Took w.pieces) (map Gave r.chunks) w.moved r.told;
  ends = exchange_ends w.others r.chunks end' m n k reply (w.all refl) (sent_all m n request w) r.ends;
}
