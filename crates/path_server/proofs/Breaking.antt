-- What is written of lines, piece by piece, and where it may break off.
use Rattle.std.proofs.Common.{◌≡◌, ◌≢◌, ℕ, List, [], ◌∷◌, ◌++◌, Option, Result, Ok, Err, refl, sym, ap, ◌∙◌, append_assoc, append-nil}
use Rattle.std.specs.Prelude.{OnErr}
use Rattle.std.specs.Io.KnownBytes.{Appends}
use Rattle.std.proofs.KnownBytes.{Appends-nil, Appends-trans}
use Rattle.standard_streams.specs.Fronts.{StopsShort, WritesBut}

pub at_err : {T E P : Type 0} (r : Result T E) → P → OnErr r P
at_err (Ok value) p = tt
at_err (Err fault) p = p

unwritten : (bytes : List ℕ) (known : Option (List ℕ)) → WritesBut bytes bytes known known
unwritten bytes known = record { front = []; split = refl; written = Appends-nil known }

first_there : (xs ys : List ℕ) → xs ≢ [] → xs ++ ys ≢ []
first_there [] ys n = absurd (n refl)
first_there (x ∷ xs) ys n = λ e. absurd cc

second_there : (xs ys : List ℕ) → ys ≢ [] → xs ++ ys ≢ []
second_there [] ys n = n
second_there (x ∷ xs) ys n = λ e. absurd cc

-- nothing is written of bytes before others
pub stops_at_once : (held bytes : List ℕ) (known : Option (List ℕ)) → bytes ≢ [] → StopsShort (held ++ bytes) known known
stops_at_once held bytes known n = (held ++ bytes, second_there held bytes n, unwritten (held ++ bytes) known)

whole : (bytes : List ℕ) (old new : Option (List ℕ)) → Appends old new bytes → WritesBut [] bytes old new
whole bytes old new w = record { front = bytes; split = sym (append-nil bytes); written = w }

-- what is to be written behind it changes nothing
pub behind : (more rest bytes : List ℕ) (old new : Option (List ℕ)) → WritesBut rest bytes old new → WritesBut (rest ++ more) (bytes ++ more) old new
behind more rest bytes old new w = record {
  front = w.front;
  split = ap (λ xs. xs ++ more) w.split ∙ append_assoc w.front rest more;
  written = w.written;
}

pub stops_before : (more bytes : List ℕ) (old new : Option (List ℕ)) → StopsShort bytes old new → StopsShort (bytes ++ more) old new
stops_before more bytes old new w = (w.0 ++ more, first_there w.0 more w.1, behind more w.0 bytes old new w.2)

pub stops_before_both : (held bytes more : List ℕ) (old new : Option (List ℕ)) → StopsShort (held ++ bytes) old new → StopsShort (held ++ (bytes ++ more)) old new
stops_before_both held bytes more old new w = rw (← append_assoc held bytes more) (stops_before more (held ++ bytes) old new w)

-- what is left is written next
pub further : (rest left bytes : List ℕ) (old mid new : Option (List ℕ)) → WritesBut left bytes old mid → WritesBut rest left mid new → WritesBut rest bytes old new
further rest left bytes old mid new w v = record {
  front = w.front ++ v.front;
  split = w.split ∙ ap (λ xs. w.front ++ xs) v.split ∙ sym (append_assoc w.front v.front rest);
  written = Appends-trans old mid new w.front v.front w.written v.written;
}

pub stops_further : (left bytes : List ℕ) (old mid new : Option (List ℕ)) → WritesBut left bytes old mid → StopsShort left mid new → StopsShort bytes old new
stops_further left bytes old mid new w v = (v.0, v.1, further v.0 left bytes old mid new w v.2)

-- ---- a line behind what is held: its head, its value and the line feed

line_parts : (held path source : List ℕ) → held ++ (path ++ 9 ∷ (source ++ 10 ∷ [])) ≡ ((held ++ (path ++ 9 ∷ [])) ++ source) ++ 10 ∷ []
line_parts held path source =
    let inner : path ++ 9 ∷ (source ++ 10 ∷ []) ≡ (path ++ 9 ∷ []) ++ (source ++ 10 ∷ []) = sym (append_assoc path (9 ∷ []) (source ++ 10 ∷ [])) in
    ap (λ xs. held ++ xs) inner ∙ sym (append_assoc held (path ++ 9 ∷ []) (source ++ 10 ∷ [])) ∙ sym (append_assoc (held ++ (path ++ 9 ∷ [])) source (10 ∷ []))

-- the head breaks off
pub head_stops : (held path source : List ℕ) (known : Option (List ℕ)) → StopsShort (held ++ (path ++ 9 ∷ (source ++ 10 ∷ []))) known known
head_stops held path source known = stops_at_once held (path ++ 9 ∷ (source ++ 10 ∷ [])) known (second_there path (9 ∷ (source ++ 10 ∷ [])) (λ e. absurd cc))

-- the value breaks off
pub value_stops : (held path source headed : List ℕ) (old new : Option (List ℕ)) → headed ≡ held ++ (path ++ 9 ∷ []) → ((more : List ℕ) → source ++ more ≢ [] → StopsShort (headed ++ (source ++ more)) old new)
    → StopsShort (held ++ (path ++ 9 ∷ (source ++ 10 ∷ []))) old new
value_stops held path source headed old new e w =
    rw (line_parts held path source, ← e, append_assoc headed source (10 ∷ [])) (w (10 ∷ []) (second_there source (10 ∷ []) (λ e. absurd cc)))

-- the line feed breaks off
pub feed_stops : (held path source headed left : List ℕ) (old mid new : Option (List ℕ)) → headed ≡ held ++ (path ++ 9 ∷ []) → WritesBut left (headed ++ source) old mid
    → ((more : List ℕ) → (10 ∷ []) ++ more ≢ [] → StopsShort (left ++ ((10 ∷ []) ++ more)) mid new) → StopsShort (held ++ (path ++ 9 ∷ (source ++ 10 ∷ []))) old new
feed_stops held path source headed left old mid new e w v =
    rw (line_parts held path source, ← e)
    (stops_further (left ++ 10 ∷ []) ((headed ++ source) ++ 10 ∷ []) old mid new (behind (10 ∷ []) left (headed ++ source) old mid w) (v [] (λ e. absurd cc)))

pub line_added : (held path source headed left rest : List ℕ) (old mid new : Option (List ℕ)) → headed ≡ held ++ (path ++ 9 ∷ []) → WritesBut left (headed ++ source) old mid
    → WritesBut rest (left ++ 10 ∷ []) mid new → WritesBut rest (held ++ (path ++ 9 ∷ (source ++ 10 ∷ []))) old new
line_added held path source headed left rest old mid new e w v =
    rw (line_parts held path source, ← e) (further rest (left ++ 10 ∷ []) ((headed ++ source) ++ 10 ∷ []) old mid new (behind (10 ∷ []) left (headed ++ source) old mid w) v)

-- ---- lines, one after the other

pub next_stops : (held line lines all : List ℕ) (old mid new : Option (List ℕ)) → WritesBut (held ++ (line ++ lines)) all old mid → StopsShort (held ++ line) mid new
    → StopsShort all old new
next_stops held line lines all old mid new w v = stops_further (held ++ (line ++ lines)) all old mid new w (stops_before_both held line lines mid new v)

pub next_written : (held line lines left all : List ℕ) (old mid new : Option (List ℕ)) → WritesBut (held ++ (line ++ lines)) all old mid → WritesBut left (held ++ line) mid new
    → WritesBut (left ++ lines) all old new
next_written held line lines left all old mid new w v =
    further (left ++ lines) (held ++ (line ++ lines)) all old mid new w (rw (← append_assoc held line lines) (behind lines left (held ++ line) mid new v))

-- ---- the bytes that are held are written first, and then others

pub pair_stops : (held bytes : List ℕ) (old mid new : Option (List ℕ)) → WritesBut [] held old mid → StopsShort bytes mid new → StopsShort (held ++ bytes) old new
pair_stops held bytes old mid new w v = stops_further bytes (held ++ bytes) old mid new (behind bytes [] held old mid w) v

pub pair_written : (held bytes : List ℕ) (old mid new : Option (List ℕ)) → WritesBut [] held old mid → Appends mid new bytes → WritesBut [] (held ++ bytes) old new
pair_written held bytes old mid new w v = further [] bytes (held ++ bytes) old mid new (behind bytes [] held old mid w) (whole bytes mid new v)
