-- A line is whole in what was taken and its rest together.
use Rattle.std.proofs.Common.{◌≡◌, ℕ, ◌+◌, ◌-◌, ◌^◌, List, [], ◌++◌, Option, Some, None, refl, sym, ap, ◌∙◌, append_assoc, append-nil, inl, inr, take, drop}
use Rattle.std.specs.Prelude.{min, string_bytes}
use Rattle.std.specs.Option.{option_map}
use Rattle.std.proofs.Math.Seq.{drop-drop}
use Rattle.std.proofs.lemmas.List.{take-append-drop}
use Rattle.log_lines.specs.declared.line_writer.LineWriter.{LineWriter}
use Rattle.log_lines.specs.Writing.{rest_of, with_rest, IsLost, Puts}

added_behind : (a b : Option (List ℕ)) (x y line : List ℕ) → option_map (λ t. t ++ x) a ≡ option_map (λ t. t ++ y) b →
    option_map (λ t. t ++ (x ++ line)) a ≡ option_map (λ t. t ++ (y ++ line)) b
added_behind None None x y line e = refl
added_behind None (Some b) x y line e = absurd cc
added_behind (Some a) None x y line e = absurd cc
added_behind (Some a) (Some b) x y line e =
    let h : a ++ x ≡ b ++ y = cc in
    ap (λ (z : List ℕ). Some z) (sym (append_assoc a x line) ∙ ap (λ (z : List ℕ). z ++ line) h ∙ append_assoc b y line)

-- a line behind one of which the rest was taken
pub put_behind : (line : List ℕ) (t0 t1 t2 : Option (List ℕ)) (old mid new : LineWriter) → with_rest t1 mid ≡ with_rest t0 old → mid.lost ≡ old.lost →
    Puts line t1 t2 mid new → Puts line t0 t2 old new
put_behind line t0 t1 t2 old mid new e l (inl f) = inl (record { bytes = f.bytes ∙ added_behind t1 t0 (rest_of mid) (rest_of old) line e; lost_stays = f.lost_stays ∙ l })
put_behind line t0 t1 t2 old mid new e l (inr f) = inr (record { bytes = f.bytes ∙ e; counted = f.counted ∙ ap (λ (n : ℕ). min (n + 1) (2 ^ 64 - 1)) l })

-- what is taken of a list goes from the front of the rest to the end of what was taken
pub taken_off : (t t' : Option (List ℕ)) (n : ℕ) (xs : List ℕ) → t' ≡ option_map (λ t. t ++ take n xs) t → option_map (λ t. t ++ drop n xs) t' ≡ option_map (λ t. t ++ xs) t
taken_off None t' n xs e = ap (option_map (λ t. t ++ drop n xs)) e
taken_off (Some t) t' n xs e =
    ap (option_map (λ t. t ++ drop n xs)) e ∙ ap (λ (z : List ℕ). Some z) (append_assoc t (take n xs) (drop n xs) ∙ ap (λ (z : List ℕ). t ++ z) (take-append-drop n xs))

-- the rest goes on
pub went_on : (t t' : Option (List ℕ)) (old : LineWriter) (n : ℕ) (xs : List ℕ) → xs ≡ rest_of old → t' ≡ option_map (λ t. t ++ take n xs) t →
    with_rest t' (record old { written = old.written + n }) ≡ with_rest t old
went_on t t' old n xs same e =
    let d : drop (old.written + n) (string_bytes old.line) ≡ drop n (rest_of old) = sym (drop-drop n old.written (string_bytes old.line)) in
    ap (λ (r : List ℕ). option_map (λ t. t ++ r) t') d
    ∙ taken_off t t' n (rest_of old) (e ∙ ap (λ (r : List ℕ). option_map (λ t. t ++ take n r) t) same)

-- a line that begins behind a whole one
pub begun : (line : List ℕ) (t t' : Option (List ℕ)) (old new : LineWriter) → rest_of old ≡ [] → line ≡ string_bytes new.line →
    t' ≡ option_map (λ t. t ++ take new.written (string_bytes new.line)) t → new.lost ≡ old.lost → Puts line t t' old new
begun line t t' old new none same e l =
    let whole : line ≡ rest_of old ++ line = sym (ap (λ (r : List ℕ). r ++ line) none) in
    inl (record { bytes = taken_off t t' new.written (string_bytes new.line) e ∙ ap (λ (r : List ℕ). option_map (λ t. t ++ r) t) (sym same ∙ whole); lost_stays = l })

none_taken : (line : List ℕ) (t t' : Option (List ℕ)) (n : ℕ) → n ≡ 0 → t' ≡ option_map (λ t. t ++ take n line) t → t' ≡ t
none_taken line None t' n zero e = e
none_taken line (Some t) t' n zero e = e ∙ ap (λ (n : ℕ). Some (t ++ take n line)) zero ∙ ap (λ (z : List ℕ). Some z) (append-nil t)

-- a line of which nothing is taken
pub none_begun : (line : List ℕ) (t t' : Option (List ℕ)) (n : ℕ) (old new : LineWriter) → n ≡ 0 → t' ≡ option_map (λ t. t ++ take n line) t →
    IsLost t' t' old new → Puts line t t' old new
none_begun line t t' n old new zero e f = inr (record { bytes = f.bytes ∙ ap (λ (x : Option (List ℕ)). with_rest x old) (none_taken line t t' n zero e); counted = f.counted })
