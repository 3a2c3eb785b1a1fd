-- What is left of a text behind a place, as the grammar has it: brackets and braces, strings, words and numbers, and bytes between them.
use Rattle.json_text.proofs.Names.{◌≡◌, ℕ, suc, ◌+◌, ◌<◌, ◌≤◌, ◌⊎◌, inl, inr, List, [], ◌∷◌, ◌++◌, length, refl, sym, ap, ◌∙◌, subst, arith, append_assoc, append-nil, length-append}
use Rattle.json_text.proofs.Names.{IsText, IsScalarText, IsElements, IsMember, IsMembers, IsValue, array, member, next_element, next_member, object, one_element, one_member, scalar, no_array, no_object, at}
use Rattle.json_text.proofs.Names.{IsString, AreBlanks, AreAtoms, NoAtomFirst, Spelt, Scalar, Null, True, False, Num, Str, Tree, Leaf, Elements, NoElement, Element, Members, NoMember, Member, Name, then_element, then_member, source_of}
use Rattle.json_text.proofs.Names.{size, size_of_elements, size_of_members, Label, Top, Index, Named, extent, IsAt, itself, in_array, in_object, IsInElements, in_element, in_later_element, IsInMembers, in_member, in_later_member}
use Rattle.json_text.proofs.Chars.{number_atoms, number_some}
use Rattle.json_text.proofs.Complete.{no_atom-blanks}
use Rattle.json_text.proofs.Follows.{regroup3, regroup_more}
use Rattle.json_text.proofs.Numbers.{at_trans}
use Rattle.text_places.specs.Firsts.{IsContainer, IsBetween}
use Rattle.text_places.specs.Levels.{LiesIn, outermost, inside}

-- these bytes stand from this place on, in so many open containers, and behind the beginnings of n values
pub data Rest (whole : Tree) : (n level place : ℕ) → List ℕ → Type 0 where
  ends : {n level place : ℕ} {bs : List ℕ} → bs ≡ [] → size whole ≤ n → Rest whole n level place bs
  passes : {n level place b : ℕ} {bs cs : List ℕ} → bs ≡ b ∷ cs → IsBetween b → Rest whole n level (place + 1) cs → Rest whole n level place bs
  opens : {n level place b up : ℕ} {bs cs : List ℕ} {label : Label} {part : Tree} → bs ≡ b ∷ cs → (b ≡ 91) ⊎ (b ≡ 123) → IsAt whole 0 Top 0 n up label part → IsContainer part → place ≡ (source_of part).place
      → LiesIn whole n level → Rest whole (n + 1) (suc level) (place + 1) cs → Rest whole n level place bs
  closes : {n level inner place b : ℕ} {bs cs : List ℕ} → level ≡ suc inner → bs ≡ b ∷ cs → (b ≡ 93) ⊎ (b ≡ 125) → Rest whole n inner (place + 1) cs → Rest whole n level place bs
  names : {n level place : ℕ} {bs vs cs : List ℕ} (spelt : List Spelt) → bs ≡ vs ++ cs → IsString vs spelt → Rest whole n level (place + length vs) cs → Rest whole n level place bs
  quotes : {n level place up : ℕ} {bs vs cs : List ℕ} {label : Label} {spelt : List Spelt} → bs ≡ vs ++ cs → IsString vs spelt → IsAt whole 0 Top 0 n up label (Leaf (at place vs) (Str spelt))
      → Rest whole (n + 1) level (place + length vs) cs → Rest whole n level place bs
  words : {n level place c up : ℕ} {bs vs cs : List ℕ} {label : Label} {s : Scalar} → bs ≡ c ∷ vs ++ cs → IsScalarText (c ∷ vs) s → AreAtoms (c ∷ vs) → NoAtomFirst cs → IsAt whole 0 Top 0 n up label (Leaf (at place (c ∷ vs)) s)
      → Rest whole (n + 1) level (place + length (c ∷ vs)) cs → Rest whole n level place bs

-- a rest of the bytes, where the numbers are written otherwise
over : {whole : Tree} {n m level place p : ℕ} {bs : List ℕ} → m ≡ n → p ≡ place → Rest whole m level p bs → Rest whole n level place bs
over {whole} {n} {m} {level} {place} {p} {bs} e f r = subst (λ k. Rest whole k level place bs) e (subst (λ k. Rest whole m level k bs) f r)

of_bytes : {whole : Tree} {n level place : ℕ} {bs cs : List ℕ} → bs ≡ cs → Rest whole n level place cs → Rest whole n level place bs
of_bytes {whole} {n} {level} {place} e r = subst (Rest whole n level place) (sym e) r

blanks_rest : {whole : Tree} (s : List ℕ) {n level place : ℕ} {cs : List ℕ} → AreBlanks s → Rest whole n level (place + length s) cs → Rest whole n level place (s ++ cs)
blanks_rest [] h r = over refl (omega arith) r
blanks_rest (b ∷ s) h r = passes refl (inl h.0) (blanks_rest s h.1 (over refl (omega arith) r))

-- one more element or member

size-then_element : (es : Elements) (t : Tree) → size_of_elements (then_element es t) ≡ size_of_elements es + size t
size-then_element NoElement t = omega arith
size-then_element (Element a es) t = omega (arith, size-then_element es t)

size-then_member : (ms : Members) (n : Name) (t : Tree) → size_of_members (then_member ms n t) ≡ size_of_members ms + size t
size-then_member NoMember n t = omega arith
size-then_member (Member m a ms) n t = omega (arith, size-then_member ms n t)

in_front : {es : Elements} {s : Tree} {up i k n u : ℕ} {l : Label} (t : Tree) → IsInElements es up i k n u l s → IsInElements (then_element es t) up i k n u l s
in_front t (in_element h) = in_element h
in_front t (in_later_element h) = in_later_element (in_front t h)

in_last : (es : Elements) (t : Tree) (up i k n : ℕ) → k + size_of_elements es ≡ n → (l : Label) × IsInElements (then_element es t) up i k n up l t
in_last NoElement t up i k n e = (Index i, subst (λ m. IsInElements (Element t NoElement) up i k m up (Index i) t) (let f : k ≡ n = omega arith in f) (in_element itself))
in_last (Element a es) t up i k n e = let x = in_last es t up (i + 1) (k + size a) n (omega arith) in (x.0, in_later_element x.1)

in_first_members : {ms : Members} {s : Tree} {up k n u : ℕ} {l : Label} (m : Name) (t : Tree) → IsInMembers ms up k n u l s → IsInMembers (then_member ms m t) up k n u l s
in_first_members m t (in_member h) = in_member h
in_first_members m t (in_later_member h) = in_later_member (in_first_members m t h)

in_last_member : (ms : Members) (m : Name) (t : Tree) (up k n : ℕ) → k + size_of_members ms ≡ n → (l : Label) × IsInMembers (then_member ms m t) up k n up l t
in_last_member NoMember m t up k n e = (Named (extent m.source), subst (λ j. IsInMembers (Member m t NoMember) up k j up (Named (extent m.source)) t) (let f : k ≡ n = omega arith in f) (in_member itself))
in_last_member (Member o a ms) m t up k n e = let x = in_last_member ms m t up (k + size a) n (omega arith) in (x.0, in_later_member x.1)

comma_first : (cs : List ℕ) → NoAtomFirst (44 ∷ cs)
comma_first cs = λ e. cc

scalar_rest : {whole : Tree} {n level place up : ℕ} {label : Label} (vs cs : List ℕ) (s : Scalar) → IsScalarText vs s → IsAt whole 0 Top 0 n up label (Leaf (at place vs) s) → NoAtomFirst cs → Rest whole (n + 1) level (place + length vs) cs → Rest whole n level place (vs ++ cs)
scalar_rest vs cs (Str spelt) h i f r = quotes refl h i r
scalar_rest [] cs Num h i f r = absurd (number_some [] h refl)
scalar_rest [] cs s h i f r = absurd (cc)
scalar_rest (c ∷ vs) cs Null h i f r = words refl h (subst AreAtoms (sym h) (refl, (refl, (refl, (refl, tt))))) f i r
scalar_rest (c ∷ vs) cs True h i f r = words refl h (subst AreAtoms (sym h) (refl, (refl, (refl, (refl, tt))))) f i r
scalar_rest (c ∷ vs) cs False h i f r = words refl h (subst AreAtoms (sym h) (refl, (refl, (refl, (refl, (refl, tt)))))) f i r
scalar_rest (c ∷ vs) cs Num h i f r = words refl h (number_atoms (c ∷ vs) h) f i r

module _ (whole : Tree) where
  mutual
    value_rest : {p : ℕ} {vs : List ℕ} {t : Tree} → IsValue p vs t → {n up level : ℕ} {label : Label} → IsAt whole 0 Top 0 n up label t → LiesIn whole n level → (cs : List ℕ) → NoAtomFirst cs
        → Rest whole (n + size t) level (p + length vs) cs → Rest whole n level p (vs ++ cs)
    value_rest (scalar {bs = bs} {s = s} h) i lies cs f r = scalar_rest bs cs s h i f r
    value_rest (no_array s b) i lies cs f r =
        opens (ap (λ l. 91 ∷ l) (append_assoc s (93 ∷ []) cs)) (inl refl) i tt refl lies (blanks_rest s b (closes refl refl (inl refl) (over (omega arith) (omega (arith, length-append s (93 ∷ []))) r)))
    value_rest (array {p = p} s body s' {es = es} b h b') i lies cs f r =
        opens (ap (λ l. 91 ∷ l) (regroup3 s body s' 93 cs)) (inl refl) i tt refl lies
        (blanks_rest s b (elements_rest h (λ n u l t j. at_trans i (in_array j)) lies (omega arith) (s' ++ 93 ∷ cs) (no_atom-blanks s' (93 ∷ cs) b' (λ e. cc))
        (blanks_rest s' b' (closes refl refl (inl refl) (over (omega arith) (omega (arith, long)) r)))))
      where
        long : length (s ++ body ++ s' ++ 93 ∷ []) ≡ length s + (length body + (length s' + 1))
        long = simp length-append (omega arith)
    value_rest (no_object s b) i lies cs f r =
        opens (ap (λ l. 123 ∷ l) (append_assoc s (125 ∷ []) cs)) (inr refl) i tt refl lies (blanks_rest s b (closes refl refl (inr refl) (over (omega arith) (omega (arith, length-append s (125 ∷ []))) r)))
    value_rest (object {p = p} s body s' {ms = ms} b h b') i lies cs f r =
        opens (ap (λ l. 123 ∷ l) (regroup3 s body s' 125 cs)) (inr refl) i tt refl lies
        (blanks_rest s b (members_rest h (λ n u l t j. at_trans i (in_object j)) lies (omega arith) (s' ++ 125 ∷ cs) (no_atom-blanks s' (125 ∷ cs) b' (λ e. cc))
        (blanks_rest s' b' (closes refl refl (inr refl) (over (omega arith) (omega (arith, long)) r)))))
      where
        long : length (s ++ body ++ s' ++ 125 ∷ []) ≡ length s + (length body + (length s' + 1))
        long = simp length-append (omega arith)

    elements_rest : {p : ℕ} {vs : List ℕ} {es : Elements} → IsElements p vs es → {up i k level : ℕ} → ((n u : ℕ) (l : Label) (t : Tree) → IsInElements es up i k n u l t → IsAt whole 0 Top 0 n u l t) → LiesIn whole up level → 0 < k
        → (cs : List ℕ) → NoAtomFirst cs → Rest whole (k + size_of_elements es) (suc level) (p + length vs) cs → Rest whole k (suc level) p (vs ++ cs)
    elements_rest (one_element {t = t} h) {k = k} is lies some cs f r = let i = is _ _ _ t (in_element itself) in value_rest h i (inside some i lies) cs f (over (omega arith) refl r)
    elements_rest (next_element {p = p} front s s' bs {es = es} {t = t} hf b b' hv) {up} {i} {k} is lies some cs f r =
        of_bytes (regroup_more front s 44 s' bs cs)
        (elements_rest hf (λ n u l a j. is n u l a (in_front t j)) lies some (s ++ 44 ∷ (s' ++ (bs ++ cs))) (no_atom-blanks s (44 ∷ (s' ++ (bs ++ cs))) b (comma_first (s' ++ (bs ++ cs))))
        (blanks_rest s b (passes refl (inr (inl refl)) (blanks_rest s' b'
        (over refl (omega (arith, long))
        (value_rest hv last.1 (inside (omega arith) last.1 lies) cs f
        (over (omega (arith, size-then_element es t)) (omega (arith, all)) r)))))))
      where
        last : (l : Label) × IsAt whole 0 Top 0 (k + size_of_elements es) up l t
        last = let x = in_last es t up i k (k + size_of_elements es) refl in (x.0, is _ _ _ t x.1)

        long : length (front ++ s ++ 44 ∷ s') ≡ length front + (length s + (1 + length s'))
        long = simp length-append (omega arith)

        all : length (front ++ s ++ 44 ∷ s' ++ bs) ≡ length (front ++ s ++ 44 ∷ s') + length bs
        all = simp length-append (omega arith)

    members_rest : {p : ℕ} {vs : List ℕ} {ms : Members} → IsMembers p vs ms → {up k level : ℕ} → ((n u : ℕ) (l : Label) (t : Tree) → IsInMembers ms up k n u l t → IsAt whole 0 Top 0 n u l t) → LiesIn whole up level → 0 < k
        → (cs : List ℕ) → NoAtomFirst cs → Rest whole (k + size_of_members ms) (suc level) (p + length vs) cs → Rest whole k (suc level) p (vs ++ cs)
    members_rest (one_member {t = t} h) is lies some cs f r = member_rest h (is _ _ _ t (in_member itself)) lies some cs f (over (omega arith) refl r)
    members_rest (next_member {p = p} front s s' bs {ms = ms} {n = m} {t = t} hf b b' hv) {up} {k} is lies some cs f r =
        of_bytes (regroup_more front s 44 s' bs cs)
        (members_rest hf (λ n u l a j. is n u l a (in_first_members m t j)) lies some (s ++ 44 ∷ (s' ++ (bs ++ cs))) (no_atom-blanks s (44 ∷ (s' ++ (bs ++ cs))) b (comma_first (s' ++ (bs ++ cs))))
        (blanks_rest s b (passes refl (inr (inl refl)) (blanks_rest s' b'
        (over refl (omega (arith, long))
        (member_rest hv last.1 lies (omega arith) cs f
        (over (omega (arith, size-then_member ms m t)) (omega (arith, all)) r)))))))
      where
        last : (l : Label) × IsAt whole 0 Top 0 (k + size_of_members ms) up l t
        last = let x = in_last_member ms m t up k (k + size_of_members ms) refl in (x.0, is _ _ _ t x.1)

        long : length (front ++ s ++ 44 ∷ s') ≡ length front + (length s + (1 + length s'))
        long = simp length-append (omega arith)

        all : length (front ++ s ++ 44 ∷ s' ++ bs) ≡ length (front ++ s ++ 44 ∷ s') + length bs
        all = simp length-append (omega arith)

    member_rest : {p : ℕ} {vs : List ℕ} {m : Name} {t : Tree} → IsMember p vs m t → {n up level : ℕ} {label : Label} → IsAt whole 0 Top 0 n up label t → LiesIn whole up level → 0 < n → (cs : List ℕ) → NoAtomFirst cs
        → Rest whole (n + size t) (suc level) (p + length vs) cs → Rest whole n (suc level) p (vs ++ cs)
    member_rest (member {p = p} name s s' bs {n = nm} {t = t} src hs b b' hv) i lies some cs f r =
        of_bytes (regroup_more name s 58 s' bs cs)
        (names nm.characters refl hs (blanks_rest s b (passes refl (inr (inr refl)) (blanks_rest s' b'
        (over refl (omega (arith, long)) (value_rest hv i (inside some i lies) cs f (over refl (omega (arith, all)) r)))))))
      where
        long : length (name ++ s ++ 58 ∷ s') ≡ length name + (length s + (1 + length s'))
        long = simp length-append (omega arith)

        all : length (name ++ s ++ 58 ∷ s' ++ bs) ≡ length (name ++ s ++ 58 ∷ s') + length bs
        all = simp length-append (omega arith)

pub text_rest : (text : List ℕ) (t : Tree) → IsText text t → Rest t 0 0 0 text
text_rest text t h =
    of_bytes (h.whole ∙ append_assoc h.before h.bytes h.after)
    (blanks_rest h.before h.blanks_before
    (over refl (omega arith)
    (value_rest t h.value itself outermost h.after (subst NoAtomFirst (append-nil h.after) (no_atom-blanks h.after [] h.blanks_after tt))
    (of_bytes (sym (append-nil h.after)) (blanks_rest h.after h.blanks_after (ends refl (omega arith)))))))
