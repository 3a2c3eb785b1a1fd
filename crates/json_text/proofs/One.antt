-- A text spells one tree: the tape tells its shape, and the text its bytes.
use Rattle.json_text.proofs.Names.{◌≡◌, ℕ, ◌+◌, List, [], ◌∷◌, ◌++◌, length, refl, sym, ap, ◌∙◌, subst, arith, append_assoc, Spelt, Source, Name}
use Rattle.json_text.proofs.Names.{Scalar, Null, True, False, Num, Str, Tree, Leaf, Arr, Obj, Elements, NoElement, Element, Members, NoMember, Member}
use Rattle.json_text.proofs.Names.{IsString, IsScalarText, IsText, State, Goes, stay, blank, token, Label, Top, Index, Named, element_count}
use Rattle.json_text.proofs.Names.{member_count, kind_of_scalar, tape_of, tape_of_elements, tape_of_members, extent, size}
use Rattle.std.proofs.lemmas.List.{append_cancel_right}
use Rattle.json_text.specs.declared.tape.Kind.TheVariants as kinds
use Rattle.json_text.specs.declared.tape.Extent.{Extent}
use Rattle.json_text.specs.declared.tape.Entry.{Entry}
use Rattle.json_text.proofs.Entries.{label_is}
use Rattle.json_text.proofs.Fits.{Lies, Fits, FitElements, FitMembers, text_fits}
use Rattle.json_text.proofs.Chars.{chars_one}
use Rattle.json_text.proofs.Lexed.{goes_token, goes_blank, goes_end}
use Rattle.json_text.proofs.Follows.{text_goes}
use Rattle.json_text.proofs.Numbers.{entry_first}

string_one : (cs ds : List Spelt) (bs : List ℕ) → IsString bs cs → IsString bs ds → cs ≡ ds
string_one cs ds bs h h' = grind (arith, append_cancel_right, chars_one)

scalar_one : (c d : Scalar) (bs : List ℕ) → kind_of_scalar c ≡ kind_of_scalar d → IsScalarText bs c → IsScalarText bs d → c ≡ d
scalar_one Null Null bs e h g = refl
scalar_one True True bs e h g = refl
scalar_one False False bs e h g = refl
scalar_one Num Num bs e h g = refl
scalar_one (Str cs) (Str ds) bs e h g = ap Str (string_one cs ds bs h g)
scalar_one _ _ bs e h g = absurd (cc)

pub no_array_kind : (c : Scalar) → kind_of_scalar c ≡ kinds.Array → ⊥
no_array_kind c e = grind arith

pub no_object_kind : (c : Scalar) → kind_of_scalar c ≡ kinds.Object → ⊥
no_object_kind c e = grind arith

source_one : (bytes : List ℕ) (s s' : Source) → Lies bytes s → Lies bytes s' → extent s ≡ extent s' → s ≡ s'
source_one bytes s s' h g e = grind arith

name_one : (n n' : Name) → n.source ≡ n'.source → n.characters ≡ n'.characters → n ≡ n'
name_one n n' e f = ap (λ s. record { source = s; characters = n.characters }) e ∙ ap (λ c. record { source = n'.source; characters = c }) f

head_same : (a b : Entry) (xs ys : List Entry) → a ∷ xs ≡ b ∷ ys → a ≡ b
head_same a b xs ys e = cc

tail_same : (a b : Entry) (xs ys : List Entry) → a ∷ xs ≡ b ∷ ys → xs ≡ ys
tail_same a b xs ys e = cc

-- the tapes of two trees begin with their names
name_first : (t t' : Tree) (up up' : ℕ) (x x' : Extent) (k : ℕ) (r r' : List Entry) → tape_of t up (Named x) k ++ r ≡ tape_of t' up' (Named x') k ++ r' → x ≡ x'
name_first t t' up up' x x' k r r' e =
    grind (arith, entry_first t up (Named x) k, entry_first t' up' (Named x') k, label_is t up (Named x) k, label_is t' up' (Named x') k)

module _ (bytes : List ℕ) where
  mutual
    pub same_tree : (t t' : Tree) (up up' : ℕ) (name name' : Label) (k : ℕ) (r r' : List Entry) → Fits bytes t → Fits bytes t' → tape_of t up name k ++ r ≡ tape_of t' up' name' k ++ r' → (t ≡ t') × (r ≡ r')
    same_tree (Leaf s c) (Leaf s' c') up up' name name' k r r' f f' e = grind (arith, head_same, source_one, scalar_one, tail_same)
    same_tree (Leaf s c) (Arr s' es') up up' name name' k r r' f f' e = absurd (no_array_kind c (ap (λ y. y.kind) (head_same _ _ r _ e)))
    same_tree (Leaf s c) (Obj s' ms') up up' name name' k r r' f f' e = absurd (no_object_kind c (ap (λ y. y.kind) (head_same _ _ r _ e)))
    same_tree (Arr s es) (Leaf s' c') up up' name name' k r r' f f' e = absurd (no_array_kind c' (sym (ap (λ y. y.kind) (head_same _ _ _ r' e))))
    same_tree (Arr s es) (Arr s' es') up up' name name' k r r' f f' e =
        let h = head_same _ _ (tape_of_elements es k 0 (k + 1) ++ r) (tape_of_elements es' k 0 (k + 1) ++ r') e in
        let g = tail_same _ _ (tape_of_elements es k 0 (k + 1) ++ r) (tape_of_elements es' k 0 (k + 1) ++ r') e in
        let x = source_one bytes s s' f.0 f'.0 (ap (λ y. y.source) h) in
        let z = same_elements es es' k k 0 (k + 1) r r' (ap (λ y. y.children) h) f.1 f'.1 g in (ap (λ y. Arr y es) x ∙ ap (Arr s') z.0, z.1)
    same_tree (Obj s ms) (Leaf s' c') up up' name name' k r r' f f' e = absurd (no_object_kind c' (sym (ap (λ y. y.kind) (head_same _ _ _ r' e))))
    same_tree (Obj s ms) (Obj s' ms') up up' name name' k r r' f f' e =
        let h = head_same _ _ (tape_of_members ms k (k + 1) ++ r) (tape_of_members ms' k (k + 1) ++ r') e in
        let g = tail_same _ _ (tape_of_members ms k (k + 1) ++ r) (tape_of_members ms' k (k + 1) ++ r') e in
        let x = source_one bytes s s' f.0 f'.0 (ap (λ y. y.source) h) in
        let z = same_members ms ms' k k (k + 1) r r' (ap (λ y. y.children) h) f.1 f'.1 g in (ap (λ y. Obj y ms) x ∙ ap (Obj s') z.0, z.1)
    same_tree _ _ up up' name name' k r r' f f' e = grind arith

    pub same_elements : (es es' : Elements) (up up' i k : ℕ) (r r' : List Entry) → element_count es ≡ element_count es' → FitElements bytes es → FitElements bytes es' → tape_of_elements es up i k ++ r ≡ tape_of_elements es' up' i k ++ r' → (es ≡ es') × (r ≡ r')
    same_elements NoElement NoElement up up' i k r r' c f f' e = (refl, e)
    same_elements (Element t es) (Element t' es') up up' i k r r' c f f' e =
        let a = sym (append_assoc (tape_of t up (Index i) k) (tape_of_elements es up (i + 1) (k + size t)) r) ∙ e ∙ append_assoc (tape_of t' up' (Index i) k) (tape_of_elements es' up' (i + 1) (k + size t')) r' in
        let x = same_tree t t' up up' (Index i) (Index i) k _ _ f.0 f'.0 a in
        let b = x.1 ∙ ap (λ n. tape_of_elements es' up' (i + 1) (k + size n) ++ r') (sym x.0) in
        let z = same_elements es es' up up' (i + 1) (k + size t) r r' (omega arith) f.1 f'.1 b in
        (ap (λ y. Element y es) x.0 ∙ ap (Element t') z.0, z.1)
    same_elements _ _ up up' i k r r' c f f' e = absurd (omega arith)

    pub same_members : (ms ms' : Members) (up up' k : ℕ) (r r' : List Entry) → member_count ms ≡ member_count ms' → FitMembers bytes ms → FitMembers bytes ms' → tape_of_members ms up k ++ r ≡ tape_of_members ms' up' k ++ r' → (ms ≡ ms') × (r ≡ r')
    same_members NoMember NoMember up up' k r r' c f f' e = (refl, e)
    same_members (Member n t ms) (Member n' t' ms') up up' k r r' c f f' e =
        let a = sym (append_assoc (tape_of t up (Named (extent n.source)) k) (tape_of_members ms up (k + size t)) r) ∙ e ∙ append_assoc (tape_of t' up' (Named (extent n'.source)) k) (tape_of_members ms' up' (k + size t')) r' in
        let x = same_tree t t' up up' (Named (extent n.source)) (Named (extent n'.source)) k _ _ f.2 f'.2 a in
        let b = x.1 ∙ ap (λ m. tape_of_members ms' up' (k + size m) ++ r') (sym x.0) in
        let z = same_members ms ms' up up' (k + size t) r r' (omega arith) f.3 f'.3 b in
        let src = source_one bytes n.source n'.source f.0 f'.0 (name_first t t' up up' (extent n.source) (extent n'.source) k _ _ a) in
        let chars = string_one n.characters n'.characters n.source.bytes f.1 (subst (λ y. IsString y.bytes n'.characters) (sym src) f'.1) in
        (ap (λ y. Member n t y) z.0 ∙ ap (λ y. Member y t ms') (name_one n n' src chars) ∙ ap (λ y. Member n' y ms') x.0, z.1)
    same_members _ _ up up' k r r' c f f' e = absurd (omega arith)

-- two ways over one text end alike
goes_same : {p q q' : ℕ} {bs : List ℕ} {s s1 s2 : State} → Goes p bs s q [] s1 → Goes p bs s q' [] s2 → s1 ≡ s2
goes_same (stay f g) w = goes_end w g
goes_same {q' = q'} {s2 = s2} (blank {p = p} {p' = p'} {cs = cs} {s = s} g f h v) w =
    goes_same v (subst (λ n. Goes n cs s q' [] s2) (sym f) (goes_blank w g h))
goes_same {q' = q'} {s2 = s2} (token {p = p} {p' = p'} {vs = vs} {rest = rest} {s' = s'} g f i st v) w =
    let x = goes_token w g i in let y : x.next ≡ s' = (let z = x.steps in cc) in
    goes_same v (subst (λ n. Goes n rest s' q' [] s2) (sym f) (subst (λ z. Goes (p + length vs) rest z q' [] s2) y x.way))

-- a text spells one tree
pub one_tree : (bytes : List ℕ) (t t' : Tree) → IsText bytes t → IsText bytes t' → t ≡ t'
one_tree bytes t t' h h' = let e = goes_same (text_goes bytes t h).1 (text_goes bytes t' h').1 in
    (same_tree bytes t t' 0 0 Top Top 0 [] [] (text_fits bytes t h) (text_fits bytes t' h') (ap (λ s. s.entries ++ []) e)).0
