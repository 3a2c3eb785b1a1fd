-- The tree that is built from the entries of a text's tree is that tree.
use Rattle.json_text.proofs.Names.{◌≡◌, ◌<◌, ◌^◌, ℕ, suc, ◌+◌, List, [], ◌∷◌, ◌++◌, length, Option, Some, None, refl, sym, ap, ◌∙◌, append_assoc}
use Rattle.json_text.proofs.Names.{arith, take_at, drop_at, append-nil, Source, Name, Scalar, Str, Tree, Leaf, Arr, Obj, Elements, NoElement, Element}
use Rattle.json_text.proofs.Names.{Members, NoMember, Member, IsString, IsScalarText, IsText, size, Label, Top, Index, Named, role_of, label_spot}
use Rattle.json_text.proofs.Names.{extent, kind_of_scalar, element_count, member_count, tape_of, tape_of_elements, tape_of_members, IsJson}
use Rattle.json_text.proofs.Names.{StandsForAll, IsAccepted}
use Rattle.json_text.specs.Verdict.{IsFaultless}
use Rattle.json_tape.specs.Document.{IsDocument, Built, elements_built, members_built, source_in, tree_built, name_built, built, tree_of}
use Rattle.json_text.specs.declared.tape.Entry.{Entry}
use Rattle.json_text.proofs.Fits.{Lies, Fits, FitElements, FitMembers, text_fits}
use Rattle.json_strings.proofs.Spelled.{spelt_is}

built_source : (text : List ℕ) (s : Source) → Lies text s → source_in text (extent s) ≡ s
built_source text s l = ap (λ b. record { place = s.place; bytes = b }) (sym l)

built_scalar : (s : Source) (c : Scalar) (bs : List Built) → IsScalarText s.bytes c → tree_built (kind_of_scalar c) s bs ≡ Leaf s c
built_scalar s (Str cs) bs h = ap (λ l. Leaf s (Str l)) (spelt_is s.bytes cs h)
built_scalar s _ bs h = refl

-- how a name shows in the entries
abbrev IsNamed : List ℕ → Label → Option Name → Type 0
IsNamed text label name = name_built (role_of label) (source_in text (label_spot label)) ≡ name

named : (text : List ℕ) (n : Name) → Lies text n.source → IsString n.source.bytes n.characters → IsNamed text (Named (extent n.source)) (Some n)
named text n l h = ap (λ s. name_built (role_of (Named (extent n.source))) s) (built_source text n.source l) ∙ ap (λ cs. Some (record { source = n.source; characters = cs })) (spelt_is n.source.bytes n.characters h)

abbrev elements_list : Elements → List Built
elements_list NoElement = []
elements_list (Element t es) = record { name = None; tree = t } ∷ elements_list es

abbrev members_list : Members → List Built
members_list NoMember = []
members_list (Member n t ms) = record { name = Some n; tree = t } ∷ members_list ms

elements_length : (es : Elements) → length (elements_list es) ≡ element_count es
elements_length NoElement = refl
elements_length (Element t es) = ap suc (elements_length es)

members_length : (ms : Members) → length (members_list ms) ≡ member_count ms
members_length NoMember = refl
members_length (Member n t ms) = ap suc (members_length ms)

elements_again : (es : Elements) → elements_built (elements_list es) ≡ es
elements_again NoElement = refl
elements_again (Element t es) = ap (Element t) (elements_again es)

members_again : (ms : Members) → members_built (members_list ms) ≡ ms
members_again NoMember = refl
members_again (Member n t ms) = ap (Member n t) (members_again ms)

module _ (text : List ℕ) where
  mutual
    pub built_tree : (t : Tree) (up : ℕ) (label : Label) (k : ℕ) (name : Option Name) (rest : List Entry) → Fits text t → IsNamed text label name
        → built text (tape_of t up label k ++ rest) ≡ record { name = name; tree = t } ∷ built text rest
    built_tree (Leaf s c) up label k name rest f n = grind (arith, built_source, built_scalar)
    built_tree (Arr s es) up label k name rest f n = let b = built_elements es k 0 (k + 1) rest f.1 in
        let front = take_at (elements_list es) (built text rest) (element_count es) (elements_length es) in
        let back = drop_at (elements_list es) (built text rest) (element_count es) (elements_length es) in
        rw (b, front, back, n, built_source text s f.0, elements_again es) refl
    built_tree (Obj s ms) up label k name rest f n = let b = built_members ms k (k + 1) rest f.1 in
        let front = take_at (members_list ms) (built text rest) (member_count ms) (members_length ms) in
        let back = drop_at (members_list ms) (built text rest) (member_count ms) (members_length ms) in
        rw (b, front, back, n, built_source text s f.0, members_again ms) refl

    pub built_elements : (es : Elements) (up i k : ℕ) (rest : List Entry) → FitElements text es → built text (tape_of_elements es up i k ++ rest) ≡ elements_list es ++ built text rest
    built_elements NoElement up i k rest f = refl
    built_elements (Element t es) up i k rest f =
        ap (built text) (append_assoc (tape_of t up (Index i) k) (tape_of_elements es up (i + 1) (k + size t)) rest)
        ∙ built_tree t up (Index i) k None (tape_of_elements es up (i + 1) (k + size t) ++ rest) f.0 refl
        ∙ ap (λ l. record { name = None; tree = t } ∷ l) (built_elements es up (i + 1) (k + size t) rest f.1)

    pub built_members : (ms : Members) (up k : ℕ) (rest : List Entry) → FitMembers text ms → built text (tape_of_members ms up k ++ rest) ≡ members_list ms ++ built text rest
    built_members NoMember up k rest f = refl
    built_members (Member n t ms) up k rest f =
        ap (built text) (append_assoc (tape_of t up (Named (extent n.source)) k) (tape_of_members ms up (k + size t)) rest)
        ∙ built_tree t up (Named (extent n.source)) k (Some n) (tape_of_members ms up (k + size t) ++ rest) f.2 (named text n f.0 f.1)
        ∙ ap (λ l. record { name = Some n; tree = t } ∷ l) (built_members ms up (k + size t) rest f.3)

-- the document of a text and its tape has the text's tree
pub tree_is : (text : List ℕ) (entries : List Entry) (t : Tree) → IsText text t → entries ≡ tape_of t 0 Top 0 → tree_of (record { text = text; entries = entries }) ≡ t
unfolding tree_of
tree_is text entries t h e = cc (append-nil (tape_of t 0 Top 0), built_tree text t 0 Top 0 None [] (text_fits text t h) refl)

module _ (text source : List ℕ) (entries : List Entry) (same : source ≡ text) (json : IsJson text) (stands : StandsForAll text entries) where
  pub is_accepted : IsFaultless text → IsAccepted text (tree_of (record { text = source; entries = entries }))
  is_accepted none = grind (arith, tree_is)

  pub document : IsFaultless text → length entries < 2 ^ 31 → IsDocument (record { text = source; entries = entries })
  document none small = grind (arith, is_accepted)
