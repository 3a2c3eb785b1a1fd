-- Which bytes spell which tree, by cases on the productions of RFC 8259. `IsValue place bytes t`: these bytes, with `place` bytes before them, spell t.
use Rattle.std.specs.Prelude.{◌≡◌, ℕ, ◌+◌, List, [], ◌∷◌, ◌++◌, length, codes}
use Rattle.json_text.specs.Tree.{Source, Name, Scalar, Null, True, False, Num, Str, Tree, Leaf, Arr, Obj, Elements, NoElement, Element, Members, NoMember, Member, then_element, then_member}
use Rattle.decimal_order.specs.Number.{IsNumber}
use Rattle.json_text.specs.Letters.{AreBlanks, IsString}

abbrev pub at : ℕ → List ℕ → Source
at p bs = record { place = p; bytes = bs }

-- the three words, a number, or a string (section 3)
abbrev pub IsScalarText : List ℕ → Scalar → Type 0
IsScalarText bytes Null = bytes ≡ codes "null"
IsScalarText bytes True = bytes ≡ codes "true"
IsScalarText bytes False = bytes ≡ codes "false"
IsScalarText bytes Num = IsNumber bytes
IsScalarText bytes (Str cs) = IsString bytes cs

mutual
  pub data IsValue : ℕ → List ℕ → Tree → Type 0 where
    scalar : {p : ℕ} {bs : List ℕ} {s : Scalar} → IsScalarText bs s → IsValue p bs (Leaf (at p bs) s)
    -- "[" S "]" (section 5)
    no_array : {p : ℕ} (s : List ℕ) → AreBlanks s
        → IsValue p (91 ∷ (s ++ 93 ∷ [])) (Arr (at p (91 ∷ (s ++ 93 ∷ []))) NoElement)
    -- "[" S elements S "]"
    array : {p : ℕ} (s body s' : List ℕ) {es : Elements} → AreBlanks s → IsElements (p + 1 + length s) body es → AreBlanks s'
        → IsValue p (91 ∷ (s ++ body ++ s' ++ 93 ∷ [])) (Arr (at p (91 ∷ (s ++ body ++ s' ++ 93 ∷ []))) es)
    -- "{" S "}" (section 4)
    no_object : {p : ℕ} (s : List ℕ) → AreBlanks s
        → IsValue p (123 ∷ (s ++ 125 ∷ [])) (Obj (at p (123 ∷ (s ++ 125 ∷ []))) NoMember)
    -- "{" S members S "}"
    object : {p : ℕ} (s body s' : List ℕ) {ms : Members} → AreBlanks s → IsMembers (p + 1 + length s) body ms → AreBlanks s'
        → IsValue p (123 ∷ (s ++ body ++ s' ++ 125 ∷ [])) (Obj (at p (123 ∷ (s ++ body ++ s' ++ 125 ∷ []))) ms)

  -- value *(S "," S value)
  pub data IsElements : ℕ → List ℕ → Elements → Type 0 where
    one_element : {p : ℕ} {bs : List ℕ} {t : Tree} → IsValue p bs t → IsElements p bs (Element t NoElement)
    next_element : {p : ℕ} (front s s' bs : List ℕ) {es : Elements} {t : Tree} → IsElements p front es → AreBlanks s → AreBlanks s'
        → IsValue (p + length (front ++ s ++ 44 ∷ s')) bs t → IsElements p (front ++ s ++ 44 ∷ s' ++ bs) (then_element es t)

  -- member *(S "," S member)
  pub data IsMembers : ℕ → List ℕ → Members → Type 0 where
    one_member : {p : ℕ} {bs : List ℕ} {n : Name} {t : Tree} → IsMember p bs n t → IsMembers p bs (Member n t NoMember)
    next_member : {p : ℕ} (front s s' bs : List ℕ) {ms : Members} {n : Name} {t : Tree} → IsMembers p front ms → AreBlanks s → AreBlanks s'
        → IsMember (p + length (front ++ s ++ 44 ∷ s')) bs n t → IsMembers p (front ++ s ++ 44 ∷ s' ++ bs) (then_member ms n t)

  -- string S ":" S value
  pub data IsMember : ℕ → List ℕ → Name → Tree → Type 0 where
    member : {p : ℕ} (name s s' bs : List ℕ) {n : Name} {t : Tree} → n.source ≡ at p name → IsString name n.characters → AreBlanks s → AreBlanks s'
        → IsValue (p + length (name ++ s ++ 58 ∷ s')) bs t → IsMember p (name ++ s ++ 58 ∷ s' ++ bs) n t

-- S value S (section 2, `JSON-text`)
pub record IsText (text : List ℕ) (t : Tree) : Type 0 where
  pub before : List ℕ
  pub bytes : List ℕ
  pub after : List ℕ
  pub blanks_before : AreBlanks before
  pub value : IsValue (length before) bytes t
  pub blanks_after : AreBlanks after
  pub whole : text ≡ before ++ bytes ++ after
