-- What the bytes so far are, by the open containers and by what may come next.
use Rattle.json_text.proofs.Names.{◌≡◌, ℕ, ◌+◌, List, [], ◌∷◌, ◌++◌, length, Some, true, refl, sym, ap, ◌∙◌, subst, arith, append_assoc}
use Rattle.json_text.proofs.Names.{length-append, Name, Tree, Elements, NoElement, Members, NoMember, IsBlank, AreBlanks, IsString, at, IsValue}
use Rattle.json_text.proofs.Names.{no_array, array, no_object, object, IsElements, one_element, next_element, IsMembers, one_member, next_member}
use Rattle.json_text.proofs.Names.{IsMember, member, IsText, takes_value, takes_name, closes, after_comma, append-nil}
use Rattle.json_walk.proofs.Names.{Array, Object, Level, Root, Inside, Want, Value, Next}
use Rattle.json_text.specs.declared.tape.Want.TheVariants.{FirstValue, Name as WantName, FirstName, Colon}

-- elements, after which a further one may come: none, or some and a comma
pub data ElementsAhead : ℕ → Want → List ℕ → Elements → Type 0 where
  none_ahead : {p : ℕ} {c : List ℕ} → AreBlanks c → ElementsAhead p FirstValue c NoElement
  some_ahead : {p : ℕ} {c : List ℕ} {els : Elements} (s body s' s'' : List ℕ) → c ≡ s ++ (body ++ (s' ++ 44 ∷ s'')) → AreBlanks s → IsElements (p + length s) body els → AreBlanks s' → AreBlanks s'' → ElementsAhead p Value c els

pub data InArray : ℕ → Want → List ℕ → Type 0 where
  elements_ahead : {p : ℕ} {w : Want} {c : List ℕ} {els : Elements} → ElementsAhead p w c els → InArray p w c
  elements_done : {p : ℕ} {c : List ℕ} {els : Elements} (s body s' : List ℕ) → c ≡ s ++ (body ++ s') → AreBlanks s → IsElements (p + length s) body els → AreBlanks s' → InArray p Next c

pub data MembersAhead : ℕ → Want → List ℕ → Members → Type 0 where
  none_ahead' : {p : ℕ} {c : List ℕ} → AreBlanks c → MembersAhead p FirstName c NoMember
  some_ahead' : {p : ℕ} {c : List ℕ} {ms : Members} (s body s' s'' : List ℕ) → c ≡ s ++ (body ++ (s' ++ 44 ∷ s'')) → AreBlanks s → IsMembers (p + length s) body ms → AreBlanks s' → AreBlanks s'' → MembersAhead p WantName c ms

pub data InObject : ℕ → Want → List ℕ → Type 0 where
  members_ahead : {p : ℕ} {w : Want} {c : List ℕ} {ms : Members} → MembersAhead p w c ms → InObject p w c
  members_done : {p : ℕ} {c : List ℕ} {ms : Members} (s body s' : List ℕ) → c ≡ s ++ (body ++ s') → AreBlanks s → IsMembers (p + length s) body ms → AreBlanks s' → InObject p Next c
  name_read : {p : ℕ} {w : Want} {c : List ℕ} {ms : Members} (n : Name) (a name s : List ℕ) → c ≡ a ++ (name ++ s) → MembersAhead p w a ms → n.source ≡ at (p + length a) name → IsString name n.characters → AreBlanks s → InObject p Colon c
  colon_read : {p : ℕ} {w : Want} {c : List ℕ} {ms : Members} (n : Name) (a name s s' : List ℕ) → c ≡ a ++ (name ++ (s ++ 58 ∷ s')) → MembersAhead p w a ms → n.source ≡ at (p + length a) name → IsString name n.characters → AreBlanks s → AreBlanks s' → InObject p Value c

pub data Front : List Level → Want → List ℕ → Type 0 where
  begin : {b : List ℕ} → AreBlanks b → Front (Root ∷ []) Value b
  ended : {b : List ℕ} {t : Tree} (s vs s' : List ℕ) → b ≡ s ++ (vs ++ s') → AreBlanks s → IsValue (length s) vs t → AreBlanks s' → Front (Root ∷ []) Next b
  in_array : {ls : List Level} {w w' : Want} {b : List ℕ} (a c : List ℕ) → b ≡ a ++ 91 ∷ c → Front ls w a → takes_value w ≡ true → InArray (length a + 1) w' c → Front (Inside Array ∷ ls) w' b
  in_object : {ls : List Level} {w w' : Want} {b : List ℕ} (a c : List ℕ) → b ≡ a ++ 123 ∷ c → Front ls w a → takes_value w ≡ true → InObject (length a + 1) w' c → Front (Inside Object ∷ ls) w' b

blanks_more : (s : List ℕ) (b : ℕ) → AreBlanks s → IsBlank b → AreBlanks (s ++ b ∷ [])
blanks_more [] b h i = (i, tt)
blanks_more (x ∷ s) b h i = (h.0, blanks_more s b h.1 i)

-- the derivations, where place and bytes are written otherwise
value_as : {p p' : ℕ} {bs bs' : List ℕ} {t : Tree} → p ≡ p' → bs ≡ bs' → IsValue p bs t → IsValue p' bs' t
value_as {p} {p'} {bs} {bs'} {t} e f h = subst (λ n. IsValue n bs' t) e (subst (λ l. IsValue p l t) f h)

elements_as : {p p' : ℕ} {bs bs' : List ℕ} {els : Elements} → p ≡ p' → bs ≡ bs' → IsElements p bs els → IsElements p' bs' els
elements_as {p} {p'} {bs} {bs'} {els} e f h = subst (λ n. IsElements n bs' els) e (subst (λ l. IsElements p l els) f h)

members_as : {p p' : ℕ} {bs bs' : List ℕ} {ms : Members} → p ≡ p' → bs ≡ bs' → IsMembers p bs ms → IsMembers p' bs' ms
members_as {p} {p'} {bs} {bs'} {ms} e f h = subst (λ n. IsMembers n bs' ms) e (subst (λ l. IsMembers p l ms) f h)

member_as : {p p' : ℕ} {bs bs' : List ℕ} {n : Name} {t : Tree} → p ≡ p' → bs ≡ bs' → IsMember p bs n t → IsMember p' bs' n t
member_as {p} {p'} {bs} {bs'} {n} {t} e f h = subst (λ k. IsMember k bs' n t) e (subst (λ l. IsMember p l n t) f h)

-- a blank more
elements_blank : {p : ℕ} {w : Want} {c : List ℕ} {els : Elements} → ElementsAhead p w c els → (b : ℕ) → IsBlank b → ElementsAhead p w (c ++ b ∷ []) els
elements_blank (none_ahead {c = c} h) b i = none_ahead (blanks_more c b h i)
elements_blank (some_ahead s body s' s'' e h k h' h'') b i =
    some_ahead s body s' (s'' ++ b ∷ []) (ap (λ l. l ++ b ∷ []) e ∙ simp append_assoc) h k h' (blanks_more s'' b h'' i)

array_blank : {p : ℕ} {w : Want} {c : List ℕ} → InArray p w c → (b : ℕ) → IsBlank b → InArray p w (c ++ b ∷ [])
array_blank (elements_ahead h) b i = elements_ahead (elements_blank h b i)
array_blank (elements_done s body s' e h k h') b i = elements_done s body (s' ++ b ∷ []) (ap (λ l. l ++ b ∷ []) e ∙ simp append_assoc) h k (blanks_more s' b h' i)

members_blank : {p : ℕ} {w : Want} {c : List ℕ} {ms : Members} → MembersAhead p w c ms → (b : ℕ) → IsBlank b → MembersAhead p w (c ++ b ∷ []) ms
members_blank (none_ahead' {c = c} h) b i = none_ahead' (blanks_more c b h i)
members_blank (some_ahead' s body s' s'' e h k h' h'') b i =
    some_ahead' s body s' (s'' ++ b ∷ []) (ap (λ l. l ++ b ∷ []) e ∙ simp append_assoc) h k h' (blanks_more s'' b h'' i)

object_blank : {p : ℕ} {w : Want} {c : List ℕ} → InObject p w c → (b : ℕ) → IsBlank b → InObject p w (c ++ b ∷ [])
object_blank (members_ahead h) b i = members_ahead (members_blank h b i)
object_blank (members_done s body s' e h k h') b i = members_done s body (s' ++ b ∷ []) (ap (λ l. l ++ b ∷ []) e ∙ simp append_assoc) h k (blanks_more s' b h' i)
object_blank (name_read n a name s e m f g h) b i = name_read n a name (s ++ b ∷ []) (ap (λ l. l ++ b ∷ []) e ∙ simp append_assoc) m f g (blanks_more s b h i)
object_blank (colon_read n a name s s' e m f g h h') b i = colon_read n a name s (s' ++ b ∷ []) (ap (λ l. l ++ b ∷ []) e ∙ simp append_assoc) m f g h (blanks_more s' b h' i)

pub front_blank : {ls : List Level} {w : Want} {f : List ℕ} → Front ls w f → (b : ℕ) → IsBlank b → Front ls w (f ++ b ∷ [])
front_blank (begin {b = f} h) b i = begin (blanks_more f b h i)
front_blank (ended s vs s' e h k h') b i = ended s vs (s' ++ b ∷ []) (ap (λ l. l ++ b ∷ []) e ∙ simp append_assoc) h k (blanks_more s' b h' i)
front_blank (in_array a c e h v k) b i = in_array a (c ++ b ∷ []) (ap (λ l. l ++ b ∷ []) e ∙ simp append_assoc) h v (array_blank k b i)
front_blank (in_object a c e h v k) b i = in_object a (c ++ b ∷ []) (ap (λ l. l ++ b ∷ []) e ∙ simp append_assoc) h v (object_blank k b i)

-- a comma
array_comma : {p : ℕ} {w w' : Want} {c : List ℕ} → InArray p w c → after_comma (Inside Array) w ≡ Some w' → InArray p w' (c ++ 44 ∷ [])
array_comma (elements_ahead (none_ahead h)) e = absurd (cc)
array_comma (elements_ahead (some_ahead s body s' s'' f h k h' h'')) e = absurd (cc)
array_comma {p = p} {w' = w'} {c = c} (elements_done s body s' f h k h') e = let g : Value ≡ w' = cc in
    subst (λ w. InArray p w (c ++ 44 ∷ [])) g (elements_ahead (some_ahead s body s' [] (ap (λ l. l ++ 44 ∷ []) f ∙ simp append_assoc) h k h' tt))

object_comma : {p : ℕ} {w w' : Want} {c : List ℕ} → InObject p w c → after_comma (Inside Object) w ≡ Some w' → InObject p w' (c ++ 44 ∷ [])
object_comma (members_ahead (none_ahead' h)) e = absurd (cc)
object_comma (members_ahead (some_ahead' s body s' s'' f h k h' h'')) e = absurd (cc)
object_comma {p = p} {w' = w'} {c = c} (members_done s body s' f h k h') e = let g : WantName ≡ w' = cc in
    subst (λ w. InObject p w (c ++ 44 ∷ [])) g (members_ahead (some_ahead' s body s' [] (ap (λ l. l ++ 44 ∷ []) f ∙ simp append_assoc) h k h' tt))
object_comma h e = grind arith

pub front_comma : {ls : List Level} {l : Level} {w w' : Want} {f : List ℕ} → Front (l ∷ ls) w f → after_comma l w ≡ Some w' → Front (l ∷ ls) w' (f ++ 44 ∷ [])
front_comma (in_array a c f h v k) e = in_array a (c ++ 44 ∷ []) (ap (λ l. l ++ 44 ∷ []) f ∙ simp append_assoc) h v (array_comma k e)
front_comma (in_object a c f h v k) e = in_object a (c ++ 44 ∷ []) (ap (λ l. l ++ 44 ∷ []) f ∙ simp append_assoc) h v (object_comma k e)
front_comma _ e = absurd (cc)

-- one more element, and one more member
element_next : {p : ℕ} {w : Want} {c vs : List ℕ} {els : Elements} {t : Tree} → ElementsAhead p w c els → IsValue (p + length c) vs t → InArray p Next (c ++ vs)
element_next {vs = vs} (none_ahead {c = c} h) v = elements_done c vs [] (ap (λ l. c ++ l) (sym (append-nil vs))) h (one_element v) tt
element_next {p = p} {vs = vs} (some_ahead {c = c} s body s' s'' e h k h' h'') v =
    elements_done s (body ++ s' ++ 44 ∷ s'' ++ vs) [] (ap (λ l. l ++ vs) e ∙ simp (append_assoc, append-nil)) h
    (next_element body s' s'' vs k h' h'' (value_as long refl v)) tt
  where
    long : p + length c ≡ p + length s + length (body ++ s' ++ 44 ∷ s'')
    long = let g = simp length-append at (ap length e) in simp length-append (omega arith)

member_next : {p : ℕ} {w : Want} {c vs : List ℕ} {ms : Members} {n : Name} {t : Tree} → MembersAhead p w c ms → IsMember (p + length c) vs n t → InObject p Next (c ++ vs)
member_next {vs = vs} (none_ahead' {c = c} h) v = members_done c vs [] (ap (λ l. c ++ l) (sym (append-nil vs))) h (one_member v) tt
member_next {p = p} {vs = vs} (some_ahead' {c = c} s body s' s'' e h k h' h'') v =
    members_done s (body ++ s' ++ 44 ∷ s'' ++ vs) [] (ap (λ l. l ++ vs) e ∙ simp (append_assoc, append-nil)) h
    (next_member body s' s'' vs k h' h'' (member_as long refl v)) tt
  where
    long : p + length c ≡ p + length s + length (body ++ s' ++ 44 ∷ s'')
    long = let g = simp length-append at (ap length e) in simp length-append (omega arith)

-- a value
array_value : {p : ℕ} {w : Want} {c vs : List ℕ} {t : Tree} → InArray p w c → takes_value w ≡ true → IsValue (p + length c) vs t → InArray p Next (c ++ vs)
array_value h e v = grind (arith, element_next)

object_value : {p : ℕ} {w : Want} {c vs : List ℕ} {t : Tree} → InObject p w c → takes_value w ≡ true → IsValue (p + length c) vs t → InObject p Next (c ++ vs)
object_value (members_ahead (none_ahead' h)) e v = absurd (cc)
object_value (members_ahead (some_ahead' s body s' s'' f h k h' h'')) e v = absurd (cc)
object_value (members_done s body s' f h k h') e v = absurd (cc)
object_value (name_read n a name s f m g h i) e v = absurd (cc)
object_value {p = p} {c = c} {vs = vs} (colon_read n a name s s' f m g h i i') e v =
    subst (InObject p Next) (sym (ap (λ l. l ++ vs) f ∙ simp append_assoc)) (member_next m (member name s s' vs g h i i' (value_as long refl v)))
  where
    long : p + length c ≡ p + length a + length (name ++ s ++ 58 ∷ s')
    long = let k = simp length-append at (ap length f) in simp length-append (omega arith)

pub front_value : {ls : List Level} {w : Want} {f vs : List ℕ} {t : Tree} → Front ls w f → takes_value w ≡ true → IsValue (length f) vs t → Front ls Next (f ++ vs)
front_value {vs = vs} (begin {b = f} h) e v = ended f vs [] (ap (λ l. f ++ l) (sym (append-nil vs))) h v tt
front_value (ended s vs s' f h k h') e v = absurd (cc)
front_value {f = f} {vs = vs} (in_array a c g h k i) e v =
    in_array a (c ++ vs) (ap (λ l. l ++ vs) g ∙ simp append_assoc) h k (array_value i e (value_as long refl v))
  where
    long : length f ≡ length a + 1 + length c
    long = let k' = simp length-append at (ap length g) in omega arith
front_value {f = f} {vs = vs} (in_object a c g h k i) e v =
    in_object a (c ++ vs) (ap (λ l. l ++ vs) g ∙ simp append_assoc) h k (object_value i e (value_as long refl v))
  where
    long : length f ≡ length a + 1 + length c
    long = let k' = simp length-append at (ap length g) in omega arith

-- a name, and a colon
object_name : {p : ℕ} {w : Want} {c vs : List ℕ} (n : Name) → InObject p w c → takes_name w ≡ true → n.source ≡ at (p + length c) vs → IsString vs n.characters → InObject p Colon (c ++ vs)
object_name {c = c} {vs = vs} n (members_ahead h) e f g = name_read n c vs [] (ap (λ l. c ++ l) (sym (append-nil vs))) h f g tt
object_name n _ e _ _ = absurd (cc)

array_no_name : {p : ℕ} {w : Want} {c : List ℕ} → InArray p w c → takes_name w ≡ true → ⊥
array_no_name h e = grind arith

pub front_name : {ls : List Level} {w : Want} {f vs : List ℕ} (n : Name) → Front ls w f → takes_name w ≡ true → n.source ≡ at (length f) vs → IsString vs n.characters → Front ls Colon (f ++ vs)
front_name n (in_array a c g h k i) e x y = absurd (array_no_name i e)
front_name {f = f} {vs = vs} n (in_object a c g h k i) e x y =
    in_object a (c ++ vs) (ap (λ l. l ++ vs) g ∙ simp append_assoc) h k (object_name n i e (x ∙ ap (λ q. at q vs) long) y)
  where
    long : length f ≡ length a + 1 + length c
    long = let k' = simp length-append at (ap length g) in omega arith
front_name n _ e g i = absurd (cc)

object_colon : {p : ℕ} {w : Want} {c : List ℕ} → InObject p w c → w ≡ Colon → InObject p Value (c ++ 58 ∷ [])
object_colon (members_ahead (none_ahead' h)) e = absurd (cc)
object_colon (members_ahead (some_ahead' s body s' s'' f h k h' h'')) e = absurd (cc)
object_colon (members_done s body s' f h k h') e = absurd (cc)
object_colon (name_read n a name s f m g h i) e = colon_read n a name s [] (ap (λ l. l ++ 58 ∷ []) f ∙ simp append_assoc) m g h i tt
object_colon (colon_read n a name s s' f m g h i i') e = absurd (cc)

array_no_colon : {p : ℕ} {w : Want} {c : List ℕ} → InArray p w c → w ≡ Colon → ⊥
array_no_colon h e = grind arith

pub front_colon : {ls : List Level} {w : Want} {f : List ℕ} → Front ls w f → w ≡ Colon → Front ls Value (f ++ 58 ∷ [])
front_colon (in_array a c g h k i) e = absurd (array_no_colon i e)
front_colon (in_object a c g h k i) e = in_object a (c ++ 58 ∷ []) (ap (λ l. l ++ 58 ∷ []) g ∙ simp append_assoc) h k (object_colon i e)
front_colon _ e = absurd (cc)

-- an opening bracket or brace
pub front_array : {ls : List Level} {w : Want} {f : List ℕ} → Front ls w f → takes_value w ≡ true → Front (Inside Array ∷ ls) FirstValue (f ++ 91 ∷ [])
front_array {f = f} h e = in_array f [] refl h e (elements_ahead (none_ahead tt))

pub front_object : {ls : List Level} {w : Want} {f : List ℕ} → Front ls w f → takes_value w ≡ true → Front (Inside Object ∷ ls) FirstName (f ++ 123 ∷ [])
front_object {f = f} h e = in_object f [] refl h e (members_ahead (none_ahead' tt))

-- a closing one
array_end : {p q : ℕ} {w : Want} {c : List ℕ} → InArray q w c → q ≡ p + 1 → closes Array (Inside Array) w ≡ true → (t : Tree) × IsValue p (91 ∷ (c ++ 93 ∷ [])) t
array_end {p = p} (elements_ahead (none_ahead {c = c} h)) g e = (_, no_array c h)
array_end (elements_ahead (some_ahead s body s' s'' f h k h' h'')) g e = absurd (cc)
array_end {p = p} {c = c} (elements_done s body s' f h k h') g e =
    (_, value_as refl (ap (λ l. 91 ∷ l) (sym (ap (λ l. l ++ 93 ∷ []) f ∙ simp append_assoc))) (array s body s' h (elements_as (ap (λ n. n + length s) g) refl k) h'))

object_end : {p q : ℕ} {w : Want} {c : List ℕ} → InObject q w c → q ≡ p + 1 → closes Object (Inside Object) w ≡ true → (t : Tree) × IsValue p (123 ∷ (c ++ 125 ∷ [])) t
object_end {p = p} (members_ahead (none_ahead' {c = c} h)) g e = (_, no_object c h)
object_end {p = p} {c = c} (members_done s body s' f h k h') g e =
    (_, value_as refl (ap (λ l. 123 ∷ l) (sym (ap (λ l. l ++ 125 ∷ []) f ∙ simp append_assoc))) (object s body s' h (members_as (ap (λ n. n + length s) g) refl k) h'))
object_end _ _ e = absurd (cc)

pub front_array_end : {ls : List Level} {l : Level} {w : Want} {f : List ℕ} → Front (l ∷ ls) w f → closes Array l w ≡ true → Front ls Next (f ++ 93 ∷ [])
front_array_end {ls = ls} (in_array a c g h k i) e =
    let t = array_end {p = length a} i refl e in subst (Front ls Next) (sym (ap (λ l. l ++ 93 ∷ []) g ∙ simp append_assoc)) (front_value h k t.1)
front_array_end _ e = absurd (cc)

pub front_object_end : {ls : List Level} {l : Level} {w : Want} {f : List ℕ} → Front (l ∷ ls) w f → closes Object l w ≡ true → Front ls Next (f ++ 125 ∷ [])
front_object_end {ls = ls} (in_object a c g h k i) e =
    let t = object_end {p = length a} i refl e in subst (Front ls Next) (sym (ap (λ l. l ++ 125 ∷ []) g ∙ simp append_assoc)) (front_value h k t.1)
front_object_end _ e = absurd (cc)

-- a whole text
pub front_text : {w : Want} {f : List ℕ} → Front (Root ∷ []) w f → w ≡ Next → (t : Tree) × IsText f t
front_text h e = grind (arith, append_assoc)
