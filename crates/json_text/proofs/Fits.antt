-- Each part of a text's tree has the bytes that stand in the text at its place; so a tape stands for one tree of a text.
use Rattle.json_text.proofs.Names.{◌≡◌, ℕ, List, [], ◌∷◌, ◌++◌, length, take, drop, refl, sym, ◌∙◌, subst, arith, append_assoc, length-append}
use Rattle.json_text.proofs.Names.{take_at, drop_at, Source, Name, Tree, Leaf, Arr, Obj, Elements, NoElement, Element, Members, NoMember, Member}
use Rattle.json_text.proofs.Names.{then_element, then_member, IsString, at, IsScalarText, IsValue, scalar, no_array, array, no_object, object}
use Rattle.json_text.proofs.Names.{IsElements, one_element, next_element, IsMembers, one_member, next_member, IsMember, member, IsText, Label, IsAt}
use Rattle.json_text.proofs.Names.{itself, in_array, in_object, IsInElements, in_element, in_later_element, IsInMembers, in_member, in_later_member}

-- the source's bytes stand in the text at its place
abbrev pub Lies : List ℕ → Source → Type 0
Lies bytes s = s.bytes ≡ take (length s.bytes) (drop s.place bytes)

abbrev mutual
  pub Fits : List ℕ → Tree → Type 0
  Fits bytes (Leaf s c) = Lies bytes s × IsScalarText s.bytes c
  Fits bytes (Arr s es) = Lies bytes s × FitElements bytes es
  Fits bytes (Obj s ms) = Lies bytes s × FitMembers bytes ms

  pub FitElements : List ℕ → Elements → Type 0
  FitElements bytes NoElement = Unit {0}
  FitElements bytes (Element t es) = Fits bytes t × FitElements bytes es

  pub FitMembers : List ℕ → Members → Type 0
  FitMembers bytes NoMember = Unit {0}
  FitMembers bytes (Member n t ms) = Lies bytes n.source × IsString n.source.bytes n.characters × Fits bytes t × FitMembers bytes ms

fit-then_element : (bytes : List ℕ) (es : Elements) (t : Tree) → FitElements bytes es → Fits bytes t → FitElements bytes (then_element es t)
fit-then_element bytes NoElement t h g = (g, tt)
fit-then_element bytes (Element a es) t h g = (h.0, fit-then_element bytes es t h.1 g)

fit-then_member : (bytes : List ℕ) (ms : Members) (n : Name) (t : Tree) → FitMembers bytes ms → Lies bytes n.source → IsString n.source.bytes n.characters → Fits bytes t → FitMembers bytes (then_member ms n t)
fit-then_member bytes NoMember n t h l s g = (l, s, g, tt)
fit-then_member bytes (Member m a ms) n t h l s g = (h.0, h.1, h.2, fit-then_member bytes ms n t h.3 l s g)

lies : (bytes a vs b : List ℕ) (p : ℕ) → bytes ≡ a ++ (vs ++ b) → p ≡ length a → Lies bytes (at p vs)
lies bytes a vs b p e l = grind (arith, drop_at, take_at)

-- the parts of a container's text, with what stands before and behind them
part3 : (bytes a s body s' b : List ℕ) (c c' : ℕ) → bytes ≡ a ++ ((c ∷ (s ++ body ++ s' ++ c' ∷ [])) ++ b) → bytes ≡ (a ++ c ∷ s) ++ (body ++ (s' ++ c' ∷ b))
part3 bytes a s body s' b c c' e = e ∙ simp append_assoc

part_first : (bytes a front s : List ℕ) (c : ℕ) (s' vs b : List ℕ) → bytes ≡ a ++ ((front ++ s ++ c ∷ s' ++ vs) ++ b) → bytes ≡ a ++ (front ++ (s ++ (c ∷ (s' ++ (vs ++ b)))))
part_first bytes a front s c s' vs b e = e ∙ simp append_assoc

part_last : (bytes a front s : List ℕ) (c : ℕ) (s' vs b : List ℕ) → bytes ≡ a ++ ((front ++ s ++ c ∷ s' ++ vs) ++ b) → bytes ≡ (a ++ (front ++ s ++ c ∷ s')) ++ (vs ++ b)
part_last bytes a front s c s' vs b e = e ∙ simp append_assoc

mutual
  pub value_fits : {p : ℕ} {vs : List ℕ} {t : Tree} → IsValue p vs t → (bytes a b : List ℕ) → bytes ≡ a ++ (vs ++ b) → p ≡ length a → Fits bytes t
  value_fits (scalar {p = p} {bs = vs} h) bytes a b e l = (lies bytes a vs b p e l, h)
  value_fits (no_array {p = p} s h) bytes a b e l = (lies bytes a (91 ∷ (s ++ 93 ∷ [])) b p e l, tt)
  value_fits (array {p = p} s body s' h k h') bytes a b e l = grind (
    arith,
    lies bytes a (91 ∷ (s ++ body ++ s' ++ 93 ∷ [])) b p e l,
    elements_fit k bytes (a ++ 91 ∷ s) (s' ++ 93 ∷ b) (part3 bytes a s body s' b 91 93 e) (omega (arith, length-append a (91 ∷ s))),
  )
  value_fits (no_object {p = p} s h) bytes a b e l = (lies bytes a (123 ∷ (s ++ 125 ∷ [])) b p e l, tt)
  value_fits (object {p = p} s body s' h k h') bytes a b e l = grind (
    arith,
    lies bytes a (123 ∷ (s ++ body ++ s' ++ 125 ∷ [])) b p e l,
    members_fit k bytes (a ++ 123 ∷ s) (s' ++ 125 ∷ b) (part3 bytes a s body s' b 123 125 e) (omega (arith, length-append a (123 ∷ s))),
  )

  pub elements_fit : {p : ℕ} {vs : List ℕ} {es : Elements} → IsElements p vs es → (bytes a b : List ℕ) → bytes ≡ a ++ (vs ++ b) → p ≡ length a → FitElements bytes es
  elements_fit (one_element h) bytes a b e l = (value_fits h bytes a b e l, tt)
  elements_fit (next_element {p = p} front s s' vs {es = es} {t = t} h k k' g) bytes a b e l = fit-then_element bytes es t
      (elements_fit h bytes a (s ++ (44 ∷ (s' ++ (vs ++ b)))) (part_first bytes a front s 44 s' vs b e) l)
      (value_fits g bytes (a ++ (front ++ s ++ 44 ∷ s')) b (part_last bytes a front s 44 s' vs b e) (omega (arith, length-append a (front ++ s ++ 44 ∷ s'))))

  pub members_fit : {p : ℕ} {vs : List ℕ} {ms : Members} → IsMembers p vs ms → (bytes a b : List ℕ) → bytes ≡ a ++ (vs ++ b) → p ≡ length a → FitMembers bytes ms
  members_fit (one_member {n = n} {t = t} h) bytes a b e l = let g = member_fits h bytes a b e l in (g.0, g.1, g.2, tt)
  members_fit (next_member {p = p} front s s' vs {ms = ms} {n = n} {t = t} h k k' g) bytes a b e l =
      let f = member_fits g bytes (a ++ (front ++ s ++ 44 ∷ s')) b (part_last bytes a front s 44 s' vs b e) (omega (arith, length-append a (front ++ s ++ 44 ∷ s'))) in
      fit-then_member bytes ms n t (members_fit h bytes a (s ++ (44 ∷ (s' ++ (vs ++ b)))) (part_first bytes a front s 44 s' vs b e) l) f.0 f.1 f.2

  pub member_fits : {p : ℕ} {vs : List ℕ} {n : Name} {t : Tree} → IsMember p vs n t → (bytes a b : List ℕ) → bytes ≡ a ++ (vs ++ b) → p ≡ length a → Lies bytes n.source × IsString n.source.bytes n.characters × Fits bytes t
  member_fits (member {p = p} name s s' vs {n = n} {t = t} src h k k' g) bytes a b e l =
      let f = lies bytes a name (s ++ (58 ∷ (s' ++ (vs ++ b)))) p (part_first bytes a name s 58 s' vs b e) l in (
        subst (Lies bytes) (sym src) f,
        subst (λ x. IsString x.bytes n.characters) (sym src) h,
        value_fits g bytes (a ++ (name ++ s ++ 58 ∷ s')) b (part_last bytes a name s 58 s' vs b e) (omega (arith, length-append a (name ++ s ++ 58 ∷ s'))),
      )

pub text_fits : (bytes : List ℕ) (t : Tree) → IsText bytes t → Fits bytes t
text_fits bytes t h = value_fits h.value bytes h.before h.after (h.whole ∙ append_assoc h.before h.bytes h.after) refl

-- so does each part of it
mutual
  pub part_fits : {t s : Tree} {up k n up' : ℕ} {label label' : Label} → IsAt t up label k n up' label' s → (bytes : List ℕ) → Fits bytes t → Fits bytes s
  part_fits itself bytes f = f
  part_fits (in_array h) bytes f = element_fits h bytes f.1
  part_fits (in_object h) bytes f = value_of_member_fits h bytes f.1

  element_fits : {es : Elements} {s : Tree} {up i k n up' : ℕ} {label' : Label} → IsInElements es up i k n up' label' s → (bytes : List ℕ) → FitElements bytes es → Fits bytes s
  element_fits (in_element h) bytes f = part_fits h bytes f.0
  element_fits (in_later_element h) bytes f = element_fits h bytes f.1

  value_of_member_fits : {ms : Members} {s : Tree} {up k n up' : ℕ} {label' : Label} → IsInMembers ms up k n up' label' s → (bytes : List ℕ) → FitMembers bytes ms → Fits bytes s
  value_of_member_fits (in_member h) bytes f = part_fits h bytes f.2
  value_of_member_fits (in_later_member h) bytes f = value_of_member_fits h bytes f.3
