-- The nodes of the members of an object whose order is kept.
use Rattle.json_text.proofs.Names.{◌≡◌, ℕ, zero, suc, ◌+◌, ◌<◌, ◌⊎◌, inl, inr, Bool, true, false, List, [], ◌∷◌, ◌++◌, length, map, get_or, refl, sym}
use Rattle.json_text.proofs.Names.{ap, ◌∙◌, subst, arith, append_assoc, append-nil, length-append, add-one, common_steps, nat_tests, bytes_eq}
use Rattle.json_text.proofs.Names.{get_or_default, Contains, IsPermutation, bytes_decides, Tree, Arr, Obj, Elements, Members, NoMember, Member, Node}
use Rattle.json_text.proofs.Names.{Step, key, place, size, elements_from, members_from, children, is_named, first_where, Label, Top, Index, Named}
use Rattle.json_text.proofs.Names.{extent, IsAt, itself, in_array, in_object, IsInElements, in_element, in_later_element, IsInMembers, in_member}
use Rattle.json_text.proofs.Names.{in_later_member, kind_of, entry_in, nothing_there, IsObject}
use Rattle.std.proofs.lemmas.List.Elements.{All-contains}
use Rattle.std.proofs.lemmas.List.Sorted.{IsPermutation-sym, Contains-permutation}
use Rattle.json_text.specs.Meaning.{meaning}
use Rattle.json_tape.specs.Document.{Doc, Spot, IsDocument, spots, spots_from, spots_elements, spots_members, node_at, count, tree_of}
use Rattle.json_text.specs.declared.tape.Kind.TheVariants as kinds
use Rattle.json_strings.specs.Keys.{Keyed, key_number}
use Rattle.name_order.specs.Ordered.{keyed, name_at, members_of, AreNamed, IsOrderOf}
use Rattle.json_tape.proofs.Spots.{top, inner, one_of, place_is, spot_count}
use Rattle.json_tape.proofs.Readers.{none_there, kind_is}
use Rattle.json_tape.proofs.TreeBuilt.{tree_is}
use Rattle.name_order.proofs.KeysLeft.{IsGood, all_good}
use Rattle.name_order.proofs.Halving.{member_inside, one_place}
use Rattle.name_order.proofs.TwinNames.{object_of}

-- where the spots of a part stand
record Stands (all : List Spot) (k n up : ℕ) (label : Label) (t : Tree) : Type 0 where
  way : List Step
  later : List Node
  pre : List Spot
  post : List Spot
  is : all ≡ pre ++ (spots_from way up label later n t ++ post)
  number : n ≡ k + length pre

under : (x : Spot) (all : List Spot) (k n up : ℕ) (label : Label) (t : Tree) → Stands all (k + 1) n up label t → Stands (x ∷ all) k n up label t
under x all k n up label t p = record { way = p.way; later = p.later; pre = x ∷ p.pre; post = p.post; is = ap (λ l. x ∷ l) p.is; number = (let h = p.number in omega arith) }

before : (all more : List Spot) (k n up : ℕ) (label : Label) (t : Tree) → Stands all k n up label t → Stands (all ++ more) k n up label t
before all more k n up label t p = grind (arith, append_assoc)

behind : (first all : List Spot) (k j n up : ℕ) (label : Label) (t : Tree) → Stands all j n up label t → j ≡ k + length first → Stands (first ++ all) k n up label t
behind first all k j n up label t p e =
    grind (arith, append_assoc first p.pre (spots_from p.way up label p.later n t ++ p.post), length-append first p.pre)

mutual
  stands_at : {t s : Tree} {up k n up' : ℕ} {label label' : Label} → IsAt t up label k n up' label' s → (way : List Step) (later : List Node) → Stands (spots_from way up label later k t) k n up' label' s
  stands_at (itself {t = t} {up = up} {k = k} {label = label}) way later = record { way = way; later = later; pre = []; post = []; is = sym (append-nil (spots_from way up label later k t)); number = omega arith }
  stands_at (in_array {s = x} {es = es} {up = up} {k = k} {n = n} {up' = up'} {label = label} {label' = label'} {t = r} h) way later =
      under (top way up label later k (Arr x es)) (spots_elements way 0 k (suc k) es) k n up' label' r (subst (λ j. Stands (spots_elements way 0 k j es) (k + 1) n up' label' r) (add-one k) (stands_element h way))
  stands_at (in_object {s = x} {ms = ms} {up = up} {k = k} {n = n} {up' = up'} {label = label} {label' = label'} {t = r} h) way later =
      under (top way up label later k (Obj x ms)) (spots_members way k (suc k) ms) k n up' label' r (subst (λ j. Stands (spots_members way k j ms) (k + 1) n up' label' r) (add-one k) (stands_member h way))

  stands_element : {es : Elements} {s : Tree} {up i k n up' : ℕ} {label' : Label} → IsInElements es up i k n up' label' s → (way : List Step) → Stands (spots_elements way i up k es) k n up' label' s
  stands_element (in_element {a = a} {es = es} {up = up} {i = i} {k = k} h) way = before _ _ k _ _ _ _ (stands_at h (place i ∷ way) (elements_from way (suc i) (k + size a) es))
  stands_element (in_later_element {a = a} {es = es} {up = up} {i = i} {k = k} {n = n} {up' = up'} {label' = label'} {t = r} h) way =
      behind (spots_from (place i ∷ way) up (Index i) (elements_from way (suc i) (k + size a) es) k a) (spots_elements way (suc i) up (k + size a) es) k (k + size a) n up' label' r
      (subst (λ j. Stands (spots_elements way j up (k + size a) es) (k + size a) n up' label' r) (add-one i) (stands_element h way))
      (ap (λ m. k + m) (sym (spot_count (place i ∷ way) up (Index i) (elements_from way (suc i) (k + size a) es) k a)))

  stands_member : {ms : Members} {s : Tree} {up k n up' : ℕ} {label' : Label} → IsInMembers ms up k n up' label' s → (way : List Step) → Stands (spots_members way up k ms) k n up' label' s
  stands_member (in_member {m = m} {a = a} {ms = ms} {up = up} {k = k} h) way = before _ _ k _ _ _ _ (stands_at h (key (meaning m.characters) ∷ way) (members_from way (k + size a) ms))
  stands_member (in_later_member {m = m} {a = a} {ms = ms} {up = up} {k = k} h) way =
      grind (arith, nat_tests, common_steps, stands_member h way, behind, spot_count)

-- the first of a name among the nodes of members: none has it, or one of them
abbrev First : Doc → List ℕ → List Node → List Keyed → Type 0
First d name nodes ks = ((first_where (is_named name) nodes ≡ []) × ((y : Keyed) → Contains ks y → y.name ≡ name → ⊥))
    ⊎ ((y : Keyed) × Contains ks y × (y.name ≡ name) × (first_where (is_named name) nodes ≡ node_at d y.number ∷ []))

module _ (d : Doc) (s : IsDocument d) (name : List ℕ) where
  first_of : (way : List Step) (up k : ℕ) (ms : Members) (pre post : List Spot) → spots d ≡ pre ++ (spots_members way up k ms ++ post) → length pre ≡ k → First d name (members_from way k ms) (keyed ms k)
  unfolding node_at
  first_of way up k NoMember pre post w l = inl (refl, λ y c e. let b = c.1 in absurd (omega arith))
  first_of way up k (Member m t ms) pre post w l = let later = members_from way (k + size t) ms in let way' = key (meaning m.characters) ∷ way in
      let own' = spots_from way' up (Named (extent m.source)) later k t in let rest = spots_members way up (k + size t) ms in
      let x = top way' up (Named (extent m.source)) later k t in
      let whole : spots d ≡ pre ++ ((x ∷ inner way' k t) ++ (rest ++ post)) = w ∙ one_of pre way' up (Named (extent m.source)) later k t rest post in
      let p = place_is (spots d) pre x (inner way' k t) (rest ++ post) (none_there d) k whole l in
      let r = first_of way up (k + size t) ms (pre ++ own') post
      (w ∙ ap (λ xs. pre ++ xs) (append_assoc own' rest post) ∙ sym (append_assoc pre own' (rest ++ post)))
      (omega (arith, length-append pre own', spot_count way' up (Named (extent m.source)) later k t, l)) in
      go (bytes_eq name (meaning m.characters)) refl (ap (λ (y : Spot). y.node) p) r
    where
      here : Keyed
      here = record { number = k; name = meaning m.characters }

      node : Node
      node = record { number = k; way_up = key (meaning m.characters) ∷ way; tree = t }

      later_one : (y : Keyed) → Contains (keyed ms (k + size t)) y → Contains (here ∷ keyed ms (k + size t)) y
      later_one y (i, l, e) = (suc i, omega arith, e)

      go : (b : Bool) → bytes_eq name (meaning m.characters) ≡ b → node_at d k ≡ node → First d name (members_from way (k + size t) ms) (keyed ms (k + size t)) → First d name (members_from way k (Member m t ms)) (keyed (Member m t ms) k)
      go true b q r = inr (here, (0, omega arith, refl), sym ((bytes_decides name (meaning m.characters)).0 b), rw b (ap (λ n. n ∷ []) (sym q)))
      go false b q (inl (e, none)) = inl (rw b e, λ y c h. passed y c h) where
        passed : (y : Keyed) → Contains (here ∷ keyed ms (k + size t)) y → y.name ≡ name → ⊥
        passed y (zero, l, f) h = (let g : here ≡ y = f in let v : name ≡ meaning m.characters = sym h ∙ sym (ap (λ (z : Keyed). z.name) g) in let u = (bytes_decides name (meaning m.characters)).1 v in absurd (cc))
        passed y (suc i, l, f) h = none y (i, omega arith, f) h
      go false b q (inr (y, c, h, e)) = inr (y, later_one y c, h, rw b e)

  -- the members of an object
  pub object_first : (n : ℕ) (ms : Members) → IsObject d.text d.entries n ms → First d name (children (node_at d n)) (keyed ms (n + 1))
  unfolding node_at
  object_first n ms o = let same : o.tree ≡ tree_of d = sym (tree_is d.text d.entries o.tree o.is_text o.stands) in
      let a = subst (λ t. IsAt t 0 Top 0 n o.up o.label (Obj o.source ms)) same o.is_at in let p = stands_at a [] [] in
      let long : length p.pre ≡ n = (let h = p.number in omega arith) in let x = top p.way o.up o.label p.later n (Obj o.source ms) in
      let here = place_is (spots d) p.pre x (spots_members p.way n (suc n) ms) p.post (none_there d) n p.is long in
      let whole : spots d ≡ (p.pre ++ x ∷ []) ++ (spots_members p.way n (suc n) ms ++ p.post) = p.is ∙ sym (append_assoc p.pre (x ∷ []) (spots_members p.way n (suc n) ms ++ p.post)) in
      let f = first_of p.way n (suc n) ms (p.pre ++ x ∷ []) p.post whole (omega (arith, length-append p.pre (x ∷ []), long)) in
      let e = ap (λ (y : Spot). children y.node) here in rw e (rw (add-one n) f)

  at_number : (ms : Members) (n k : ℕ) → Contains (map key_number (keyed ms n)) k → (y : Keyed) × Contains (keyed ms n) y × (y.number ≡ k)
  at_number ms n k (i, l, e) = go (keyed ms n) i l e where
    go : (ks : List Keyed) (i : ℕ) → i < length (map key_number ks) → get_or (map key_number ks) i k ≡ k → (y : Keyed) × Contains ks y × (y.number ≡ k)
    go [] i l e = absurd (omega arith)
    go (y ∷ ks) zero l e = (y, (0, omega arith, refl), e)
    go (y ∷ ks) (suc i) l e = let r = go ks i (omega arith) e in (r.0, (suc r.1.0, (let h = r.1.1 in omega arith), r.1.2), r.2)

  number_in : (ks : List Keyed) (y : Keyed) → Contains ks y → Contains (map key_number ks) y.number
  number_in [] y (i, l, e) = absurd (omega arith)
  number_in (x ∷ ks) y (zero, l, e) = (0, omega arith, ap key_number e)
  number_in (x ∷ ks) y (suc i, l, e) = let r = number_in ks y (i, omega arith, e) in (suc r.0, (let h = r.1 in omega arith), r.2)

  module _ (factor n : ℕ) (words : List ℕ) (order : IsOrderOf factor d.text d.entries n words) (ms : Members) (o : IsObject d.text d.entries n ms) where
    abbrev members : List ℕ
    members = members_of words

    -- a member that is found is the first of its name
    pub found_first : (m : ℕ) → Contains members m → name_at d.text d.entries m ≡ name → node_at d m ∷ [] ≡ first_where (is_named name) (children (node_at d n))
    found_first m c e = go (object_first n ms o) where
      moved : IsPermutation (map key_number (keyed ms (n + 1))) members
      moved = order.all ms o

      mine : (y : Keyed) × Contains (keyed ms (n + 1)) y × (y.number ≡ m)
      mine = at_number ms (n + 1) m (Contains-permutation members (map key_number (keyed ms (n + 1))) m (IsPermutation-sym (map key_number (keyed ms (n + 1))) members moved) c)

      good : (y : Keyed) → Contains (keyed ms (n + 1)) y → IsGood d.text d.entries y
      good y h = All-contains (IsGood d.text d.entries) (keyed ms (n + 1)) y (all_good d.text d.entries n ms o) h

      go : First d name (children (node_at d n)) (keyed ms (n + 1)) → node_at d m ∷ [] ≡ first_where (is_named name) (children (node_at d n))
      go (inl (f, none)) = absurd (none mine.0 mine.1 (sym (good mine.0 mine.1).named ∙ ap (name_at d.text d.entries) mine.2 ∙ e))
      go (inr (y, h, g, f)) =
          let (i, l, q) = Contains-permutation (map key_number (keyed ms (n + 1))) members y.number moved (number_in (keyed ms (n + 1)) y h) in
          let (j, r, p) = c in let a : get_or members i 0 ≡ y.number = get_or_default members i 0 y.number l ∙ q in
          let b : get_or members j 0 ≡ m = get_or_default members j 0 m r ∙ p in
          let both : name_at d.text d.entries (get_or members j 0) ≡ name_at d.text d.entries (get_or members i 0) =
          ap (name_at d.text d.entries) b ∙ e ∙ sym g ∙ sym (good y h).named ∙ sym (ap (name_at d.text d.entries) a) in
          let one = one_place factor d.text d.entries words name order.named j i r l both in ap (λ k. node_at d k ∷ []) (sym b ∙ one ∙ a) ∙ sym f

    -- where no member is found, none has the name
    pub found_none : ((k : ℕ) → k < length members → name_at d.text d.entries (get_or members k 0) ≡ name → ⊥) → ◌≡◌ {A = List Node} [] (first_where (is_named name) (children (node_at d n)))
    found_none none = go (object_first n ms o) where
      go : First d name (children (node_at d n)) (keyed ms (n + 1)) → ◌≡◌ {A = List Node} [] (first_where (is_named name) (children (node_at d n)))
      go (inl (f, absent)) = sym f
      go (inr (y, h, g, f)) =
          let (i, l, q) = Contains-permutation (map key_number (keyed ms (n + 1))) members y.number (order.all ms o) (number_in (keyed ms (n + 1)) y h) in
          let a : get_or members i 0 ≡ y.number = get_or_default members i 0 y.number l ∙ q in
          absurd (none i l (ap (name_at d.text d.entries) a ∙ (All-contains (IsGood d.text d.entries) (keyed ms (n + 1)) y (all_good d.text d.entries n ms o) h).named ∙ g))

pub object_in : (d : Doc) → IsDocument d → (n : ℕ) → n < count d → kind_of (node_at d n).tree ≡ kinds.Object → (ms : Members) × IsObject d.text d.entries n ms
unfolding count
object_in d s n h k = object_of d.text d.entries (tree_of d) s.accepted.0 s.tape n nothing_there h (kind_is d s n h (entry_in d.entries n) (get_or_default d.entries n nothing_there (entry_in d.entries n) h) ∙ k)

-- a member that was found is a node
pub found_in : (factor : ℕ) (d : Doc) (words : List ℕ) → AreNamed factor d.text d.entries words → (m : ℕ) → Contains (members_of words) m → m < count d
unfolding count
found_in factor d words named m (i, l, e) = subst (λ k. k < length d.entries) (get_or_default (members_of words) i 0 m l ∙ e) (member_inside factor d.text d.entries words [] named i l)

-- from the fields to the value
pub same_name : (i d : Doc) → i ≡ d → (text : List ℕ) → text ≡ i.text → (m : ℕ) → name_at text i.entries m ≡ name_at d.text d.entries m
same_name i d e text t m = ap (λ x. name_at x i.entries m) t ∙ ap (λ (x : Doc). name_at x.text x.entries m) e
