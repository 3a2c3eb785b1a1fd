-- What the entries say of the nodes.
use Rattle.json_text.proofs.Names.{Contains, common_steps, nat_tests, take-append-drop, append-nil, get_or-map, length-map, cases_lt, false, take}
use Rattle.json_text.proofs.Names.{drop, ◌≡◌, ℕ, suc, ◌+◌, ◌-◌, ◌≤◌, ◌<◌, ◌^◌, ◌⊎◌, inl, inr, List, [], ◌∷◌, ◌++◌, length, map, get_or, Some, None}
use Rattle.json_text.proofs.Names.{refl, sym, ap, ◌∙◌, subst, arith, append_assoc, length-append, Spelt, Source, Name, Num, Tree, source_of, Leaf}
use Rattle.json_text.proofs.Names.{Arr, Obj, Element, Member, Node, Step, key, place, size, children, children_of, elements_from, members_from}
use Rattle.json_text.proofs.Names.{is_named, IsString, HasPart, Label, Top, Index, Named, role_of, label_spot, extent, bytes_at, text_limit, kind_of}
use Rattle.std.proofs.lemmas.List.Elements.{Contains-append_right}
use Rattle.json_text.specs.Meaning.{meaning}
use Rattle.json_text.specs.Nodes.{visit}
use Rattle.json_text.specs.Parts.{itself}
use Rattle.json_text.specs.Limits.{IsLimited}
use Rattle.json_text.specs.declared.tape.TextFault.TheVariants.{TooLong, NumberLimit}
use Rattle.json_tape.proofs.Limits.{within_unless}
use Rattle.json_tape.specs.Document.{HasName, IsMember, StandsIn, string_meaning, Doc, Spot, IsDocument, spots, spot_at, spots_from, spots_elements, spots_members, counting, length_of, node_at, later, count, seen, root_of, tree_of}
use Rattle.json_text.specs.declared.tape.Kind.TheVariants as kinds
use Rattle.json_text.specs.declared.tape.Role.TheVariants as roles
use Rattle.json_text.specs.declared.tape.Entry.{Entry}
use Rattle.json_text.proofs.Entries as entries
use Rattle.json_text.proofs.Entries.{size_positive, child_count}
use Rattle.json_text.proofs.Fits.{Lies, Fits, text_fits}
use Rattle.json_tape.proofs.Shown.{part_ends}
use Rattle.json_text.specs.declared.tape.Extent.{Extent}
use Rattle.json_tape.proofs.Spots.{entry_at, node_of, tape_is, visit_is, spot_count, top, inner, top_first, end_of, NextIn, own, one_of, Good, walk, place_is, WayIn}
use Rattle.std.proofs.Math.Seq.{get_or-append_seam}
use Rattle.json_text.proofs.One.{no_array_kind, no_object_kind}

-- each of a part of a list, by its place
counted : {A B : Type 0} (f : A → B) (pre mid post : List A) (d : A) (k : ℕ) → length pre ≡ k → map (λ j. f (get_or (pre ++ (mid ++ post)) j d)) (counting k (length mid)) ≡ map f mid
counted f pre [] post d k e = refl
counted f pre (x ∷ mid) post d k e = let here : get_or (pre ++ ((x ∷ mid) ++ post)) k d ≡ x = rw (← e) (get_or-append_seam pre x (mid ++ post) d) in
    let more = counted f (pre ++ x ∷ []) mid post d (suc k) (omega (arith, length-append pre (x ∷ []), e)) in
    let more' : map (λ j. f (get_or (pre ++ ((x ∷ mid) ++ post)) j d)) (counting (suc k) (length mid)) ≡ map f mid = rw (append_assoc pre (x ∷ []) (mid ++ post)) at more in
    rw (here, more') refl

childless : (way : List Step) (k : ℕ) (t : Tree) → child_count t ≡ 0 → children_of way k t ≡ []
childless way k (Arr s (Element t es)) e = absurd (omega (arith, e))
childless way k (Obj s (Member m t ms)) e = absurd (omega (arith, e))
childless way k _ e = refl

next_past : (all pre : List Spot) (x : Spot) (xs post : List Spot) (d : Spot) (k : ℕ) → all ≡ pre ++ (x ∷ xs ++ post) → length pre ≡ k → (y : Spot) (ys : List Spot) → xs ++ post ≡ y ∷ ys → (get_or all (k + 1) d ≡ y) × (k + 1 < length all)
next_past all pre x xs post d k e l y ys q = grind (arith, nat_tests, common_steps, append_assoc, length-append, get_or-append_seam)

child_at : (all pre post : List Spot) (d : Spot) (way : List Step) (up : ℕ) (l : Label) (later : List Node) (k : ℕ) (t : Tree)
    → all ≡ pre ++ (spots_from way up l later k t ++ post) → length pre ≡ k → (child_count t ≡ 0 → ⊥)
    → (children_of way k t ≡ (get_or all (k + 1) d).node ∷ (get_or all (k + 1) d).later) × (k + 1 < length all)
child_at all pre post d way up l later k (Arr s (Element t es)) e m h =
    let q = one_of [] (place 0 ∷ way) k (Index 0) (elements_from way 1 (suc k + size t) es) (suc k) t (spots_elements way 1 k (suc k + size t) es) post in
    let p = next_past all pre (top way up l later k (Arr s (Element t es))) (spots_elements way 0 k (suc k) (Element t es)) post d k e m (top (place 0 ∷ way) k (Index 0) (elements_from way 1 (suc k + size t) es) (suc k) t) (inner (place 0 ∷ way) (suc k) t ++ (spots_elements way 1 k (suc k + size t) es ++ post)) q in
    (rw p.0 refl, p.1)
child_at all pre post d way up l later k (Obj s (Member n t ms)) e m h =
    let q = one_of [] (key (meaning n.characters) ∷ way) k (Named (extent n.source)) (members_from way (suc k + size t) ms) (suc k) t (spots_members way k (suc k + size t) ms) post in
    let p = next_past all pre (top way up l later k (Obj s (Member n t ms))) (spots_members way k (suc k) (Member n t ms)) post d k e m (top (key (meaning n.characters) ∷ way) k (Named (extent n.source)) (members_from way (suc k + size t) ms) (suc k) t) (inner (key (meaning n.characters) ∷ way) (suc k) t ++ (spots_members way k (suc k + size t) ms ++ post)) q in
    (rw p.0 refl, p.1)
child_at all pre post d way up l later k _ e m h = absurd (h refl)

next_there : (all : List Spot) (d : Spot) (end up : ℕ) (later : List Node) → NextIn all d end up later → end < end_of (get_or all up d) → (get_or all end d).node ∷ (get_or all end d).later ≡ later
next_there all d end up later h l = grind arith

next_none : (all : List Spot) (d : Spot) (end up : ℕ) (later : List Node) → NextIn all d end up later → end_of (get_or all up d) ≤ end → ◌≡◌ {A = List Node} [] later
next_none all d end up later h l = grind arith

abbrev pub none_there : Doc → Spot
none_there d = record { node = root_of d; up = 0; label = Top; later = [] }

module _ (d : Doc) (s : IsDocument d) where
  entries_are : d.entries ≡ map entry_at (spots d)
  entries_are = s.tape ∙ tape_is [] 0 Top [] 0 (tree_of d)

  pub count_is : count d ≡ length (spots d)
  unfolding count
  count_is = ap (λ (xs : List Entry). length xs) entries_are ∙ length-map (spots d) entry_at

  size_is : length (spots d) ≡ size (tree_of d)
  size_is = spot_count [] 0 Top [] 0 (tree_of d)

  pub some_entry : 0 < count d
  some_entry = let z = size_positive (tree_of d) in rw count_is (omega (arith, size_is, z))

  pub size_of_document : count d ≡ size (tree_of d)
  size_of_document = count_is ∙ size_is

  root_spot : spot_at d 0 ≡ top [] 0 Top [] 0 (tree_of d)
  root_spot = ap (λ (xs : List Spot). get_or xs 0 (none_there d)) (top_first [] 0 Top [] 0 (tree_of d))

  pub good : (n : ℕ) → n < count d → Good d.text (tree_of d) (spots d) (none_there d) n
  good n h = let l : n < length (spots d) = rw count_is at h in
      walk d.text (tree_of d) (spots d) (none_there d) [] [] [] 0 Top [] 0 (tree_of d) (sym (append-nil (spots d))) refl (ap end_of (sym root_spot)) (omega arith) (inl (refl, refl)) (inl refl) (text_fits d.text (tree_of d) s.accepted.0) itself n (omega arith) (omega (arith, size_is))

  pub spot_is : (n : ℕ) (g : Good d.text (tree_of d) (spots d) (none_there d) n) → spot_at d n ≡ g.spot
  spot_is n g = grind (arith, place_is, inner, top_first)

  pub entry_is : (n : ℕ) → n < count d → (e : Entry) → e ≡ get_or d.entries n e → e ≡ entry_at (spot_at d n)
  entry_is n h e q = grind (arith, count_is, entries_are, get_or-map, entry_at)

  pub number_is : (n : ℕ) → n < count d → (node_at d n).number ≡ n
  unfolding node_at
  number_is n h = let g = good n h in ap (λ (x : Spot). x.node.number) (spot_is n g) ∙ g.number

  pub root_is : node_at d 0 ≡ root_of d
  unfolding node_at
  root_is = ap (λ (x : Spot). x.node) root_spot

  pub kind_is : (n : ℕ) → n < count d → (e : Entry) → e ≡ get_or d.entries n e → e.kind ≡ kind_of (node_at d n).tree
  unfolding node_at
  kind_is n h e q = ap (λ (x : Entry). x.kind) (entry_is n h e q) ∙ entries.kind_is (spot_at d n).node.tree (spot_at d n).up (spot_at d n).label (spot_at d n).node.number

  after_spot : (n : ℕ) → n < count d → (e : Entry) → e ≡ get_or d.entries n e → e.after ≡ end_of (spot_at d n)
  after_spot n h e q = ap (λ (x : Entry). x.after) (entry_is n h e q) ∙ entries.after_is (spot_at d n).node.tree (spot_at d n).up (spot_at d n).label (spot_at d n).node.number

  pub after_is : (n : ℕ) → n < count d → (e : Entry) → e ≡ get_or d.entries n e → e.after ≡ n + size (node_at d n).tree
  unfolding node_at
  after_is n h e q = after_spot n h e q ∙ ap (λ m. m + size (spot_at d n).node.tree) (number_is n h)

  up_spot : (n : ℕ) → n < count d → (e : Entry) → e ≡ get_or d.entries n e → e.up ≡ (spot_at d n).up
  up_spot n h e q = ap (λ (x : Entry). x.up) (entry_is n h e q) ∙ entries.up_is (spot_at d n).node.tree (spot_at d n).up (spot_at d n).label (spot_at d n).node.number

  pub past_is : (n : ℕ) → n < count d → (e : Entry) → e ≡ get_or d.entries n e → n < e.after
  past_is n h e q = let z = size_positive (node_at d n).tree in omega (arith, after_is n h e q, z)

  whole_length : (n : ℕ) (g : Good d.text (tree_of d) (spots d) (none_there d) n) → n + size g.spot.node.tree ≤ length (spots d)
  whole_length n g = grind (arith, spot_count, length-append, own)

  pub after_in : (n : ℕ) → n < count d → (e : Entry) → e ≡ get_or d.entries n e → e.after ≤ count d
  after_in n h e q =
      let g = good n h in let a : e.after ≡ g.spot.node.number + size g.spot.node.tree = after_spot n h e q ∙ ap end_of (spot_is n g) in
      rw count_is (omega (arith, a, whole_length n g, g.number))

  pub visit_of : (n : ℕ) → n < count d → (e : Entry) → e ≡ get_or d.entries n e → seen d (counting n (e.after - n)) ≡ visit (node_at d n)
  unfolding node_at
  visit_of n h e q =
      let g = good n h in let a : e.after ≡ g.spot.node.number + size g.spot.node.tree = after_spot n h e q ∙ ap end_of (spot_is n g) in
      let len : e.after - n ≡ length (own g.spot) = omega (arith, a, spot_count g.spot.node.way_up g.spot.up g.spot.label g.spot.later g.spot.node.number g.spot.node.tree, g.number) in
      let v = visit_is g.spot.node.way_up g.spot.up g.spot.label g.spot.later g.spot.node.number g.spot.node.tree in
      let m : map (λ j. (get_or (spots d) j (none_there d)).node) (counting n (length (own g.spot))) ≡ map node_of (own g.spot) = rw g.whole (counted node_of g.pre (own g.spot) g.post (none_there d) n g.at) in
      ap (λ x. map (λ j. (get_or (spots d) j (none_there d)).node) (counting n x)) len ∙ m ∙ sym v ∙ ap (λ (x : Spot). visit x.node) (sym (spot_is n g))

  pub childless_is : (n : ℕ) → n < count d → (e : Entry) → e ≡ get_or d.entries n e → e.children ≡ 0 → children (node_at d n) ≡ []
  unfolding node_at
  childless_is n h e q z = grind (arith, child_count, entry_is, childless)

  child_of : (n : ℕ) → n < count d → (e : Entry) → e ≡ get_or d.entries n e → (e.children ≡ 0 → ⊥)
      → (children (spot_at d n).node ≡ (spot_at d (n + 1)).node ∷ (spot_at d (n + 1)).later) × (n + 1 < length (spots d))
  child_of n h e q z = let g = good n h in let x = g.spot in let r = spot_is n g in
      let c : e.children ≡ child_count x.node.tree = ap (λ (x : Entry). x.children) (entry_is n h e q) ∙ entries.children_is (spot_at d n).node.tree (spot_at d n).up (spot_at d n).label (spot_at d n).node.number ∙ ap (λ (x : Spot). child_count x.node.tree) r in
      let m : length g.pre ≡ x.node.number = g.at ∙ sym g.number in
      let p = child_at (spots d) g.pre g.post (none_there d) x.node.way_up x.up x.label x.later x.node.number x.node.tree g.whole m (λ y. z (c ∙ y)) in
      let i : x.node.number + 1 ≡ n + 1 = ap (λ k. k + 1) g.number in grind arith

  pub child_is : (n : ℕ) → n < count d → (e : Entry) → e ≡ get_or d.entries n e → (e.children ≡ 0 → ⊥) → node_at d (n + 1) ∷ later d (n + 1) ≡ children (node_at d n)
  unfolding node_at later
  child_is n h e q z = sym (child_of n h e q z).0

  pub child_in : (n : ℕ) → n < count d → (e : Entry) → e ≡ get_or d.entries n e → (e.children ≡ 0 → ⊥) → n + 1 < count d
  child_in n h e q z = rw count_is (child_of n h e q z).1

  pub up_in : (n : ℕ) → n < count d → (e : Entry) → e ≡ get_or d.entries n e → e.up < count d
  up_in n h e q = let g = good n h in let a : e.up ≡ g.spot.up = up_spot n h e q ∙ ap (λ (x : Spot). x.up) (spot_is n g) in rw (count_is, a) g.up_in

  -- the end of the spot, and that of the one that it lies in
  ends : (n : ℕ) (h : n < count d) (e : Entry) → e ≡ get_or d.entries n e → (o : Entry) → o ≡ get_or d.entries e.up o
      → (e.after ≡ end_of (good n h).spot) × (o.after ≡ end_of (spot_at d (good n h).spot.up))
  ends n h e q o p = let g = good n h in let a : e.up ≡ g.spot.up = up_spot n h e q ∙ ap (λ (x : Spot). x.up) (spot_is n g) in
      (after_spot n h e q ∙ ap end_of (spot_is n g), after_spot e.up (up_in n h e q) o p ∙ ap (λ k. end_of (spot_at d k)) a)

  pub next_is : (n : ℕ) → n < count d → (e : Entry) → e ≡ get_or d.entries n e → (o : Entry) → o ≡ get_or d.entries e.up o → e.after < o.after
      → node_at d e.after ∷ later d e.after ≡ later d n
  unfolding node_at later
  next_is n h e q o p l = let g = good n h in let b = ends n h e q o p in
      let t : end_of g.spot < end_of (spot_at d g.spot.up) = (let b0 = b.0 in let b1 = b.1 in omega (arith, b0, b1, l)) in
      ap (λ k. (spot_at d k).node ∷ (spot_at d k).later) b.0 ∙ next_there (spots d) (none_there d) (end_of g.spot) g.spot.up g.spot.later g.next t ∙ ap (λ (x : Spot). x.later) (sym (spot_is n g))

  pub next_in : (n : ℕ) → n < count d → (e : Entry) → e ≡ get_or d.entries n e → (o : Entry) → o ≡ get_or d.entries e.up o → e.after < o.after → e.after < count d
  next_in n h e q o p l = let a = after_in e.up (up_in n h e q) o p in omega (arith, a, l)

  pub last_is : (n : ℕ) → n < count d → (e : Entry) → e ≡ get_or d.entries n e → (o : Entry) → o ≡ get_or d.entries e.up o → o.after ≤ e.after
      → ◌≡◌ {A = List Node} [] (later d n)
  unfolding later
  last_is n h e q o p l = let g = good n h in let b = ends n h e q o p in
      let t : end_of (spot_at d g.spot.up) ≤ end_of g.spot = (let b0 = b.0 in let b1 = b.1 in omega (arith, b0, b1, l)) in
      next_none (spots d) (none_there d) (end_of g.spot) g.spot.up g.spot.later g.next t ∙ ap (λ (x : Spot). x.later) (sym (spot_is n g))

  -- an array or an object has as many children as its entry says
  pub length_is : (n : ℕ) → n < count d → (e : Entry) → e ≡ get_or d.entries n e → (e.kind ≡ kinds.Array) ⊎ (e.kind ≡ kinds.Object) → Some e.children ≡ length_of (node_at d n).tree
  unfolding node_at
  length_is n h e q k = grind (arith, child_count, entry_is, kind_is, no_array_kind, no_object_kind)

  -- how the entry shows what leads to its node
  pub way_is : (n : ℕ) → n < count d → (e : Entry) → e ≡ get_or d.entries n e
      → (label : Label) × (e.role ≡ role_of label) × (e.label ≡ label_spot label) × WayIn d.text (spots d) (none_there d) n e.up label (node_at d n).way_up
  unfolding node_at
  way_is n h e q = let g = good n h in let x = g.spot in let r = spot_is n g in let f : e ≡ entry_at x = entry_is n h e q ∙ ap entry_at r in
      let u : e.up ≡ x.up = ap (λ (y : Entry). y.up) f ∙ entries.up_is x.node.tree x.up x.label x.node.number in (
        x.label,
        ap (λ (y : Entry). y.role) f ∙ entries.role_is x.node.tree x.up x.label x.node.number,
        ap (λ (y : Entry). y.label) f ∙ entries.label_is x.node.tree x.up x.label x.node.number,
        subst (λ y. WayIn d.text (spots d) (none_there d) n y x.label (spot_at d n).node.way_up) (sym u)
            (subst (λ y. WayIn d.text (spots d) (none_there d) n x.up x.label y) (sym (ap (λ (y : Spot). y.node.way_up) r)) g.way),
      )

  -- the bytes of a node, and what its entry says of them
  pub fits_is : (n : ℕ) → n < count d → Fits d.text (node_at d n).tree
  unfolding node_at
  fits_is n h = let g = good n h in subst (λ (x : Spot). Fits d.text x.node.tree) (sym (spot_is n g)) g.fits

  pub part_is : (n : ℕ) → n < count d → HasPart (tree_of d) (node_at d n).tree
  unfolding node_at
  part_is n h = let g = good n h in subst (λ (x : Spot). HasPart (tree_of d) x.node.tree) (sym (spot_is n g)) g.part

  pub source_is : (n : ℕ) → n < count d → (e : Entry) → e ≡ get_or d.entries n e → e.source ≡ extent (source_of (node_at d n).tree)
  unfolding node_at
  source_is n h e q = let x = spot_at d n in ap (λ (y : Entry). y.source) (entry_is n h e q) ∙ entries.source_is x.node.tree x.up x.label x.node.number

  pub root_lead : (n : ℕ) → n < count d → (e : Entry) → e ≡ get_or d.entries n e → e.role ≡ roles.Whole → (node_at d n).way_up ≡ []
  root_lead n h e q r = grind (arith, way_is)

  pub index_lead : (n : ℕ) → n < count d → (e : Entry) → e ≡ get_or d.entries n e → e.role ≡ roles.Element → (rest : List Step) × ((node_at d n).way_up ≡ place e.label.start ∷ rest)
  index_lead n h e q r = grind (arith, way_is)

  -- the name of a member stands where its entry says
  pub member_lead : (n : ℕ) → n < count d → (e : Entry) → e ≡ get_or d.entries n e → e.role ≡ roles.Member
      → (name : Name) × (e.label ≡ extent name.source) × IsMember (meaning name.characters) (node_at d n) × Lies d.text name.source × IsString name.source.bytes name.characters
  member_lead n h e q r = grind (arith, way_is)

  -- only a member's node has a name
  pub member_role : (n : ℕ) → n < count d → (e : Entry) → e ≡ get_or d.entries n e → HasName (node_at d n) → e.role ≡ roles.Member
  member_role n h e q h' = grind (arith, way_is)

  pub parent_is : (n : ℕ) → n < count d → (e : Entry) → e ≡ get_or d.entries n e → (e.role ≡ roles.Whole → ⊥) → (step : Step) × ((node_at d n).way_up ≡ step ∷ (node_at d e.up).way_up) × (e.up < n)
  unfolding node_at
  parent_is n h e q r = grind (arith, way_is, number_is)

  -- and the node is one of its parent's children
  pub child_among : (n : ℕ) → n < count d → (e : Entry) → e ≡ get_or d.entries n e → (e.role ≡ roles.Whole → ⊥) → Contains (children (node_at d e.up)) (node_at d n)
  unfolding node_at
  child_among n h e q r = let g = good n h in let f = entry_is n h e q ∙ ap entry_at (spot_is n g) in
      let x = g.spot in let u : e.up ≡ x.up = ap (λ (y : Entry). y.up) f ∙ entries.up_is x.node.tree x.up x.label x.node.number in
      let role : e.role ≡ role_of x.label = ap (λ (y : Entry). y.role) f ∙ entries.role_is x.node.tree x.up x.label x.node.number in
      subst (λ k. Contains (children (spot_at d k).node) (spot_at d n).node) (sym u) (subst (λ (s : Spot). Contains (children (spot_at d x.up).node) s.node) (sym (spot_is n g)) (go x.label x.node (spot_at d x.up).node x.later g.child role))
    where
      here : (y : Node) (ys : List Node) → Contains (y ∷ ys) y
      here y ys = (0, omega arith, refl)

      go : (label : Label) (y parent : Node) (ys : List Node) → (label ≡ Top) ⊎ ((before : List Node) × (children parent ≡ before ++ (y ∷ ys))) → e.role ≡ role_of label → Contains (children parent) y
      go label y parent ys (inl t) role = absurd (r (role ∙ ap role_of t))
      go label y parent ys (inr (before, k)) role = subst (λ l. Contains l y) (sym k) (Contains-append_right before (y ∷ ys) y (here y ys))

  -- the bytes that the entry shows are the node's
  pub text_is : (n : ℕ) → n < count d → (e : Entry) → e ≡ get_or d.entries n e → (source bytes : List ℕ) → source ≡ d.text → bytes ≡ bytes_at source e.source → bytes ≡ (source_of (node_at d n).tree).bytes
  text_is n h e q source bytes f g = g ∙ ap (λ l. bytes_at l e.source) f ∙ ap (bytes_at d.text) (source_is n h e q) ∙ sym (entries.lies_in d.text (node_at d n).tree (fits_is n h))

  pub text_ends : (n : ℕ) → n < count d → (e : Entry) → e ≡ get_or d.entries n e → (source : List ℕ) → source ≡ d.text → e.source.start + e.source.len ≤ length source
  text_ends n h e q source f =
      let t = (node_at d n).tree in let x = source_is n h e q in let start : e.source.start ≡ (source_of t).place = ap (λ (y : Extent). y.start) x in
      let len : e.source.len ≡ length (source_of t).bytes = ap (λ (y : Extent). y.len) x in
      let within = part_ends d.text (tree_of d) t s.accepted.0 (part_is n h) (entries.lies_in d.text t (fits_is n h)) in let same = ap length f in
      omega arith

  pub text_part : (n : ℕ) → n < count d → StandsIn d.text (source_of (node_at d n).tree).bytes
  text_part n h = stands_in d.text (source_of (node_at d n).tree) (entries.lies_in d.text (node_at d n).tree (fits_is n h)) where
    stands_in : (text : List ℕ) (s : Source) → Lies text s → StandsIn text s.bytes
    stands_in text s l = let m = length s.bytes in let rest = drop s.place text in
        (take s.place text, drop m rest, sym (take-append-drop s.place text) ∙ ap (λ x. take s.place text ++ x) (sym (take-append-drop m rest) ∙ ap (λ x. x ++ drop m rest) (sym l)))

  -- a number keeps the limits
  pub number_within : (n : ℕ) → n < count d → kind_of (node_at d n).tree ≡ kinds.Number → IsLimited (source_of (node_at d n).tree).bytes
  number_within n h k = go (node_at d n).tree k (fits_is n h) (part_is n h) where
    go : (t : Tree) → kind_of t ≡ kinds.Number → Fits d.text t → HasPart (tree_of d) t → IsLimited (source_of t).bytes
    go (Leaf x Num) k f p = (f.1, within_unless x.bytes (λ b. s.accepted.1 NumberLimit (tree_of d, Leaf x Num, s.accepted.0, p, b)))
    go _ k f p = absurd (cc)

  -- the characters of a string stand where its entry says
  pub string_is : (n : ℕ) → n < count d → (e : Entry) → e ≡ get_or d.entries n e → kind_of (node_at d n).tree ≡ kinds.Text
      → (source : Source) × (characters : List Spelt) × (e.source ≡ extent source) × (string_meaning (node_at d n).tree ≡ meaning characters) × Lies d.text source × IsString source.bytes characters
  string_is n h e q k = go (node_at d n).tree k (fits_is n h) (source_is n h e q) where
    go : (t : Tree) → kind_of t ≡ kinds.Text → Fits d.text t → e.source ≡ extent (source_of t)
        → (source : Source) × (characters : List Spelt) × (e.source ≡ extent source) × (string_meaning t ≡ meaning characters) × Lies d.text source × IsString source.bytes characters
    go t k f x = grind arith

  pub text_short : length d.text ≤ text_limit
  text_short = elim (cases_lt text_limit (length d.text)) [ inl g ↦ absurd (s.accepted.1 TooLong g) | inr g ↦ g ]

pub nameless : (n : Node) → (HasName n → ⊥) → (cs : List ℕ) → false ≡ is_named cs n
nameless n f cs = grind arith

pub string_length : (t : Tree) → kind_of t ≡ kinds.Text → (scalars : List ℕ) → scalars ≡ string_meaning t → Some (length scalars) ≡ length_of t
string_length t k scalars e = grind arith

pub no_length : (t : Tree) → (kind_of t ≡ kinds.Array → ⊥) → (kind_of t ≡ kinds.Object → ⊥) → (kind_of t ≡ kinds.Text → ⊥) → None ≡ length_of t
no_length t a o x = grind arith

-- from the fields to the value
pub is_document : (i d : Doc) → i ≡ d → IsDocument i → IsDocument d
is_document i d e s = subst IsDocument e s

pub shown : (i d : Doc) → i ≡ d → (n : ℕ) (e : Entry) → e ≡ get_or i.entries n e → e ≡ get_or d.entries n e
shown i d q n e h = subst (λ (x : Doc). e ≡ get_or x.entries n e) q h

pub within : (i d : Doc) → i ≡ d → (n : ℕ) → n < count d → n < length i.entries
unfolding count
within i d q n h = subst (λ (x : Doc). n < length x.entries) (sym q) h

pub counts : (i d : Doc) → i ≡ d → length i.entries ≡ count d
unfolding count
counts i d q = ap (λ (x : Doc). length x.entries) q

pub small_count : (d : Doc) → IsDocument d → count d < 2 ^ 31
unfolding count
small_count d s = s.small

-- a part of a text is no longer than the text
pub part_short : (text part result : List ℕ) → StandsIn text part → result ≡ part → length text ≤ text_limit → length result ≤ text_limit
part_short text part result h v b = grind (arith, length-append)
