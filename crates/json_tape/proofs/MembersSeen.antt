-- The members of an object, from one node to the next.
use Rattle.json_text.proofs.Names.{◌≡◌, ℕ, suc, ◌+◌, ◌<◌, ◌≤◌, true, false, List, [], ◌∷◌, ◌++◌, length, get_or, refl, sym, ap, ◌∙◌, subst, arith}
use Rattle.json_text.proofs.Names.{append_assoc, length-append, bytes_eq, Name, Tree, Leaf, Arr, Obj, Elements, NoElement, Element, Members, NoMember}
use Rattle.json_text.proofs.Names.{Member, IsString, Node, Step, key, size, size_of_members, children, children_of, elements_from, members_from}
use Rattle.json_text.proofs.Names.{is_named, first_where, Label, Named, extent, kind_of}
use Rattle.json_text.specs.Meaning.{meaning}
use Rattle.json_tape.specs.Document.{Doc, Spot, IsDocument, spots, spot_at, spots_from, spots_members, node_at, count}
use Rattle.json_text.specs.declared.tape.Kind.TheVariants as kinds
use Rattle.json_text.specs.declared.tape.Entry.{Entry}
use Rattle.json_text.proofs.Entries as entries
use Rattle.json_text.proofs.Entries.{size_positive}
use Rattle.json_text.proofs.Fits.{Lies, Fits, FitMembers}
use Rattle.json_tape.proofs.Spots.{entry_at, top, inner, one_of, place_is, spot_count}
use Rattle.json_tape.proofs.Readers.{good, spot_is, entry_is, after_is, count_is, none_there}
use Rattle.json_text.proofs.One.{no_object_kind}

-- the members from the node k on, the first of this name among which is the object's first
pub record Rest (d : Doc) (name : List ℕ) (n k end : ℕ) : Type 0 where
  members : Members
  way : List Step
  pre : List Spot
  post : List Spot
  whole : spots d ≡ pre ++ (spots_members way n k members ++ post)
  at : length pre ≡ k
  ends : end ≡ k + size_of_members members
  fits : FitMembers d.text members
  same : first_where (is_named name) (members_from way k members) ≡ first_where (is_named name) (children (node_at d n))

-- the first of those that are left
pub record Seen (d : Doc) (name : List ℕ) (n k end : ℕ) : Type 0 where
  pub inside : k < count d
  pub member : Name
  pub lies : Lies d.text member.source
  pub string : IsString member.source.bytes member.characters
  pub label : (e : Entry) → e ≡ get_or d.entries k e → e.label ≡ extent member.source
  pub found : bytes_eq name (meaning member.characters) ≡ true → node_at d k ∷ [] ≡ first_where (is_named name) (children (node_at d n))
  pub passed : bytes_eq name (meaning member.characters) ≡ false → (e : Entry) → e ≡ get_or d.entries k e → Rest d name n e.after end

object_rest : (d : Doc) (name : List ℕ) (way : List Step) (up : ℕ) (label : Label) (later : List Node) (k end : ℕ) (t : Tree) (pre post : List Spot)
    → spots d ≡ pre ++ (spots_from way up label later k t ++ post) → length pre ≡ k → children (node_at d k) ≡ children_of way k t → Fits d.text t → kind_of t ≡ kinds.Object → end ≡ k + size t
    → Rest d name k (suc k) end
object_rest d name way up label later k end (Leaf s c) pre post w l c' f o e = absurd (no_object_kind c o)
object_rest d name way up label later k end (Arr s es) pre post w l c f o e = absurd (cc)
object_rest d name way up label later k end (Obj s ms) pre post w l c f o e = let x = top way up label later k (Obj s ms) in
    grind (arith, append_assoc pre (x ∷ []) (spots_members way k (suc k) ms ++ post), length-append pre (x ∷ []))

module _ (d : Doc) (s : IsDocument d) (name : List ℕ) where
  -- all members of an object
  pub all_rest : (n : ℕ) → n < count d → (e : Entry) → e ≡ get_or d.entries n e → kind_of (node_at d n).tree ≡ kinds.Object → Rest d name n (n + 1) e.after
  unfolding node_at
  all_rest n h e q o = let g = good d s n h in let x = g.spot in let r = spot_is d s n g in
      let a : e.after ≡ x.node.number + size x.node.tree = after_is d s n h e q ∙ ap (λ (y : Spot). n + size y.node.tree) r ∙ omega (arith, g.number) in
      let m : length g.pre ≡ x.node.number = g.at ∙ sym g.number in
      let c : children (spot_at d x.node.number).node ≡ children x.node = ap (λ j. children (spot_at d j).node) g.number ∙ ap (λ (y : Spot). children y.node) r in
      let k : kind_of x.node.tree ≡ kinds.Object = sym (ap (λ (y : Spot). kind_of y.node.tree) r) ∙ o in
      let z = object_rest d name x.node.way_up x.up x.label x.later x.node.number e.after x.node.tree g.pre g.post g.whole m c g.fits k a in
      let p : suc n ≡ n + 1 = omega arith in subst (λ j. Rest d name n j e.after) p (subst (λ j. Rest d name j (suc j) e.after) g.number z)

  seen_from : (n k end : ℕ) (ms : Members) (way : List Step) (pre post : List Spot)
      → spots d ≡ pre ++ (spots_members way n k ms ++ post) → length pre ≡ k → end ≡ k + size_of_members ms → FitMembers d.text ms
      → first_where (is_named name) (members_from way k ms) ≡ first_where (is_named name) (children (node_at d n)) → k < end → Seen d name n k end
  unfolding node_at
  seen_from n k end NoMember way pre post w l z f same h = absurd (omega (arith, z, h))
  seen_from n k end (Member m t ms) way pre post w l z f same h =
      let later = members_from way (k + size t) ms in let way' = key (meaning m.characters) ∷ way in
      let rest = spots_members way n (k + size t) ms in let own' = spots_from way' n (Named (extent m.source)) later k t in
      let x = top way' n (Named (extent m.source)) later k t in
      let whole : spots d ≡ pre ++ ((x ∷ inner way' k t) ++ (rest ++ post)) = w ∙ one_of pre way' n (Named (extent m.source)) later k t rest post in
      let p : spot_at d k ≡ x = place_is (spots d) pre x (inner way' k t) (rest ++ post) (none_there d) k whole l in
      let i : k < length (spots d) = (let y = ap (λ (xs : List Spot). length xs) whole in omega (arith, y, length-append pre ((x ∷ inner way' k t) ++ (rest ++ post)), l)) in
      let j : k < count d = rw (count_is d s) i in record {
        inside = j;
        member = m;
        lies = f.0;
        string = f.1;
        label = (λ e q. ap (λ (y : Entry). y.label) (entry_is d s k j e q) ∙ ap (λ (y : Spot). (entry_at y).label) p ∙ entries.label_is t n (Named (extent m.source)) k);
        found = (λ b. ap (λ (y : Spot). y.node ∷ []) p ∙ here b ∙ same);
        passed = (λ b e q.
            let a : e.after ≡ k + size t = after_is d s k j e q ∙ ap (λ (y : Spot). k + size y.node.tree) p in
            subst (λ u. Rest d name n u end) (sym a) (record {
              members = ms;
              way = way;
              pre = pre ++ own';
              post = post;
              whole = w ∙ ap (λ xs. pre ++ xs) (append_assoc own' rest post) ∙ sym (append_assoc pre own' (rest ++ post));
              at = omega (arith, length-append pre own', spot_count way' n (Named (extent m.source)) later k t, l);
              ends = omega (arith, z);
              fits = f.3;
              same = sym (beyond b) ∙ same;
            }));
      }
    where
      node : Node
      node = record { number = k; way_up = key (meaning m.characters) ∷ way; tree = t }

      here : bytes_eq name (meaning m.characters) ≡ true → node ∷ [] ≡ first_where (is_named name) (members_from way k (Member m t ms))
      here b = rw b refl

      beyond : bytes_eq name (meaning m.characters) ≡ false
          → first_where (is_named name) (members_from way k (Member m t ms)) ≡ first_where (is_named name) (members_from way (k + size t) ms)
      beyond b = rw b refl

  pub next_seen : (n k end : ℕ) → Rest d name n k end → k < end → Seen d name n k end
  next_seen n k end r h = seen_from n k end r.members r.way r.pre r.post r.whole r.at r.ends r.fits r.same h

-- no members are left
pub none_left : (d : Doc) (name : List ℕ) (n k end : ℕ) → Rest d name n k end → end ≤ k → ◌≡◌ {A = List Node} [] (first_where (is_named name) (children (node_at d n)))
none_left d name n k end r h = go r.members r.ends r.same where
  go : (ms : Members) → end ≡ k + size_of_members ms → first_where (is_named name) (members_from r.way k ms) ≡ first_where (is_named name) (children (node_at d n))
      → ◌≡◌ {A = List Node} [] (first_where (is_named name) (children (node_at d n)))
  go NoMember e same = same
  go (Member m t ms) e same = absurd (let z = size_positive t in omega (arith, e, z, h))

-- only an object's children have names
pub unnamed : (name : List ℕ) (n : Node) → (kind_of n.tree ≡ kinds.Object → ⊥) → ◌≡◌ {A = List Node} [] (first_where (is_named name) (children n))
unnamed name n f = go n.way_up n.number n.tree f where
  elements : (way : List Step) (i k : ℕ) (es : Elements) → ◌≡◌ {A = List Node} [] (first_where (is_named name) (elements_from way i k es))
  elements way i k NoElement = refl
  elements way i k (Element t es) = elements way (suc i) (k + size t) es

  go : (way : List Step) (k : ℕ) (t : Tree) → (kind_of t ≡ kinds.Object → ⊥) → ◌≡◌ {A = List Node} [] (first_where (is_named name) (children_of way k t))
  go way k t f = grind (arith, elements)
