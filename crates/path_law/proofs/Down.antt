-- From a node whose path leads to it alone, the paths of its children do so too.
use Rattle.std.proofs.Common.{◌≡◌, ◌≢◌, ℕ, suc, ◌+◌, ◌<◌, ◌≤◌, Bool, true, false, List, [], ◌∷◌, ◌++◌, length, reverse, nat_lt, bytes_eq, pos, refl, sym, ap, ◌∙◌, subst, arith, zero-add, length-append}
use Rattle.std.proofs.lemmas.Bool.Decides.{nat_tests}
use Rattle.std.proofs.lemmas.Grind.{reverse_onto}
use Rattle.std.proofs.lemmas.Slice.Eq.{bytes_eq-Decides}
use Rattle.std.specs.List.{AllByRecursion}
use Rattle.json_tape.specs.Tree.{Source, Name, Tree, Leaf, Arr, Obj, Elements, NoElement, Element, Members, NoMember, Member}
use Rattle.json_tape.specs.Nodes.{Node, Step, key, place, steps, size, children, children_of, elements_from, members_from, is_named, first_where}
use Rattle.json_tape.specs.Parts.{IsElementOf, first_element, later_element, IsValueOf, first_value, later_value, IsNameOf, first_name, later_name, HasPart, itself, element, value}
use Rattle.json_tape.specs.Tape.{element_count}
use Rattle.json_tape.specs.Verdict.{names, depth_limit, depth, depth_of_elements, depth_of_members}
use Rattle.path_grammar.specs.declared.ast.IntLit.TheVariants.{Within}
use Rattle.tape_values.specs.Selection.{nth, at_index}
use Rattle.tape_select.specs.Evaluation.{root_node, evaluated, selected_by}
use Rattle.path_law.proofs.Closed.{all_append}
use Rattle.path_law.proofs.Ways.{selector_of, query_of, IsPlain, evaluated_append, one_step}
use Rattle.path_law.proofs.Fine.{name_meaning, Distinct, IsFine}

-- the steps to the node lead to it alone
pub record Leads (t : Tree) (n : Node) : Type 0 where
  pub deep : length (steps n) + depth n.tree ≤ depth t
  pub part : HasPart t n.tree
  pub plain : AllByRecursion IsPlain (steps n)
  pub gives : evaluated (root_node t) (query_of (steps n)) (root_node t ∷ []) ≡ n ∷ []

pub root_leads : (t : Tree) → Leads t (root_node t)
root_leads t = record { deep = omega arith; part = itself; plain = tt; gives = refl }

leads_on : (t : Tree) (m n : Node) (s : Step) → Leads t m → n.way_up ≡ s ∷ m.way_up → HasPart t n.tree → depth n.tree < depth m.tree → IsPlain s → selected_by (root_node t) (selector_of s) m ≡ n ∷ [] → Leads t n
leads_on t m n s l w part deep p e =
    let root = root_node t in
    let way : steps n ≡ steps m ++ s ∷ [] = ap reverse w ∙ reverse_onto m.way_up s [] in
    let last = ap (evaluated root (query_of (s ∷ []))) l.gives ∙ one_step root s m n e in
    let long : length (steps n) ≡ length (steps m) + 1 = ap length way ∙ length-append (steps m) (s ∷ []) in
    record {
      deep = omega (arith, l.deep);
      part = part;
      plain = subst (AllByRecursion IsPlain) (sym way) (all_append IsPlain (steps m) (s ∷ []) l.plain (p, tt));
      gives = ap (λ ss. evaluated root (query_of ss) (root ∷ [])) way ∙ evaluated_append root (steps m) (s ∷ []) (root ∷ []) ∙ last;
    }

-- ---- Depths

element_depth : (es : Elements) (x : Tree) → IsElementOf es x → depth x < suc (depth_of_elements es)
element_depth NoElement x h = elim h [ ]
element_depth (Element t es) _ first_element = omega arith
element_depth (Element a es) x (later_element h) = let i = element_depth es x h in omega arith

value_depth : (ms : Members) (x : Tree) → IsValueOf ms x → depth x < suc (depth_of_members ms)
value_depth NoMember x h = elim h [ ]
value_depth (Member n t ms) _ first_value = omega arith
value_depth (Member n a ms) x (later_value h) = let i = value_depth ms x h in omega arith

-- ---- Elements

length-elements : (up : List Step) (i k : ℕ) (es : Elements) → length (elements_from up i k es) ≡ element_count es
length-elements up i k NoElement = refl
length-elements up i k (Element t es) = ap suc (length-elements up (suc i) (k + size t) es)

index_selects : (i : ℕ) (all : List Node) (n : Node) → i < length all → nth i all ≡ n ∷ [] → at_index (Within (pos i)) all ≡ n ∷ []
index_selects i all n h e = let f : nat_lt i (length all) ≡ true = grind (arith, nat_tests) in rw f e

module _ (t : Tree) (up : List Step) (k : ℕ) (s : Source) (es : Elements) where
  all_elements : List Node
  all_elements = elements_from up 0 (suc k) es

  elements_lead : IsFine t → Leads t (record { number = k; way_up = up; tree = Arr s es }) → (i k' : ℕ) (fs : Elements)
      → ((x : Tree) → IsElementOf fs x → IsElementOf es x)
      → ((j : ℕ) → nth (i + j) (elements_from up 0 (suc k) es) ≡ nth j (elements_from up i k' fs))
      → i + element_count fs ≡ element_count es
      → AllByRecursion (Leads t) (elements_from up i k' fs)
  elements_lead f l i k' NoElement among same count = tt
  elements_lead f l i k' (Element x fs) among same count =
      let m : Node = record { number = k; way_up = up; tree = Arr s es } in
      let n : Node = record { number = k'; way_up = place i ∷ up; tree = x } in
      let all = elements_from up 0 (suc k) es in
      let few = f.few s es l.part in
      let long = length-elements up 0 (suc k) es in
      let here : nth i all ≡ n ∷ [] = subst (λ j. nth j all ≡ n ∷ []) (omega arith) (same 0) in (
        leads_on t m n (place i) l refl (element l.part (among x first_element)) (element_depth es x (among x first_element)) (omega arith) (index_selects i all n (omega arith) here),
        elements_lead f l (suc i) (k' + size x) fs (λ y h. among y (later_element h)) (λ j. subst (λ a. nth a all ≡ nth j (elements_from up (suc i) (k' + size x) fs)) (omega arith) (same (suc j))) (omega arith),
      )

-- ---- Members

bytes_same : (xs : List ℕ) → bytes_eq xs xs ≡ true
bytes_same xs = (bytes_eq-Decides xs xs).1 refl

bytes_other : (xs ys : List ℕ) → xs ≢ ys → bytes_eq ys xs ≡ false
bytes_other xs ys h = by_test (bytes_eq ys xs) refl
  where
    by_test : (b : Bool) → bytes_eq ys xs ≡ b → bytes_eq ys xs ≡ false
    by_test true e = absurd (h (sym ((bytes_eq-Decides ys xs).0 e)))
    by_test false e = e

-- each of the names selects from both lists alike
abbrev Alike : List Node → List Node → List Name → Type 0
Alike all rest ms = AllByRecursion (λ m. first_where (is_named (name_meaning m)) all ≡ first_where (is_named (name_meaning m)) rest) ms

past_other : (all rest : List Node) (c : Name) (number : ℕ) (up : List Step) (x : Tree) (ms : List Name) → AllByRecursion (λ m. name_meaning c ≢ name_meaning m) ms
    → Alike all (record { number = number; way_up = key (name_meaning c) ∷ up; tree = x } ∷ rest) ms → Alike all rest ms
past_other all rest c number up x [] d h = tt
past_other all rest c number up x (m ∷ ms) d h =
    let o = bytes_other (name_meaning c) (name_meaning m) d.0 in
    (h.0 ∙ rw o refl, past_other all rest c number up x ms d.1 h.1)

alike_self : (all : List Node) (ms : List Name) → Alike all all ms
alike_self all [] = tt
alike_self all (m ∷ ms) = (refl, alike_self all ms)

module _ (t : Tree) (up : List Step) (k : ℕ) (s : Source) (ms : Members) where
  members_lead : IsFine t → Leads t (record { number = k; way_up = up; tree = Obj s ms }) → (k' : ℕ) (os : Members)
      → ((x : Tree) → IsValueOf os x → IsValueOf ms x)
      → ((n : Name) → IsNameOf os n → IsNameOf ms n)
      → Distinct os
      → Alike (members_from up (suc k) ms) (members_from up k' os) (names os)
      → AllByRecursion (Leads t) (members_from up k' os)
  members_lead f l k' NoMember among named d same = tt
  members_lead f l k' (Member c x os) among named d same =
      let m : Node = record { number = k; way_up = up; tree = Obj s ms } in
      let n : Node = record { number = k'; way_up = key (name_meaning c) ∷ up; tree = x } in
      let e = bytes_same (name_meaning c) in
      let rest = members_from up (k' + size x) os in
      let here : first_where (is_named (name_meaning c)) (n ∷ rest) ≡ n ∷ [] = rw e refl in (
        leads_on t m n (key (name_meaning c)) l refl (value l.part (among x first_value)) (value_depth ms x (among x first_value)) (f.scalar s ms l.part c (named c first_name)) (same.0 ∙ here),
        members_lead f l (k' + size x) os (λ y h. among y (later_value h)) (λ y h. named y (later_name h)) d.1 (past_other (members_from up (suc k) ms) rest c k' up x (names os) d.0 same.1),
      )

-- ---- Children

children_lead : (t : Tree) → IsFine t → (up : List Step) (k : ℕ) (x : Tree) → Leads t (record { number = k; way_up = up; tree = x }) → AllByRecursion (Leads t) (children_of up k x)
children_lead t f up k (Leaf s c) l = tt
children_lead t f up k (Arr s es) l = elements_lead t up k s es f l 0 (suc k) es (λ x h. h) (λ j. ap (λ a. nth a (elements_from up 0 (suc k) es)) (zero-add j)) (omega arith)
children_lead t f up k (Obj s ms) l = members_lead t up k s ms f l (suc k) ms (λ x h. h) (λ n h. h) (f.distinct s ms l.part) (alike_self (members_from up (suc k) ms) (names ms))

pub down : (t : Tree) → IsFine t → (n : Node) → Leads t n → AllByRecursion (Leads t) (children n)
down t f n l = children_lead t f n.way_up n.number n.tree l

-- no more steps lead to a node than containers may lie in one another
pub few_steps : (t : Tree) → IsFine t → (n : Node) → Leads t n → length (steps n) ≤ depth_limit
few_steps t f n l = omega (arith, l.deep, f.deep)
