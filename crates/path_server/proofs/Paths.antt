-- The paths of hits, asked as queries on the same text.
use Rattle.std.proofs.Common.{◌≡◌, ℕ, ◌≤◌, true, List, [], ◌∷◌, ◌++◌, length, map, refl, ap, ◌∙◌, arith, append-nil}
use Rattle.std.proofs.lemmas.List.Elements.{All-from_recursion, recursion_from_All}
use Rattle.std.specs.List.{AllByRecursion}
use Rattle.json_tape.specs.Tree.{Tree}
use Rattle.json_tape.specs.Nodes.{Node}
use Rattle.json_tape.specs.Grammar.{IsText}
use Rattle.json_tape.specs.Verdict.{IsAccepted}
use Rattle.json_text.specs.declared.tape.TextFault.TheVariants as text
use Rattle.path_grammar.specs.Tree.{Segments}
use Rattle.path_grammar.specs.Laws.{HaveOneTree}
use Rattle.path_types.specs.Validity.{is_valid}
use Rattle.path_types.specs.Verdict.{query_limit}
use Rattle.tape_select.specs.Charge.{charge}
use Rattle.tape_select.specs.Evaluation.{nodes_selected}
use Rattle.path_law.specs.Law as law
use Rattle.tenant_store.specs.Hits.{Hit, hit_of, hits}
use Rattle.path_server.specs.Lines.{line_of, lines_of}
use Rattle.path_server.specs.QueryText.{Refuses, Answers}
use Rattle.path_server.specs.Paths.{LeadsBack, PathsLeadBack, IsAnsweredAlone, PathsAreAnswered}
use Rattle.path_server.specs.declared.fault.QueryTextFault.{QueryTextFault}
use Rattle.path_server.specs.declared.fault.QueryTextFault.TheVariants.{TooLong, NotUtf8, NotJson, TooDeep, NumberLimit, LoneSurrogate, DuplicateName, QueryTooLong, NotWellFormed, NotValid, Costly, Memory}

-- the contract of `one_tree`
abbrev pub TextsHaveOneTree : Type 0
TextsHaveOneTree = (text : List ℕ) (s t : Tree) → IsText text s → IsText text t → s ≡ t

hit_leads : (t : Tree) (n : Node) → law.LeadsBack t n → LeadsBack t (hit_of n)
hit_leads t n l = record { query = l.query; spelled = l.spelled; valid = l.valid; within = l.within; alone = ap (map hit_of) l.alone }

all_hits : (t : Tree) (ns : List Node) → AllByRecursion (law.LeadsBack t) ns → AllByRecursion (LeadsBack t) (map hit_of ns)
all_hits t [] h = tt
all_hits t (n ∷ ns) h = (hit_leads t n h.0, all_hits t ns h.1)

-- the hits of any query
pub hits_lead : law.PathsLeadBack → (document : List ℕ) (t : Tree) (q : Segments) → IsAccepted document t → AllByRecursion (LeadsBack t) (hits t q)
hits_lead h document t q a = all_hits t (nodes_selected t q) (recursion_from_All (law.LeadsBack t) (nodes_selected t q) (h document t q a))

pub paths_lead_back : law.PathsLeadBack → (query document : List ℕ) → PathsLeadBack query document
paths_lead_back h query document t q a v = All-from_recursion (LeadsBack t) (hits t q) (hits_lead h document t q a)

-- ---- What is answered to a path

same_lines : (s t : Tree) (p q : Segments) → s ≡ t → p ≡ q → lines_of (hits s p) ≡ lines_of (hits t q)
same_lines s t p q e f = ap (λ x. lines_of (hits x p)) e ∙ ap (λ x. lines_of (hits t x)) f

module _ (one_text : TextsHaveOneTree) (one_query : HaveOneTree) (document : List ℕ) (t : Tree) (a : IsAccepted document t) (h : Hit) (l : LeadsBack t h) (short : length h.path ≤ query_limit) where
  line_answered : (old new : List ℕ) → Answers h.path document old new → new ≡ old ++ line_of h
  line_answered old new r =
      let e = one_text document r.tree t r.accepted.0 a.0 in
      let f = one_query h.path r.segments l.query r.valid.spelled l.spelled in
      r.appended ∙ ap (λ ls. old ++ ls) (same_lines r.tree t r.segments l.query e f ∙ ap lines_of l.alone ∙ append-nil (line_of h))

  memory_refused : (fault : QueryTextFault) → Refuses h.path document fault → fault ≡ Memory
  memory_refused TooLong r = absurd (a.1 text.TooLong r.0)
  memory_refused NotUtf8 r = absurd (a.1 text.NotUtf8 r.0)
  memory_refused NotJson r = absurd (a.1 text.NotJson r.0)
  memory_refused TooDeep r = absurd (a.1 text.TooDeep r.0)
  memory_refused NumberLimit r = absurd (a.1 text.NumberLimit r.0)
  memory_refused LoneSurrogate r = absurd (a.1 text.LoneSurrogate r.0)
  memory_refused DuplicateName r = absurd (a.1 text.DuplicateName r.0)
  memory_refused QueryTooLong r = absurd (let m = r.1 in omega arith)
  memory_refused NotWellFormed r = absurd (r.1.1 l.query l.spelled)
  memory_refused NotValid (d, (m, (q, s, v))) =
      let e : is_valid q ≡ true = ap is_valid (one_query h.path q l.query s l.spelled) ∙ l.valid in absurd cc
  memory_refused Costly (u, q, b, v, over) =
      let e : charge u q ≡ charge t l.query = ap (λ x. charge x q) (one_text document u t b.0 a.0) ∙ ap (charge t) (one_query h.path q l.query v.spelled l.spelled) in absurd (omega (arith, e, over, l.within))
  memory_refused Memory r = refl

all_answered : TextsHaveOneTree → HaveOneTree → (document : List ℕ) (t : Tree) → IsAccepted document t → (hs : List Hit) → AllByRecursion (LeadsBack t) hs
    → AllByRecursion (λ h. length h.path ≤ query_limit → IsAnsweredAlone document h) hs
all_answered one_text one_query document t a [] l = tt
all_answered one_text one_query document t a (h ∷ hs) l = (
  λ short. record { answered = line_answered one_text one_query document t a h l.0 short; refused = memory_refused one_text one_query document t a h l.0 short },
  all_answered one_text one_query document t a hs l.1,
)

pub paths_are_answered : law.PathsLeadBack → TextsHaveOneTree → HaveOneTree → PathsAreAnswered
paths_are_answered h one_text one_query document t q a =
    All-from_recursion (λ (x : Hit). length x.path ≤ query_limit → IsAnsweredAlone document x) (hits t q) (all_answered one_text one_query document t a (hits t q) (hits_lead h document t q a))
