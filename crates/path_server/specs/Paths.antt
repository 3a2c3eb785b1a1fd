-- The law of paths (RFC 9535, section 2.7): what the path of a hit gives, asked as a query on the same text.
use Rattle.std.specs.Prelude.{◌≡◌, ℕ, ◌≤◌, ◌++◌, List, [], ◌∷◌, length, IsTrue}
use Rattle.std.specs.List.{All}
use Rattle.json_tape.specs.Tree.{Tree}
use Rattle.json_tape.specs.Verdict.{IsAccepted}
use Rattle.path_grammar.specs.Tree.{Segments}
use Rattle.path_grammar.specs.Grammar.{IsQuery}
use Rattle.path_types.specs.Validity.{is_valid}
use Rattle.path_types.specs.Verdict.{IsValidQuery, query_limit}
use Rattle.tape_select.specs.Budget.{budget}
use Rattle.tape_select.specs.Charge.{charge}
use Rattle.tenant_store.specs.Hits.{Hit, hits}
use Rattle.path_server.specs.Lines.{line_of}
use Rattle.path_server.specs.QueryText.{Refuses, Answers}
use Rattle.path_server.specs.declared.fault.QueryTextFault.{QueryTextFault}
use Rattle.path_server.specs.declared.fault.QueryTextFault.TheVariants.{Memory}

-- The path spells a valid query within the budget that has this hit alone. The limit on the length of a query is not asked for.
pub record LeadsBack (t : Tree) (h : Hit) : Type 0 where
  pub query : Segments
  pub spelled : IsQuery h.path query
  pub valid : IsTrue (is_valid query)
  pub within : charge t query ≤ budget
  pub alone : hits t query ≡ h ∷ []

-- the paths of all hits of a query on a text lead back
abbrev pub PathsLeadBack : (query document : List ℕ) → Type 0
PathsLeadBack query document = (t : Tree) (q : Segments) → IsAccepted document t → IsValidQuery query q → All (LeadsBack t) (hits t q)

-- whatever is answered to the path as a query on the text is the line of this hit, and nothing but want of memory refuses it
pub record IsAnsweredAlone (document : List ℕ) (h : Hit) : Type 0 where
  pub answered : (old new : List ℕ) → Answers h.path document old new → new ≡ old ++ line_of h
  pub refused : (fault : QueryTextFault) → Refuses h.path document fault → fault ≡ Memory

-- so it is with the path of each hit of any query, where the path is no longer than a query may be
abbrev pub PathsAreAnswered : Type 0
PathsAreAnswered = (document : List ℕ) (t : Tree) (q : Segments) → IsAccepted document t
    → All (λ h. length h.path ≤ query_limit → IsAnsweredAlone document h) (hits t q)
