-- What the parser answers, from what reading gives.
use Rattle.std.proofs.Common.{◌≡◌, ℕ, ◌≤◌, ◌<◌, ◌↔◌, List, length, Option, Some, None, Result, Ok, Err, sym, ap, ◌∙◌, arith}
use Rattle.std.specs.Prelude.{IsUtf8, chars, IfOk, IsErrOf}
use Rattle.path_grammar.specs.Tree.{Segments}
use Rattle.path_grammar.specs.View.{query_view}
use Rattle.path_grammar.specs.Grammar.{IsQuery}
use Rattle.path_grammar.specs.Reading.{Gives}
use Rattle.path_grammar.specs.ReadingFilters.{query_at}
use Rattle.path_grammar.specs.declared.ast.Query.{Query}
use Rattle.path_grammar.specs.declared.fault.ParseFault.{ParseFault}
use Rattle.path_grammar.specs.declared.fault.ParseFault.TheVariants.{QueryTooLong, NotWellFormed, Memory}
use Rattle.path_grammar.proofs.Queries.{query_reads, query_again}

same_some : {A : Type 0} (o : Option A) (x y : A) → o ≡ Some x → o ≡ Some y → x ≡ y
same_some o x y p q = cc

not_none : {A : Type 0} (o : Option A) (x : A) → o ≡ Some x → o ≡ None → ⊥
not_none o x p q = cc

-- the clauses of a text within the limit
pub record IsAnswer (text : List ℕ) (r : Result Query ParseFault) : Type 0 where
  pub spelled : IfOk r (λ q. IsQuery text (query_view q))
  pub one_tree : IfOk r (λ q. (other : Segments) → IsQuery text other → other ≡ query_view q)
  pub too_long : IsErrOf r QueryTooLong ↔ (4096 < length text)
  pub not_well_formed : IsErrOf r NotWellFormed → (q : Segments) → ¬ IsQuery text q

never : (text : List ℕ) (r : Result Query ParseFault) → length text ≤ 4096 → (r ≡ Err QueryTooLong → ⊥) → IsErrOf r QueryTooLong ↔ (4096 < length text)
never text r fits h = (λ e. absurd (h e), λ long. absurd (omega arith))

pub answered : (text characters : List ℕ) (r : Result Query ParseFault) → length text ≤ 4096 → IsUtf8 text → characters ≡ chars text → Gives query_view r (query_at characters) → IsAnswer text r
answered text characters (Ok q) fits u e g =
    let h : query_at (chars text) ≡ Some (query_view q) = ap query_at (sym e) ∙ g in
    record {
      spelled = record { utf8 = u; spells = query_reads (chars text) (query_view q) h };
      one_tree = λ other s. same_some (query_at (chars text)) other (query_view q) (query_again (chars text) other s.spells) h;
      too_long = never text (Ok q) fits (λ k. absurd cc);
      not_well_formed = λ k. absurd cc;
    }
answered text characters (Err QueryTooLong) fits u e g = absurd g
answered text characters (Err NotWellFormed) fits u e g =
    let h : query_at (chars text) ≡ None = ap query_at (sym e) ∙ g in
    record {
      spelled = tt;
      one_tree = tt;
      too_long = never text (Err NotWellFormed) fits (λ k. absurd cc);
      not_well_formed = λ _ q s. not_none (query_at (chars text)) q (query_again (chars text) q s.spells) h;
    }
answered text characters (Err Memory) fits u e g =
    record { spelled = tt; one_tree = tt; too_long = never text (Err Memory) fits (λ k. absurd cc); not_well_formed = λ k. absurd cc }
