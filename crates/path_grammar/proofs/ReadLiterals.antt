-- Literals and operators that are read are spelled so.
use Rattle.std.proofs.Common.{◌≡◌, ℕ, true, false, ◌||◌, ◌==◌, [], ◌∷◌, ◌++◌, codes, Option, Some, None, bytes_eq, refl, sym, ap, subst, ◌∙◌, inl, inr}
use Rattle.std.proofs.lemmas.Bool.{eqb-true}
use Rattle.std.proofs.lemmas.Slice.Eq.{bytes_eq-Decides}
use Rattle.path_grammar.specs.Tree as tree
use Rattle.path_grammar.specs.Characters.{Text, is_lower, is_function}
use Rattle.path_grammar.specs.Strings.{StringLiteral}
use Rattle.path_grammar.specs.Grammar.{Literal, number_literal, string_literal, true_literal, false_literal, null_literal, Operator, eq, ne, le, ge, lt, gt}
use Rattle.path_grammar.specs.Reading.{front_run, after_run, behind}
use Rattle.path_grammar.specs.ReadingNumbers.{number_end, before}
use Rattle.path_grammar.specs.ReadingStrings.{string_at}
use Rattle.path_grammar.specs.ReadingLiterals.{keyword_of, keyword_at, number_at, text_at, literal_at, operator_from, operator_at}
use Rattle.path_grammar.specs.declared.ast.Op.{Op}
use Rattle.path_grammar.specs.declared.ast.Op.TheVariants as ops
use Rattle.path_grammar.proofs.Read.{found, pair, same_pair, some_is, bind_some, chosen, guarded, picked, behind_reads, run_parts, Reads, ReadsOne, reads_mapped}
use Rattle.path_grammar.proofs.ReadNumbers.{before_is, number_end_reads}
use Rattle.path_grammar.proofs.ReadStrings.{string_reads}

word_is : (w k : Text) (l x : tree.Literal) → bytes_eq w k ≡ true → Literal k l → l ≡ x → Literal w x
word_is w k l x h p e = subst (λ (y : tree.Literal). Literal w y) e (subst (λ (v : Text). Literal v l) (sym ((bytes_eq-Decides w k).0 h)) p)

keyword_reads : (w : Text) (l : tree.Literal) → keyword_of w ≡ Some l → Literal w l
unfolding keyword_of
keyword_reads w l e = elim (chosen (bytes_eq w (codes "true")) _ _ _ e) [
  | inl h ↦ word_is w (codes "true") (tree.boolean true) l h.0 true_literal (some_is (tree.boolean true) l h.1)
  | inr h ↦ elim (chosen (bytes_eq w (codes "false")) _ _ _ h.1) [
    | inl k ↦ word_is w (codes "false") (tree.boolean false) l k.0 false_literal (some_is (tree.boolean false) l k.1)
    | inr k ↦ (
        let g = guarded (bytes_eq w (codes "null")) (Some tree.null) l k.1 in
        word_is w (codes "null") tree.null l g.0 null_literal (some_is tree.null l g.1))
  ]
]

keyword_at_reads : ReadsOne keyword_at Literal
unfolding keyword_at
keyword_at_reads t rest l e =
    let b = bind_some (keyword_of (front_run is_function t)) (λ x. found x (after_run is_function t)) (pair l rest) e in
    let p = same_pair (b.0) l (after_run is_function t) rest b.2 in
    record {
      front = front_run is_function t;
      parts = run_parts is_function t ∙ ap (λ (u : Text). front_run is_function t ++ u) p.1;
      is = subst (λ (x : tree.Literal). Literal (front_run is_function t) x) p.0 (keyword_reads (front_run is_function t) (b.0) b.1);
    }

number_reads : ReadsOne number_at Literal
unfolding number_at
number_reads t rest l e =
    let b = bind_some (number_end t) (λ r. found (tree.number (before t r)) r) (pair l rest) e in
    let p = same_pair (tree.number (before t (b.0))) l (b.0) rest b.2 in
    let r = number_end_reads t (b.0) b.1 in
    let k : before t (b.0) ≡ r.front = before_is t r.front (b.0) r.parts in
    record {
      front = r.front;
      parts = r.parts ∙ ap (λ (u : Text). r.front ++ u) p.1;
      is = subst (λ (x : tree.Literal). Literal r.front x) (ap (λ (u : Text). tree.number u) (sym k) ∙ p.0) (number_literal r.is);
    }

text_reads : ReadsOne text_at Literal
unfolding text_at
text_reads t rest l e = reads_mapped StringLiteral Literal tree.text string_at t rest l string_reads (λ u cs p. string_literal p) e

pub literal_reads : ReadsOne literal_at Literal
unfolding literal_at
literal_reads [] rest l e = absurd cc
literal_reads (c ∷ t) rest l e = elim (chosen (c == 0x22 || c == 0x27) _ _ _ e) [
  | inl h ↦ text_reads (c ∷ t) rest l h.1
  | inr h ↦ elim (chosen (is_lower c) _ _ _ h.1) [
    | inl k ↦ keyword_at_reads (c ∷ t) rest l k.1
    | inr k ↦ number_reads (c ∷ t) rest l k.1
  ]
]

-- ---- operators

two_signs : (c k : ℕ) (t u rest : Text) (o x : Op) → c ≡ k → t ≡ 0x3D ∷ u → o ≡ x → u ≡ rest → Operator (k ∷ 0x3D ∷ []) o → Reads Operator (c ∷ t) x rest
two_signs c k t u rest o x e f g h p = record { front = k ∷ 0x3D ∷ []; parts = rw (e, f, h) refl; is = subst (λ y. Operator (k ∷ 0x3D ∷ []) y) g p }

one_sign : (c k : ℕ) (t rest : Text) (o x : Op) → c ≡ k → o ≡ x → t ≡ rest → Operator (k ∷ []) o → Reads Operator (c ∷ t) x rest
one_sign c k t rest o x e g h p = record { front = k ∷ []; parts = rw (e, h) refl; is = subst (λ y. Operator (k ∷ []) y) g p }

operator_from_reads : (c : ℕ) (t rest : Text) (op : Op) (k : Option Text) → behind 0x3D t ≡ k → operator_from c t k ≡ found op rest → Reads Operator (c ∷ t) op rest
unfolding operator_from
operator_from_reads c t rest op (Some u) b e =
    let w = behind_reads 0x3D t u b in
    elim (picked (c == 0x3D) _ _ _ _ _ e) [
      | inl h ↦ two_signs c 0x3D t u rest ops.Eq op (eqb-true c 0x3D h.0) w h.1.0 h.1.1 eq
      | inr h ↦ elim (picked (c == 0x21) _ _ _ _ _ h.1) [
        | inl h ↦ two_signs c 0x21 t u rest ops.Ne op (eqb-true c 0x21 h.0) w h.1.0 h.1.1 ne
        | inr h ↦ elim (picked (c == 0x3C) _ _ _ _ _ h.1) [
          | inl h ↦ two_signs c 0x3C t u rest ops.Le op (eqb-true c 0x3C h.0) w h.1.0 h.1.1 le
          | inr h ↦ (
              let g = guarded (c == 0x3E) (found ops.Ge u) (pair op rest) h.1 in
              let p = same_pair ops.Ge op u rest g.1 in
              two_signs c 0x3E t u rest ops.Ge op (eqb-true c 0x3E g.0) w p.0 p.1 ge)
        ]
      ]
    ]
operator_from_reads c t rest op None b e =
    elim (picked (c == 0x3C) _ _ _ _ _ e) [
      | inl h ↦ one_sign c 0x3C t rest ops.Lt op (eqb-true c 0x3C h.0) h.1.0 h.1.1 lt
      | inr h ↦ (
          let g = guarded (c == 0x3E) (found ops.Gt t) (pair op rest) h.1 in
          let p = same_pair ops.Gt op t rest g.1 in
          one_sign c 0x3E t rest ops.Gt op (eqb-true c 0x3E g.0) p.0 p.1 gt)
    ]

pub operator_reads : ReadsOne operator_at Operator
unfolding operator_at
operator_reads [] rest op e = absurd cc
operator_reads (c ∷ t) rest op e = operator_from_reads c t rest op (behind 0x3D t) refl e
