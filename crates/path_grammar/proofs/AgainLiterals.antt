-- Literals and operators that are spelled are read again, whatever follows them that may follow.
use Rattle.std.proofs.Common.{◌≡◌, ℕ, Bool, true, false, ◌||◌, ◌==◌, List, [], ◌∷◌, ◌++◌, Option, Some, None, refl, ap, ◌∙◌, arith}
use Rattle.std.proofs.lemmas.Bool.Decides.{nat_tests}
use Rattle.std.specs.List.{list_all}
use Rattle.path_grammar.specs.Tree as tree
use Rattle.path_grammar.specs.Characters.{Text, is_blank, is_lower, is_function}
use Rattle.path_grammar.specs.Numbers.{Number}
use Rattle.path_grammar.specs.Grammar.{Literal, number_literal, string_literal, true_literal, false_literal, null_literal, Operator, eq, ne, le, ge, lt, gt}
use Rattle.path_grammar.specs.Reading.{front_run, after_run, behind}
use Rattle.path_grammar.specs.ReadingNumbers.{begins_int, before}
use Rattle.path_grammar.specs.ReadingStrings.{string_at}
use Rattle.path_grammar.specs.ReadingLiterals.{keyword_of, keyword_at, number_at, text_at, literal_at, operator_from, operator_at}
use Rattle.path_grammar.specs.ReadingSegments.{begins_query}
use Rattle.path_grammar.specs.ReadingFilters.{opens_call}
use Rattle.path_grammar.specs.declared.ast.Op.{Op}
use Rattle.path_grammar.proofs.Read.{found}
use Rattle.path_grammar.proofs.ReadNumbers.{before_is}
use Rattle.path_grammar.proofs.Again.{Stops, Starts, front_again, after_again, starts_wider, behind_same, stops_behind, two_tests, cond_none, bind_none}
use Rattle.path_grammar.proofs.AgainNumbers.{number_end_again, number_starts}
use Rattle.path_grammar.proofs.AgainStrings.{string_again, string_starts}
use Rattle.path_grammar.proofs.Followed.{Followed, ends_side, begins_operator, function_stops, number_stops, no_parenthesis}

-- ---- numbers and strings

abbrev pub is_quote : ℕ → Bool
is_quote c = c == 0x22 || c == 0x27

quote_int : (c : ℕ) → begins_int c ≡ true → is_quote c ≡ false
quote_int c e = grind (arith, nat_tests)

lower_int : (c : ℕ) → begins_int c ≡ true → is_lower c ≡ false
lower_int c e = grind (arith, nat_tests)

number_found : (t rest : Text) → Number t → Followed ends_side rest → number_at (t ++ rest) ≡ found (tree.number t) rest
unfolding number_at
number_found t rest p f =
    let b : before (t ++ rest) rest ≡ t = before_is (t ++ rest) t rest refl in
    rw (number_end_again t rest p (number_stops rest f), b) refl

by_number : (t u : Text) (o : Option (tree.Literal × Text)) → Starts begins_int t → number_at (t ++ u) ≡ o → literal_at (t ++ u) ≡ o
unfolding literal_at
by_number t u o h e =
    let k : t ++ u ≡ h.head ∷ h.tail ++ u = rw h.is refl in
    let d : number_at (h.head ∷ h.tail ++ u) ≡ o = rw k at e in
    rw (k, quote_int h.head h.passes, lower_int h.head h.passes) d

by_quote : (t u : Text) (cs : List ℕ) → Starts is_quote t → string_at (t ++ u) ≡ found cs u → literal_at (t ++ u) ≡ found (tree.text cs) u
unfolding literal_at text_at
by_quote t u cs h e =
    let k : t ++ u ≡ h.head ∷ h.tail ++ u = rw h.is refl in
    let d : string_at (h.head ∷ h.tail ++ u) ≡ found cs u = rw k at e in
    rw (k, h.passes, d) refl

-- ---- words

keyword_found : (t w rest : Text) (l : tree.Literal) → front_run is_function t ≡ w → after_run is_function t ≡ rest → keyword_of w ≡ Some l → keyword_at t ≡ found l rest
unfolding keyword_at
keyword_found t w rest l p r k = rw (p, r, k) refl

word_found : (c : ℕ) (w rest : Text) (l : tree.Literal) → is_quote c ≡ false → is_lower c ≡ true → list_all is_function (c ∷ w) ≡ true → keyword_of (c ∷ w) ≡ Some l → Followed ends_side rest → literal_at (c ∷ w ++ rest) ≡ found l rest
unfolding literal_at
word_found c w rest l q h a k f =
    let s = function_stops rest f in
    let front : front_run is_function (c ∷ w ++ rest) ≡ c ∷ w = front_again is_function (c ∷ w) rest a s in
    let after : after_run is_function (c ∷ w ++ rest) ≡ rest = after_again is_function (c ∷ w) rest a s in
    two_tests (is_quote c) (is_lower c) _ _ _ q h ∙ keyword_found (c ∷ w ++ rest) (c ∷ w) rest l front after k

true_is : keyword_of (0x74 ∷ 0x72 ∷ 0x75 ∷ 0x65 ∷ []) ≡ Some (tree.boolean true)
unfolding keyword_of
true_is = refl

false_is : keyword_of (0x66 ∷ 0x61 ∷ 0x6C ∷ 0x73 ∷ 0x65 ∷ []) ≡ Some (tree.boolean false)
unfolding keyword_of
false_is = refl

null_is : keyword_of (0x6E ∷ 0x75 ∷ 0x6C ∷ 0x6C ∷ []) ≡ Some tree.null
unfolding keyword_of
null_is = refl

pub literal_again : (t rest : Text) (l : tree.Literal) → Literal t l → Followed ends_side rest → literal_at (t ++ rest) ≡ found l rest
literal_again t rest _ (number_literal p) f = by_number t rest (found (tree.number t) rest) (number_starts t p) (number_found t rest p f)
literal_again t rest _ (string_literal {cs = cs} p) f = by_quote t rest cs (string_starts t cs p) (string_again t rest cs p)
literal_again _ rest _ true_literal f = word_found 0x74 (0x72 ∷ 0x75 ∷ 0x65 ∷ []) rest (tree.boolean true) refl refl refl true_is f
literal_again _ rest _ false_literal f = word_found 0x66 (0x61 ∷ 0x6C ∷ 0x73 ∷ 0x65 ∷ []) rest (tree.boolean false) refl refl refl false_is f
literal_again _ rest _ null_literal f = word_found 0x6E (0x75 ∷ 0x6C ∷ 0x6C ∷ []) rest tree.null refl refl refl null_is f

-- ---- where a literal begins

abbrev pub begins_literal : ℕ → Bool
begins_literal c = is_quote c || is_lower c || begins_int c

quote_literal : (c : ℕ) → is_quote c ≡ true → begins_literal c ≡ true
quote_literal c e = grind (arith, nat_tests)

int_literal : (c : ℕ) → begins_int c ≡ true → begins_literal c ≡ true
int_literal c e = grind (arith, nat_tests)

pub literal_starts : (t : Text) (l : tree.Literal) → Literal t l → Starts begins_literal t
literal_starts t _ (number_literal p) = starts_wider begins_int begins_literal t int_literal (number_starts t p)
literal_starts t _ (string_literal {cs = cs} p) = starts_wider is_quote begins_literal t quote_literal (string_starts t cs p)
literal_starts _ _ true_literal = record { head = 0x74; tail = 0x72 ∷ 0x75 ∷ 0x65 ∷ []; is = refl; passes = refl }
literal_starts _ _ false_literal = record { head = 0x66; tail = 0x61 ∷ 0x6C ∷ 0x73 ∷ 0x65 ∷ []; is = refl; passes = refl }
literal_starts _ _ null_literal = record { head = 0x6E; tail = 0x75 ∷ 0x6C ∷ 0x6C ∷ []; is = refl; passes = refl }

-- ---- no call begins where a literal does

no_lower : (t u : Text) → Starts (λ c. is_quote c || begins_int c) t → opens_call (t ++ u) ≡ None
unfolding opens_call
no_lower t u h =
    let k : t ++ u ≡ h.head ∷ h.tail ++ u = rw h.is refl in
    rw (k, not_lower h.head h.passes) refl
  where
    not_lower : (c : ℕ) → (is_quote c || begins_int c) ≡ true → is_lower c ≡ false
    not_lower c e = grind (arith, nat_tests)

no_call_word : (c : ℕ) (w rest : Text) → is_lower c ≡ true → list_all is_function (c ∷ w) ≡ true → Followed ends_side rest → opens_call (c ∷ w ++ rest) ≡ None
unfolding opens_call
no_call_word c w rest h a f =
    let after : after_run is_function (c ∷ w ++ rest) ≡ rest = after_again is_function (c ∷ w) rest a (function_stops rest f) in
    let none : behind 0x28 (after_run is_function (c ∷ w ++ rest)) ≡ None = ap (behind 0x28) after ∙ no_parenthesis rest f in
    cond_none (is_lower c) _ (bind_none (behind 0x28 (after_run is_function (c ∷ w ++ rest))) _ none)

pub no_call : (t rest : Text) (l : tree.Literal) → Literal t l → Followed ends_side rest → opens_call (t ++ rest) ≡ None
no_call t rest _ (number_literal p) f = no_lower t rest (starts_wider begins_int (λ c. is_quote c || begins_int c) t (λ c e. grind (arith, nat_tests)) (number_starts t p))
no_call t rest _ (string_literal {cs = cs} p) f = no_lower t rest (starts_wider is_quote (λ c. is_quote c || begins_int c) t (λ c e. grind (arith, nat_tests)) (string_starts t cs p))
no_call _ rest _ true_literal f = no_call_word 0x74 (0x72 ∷ 0x75 ∷ 0x65 ∷ []) rest refl refl f
no_call _ rest _ false_literal f = no_call_word 0x66 (0x61 ∷ 0x6C ∷ 0x73 ∷ 0x65 ∷ []) rest refl refl f
no_call _ rest _ null_literal f = no_call_word 0x6E (0x75 ∷ 0x6C ∷ 0x6C ∷ []) rest refl refl f

-- ---- operators

with_equals : (c : ℕ) (rest : Text) (o : Option (Op × Text)) → operator_from c (0x3D ∷ rest) (Some rest) ≡ o → operator_at (c ∷ 0x3D ∷ rest) ≡ o
unfolding operator_at
with_equals c rest o e = rw (behind_same 0x3D rest refl) e

without_equals : (c : ℕ) (rest : Text) (o : Option (Op × Text)) → Stops (λ x. x == 0x3D) rest → operator_from c rest None ≡ o → operator_at (c ∷ rest) ≡ o
unfolding operator_at
without_equals c rest o s e = rw (stops_behind 0x3D rest s) e

pub operator_again : (t rest : Text) (op : Op) → Operator t op → Stops (λ c. c == 0x3D) rest → operator_at (t ++ rest) ≡ found op rest
unfolding operator_from
operator_again _ rest op eq s = with_equals 0x3D rest (found op rest) refl
operator_again _ rest op ne s = with_equals 0x21 rest (found op rest) refl
operator_again _ rest op le s = with_equals 0x3C rest (found op rest) refl
operator_again _ rest op ge s = with_equals 0x3E rest (found op rest) refl
operator_again _ rest op lt s = without_equals 0x3C rest (found op rest) s refl
operator_again _ rest op gt s = without_equals 0x3E rest (found op rest) s refl

pub operator_starts : (t : Text) (op : Op) → Operator t op → Starts begins_operator t
operator_starts _ _ eq = record { head = 0x3D; tail = 0x3D ∷ []; is = refl; passes = refl }
operator_starts _ _ ne = record { head = 0x21; tail = 0x3D ∷ []; is = refl; passes = refl }
operator_starts _ _ le = record { head = 0x3C; tail = 0x3D ∷ []; is = refl; passes = refl }
operator_starts _ _ ge = record { head = 0x3E; tail = 0x3D ∷ []; is = refl; passes = refl }
operator_starts _ _ lt = record { head = 0x3C; tail = []; is = refl; passes = refl }
operator_starts _ _ gt = record { head = 0x3E; tail = []; is = refl; passes = refl }

-- ---- where an expression begins

abbrev pub begins_expression : ℕ → Bool
begins_expression c = c == 0x21 || c == 0x28 || begins_query c || begins_literal c

pub blank_expression : (c : ℕ) → begins_expression c ≡ true → is_blank c ≡ false
blank_expression c e = grind (arith, nat_tests)
