-- What may follow a part of an expression, and what no reader goes on into there.
use Rattle.std.proofs.Common.{◌≡◌, ℕ, Bool, true, false, ◌||◌, ◌==◌, [], ◌∷◌, ◌++◌, Option, Some, None, refl, ap, ◌∙◌, arith}
use Rattle.std.proofs.lemmas.Bool.Decides.{nat_tests}
use Rattle.path_grammar.specs.Characters.{Text, is_blank, is_function, Blanks}
use Rattle.path_grammar.specs.Reading.{is_name, after_run, behind}
use Rattle.path_grammar.specs.ReadingLiterals.{operator_at, operator_from}
use Rattle.path_grammar.specs.ReadingSegments.{begins_segment, at_segment, next_segment}
use Rattle.path_grammar.specs.ReadingFilters.{next_operand}
use Rattle.path_grammar.proofs.Again.{Stops, Starts, after_again, blanks_stop, stops_behind}
use Rattle.path_grammar.proofs.AgainNumbers.{in_number}

-- nothing, or a character of the class
abbrev pub Closes : (ℕ → Bool) → Text → Type 0
Closes p [] = Unit {0}
Closes p (c ∷ t) = p c ≡ true

-- blanks, and then nothing or a character of the class
pub record Followed (p : ℕ → Bool) (rest : Text) : Type 0 where
  pub blanks : Text
  pub tail : Text
  pub parts : rest ≡ blanks ++ tail
  pub are_blank : Blanks blanks
  pub closes : Closes p tail

-- what may follow a logical expression, an operand of `||`, an operand of `&&`, and a side
abbrev pub ends_or : ℕ → Bool
ends_or c = c == 0x2C || c == 0x29 || c == 0x5D

abbrev pub ends_and : ℕ → Bool
ends_and c = ends_or c || c == 0x7C

abbrev pub ends_basic : ℕ → Bool
ends_basic c = ends_and c || c == 0x26

abbrev pub begins_operator : ℕ → Bool
begins_operator c = c == 0x3D || c == 0x21 || c == 0x3C || c == 0x3E

abbrev pub ends_side : ℕ → Bool
ends_side c = ends_basic c || begins_operator c

pub closes_wider : (p q : ℕ → Bool) (t : Text) → ((c : ℕ) → p c ≡ true → q c ≡ true) → Closes p t → Closes q t
closes_wider p q [] h k = tt
closes_wider p q (c ∷ t) h k = h c k

closes_stops : (p q : ℕ → Bool) (t : Text) → ((c : ℕ) → p c ≡ true → q c ≡ false) → Closes p t → Stops q t
closes_stops p q [] h k = tt
closes_stops p q (c ∷ t) h k = h c k

pub starts_closes : (p : ℕ → Bool) (t : Text) → Starts p t → Closes p t
starts_closes p t s = rw s.is s.passes

abbrev pub wider : (p q : ℕ → Bool) (rest : Text) → ((c : ℕ) → p c ≡ true → q c ≡ true) → Followed p rest → Followed q rest
wider p q rest h f = record { blanks = f.blanks; tail = f.tail; parts = f.parts; are_blank = f.are_blank; closes = closes_wider p q f.tail h f.closes }

pub follows : (p : ℕ → Bool) (b t : Text) → Blanks b → Closes p t → Followed p (b ++ t)
follows p b t hb k = record { blanks = b; tail = t; parts = refl; are_blank = hb; closes = k }

pub nothing_follows : (p : ℕ → Bool) → Followed p []
nothing_follows p = record { blanks = []; tail = []; parts = refl; are_blank = refl; closes = tt }

-- ---- the classes, one in another

pub or_and : (c : ℕ) → ends_or c ≡ true → ends_and c ≡ true
or_and c e = rw e refl

pub and_basic : (c : ℕ) → ends_and c ≡ true → ends_basic c ≡ true
and_basic c e = rw e refl

pub basic_side : (c : ℕ) → ends_basic c ≡ true → ends_side c ≡ true
basic_side c e = rw e refl

pub operator_side : (c : ℕ) → begins_operator c ≡ true → ends_side c ≡ true
operator_side c e = grind (arith, nat_tests)

blank_side : (c : ℕ) → ends_side c ≡ true → is_blank c ≡ false
blank_side c e = grind (arith, nat_tests)

blank_basic : (c : ℕ) → ends_basic c ≡ true → is_blank c ≡ false
blank_basic c e = grind (arith, nat_tests)

-- ---- what stops

name_side : (c : ℕ) → ends_side c ≡ true → is_name c ≡ false
name_side c e = grind (arith, nat_tests)

name_blank : (c : ℕ) → is_blank c ≡ true → is_name c ≡ false
name_blank c e = grind (arith, nat_tests)

function_side : (c : ℕ) → ends_side c ≡ true → is_function c ≡ false
function_side c e = grind (arith, nat_tests)

function_blank : (c : ℕ) → is_blank c ≡ true → is_function c ≡ false
function_blank c e = grind (arith, nat_tests)

number_side : (c : ℕ) → ends_side c ≡ true → in_number c ≡ false
number_side c e = grind (arith, nat_tests)

number_blank : (c : ℕ) → is_blank c ≡ true → in_number c ≡ false
number_blank c e = grind (arith, nat_tests)

segment_side : (c : ℕ) → ends_side c ≡ true → begins_segment c ≡ false
segment_side c e = grind (arith, nat_tests)

parenthesis_side : (c : ℕ) → ends_side c ≡ true → (c == 0x28) ≡ false
parenthesis_side c e = grind (arith, nat_tests)

parenthesis_blank : (c : ℕ) → is_blank c ≡ true → (c == 0x28) ≡ false
parenthesis_blank c e = grind (arith, nat_tests)

stopped : (q : ℕ → Bool) (rest : Text) → ((c : ℕ) → is_blank c ≡ true → q c ≡ false) → ((c : ℕ) → ends_side c ≡ true → q c ≡ false) → Followed ends_side rest → Stops q rest
stopped q rest hb hs f = rw f.parts (blanks_stop q f.blanks f.tail hb f.are_blank (closes_stops ends_side q f.tail hs f.closes))

pub name_stops : (rest : Text) → Followed ends_side rest → Stops is_name rest
name_stops rest f = stopped is_name rest name_blank name_side f

pub function_stops : (rest : Text) → Followed ends_side rest → Stops is_function rest
function_stops rest f = stopped is_function rest function_blank function_side f

pub number_stops : (rest : Text) → Followed ends_side rest → Stops in_number rest
number_stops rest f = stopped in_number rest number_blank number_side f

pub no_parenthesis : (rest : Text) → Followed ends_side rest → behind 0x28 rest ≡ None
no_parenthesis rest f = stops_behind 0x28 rest (stopped (λ c. c == 0x28) rest parenthesis_blank parenthesis_side f)

-- ---- what no reader goes on into

pub tail_of : (rest : Text) (f : Followed ends_side rest) → after_run is_blank rest ≡ f.tail
tail_of rest f = ap (after_run is_blank) f.parts ∙ after_again is_blank f.blanks f.tail f.are_blank (closes_stops ends_side is_blank f.tail blank_side f.closes)

no_segment_at : (t : Text) → Closes ends_side t → at_segment t ≡ None
unfolding at_segment
no_segment_at [] k = refl
no_segment_at (c ∷ t) k = rw (segment_side c k) refl

pub no_segment : (rest : Text) → Followed ends_side rest → next_segment rest ≡ None
unfolding next_segment
no_segment rest f = rw (tail_of rest f) (no_segment_at f.tail f.closes)

operator_basic : (c k : ℕ) → ends_basic c ≡ true → begins_operator k ≡ true → (c == k) ≡ false
operator_basic c k e h = grind (arith, nat_tests)

no_operator_from : (c : ℕ) (t : Text) (k : Option Text) → ends_basic c ≡ true → operator_from c t k ≡ None
unfolding operator_from
no_operator_from c t (Some u) e = rw (operator_basic c 0x3D e refl, operator_basic c 0x21 e refl, operator_basic c 0x3C e refl, operator_basic c 0x3E e refl) refl
no_operator_from c t None e = rw (operator_basic c 0x3C e refl, operator_basic c 0x3E e refl) refl

no_operator_at : (t : Text) → Closes ends_basic t → operator_at t ≡ None
unfolding operator_at
no_operator_at [] k = refl
no_operator_at (c ∷ t) k = no_operator_from c t (behind 0x3D t) k

pub no_operator : (rest : Text) → Followed ends_basic rest → operator_at (after_run is_blank rest) ≡ None
no_operator rest f =
    let g = wider ends_basic ends_side rest basic_side f in
    rw (tail_of rest g) (no_operator_at f.tail f.closes)

bar_or : (c : ℕ) → ends_or c ≡ true → (c == 0x7C) ≡ false
bar_or c e = grind (arith, nat_tests)

and_sign : (c : ℕ) → ends_and c ≡ true → (c == 0x26) ≡ false
and_sign c e = grind (arith, nat_tests)

not_doubled : (k : ℕ) (rest tail : Text) → after_run is_blank rest ≡ tail → behind k tail ≡ None → next_operand k rest ≡ None
unfolding next_operand
not_doubled k rest tail a b = rw (a, b) refl

closes_behind : (p : ℕ → Bool) (k : ℕ) (t : Text) → ((c : ℕ) → p c ≡ true → (c == k) ≡ false) → Closes p t → behind k t ≡ None
closes_behind p k t h c = stops_behind k t (closes_stops p (λ x. x == k) t h c)

pub no_or : (rest : Text) → Followed ends_or rest → next_operand 0x7C rest ≡ None
no_or rest f =
    let g = wider ends_or ends_side rest (λ c e. basic_side c (and_basic c (or_and c e))) f in
    not_doubled 0x7C rest f.tail (tail_of rest g) (closes_behind ends_or 0x7C f.tail bar_or f.closes)

pub no_and : (rest : Text) → Followed ends_and rest → next_operand 0x26 rest ≡ None
no_and rest f =
    let g = wider ends_and ends_side rest (λ c e. basic_side c (and_basic c e)) f in
    not_doubled 0x26 rest f.tail (tail_of rest g) (closes_behind ends_and 0x26 f.tail and_sign f.closes)
