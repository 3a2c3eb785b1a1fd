-- The parts that are read are those of the text, and a text with parts is read.
use Rattle.std.proofs.Common.{zero, suc, ◌<◌, length, get_or, take, drop, ◌≡◌, ◌≢◌, ℕ, ◌≤◌, Bool, true, false, cond, ◌||◌, eqb, List, [], ◌∷◌, ◌++◌, Option, Some, None, ◌⊎◌, inl, inr, ⊎_elim, refl, sym, ap, ◌∙◌, subst, arith, append-nil, length-append, ◌+◌}
use Rattle.std.proofs.lemmas.Bool.Decides.{nat_tests}
use Rattle.std.proofs.lemmas.Bool.{false≢true, cases_eq, eqb-true, eqb-false}
use Rattle.std.proofs.Math.Seq.{take-nil, drop-nil}
use Rattle.decimal_order.specs.Number.{IsDigit, AreDigits, IsInt}
use Rattle.decimal_order.specs.Parts.{Parts, HasParts, MinusIs, FracIs, SignIs, ExpIs}
use Rattle.std.specs.Char.{is_ascii_digit}
use Rattle.decimal_order.specs.Value.{is_negative}
use Rattle.decimal_order.specs.Reading.{front, after, past_minus, past_sign, is_int, all_digits, some_digits, read_frac, with_sign, read_exp, with_exp, with_frac, read}

pub same_some : {A : Type 0} {x y : A} → ◌≡◌ {A = Option A} (Some x) (Some y) → x ≡ y
same_some e = cc

-- ---- digits

pub digit-true : (b : ℕ) → IsDigit b → is_ascii_digit b ≡ true
digit-true b h = grind (arith, nat_tests)

pub digit-out : (b : ℕ) → is_ascii_digit b ≡ true → IsDigit b
digit-out b h = (grind (arith, nat_tests), grind (arith, nat_tests))

pub front_after : (bs : List ℕ) → bs ≡ front bs ++ after bs
front_after [] = refl
front_after (b ∷ bs) = elim (is_ascii_digit b) as (λ t. b ∷ bs ≡ cond t (b ∷ front bs) [] ++ cond t (after bs) (b ∷ bs)) [ true ↦ ap (λ l. b ∷ l) (front_after bs) | false ↦ refl ]

digits_cons : (b : ℕ) (ds : List ℕ) (t : Bool) → is_ascii_digit b ≡ t → AreDigits ds → AreDigits (cond t (b ∷ ds) [])
digits_cons b ds true e h = (digit-out b e, h)
digits_cons b ds false e h = tt

pub front_digits : (bs : List ℕ) → AreDigits (front bs)
front_digits [] = tt
front_digits (b ∷ bs) = digits_cons b (front bs) (is_ascii_digit b) refl (front_digits bs)

-- no digit in front
abbrev pub NoDigitFirst : List ℕ → Type 0
NoDigitFirst [] = Unit {0}
NoDigitFirst (b ∷ bs) = is_ascii_digit b ≡ false

pub front_is : (ds rest : List ℕ) → AreDigits ds → NoDigitFirst rest → front (ds ++ rest) ≡ ds
front_is [] [] h n = refl
front_is [] (b ∷ rest) h n = rw n refl
front_is (d ∷ ds) rest h n = rw (digit-true d h.0) (ap (λ l. d ∷ l) (front_is ds rest h.1 n))

pub after_is : (ds rest : List ℕ) → AreDigits ds → NoDigitFirst rest → after (ds ++ rest) ≡ rest
after_is [] [] h n = refl
after_is [] (b ∷ rest) h n = rw n refl
after_is (d ∷ ds) rest h n = rw (digit-true d h.0) (after_is ds rest h.1 n)

-- where the digits in front end
pub front_at : (xs : List ℕ) (i : ℕ) → i ≤ length xs → ((k : ℕ) → k < i → is_ascii_digit (get_or xs k 0) ≡ true) → (i < length xs → is_ascii_digit (get_or xs i 0) ≡ false) → front xs ≡ take i xs
front_at [] i l h s = sym (take-nil i)
front_at (x ∷ xs) zero l h s = rw (s (omega arith)) refl
front_at (x ∷ xs) (suc i) l h s = rw (h 0 (omega arith)) (ap (λ l. x ∷ l) (front_at xs i (omega arith) (λ k g. h (suc k) (omega arith)) (λ g. s (omega arith))))

pub after_at : (xs : List ℕ) (i : ℕ) → i ≤ length xs → ((k : ℕ) → k < i → is_ascii_digit (get_or xs k 0) ≡ true) → (i < length xs → is_ascii_digit (get_or xs i 0) ≡ false) → after xs ≡ drop i xs
after_at [] i l h s = sym (drop-nil i)
after_at (x ∷ xs) zero l h s = rw (s (omega arith)) refl
after_at (x ∷ xs) (suc i) l h s = rw (h 0 (omega arith)) (after_at xs i (omega arith) (λ k g. h (suc k) (omega arith)) (λ g. s (omega arith)))

-- ---- what is read is a number

pub record Front (text : List ℕ) (IsPart : List ℕ → Type 0) (rest : List ℕ) : Type 0 where
  pub part : List ℕ
  pub is_part : IsPart part
  pub whole : text ≡ part ++ rest

minus_front : (text : List ℕ) → Front text (λ m. MinusIs m (is_negative text)) (past_minus text)
minus_front [] = record { part = []; is_part = refl; whole = refl }
minus_front (b ∷ bs) = at_b (eqb b 45) refl
  where
    at_b : (t : Bool) → eqb b 45 ≡ t → Front (b ∷ bs) (λ m. MinusIs m t) (cond t bs (b ∷ bs))
    at_b true e = record { part = 45 ∷ []; is_part = refl; whole = ap (λ x. x ∷ bs) (eqb-true b 45 e) }
    at_b false e = record { part = []; is_part = refl; whole = refl }

int_out : (ds : List ℕ) → AreDigits ds → is_int ds ≡ true → IsInt ds
int_out [] h e = absurd (false≢true e)
int_out (b ∷ []) h e = ⊎_elim (λ z. inl (z, refl)) (λ z. inr (omega arith, omega arith, tt)) (cases_eq b 48)
int_out (b ∷ c ∷ cs) h e = go (eqb b 48) refl e
  where
    go : (t : Bool) → eqb b 48 ≡ t → cond t false true ≡ true → IsInt (b ∷ c ∷ cs)
    go true x y = absurd (false≢true y)
    go false x y = let n : b ≢ 48 = eqb-false b 48 x in inr (omega arith, omega arith, h.1)

digits_front : (ds rest : List ℕ) (p : List ℕ × List ℕ) → AreDigits ds → some_digits ds rest ≡ Some p → Front (46 ∷ (ds ++ rest)) (λ f. FracIs f p.0) p.1
digits_front [] rest p h e = absurd (cc)
digits_front (d ∷ ds) rest p h e =
    subst (λ (q : List ℕ × List ℕ). Front (46 ∷ (d ∷ ds ++ rest)) (λ f. FracIs f q.0) q.1) (same_some e)
    (record { part = 46 ∷ d ∷ ds; is_part = (h, refl); whole = refl })

frac_front : (bs : List ℕ) (p : List ℕ × List ℕ) → read_frac bs ≡ Some p → Front bs (λ f. FracIs f p.0) p.1
frac_front [] p e = subst (λ (q : List ℕ × List ℕ). Front [] (λ f. FracIs f q.0) q.1) (same_some e) (record { part = []; is_part = refl; whole = refl })
frac_front (b ∷ bs) p e = go (eqb b 46) refl e
  where
    go : (t : Bool) → eqb b 46 ≡ t → cond t (some_digits (front bs) (after bs)) (Some ([], b ∷ bs)) ≡ Some p → Front (b ∷ bs) (λ f. FracIs f p.0) p.1
    go true x y = rw (eqb-true b 46 x, front_after bs) (digits_front (front bs) (after bs) p (front_digits bs) y)
    go false x y = subst (λ (q : List ℕ × List ℕ). Front (b ∷ bs) (λ f. FracIs f q.0) q.1) (same_some y) (record { part = []; is_part = refl; whole = refl })

sign_front : (bs : List ℕ) → Front bs (λ s. SignIs s (is_negative bs)) (past_sign bs)
sign_front [] = record { part = []; is_part = inl refl; whole = refl }
sign_front (b ∷ bs) = minus_at (eqb b 45) refl
  where
    plus_at : (t : Bool) → eqb b 43 ≡ t → Front (b ∷ bs) (λ s. SignIs s false) (cond t bs (b ∷ bs))
    plus_at true e = record { part = 43 ∷ []; is_part = inr refl; whole = ap (λ x. x ∷ bs) (eqb-true b 43 e) }
    plus_at false e = record { part = []; is_part = inl refl; whole = refl }

    minus_at : (t : Bool) → eqb b 45 ≡ t → Front (b ∷ bs) (λ s. SignIs s t) (cond (t || eqb b 43) bs (b ∷ bs))
    minus_at true e = record { part = 45 ∷ []; is_part = refl; whole = ap (λ x. x ∷ bs) (eqb-true b 45 e) }
    minus_at false e = plus_at (eqb b 43) refl

exp_whole : (e : ℕ) (sign : List ℕ) (falls : Bool) (ds rest : List ℕ) (p : Bool × List ℕ) → (e ≡ 101) ⊎ (e ≡ 69) → SignIs sign falls → AreDigits ds → with_sign falls (all_digits ds rest) ≡ Some p → ExpIs (e ∷ (sign ++ (ds ++ rest))) p.0 p.1
exp_whole e sign falls [] rest p h s d y = absurd (cc)
exp_whole e sign falls (d ∷ ds) (b ∷ bs) p h s k y = absurd (cc)
exp_whole e sign falls (d ∷ ds) [] p h s k y =
    subst (λ (q : Bool × List ℕ). ExpIs (e ∷ (sign ++ (d ∷ ds ++ []))) q.0 q.1) (same_some y) (e, sign, h, s, k, rw append-nil refl)

e_out : (b : ℕ) → (eqb b 101 || eqb b 69) ≡ true → (b ≡ 101) ⊎ (b ≡ 69)
e_out b h = go (eqb b 101) refl h
  where
    go : (t : Bool) → eqb b 101 ≡ t → (t || eqb b 69) ≡ true → (b ≡ 101) ⊎ (b ≡ 69)
    go true e x = inl (eqb-true b 101 e)
    go false e x = inr (eqb-true b 69 x)

exp_out : (bs : List ℕ) (p : Bool × List ℕ) → read_exp bs ≡ Some p → ExpIs bs p.0 p.1
exp_out [] p e = subst (λ (q : Bool × List ℕ). ExpIs [] q.0 q.1) (same_some e) (refl, refl)
exp_out (b ∷ bs) p e = go (eqb b 101 || eqb b 69) refl e
  where
    go : (t : Bool) → (eqb b 101 || eqb b 69) ≡ t → cond t (with_sign (is_negative bs) (all_digits (front (past_sign bs)) (after (past_sign bs)))) None ≡ Some p → ExpIs (b ∷ bs) p.0 p.1
    go false x y = absurd (cc)
    go true x y =
        let s = sign_front bs in
        let w : bs ≡ s.part ++ (front (past_sign bs) ++ after (past_sign bs)) = s.whole ∙ ap (λ l. s.part ++ l) (front_after (past_sign bs)) in
        let h = exp_whole b s.part (is_negative bs) (front (past_sign bs)) (after (past_sign bs)) p (e_out b x) s.is_part (front_digits (past_sign bs)) y in
        subst (λ l. ExpIs (b ∷ l) p.0 p.1) (sym w) h

of_exp : (negative : Bool) (int frac : List ℕ) (o : Option (Bool × List ℕ)) (n : Parts) → with_exp negative int frac o ≡ Some n → (p : Bool × List ℕ) × (o ≡ Some p) × (n ≡ record { negative = negative; int = int; frac = frac; exponent_negative = p.0; exponent = p.1 })
of_exp negative int frac None n e = absurd (cc)
of_exp negative int frac (Some p) n e = (p, refl, sym (same_some e))

of_frac : (negative : Bool) (int : List ℕ) (o : Option (List ℕ × List ℕ)) (n : Parts) → with_frac negative int o ≡ Some n → (p : List ℕ × List ℕ) × (o ≡ Some p) × (with_exp negative int p.0 (read_exp p.1) ≡ Some n)
of_frac negative int None n e = absurd (cc)
of_frac negative int (Some p) n e = (p, refl, e)

pub read_sound : (text : List ℕ) (n : Parts) → read text ≡ Some n → HasParts text n
unfolding read
read_sound text n e = go (is_int (front (past_minus text))) refl e
  where
    go : (t : Bool) → is_int (front (past_minus text)) ≡ t → cond t (with_frac (is_negative text) (front (past_minus text)) (read_frac (after (past_minus text)))) None ≡ Some n → HasParts text n
    go false x y = absurd (cc)
    go true x y =
        let m = minus_front text in
        let f = of_frac (is_negative text) (front (past_minus text)) (read_frac (after (past_minus text))) n y in
        let g = of_exp (is_negative text) (front (past_minus text)) f.0.0 (read_exp f.0.1) n f.2 in
        let k = frac_front (after (past_minus text)) f.0 f.1 in
        let i = int_out (front (past_minus text)) (front_digits (past_minus text)) x in
        let w : text ≡ m.part ++ (front (past_minus text) ++ (k.part ++ f.0.1)) = m.whole ∙ ap (λ l. m.part ++ l) (front_after (past_minus text) ∙ ap (λ l. front (past_minus text) ++ l) k.whole) in
        subst (HasParts text) (sym g.2) (record { minus = m.part; frac = k.part; exp = f.0.1; is_minus = m.is_part; is_int = i; is_frac = k.is_part; is_exp = exp_out f.0.1 g.0 g.1; whole = w })

-- ---- what is a number is read

-- what may follow an int and a frac: no digit and no point
abbrev FollowsFrac : List ℕ → Type 0
FollowsFrac [] = Unit {0}
FollowsFrac (b ∷ bs) = (is_ascii_digit b ≡ false) × (eqb b 46 ≡ false)

follows_digits : (bs : List ℕ) → FollowsFrac bs → NoDigitFirst bs
follows_digits [] h = tt
follows_digits (b ∷ bs) h = h.0

pub e_tests : (b : ℕ) → (b ≡ 101) ⊎ (b ≡ 69) → ((eqb b 101 || eqb b 69) ≡ true) × (is_ascii_digit b ≡ false) × (eqb b 46 ≡ false)
e_tests b h = ⊎_elim (λ e. rw e (refl, refl, refl)) (λ e. rw e (refl, refl, refl)) h

sign_digit : (d : ℕ) → IsDigit d → (eqb d 45 ≡ false) × (eqb d 43 ≡ false)
sign_digit d h = (grind (arith, nat_tests), grind (arith, nat_tests))

pub sign_is : (s : List ℕ) (falls : Bool) (d : ℕ) (ds : List ℕ) → SignIs s falls → IsDigit d → (is_negative (s ++ d ∷ ds) ≡ falls) × (past_sign (s ++ d ∷ ds) ≡ d ∷ ds)
sign_is s true d ds h k = rw h (refl, refl)
sign_is s false d ds h k = ⊎_elim (λ e. let t = sign_digit d k in rw e (t.0, rw (t.0, t.1) refl)) (λ e. rw e (refl, refl)) h

exp_follows : (bytes : List ℕ) (falls : Bool) (ds : List ℕ) → ExpIs bytes falls ds → FollowsFrac bytes
exp_follows bytes falls [] h = rw h.0 tt
exp_follows bytes falls (d ∷ ds) h = let t = e_tests h.0 h.2 in rw h.5 (t.1, t.2)

exp_reads : (e : ℕ) (bs : List ℕ) (falls : Bool) (ds : List ℕ) → (eqb e 101 || eqb e 69) ≡ true → is_negative bs ≡ falls → past_sign bs ≡ ds → front ds ≡ ds → after ds ≡ [] → all_digits ds [] ≡ Some ds → read_exp (e ∷ bs) ≡ Some (falls, ds)
exp_reads e bs falls ds t m p f a k = rw (t, m, p, f, a, k) refl

exp_in : (bytes : List ℕ) (falls : Bool) (ds : List ℕ) → ExpIs bytes falls ds → read_exp bytes ≡ Some (falls, ds)
exp_in bytes falls [] h = rw (h.0, h.1) refl
exp_in bytes falls (d ∷ ds) h =
    let t = e_tests h.0 h.2 in
    let s = sign_is h.1 falls d ds h.3 h.4.0 in
    let a : front (d ∷ ds) ≡ d ∷ ds = ap front (sym (append-nil (d ∷ ds))) ∙ front_is (d ∷ ds) [] h.4 tt in
    let b : after (d ∷ ds) ≡ [] = ap after (sym (append-nil (d ∷ ds))) ∙ after_is (d ∷ ds) [] h.4 tt in
    let P : List ℕ → Type 0 = λ l. read_exp l ≡ Some (falls, d ∷ ds) in
    subst P (sym h.5) (exp_reads h.0 (h.1 ++ d ∷ ds) falls (d ∷ ds) t.0 s.0 s.1 a b refl)

int_in : (ds : List ℕ) → IsInt ds → is_int ds ≡ true
int_in [] h = absurd h
int_in (b ∷ []) h = refl
int_in (b ∷ c ∷ cs) h = ⊎_elim (λ z. let e = z.1 in absurd (cc)) (λ z. let f : eqb b 48 ≡ false = grind (arith, nat_tests) in rw f refl) h

pub int_digits : (ds : List ℕ) → IsInt ds → AreDigits ds
int_digits [] h = absurd h
int_digits (b ∷ bs) h = ⊎_elim (λ z. let e : b ≡ 48 = z.0 in ((omega arith, omega arith), rw z.1 tt)) (λ z. let e = z.0 in let f = z.1 in ((omega arith, omega arith), z.2)) h

int_first : (b : ℕ) (bs : List ℕ) → IsInt (b ∷ bs) → eqb b 45 ≡ false
int_first b bs h = (sign_digit b (int_digits (b ∷ bs) h).0).0

pub minus_is : (m : List ℕ) (negative : Bool) (ds rest : List ℕ) → MinusIs m negative → IsInt ds → (is_negative (m ++ (ds ++ rest)) ≡ negative) × (past_minus (m ++ (ds ++ rest)) ≡ ds ++ rest)
minus_is m negative [] rest h i = absurd i
minus_is m true (d ∷ ds) rest h i = rw h (refl, refl)
minus_is m false (d ∷ ds) rest h i = let t = int_first d ds i in rw h (t, rw t refl)

frac_digits : (bytes ds : List ℕ) → FracIs bytes ds → AreDigits ds
frac_digits bytes [] h = tt
frac_digits bytes (d ∷ ds) h = h.0

exp_digits : (bytes : List ℕ) (falls : Bool) (ds : List ℕ) → ExpIs bytes falls ds → AreDigits ds
exp_digits bytes falls [] h = tt
exp_digits bytes falls (d ∷ ds) h = h.4

no_frac : (rest : List ℕ) → FollowsFrac rest → read_frac rest ≡ Some ([], rest)
no_frac [] h = refl
no_frac (b ∷ bs) h = rw h.1 refl

frac_in : (bytes ds rest : List ℕ) → FracIs bytes ds → FollowsFrac rest → read_frac (bytes ++ rest) ≡ Some (ds, rest)
frac_in bytes [] rest h f = rw h (no_frac rest f)
frac_in bytes (d ∷ ds) rest h f = rw h.1 (rw (front_is (d ∷ ds) rest h.0 (follows_digits rest f), after_is (d ∷ ds) rest h.0 (follows_digits rest f)) refl)

frac_first : (bytes ds rest : List ℕ) → FracIs bytes ds → FollowsFrac rest → NoDigitFirst (bytes ++ rest)
frac_first bytes [] rest h f = rw h (follows_digits rest f)
frac_first bytes (d ∷ ds) rest h f = rw h.1 refl

pub reads : (text past ds rest frac exp tail : List ℕ) (negative falls : Bool) → is_negative text ≡ negative → past_minus text ≡ past → front past ≡ ds → after past ≡ rest → is_int ds ≡ true → read_frac rest ≡ Some (frac, tail) → read_exp tail ≡ Some (falls, exp)
    → read text ≡ Some (record { negative = negative; int = ds; frac = frac; exponent_negative = falls; exponent = exp })
unfolding read
reads text past ds rest frac exp tail negative falls a b c d e f g = rw (a, b, c, d, e, f, g) refl

pub read_complete : (text : List ℕ) (n : Parts) → HasParts text n → read text ≡ Some n
read_complete text n h =
    let rest = h.frac ++ h.exp in
    let ff = exp_follows h.exp n.exponent_negative n.exponent h.is_exp in
    let nd = frac_first h.frac n.frac h.exp h.is_frac ff in
    let ad = int_digits n.int h.is_int in
    let m = minus_is h.minus n.negative n.int rest h.is_minus h.is_int in
    rw h.whole (reads (h.minus ++ (n.int ++ rest)) (n.int ++ rest) n.int rest n.frac n.exponent h.exp n.negative n.exponent_negative m.0 m.1
    (front_is n.int rest ad nd) (after_is n.int rest ad nd) (int_in n.int h.is_int) (frac_in h.frac n.frac h.exp h.is_frac ff) (exp_in h.exp n.exponent_negative n.exponent h.is_exp))

pub number_unique : (text : List ℕ) (m n : Parts) → HasParts text m → HasParts text n → m ≡ n
number_unique text m n h k = same_some (sym (read_complete text m h) ∙ read_complete text n k)

-- ---- what a number's parts are

pub number_frac_digits : {text : List ℕ} {n : Parts} → HasParts text n → AreDigits n.frac
number_frac_digits {n = n} h = frac_digits h.frac n.frac h.is_frac

pub number_exp_digits : {text : List ℕ} {n : Parts} → HasParts text n → AreDigits n.exponent
number_exp_digits {n = n} h = exp_digits h.exp n.exponent_negative n.exponent h.is_exp

pub digits-append : (xs bs : List ℕ) → AreDigits xs → AreDigits bs → AreDigits (xs ++ bs)
digits-append [] bs h k = k
digits-append (a ∷ xs) bs h k = (h.0, digits-append xs bs h.1 k)

pub number_digits : {text : List ℕ} {n : Parts} → HasParts text n → AreDigits (n.int ++ n.frac)
number_digits {n = n} h = digits-append n.int n.frac (int_digits n.int h.is_int) (number_frac_digits h)

frac_length : (bytes ds : List ℕ) → FracIs bytes ds → length ds ≤ length bytes
frac_length bytes [] h = omega arith
frac_length bytes (d ∷ ds) h = rw h.1 (omega arith)

pub number_length : {text : List ℕ} {n : Parts} → HasParts text n → length n.int + length n.frac ≤ length text
number_length {text = text} {n = n} h =
    let w = h.whole in
    omega (arith, simp length-append at (ap length w), frac_length h.frac n.frac h.is_frac)

-- what the steps of a reading give
pub read_is : (text past ds rest frac exp tail : List ℕ) (negative falls : Bool) → negative ≡ is_negative text → past ≡ past_minus text → ds ≡ front past → rest ≡ after past → is_int ds ≡ true → Some (frac, tail) ≡ read_frac rest → Some (falls, exp) ≡ read_exp tail
    → HasParts text (record { negative = negative; int = ds; frac = frac; exponent_negative = falls; exponent = exp })
read_is text past ds rest frac exp tail negative falls a b c d e f g =
    read_sound text (record { negative = negative; int = ds; frac = frac; exponent_negative = falls; exponent = exp }) (reads text past ds rest frac exp tail negative falls (sym a) (sym b) (sym c) (sym d) e (sym f) (sym g))

pub no_int : (text past ds : List ℕ) → past_minus text ≡ past → front past ≡ ds → is_int ds ≡ false → read text ≡ None
unfolding read
no_int text past ds b c e = rw (b, c, e) refl

no_fraction : (text past ds rest : List ℕ) → past_minus text ≡ past → front past ≡ ds → after past ≡ rest → is_int ds ≡ true → read_frac rest ≡ None → read text ≡ None
unfolding read
no_fraction text past ds rest b c d e f = rw (b, c, d, e, f) refl

no_exponent : (text past ds rest frac tail : List ℕ) → past_minus text ≡ past → front past ≡ ds → after past ≡ rest → is_int ds ≡ true → read_frac rest ≡ Some (frac, tail) → read_exp tail ≡ None → read text ≡ None
unfolding read
no_exponent text past ds rest frac tail b c d e f g = rw (b, c, d, e, f, g) refl

no_number : (text : List ℕ) → read text ≡ None → (n : Parts) → HasParts text n → ⊥
no_number text e n h = let f = read_complete text n h in cc

pub no_number_by_int : (text past ds : List ℕ) → past ≡ past_minus text → ds ≡ front past → is_int ds ≡ false → (n : Parts) → HasParts text n → ⊥
no_number_by_int text past ds b c e = no_number text (no_int text past ds (sym b) (sym c) e)

pub no_number_by_frac : (text past ds rest : List ℕ) → past ≡ past_minus text → ds ≡ front past → rest ≡ after past → is_int ds ≡ true → None ≡ read_frac rest → (n : Parts) → HasParts text n → ⊥
no_number_by_frac text past ds rest b c d e f = no_number text (no_fraction text past ds rest (sym b) (sym c) (sym d) e (sym f))

pub no_number_by_exp : (text past ds rest frac tail : List ℕ) → past ≡ past_minus text → ds ≡ front past → rest ≡ after past → is_int ds ≡ true → Some (frac, tail) ≡ read_frac rest → None ≡ read_exp tail → (n : Parts) → HasParts text n → ⊥
no_number_by_exp text past ds rest frac tail b c d e f g = no_number text (no_exponent text past ds rest frac tail (sym b) (sym c) (sym d) e (sym f) (sym g))
