-- Texts split at the first byte of one value: lines at line feeds, and a line at its first space.
use Rattle.std.proofs.Common.{◌≡◌, ◌≢◌, ℕ, zero, suc, ◌<◌, ◌≤◌, ◌^◌, List, [], ◌∷◌, ◌++◌, ◌+◌, ◌-◌, length, take, drop, slice_index, refl, sym, ◌∙◌, arith, eqb-true, nat_eq, true, false, decimal, Option, Some, None, Result, Ok, Err, inl, inr, IfOk, IfNone}
use Rattle.std.proofs.lemmas.Bool.{eq-eqb}
use Rattle.std.proofs.lemmas.Bool.Decides.{nat_tests}
use Rattle.std.specs.declared.alloc.AllocError.{AllocError}
use Rattle.std.specs.Char.{digit_value}
use Rattle.std.proofs.lemmas.Fmt.{IsAscii-decimal, decimal_is_IsNumeral, decimal_injective, parse-decimal}
use Rattle.std.proofs.lemmas.Str.{IsUtf8-from_ascii}
use Rattle.std.proofs.Math.Seq.{split_at, take-length}
use Rattle.std.proofs.lemmas.List.{append-nil, append_assoc, length-append, length-drop}
use Rattle.std.specs.Str.Parse.{AllDigits, ParsesUnsigned}
use Rattle.std.specs.Str.{IsUtf8}
use Rattle.std.proofs.lemmas.Cmp.{nat_list_eq_equiv}
use lib.Pointwise.{pointwise}
use Rattle.memchr.specs.Find.{NoneBefore, Nowhere, Passes, is_byte}
use Rattle.path_server.specs.Splitting.{Lacks, IsSplit}
use Rattle.path_hub.specs.declared.event.Event.{Event}
use Rattle.path_server.specs.TextLines.{IsBad, IsFirstBad, SpellAll, lines_in}
use Rattle.path_server.specs.Scripts.{BeginsWith, Says, Spells}

-- nowhere before the place is nowhere in what stands before it
pub lacks_before : (mark : ℕ) (text : List ℕ) (k : ℕ) → Nowhere (Passes (is_byte mark) text) 0 k → Lacks mark (take k text)
lacks_before mark [] zero none = tt
lacks_before mark [] (suc k) none = tt
lacks_before mark (c ∷ text) zero none = tt
lacks_before mark (c ∷ text) (suc k) none = (
  λ same. none 0 (omega arith) (omega arith) (eq-eqb c mark same),
  lacks_before mark text k (λ i low high. none (suc i) (omega arith) (omega arith)),
)

pub take_rest : (n : ℕ) (xs : List ℕ) → take (length xs - n) (drop n xs) ≡ drop n xs
take_rest n xs = rw (sym (length-drop n xs)) (take-length (drop n xs))

pub lacks_all : (mark : ℕ) (text : List ℕ) → Nowhere (Passes (is_byte mark) text) 0 (length text) → Lacks mark text
lacks_all mark text none = rw (take-length text) at (lacks_before mark text (length text) none)

pub split_there : (mark : ℕ) (text : List ℕ) (at : ℕ) → NoneBefore (Passes (is_byte mark) text) 0 (length text) at × Passes (is_byte mark) text at
    → IsSplit mark text (take at text) (take (length text - (at + 1)) (drop (at + 1) text))
split_there mark text at (none, there) =
    let high = none.high in
    let next : suc at ≡ at + 1 = omega arith in
    let same : slice_index text at ≡ mark = eqb-true (slice_index text at) mark there in
    let split : text ≡ take at text ++ slice_index text at ∷ drop (suc at) text = split_at text at 0 high in
    record {
      split = rw (take_rest (at + 1) text) (rw (same, next) at split);
      first = lacks_before mark text at none.before;
    }

-- a text is split in one way
pub one_split : (mark : ℕ) (before behind before' behind' : List ℕ) → Lacks mark before → Lacks mark before' → before ++ mark ∷ behind ≡ before' ++ mark ∷ behind' → (before ≡ before') × (behind ≡ behind')
one_split mark [] behind [] behind' l l' e = (refl, cc)
one_split mark [] behind (c ∷ before') behind' l l' e = absurd (l'.0 cc)
one_split mark (c ∷ before) behind [] behind' l l' e = absurd (l.0 cc)
one_split mark (c ∷ before) behind (d ∷ before') behind' l l' e =
    let head : c ≡ d = cc in
    let tail : before ++ mark ∷ behind ≡ before' ++ mark ∷ behind' = cc in
    let same = one_split mark before behind before' behind' l.1 l'.1 tail in
    (cc, same.1)

-- ---- lines

pub lines_split : (line text : List ℕ) → Lacks 10 line → lines_in (line ++ 10 ∷ text) ≡ line ∷ lines_in text
lines_split [] text l = refl
lines_split (c ∷ line) text l = grind (arith, nat_tests, l.0, lines_split line text l.1)

lines_whole : (c : ℕ) (line : List ℕ) → Lacks 10 (c ∷ line) → lines_in (c ∷ line) ≡ (c ∷ line) ∷ []
lines_whole c [] l = grind (arith, nat_tests, l.0)
lines_whole c (d ∷ line) l = grind (arith, nat_tests, l.0, lines_whole d line l.1)

pub lines_last : (line : List ℕ) → 0 < length line → Lacks 10 line → lines_in line ≡ line ∷ []
lines_last [] some l = absurd (omega (arith, some))
lines_last (c ∷ line) some l = lines_whole c line l

-- ---- the beginning of a line

no_space : (c : ℕ) → digit_value c < 10 → c ≢ 32
no_space c digit same = let low : 37 ≤ 10 = rw same at digit in absurd (omega (arith, low))

digits_lack_space : (digits : List ℕ) → AllDigits 10 digits → Lacks 32 digits
digits_lack_space [] d = tt
digits_lack_space (c ∷ digits) d = (no_space c d.0, digits_lack_space digits d.1)

pub decimal_lacks_space : (n : ℕ) → n < 2 ^ 32 → Lacks 32 (decimal n)
decimal_lacks_space n small = digits_lack_space (decimal n) ((decimal_is_IsNumeral n (omega (arith, small))).0.1)

pub decimal_is_text : (digits : List ℕ) (n : ℕ) → n < 2 ^ 32 → digits ≡ decimal n → IsUtf8 digits
decimal_is_text digits n small same = rw same (IsUtf8-from_ascii (decimal n) (IsAscii-decimal n (omega (arith, small))))

pub parses : {E : Type 0} (n : ℕ) (digits : List ℕ) (r : Result ℕ E) → n < 2 ^ 32 → digits ≡ decimal n → ParsesUnsigned 32 10 digits r → r ≡ Ok n
parses n digits r small same p = parse-decimal 32 n digits r small (omega (arith, small)) same p

pub ok_is : {E : Type 0} (m n : ℕ) (r : Result ℕ E) → r ≡ Ok m → r ≡ Ok n → m ≡ n
ok_is m n r one other = cc

-- equal bytes are not told apart
pub tells_apart : (xs ys : List ℕ) → xs ≡ ys → pointwise nat_eq xs ys ≡ false → ⊥
tells_apart xs ys same apart =
    let equal : pointwise nat_eq xs ys ≡ true = rw same (nat_list_eq_equiv.refl ys) in
    absurd cc

-- a line has one beginning
pub one_beginning : (line : List ℕ) (conn conn' : ℕ) (word word' : List ℕ) → BeginsWith line conn word → BeginsWith line conn' word' → (conn ≡ conn') × (word ≡ word')
one_beginning line conn conn' word word' b b' =
    let same = one_split 32 (decimal conn) word (decimal conn') word' (decimal_lacks_space conn b.small) (decimal_lacks_space conn' b'.small) (sym b.line_is ∙ b'.line_is) in
    let small = b.small in
    let small' = b'.small in
    (decimal_injective conn conn' (omega (arith, small)) (omega (arith, small')) same.0, same.1)

has_mark : (mark : ℕ) (before behind : List ℕ) → ¬ Lacks mark (before ++ mark ∷ behind)
has_mark mark [] behind l = l.0 refl
has_mark mark (c ∷ before) behind l = has_mark mark before behind l.1

-- what begins with a decimal number and a space has a space
pub no_beginning : (line : List ℕ) → Lacks 32 line → (conn : ℕ) (word : List ℕ) → ¬ BeginsWith line conn word
no_beginning line lacks conn word b = has_mark 32 (decimal conn) word (rw b.line_is at lacks)

-- a line whose word says nothing is bad
pub says_nothing : (line : List ℕ) (conn : ℕ) (word : List ℕ) → BeginsWith line conn word → ((event : Event) → ¬ Says conn word event) → IsBad Spells line
says_nothing line conn word b none event s =
    let same = one_beginning line conn s.conn word s.word b s.begins in
    none event (rw (same.0, same.1) s.says)

pub bad_line : (line : List ℕ) (conn : ℕ) (word : List ℕ) (found : Result (Option Event) AllocError) → BeginsWith line conn word
    → IfOk found (λ f. IfNone f ((event : Event) → ¬ Says conn word event)) → IfOk found (λ f. IfNone f (IsBad Spells line))
bad_line line conn word (Ok None) b none = says_nothing line conn word b none
bad_line line conn word (Ok (Some event)) b none = tt
bad_line line conn word (Err e) b none = tt

-- ---- what lines spell

-- what the rest spells goes on what was read, and its first bad line is that of the text
pub record GoesOn {A : Type 0} (spells : List ℕ → A → Type 0) (text : List ℕ) (read : List A) (rest : List ℕ) : Type 0 where
  pub spelled : (things : List A) → SpellAll spells rest things → SpellAll spells text (read ++ things)
  pub bad : (number : ℕ) → IsFirstBad spells (suc (length read)) (lines_in rest) number → IsFirstBad spells 1 (lines_in text) number

pub goes_on_first : {A : Type 0} (spells : List ℕ → A → Type 0) (text : List ℕ) → GoesOn spells text [] text
goes_on_first spells text = record { spelled = λ things s. s; bad = λ number b. b }

one_more : {A : Type 0} (read : List A) (thing : A) → length (read ++ thing ∷ []) ≡ suc (length read)
one_more read thing = let sum = length-append read (thing ∷ []) in omega (arith, sum)

pub goes_on : {A : Type 0} (spells : List ℕ → A → Type 0) (text : List ℕ) (read : List A) (rest line others : List ℕ) (thing : A) → GoesOn spells text read rest → lines_in rest ≡ line ∷ lines_in others → spells line thing
    → GoesOn spells text (read ++ thing ∷ []) others
goes_on spells text read rest line others thing g lines s = record {
  spelled = λ things more. rw (append_assoc read (thing ∷ []) things) (g.spelled (thing ∷ things) (rw lines (s, more)));
  bad = λ number b. g.bad number (rw lines (inr (thing, s, rw (one_more read thing) at b)));
}

pub bad_here : {A : Type 0} (spells : List ℕ → A → Type 0) (text : List ℕ) (read : List A) (rest line others : List ℕ) → GoesOn spells text read rest → lines_in rest ≡ line ∷ lines_in others → IsBad spells line
    → IsFirstBad spells 1 (lines_in text) (length read + 1)
bad_here spells text read rest line others g lines b = g.bad (length read + 1) (rw lines (inl (b, (omega arith))))

pub all_spelled : {A : Type 0} (spells : List ℕ → A → Type 0) (text : List ℕ) (read : List A) (rest : List ℕ) → GoesOn spells text read rest → length rest ≡ 0 → SpellAll spells text read
all_spelled spells text read [] g none = rw (append-nil read) at (g.spelled [] tt)
all_spelled spells text read (c ∷ rest) g none = absurd (omega (arith, none))
