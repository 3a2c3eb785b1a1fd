-- What completes a text, by what may come next and the open containers; and that something always does.
use Rattle.json_text.proofs.Names.{◌≡◌, ℕ, zero, suc, ◌+◌, ◌⊎◌, inl, inr, List, [], ◌∷◌, ◌++◌, refl, arith}
use Rattle.json_text.proofs.Names.{IsElements, IsMember, IsMembers, IsValue, scalar, at}
use Rattle.json_text.proofs.Names.{IsString, AreChars, IsChar, IsHexDigit, AreBlanks, Spelt, Short, Num, Leaf, Tree, Elements, Members, Name}
use Rattle.std.specs.Prelude.{codes}
use Rattle.json_text.specs.declared.modes.Mode.{Mode}
use Rattle.json_text.specs.declared.modes.Mode.TheVariants.{Between, Escape, Hex}
use Rattle.json_text.specs.declared.tape.Shape.{Shape}
use Rattle.json_text.specs.declared.tape.Shape.TheVariants as shapes
use Rattle.decimal_order.specs.Number.{AreDigits, AreSomeDigits, Optional, IsSign, IsInt, IsFrac, IsExp, IsNumber}
use Rattle.text_faults.specs.declared.marks.Digits.{Digits}
use Rattle.text_faults.specs.declared.marks.Digits.TheVariants as digits
use Rattle.text_faults.specs.declared.marks.Letters.{Letters}
use Rattle.text_faults.specs.declared.marks.Letters.TheVariants as letters
use Rattle.text_faults.specs.declared.marks.Now.{Now}
use Rattle.text_faults.specs.declared.marks.Now.TheVariants as now
use Rattle.text_faults.specs.declared.marks.Purpose.{Purpose}
use Rattle.text_faults.specs.declared.marks.Purpose.TheVariants as purposes

-- a value, elements, a member and members, wherever they stand
abbrev pub Val : List ℕ → Type 0
Val bs = (p : ℕ) → (t : Tree) × IsValue p bs t

abbrev pub Els : List ℕ → Type 0
Els bs = (p : ℕ) → (es : Elements) × IsElements p bs es

abbrev pub Mem : List ℕ → Type 0
Mem bs = (p : ℕ) → (n : Name) × (t : Tree) × IsMember p bs n t

abbrev pub Mems : List ℕ → Type 0
Mems bs = (p : ℕ) → (ms : Members) × IsMembers p bs ms

-- elements or members, blanks and the closing sign
pub record Closed (Are : List ℕ → Type 0) (sign : ℕ) (bs : List ℕ) : Type 0 where
  pub body : List ℕ
  pub blanks : List ℕ
  pub are : Are body
  pub are_blanks : AreBlanks blanks
  pub is : bs ≡ body ++ (blanks ++ sign ∷ [])

-- what goes on behind elements or members up to the closing sign
abbrev pub Closes : (List ℕ → Type 0) → ℕ → List ℕ → Type 0
Closes Are sign inside = (front s : List ℕ) → Are front → AreBlanks s → Closed Are sign (front ++ (s ++ inside))

-- behind a value
abbrev pub After : List Shape → List ℕ → Type 0
After [] r = AreBlanks r
After (shapes.Array ∷ os) r = (inside rest : List ℕ) × Closes Els 93 inside × After os rest × (r ≡ inside ++ rest)
After (shapes.Object ∷ os) r = (inside rest : List ℕ) × Closes Mems 125 inside × After os rest × (r ≡ inside ++ rest)

abbrev pub AValue : List Shape → List ℕ → Type 0
AValue os r = (s v rest : List ℕ) × AreBlanks s × Val v × After os rest × (r ≡ s ++ (v ++ rest))

abbrev pub AColon : List Shape → List ℕ → Type 0
AColon os r = (s rest : List ℕ) × AreBlanks s × AValue (shapes.Object ∷ os) rest × (r ≡ s ++ 58 ∷ rest)

abbrev pub AName : List Shape → List ℕ → Type 0
AName os r = (s n rest : List ℕ) × (cs : List Spelt) × AreBlanks s × IsString n cs × AColon os rest × (r ≡ s ++ (n ++ rest))

-- blanks and the sign that closes an empty container
abbrev pub Empty : ℕ → List Shape → List ℕ → Type 0
Empty sign os r = (s rest : List ℕ) × AreBlanks s × After os rest × (r ≡ s ++ sign ∷ rest)

-- this many hexadecimal digits
abbrev pub AreHex : ℕ → List ℕ → Type 0
AreHex zero bs = bs ≡ []
AreHex (suc n) [] = ⊥
AreHex (suc n) (b ∷ bs) = ((v : ℕ) × IsHexDigit b v) × AreHex n bs

-- the rest of a string and its quote
abbrev pub InQuotes : Mode → List ℕ → Type 0
InQuotes Between q = (inside : List ℕ) × (cs : List Spelt) × AreChars inside cs × (q ≡ inside ++ 34 ∷ [])
InQuotes Escape q = (one inside : List ℕ) × (c : Spelt) × (cs : List Spelt) × IsChar (92 ∷ one) c × AreChars inside cs × (q ≡ one ++ (inside ++ 34 ∷ []))
InQuotes (Hex n) q = (one inside : List ℕ) × (cs : List Spelt) × AreHex (suc n) one × AreChars inside cs × (q ≡ one ++ (inside ++ 34 ∷ []))

abbrev pub AfterString : Purpose → List Shape → List ℕ → Type 0
AfterString purposes.Value os r = After os r
AfterString purposes.Name os r = AColon os r

-- the rest of a number, by its parts
abbrev pub Exponent : List ℕ → Type 0
Exponent q = Optional IsExp q

abbrev pub Fraction : List ℕ → Type 0
Fraction q = (frac exp : List ℕ) × Optional IsFrac frac × Optional IsExp exp × (q ≡ frac ++ exp)

abbrev pub InNumber : Digits → List ℕ → Type 0
InNumber digits.Minus q = (int rest : List ℕ) × IsInt int × Fraction rest × (q ≡ int ++ rest)
InNumber digits.Zero q = Fraction q
InNumber digits.Int q = (ds rest : List ℕ) × AreDigits ds × Fraction rest × (q ≡ ds ++ rest)
InNumber digits.Point q = (ds rest : List ℕ) × AreSomeDigits ds × Exponent rest × (q ≡ ds ++ rest)
InNumber digits.Frac q = (ds rest : List ℕ) × AreDigits ds × Exponent rest × (q ≡ ds ++ rest)
InNumber digits.E q = (sign ds : List ℕ) × Optional IsSign sign × AreSomeDigits ds × (q ≡ sign ++ ds)
InNumber digits.Sign q = AreSomeDigits q
InNumber digits.Exp q = AreDigits q

-- the rest of a word
abbrev pub spelled : Letters → List ℕ
spelled letters.Rue = codes "rue"
spelled letters.Ue = codes "ue"
spelled letters.E = codes "e"
spelled letters.Alse = codes "alse"
spelled letters.Lse = codes "lse"
spelled letters.Se = codes "se"
spelled letters.Ull = codes "ull"
spelled letters.Ll = codes "ll"
spelled letters.L = codes "l"

abbrev pub Completes : Now → List Shape → List ℕ → Type 0
Completes now.Value os r = AValue os r
Completes now.FirstValue os r = Empty 93 os r ⊎ AValue (shapes.Array ∷ os) r
Completes now.Name os r = AName os r
Completes now.FirstName os r = Empty 125 os r ⊎ AName os r
Completes now.Colon os r = AColon os r
Completes now.Next os r = After os r
Completes (now.Quoted p m) os r = (q rest : List ℕ) × InQuotes m q × AfterString p os rest × (r ≡ q ++ rest)
Completes (now.Number d) os r = (q rest : List ℕ) × InNumber d q × After os rest × (r ≡ q ++ rest)
Completes (now.Word l) os r = (rest : List ℕ) × After os rest × (r ≡ spelled l ++ rest)

-- ---- something completes each of them

pub closes_now : (Are : List ℕ → Type 0) (sign : ℕ) → Closes Are sign (sign ∷ [])
closes_now Are sign front s h b = record { body = front; blanks = s; are = h; are_blanks = b; is = refl }

pub some_after : (os : List Shape) → (r : List ℕ) × After os r
some_after [] = ([], tt)
some_after (shapes.Array ∷ os) = let x = some_after os in (93 ∷ x.0, (93 ∷ [], x.0, closes_now Els 93, x.1, refl))
some_after (shapes.Object ∷ os) = let x = some_after os in (125 ∷ x.0, (125 ∷ [], x.0, closes_now Mems 125, x.1, refl))

zero_number : IsNumber (48 ∷ [])
zero_number = record { minus = []; int = 48 ∷ []; frac = []; exp = []; is_minus = inl refl; is_int = inl (refl, refl); is_frac = inl refl; is_exp = inl refl; whole = refl }

zero_value : Val (48 ∷ [])
zero_value p = (Leaf (at p (48 ∷ [])) Num, scalar zero_number)

some_value : (os : List Shape) → (r : List ℕ) × AValue os r
some_value os = let x = some_after os in (48 ∷ x.0, ([], 48 ∷ [], x.0, tt, zero_value, x.1, refl))

some_colon : (os : List Shape) → (r : List ℕ) × AColon os r
some_colon os = let x = some_value (shapes.Object ∷ os) in (58 ∷ x.0, ([], x.0, tt, x.1, refl))

no_string : IsString (34 ∷ 34 ∷ []) []
no_string = ([], refl, refl)

some_name : (os : List Shape) → (r : List ℕ) × AName os r
some_name os = let x = some_colon os in (34 ∷ 34 ∷ x.0, ([], 34 ∷ 34 ∷ [], x.0, [], tt, no_string, x.1, refl))

zero_hex : (v : ℕ) × IsHexDigit 48 v
zero_hex = (0, inl (omega arith, omega arith))

some_hex : (n : ℕ) → (bs : List ℕ) × AreHex n bs
some_hex zero = ([], refl)
some_hex (suc n) = let x = some_hex n in (48 ∷ x.0, (zero_hex, x.1))

some_quotes : (m : Mode) → (q : List ℕ) × InQuotes m q
some_quotes Between = (34 ∷ [], ([], [], refl, refl))
some_quotes Escape = (110 ∷ 34 ∷ [], (110 ∷ [], [], Short 110, [], (inr (inr (inr (inr (inr (inl refl))))), refl), refl, refl))
some_quotes (Hex n) = let x = some_hex (suc n) in (x.0 ++ 34 ∷ [], (x.0, [], [], x.1, refl, refl))

some_string_end : (p : Purpose) (os : List Shape) → (r : List ℕ) × AfterString p os r
some_string_end purposes.Value os = some_after os
some_string_end purposes.Name os = some_colon os

zero_digits : AreSomeDigits (48 ∷ [])
zero_digits = ((omega arith, omega arith), tt)

no_fraction : Fraction []
no_fraction = ([], [], inl refl, inl refl, refl)

some_number : (d : Digits) → (q : List ℕ) × InNumber d q
some_number digits.Minus = (48 ∷ [], (48 ∷ [], [], inl (refl, refl), no_fraction, refl))
some_number digits.Zero = ([], no_fraction)
some_number digits.Int = ([], ([], [], tt, no_fraction, refl))
some_number digits.Point = (48 ∷ [], (48 ∷ [], [], zero_digits, inl refl, refl))
some_number digits.Frac = ([], ([], [], tt, inl refl, refl))
some_number digits.E = (48 ∷ [], ([], 48 ∷ [], inl refl, zero_digits, refl))
some_number digits.Sign = (48 ∷ [], zero_digits)
some_number digits.Exp = ([], tt)

pub some_completion : (n : Now) (os : List Shape) → (r : List ℕ) × Completes n os r
some_completion now.Value os = some_value os
some_completion now.FirstValue os = let x = some_after os in (93 ∷ x.0, inl ([], x.0, tt, x.1, refl))
some_completion now.Name os = some_name os
some_completion now.FirstName os = let x = some_after os in (125 ∷ x.0, inl ([], x.0, tt, x.1, refl))
some_completion now.Colon os = some_colon os
some_completion now.Next os = some_after os
some_completion (now.Quoted p m) os = let x = some_quotes m in let y = some_string_end p os in (x.0 ++ y.0, (x.0, y.0, x.1, y.1, refl))
some_completion (now.Number d) os = let x = some_number d in let y = some_after os in (x.0 ++ y.0, (x.0, y.0, x.1, y.1, refl))
some_completion (now.Word l) os = let y = some_after os in (spelled l ++ y.0, (y.0, y.1, refl))
