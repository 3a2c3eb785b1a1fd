-- Names without a backslash mean their own characters, so their bytes tell them apart and order them.
use Rattle.json_text.proofs.Names.{◌≡◌, ◌≢◌, ◌<◌, ℕ, zero, suc, take, drop, take-append-drop, append-nil, get_or, true, false, Bool, not, List, []}
use Rattle.json_text.proofs.Names.{◌∷◌, ◌++◌, refl, sym, ap, ◌∙◌, arith, nat_eq, IsUtf8, nat_cmp, is_eq, pointwise, slice_cmp, chars}
use Rattle.json_text.proofs.Names.{IsCharBoundary, nat_tests, encodes-chars, chars-append, encodes, or_parts}
use Rattle.std.specs.Cmp.Lexicographic.{texts_ties}
use Rattle.std.proofs.lemmas.Str.{encode_ascii, IsUtf8-take}
use lib.Utf8.{encode}
use Rattle.json_strings.specs.Spelling.{scalars_in, has_backslash}
use Rattle.json_strings.proofs.Utf8Order.{encodes_order}

pub any_back : (bs cs : List ℕ) → has_backslash (bs ++ cs) ≡ false → has_backslash cs ≡ false
any_back [] cs h = h
any_back (b ∷ bs) cs h = any_back bs cs (or_parts (nat_eq b 92) (has_backslash (bs ++ cs)) h).1

own_characters : (cs ds : List ℕ) → has_backslash (encodes cs) ≡ false → scalars_in (cs ++ ds) ≡ cs ++ scalars_in ds
own_characters [] ds h = refl
own_characters (c ∷ cs) ds h = grind (arith, own_characters cs ds (any_back (encode c) (encodes cs) h), any_back, encode_ascii)

-- before the first backslash each character stands for itself
pub plain_front : (bs : List ℕ) (n : ℕ) → IsUtf8 bs → IsCharBoundary bs n → has_backslash (take n bs) ≡ false → scalars_in (chars bs) ≡ chars (take n bs) ++ scalars_in (chars (drop n bs))
plain_front bs n u cut h = let front = IsUtf8-take bs n u cut in
    ap (λ l. scalars_in (chars l)) (sym (take-append-drop n bs)) ∙ ap scalars_in (chars-append (take n bs) (drop n bs) front)
    ∙ own_characters (chars (take n bs)) (chars (drop n bs)) (ap has_backslash (encodes-chars (take n bs) front) ∙ h)

pub plain_means : (bs : List ℕ) → IsUtf8 bs → has_backslash bs ≡ false → scalars_in (chars bs) ≡ chars bs
plain_means bs u h = cc (append-nil (chars bs), own_characters (chars bs) [] (ap has_backslash (encodes-chars bs u) ∙ h))

-- no byte before this one is a backslash
pub slashless_front : (bs : List ℕ) (n : ℕ) → ((k : ℕ) → k < n → get_or bs k 0 ≢ 92) → has_backslash (take n bs) ≡ false
slashless_front bs zero h = refl
slashless_front [] (suc n) h = refl
slashless_front (b ∷ bs) (suc n) h = let e : nat_eq b 92 ≡ false = (let no = h zero (omega arith) in grind (arith, nat_tests)) in
    rw e (slashless_front bs n (λ k l. h (suc k) (omega arith)))

-- bytes of UTF-8 order what they spell, and tell it apart
pub spelt_order : (a b : List ℕ) → IsUtf8 a → IsUtf8 b → slice_cmp nat_cmp a b ≡ slice_cmp nat_cmp (chars a) (chars b)
spelt_order a b u v = ap (λ x. slice_cmp nat_cmp x b) (sym (encodes-chars a u)) ∙ ap (slice_cmp nat_cmp (encodes (chars a))) (sym (encodes-chars b v)) ∙ encodes_order (chars a) (chars b)

pub spelt_same : (a b : List ℕ) → IsUtf8 a → IsUtf8 b → pointwise nat_eq a b ≡ pointwise nat_eq (chars a) (chars b)
spelt_same a b u v = texts_ties a b ∙ ap is_eq (spelt_order a b u v) ∙ sym (texts_ties (chars a) (chars b))

module _ (a b x y : List ℕ) (p q : Bool) (is_x : scalars_in (chars a) ≡ x) (is_y : scalars_in (chars b) ≡ y)
    (a_is : IsUtf8 a × (p ≡ not (has_backslash a))) (b_is : IsUtf8 b × (q ≡ not (has_backslash b))) (plain_a : p ≡ true) (plain_b : q ≡ true) where
  none : (t : Bool) → true ≡ not t → t ≡ false
  none t e = grind arith

  characters : (c z : List ℕ) → scalars_in (chars c) ≡ z → IsUtf8 c → has_backslash c ≡ false → encodes z ≡ c
  characters c z e u h = ap encodes (sym e ∙ plain_means c u h) ∙ encodes-chars c u

  pub plain_order : slice_cmp nat_cmp a b ≡ slice_cmp nat_cmp x y
  plain_order = let e = characters a x is_x a_is.0 (none (has_backslash a) (sym plain_a ∙ a_is.1)) in
      let f = characters b y is_y b_is.0 (none (has_backslash b) (sym plain_b ∙ b_is.1)) in grind (arith, encodes_order x y)

  pub plain_same : pointwise nat_eq a b ≡ pointwise nat_eq x y
  plain_same = texts_ties a b ∙ ap is_eq plain_order ∙ sym (texts_ties x y)
