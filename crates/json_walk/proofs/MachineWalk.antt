-- The invariant of a reader: what it knows at a place of the text. Any reader that finds the tokens keeps it.
use Rattle.json_text.proofs.Names.{◌≡◌, ℕ, ◌+◌, ◌≤◌, List, [], ◌∷◌, ◌++◌, length, take, drop, Option, Some, None, Bool, true, false, cond, refl}
use Rattle.json_text.proofs.Names.{sym, ap, ◌∙◌, subst, arith, append_assoc, length-append, common_steps, nat_tests, take_at, drop_at}
use Rattle.json_text.proofs.Names.{take-append-drop, length-take-le, take_all, drop_all, Name, Scalar, Str, Tree, IsBlank, IsString, at, IsScalarText}
use Rattle.json_text.proofs.Names.{scalar, IsText, Top, tape_of, deepest, IsToken, sign, text, word, Goes, sign_at, IsWord, Token, Opening}
use Rattle.json_text.proofs.Names.{State, takes_value, takes_name, run_at, put_leaf, put_open, level_of}
use Rattle.json_text.proofs.Names.{step, start, IsSmall}
use Rattle.json_walk.proofs.Names.{Kind, Extent, Entry, Shape, Array, Object, Level, Root, Want, Open}
use Rattle.std.proofs.lemmas.Option.{cond_some}
use Rattle.json_text.specs.Machine.{is_colon, put_text, root, AreSmall}
use Rattle.json_text.specs.declared.tape.Kind.TheVariants as kinds
use Rattle.json_text.specs.declared.tape.Want.TheVariants as wants
use Rattle.json_walk.proofs.Front.{Front, begin, front_blank, front_comma, front_value, front_name, front_colon, front_array, front_object, front_array_end, front_object_end, front_text}
use Rattle.json_text.proofs.Lexed.{goes_token, goes_blank, goes_end, token_begins}
use Rattle.json_text.proofs.Follows.{text_goes}
use Rattle.name_stamps.proofs.CheckKept.{length-change_at}

abbrev pub levels : List Open → List Level
levels [] = []
levels (o ∷ os) = o.level ∷ levels os

abbrev Holds : State → List ℕ → Type 0
Holds s f = Front (levels s.opens) s.want f

-- a word or a number spells a scalar
word_scalar : (bs : List ℕ) (kind : Kind) → IsWord bs kind → (s : Scalar) × IsScalarText bs s
word_scalar bs kind h = search arith

leaf_sound : (x : Extent) (kind : Kind) (es : List Entry) (os : List Open) (w : Want) (name : Option Extent) (d : ℕ) (s' : State) (f vs : List ℕ) (c : Scalar) → put_leaf x kind es os w name d ≡ Some s' → Front (levels os) w f → IsScalarText vs c → Holds s' (f ++ vs)
leaf_sound x kind es [] w name d s' f vs c e h i = absurd (cc)
leaf_sound x kind es (o ∷ os) w name d s' f vs c e h i =
    let k = cond_some (takes_value w) _ s' e in subst (λ s. Holds s (f ++ vs)) k.1 (front_value h k.0 (scalar i))

array_sound : (p : ℕ) (es : List Entry) (os : List Open) (w : Want) (name : Option Extent) (d : ℕ) (s' : State) (f : List ℕ) → put_open Array p es os w name d ≡ Some s' → Front (levels os) w f → Holds s' (f ++ 91 ∷ [])
array_sound p es os w name d s' f e h = grind (arith, cond_some, front_array)

object_sound : (p : ℕ) (es : List Entry) (os : List Open) (w : Want) (name : Option Extent) (d : ℕ) (s' : State) (f : List ℕ) → put_open Object p es os w name d ≡ Some s' → Front (levels os) w f → Holds s' (f ++ 123 ∷ [])
object_sound p es os w name d s' f e h = grind (arith, cond_some, front_object)

colon_sound : (w : Want) (s s' : State) (f : List ℕ) → cond (is_colon w) (Some s) None ≡ Some s' → s.want ≡ wants.Value → Front (levels s.opens) w f → Holds s' (f ++ 58 ∷ [])
colon_sound w s s' f e v h = grind (arith, front_colon)

text_sound : (x : Extent) (es : List Entry) (os : List Open) (w : Want) (name : Option Extent) (d : ℕ) (s' : State) (f vs : List ℕ) (n : Name) → put_text x es os w name d ≡ Some s' → n.source ≡ at (length f) vs → IsString vs n.characters → Front (levels os) w f → Holds s' (f ++ vs)
text_sound x es os w name d s' f vs n e g i h = by_want (takes_name w) refl where
  by_want : (b : Bool) → takes_name w ≡ b → Holds s' (f ++ vs)
  by_want true t = grind (arith, front_name n h t g i)
  by_want false t = leaf_sound x kinds.Text es os w name d s' f vs (Str n.characters) (rw t at e) h i

sign_sound : (tok : Token) (p b : ℕ) (s s' : State) (f : List ℕ) → sign_at p b ≡ Some tok → step tok s ≡ Some s' → Holds s f → Holds s' (f ++ b ∷ [])
sign_sound tok p b s s' f h e k = search (arith, array_sound, object_sound, colon_sound, cond_some, front_array_end, front_object_end, front_comma)

-- a token that the builder takes
pub step_sound : {p : ℕ} {vs rest : List ℕ} {tok : Token} → IsToken p vs tok rest → (s s' : State) (f : List ℕ) → step tok s ≡ Some s' → p ≡ length f → Holds s f → Holds s' (f ++ vs)
step_sound (sign {p = p} {b = b} {tok = tok} h) s s' f e l k = sign_sound tok p b s s' f h e k
step_sound (text {p = p} {vs = vs} cs h) s s' f e l k =
    text_sound (run_at p (length vs)) s.entries s.opens s.want s.name s.deep s' f vs (record { source = at p vs; characters = cs }) e (ap (λ n. at n vs) l) h k
step_sound (word {p = p} {b = b} {vs = vs} {kind = kind} a n h) s s' f e l k = grind (arith, word_scalar, leaf_sound)

pub small_more : (i j : ℕ) (os : List Open) → i ≤ j → AreSmall i os → AreSmall j os
small_more i j [] l h = tt
small_more i j (o ∷ os) l h = (omega (arith, h.0), small_more i j os l h.1)

-- the end of the text of a tree
abbrev pub last : Tree → State
last t = record { entries = tape_of t 0 Top 0; opens = root 1 ∷ []; want = wants.Next; name = None; deep = deepest t 0 0 }

-- What a reader knows at the place i: what the bytes before it are, and that each tree of the whole text goes on from here.
pub record Knows (bytes : List ℕ) (i : ℕ) (s : State) : Type 0 where
  pub within : i ≤ length bytes
  pub front : Front (levels s.opens) s.want (take i bytes)
  pub back : (t : Tree) → IsText bytes t → (q : ℕ) × Goes i (drop i bytes) s q [] (last t)
  pub small : IsSmall i s

pub knows_start : (bytes : List ℕ) → Knows bytes 0 start
knows_start bytes = grind (arith, begin, text_goes)

-- the text, cut at a place and after some bytes that stand there
cut : (bytes vs rest : List ℕ) (i j : ℕ) → i ≤ length bytes → drop i bytes ≡ vs ++ rest → j ≡ i + length vs → (take j bytes ≡ take i bytes ++ vs) × (drop j bytes ≡ rest) × (j ≤ length bytes)
cut bytes vs rest i j le e l =
    let whole : bytes ≡ (take i bytes ++ vs) ++ rest = sym (take-append-drop i bytes) ∙ ap (λ r. take i bytes ++ r) e ∙ sym (append_assoc (take i bytes) vs rest) in
    let long : length (take i bytes ++ vs) ≡ j = length-append (take i bytes) vs ∙ ap (λ n. n + length vs) (length-take-le i bytes le) ∙ sym l in
    (ap (take j) whole ∙ take_at (take i bytes ++ vs) rest j long, ap (drop j) whole ∙ drop_at (take i bytes ++ vs) rest j long, omega (arith, ap length whole ∙ length-append (take i bytes ++ vs) rest, long))

pub knows_blank : (bytes cs : List ℕ) (i b : ℕ) (s : State) → Knows bytes i s → drop i bytes ≡ b ∷ cs → IsBlank b → Knows bytes (i + 1) s
knows_blank bytes cs i b s k e h = let c = cut bytes (b ∷ []) cs i (i + 1) k.within e refl in record {
  within = c.2;
  front = subst (Front (levels s.opens) s.want) (sym c.0) (front_blank k.front b h);
  back = (λ t u. let g = k.back t u in (g.0, subst (λ l. Goes (i + 1) l s g.0 [] (last t)) (sym c.1) (goes_blank g.1 e h)));
  small = record { entries = (let l = k.small.entries in omega arith); opens = small_more i (i + 1) s.opens (omega arith) k.small.opens };
}

open_small : (i j : ℕ) (shape : Shape) (p : ℕ) (es : List Entry) (os : List Open) (w : Want) (name : Option Extent) (d : ℕ) (s' : State) → i + 1 ≤ j → put_open shape p es os w name d ≡ Some s' → length es ≤ i → AreSmall i os → IsSmall j s'
open_small i j shape p es os w name d s' l e h k = grind (arith, cond_some, length-append, small_more)

text_small : (i j : ℕ) (x : Extent) (es : List Entry) (os : List Open) (w : Want) (name : Option Extent) (d : ℕ) (s' : State) → i + 1 ≤ j → put_text x es os w name d ≡ Some s' → length es ≤ i → AreSmall i os → IsSmall j s'
text_small i j x es os w name d s' l e h k = grind (arith, nat_tests, common_steps, small_more)

pub step_small : (i j : ℕ) (tok : Token) (s s' : State) → i + 1 ≤ j → step tok s ≡ Some s' → IsSmall i s → IsSmall j s'
step_small i j (Opening shape p) s s' l e h = open_small i j shape p s.entries s.opens s.want s.name s.deep s' l e h.entries h.opens
step_small i j tok s s' l e h = search (arith, cond_some, small_more, text_small, length-append, length-change_at)

-- a token that the builder takes
pub knows_token : (bytes vs rest : List ℕ) (i j : ℕ) (tok : Token) (s s' : State) → Knows bytes i s → drop i bytes ≡ vs ++ rest → IsToken i vs tok rest → step tok s ≡ Some s' → j ≡ i + length vs → Knows bytes j s'
knows_token bytes vs rest i j tok s s' k e h g l = let c = cut bytes vs rest i j k.within e l in let b = token_begins h in record {
  within = c.2;
  front = subst (Front (levels s'.opens) s'.want) (sym c.0) (step_sound h s s' (take i bytes) g (sym (length-take-le i bytes k.within)) k.front);
  back = (λ t u. let w = k.back t u in let p = goes_token w.1 e h in let same : p.next ≡ s' = (let a = p.steps in cc) in
      (w.0, subst (λ r. Goes j r s' w.0 [] (last t)) (sym c.1) (subst (λ n. Goes n rest s' w.0 [] (last t)) (sym l) (subst (λ x. Goes (i + length vs) rest x w.0 [] (last t)) same p.way))));
  small = step_small i j tok s s' (omega (arith, ap length b.is)) g k.small;
}

-- at the end of the text
pub knows_end : (bytes : List ℕ) (i : ℕ) (s : State) → Knows bytes i s → length bytes ≤ i → (t : Tree) → IsText bytes t → s ≡ last t
knows_end bytes i s k l t u = goes_end (k.back t u).1 (drop_all i bytes l)

pub knows_tree : (bytes : List ℕ) (i : ℕ) (s : State) → Knows bytes i s → length bytes ≤ i → level_of s.opens ≡ Root → s.want ≡ wants.Next → (t : Tree) × IsText bytes t
knows_tree bytes i s k l r w = grind (arith, front_text, take_all)
