-- What is known at the end of a walk, and at a refusal.
use Rattle.json_text.proofs.Names.{◌≡◌, ◌≢◌, ℕ, ◌+◌, ◌≤◌, ◌<◌, List, [], ◌∷◌, ◌++◌, length, drop, get_or, None, true, false, ap, ◌∙◌, arith}
use Rattle.json_text.proofs.Names.{nat_tests, drop_more, IsBlank, IsJson, StandsForAll, HasDepth, IsNoJson, Blank, class, is_blank, IsToken, Goes}
use Rattle.json_text.proofs.Names.{stay, blank, token, Refused, Taken, State, step, level_of, IsSmall}
use Rattle.json_walk.proofs.Names.{Root, Next}
use Rattle.json_walk.proofs.Depths.{deepest_depth}
use Rattle.json_walk.proofs.MachineWalk.{Knows, knows_blank, knows_token, knows_end, knows_tree, small_more}
use Rattle.json_text.proofs.Complete.{blank_class}

blank_by_test : (b : ℕ) → is_blank b ≡ true → IsBlank b
blank_by_test b h = grind (arith, nat_tests)

pub solid_by_test : (b : ℕ) → is_blank b ≡ false → class b ≢ Blank
solid_by_test b h = λ e. grind (arith, nat_tests)

pub reads_blank : (bytes : List ℕ) (i : ℕ) (s : State) → Knows bytes i s → i < length bytes → is_blank (get_or bytes i 0) ≡ true → Knows bytes (i + 1) s
reads_blank bytes i s k l h = knows_blank bytes (drop (i + 1) bytes) i (get_or bytes i 0) s k (drop_more bytes i 0 l) (blank_by_test (get_or bytes i 0) h)

pub reads_token : (bytes : List ℕ) (i j : ℕ) (s new : State) → Knows bytes i s → Taken bytes i j s new → Knows bytes j new
reads_token bytes i j s new k t = knows_token bytes t.vs t.rest i j t.tok s new k t.stands t.is_token t.steps t.end

way_refused : {p q : ℕ} {bs : List ℕ} {s s' : State} → Goes p bs s q [] s' → (b : ℕ) (cs : List ℕ) → bs ≡ b ∷ cs → class b ≢ Blank
    → ((vs rest : List ℕ) → bs ≡ vs ++ rest → (tok : _) → IsToken p vs tok rest → step tok s ≡ None) → ⊥
way_refused (stay e f) b cs g n h = cc
way_refused (blank {b = b'} e f i w) b cs g n h = n (let m : b ≡ b' = cc in let c = blank_class b' i in let d = ap class m in cc)
way_refused (token {vs = vs} {rest = rest} {tok = tok} e f i st w) b cs g n h = let x = h vs rest e tok i in cc

pub reads_refused : (bytes : List ℕ) (i : ℕ) (s : State) → Knows bytes i s → i < length bytes → is_blank (get_or bytes i 0) ≡ false → Refused bytes i s → IsNoJson bytes
reads_refused bytes i s k l h r = λ t u. way_refused (k.back t u).1 (get_or bytes i 0) (drop (i + 1) bytes) (drop_more bytes i 0 l) (solid_by_test (get_or bytes i 0) h) (λ vs rest e tok g. r vs rest tok e g)

pub reads_small : (i n : ℕ) (s : State) → i ≤ n → IsSmall i s → IsSmall n s
reads_small i n s l h = record { entries = (let a = h.entries in omega arith); opens = small_more i n s.opens l h.opens }

pub reads_json : (bytes : List ℕ) (i : ℕ) (s : State) → Knows bytes i s → length bytes ≤ i → (level_of s.opens ≡ Root) × (s.want ≡ Next) → IsJson bytes
reads_json bytes i s k l d = knows_tree bytes i s k l d.0 d.1

pub reads_tape : (bytes : List ℕ) (i : ℕ) (s : State) → Knows bytes i s → length bytes ≤ i → StandsForAll bytes s.entries
reads_tape bytes i s k l = λ t u. ap (λ x. x.entries) (knows_end bytes i s k l t u)

pub reads_none : (bytes : List ℕ) (i : ℕ) (s : State) → Knows bytes i s → length bytes ≤ i → ((level_of s.opens ≡ Root) × (s.want ≡ Next) → ⊥) → IsNoJson bytes
reads_none bytes i s k l n = λ t u. let e = knows_end bytes i s k l t u in n (ap (λ x. level_of x.opens) e, ap (λ x. x.want) e)

pub reads_depth : (bytes : List ℕ) (i : ℕ) (s : State) → Knows bytes i s → length bytes ≤ i → HasDepth bytes s.deep
reads_depth bytes i s k l = λ t u. ap (λ x. x.deep) (knows_end bytes i s k l t u) ∙ deepest_depth t
