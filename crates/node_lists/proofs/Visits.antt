-- A node and all its descendants, by their numbers: the first, and then the rest.
use Rattle.std.proofs.Common.{◌≡◌, ℕ, zero, suc, ◌+◌, ◌-◌, ◌<◌, List, [], ◌∷◌, ◌++◌, length, refl, ap, ◌∙◌, arith}
use Rattle.std.specs.Prelude.{flat_map}
use Rattle.json_tape.specs.Nodes.{Node}
use Rattle.json_tape.specs.Document.{Doc, node_at, seen, counting}

counting_length : (k n : ℕ) → length (counting k n) ≡ n
counting_length k zero = refl
counting_length k (suc n) = ap suc (counting_length (suc k) n)

seen_length : (d : Doc) (ks : List ℕ) → length (seen d ks) ≡ length ks
seen_length d [] = refl
seen_length d (k ∷ ks) = ap suc (seen_length d ks)

pub visit_length : (d : Doc) (k m : ℕ) (ns : List Node) → seen d (counting k m) ≡ ns → length ns ≡ m
visit_length d k m ns e = rw (← e) (seen_length d (counting k m) ∙ counting_length k m)

counting_more : (k e : ℕ) → k < e → counting k (e - k) ≡ k ∷ counting (k + 1) (e - (k + 1))
counting_more k e h = let p : e - k ≡ suc (e - (k + 1)) = omega arith in let q : suc k ≡ k + 1 = omega arith in rw (p, q) refl

pub visit_more : (f : Node → List Node) (d : Doc) (k e : ℕ) → k < e → flat_map f (seen d (counting k (e - k))) ≡ f (node_at d k) ++ flat_map f (seen d (counting (k + 1) (e - (k + 1))))
visit_more f d k e lt = ap (λ (xs : List ℕ). flat_map f (seen d xs)) (counting_more k e lt)
