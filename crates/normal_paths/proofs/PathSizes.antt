-- A path has at most six bytes for each byte that the steps take in the text.
use Rattle.std.specs.Prelude.{nat_lt, decimal, encode_utf8, flat_map, Result, Ok, Err, IfOk}
use Rattle.std.specs.Result.{is_err}
use Rattle.std.specs.declared.alloc.AllocError.{AllocError}
use Rattle.std.proofs.Common.{◌≡◌, ℕ, ◌+◌, ◌*◌, ◌<◌, ◌≤◌, ◌^◌, Bool, true, false, cond, eqb, List, [], ◌∷◌, ◌++◌, length, reverse, ap, ◌∙◌, arith, length-append}
use Rattle.std.proofs.lemmas.Grind.{flat_map-append, reverse_onto}
use Rattle.std.proofs.lemmas.Fmt.{length-decimal-le_succ}
use Rattle.std.proofs.lemmas.Str.{length-encode, len_utf8_bounds}
use Rattle.json_tape.specs.Nodes.{Node, Step, key, place, step_size, way_size}
use Rattle.json_tape.specs.Verdict.{text_limit}
use Rattle.normal_paths.specs.NormalPath.{scalar_text, name_text, step_text, path_text, normal_path, path_limit}

either : (b : Bool) (xs ys : List ℕ) → length xs ≤ 6 → length ys ≤ 6 → length (cond b xs ys) ≤ 6
either true xs ys h g = h
either false xs ys h g = g

scalar_short : (c : ℕ) → length (scalar_text c) ≤ 6
scalar_short c =
    let encoded : length (encode_utf8 c) ≤ 6 = omega (arith, length-encode c, len_utf8_bounds c) in
    either (eqb c 39) _ _ (omega arith) (either (eqb c 92) _ _ (omega arith) (either (eqb c 8) _ _ (omega arith) (either (eqb c 9) _ _ (omega arith)
    (either (eqb c 10) _ _ (omega arith) (either (eqb c 12) _ _ (omega arith) (either (eqb c 13) _ _ (omega arith) (either (nat_lt c 32) _ _ (omega arith) encoded)))))))

name_short : (scalars : List ℕ) → length (name_text scalars) ≤ 6 * length scalars
name_short [] = omega arith
name_short (c ∷ cs) =
    let first = scalar_short c in
    let others = name_short cs in
    let all = length-append (scalar_text c) (name_text cs) in
    omega arith

step_short : (s : Step) → step_size s < 2 ^ 64 → length (step_text s) ≤ 6 * step_size s
step_short (key scalars) h =
    let name = name_short scalars in
    let all = length-append (name_text scalars) (39 ∷ 93 ∷ []) in
    omega arith
step_short (place i) h =
    let digits = length-decimal-le_succ i (omega arith) in
    let all = length-append (decimal i) (93 ∷ []) in
    omega arith

way_short : (way : List Step) → way_size way < 2 ^ 64 → length (flat_map step_text (reverse way)) ≤ 6 * way_size way
way_short [] h = omega arith
way_short (s ∷ ss) h =
    let turned : reverse (s ∷ ss) ≡ reverse ss ++ s ∷ [] = reverse_onto ss s [] in
    let first = step_short s (omega arith) in
    let others = way_short ss (omega arith) in
    let parts = ap length (ap (flat_map step_text) turned ∙ flat_map-append step_text (reverse ss) (s ∷ [])) in
    let sum = length-append (flat_map step_text (reverse ss)) (flat_map step_text (s ∷ [])) in
    let last = length-append (step_text s) [] in
    omega arith

pub path_short : (n : Node) (text : List ℕ) → way_size n.way_up ≤ length text → length text ≤ text_limit → length (normal_path n) ≤ path_limit
path_short n text h l =
    let way = way_short n.way_up (omega arith) in
    omega arith

-- the root's path is the sign of the root alone
pub root_path : (n : Node) → n.way_up ≡ [] → length (normal_path n) ≡ 1
root_path n e = ap (λ way. length (path_text (reverse way))) e

-- what a call that succeeded appended
pub appended : (r : Result (Unit {0}) AllocError) (now before path : List ℕ) → IfOk r (λ _. now ≡ before ++ path) → false ≡ is_err r → length now ≡ length before + length path
appended (Ok x) now before path h e = ap length h ∙ length-append before path
appended (Err x) now before path h e = absurd (cc)
