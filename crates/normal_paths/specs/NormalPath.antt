-- The normalized path of a node (RFC 9535, section 2.7), in UTF-8.
use Rattle.std.specs.Prelude.{ℕ, ◌+◌, ◌*◌, ◌/◌, ◌%◌, ◌++◌, List, [], ◌∷◌, eqb, cond, nat_lt, decimal, flat_map}
use Rattle.std.specs.Char.{encode_utf8}
use Rattle.json_tape.specs.Nodes.{Node, Step, key, place, steps}
use Rattle.json_tape.specs.Verdict.{text_limit}

-- a hexadecimal digit, in lower case
abbrev pub hex_digit : ℕ → ℕ
hex_digit d = cond (nat_lt d 10) (48 + d) (87 + d)

-- a scalar value of a name: `'` and `\`, the controls with a letter, the other controls, and all else
abbrev pub scalar_text : ℕ → List ℕ
scalar_text c =
    cond (eqb c 39) (92 ∷ 39 ∷ [])
    (cond (eqb c 92) (92 ∷ 92 ∷ [])
    (cond (eqb c 8) (92 ∷ 98 ∷ [])
    (cond (eqb c 9) (92 ∷ 116 ∷ [])
    (cond (eqb c 10) (92 ∷ 110 ∷ [])
    (cond (eqb c 12) (92 ∷ 102 ∷ [])
    (cond (eqb c 13) (92 ∷ 114 ∷ [])
    (cond (nat_lt c 32) (92 ∷ 117 ∷ 48 ∷ 48 ∷ hex_digit (c / 16) ∷ hex_digit (c % 16) ∷ [])
    (encode_utf8 c))))))))

abbrev pub name_text : List ℕ → List ℕ
name_text scalars = flat_map scalar_text scalars

-- ['name'] or [index]
abbrev pub step_text : Step → List ℕ
step_text (key scalars) = 91 ∷ 39 ∷ (name_text scalars ++ 39 ∷ 93 ∷ [])
step_text (place i) = 91 ∷ (decimal i ++ 93 ∷ [])

-- $ and the steps from the root
abbrev pub path_text : List Step → List ℕ
path_text ss = 36 ∷ flat_map step_text ss

abbrev pub normal_path : Node → List ℕ
normal_path n = path_text (steps n)

-- The most bytes of the path of a node: the steps to it take no more bytes than the text has, and a path has at most six for each of these.
abbrev pub path_limit : ℕ
path_limit = 6 * text_limit + 1
