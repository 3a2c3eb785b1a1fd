-- Reading literals and operators from left to right.
use Rattle.std.specs.Prelude.{ℕ, [], ◌∷◌, codes, true, false, ◌||◌, ◌==◌, if◌then◌else◌, Option, Some, None, bytes_eq}
use Rattle.path_grammar.specs.Tree as tree
use Rattle.path_grammar.specs.Characters.{Text, is_lower, is_function}
use Rattle.path_grammar.specs.Reading.{Reader, ◌>>=◌, front_run, after_run, behind}
use Rattle.path_grammar.specs.ReadingNumbers.{number_end, before}
use Rattle.path_grammar.specs.ReadingStrings.{string_at}
use Rattle.path_grammar.specs.declared.ast.Op.{Op}
use Rattle.path_grammar.specs.declared.ast.Op.TheVariants as ops

-- the literal that a whole word spells
unfoldable pub keyword_of : Text → Option tree.Literal
keyword_of w =
    if bytes_eq w (codes "true") then Some (tree.boolean true)
    else if bytes_eq w (codes "false") then Some (tree.boolean false)
    else if bytes_eq w (codes "null") then Some tree.null
    else None

unfoldable pub keyword_at : Reader tree.Literal
keyword_at t = do
  l ← keyword_of (front_run is_function t)
  Some (l, after_run is_function t)

unfoldable pub number_at : Reader tree.Literal
number_at t = do
  rest ← number_end t
  Some (tree.number (before t rest), rest)

unfoldable pub text_at : Reader tree.Literal
text_at t = do
  x ← string_at t
  Some (tree.text x.0, x.1)

unfoldable pub literal_at : Reader tree.Literal
literal_at [] = None
literal_at (c ∷ t) =
    if c == 0x22 || c == 0x27 then text_at (c ∷ t)
    else if is_lower c then keyword_at (c ∷ t)
    else number_at (c ∷ t)

-- the operator of a character, by whether `=` stands behind it
unfoldable pub operator_from : ℕ → Text → Option Text → Option (Op × Text)
operator_from c t (Some u) =
    if c == 0x3D then Some (ops.Eq, u)
    else if c == 0x21 then Some (ops.Ne, u)
    else if c == 0x3C then Some (ops.Le, u)
    else if c == 0x3E then Some (ops.Ge, u)
    else None
operator_from c t None = if c == 0x3C then Some (ops.Lt, t) else if c == 0x3E then Some (ops.Gt, t) else None

unfoldable pub operator_at : Reader Op
operator_at [] = None
operator_at (c ∷ t) = operator_from c t (behind 0x3D t)
