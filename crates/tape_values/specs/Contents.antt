-- What the code's own forms of values stand for.
use Rattle.std.specs.Prelude.{◌≡◌, ℕ, ◌<◌, true, false, List, [], ◌∷◌, Option, Some, None, decimal}
use Rattle.decimal_order.specs.Number.{IsNumber}
use Rattle.decimal_order.specs.Limits.{IsWithinLimits}
use Rattle.json_tape.specs.Nodes.{Node}
use Rattle.json_tape.specs.Document.{Doc, count, node_at, following, kind_of, string_meaning}
use Rattle.json_text.specs.declared.tape.Kind.TheVariants as kinds
use Rattle.json_text.specs.declared.tape.NodeId.{NodeId}
use Rattle.tape_values.specs.Comparison.{Value, a_null, a_boolean, a_number, a_text, a_container}
use Rattle.tape_values.specs.Pairs.{has_twin, IsEnd}
use Rattle.tape_values.specs.declared.values.Content.{Content}
use Rattle.tape_values.specs.declared.values.Content.TheVariants as contents
use Rattle.tape_values.specs.declared.letters.Letters.{Letters}
use Rattle.tape_values.specs.declared.letters.Letters.TheVariants.{Spelt, Plain}
use Rattle.tape_values.specs.declared.strings.StringValue.{StringValue}
use Rattle.tape_values.specs.declared.strings.StringValue.TheVariants.{Stored, Written as Asked}
use Rattle.tape_values.specs.declared.digits.Digits.{Digits}
use Rattle.tape_values.specs.declared.digits.Digits.TheVariants.{Written, Whole}

abbrev pub letters_left : Letters → List ℕ
letters_left (Spelt scalars) = scalars
letters_left (Plain scalars) = scalars.now

-- the first is taken off, if there is one
abbrev pub Takes : List ℕ → Option ℕ → List ℕ → Type 0
Takes old None new = (old ≡ []) × (new ≡ [])
Takes old (Some c) new = old ≡ c ∷ new

-- the scalar values of a string
abbrev pub string_scalars : Doc → StringValue → List ℕ
string_scalars d (Stored n) = string_meaning (node_at d n.0).tree
string_scalars d (Asked scalars) = scalars.now

-- a string of the document, or of a query
abbrev pub IsStringValue : Doc → StringValue → Type 0
IsStringValue d (Stored n) = (n.0 < count d) × (kind_of (node_at d n.0).tree ≡ kinds.Text)
IsStringValue d (Asked scalars) = Unit {0}

-- a number text within the limits
pub record IsNumberText (text : List ℕ) : Type 0 where
  pub number : IsNumber text
  pub within : IsWithinLimits text

abbrev pub digits_text : Digits → List ℕ
digits_text (Written text) = text.now
digits_text (Whole n) = decimal n

abbrev pub AreDigits : Digits → Type 0
AreDigits (Written text) = IsNumberText text.now
AreDigits (Whole n) = Unit {0}

-- the value that the content stands for, or Nothing
abbrev pub content_value : Doc → Content → Option Value
content_value d contents.Nothing = None
content_value d contents.Null = Some a_null
content_value d (contents.Bool b) = Some (a_boolean b)
content_value d (contents.Number n) = Some (a_number (digits_text n))
content_value d (contents.Text t) = Some (a_text (string_scalars d t))
content_value d (contents.Array n) = Some (a_container (node_at d n.0).tree)
content_value d (contents.Object n) = Some (a_container (node_at d n.0).tree)

-- numbers are within the limits, and nodes are those of arrays and objects
abbrev pub IsContent : Doc → Content → Type 0
IsContent d (contents.Number n) = AreDigits n
IsContent d (contents.Array n) = (n.0 < count d) × (kind_of (node_at d n.0).tree ≡ kinds.Array)
IsContent d (contents.Object n) = (n.0 < count d) × (kind_of (node_at d n.0).tree ≡ kinds.Object)
IsContent d contents.Nothing = Unit {0}
IsContent d contents.Null = Unit {0}
IsContent d (contents.Bool b) = Unit {0}
IsContent d (contents.Text t) = IsStringValue d t

-- a twin of the member stands at this place of the list, or there is none
pub record IsTwinAt (d : Doc) (m : Node) (ns : List Node) (n : NodeId) : Type 0 where
  pub inside : n.0 < count d
  pub twin : has_twin m ns ≡ true
  pub end : IsEnd ns (following d (Some n))

abbrev pub MatchTwin : Doc → Node → List Node → Option NodeId → Type 0
MatchTwin d m ns None = has_twin m ns ≡ false
MatchTwin d m ns (Some n) = IsTwinAt d m ns n
