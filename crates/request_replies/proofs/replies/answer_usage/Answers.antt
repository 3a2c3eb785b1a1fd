use Rattle.std.proofs.Common.{◌≡◌, ◌++◌, ◌∷◌, [], ℕ, List, refl, ap, ◌∙◌, get_or}
use Rattle.std.specs.Int.{w32, to_be_bytes}
use Rattle.tenant_map.specs.Listings.{number}
use Rattle.tenant_map.specs.declared.usage.Usage.{Usage as Counted}
use Rattle.wire_frames.specs.Requests.{Usage}
use Rattle.request_replies.proofs.Steps.{gives_done}
use Rattle.request_replies.proofs.replies.answer_usage.Goals as goal

four : List ℕ → List ℕ
four x = get_or x 0 0 ∷ get_or x 1 0 ∷ get_or x 2 0 ∷ get_or x 3 0 ∷ []

four_bytes : (x : List ℕ) (n : ℕ) → x ≡ to_be_bytes w32 n → four x ≡ number n
unfolding four number
four_bytes x n e = ap four e

three_numbers : (x y z : List ℕ) (u : Counted) → x ≡ to_be_bytes w32 u.collections → y ≡ to_be_bytes w32 u.documents → z ≡ to_be_bytes w32 u.bytes
    → four x ++ four y ++ four z ≡ number u.collections ++ number u.documents ++ number u.bytes
three_numbers x y z u a b c =
    ap (λ p. p ++ four y ++ four z) (four_bytes x u.collections a)
    ∙ ap (λ p. number u.collections ++ p ++ four z) (four_bytes y u.documents b)
    ∙ ap (λ p. number u.collections ++ number u.documents ++ p) (four_bytes z u.bytes c)

pub returns : goal.returns
unfolding four
returns c =
    let u = c.usage-usage.result in
    gives_done c.args.map.now c.args.map.now Usage c.args.number c.args.out.now.items _ _ c.write_small.ensures
    (three_numbers c.to_be_bytes.result c.to_be_bytes-2.result c.to_be_bytes-3.result u c.to_be_bytes.ensures c.to_be_bytes-2.ensures c.to_be_bytes-3.ensures ∙ ap (λ (v : Counted). number v.collections ++ number v.documents ++ number v.bytes) c.usage-usage.ensures.counted, refl)
