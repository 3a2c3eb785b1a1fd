use Rattle.std.proofs.Common.{◌≡◌, ◌++◌, ℕ, List, sym, ap, ◌∙◌, append_assoc}
use Rattle.tenant_map.specs.Listings.{number}
use Rattle.tenant_map.proofs.Seen.{length-seen}
use Rattle.tenant_map.proofs.listing.write_listing.Goals as goal

joined : (new head room old bytes names : List ℕ) (n m : ℕ) → new ≡ head ++ names → head ≡ room ++ bytes → room ≡ old → bytes ≡ number n → n ≡ m → new ≡ old ++ (number m ++ names)
joined new head room old bytes names n m p q r s t =
    p ∙ ap (λ x. x ++ names) (q ∙ ap (λ x. x ++ bytes) r ∙ ap (λ x. old ++ x) (s ∙ ap number t)) ∙ append_assoc old (number m) names

pub returns-clause-written : goal.returns-clause-written
returns-clause-written c =
    joined _ _ _ _ _ _ _ _ c.in_ok-append_names.ensures.written c.in_ok-extend_from_slice.ensures.items c.reserve.ensures.items c.big_endian.ensures
    (c.len.ensures.len ∙ sym (length-seen (λ k. k.items) (λ d. d.text) c.args.documents.now.entries))
