-- Parts that are appended one behind the other.
use Rattle.std.proofs.Common.{◌≡◌, ℕ, List, [], ◌++◌, Result, Ok, Err, ap, ◌∙◌, append_assoc}
use Rattle.std.specs.Prelude.{if◌then◌else◌}
use Rattle.std.specs.Result.{OnOk, is_ok}

in_a_row : (out a line line' b n c body o1 o2 o3 o4 : List ℕ) → line ≡ line' → o1 ≡ out ++ (a ++ (line ++ (b ++ []))) → o2 ≡ o1 ++ n → o3 ≡ o2 ++ c → o4 ≡ o3 ++ body →
    o4 ≡ out ++ (a ++ (line' ++ (b ++ (n ++ (c ++ body)))))
in_a_row out a line line' b n c body o1 o2 o3 o4 same h1 h2 h3 h4 =
    let joined : o4 ≡ (((out ++ (a ++ (line' ++ (b ++ [])))) ++ n) ++ c) ++ body =
    h4 ∙ ap (λ (x : List ℕ). x ++ body) (h3 ∙ ap (λ (x : List ℕ). x ++ c) (h2 ∙ ap (λ (x : List ℕ). x ++ n) (h1 ∙ ap (λ (x : List ℕ). out ++ (a ++ (x ++ (b ++ [])))) same))) in
    joined ∙ simp append_assoc

pub in_a_row_ok : {T E : Type 0} (r : Result T E) (out a line line' b n c body o1 o2 o3 o4 : List ℕ) → line ≡ line' → o1 ≡ out ++ (a ++ (line ++ (b ++ []))) → o2 ≡ o1 ++ n → o3 ≡ o2 ++ c →
    o4 ≡ (if is_ok r then o3 ++ body else o3) → OnOk r (o4 ≡ out ++ (a ++ (line' ++ (b ++ (n ++ (c ++ body))))))
in_a_row_ok (Ok x) out a line line' b n c body o1 o2 o3 o4 same h1 h2 h3 h4 = in_a_row out a line line' b n c body o1 o2 o3 o4 same h1 h2 h3 h4
in_a_row_ok (Err e) out a line line' b n c body o1 o2 o3 o4 same h1 h2 h3 h4 = tt
