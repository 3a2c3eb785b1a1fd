-- Each text has a verdict, and each query's text.
use Rattle.std.proofs.Common.{◌≡◌, ◌≢◌, ◌⊎◌, inl, inr, ℕ, zero, suc, ◌+◌, ◌<◌, ◌≤◌, List, length, Bool, true, false, refl, sym, ap, ◌∙◌, subst, arith}
use Rattle.std.proofs.lemmas.Bool.{cases_lt}
use Rattle.json_tape.specs.Verdict.{Applies, IsRefused, IsFaultless, rank}
use Rattle.json_tape.specs.Answer.{NoneApplies}
use Rattle.json_text.specs.declared.tape.TextFault.{TextFault}
use Rattle.json_text.specs.declared.tape.TextFault.TheVariants.{TooLong, NotUtf8, NotJson, TooDeep, NumberLimit, LoneSurrogate, DuplicateName, Memory}
use Rattle.path_grammar.specs.Tree.{Segments}
use Rattle.path_grammar.specs.Grammar.{IsQuery}
use Rattle.path_types.specs.Validity.{is_valid}
use Rattle.path_types.specs.Verdict.{IsValidQuery, RefusesQueryText, query_limit}
use Rattle.path_types.specs.declared.query_text.QueryFault.{QueryFault}
use Rattle.path_types.specs.declared.query_text.QueryFault.TheVariants as query
use Rattle.tenant_map.specs.Answers.{IsDocument}
use Rattle.answer_law.specs.Law.{IsThere}
use Rattle.answer_law.proofs.There.{here, then', either_way}

-- ---- texts

-- the refusal of a rank
fault_at : ℕ → TextFault
fault_at zero = TooLong
fault_at (suc zero) = NotUtf8
fault_at (suc (suc zero)) = NotJson
fault_at (suc (suc (suc zero))) = TooDeep
fault_at (suc (suc (suc (suc zero)))) = NumberLimit
fault_at (suc (suc (suc (suc (suc zero))))) = LoneSurrogate
fault_at (suc (suc (suc (suc (suc (suc zero)))))) = DuplicateName
fault_at (suc (suc (suc (suc (suc (suc (suc n))))))) = Memory

at_rank : (f : TextFault) → fault_at (rank f) ≡ f
unfolding fault_at
at_rank TooLong = refl
at_rank NotUtf8 = refl
at_rank NotJson = refl
at_rank TooDeep = refl
at_rank NumberLimit = refl
at_rank LoneSurrogate = refl
at_rank DuplicateName = refl
at_rank Memory = refl

rank_at : (n : ℕ) → n < 7 → rank (fault_at n) ≡ n
unfolding fault_at
rank_at zero l = refl
rank_at (suc zero) l = refl
rank_at (suc (suc zero)) l = refl
rank_at (suc (suc (suc zero))) l = refl
rank_at (suc (suc (suc (suc zero)))) l = refl
rank_at (suc (suc (suc (suc (suc zero))))) l = refl
rank_at (suc (suc (suc (suc (suc (suc zero)))))) l = refl
rank_at (suc (suc (suc (suc (suc (suc (suc n))))))) l = absurd (omega (arith, l))

-- the text is refused, not for want of memory
pub record HasRefusal (text : List ℕ) : Type 0 where
  pub fault : TextFault
  pub named : fault ≢ Memory
  pub refused : IsRefused text fault

next_none : (text : List ℕ) (n : ℕ) → NoneApplies text n → (Applies text (fault_at n) → ⊥) → NoneApplies text (suc n)
next_none text n none not f lower applies = by (cases_lt (rank f) n)
  where
    by : (rank f < n) ⊎ (n ≤ rank f) → ⊥
    by (inl l) = none f l applies
    by (inr l) =
        let same : rank f ≡ n = omega (arith, l, lower) in
        not (subst (Applies text) (sym (at_rank f) ∙ ap fault_at same) applies)

refusal_at : (text : List ℕ) (n : ℕ) → n < 7 → NoneApplies text n → Applies text (fault_at n) → HasRefusal text
refusal_at text n few none applies = record {
  fault = fault_at n;
  named = λ e. let same : n ≡ 7 = sym (rank_at n few) ∙ ap rank e in absurd (omega (arith, same, few));
  refused = (applies, λ g lower. none g (subst (λ k. rank g < k) (rank_at n few) lower));
}

judged : (text : List ℕ) (left n : ℕ) → n + left ≡ 7 → NoneApplies text n → IsThere (HasRefusal text ⊎ NoneApplies text 7)
judged text zero n e none = let all : n ≡ 7 = omega (arith, e) in here (inr (subst (NoneApplies text) all none))
judged text (suc left) n e none = then' (either_way (Applies text (fault_at n))) (by (λ k. judged text left (suc n) (omega (arith, e)) k))
  where
    by : (NoneApplies text (suc n) → IsThere (HasRefusal text ⊎ NoneApplies text 7)) → Applies text (fault_at n) ⊎ (Applies text (fault_at n) → ⊥) → IsThere (HasRefusal text ⊎ NoneApplies text 7)
    by again (inl applies) = here (inl (refusal_at text n (omega (arith, e)) none applies))
    by again (inr not) = again (next_none text n none not)

faultless : (text : List ℕ) → NoneApplies text 7 → IsFaultless text
faultless text none TooLong = none TooLong (omega arith)
faultless text none NotUtf8 = none NotUtf8 (omega arith)
faultless text none NotJson = none NotJson (omega arith)
faultless text none TooDeep = none TooDeep (omega arith)
faultless text none NumberLimit = none NumberLimit (omega arith)
faultless text none LoneSurrogate = none LoneSurrogate (omega arith)
faultless text none DuplicateName = none DuplicateName (omega arith)
faultless text none Memory = λ applies. applies

pub text_judged : (text : List ℕ) → IsThere (IsDocument text ⊎ HasRefusal text)
text_judged text = then' (judged text 7 0 (omega arith) (λ f lower _. absurd (omega (arith, lower)))) by
  where
    by : HasRefusal text ⊎ NoneApplies text 7 → IsThere (IsDocument text ⊎ HasRefusal text)
    by (inl r) = here (inr r)
    by (inr none) = λ nothing. none NotJson (omega arith) (λ t is. nothing (inl (t, (is, faultless text none))))

-- ---- queries

pub record HasQueryRefusal (text : List ℕ) : Type 0 where
  pub fault : QueryFault
  pub named : fault ≢ query.Memory
  pub refused : RefusesQueryText text fault

pub record HasQuery (text : List ℕ) : Type 0 where
  pub tree : Segments
  pub valid : IsValidQuery text tree

not_memory : (query.QueryTooLong ≢ query.Memory) × (query.NotWellFormed ≢ query.Memory) × (query.NotValid ≢ query.Memory)
not_memory = (λ e. cc, λ e. cc, λ e. cc)

pub query_judged : (text : List ℕ) → IsThere (HasQuery text ⊎ HasQueryRefusal text)
query_judged text = by (cases_lt query_limit (length text))
  where
    validity : (q : Segments) → length text ≤ query_limit → IsQuery text q → (b : Bool) → is_valid q ≡ b → HasQuery text ⊎ HasQueryRefusal text
    validity q short is true e = inl (record { tree = q; valid = record { short = short; spelled = is; valid = e } })
    validity q short is false e = inr (record { fault = query.NotValid; named = not_memory.2; refused = (short, (q, is, e)) })

    grammar : length text ≤ query_limit → ((q : Segments) × IsQuery text q) ⊎ (((q : Segments) × IsQuery text q) → ⊥) → IsThere (HasQuery text ⊎ HasQueryRefusal text)
    grammar short (inl (q, is)) = here (validity q short is (is_valid q) refl)
    grammar short (inr none) = here (inr (record { fault = query.NotWellFormed; named = not_memory.1; refused = (short, λ q is. none (q, is)) }))

    by : (query_limit < length text) ⊎ (length text ≤ query_limit) → IsThere (HasQuery text ⊎ HasQueryRefusal text)
    by (inl long) = here (inr (record { fault = query.QueryTooLong; named = not_memory.0; refused = long }))
    by (inr short) = then' (either_way ((q : Segments) × IsQuery text q)) (grammar short)
