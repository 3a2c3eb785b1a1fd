-- The quotas as numbers.
use Rattle.std.proofs.Common.{◌≡◌, ◌≤◌, ◌-◌, ℕ, List, length, Bool, true, false, cond, nat_lt, Some, None, refl, ap, arith}
use Rattle.std.proofs.lemmas.Bool.Decides.{nat_tests}
use Rattle.tenant_map.specs.declared.faults.StoreFault.TheVariants.{TooManyCollections, TooManyDocuments, TooManyBytes}
use Rattle.tenant_map.specs.declared.usage.Usage.{Usage}
use Rattle.tenant_map.specs.Maps.{Documents, Map, IsMap, remove_text, drop_texts, bytes_of, documents_in, bytes_in}
use Rattle.tenant_map.proofs.Ordered.{remove_is_map, drop_is_map}
use Rattle.tenant_map.proofs.Counts.{IsUsageWithout, IsUsageDropped}
use Rattle.tenant_map.specs.Quotas.{IsCounted, usage_of, quota_by, quota_fault}

kept_by : (u : Usage) (a b k : Bool) → nat_lt 16 u.collections ≡ a → nat_lt 1000 u.documents ≡ b → nat_lt 16777216 u.bytes ≡ k → cond a (Some TooManyCollections) (cond b (Some TooManyDocuments) (cond k (Some TooManyBytes) None)) ≡ None → (u.collections ≤ 16) × (u.documents ≤ 1000) × (u.bytes ≤ 16777216)
kept_by u true b k p q r h = absurd (cc)
kept_by u false true k p q r h = absurd (cc)
kept_by u false false true p q r h = absurd (cc)
kept_by u false false false p q r h = (grind (arith, nat_tests), grind (arith, nat_tests), grind (arith, nat_tests))

-- numbers that count a map with no fault
pub counted_by : (m : Map) (u : Usage) → IsMap m → u ≡ usage_of m → quota_by u ≡ None → IsCounted m u.documents u.bytes
unfolding quota_by
counted_by m u o h q =
    let k = kept_by u _ _ _ refl refl refl q in
    record {
      ordered = o;
      documents_is = ap (λ (v : Usage). v.documents) h;
      bytes_is = ap (λ (v : Usage). v.bytes) h;
      few_collections = omega (arith, k.0, ap (λ (v : Usage). v.collections) h);
      few_documents = k.1;
      few_bytes = k.2;
    }

lt_false : (a b : ℕ) → b ≤ a → nat_lt a b ≡ false
lt_false a b h = grind (arith, nat_tests)

within_by : (u : Usage) (a b k : Bool) → a ≡ false → b ≡ false → k ≡ false → cond a (Some TooManyCollections) (cond b (Some TooManyDocuments) (cond k (Some TooManyBytes) None)) ≡ None
within_by u true b k p q r = absurd (cc)
within_by u false true k p q r = absurd (cc)
within_by u false false true p q r = absurd (cc)
within_by u false false false p q r = refl

-- a map that is counted has no fault
pub within_quotas : (m : Map) (documents bytes : ℕ) → IsCounted m documents bytes → quota_fault m ≡ None
unfolding quota_by
within_quotas m documents bytes i =
    let d = i.documents_is in let b = i.bytes_is in
    within_by (usage_of m) _ _ _ (lt_false 16 (length m) i.few_collections) (lt_false 1000 (documents_in m) (omega (arith, i.few_documents))) (lt_false 16777216 (bytes_in m) (omega (arith, i.few_bytes)))

-- what is counted after a text is taken out
pub counted_without : (c d t : List ℕ) (m : Map) (documents bytes : ℕ) (s : List ℕ) → s ≡ t → IsCounted m documents bytes → IsUsageWithout c d t m → IsCounted (remove_text c d m) (documents - 1) (bytes - length s)
counted_without c d t m documents bytes s e i u =
    let l : length s ≡ length t = ap (λ (x : List ℕ). length x) e in
    record {
      ordered = remove_is_map c d m i.ordered;
      documents_is = omega (arith, i.documents_is, u.documents);
      bytes_is = omega (arith, i.bytes_is, u.bytes);
      few_collections = omega (arith, i.few_collections, u.collections);
      few_documents = omega (arith, i.few_documents);
      few_bytes = omega (arith, i.few_bytes);
    }

-- and after a collection is dropped
pub counted_dropped : (c : List ℕ) (ds : Documents) (m : Map) (documents bytes n b : ℕ) → n ≡ length ds → b ≡ bytes_of ds → IsCounted m documents bytes → IsUsageDropped c ds m → IsCounted (drop_texts c m) (documents - n) (bytes - b)
counted_dropped c ds m documents bytes n b e f i u =
    record {
      ordered = drop_is_map c m i.ordered;
      documents_is = omega (arith, i.documents_is, u.documents);
      bytes_is = omega (arith, i.bytes_is, u.bytes);
      few_collections = omega (arith, i.few_collections, u.collections);
      few_documents = omega (arith, i.few_documents);
      few_bytes = omega (arith, i.few_bytes);
    }
