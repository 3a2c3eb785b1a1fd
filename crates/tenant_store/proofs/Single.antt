-- Each query has one answer.
use Rattle.std.proofs.Common.{◌≡◌, ◌≢◌, ◌++◌, ℕ, List, [], ◌∷◌, Option, Some, None, refl, sym, ap, ◌∙◌}
use Rattle.json_tape.specs.Tree.{Tree}
use Rattle.json_tape.specs.Grammar.{IsText}
use Rattle.tenant_map.specs.declared.faults.StoreFault.{StoreFault}
use Rattle.tenant_map.specs.declared.faults.StoreFault.TheVariants.{TooLong, NotUtf8, NotJson, TooDeep, NumberLimit, LoneSurrogate, DuplicateName, TooManyCollections, TooManyDocuments, TooManyBytes, NotFound, ReplyTooLarge, NoMemory, Costly, Exists}
use Rattle.tenant_map.specs.Maps.{Documents}
use Rattle.tenant_store.specs.Payloads.{Text, AreTextsOf, payload, query_fault, IsFault}
use Rattle.tenant_store.specs.Laws.{QueriesAnswerOnce}

abbrev pub OneTree : Type 0
OneTree = (text : List ℕ) (s t : Tree) → IsText text s → IsText text t → s ≡ t

pub texts_once : OneTree → (ds : Documents) (ts us : List Text) → AreTextsOf ds ts → AreTextsOf ds us → ts ≡ us
texts_once one [] [] [] a b = refl
texts_once one [] [] (u ∷ us) a b = absurd b
texts_once one [] (t ∷ ts) us a b = absurd a
texts_once one (d ∷ ds) [] us a b = absurd a
texts_once one (d ∷ ds) (t ∷ ts) [] a b = absurd b
texts_once one (d ∷ ds) (t ∷ ts) (u ∷ us) a b =
    let name : t.name ≡ u.name = sym a.0.0 ∙ b.0.0 in
    let tree : t.tree ≡ u.tree = one d.1 t.tree u.tree a.0.1.0 b.0.1.0 in
    let same : t ≡ u = λ i. record { name = name i; tree = tree i } in
    ap (λ x. x ∷ ts) same ∙ ap (λ xs. u ∷ xs) (texts_once one ds ts us a.1 b.1)

fault_is : (o : Option StoreFault) (f : StoreFault) → f ≢ NoMemory → IsFault o f → o ≡ Some f
fault_is o TooLong n h = h
fault_is o NotUtf8 n h = h
fault_is o NotJson n h = h
fault_is o TooDeep n h = h
fault_is o NumberLimit n h = h
fault_is o LoneSurrogate n h = h
fault_is o DuplicateName n h = h
fault_is o TooManyCollections n h = h
fault_is o TooManyDocuments n h = h
fault_is o TooManyBytes n h = h
fault_is o NotFound n h = h
fault_is o ReplyTooLarge n h = h
fault_is o NoMemory n h = absurd (n refl)
fault_is o Costly n h = h
fault_is o Exists n h = h

pub queries_answer_once : OneTree → QueriesAnswerOnce
queries_answer_once one =
    record {
      appended = λ q ds old new other x y. x.appended ∙ ap (λ ts. old ++ payload q ts) (texts_once one ds x.texts y.texts x.read y.read) ∙ sym y.appended;
      fault = λ q ds f g n k x y.
          let e : Some f ≡ Some g = sym (fault_is _ f n x.first) ∙ ap (λ ts. query_fault q 0 4 ts) (texts_once one ds x.texts y.texts x.read y.read) ∙ fault_is _ g k y.first in
          cc;
      either = λ q ds old new f n x y.
          let e : None ≡ Some f = sym x.no_fault ∙ ap (λ ts. query_fault q 0 4 ts) (texts_once one ds x.texts y.texts x.read y.read) ∙ fault_is _ f n y.first in
          absurd cc;
    }
