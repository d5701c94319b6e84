-- What the code keeps of documents, with one finding more.
use Rattle.std.proofs.Common.{◌≡◌, ℕ, zero, suc, ◌<◌, ◌⊎◌, inl, inr, true, false, List, [], ◌∷◌, ◌++◌, append-nil, append_assoc, map, length, slice_get, slice_set, get_or, Option, Some, None, is_some, BTreeMap, Ordering, Less, Equal, Greater, nat_cmp, refl, sym, ap, ◌∙◌, subst, arith, ne_eqb}
use Rattle.std.specs.BTreeMap.{insert_entry}
use Rattle.std.specs.Ordering.{ordering_then}
use Rattle.std.specs.Cmp.Lexicographic.{slice_cmp}
use Rattle.std.proofs.lemmas.Grind.{flat_map-append}
use Rattle.scheme_model.specs.Diagnostics.{Diagnostic, sorted, is_empty}
use Rattle.read_documents.specs.declared.findings.At.{At}
use Rattle.read_documents.specs.declared.findings.Finding.{Finding}
use Rattle.read_documents.specs.Findings.{told, told_at, all_told, kept, AreKept, in_document}
use Rattle.read_documents.proofs.SortedLaws.{key_cmp, kept_here, kept_there}

abbrev Map : Type 0
Map = BTreeMap (ℕ × ℕ × List ℕ) ℕ

set_cases : {A : Type 0} (xs : List A) (n : ℕ) (y : A) (k : ℕ) (z : A) → slice_get (slice_set xs n y) k ≡ Some z → ((k ≡ n) × (z ≡ y)) ⊎ ((k ≡ n → ⊥) × (slice_get xs k ≡ Some z))
set_cases [] n y k z e = absurd cc
set_cases (x ∷ xs) zero y zero z e = inl (refl, cc)
set_cases (x ∷ xs) zero y (suc k) z e = inr (λ q. omega arith, e)
set_cases (x ∷ xs) (suc n) y zero z e = inr (λ q. omega arith, e)
set_cases (x ∷ xs) (suc n) y (suc k) z e = go (set_cases xs n y k z e)
  where
    go : ((k ≡ n) × (z ≡ y)) ⊎ ((k ≡ n → ⊥) × (slice_get xs k ≡ Some z)) → ((suc k ≡ suc n) × (z ≡ y)) ⊎ ((suc k ≡ suc n → ⊥) × (slice_get xs k ≡ Some z))
    go (inl q) = inl (ap suc q.0, q.1)
    go (inr q) = inr (λ same. q.0 (omega arith), q.1)

-- a key's order as the map has it
abbrev pub left_cmp : ℕ × ℕ × List ℕ → ℕ × ℕ × List ℕ → Ordering
left_cmp a b = ordering_then (ordering_then (nat_cmp a.0 b.0) (nat_cmp a.1 b.1)) (slice_cmp nat_cmp a.2 b.2)

left : (r s t : Ordering) → ordering_then (ordering_then r s) t ≡ ordering_then r (ordering_then s t)
left Less s t = refl
left Equal s t = refl
left Greater s t = refl

pub kept_one : (ds : List Diagnostic) (all : List Map) (d : Diagnostic) (old new : Map) → slice_get all d.document ≡ Some old → new.entries ≡ insert_entry left_cmp old.entries (kept d).0 d.end →
    AreKept ds all → AreKept (ds ++ d ∷ []) (slice_set all d.document new)
kept_one ds all d old new at e h = λ n m is. go n m (set_cases all d.document new n m is)
  where
    go : (n : ℕ) (m : Map) → ((n ≡ d.document) × (m ≡ new)) ⊎ ((n ≡ d.document → ⊥) × (slice_get all n ≡ Some m)) → m.entries ≡ map kept (in_document n (sorted (ds ++ d ∷ [])))
    go n m (inl q) =
        ap (λ (x : Map). x.entries) q.1 ∙ e ∙ (λ i. insert_entry (λ a b. left (nat_cmp a.0 b.0) (nat_cmp a.1 b.1) (slice_cmp nat_cmp a.2 b.2) i) old.entries (kept d).0 d.end) ∙ ap (λ es. insert_entry key_cmp es (kept d).0 d.end) (h d.document old at)
        ∙ sym (kept_here d.document ds d refl) ∙ ap (λ k. map kept (in_document k (sorted (ds ++ d ∷ [])))) (sym q.0)
    go n m (inr q) = h n m q.1 ∙ sym (kept_there n ds d (ne_eqb d.document n (λ same. q.0 (sym same))))

pub told_push : (fs : List Finding) (f : Finding) → all_told (fs ++ f ∷ []) ≡ all_told fs ++ told f
told_push fs f = flat_map-append told fs (f ∷ []) ∙ ap (λ x. all_told fs ++ x) (append-nil (told f))

-- one more of those gone through
pub kept_more : (ds : List Diagnostic) (fs : List Finding) (f : Finding) (all : List Map) → AreKept ((ds ++ all_told fs) ++ told f) all → AreKept (ds ++ all_told (fs ++ f ∷ [])) all
kept_more ds fs f all h = subst (λ x. AreKept x all) (append_assoc ds (all_told fs) (told f) ∙ ap (λ x. ds ++ x) (sym (told_push fs f))) h

-- a finding that has a place
pub some_told : (fs : List Finding) (i : ℕ) (f : Finding) → i < length fs → f ≡ get_or fs i f → is_some f.at ≡ true → false ≡ is_empty (all_told fs)
some_told [] i f lt is placed = absurd (omega arith)
some_told (g ∷ fs) zero f lt is placed = here g (sym (ap (λ (x : Finding). is_some x.at) is) ∙ placed)
  where
    go : (at : Option At) (code : ℕ) (text : List ℕ) → is_some at ≡ true → false ≡ is_empty (told_at at code text ++ all_told fs)
    go None code text e = cc
    go (Some at) code text e = refl

    here : (g : Finding) → is_some g.at ≡ true → false ≡ is_empty (told g ++ all_told fs)
    here g e = go g.at g.code g.message e
some_told (g ∷ fs) (suc i) f lt is placed = more (told g) (some_told fs i f (omega arith) is placed)
  where
    more : (xs : List Diagnostic) → false ≡ is_empty (all_told fs) → false ≡ is_empty (xs ++ all_told fs)
    more [] e = e
    more (x ∷ xs) e = refl
