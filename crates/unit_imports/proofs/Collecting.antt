-- Units that are put together, one more.
use Rattle.std.proofs.Common.{◌≡◌, ℕ, zero, suc, ◌<◌, ◌⊎◌, inl, inr, List, [], ◌∷◌, ◌++◌, All, length, map, slice_get, slice_set, Option, Some, None, refl, sym, ap, ◌∙◌, subst, arith}
use Rattle.std.proofs.lemmas.Option.{same_Some}
use Rattle.syntax_tree.proofs.Places.{push_cases}
use Rattle.core_tree.specs.Units.{IsBlank, FormsStand}
use Rattle.syntax_tree.specs.declared.trees.Work.{Work}
use Rattle.core_tree.specs.declared.units.UnitForm.{UnitForm}
use Rattle.core_tree.specs.declared.units.Unit as code
use Rattle.unit_sources.specs.declared.units.UnitSource.{UnitSource}
use Rattle.unit_imports.specs.Collected.{Has, IsNothing, HasCome, IsCollected}
use Rattle.unit_imports.specs.declared.expanded.Expanded.{Expanded}
use Rattle.read_documents.specs.declared.heads.Head.{Head}

-- each unit so far by its head and what it came to
abbrev pub AreCollectedSo : List (List ℕ) → List Head → List UnitSource → List (Option Expanded) → List code.Unit → Type 0
AreCollectedSo uris hs ss es cs = (n : ℕ) (h : Head) (s : UnitSource) (o : Option Expanded) (c : code.Unit) → slice_get hs n ≡ Some h → slice_get ss n ≡ Some s → slice_get es n ≡ Some o → slice_get cs n ≡ Some c → IsCollected uris h s o c

pub none_collected : (uris : List (List ℕ)) (hs : List Head) (ss : List UnitSource) (es : List (Option Expanded)) → AreCollectedSo uris hs ss es []
none_collected uris hs ss es n h s o c a b d at = absurd cc

pub one_collected : (uris : List (List ℕ)) (hs : List Head) (ss : List UnitSource) (es : List (Option Expanded)) (cs new : List code.Unit) (c : code.Unit) (n : ℕ) (h : Head) (s : UnitSource) (o : Option Expanded) → new ≡ cs ++ c ∷ [] → length cs ≡ n →
    slice_get hs n ≡ Some h → slice_get ss n ≡ Some s → slice_get es n ≡ Some o → IsCollected uris h s o c → AreCollectedSo uris hs ss es cs → AreCollectedSo uris hs ss es new
one_collected uris hs ss es cs new c n h s o pushed long head source come here are = subst (λ (xs : List code.Unit). AreCollectedSo uris hs ss es xs) (sym pushed) (λ m g t p d a b e at. go m g t p d a b e (push_cases cs c m d at))
  where
    go : (m : ℕ) (g : Head) (t : UnitSource) (p : Option Expanded) (d : code.Unit) → slice_get hs m ≡ Some g → slice_get ss m ≡ Some t → slice_get es m ≡ Some p → (slice_get cs m ≡ Some d) ⊎ ((m ≡ length cs) × (d ≡ c)) → IsCollected uris g t p d
    go m g t p d a b e (inl k) = are m g t p d a b e k
    go m g t p d a b e (inr k) =
        let place : m ≡ n = k.0 ∙ long in
        let one : h ≡ g = same_Some h g (sym head ∙ (ap (slice_get hs) (sym place) ∙ a)) in
        let two : s ≡ t = same_Some s t (sym source ∙ (ap (slice_get ss) (sym place) ∙ b)) in
        let three : o ≡ p = same_Some o p (sym come ∙ (ap (slice_get es) (sym place) ∙ e)) in
        subst (λ (x : Head). IsCollected uris x t p d) one
        (subst (λ (x : UnitSource). IsCollected uris h x p d) two (subst (λ (x : Option Expanded). IsCollected uris h s x d) three (subst (λ (x : code.Unit). IsCollected uris h s o x) (sym k.1) here)))

-- what came of it, by the cases
pub has_come : (count : ℕ) (o : Option Expanded) (e : Expanded) (c : code.Unit) → ((x : Expanded) → o ≡ Some x → e ≡ x) → (o ≡ None → IsNothing count e) → Has c e → HasCome count o c
has_come count None e c some none has =
    let n = none refl in
    record {
      blank = subst (λ (fs : List UnitForm). All IsBlank fs) (sym has.forms) n.blank;
      as_many = ap (λ (fs : List UnitForm). length fs) has.forms ∙ n.as_many;
      names = has.names ∙ n.names;
      seconds = has.seconds ∙ n.seconds;
      entries = has.entries ∙ n.entries;
      exports = has.exports ∙ n.exports;
    }
has_come count (Some x) e c some none has = subst (Has c) (some x refl) has

-- another place of a list that is written to stays
pub set_other : {A : Type 0} (xs : List A) (p : ℕ) (y : A) (k : ℕ) → p < k → slice_get (slice_set xs p y) k ≡ slice_get xs k
set_other [] p y k lt = refl
set_other (x ∷ xs) zero y zero lt = absurd (omega arith)
set_other (x ∷ xs) zero y (suc k) lt = refl
set_other (x ∷ xs) (suc p) y zero lt = absurd (omega arith)
set_other (x ∷ xs) (suc p) y (suc k) lt = set_other xs p y k (omega arith)

-- blank forms stand for none
pub blank_stand : (work : Work) (unit form : ℕ) (cs : List UnitForm) → All IsBlank cs → FormsStand work unit form cs []
blank_stand work unit form [] h = tt
blank_stand work unit form (c ∷ cs) h = (h 0 c (omega arith), blank_stand work unit (suc form) cs (λ k d lt. h (suc k) d (omega arith)))

-- what stands at a place of a list that is mapped
pub mapped_at : {A B : Type 0} (f : A → B) (xs : List A) (n : ℕ) (x : A) → slice_get xs n ≡ Some x → slice_get (map f xs) n ≡ Some (f x)
mapped_at f [] n x at = absurd cc
mapped_at f (y ∷ xs) zero x at = ap (λ z. Some (f z)) (same_Some y x at)
mapped_at f (y ∷ xs) (suc n) x at = mapped_at f xs n x at
