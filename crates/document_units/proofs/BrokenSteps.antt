-- One unit more: it breaks, its imports are found, its import sets are forgotten.
use Rattle.std.proofs.Common.{◌≡◌, ℕ, zero, suc, ◌+◌, ◌<◌, ◌≤◌, Bool, true, false, cond, List, [], ◌∷◌, ◌++◌, length, take, get_or, slice_get, slice_set, Option, Some, None, refl, sym, ap, ◌∙◌, subst, arith}
use Rattle.std.specs.Prelude.{◌&&◌, ◌==◌, nat_lt}
use Rattle.std.proofs.lemmas.Bool.{eqb-true, eq-eqb}
use Rattle.std.specs.Option.{is_some}
use Rattle.std.proofs.lemmas.Bool.Decides.{nat_tests}
use Rattle.std.proofs.lemmas.List.{take_more, length-take-le}
use Rattle.std.proofs.lemmas.Option.{slice_get_within}
use Rattle.unit_sources.specs.declared.units.ImportSpec.{ImportSpec}
use Rattle.unit_sources.specs.declared.units.UnitSource.{UnitSource}
use Rattle.unit_sources.specs.Named.{imported_places}
use Rattle.read_documents.specs.declared.heads.Head.{Head}
use Rattle.read_documents.specs.declared.heads.WholeFault.TheVariants as fault
use Rattle.read_documents.specs.Changed.{Changes}
use Rattle.read_documents.specs.Places.{SameHead, HeadsStay}
use Rattle.read_documents.specs.Broken.{broken_if, has_standard, BreaksStandard, importing, FindsImports, SameSource, SourcesStay, without_if, Forgets}
use Rattle.read_documents.proofs.ChangedLaws.{changes_itself, changes_as, changes_set}
use Rattle.document_units.proofs.BrokenLaws.{head_itself, head_broken, source_itself, source_without, all_taken}

-- ---- one item more

nowhere : {A : Type 0} (n : ℕ) → slice_get {X = A} [] n ≡ None
nowhere zero = refl
nowhere (suc n) = refl

past : {A : Type 0} (xs : List A) → slice_get xs (length xs) ≡ None
past [] = refl
past (x ∷ xs) = past xs

pushed_here : {A : Type 0} (xs : List A) (y : A) → slice_get (xs ++ y ∷ []) (length xs) ≡ Some y
pushed_here [] y = refl
pushed_here (x ∷ xs) y = pushed_here xs y

pushed_others : {A : Type 0} (xs : List A) (y : A) (n : ℕ) → (n ≡ length xs → ⊥) → slice_get (xs ++ y ∷ []) n ≡ slice_get xs n
pushed_others [] y zero ne = absurd (ne refl)
pushed_others [] y (suc n) ne = nowhere n
pushed_others (x ∷ xs) y zero ne = refl
pushed_others (x ∷ xs) y (suc n) ne = pushed_others xs y n (λ e. ne (ap suc e))

-- ---- standard names

-- the libraries below a number that have a standard name break
abbrev pub IsBelow : ℕ → ℕ → Head → Head → Type 0
IsBelow p n h g = g ≡ broken_if (nat_lt n p && has_standard h.name) fault.DefinedTwice h

pub standard_none : (hs : List Head) → Changes (IsBelow 0) hs hs
standard_none hs = changes_itself (IsBelow 0) (λ n h. ap (λ (b : Bool). broken_if (b && has_standard h.name) fault.DefinedTwice h) (none n)) hs
  where
    none : (n : ℕ) → false ≡ nat_lt n 0
    none n = grind (arith, nat_tests)

pub standard_more : (p : ℕ) (xs bs : List Head) (h g : Head) → Changes (IsBelow p) xs bs → slice_get bs p ≡ Some h → g ≡ broken_if (has_standard h.name) fault.DefinedTwice h → Changes (IsBelow (p + 1)) xs (slice_set bs p g)
standard_more p xs bs h g before at is =
    changes_set (IsBelow p) (IsBelow (p + 1)) xs bs p h g before at
    (λ n a b ne k. k ∙ ap (λ (t : Bool). broken_if (t && has_standard a.name) fault.DefinedTwice a) (others n ne))
    (λ a k.
    let same : h ≡ a = k ∙ ap (λ (t : Bool). broken_if (t && has_standard a.name) fault.DefinedTwice a) not_yet in
    is ∙ ap (λ (x : Head). broken_if (has_standard x.name) fault.DefinedTwice x) same ∙ ap (λ (t : Bool). broken_if (t && has_standard a.name) fault.DefinedTwice a) here)
  where
    not_yet : nat_lt p p ≡ false
    not_yet = grind (arith, nat_tests)

    here : true ≡ nat_lt p (p + 1)
    here = grind (arith, nat_tests)

    others : (n : ℕ) → (n ≡ p → ⊥) → nat_lt n p ≡ nat_lt n (p + 1)
    others n ne = grind (arith, nat_tests)

pub standard_all : (p : ℕ) (xs bs : List Head) → Changes (IsBelow p) xs bs → length bs ≤ p → BreaksStandard xs bs
standard_all p xs bs h le = record {
  size = h.size;
  each = λ n g at.
      let r = h.each n g at in
      let lt = slice_get_within bs n g at in
      (r.0, (r.1.0, r.1.1 ∙ ap (λ (t : Bool). broken_if (t && has_standard r.0.name) fault.DefinedTwice r.0) (low n (omega arith))));
}
  where
    low : (n : ℕ) → n < p → nat_lt n p ≡ true
    low n lt = grind (arith, nat_tests)

pub standard_stay : (xs bs : List Head) → BreaksStandard xs bs → HeadsStay xs bs
standard_stay xs bs h =
    changes_as (λ n a b. b ≡ broken_if (has_standard a.name) fault.DefinedTwice a) (λ n. SameHead) (λ n a b k. subst (SameHead a) (sym k) (head_broken (has_standard a.name) fault.DefinedTwice a)) xs bs h

-- ---- imports

head_importing : (find : List ℕ → Option ℕ) (o : Option UnitSource) (h : Head) → SameHead h (importing find o h)
head_importing find None h = head_itself h
head_importing find (Some s) h = record { document = refl; kind = refl; span = refl; firsts = refl; homes = refl; names = refl; ranges = refl }

pub imports_stay : (find : List ℕ → Option ℕ) (ss : List UnitSource) (xs bs : List Head) → FindsImports find ss xs bs → HeadsStay xs bs
imports_stay find ss xs bs h =
    changes_as (λ n a b. b ≡ importing find (slice_get ss n) a) (λ n. SameHead) (λ n a b k. subst (SameHead a) (sym k) (head_importing find (slice_get ss n) a)) xs bs h

pub imports_none : (find : List ℕ → Option ℕ) (hs : List Head) → FindsImports find [] hs hs
imports_none find hs = changes_itself (λ n h g. g ≡ importing find (slice_get [] n) h) (λ n h. ap (λ (o : Option UnitSource). importing find o h) (sym (nowhere n))) hs

pub imports_more : (find : List ℕ → Option ℕ) (ss : List UnitSource) (s : UnitSource) (p : ℕ) (xs bs : List Head) (h : Head) → FindsImports find ss xs bs → length ss ≡ p → slice_get bs p ≡ Some h →
    FindsImports find (ss ++ s ∷ []) xs (slice_set bs p (record h { imports = imported_places find s.imports }))
imports_more find ss s p xs bs h before size at =
    changes_set (λ n a b. b ≡ importing find (slice_get ss n) a) (λ n a b. b ≡ importing find (slice_get (ss ++ s ∷ []) n) a) xs bs p h (record h { imports = imported_places find s.imports }) before at
    (λ n a b ne k. k ∙ ap (λ (o : Option UnitSource). importing find o a) (sym (pushed_others ss s n (λ e. ne (e ∙ size)))))
    (λ a k.
    ap (importing find (Some s)) (k ∙ ap (λ (o : Option UnitSource). importing find o a) (ap (slice_get ss) (sym size) ∙ past ss))
    ∙ ap (λ (o : Option UnitSource). importing find o a) (sym (ap (slice_get (ss ++ s ∷ [])) (sym size) ∙ pushed_here ss s)))

-- ---- import sets

source_if : (b : Bool) (s : UnitSource) → SameSource s (cond b (record s { imports = [] }) s)
source_if true s = source_without s
source_if false s = source_itself s

source_of : (o : Option Head) (s : UnitSource) → SameSource s (without_if o s)
source_of None s = source_itself s
source_of (Some h) s = source_if (is_some h.fault) s

pub forgets_stay : (hs : List Head) (xs bs : List UnitSource) → Forgets hs xs bs → SourcesStay xs bs
forgets_stay hs xs bs h =
    changes_as (λ n s t. t ≡ without_if (slice_get hs n) s) (λ n. SameSource) (λ n s t k. subst (SameSource s) (sym k) (source_of (slice_get hs n) s)) xs bs h

pub forgets_none : (ss : List UnitSource) → Forgets [] ss ss
forgets_none ss = changes_itself (λ n s t. t ≡ without_if (slice_get [] n) s) (λ n s. ap (λ (o : Option Head). without_if o s) (sym (nowhere n))) ss

pub forgets_kept : (hs : List Head) (h : Head) (xs bs : List UnitSource) → Forgets hs xs bs → is_some h.fault ≡ false → Forgets (hs ++ h ∷ []) xs bs
forgets_kept hs h xs bs before whole = record { size = before.size; each = λ n t at. let r = before.each n t at in (r.0, (r.1.0, r.1.1 ∙ go n r.0 (n == length hs) refl)) }
  where
    go : (n : ℕ) (s : UnitSource) (b : Bool) → (n == length hs) ≡ b → without_if (slice_get hs n) s ≡ without_if (slice_get (hs ++ h ∷ []) n) s
    go n s true e =
        let same : n ≡ length hs = eqb-true n (length hs) e in
        ap (λ (o : Option Head). without_if o s) (ap (slice_get hs) same ∙ past hs) ∙ ap (λ (b : Bool). cond b (record s { imports = [] }) s) (sym whole)
        ∙ ap (λ (o : Option Head). without_if o s) (sym (ap (slice_get (hs ++ h ∷ [])) same ∙ pushed_here hs h))
    go n s false e = ap (λ (o : Option Head). without_if o s) (sym (pushed_others hs h n apart))
      where
        apart : n ≡ length hs → ⊥
        apart same = let no : true ≡ false = sym (eq-eqb n (length hs) same) ∙ e in absurd cc

pub forgets_more : (hs : List Head) (h : Head) (p : ℕ) (xs bs : List UnitSource) (s : UnitSource) → Forgets hs xs bs → length hs ≡ p → slice_get bs p ≡ Some s → is_some h.fault ≡ true →
    Forgets (hs ++ h ∷ []) xs (slice_set bs p (record s { imports = [] }))
forgets_more hs h p xs bs s before size at broken =
    changes_set (λ n s t. t ≡ without_if (slice_get hs n) s) (λ n s t. t ≡ without_if (slice_get (hs ++ h ∷ []) n) s) xs bs p s (record s { imports = [] }) before at
    (λ n a b ne k. k ∙ ap (λ (o : Option Head). without_if o a) (sym (pushed_others hs h n (λ e. ne (e ∙ size)))))
    (λ a k.
    ap (λ (t : UnitSource). record t { imports = [] }) (k ∙ ap (λ (o : Option Head). without_if o a) (ap (slice_get hs) (sym size) ∙ past hs))
    ∙ ap (λ (b : Bool). cond b (record a { imports = [] }) a) (sym broken)
    ∙ ap (λ (o : Option Head). without_if o a) (sym (ap (slice_get (hs ++ h ∷ [])) (sym size) ∙ pushed_here hs h)))

-- ---- as a loop goes

pub imports_step : (find : List ℕ → Option ℕ) (ss : List UnitSource) (s : UnitSource) (i : ℕ) (xs bs : List Head) (h : Head) (ms : List ℕ) → i < length ss → s ≡ get_or ss i s → FindsImports find (take i ss) xs bs → slice_get bs i ≡ Some h →
    ms ≡ imported_places find s.imports → FindsImports find (take (i + 1) ss) xs (slice_set bs i (record h { imports = ms }))
imports_step find ss s i xs bs h ms lt is before at found =
    subst (λ (l : List UnitSource). FindsImports find l xs (slice_set bs i (record h { imports = ms }))) (sym (take_more ss i s lt ∙ ap (λ (t : UnitSource). take i ss ++ t ∷ []) (sym is)))
    (subst (λ (ns : List ℕ). FindsImports find (take i ss ++ s ∷ []) xs (slice_set bs i (record h { imports = ns }))) (sym found) (imports_more find (take i ss) s i xs bs h before (length-take-le i ss (omega arith)) at))

pub imports_end : (find : List ℕ → Option ℕ) (ss : List UnitSource) (i : ℕ) (xs bs : List Head) → length ss ≤ i → FindsImports find (take i ss) xs bs → FindsImports find ss xs bs
imports_end find ss i xs bs le h = subst (λ (l : List UnitSource). FindsImports find l xs bs) (sym (all_taken i ss le)) h

pub forgets_step : (hs : List Head) (h : Head) (i : ℕ) (xs bs : List UnitSource) (s : UnitSource) (ms : List ImportSpec) → i < length hs → h ≡ get_or hs i h → Forgets (take i hs) xs bs → slice_get bs i ≡ Some s → is_some h.fault ≡ true → ms ≡ [] →
    Forgets (take (i + 1) hs) xs (slice_set bs i (record s { imports = ms }))
forgets_step hs h i xs bs s ms lt is before at broken none =
    subst (λ (l : List Head). Forgets l xs (slice_set bs i (record s { imports = ms }))) (sym (take_more hs i h lt ∙ ap (λ (t : Head). take i hs ++ t ∷ []) (sym is)))
    (subst (λ (ns : List ImportSpec). Forgets (take i hs ++ h ∷ []) xs (slice_set bs i (record s { imports = ns }))) (sym none) (forgets_more (take i hs) h i xs bs s before (length-take-le i hs (omega arith)) at broken))

pub forgets_over : (hs : List Head) (h : Head) (i : ℕ) (xs bs : List UnitSource) → i < length hs → h ≡ get_or hs i h → Forgets (take i hs) xs bs → is_some h.fault ≡ false → Forgets (take (i + 1) hs) xs bs
forgets_over hs h i xs bs lt is before whole =
    subst (λ (l : List Head). Forgets l xs bs) (sym (take_more hs i h lt ∙ ap (λ (t : Head). take i hs ++ t ∷ []) (sym is))) (forgets_kept (take i hs) h xs bs before whole)

pub forgets_end : (hs : List Head) (i : ℕ) (xs bs : List UnitSource) → length hs ≤ i → Forgets (take i hs) xs bs → Forgets hs xs bs
forgets_end hs i xs bs le h = subst (λ (l : List Head). Forgets l xs bs) (sym (all_taken i hs le)) h
